-- What functions have left so far, in memory.
use Rattle.std.specs.Prelude.{map}
use Rattle.typed_unit.specs.View.{view_body, view_part}
use Rattle.c_functions.specs.declared.functions.Functions.{Functions as Code}
use Rattle.c_functions.specs.Functions.{Functions}

abbrev pub view_functions : Code → Functions
view_functions x = record { bodies = map view_body x.bodies; parts = map view_part x.parts }
