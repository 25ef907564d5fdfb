-- What stands of a file so far, in memory.
use Rattle.typed_unit.specs.View.{view_inits}
use Rattle.c_functions.specs.View.{view_functions}
use Rattle.c_typing.specs.declared.typing.Unit.{Unit as Code}
use Rattle.c_typing.specs.declared.facts.Facts.{Facts as CodeFacts}
use Rattle.c_typing.specs.Typing.{Unit, Facts}

abbrev pub view_unit : Code → Unit
view_unit x = record { context = x.context; inits = view_inits x.inits; functions = view_functions x.functions }

abbrev pub view_facts : CodeFacts → Facts
view_facts x = record { taken = x.taken; bodied = x.bodied }
