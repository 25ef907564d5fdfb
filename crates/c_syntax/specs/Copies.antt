-- A copy, unless memory was wanting.
use Rattle.std.specs.Prelude.{◌≡◌, Result, IfOk}
use Rattle.wp_base.specs.declared.memory.NoMemory.{NoMemory}

abbrev pub IsCopy : {A : Type 0} → Result A NoMemory → A → Type 0
IsCopy made x = IfOk made (λ copy. copy ≡ x)
