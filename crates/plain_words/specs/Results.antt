-- What functions of programs over plain integers give (C11 6.9.1p3).
use Rattle.std.specs.Prelude.{Option, Some, None}
use Rattle.wp_base.specs.declared.kinds.CellKind.{CellKind}
use Rattle.wp_base.specs.declared.kinds.CellKind.TheVariants as cell

-- a number, or nothing
abbrev pub ResultIsNumber : Option CellKind → Type 0
ResultIsNumber None = Unit {0}
ResultIsNumber (Some (cell.Of k)) = Unit {0}
ResultIsNumber (Some cell.Ptr) = ⊥
