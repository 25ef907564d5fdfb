-- A store to a cell of any kind.
use Rattle.wp_base.specs.declared.kinds.CellKind.TheVariants as cell
use Rattle.memory_statements.specs.StoreLaws.{CellsAreStored}
use Rattle.memory_statements.proofs.Integers.{integers_are_stored}
use Rattle.memory_statements.proofs.Pointers.{pointers_are_stored}

pub cells_are_stored : CellsAreStored
cells_are_stored m p s cells fr f c st stands (cell.Of k) has olds a u b o v leads gives is content =
    integers_are_stored m p s cells fr f c st stands olds a u b o v leads k has gives is content
cells_are_stored m p s cells fr f c st stands cell.Ptr has olds a u b o v leads gives is content =
    pointers_are_stored m p s cells fr f c st stands olds a u b o v leads has gives is content
