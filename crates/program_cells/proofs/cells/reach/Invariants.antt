use Rattle.std.proofs.Common.{◌≡◌, ℕ, false, slice_index_or}
use Rattle.program_cells.proofs.cells.reach.Given as goal

abbrev pub invariant-loop-place : goal.invariant-loop-place
invariant-loop-place l = (n : ℕ) → slice_index_or l.flags.items n false ≡ slice_index_or l.initial.flags.items n false
