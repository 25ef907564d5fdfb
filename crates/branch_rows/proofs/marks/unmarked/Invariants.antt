use Rattle.std.proofs.Common.{◌≡◌, ℕ, false, length}
use Rattle.branch_rows.specs.Marks.{mark_at}
use Rattle.branch_rows.proofs.marks.unmarked.Given as goal

abbrev pub invariant-loop-i : goal.invariant-loop-i
invariant-loop-i l = record {
  all : length l.marks.items ≡ l._i;
  none : (k : ℕ) → mark_at l.marks.items k ≡ false;
}
