use Rattle.std.proofs.Common.{◌≡◌, ℕ, length}
use Rattle.acsl_encode.specs.Told as told
use Rattle.acsl_expand.specs.Expansion.{view_all}
use Rattle.logic_trees.specs.Asking.{asks, told_in}
use Rattle.logic_calls.proofs.reading.first_reads.Given as goal

-- what is told of the first ones
abbrev pub invariant-loop-at : goal.invariant-loop-at
invariant-loop-at l = record {
  many : length l.made.items ≡ l.at;
  told : (f : ℕ) → told_in l.made.items f ≡ told.reads_first (asks l.globals l.asked) (view_all l.definitions) l.at f;
}
