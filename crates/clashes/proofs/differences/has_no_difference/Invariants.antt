use Rattle.std.proofs.Common.{ℕ, ◌<◌, map, get_or}
use Rattle.term_forms.specs.Forms.{tree_of}
use Rattle.clashes.specs.Kinds.{IsNoDifference}
use Rattle.clashes.proofs.differences.has_no_difference.Given as goal

abbrev pub invariant-loop-literal : goal.invariant-loop-literal
invariant-loop-literal l = (i : ℕ) → i < l.literal-index → IsNoDifference (map (tree_of l.table) l.literals) (tree_of l.table (get_or l.literals i 0)) → ⊥
