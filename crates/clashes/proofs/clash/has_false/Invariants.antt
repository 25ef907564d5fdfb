use Rattle.std.proofs.Common.{◌≡◌, ℕ, ◌<◌, get_or}
use Rattle.qed_terms.specs.Tree.{false_tree}
use Rattle.term_forms.specs.Forms.{tree_of}
use Rattle.clashes.proofs.clash.has_false.Given as goal

abbrev pub invariant-loop-literal : goal.invariant-loop-literal
invariant-loop-literal l = (i : ℕ) → i < l.literal-index → tree_of l.table (get_or l.literals i 0) ≡ false_tree → ⊥
