-- What a literal says: that a term is at most 0, or that it is 0.
use Rattle.std.specs.Prelude.{◌≡◌, ℕ, ◌<◌, Bool, true, false, pos, Option, Some, None}
use Rattle.qed_terms.specs.declared.head.Head.{Head}
use Rattle.qed_terms.specs.declared.head.Head.TheVariants as h
use Rattle.qed_terms.specs.declared.head.FormOp.{FormOp}
use Rattle.qed_terms.specs.declared.head.FormOp.TheVariants as form
use Rattle.qed_terms.specs.Tree.{Tree, num, equal, at_most}
use Rattle.qed_linear.specs.Linear.{Lin}
use Rattle.branch_links.specs.BranchLinks.{Says}
use Rattle.linear_prover.specs.declared.literals.Said.{Said}

-- a sum is 0, or at most 0
abbrev pub related : (is_equality : Bool) → Tree → Tree
related true s = equal s (num (pos 0))
related false s = at_most s (num (pos 0))

abbrev pub relation_op : FormOp → Option Bool
relation_op form.Equal = Some true
relation_op form.AtMost = Some false
relation_op o = None

abbrev pub relation_head : Head → Option Bool
relation_head (h.Form o) = relation_op o
relation_head head = None

-- what a literal is found to say
abbrev pub IsRelation : (count : ℕ) → (ℕ → Tree) → Tree → Option Said → Type 0
IsRelation count tree t None = (f : Lin) → Says t f → ⊥
IsRelation count tree t (Some r) = (r.sum < count) × (t ≡ related (r.is_equality) (tree (r.sum)))
