-- The normal form by passes: what each head makes of kids that are in normal form.
use Rattle.std.specs.Prelude.{Bool, true, false, not, ◌&&◌, ◌||◌, if◌then◌else◌, pos, List, [], ◌∷◌, Option, Some, None, ℕ}
use Rattle.qed_terms.specs.declared.head.Head.{Head}
use Rattle.qed_terms.specs.declared.head.Head.TheVariants as h
use Rattle.qed_terms.specs.declared.head.TermOp.{TermOp}
use Rattle.qed_terms.specs.declared.head.TermOp.TheVariants as op
use Rattle.qed_terms.specs.declared.head.FormOp.{FormOp}
use Rattle.qed_terms.specs.declared.head.FormOp.TheVariants as rel
use Rattle.qed_terms.specs.Tree.{Tree, node, Trees, stop, more, list_of, head_of, two, one, three, num, true_tree, at_most, equal, ite, not_of}
use Rattle.qed_terms.specs.Setting.{Logic, Setting}
use Rattle.qed_calls.specs.Calls.{base_of}
use Rattle.qed_linear.specs.Linear.{Lin, of_lin, to_lin, checked, subtract, unwrap_or}
use Rattle.qed_numbers.specs.Numbers.{first_some, number_at, long_rule, number_step}
use Rattle.qed_substitution.specs.Substitution.{quantifier}
use Rattle.qed_memories.specs.Passes.{memory_pass}
use Rattle.qed_rules.specs.Rules.{is_formula, chosen_arm, truth_constant, at_most_tree, equal_tree, nots, negated_relation, is_empty_between, single_range_rule, is_same_memory, junction, is_truth_constant, has, is_opposed, flatten, drop_units, drop_repeats}

-- the junction of these; one stands alone, none is the unit
abbrev pub unwrap_single : Bool → List Tree → Tree
unwrap_single b [] = truth_constant b
unwrap_single b (t ∷ []) = if is_formula (head_of t) then t else junction b (t ∷ [])
unwrap_single b (t ∷ u ∷ ts) = junction b (t ∷ u ∷ ts)

-- the absorbing constant, where an operand and its negation stand together
abbrev pub check_opposites : Bool → List Tree → Tree
check_opposites b ts = if has (is_opposed ts) ts then truth_constant (not b) else unwrap_single b ts

-- the absorbing constant, where it is an operand; else without units and repeats
abbrev pub absorb_constants : Bool → List Tree → Tree
absorb_constants b ts = if has (is_truth_constant (not b)) ts then truth_constant (not b) else check_opposites b (drop_repeats [] (drop_units b ts))

-- the normal form of a junction of these
abbrev pub normal_junction : Bool → List Tree → Tree
normal_junction b ts = absorb_constants b (flatten b ts)

abbrev mutual
  -- Whether the formula has no quantifier but within its terms. Then its negation meets no rule on quantifiers.
  pub is_unquantified : Tree → Bool
  is_unquantified (node (h.Forall x) ts) = false
  is_unquantified (node (h.Exists x) ts) = false
  is_unquantified (node h.And ts) = are_unquantified ts
  is_unquantified (node h.Or ts) = are_unquantified ts
  is_unquantified t = true

  pub are_unquantified : Trees → Bool
  are_unquantified stop = true
  are_unquantified (more t ts) = is_unquantified t && are_unquantified ts

abbrev mutual
  -- the normal form of the negation, where no quantifier is met
  pub normal_not : Tree → Tree
  normal_not (node h.True ts) = truth_constant false
  normal_not (node h.False ts) = truth_constant true
  normal_not (node h.Not (more f stop)) = if is_formula (head_of f) then f else not_of (node h.Not (one f))
  normal_not (node h.And ts) = normal_junction false (normal_nots ts)
  normal_not (node h.Or ts) = normal_junction true (normal_nots ts)
  normal_not (node head ts) = unwrap_or (negated_relation (node head ts)) (not_of (node head ts))

  pub normal_nots : Trees → List Tree
  normal_nots stop = []
  normal_nots (more t ts) = normal_not t ∷ normal_nots ts

-- what is made of the form, where there is one
abbrev pub by_form : (Lin → Tree) → Option Lin → Tree → Tree
by_form make None t = t
by_form make (Some f) t = make f

-- `t <= u`
abbrev pub normal_at_most : Tree → Tree → Tree
normal_at_most t u = by_form at_most_tree (checked (subtract (to_lin t) (to_lin u))) (at_most t u)

abbrev pub normal_equal : Tree → Tree → Tree
normal_equal t u = by_form equal_tree (checked (subtract (to_lin t) (to_lin u))) (equal t u)

-- the sum or product, as a term
abbrev pub linear_term : Tree → Tree
linear_term t = of_lin (to_lin t)

-- what an operator comes to by the rules on numbers, else by those on memories and tables, else by its form
abbrev pub by_rules : (of_numbers of_memories : Option Tree) → Tree → Tree
by_rules (Some w) o t = linear_term w
by_rules None (Some w) t = w
by_rules None None t = linear_term t

-- where `long` has so many bits
abbrev pub normal_op : (long_bits : ℕ) → TermOp → Trees → Tree
normal_op bits o ts = by_rules (first_some (number_step (h.Term o) ts) (long_rule bits (h.Term o) ts)) (memory_pass (h.Term o) ts) (node (h.Term o) ts)

abbrev pub normal_ite : Tree → Tree → Tree → Tree
normal_ite f t u = unwrap_or (chosen_arm (head_of f) t u) (ite f t u)

-- a comparison of integers
abbrev pub compared : FormOp → Trees → Tree
compared rel.Less (more t (more u stop)) = normal_at_most (linear_term (node (h.Term op.Add) (two t (num (pos 1))))) u
compared rel.AtMost (more t (more u stop)) = normal_at_most t u
compared rel.Equal (more t (more u stop)) = normal_equal t u
compared o ts = node (h.Form o) ts

-- a relation that asks of no block
abbrev pub normal_relation : FormOp → Trees → Tree
normal_relation o ts = if is_same_memory o ts then true_tree else compared o ts

-- the normal form of a node over kids in normal form, at the heads whose rules make nothing that has to be brought to normal form again
abbrev pub normal_node : (long_bits : ℕ) → Head → Trees → Tree
normal_node bits (h.Num z) ts = linear_term (node (h.Num z) ts)
normal_node bits (h.Term o) ts = normal_op bits o ts
normal_node bits h.Ite (more f (more t (more u stop))) = normal_ite f t u
normal_node bits h.And ts = normal_junction true (list_of ts)
normal_node bits h.Or ts = normal_junction false (list_of ts)
normal_node bits head ts = node head ts

-- ---- what may have to be brought to normal form again

-- the normal form, or a tree whose normal form it is
pub data Pass : Type 0 where
  done : Tree → Pass
  again : Tree → Pass

abbrev pub or_again : Option Tree → Tree → Pass
or_again None t = done t
or_again (Some w) t = again w

-- what is asked of a block is asked of another table, or answered
abbrev pub pass_relation : FormOp → Trees → Pass
pass_relation o ts = or_again (memory_pass (h.Form o) ts) (normal_relation o ts)

abbrev pub either : Tree → Tree → Tree
either f g = node h.Or (two f g)

abbrev pub both_ways : Tree → Tree → Tree
both_ways a b = node h.And (two (either (not_of a) b) (either a (not_of b)))

-- what the negation of a formula with quantifiers becomes by one rule
abbrev pub turned : Tree → Option Tree
turned (node h.And ts) = Some (node h.Or (nots ts))
turned (node h.Or ts) = Some (node h.And (nots ts))
turned (node (h.Forall x) (more t (more u (more f stop)))) = Some (node (h.Exists x) (three t u (not_of f)))
turned (node (h.Exists x) (more t (more u (more f stop)))) = Some (node (h.Forall x) (three t u (not_of f)))
turned t = None

abbrev pub pass_not : Tree → Pass
pass_not f = if is_unquantified f then done (normal_not f) else or_again (turned f) (not_of f)

abbrev pub pass_implication : Tree → Tree → Pass
pass_implication a b = if is_unquantified a then done (normal_junction false (normal_not a ∷ b ∷ [])) else again (either (not_of a) b)

abbrev pub pass_equivalence : Tree → Tree → Pass
pass_equivalence a b =
    if is_unquantified a && is_unquantified b
    then done (normal_junction true (normal_junction false (normal_not a ∷ b ∷ []) ∷ normal_junction false (a ∷ normal_not b ∷ []) ∷ []))
    else again (both_ways a b)

abbrev pub pass_quantifier : Bool → List ℕ → Tree → Tree → Tree → Pass
pass_quantifier b x t u f =
    if is_empty_between (number_at t) (number_at u) || is_truth_constant b f then done (truth_constant b)
    else or_again (single_range_rule b x t u f) (node (quantifier b x) (three t u f))

-- what the call of a logic function becomes, or the call
abbrev pub pass_call : List Logic → List ℕ → Trees → Pass
pass_call fs x ts = or_again (base_of fs x ts) (node (h.App x) ts)

-- what a node comes to over kids in normal form
abbrev pub pass : Setting → Head → Trees → Pass
pass s (h.App x) ts = pass_call s.logic x ts
pass s (h.Form o) ts = pass_relation o ts
pass s h.Not (more f stop) = pass_not f
pass s h.Imp (more a (more b stop)) = pass_implication a b
pass s h.Iff (more a (more b stop)) = pass_equivalence a b
pass s (h.Forall x) (more t (more u (more f stop))) = pass_quantifier true x t u f
pass s (h.Exists x) (more t (more u (more f stop))) = pass_quantifier false x t u f
pass s head ts = done (normal_node s.long_bits head ts)
