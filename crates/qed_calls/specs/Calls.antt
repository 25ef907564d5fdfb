-- Calls of recursive logic functions (ACSL 2.6.3): up to the cut, a call is the base case with the arguments in the places of the parameters.
use Rattle.std.specs.Prelude.{ℕ, zero, suc, ℤ, int_le, Bool, true, false, ◌&&◌, if◌then◌else◌, List, [], ◌∷◌, Option, Some, None}
use Rattle.std.specs.Str.{bytes_eq}
use Rattle.qed_terms.specs.declared.head.Sort.{Sort}
use Rattle.qed_terms.specs.declared.head.Head.{Head}
use Rattle.qed_terms.specs.declared.head.Head.TheVariants as h
use Rattle.qed_terms.specs.Setting.{Param, Logic, takes}
use Rattle.qed_terms.specs.Tree.{Tree, node, Trees, stop, more, head_of}
use Rattle.qed_terms.specs.WellFormed.{same_sort}
use Rattle.qed_linear.specs.Linear.{unwrap_or}
use Rattle.qed_numbers.specs.Numbers.{Rule, then_some, number_at}

-- the heads of terms
abbrev pub is_term : Head → Bool
is_term (h.Num z) = true
is_term (h.Var x s) = true
is_term (h.Term o) = true
is_term h.Ite = true
is_term (h.App f) = true
is_term head = false

abbrev pub are_terms : Trees → Bool
are_terms stop = true
are_terms (more t ts) = is_term (head_of t) && are_terms ts

-- ---- arguments in the places of parameters

-- the argument for the parameter of this name and sort
abbrev pub argument_for : List Param → Trees → List ℕ → Sort → Option Tree
argument_for [] us x s = None
argument_for (p ∷ ps) stop x s = None
argument_for (p ∷ ps) (more u us) x s = if bytes_eq x p.name && same_sort s p.sort then Some u else argument_for ps us x s

abbrev mutual
  -- a body with these arguments for the parameters; a body has no quantifier
  pub with_arguments : List Param → Trees → Tree → Tree
  with_arguments ps us (node (h.Var x s) ts) = unwrap_or (argument_for ps us x s) (node (h.Var x s) ts)
  with_arguments ps us (node head ts) = node head (all_with_arguments ps us ts)

  pub all_with_arguments : List Param → Trees → Trees → Trees
  all_with_arguments ps us stop = stop
  all_with_arguments ps us (more t ts) = more (with_arguments ps us t) (all_with_arguments ps us ts)

-- ---- the rule

abbrev pub is_at_most : ℤ → Option ℤ → Bool
is_at_most cut None = false
is_at_most cut (Some z) = int_le z cut

-- the number at a place
abbrev pub kid_number : Trees → ℕ → Option ℤ
kid_number stop n = None
kid_number (more t ts) zero = number_at t
kid_number (more t ts) (suc n) = kid_number ts n

-- the function takes the arguments, which are terms
abbrev pub fits_call : List ℕ → Trees → Logic → Bool
fits_call x ts f = takes x ts f && are_terms ts

-- the base case of the function, where its number is at most the cut
abbrev pub base_at : Logic → Trees → Option Tree
base_at f ts = then_some (is_at_most f.cut (kid_number ts f.number)) (with_arguments f.params ts f.base)

-- what a call becomes by the function that takes the arguments
abbrev pub base_of : List Logic → List ℕ → Trees → Option Tree
base_of [] x ts = None
base_of (f ∷ fs) x ts = if fits_call x ts f then base_at f ts else base_of fs x ts

abbrev pub call_rule : List Logic → Rule
call_rule fs (h.App x) ts = base_of fs x ts
call_rule fs head ts = None
