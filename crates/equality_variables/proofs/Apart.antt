-- A variable with its term, where this may stand for it.
use Rattle.std.proofs.Common.{◌≡◌, ℕ, Bool, true, false, List, [], ◌∷◌, ◌++◌, take, drop, get_or, length, refl, sym, ◌∙◌, ap, arith, ◌<◌, ◌+◌, zero, suc}
use Rattle.std.specs.Prelude.{ℤ, pos, negsuc, if◌then◌else◌, Option, Some, None, slice_get}
use Rattle.std.specs.Option.{option_and_then}
use Rattle.std.specs.Ordering.{int_eq}
use Rattle.qed_terms.specs.declared.head.Sort.{Sort}
use Rattle.qed_terms.specs.declared.head.Sort.TheVariants as sort
use Rattle.qed_terms.specs.Tree.{Tree, head_of}
use Rattle.qed_linear.specs.Linear.{Part}
use Rattle.branch_changes.specs.Givens.{Given, given, is_apart, given_where, given_at, given_by, variable, rest_by, unit_sign, may_stand_for}
use Rattle.branch_changes.proofs.Truths.{and_right}
use Rattle.equality_variables.specs.declared.forms.IdForm.{IdForm}
use Rattle.equality_variables.specs.Forms.{part_of, parts_of, lin_of}
use Rattle.equality_variables.proofs.Sums.{told_equal, told_apart, unequal}

pub not_apart : (s : Sort) (x : List ℕ) (u : Tree) (b : Bool) → b ≡ is_apart s x u → b ≡ false → None ≡ given_where s (Some x) (Some u)
not_apart s x u b e f = sym (ap (λ c. if c then Some (given x s u) else None) (sym e ∙ f))

pub apart : (s : Sort) (x : List ℕ) (u : Tree) (b : Bool) → b ≡ is_apart s x u → b ≡ true → (g : Given) → g ≡ given x s u → Some g ≡ given_where s (Some x) (Some u)
apart s x u b e f g is = ap Some is ∙ sym (ap (λ c. if c then Some (given x s u) else None) (sym e ∙ f))

pub apart_stands : (s : Sort) (x : List ℕ) (u : Tree) (b : Bool) → b ≡ is_apart s x u → b ≡ true → may_stand_for s u ≡ true
apart_stands s x u b e f = and_right _ (may_stand_for s u) (sym e ∙ f)

pub none_where : (s : Sort) (o : Option Tree) → None ≡ given_where s None o
none_where s None = refl
none_where s (Some u) = refl

pub where_none : (s : Sort) (o : Option (List ℕ)) → None ≡ given_where s o None
where_none s None = refl
where_none s (Some x) = refl

-- ---- by the part at a place

module _ {Id : Type 0} (tree : Id → Tree) (form : IdForm Id) (at : ℕ) (p : Id × ℤ) (below : at < length form.parts.items) (is : p ≡ get_or form.parts.items at p) where
  abbrev pub others : List Part
  others = take at (parts_of tree form.parts.items) ++ drop (at + 1) (parts_of tree form.parts.items)

  there : slice_get (parts_of tree form.parts.items) at ≡ Some (part_of tree p)
  there = go form.parts.items at below is
    where
      go : (ps : List (Id × ℤ)) (n : ℕ) → n < length ps → p ≡ get_or ps n p → slice_get (parts_of tree ps) n ≡ Some (part_of tree p)
      go [] n l e = absurd (omega arith)
      go (q ∷ ps) zero l e = ap (λ r. Some (part_of tree r)) (sym e)
      go (q ∷ ps) (suc n) l e = go ps n (omega arith) e

  at_part : given_at (lin_of tree form) at ≡ given_by (part_of tree p) others form.constant
  at_part = ap (option_and_then (λ q. given_by q others form.constant)) there

  pub no_unit : unit_sign (p.1) ≡ None → None ≡ given_at (lin_of tree form) at
  no_unit e = where_none sort.Int (variable sort.Int (head_of (tree (p.0)))) ∙ sym (at_part ∙ ap (λ o. given_where sort.Int (variable sort.Int (head_of (tree (p.0)))) (rest_by o others form.constant)) e)

  pub some_unit : (plus : Bool) (name : Option (List ℕ)) (o : Option Given) → unit_sign (p.1) ≡ Some plus → name ≡ variable sort.Int (head_of (tree (p.0))) → o ≡ given_where sort.Int name (rest_by (Some plus) others form.constant) → o ≡ given_at (lin_of tree form) at
  some_unit plus name o e n k = k ∙ (λ i. given_where sort.Int (n i) (rest_by (sym e i) others form.constant)) ∙ sym at_part

-- ---- units

pub unit_one : (z : ℤ) (b : Bool) → b ≡ int_eq z (pos 1) → b ≡ true → Some true ≡ unit_sign z
unit_one z b e f = sym (ap unit_sign (told_equal z (pos 1) b e f))

pub unit_minus : (z : ℤ) (b : Bool) → b ≡ int_eq z (negsuc 0) → b ≡ true → Some false ≡ unit_sign z
unit_minus z b e f = sym (ap unit_sign (told_equal z (negsuc 0) b e f))

pub no_sign : (z : ℤ) (b c : Bool) → b ≡ int_eq z (pos 1) → b ≡ false → c ≡ int_eq z (negsuc 0) → c ≡ false → None ≡ unit_sign z
no_sign z b c e f k l =
    let one = unequal z (pos 1) (told_apart z (pos 1) b e f) in
    let minus = unequal z (negsuc 0) (told_apart z (negsuc 0) c k l) in
    sym (λ i. if one i then Some true else (if minus i then Some false else None))
