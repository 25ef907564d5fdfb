-- Terms that are put into a store: numbers, multiples and sums.
use Rattle.std.proofs.Common.{◌≡◌, ◌≢◌, zero, suc, cond, Bool, true, false, ◌&&◌, List, [], ◌∷◌, ◌++◌, map, length, get_or, append-nil, All, refl, sym, ◌∙◌, ap, subst, arith}
use Rattle.std.specs.Prelude.{ℤ, pos, negsuc, ◌-ℤ◌}
use Rattle.std.proofs.lemmas.Int.{ints}
use Rattle.std.specs.List.{list_all}
use Rattle.std.specs.Ordering.{int_eq}
use Rattle.std.specs.Cmp.{signed_Decides}
use Rattle.std.proofs.lemmas.List.{map_push}
use Rattle.std.proofs.lemmas.List.Elements.{All-weaker, All-append, All-cons}
use Rattle.qed_terms.specs.declared.head.Head.TheVariants as h
use Rattle.qed_terms.specs.declared.head.TermOp.TheVariants as op
use Rattle.qed_terms.specs.Operators.{is_zero, is_equal}
use Rattle.qed_terms.specs.Store.{KeepsOlder, is_well_formed, over}
use Rattle.qed_terms.specs.Tree.{Tree, node, trees_of, two, num}
use Rattle.qed_terms.specs.WellFormed.{fits, int, all_fit, each, kid_count}
use Rattle.qed_terms.proofs.Kept.{kept_trees}
use Rattle.qed_linear.specs.Linear.{part, part_tree, sum_tree, constant_trees}
use Rattle.equality_variables.specs.Forms.{AreTerms}

-- ---- tests of numbers

zero_is : (z : ℤ) → is_zero z ≡ true → z ≡ pos 0
zero_is (pos zero) k = refl
zero_is (pos (suc n)) k = absurd cc
zero_is (negsuc n) k = absurd cc

equal_is : (a b : ℤ) → is_equal a b ≡ true → a ≡ b
equal_is a b k = omega (arith, ints, zero_is (a -ℤ b) k)

pub told_equal : (a b : ℤ) (t : Bool) → t ≡ int_eq a b → t ≡ true → a ≡ b
told_equal a b t e d = (signed_Decides a b).0 (sym e ∙ d)

pub told_apart : (a b : ℤ) (t : Bool) → t ≡ int_eq a b → t ≡ false → a ≢ b
told_apart a b t e d k = let l = (signed_Decides a b).1 k in let f : true ≡ false = sym l ∙ sym e ∙ d in absurd cc

pub unequal : (z y : ℤ) → z ≢ y → is_equal z y ≡ false
unequal z y n = go (is_equal z y) refl
  where
    go : (b : Bool) → is_equal z y ≡ b → b ≡ false
    go true e = absurd (n (equal_is z y e))
    go false e = refl

nonzero : (z : ℤ) → z ≢ pos 0 → is_zero z ≡ false
nonzero z n = go (is_zero z) refl
  where
    go : (b : Bool) → is_zero z ≡ b → b ≡ false
    go true e = absurd (n (zero_is z e))
    go false e = refl

-- ---- what is made is well formed

and_both : (p q : Bool) → p ≡ true → q ≡ true → (p && q) ≡ true
and_both true q e f = f
and_both false q e f = absurd cc

and_first : (p q : Bool) → (p && q) ≡ true → p ≡ true
and_first true q e = refl
and_first false q e = absurd cc

and_second : (p q : Bool) → (p && q) ≡ true → q ≡ true
and_second true q e = e
and_second false q e = absurd cc

pub number_fits : (z : ℤ) (t : Tree) → t ≡ num z → fits int t ≡ true
number_fits z t e = ap (fits int) e

pub product_fits : {Id : Type 0} (tree : Id → Tree) (ids : List Id) (n a : Id) → ids ≡ n ∷ a ∷ [] → fits int (tree n) ≡ true → fits int (tree a) ≡ true → is_well_formed (over (h.Term op.Mul) (map tree ids)) ≡ true
product_fits tree ids n a e f k = ap (λ z. is_well_formed (over (h.Term op.Mul) (map tree z))) e ∙ and_both (fits int (tree n)) _ f (and_both (fits int (tree a)) true k refl)

all_fits : (ts : List Tree) → list_all (fits int) ts ≡ true → all_fit (each int (kid_count (trees_of ts))) (trees_of ts) ≡ true
all_fits [] e = refl
all_fits (t ∷ ts) e = and_both (fits int t) _ (and_first (fits int t) _ e) (all_fits ts (and_second (fits int t) _ e))

pub sum_fits : (ts : List Tree) → list_all (fits int) ts ≡ true → is_well_formed (over (h.Term op.Add) ts) ≡ true
sum_fits ts e = all_fits ts e

-- ---- parts and constants as trees

-- a part with coefficient 1 is its atom
pub one_part : (t : Tree) (z : ℤ) → z ≡ pos 1 → t ≡ part_tree (part t z)
one_part t z e = sym (ap (λ y. part_tree (part t y)) e)

-- a number times an atom
pub times_part : {Id : Type 0} (tree : Id → Tree) (z : ℤ) (ids : List Id) (n a : Id) (t u : Tree) → z ≢ pos 1 → tree n ≡ num z → tree a ≡ t → ids ≡ n ∷ a ∷ [] → u ≡ over (h.Term op.Mul) (map tree ids) → u ≡ part_tree (part t z)
times_part tree z ids n a t u one number atom kids is =
    is ∙ ap (λ xs. node (h.Term op.Mul) (trees_of (map tree xs))) kids
    ∙ (λ i. node (h.Term op.Mul) (two (number i) (atom i)))
    ∙ sym (ap (λ b. cond b t (node (h.Term op.Mul) (two (num z) t))) (unequal z (pos 1) one))

pub no_constant : (ts : List Tree) (z : ℤ) → z ≡ pos 0 → ts ≡ ts ++ constant_trees z
no_constant ts z e = sym (ap (λ y. ts ++ constant_trees y) e ∙ append-nil ts)

one_constant : (z : ℤ) → z ≢ pos 0 → num z ∷ [] ≡ constant_trees z
one_constant z n = sym (ap (λ b. cond b [] (num z ∷ [])) (nonzero z n))

-- ---- one term more

held_alone : {Id : Type 0} (held : Id → Type 0) (id : Id) → held id → All held (id ∷ [])
held_alone held id k = All-cons held id [] k (λ i d l. absurd (omega arith))

all_append : (p : Tree → Bool) (ts us : List Tree) → list_all p ts ≡ true → list_all p us ≡ true → list_all p (ts ++ us) ≡ true
all_append p [] us e f = f
all_append p (t ∷ ts) us e f = and_both (p t) _ (and_first (p t) _ e) (all_append p ts us (and_second (p t) _ e) f)

module _ {Id : Type 0} (held held' : Id → Type 0) (tree tree' : Id → Tree) (kept : KeepsOlder held held' tree tree') (ids : List Id) (are : AreTerms held tree ids) where
  same : map tree' ids ≡ map tree ids
  same = kept_trees held held' tree tree' ids kept are.0

  pub terms_later : AreTerms held' tree' ids
  terms_later = (All-weaker held held' kept.still_held ids are.0, ap (list_all (fits int)) same ∙ are.1)

  module _ (id : Id) (made : List Id) (push : made ≡ ids ++ id ∷ []) where
    pub trees_more : (ts : List Tree) (t : Tree) → map tree ids ≡ ts → tree' id ≡ t → map tree' made ≡ ts ++ t ∷ []
    trees_more ts t e f = ap (map tree') push ∙ map_push tree' ids id ∙ (λ i. (same ∙ e) i ++ f i ∷ [])

    pub terms_more : held' id → fits int (tree' id) ≡ true → AreTerms held' tree' made
    terms_more l f = (
      subst (All held') (sym push) (All-append held' ids (id ∷ []) terms_later.0 (held_alone held' id l)),
      ap (list_all (fits int)) (trees_more (map tree ids) (tree' id) refl refl) ∙ all_append (fits int) (map tree ids) (tree' id ∷ []) are.1 (and_both (fits int (tree' id)) true f refl),
    )

    pub with_constant : (z : ℤ) → z ≢ pos 0 → tree' id ≡ num z → map tree' made ≡ map tree ids ++ constant_trees z
    with_constant z n e = trees_more (map tree ids) (num z) refl e ∙ ap (λ us. map tree ids ++ us) (one_constant z n)

-- ---- the sum, by how many terms there are

module _ {Id : Type 0} (tree : Id → Tree) where
  pub sum_of_none : (ids : List Id) → length ids ≡ 0 → num (pos 0) ≡ sum_tree (map tree ids)
  sum_of_none [] e = refl
  sum_of_none (id ∷ ids) e = absurd (omega arith)

  pub sum_of_one : (ids : List Id) (id : Id) → length ids ≡ 1 → id ≡ get_or ids 0 id → tree id ≡ sum_tree (map tree ids)
  sum_of_one [] id e is = absurd (omega arith)
  sum_of_one (k ∷ []) id e is = ap tree is
  sum_of_one (k ∷ l ∷ ids) id e is = absurd (omega arith)

  pub sum_of_more : (ids : List Id) → (length ids ≡ 0 → ⊥) → (length ids ≡ 1 → ⊥) → over (h.Term op.Add) (map tree ids) ≡ sum_tree (map tree ids)
  sum_of_more [] m n = absurd (m refl)
  sum_of_more (id ∷ []) m n = absurd (n refl)
  sum_of_more (id ∷ k ∷ ids) m n = refl
