-- Marks, one place more.
use Rattle.std.proofs.Common.{◌≡◌, ◌≢◌, ◌⊎◌, ℕ, ◌+◌, ◌<◌, ◌==◌, ◌||◌, ◌&&◌, Bool, true, false, List, [], ◌∷◌, ◌++◌, length, get_or, take, refl, sym, ◌∙◌, ap, subst, inl, inr, arith, get_or-set_same, get_or-set_other}
use Rattle.std.specs.Prelude.{Some, slice_get, if◌then◌else◌}
use Rattle.std.proofs.lemmas.List.{take_more}
use Rattle.std.proofs.Math.ListN.{set, length-set}
use Rattle.same_terms.specs.SameTerms.{is_binder}
use Rattle.tree_places.specs.Tables.{Node}
use Rattle.branch_rows.specs.Marks.{mark_at, is_among, open_kids, kids_at, AlsoMarked, KidsMarked}

-- ---- truth values

pub or_either : (a b : Bool) → (a || b) ≡ true → (a ≡ true) ⊎ (b ≡ true)
or_either true b e = inl refl
or_either false b e = inr e

pub or_first : (a b : Bool) → a ≡ true → (a || b) ≡ true
or_first true b e = refl
or_first false b e = absurd cc

pub or_second : (a b : Bool) → b ≡ true → (a || b) ≡ true
or_second true b e = refl
or_second false b e = e

pub and_both : (a b : Bool) → (a && b) ≡ true → (a ≡ true) × (b ≡ true)
and_both true b e = (refl, e)
and_both false b e = absurd cc

or_none : (a : Bool) → (a || false) ≡ a
or_none true = refl
or_none false = refl

or_all : (a : Bool) → (a || true) ≡ true
or_all true = refl
or_all false = refl

or_three : (a b c : Bool) → ((a || b) || c) ≡ (a || (b || c))
or_three true b c = refl
or_three false b c = refl

pub number_is : (a b : ℕ) → (a == b) ≡ true → a ≡ b
number_is a b e = grind (arith, e)

pub number_self : (a : ℕ) → (a == a) ≡ true
number_self a = grind arith

number_isnt : (a b : ℕ) → (a == b) ≡ false → a ≢ b
number_isnt a b e d = let f : true ≡ false = sym (number_self b) ∙ ap (λ z. z == b) (sym d) ∙ e in absurd cc

-- ---- one place more

among_end : (k p : ℕ) (ps : List ℕ) → is_among k (ps ++ p ∷ []) ≡ (is_among k ps || (k == p))
among_end k p [] = or_none (k == p)
among_end k p (q ∷ ps) = ap (λ b. (k == q) || b) (among_end k p ps) ∙ sym (or_three (k == q) (is_among k ps) (k == p))

set_mark : (ms : List Bool) (p k : ℕ) → p < length ms → mark_at (set ms p true) k ≡ (mark_at ms k || (k == p))
set_mark ms p k l = go (k == p) refl
  where
    go : (b : Bool) → (k == p) ≡ b → mark_at (set ms p true) k ≡ (mark_at ms k || (k == p))
    go true e = ap (mark_at (set ms p true)) (number_is k p e) ∙ get_or-set_same ms p true false l ∙ sym (ap (λ b. mark_at ms k || b) e ∙ or_all (mark_at ms k))
    go false e = get_or-set_other ms p k true false (number_isnt k p e) ∙ sym (ap (λ b. mark_at ms k || b) e ∙ or_none (mark_at ms k))

pub marked_none : (c : List Bool) → AlsoMarked [] c c
marked_none c = record { all = refl; each = λ k. sym (or_none (mark_at c k)) }

pub marked_more : (places : List ℕ) (i : ℕ) (c d : List Bool) → i < length places → get_or places i 0 < length d → AlsoMarked (take i places) c d → AlsoMarked (take (i + 1) places) c (set d (get_or places i 0) true)
marked_more places i c d l below so =
    subst (λ ps. AlsoMarked ps c (set d (get_or places i 0) true)) (sym (take_more places i 0 l)) (record {
      all = length-set d (get_or places i 0) true ∙ so.all;
      each = λ k.
          set_mark d (get_or places i 0) k below
          ∙ ap (λ b. b || (k == get_or places i 0)) (so.each k)
          ∙ or_three (mark_at c k) (is_among k (take i places)) (k == get_or places i 0)
          ∙ ap (λ b. mark_at c k || b) (sym (among_end k (get_or places i 0) (take i places)));
    })

-- ---- the kids of a place

module _ (ns : List Node) (place : ℕ) (c : List Bool) where
  pub no_mark : mark_at c place ≡ false → KidsMarked ns place c c
  no_mark e = record { all = refl; each = λ k. sym (ap (λ b. mark_at c k || (b && is_among k (kids_at ns place))) e ∙ or_none (mark_at c k)) }

  module _ (n : Node) (there : slice_get ns place ≡ Some n) where
    kids_where : (b : Bool) → is_binder (n.head) ≡ b → kids_at ns place ≡ (if b then [] else n.kids)
    kids_where b e = ap open_kids there ∙ ap (λ z. if z then [] else n.kids) e

    pub no_kids : is_binder (n.head) ≡ true → KidsMarked ns place c c
    no_kids e = record { all = refl; each = λ k. sym (ap (λ ks. mark_at c k || (mark_at c place && is_among k ks)) (kids_where true e) ∙ ap (λ b. mark_at c k || b) (none (mark_at c place)) ∙ or_none (mark_at c k)) }
      where
        none : (b : Bool) → (b && false) ≡ false
        none true = refl
        none false = refl

    pub all_kids : (d : List Bool) → mark_at c place ≡ true → is_binder (n.head) ≡ false → AlsoMarked (n.kids) c d → KidsMarked ns place c d
    all_kids d marked e so = record { all = so.all; each = λ k. so.each k ∙ sym (λ i. mark_at c k || (marked i && is_among k (kids_where false e i))) }
