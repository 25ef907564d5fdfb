-- Operands by marks, and negations among operands.
use Rattle.std.proofs.Common.{◌≡◌, ℕ, zero, suc, ◌+◌, ◌<◌, Bool, true, false, not, ◌||◌, cond, List, [], ◌∷◌, ◌++◌, map, take, drop, length, get_or, refl, sym, ap, ◌∙◌, append_assoc, drop_of_length-le, arith}
use Rattle.std.specs.Prelude.{Option, Some, None}
use Rattle.std.specs.List.{list_any}
use Rattle.qed_terms.specs.Order.{same}
use Rattle.qed_terms.specs.Tree.{Tree, not_of}
use Rattle.qed_terms.proofs.Total.{same_exact}
use Rattle.formula_sets.specs.Sets.{is_one_of, are_first, some_among}
use Rattle.qed_rules.specs.Rules.{has, among, among_some, negated_relation, drop_repeats, is_opposed}
use Rattle.qed_rules.specs.Marked.{kept_by, kept_if, with_other, opposites}

one_of_is : (t : Tree) (us : List Tree) → is_one_of t us ≡ among t us
one_of_is t [] = refl
one_of_is t (u ∷ us) = ap (λ b. same t u || b) (one_of_is t us)

one_of_behind : (t u : Tree) (us : List Tree) → is_one_of t (us ++ u ∷ []) ≡ (is_one_of t us || same t u)
one_of_behind t u [] = by (same t u)
  where
    by : (b : Bool) → (b || false) ≡ b
    by true = refl
    by false = refl
one_of_behind t u (v ∷ us) = ap (λ b. same t v || b) (one_of_behind t u us) ∙ assoc (same t v) (is_one_of t us) (same t u)
  where
    assoc : (a b c : Bool) → (a || (b || c)) ≡ ((a || b) || c)
    assoc true b c = refl
    assoc false b c = refl

-- ---- the first ones are kept

-- both have the same trees
SameMembers : List Tree → List Tree → Type 0
SameMembers us vs = (t : Tree) → is_one_of t us ≡ is_one_of t vs

both_more : (us vs : List Tree) (t : Tree) → SameMembers us vs → SameMembers (us ++ t ∷ []) (vs ++ t ∷ [])
unfolding SameMembers
both_more us vs t so = λ u. one_of_behind u t us ∙ ap (λ b. b || same u t) (so u) ∙ sym (one_of_behind u t vs)

-- one that was there already changes nothing
no_more : (us vs : List Tree) (t : Tree) → SameMembers us vs → is_one_of t vs ≡ true → SameMembers us (vs ++ t ∷ [])
unfolding SameMembers
no_more us vs t so there = λ u. so u ∙ by u (same u t) refl ∙ sym (one_of_behind u t vs)
  where
    by : (u : Tree) (b : Bool) → same u t ≡ b → is_one_of u vs ≡ (is_one_of u vs || same u t)
    by u true e = ap (λ z. is_one_of z vs) (same_exact u t e) ∙ there ∙ sym (ap (λ b. is_one_of u vs || b) e ∙ or_true (is_one_of u vs))
      where
        or_true : (a : Bool) → (a || true) ≡ true
        or_true true = refl
        or_true false = refl
    by u false e = sym (ap (λ b. is_one_of u vs || b) e ∙ or_false (is_one_of u vs))
      where
        or_false : (a : Bool) → (a || false) ≡ a
        or_false true = refl
        or_false false = refl

firsts_by : (us vs ts : List Tree) → SameMembers us vs → kept_by (are_first vs ts) ts ≡ drop_repeats us ts
unfolding SameMembers
firsts_by us vs [] so = refl
firsts_by us vs (t ∷ ts) so =
    by (is_one_of t vs) refl (λ k. firsts_by us (vs ++ t ∷ []) ts (no_more us vs t so k)) (firsts_by (us ++ t ∷ []) (vs ++ t ∷ []) ts (both_more us vs t so))
  where
    there : (b : Bool) → is_one_of t vs ≡ b → among t us ≡ b
    there b e = sym (one_of_is t us) ∙ so t ∙ e

    by : (b : Bool) → is_one_of t vs ≡ b → (is_one_of t vs ≡ true → kept_by (are_first (vs ++ t ∷ []) ts) ts ≡ drop_repeats us ts)
        → kept_by (are_first (vs ++ t ∷ []) ts) ts ≡ drop_repeats (us ++ t ∷ []) ts → kept_by (are_first vs (t ∷ ts)) (t ∷ ts) ≡ drop_repeats us (t ∷ ts)
    by true e old new = rw (e, there true e) (old e)
    by false e old new = rw (e, there false e) (ap (λ us. t ∷ us) new)

pub firsts_are_kept : (ts : List Tree) → kept_by (are_first [] ts) ts ≡ drop_repeats [] ts
unfolding SameMembers
firsts_are_kept ts = firsts_by [] [] ts (λ t. refl)

-- ---- negations among the operands

some_there : (us ts : List Tree) → some_among (opposites ts) us ≡ has (is_opposed us) ts
some_there us [] = refl
some_there us (t ∷ ts) = by (some_there us ts) (negated_relation t) refl
  where
    assoc : (a b c : Bool) → (a || (b || c)) ≡ ((a || b) || c)
    assoc true b c = refl
    assoc false b c = refl

    or_false : (a : Bool) → a ≡ (a || false)
    or_false true = refl
    or_false false = refl

    by : some_among (opposites ts) us ≡ has (is_opposed us) ts → (o : Option Tree) → negated_relation t ≡ o → some_among (opposites (t ∷ ts)) us ≡ has (is_opposed us) (t ∷ ts)
    by rest None e = rw e ((λ i. one_of_is (not_of t) us i || rest i) ∙ ap (λ b. b || has (is_opposed us) ts) (or_false (among (not_of t) us)))
    by rest (Some n) e = rw e ((λ i. one_of_is (not_of t) us i || (one_of_is n us i || rest i)) ∙ assoc (among (not_of t) us) (among n us) (has (is_opposed us) ts))

pub opposites_meet : (us : List Tree) → some_among (opposites us) us ≡ has (is_opposed us) us
opposites_meet us = some_there us us

-- ---- one more

pub kept_one : (keep : Bool) (t : Tree) (ts us : List Tree) → us ≡ ts ++ kept_if keep t → us ≡ ts ++ kept_if keep t
kept_one keep t ts us e = e

none_kept : (ts : List Tree) → kept_by [] ts ≡ []
none_kept [] = refl
none_kept (t ∷ ts) = refl

drop_none : (i : ℕ) → drop {A = Bool} i [] ≡ []
drop_none i = drop_of_length-le [] (omega arith)

one_kept : (bs : List Bool) (i : ℕ) (t : Tree) (ts : List Tree) → kept_by (drop i bs) (t ∷ ts) ≡ kept_if (get_or bs i false) t ++ kept_by (drop (i + 1) bs) ts
one_kept [] i t ts =
    ap (λ bs. kept_by bs (t ∷ ts)) (drop_none i) ∙ sym (none_kept ts) ∙ sym (ap (λ bs. kept_by bs ts) (drop_none (i + 1)))
one_kept (true ∷ bs) zero t ts = refl
one_kept (false ∷ bs) zero t ts = refl
one_kept (b ∷ bs) (suc i) t ts = let n : suc i + 1 ≡ suc (i + 1) = omega arith in one_kept bs i t ts ∙ ap (λ m. kept_if (get_or bs i false) t ++ kept_by (drop m (b ∷ bs)) ts) (sym n)

pub kept_more : (bs : List Bool) (i : ℕ) (keep : Bool) (t : Tree) (ts done more all : List Tree) → keep ≡ get_or bs i false → more ≡ done ++ kept_if keep t
    → done ++ kept_by (drop i bs) (t ∷ ts) ≡ all → more ++ kept_by (drop (i + 1) bs) ts ≡ all
kept_more bs i keep t ts done more all k e h =
    ap (λ us. us ++ kept_by (drop (i + 1) bs) ts) e ∙ append_assoc done (kept_if keep t) (kept_by (drop (i + 1) bs) ts)
    ∙ ap (λ b. done ++ (kept_if b t ++ kept_by (drop (i + 1) bs) ts)) k ∙ ap (λ us. done ++ us) (sym (one_kept bs i t ts)) ∙ h
