-- What a quantifier makes of its body is well formed where the body is, under its binders, and so are the ends of its ranges, each under the binders before it.
use Rattle.std.proofs.Common.{◌≡◌, ℕ, zero, suc, ◌+◌, Bool, true, false, if◌then◌else◌, List, [], ◌∷◌, ◌++◌, length, ◌==◌, Option, Some, None, slice_get, refl, subst}
use Rattle.std.specs.List.{list_any}
use Rattle.std.proofs.lemmas.Bool.{and_parts}
use Rattle.acsl_trees.specs.declared.heads.BinderPlace.{BinderPlace}
use Rattle.acsl_trees.specs.declared.heads.Head.TheVariants as head
use Rattle.acsl_trees.specs.Tree.{Tree, node, Trees, stop, more, list_of}
use Rattle.acsl_preds.specs.declared.binders.Over.{Over}
use Rattle.acsl_preds.specs.declared.binders.Over.TheVariants as over
use Rattle.acsl_preds.specs.Ranges.{conjuncts, conjuncts_in, is_taken_by, joined, kept_with, kept, kids_of, or_truth, low_end, high_end, over_one, over_all, is_implication, under, every_under, pair_of, sides_of, every_sides, head_of, every, some, quantified}
use Rattle.c_runs.specs.TruthLaws.{Signatures, is_well_formed, are_well_formed}
use Rattle.acsl_same_meaning.proofs.Operators.{only, pair, triple, Good}

-- as many names as stand under these binders
abbrev pub under_binders : List Over → ℕ → ℕ
under_binders [] d = d
under_binders (o ∷ os) d = under_binders os (suc d)

-- the conjuncts of which ranges take their ends
abbrev pub ranging_sides : Option (Tree × Tree) → List Tree
ranging_sides (Some p) = conjuncts p.0
ranging_sides None = []

abbrev pub ranging : (for_all : Bool) → Tree → List Tree
ranging true t = if is_implication (head_of t) then ranging_sides (sides_of (kids_of t)) else []
ranging false t = conjuncts t

module _ (l : Bool) (s : Signatures) where
  abbrev G : ℕ → Tree → Type 0
  G d t = Good l true s d t

  module _ (d : ℕ) where
    abbrev AreGood : List Tree → Type 0
    AreGood [] = Unit {0}
    AreGood (t ∷ ts) = G d t × AreGood ts

    kids_are : (ks : Trees) → are_well_formed l true s d false ks ≡ true → AreGood (list_of ks)
    kids_are stop f = tt
    kids_are (more t ts) f = let p = and_parts (is_well_formed l true s d t) (are_well_formed l true s d false ts) f in (p.0, kids_are ts p.1)

    -- ---- conjuncts

    both_lists : (ts us : List Tree) → AreGood ts → AreGood us → AreGood (ts ++ us)
    both_lists [] us f g = g
    both_lists (t ∷ ts) us f g = (f.0, both_lists ts us f.1 g)

    mutual
      pub conjuncts_are : (t : Tree) → G d t → AreGood (conjuncts t)
      conjuncts_are (node head.And ks) f = all_conjuncts ks f
      conjuncts_are (node _ ks) f = (f, tt)

      all_conjuncts : (ks : Trees) → are_well_formed l true s d false ks ≡ true → AreGood (conjuncts_in ks)
      all_conjuncts stop f = tt
      all_conjuncts (more t ts) f =
          let p = and_parts (is_well_formed l true s d t) (are_well_formed l true s d false ts) f in
          both_lists (conjuncts t) (conjuncts_in ts) (conjuncts_are t p.0) (all_conjuncts ts p.1)

    -- those that are kept
    abbrev IsGoodIf : Option Tree → Type 0
    IsGoodIf (Some t) = G d t
    IsGoodIf None = Unit {0}

    joined_is : (before : Option Tree) (t : Tree) → IsGoodIf before → G d t → G d (joined before t)
    joined_is None t f g = g
    joined_is (Some a) t f g = pair f g

    kept_if : (b : Bool) (before : Option Tree) (t : Tree) → IsGoodIf before → G d t → IsGoodIf (if b then before else Some (joined before t))
    kept_if true before t f g = f
    kept_if false before t f g = joined_is before t f g

    kept_are : (os : List Over) (i : ℕ) (before : Option Tree) (cs : List Tree) → IsGoodIf before → AreGood cs → IsGoodIf (kept os i before cs)
    kept_are os i before [] f are = f
    kept_are os i before (t ∷ ts) f are = kept_are os (i + 1) (kept_with os i before t) ts (kept_if (list_any (is_taken_by i) os) before t f are.0) are.1

    or_truth_is : (o : Option Tree) → IsGoodIf o → G d (or_truth o)
    or_truth_is (Some t) f = f
    or_truth_is None f = refl

    under_is : (o : Option Tree) (t : Tree) → IsGoodIf o → G d t → G d (under o t)
    under_is None t f g = g
    under_is (Some a) t f g = pair f g

    good_at : (ts : List Tree) (i : ℕ) (o : Option Tree) → slice_get ts i ≡ o → AreGood ts → IsGoodIf o
    good_at ts i None is are = tt
    good_at [] i (Some t) is are = absurd cc
    good_at (u ∷ ts) zero (Some t) is are = let same : u ≡ t = cc in subst (G d) same are.0
    good_at (u ∷ ts) (suc i) (Some t) is are = good_at ts i (Some t) is are.1

    abbrev AreSides : Option (Tree × Tree) → Type 0
    AreSides (Some p) = G d p.0 × G d p.1
    AreSides None = Unit {0}

    pair_is : (a t : Option Tree) (b : Bool) → IsGoodIf a → IsGoodIf t → AreSides (pair_of a t b)
    pair_is (Some a) (Some t) true f g = (f, g)
    pair_is (Some a) (Some t) false f g = tt
    pair_is (Some a) None b f g = tt
    pair_is None t b f g = tt

    sides_are : (ts : List Tree) → AreGood ts → AreSides (sides_of ts)
    sides_are ts are = pair_is (slice_get ts 0) (slice_get ts 1) (length ts == 2) (good_at ts 0 _ refl are) (good_at ts 1 _ refl are)

  -- ---- ranges

  abbrev pub EndsFit : ℕ → List Tree → Over → Type 0
  EndsFit d cs (over.Kind k) = Unit {0}
  EndsFit d cs (over.Guarded g) = G d (low_end cs g) × G d (high_end cs g)

  -- those of each binder under the binders before it
  abbrev pub AllEndsFit : ℕ → List Tree → List Over → Type 0
  AllEndsFit d cs [] = Unit {0}
  AllEndsFit d cs (o ∷ os) = EndsFit d cs o × AllEndsFit (suc d) cs os

  over_one_fits : (place : BinderPlace) (a : Bool) (cs : List Tree) (o : Over) (d : ℕ) (t : Tree) → EndsFit d cs o → G (suc d) t → G d (over_one place a cs o t)
  over_one_fits place true cs (over.Kind k) d t e f = only f
  over_one_fits place false cs (over.Kind k) d t e f = only f
  over_one_fits place true cs (over.Guarded g) d t e f = triple e.0 e.1 f
  over_one_fits place false cs (over.Guarded g) d t e f = triple e.0 e.1 f

  over_all_fit : (place : BinderPlace) (a : Bool) (cs : List Tree) (os : List Over) (d : ℕ) (t : Tree) → AllEndsFit d cs os → G (under_binders os d) t → G d (over_all place a cs os t)
  over_all_fit place a cs [] d t e f = f
  over_all_fit place a cs (o ∷ os) d t e f = over_one_fits place a cs o d (over_all place a cs os t) e.0 (over_all_fit place a cs os (suc d) t e.1 f)

  -- ---- quantifiers

  every_under_fits : (place : BinderPlace) (os : List Over) (d : ℕ) (cs : List Tree) (t : Tree) → AllEndsFit d cs os → AreGood (under_binders os d) cs → G (under_binders os d) t
      → G d (every_under place os cs t)
  every_under_fits place os d cs t e are f =
      over_all_fit place true cs os d (under (kept os 0 None cs) t) e
      (under_is (under_binders os d) (kept os 0 None cs) t (kept_are (under_binders os d) os 0 None cs tt are) f)

  sides_fit : (place : BinderPlace) (os : List Over) (d : ℕ) (body : Tree) (p : Option (Tree × Tree)) → AllEndsFit d (ranging_sides p) os → AreSides (under_binders os d) p
      → G (under_binders os d) body
      → G d (every_sides place os body p)
  sides_fit place os d body (Some p) e are f = every_under_fits place os d (conjuncts p.0) p.1 e (conjuncts_are (under_binders os d) p.0 are.0) are.1
  sides_fit place os d body None e are f = over_all_fit place true [] os d body e f

  every_fits : (place : BinderPlace) (os : List Over) (d : ℕ) (body : Tree) → AllEndsFit d (ranging true body) os → G (under_binders os d) body → G d (every place os body)
  every_fits place os d (node head.Implies ks) e f =
      sides_fit place os d (node head.Implies ks) (sides_of (list_of ks)) e (sides_are (under_binders os d) (list_of ks) (kids_are (under_binders os d) ks f)) f
  every_fits place os d (node h ks) e f = over_all_fit place true [] os d (node h ks) e f

  some_fits : (place : BinderPlace) (os : List Over) (d : ℕ) (body : Tree) → AllEndsFit d (conjuncts body) os → G (under_binders os d) body → G d (some place os body)
  some_fits place os d body e f =
      over_all_fit place false (conjuncts body) os d (or_truth (kept os 0 None (conjuncts body))) e
      (or_truth_is (under_binders os d) (kept os 0 None (conjuncts body))
      (kept_are (under_binders os d) os 0 None (conjuncts body) tt (conjuncts_are (under_binders os d) body f)))

  pub quantified_fits : (place : BinderPlace) (a : Bool) (os : List Over) (d : ℕ) (body : Tree) → AllEndsFit d (ranging a body) os → G (under_binders os d) body
      → G d (quantified place a os body)
  unfolding quantified
  quantified_fits place true os d body e f = every_fits place os d body e f
  quantified_fits place false os d body e f = some_fits place os d body e f
