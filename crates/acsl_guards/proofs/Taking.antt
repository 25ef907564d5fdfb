-- Conjuncts taken apart with a list of what is still to be looked at, whose last item is next.
use Rattle.std.proofs.Common.{◌≡◌, ℕ, ◌+◌, ◌<◌, List, [], ◌∷◌, ◌++◌, map, Option, Some, None, refl, sym, ap, ◌∙◌, append-nil, append_assoc, arith}
use Rattle.std.specs.Borrow.{Bor}
use Rattle.std.proofs.lemmas.List.{map-append}
use Rattle.c_syntax.specs.declared.annot.Pred.{Pred}
use Rattle.c_syntax.specs.Pred as p
use Rattle.c_syntax.specs.View.{view_pred}
use Rattle.acsl_guards.specs.Guarding.{sides, conjuncts}
use Rattle.acsl_guards.specs.Parts.{pointed, preds_in}
use Rattle.acsl_guards.proofs.Turning.{total, total-append}

abbrev by_sides : p.Pred → Option (p.Pred × p.Pred) → List p.Pred
by_sides a None = a ∷ []
by_sides a (Some s) = conjuncts s.0 ++ conjuncts s.1

by_its_sides : (a : p.Pred) → conjuncts a ≡ by_sides a (sides a)
by_its_sides (p.always line) = refl
by_its_sides (p.never line) = refl
by_its_sides (p.not_of line a) = refl
by_its_sides (p.and_of line a b) = refl
by_its_sides (p.xor_of line a b) = refl
by_its_sides (p.or_of line a b) = refl
by_its_sides (p.implies line a b) = refl
by_its_sides (p.iff line a b) = refl
by_its_sides (p.cond line test a b) = refl
by_its_sides (p.let_in line x value a) = refl
by_its_sides (p.chain line ts os) = refl
by_its_sides (p.for_all line bs a) = refl
by_its_sides (p.for_some line bs a) = refl
by_its_sides (p.valid line a) = refl
by_its_sides (p.valid_read line a) = refl
by_its_sides (p.separated line ts) = refl
by_its_sides (p.old line a) = refl
by_its_sides (p.call line f args) = refl

-- how many conjuncts and `&&` are in a predicate
abbrev pub weight : p.Pred → ℕ
weight (p.and_of line a b) = 1 + (weight a + weight b)
weight a = 1

abbrev weight_by : Option (p.Pred × p.Pred) → ℕ
weight_by None = 1
weight_by (Some s) = 1 + (weight s.0 + weight s.1)

weight_is : (a : p.Pred) → weight a ≡ weight_by (sides a)
weight_is (p.always line) = refl
weight_is (p.never line) = refl
weight_is (p.not_of line a) = refl
weight_is (p.and_of line a b) = refl
weight_is (p.xor_of line a b) = refl
weight_is (p.or_of line a b) = refl
weight_is (p.implies line a b) = refl
weight_is (p.iff line a b) = refl
weight_is (p.cond line test a b) = refl
weight_is (p.let_in line x value a) = refl
weight_is (p.chain line ts os) = refl
weight_is (p.for_all line bs a) = refl
weight_is (p.for_some line bs a) = refl
weight_is (p.valid line a) = refl
weight_is (p.valid_read line a) = refl
weight_is (p.separated line ts) = refl
weight_is (p.old line a) = refl
weight_is (p.call line f args) = refl

abbrev pub left_weight : List (Bor Pred) → ℕ
left_weight l = total weight (preds_in l)

-- the conjuncts of what is left, of the last one first
abbrev pub pending : List p.Pred → List p.Pred
pending [] = []
pending (a ∷ rest) = pending rest ++ conjuncts a

pending-append : (xs ys : List p.Pred) → pending (xs ++ ys) ≡ pending ys ++ pending xs
pending-append [] ys = sym (append-nil (pending ys))
pending-append (x ∷ xs) ys = ap (λ zs. zs ++ conjuncts x) (pending-append xs ys) ∙ append_assoc (pending ys) (pending xs) (conjuncts x)

behind_one : (l l' : List (Bor Pred)) (a : Bor Pred) → l ≡ l' ++ a ∷ [] → preds_in l ≡ preds_in l' ++ view_pred a.now ∷ []
behind_one l l' a is = ap preds_in is ∙ ap (map view_pred) (map-append _ l' (a ∷ [])) ∙ map-append view_pred (pointed l') (a.now ∷ [])

pending_one : (l l' : List (Bor Pred)) (a : Bor Pred) → l ≡ l' ++ a ∷ [] → pending (preds_in l) ≡ conjuncts (view_pred a.now) ++ pending (preds_in l')
pending_one l l' a is = ap pending (behind_one l l' a is) ∙ pending-append (preds_in l') (view_pred a.now ∷ [])

weighs_one : (l l' : List (Bor Pred)) (a : Bor Pred) → l ≡ l' ++ a ∷ [] → left_weight l ≡ left_weight l' + weight (view_pred a.now)
weighs_one l l' a is = omega (arith, ap (total weight) (behind_one l l' a is), total-append weight (preds_in l') (view_pred a.now ∷ []))

two_behind : (l l2 : List (Bor Pred)) (x y : Bor Pred) → pointed l2 ≡ pointed l ++ (y.now ∷ x.now ∷ []) → preds_in l2 ≡ preds_in l ++ (view_pred y.now ∷ view_pred x.now ∷ [])
two_behind l l2 x y there = ap (map view_pred) there ∙ map-append view_pred (pointed l) (y.now ∷ x.now ∷ [])

-- ---- one turn

module _ (l l' : List (Bor Pred)) (a : Bor Pred) where
  pub apart_turn : (l2 : List (Bor Pred)) (x y : Bor Pred) (found : List (Bor Pred)) (whole : List p.Pred) → l ≡ l' ++ a ∷ [] → Some (view_pred x.now, view_pred y.now) ≡ sides (view_pred a.now)
      → pointed l2 ≡ pointed l' ++ (y.now ∷ x.now ∷ []) → preds_in found ++ pending (preds_in l) ≡ whole → preds_in found ++ pending (preds_in l2) ≡ whole
  apart_turn l2 x y found whole taken seen there sofar =
      let apart : conjuncts (view_pred a.now) ≡ conjuncts (view_pred x.now) ++ conjuncts (view_pred y.now) =
      by_its_sides (view_pred a.now) ∙ ap (by_sides (view_pred a.now)) (sym seen) in
      ap (λ ps. preds_in found ++ ps)
      (ap pending (two_behind l' l2 x y there) ∙ pending-append (preds_in l') (view_pred y.now ∷ view_pred x.now ∷ []) ∙ ap (λ ps. ps ++ pending (preds_in l')) (sym apart)
      ∙ sym (pending_one l l' a taken))
      ∙ sofar

  pub apart_lighter : (l2 : List (Bor Pred)) (x y : Bor Pred) → l ≡ l' ++ a ∷ [] → Some (view_pred x.now, view_pred y.now) ≡ sides (view_pred a.now) → pointed l2 ≡ pointed l' ++ (y.now ∷ x.now ∷ [])
      → left_weight l2 < left_weight l
  apart_lighter l2 x y taken seen there =
      omega (arith, ap (total weight) (two_behind l' l2 x y there), total-append weight (preds_in l') (view_pred y.now ∷ view_pred x.now ∷ []), weighs_one l l' a taken, weight_is (view_pred a.now) ∙ ap weight_by (sym seen))

  pub whole_turn : (found found' : List (Bor Pred)) (whole : List p.Pred) → l ≡ l' ++ a ∷ [] → None ≡ sides (view_pred a.now) → found' ≡ found ++ a ∷ []
      → preds_in found ++ pending (preds_in l) ≡ whole → preds_in found' ++ pending (preds_in l') ≡ whole
  whole_turn found found' whole taken seen put sofar =
      ap (λ ps. ps ++ pending (preds_in l')) (behind_one found' found a put) ∙ append_assoc (preds_in found) (view_pred a.now ∷ []) (pending (preds_in l'))
      ∙ ap (λ ps. preds_in found ++ (ps ++ pending (preds_in l'))) (sym (by_its_sides (view_pred a.now) ∙ ap (by_sides (view_pred a.now)) (sym seen)))
      ∙ ap (λ ps. preds_in found ++ ps) (sym (pending_one l l' a taken)) ∙ sofar

  pub whole_lighter : l ≡ l' ++ a ∷ [] → None ≡ sides (view_pred a.now) → left_weight l' < left_weight l
  whole_lighter taken seen = omega (arith, weighs_one l l' a taken, weight_is (view_pred a.now) ∙ ap weight_by (sym seen))

pub ended : (l found : List (Bor Pred)) (whole : List p.Pred) → l ≡ [] → preds_in found ++ pending (preds_in l) ≡ whole → preds_in found ≡ whole
ended l found whole none sofar = sym (append-nil (preds_in found)) ∙ ap (λ l. preds_in found ++ pending (preds_in l)) (sym none) ∙ sofar

pub ruleset turns = (apart_turn, apart_lighter, whole_turn, whole_lighter, ended)
