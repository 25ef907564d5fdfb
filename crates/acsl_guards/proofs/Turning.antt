-- One turn of a loop that goes through a tree with a list of what is still to be looked at: the last item gives place to those that it holds.
use Rattle.std.proofs.Common.{◌≡◌, ℕ, ◌+◌, ◌<◌, Bool, true, false, ◌||◌, List, [], ◌∷◌, ◌++◌, map, refl, sym, ap, ◌∙◌, arith}
use Rattle.std.specs.List.{list_any}
use Rattle.std.specs.Borrow.{Bor}
use Rattle.std.proofs.lemmas.List.{map-append}
use Rattle.std.proofs.lemmas.List.Folds.{list_any-append}
use Rattle.acsl_guards.specs.Parts.{pointed}

pub or_none : (b : Bool) → b ≡ b || false
or_none true = refl
or_none false = refl

or_true : (b : Bool) → b || true ≡ true
or_true true = refl
or_true false = refl

-- how much a list weighs
abbrev pub total : {X : Type 0} → (X → ℕ) → List X → ℕ
total w [] = 0
total w (x ∷ xs) = w x + total w xs

pub total-append : {X : Type 0} (w : X → ℕ) (xs ys : List X) → total w (xs ++ ys) ≡ total w xs + total w ys
total-append w [] ys = omega arith
total-append w (x ∷ xs) ys = omega (arith, total-append w xs ys)

module _ {X Y : Type 0} (view : X → Y) where
  abbrev seen_in : List (Bor X) → List Y
  seen_in l = map view (pointed l)

  module _ (l l' l'' : List (Bor X)) (a : Bor X) (taken : l ≡ l' ++ a ∷ []) where
    was : seen_in l ≡ seen_in l' ++ view a.now ∷ []
    was = ap seen_in taken ∙ ap (map view) (map-append _ l' (a ∷ [])) ∙ map-append view (pointed l') (a.now ∷ [])

    pub less : (w : Y → ℕ) (parts : Y → List Y) → ((y : Y) → total w (parts y) < w y) → seen_in l'' ≡ seen_in l' ++ parts (view a.now) → total w (seen_in l'') < total w (seen_in l)
    less w parts weigh put =
        omega (arith, weigh (view a.now), ap (total w) put, ap (total w) was, total-append w (seen_in l') (parts (view a.now)), total-append w (seen_in l') (view a.now ∷ []))

    -- `so` is a test of whole trees, and `own` what a tree has of it beside the trees that it holds
    module _ (own so : Y → Bool) (parts : Y → List Y) (by_parts : (y : Y) → so y ≡ own y || list_any so (parts y)) (whole : Bool) where
      before : list_any so (seen_in l) ≡ list_any so (seen_in l') || (own (view a.now) || list_any so (parts (view a.now)))
      before =
          ap (list_any so) was ∙ list_any-append so (seen_in l') (view a.now ∷ [])
          ∙ ap (λ b. list_any so (seen_in l') || b) (sym (or_none (so (view a.now))) ∙ by_parts (view a.now))

      pub on : own (view a.now) ≡ false → seen_in l'' ≡ seen_in l' ++ parts (view a.now) → list_any so (seen_in l) ≡ whole → list_any so (seen_in l'') ≡ whole
      on not_it put sofar =
          ap (list_any so) put ∙ list_any-append so (seen_in l') (parts (view a.now))
          ∙ ap (λ b. list_any so (seen_in l') || (b || list_any so (parts (view a.now)))) (sym not_it) ∙ sym before ∙ sofar

      pub ended : own (view a.now) ≡ true → list_any so (seen_in l) ≡ whole → true ≡ whole
      ended is_it sofar =
          sym (or_true (list_any so (seen_in l'))) ∙ ap (λ b. list_any so (seen_in l') || (b || list_any so (parts (view a.now)))) (sym is_it) ∙ sym before ∙ sofar

  pub one_left : (l l' : List (Bor X)) (a : X) (so : Y → Bool) → l ≡ [] → pointed l' ≡ pointed l ++ a ∷ [] → list_any so (seen_in l') ≡ so (view a)
  one_left l l' a so none put = ap (λ xs. list_any so (map view xs)) put ∙ ap (λ l. list_any so (map view (pointed l ++ a ∷ []))) none ∙ sym (or_none (so (view a)))
