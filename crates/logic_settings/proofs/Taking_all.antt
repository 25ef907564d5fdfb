-- How many integers functions take, in the words of the code.
use Rattle.std.proofs.Common.{◌≡◌, ℕ, suc, ◌+◌, ◌<◌, ◌≤◌, List, [], ◌∷◌, ◌++◌, length, drop, get_or, refl, sym, ap, ◌∙◌, append_assoc, append-nil, arith}
use Rattle.std.specs.Prelude.{Option, option_map}
use Rattle.std.proofs.lemmas.List.{at_drop_more, at_drop_all}
use Rattle.acsl_expand.specs.Expansion.{Definition}
use Rattle.c_runs.specs.Program.{Facts}
use Rattle.annotation_words.specs.View.{view_called, called_in}
use Rattle.annotation_words.specs.declared.readings.Called.{Called}
use Rattle.plain_annotations.specs.Places.{params_of}
use Rattle.logic_order.specs.Names.{FileNames}
use Rattle.logic_order.specs.Order.{known_by, takes_from}
use Rattle.logic_settings.specs.Found.{takes_of}

module _ (p : Facts) (ks : List (Option Called)) where
  abbrev pub TakesFrom : ℕ → List (Option ℕ)
  TakesFrom i = takes_of p (drop i ks)

  pub takes_turn : (i : ℕ) (k : Option Called) (done more : List (Option ℕ)) (o : Option ℕ) (whole : List (Option ℕ)) → done ++ TakesFrom i ≡ whole → i < length ks
      → k ≡ get_or ks i k → o ≡ params_of p (option_map view_called k) → more ≡ done ++ o ∷ [] → more ++ TakesFrom (i + 1) ≡ whole
  takes_turn i k done more o whole so l is made pushed =
      ap (λ zs. zs ++ TakesFrom (i + 1)) pushed ∙ append_assoc done (o ∷ []) (TakesFrom (i + 1))
      ∙ ap (λ z. done ++ z ∷ TakesFrom (i + 1)) (made ∙ ap (λ q. params_of p (option_map view_called q)) is)
      ∙ ap (λ zs. done ++ zs) (sym (at_drop_more (takes_of p) ks i k l)) ∙ so

  pub takes_end : (i : ℕ) (done whole : List (Option ℕ)) → done ++ TakesFrom i ≡ whole → length ks ≤ i → done ≡ whole
  takes_end i done whole so l = sym (append-nil done) ∙ ap (λ zs. done ++ zs) (sym (at_drop_all (takes_of p) ks i l)) ∙ so

pub ruleset takes_laws = (takes_turn, takes_end)

pub takes_known : (p : Facts) (names : FileNames) (ks : List (Option Called)) (n : ℕ) (ds : List Definition) → length ks ≡ length ds
    → ((i : ℕ) → called_in ks i ≡ known_by p names (n + i)) → takes_of p ks ≡ takes_from p names n ds
takes_known p names [] n [] many so = refl
takes_known p names [] n (d ∷ ds) many so = absurd (omega (arith, many))
takes_known p names (k ∷ ks) n [] many so = absurd (omega (arith, many))
takes_known p names (k ∷ ks) n (d ∷ ds) many so =
    let here : n + 0 ≡ n = omega arith in
    let first = ap (params_of p) (so 0 ∙ ap (known_by p names) here) in
    let rest = takes_known p names ks (suc n) ds (omega (arith, many)) (λ i. so (suc i) ∙ ap (known_by p names) (next i)) in
    λ j. first j ∷ rest j
  where
    next : (i : ℕ) → n + suc i ≡ suc n + i
    next i = omega arith
