-- The variables of a file, from a place on.
use Rattle.std.proofs.Common.{◌≡◌, ℕ, zero, suc, ◌+◌, ◌<◌, ◌≤◌, List, [], ◌∷◌, ◌++◌, map, length, drop, get_or, refl, sym, ap, ◌∙◌, append_assoc, append-nil, arith}
use Rattle.std.proofs.lemmas.List.{at_drop_more, at_drop_all, map-append}
use Rattle.c_runs.specs.Program as program
use Rattle.core_trees.specs.declared.variables.FunctionVariable.{FunctionVariable}
use Rattle.core_trees.specs.View.{view_variable}
use Rattle.plain_states.specs.Scopes.{kind_of}
use Rattle.acsl_encode.specs.Readings.{Global, integer_global}
use Rattle.annotation_words.specs.View.{view_global}
use Rattle.annotation_words.specs.declared.readings.GlobalName.{GlobalName}
use Rattle.plain_annotations.specs.Settings.{globals_from}
use Rattle.logic_calls.specs.View.{name_at}

pub name_there : (xs : List (List ℕ)) (i : ℕ) (x : List ℕ) → i < length xs → x ≡ get_or xs i x → x ≡ name_at xs i
name_there [] i x l is = absurd (omega (arith, l))
name_there (y ∷ xs) zero x l is = is
name_there (y ∷ xs) (suc i) x l is = name_there xs i x (omega (arith, l)) is

pub name_past : (xs : List (List ℕ)) (i : ℕ) → length xs ≤ i → [] ≡ name_at xs i
name_past [] i l = refl
name_past (y ∷ xs) zero l = absurd (omega (arith, l))
name_past (y ∷ xs) (suc i) l = name_past xs i (omega (arith, l))

pub ruleset name_laws = (name_there, name_past)

step : (n : ℕ) (w : program.Variable) (ws : List program.Variable) (xs : List (List ℕ)) (i : ℕ)
    → globals_from n (w ∷ ws) (drop i xs) ≡ integer_global n (kind_of w) (name_at xs i) ∷ globals_from (suc n) ws (drop (suc i) xs)
step n w ws [] zero = refl
step n w ws [] (suc i) = refl
step n w ws (x ∷ xs) zero = refl
step n w ws (x ∷ xs) (suc i) = step n w ws xs i

module _ (vs : List FunctionVariable) (xs : List (List ℕ)) where
  abbrev pub file_from : ℕ → List Global
  file_from i = globals_from i (map view_variable (drop i vs)) (drop i xs)

  opened : (i : ℕ) (v : FunctionVariable) → i < length vs → v ≡ get_or vs i v → file_from i ≡ integer_global i (kind_of (view_variable v)) (name_at xs i) ∷ file_from (i + 1)
  opened i v l is =
      let more : suc i ≡ i + 1 = omega arith in
      at_drop_more (λ us. globals_from i (map view_variable us) (drop i xs)) vs i v l
      ∙ step i (view_variable (get_or vs i v)) (map view_variable (drop (i + 1) vs)) xs i
      ∙ (λ j. integer_global i (kind_of (view_variable (sym is j))) (name_at xs i) ∷ globals_from (more j) (map view_variable (drop (i + 1) vs)) (drop (more j) xs))

  pub file_turn : (i : ℕ) (v : FunctionVariable) (done more : List GlobalName) (g : GlobalName) (whole : List Global) → map view_global done ++ file_from i ≡ whole
      → i < length vs → v ≡ get_or vs i v → view_global g ≡ integer_global i (kind_of (view_variable v)) (name_at xs i) → more ≡ done ++ g ∷ []
      → map view_global more ++ file_from (i + 1) ≡ whole
  file_turn i v done more g whole so l is made pushed =
      ap (λ zs. map view_global zs ++ file_from (i + 1)) pushed ∙ ap (λ zs. zs ++ file_from (i + 1)) (map-append view_global done (g ∷ []))
      ∙ append_assoc (map view_global done) (view_global g ∷ []) (file_from (i + 1)) ∙ ap (λ z. map view_global done ++ z ∷ file_from (i + 1)) made
      ∙ ap (λ zs. map view_global done ++ zs) (sym (opened i v l is)) ∙ so

  pub file_end : (i : ℕ) (done : List GlobalName) (whole : List Global) → map view_global done ++ file_from i ≡ whole → length vs ≤ i → map view_global done ≡ whole
  file_end i done whole so l =
      sym (append-nil (map view_global done))
      ∙ ap (λ zs. map view_global done ++ zs) (sym (at_drop_all (λ us. globals_from i (map view_variable us) (drop i xs)) vs i l ∙ none i)) ∙ so
    where
      none : (i : ℕ) → globals_from i [] (drop i xs) ≡ []
      none i = refl

pub ruleset file_laws = (file_turn, file_end)
