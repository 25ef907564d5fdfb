-- One definition more.
use Rattle.std.proofs.Common.{◌≡◌, ℕ, zero, suc, ◌+◌, ◌==◌, Bool, true, false, if◌then◌else◌, List, [], ◌∷◌, ◌++◌, map, length, refl, ap, ◌∙◌, length-append, arith}
use Rattle.std.specs.Prelude.{Option, Some, None, option_map}
use Rattle.std.proofs.lemmas.Bool.{eqb-true, eqb-false}
use Rattle.std.proofs.lemmas.List.{map-append}
use Rattle.qed_terms.specs.Setting.{Logic}
use Rattle.qed_terms.specs.View.{view_logic}
use Rattle.qed_terms.specs.declared.setting.LogicFn.{LogicFn}
use Rattle.acsl_encode.specs.Readings as r
use Rattle.acsl_encode.specs.Setting.{in_form, with_called, more_logic}
use Rattle.annotation_words.specs.View.{view_called, called_in}
use Rattle.annotation_words.specs.declared.readings.Called.{Called}
use Rattle.logic_settings.specs.Growing.{Grows}

known_last : (xs : List (Option Called)) (o : Option Called) (f : ℕ) → f ≡ length xs → called_in (xs ++ o ∷ []) f ≡ option_map view_called o
known_last [] o zero e = refl
known_last [] o (suc f) e = absurd (omega (arith, e))
known_last (x ∷ xs) o zero e = absurd (omega (arith, e))
known_last (x ∷ xs) o (suc f) e = known_last xs o f (omega (arith, e))

known_other : (xs : List (Option Called)) (o : Option Called) (f : ℕ) → (f ≡ length xs → ⊥) → called_in (xs ++ o ∷ []) f ≡ called_in xs f
known_other [] o zero h = absurd (h refl)
known_other [] o (suc f) h = refl
known_other (x ∷ xs) o zero h = refl
known_other (x ∷ xs) o (suc f) h = known_other xs o f (λ e. h (ap suc e))

pub known_more : (xs : List (Option Called)) (o : Option Called) (f : ℕ) → called_in (xs ++ o ∷ []) f ≡ with_called (length xs) (option_map view_called o) (called_in xs) f
known_more xs o f = by (f == length xs) refl
  where
    by : (b : Bool) → (f == length xs) ≡ b → called_in (xs ++ o ∷ []) f ≡ (if b then option_map view_called o else called_in xs f)
    by true e = known_last xs o f (eqb-true f (length xs) e)
    by false e = known_other xs o f (eqb-false f (length xs) e)

one_more : (xs : List (Option Called)) (o : Option Called) (n : ℕ) → length xs ≡ n → length (xs ++ o ∷ []) ≡ n + 1
one_more xs o n e = omega (arith, length-append xs (o ∷ []), e)

put_one : (n : ℕ) (c : r.Called) (made : Option Logic) (o : Option Called) (known more : List (Option Called)) (logic all : List LogicFn)
    → option_map view_called o ≡ in_form c made → more ≡ known ++ o ∷ [] → map view_logic all ≡ more_logic (map view_logic logic) made → Grows n c made known more logic all
put_one n c made o known more logic all is pushed setting = record {
  many = λ e. ap length pushed ∙ one_more known o n e;
  called = λ e f. ap (λ xs. called_in xs f) pushed ∙ known_more known o f ∙ (λ i. with_called (e i) (is i) (called_in known) f);
  setting = setting;
}

pub some_put : (n : ℕ) (c : Called) (f : LogicFn) (known more : List (Option Called)) (logic all : List LogicFn) → all ≡ logic ++ f ∷ [] → more ≡ known ++ Some c ∷ []
    → Grows n (view_called c) (Some (view_logic f)) known more logic all
some_put n c f known more logic all pushed put =
    put_one n (view_called c) (Some (view_logic f)) (Some c) known more logic all refl put (ap (map view_logic) pushed ∙ map-append view_logic logic (f ∷ []))

pub none_put : (n : ℕ) (c : r.Called) (known more : List (Option Called)) (logic : List LogicFn) → more ≡ known ++ None ∷ [] → Grows n c None known more logic logic
none_put n c known more logic put = put_one n c None None known more logic logic refl put refl

pub ruleset put_laws = (some_put, none_put)
