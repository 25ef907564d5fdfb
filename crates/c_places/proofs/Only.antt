-- A list of one operand.
use Rattle.std.proofs.Common.{◌≡◌, ℕ, ◌+◌, List, [], ◌∷◌, ◌++◌, length, Option, Some, None, ap, ◌∙◌, refl, arith, length-append}
use Rattle.typed_prog.specs.declared.tree.Value.{Value}
use Rattle.typed_prog.specs.View.{view_value, view_values}
use Rattle.c_places.specs.Objects.{only_of}

popped_by : (xs ys : List Value) (v : Value) → xs ≡ ys ++ v ∷ [] → length ys ≡ 0 → only_of (view_values xs) ≡ Some (view_value v)
popped_by xs [] v whole none = ap (λ vs. only_of (view_values vs)) whole
popped_by xs (y ∷ ys) v whole none = absurd (omega arith)

pub only_popped : (xs ys : List Value) (v : Value) → length xs ≡ 1 → xs ≡ ys ++ v ∷ [] → only_of (view_values xs) ≡ Some (view_value v)
only_popped xs ys v one whole = popped_by xs ys v whole (omega (arith, ap length whole, length-append ys (v ∷ [])))

pub only_none : (xs : List Value) → (length xs ≡ 1 → ⊥) → only_of (view_values xs) ≡ None
only_none [] h = refl
only_none (x ∷ []) h = absurd (h refl)
only_none (x ∷ y ∷ ys) h = refl

pub ruleset only_laws = (only_popped, only_none)
