-- Variables that have blocks among those of a list, and what stands in other places where places of variables are put back.
use Rattle.std.proofs.Common.{◌≡◌, ◌<◌, ℕ, zero, suc, ◌+◌, Bool, true, false, not, ◌&&◌, ◌||◌, List, [], ◌∷◌, length, Option, Some, None, slice_get, refl, sym, ap, ◌∙◌, subst, arith}
use Rattle.std.proofs.lemmas.Bool.{false≢true}
use Rattle.wp_base.specs.declared.kinds.CellKind.{CellKind}
use Rattle.typed_prog.specs.declared.operators.Variable as code
use Rattle.typed_prog.specs.declared.operators.Variable.TheVariants as variables
use Rattle.qed_terms.specs.Meaning as sense
use Rattle.c_runs.specs.Program.{Variable}
use Rattle.walk_steps.specs.State.{at_or, put, restore}
use Rattle.memory_steps.specs.State.{State, Datum, nothing, with_slots}
use Rattle.memory_steps.specs.Run.{put_back}
use Rattle.memory_words.specs.Places.{Place, value, offset, flag, Sizes, IsIn, slot, held}
use Rattle.memory_words.proofs.Lists.{put_elsewhere}
use Rattle.memory_words.proofs.SlotListing.{slots_of_places}
use Rattle.memory_words.specs.Words.{has_cell_of, own_kind, home_kinds, has_home, slots_of}
use Rattle.memory_functions.specs.GoalFunctions.{numbers_from}

or_left : (a b : Bool) → a ≡ true → (a || b) ≡ true
or_left a b e = ap (λ t. t || b) e

or_right : (a b : Bool) → b ≡ true → (a || b) ≡ true
or_right true b e = refl
or_right false b e = e

or_one : (a b : Bool) → ((a || false) ≡ true → (a || b) ≡ true) × ((a || false) ≡ false → (a || b) ≡ b)
or_one true b = ((λ h. refl), (λ h. absurd (false≢true (sym h))))
or_one false b = ((λ h. absurd (false≢true h)), (λ h. refl))

-- ---- kinds of cells

own_one : (xs : List Variable) (x : ℕ) (k : CellKind) → home_kinds xs (x ∷ []) k ≡ true → own_kind xs k ≡ true
own_one [] x k h = absurd (false≢true h)
own_one (v ∷ xs) zero k h = (or_one (not v.is_plain && has_cell_of v.layout k) (own_kind xs k)).0 h
own_one (v ∷ xs) (suc x) k h = or_right (not v.is_plain && has_cell_of v.layout k) (own_kind xs k) (own_one xs x k h)

by_one : (a b c : Bool) → (a || b) ≡ true → ((a || false) ≡ true → c ≡ true) → (b ≡ true → c ≡ true) → c ≡ true
by_one true b c h f g = f refl
by_one false b c h f g = g h

-- kinds of the blocks of some variables are kinds of the function's own blocks
pub home_own : (xs : List Variable) (ys : List ℕ) (k : CellKind) → home_kinds xs ys k ≡ true → own_kind xs k ≡ true
home_own xs [] k h = absurd (false≢true h)
home_own xs (y ∷ ys) k h = by_one _ (home_kinds xs ys k) (own_kind xs k) h (own_one xs y k) (home_own xs ys k)

pub not_own : (xs : List Variable) (ys : List ℕ) (k : CellKind) → own_kind xs k ≡ false → home_kinds xs ys k ≡ false
not_own xs ys k h = by (home_kinds xs ys k) (home_own xs ys k) where
  by : (t : Bool) → (t ≡ true → own_kind xs k ≡ true) → t ≡ false
  by true f = absurd (false≢true (sym h ∙ f refl))
  by false f = refl

-- ---- blocks

no_one : (xs : List Variable) → ((x : ℕ) (v : Variable) → slice_get xs x ≡ Some v → v.is_plain ≡ true) → (x : ℕ) → has_home xs (x ∷ []) ≡ false
no_one [] all x = refl
no_one (v ∷ xs) all zero = ap (λ t. not t || false) (all 0 v refl)
no_one (v ∷ xs) all (suc x) = no_one xs (λ y. all (suc y)) x

-- without variables that have blocks there are none
pub no_home : (xs : List Variable) → ((x : ℕ) (v : Variable) → slice_get xs x ≡ Some v → v.is_plain ≡ true) → (ys : List ℕ) → has_home xs ys ≡ false
no_home xs all [] = refl
no_home xs all (y ∷ ys) = (or_one _ (has_home xs ys)).1 (no_one xs all y) ∙ no_home xs all ys

-- ---- places

-- not of a variable of the function
abbrev pub IsElse : Place → Type 0
IsElse a = (x : ℕ) → ((value (variables.Local x) ≡ a) → ⊥) × ((offset (variables.Local x) ≡ a) → ⊥) × ((flag (variables.Local x) ≡ a) → ⊥)

abbrev pub AllBelow : ℕ → List ℕ → Type 0
AllBelow n [] = Unit {0}
AllBelow n (y ∷ ys) = (y < n) × AllBelow n ys

pub below_from : (n k count : ℕ) → k + count < suc n → AllBelow n (numbers_from k count)
below_from n k zero h = tt
below_from n k (suc c) h = (omega (arith, h), below_from n (suc k) c (omega (arith, h)))

module _ (m : sense.World) (z : Sizes) (old : State) (a : Place) (there : IsIn z a) (else_ : IsElse a) where
  restored : (ys : List ℕ) → AllBelow z.locals ys → (new : List Datum) → at_or nothing (restore nothing (slots_of m z ys) old.slots new) (slot z a) ≡ at_or nothing new (slot z a)
  restored [] h new = refl
  restored (y ∷ ys) h new =
      let one = put new (slot z (value (variables.Local y))) (at_or nothing old.slots (slot z (value (variables.Local y)))) in
      let two = put one (slot z (offset (variables.Local y))) (at_or nothing old.slots (slot z (offset (variables.Local y)))) in
      let three = put two (slot z (flag (variables.Local y))) (at_or nothing old.slots (slot z (flag (variables.Local y)))) in
      restored ys h.1 three
      ∙ put_elsewhere nothing two (slot z (flag (variables.Local y))) (slot z a) _ (λ e. (else_ y).2 ((slots_of_places z).differ (flag (variables.Local y)) a h.0 there e))
      ∙ put_elsewhere nothing one (slot z (offset (variables.Local y))) (slot z a) _ (λ e. (else_ y).1 ((slots_of_places z).differ (offset (variables.Local y)) a h.0 there e))
      ∙ put_elsewhere nothing new (slot z (value (variables.Local y))) (slot z a) _ (λ e. (else_ y).0 ((slots_of_places z).differ (value (variables.Local y)) a h.0 there e))

  -- what stands elsewhere stays
  pub back_elsewhere : (ys : List ℕ) → AllBelow z.locals ys → (new : State) → held z (put_back (slots_of m z ys) old new) a ≡ held z new a
  back_elsewhere ys h new = restored ys h new.slots
