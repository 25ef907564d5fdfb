-- Arguments of a function over plain integers are numbers of the kinds of its parameters.
use Rattle.std.proofs.Common.{◌≡◌, ℕ, zero, suc, ◌≤◌, ℤ, Bool, true, false, ◌&&◌, List, [], ◌∷◌, map, length, Option, Some, None, slice_get, refl, sym, ap, ◌∙◌, subst, arith}
use Rattle.std.specs.List.{list_all}
use Rattle.std.proofs.lemmas.Bool.{false≢true, and_parts}
use Rattle.wp_base.specs.declared.kinds.CellKind.TheVariants as cell
use Rattle.wp_base.specs.Blocks.{Table}
use Rattle.c_kinds.specs.Models.{holds}
use Rattle.c_runs.specs.TruthStates.{Value, number, number_of}
use Rattle.c_runs.specs.Program.{Variable, Facts}
use Rattle.c_runs.specs.Scopes.{scalar_of}
use Rattle.c_runs.specs.Entry.{is_value, are_arguments, leads_well, all_lead_well}
use Rattle.plain_runs.specs.Told.{is_integer, are_one_integer, kind_of}
use Rattle.plain_runs.proofs.Told.{cell_of_integer, none_some, some_same}
use Rattle.plain_runs.specs.Fitting.{AreOf}
use Rattle.plain_runs.proofs.Whole.{number_value}

pub record Numbers (p : Facts) (xs : List Variable) (n : ℕ) (vs : List Value) : Type 0 where
  pub numbers : List ℤ
  pub same : vs ≡ map number numbers
  pub fit : AreOf p xs n numbers

module _ (p : Facts) (t : Table) where
  one_of : (x : Variable) → is_integer x ≡ true → (v : Value) → is_value p t (scalar_of x.layout.cells) v ≡ true → (v ≡ number (number_of v)) × (holds p.model (kind_of x) (number_of v) ≡ true)
  one_of x integer v h =
      let cells = (and_parts x.is_plain (are_one_integer x.layout.cells) integer).1 in
      let both = number_value p t (kind_of x) v (sym (ap (λ c. is_value p t c v) (cell_of_integer x.layout.cells cells)) ∙ h) in
      (sym both.0, both.1)

  pub numbers_of : (n : ℕ) (xs : List Variable) → list_all is_integer xs ≡ true → (vs : List Value) → are_arguments p t n xs vs ≡ true → Numbers p xs n vs
  numbers_of zero xs all [] h = record { numbers = []; same = refl; fit = (refl, λ x v z e g. absurd (none_some z g)) }
  numbers_of zero xs all (v ∷ vs) h = absurd (false≢true h)
  numbers_of (suc n) [] all [] h = absurd (false≢true h)
  numbers_of (suc n) [] all (v ∷ vs) h = absurd (false≢true h)
  numbers_of (suc n) (x ∷ xs) all [] h = absurd (false≢true h)
  numbers_of (suc n) (x ∷ xs) all (v ∷ vs) h =
      let parts = and_parts (is_integer x) (list_all is_integer xs) all in
      let both = and_parts (is_value p t (scalar_of x.layout.cells) v) (are_arguments p t n xs vs) h in
      let one = one_of x parts.0 v both.0 in
      let rest = numbers_of n xs parts.1 vs both.1 in
      record {
        numbers = number_of v ∷ rest.numbers;
        same = (λ i. (one.0 i) ∷ (rest.same i));
        fit = (ap suc rest.fit.0, λ i y z e g. at_place x xs (number_of v) rest.numbers one.1 rest.fit.1 i y z e g);
      } where
        at_place : (x : Variable) (xs : List Variable) (u : ℤ) (zs : List ℤ) → holds p.model (kind_of x) u ≡ true
            → ((i : ℕ) (y : Variable) (z : ℤ) → slice_get xs i ≡ Some y → slice_get zs i ≡ Some z → holds p.model (kind_of y) z ≡ true)
            → (i : ℕ) (y : Variable) (z : ℤ) → slice_get (x ∷ xs) i ≡ Some y → slice_get (u ∷ zs) i ≡ Some z → holds p.model (kind_of y) z ≡ true
        at_place x xs u zs h rest zero y z e g = subst (λ y. holds p.model (kind_of y) z ≡ true) (some_same x y e) (subst (λ z. holds p.model (kind_of x) z ≡ true) (some_same u z g) h)
        at_place x xs u zs h rest (suc i) y z e g = rest i y z e g

  pub arguments_are : (n : ℕ) (xs : List Variable) → list_all is_integer xs ≡ true → n ≤ length xs → (zs : List ℤ) → AreOf p xs n zs → are_arguments p t n xs (map number zs) ≡ true
  arguments_are zero xs all l [] fit = refl
  arguments_are zero xs all l (z ∷ zs) fit = let e = fit.0 in absurd (omega (arith, e))
  arguments_are (suc n) [] all l zs fit = absurd (omega (arith, l))
  arguments_are (suc n) (x ∷ xs) all l [] fit = let e = fit.0 in absurd (omega (arith, e))
  arguments_are (suc n) (x ∷ xs) all l (z ∷ zs) fit =
      let parts = and_parts (is_integer x) (list_all is_integer xs) all in
      let cells = (and_parts x.is_plain (are_one_integer x.layout.cells) parts.0).1 in
      let e = fit.0 in
      ap (λ b. b && are_arguments p t n xs (map number zs)) (ap (λ c. is_value p t c (number z)) (cell_of_integer x.layout.cells cells) ∙ fit.1 0 x z refl refl)
      ∙ arguments_are n xs parts.1 (omega (arith, l)) zs (omega (arith, e), λ i y w a b. fit.1 (suc i) y w a b)

pub numbers_lead : (zs : List ℤ) → all_lead_well (map number zs) ≡ true
numbers_lead [] = refl
numbers_lead (z ∷ zs) = numbers_lead zs
