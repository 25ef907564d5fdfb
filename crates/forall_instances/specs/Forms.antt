-- A form with a name, taken apart, and forms divided part by part.
use Rattle.std.specs.Prelude.{◌≡◌, ℕ, suc, Bool, true, false, ℤ, int_div, if◌then◌else◌, List, [], ◌∷◌, Option, Some, None, option_map}
use Rattle.std.specs.Option.{option_and_then}
use Rattle.qed_terms.specs.Tree.{Tree}
use Rattle.qed_linear.specs.Linear.{Part, Lin, part, lin, checked, subtract, parts_fit, of_lin}
use Rattle.qed_linear.specs.View.{lin_of}
use Rattle.forall_instances.specs.declared.forms.Beside.{Beside}
use Rattle.forall_instances.specs.declared.forms.Passes.{Passes}
use Rattle.forall_instances.specs.declared.forms.Passes.TheVariants as may
use Rattle.instance_rows.specs.Triggers.{is_variable, times_in, without_name, is_nonzero, is_one, divided, parts_over}

-- how many parts stand before the one of the name; all of them where none is
abbrev pub place_in : List ℕ → List Part → ℕ
place_in x [] = 0
place_in x (p ∷ ps) = if is_variable x p.atom then 0 else suc (place_in x ps)

-- which coefficients of the name pass
abbrev pub may_pass : Passes → ℤ → Bool
may_pass may.Nonzero = is_nonzero
may_pass may.One = is_one

-- a form taken apart at a name
pub record IsApart (x : List ℕ) (f : Lin) (b : Beside) : Type 0 where
  pub times : b.times ≡ times_in x f.parts
  pub others : lin_of b.others ≡ lin (without_name x f.parts) f.constant

-- the form for which the name makes the form that was taken apart the other one, and its term
abbrev pub solved_by : (may : Bool) → ℤ → (others other : Lin) → Option Lin
solved_by b c f g = if b then option_and_then (divided c) (checked (subtract g f)) else None

abbrev pub term_by : (may : ℤ → Bool) → Beside → (other : Lin) → Option Tree
term_by may b g = option_map of_lin (solved_by (may b.times) b.times (lin_of b.others) g)

-- ---- parts divided by a number

-- a part that is of an integer and fits; none where it isn't
abbrev pub IsPartOver : ℤ → Part → Option Part → Type 0
IsPartOver c p None = parts_fit (part p.atom (int_div p.times c) ∷ []) ≡ false
IsPartOver c p (Some q) = (q ≡ part p.atom (int_div p.times c)) × (parts_fit (q ∷ []) ≡ true)

-- several
abbrev pub ArePartsOver : ℤ → List Part → Option (List Part) → Type 0
ArePartsOver c ps None = parts_fit (parts_over c ps) ≡ false
ArePartsOver c ps (Some qs) = (qs ≡ parts_over c ps) × (parts_fit qs ≡ true)
