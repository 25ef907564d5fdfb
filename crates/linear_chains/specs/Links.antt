-- Links: linear forms over numbered classes, each at most a bound.
use Rattle.std.specs.Prelude.{◌≡◌, ◌≢◌, ℕ, ◌<◌, ◌==◌, Bool, if◌then◌else◌, ℤ, pos, ◌+ℤ◌, ◌*ℤ◌, negsuc, int_lt, neg_ℤ, List, [], ◌∷◌, map}

-- classes and their coefficients
abbrev pub Form : Type 0
Form = List (ℕ × ℤ)

abbrev pub IsAbove : ℕ → Form → Type 0
IsAbove c [] = Unit {0}
IsAbove c (p ∷ f) = c < p.0

-- classes in order, each once, none with coefficient 0
abbrev pub IsOrdered : Form → Type 0
IsOrdered [] = Unit {0}
IsOrdered (p ∷ f) = (p.1 ≢ pos 0) × IsAbove (p.0) f × IsOrdered f

-- the coefficient of a class
abbrev pub times_at : Form → ℕ → ℤ
times_at [] c = pos 0
times_at (p ∷ f) c = (if p.0 == c then p.1 else pos 0) +ℤ times_at f c

-- ---- the two sides of a form: what is added, and what is taken away

abbrev pub positive : Form → Form
positive [] = []
positive (p ∷ f) = if int_lt (pos 0) (p.1) then p ∷ positive f else positive f

abbrev pub turned : ℕ × ℤ → ℕ × ℤ
turned p = (p.0, neg_ℤ (p.1))

abbrev pub negative : Form → Form
negative [] = []
negative (p ∷ f) = if int_lt (p.1) (pos 0) then turned p ∷ negative f else negative f

-- the form is at most the bound
pub record Link : Type 0 where
  pub form : Form
  pub bound : ℤ

-- what is added less what is taken away is at most the bound
pub record Step : Type 0 where
  pub from : Form
  pub to : Form
  pub bound : ℤ

abbrev pub step_of : Link → Step
step_of l = record { from = positive (l.form); to = negative (l.form); bound = l.bound }
