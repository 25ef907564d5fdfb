-- Steps of a procedure as relations, and of several steps the first that applies.
use Rattle.std.specs.Prelude.{◌≡◌, ◌⊎◌, List, [], ◌∷◌, ◌++◌, Option, Some, None}

-- the step doesn't apply here
abbrev pub Stuck : {A B : Type 0} → (A → B → Type 0) → A → Type 0
Stuck {A} {B} step a = (b : B) → step a b → ⊥

-- the first step, and where it doesn't apply the second
abbrev pub or_else : {A B : Type 0} → (A → B → Type 0) → (A → B → Type 0) → A → B → Type 0
or_else first second a b = first a b ⊎ (Stuck first a × second a b)

-- the step leads to one thing at most
abbrev pub LeadsToOne : {A B : Type 0} → (A → B → Type 0) → Type 0
LeadsToOne {A} {B} step = (a : A) (b c : B) → step a b → step a c → b ≡ c

-- what a call that tries the step answers: what it leads to, or nothing where it doesn't apply
abbrev pub Tried : {A B : Type 0} → (A → B → Type 0) → A → Option B → Type 0
Tried step a None = Stuck step a
Tried step a (Some b) = step a b

-- of none of these is it so
abbrev pub NoneSo : {A : Type 0} → (A → Type 0) → List A → Type 0
NoneSo so [] = Unit {0}
NoneSo so (x ∷ xs) = (so x → ⊥) × NoneSo so xs

-- the first of a list of which it is so, with what stands before and behind it
pub record FirstSo {A : Type 0} (so : A → Type 0) (xs before : List A) (x : A) (behind : List A) : Type 0 where
  pub whole : xs ≡ before ++ x ∷ behind
  pub earlier : NoneSo so before
  pub here : so x
