-- What is so of names and scopes, in other words than those of the definitions.
use Rattle.std.specs.Prelude.{◌≡◌, ◌≢◌, ◌↔◌, ℕ, true, false, List, [], ◌∷◌, ◌++◌, Some}
use Rattle.name_table.specs.Names.{Names, meaning_of, is_free, declared}
use Rattle.name_table.specs.Nesting.{meaning_in, entered, around, innermost, declared_in}

-- no declaration of the name
abbrev pub Lacks : {V : Type 0} → Names V → List ℕ → Type 0
Lacks [] x = Unit {0}
Lacks (d ∷ ds) x = (x ≢ d.0) × Lacks ds x

-- A declaration of the name with this meaning stands in the list, and none of the same name before it.
pub record DeclaresFirst {V : Type 0} (ds : Names V) (x : List ℕ) (v : V) : Type 0 where
  pub before : Names V
  pub behind : Names V
  pub whole : ds ≡ before ++ (x, v) ∷ behind
  pub first : Lacks before x

abbrev pub MeaningsAreDeclared : Type 0 → Type 0
MeaningsAreDeclared V = (ds : Names V) (x : List ℕ) (v : V) → (meaning_of ds x ≡ Some v) ↔ DeclaresFirst ds x v

-- After a declaration the name means what it says, or what it meant already; every other name is as before.
pub record Declares {V : Type 0} (ds : Names V) (x : List ℕ) (v : V) : Type 0 where
  pub new : is_free ds x ≡ true → meaning_of (declared ds x v) x ≡ Some v
  pub old : is_free ds x ≡ false → declared ds x v ≡ ds
  pub others : (y : List ℕ) → y ≢ x → meaning_of (declared ds x v) y ≡ meaning_of ds y

abbrev pub DeclarationsAdd : Type 0 → Type 0
DeclarationsAdd V = (ds : Names V) (x : List ℕ) (v : V) → Declares ds x v

abbrev pub AllLack : {V : Type 0} → List (Names V) → List ℕ → Type 0
AllLack [] x = Unit {0}
AllLack (s ∷ ss) x = Lacks s x × AllLack ss x

-- One of the scopes gives the name this meaning, and no scope inside it declares the name.
pub record IsInnermost {V : Type 0} (ss : List (Names V)) (x : List ℕ) (v : V) : Type 0 where
  pub outer : List (Names V)
  pub scope : Names V
  pub inner : List (Names V)
  pub whole : ss ≡ outer ++ scope ∷ inner
  pub there : DeclaresFirst scope x v
  pub hidden_by_none : AllLack inner x

abbrev pub MeaningsAreInnermost : Type 0 → Type 0
MeaningsAreInnermost V = (ss : List (Names V)) (x : List ℕ) (v : V) → (meaning_in ss x ≡ Some v) ↔ IsInnermost ss x v

-- A declaration in the innermost scope: the name means what it says, whatever it means around; every other name is as before; and when the
-- scope is left, all names mean what they meant.
pub record Hides {V : Type 0} (ss : List (Names V)) (x : List ℕ) (v : V) : Type 0 where
  pub new : is_free (innermost ss) x ≡ true → meaning_in (declared_in ss x v) x ≡ Some v
  pub others : (y : List ℕ) → y ≢ x → meaning_in (declared_in ss x v) y ≡ meaning_in ss y
  pub left : around (declared_in ss x v) ≡ around ss

abbrev pub DeclarationsHide : Type 0 → Type 0
DeclarationsHide V = (ss : List (Names V)) (x : List ℕ) (v : V) → Hides ss x v

-- A scope that was entered declares nothing, and leaving it gives the scopes around.
pub record Enters {V : Type 0} (ss : List (Names V)) : Type 0 where
  pub same : (x : List ℕ) → meaning_in (entered ss) x ≡ meaning_in ss x
  pub free : (x : List ℕ) → is_free (innermost (entered ss)) x ≡ true
  pub left : around (entered ss) ≡ ss

abbrev pub ScopesAreEntered : Type 0 → Type 0
ScopesAreEntered V = (ss : List (Names V)) → Enters ss
