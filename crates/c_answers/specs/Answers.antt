-- What typing answers: a typed form, or the first fault in the order of the text. A part of a text is typed by typing its own parts in order, and then
-- by what its own rule says of them; so faults come in the order of the text, and a fault of the whole only where no part has one.
use Rattle.std.specs.Prelude.{◌≡◌, ℕ, List, [], ◌∷◌, ◌++◌, Result, Ok, Err}
use Rattle.wp_base.specs.declared.answers.Rule.{Rule}
use Rattle.wp_base.specs.declared.answers.Rule.TheVariants as rule
use Rattle.wp_base.specs.declared.answers.Refusal.{Refusal}
use Rattle.wp_base.specs.declared.answers.Stop.{Stop}
use Rattle.wp_base.specs.declared.answers.Stop.TheVariants as stop

abbrev pub Answer : Type 0 → Type 0
Answer X = Result X Refusal

abbrev pub fault : Rule → (line : ℕ) → Refusal
fault r line = record { rule = r; line = line }

-- a name that isn't declared, or is declared twice
abbrev pub unknown : {X : Type 0} → (line : ℕ) → Answer X
unknown line = Err (fault rule.Name line)

-- no type
abbrev pub wrong : {X : Type 0} → (line : ℕ) → Answer X
wrong line = Err (fault rule.Typing line)

-- too many cells
abbrev pub too_large : {X : Type 0} → (line : ℕ) → Answer X
too_large line = Err (fault rule.Limit line)

-- what stands first, and then what goes on from it
abbrev pub after : {X Y : Type 0} → Answer X → (X → Answer Y) → Answer Y
after (Ok x) f = f x
after (Err r) f = Err r

-- The code's answer, seen as a plain value, is the one given; or memory ran out.
abbrev pub Gives : {X Y : Type 0} → (see : X → Y) → Result X Stop → Answer Y → Type 0
Gives see (Ok x) given = given ≡ Ok (see x)
Gives see (Err (stop.Refused r)) given = given ≡ Err r
Gives see (Err stop.NoMemory) given = Unit {0}

-- ---- what is so

-- the parts in order, each with what it gives
abbrev pub all_of : {X : Type 0} → List (Answer X) → Answer (List X)
all_of [] = Ok []
all_of (o ∷ os) = after o (λ x. after (all_of os) (λ xs. Ok (x ∷ xs)))

-- every part gives what stands in the list
abbrev pub AllGive : {X : Type 0} → List (Answer X) → List X → Type 0
AllGive [] [] = Unit {0}
AllGive (o ∷ os) (x ∷ xs) = (o ≡ Ok x) × AllGive os xs
AllGive _ _ = ⊥

-- A part has this fault, and every part before it gives something.
pub record IsFirstFault {X : Type 0} (os : List (Answer X)) (r : Refusal) : Type 0 where
  pub before : List (Answer X)
  pub given : List X
  pub behind : List (Answer X)
  pub whole : os ≡ before ++ (Err r) ∷ behind
  pub fine : AllGive before given

-- The answer to several parts in order is a fault exactly where that is the first one's among theirs.
pub record AnswersInOrder {X : Type 0} (os : List (Answer X)) (r : Refusal) : Type 0 where
  pub first : all_of os ≡ Err r → IsFirstFault os r
  pub only : IsFirstFault os r → all_of os ≡ Err r

abbrev pub FaultsComeInOrder : Type 0
FaultsComeInOrder = (os : List (Answer ℕ)) (r : Refusal) → AnswersInOrder os r
