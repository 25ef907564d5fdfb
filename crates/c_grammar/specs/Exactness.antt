-- What it is that a reader reads what is spelled, and all of it.
use Rattle.std.specs.Prelude.{◌≡◌, ℕ, ◌-◌, ◌≤◌, List, ◌++◌, length, Some}
use Rattle.c_syntax.specs.declared.token.Token.{Token}
use Rattle.c_grammar.specs.Reading.{Reader}

-- some tokens at the front are spelled so, and these come after them
abbrev pub Took : {X : Type 0} → (List Token → X → Type 0) → List Token → X → List Token → Type 0
Took S ts a rest = (xs : List Token) × (ts ≡ xs ++ rest) × S xs a

-- what is read is spelled so
abbrev pub Sound : {X : Type 0} → (List Token → X → Type 0) → Reader X → Type 0
Sound {X} S read = (ts : List Token) (a : X) (rest : List Token) → read ts ≡ Some (a, rest) → Took S ts a rest

-- what is spelled is read, where the tokens behind it may follow
abbrev pub Complete : {X : Type 0} → (S : List Token → X → Type 0) → (MayFollow : List Token → Type 0) → Reader X → Type 0
Complete {X} S MayFollow read = (xs : List Token) (a : X) → S xs a → (rest : List Token) → MayFollow rest → read (xs ++ rest) ≡ Some (a, rest)

pub record IsExact {X : Type 0} (S : List Token → X → Type 0) (MayFollow : List Token → Type 0) (read : Reader X) : Type 0 where
  pub sound : Sound S read
  pub complete : Complete S MayFollow read

-- ---- the same where the place of the first token counts, from the number of all tokens

abbrev pub SoundAt : {X : Type 0} → ((at : ℕ) → List Token → X → Type 0) → (end : ℕ) → Reader X → Type 0
SoundAt {X} S end read = (ts : List Token) (a : X) (rest : List Token) → length ts ≤ end → read ts ≡ Some (a, rest) → Took (S (end - length ts)) ts a rest

abbrev pub CompleteAt : {X : Type 0} → (S : (at : ℕ) → List Token → X → Type 0) → (MayFollow : List Token → Type 0) → (end : ℕ) → Reader X → Type 0
CompleteAt {X} S MayFollow end read = (ts : List Token) → length ts ≤ end → (xs : List Token) (a : X) (rest : List Token) → ts ≡ xs ++ rest → S (end - length ts) xs a → MayFollow rest → read ts ≡ Some (a, rest)

pub record IsExactAt {X : Type 0} (S : (at : ℕ) → List Token → X → Type 0) (MayFollow : List Token → Type 0) (end : ℕ) (read : Reader X) : Type 0 where
  pub sound : SoundAt S end read
  pub complete : CompleteAt S MayFollow end read
