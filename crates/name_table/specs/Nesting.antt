-- Scopes one within the other, the outermost first. An inner declaration hides an outer one of the same name (C11 6.2.1p4).
use Rattle.std.specs.Prelude.{ℕ, ◌-◌, List, [], ◌∷◌, ◌++◌, take, length, Option, None, slice_index_or}
use Rattle.std.specs.Option.{option_or}
use Rattle.name_table.specs.Names.{Names, meaning_of, declared}

-- what a name means in the innermost scope that declares it
abbrev pub meaning_in : {V : Type 0} → List (Names V) → List ℕ → Option V
meaning_in [] x = None
meaning_in (s ∷ ss) x = option_or (meaning_in ss x) (meaning_of s x)

abbrev pub entered : {V : Type 0} → List (Names V) → List (Names V)
entered ss = ss ++ [] ∷ []

-- the scopes around the innermost one
abbrev pub around : {V : Type 0} → List (Names V) → List (Names V)
around ss = take (length ss - 1) ss

-- the innermost scope; it has no names where no scope is entered
abbrev pub innermost : {V : Type 0} → List (Names V) → Names V
innermost ss = slice_index_or ss (length ss - 1) []

-- with one declaration more in the innermost scope, which is entered where there is none
abbrev pub declared_in : {V : Type 0} → List (Names V) → List ℕ → V → List (Names V)
declared_in ss x v = around ss ++ declared (innermost ss) x v ∷ []
