-- Sets of temporaries as lists of bits.
use Rattle.std.specs.Prelude.{ℕ, zero, suc, Bool, not, ◌&&◌, ◌||◌, List, [], ◌∷◌, ◌++◌, map}
use Rattle.typed_prog.specs.Tree as t
use Rattle.c_runs.specs.Tree.{Step, Steps}
use Rattle.checked_trees.specs.View.{steps_of}
use Rattle.plain_runs.specs.Kept.{temps}
use Rattle.program_steps.specs.Temporaries.{Temporaries, uses, live, all_live}
use Rattle.walk_live.specs.declared.behind.Behind.{Behind}

-- which of the first ones are in it
abbrev pub bits : (count : ℕ) → Temporaries → List Bool
bits zero f = []
bits (suc n) f = f zero ∷ bits n (λ i. f (suc i))

abbrev pub all_bits : (count : ℕ) → List Temporaries → List (List Bool)
all_bits n fs = map (bits n) fs

-- those before a statement, or in it, that aren't used behind it
abbrev pub unused_behind : Step → List Temporaries → (behind : Temporaries) → Temporaries
unused_behind s os f n = (live s os f n || temps s n) && not (f n)

-- those that aren't used in an arm
abbrev pub unused_in : t.Value → (other own : Steps) → List Temporaries → (after : Temporaries) → Temporaries
unused_in e b a os f n = (uses e n || all_live b os f n) && not (all_live a os f n)

-- behind each of these statements, the last one first
abbrev pub behind_each : (count : ℕ) → List Temporaries → (after : Temporaries) → List Step → List Behind
behind_each n os f [] = []
behind_each n os f (s ∷ ss) =
    behind_each n os f ss ++ record { live = bits n (all_live (steps_of ss) os f); unused = bits n (unused_behind s os (all_live (steps_of ss) os f)) } ∷ []
