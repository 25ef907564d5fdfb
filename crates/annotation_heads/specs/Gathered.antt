-- Lists that are gathered one after another, until something isn't there.
use Rattle.std.specs.Prelude.{Bool, true, false, List, Option, Some, None}

-- what was gathered, where all was there
abbrev pub given_if : {X : Type 0} → (all_there : Bool) → List X → Option (List X)
given_if true xs = Some xs
given_if false xs = None
