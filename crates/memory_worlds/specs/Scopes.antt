-- Slots of a scope as they were before: their terms alone are kept.
use Rattle.std.specs.Prelude.{ℕ, pos, List, [], ◌∷◌, map}
use Rattle.qed_terms.specs.Tree.{Tree, num}
use Rattle.walk_steps.specs.State.{at_or, put}
use Rattle.memory_steps.specs.World.{World, world, with_terms}

-- the terms in these slots, 0 where there is none
abbrev pub saved_at : List ℕ → List Tree → List Tree
saved_at is ts = map (λ i. at_or (num (pos 0)) ts i) is

-- these slots are these terms, one after the other
abbrev pub put_all : List ℕ → List Tree → List Tree → List Tree
put_all [] saved ts = ts
put_all (i ∷ is) [] ts = ts
put_all (i ∷ is) (t ∷ saved) ts = put_all is saved (put ts i t)

abbrev pub with_saved : List ℕ → (saved : List Tree) → World → World
with_saved is saved w = world w.known (with_terms w.slots (put_all is saved w.slots.terms))
