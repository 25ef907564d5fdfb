-- Slots that change: each gets a fresh name, and its facts are known.
use Rattle.std.specs.Prelude.{pos, Bool, true, false, not, List, [], ◌∷◌, ◌++◌, Option, Some, None}
use Rattle.qed_terms.specs.Tree.{Tree, num, at_most}
use Rattle.qed_terms.specs.Order.{same}
use Rattle.qed_terms.specs.Fresh.{Used}
use Rattle.memory_steps.specs.State.{Base}
use Rattle.memory_steps.specs.Forms.{Slots, written_facts}
use Rattle.memory_steps.specs.Step.{Change, keeps, fresh, raised}
use Rattle.memory_steps.specs.World.{World, world, with_terms, pick, after_pick, after_picks, chosen}

-- a flag that is set as text stays
abbrev pub is_renewed : Change → Tree → Bool
is_renewed keeps t = false
is_renewed (fresh fs) t = true
is_renewed raised t = not (same t (num (pos 1)))

abbrev pub renewals : (bases : List Base) → Used → List Change → List Tree → List (Option Tree)
renewals bases c [] ts = []
renewals [] c (ch ∷ cs) ts = []
renewals (b ∷ bases) c (ch ∷ cs) [] = []
renewals (b ∷ bases) c (ch ∷ cs) (t ∷ ts) = let p = pick c b (is_renewed ch t) in p ∷ renewals bases (after_pick c b p) cs ts

-- what is known of a new value, over the slots before the change
abbrev pub facts_of : List Slots → Change → (new old : Tree) → List Tree
facts_of ss keeps x t = []
facts_of ss (fresh fs) x t = written_facts ss fs x
facts_of ss raised x t = at_most (num (pos 0)) x ∷ at_most x (num (pos 1)) ∷ at_most t x ∷ []

abbrev pub facts_if : List Slots → Change → Option Tree → Tree → List Tree
facts_if ss ch None t = []
facts_if ss ch (Some x) t = facts_of ss ch x t

abbrev pub facts : List Slots → List Change → List (Option Tree) → List Tree → List Tree
facts ss [] ps ts = []
facts ss (ch ∷ cs) [] ts = []
facts ss (ch ∷ cs) (p ∷ ps) [] = []
facts ss (ch ∷ cs) (p ∷ ps) (t ∷ ts) = facts_if ss ch p t ++ facts ss cs ps ts

module _ (bases : List Base) where
  abbrev pub renewed : List Slots → Used → List Change → World → World
  renewed olds c cs w =
      let ts = w.slots.terms in
      let ps = renewals bases c cs ts in
      world (w.known ++ facts (w.slots ∷ olds) cs ps ts) (with_terms w.slots (chosen ps ts))

  abbrev pub used_by_renewed : Used → List Change → World → Used
  used_by_renewed c cs w = after_picks bases (renewals bases c cs w.slots.terms) c
