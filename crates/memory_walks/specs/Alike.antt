-- Changes that are written alike: the walk looks at nothing else of them.
use Rattle.std.specs.Prelude.{◌≡◌, ℕ, List, [], ◌∷◌}
use Rattle.memory_steps.specs.State.{Base}
use Rattle.memory_steps.specs.Forms.{Slots, written_facts}
use Rattle.memory_steps.specs.Step.{Change, keeps, fresh, raised}
use Rattle.memory_steps.specs.World.{name_for}

-- over these slots, for each name that a slot of this base may get
abbrev pub IsAlike : List Slots → Base → Change → Change → Type 0
IsAlike ss b keeps keeps = Unit {0}
IsAlike ss b keeps (fresh gs) = ⊥
IsAlike ss b keeps raised = ⊥
IsAlike ss b (fresh fs) keeps = ⊥
IsAlike ss b (fresh fs) (fresh gs) = (x : List ℕ) → written_facts ss fs (name_for b.is_memory x) ≡ written_facts ss gs (name_for b.is_memory x)
IsAlike ss b (fresh fs) raised = ⊥
IsAlike ss b raised keeps = ⊥
IsAlike ss b raised (fresh gs) = ⊥
IsAlike ss b raised raised = Unit {0}

-- slot by slot; those without a base don't change
abbrev pub AreAlike : List Slots → List Base → List Change → List Change → Type 0
AreAlike ss bs [] [] = Unit {0}
AreAlike ss bs [] (d ∷ ds) = ⊥
AreAlike ss bs (c ∷ cs) [] = ⊥
AreAlike ss [] (c ∷ cs) (d ∷ ds) = Unit {0}
AreAlike ss (b ∷ bs) (c ∷ cs) (d ∷ ds) = IsAlike ss b c d × AreAlike ss bs cs ds
