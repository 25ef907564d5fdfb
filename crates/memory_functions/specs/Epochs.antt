-- The epochs at a point of a function: where its open scopes have ended a run is in the epoch in which its block began, so that exits end what was made
-- inside of blocks.
use Rattle.std.specs.Prelude.{◌≡◌, ℕ, List, [], ◌∷◌}
use Rattle.walk_steps.specs.State.{at_or}
use Rattle.memory_steps.specs.Step.{Step}
use Rattle.memory_steps.specs.Bracketed.{Comes}
use Rattle.memory_words.specs.Points.{Open, Out, Point}

-- the epoch behind the ends of these scopes, under those of the remembered levels
abbrev pub behind_ends : (levels : List ℕ) → ℕ → List Open → ℕ
behind_ends ls x [] = x
behind_ends ls x (o ∷ os) = behind_ends ls (at_or x ls o.level) os

-- the epochs in which the blocks around began, from this one, the innermost first
abbrev pub AreEpochs : (levels : List ℕ) → ℕ → List Open → List Out → (blocks : List ℕ) → Type 0
AreEpochs ls x here outs [] = ⊥
AreEpochs ls x here [] (b ∷ bs) = behind_ends ls x here ≡ b
AreEpochs ls x here (o ∷ outs) (b ∷ bs) = (behind_ends ls x here ≡ b) × AreEpochs ls b o.scopes outs bs

-- in whatever epochs of the point, the step comes back to that in which it began
pub record StaysAt (pt : Point) (a : Step) : Type 0 where
  pub comes : (ls bs : List ℕ) (x : ℕ) → AreEpochs ls x pt.scopes pt.outs bs → Comes ls bs x a x
