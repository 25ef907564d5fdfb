-- Values that no head tells apart: memories that hold the same at each address, and else equal values.
use Rattle.std.specs.Prelude.{◌≡◌, ℕ, ℤ, List, [], ◌∷◌}
use Rattle.qed_terms.specs.declared.head.Head.{Head}
use Rattle.qed_terms.specs.Memory.{Memory, load}
use Rattle.qed_terms.specs.Meaning.{Value, Cells, Values, World, head_meaning}
use Rattle.qed_terms.specs.Setting.{Setting, world_of}

abbrev pub SameMap : Memory → Memory → Type 0
SameMap m n = (block offset : ℤ) → load m block offset ≡ load n block offset

abbrev pub Alike : Value → Value → Type 0
Alike (Cells m) (Cells n) = SameMap m n
Alike (Cells m) v = ⊥
Alike v w = v ≡ w

abbrev pub AllAlike : List Value → List Value → Type 0
AllAlike [] [] = Unit {0}
AllAlike [] (w ∷ ws) = ⊥
AllAlike (v ∷ vs) [] = ⊥
AllAlike (v ∷ vs) (w ∷ ws) = Alike v w × AllAlike vs ws

-- the logic functions of a world don't tell them apart either
abbrev pub RespectsAlike : World → Type 0
RespectsAlike world = (f : List ℕ) (vs ws : List Value) → AllAlike vs ws → world.apps f vs ≡ world.apps f ws

-- so it is in the world of each setting
abbrev pub SettingsRespectAlike : Type 0
SettingsRespectAlike = (s : Setting) → RespectsAlike (world_of s)

-- a head over kids that are alike under all values means alike
abbrev pub HeadsKeepAlike : Type 0
HeadsKeepAlike = (world : World) → RespectsAlike world → (head : Head) (kids kids' : Values → List Value) → ((env : Values) → AllAlike (kids env) (kids' env)) → (env : Values) → Alike (head_meaning world head kids env) (head_meaning world head kids' env)
