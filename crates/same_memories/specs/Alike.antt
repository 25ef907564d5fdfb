-- Values that no term tells apart: memories that hold the same at each address, and else equal ones.
use Rattle.std.specs.Prelude.{◌≡◌, ℕ, ℤ, List, [], ◌∷◌}
use Rattle.qed_terms.specs.Memory.{Memory, load}
use Rattle.qed_terms.specs.Meaning.{Value, Whole, Truth, Cells, Blocks, Values, World}

-- the same is held at each address
abbrev pub SameMap : Memory → Memory → Type 0
SameMap m n = (b o : ℤ) → load m b o ≡ load n b o

abbrev pub Alike : Value → Value → Type 0
Alike (Whole x) (Whole y) = x ≡ y
Alike (Truth x) (Truth y) = x ≡ y
Alike (Cells m) (Cells n) = SameMap m n
Alike (Blocks t) (Blocks u) = t ≡ u
Alike v u = ⊥

-- as many, each like its partner
abbrev pub AllAlike : List Value → List Value → Type 0
AllAlike [] [] = Unit {0}
AllAlike [] (u ∷ us) = ⊥
AllAlike (v ∷ vs) [] = ⊥
AllAlike (v ∷ vs) (u ∷ us) = Alike v u × AllAlike vs us

-- assignments that give each name alike values
pub record AlikeValues (env env' : Values) : Type 0 where
  pub ints : (x : List ℕ) → env.ints x ≡ env'.ints x
  pub memories : (x : List ℕ) → SameMap (env.memories x) (env'.memories x)
  pub tables : (x : List ℕ) → env.tables x ≡ env'.tables x

-- the logic functions of the world don't tell alike arguments apart (ACSL 2.6.3)
abbrev pub Respects : World → Type 0
Respects w = (f : List ℕ) (vs us : List Value) → AllAlike vs us → w.apps f vs ≡ w.apps f us
