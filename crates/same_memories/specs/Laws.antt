-- What is so of memories in order, and of lists that are one map.
use Rattle.std.specs.Prelude.{◌≡◌, ◌↔◌, true, ℤ, List}
use Rattle.qed_terms.specs.Memory.{Memory, load, same_memory}
use Rattle.qed_terms.specs.Meaning.{Value, Values, World, meaning}
use Rattle.qed_terms.specs.Setting.{Setting, Param, bound, world_of}
use Rattle.qed_terms.specs.Tree.{Tree}
use Rattle.same_memories.specs.Canonical.{canonical, IsCanonical}
use Rattle.same_memories.specs.Alike.{SameMap, Alike, AllAlike, AlikeValues, Respects}

-- ---- one list for each map

-- In order the memory holds what it held.
abbrev pub CanonicalHoldsTheSame : Type 0
CanonicalHoldsTheSame = (m : Memory) (b o : ℤ) → load (canonical m) b o ≡ load m b o

-- Lists that are one map are one list in order.
abbrev pub OneListForEachMap : Type 0
OneListForEachMap = (m n : Memory) → SameMap m n → canonical m ≡ canonical n

-- What is in order stays as it is.
abbrev pub CanonicalIsCanonical : Type 0
CanonicalIsCanonical = (m : Memory) → IsCanonical (canonical m)

-- Memories are `same` exactly where they are one list in order.
abbrev pub SameIsOneList : Type 0
SameIsOneList = (m n : Memory) → (same_memory m n ≡ true) ↔ (canonical m ≡ canonical n)

-- ---- terms and formulas

-- A tree under alike assignments means alike, in a world whose functions don't tell alike arguments apart.
abbrev pub TermsDontTell : Type 0
TermsDontTell = (w : World) → Respects w → (env env' : Values) → AlikeValues env env' → (t : Tree) → Alike (meaning w env t) (meaning w env' t)

-- Parameters with alike arguments are alike.
abbrev pub ParametersAreAlike : Type 0
ParametersAreAlike = (ps : List Param) (vs us : List Value) → AllAlike vs us → AlikeValues (bound ps vs) (bound ps us)

-- The world of each setting is such a one.
abbrev pub SettingsRespect : Type 0
SettingsRespect = (s : Setting) → Respects (world_of s)
