-- Fresh names: a base name with `#` and a number, which stand before its colon.
use Rattle.std.specs.Prelude.{◌≡◌, ℕ, suc, ◌+◌, ◌==◌, if◌then◌else◌, List, [], ◌∷◌, ◌++◌, map, codes}
use Rattle.std.specs.Str.{bytes_eq}
use Rattle.std.specs.Int.Digits.{digits_of}
use Rattle.qed_terms.specs.Names.{before_colon}

-- the first colon and what stands after it
abbrev pub from_colon : List ℕ → List ℕ
from_colon [] = []
from_colon (b ∷ bytes) = if b == 58 then b ∷ bytes else from_colon bytes

-- a number from 1 on in decimal, of any size
abbrev pub numeral : ℕ → List ℕ
numeral n = map (λ d. 48 + d) (digits_of 10 n)

-- the fresh name of this number, from 1, over a base name
unfoldable pub fresh_name : (base : List ℕ) → (n : ℕ) → List ℕ
fresh_name base n = before_colon base ++ (codes "#" ++ (numeral n ++ from_colon base))

-- the byte doesn't stand in it
abbrev pub Lacks : ℕ → List ℕ → Type 0
Lacks c [] = Unit {0}
Lacks c (b ∷ bytes) = (b ≡ c → ⊥) × Lacks c bytes

-- the code of `#`
abbrev pub hash : ℕ
hash = 35

-- Two fresh names over bases without `#` are the same only where base and number are.
abbrev pub FreshNamesDiffer : Type 0
FreshNamesDiffer = (a b : List ℕ) (m n : ℕ) → Lacks hash a → Lacks hash b → fresh_name a m ≡ fresh_name b n → (a ≡ b) × (m ≡ n)

-- A fresh name has a `#`, so it is no base name without one.
abbrev pub FreshNamesAreNew : Type 0
FreshNamesAreNew = (base : List ℕ) (n : ℕ) → Lacks hash (fresh_name base n) → ⊥

-- ---- how many names a base was given

-- how many fresh names each base name has been given
abbrev pub Used : Type 0
Used = List ℕ → ℕ

-- one more of this base
abbrev pub use_one : Used → List ℕ → Used
use_one c base x = if bytes_eq x base then suc (c x) else c x

abbrev pub none_used : Used
none_used x = 0

-- by a list of base names with their numbers, the first of which counts
abbrev pub used_in : List (List ℕ × ℕ) → Used
used_in [] x = 0
used_in (g ∷ gs) x = if bytes_eq x g.0 then g.1 else used_in gs x
