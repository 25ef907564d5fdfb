-- How many names are around, counted in memory: names have numbers of 32 bits, so no name tells apart counts that are greater.
use Rattle.std.specs.Prelude.{◌≡◌, ◌≤◌, ◌⊎◌, ℕ}

abbrev pub Reaches : (counted around : ℕ) → Type 0
Reaches n d = (n ≡ d) ⊎ ((4294967296 ≤ n) × (4294967296 ≤ d))
