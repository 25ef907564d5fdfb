-- Memories worked by hand.
use Rattle.std.specs.Prelude.{◌≡◌, ℤ, pos, negsuc, [], ◌∷◌}
use Rattle.qed_terms.specs.Memory.{Entry, Memory}
use Rattle.same_memories.specs.Canonical.{canonical}

abbrev pub entry : (block offset value : ℤ) → Entry
entry b o z = record { block = b; offset = o; value = z }

-- four stores, the last first: block 1 at offset 3 was stored to twice
abbrev pub stored_twice : Memory
stored_twice = entry (pos 2) (pos 0) (pos 5) ∷ entry (pos 1) (pos 3) (pos 4) ∷ entry (pos 1) (pos 3) (pos 9) ∷ entry (pos 1) (pos 0) (pos 7) ∷ []

-- a zero was stored over what was held, and to an address that held nothing
abbrev pub stored_zeros : Memory
stored_zeros = entry (pos 1) (pos 0) (pos 0) ∷ entry (pos 3) (pos 2) (pos 0) ∷ entry (pos 1) (pos 0) (negsuc 7) ∷ []

-- blocks below 0 come first, and the block goes before the offset
abbrev pub below_zero : Memory
below_zero = entry (pos 2) (negsuc 0) (pos 1) ∷ entry (pos 1) (pos 6) (pos 2) ∷ entry (negsuc 0) (pos 9) (pos 3) ∷ []

pub record WorkedMemories : Type 0 where
  pub twice : canonical stored_twice ≡ entry (pos 1) (pos 0) (pos 7) ∷ entry (pos 1) (pos 3) (pos 4) ∷ entry (pos 2) (pos 0) (pos 5) ∷ []
  pub zeros : canonical stored_zeros ≡ []
  pub signs : canonical below_zero ≡ entry (negsuc 0) (pos 9) (pos 3) ∷ entry (pos 1) (pos 6) (pos 2) ∷ entry (pos 2) (negsuc 0) (pos 1) ∷ []
