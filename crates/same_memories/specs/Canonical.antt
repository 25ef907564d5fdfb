-- One list for each memory. A memory is a list of entries, of which the first at an address counts, so many lists are one map; here is the one in order.
use Rattle.std.specs.Prelude.{◌≡◌, Bool, ◌&&◌, ◌||◌, if◌then◌else◌, pos, int_lt, [], ◌∷◌}
use Rattle.std.specs.Ordering.{int_eq}
use Rattle.qed_terms.specs.Memory.{Entry, Memory, is_at}

-- by the block, then by the offset
abbrev pub is_before : Entry → Entry → Bool
is_before d e = int_lt d.block e.block || (int_eq d.block e.block && int_lt d.offset e.offset)

-- what holds 0 isn't listed
abbrev pub listed : Entry → Memory → Memory
listed d m = if int_eq d.value (pos 0) then m else d ∷ m

-- into a list in order, in the place of another entry at its address
abbrev pub put_entry : Entry → Memory → Memory
put_entry d [] = listed d []
put_entry d (e ∷ m) = if is_before d e then listed d (e ∷ m) else if is_at d.block d.offset e then listed d m else e ∷ put_entry d m

-- the same map in order: each address once, and none that holds 0
unfoldable pub canonical : Memory → Memory
canonical [] = []
canonical (e ∷ m) = put_entry e (canonical m)

abbrev pub IsCanonical : Memory → Type 0
IsCanonical m = canonical m ≡ m
