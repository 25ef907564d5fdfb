-- Readers on bytes: what is read at the front, and what stands behind it.
use Rattle.std.specs.Prelude.{ℕ, zero, suc, ◌==◌, ◌||◌, not, Bool, true, false, List, [], ◌∷◌, ◌++◌, length, Option, Some, None, option_map, if◌then◌else◌}
use Rattle.std.specs.List.{list_all}
use Rattle.goal_words.specs.Bytes.{Reader}

-- what stands behind these first bytes
abbrev pub after : List ℕ → List ℕ → Option (List ℕ)
after [] bytes = Some bytes
after (p ∷ ps) [] = None
after (p ∷ ps) (b ∷ bytes) = if b == p then after ps bytes else None

-- a part up to this byte ends there, and at the end of its line
abbrev pub stops : (end : ℕ) → ℕ → Bool
stops end b = b == end || b == 10

abbrev pub pushed : ℕ → List ℕ × List ℕ → List ℕ × List ℕ
pushed b p = (b ∷ p.0, p.1)

abbrev pub nothing_before : List ℕ → Option (List ℕ × List ℕ)
nothing_before bytes = Some ([], bytes)

-- the bytes of a line up to the first of this kind, and what stands behind that
unfoldable pub until : (end : ℕ) → Reader (List ℕ)
until end [] = None
until end (b ∷ bytes) = if b == end then nothing_before bytes else if b == 10 then None else option_map (pushed b) (until end bytes)

-- such a byte doesn't stand in it, nor does a newline
abbrev pub is_free_of : (end : ℕ) → List ℕ → Bool
is_free_of end part = list_all (λ b. not (stops end b)) part

-- ---- one after another

abbrev pub joined : List (List ℕ) → List ℕ
joined [] = []
joined (x ∷ xs) = x ++ joined xs

abbrev pub one_and_more : {X : Type 0} → (List ℕ → List X × List ℕ) → List ℕ → Option (X × List ℕ) → List X × List ℕ
one_and_more more bytes None = ([], bytes)
one_and_more more bytes (Some p) = (p.0 ∷ (more p.1).0, (more p.1).1)

-- as many as stand there, at most so many
unfoldable pub many : {X : Type 0} → Reader X → ℕ → List ℕ → List X × List ℕ
many at zero bytes = ([], bytes)
many at (suc n) bytes = one_and_more (many at n) bytes (at bytes)

-- all that stand there: each has a byte at least
abbrev pub all_of : {X : Type 0} → Reader X → List ℕ → List X × List ℕ
all_of at bytes = many at (length bytes) bytes
