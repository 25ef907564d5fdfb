-- Readers on lists of bytes: what is read, and the bytes after it. A word ends at a space or a bracket; a part is one space and a word.
use Rattle.std.specs.Prelude.{ℕ, ◌==◌, ◌||◌, not, Bool, true, false, List, [], ◌∷◌, take, drop, Option, Some, None, if◌then◌else◌}
use Rattle.std.specs.List.{prefix_len}

abbrev pub Reader : Type 0 → Type 0
Reader X = List ℕ → Option (X × List ℕ)

infixl 10 ◌>>=◌
abbrev pub ◌>>=◌ : {X Y : Type 0} → Option X → (X → Option Y) → Option Y
None >>= f = None
(Some x) >>= f = f x

abbrev pub only_if : {X : Type 0} → Bool → X → Option X
only_if test x = if test then Some x else None

abbrev pub with_rest : {X : Type 0} → List ℕ → Option X → Option (X × List ℕ)
with_rest rest None = None
with_rest rest (Some x) = Some (x, rest)

-- the bytes after this one
abbrev pub expect : ℕ → List ℕ → Option (List ℕ)
expect b [] = None
expect b (c ∷ bytes) = if c == b then Some bytes else None

-- no byte is left
abbrev pub is_end : List ℕ → Bool
is_end [] = true
is_end (b ∷ rest) = false

-- neither a space nor a bracket
abbrev pub is_plain : ℕ → Bool
is_plain b = not (b == 32 || b == 40 || b == 41)

-- a text that ends here, or goes on with a space or a bracket
abbrev pub ends : List ℕ → Bool
ends [] = true
ends (b ∷ rest) = not (is_plain b)

-- the word at the front, and what comes after it
unfoldable pub front : List ℕ → List ℕ
front bytes = take (prefix_len is_plain bytes) bytes

unfoldable pub after : List ℕ → List ℕ
after bytes = drop (prefix_len is_plain bytes) bytes

-- a space and a word
abbrev pub part : Reader (List ℕ)
part bytes = expect 32 bytes >>= λ rest. Some (front rest, after rest)

-- a space and what the word after it names
abbrev pub named_part : {X : Type 0} → (List ℕ → Option X) → Reader X
named_part names bytes = part bytes >>= λ x. with_rest x.1 (names x.0)
