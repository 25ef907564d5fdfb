-- The names of terms, and which of them are names of memories.
use Rattle.std.specs.Prelude.{ℕ, ◌==◌, nat_le, Bool, true, false, not, ◌&&◌, ◌||◌, if◌then◌else◌, List, [], ◌∷◌, codes}
use Rattle.std.specs.Str.{bytes_eq}
use Rattle.std.specs.List.{list_all, list_any}

abbrev pub is_digit : ℕ → Bool
is_digit b = nat_le 48 b && nat_le b 57

abbrev pub is_letter : ℕ → Bool
is_letter b = (nat_le 97 b && nat_le b 122) || (nat_le 65 b && nat_le b 90)

-- letters, digits and `_ \ % : # !`
abbrev pub is_name_byte : ℕ → Bool
is_name_byte b = is_letter b || is_digit b || list_any (λ c. b == c) (codes "_\\%:#!")

-- a name is made of these, and doesn't begin with a digit
unfoldable pub is_name : List ℕ → Bool
is_name [] = false
is_name (b ∷ bytes) = not (is_digit b) && list_all is_name_byte (b ∷ bytes)

-- digits without a leading zero, unless it is 0 itself
abbrev pub is_numeral : List ℕ → Bool
is_numeral [] = false
is_numeral (b ∷ []) = is_digit b
is_numeral (b ∷ c ∷ bytes) = not (b == 48) && list_all is_digit (b ∷ c ∷ bytes)

-- what stands before the first colon, and after it
abbrev pub before_colon : List ℕ → List ℕ
before_colon [] = []
before_colon (b ∷ bytes) = if b == 58 then [] else b ∷ before_colon bytes

abbrev pub after_colon : List ℕ → List ℕ
after_colon [] = []
after_colon (b ∷ bytes) = if b == 58 then bytes else after_colon bytes

abbrev pub kind_names : List (List ℕ)
kind_names =
    codes "bool" ∷ codes "char" ∷ codes "schar" ∷ codes "uchar" ∷ codes "short" ∷ codes "ushort" ∷ codes "int" ∷ codes "uint"
    ∷ codes "long" ∷ codes "ulong" ∷ codes "llong" ∷ codes "ullong" ∷ []

-- a kind, or the blocks or the offsets of pointers
abbrev pub memory_kinds : List (List ℕ)
memory_kinds = codes "ptrb" ∷ codes "ptro" ∷ kind_names

-- nothing, or `#` and a number
abbrev pub is_number_mark : List ℕ → Bool
is_number_mark [] = true
is_number_mark (b ∷ bytes) = b == 35 && is_numeral bytes

-- `M`, or `M#` and a number
abbrev pub is_memory_base : List ℕ → Bool
is_memory_base [] = false
is_memory_base (b ∷ bytes) = b == 77 && is_number_mark bytes

-- `M:KIND`, `M:ptrb` and `M:ptro`, with or without `#` and a number before the colon
unfoldable pub is_memory_name : List ℕ → Bool
is_memory_name bytes = is_memory_base (before_colon bytes) && list_any (bytes_eq (after_colon bytes)) memory_kinds
