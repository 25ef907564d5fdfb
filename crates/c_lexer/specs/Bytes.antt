-- Bytes by their use in tokens (C11 5.2.1, 6.4).
use Rattle.std.specs.Prelude.{ℕ, ◌-◌, Bool, false, not, ◌&&◌, ◌||◌, if◌then◌else◌, ◌==◌, nat_le, List, [], ◌∷◌, length, take, Option, Some, None}
use Rattle.std.specs.Str.{bytes_eq}

abbrev pub is_newline : ℕ → Bool
is_newline b = b == 10

-- Space, tab, newline, vertical tab, form feed and carriage return; in an annotation also `@`.
abbrev pub is_blank : (annotated : Bool) → ℕ → Bool
is_blank annotated b = b == 32 || (nat_le 9 b && nat_le b 13) || (annotated && b == 64)

abbrev pub is_digit : ℕ → Bool
is_digit b = nat_le 48 b && nat_le b 57

abbrev pub is_octal : ℕ → Bool
is_octal b = nat_le 48 b && nat_le b 55

abbrev pub is_hex : ℕ → Bool
is_hex b = is_digit b || (nat_le 97 b && nat_le b 102) || (nat_le 65 b && nat_le b 70)

-- a letter, or the underscore
abbrev pub is_letter : ℕ → Bool
is_letter b = (nat_le 97 b && nat_le b 122) || (nat_le 65 b && nat_le b 90) || b == 95

abbrev pub is_word : ℕ → Bool
is_word b = is_letter b || is_digit b

-- what a name begins with: in an annotation also a backslash
abbrev pub opens_name : (annotated : Bool) → ℕ → Bool
opens_name annotated b = is_letter b || (annotated && b == 92)

-- the letters of suffixes: `u`, `U`, `l`, `L`
abbrev pub is_suffix_letter : ℕ → Bool
is_suffix_letter b = b == 117 || b == 85 || b == 108 || b == 76

-- `x`, `X`
abbrev pub is_x : ℕ → Bool
is_x b = b == 120 || b == 88

-- the value of a digit
abbrev pub digit_value : ℕ → ℕ
digit_value b = if is_digit b then b - 48 else (if nat_le 97 b then b - 87 else b - 55)

-- printable ASCII but the single quote and the backslash
abbrev pub is_plain : ℕ → Bool
is_plain b = nat_le 32 b && nat_le b 126 && not (b == 39) && not (b == 92)

-- the value of an escape of one letter (C11 6.4.4.4)
abbrev pub letter_escape : ℕ → Option ℕ
letter_escape b =
    if b == 39 || b == 34 || b == 63 || b == 92 then Some b
    else (if b == 97 then Some 7
    else (if b == 98 then Some 8
    else (if b == 102 then Some 12
    else (if b == 110 then Some 10
    else (if b == 114 then Some 13
    else (if b == 116 then Some 9
    else (if b == 118 then Some 11
    else None)))))))

-- the first byte, if there is one, passes
abbrev pub begins : (ℕ → Bool) → List ℕ → Bool
begins test [] = false
begins test (b ∷ bytes) = test b

-- the text stands at the front
abbrev pub starts : List ℕ → List ℕ → Bool
starts text bytes = bytes_eq text (take (length text) bytes)
