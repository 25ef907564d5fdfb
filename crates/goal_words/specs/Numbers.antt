-- Numbers and flags as words. A number is read where its own text stands there, so it has one text.
use Rattle.std.specs.Prelude.{ℕ, ◌^◌, ◌&&◌, nat_lt, Bool, true, false, List, codes, Option, Some, None, ℤ, pos, negsuc, if◌then◌else◌}
use Rattle.std.specs.Str.{bytes_eq}
use Rattle.std.specs.Str.Parse.{digits_value, signed_digits_value, without_leading_plus}
use Rattle.std.specs.Fmt.{decimal, signed_decimal}
use Rattle.goal_words.specs.Bytes.{only_if}

-- from -2^127 to 2^127 - 1
abbrev pub fits_128 : ℤ → Bool
fits_128 (pos n) = nat_lt n (2 ^ 127)
fits_128 (negsuc n) = nat_lt n (2 ^ 127)

-- the number whose text this is
unfoldable pub number : List ℕ → Option ℤ
number word = let z = signed_digits_value 10 word in only_if (fits_128 z && bytes_eq (signed_decimal z) word) z

-- the number of 32 bits whose text this is
unfoldable pub count : List ℕ → Option ℕ
count word = let n = digits_value 10 (without_leading_plus word) in only_if (nat_lt n (2 ^ 32) && bytes_eq (decimal n) word) n

abbrev pub flag_text : Bool → List ℕ
flag_text true = codes "1"
flag_text false = codes "0"

abbrev pub flag : List ℕ → Option Bool
flag word = if bytes_eq word (codes "1") then Some true else (if bytes_eq word (codes "0") then Some false else None)
