-- Digits read one after the other, and how large their number is.
use Rattle.std.proofs.Common.{◌≡◌, ℕ, true, ◌&&◌, ◌+◌, ◌*◌, ◌-◌, ◌<◌, ◌≤◌, List, [], ◌∷◌, ◌++◌, take, length, get_or, sym, ap, ◌∙◌, subst, arith}
use Rattle.std.specs.Prelude.{nat_le}
use Rattle.std.specs.List.{list_all}
use Rattle.std.proofs.lemmas.Bool.{and_parts, leb-true}
use Rattle.std.proofs.lemmas.List.{take_more, length-take-le}
use Rattle.std.proofs.lemmas.List.Sums.{fold-append}
use Rattle.std.proofs.lemmas.List.Folds.{list_all-append}
use Rattle.wp_words.specs.Command.{is_digit, with_digit, digits_value}

digit_most : (b : ℕ) → is_digit b ≡ true → b - 48 ≤ 9
digit_most b d =
    let low = leb-true 48 b (and_parts (nat_le 48 b) (nat_le b 57) d).0 in
    let high = leb-true b 57 (and_parts (nat_le 48 b) (nat_le b 57) d).1 in
    omega (arith, low, high)

first : (b : ℕ) (bs : List ℕ) → list_all is_digit (b ∷ bs) ≡ true → b - 48 ≤ 9
first b bs all = digit_most b (and_parts (is_digit b) (list_all is_digit bs) all).0

others : (b : ℕ) (bs : List ℕ) → list_all is_digit (b ∷ bs) ≡ true → list_all is_digit bs ≡ true
others b bs all = (and_parts (is_digit b) (list_all is_digit bs) all).1

-- up to four digits
pub four_digits : (ds : List ℕ) → list_all is_digit ds ≡ true → length ds ≤ 4 → digits_value ds ≤ 9999
four_digits [] all few = omega arith
four_digits (a ∷ []) all few = let x = first a [] all in omega (arith, x)
four_digits (a ∷ b ∷ []) all few =
    let x = first a (b ∷ []) all in
    let y = first b [] (others a (b ∷ []) all) in
    omega (arith, x, y)
four_digits (a ∷ b ∷ c ∷ []) all few =
    let x = first a (b ∷ c ∷ []) all in
    let y = first b (c ∷ []) (others a (b ∷ c ∷ []) all) in
    let z = first c [] (others b (c ∷ []) (others a (b ∷ c ∷ []) all)) in
    omega (arith, x, y, z)
four_digits (a ∷ b ∷ c ∷ d ∷ []) all few =
    let x = first a (b ∷ c ∷ d ∷ []) all in
    let y = first b (c ∷ d ∷ []) (others a (b ∷ c ∷ d ∷ []) all) in
    let z = first c (d ∷ []) (others b (c ∷ d ∷ []) (others a (b ∷ c ∷ d ∷ []) all)) in
    let w = first d [] (others c (d ∷ []) (others b (c ∷ d ∷ []) (others a (b ∷ c ∷ d ∷ []) all))) in
    omega (arith, x, y, z, w)
four_digits (a ∷ b ∷ c ∷ d ∷ e ∷ ds) all few = absurd (omega (arith, few))

-- what was read so far is small enough for one digit more
pub so_far : (text : List ℕ) (i n : ℕ) → n ≡ digits_value (take i text) → list_all is_digit (take i text) ≡ true → i < length text → length text ≤ 5 → n ≤ 9999
so_far text i n is all within few = subst (λ m. m ≤ 9999) (sym is) (four_digits (take i text) all (taken_length text i within few))
  where
    taken_length : (text : List ℕ) (i : ℕ) → i < length text → length text ≤ 5 → length (take i text) ≤ 4
    taken_length text i within few = let same = length-take-le i text (omega (arith, within)) in omega (arith, same, within, few)

-- one digit more
pub one_more : (text : List ℕ) (i n b : ℕ) → i < length text → b ≡ get_or text i b → n ≡ digits_value (take i text) → n * 10 + (b - 48) ≡ digits_value (take (i + 1) text)
one_more text i n b within is so =
    sym (ap digits_value (take_more text i b within ∙ ap (λ z. take i text ++ z ∷ []) (sym is))
    ∙ fold-append with_digit 0 (take i text) (b ∷ []) ∙ ap (λ m. with_digit m b) (sym so))

pub digits_more : (text : List ℕ) (i b : ℕ) → i < length text → b ≡ get_or text i b → list_all is_digit (take i text) ≡ true → is_digit b ≡ true → list_all is_digit (take (i + 1) text) ≡ true
digits_more text i b within is so d =
    ap (list_all is_digit) (take_more text i b within ∙ ap (λ z. take i text ++ z ∷ []) (sym is))
    ∙ list_all-append is_digit (take i text) (b ∷ []) ∙ ap (λ x. x && list_all is_digit (b ∷ [])) so ∙ ap (λ x. x && true) d
