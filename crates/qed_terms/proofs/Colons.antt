-- Where the first colon of a name stands.
use Rattle.std.proofs.Common.{◌≡◌, ℕ, ◌+◌, ◌<◌, ◌≤◌, ◌==◌, ◌^◌, Bool, true, false, cond, List, [], ◌∷◌, ◌++◌, ◌-◌, length, length-drop, take, drop, drop_of_length-le, get_or, refl, sym, ◌∙◌, ap, arith}
use Rattle.std.proofs.lemmas.Bool.Decides.{Decides-eqb}
use Rattle.qed_terms.specs.Names.{before_colon}
use Rattle.std.specs.Fmt.{decimal}
use Rattle.std.proofs.lemmas.Fmt.{decimal-digits_of}
use Rattle.std.proofs.lemmas.List.{append_assoc, take_all}
use Rattle.qed_terms.specs.Fresh.{from_colon, numeral, fresh_name}
use Rattle.qed_terms.proofs.Places.{drop_at}

is_colon : (b : ℕ) → b ≡ 58 → (b == 58) ≡ true
is_colon b e = (Decides-eqb b 58).1 e

no_colon : (b : ℕ) → (b ≡ 58 → ⊥) → (b == 58) ≡ false
no_colon b n = go (b == 58) refl
  where
    go : (t : Bool) → (b == 58) ≡ t → t ≡ false
    go true e = absurd (n ((Decides-eqb b 58).0 e))
    go false e = refl

from_place : (bytes : List ℕ) (i : ℕ) (b : ℕ) → i < length bytes → b ≡ get_or bytes i b
    → length (before_colon (drop i bytes)) ≡ length (cond (b == 58) [] (b ∷ before_colon (drop (i + 1) bytes)))
from_place bytes i b k e = ap (λ bs. length (before_colon bs)) (drop_at bytes i b k ∙ ap (λ c. c ∷ drop (i + 1) bytes) (sym e))

pub colon_here : (bytes : List ℕ) (i : ℕ) (b : ℕ) → i < length bytes → b ≡ get_or bytes i b → b ≡ 58 → length (before_colon (drop i bytes)) ≡ 0
colon_here bytes i b k e f = from_place bytes i b k e ∙ ap (λ t. length (cond t [] (b ∷ before_colon (drop (i + 1) bytes)))) (is_colon b f)

pub colon_later : (bytes : List ℕ) (i : ℕ) (b : ℕ) → i < length bytes → b ≡ get_or bytes i b → (b ≡ 58 → ⊥) → length (before_colon (drop i bytes)) ≡ 1 + length (before_colon (drop (i + 1) bytes))
colon_later bytes i b k e f =
    let l : length (b ∷ before_colon (drop (i + 1) bytes)) ≡ 1 + length (before_colon (drop (i + 1) bytes)) = omega arith in
    from_place bytes i b k e ∙ ap (λ t. length (cond t [] (b ∷ before_colon (drop (i + 1) bytes)))) (no_colon b f) ∙ l

pub colon_nowhere : (bytes : List ℕ) (i : ℕ) → length bytes ≤ i → length (before_colon (drop i bytes)) ≡ 0
colon_nowhere bytes i k = ap (λ bs. length (before_colon bs)) (drop_of_length-le bytes k)

pub colon_within : (bytes : List ℕ) → length (before_colon bytes) ≤ length bytes
colon_within [] = omega arith
colon_within (b ∷ bytes) = go (b == 58) (colon_within bytes)
  where
    go : (t : Bool) → length (before_colon bytes) ≤ length bytes → length (cond t [] (b ∷ before_colon bytes)) ≤ length (b ∷ bytes)
    go true k = omega arith
    go false k = omega (arith, k)

pub take_colon : (bytes : List ℕ) → take (length (before_colon bytes)) bytes ≡ before_colon bytes
take_colon [] = refl
take_colon (b ∷ bytes) = go (b == 58) (take_colon bytes)
  where
    go : (t : Bool) → take (length (before_colon bytes)) bytes ≡ before_colon bytes → take (length (cond t [] (b ∷ before_colon bytes))) (b ∷ bytes) ≡ cond t [] (b ∷ before_colon bytes)
    go true k = refl
    go false k = ap (λ bs. b ∷ bs) k

pub drop_colon : (bytes : List ℕ) → drop (length (before_colon bytes)) bytes ≡ from_colon bytes
drop_colon [] = refl
drop_colon (b ∷ bytes) = go (b == 58) (drop_colon bytes)
  where
    go : (t : Bool) → drop (length (before_colon bytes)) bytes ≡ from_colon bytes → drop (length (cond t [] (b ∷ before_colon bytes))) (b ∷ bytes) ≡ cond t (b ∷ bytes) (from_colon bytes)
    go true k = refl
    go false k = k

pub ruleset colon_laws = (colon_here, colon_later, colon_nowhere)

-- the parts of a fresh name, as they are written
pub parts : (base digits : List ℕ) (k n : ℕ) → k ≡ length (before_colon base) → 0 < n → n < 2 ^ 64 → digits ≡ decimal n → ((take k base ++ 35 ∷ []) ++ digits) ++ drop k base ≡ fresh_name base n
unfolding fresh_name
parts base digits k n e some small d =
    (λ i. ((take (e i) base ++ 35 ∷ []) ++ (d ∙ decimal-digits_of n some small) i) ++ drop (e i) base)
    ∙ (λ i. ((take_colon base i ++ 35 ∷ []) ++ numeral n) ++ drop_colon base i)
    ∙ append_assoc (before_colon base ++ 35 ∷ []) (numeral n) (from_colon base)
    ∙ append_assoc (before_colon base) (35 ∷ []) (numeral n ++ from_colon base)

pub rest_all : (bytes : List ℕ) (k : ℕ) → take (length bytes - k) (drop k bytes) ≡ drop k bytes
rest_all bytes k = take_all (length bytes - k) (drop k bytes) (omega (arith, length-drop k bytes))
