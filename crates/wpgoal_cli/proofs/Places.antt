-- The first line of a text.
use Rattle.std.proofs.Common.{◌≡◌, ◌⊎◌, inl, inr, ℕ, zero, suc, ◌+◌, ◌<◌, ◌≤◌, Bool, true, false, not, ◌&&◌, List, [], ◌∷◌, ◌++◌, length, take, drop, get_or, refl, sym, ◌∙◌, ap, arith, eqb-true}
use Rattle.std.specs.List.{list_all}
use Rattle.wpgoal_cli.specs.Lines.{is_newline, is_within_line, IsLine}

within : (x : ℕ) → (x ≡ 10 → ⊥) → is_within_line x ≡ true
within x n = go (is_newline x) refl
  where
    go : (b : Bool) → is_newline x ≡ b → not b ≡ true
    go true e = absurd (n (eqb-true x 10 e))
    go false e = refl

left_so : (p q : Bool) → p && q ≡ true → p ≡ true
left_so true q k = refl
left_so false q k = k

right_so : (p q : Bool) → p && q ≡ true → q ≡ true
right_so true q k = k
right_so false q k = absurd cc

pub no_newline : (xs : List ℕ) (i x : ℕ) → i < length xs → x ≡ get_or xs i x → (x ≡ 10 → ⊥) → list_all is_within_line (take i xs) ≡ true → list_all is_within_line (take (i + 1) xs) ≡ true
no_newline [] i x l e n k = absurd (omega arith)
no_newline (y ∷ xs) zero x l e n k = let a = within y (λ q. n (e ∙ q)) in ap (λ b. b && true) a
no_newline (y ∷ xs) (suc i) x l e n k =
    let s : suc i + 1 ≡ suc (i + 1) = omega arith in
    let a = left_so (is_within_line y) (list_all is_within_line (take i xs)) k in
    let r = no_newline xs i x (omega arith) e n (right_so (is_within_line y) (list_all is_within_line (take i xs)) k) in
    ap (λ m. list_all is_within_line (take m (y ∷ xs))) s ∙ (λ j. a j && r j)

ends_at : (xs : List ℕ) (i x : ℕ) → i < length xs → x ≡ get_or xs i x → x ≡ 10 → xs ≡ take i xs ++ 10 ∷ drop (i + 1) xs
ends_at [] i x l e n = absurd (omega arith)
ends_at (y ∷ xs) zero x l e n = ap (λ z. z ∷ xs) (sym e ∙ n)
ends_at (y ∷ xs) (suc i) x l e n =
    let s : suc (i + 1) ≡ suc i + 1 = omega arith in
    ap (λ zs. y ∷ zs) (ends_at xs i x (omega arith) e n) ∙ ap (λ m. y ∷ (take i xs ++ 10 ∷ drop m (y ∷ xs))) s

pub line_found : (xs line behind : List ℕ) (i x : ℕ) → i < length xs → x ≡ get_or xs i x → x ≡ 10 → list_all is_within_line (take i xs) ≡ true → line ≡ take i xs → behind ≡ drop (i + 1) xs → IsLine line xs behind
line_found xs line behind i x l e n k p q = (ap (list_all is_within_line) p ∙ k, inl (ends_at xs i x l e n ∙ (λ j. sym p j ++ 10 ∷ sym q j)))

take_whole : (xs : List ℕ) (i : ℕ) → length xs ≤ i → take i xs ≡ xs
take_whole [] zero l = refl
take_whole [] (suc i) l = refl
take_whole (x ∷ xs) zero l = absurd (omega (arith, l))
take_whole (x ∷ xs) (suc i) l = ap (λ ys. x ∷ ys) (take_whole xs i (omega (arith, l)))

pub line_whole : (xs : List ℕ) (i : ℕ) → length xs ≤ i → list_all is_within_line (take i xs) ≡ true → IsLine xs xs []
line_whole xs i l k = (sym (ap (list_all is_within_line) (take_whole xs i l)) ∙ k, inr (refl, refl))

append_length : (xs ys : List ℕ) → length (xs ++ ys) ≡ length xs + length ys
append_length [] ys = omega arith
append_length (x ∷ xs) ys = omega (arith, append_length xs ys)

-- what stands behind a line is shorter than the text
pub shorter : (line text behind : List ℕ) → (length text ≡ 0 → ⊥) → IsLine line text behind → length behind < length text
shorter line text behind n k = go k.1
  where
    go : (text ≡ line ++ 10 ∷ behind) ⊎ ((text ≡ line) × (behind ≡ [])) → length behind < length text
    go (inl e) = let a = ap length e ∙ append_length line (10 ∷ behind) in omega (arith, a)
    go (inr e) = let b = ap length e.1 in omega (arith, b, n)
