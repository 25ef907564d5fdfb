-- Of several steps the first that applies: what holds of each of them holds of all; and the first of a list.
use Rattle.std.proofs.Common.{◌≡◌, ℕ, zero, suc, ◌+◌, ◌<◌, List, [], ◌∷◌, ◌++◌, take, drop, length, get_or, refl, sym, ◌∙◌, ap, subst, inl, inr, arith}
use Rattle.branches.specs.Steps.{or_else, LeadsToOne, NoneSo, FirstSo}

pub one_or_else : {A B : Type 0} (first second : A → B → Type 0) → LeadsToOne first → LeadsToOne second → LeadsToOne (or_else first second)
one_or_else first second one two a b c x y = elim x [
  | inl p ↦ elim y [ inl q ↦ one a b c p q | inr q ↦ absurd (q.0 b p) ]
  | inr p ↦ elim y [ inl q ↦ absurd (p.0 c q) | inr q ↦ two a b c p.1 q.1 ]
]

-- ---- the first of a list

apart : {A : Type 0} (so : A → Type 0) (b b' : List A) (x x' : A) (a a' : List A) → NoneSo so b → so x → NoneSo so b' → so x' → b ++ x ∷ a ≡ b' ++ x' ∷ a' → (b ≡ b') × (x ≡ x') × (a ≡ a')
apart so [] [] x x' a a' n k n' k' e = (refl, cc, cc)
apart so [] (y ∷ b') x x' a a' n k n' k' e = let s : x ≡ y = cc in absurd (n'.0 (subst so s k))
apart so (y ∷ b) [] x x' a a' n k n' k' e = let s : x' ≡ y = cc in absurd (n.0 (subst so s k'))
apart so (y ∷ b) (z ∷ b') x x' a a' n k n' k' e =
    let s : y ≡ z = cc in
    let tail : b ++ x ∷ a ≡ b' ++ x' ∷ a' = cc in
    let r = apart so b b' x x' a a' n.1 k n'.1 k' tail in
    let r0 = r.0 in
    (cc, r.1, r.2)

-- there is one
pub one_first : {A : Type 0} (so : A → Type 0) (xs b b' : List A) (x x' : A) (a a' : List A) → FirstSo so xs b x a → FirstSo so xs b' x' a' → (b ≡ b') × (x ≡ x') × (a ≡ a')
one_first so xs b b' x x' a a' f g = apart so b b' x x' a a' f.earlier f.here g.earlier g.here (sym f.whole ∙ g.whole)

none_at : {A : Type 0} (so : A → Type 0) (b : List A) (x : A) (a : List A) → NoneSo so (b ++ x ∷ a) → so x → ⊥
none_at so [] x a n k = n.0 k
none_at so (y ∷ b) x a n k = none_at so b x a n.1 k

-- there is none where it is so of none
pub no_first : {A : Type 0} (so : A → Type 0) (xs : List A) → NoneSo so xs → (b : List A) (x : A) (a : List A) → FirstSo so xs b x a → ⊥
no_first so xs n b x a f = none_at so b x a (subst (NoneSo so) f.whole n) f.here

-- ---- by places

pub cut_at : {A : Type 0} (xs : List A) (i : ℕ) (d : A) → i < length xs → xs ≡ take i xs ++ get_or xs i d ∷ drop (i + 1) xs
cut_at {A} xs i d k = let e : suc i ≡ i + 1 = omega arith in subst (λ z. xs ≡ take i xs ++ get_or xs i d ∷ drop z xs) e (go xs i k)
  where
    go : (xs : List A) (i : ℕ) → i < length xs → xs ≡ take i xs ++ get_or xs i d ∷ drop (suc i) xs
    go [] i k = absurd (omega arith)
    go (x ∷ xs) zero k = refl
    go (x ∷ xs) (suc i) k = ap (λ z. x ∷ z) (go xs i (omega arith))

-- of one more it isn't so
pub none_more : {A : Type 0} (so : A → Type 0) (xs : List A) (i : ℕ) (d : A) → NoneSo so (take i xs) → i < length xs → (so (get_or xs i d) → ⊥) → NoneSo so (take (i + 1) xs)
none_more {A} so xs i d n k other = let e : suc i ≡ i + 1 = omega arith in subst (λ z. NoneSo so (take z xs)) e (go xs i n k other)
  where
    go : (xs : List A) (i : ℕ) → NoneSo so (take i xs) → i < length xs → (so (get_or xs i d) → ⊥) → NoneSo so (take (suc i) xs)
    go [] i n k other = absurd (omega arith)
    go (x ∷ xs) zero n k other = (other, tt)
    go (x ∷ xs) (suc i) n k other = (n.0, go xs i n.1 (omega arith) other)
