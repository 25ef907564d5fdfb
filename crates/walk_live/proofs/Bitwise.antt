-- Sets as bits.
use Rattle.std.proofs.Common.{◌≡◌, ◌<◌, ◌≤◌, ℕ, zero, suc, ◌+◌, ◌==◌, Bool, true, false, not, ◌&&◌, ◌||◌, List, [], ◌∷◌, ◌++◌, length, get_or, set, refl, sym, ap, ap₂, ◌∙◌, subst, arith}
use Rattle.std.proofs.lemmas.Bool.Decides.{Decides-eqb}
use Rattle.program_steps.specs.Temporaries.{Temporaries, no_temporaries, out_at}
use Rattle.walk_live.specs.Bits.{bits, all_bits}

pub same_bit : (m : ℕ) → (m == m) ≡ true
same_bit m = (Decides-eqb m m).1 refl

pub other_bit : (m n : ℕ) → (m ≡ n → ⊥) → (m == n) ≡ false
other_bit m n h = by (m == n) refl
  where
    by : (b : Bool) → (m == n) ≡ b → b ≡ false
    by true e = absurd (h ((Decides-eqb m n).0 e))
    by false e = refl

pub bits_below : (c : ℕ) (f g : Temporaries) → ((n : ℕ) → n < c → f n ≡ g n) → bits c f ≡ bits c g
bits_below zero f g h = refl
bits_below (suc c) f g h = ap₂ (λ b bs. b ∷ bs) (h zero (omega arith)) (bits_below c (λ n. f (suc n)) (λ n. g (suc n)) (λ n l. h (suc n) (omega (arith, l))))

pub bits_same : (c : ℕ) (f g : Temporaries) → ((n : ℕ) → f n ≡ g n) → bits c f ≡ bits c g
bits_same c f g h = bits_below c f g (λ n l. h n)

pub bits_length : (c : ℕ) (f : Temporaries) → length (bits c f) ≡ c
bits_length zero f = refl
bits_length (suc c) f = ap suc (bits_length c (λ n. f (suc n)))

put_bit : (c m : ℕ) (b : Bool) (f g : Temporaries) → g m ≡ b → ((n : ℕ) → (m ≡ n → ⊥) → g n ≡ f n) → m < c → set (bits c f) m b ≡ bits c g
put_bit zero m b f g e h l = absurd (omega (arith, l))
put_bit (suc c) zero b f g e h l = ap₂ (λ b bs. b ∷ bs) (sym e) (bits_same c (λ n. f (suc n)) (λ n. g (suc n)) (λ n. sym (h (suc n) (λ k. omega (arith, k)))))
put_bit (suc c) (suc m) b f g e h l =
    ap₂ (λ b bs. b ∷ bs) (sym (h zero (λ k. omega (arith, k)))) (put_bit c m b (λ n. f (suc n)) (λ n. g (suc n)) e (λ n k. h (suc n) (λ j. k (omega (arith, j)))) (omega (arith, l)))

far_bit : (c m : ℕ) (f g : Temporaries) → ((n : ℕ) → (m ≡ n → ⊥) → g n ≡ f n) → c ≤ m → bits c f ≡ bits c g
far_bit c m f g h l = bits_below c f g (λ n k. sym (h n (λ j. omega (arith, l, k, j))))

module _ (c m : ℕ) (f : Temporaries) (xs : List Bool) (e : xs ≡ bits c f) where
  inside : m < length xs → m < c
  inside l = let k = ap length e in let j = bits_length c f in omega (arith, l, k, j)

  outside : length xs ≤ m → c ≤ m
  outside l = let k = ap length e in let j = bits_length c f in omega (arith, l, k, j)

  pub marked : m < length xs → set xs m true ≡ bits c (λ n. (m == n) || f n)
  marked l = ap (λ ys. set ys m true) e ∙ put_bit c m true f (λ n. (m == n) || f n) (ap (λ b. b || f m) (same_bit m)) (λ n k. ap (λ b. b || f n) (other_bit m n k)) (inside l)

  pub not_marked : length xs ≤ m → xs ≡ bits c (λ n. (m == n) || f n)
  not_marked l = e ∙ far_bit c m f (λ n. (m == n) || f n) (λ n k. ap (λ b. b || f n) (other_bit m n k)) (outside l)

  pub cleared : m < length xs → set xs m false ≡ bits c (λ n. not (m == n) && f n)
  cleared l = ap (λ ys. set ys m false) e ∙ put_bit c m false f (λ n. not (m == n) && f n) (ap (λ b. not b && f m) (same_bit m)) (λ n k. ap (λ b. not b && f n) (other_bit m n k)) (inside l)

  pub not_cleared : length xs ≤ m → xs ≡ bits c (λ n. not (m == n) && f n)
  not_cleared l = e ∙ far_bit c m f (λ n. not (m == n) && f n) (λ n k. ap (λ b. not b && f n) (other_bit m n k)) (outside l)

-- of no temporaries nothing is to be told
pub nothing_to_tell : (c : ℕ) (f g : Temporaries) (xs : List Bool) → length xs ≡ 0 → xs ≡ bits c f → xs ≡ bits c g
nothing_to_tell zero f g xs l e = e
nothing_to_tell (suc c) f g xs l e = absurd (let k = ap length e in omega (arith, l, k))

-- ---- one more

pub bits_push : (c : ℕ) (f : Temporaries) → bits (c + 1) f ≡ bits c f ++ f c ∷ []
bits_push c f = ap (λ n. bits n f) n ∙ by c f
  where
    n : c + 1 ≡ suc c
    n = omega arith

    by : (c : ℕ) (f : Temporaries) → bits (suc c) f ≡ bits c f ++ f c ∷ []
    by zero f = refl
    by (suc c) f = ap (λ bs. f zero ∷ bs) (by c (λ n. f (suc n)))

pub bit_at : (c : ℕ) (f : Temporaries) (n : ℕ) (d : Bool) → n < c → get_or (bits c f) n d ≡ f n
bit_at zero f n d l = absurd (omega (arith, l))
bit_at (suc c) f zero d l = refl
bit_at (suc c) f (suc n) d l = bit_at c (λ i. f (suc i)) n d (omega (arith, l))

-- two sets, bit by bit
module _ (h : Bool → Bool → Bool) (c n : ℕ) (f g : Temporaries) (xs ys : List Bool) (ex : xs ≡ bits c f) (ey : ys ≡ bits c g) where
  pub next_bit : (made new : List Bool) (b d e : Bool) → n < length xs → b ≡ h (get_or xs n d) (get_or ys n e) → made ≡ bits n (λ k. h (f k) (g k)) → new ≡ made ++ b ∷ []
      → new ≡ bits (n + 1) (λ k. h (f k) (g k))
  next_bit made new b d e l is so push =
      let lt : n < c = (let a = ap length ex in let k = bits_length c f in omega (arith, l, a, k)) in
      push ∙ (λ i. so i ++ (is ∙ (λ j. h ((ap (λ zs. get_or zs n d) ex ∙ bit_at c f n d lt) j) ((ap (λ zs. get_or zs n e) ey ∙ bit_at c g n e lt) j))) i ∷ [])
      ∙ sym (bits_push n (λ k. h (f k) (g k)))

-- ---- blocks around

pub out_inside : (c : ℕ) (os : List Temporaries) (outs : List (List Bool)) (at : ℕ) (x : List Bool) → outs ≡ all_bits c os → at < length outs → x ≡ get_or outs at x → x ≡ bits c (out_at os at)
out_inside c os outs at x e l is = by os at (subst (λ zs. at < length zs) e l) (is ∙ ap (λ zs. get_or zs at x) e)
  where
    by : (os : List Temporaries) (at : ℕ) → at < length (all_bits c os) → x ≡ get_or (all_bits c os) at x → x ≡ bits c (out_at os at)
    by [] at l e = absurd (omega (arith, l))
    by (o ∷ os) zero l e = e
    by (o ∷ os) (suc at) l e = by os at (omega (arith, l)) e

pub out_behind : (c : ℕ) (os : List Temporaries) (outs : List (List Bool)) (at : ℕ) → outs ≡ all_bits c os → length outs ≤ at → bits c no_temporaries ≡ bits c (out_at os at)
out_behind c os outs at e l = by os at (subst (λ zs. length zs ≤ at) e l)
  where
    by : (os : List Temporaries) (at : ℕ) → length (all_bits c os) ≤ at → bits c no_temporaries ≡ bits c (out_at os at)
    by [] at l = refl
    by (o ∷ os) zero l = absurd (omega (arith, l))
    by (o ∷ os) (suc at) l = by os at (omega (arith, l))

-- ---- none

pub none_pushed : (i : ℕ) (made new : List Bool) → made ≡ bits i no_temporaries → new ≡ made ++ false ∷ [] → new ≡ bits (i + 1) no_temporaries
none_pushed i made new h push = push ∙ ap (λ bs. bs ++ false ∷ []) h ∙ sym (bits_push i no_temporaries)

pub none_in_all : (c i : ℕ) (f : Temporaries) (xs made : List Bool) → xs ≡ bits c f → i ≡ length xs → made ≡ bits i no_temporaries → made ≡ bits c no_temporaries
none_in_all c i f xs made e l h = h ∙ ap (λ n. bits n no_temporaries) (l ∙ ap length e ∙ bits_length c f)
