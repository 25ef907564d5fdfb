-- Blocks of tables that grow, and what a block answers.
use Rattle.std.proofs.Common.{◌≡◌, ℕ, zero, suc, ◌+◌, true, ℤ, pos, negsuc, ◌-ℤ◌, ◌+ℤ◌, int_le, [], ◌∷◌, ◌++◌, length, refl, ◌∙◌, ap, arith}
use Rattle.std.proofs.lemmas.Int.{ints}
use Rattle.std.proofs.lemmas.Option.{slice_get_past}
use Rattle.std.specs.Prelude.{slice_get}
use Rattle.wp_base.specs.declared.kinds.Layout.{Layout}
use Rattle.wp_base.specs.Blocks.{Block, ended, Table, count, or_ended, block_at, alloc, block_of, endeds, to_nat, grow}
use Rattle.qed_linear.proofs.Rounding.{le_fact}

-- ---- tables with more ended blocks

append_assoc : (xs ys zs : Table) → (xs ++ ys) ++ zs ≡ xs ++ (ys ++ zs)
append_assoc [] ys zs = refl
append_assoc (x ∷ xs) ys zs = ap (λ us. x ∷ us) (append_assoc xs ys zs)

append_none : (xs : Table) → xs ++ [] ≡ xs
append_none [] = refl
append_none (x ∷ xs) = ap (λ us. x ∷ us) (append_none xs)

more_endeds : (n m : ℕ) → endeds n ++ endeds m ≡ endeds (n + m)
more_endeds zero m = let e : m ≡ 0 + m = omega arith in ap endeds e
more_endeds (suc n) m = let e : suc (n + m) ≡ suc n + m = omega arith in ap (λ us. ended ∷ us) (more_endeds n m) ∙ ap endeds e

append_length : (xs ys : Table) → length (xs ++ ys) ≡ length xs + length ys
append_length [] ys = omega arith
append_length (x ∷ xs) ys = omega (arith, append_length xs ys)

endeds_length : (n : ℕ) → length (endeds n) ≡ n
endeds_length zero = refl
endeds_length (suc n) = ap suc (endeds_length n)

-- the count grows to w, or has passed it
two_steps : (c : ℕ) (v w : ℤ) → int_le (pos 0) (w -ℤ v) ≡ true → to_nat (v -ℤ pos c) + to_nat (w -ℤ pos (c + to_nat (v -ℤ pos c))) ≡ to_nat (w -ℤ pos c)
two_steps c v w k = go (v -ℤ pos c) refl (w -ℤ pos c) refl
  where
    go : (x : ℤ) → v -ℤ pos c ≡ x → (y : ℤ) → w -ℤ pos c ≡ y → to_nat x + to_nat (w -ℤ pos (c + to_nat x)) ≡ to_nat y
    go (pos n) e y f = at_pos n y e f (w -ℤ pos (c + n)) refl
      where
        at_pos : (n : ℕ) (y : ℤ) → v -ℤ pos c ≡ pos n → w -ℤ pos c ≡ y → (z : ℤ) → w -ℤ pos (c + n) ≡ z → n + to_nat z ≡ to_nat y
        at_pos n (pos m) e f (pos l) g = omega (arith, ints, e, f, g, le_fact (pos 0) (w -ℤ v) k)
        at_pos n (pos m) e f (negsuc l) g = absurd (omega (arith, ints, e, f, g, le_fact (pos 0) (w -ℤ v) k))
        at_pos n (negsuc m) e f z g = absurd (omega (arith, ints, e, f, le_fact (pos 0) (w -ℤ v) k))
    go (negsuc n) e y f = let same : c + 0 ≡ c = omega arith in let here = ap (λ m. to_nat (w -ℤ pos m)) same ∙ ap to_nat f in omega (arith, here)

grown_count : (t : Table) (v : ℤ) → count (grow t v) ≡ pos (suc (length t) + to_nat (v -ℤ count t))
grown_count t v =
    let n = to_nat (v -ℤ count t) in
    let e : suc (length (t ++ endeds n)) ≡ suc (length t) + n = omega (arith, append_length t (endeds n), endeds_length n) in
    ap pos e

-- grown once more, to no smaller a count
pub grow_twice : (t : Table) (v w : ℤ) → int_le (pos 0) (w -ℤ v) ≡ true → grow (grow t v) w ≡ grow t w
grow_twice t v w k =
    let c = suc (length t) in
    let a = to_nat (v -ℤ pos c) in
    let b = to_nat (w -ℤ pos (c + a)) in
    ap (λ z. (t ++ endeds a) ++ endeds (to_nat (w -ℤ z))) (grown_count t v)
    ∙ append_assoc t (endeds a) (endeds b) ∙ ap (λ us. t ++ us) (more_endeds a b) ∙ ap (λ n. t ++ endeds n) (two_steps c v w k)

-- to the count that it has
pub grow_own : (t : Table) → grow t (count t) ≡ t
grow_own t =
    let none : count t -ℤ count t ≡ pos 0 = omega (arith, ints) in
    ap (λ z. t ++ endeds (to_nat z)) none ∙ append_none t

pub alloc_count : (t : Table) (l : Layout) → count (alloc t l) ≡ count t +ℤ pos 1
alloc_count t l = let e : suc (length (t ++ block_of l ∷ [])) ≡ suc (length t) + 1 = omega (arith, append_length t (block_of l ∷ [])) in ap pos e

-- ---- blocks

ended_get : (n k : ℕ) → or_ended (slice_get (endeds n) k) ≡ ended
ended_get zero k = refl
ended_get (suc n) zero = refl
ended_get (suc n) (suc k) = ended_get n k

grown_get : (t : Table) (n k : ℕ) → or_ended (slice_get (t ++ endeds n) k) ≡ or_ended (slice_get t k)
grown_get [] n k = ended_get n k
grown_get (x ∷ t) n zero = refl
grown_get (x ∷ t) n (suc k) = grown_get t n k

pub grown_block : (t : Table) (v b : ℤ) → block_at (grow t v) b ≡ block_at t b
unfolding block_at
grown_block t v (pos zero) = refl
grown_block t v (pos (suc k)) = grown_get t (to_nat (v -ℤ count t)) k
grown_block t v (negsuc k) = refl

last_get : (t : Table) (x : Block) → or_ended (slice_get (t ++ x ∷ []) (length t)) ≡ x
last_get [] x = refl
last_get (y ∷ t) x = last_get t x

pub last_block : (t : Table) (l : Layout) (b : ℤ) → b ≡ count t → block_at (alloc t l) b ≡ block_of l
unfolding block_at
last_block t l b e = ap (block_at (alloc t l)) e ∙ last_get t (block_of l)

other_get : (t : Table) (x : Block) (k : ℕ) → (k ≡ length t → ⊥) → or_ended (slice_get (t ++ x ∷ []) k) ≡ or_ended (slice_get t k)
other_get [] x zero n = absurd (n refl)
other_get [] x (suc k) n = refl
other_get (y ∷ t) x zero n = refl
other_get (y ∷ t) x (suc k) n = other_get t x k (λ e. n (ap suc e))

pub other_block : (t : Table) (l : Layout) (b : ℤ) → (b ≡ count t → ⊥) → block_at (alloc t l) b ≡ block_at t b
unfolding block_at
other_block t l (pos zero) n = refl
other_block t l (pos (suc k)) n = other_get t (block_of l) k (λ e. n (ap (λ m. pos (suc m)) e))
other_block t l (negsuc k) n = refl

pub low_block : (t : Table) (b : ℤ) → int_le b (pos 0) ≡ true → block_at t b ≡ ended
unfolding block_at
low_block t (pos zero) k = refl
low_block t (pos (suc n)) k = absurd (omega (arith, ints, le_fact (pos (suc n)) (pos 0) k))
low_block t (negsuc n) k = refl

pub high_block : (t : Table) (b : ℤ) → int_le (pos 0) (b -ℤ count t) ≡ true → block_at t b ≡ ended
unfolding block_at
high_block t (pos zero) k = refl
high_block t (pos (suc n)) k = let f = le_fact (pos 0) (pos (suc n) -ℤ count t) k in ap or_ended (slice_get_past t n (omega (arith, ints, f)))
high_block t (negsuc n) k = refl
