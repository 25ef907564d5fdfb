-- Slots in which the word of a function may start are those of a world in which it is entered as it asks for.
use Rattle.std.proofs.Common.{◌≡◌, ◌⊎◌, ℕ, zero, suc, ◌+◌, ◌-◌, ◌<◌, ◌≤◌, ℤ, pos, negsuc, Bool, true, false, not, ◌&&◌, ◌||◌, if◌then◌else◌, List, [], ◌∷◌, ◌++◌, map, length, Option, Some, None, slice_get, refl, sym, ap, ◌∙◌, subst, inl, inr, arith}
use Rattle.std.specs.Prelude.{nat_lt, int_le}
use Rattle.std.specs.List.{list_all}
use Rattle.std.proofs.lemmas.Bool.{false≢true, and_parts, ltb-true, ltb-false, lt-ltb}
use Rattle.plain_states.specs.Slots.{State, at, double, value_slot, flag_slot}
use Rattle.plain_states.proofs.Lists.{double_is}
use Rattle.c_runs.specs.Program.{Variable}
use Rattle.walk_steps.specs.Laws.{Origin, own, fixed, IsFrom}
use Rattle.program_steps.specs.Starting.{file_origins, own_origins, zero_origins}
use Rattle.program_steps.proofs.Filling.{on_bool}

-- ---- lists by their items

pub same_list : (xs ys : State) → length xs ≡ length ys → ((i : ℕ) → at xs i ≡ at ys i) → xs ≡ ys
same_list [] [] e h = refl
same_list [] (y ∷ ys) e h = absurd (omega (arith, e))
same_list (x ∷ xs) [] e h = absurd (omega (arith, e))
same_list (x ∷ xs) (y ∷ ys) e h = let rest = same_list xs ys (omega (arith, e)) (λ i. h (suc i)) in λ k. (h 0 k) ∷ (rest k)

-- a slot is that of a value or of a flag
pub data Half (i : ℕ) : Type 0 where
  of_value : (x : ℕ) → i ≡ double x → Half i
  of_flag : (x : ℕ) → i ≡ suc (double x) → Half i

pub half : (i : ℕ) → Half i
half zero = of_value 0 refl
half (suc zero) = of_flag 0 refl
half (suc (suc i)) = by (half i) where
  by : Half i → Half (suc (suc i))
  by (of_value x e) = of_value (suc x) (ap (λ n. suc (suc n)) e)
  by (of_flag x e) = of_flag (suc x) (ap (λ n. suc (suc n)) e)

-- ---- what origins say

pub from_length : (os : List Origin) (st : State) → IsFrom os st → length st ≡ length os
from_length [] [] h = refl
from_length [] (z ∷ st) h = absurd h
from_length (own ∷ os) [] h = absurd h
from_length (own ∷ os) (z ∷ st) h = ap suc (from_length os st h)
from_length (fixed z ∷ os) [] h = absurd h
from_length (fixed z ∷ os) (y ∷ st) h = ap suc (from_length os st h.1)

zeros_at : (n : ℕ) (st : State) → IsFrom (zero_origins n) st → (i : ℕ) → at st i ≡ pos 0
zeros_at zero [] h i = refl
zeros_at zero (z ∷ st) h i = absurd h
zeros_at (suc n) [] h i = absurd h
zeros_at (suc n) (z ∷ st) h zero = h.0
zeros_at (suc n) (z ∷ st) h (suc i) = zeros_at n st h.1 i

-- behind the variables of the file
pub record BehindFile (os : List Origin) (n : ℕ) (st : State) : Type 0 where
  pub tail : State
  pub from : IsFrom os tail
  pub same : (i : ℕ) → at st (double n + i) ≡ at tail i
  pub flags : (x : ℕ) → x < n → at st (flag_slot x) ≡ pos 1
  pub size : length st ≡ double n + length tail

pub behind_file : (vs : List Variable) (os : List Origin) (st : State) → IsFrom (file_origins vs ++ os) st → BehindFile os (length vs) st
behind_file [] os st h = record { tail = st; from = h; same = λ i. ap (at st) (let e : 0 + i ≡ i = omega arith in e); flags = λ x l. absurd (omega (arith, l)); size = omega arith }
behind_file (v ∷ vs) os [] h = absurd h
behind_file (v ∷ vs) os (a ∷ []) h = absurd h
behind_file (v ∷ vs) os (a ∷ b ∷ st) h =
    let r = behind_file vs os st h.1 in
    let s = r.size in
    record {
      tail = r.tail;
      from = r.from;
      same = λ i. ap (at (a ∷ b ∷ st)) (let e : suc (suc (double (length vs))) + i ≡ suc (suc (double (length vs) + i)) = omega arith in e) ∙ r.same i;
      flags = λ x l. flag x l h.0 r.flags;
      size = omega (arith, s);
    }
  where
    flag : (x : ℕ) → x < suc (length vs) → b ≡ pos 1 → ((x : ℕ) → x < length vs → at st (flag_slot x) ≡ pos 1) → at (a ∷ b ∷ st) (flag_slot x) ≡ pos 1
    flag zero l e rest = e
    flag (suc x) l e rest = rest x (omega (arith, l))

-- the variables of the function, and what is behind them
pub record OwnSlots (n l : ℕ) (st : State) : Type 0 where
  pub given : (x : ℕ) → x < n → at st (flag_slot x) ≡ pos 1
  pub values : (x : ℕ) → n ≤ x → x < l → at st (value_slot x) ≡ pos 0
  pub flags : (x : ℕ) → n ≤ x → x < l → at st (flag_slot x) ≡ pos 0
  pub others : (i : ℕ) → double l ≤ i → at st i ≡ pos 0

pub own_slots : (n : ℕ) (vs : List Variable) (t : ℕ) (st : State) → n ≤ length vs → IsFrom (own_origins n vs ++ zero_origins t) st → OwnSlots n (length vs) st
own_slots n [] t st l h = record {
  given = λ x k. absurd (omega (arith, k, l));
  values = λ x k b. absurd (omega (arith, b));
  flags = λ x k b. absurd (omega (arith, b));
  others = λ i k. zeros_at t st h i;
}
own_slots zero (v ∷ vs) t [] l h = absurd h
own_slots zero (v ∷ vs) t (a ∷ []) l h = absurd h.1
own_slots zero (v ∷ vs) t (a ∷ b ∷ st) l h = more (own_slots zero vs t st (omega arith) h.1.1) where
  more : OwnSlots zero (length vs) st → OwnSlots zero (suc (length vs)) (a ∷ b ∷ st)
  more r = record { given = λ x k. absurd (omega (arith, k)); values = value; flags = flag; others = other } where
    value : (x : ℕ) → 0 ≤ x → x < suc (length vs) → at (a ∷ b ∷ st) (value_slot x) ≡ pos 0
    value zero k b = h.0
    value (suc x) k b = r.values x (omega arith) (omega (arith, b))

    flag : (x : ℕ) → 0 ≤ x → x < suc (length vs) → at (a ∷ b ∷ st) (flag_slot x) ≡ pos 0
    flag zero k b = h.1.0
    flag (suc x) k b = r.flags x (omega arith) (omega (arith, b))

    other : (i : ℕ) → suc (suc (double (length vs))) ≤ i → at (a ∷ b ∷ st) i ≡ pos 0
    other zero k = absurd (omega (arith, k))
    other (suc zero) k = absurd (omega (arith, k))
    other (suc (suc i)) k = r.others i (omega (arith, k))
own_slots (suc n) (v ∷ vs) t [] l h = absurd h
own_slots (suc n) (v ∷ vs) t (a ∷ []) l h = absurd h
own_slots (suc n) (v ∷ vs) t (a ∷ b ∷ st) l h = more (own_slots n vs t st (omega (arith, l)) h.1) where
  more : OwnSlots n (length vs) st → OwnSlots (suc n) (suc (length vs)) (a ∷ b ∷ st)
  more r = record { given = given; values = value; flags = flag; others = other } where
    given : (x : ℕ) → x < suc n → at (a ∷ b ∷ st) (flag_slot x) ≡ pos 1
    given zero k = h.0
    given (suc x) k = r.given x (omega (arith, k))

    value : (x : ℕ) → suc n ≤ x → x < suc (length vs) → at (a ∷ b ∷ st) (value_slot x) ≡ pos 0
    value zero k b = absurd (omega (arith, k))
    value (suc x) k b = r.values x (omega (arith, k)) (omega (arith, b))

    flag : (x : ℕ) → suc n ≤ x → x < suc (length vs) → at (a ∷ b ∷ st) (flag_slot x) ≡ pos 0
    flag zero k b = absurd (omega (arith, k))
    flag (suc x) k b = r.flags x (omega (arith, k)) (omega (arith, b))

    other : (i : ℕ) → suc (suc (double (length vs))) ≤ i → at (a ∷ b ∷ st) i ≡ pos 0
    other zero k = absurd (omega (arith, k))
    other (suc zero) k = absurd (omega (arith, k))
    other (suc (suc i)) k = r.others i (omega (arith, k))
