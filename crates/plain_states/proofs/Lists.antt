-- Lists of slots with an item put at a place, and which slots differ.
use Rattle.std.proofs.Common.{◌≡◌, ℕ, zero, suc, ◌+◌, ◌<◌, ◌≤◌, ℤ, pos, List, [], ◌∷◌, length, refl, sym, ap, ◌∙◌, arith}
use Rattle.plain_states.specs.Slots.{State, at_or, put, double, value_slot, flag_slot, at, with_variable}

-- ---- one item put

pub put_length : {X : Type 0} (xs : List X) (i : ℕ) (y : X) → length (put xs i y) ≡ length xs
put_length [] i y = refl
put_length (x ∷ xs) zero y = refl
put_length (x ∷ xs) (suc i) y = ap suc (put_length xs i y)

pub put_here : {X : Type 0} (d : X) (xs : List X) (i : ℕ) (y : X) → i < length xs → at_or d (put xs i y) i ≡ y
put_here d [] i y l = absurd (omega (arith, l))
put_here d (x ∷ xs) zero y l = refl
put_here d (x ∷ xs) (suc i) y l = put_here d xs i y (omega (arith, l))

pub put_elsewhere : {X : Type 0} (d : X) (xs : List X) (i j : ℕ) (y : X) → (i ≡ j → ⊥) → at_or d (put xs i y) j ≡ at_or d xs j
put_elsewhere d [] i j y n = refl
put_elsewhere d (x ∷ xs) zero zero y n = absurd (n refl)
put_elsewhere d (x ∷ xs) zero (suc j) y n = refl
put_elsewhere d (x ∷ xs) (suc i) zero y n = refl
put_elsewhere d (x ∷ xs) (suc i) (suc j) y n = put_elsewhere d xs i j y (λ e. n (ap suc e))

-- ---- slots of variables

pub double_is : (n : ℕ) → double n ≡ n + n
double_is zero = refl
double_is (suc n) = let h = double_is n in omega (arith, h)

-- a value's slot is no flag's, and those of two variables differ
pub value_no_flag : (x y : ℕ) → value_slot x ≡ flag_slot y → ⊥
value_no_flag x y e = let h = double_is x in let k = double_is y in omega (arith, e, h, k)

pub values_apart : (x y : ℕ) → (x ≡ y → ⊥) → value_slot x ≡ value_slot y → ⊥
values_apart x y n e = let h = double_is x in let k = double_is y in n (omega (arith, e, h, k))

pub flags_apart : (x y : ℕ) → (x ≡ y → ⊥) → flag_slot x ≡ flag_slot y → ⊥
flags_apart x y n e = let h = double_is x in let k = double_is y in n (omega (arith, e, h, k))

-- they stand before all that comes behind so many variables
pub value_before : (x n : ℕ) → x < n → value_slot x < double n
value_before x n l = let h = double_is x in let k = double_is n in omega (arith, l, h, k)

pub flag_before : (x n : ℕ) → x < n → flag_slot x < double n
flag_before x n l = let h = double_is x in let k = double_is n in omega (arith, l, h, k)

-- ---- a variable that is set

pub set_value : (x n : ℕ) (v s : ℤ) (st : State) → x < n → double n ≤ length st → at (with_variable x v s st) (value_slot x) ≡ v
set_value x n v s st l b =
    let p = value_before x n l in
    put_elsewhere (pos 0) (put st (value_slot x) v) (flag_slot x) (value_slot x) s (λ e. value_no_flag x x (sym e)) ∙ put_here (pos 0) st (value_slot x) v (omega (arith, p, b))

pub set_flag : (x n : ℕ) (v s : ℤ) (st : State) → x < n → double n ≤ length st → at (with_variable x v s st) (flag_slot x) ≡ s
set_flag x n v s st l b =
    let p = flag_before x n l in
    let e = put_length st (value_slot x) v in
    put_here (pos 0) (put st (value_slot x) v) (flag_slot x) s (omega (arith, p, b, e))

pub set_else : (x i : ℕ) (v s : ℤ) (st : State) → (value_slot x ≡ i → ⊥) → (flag_slot x ≡ i → ⊥) → at (with_variable x v s st) i ≡ at st i
set_else x i v s st n k = put_elsewhere (pos 0) (put st (value_slot x) v) (flag_slot x) i s k ∙ put_elsewhere (pos 0) st (value_slot x) i v n

pub set_other : (x y : ℕ) (v s : ℤ) (st : State) → (x ≡ y → ⊥) → (at (with_variable x v s st) (value_slot y) ≡ at st (value_slot y)) × (at (with_variable x v s st) (flag_slot y) ≡ at st (flag_slot y))
set_other x y v s st n = (
  set_else x (value_slot y) v s st (values_apart x y n) (λ e. value_no_flag y x (sym e)),
  set_else x (flag_slot y) v s st (λ e. value_no_flag x y e) (flags_apart x y n),
)

pub set_behind : (x n i : ℕ) (v s : ℤ) (st : State) → x < n → double n ≤ i → at (with_variable x v s st) i ≡ at st i
set_behind x n i v s st l b =
    let p = value_before x n l in
    let q = flag_before x n l in
    set_else x i v s st (λ e. omega (arith, e, p, b)) (λ e. omega (arith, e, q, b))

pub set_length : (x : ℕ) (v s : ℤ) (st : State) → length (with_variable x v s st) ≡ length st
set_length x v s st = put_length (put st (value_slot x) v) (flag_slot x) s ∙ put_length st (value_slot x) v
