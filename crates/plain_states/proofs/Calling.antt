-- The end of a scope, and calls, as changes of slots.
use Rattle.std.proofs.Common.{◌≡◌, ℕ, zero, suc, ◌+◌, ◌-◌, ◌<◌, ◌≤◌, ℤ, pos, negsuc, ◌-ℤ◌, Bool, true, false, if◌then◌else◌, List, [], ◌∷◌, ◌++◌, length, Option, Some, None, slice_get, refl, sym, ap, ◌∙◌, append-nil, length-append, arith}
use Rattle.std.specs.Prelude.{int_lt}
use Rattle.std.proofs.lemmas.Int.{ints}
use Rattle.wp_base.specs.Blocks.{Table, count, grow, endeds, to_nat}
use Rattle.c_runs.specs.Told.{Value, number}
use Rattle.c_runs.specs.States.{Memory, World, with_memory}
use Rattle.c_runs.specs.Scopes.{ended_since, left}
use Rattle.plain_states.specs.Slots.{State, Sizes, double, at, with_variable, value_slot, flag_slot, result_slot, cell_in, memory_in, world_in}
use Rattle.plain_states.specs.Scopes.{IsClean, AllBelow, without_variables, zeros, first_slots, later_slots, argument_slots, entry_state, behind_state}
use Rattle.plain_states.proofs.Lists.{set_length, double_is}
use Rattle.plain_states.proofs.Puts.{local_world}
use Rattle.plain_states.proofs.Scoping.{none_some, leaves_variables}

-- ---- the end of a scope

grown_same : (t : Table) → grow t (count t) ≡ t
grown_same t = let e : count t -ℤ count t ≡ pos 0 = omega (arith, ints) in ap (λ z. t ++ endeds (to_nat z)) e ∙ append-nil t

-- without blocks of their own scopes leave the memory as it is
pub ended_same : (y z : Sizes) (m : Memory) → IsClean m → (before after : State) → ended_since (memory_in y m before) (memory_in z m after) ≡ memory_in z m after
ended_same y z m clean before after = λ i. record { blocks = (grown_same m.blocks) i; cells = λ b o. (cell b o) i } where
  by : (t : Bool) (x : Value) → (t ≡ false → x ≡ number (pos 0)) → (if t then x else number (pos 0)) ≡ x
  by true x h = refl
  by false x h = sym (h refl)

  cell : (b o : ℤ) → (if int_lt b (count m.blocks) then cell_in z m.cells after b o else number (pos 0)) ≡ cell_in z m.cells after b o
  cell (pos k) o = by (int_lt (pos k) (count m.blocks)) (m.cells (pos k) o) (clean k o)
  cell (negsuc k) o = refl

module _ (z : Sizes) (m : Memory) (clean : IsClean m) (n : ℕ) (vs : List Value) where
  same_memory : (ys : List ℕ) (st : State) → AllBelow z.locals ys → result_slot z ≤ length st → memory_in z m st ≡ memory_in z m (without_variables z ys st)
  same_memory [] st below big = refl
  same_memory (x ∷ ys) st below big =
      let e = set_length (z.globals + x) (pos 0) (pos 0) st in
      ap (λ (w : World). w.memory) (local_world z m n vs st x (pos 0) (pos 0) false refl below.0 big)
      ∙ same_memory ys (with_variable (z.globals + x) (pos 0) (pos 0) st) below.1 (omega (arith, e, big))

  pub leaves_scope : (ys : List ℕ) (before st : State) → AllBelow z.locals ys → result_slot z ≤ length st
      → left (memory_in z m before) ys (world_in z m n vs st) ≡ world_in z m n vs (without_variables z ys st)
  leaves_scope ys before st below big =
      ap (λ (w : World). with_memory (ended_since (memory_in z m before) (memory_in z m st)) w) (leaves_variables z m n vs ys st below big)
      ∙ ap (λ e. with_memory e (world_in z m n vs (without_variables z ys st))) (ended_same z z m clean before st ∙ same_memory ys st below big)

pub some_same : {X : Type 0} (x y : X) → Some x ≡ Some y → x ≡ y
some_same {X} x y e = ap (λ (o : Option X). of_option o) e where
  of_option : Option X → X
  of_option None = x
  of_option (Some z) = z

-- ---- slots, first ones and later ones

first_length : (n : ℕ) (st : State) → length (first_slots n st) ≡ n
first_length zero st = refl
first_length (suc n) [] = ap suc (first_length n [])
first_length (suc n) (x ∷ st) = ap suc (first_length n st)

later_length : (n : ℕ) (st : State) → n ≤ length st → length (later_slots n st) + n ≡ length st
later_length zero st l = omega arith
later_length (suc n) [] l = absurd (omega (arith, l))
later_length (suc n) (x ∷ st) l = let h = later_length n st (omega (arith, l)) in omega (arith, h)

first_at : (n i : ℕ) (st more : State) → i < n → at (first_slots n st ++ more) i ≡ at st i
first_at zero i st more l = absurd (omega (arith, l))
first_at (suc n) zero [] more l = refl
first_at (suc n) (suc i) [] more l = first_at n i [] more (omega (arith, l))
first_at (suc n) zero (x ∷ st) more l = refl
first_at (suc n) (suc i) (x ∷ st) more l = first_at n i st more (omega (arith, l))

behind_at : (xs ys : State) (i j : ℕ) → j ≡ length xs + i → at (xs ++ ys) j ≡ at ys i
behind_at [] ys i j e = let h : j ≡ i = omega (arith, e) in ap (at ys) h
behind_at (x ∷ xs) ys i zero e = absurd (omega (arith, e))
behind_at (x ∷ xs) ys i (suc j) e = behind_at xs ys i j (omega (arith, e))

later_at : (n i j : ℕ) (st : State) → j ≡ n + i → at (later_slots n st) i ≡ at st j
later_at zero i j st e = let h : i ≡ j = omega (arith, e) in ap (at st) h
later_at (suc n) i j [] e = refl
later_at (suc n) i zero (x ∷ st) e = absurd (omega (arith, e))
later_at (suc n) i (suc j) (x ∷ st) e = later_at n i j st (omega (arith, e))

-- those of the file as the call left them, all others as before
pub behind_first : (g i : ℕ) (after before : State) → i < double g → at (behind_state g after before) i ≡ at after i
behind_first g i after before l = first_at (double g) i after (later_slots (double g) before) l

pub behind_later : (g i : ℕ) (after before : State) → double g ≤ i → at (behind_state g after before) i ≡ at before i
behind_later g i after before l =
    let h = first_length (double g) after in
    behind_at (first_slots (double g) after) (later_slots (double g) before) (i - double g) i (omega (arith, l, h))
    ∙ later_at (double g) (i - double g) i before (omega (arith, l))

pub behind_length : (g : ℕ) (after before : State) → double g ≤ length before → length (behind_state g after before) ≡ length before
behind_length g after before l =
    let h = first_length (double g) after in
    let k = later_length (double g) before l in
    length-append (first_slots (double g) after) (later_slots (double g) before) ∙ omega (arith, h, k)

-- ---- the entry of a function

arguments_length : (vs : List ℤ) → length (argument_slots vs) ≡ double (length vs)
arguments_length [] = refl
arguments_length (v ∷ vs) = ap (λ n. suc (suc n)) (arguments_length vs)

zeros_at : (n i : ℕ) → at (zeros n) i ≡ pos 0
zeros_at zero i = refl
zeros_at (suc n) zero = refl
zeros_at (suc n) (suc i) = zeros_at n i

zeros_length : (n : ℕ) → length (zeros n) ≡ n
zeros_length zero = refl
zeros_length (suc n) = ap suc (zeros_length n)

pub entry_length : (g : ℕ) (vs : List ℤ) (n : ℕ) (st : State) → length (entry_state g vs n st) ≡ double g + (double (length vs) + n)
entry_length g vs n st =
    let h = first_length (double g) st in
    let k = arguments_length vs in
    let z = zeros_length n in
    length-append (first_slots (double g) st) (argument_slots vs ++ zeros n) ∙ ap (λ l. length (first_slots (double g) st) + l) (length-append (argument_slots vs) (zeros n)) ∙ omega (arith, h, k, z)

pub entry_first : (g i : ℕ) (vs : List ℤ) (n : ℕ) (st : State) → i < double g → at (entry_state g vs n st) i ≡ at st i
entry_first g i vs n st l = first_at (double g) i st (argument_slots vs ++ zeros n) l

-- those behind the variables of the file
entry_own : (g i : ℕ) (vs : List ℤ) (n : ℕ) (st : State) → double g ≤ i → at (entry_state g vs n st) i ≡ at (argument_slots vs ++ zeros n) (i - double g)
entry_own g i vs n st l =
    let h = first_length (double g) st in
    behind_at (first_slots (double g) st) (argument_slots vs ++ zeros n) (i - double g) i (omega (arith, l, h))

-- those behind the arguments are 0
own_behind : (vs : List ℤ) (n i : ℕ) → double (length vs) ≤ i → at (argument_slots vs ++ zeros n) i ≡ pos 0
own_behind [] n i l = zeros_at n i
own_behind (v ∷ vs) n zero l = absurd (omega (arith, l))
own_behind (v ∷ vs) n (suc zero) l = absurd (omega (arith, l))
own_behind (v ∷ vs) n (suc (suc i)) l = own_behind vs n i (omega (arith, l))

pub entry_behind : (g i : ℕ) (vs : List ℤ) (n : ℕ) (st : State) → double (g + length vs) ≤ i → at (entry_state g vs n st) i ≡ pos 0
entry_behind g i vs n st l =
    let a = double_is (g + length vs) in let b = double_is g in let c = double_is (length vs) in
    entry_own g i vs n st (omega (arith, l, a, b, c)) ∙ own_behind vs n (i - double g) (omega (arith, l, a, b, c))

-- an argument is set
own_value : (vs : List ℤ) (n x : ℕ) (v : ℤ) → slice_get vs x ≡ Some v → (at (argument_slots vs ++ zeros n) (value_slot x) ≡ v) × (at (argument_slots vs ++ zeros n) (flag_slot x) ≡ pos 1)
own_value [] n x v e = absurd (none_some v e)
own_value (u ∷ vs) n zero v e = (some_same u v e, refl)
own_value (u ∷ vs) n (suc x) v e = own_value vs n x v e

pub entry_argument : (g x : ℕ) (vs : List ℤ) (n : ℕ) (st : State) (v : ℤ) → slice_get vs x ≡ Some v
    → (at (entry_state g vs n st) (value_slot (g + x)) ≡ v) × (at (entry_state g vs n st) (flag_slot (g + x)) ≡ pos 1)
entry_argument g x vs n st v e =
    let a = double_is (g + x) in let b = double_is g in let c = double_is x in
    let both = own_value vs n x v e in (
      entry_own g (value_slot (g + x)) vs n st (omega (arith, a, b, c)) ∙ ap (at (argument_slots vs ++ zeros n)) (omega (arith, a, b, c)) ∙ both.0,
      entry_own g (flag_slot (g + x)) vs n st (omega (arith, a, b, c)) ∙ ap (at (argument_slots vs ++ zeros n)) (omega (arith, a, b, c)) ∙ both.1,
    )
