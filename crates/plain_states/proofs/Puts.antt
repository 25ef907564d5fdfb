-- What a run changes of a world that slots tell is a change of slots.
use Rattle.std.proofs.Common.{◌≡◌, ℕ, zero, suc, ◌+◌, ◌<◌, ◌≤◌, ℤ, pos, negsuc, ◌-ℤ◌, Bool, true, false, ◌&&◌, if◌then◌else◌, List, length, refl, sym, ap, ◌∙◌, arith}
use Rattle.std.specs.Prelude.{◌==◌, nat_lt}
use Rattle.std.proofs.lemmas.Bool.{false≢true, and_parts, ltb-true, lt-ltb}
use Rattle.std.proofs.lemmas.Int.{ints}
use Rattle.std.proofs.lemmas.Bool.Decides.{Decides-eqb}
use Rattle.qed_terms.specs.Operators.{is_zero, is_equal}
use Rattle.c_runs.specs.Told.{Value, number}
use Rattle.c_runs.specs.States.{Local, plain, unset, Memory, World, with_local, with_memory, stored_in, with_cell}
use Rattle.c_runs.specs.States as run
use Rattle.c_runs.specs.CoreRun.{with_temp, in_world}
use Rattle.plain_states.specs.Slots.{State, Sizes, put, at, held, value_slot, flag_slot, local_value, local_flag, result_slot, temp_slot, with_temp_slot, with_variable, local_in, cell_in, memory_in, world_in, temps_in, core_in}
use Rattle.plain_states.specs.Laws.{ChangesArePuts}
use Rattle.plain_states.proofs.Lists.{put_here, put_elsewhere, value_before, flag_before, set_value, set_flag, set_other, set_behind}

-- ---- tests

pub if_same : {X : Type 0} (t : Bool) (a b c : X) → (t ≡ true → a ≡ b) → (if t then a else c) ≡ (if t then b else c)
if_same true a b c h = h refl
if_same false a b c h = refl

-- the one at this place, or the one that was there
pub at_is : {X : Type 0} (i : ℕ) (v : X) (f : ℕ → X) (j : ℕ) (y : X) → (i ≡ j → v ≡ y) → ((i ≡ j → ⊥) → f j ≡ y) → run.at i v f j ≡ y
at_is i v f j y hit miss = by (i == j) refl where
  by : (t : Bool) → (i == j) ≡ t → (if t then v else f j) ≡ y
  by true e = hit ((Decides-eqb i j).0 e)
  by false e = miss (λ p. false≢true (sym e ∙ (Decides-eqb i j).1 p))

pub zero_is : (z : ℤ) → is_zero z ≡ true → z ≡ pos 0
zero_is (pos zero) h = refl
zero_is (pos (suc n)) h = absurd (false≢true h)
zero_is (negsuc n) h = absurd (false≢true h)

pub equal_is : (a b : ℤ) → is_equal a b ≡ true → a ≡ b
equal_is a b h = let e = zero_is (a -ℤ b) h in omega (arith, ints, e)

-- the cell that was stored, or what was there
pub cell_is : (b o b' o' : ℤ) (v : Value) (f : (block offset : ℤ) → Value) (y : Value) → (b ≡ b' → o ≡ o' → v ≡ y) → ((b ≡ b' → o ≡ o' → ⊥) → f b' o' ≡ y)
    → with_cell b o v f b' o' ≡ y
cell_is b o b' o' v f y hit miss = by (is_equal b b') (is_equal o o') refl refl where
  same : (a c : ℤ) → a ≡ c → is_equal a c ≡ true
  same a c e = let d : a -ℤ c ≡ pos 0 = omega (arith, ints, e) in ap is_zero d

  by : (s t : Bool) → is_equal b b' ≡ s → is_equal o o' ≡ t → (if s && t then v else f b' o') ≡ y
  by true true p q = hit (equal_is b b' p) (equal_is o o' q)
  by true false p q = miss (λ e d. false≢true (sym q ∙ same o o' d))
  by false t p q = miss (λ e d. false≢true (sym p ∙ same b b' e))

-- ---- worlds of slots

-- all slots of variables are the same
abbrev pub Alike : Sizes → State → State → Type 0
Alike z st st' = (x : ℕ) → x < z.globals + z.locals → (at st (value_slot x) ≡ at st' (value_slot x)) × (at st (flag_slot x) ≡ at st' (flag_slot x))

module _ (z : Sizes) (m : Memory) (n : ℕ) (vs : List Value) where
  pub alike_world : (st st' : State) → Alike z st st' → world_in z m n vs st ≡ world_in z m n vs st'
  alike_world st st' h = λ i. record { turns = n; contents = vs; memory = record { blocks = m.blocks; cells = λ b o. (cell b o) i }; locals = λ x. (local x) i } where
    local : (x : ℕ) → local_in z st x ≡ local_in z st' x
    local x = if_same (nat_lt x z.locals) (plain (held st (local_value z x)) (is_equal (pos 1) (at st (local_flag z x)))) (plain (held st' (local_value z x)) (is_equal (pos 1) (at st' (local_flag z x)))) unset
        (λ t. let l = ltb-true x z.locals t in let both = h (z.globals + x) (omega (arith, l)) in λ i. plain (number (both.0 i)) (is_equal (pos 1) (both.1 i)))

    cell : (b o : ℤ) → cell_in z m.cells st b o ≡ cell_in z m.cells st' b o
    cell (pos k) o = refl
    cell (negsuc k) o = if_same (nat_lt k z.globals && is_zero o) (held st (value_slot k)) (held st' (value_slot k)) (m.cells (negsuc k) o)
        (λ t. let l = ltb-true k z.globals (and_parts (nat_lt k z.globals) (is_zero o) t).0 in ap number (h k (omega (arith, l))).0)

  pub alike_core : (st st' : State) → Alike z st st' → ((j : ℕ) → temps_in z st j ≡ temps_in z st' j) → core_in z m n vs st ≡ core_in z m n vs st'
  alike_core st st' h t = λ i. record { world = (alike_world st st' h) i; temps = λ j. (t j) i }

  -- ---- temporaries

  temp_puts : (st : State) (i : ℕ) (v : ℤ) → temp_slot z i < length st → with_temp i (number v) (core_in z m n vs st) ≡ core_in z m n vs (with_temp_slot z i v st)
  temp_puts st i v l = λ k. record { world = (alike_world st (put st (temp_slot z i) v) apart) k; temps = λ j. (temp j) k } where
    apart : Alike z st (put st (temp_slot z i) v)
    apart x b =
        let p = value_before x (z.globals + z.locals) b in let q = flag_before x (z.globals + z.locals) b in (
          sym (put_elsewhere (pos 0) st (temp_slot z i) (value_slot x) v (λ e. omega (arith, e, p))),
          sym (put_elsewhere (pos 0) st (temp_slot z i) (flag_slot x) v (λ e. omega (arith, e, q))),
        )

    temp : (j : ℕ) → run.at i (number v) (temps_in z st) j ≡ temps_in z (put st (temp_slot z i) v) j
    temp j = at_is i (number v) (temps_in z st) j (temps_in z (put st (temp_slot z i) v) j)
        (λ e. ap number (sym (ap (λ j. at (put st (temp_slot z i) v) (temp_slot z j)) (sym e) ∙ put_here (pos 0) st (temp_slot z i) v l)))
        (λ d. ap number (sym (put_elsewhere (pos 0) st (temp_slot z i) (temp_slot z j) v (λ e. d (omega (arith, e))))))

  -- ---- variables

  -- of the function
  local_puts : (st : State) (x : ℕ) (v s : ℤ) (is_set : Bool) → is_equal (pos 1) s ≡ is_set → x < z.locals → result_slot z ≤ length st
      → in_world (core_in z m n vs st) (with_local x (plain (number v) is_set) (world_in z m n vs st)) ≡ core_in z m n vs (with_variable (z.globals + x) v s st)
  local_puts st x v s b e l big = λ k. record {
    world = record { turns = n; contents = vs; memory = record { blocks = m.blocks; cells = λ c o. (cell c o) k }; locals = λ y. (local y) k };
    temps = λ j. (temp j) k;
  } where
    all : x + z.globals < z.globals + z.locals
    all = omega (arith, l)

    after : State
    after = with_variable (z.globals + x) v s st

    in_all : z.globals + x < z.globals + z.locals
    in_all = omega (arith, l)

    local_hit : (y : ℕ) → x ≡ y → plain (number v) b ≡ local_in z after y
    local_hit y same =
        let here : plain (number v) b ≡ plain (held after (local_value z x)) (is_equal (pos 1) (at after (local_flag z x))) =
        λ i. plain (number ((sym (set_value (z.globals + x) (z.globals + z.locals) v s st in_all big)) i))
        ((sym (ap (is_equal (pos 1)) (set_flag (z.globals + x) (z.globals + z.locals) v s st in_all big) ∙ e)) i) in
        let there : local_in z after x ≡ plain (held after (local_value z x)) (is_equal (pos 1) (at after (local_flag z x))) =
        ap (λ t. if t then plain (held after (local_value z x)) (is_equal (pos 1) (at after (local_flag z x))) else unset) (lt-ltb x z.locals l) in
        here ∙ sym there ∙ ap (local_in z after) same

    local_miss : (y : ℕ) → (x ≡ y → ⊥) → local_in z st y ≡ local_in z after y
    local_miss y d = if_same (nat_lt y z.locals) (plain (held st (local_value z y)) (is_equal (pos 1) (at st (local_flag z y))))
        (plain (held after (local_value z y)) (is_equal (pos 1) (at after (local_flag z y)))) unset
        (λ t. let both = set_other (z.globals + x) (z.globals + y) v s st (λ e. d (omega (arith, e))) in λ i. plain (number ((sym both.0) i)) (is_equal (pos 1) ((sym both.1) i)))

    local : (y : ℕ) → run.at x (plain (number v) b) (local_in z st) y ≡ local_in z after y
    local y = at_is x (plain (number v) b) (local_in z st) y (local_in z after y) (local_hit y) (local_miss y)

    cell : (c o : ℤ) → cell_in z m.cells st c o ≡ cell_in z m.cells after c o
    cell (pos k) o = refl
    cell (negsuc k) o = if_same (nat_lt k z.globals && is_zero o) (held st (value_slot k)) (held after (value_slot k)) (m.cells (negsuc k) o)
        (λ t. let q = ltb-true k z.globals (and_parts (nat_lt k z.globals) (is_zero o) t).0 in ap number (sym (set_other (z.globals + x) k v s st (λ e. omega (arith, e, q))).0))

    temp : (j : ℕ) → temps_in z st j ≡ temps_in z after j
    temp j = ap number (sym (set_behind (z.globals + x) (z.globals + z.locals) (temp_slot z j) v s st in_all (omega arith)))

  pub local_world : (st : State) (x : ℕ) (v s : ℤ) (is_set : Bool) → is_equal (pos 1) s ≡ is_set → x < z.locals → result_slot z ≤ length st
      → with_local x (plain (number v) is_set) (world_in z m n vs st) ≡ world_in z m n vs (with_variable (z.globals + x) v s st)
  local_world st x v s b e l big = ap (λ c. c.world) (local_puts st x v s b e l big)

  -- of the file
  global_puts : (st : State) (x : ℕ) (v : ℤ) → x < z.globals → result_slot z ≤ length st
      → in_world (core_in z m n vs st) (with_memory (stored_in (negsuc x) (pos 0) (number v) (memory_in z m st)) (world_in z m n vs st)) ≡ core_in z m n vs (with_variable x v (pos 1) st)
  global_puts st x v l big = λ k. record {
    world = record { turns = n; contents = vs; memory = record { blocks = m.blocks; cells = λ c o. (cell c o) k }; locals = λ y. (local y) k };
    temps = λ j. (temp j) k;
  } where
    after : State
    after = with_variable x v (pos 1) st

    in_all : x < z.globals + z.locals
    in_all = omega (arith, l)

    local : (y : ℕ) → local_in z st y ≡ local_in z after y
    local y = if_same (nat_lt y z.locals) (plain (held st (local_value z y)) (is_equal (pos 1) (at st (local_flag z y))))
        (plain (held after (local_value z y)) (is_equal (pos 1) (at after (local_flag z y)))) unset
        (λ t. let both = set_other x (z.globals + y) v (pos 1) st (λ e. omega (arith, e, l)) in λ i. plain (number ((sym both.0) i)) (is_equal (pos 1) ((sym both.1) i)))

    cell_hit : (c o : ℤ) → negsuc x ≡ c → pos 0 ≡ o → number v ≡ cell_in z m.cells after c o
    cell_hit c o same zero_too =
        let there : cell_in z m.cells after (negsuc x) (pos 0) ≡ held after (value_slot x) =
        ap (λ t. if t && true then held after (value_slot x) else m.cells (negsuc x) (pos 0)) (lt-ltb x z.globals l) in
        ap number (sym (set_value x (z.globals + z.locals) v (pos 1) st in_all big)) ∙ sym there ∙ (λ i. cell_in z m.cells after (same i) (zero_too i))

    cell_miss : (c o : ℤ) → (negsuc x ≡ c → pos 0 ≡ o → ⊥) → cell_in z m.cells st c o ≡ cell_in z m.cells after c o
    cell_miss (pos k) o d = refl
    cell_miss (negsuc k) o d = if_same (nat_lt k z.globals && is_zero o) (held st (value_slot k)) (held after (value_slot k)) (m.cells (negsuc k) o)
        (λ t. ap number (sym (set_other x k v (pos 1) st (λ e. d (ap negsuc e) (sym (zero_is o (and_parts (nat_lt k z.globals) (is_zero o) t).1)))).0))

    cell : (c o : ℤ) → with_cell (negsuc x) (pos 0) (number v) (cell_in z m.cells st) c o ≡ cell_in z m.cells after c o
    cell c o = cell_is (negsuc x) (pos 0) c o (number v) (cell_in z m.cells st) (cell_in z m.cells after c o) (cell_hit c o) (cell_miss c o)

    temp : (j : ℕ) → temps_in z st j ≡ temps_in z after j
    temp j = ap number (sym (set_behind x (z.globals + z.locals) (temp_slot z j) v (pos 1) st in_all (omega arith)))

pub changes_are_puts : ChangesArePuts
changes_are_puts z m n vs st = record {
  temporary = temp_puts z m n vs st;
  set = λ x v l b. local_puts z m n vs st x v (pos 1) true refl l b;
  unset = λ x v l b. local_puts z m n vs st x v (pos 0) false refl l b;
  of_file = global_puts z m n vs st;
}
