-- Calls as changes of slots: how a function is entered, and what its caller finds behind it.
use Rattle.std.proofs.Common.{◌≡◌, ℕ, zero, suc, ◌+◌, ◌<◌, ◌≤◌, ℤ, pos, negsuc, Bool, true, false, ◌&&◌, if◌then◌else◌, List, [], ◌∷◌, map, length, Some, slice_get, refl, sym, ap, ◌∙◌, arith}
use Rattle.std.specs.Prelude.{nat_lt}
use Rattle.std.specs.List.{list_all}
use Rattle.std.proofs.lemmas.Bool.{and_parts, lt-ltb, ltb-true, ltb-false}
use Rattle.qed_terms.specs.Operators.{is_zero, is_equal}
use Rattle.c_runs.specs.Told.{Value, number}
use Rattle.c_runs.specs.Program.{Variable, Facts}
use Rattle.c_runs.specs.States as run
use Rattle.c_runs.specs.States.{Local, plain, unset, Memory, World, with_local, with_memory, no_locals}
use Rattle.c_runs.specs.Scopes.{param_made, params_made, arrived}
use Rattle.c_runs.specs.Calls.{gives, back_in}
use Rattle.c_runs.specs.CoreRun.{begun}
use Rattle.plain_states.specs.Slots.{State, Sizes, sizes_of, at, held, value_slot, local_value, local_flag, temp_slot, local_in, cell_in, world_in, temps_in, core_in}
use Rattle.plain_states.specs.Scopes.{IsClean, is_integer, are_one_integer, entry_state, behind_state}
use Rattle.plain_states.proofs.Lists.{double_is, value_before}
use Rattle.plain_states.proofs.Puts.{if_same, at_is}
use Rattle.plain_states.proofs.Scoping.{none_some, listed_integer}
use Rattle.plain_states.proofs.Calling.{some_same, ended_same, entry_first, entry_behind, entry_argument, behind_first, behind_later}

-- ---- arguments become variables

abbrev with_arguments : (first : ℕ) → List ℤ → (ℕ → Local) → ℕ → Local
with_arguments n [] f = f
with_arguments n (v ∷ vs) f = with_arguments (suc n) vs (run.at n (plain (number v) true) f)

pub found : {X : Type 0} (xs : List X) (i : ℕ) → i < length xs → (x : X) × (slice_get xs i ≡ Some x)
found [] i l = absurd (omega (arith, l))
found (x ∷ xs) zero l = (x, refl)
found (x ∷ xs) (suc i) l = found xs i (omega (arith, l))

pub when_true : {X : Type 0} (b : Bool) (a c : X) → b ≡ true → (if b then a else c) ≡ a
when_true b a c e = ap (λ t. if t then a else c) e

param_is : (n : ℕ) (y : Variable) (v : Value) (w : World) → y.is_plain ≡ true → param_made n (Some y) v w ≡ with_local n (plain v true) w
param_is n y v w e = when_true y.is_plain _ _ e

params_are : (xs : List Variable) → list_all is_integer xs ≡ true → (n : ℕ) (vs : List ℤ) (w : World) → n + length vs ≤ length xs
    → params_made xs n (map number vs) w ≡ record w { locals = with_arguments n vs w.locals }
params_are xs all n [] w l = refl
params_are xs all n (v ∷ vs) w l =
    let here = found xs n (omega (arith, l)) in
    let integer = and_parts here.0.is_plain (are_one_integer here.0.layout.cells) (listed_integer xs all n here.0 here.1) in
    ap (λ o. params_made xs (suc n) (map number vs) (param_made n o (number v) w)) here.1
    ∙ ap (params_made xs (suc n) (map number vs)) (param_is n here.0 (number v) w integer.0)
    ∙ params_are xs all (suc n) vs (with_local n (plain (number v) true) w) (omega (arith, l))

-- what each variable is then
below_first : (n : ℕ) (vs : List ℤ) (f : ℕ → Local) (x : ℕ) → x < n → with_arguments n vs f x ≡ f x
below_first n [] f x l = refl
below_first n (v ∷ vs) f x l =
    below_first (suc n) vs (run.at n (plain (number v) true) f) x (omega (arith, l)) ∙ at_is n (plain (number v) true) f x (f x) (λ e. absurd (omega (arith, e, l))) (λ d. refl)

behind_last : (n : ℕ) (vs : List ℤ) (f : ℕ → Local) (x : ℕ) → n + length vs ≤ x → with_arguments n vs f x ≡ f x
behind_last n [] f x l = refl
behind_last n (v ∷ vs) f x l =
    behind_last (suc n) vs (run.at n (plain (number v) true) f) x (omega (arith, l)) ∙ at_is n (plain (number v) true) f x (f x) (λ e. absurd (omega (arith, e, l))) (λ d. refl)

argument_is : (n : ℕ) (vs : List ℤ) (f : ℕ → Local) (x i : ℕ) (v : ℤ) → x ≡ n + i → slice_get vs i ≡ Some v → with_arguments n vs f x ≡ plain (number v) true
argument_is n [] f x i v e g = absurd (none_some v g)
argument_is n (u ∷ vs) f x zero v e g =
    below_first (suc n) vs (run.at n (plain (number u) true) f) x (omega (arith, e))
    ∙ at_is n (plain (number u) true) f x (plain (number v) true) (λ h. ap (λ v. plain (number v) true) (some_same u v g)) (λ d. absurd (d (omega (arith, e))))
argument_is n (u ∷ vs) f x (suc i) v e g = argument_is (suc n) vs (run.at n (plain (number u) true) f) x i v (omega (arith, e)) g

-- ---- a function is entered

module _ (p : Facts) (xs : List Variable) (all : list_all is_integer xs ≡ true) (z : Sizes) (same : z.globals ≡ (sizes_of p xs).globals) (m : Memory) (n : ℕ) (ks : List Value) where
  pub arrives : (vs : List ℤ) (more : ℕ) (st : State) → length vs ≤ length xs
      → begun (arrived xs (map number vs) (world_in z m n ks st)) ≡ core_in (sizes_of p xs) m n ks (entry_state (sizes_of p xs).globals vs more st)
  arrives vs more st l =
      ap begun (params_are xs all 0 vs (record (world_in z m n ks st) { locals = no_locals }) (omega (arith, l)))
      ∙ (λ i. record {
        world = record { turns = n; contents = ks; memory = record { blocks = m.blocks; cells = λ b o. (cell b o) i }; locals = λ x. (local x) i };
        temps = λ j. (temp j) i;
      }) where
        after : State
        after = entry_state (sizes_of p xs).globals vs more st

        cell : (b o : ℤ) → cell_in z m.cells st b o ≡ cell_in (sizes_of p xs) m.cells after b o
        cell (pos k) o = refl
        cell (negsuc k) o =
            ap (λ g. if nat_lt k g && is_zero o then held st (value_slot k) else m.cells (negsuc k) o) same
            ∙ if_same (nat_lt k (sizes_of p xs).globals && is_zero o) (held st (value_slot k)) (held after (value_slot k)) (m.cells (negsuc k) o)
            (λ t. let q = ltb-true k (sizes_of p xs).globals (and_parts (nat_lt k (sizes_of p xs).globals) (is_zero o) t).0 in
            ap number (sym (entry_first (sizes_of p xs).globals (value_slot k) vs more st (value_before k (sizes_of p xs).globals q))))

        given : (x : ℕ) → x < length vs → with_arguments 0 vs no_locals x ≡ local_in (sizes_of p xs) after x
        given x q =
            let v = found vs x q in
            let both = entry_argument (sizes_of p xs).globals x vs more st v.0 v.1 in
            argument_is 0 vs no_locals x x v.0 (omega arith) v.1
            ∙ (λ i. plain (number ((sym both.0) i)) (is_equal (pos 1) ((sym both.1) i)))
            ∙ sym (when_true (nat_lt x (length xs)) (plain (held after (local_value (sizes_of p xs) x)) (is_equal (pos 1) (at after (local_flag (sizes_of p xs) x)))) unset (lt-ltb x (length xs) (omega (arith, q, l))))

        other : (x : ℕ) → length vs ≤ x → with_arguments 0 vs no_locals x ≡ local_in (sizes_of p xs) after x
        other x q =
            let a = double_is ((sizes_of p xs).globals + length vs) in let b = double_is ((sizes_of p xs).globals + x) in
            let value = entry_behind (sizes_of p xs).globals (local_value (sizes_of p xs) x) vs more st (omega (arith, q, a, b)) in
            let flag = entry_behind (sizes_of p xs).globals (local_flag (sizes_of p xs) x) vs more st (omega (arith, q, a, b)) in
            behind_last 0 vs no_locals x (omega (arith, q)) ∙ by (nat_lt x (length xs)) ∙ (λ i. if nat_lt x (length xs) then plain (number ((sym value) i)) (is_equal (pos 1) ((sym flag) i)) else unset) where
              by : (t : Bool) → unset ≡ (if t then unset else unset)
              by true = refl
              by false = refl

        local : (x : ℕ) → with_arguments 0 vs no_locals x ≡ local_in (sizes_of p xs) after x
        local x = by (nat_lt x (length vs)) refl where
          by : (t : Bool) → nat_lt x (length vs) ≡ t → with_arguments 0 vs no_locals x ≡ local_in (sizes_of p xs) after x
          by true e = given x (ltb-true x (length vs) e)
          by false e = other x (ltb-false x (length vs) e)

        temp : (j : ℕ) → number (pos 0) ≡ temps_in (sizes_of p xs) after j
        temp j =
            let a = double_is ((sizes_of p xs).globals + length vs) in let b = double_is ((sizes_of p xs).globals + length xs) in
            ap number (sym (entry_behind (sizes_of p xs).globals (temp_slot (sizes_of p xs) j) vs more st (omega (arith, l, a, b))))

-- ---- behind a call

-- the caller's own variables are as before, and those of the file as the call left them
module _ (y z : Sizes) (same : y.globals ≡ z.globals) (m : Memory) (clean : IsClean m) where
  pub comes_back : (n n' : ℕ) (ks ks' : List Value) (v : Value) (st after : State)
      → back_in (world_in z m n ks st) (gives v (world_in y m n' ks' after)) ≡ gives v (world_in z m n' ks' (behind_state z.globals after st))
  comes_back n n' ks ks' v st after = ap (λ e. gives v (record { turns = n'; contents = ks'; memory = e; locals = local_in z st })) (ended_same z y m clean st after)
      ∙ (λ i. gives v (record { turns = n'; contents = ks'; memory = record { blocks = m.blocks; cells = λ b o. (cell b o) i }; locals = λ x. (local x) i })) where
        now : State
        now = behind_state z.globals after st

        cell : (b o : ℤ) → cell_in y m.cells after b o ≡ cell_in z m.cells now b o
        cell (pos k) o = refl
        cell (negsuc k) o =
            ap (λ g. if nat_lt k g && is_zero o then held after (value_slot k) else m.cells (negsuc k) o) same
            ∙ if_same (nat_lt k z.globals && is_zero o) (held after (value_slot k)) (held now (value_slot k)) (m.cells (negsuc k) o)
            (λ t. let q = ltb-true k z.globals (and_parts (nat_lt k z.globals) (is_zero o) t).0 in ap number (sym (behind_first z.globals (value_slot k) after st (value_before k z.globals q))))

        local : (x : ℕ) → local_in z st x ≡ local_in z now x
        local x =
            let a = double_is (z.globals + x) in let b = double_is z.globals in
            let value = behind_later z.globals (local_value z x) after st (omega (arith, a, b)) in
            let flag = behind_later z.globals (local_flag z x) after st (omega (arith, a, b)) in
            λ i. if nat_lt x z.locals then plain (number ((sym value) i)) (is_equal (pos 1) ((sym flag) i)) else unset
