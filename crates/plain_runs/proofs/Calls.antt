-- A call keeps the variables of the function that calls, and those of the file that the sets in force don't let change.
use Rattle.std.proofs.Common.{◌≡◌, ℕ, ◌+◌, ◌-◌, ◌<◌, ◌≤◌, ℤ, pos, Bool, true, false, List, length, Some, slice_get, sym, ap, ◌∙◌, subst, inl, inr, arith}
use Rattle.std.specs.Prelude.{nat_lt}
use Rattle.std.proofs.lemmas.Bool.{ltb-true, ltb-false}
use Rattle.c_kinds.specs.Models.{holds}
use Rattle.c_runs.specs.Program.{Variable, Facts}
use Rattle.c_runs.specs.States.{Granted}
use Rattle.plain_states.specs.Slots.{State, Sizes, double, at, value_slot, flag_slot, local_value, local_flag, temp_slot}
use Rattle.plain_states.specs.Scopes.{kind_of, entry_state, behind_state}
use Rattle.plain_states.proofs.Lists.{double_is, value_before, flag_before}
use Rattle.plain_states.proofs.Scoping.{found_below}
use Rattle.plain_states.proofs.Calling.{entry_length, entry_first, entry_behind, entry_argument, behind_first, behind_later, behind_length}
use Rattle.plain_states.proofs.Entering.{found}
use Rattle.plain_runs.specs.Fitting.{Shape, sizes, IsFlag, Fit, AreOf, is_param}
use Rattle.plain_runs.specs.Kept.{may_change_global, IsScoped, KeptFile, Kept}
use Rattle.plain_runs.proofs.Scopes.{on_bool, zero_of}

-- the slots that a function has behind its arguments
abbrev pub more_slots : Sizes → (temporaries arguments : ℕ) → ℕ
more_slots z n k = temp_slot z n - (double z.globals + double k)

module _ (p : Facts) (s g : Shape) where
  -- ---- the state at entry

  module _ (st : State) (fit : Fit p s st) (zs : List ℤ) (k : ℕ) (args : AreOf p g.variables k zs) (enough : k ≤ length g.variables) where
    abbrev pub entry : State
    entry = entry_state (sizes p g).globals zs (more_slots (sizes p g) g.temporaries (length zs)) st

    entry_value : (x : ℕ) → x < (sizes p g).globals → at entry (value_slot x) ≡ at st (value_slot x)
    entry_value x l = entry_first (sizes p g).globals (value_slot x) zs (more_slots (sizes p g) g.temporaries (length zs)) st (value_before x (sizes p g).globals l)

    entry_flag : (x : ℕ) → x < (sizes p g).globals → at entry (flag_slot x) ≡ at st (flag_slot x)
    entry_flag x l = entry_first (sizes p g).globals (flag_slot x) zs (more_slots (sizes p g) g.temporaries (length zs)) st (flag_before x (sizes p g).globals l)

    empty : (i : ℕ) → double ((sizes p g).globals + length zs) ≤ i → at entry i ≡ pos 0
    empty i l = entry_behind (sizes p g).globals i zs (more_slots (sizes p g) g.temporaries (length zs)) st l

    own : (x : ℕ) (z : ℤ) → slice_get zs x ≡ Some z → (at entry (local_value (sizes p g) x) ≡ z) × (at entry (local_flag (sizes p g) x) ≡ pos 1)
    own x z e = entry_argument (sizes p g).globals x zs (more_slots (sizes p g) g.temporaries (length zs)) st z e

    -- a variable that is no parameter holds nothing yet
    beyond : (x : ℕ) → length zs ≤ x → (at entry (local_value (sizes p g) x) ≡ pos 0) × (at entry (local_flag (sizes p g) x) ≡ pos 0)
    beyond x l =
        let a = double_is ((sizes p g).globals + length zs) in let b = double_is ((sizes p g).globals + x) in
        (empty (local_value (sizes p g) x) (omega (arith, a, b, l)), empty (local_flag (sizes p g) x) (omega (arith, a, b, l)))

    local_fits : (x : ℕ) (v : Variable) → slice_get g.variables x ≡ Some v → holds p.model (kind_of v) (at entry (local_value (sizes p g) x)) ≡ true
    local_fits x v e = on_bool (nat_lt x (length zs))
        (λ t. let z = found zs x (ltb-true x (length zs) t) in ap (holds p.model (kind_of v)) (own x z.0 z.1).0 ∙ args.1 x v z.0 e z.1)
        (λ t. ap (holds p.model (kind_of v)) (beyond x (ltb-false x (length zs) t)).0 ∙ zero_of p.model (kind_of v))

    local_flags : (x : ℕ) → IsFlag (at entry (local_flag (sizes p g) x))
    local_flags x = on_bool (nat_lt x (length zs))
        (λ t. let z = found zs x (ltb-true x (length zs) t) in inr (own x z.0 z.1).1)
        (λ t. inl (beyond x (ltb-false x (length zs) t)).1)

    flags : (x : ℕ) → x < (sizes p g).globals + (sizes p g).locals → IsFlag (at entry (flag_slot x))
    flags x l = on_bool (nat_lt x (sizes p g).globals)
        (λ t. let le = ltb-true x (sizes p g).globals t in subst IsFlag (sym (entry_flag x le)) (fit.flags x (omega (arith, le))))
        (λ t. let le = ltb-false x (sizes p g).globals t in
        let same : (sizes p g).globals + (x - (sizes p g).globals) ≡ x = omega (arith, le) in
        subst (λ i. IsFlag (at entry (flag_slot i))) same (local_flags (x - (sizes p g).globals)))

    pub entry_fits : Fit p g entry
    entry_fits =
        let a = double_is ((sizes p g).globals + length g.variables) in let b = double_is (sizes p g).globals in let c = double_is (length zs) in let d = args.0 in
        let e = double_is ((sizes p g).globals + length zs) in
        record {
          size = entry_length (sizes p g).globals zs (more_slots (sizes p g) g.temporaries (length zs)) st ∙ omega (arith, a, b, c, d, enough);
          globals = λ x v h. ap (holds p.model (kind_of v)) (entry_value x (found_below p.globals x v h)) ∙ fit.globals x v h;
          locals = local_fits;
          temps = λ n l. ap (holds p.model (g.temp_kind n)) (empty (temp_slot (sizes p g) n) (omega (arith, a, d, e, enough))) ∙ zero_of p.model (g.temp_kind n);
          flags = flags;
        }

    pub entry_scoped : IsScoped p g (is_param k) entry
    entry_scoped x l h = let le = ltb-false x k h in let d = args.0 in beyond x (omega (arith, le, d))

    -- ---- behind the call

    module _ (f : ℕ → Bool) (scoped : IsScoped p s f st) (gs hs : List Granted) (more : (x : ℕ) → may_change_global gs x ≡ false → may_change_global hs x ≡ false)
        (after : State) (file : KeptFile p g hs entry after) where
      abbrev pub behind : State
      behind = behind_state (sizes p s).globals after st

      later : (i : ℕ) → double (sizes p s).globals ≤ i → at behind i ≡ at st i
      later i l = behind_later (sizes p s).globals i after st l

      local_later : (x : ℕ) → (at behind (local_value (sizes p s) x) ≡ at st (local_value (sizes p s) x)) × (at behind (local_flag (sizes p s) x) ≡ at st (local_flag (sizes p s) x))
      local_later x =
          let a = double_is ((sizes p s).globals + x) in let b = double_is (sizes p s).globals in
          (later (local_value (sizes p s) x) (omega (arith, a, b)), later (local_flag (sizes p s) x) (omega (arith, a, b)))

      temp_later : (n : ℕ) → at behind (temp_slot (sizes p s) n) ≡ at st (temp_slot (sizes p s) n)
      temp_later n = let a = double_is ((sizes p s).globals + (sizes p s).locals) in let b = double_is (sizes p s).globals in later (temp_slot (sizes p s) n) (omega (arith, a, b))

      global_now : (x : ℕ) → x < (sizes p s).globals → (at behind (value_slot x) ≡ at after (value_slot x)) × (at behind (flag_slot x) ≡ at after (flag_slot x))
      global_now x l =
          (behind_first (sizes p s).globals (value_slot x) after st (value_before x (sizes p s).globals l), behind_first (sizes p s).globals (flag_slot x) after st (flag_before x (sizes p s).globals l))

      behind_flags : (x : ℕ) → x < (sizes p s).globals + (sizes p s).locals → IsFlag (at behind (flag_slot x))
      behind_flags x l = on_bool (nat_lt x (sizes p s).globals)
          (λ t. let le = ltb-true x (sizes p s).globals t in subst IsFlag (sym (global_now x le).1) (file.flags x le))
          (λ t. let le = ltb-false x (sizes p s).globals t in let a = double_is x in let b = double_is (sizes p s).globals in
          subst IsFlag (sym (later (flag_slot x) (omega (arith, a, b, le)))) (fit.flags x l))

      pub call_kept : (t u : ℕ → Bool) → Kept p s gs t u f st behind
      call_kept t u =
          let a = double_is ((sizes p s).globals + (sizes p s).locals) in let b = double_is (sizes p s).globals in let c = fit.size in
          record {
            fit = record {
              size = behind_length (sizes p s).globals after st (omega (arith, a, b, c)) ∙ fit.size;
              globals = λ x v e. ap (holds p.model (kind_of v)) (global_now x (found_below p.globals x v e)).0 ∙ file.fit x v e;
              locals = λ x v e. ap (holds p.model (kind_of v)) (local_later x).0 ∙ fit.locals x v e;
              temps = λ n l. ap (holds p.model (s.temp_kind n)) (temp_later n) ∙ fit.temps n l;
              flags = behind_flags;
            };
            globals = λ x l h. (global_now x l).0 ∙ file.same x l (more x h) ∙ entry_value x l;
            allowed = λ x l h. local_later x;
            untouched = λ x l h. local_later x;
            rises = λ x l h. (local_later x).1 ∙ h;
            scoped = λ x l h. let old = scoped x l h in ((local_later x).0 ∙ old.0, (local_later x).1 ∙ old.1);
            temporaries = λ n h. temp_later n;
          }
