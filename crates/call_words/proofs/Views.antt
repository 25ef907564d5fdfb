-- What a function that is called sees: the variables of the file as they are, and its arguments, whose terms mean their values.
use Rattle.std.proofs.Common.{◌≡◌, ℕ, zero, suc, ◌+◌, ◌-◌, ◌<◌, ◌≤◌, ℤ, pos, negsuc, Bool, true, false, if◌then◌else◌, List, [], ◌∷◌, Some, slice_get, refl, sym, ap, ◌∙◌, subst, arith}
use Rattle.std.specs.Prelude.{◌==◌, nat_lt}
use Rattle.std.proofs.lemmas.Bool.{false≢true, ltb-true, ltb-false}
use Rattle.wp_base.specs.declared.kinds.CellKind.TheVariants as cell
use Rattle.wp_base.specs.declared.kinds.Kind.{Kind}
use Rattle.wp_base.specs.Blocks.{Table, count}
use Rattle.c_kinds.specs.Models.{holds}
use Rattle.typed_prog.specs.Tree as t
use Rattle.qed_terms.specs.Meaning as sense
use Rattle.qed_terms.specs.Meaning.{Values, truth, value}
use Rattle.qed_terms.specs.Tree.{num}
use Rattle.c_runs.specs.TruthStates.{Value, number}
use Rattle.c_runs.specs.Truth.{value_at}
use Rattle.c_runs.specs.Program.{Variable, Function, Facts}
use Rattle.c_runs.specs.States.{Memory, plain, held_by, hidden, params_from, block_of_local, seen_by_contract, plain_globals}
use Rattle.c_runs.specs.Operators.{truth_number}
use Rattle.c_runs.specs.Scopes.{is_content}
use Rattle.c_runs.specs.CoreRun.{CoreWorld}
use Rattle.c_runs.specs.Tests.{totals}
use Rattle.c_runs.specs.Tree.{Steps}
use Rattle.plain_states.specs.Slots.{State, at, value_slot, local_value, local_flag, temp_slot}
use Rattle.plain_states.specs.Scopes.{kind_of}
use Rattle.plain_states.proofs.Puts.{at_is}
use Rattle.plain_runs.specs.Fitting.{IsGood, Shape, sizes}
use Rattle.plain_runs.proofs.Scopes.{zero_of}
use Rattle.plain_runs.proofs.Objects.{home_is}
use Rattle.value_terms.specs.Readings.{Term, as_number, as_test, as_pointer, number_term, term_at}
use Rattle.value_terms.specs.Typed.{AreTyped, operand_kind}
use Rattle.value_terms.specs.Worlds.{Means}
use Rattle.value_terms.specs.Laws.{Stood}
use Rattle.value_terms.specs.Places.{AreMeant, all_met_among}
use Rattle.value_terms.proofs.Listing.{words_have}
use Rattle.value_terms.proofs.Staying.{all_stay}
use Rattle.value_terms.proofs.Meaning.{all_mean, all_say}
use Rattle.walk_steps.specs.State as walk
use Rattle.program_steps.specs.Leaves.{leaf, leaves_of}
use Rattle.program_steps.specs.Temporaries.{Temporaries}
use Rattle.program_steps.specs.Terms.{Texts}
use Rattle.program_steps.specs.Standing.{StandsFor}
use Rattle.program_steps.specs.Typed.{scope_at}
use Rattle.program_steps.specs.Placed.{InSetting}
use Rattle.program_steps.proofs.Filling.{on_bool}
use Rattle.program_steps.proofs.Listing.{leaf_value}
use Rattle.program_steps.proofs.Standing.{file_fits, stood}
use Rattle.program_steps.proofs.Seeing.{behind_file, in_file, among_locals}
use Rattle.call_words.specs.Callee.{reading_at, terms_at}
use Rattle.call_words.specs.Fits.{CalleeSees, numbers_at, count_of}

-- ---- parameters as a contract sees them

pub param_held : (n : ℕ) (vs : List Value) (x i : ℕ) → x ≡ n + i → held_by (params_from n vs x) ≡ value_at vs i
param_held n [] x i e = refl
param_held n (v ∷ vs) x zero e = ap held_by (at_is n (plain v true) (params_from (suc n) vs) x (plain v true) (λ h. refl) (λ d. absurd (d (omega (arith, e)))))
param_held n (v ∷ vs) x (suc i) e =
    ap held_by (at_is n (plain v true) (params_from (suc n) vs) x (params_from (suc n) vs x) (λ h. absurd (omega (arith, e, h))) (λ d. refl))
    ∙ param_held (suc n) vs x i (omega (arith, e))

pub param_home : (p : Facts) (n : ℕ) (vs : List Value) (x : ℕ) → block_of_local p x (params_from n vs x) ≡ hidden p x
param_home p n [] x = refl
param_home p n (v ∷ vs) x = by (n == x) (param_home p (suc n) vs x) where
  by : (b : Bool) → block_of_local p x (params_from (suc n) vs x) ≡ hidden p x → block_of_local p x (if b then plain v true else params_from (suc n) vs x) ≡ hidden p x
  by true h = refl
  by false h = h

-- ---- arguments beyond the last one

module _ (p : Facts) (s : Shape) where
  behind_terms : (l : ℕ) (es : t.Values) (x : ℕ) → count_of es ≤ x → term_at (terms_at p s l es) x ≡ as_number (num (pos 0))
  behind_terms l t.stop x h = refl
  behind_terms l (t.more e es) zero h = absurd (omega (arith, h))
  behind_terms l (t.more e es) (suc x) h = behind_terms l es x (omega (arith, h))

  behind_values : (xs : List Variable) (c : CoreWorld) (es : t.Values) (x : ℕ) → count_of es ≤ x → value_at (totals p xs c.temps c.world es) x ≡ number (pos 0)
  behind_values xs c t.stop x h = refl
  behind_values xs c (t.more e es) zero h = absurd (omega (arith, h))
  behind_values xs c (t.more e es) (suc x) h = behind_values xs c es x (omega (arith, h))

truth_is : (b : Bool) → truth_number b ≡ number (if b then pos 1 else pos 0)
truth_is true = refl
truth_is false = refl

-- ---- the terms of arguments

module _ (m : sense.World) (p : Facts) (s : Shape) (setting : InSetting m p s) {t0 : Table} (i : ℕ → Bool) (f : Temporaries) (c : CoreWorld) (st : State) (stands : StandsFor p s t0 i f c st) where
  -- a state that is remembered is read as the present one was
  module _ (sts : List State) (l : ℕ) (is : walk.at_or [] sts l ≡ st) where
    moved : (k : ℕ) → value m (leaves_of (st ∷ [])) (leaf 0 k) ≡ value m (leaves_of sts) (leaf l k)
    moved k = leaf_value m (st ∷ []) 0 k ∙ sym (ap (λ a. at a k) is) ∙ sym (leaf_value m sts l k)

    pub stood_at : Stood m (leaves_of sts) (reading_at p s l) p s.variables (scope_at s f) c.temps c.world
    stood_at =
        let old = stood p s setting.globals setting.integers i f c st stands m setting.model [] in
        let r = old.stands in
        record {
          kinds = old.kinds;
          stands = record {
            model = r.model;
            locals = λ x v e declared is_plain set. r.locals x v e declared is_plain set ∙ ap number (moved (local_value (sizes p s) x));
            flags = λ x v e declared is_plain. sym (moved (local_flag (sizes p s) x)) ∙ r.flags x v e declared is_plain;
            temporaries = λ j k e. r.temporaries j k e ∙ ap number (moved (temp_slot (sizes p s) j));
            globals = λ x v e is_plain. r.globals x v e is_plain ∙ ap number (moved (value_slot x));
            homes = λ no. absurd (false≢true no);
            table = λ no. absurd (false≢true no);
            numbers = λ no. absurd (false≢true no);
            blocks = λ no. absurd (false≢true no);
            offsets = λ no. absurd (false≢true no);
          };
        }

    module _ (es : t.Values) (typed : AreTyped p s.variables (scope_at s f) es) where
      pub are_meant : AreMeant m (leaves_of sts) (reading_at p s l) p s.variables c.temps c.world es
      are_meant = record {
        kinds = λ met. all_stay stood_at.kinds es typed met;
        terms = λ met. all_mean stood_at es typed met;
        word = all_say stood_at es typed;
        checks = words_have p s.variables (reading_at p s l) es;
      }

      module _ (met : all_met_among p s.variables c.temps c.world es ≡ true) (texts : Texts) (g : Function Steps) (count_is : count_of es ≡ g.params)
          (kinds : (x : ℕ) (v : Variable) → slice_get g.variables x ≡ Some v → x < g.params → operand_kind es x ≡ cell.Of (kind_of v)) where
        abbrev vs : List Value
        vs = totals p s.variables c.temps c.world es

        abbrev own : ℕ → ℤ
        own x = numbers_at m p s texts g es sts l x

        -- a number of the kind, and the value of the argument's term
        number_from : (k : Kind) (u : Term) (v : Value) → Means m (leaves_of sts) u v → is_content p (count c.world.memory.blocks) (cell.Of k) v ≡ true
            → (v ≡ number (value m (leaves_of sts) (number_term u))) × (holds p.model k (value m (leaves_of sts) (number_term u)) ≡ true)
        number_from k (as_number u) v means kind = (means, sym (ap (is_content p (count c.world.memory.blocks) (cell.Of k)) means) ∙ kind)
        number_from k (as_test u) v means kind =
            let is = means ∙ truth_is (truth m (leaves_of sts) u) in
            (is, sym (ap (is_content p (count c.world.memory.blocks) (cell.Of k)) is) ∙ kind)
        number_from k (as_pointer b o) v means kind = absurd (false≢true (sym (ap (is_content p (count c.world.memory.blocks) (cell.Of k)) means) ∙ kind))

        pub own_is : (x : ℕ) (v : Variable) → slice_get g.variables x ≡ Some v → (value_at vs x ≡ number (own x)) × (holds p.model (kind_of v) (own x) ≡ true)
        own_is x v e = on_bool (nat_lt x g.params)
            (λ h. number_from (kind_of v) (term_at (terms_at p s l es) x) (value_at vs x) (are_meant.terms met x)
            (subst (λ k. is_content p (count c.world.memory.blocks) k (value_at vs x) ≡ true) (kinds x v e (ltb-true x g.params h)) (are_meant.kinds met x)))
            (λ h.
            let far = ltb-false x g.params h in
            let n = count_is in
            let beyond : count_of es ≤ x = omega (arith, far, n) in
            let zero_is : own x ≡ pos 0 = ap (λ u. value m (leaves_of sts) (number_term u)) (behind_terms p s l es x beyond) in
            (behind_values p s s.variables c es x beyond ∙ ap number (sym zero_is), ap (holds p.model (kind_of v)) zero_is ∙ zero_of p.model (kind_of v)))

        -- what is seen of a memory whose variables of the file have these slots
        pub sees : (mem : Memory) (file : State) → IsGood p mem → ((x : ℕ) (v : Variable) → slice_get p.globals x ≡ Some v → mem.cells (negsuc x) (pos 0) ≡ number (at file (value_slot x)))
            → CalleeSees p g (seen_by_contract p vs mem) file own
        sees mem file good cells = record {
          file_homes = λ x v e. home_is p setting.globals x v e;
          globals = λ x v e. ap (λ b. if b then mem.cells (negsuc x) (pos 0) else held_by (params_from 0 vs (x - plain_globals p))) (in_file p s setting.globals setting.integers x v e) ∙ cells x v e;
          file_fits = λ x v e. file_fits p s setting.globals setting.integers mem good x v e (at file (value_slot x)) (cells x v e);
          homes = λ x v e. param_home p 0 vs x;
          locals = λ x v e.
              ap (λ b. if b then mem.cells (hidden p x) (pos 0) else held_by (params_from 0 vs ((plain_globals p + x) - plain_globals p))) (behind_file p s setting.globals setting.integers x)
              ∙ ap (λ k. held_by (params_from 0 vs k)) (among_locals p s setting.globals setting.integers x) ∙ param_held 0 vs x x (omega arith) ∙ (own_is x v e).0;
          fits = λ x v e. (own_is x v e).1;
        }
