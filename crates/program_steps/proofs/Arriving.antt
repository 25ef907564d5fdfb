-- Slots for a function that is entered.
use Rattle.std.proofs.Common.{◌≡◌, ◌⊎◌, ℕ, zero, suc, ◌+◌, ◌-◌, ◌<◌, ◌≤◌, ℤ, pos, negsuc, Bool, true, false, ◌&&◌, ◌||◌, if◌then◌else◌, List, [], ◌∷◌, map, length, Option, Some, None, slice_get, refl, sym, ap, ◌∙◌, subst, inl, inr, arith}
use Rattle.std.specs.Prelude.{nat_lt}
use Rattle.std.specs.List.{list_all}
use Rattle.std.proofs.lemmas.Bool.{false≢true, and_parts, ltb-true, ltb-false, lt-ltb}
use Rattle.wp_base.specs.declared.kinds.Kind.{Kind}
use Rattle.c_kinds.specs.Models.{holds}
use Rattle.qed_terms.specs.Operators.{is_equal}
use Rattle.c_runs.specs.TruthStates.{Value, number}
use Rattle.c_runs.specs.Program.{Variable, Function, Facts}
use Rattle.c_runs.specs.States.{Local, Memory, World, plain, unset, no_locals, held_by, hidden, params_from, block_of_local, seen_by_contract, plain_globals}
use Rattle.c_runs.specs.States as states
use Rattle.c_runs.specs.Scopes.{arrived}
use Rattle.c_runs.specs.Entry.{are_arguments}
use Rattle.c_runs.specs.CoreRun.{CoreWorld, begun}
use Rattle.c_runs.specs.Tree.{Steps}
use Rattle.plain_states.specs.Slots.{State, at, held, value_slot, local_value, local_flag, temp_slot, world_in, core_in, memory_in}
use Rattle.plain_states.specs.Scopes.{is_integer, kind_of, entry_state}
use Rattle.plain_states.proofs.Lists.{double_is, value_before}
use Rattle.plain_states.proofs.Scoping.{none_some, found_below}
use Rattle.plain_states.proofs.Calling.{some_same, entry_first, entry_behind, entry_argument}
use Rattle.plain_states.proofs.Entering.{found, when_true, arrives}
use Rattle.plain_states.proofs.Puts.{at_is}
use Rattle.goal_segments.specs.Told.{IsGood, Shape, sizes, shape_of, is_param, Fit, AreOf, IsScoped}
use Rattle.goal_segments.proofs.Told.{more_slots, entry_fits, entry_scoped, home_is, outer, start, start_fits, same_memory, first_world}
use Rattle.goal_segments.proofs.Arguments.{Numbers, numbers_of}
use Rattle.goal_segments.proofs.Heads.{same_blocks, good_state}
use Rattle.program_steps.specs.Temporaries.{Temporaries, no_temporaries, all_live}
use Rattle.program_steps.specs.Standing.{LocalIs, TempIs, StandsFor, SeenAs}
use Rattle.program_steps.specs.Functions.{EntersAs}
use Rattle.program_steps.specs.Laws.{WorldsHaveSlots}
use Rattle.program_steps.proofs.Filling.{on_bool}
use Rattle.program_steps.proofs.Seeing.{behind_file, in_file, among_locals}

-- ---- slots that fit stand for the world that they tell

module _ (p : Facts) (s : Shape) (globals : list_all is_integer p.globals ≡ true) (m : Memory) (good : IsGood p m) (n : ℕ) (ks : List Value) where
  pub fit_stands : (i : ℕ → Bool) (f : Temporaries) (st : State) → Fit p s st → IsScoped p s i st → StandsFor p s m.blocks i f (core_in (sizes p s) m n ks st) st
  fit_stands i f st fit scoped = record {
    size = fit.size;
    good = good_state p globals m good s st fit;
    blocks = same_blocks m.blocks;
    globals = λ x v e. ap (λ t. if t && true then held st (value_slot x) else m.cells (negsuc x) (pos 0)) (lt-ltb x (length p.globals) (found_below p.globals x v e));
    locals = λ x v e. let l = found_below s.variables x v e in record {
      same = when_true (nat_lt x (length s.variables)) (plain (held st (local_value (sizes p s) x)) (is_equal (pos 1) (at st (local_flag (sizes p s) x)))) unset (lt-ltb x (length s.variables) l);
      is_flag = fit.flags ((sizes p s).globals + x) (omega (arith, l));
      fits = λ h. fit.locals x v e;
    };
    temporaries = λ j l e. record { same = refl; fits = fit.temps j l };
    unscoped = λ x l e. scoped x l e;
  }

-- ---- parameters as a contract sees them

params_at : (n : ℕ) (zs : List ℤ) (x i : ℕ) (z : ℤ) → x ≡ n + i → slice_get zs i ≡ Some z → params_from n (map number zs) x ≡ plain (number z) true
params_at n [] x i z e g = absurd (none_some z g)
params_at n (u ∷ zs) x zero z e g =
    at_is n (plain (number u) true) (params_from (suc n) (map number zs)) x (plain (number z) true) (λ h. ap (λ v. plain (number v) true) (some_same u z g)) (λ d. absurd (d (omega (arith, e))))
params_at n (u ∷ zs) x (suc i) z e g =
    at_is n (plain (number u) true) (params_from (suc n) (map number zs)) x (plain (number z) true) (λ h. absurd (omega (arith, e, h)))
    (λ d. params_at (suc n) zs x i z (omega (arith, e)) g)

params_behind : (n : ℕ) (zs : List ℤ) (x : ℕ) → n + length zs ≤ x → params_from n (map number zs) x ≡ unset
params_behind n [] x l = refl
params_behind n (u ∷ zs) x l =
    at_is n (plain (number u) true) (params_from (suc n) (map number zs)) x unset (λ h. absurd (omega (arith, l, h))) (λ d. params_behind (suc n) zs x (omega (arith, l)))

-- ---- a function that is entered

module _ (p : Facts) (f : Function Steps) (temporaries : ℕ) (temp_kind : ℕ → Kind) (globals : list_all is_integer p.globals ≡ true) (integers : list_all is_integer f.variables ≡ true)
    (enough : f.params ≤ length f.variables) (w : World) (good : IsGood p w.memory) (zs : List ℤ) (args : AreOf p f.variables f.params zs) where
  abbrev s : Shape
  s = shape_of f temporaries temp_kind

  abbrev before : State
  before = start p globals w.memory good.well

  abbrev more : ℕ
  more = more_slots (sizes p s) temporaries (length zs)

  abbrev pub first : State
  first = entry_state (sizes p s).globals zs more before

  pub first_fits : Fit p s first
  first_fits = entry_fits p outer s before (start_fits p globals w.memory good.well) zs f.params args enough

  few : length zs ≤ length f.variables
  few = let e = args.0 in omega (arith, e, enough)

  comes : begun (arrived f.variables (map number zs) w) ≡ core_in (sizes p s) w.memory w.turns w.contents first
  comes = sym (ap (λ u. begun (arrived f.variables (map number zs) u)) (first_world p globals w.memory good.well w.turns w.contents))
      ∙ arrives p f.variables integers (sizes p outer) refl w.memory w.turns w.contents zs more before few

  first_stands : (g : Temporaries) → StandsFor p s w.memory.blocks (is_param f.params) g (begun (arrived f.variables (map number zs) w)) first
  first_stands g = subst (λ c. StandsFor p s w.memory.blocks (is_param f.params) g c first) (sym comes)
      (fit_stands p s globals w.memory good w.turns w.contents (is_param f.params) g first first_fits
      (entry_scoped p outer s before (start_fits p globals w.memory good.well) zs f.params args enough))

  -- ---- as the contract sees it

  pub file_at : (x : ℕ) (v : Variable) → slice_get p.globals x ≡ Some v → w.memory.cells (negsuc x) (pos 0) ≡ number (at first (value_slot x))
  file_at x v e =
      let l = found_below p.globals x v e in
      ap (λ (m : Memory). m.cells (negsuc x) (pos 0)) (sym (same_memory p globals w.memory good.well))
      ∙ ap (λ t. if t && true then held before (value_slot x) else w.memory.cells (negsuc x) (pos 0)) (lt-ltb x (length p.globals) l)
      ∙ ap number (sym (entry_first (length p.globals) (value_slot x) zs more before (value_before x (length p.globals) l)))

  record Param (x : ℕ) : Type 0 where
    is_set : Bool
    same : params_from 0 (map number zs) x ≡ plain (number (at first (local_value (sizes p s) x))) is_set

  param_at : (x : ℕ) → Param x
  param_at x = on_bool (nat_lt x (length zs))
      (λ t. let z = found zs x (ltb-true x (length zs) t) in record {
        is_set = true;
        same = params_at 0 zs x x z.0 (omega arith) z.1 ∙ ap (λ v. plain (number v) true) (sym (entry_argument (length p.globals) x zs more before z.0 z.1).0);
      })
      (λ t. let l = ltb-false x (length zs) t in
      let a = double_is (length p.globals + length zs) in let b = double_is (length p.globals + x) in record {
        is_set = false;
        same = params_behind 0 zs x (omega (arith, l))
            ∙ ap (λ v. plain (number v) false) (sym (entry_behind (length p.globals) (local_value (sizes p s) x) zs more before (omega (arith, l, a, b))));
      })

  first_seen : SeenAs p s (seen_by_contract p (map number zs) w.memory) first first
  first_seen = record {
    file_homes = λ x v e. home_is p globals x v e;
    globals = λ x v e. ap (λ t. if t then w.memory.cells (negsuc x) (pos 0) else held_by (params_from 0 (map number zs) (x - plain_globals p))) (in_file p s globals integers x v e) ∙ file_at x v e;
    file_fits = λ x v e. first_fits.globals x v e;
    homes = λ x v e. ap (block_of_local p x) (param_at x).same;
    locals = λ x v e.
        ap (λ t. if t then w.memory.cells (hidden p x) (pos 0) else held_by (params_from 0 (map number zs) ((plain_globals p + x) - plain_globals p))) (behind_file p s globals integers x)
        ∙ ap (λ k. held_by (params_from 0 (map number zs) k)) (among_locals p s globals integers x) ∙ ap held_by (param_at x).same;
    fits = λ x v e h. first_fits.locals x v e;
  }

  pub entered : EntersAs p s f (map number zs) w first
  entered = record { stands = first_stands (all_live f.body [] no_temporaries); seen = first_seen }

-- each world in which a function is entered with arguments of its kinds has slots
module _ (p : Facts) (f : Function Steps) (temporaries : ℕ) (temp_kind : ℕ → Kind) (globals : list_all is_integer p.globals ≡ true) (integers : list_all is_integer f.variables ≡ true)
    (enough : f.params ≤ length f.variables) (w : World) (good : IsGood p w.memory) (vs : List Value) (given : are_arguments p w.memory.blocks f.params f.variables vs ≡ true) where
  pub has_slots : (st : State) × EntersAs p (shape_of f temporaries temp_kind) f vs w st
  has_slots =
      let zs = numbers_of p w.memory.blocks f.params f.variables integers vs given in (
        first p f temporaries temp_kind globals integers enough w good zs.numbers zs.fit,
        subst (λ vs. EntersAs p (shape_of f temporaries temp_kind) f vs w (first p f temporaries temp_kind globals integers enough w good zs.numbers zs.fit)) (sym zs.same)
            (entered p f temporaries temp_kind globals integers enough w good zs.numbers zs.fit),
      )

pub worlds_have_slots : WorldsHaveSlots
worlds_have_slots p f temporaries temp_kind globals integers enough w good vs given = has_slots p f temporaries temp_kind globals integers enough w good vs given
