-- Statements of a core function with memory fit.
use Rattle.std.proofs.Common.{◌≡◌, ◌<◌, ℕ, suc, nat_lt, ◌==◌, Bool, true, false, not, ◌&&◌, ◌||◌, if◌then◌else◌, List, [], ◌∷◌, ◌++◌, map, Option, Some, None, option_map, refl, sym, ap, subst, ◌∙◌, arith}
use Rattle.std.proofs.lemmas.Bool.{false≢true, or_left, or_right}
use Rattle.std.proofs.lemmas.Bool.Decides.{nat_tests}
use Rattle.wp_base.specs.declared.kinds.CellKind.{CellKind}
use Rattle.typed_prog.specs.Tree as t
use Rattle.acsl_trees.specs.Tree as acsl
use Rattle.qed_terms.specs.Meaning as sense
use Rattle.c_runs.specs.Program.{Measure, Contract, Loop, Function, Facts}
use Rattle.c_runs.specs.Claims.{parts_of}
use Rattle.c_runs.specs.Core.{Core, set, store, start, call, branch, repeat, around, exit, give, claim, scope, Cores, end, then_}
use Rattle.c_runs.specs.Tree as core
use Rattle.c_runs.specs.Tree.{Steps}
use Rattle.c_runs.specs.Adding.{goal_of, step_of, steps_of, function_of}
use Rattle.goal_segments.specs.Told.{with_names, goal_temp}
use Rattle.value_terms.specs.Typed.{kind_given}
use Rattle.program_steps.specs.Temporaries.{Temporaries, no_temporaries, uses, some_use, goal_uses, live, all_live}
use Rattle.typed_runs.specs.Fitting as typed
use Rattle.typed_normal.specs.Typed.{CoreIsTyped, CoresAreTyped}
use Rattle.typed_normal.specs.Order.{KeepsOrder, KeepOrder}
use Rattle.memory_words.specs.Shapes.{FileCells, Shape}
use Rattle.memory_words.specs.Readings.{Texts, body_reading, entry_reading}
use Rattle.memory_words.specs.Seen.{MeasureFits}
use Rattle.memory_words.specs.Points.{Out, Force, of_function, of_loop, Point, deeper_out, later_force, remembered, in_block, uses_of}
use Rattle.memory_words.specs.Words.{has_home, in_scope_of, entered_loop, inside_loop, at_loop, in_pass}
use Rattle.memory_words.specs.Typed.{AllOf, OtherFits, WordFits, AllFit}
use Rattle.memory_calls.specs.LoopFits.{at_levels, has_level, SetRegions, ClauseFits, ForceFits}
use Rattle.typed_annotations.specs.Behaviors.{OwnContractFits, LoopAnnotationsFit}
use Rattle.program_cells.specs.Parts.{AreKnown}
use Rattle.program_cells.specs.Trees.{Declared}
use Rattle.program_cells.specs.Programs.{value_parts, values_parts, goal_parts, variables_parts, loop_parts, step_parts, steps_parts}
use Rattle.temporary_kinds.specs.Kinds.{or_else, only_if, value_kind, values_kind, goal_kind, step_kind, steps_kind, greater, value_count, values_count, goal_count, step_count, steps_count}
use Rattle.memory_fitting.specs.Expressions.{Agrees}
use Rattle.memory_fitting.specs.Values.{own_shape}
use Rattle.memory_fitting.specs.Annotated.{fits_of, Annotated, AllAnnotated, CalleesAre, NumbersAre, AreThere}
use Rattle.memory_fitting.specs.Statements.{with_checks, AreGiven, TypedStatementsFit}
use Rattle.memory_fitting.proofs.Typing.{same, known_left, known_right}
use Rattle.memory_fitting.proofs.Valued.{value_fits, values_fit, store_fits}
use Rattle.memory_fitting.proofs.Variables.{declares, takes}
use Rattle.memory_fitting.proofs.Calling.{count_is, kinds_are, if_measured, no_pointer, result_goes}

-- ---- temporaries of parts

module _ (s : Shape) (k : ℕ → CellKind) where
  in_first : (g u : ℕ → Option CellKind) → Agrees s k (λ m. or_else (g m) (u m)) → Agrees s k g
  in_first g u all m l is = all m l (ap (λ o. or_else o (u m)) is)

  in_second : (g u : ℕ → Option CellKind) → Agrees s k (λ m. or_else (g m) (u m)) → Agrees s k u
  in_second g u all m l is = by (g m) refl where
    by : (o : Option CellKind) → g m ≡ o → (s.temp_kind m ≡ k m) × (m < s.temporaries)
    by (Some j) first = all m j (ap (λ o. or_else o (u m)) first)
    by None first = all m l (ap (λ o. or_else o (u m)) first ∙ is)

below_first : (n a b : ℕ) → n < a → n < greater a b
below_first n a b h = by (nat_lt a b) refl where
  by : (c : Bool) → nat_lt a b ≡ c → n < (if c then b else a)
  by true is = grind (arith, nat_tests, is, h)
  by false is = h

below_second : (n a b : ℕ) → n < b → n < greater a b
below_second n a b h = by (nat_lt a b) refl where
  by : (c : Bool) → nat_lt a b ≡ c → n < (if c then b else a)
  by true is = h
  by false is = grind (arith, nat_tests, is, h)

there_first : (s : Shape) (a b : ℕ) → AreThere s (greater a b) → AreThere s a
there_first s a b h n less = h n (below_first n a b less)

there_second : (s : Shape) (a b : ℕ) → AreThere s (greater a b) → AreThere s b
there_second s a b h n less = h n (below_second n a b less)

-- ---- the temporaries that are used behind the blocks around

uses_same : (os : List Out) → uses_of (map deeper_out os) ≡ uses_of os
uses_same [] = refl
uses_same (o ∷ os) = ap (λ fs. o.uses ∷ fs) (uses_same os)

uses_twice : (os : List Out) → uses_of (map deeper_out (map deeper_out os)) ≡ uses_of os
uses_twice os = uses_same (map deeper_out os) ∙ uses_same os

-- ---- sets in force

later_level : (o : Option ℕ) → has_level (option_map suc o) ≡ has_level o
later_level None = refl
later_level (Some l) = refl

module _ (m : sense.World) (p : Facts) (s : Shape) (cells : FileCells) (texts : Texts) (contract : Contract) where
  force_same : (pt pt' : Point) → pt.stands.is_param ≡ pt'.stands.is_param → (w : Force) → ForceFits m p s cells texts contract pt w
      → ForceFits m p s cells texts contract pt' w
  force_same pt pt' params of_function h = (h.0, subst (λ i. AllOf (ClauseFits m p s cells texts i) (parts_of contract)) params h.1)
  force_same pt pt' params (of_loop sp rs d) h = h

  force_later : (pt : Point) (w : Force) → ForceFits m p s cells texts contract pt w → ForceFits m p s cells texts contract (remembered pt) (later_force w)
  force_later pt of_function h = h
  force_later pt (of_loop sp rs d) h = λ l e g has. h l e g (has ∙ later_level sp.loop_entry)

  -- inside of a loop its own set, or that around
  force_inside : (pt : Point) (l : Loop) → LoopAnnotationsFit m p s cells texts pt l → ForceFits m p s cells texts contract pt pt.force
      → ForceFits m p s cells texts contract (at_loop l pt) (inside_loop l (entered_loop pt) pt.force)
  force_inside pt l fit outer = by l.assigns refl where
    by : (o : Option (List acsl.Tree)) → l.assigns ≡ o
        → ForceFits m p s cells texts contract (at_loop l pt) (inside_loop (record l { assigns = o }) (entered_loop pt) pt.force)
    by None none = force_same pt (at_loop l pt) refl pt.force outer
    by (Some rs) some = λ n e g has. at g n e has where
      at : (g : Option ℕ) (n e : ℕ) → has_level g ≡ true
          → SetRegions m p s cells pt.stands.in_scope (body_reading p s cells texts (at_levels (entered_loop pt) n e g)) (Some rs)
      at None n e has = absurd (false≢true has)
      at (Some g) n e has =
          subst (SetRegions m p s cells pt.stands.in_scope (body_reading p s cells texts (at_levels (entered_loop pt) n e (Some g)))) some (fit.regions n e g)

  force_in_pass : (pt : Point) (l : Loop) → LoopAnnotationsFit m p s cells texts pt l → ForceFits m p s cells texts contract pt pt.force
      → ForceFits m p s cells texts contract (in_pass l pt) (in_pass l pt).force
  force_in_pass pt l fit outer =
      force_later (remembered (at_loop l pt)) (later_force (at_loop l pt).force) (force_later (at_loop l pt) (at_loop l pt).force (force_inside pt l fit outer))

  -- ---- points in a scope

  module _ (pt : Point) (ys : List ℕ) where
    names_there : (c : Bool) → with_names ys pt.stands.in_scope ≡ (in_scope_of s cells c pt ys).stands.in_scope
    names_there true = refl
    names_there false = refl

    params_there : (c : Bool) → pt.stands.is_param ≡ (in_scope_of s cells c pt ys).stands.is_param
    params_there true = refl
    params_there false = refl

    uses_there : (c : Bool) → uses_of pt.outs ≡ uses_of (in_scope_of s cells c pt ys).outs
    uses_there true = sym (uses_same pt.outs)
    uses_there false = refl

    force_there : (c : Bool) → ForceFits m p s cells texts contract pt pt.force
        → ForceFits m p s cells texts contract (in_scope_of s cells c pt ys) (in_scope_of s cells c pt ys).force
    force_there true h =
        force_same (remembered pt) (in_scope_of s cells true pt ys) refl (remembered pt).force (force_later pt pt.force h)
    force_there false h = force_same pt (in_scope_of s cells false pt ys) refl pt.force h

-- ---- statements

module _ (m : sense.World) (p : Facts) (s : Shape) (n : ℕ) (k : ℕ → CellKind) (b : Bool) (h : CellKind → Bool) (cells : FileCells) (texts : Texts) (contract : Contract)
    (functions : ℕ → Option (Function Cores)) (results : ℕ → Option CellKind) (d : Declared) (given : AreGiven functions results) (numbers : NumbersAre s k)
    (vars : AreKnown cells (variables_parts s.variables)) (callees : CalleesAre m p s cells texts (with_checks functions)) where
  abbrev own : typed.Shape
  own = own_shape p s n k b h cells (λ x. true)

  abbrev with_check : Core → core.Step
  with_check a = step_of s.variables a

  abbrev all_checked : Cores → Steps
  all_checked ss = steps_of s.variables ss

  abbrev fits : OtherFits
  fits = fits_of m p s cells texts contract (with_checks functions)

  mutual
    step_fits : (pt : Point) (f : Temporaries) (low : ℕ) (a : Core) → CoreIsTyped p own functions pt.stands.in_scope low a
        → AreKnown cells (step_parts p s.variables d (with_check a)) → Agrees s k (step_kind results (with_check a)) → AreThere s (step_count (with_check a))
        → KeepsOrder (uses_of pt.outs) f (with_check a) → OwnContractFits m p s cells texts pt.stands.is_param contract
        → ForceFits m p s cells texts contract pt pt.force → Annotated m p s cells texts contract pt f (with_check a) → WordFits m p s cells texts fits pt f (with_check a)
    step_fits pt f low (set x e) is known agree there order mine force notes =
        let one : (s.temp_kind x ≡ k x) × (x < s.temporaries) =
        in_second s k (value_kind e) (λ i. only_if x i (Some (kind_given (t.type_of e)))) agree x (kind_given (t.type_of e))
        (ap (λ c. if c then Some (kind_given (t.type_of e)) else None) (same x)) in (
          one.1,
          value_fits p s n k b h cells pt.stands.in_scope (live (with_check (set x e)) (uses_of pt.outs) f) e (s.temp_kind x) (is.0, is.1 ∙ sym one.0) known
              (in_first s k (value_kind e) (λ i. only_if x i (Some (kind_given (t.type_of e)))) agree) (λ i u. or_left (uses e i) (not (x == i) && f i) u),
          refl,
        )
    step_fits pt f low (store type l path es) is known agree there order mine force notes =
        store_fits p s n k b h cells pt.stands.in_scope (live (with_check (store type l path es)) (uses_of pt.outs) f) type path es is known agree
        (λ i u. or_left (some_use es i) (f i) u)
    step_fits pt f low (start x e) is known agree there order mine force notes = (
      is.0,
      takes cells p s n k b h vars pt.stands.in_scope low x is.0 is.1,
      value_fits p s n k b h cells pt.stands.in_scope (live (with_check (start x e)) (uses_of pt.outs) f) e is.0 is.2 known agree (λ i u. or_left (uses e i) (f i) u),
      refl,
    )
    step_fits pt f low (call to j l es) is known agree there order mine force notes =
        let used : Temporaries = live (with_check (call to j l es)) (uses_of pt.outs) f in
        let to' = goal_of s.variables to in
        let found = ap (option_map function_of) is.1 in
        record {
          function = function_of is.0;
          found = found;
          checks = refl;
          values = values_fit p s n k b h cells pt.stands.in_scope used es is.2.typed (known_right cells (goal_parts p s.variables to') (values_parts p s.variables es) known)
              (in_first s k (values_kind es) (goal_kind to' (results j)) agree)
              (λ i u. or_left (some_use es i || goal_uses to' i) (not (goal_temp to' i) && f i) (or_left (some_use es i) (goal_uses to' i) u));
          count = count_is p own is.0.params is.0.variables es is.2.kinds;
          kinds = kinds_are p own is.0.params is.0.variables es is.2.kinds;
          callee = callees.fit j (function_of is.0) found es;
          force = force;
          measure = if_measured (λ (a : Measure). (level : ℕ) → MeasureFits m p (entry_reading p s cells texts level pt.stands.is_param) a.what) contract.decreases mine.measure;
          integers = no_pointer cells is.0.result (callees.results j (function_of is.0) found);
          result = result_goes p s n k b h cells pt.stands.in_scope used low is.0.result (results j) to (given j is.0 is.1) is.3 vars numbers
              (known_left cells (goal_parts p s.variables to') (values_parts p s.variables es) known) (in_second s k (values_kind es) (goal_kind to' (results j)) agree)
              (there_second s (values_count es) (goal_count to') there)
              (λ i u. or_left (some_use es i || goal_uses to' i) (not (goal_temp to' i) && f i) (or_right (some_use es i) (goal_uses to' i) u)) notes;
        }
    step_fits pt f low (branch e x y) is known agree there order mine force notes =
        let xs = all_checked x in
        let ys = all_checked y in
        let rest = known_right cells (value_parts p s.variables e) (steps_parts p s.variables d xs ++ steps_parts p s.variables d ys) known in
        let others = in_second s k (value_kind e) (λ i. or_else (steps_kind results xs i) (steps_kind results ys i)) agree in
        let more = there_second s (value_count e) (greater (steps_count xs) (steps_count ys)) there in (
          kind_given (t.type_of e),
          value_fits p s n k b h cells pt.stands.in_scope (live (with_check (branch e x y)) (uses_of pt.outs) f) e (kind_given (t.type_of e)) (is.0, refl)
              (known_left cells (value_parts p s.variables e) (steps_parts p s.variables d xs ++ steps_parts p s.variables d ys) known)
              (in_first s k (value_kind e) (λ i. or_else (steps_kind results xs i) (steps_kind results ys i)) agree)
              (λ i u. or_left (uses e i) (all_live xs (uses_of pt.outs) f i || all_live ys (uses_of pt.outs) f i) u),
          refl,
          steps_fit pt f low x is.1 (known_left cells (steps_parts p s.variables d xs) (steps_parts p s.variables d ys) rest)
              (in_first s k (steps_kind results xs) (steps_kind results ys) others) (there_first s (steps_count xs) (steps_count ys) more) order.0 mine force notes.0,
          steps_fit pt f low y is.2 (known_right cells (steps_parts p s.variables d xs) (steps_parts p s.variables d ys) rest)
              (in_second s k (steps_kind results xs) (steps_kind results ys) others) (there_second s (steps_count xs) (steps_count ys) more) order.1 mine force notes.1,
        )
    step_fits pt f low (repeat l ss) is known agree there order mine force notes = (
      record {
        invariants = notes.0.invariants;
        variant = notes.0.variant;
        regions = notes.0.regions;
        force = force;
        scoped = notes.1;
        temporaries = order.0;
      },
      steps_fit (in_pass l pt) no_temporaries l.declared ss is.2
          (known_right cells (loop_parts p s.variables d l) (steps_parts p s.variables d (all_checked ss)) known) agree there
          (subst (λ os. KeepOrder os no_temporaries (all_checked ss)) (sym (uses_twice pt.outs)) order.1) mine (force_in_pass m p s cells texts contract pt l notes.0 force) notes.2,
    )
    step_fits pt f low (around ss) is known agree there order mine force notes =
        steps_fit (in_block f pt) f low ss is known agree there order mine (force_same m p s cells texts contract pt (in_block f pt) refl pt.force force) notes
    step_fits pt f low (exit j) is known agree there order mine force notes = notes
    step_fits pt f low (give None) is known agree there order mine force notes = is
    step_fits pt f low (give (Some e)) is known agree there order mine force notes = (
      is.0,
      is.1,
      value_fits p s n k b h cells pt.stands.in_scope (live (with_check (give (Some e))) (uses_of pt.outs) f) e is.0 is.2 known agree (λ i u. u),
      refl,
    )
    step_fits pt f low (claim c) is known agree there order mine force notes = notes
    step_fits pt f low (scope ys ss) is known agree there order mine force notes =
        let c = has_home s.variables ys in (
          declares cells p s n k b h vars pt.stands.in_scope low ys is.0,
          steps_fit (in_scope_of s cells c pt ys) f low ss
              (subst (λ i. CoresAreTyped p own functions i low ss) (names_there m p s cells texts contract pt ys c) is.1) known agree there
              (subst (λ os. KeepOrder os f (all_checked ss)) (uses_there m p s cells texts contract pt ys c) order)
              (subst (λ i. OwnContractFits m p s cells texts i contract) (params_there m p s cells texts contract pt ys c) mine)
              (force_there m p s cells texts contract pt ys c force) notes,
        )

    pub steps_fit : (pt : Point) (f : Temporaries) (low : ℕ) (ss : Cores) → CoresAreTyped p own functions pt.stands.in_scope low ss
        → AreKnown cells (steps_parts p s.variables d (all_checked ss)) → Agrees s k (steps_kind results (all_checked ss)) → AreThere s (steps_count (all_checked ss))
        → KeepOrder (uses_of pt.outs) f (all_checked ss) → OwnContractFits m p s cells texts pt.stands.is_param contract
        → ForceFits m p s cells texts contract pt pt.force → AllAnnotated m p s cells texts contract pt f (all_checked ss) → AllFit m p s cells texts fits pt f (all_checked ss)
    steps_fit pt f low end is known agree there order mine force notes = tt
    steps_fit pt f low (then_ a ss) is known agree there order mine force notes =
        let one = with_check a in
        let rest = all_checked ss in (
          step_fits pt (all_live rest (uses_of pt.outs) f) low a is.0 (known_left cells (step_parts p s.variables d one) (steps_parts p s.variables d rest) known)
              (in_first s k (step_kind results one) (steps_kind results rest) agree) (there_first s (step_count one) (steps_count rest) there) order.0 mine force notes.0,
          steps_fit pt f low ss is.1 (known_right cells (step_parts p s.variables d one) (steps_parts p s.variables d rest) known)
              (in_second s k (step_kind results one) (steps_kind results rest) agree) (there_second s (step_count one) (steps_count rest) there) order.1 mine force notes.1,
        )

pub typed_statements_fit : TypedStatementsFit
typed_statements_fit m p s n k b h cells texts contract functions results d given numbers vars callees = steps_fit m p s n k b h cells texts contract functions results d given numbers vars callees
