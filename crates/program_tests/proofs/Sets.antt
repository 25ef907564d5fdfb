-- Sets of regions that pass have no gaps, and let no variable change that isn't in scope.
use Rattle.std.proofs.Common.{◌≡◌, ℕ, ◌+◌, ◌<◌, Bool, true, false, ◌&&◌, ◌||◌, ℤ, pos, negsuc, List, [], ◌∷◌, Option, Some, None, slice_get, refl, sym, ap, subst, ◌∙◌, arith}
use Rattle.std.proofs.lemmas.Bool.{false≢true, and_parts, lt-ltb}
use Rattle.typed_prog.specs.declared.types.CoreType.{CoreType}
use Rattle.typed_prog.specs.declared.operators.Variable as code
use Rattle.typed_prog.specs.declared.operators.Variable.TheVariants as variables
use Rattle.acsl_trees.specs.Tree as acsl
use Rattle.acsl_names.specs.declared.names.Definition.{Definition}
use Rattle.c_runs.specs.Program.{Variable, Behavior, Contract, Loop, Function, Facts, Program}
use Rattle.c_runs.specs.States.{Memory, plain_globals, hidden, seen_by_contract}
use Rattle.c_runs.specs.Claims.{at_entry, parts_of, regions_of, value_of}
use Rattle.c_runs.specs.Objects.{is_plain_in}
use Rattle.c_runs.specs.TruthStates.{Value, World, span_of, is_negative, covers}
use Rattle.c_runs.specs.TruthAllowed.{is_named}
use Rattle.c_runs.specs.Core.{Cores}
use Rattle.c_runs.specs.CoreRun.{CoreWorld}
use Rattle.c_runs.specs.Tree as core
use Rattle.c_runs.specs.Tree.{Steps}
use Rattle.c_runs.specs.Adding.{add_checks}
use Rattle.c_runs.proofs.Numbers.{equal_is}
use Rattle.qed_terms.specs.Operators.{is_equal}
use Rattle.plain_runs.specs.Kept.{some_sets}
use Rattle.typed_memories.proofs.Tests.{same_number}
use Rattle.program_steps.specs.Temporaries.{no_temporaries}
use Rattle.typed_runs.specs.Fitting as typed
use Rattle.typed_runs.specs.Fitting.{FitsProgram}
use Rattle.typed_runs.specs.Kept.{Holds}
use Rattle.typed_modular.specs.Solid.{AllSolid, EntersWith, SetIsSolid, AllAreSolid, entering, lets_at, LoopSet, LoopSets, AllLoopSets, SetsFit}
use Rattle.acsl_well_typed.specs.WellTyped.{Known}
use Rattle.acsl_well_typed.specs.Definitions.{known_with}
use Rattle.annotations_encoded.specs.Sights.{Sights}
use Rattle.memory_words.specs.Shapes.{FileCells}
use Rattle.memory_words.specs.Readings.{InScope, Texts}
use Rattle.memory_words.specs.Typed.{AllOf}
use Rattle.memory_words.proofs.Homes.{hidden_number}
use Rattle.memory_calls.specs.LoopSets.{lets_local}
use Rattle.typed_annotations.specs.Sights.{may_name, of_file, params_of, body_sights, entry_sights, return_sights}
use Rattle.typed_annotations.specs.Claims.{IsRegionIn}
use Rattle.typed_annotations.specs.Behaviors.{AreRegions, BehaviorIs, ContractIs, LoopIs}
use Rattle.program_tests.specs.Tests.{all_scoped, loop_passes, Where, in_block, in_names, in_pass, at_begin, sights_at, step_passes, steps_pass, function_passes}
use Rattle.program_tests.specs.Laws.{AllPass, PassingSetsFit}
use Rattle.program_tests.proofs.Annotations.{loop_is}
use Rattle.program_tests.proofs.Bodies.{scoped_so}
use Rattle.program_tests.proofs.Ready.{checked_from, own_contract, own_body}
use Rattle.program_tests.proofs.Places.{AreSeen}
use Rattle.program_tests.proofs.Regions.{IsFine, MayBeNamed, region_fine}
use Rattle.program_tests.proofs.Seen.{homes_of, entry_seen, loop_seen, file_named, body_named}

-- ---- sets, in a state that is seen so

module _ (p : Facts) (k : Known) (may : code.Variable → Bool) (g : Sights) (w : World) (seen : AreSeen (homes_of p) g w) (named : MayBeNamed may g)
    (structs : (n : ℕ) → g.structs n ≡ w.structs n) where
  abbrev Fine : acsl.Tree → Type 0
  Fine a = IsFine (homes_of p) may (value_of p w a)

  fine : (a : acsl.Tree) → IsRegionIn may k g a → Fine a
  fine a h = region_fine p k (homes_of p) may g w seen named structs a h

  all_solid : (ts : List acsl.Tree) → AllOf (IsRegionIn may k g) ts → AllSolid (regions_of p w ts)
  all_solid [] h = tt
  all_solid (t ∷ ts) h = ((fine t h.0).solid, all_solid ts h.1)

  pub set_solid : (o : Option (List acsl.Tree)) → AreRegions (IsRegionIn may k g) o → SetIsSolid p w o
  set_solid None h = tt
  set_solid (Some ts) h = all_solid ts h

  -- a variable that is named by its block may be named
  abbrev IsOwn : ℤ → Type 0
  IsOwn b = (x : code.Variable) × (may x ≡ true) × (homes_of p x ≡ b)

  covered : (v : Value) → IsFine (homes_of p) may v → (b o : ℤ) → is_negative b ≡ true → covers v b o ≡ true → IsOwn b
  covered v h b o negative covers_it =
      h.block b negative
      (same_number (span_of v).block b (sym (equal_is (span_of v).block b) ∙ (and_parts (is_equal (span_of v).block b) _ covers_it).0))

  either_named : (a b : Bool) (X : Type 0) → (a ≡ true → X) → (b ≡ true → X) → (a || b) ≡ true → X
  either_named true b X f g h = f refl
  either_named false b X f g h = g h

  pub named_own : (ts : List acsl.Tree) → AllOf (IsRegionIn may k g) ts → (b : ℤ) → is_negative b ≡ true → is_named (regions_of p w ts) b ≡ true → IsOwn b
  named_own [] h b negative is = absurd (false≢true is)
  named_own (t ∷ ts) h b negative is =
      either_named (covers (value_of p w t) b (pos 0)) (is_named (regions_of p w ts) b) (IsOwn b)
      (λ here. covered (value_of p w t) (fine t h.0) b (pos 0) negative here) (λ there. named_own ts h.1 b negative there) is

-- ---- variables of a function

found_plain : (vs : List Variable) (x : ℕ) → is_plain_in (slice_get vs x) ≡ true → (v : Variable) × (slice_get vs x ≡ Some v) × (v.is_plain ≡ true)
found_plain vs x h = by (slice_get vs x) refl h where
  by : (o : Option Variable) → slice_get vs x ≡ o → is_plain_in o ≡ true → (v : Variable) × (slice_get vs x ≡ Some v) × (v.is_plain ≡ true)
  by (Some v) e h = (v, e, h)
  by None e h = absurd (false≢true h)

below_same : {i j : ℕ} → negsuc i ≡ negsuc j → i ≡ j
below_same e = cc

module _ (p : Facts) (xs : List Variable) (i : InScope) (x : ℕ) where
  own_scoped : (y : code.Variable) → may_name p xs i y ≡ true → homes_of p y ≡ hidden p x → i x ≡ true
  own_scoped (variables.Global y) h e =
      let v = found_plain p.globals y h in
      let n = hidden_number p y v.0 v.1 v.2 in
      let below : n.0 < plain_globals p = n.2 in
      let same : n.0 ≡ plain_globals p + x = below_same (sym n.1 ∙ e) in
      absurd (omega (arith, below, same))
  own_scoped (variables.Local y) h e =
      let d = and_parts (i y) (is_plain_in (slice_get xs y)) h in
      let same : plain_globals p + y ≡ plain_globals p + x = below_same e in
      let one : y ≡ x = omega (arith, same) in
      subst (λ x. i x ≡ true) one d.0

-- ---- loops

module _ (p : Facts) (cells : FileCells) (texts : Texts) (ds : List Definition) (result : CoreType) (g : Function Steps) (s : typed.Shape) (same : s.variables ≡ g.variables) where
  abbrev K : Known
  K = known_with true ds result

  abbrev ps : InScope
  ps = params_of g

  module _ (i : InScope) (l : Loop) (ss : Steps) where
    abbrev its : Sights
    its = body_sights p cells texts g.variables i ps i true

    abbrev may : code.Variable → Bool
    may = may_name p g.variables i

    module _ (vs : List Value) (m : Memory) (enters : EntersWith p g vs m) (c : CoreWorld) (h : Holds p s i no_temporaries c) where
      abbrev there : World
      there = entering p (seen_by_contract p vs m) c

      are_seen : AreSeen (homes_of p) its there
      are_seen = loop_seen p cells texts g.variables ps vs m enters.good enters.pointers s same i c h

      solid : LoopIs may K its l → SetIsSolid p there l.assigns
      solid is = set_solid p K may its there are_seen (body_named p cells texts g.variables i ps i true) (λ n. refl) l.assigns is.assigns

      lets_none : l.assigns ≡ None → lets_local l ss ≡ some_sets ss
      lets_none e = ap (λ o. lets_local (record l { assigns = o }) ss) e

      scoped : LoopIs may K its l → all_scoped l.declared (lets_local l ss) i ≡ true → (x : ℕ) → x < l.declared → lets_at p there ss x l.assigns ≡ true → i x ≡ true
      scoped is all x less lets = by l.assigns refl is.assigns lets where
        by : (o : Option (List acsl.Tree)) → l.assigns ≡ o → AreRegions (IsRegionIn may K its) o → lets_at p there ss x o ≡ true → i x ≡ true
        by None e regions lets =
            scoped_so l.declared (lets_local l ss) i all x
            (ap (λ b. b && lets_local l ss x) (lt-ltb x l.declared less) ∙ ap (λ f. f x) (lets_none e) ∙ lets)
        by (Some ts) e regions lets =
            let o = named_own p K may its there are_seen (body_named p cells texts g.variables i ps i true) (λ n. refl) ts regions (hidden p x) refl lets in
            own_scoped p g.variables i x o.0 o.1 o.2

    loop_set : LoopIs may K its l → all_scoped l.declared (lets_local l ss) i ≡ true → LoopSet p s g i l ss
    loop_set is all = record {
      solid = λ vs m enters c h. solid vs m enters c h is;
      scoped = λ vs m enters c h x v found plain less lets. scoped vs m enters c h is all x less lets;
    }

  abbrev Passes : Where → Steps → Bool
  Passes w ss = steps_pass p cells texts K g.variables ps w ss

  mutual
    step_sets : (w : Where) (a : core.Step) → step_passes p cells texts K g.variables ps w a ≡ true → LoopSets p s g w.in_scope a
    step_sets w (core.branch cs e a b) h = let d = and_parts (Passes w a) (Passes w b) h in (steps_sets w a d.0, steps_sets w b d.1)
    step_sets w (core.repeat l ss) h =
        let rest = Passes (in_pass w) ss in
        let all = all_scoped l.declared (lets_local l ss) w.in_scope in
        let d = and_parts (loop_passes K (sights_at p cells texts K g.variables ps (in_pass w)) (may_name p g.variables w.in_scope) l) (all && rest) h in
        let e = and_parts all rest d.1 in (
          loop_set w.in_scope l ss (loop_is K (sights_at p cells texts K g.variables ps (in_pass w)) (may_name p g.variables w.in_scope) l d.0) e.0,
          steps_sets (in_pass w) ss e.1,
        )
    step_sets w (core.around ss) h = steps_sets (in_block w) ss h
    step_sets w (core.scope ys ss) h = steps_sets (in_names ys w) ss h
    step_sets w (core.set cs n e) h = tt
    step_sets w (core.store cs type l path es) h = tt
    step_sets w (core.start cs x e) h = tt
    step_sets w (core.call cs to n l es) h = tt
    step_sets w (core.exit n) h = tt
    step_sets w (core.give cs e) h = tt
    step_sets w (core.claim c) h = tt

    pub steps_sets : (w : Where) (ss : Steps) → steps_pass p cells texts K g.variables ps w ss ≡ true → AllLoopSets p s g w.in_scope ss
    steps_sets w core.end h = tt
    steps_sets w (core.then_ a ss) h =
        let d = and_parts (step_passes p cells texts K g.variables ps w a) (Passes w ss) h in (step_sets w a d.0, steps_sets w ss d.1)

  -- ---- contracts

  module _ (vs : List Value) (m : Memory) (enters : EntersWith p g vs m) where
    abbrev entry : Sights
    entry = entry_sights p cells texts g.variables ps

    abbrev back : Sights
    back = return_sights p cells texts g.variables ps g.result

    behavior_solid : (b : Behavior) → BehaviorIs p K entry back b → SetIsSolid p (at_entry p vs m) b.assigns
    behavior_solid b is =
        set_solid p K (of_file p) entry (at_entry p vs m) (entry_seen p cells texts g.variables ps vs m enters.good enters.pointers) (file_named p cells texts g.variables ps)
        (λ n. refl) b.assigns is.assigns

    behaviors_solid : (bs : List Behavior) → AllOf (BehaviorIs p K entry back) bs → AllAreSolid p (at_entry p vs m) bs
    behaviors_solid [] h = tt
    behaviors_solid (b ∷ bs) h = (behavior_solid b h.0, behaviors_solid bs h.1)

    pub contract_solid : (c : Contract) → ContractIs p K entry back c → AllAreSolid p (at_entry p vs m) (parts_of c)
    contract_solid c h = (behavior_solid c.plain h.plain, behaviors_solid c.behaviors h.behaviors)

-- ---- programs

module _ (q : Program Cores) (cells : FileCells) (texts : Texts) (ds : List Definition) (types : ℕ → CoreType) (all : AllPass q cells texts ds types) where
  pub passes_too : (n : ℕ) (f : Function Steps) → (add_checks q).functions n ≡ Some f → function_passes q.facts cells texts ds (types n) f ≡ true
  passes_too n f e =
      let g = checked_from (q.functions n) f e in subst (λ f. function_passes q.facts cells texts ds (types n) f ≡ true) g.2 (all n g.0 g.1)

  pub sets_fit : (fits : FitsProgram (add_checks q)) → SetsFit (add_checks q) fits
  sets_fit fits = record {
    contracts = λ n f e vs m enters.
        contract_solid q.facts cells texts ds (types n) f (typed.shape (add_checks q) fits f (fits.functions n f e)) refl vs m enters f.contract
        (own_contract q.facts cells texts ds (types n) f (passes_too n f e));
    loops = λ n f e.
        steps_sets q.facts cells texts ds (types n) f (typed.shape (add_checks q) fits f (fits.functions n f e)) refl (at_begin (params_of f)) f.body
        (own_body q.facts cells texts ds (types n) f (passes_too n f e));
  }

pub passing_sets_fit : PassingSetsFit
passing_sets_fit q cells texts ds types all fits = sets_fit q cells texts ds types all fits
