-- Statements that stand, with annotations that pass the tests, have words.
use Rattle.std.proofs.Common.{◌≡◌, ℕ, Bool, true, List, [], ◌∷◌, refl, sym, subst}
use Rattle.std.specs.Prelude.{Option, Some, None}
use Rattle.std.proofs.lemmas.Bool.{and_parts}
use Rattle.typed_prog.specs.Tree as t
use Rattle.acsl_trees.specs.Tree as acsl
use Rattle.qed_terms.specs.Meaning as sense
use Rattle.c_runs.specs.Program.{Measure, Behavior, Contract, Loop, Function, Facts, Program}
use Rattle.c_runs.specs.Checks.{Check}
use Rattle.c_runs.specs.Tree as core
use Rattle.c_runs.specs.Tree.{Goal, Steps}
use Rattle.plain_runs.specs.Fitting.{Shape, with_names}
use Rattle.program_steps.specs.Temporaries.{Temporaries, no_temporaries, live, all_live}
use Rattle.program_steps.specs.Terms.{Texts}
use Rattle.program_steps.specs.Placed.{InSetting}
use Rattle.program_steps.specs.Typed.{ClaimFits, MeasureFits, WordFits, AllFit}
use Rattle.program_steps.specs.Functions.{AllOf, SetFits}
use Rattle.plain_annotations.specs.Clauses.{is_contract, is_loop, ContractFits}
use Rattle.plain_annotations.specs.Places.{TextsFit}
use Rattle.loop_words.specs.Fits as loops
use Rattle.plain_words.specs.Told.{IfMeasured, CallerBehaviorFits, CallerFits, CallFits}
use Rattle.program_goals.specs.Words.{Written, shape_in, fits_of}
use Rattle.plain_words.specs.Standing.{LoopStands, CallStands, StepStands, AllStand}
use Rattle.plain_annotations.specs.Annotated.{own_shape, step_claims, all_claim, sets_of_file}
use Rattle.plain_annotations.proofs.Claims.{claims_fit}
use Rattle.plain_annotations.proofs.Clauses.{contracts_fit, loops_fit}
use Rattle.plain_words.proofs.Closed.{arguments_closed}
use Rattle.plain_goals.proofs.Callees.{callee_fits}

all_map : {X : Type 0} (f g : X → Type 0) (xs : List X) → ((x : X) → f x → g x) → AllOf f xs → AllOf g xs
all_map f g [] made h = tt
all_map f g (x ∷ xs) made h = (made x h.0, all_map f g xs made h.1)

-- ---- what a function's own contract is for its loops and calls

module _ (m : sense.World) (p : Facts) (s : Shape) (texts : Texts) (c : Contract) (k : ContractFits m p s texts c) where
  abbrev AtAll : acsl.Tree → Type 0
  AtAll a = (here entry loop_entry : ℕ) → ClaimFits m p s texts a here entry loop_entry

  assumed_at : (bs : List Behavior) → AllOf (λ (b : Behavior). AllOf AtAll b.assumes) bs → AllOf (λ (b : Behavior). AllOf (λ a. (level : ℕ) → ClaimFits m p s texts a level level level) b.assumes) bs
  assumed_at bs h =
      all_map (λ (b : Behavior). AllOf AtAll b.assumes) (λ (b : Behavior). AllOf (λ a. (level : ℕ) → ClaimFits m p s texts a level level level) b.assumes) bs
      (λ b k. all_map AtAll (λ a. (level : ℕ) → ClaimFits m p s texts a level level level) b.assumes (λ a made l. made l l l) k) h

  module _ (g : Function Steps) (es : t.Values) where
    behaviors_at : (bs : List Behavior) → AllOf (λ (b : Behavior). AllOf AtAll b.assumes) bs → AllOf (λ (b : Behavior). SetFits p s b.assigns) bs
        → AllOf (CallerBehaviorFits m p s texts g es) bs
    behaviors_at [] h n = tt
    behaviors_at (b ∷ bs) h n = (
      record { assumes = all_map AtAll (λ a. (level : ℕ) → ClaimFits m p s texts a level level level) b.assumes (λ a made l. made l l l) h.0; assigns = n.0 },
      behaviors_at bs h.1 n.1,
    )

    measured : (o : Option Measure) → ((v : Measure) → o ≡ Some v → (here entry loop_entry : ℕ) → MeasureFits m p s texts v.what here entry loop_entry)
        → IfMeasured m p s texts g es (λ a. (entry : ℕ) → MeasureFits m p s texts a entry entry entry) o
    measured None h = tt
    measured (Some v) h = λ e. h v refl e e e

    caller : CallerFits m p s texts g es c
    caller = record {
      assumes = k.assumes;
      plain = record { assumes = subst (AllOf (λ a. (level : ℕ) → ClaimFits m p s texts a level level level)) (sym k.assumes) tt; assigns = k.plain.assigns };
      behaviors = behaviors_at c.behaviors k.assumed k.sets;
      measure = measured c.decreases k.measure;
    }

-- ---- statements

module _ (m : sense.World) (q : Program Steps) (texts : Texts)
    (callees : (n : ℕ) (g : Function Steps) → q.functions n ≡ Some g → (is_contract q.facts texts (own_shape g) g.contract ≡ true) × (sets_of_file q.facts g.contract ≡ true))
    (number : ℕ) (f : Function Steps) (w : Written) (setting : InSetting m q.facts (shape_in f w)) (fit : TextsFit m q.facts (shape_in f w) texts)
    (own : is_contract q.facts texts (own_shape f) f.contract ≡ true) where
  abbrev p : Facts
  p = q.facts

  abbrev s : Shape
  s = shape_in f w

  contract : ContractFits m p s texts f.contract
  contract = contracts_fit m p s texts setting fit f.contract own

  loop_fits : (i : ℕ → Bool) (os : List Temporaries) (l : Loop) (ss : Steps) → LoopStands i os l ss → is_loop p texts (own_shape f) l ≡ true → loops.LoopFits m p s texts f.contract i os l ss
  loop_fits i os l ss h e =
      let x = loops_fit m p s texts setting fit l e in
      record {
        invariants = x.invariants;
        variant = x.variant;
        regions = x.regions;
        scoped = h.scoped;
        inner = h.inner;
        temporaries = h.temporaries;
        assumes = assumed_at m p s texts f.contract contract f.contract.behaviors contract.assumed;
      }

  call_fits : (i : ℕ → Bool) (os : List Temporaries) (after : Temporaries) (cs : List Check) (to : Goal) (n l : ℕ) (es : t.Values) → CallStands p s q.functions i os after cs to n l es
      → CallFits m p s texts f.contract q.functions i os after cs to n l es
  call_fits i os after cs to n l es h =
      let g = h.function in
      let own = callees n g h.found in
      record {
        function = g;
        found = h.found;
        checks = h.checks;
        typed = h.typed;
        items = h.items;
        count = h.count;
        kinds = h.kinds;
        callee = callee_fits m p s texts setting fit g es (arguments_closed p s (live (core.call cs to n l es) os after) es h.typed) (own_shape g) refl refl own.0 own.1;
        caller = caller m p s texts f.contract contract g es;
        result = h.result;
      }

  mutual
    step_fits : (i : ℕ → Bool) (os : List Temporaries) (after : Temporaries) (a : core.Step) → StepStands p s q.functions i os after a → step_claims p texts (own_shape f) a ≡ true
        → WordFits m p s texts (fits_of m q texts number f w) i os after a
    step_fits i os after (core.set cs n e) h k = h
    step_fits i os after (core.store cs type l path t.stop) h k = absurd h
    step_fits i os after (core.store cs type l path (t.more e t.stop)) h k = h
    step_fits i os after (core.store cs type l path (t.more e (t.more e' es))) h k = absurd h
    step_fits i os after (core.start cs x e) h k = h
    step_fits i os after (core.call cs to n l es) h k = call_fits i os after cs to n l es h
    step_fits i os after (core.branch cs e a b) h k =
        let x = and_parts (all_claim p texts (own_shape f) a) (all_claim p texts (own_shape f) b) k in
        (h.0, h.1, h.2, all_fit i os after a h.3 x.0, all_fit i os after b h.4 x.1)
    step_fits i os after (core.repeat l ss) h k =
        let x = and_parts (is_loop p texts (own_shape f) l) (all_claim p texts (own_shape f) ss) k in (loop_fits i os l ss h.0 x.0, all_fit i os no_temporaries ss h.1 x.1)
    step_fits i os after (core.around ss) h k = all_fit i (after ∷ os) after ss h k
    step_fits i os after (core.exit n) h k = h
    step_fits i os after (core.give cs None) h k = h
    step_fits i os after (core.give cs (Some e)) h k = h
    step_fits i os after (core.claim c) h k = (claims_fit m p s texts setting fit c.what k).claim
    step_fits i os after (core.scope ys ss) h k = (h.0, all_fit (with_names ys i) os after ss h.1 k)

    pub all_fit : (i : ℕ → Bool) (os : List Temporaries) (after : Temporaries) (ss : Steps) → AllStand p s q.functions i os after ss → all_claim p texts (own_shape f) ss ≡ true
        → AllFit m p s texts (fits_of m q texts number f w) i os after ss
    all_fit i os after core.end h k = tt
    all_fit i os after (core.then_ a ss) h k =
        let x = and_parts (step_claims p texts (own_shape f) a) (all_claim p texts (own_shape f) ss) k in
        (step_fits i os (all_live ss os after) a h.0 x.0, all_fit i os after ss h.1 x.1)
