-- What is asked of a function's behaviors, and its promises, are what the checks of its word come to.
use Rattle.std.proofs.Common.{◌≡◌, ◌⊎◌, ℕ, zero, suc, Bool, true, false, not, ◌&&◌, ◌||◌, if◌then◌else◌, List, [], ◌∷◌, ◌++◌, map, Option, Some, None, slice_get, refl, sym, ap, ◌∙◌, subst, inl, inr}
use Rattle.std.specs.List.{list_all, list_any}
use Rattle.std.proofs.lemmas.Bool.{false≢true}
use Rattle.acsl_trees.specs.Tree as acsl
use Rattle.c_runs.specs.TruthStates as labelled
use Rattle.c_runs.specs.TruthStates.{Value}
use Rattle.acsl_encode.specs.Readings as annotation
use Rattle.acsl_encode.specs.Encode as encode
use Rattle.acsl_encode.specs.Encode.{all_of}
use Rattle.qed_terms.specs.Meaning as sense
use Rattle.qed_terms.specs.Meaning.{Values, truth}
use Rattle.qed_terms.specs.Tree.{Tree, false_tree, imp_of}
use Rattle.c_runs.specs.Program.{Claim, Behavior, Together, Contract, Facts}
use Rattle.c_runs.specs.Claims as broken
use Rattle.c_runs.specs.Claims.{Stop, failed, or_stop, unless_true, holds, claimed, is_assumed, is_assumed_in, assumed_of, is_so, one_at_most, together_holds, all_together, ensured_by}
use Rattle.typed_memories.proofs.Tests.{on_test}
use Rattle.program_steps.specs.Stops.{broken_place, IsStop}
use Rattle.memory_steps.specs.State.{State}
use Rattle.memory_steps.specs.Forms.{Check}
use Rattle.memory_words.specs.Leaves.{is_closed, closed, leaves_of}
use Rattle.memory_words.specs.Shapes.{FileCells, Shape, sizes}
use Rattle.memory_words.specs.Readings.{Texts, entry_reading, return_reading}
use Rattle.memory_words.specs.Seen.{InSetting, ClaimFits, EntrySeen, ReturnSeen}
use Rattle.memory_words.proofs.Worlds.{annotations_read}
use Rattle.memory_words.specs.Regions.{any_of}
use Rattle.memory_words.specs.Sets.{or_none, claim_tree, under}
use Rattle.memory_words.specs.Words.{check}
use Rattle.memory_words.specs.Typed.{AllOf}
use Rattle.memory_words.proofs.Valued.{closed_told}
use Rattle.memory_functions.specs.GoalFunctions.{is_param, no_two, behavior_tree, named_tree, named_trees, together_check, ensure_check, ensure_checks, all_ensured}
use Rattle.memory_functions.specs.FunctionFunctions.{BehaviorFits}
use Rattle.memory_functions.proofs.Tests.{all_closed, any_closed, no_two_closed, all_so, any_so, none_twice, Comes, none_come, more_come, one_comes}

abbrev no_stop : Option Stop
no_stop = None

any_mapped : {X : Type 0} (f : X → Bool) (xs : List X) → list_any f xs ≡ list_any is_so (map f xs)
any_mapped f [] = refl
any_mapped f (x ∷ xs) = ap (λ b. f x || b) (any_mapped f xs)

module _ (m : sense.World) (p : Facts) (s : Shape) (cells : FileCells) (texts : Texts) (params : ℕ) (setting : InSetting m p s cells) (st' st : State) where
  abbrev sts : List State
  sts = st' ∷ st ∷ []

  abbrev env : Values
  env = leaves_of sts

  -- a formula that is closed, and true where this is
  pub record Tells (f : Tree) (b : Bool) : Type 0 where
    pub closed_so : is_closed [] f ≡ true
    pub true_so : truth m env f ≡ b

  pub told_so : (f : Tree) (b : Bool) → Tells f b → truth m env (closed f) ≡ b
  told_so f b h = closed_told m sts f h.closed_so ∙ h.true_so

  module _ (w : labelled.World) (seen : EntrySeen m p s cells texts 1 (is_param params) sts w) where
    -- ---- what behaviors assume

    abbrev entry_claim : acsl.Tree → Tree
    entry_claim a = claim_tree (entry_reading p s cells texts 1 (is_param params)) a

    claim_tells : (a : acsl.Tree) → ClaimFits m p (entry_reading p s cells texts 1 (is_param params)) a → Tells (entry_claim a) (holds p w a)
    claim_tells a fits = record {
      closed_so = ap (λ o. is_closed [] (or_none o)) fits.is ∙ fits.closed;
      true_so = ap (λ o. truth m env (or_none o)) fits.is ∙ fits.means w sts ((annotations_read m p s cells texts setting sts w a).entry 1 (is_param params) seen);
    }

    claims_tell : (as_ : List acsl.Tree) → AllOf (λ a. ClaimFits m p (entry_reading p s cells texts 1 (is_param params)) a) as_
        → (list_all (is_closed []) (map entry_claim as_) ≡ true) × (list_all (truth m env) (map entry_claim as_) ≡ list_all (holds p w) as_)
    claims_tell [] fits = (refl, refl)
    claims_tell (a ∷ as_) fits =
        let x = claim_tells a fits.0 in
        let y = claims_tell as_ fits.1 in
        ((λ i. x.closed_so i && y.0 i), (λ i. x.true_so i && y.1 i))

    pub behavior_tells : (b : Behavior) → BehaviorFits m p s cells texts params b → Tells (behavior_tree m p s cells texts params b) (is_assumed p w b)
    behavior_tells b fits =
        let x = claims_tell b.assumes fits.assumes in
        record { closed_so = all_closed (map entry_claim b.assumes) x.0; true_so = all_so m env (map entry_claim b.assumes) ∙ x.1 }

    -- ---- which of them are there

    named_tells : (bs : List Behavior) → AllOf (BehaviorFits m p s cells texts params) bs → (i : ℕ) → Tells (named_tree m p s cells texts params (slice_get bs i)) (is_assumed_in p w (slice_get bs i))
    named_tells [] fits i = record { closed_so = refl; true_so = refl }
    named_tells (b ∷ bs) fits zero = behavior_tells b fits.0
    named_tells (b ∷ bs) fits (suc i) = named_tells bs fits.1 i

    all_tell : (bs : List Behavior) → AllOf (BehaviorFits m p s cells texts params) bs
        → (list_all (is_closed []) (map (behavior_tree m p s cells texts params) bs) ≡ true) × (map (truth m env) (map (behavior_tree m p s cells texts params) bs) ≡ map (is_assumed p w) bs)
    all_tell [] fits = (refl, refl)
    all_tell (b ∷ bs) fits =
        let x = behavior_tells b fits.0 in
        let y = all_tell bs fits.1 in
        ((λ i. x.closed_so i && y.0 i), (λ i. x.true_so i ∷ y.1 i))

    numbers_tell : (bs : List Behavior) → AllOf (BehaviorFits m p s cells texts params) bs → (ns : List ℕ)
        → (list_all (is_closed []) (map (λ i. named_tree m p s cells texts params (slice_get bs i)) ns) ≡ true)
        × (map (truth m env) (map (λ i. named_tree m p s cells texts params (slice_get bs i)) ns) ≡ map (λ i. is_assumed_in p w (slice_get bs i)) ns)
    numbers_tell bs fits [] = (refl, refl)
    numbers_tell bs fits (n ∷ ns) =
        let x = named_tells bs fits n in
        let y = numbers_tell bs fits ns in
        ((λ i. x.closed_so i && y.0 i), (λ i. x.true_so i ∷ y.1 i))

    those_tell : (bs : List Behavior) → AllOf (BehaviorFits m p s cells texts params) bs → (ns : List ℕ)
        → (list_all (is_closed []) (named_trees m p s cells texts params bs ns) ≡ true) × (map (truth m env) (named_trees m p s cells texts params bs ns) ≡ assumed_of p w bs ns)
    those_tell bs fits [] = all_tell bs fits
    those_tell bs fits (n ∷ ns) = numbers_tell bs fits (n ∷ ns)

    together_comes : (bs : List Behavior) → AllOf (BehaviorFits m p s cells texts params) bs → (t : Together) → Comes sts (together_check m p s cells texts params bs t ∷ []) (together_holds p w bs t)
    together_comes bs fits t = by t.is_complete where
      by : (c : Bool) → Comes sts ((if c then check m (sizes p s) (any_of (named_trees m p s cells texts params bs t.numbers)) (broken_place broken.complete t.line)
          else check m (sizes p s) (encode.all_of (no_two (named_trees m p s cells texts params bs t.numbers))) (broken_place broken.disjoint t.line)) ∷ [])
          (if c then unless_true (list_any is_so (assumed_of p w bs t.numbers)) broken.complete t.line else unless_true (one_at_most (assumed_of p w bs t.numbers)) broken.disjoint t.line)
      by true =
          let x = those_tell bs fits t.numbers in
          let told = told_so (any_of (named_trees m p s cells texts params bs t.numbers)) (list_any is_so (assumed_of p w bs t.numbers)) (record {
            closed_so = any_closed (named_trees m p s cells texts params bs t.numbers) x.0;
            true_so = any_so m env (named_trees m p s cells texts params bs t.numbers) ∙ any_mapped (truth m env) (named_trees m p s cells texts params bs t.numbers) ∙ ap (list_any is_so) x.1;
          }) in
          one_comes sts (check m (sizes p s) (any_of (named_trees m p s cells texts params bs t.numbers)) (broken_place broken.complete t.line))
          (unless_true (list_any is_so (assumed_of p w bs t.numbers)) broken.complete t.line) (list_any is_so (assumed_of p w bs t.numbers)) told
          (λ e. ap (λ b. unless_true b broken.complete t.line) e) (λ e. (failed broken.complete t.line, ap (λ b. unless_true b broken.complete t.line) e, (refl, refl)))
      by false =
          let x = those_tell bs fits t.numbers in
          let told = told_so (encode.all_of (no_two (named_trees m p s cells texts params bs t.numbers))) (one_at_most (assumed_of p w bs t.numbers)) (record {
            closed_so = all_closed (no_two (named_trees m p s cells texts params bs t.numbers)) (no_two_closed (named_trees m p s cells texts params bs t.numbers) x.0);
            true_so = all_so m env (no_two (named_trees m p s cells texts params bs t.numbers)) ∙ none_twice m env (named_trees m p s cells texts params bs t.numbers) ∙ ap one_at_most x.1;
          }) in
          one_comes sts (check m (sizes p s) (encode.all_of (no_two (named_trees m p s cells texts params bs t.numbers))) (broken_place broken.disjoint t.line))
          (unless_true (one_at_most (assumed_of p w bs t.numbers)) broken.disjoint t.line) (one_at_most (assumed_of p w bs t.numbers)) told
          (λ e. ap (λ b. unless_true b broken.disjoint t.line) e) (λ e. (failed broken.disjoint t.line, ap (λ b. unless_true b broken.disjoint t.line) e, (refl, refl)))

    pub togethers_come : (bs : List Behavior) → AllOf (BehaviorFits m p s cells texts params) bs → (ts : List Together) → Comes sts (map (together_check m p s cells texts params bs) ts) (all_together p w bs ts)
    togethers_come bs fits [] = none_come sts
    togethers_come bs fits (t ∷ ts) =
        more_come sts (together_check m p s cells texts params bs t ∷ []) (map (together_check m p s cells texts params bs) ts) (together_holds p w bs t) (all_together p w bs ts)
        (together_comes bs fits t) (togethers_come bs fits ts)

    -- ---- promises

    module _ (u : labelled.World) (back : ReturnSeen m p s cells texts 1 (is_param params) sts u) where
      abbrev promise : Claim → Tree
      promise c = claim_tree (return_reading p s cells texts 1 (is_param params)) c.what

      promise_tells : (c : Claim) → ClaimFits m p (return_reading p s cells texts 1 (is_param params)) c.what → Tells (promise c) (holds p u c.what)
      promise_tells c fits = record {
        closed_so = ap (λ o. is_closed [] (or_none o)) fits.is ∙ fits.closed;
        true_so = ap (λ o. truth m env (or_none o)) fits.is ∙ fits.means u sts ((annotations_read m p s cells texts setting sts u c.what).back 1 (is_param params) back);
      }

      under_tells : (plain : Bool) (a e : Tree) (x y : Bool) → Tells a x → Tells e y → (plain ≡ true → x ≡ true) → Tells (under plain a e) (not x || y)
      under_tells true a e x y h k so = record { closed_so = k.closed_so; true_so = k.true_so ∙ ap (λ x. not x || y) (sym (so refl)) }
      under_tells false a e x y h k so = record {
        closed_so = (λ i. h.closed_so i && (k.closed_so i && true));
        true_so = (λ i. not (h.true_so i) || k.true_so i);
      }

      -- of one claim, where the behavior is there
      abbrev one_broken : Bool → Claim → Option Stop
      one_broken x c = if x then unless_true (holds p u c.what) broken.ensures c.line else None

      one_promise : (plain : Bool) (b : Behavior) → BehaviorFits m p s cells texts params b → (plain ≡ true → is_assumed p w b ≡ true) → (c : Claim) → ClaimFits m p (return_reading p s cells texts 1 (is_param params)) c.what
          → Comes sts (ensure_check m p s cells texts params plain b c ∷ []) (one_broken (is_assumed p w b) c)
      one_promise plain b fits so c fit =
          let told = told_so (under plain (behavior_tree m p s cells texts params b) (promise c)) (not (is_assumed p w b) || holds p u c.what)
          (under_tells plain (behavior_tree m p s cells texts params b) (promise c) (is_assumed p w b) (holds p u c.what) (behavior_tells b fits) (promise_tells c fit) so) in
          one_comes sts (ensure_check m p s cells texts params plain b c) (one_broken (is_assumed p w b) c) (not (is_assumed p w b) || holds p u c.what) told
          (good (is_assumed p w b) (holds p u c.what)) (bad (is_assumed p w b) (holds p u c.what))
        where
          good : (x y : Bool) → (not x || y) ≡ true → (if x then unless_true y broken.ensures c.line else None) ≡ None
          good true true e = refl
          good true false e = absurd (false≢true e)
          good false y e = refl

          bad : (x y : Bool) → (not x || y) ≡ false
              → (e : Stop) × ((if x then unless_true y broken.ensures c.line else None) ≡ Some e) × IsStop e (broken_place broken.ensures c.line)
          bad true true e = absurd (false≢true (sym e))
          bad true false e = (failed broken.ensures c.line, refl, (refl, refl))
          bad false y e = absurd (false≢true (sym e))

      abbrev all_broken : Bool → List Claim → Option Stop
      all_broken x cs = if x then claimed p u broken.ensures cs else None

      promises_come : (plain : Bool) (b : Behavior) → BehaviorFits m p s cells texts params b → (plain ≡ true → is_assumed p w b ≡ true) → (cs : List Claim)
          → AllOf (λ (c : Claim). ClaimFits m p (return_reading p s cells texts 1 (is_param params)) c.what) cs → Comes sts (map (ensure_check m p s cells texts params plain b) cs) (all_broken (is_assumed p w b) cs)
      promises_come plain b fits so [] fit = subst (Comes sts []) (by (is_assumed p w b)) (none_come sts) where
        by : (x : Bool) → no_stop ≡ (if x then no_stop else no_stop)
        by true = refl
        by false = refl
      promises_come plain b fits so (c ∷ cs) fit =
          subst (Comes sts (map (ensure_check m p s cells texts params plain b) (c ∷ cs))) (by (is_assumed p w b))
          (more_come sts (ensure_check m p s cells texts params plain b c ∷ []) (map (ensure_check m p s cells texts params plain b) cs) (one_broken (is_assumed p w b) c) (all_broken (is_assumed p w b) cs)
          (one_promise plain b fits so c fit.0) (promises_come plain b fits so cs fit.1))
        where
          by : (x : Bool) → or_stop (if x then unless_true (holds p u c.what) broken.ensures c.line else None) (if x then claimed p u broken.ensures cs else None)
              ≡ (if x then or_stop (unless_true (holds p u c.what) broken.ensures c.line) (claimed p u broken.ensures cs) else None)
          by true = refl
          by false = refl

      behaviors_come : (bs : List Behavior) → AllOf (BehaviorFits m p s cells texts params) bs → Comes sts (all_ensured m p s cells texts params bs) (ensured_by p w u bs)
      behaviors_come [] fits = none_come sts
      behaviors_come (b ∷ bs) fits =
          more_come sts (ensure_checks m p s cells texts params false b) (all_ensured m p s cells texts params bs) (all_broken (is_assumed p w b) b.ensures) (ensured_by p w u bs)
          (promises_come false b fits.0 (λ e. absurd (false≢true e)) b.ensures fits.0.ensures) (behaviors_come bs fits.1)

      pub all_come : (plain : Behavior) → BehaviorFits m p s cells texts params plain → plain.assumes ≡ [] → (bs : List Behavior) → AllOf (BehaviorFits m p s cells texts params) bs
          → Comes sts (ensure_checks m p s cells texts params true plain ++ all_ensured m p s cells texts params bs) (ensured_by p w u (plain ∷ bs))
      all_come plain fits none bs fit =
          more_come sts (ensure_checks m p s cells texts params true plain) (all_ensured m p s cells texts params bs) (all_broken (is_assumed p w plain) plain.ensures) (ensured_by p w u bs)
          (promises_come true plain fits (λ e. ap (list_all (holds p w)) none) plain.ensures fits.ensures) (behaviors_come bs fit)
