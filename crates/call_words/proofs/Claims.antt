-- What is asked of and known from the contract of a function that is called, and what the caller's own behaviors assume.
use Rattle.std.proofs.Common.{◌≡◌, ℕ, Bool, true, false, not, ◌&&◌, ◌||◌, if◌then◌else◌, pos, List, [], ◌∷◌, map, Option, Some, None, refl, ap, ◌∙◌}
use Rattle.std.specs.Prelude.{int_le, int_lt}
use Rattle.std.specs.List.{list_all}
use Rattle.std.proofs.lemmas.Bool.{false≢true}
use Rattle.typed_prog.specs.Tree as t
use Rattle.acsl_trees.specs.Tree as acsl
use Rattle.c_runs.specs.TruthStates as labelled
use Rattle.acsl_encode.specs.Readings as annotation
use Rattle.acsl_encode.specs.Encode as encode
use Rattle.qed_terms.specs.Meaning as sense
use Rattle.qed_terms.specs.Meaning.{Values, truth, value}
use Rattle.qed_terms.specs.Tree.{Tree, num, at_most, less, and_of}
use Rattle.c_runs.specs.Program.{Claim, Measure, Behavior, Function, Facts}
use Rattle.c_runs.specs.Claims as broken
use Rattle.c_runs.specs.Claims.{Stop, failed, or_stop, unless_true, holds, number_at, claimed, all_hold, is_assumed, is_required, parts_of, ensured_by, measure_of, is_less, goes_down}
use Rattle.c_runs.specs.Tree.{Steps}
use Rattle.plain_states.specs.Slots.{State}
use Rattle.plain_runs.specs.Fitting.{Shape}
use Rattle.program_steps.specs.Leaves.{is_closed, leaves_of}
use Rattle.program_steps.specs.Terms.{Texts, entry_reading, or_none, claim_tree, assumed_tree, or_zero}
use Rattle.program_steps.specs.Words.{under}
use Rattle.program_steps.specs.Standing.{SeenBy}
use Rattle.program_steps.specs.Typed.{ClaimFits, MeasureFits}
use Rattle.program_steps.specs.Functions.{AllOf}
use Rattle.program_steps.specs.Placed.{all_told}
use Rattle.program_steps.proofs.Granting.{and_so}
use Rattle.call_words.specs.Callee.{entered_at, returned_from}
use Rattle.call_words.specs.Sets.{callee_assumes}
use Rattle.call_words.specs.Words.{entry_claim, required_trees, all_required, call_requires, lower_by, promise, promised_trees, all_promised, call_promises}
use Rattle.call_words.specs.Fits.{SeenCall, SeenBack, EntryFits, PromiseFits, EntryMeasureFits, CalleeBehaviorFits, IfMeasured, CalleeFits}
use Rattle.call_words.proofs.Tells.{Tells, AllTell, none_tell, more_tell, both_tell, all_as, all_tell, they_tell, one_tells, under_tells}

module _ (m : sense.World) (p : Facts) (s : Shape) (texts : Texts) (sts : List State) where
  abbrev env : Values
  env = leaves_of sts

  -- ---- formulas that mean annotations

  module _ (r : acsl.Tree → annotation.Reading) (w : labelled.World) where
    -- it has a formula, which says so
    abbrev pub Meant : acsl.Tree → Type 0
    Meant a = Tells m sts (claim_tree p s texts r a) (holds p w a)

    pub meant : (a : acsl.Tree) (f : Tree) → encode.formula_of (r a) a ≡ Some f → is_closed [] f ≡ true → truth m env f ≡ holds p w a → Meant a
    meant a f is closed_f means = record {
      closed_so = ap (λ o. is_closed [] (or_none p s texts o)) is ∙ closed_f;
      true_so = ap (λ o. truth m env (or_none p s texts o)) is ∙ means;
    }

    all_meant : (as_ : List acsl.Tree) → AllOf Meant as_ → AllTell m sts (map (claim_tree p s texts r) as_) (list_all (holds p w) as_)
    all_meant [] h = none_tell m sts
    all_meant (a ∷ as_) h = more_tell m sts (claim_tree p s texts r a) (map (claim_tree p s texts r) as_) (holds p w a) (list_all (holds p w) as_) h.0 (all_meant as_ h.1)

    pub assumed_meant : (as_ : List acsl.Tree) → AllOf Meant as_ → Tells m sts (assumed_tree p s texts r as_) (list_all (holds p w) as_)
    assumed_meant as_ h = all_tell m sts (map (claim_tree p s texts r) as_) (list_all (holds p w) as_) (all_meant as_ h)

  mapped : {X : Type 0} (F G : X → Type 0) → ((x : X) → F x → G x) → (xs : List X) → AllOf F xs → AllOf G xs
  mapped F G f [] h = tt
  mapped F G f (x ∷ xs) h = (f x h.0, mapped F G f xs h.1)

  -- ---- what the caller's behaviors assume, where it was entered

  pub caller_assumes : (e : ℕ) (w : labelled.World) → SeenBy p s w sts e e e → (as_ : List acsl.Tree) → AllOf (λ a. (entry : ℕ) → ClaimFits m p s texts a entry entry entry) as_
      → Tells m sts (assumed_tree p s texts (entry_reading p s texts e) as_) (list_all (holds p w) as_)
  caller_assumes e w seen as_ fits = assumed_meant (entry_reading p s texts e) w as_
      (mapped (λ a. (entry : ℕ) → ClaimFits m p s texts a entry entry entry) (Meant (entry_reading p s texts e) w)
      (λ a h. let x = h e in meant (entry_reading p s texts e) w a x.formula x.is x.closed (x.means w sts seen)) as_ fits)

  module _ (g : Function Steps) (es : t.Values) where
    -- ---- what it assumes and requires

    module _ (l : ℕ) (w : labelled.World) (seen : SeenCall m p s texts g es w sts l) where
      entry_meant : (a : acsl.Tree) → EntryFits m p s texts g es l a → Meant (entered_at p s texts g es l) w a
      entry_meant a x = meant (entered_at p s texts g es l) w a x.formula x.is x.closed (x.means w sts seen)

      pub callee_assumed : (b : Behavior) → CalleeBehaviorFits m p s texts g es b → Tells m sts (callee_assumes p s texts g es l b) (is_assumed p w b)
      callee_assumed b fits = assumed_meant (entered_at p s texts g es l) w b.assumes
          (mapped (λ a. (level : ℕ) → EntryFits m p s texts g es level a) (Meant (entered_at p s texts g es l) w) (λ a h. entry_meant a (h l)) b.assumes fits.assumes)

    module _ (w : labelled.World) (seen : SeenCall m p s texts g es w sts 0) where
      requires_tell : (plain : Bool) (b : Behavior) → CalleeBehaviorFits m p s texts g es b → (plain ≡ true → is_assumed p w b ≡ true) → (cs : List Claim)
          → AllOf (λ (c : Claim). EntryFits m p s texts g es 0 c.what) cs
          → AllTell m sts (map (λ c. under plain (callee_assumes p s texts g es 0 b) (entry_claim p s texts g es c)) cs) (not (is_assumed p w b) || all_hold p w cs)
      requires_tell plain b fits so [] fit = all_as m sts [] true (not (is_assumed p w b) || true) (by (is_assumed p w b)) (none_tell m sts) where
        by : (a : Bool) → true ≡ (not a || true)
        by true = refl
        by false = refl
      requires_tell plain b fits so (c ∷ cs) fit =
          let rest = map (λ c. under plain (callee_assumes p s texts g es 0 b) (entry_claim p s texts g es c)) cs in
          all_as m sts (under plain (callee_assumes p s texts g es 0 b) (entry_claim p s texts g es c) ∷ rest)
          ((not (is_assumed p w b) || holds p w c.what) && (not (is_assumed p w b) || all_hold p w cs)) (not (is_assumed p w b) || all_hold p w (c ∷ cs))
          (by (is_assumed p w b) (holds p w c.what) (all_hold p w cs))
          (more_tell m sts (under plain (callee_assumes p s texts g es 0 b) (entry_claim p s texts g es c)) rest (not (is_assumed p w b) || holds p w c.what) (not (is_assumed p w b) || all_hold p w cs)
          (under_tells m sts plain (callee_assumes p s texts g es 0 b) (entry_claim p s texts g es c) (is_assumed p w b) (holds p w c.what) (callee_assumed 0 w seen b fits) (entry_meant 0 w seen c.what fit.0) so)
          (requires_tell plain b fits so cs fit.1))
        where
          by : (a x y : Bool) → ((not a || x) && (not a || y)) ≡ (not a || (x && y))
          by true x y = refl
          by false x y = refl

      behavior_requires : (plain : Bool) (b : Behavior) → CalleeBehaviorFits m p s texts g es b → (plain ≡ true → is_assumed p w b ≡ true)
          → AllTell m sts (required_trees p s texts g es plain b) (is_required p w b)
      behavior_requires plain b fits so = all_as m sts (required_trees p s texts g es plain b) (not (is_assumed p w b) || all_hold p w b.requires) (is_required p w b)
          (by (is_assumed p w b) (all_hold p w b.requires)) (requires_tell plain b fits so b.requires fits.requires) where
            by : (a x : Bool) → (not a || x) ≡ (if a then x else true)
            by true x = refl
            by false x = refl

      behaviors_require : (bs : List Behavior) → AllOf (CalleeBehaviorFits m p s texts g es) bs → AllTell m sts (all_required p s texts g es bs) (list_all (is_required p w) bs)
      behaviors_require [] fits = none_tell m sts
      behaviors_require (b ∷ bs) fits =
          both_tell m sts (required_trees p s texts g es false b) (all_required p s texts g es bs) (is_required p w b) (list_all (is_required p w) bs)
          (behavior_requires false b fits.0 (λ e. absurd (false≢true e))) (behaviors_require bs fits.1)

      pub call_requires_told : CalleeFits m p s texts g es → all_told m sts (call_requires p s texts g es) ≡ list_all (is_required p w) (parts_of g.contract)
      call_requires_told fits = they_tell m sts (call_requires p s texts g es) (list_all (is_required p w) (parts_of g.contract))
          (both_tell m sts (required_trees p s texts g es true g.contract.plain) (all_required p s texts g es g.contract.behaviors) (is_required p w g.contract.plain)
          (list_all (is_required p w) g.contract.behaviors) (behavior_requires true g.contract.plain fits.plain (λ e. ap (list_all (holds p w)) fits.assumes))
          (behaviors_require g.contract.behaviors fits.behaviors))

      -- ---- measures

      module _ (e : ℕ) (w0 : labelled.World) (entry : SeenBy p s w0 sts e e e) where
        -- it goes down
        abbrev pub is_lower : Bool → (old now : Option Measure) → Bool
        is_lower true (Some a) (Some b) = is_less (number_at p w0 a.what) (number_at p w b.what)
        is_lower c old now = true

        pub lower_told : (c : Bool) (old now : Option Measure) → IfMeasured m p s texts g es (λ a. (entry : ℕ) → MeasureFits m p s texts a entry entry entry) old
            → IfMeasured m p s texts g es (EntryMeasureFits m p s texts g es) now → all_told m sts (lower_by p s texts g es e c old now) ≡ is_lower c old now
        lower_told false old now h k = refl
        lower_told true None now h k = refl
        lower_told true (Some a) None h k = refl
        lower_told true (Some a) (Some b) h k =
            let u = or_zero (encode.term_of (entry_reading p s texts e a.what) a.what) in
            let v = or_zero (encode.term_of (entered_at p s texts g es 0 b.what) b.what) in
            let closed_u : is_closed [] u ≡ true = ap (λ o. is_closed [] (or_zero o)) (h e).is ∙ (h e).closed in
            let closed_v : is_closed [] v ≡ true = ap (λ o. is_closed [] (or_zero o)) k.is ∙ k.closed in
            let is_u : value m env u ≡ number_at p w0 a.what = ap (λ o. value m env (or_zero o)) (h e).is ∙ (h e).means w0 sts entry in
            let is_v : value m env v ≡ number_at p w b.what = ap (λ o. value m env (or_zero o)) k.is ∙ k.means w sts seen in
            one_tells m sts (and_of (at_most (num (pos 0)) u ∷ less v u ∷ [])) (is_less (number_at p w0 a.what) (number_at p w b.what)) (record {
              closed_so = (λ i. (true && (closed_u i && true)) && ((closed_v i && (closed_u i && true)) && true));
              true_so = (λ i. int_le (pos 0) (is_u i) && (int_lt (is_v i) (is_u i) && true))
                  ∙ ap (λ z. int_le (pos 0) (number_at p w0 a.what) && z) (and_so (int_lt (number_at p w b.what) (number_at p w0 a.what)));
            })

    -- ---- what it promises

    abbrev pub is_none : Option Stop → Bool
    is_none None = true
    is_none (Some e) = false

    module _ (w0 w : labelled.World) (seen : SeenCall m p s texts g es w0 sts 1) (back : SeenBack m p s texts g es w sts) where
      abbrev kept : Bool → List Claim → Option Stop
      kept a cs = if a then claimed p w broken.ensures cs else None

      promises_tell : (plain : Bool) (b : Behavior) → CalleeBehaviorFits m p s texts g es b → (plain ≡ true → is_assumed p w0 b ≡ true) → (cs : List Claim)
          → AllOf (λ (c : Claim). PromiseFits m p s texts g es c.what) cs
          → AllTell m sts (map (λ c. under plain (callee_assumes p s texts g es 1 b) (promise p s texts g es c)) cs) (is_none (kept (is_assumed p w0 b) cs))
      promises_tell plain b fits so [] fit = all_as m sts [] true (is_none (kept (is_assumed p w0 b) [])) (by (is_assumed p w0 b)) (none_tell m sts) where
        by : (a : Bool) → true ≡ is_none (if a then None else None)
        by true = refl
        by false = refl
      promises_tell plain b fits so (c ∷ cs) fit =
          let rest = map (λ c. under plain (callee_assumes p s texts g es 1 b) (promise p s texts g es c)) cs in
          all_as m sts (under plain (callee_assumes p s texts g es 1 b) (promise p s texts g es c) ∷ rest)
          ((not (is_assumed p w0 b) || holds p w c.what) && is_none (kept (is_assumed p w0 b) cs)) (is_none (kept (is_assumed p w0 b) (c ∷ cs)))
          (by (is_assumed p w0 b) (holds p w c.what) (claimed p w broken.ensures cs))
          (more_tell m sts (under plain (callee_assumes p s texts g es 1 b) (promise p s texts g es c)) rest (not (is_assumed p w0 b) || holds p w c.what) (is_none (kept (is_assumed p w0 b) cs))
          (under_tells m sts plain (callee_assumes p s texts g es 1 b) (promise p s texts g es c) (is_assumed p w0 b) (holds p w c.what) (callee_assumed 1 w0 seen b fits)
          (let x = fit.0 in meant (returned_from p s texts g es) w c.what x.formula x.is x.closed (x.means w sts back)) so)
          (promises_tell plain b fits so cs fit.1))
        where
          by : (a x : Bool) (o : Option Stop) → ((not a || x) && is_none (if a then o else None)) ≡ is_none (if a then or_stop (unless_true x broken.ensures c.line) o else None)
          by true true o = refl
          by true false o = refl
          by false x o = refl

      both_none : (a b : Option Stop) → (is_none a && is_none b) ≡ is_none (or_stop a b)
      both_none None b = refl
      both_none (Some e) b = refl

      behaviors_promise : (bs : List Behavior) → AllOf (CalleeBehaviorFits m p s texts g es) bs → AllTell m sts (all_promised p s texts g es bs) (is_none (ensured_by p w0 w bs))
      behaviors_promise [] fits = none_tell m sts
      behaviors_promise (b ∷ bs) fits = all_as m sts (all_promised p s texts g es (b ∷ bs)) (is_none (kept (is_assumed p w0 b) b.ensures) && is_none (ensured_by p w0 w bs)) (is_none (ensured_by p w0 w (b ∷ bs)))
          (both_none (kept (is_assumed p w0 b) b.ensures) (ensured_by p w0 w bs))
          (both_tell m sts (promised_trees p s texts g es false b) (all_promised p s texts g es bs) (is_none (kept (is_assumed p w0 b) b.ensures)) (is_none (ensured_by p w0 w bs))
          (promises_tell false b fits.0 (λ e. absurd (false≢true e)) b.ensures fits.0.ensures) (behaviors_promise bs fits.1))

      pub call_promises_told : CalleeFits m p s texts g es → all_told m sts (call_promises p s texts g es) ≡ is_none (ensured_by p w0 w (parts_of g.contract))
      call_promises_told fits = they_tell m sts (call_promises p s texts g es) (is_none (ensured_by p w0 w (parts_of g.contract)))
          (all_as m sts (call_promises p s texts g es) (is_none (kept (is_assumed p w0 g.contract.plain) g.contract.plain.ensures) && is_none (ensured_by p w0 w g.contract.behaviors))
          (is_none (ensured_by p w0 w (parts_of g.contract))) (both_none (kept (is_assumed p w0 g.contract.plain) g.contract.plain.ensures) (ensured_by p w0 w g.contract.behaviors))
          (both_tell m sts (promised_trees p s texts g es true g.contract.plain) (all_promised p s texts g es g.contract.behaviors) (is_none (kept (is_assumed p w0 g.contract.plain) g.contract.plain.ensures))
          (is_none (ensured_by p w0 w g.contract.behaviors)) (promises_tell true g.contract.plain fits.plain (λ e. ap (list_all (holds p w0)) fits.assumes) g.contract.plain.ensures fits.plain.ensures)
          (behaviors_promise g.contract.behaviors fits.behaviors)))
