-- What a function requires is what the facts of its start say.
use Rattle.std.proofs.Common.{◌≡◌, ◌↔◌, ℕ, Bool, true, false, not, ◌&&◌, ◌||◌, if◌then◌else◌, pos, List, [], ◌∷◌, ◌++◌, map, refl, sym, ap, ◌∙◌}
use Rattle.std.specs.List.{list_all}
use Rattle.std.proofs.lemmas.Bool.{false≢true, and_parts}
use Rattle.acsl_trees.specs.Tree as acsl
use Rattle.c_runs.specs.TruthStates as labelled
use Rattle.acsl_encode.specs.Encode.{all_of}
use Rattle.qed_terms.specs.Meaning as sense
use Rattle.qed_terms.specs.Meaning.{Values, each_true, meanings, truth}
use Rattle.qed_terms.specs.Tree.{Tree, trees_of}
use Rattle.c_runs.specs.Program.{Claim, Behavior, Contract, Facts}
use Rattle.c_runs.specs.Claims as broken
use Rattle.c_runs.specs.Claims.{is_assumed, is_required, all_hold, parts_of}
use Rattle.typed_memories.proofs.Tests.{both_so}
use Rattle.memory_steps.specs.State.{State}
use Rattle.memory_words.specs.Leaves.{is_closed, are_closed, closed}
use Rattle.memory_words.specs.Shapes.{FileCells, Shape}
use Rattle.memory_words.specs.Readings.{Texts, entry_reading}
use Rattle.memory_words.specs.Seen.{InSetting, ClaimFits, EntrySeen}
use Rattle.memory_words.proofs.Worlds.{annotations_read}
use Rattle.memory_words.specs.Sets.{or_none, claim_tree, under}
use Rattle.memory_words.specs.Typed.{AllOf}
use Rattle.memory_functions.specs.GoalFunctions.{is_param}
use Rattle.memory_functions.specs.Starting.{start_claim, start_assumed, required_trees, all_required}
use Rattle.memory_functions.specs.Fitting.{BehaviorStarts}
use Rattle.memory_functions.proofs.Told.{env, AllTrueOf, told_more, told_parts, as_it_stands}

-- ---- several formulas as one

closed_trees : (fs : List Tree) → list_all (is_closed []) fs ≡ true → are_closed [] (trees_of fs) ≡ true
closed_trees [] h = refl
closed_trees (f ∷ fs) h = let both = and_parts (is_closed [] f) (list_all (is_closed []) fs) h in both_so (is_closed [] f) _ both.0 (closed_trees fs both.1)

all_closed : (fs : List Tree) → list_all (is_closed []) fs ≡ true → is_closed [] (all_of fs) ≡ true
all_closed [] h = refl
all_closed (f ∷ []) h = (and_parts (is_closed [] f) true h).0
all_closed (f ∷ g ∷ fs) h = closed_trees (f ∷ g ∷ fs) h

module _ (m : sense.World) (e : Values) where
  each_so : (fs : List Tree) → each_true (map sense.is_so (meanings m e (trees_of fs))) ≡ list_all (truth m e) fs
  each_so [] = refl
  each_so (f ∷ fs) = ap (λ b. truth m e f && b) (each_so fs)

  and_true : (b : Bool) → b ≡ (b && true)
  and_true true = refl
  and_true false = refl

  all_so : (fs : List Tree) → truth m e (all_of fs) ≡ list_all (truth m e) fs
  all_so [] = refl
  all_so (f ∷ []) = and_true (truth m e f)
  all_so (f ∷ g ∷ fs) = each_so (f ∷ g ∷ fs)

-- ---- requirements

module _ (m : sense.World) (p : Facts) (s : Shape) (cells : FileCells) (texts : Texts) (params : ℕ) (setting : InSetting m p s cells) (st : State) (w : labelled.World)
    (seen : EntrySeen m p s cells texts 0 (is_param params) (st ∷ []) w) where
  abbrev claim_at : acsl.Tree → Tree
  claim_at a = claim_tree (entry_reading p s cells texts 0 (is_param params)) a

  abbrev Fits : acsl.Tree → Type 0
  Fits a = ClaimFits m p (entry_reading p s cells texts 0 (is_param params)) a

  one_closed : (a : acsl.Tree) → Fits a → is_closed [] (claim_at a) ≡ true
  one_closed a fits = ap (λ o. is_closed [] (or_none o)) fits.is ∙ fits.closed

  one_true : (a : acsl.Tree) → Fits a → truth m (env m st) (claim_at a) ≡ broken.holds p w a
  one_true a fits = ap (λ o. truth m (env m st) (or_none o)) fits.is ∙ fits.means w (st ∷ []) ((annotations_read m p s cells texts setting (st ∷ []) w a).entry 0 (is_param params) seen)

  claims_so : (as_ : List acsl.Tree) → AllOf Fits as_
      → (list_all (is_closed []) (map claim_at as_) ≡ true) × (list_all (truth m (env m st)) (map claim_at as_) ≡ list_all (broken.holds p w) as_)
  claims_so [] fits = (refl, refl)
  claims_so (a ∷ as_) fits =
      let rest = claims_so as_ fits.1 in
      let c = one_closed a fits.0 in
      let t = one_true a fits.0 in
      ((λ i. c i && rest.0 i), (λ i. t i && rest.1 i))

  assumed_so : (b : Behavior) → BehaviorStarts m p s cells texts params b
      → (is_closed [] (start_assumed m p s cells texts params b) ≡ true) × (truth m (env m st) (start_assumed m p s cells texts params b) ≡ is_assumed p w b)
  assumed_so b fits =
      let x = claims_so b.assumes fits.assumes in (all_closed (map claim_at b.assumes) x.0, all_so m (env m st) (map claim_at b.assumes) ∙ x.1)

  -- one that is required where the behavior is there
  one_told : (plain : Bool) (b : Behavior) → BehaviorStarts m p s cells texts params b → (plain ≡ true → is_assumed p w b ≡ true) → (c : Claim) → Fits c.what
      → truth m (env m st) (closed (under plain (start_assumed m p s cells texts params b) (start_claim m p s cells texts params c))) ≡ (not (is_assumed p w b) || broken.holds p w c.what)
  one_told true b fits so c fit =
      as_it_stands m st (start_claim m p s cells texts params c) (one_closed c.what fit) ∙ one_true c.what fit ∙ ap (λ a. not a || broken.holds p w c.what) (sym (so refl))
  one_told false b fits so c fit =
      let a = assumed_so b fits in
      let k = one_closed c.what fit in
      let t = one_true c.what fit in
      as_it_stands m st (under false (start_assumed m p s cells texts params b) (start_claim m p s cells texts params c)) (λ i. a.0 i && (k i && true))
      ∙ (λ i. not (a.1 i) || t i)

  implies : (x y : Bool) → ((not x || y) ≡ true) ↔ (x ≡ true → y ≡ true)
  implies true y = ((λ h e. h), (λ h. h refl))
  implies false y = ((λ h e. absurd (false≢true e)), (λ h. refl))

  claims_told : (plain : Bool) (b : Behavior) → BehaviorStarts m p s cells texts params b → (plain ≡ true → is_assumed p w b ≡ true) → (cs : List Claim)
      → AllOf (λ (c : Claim). Fits c.what) cs
      → AllTrueOf m st (map (λ c. under plain (start_assumed m p s cells texts params b) (start_claim m p s cells texts params c)) cs)
      ↔ (is_assumed p w b ≡ true → all_hold p w cs ≡ true)
  claims_told plain b fits so [] fit = ((λ h e. refl), (λ h. tt))
  claims_told plain b fits so (c ∷ cs) fit =
      let one = one_told plain b fits so c fit.0 in
      let rest = claims_told plain b fits so cs fit.1 in
      let is = implies (is_assumed p w b) (broken.holds p w c.what) in (
        (λ h e. both_so (broken.holds p w c.what) (all_hold p w cs) (is.0 (sym one ∙ h.0 (pos 0) (pos 0)) e) (rest.0 h.1 e)),
        (λ h. (
          (λ x o. one ∙ is.1 (λ e. (and_parts (broken.holds p w c.what) (all_hold p w cs) (h e)).0)),
          rest.1 (λ e. (and_parts (broken.holds p w c.what) (all_hold p w cs) (h e)).1),
        )),
      )

  where_assumed : (a h : Bool) → ((if a then h else true) ≡ true) ↔ (a ≡ true → h ≡ true)
  where_assumed true h = ((λ k e. k), (λ k. k refl))
  where_assumed false h = ((λ k e. absurd (false≢true e)), (λ k. refl))

  behavior_told : (plain : Bool) (b : Behavior) → BehaviorStarts m p s cells texts params b → (plain ≡ true → is_assumed p w b ≡ true)
      → AllTrueOf m st (required_trees m p s cells texts params plain b) ↔ (is_required p w b ≡ true)
  behavior_told plain b fits so =
      let x = claims_told plain b fits so b.requires fits.requires in
      let y = where_assumed (is_assumed p w b) (all_hold p w b.requires) in ((λ h. y.1 (x.0 h)), (λ h. x.1 (y.0 h)))

  behaviors_told : (bs : List Behavior) → AllOf (BehaviorStarts m p s cells texts params) bs
      → AllTrueOf m st (all_required m p s cells texts params bs) ↔ (list_all (is_required p w) bs ≡ true)
  behaviors_told [] fits = ((λ h. refl), (λ h. tt))
  behaviors_told (b ∷ bs) fits =
      let x = behavior_told false b fits.0 (λ e. absurd (false≢true e)) in
      let y = behaviors_told bs fits.1 in (
        (λ h. let r = told_parts m st (required_trees m p s cells texts params false b) (all_required m p s cells texts params bs) h in
            both_so (is_required p w b) (list_all (is_required p w) bs) (x.0 r.0) (y.0 r.1)),
        (λ h. let both = and_parts (is_required p w b) (list_all (is_required p w) bs) h in
            told_more m st (required_trees m p s cells texts params false b) (all_required m p s cells texts params bs) (x.1 both.0) (y.1 both.1)),
      )

  pub required_told : (c : Contract) → c.plain.assumes ≡ [] → BehaviorStarts m p s cells texts params c.plain → AllOf (BehaviorStarts m p s cells texts params) c.behaviors
      → AllTrueOf m st (required_trees m p s cells texts params true c.plain ++ all_required m p s cells texts params c.behaviors)
      ↔ (list_all (is_required p w) (parts_of c) ≡ true)
  required_told c none plain behaviors =
      let x = behavior_told true c.plain plain (λ e. ap (list_all (broken.holds p w)) none) in
      let y = behaviors_told c.behaviors behaviors in (
        (λ h. let r = told_parts m st (required_trees m p s cells texts params true c.plain) (all_required m p s cells texts params c.behaviors) h in
            both_so (is_required p w c.plain) (list_all (is_required p w) c.behaviors) (x.0 r.0) (y.0 r.1)),
        (λ h. let both = and_parts (is_required p w c.plain) (list_all (is_required p w) c.behaviors) h in
            told_more m st (required_trees m p s cells texts params true c.plain) (all_required m p s cells texts params c.behaviors) (x.1 both.0) (y.1 both.1)),
      )
