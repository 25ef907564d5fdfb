-- Invariants and the variant: what their checks come to is how a run goes on or stops.
use Rattle.std.proofs.Common.{◌≡◌, ℕ, suc, pos, Bool, true, false, ◌&&◌, List, [], ◌∷◌, map, Option, Some, None, refl, sym, ap, ◌∙◌, subst}
use Rattle.std.specs.Prelude.{int_le, int_lt}
use Rattle.std.proofs.lemmas.Bool.{and_parts}
use Rattle.acsl_trees.specs.Tree as acsl
use Rattle.c_runs.specs.TruthStates as labelled
use Rattle.qed_terms.specs.Meaning as sense
use Rattle.qed_terms.specs.Meaning.{value, truth}
use Rattle.qed_terms.specs.Tree.{Tree, num, at_most, less}
use Rattle.c_runs.specs.Program.{Claim, Measure, Facts, Loop}
use Rattle.c_runs.specs.Claims as broken
use Rattle.c_runs.specs.Claims.{Stop, failed, or_stop, unless_true, holds, number_at, all_hold, claimed, measure_of, variant_down, variant_holds, at_head}
use Rattle.plain_states.specs.Slots.{State}
use Rattle.plain_runs.specs.Fitting.{Shape}
use Rattle.walk_steps.specs.State.{AllTrue, FirstFalse}
use Rattle.walk_steps.specs.Forms.{Place, Check, forms, told_forms}
use Rattle.walk_steps.specs.Step.{places}
use Rattle.walk_steps.specs.Step as step
use Rattle.walk_steps.specs.Run.{End, goes_on, leaves, fails, Seg}
use Rattle.walk_steps.specs.Run as seg
use Rattle.program_steps.specs.Leaves.{is_closed, closed, leaves_of, form}
use Rattle.program_steps.specs.Stops.{broken_place, kept_place, IsStop}
use Rattle.program_steps.specs.Terms.{Texts, body_reading, or_none, claim_tree, or_zero}
use Rattle.program_steps.specs.Words.{Point, check}
use Rattle.program_steps.specs.Standing.{SeenBy, FailsAs}
use Rattle.program_steps.specs.Typed.{ClaimFits, MeasureFits}
use Rattle.program_steps.specs.Placed.{all_told}
use Rattle.program_steps.specs.Functions.{AllOf}
use Rattle.program_steps.proofs.Asking.{closed_told}
use Rattle.program_steps.proofs.Tests.{Comes, none_come, more_come, one_comes, Asks, goes, stops, asks_way}
use Rattle.loop_words.specs.Words.{head_tree, entry_check, kept_check, measure_tree, variant_checks, end_checks}

-- ---- lists of formulas

module _ (m : sense.World) (sts : List State) where
  pub all_known : (fs : List Tree) → all_told m sts fs ≡ true → AllTrue (told_forms sts (map (form m) fs))
  all_known [] h = tt
  all_known (f ∷ fs) h = let both = and_parts (truth m (leaves_of sts) (closed f)) (all_told m sts fs) h in (both.0, all_known fs both.1)

  pub known_all : (fs : List Tree) → AllTrue (told_forms sts (map (form m) fs)) → all_told m sts fs ≡ true
  known_all [] h = refl
  known_all (f ∷ fs) h = λ i. h.0 i && known_all fs h.1 i

  pub asked_all : (a : Place) (fs : List Tree) → AllTrue (told_forms sts (forms (map (λ f. check m f a) fs))) → all_told m sts fs ≡ true
  asked_all a [] h = refl
  asked_all a (f ∷ fs) h = λ i. h.0 i && asked_all a fs h.1 i

-- ---- how asked checks end

goes_no_fail : {st : State} {i : ℕ} → goes_on st ≡ fails i → ⊥
goes_no_fail e = cc

fails_no_go : {st : State} {i : ℕ} → fails i ≡ goes_on st → ⊥
fails_no_go e = cc

fails_parts : {i j : ℕ} → fails i ≡ fails j → i ≡ j
fails_parts e = cc

-- one is false, and a run stops so
pub comes_false : (olds : List State) (st : State) (cs : List Check) (n i : ℕ) (o : Option Stop) → Comes (st ∷ olds) cs o → FirstFalse n (told_forms (st ∷ olds) (forms cs)) i
    → (x : Stop) × ((o ≡ Some x) × FailsAs (places (step.ask cs)) n i x)
comes_false olds st cs n i o comes first = by (asks_way olds st cs n o comes (fails i) (seg.ask_fails first)) refl where
  by : {o : Option Stop} {e : End} → Asks cs st n o e → e ≡ fails i → (x : Stop) × ((o ≡ Some x) × FailsAs (places (step.ask cs)) n i x)
  by goes e = absurd (goes_no_fail e)
  by (stops {e = x} {i = j} h) e = (x, (refl, subst (λ j. FailsAs (places (step.ask cs)) n j x) (fails_parts e) h))

-- all are true, and it goes on
pub comes_true : (olds : List State) (st : State) (cs : List Check) (o : Option Stop) → Comes (st ∷ olds) cs o → AllTrue (told_forms (st ∷ olds) (forms cs)) → o ≡ None
comes_true olds st cs o comes all = by (asks_way olds st cs 0 o comes (goes_on st) (seg.asks all)) refl where
  by : {o : Option Stop} {e : End} → Asks cs st 0 o e → e ≡ goes_on st → o ≡ None
  by goes e = refl
  by (stops h) e = absurd (fails_no_go e)

module _ (m : sense.World) (p : Facts) (s : Shape) (texts : Texts) where
  abbrev pub InvariantsFit : List Claim → Type 0
  InvariantsFit cs = AllOf (λ (c : Claim). (here entry loop_entry : ℕ) → ClaimFits m p s texts c.what here entry loop_entry) cs

  -- ---- claims at some levels

  module _ (h e g : ℕ) (w : labelled.World) (sts : List State) (seen : SeenBy p s w sts h e g) where
    abbrev tree_of : Claim → Tree
    tree_of c = claim_tree p s texts (body_reading p s texts h e g) c.what

    claim_told : (c : Claim) → ClaimFits m p s texts c.what h e g → truth m (leaves_of sts) (closed (tree_of c)) ≡ holds p w c.what
    claim_told c fits =
        closed_told m sts (tree_of c) (ap (λ o. is_closed [] (or_none p s texts o)) fits.is ∙ fits.closed)
        ∙ ap (λ o. truth m (leaves_of sts) (or_none p s texts o)) fits.is ∙ fits.means w sts seen

    claims_come : (at : ℕ → Place) → ((line : ℕ) → IsStop (failed broken.invariant line) (at line)) → (cs : List Claim) → InvariantsFit cs
        → Comes sts (map (λ c. check m (tree_of c) (at c.line)) cs) (claimed p w broken.invariant cs)
    claims_come at is [] fits = none_come sts
    claims_come at is (c ∷ cs) fits =
        more_come sts (check m (tree_of c) (at c.line) ∷ []) (map (λ c. check m (tree_of c) (at c.line)) cs) (unless_true (holds p w c.what) broken.invariant c.line) (claimed p w broken.invariant cs)
        (one_comes sts (check m (tree_of c) (at c.line)) (unless_true (holds p w c.what) broken.invariant c.line) (holds p w c.what) (claim_told c (fits.0 h e g))
        (λ t. ap (λ b. unless_true b broken.invariant c.line) t) (λ t. (failed broken.invariant c.line, ap (λ b. unless_true b broken.invariant c.line) t, is c.line)))
        (claims_come at is cs fits.1)

    trees_told : (cs : List Claim) → InvariantsFit cs → all_told m sts (map tree_of cs) ≡ all_hold p w cs
    trees_told [] fits = refl
    trees_told (c ∷ cs) fits = λ i. claim_told c (fits.0 h e g) i && trees_told cs fits.1 i

    none_some : {X : Type 0} {x : X} → Some x ≡ None → ⊥
    none_some e = cc

    claimed_none : (cs : List Claim) → all_hold p w cs ≡ true → claimed p w broken.invariant cs ≡ None
    claimed_none [] h = refl
    claimed_none (c ∷ cs) h =
        let both = and_parts (holds p w c.what) (all_hold p w cs) h in
        ap (λ b. or_stop (unless_true b broken.invariant c.line) (claimed p w broken.invariant cs)) both.0 ∙ claimed_none cs both.1

    none_claimed : (cs : List Claim) → claimed p w broken.invariant cs ≡ None → all_hold p w cs ≡ true
    none_claimed [] h = refl
    none_claimed (c ∷ cs) h = by (holds p w c.what) h (none_claimed cs) where
      by : (b : Bool) → or_stop (unless_true b broken.invariant c.line) (claimed p w broken.invariant cs) ≡ None → (claimed p w broken.invariant cs ≡ None → all_hold p w cs ≡ true)
          → (b && all_hold p w cs) ≡ true
      by true h rest = rest h
      by false h rest = absurd (none_some h)

  -- ---- at the entry, and at the head

  module _ (pt : Point) (w : labelled.World) (st : State) (olds : List State) (seen : SeenBy p s w (st ∷ olds) 0 (suc (suc pt.entry)) 1) (cs : List Claim) (fits : InvariantsFit cs) where
    pub entries_come : Comes (st ∷ olds) (map (entry_check p s texts m pt) cs) (claimed p w broken.invariant cs)
    entries_come = claims_come 0 (suc (suc pt.entry)) 1 w (st ∷ olds) seen (λ line. broken_place broken.invariant line) (λ line. (refl, refl)) cs fits

    pub heads_told : claimed p w broken.invariant cs ≡ None → all_told m (st ∷ olds) (map (head_tree p s texts pt) cs) ≡ true
    heads_told h = trees_told 0 (suc (suc pt.entry)) 1 w (st ∷ olds) seen cs fits ∙ none_claimed 0 (suc (suc pt.entry)) 1 w (st ∷ olds) seen cs h

    pub told_heads : all_told m (st ∷ olds) (map (head_tree p s texts pt) cs) ≡ true → claimed p w broken.invariant cs ≡ None
    told_heads h = claimed_none 0 (suc (suc pt.entry)) 1 w (st ∷ olds) seen cs (sym (trees_told 0 (suc (suc pt.entry)) 1 w (st ∷ olds) seen cs fits) ∙ h)

  -- ---- at the end of a pass

  module _ (pt : Point) (before now : labelled.World) (sts : List State) (seen_before : SeenBy p s before sts 1 (suc (suc (suc pt.entry))) 2) (seen_now : SeenBy p s now sts 0 (suc (suc (suc pt.entry))) 2) where
    measure_closed : (h e g : ℕ) (a : acsl.Tree) → MeasureFits m p s texts a h e g → is_closed [] (measure_tree p s texts (body_reading p s texts h e g) a) ≡ true
    measure_closed h e g a fits = ap (λ o. is_closed [] (or_zero o)) fits.is ∙ fits.closed

    measure_is : (h e g : ℕ) (a : acsl.Tree) → MeasureFits m p s texts a h e g → (w : labelled.World) → SeenBy p s w sts h e g
        → value m (leaves_of sts) (measure_tree p s texts (body_reading p s texts h e g) a) ≡ number_at p w a
    measure_is h e g a fits w seen = ap (λ o. value m (leaves_of sts) (or_zero o)) fits.is ∙ fits.means w sts seen

    variant_come : (o : Option Measure) → ((v : Measure) → o ≡ Some v → (here entry loop_entry : ℕ) → MeasureFits m p s texts v.what here entry loop_entry)
        → Comes sts (variant_checks p s texts m pt o) (variant_holds p now o (measure_of p before o))
    variant_come None fits = none_come sts
    variant_come (Some v) fits =
        more_come sts (first ∷ []) (second ∷ []) (unless_true (int_le (pos 0) (number_at p before v.what)) broken.variant_positive v.line)
        (unless_true (int_lt (number_at p now v.what) (number_at p before v.what)) broken.variant_less v.line)
        (one_comes sts first (unless_true (int_le (pos 0) (number_at p before v.what)) broken.variant_positive v.line) (int_le (pos 0) (number_at p before v.what)) first_told
        (λ t. ap (λ b. unless_true b broken.variant_positive v.line) t)
        (λ t. (failed broken.variant_positive v.line, ap (λ b. unless_true b broken.variant_positive v.line) t, (refl, refl))))
        (one_comes sts second (unless_true (int_lt (number_at p now v.what) (number_at p before v.what)) broken.variant_less v.line) (int_lt (number_at p now v.what) (number_at p before v.what)) second_told
        (λ t. ap (λ b. unless_true b broken.variant_less v.line) t)
        (λ t. (failed broken.variant_less v.line, ap (λ b. unless_true b broken.variant_less v.line) t, (refl, refl))))
      where
        old : Tree
        old = measure_tree p s texts (body_reading p s texts 1 (suc (suc (suc pt.entry))) 2) v.what

        new : Tree
        new = measure_tree p s texts (body_reading p s texts 0 (suc (suc (suc pt.entry))) 2) v.what

        first : Check
        first = check m (at_most (num (pos 0)) old) (broken_place broken.variant_positive v.line)

        second : Check
        second = check m (less new old) (broken_place broken.variant_less v.line)

        old_fits : MeasureFits m p s texts v.what 1 (suc (suc (suc pt.entry))) 2
        old_fits = fits v refl 1 (suc (suc (suc pt.entry))) 2

        new_fits : MeasureFits m p s texts v.what 0 (suc (suc (suc pt.entry))) 2
        new_fits = fits v refl 0 (suc (suc (suc pt.entry))) 2

        old_closed : is_closed [] old ≡ true
        old_closed = measure_closed 1 (suc (suc (suc pt.entry))) 2 v.what old_fits

        new_closed : is_closed [] new ≡ true
        new_closed = measure_closed 0 (suc (suc (suc pt.entry))) 2 v.what new_fits

        first_told : truth m (leaves_of sts) (closed (at_most (num (pos 0)) old)) ≡ int_le (pos 0) (number_at p before v.what)
        first_told = closed_told m sts (at_most (num (pos 0)) old) (ap (λ b. b && true) old_closed)
            ∙ ap (int_le (pos 0)) (measure_is 1 (suc (suc (suc pt.entry))) 2 v.what old_fits before seen_before)

        second_told : truth m (leaves_of sts) (closed (less new old)) ≡ int_lt (number_at p now v.what) (number_at p before v.what)
        second_told = closed_told m sts (less new old) (λ i. new_closed i && (old_closed i && true))
            ∙ (λ i. int_lt (measure_is 0 (suc (suc (suc pt.entry))) 2 v.what new_fits now seen_now i) (measure_is 1 (suc (suc (suc pt.entry))) 2 v.what old_fits before seen_before i))

    pub ends_come : (l : Loop) → InvariantsFit l.invariants → ((v : Measure) → l.variant ≡ Some v → (here entry loop_entry : ℕ) → MeasureFits m p s texts v.what here entry loop_entry)
        → Comes sts (end_checks p s texts m pt l) (at_head p now l (measure_of p before l.variant))
    ends_come l fits variant =
        more_come sts (map (kept_check p s texts m pt) l.invariants) (variant_checks p s texts m pt l.variant) (claimed p now broken.invariant l.invariants)
        (variant_holds p now l.variant (measure_of p before l.variant))
        (claims_come 0 (suc (suc (suc pt.entry))) 2 now sts seen_now (λ line. kept_place line) (λ line. (refl, refl)) l.invariants fits)
        (variant_come l.variant variant)
