-- Invariants and the variant: what their checks come to is how a run goes on or stops.
use Rattle.std.proofs.Common.{◌≡◌, ℕ, suc, Bool, true, false, ◌&&◌, List, [], ◌∷◌, map, Option, Some, None, refl, sym, ap, ◌∙◌}
use Rattle.std.specs.Prelude.{int_le, int_lt, pos}
use Rattle.std.proofs.lemmas.Bool.{and_parts}
use Rattle.acsl_trees.specs.Tree as acsl
use Rattle.c_runs.specs.TruthStates as labelled
use Rattle.acsl_encode.specs.Readings as annotation
use Rattle.acsl_encode.specs.Meaning.{Stands}
use Rattle.qed_terms.specs.Meaning as sense
use Rattle.qed_terms.specs.Meaning.{value, truth}
use Rattle.qed_terms.specs.Tree.{Tree, num, at_most, less}
use Rattle.c_runs.specs.Program.{Claim, Measure, Facts, Loop}
use Rattle.c_runs.specs.Claims as broken
use Rattle.c_runs.specs.Claims.{failed, or_stop, unless_true, holds, number_at, all_hold, claimed, measure_of, variant_holds, at_head}
use Rattle.walk_steps.specs.Forms.{Place}
use Rattle.memory_steps.specs.State.{State}
use Rattle.memory_steps.specs.Forms.{Check}
use Rattle.memory_words.specs.Leaves.{is_closed, closed, leaves_of}
use Rattle.program_steps.specs.Stops.{broken_place, kept_place, IsStop}
use Rattle.memory_words.specs.Shapes.{FileCells, Shape, sizes}
use Rattle.memory_words.specs.Readings.{Texts, body_reading}
use Rattle.memory_words.specs.Seen.{ClaimFits, MeasureFits}
use Rattle.memory_words.proofs.Valued.{closed_told}
use Rattle.memory_words.specs.Points.{Point}
use Rattle.memory_words.specs.Sets.{or_none, claim_tree}
use Rattle.memory_words.specs.Words.{check, entered_loop}
use Rattle.memory_words.specs.Typed.{AllOf}
use Rattle.memory_words.specs.Placed.{all_told}
use Rattle.memory_calls.specs.LoopWords.{or_zero, measure_tree, head_reading, end_reading, before_reading, head_tree, entry_check, kept_check, variant_checks, end_checks}
use Rattle.memory_calls.specs.LoopFits.{at_levels}
use Rattle.memory_calls.proofs.Coming.{Comes, none_come, more_come, one_comes}

-- ---- annotations that are read so

module _ (m : sense.World) (p : Facts) (r : acsl.Tree → annotation.Reading) (w : labelled.World) (sts : List State)
    (stands : (a : acsl.Tree) → Stands m (r a) (leaves_of sts) w) where
  pub claim_told : (a : acsl.Tree) → ClaimFits m p r a → truth m (leaves_of sts) (closed (claim_tree r a)) ≡ holds p w a
  claim_told a fits =
      closed_told m sts (claim_tree r a) (ap (λ o. is_closed [] (or_none o)) fits.is ∙ fits.closed)
      ∙ ap (λ o. truth m (leaves_of sts) (or_none o)) fits.is ∙ fits.means w sts (stands a)

  abbrev pub AllClaimsFit : List Claim → Type 0
  AllClaimsFit cs = AllOf (λ (c : Claim). ClaimFits m p r c.what) cs

  module _ (s : Shape) where
    pub claims_come : (at : ℕ → Place) → ((line : ℕ) → IsStop (failed broken.invariant line) (at line)) → (cs : List Claim) → AllClaimsFit cs
        → Comes sts (map (λ c. check m (sizes p s) (claim_tree r c.what) (at c.line)) cs) (claimed p w broken.invariant cs)
    claims_come at is [] fits = none_come sts
    claims_come at is (c ∷ cs) fits =
        more_come sts (check m (sizes p s) (claim_tree r c.what) (at c.line) ∷ []) (map (λ c. check m (sizes p s) (claim_tree r c.what) (at c.line)) cs)
        (unless_true (holds p w c.what) broken.invariant c.line) (claimed p w broken.invariant cs)
        (one_comes sts (check m (sizes p s) (claim_tree r c.what) (at c.line)) (unless_true (holds p w c.what) broken.invariant c.line) (holds p w c.what)
        (claim_told c.what fits.0) (λ t. ap (λ b. unless_true b broken.invariant c.line) t)
        (λ t. (failed broken.invariant c.line, ap (λ b. unless_true b broken.invariant c.line) t, is c.line)))
        (claims_come at is cs fits.1)

  pub trees_told : (cs : List Claim) → AllClaimsFit cs → all_told m sts (map (λ c. claim_tree r c.what) cs) ≡ all_hold p w cs
  trees_told [] fits = refl
  trees_told (c ∷ cs) fits = λ i. claim_told c.what fits.0 i && trees_told cs fits.1 i

  measure_closed : (a : acsl.Tree) → MeasureFits m p r a → is_closed [] (measure_tree r a) ≡ true
  measure_closed a fits = ap (λ o. is_closed [] (or_zero o)) fits.is ∙ fits.closed

  measure_is : (a : acsl.Tree) → MeasureFits m p r a → value m (leaves_of sts) (measure_tree r a) ≡ number_at p w a
  measure_is a fits = ap (λ o. value m (leaves_of sts) (or_zero o)) fits.is ∙ fits.means w sts (stands a)

-- ---- claims that hold

module _ (p : Facts) (w : labelled.World) where
  none_some : {X : Type 0} {x : X} → Some x ≡ None → ⊥
  none_some e = cc

  pub claimed_none : (cs : List Claim) → all_hold p w cs ≡ true → claimed p w broken.invariant cs ≡ None
  claimed_none [] h = refl
  claimed_none (c ∷ cs) h =
      let both = and_parts (holds p w c.what) (all_hold p w cs) h in
      ap (λ b. or_stop (unless_true b broken.invariant c.line) (claimed p w broken.invariant cs)) both.0 ∙ claimed_none cs both.1

  pub none_claimed : (cs : List Claim) → claimed p w broken.invariant cs ≡ None → all_hold p w cs ≡ true
  none_claimed [] h = refl
  none_claimed (c ∷ cs) h = by (holds p w c.what) h (none_claimed cs) where
    by : (b : Bool) → or_stop (unless_true b broken.invariant c.line) (claimed p w broken.invariant cs) ≡ None → (claimed p w broken.invariant cs ≡ None → all_hold p w cs ≡ true)
        → (b && all_hold p w cs) ≡ true
    by true h rest = rest h
    by false h rest = absurd (none_some h)

module _ (m : sense.World) (p : Facts) (s : Shape) (cells : FileCells) (texts : Texts) (l : Loop) (pt : Point) where
  -- of all levels
  abbrev pub InvariantsFit : List Claim → Type 0
  InvariantsFit cs = AllOf (λ (c : Claim). (h e g : ℕ) → ClaimFits m p (body_reading p s cells texts (at_levels (entered_loop pt) h e (Some g))) c.what) cs

  abbrev pub VariantFits : Option Measure → Type 0
  VariantFits o = (v : Measure) → o ≡ Some v → (h e g : ℕ) → MeasureFits m p (body_reading p s cells texts (at_levels (entered_loop pt) h e (Some g))) v.what

  fit_at : (h e g : ℕ) (cs : List Claim) → InvariantsFit cs → AllOf (λ (c : Claim). ClaimFits m p (body_reading p s cells texts (at_levels (entered_loop pt) h e (Some g))) c.what) cs
  fit_at h e g [] fits = tt
  fit_at h e g (c ∷ cs) fits = (fits.0 h e g, fit_at h e g cs fits.1)

  -- ---- at the entry, and at the head

  module _ (w : labelled.World) (sts : List State) (stands : (a : acsl.Tree) → Stands m (head_reading p s cells texts l pt a) (leaves_of sts) w)
      (cs : List Claim) (fits : InvariantsFit cs) where
    pub entries_come : Comes sts (map (entry_check p s cells texts m l pt) cs) (claimed p w broken.invariant cs)
    entries_come = claims_come m p (head_reading p s cells texts l pt) w sts stands s (λ line. broken_place broken.invariant line) (λ line. (refl, refl)) cs
        (fit_at 0 (suc pt.stands.entry) 1 cs fits)

    pub heads_told : claimed p w broken.invariant cs ≡ None → all_told m sts (map (head_tree p s cells texts l pt) cs) ≡ true
    heads_told h = trees_told m p (head_reading p s cells texts l pt) w sts stands cs (fit_at 0 (suc pt.stands.entry) 1 cs fits) ∙ none_claimed p w cs h

    pub told_heads : all_told m sts (map (head_tree p s cells texts l pt) cs) ≡ true → claimed p w broken.invariant cs ≡ None
    told_heads h = claimed_none p w cs (sym (trees_told m p (head_reading p s cells texts l pt) w sts stands cs (fit_at 0 (suc pt.stands.entry) 1 cs fits)) ∙ h)

  -- ---- at the end of a pass

  module _ (before now : labelled.World) (sts : List State) (stands_before : (a : acsl.Tree) → Stands m (before_reading p s cells texts l pt a) (leaves_of sts) before)
      (stands_now : (a : acsl.Tree) → Stands m (end_reading p s cells texts l pt a) (leaves_of sts) now) where
    variant_come : (o : Option Measure) → VariantFits o → Comes sts (variant_checks p s cells texts m l pt o) (variant_holds p now o (measure_of p before o))
    variant_come None fits = none_come sts
    variant_come (Some v) fits =
        more_come sts (first ∷ []) (second ∷ []) (unless_true (int_le (pos 0) (number_at p before v.what)) broken.variant_positive v.line)
        (unless_true (int_lt (number_at p now v.what) (number_at p before v.what)) broken.variant_less v.line)
        (one_comes sts first (unless_true (int_le (pos 0) (number_at p before v.what)) broken.variant_positive v.line) (int_le (pos 0) (number_at p before v.what)) first_told
        (λ t. ap (λ b. unless_true b broken.variant_positive v.line) t)
        (λ t. (failed broken.variant_positive v.line, ap (λ b. unless_true b broken.variant_positive v.line) t, (refl, refl))))
        (one_comes sts second (unless_true (int_lt (number_at p now v.what) (number_at p before v.what)) broken.variant_less v.line)
        (int_lt (number_at p now v.what) (number_at p before v.what)) second_told
        (λ t. ap (λ b. unless_true b broken.variant_less v.line) t)
        (λ t. (failed broken.variant_less v.line, ap (λ b. unless_true b broken.variant_less v.line) t, (refl, refl))))
      where
        old : Tree
        old = measure_tree (before_reading p s cells texts l pt) v.what

        new : Tree
        new = measure_tree (end_reading p s cells texts l pt) v.what

        first : Check
        first = check m (sizes p s) (at_most (num (pos 0)) old) (broken_place broken.variant_positive v.line)

        second : Check
        second = check m (sizes p s) (less new old) (broken_place broken.variant_less v.line)

        old_fits : MeasureFits m p (before_reading p s cells texts l pt) v.what
        old_fits = fits v refl 1 (suc (suc pt.stands.entry)) 2

        new_fits : MeasureFits m p (end_reading p s cells texts l pt) v.what
        new_fits = fits v refl 0 (suc (suc pt.stands.entry)) 2

        old_closed : is_closed [] old ≡ true
        old_closed = measure_closed m p (before_reading p s cells texts l pt) before sts stands_before v.what old_fits

        new_closed : is_closed [] new ≡ true
        new_closed = measure_closed m p (end_reading p s cells texts l pt) now sts stands_now v.what new_fits

        first_told : truth m (leaves_of sts) (closed (at_most (num (pos 0)) old)) ≡ int_le (pos 0) (number_at p before v.what)
        first_told = closed_told m sts (at_most (num (pos 0)) old) (ap (λ b. b && true) old_closed)
            ∙ ap (int_le (pos 0)) (measure_is m p (before_reading p s cells texts l pt) before sts stands_before v.what old_fits)

        second_told : truth m (leaves_of sts) (closed (less new old)) ≡ int_lt (number_at p now v.what) (number_at p before v.what)
        second_told = closed_told m sts (less new old) (λ i. new_closed i && (old_closed i && true))
            ∙ (λ i. int_lt (measure_is m p (end_reading p s cells texts l pt) now sts stands_now v.what new_fits i)
            (measure_is m p (before_reading p s cells texts l pt) before sts stands_before v.what old_fits i))

    pub ends_come : InvariantsFit l.invariants → VariantFits l.variant
        → Comes sts (end_checks p s cells texts m l pt) (at_head p now l (measure_of p before l.variant))
    ends_come fits variant =
        more_come sts (map (kept_check p s cells texts m l pt) l.invariants) (variant_checks p s cells texts m l pt l.variant) (claimed p now broken.invariant l.invariants)
        (variant_holds p now l.variant (measure_of p before l.variant))
        (claims_come m p (end_reading p s cells texts l pt) now sts stands_now s (λ line. kept_place line) (λ line. (refl, refl)) l.invariants
        (fit_at 0 (suc (suc pt.stands.entry)) 2 l.invariants fits))
        (variant_come l.variant variant)
