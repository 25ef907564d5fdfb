-- The words of loops write terms and formulas of a property, where filled ones are of it.
use Rattle.std.proofs.Common.{◌≡◌, ℕ, suc, Bool, true, false, ◌&&◌, if◌then◌else◌, List, [], ◌∷◌, ◌++◌, map, Option, Some, None, refl}
use Rattle.std.specs.Prelude.{pos}
use Rattle.wp_base.specs.declared.kinds.Kind.{Kind}
use Rattle.typed_prog.specs.declared.operators.Variable.TheVariants as variables
use Rattle.acsl_trees.specs.Tree as acsl
use Rattle.qed_terms.specs.Meaning as sense
use Rattle.qed_terms.specs.Tree.{Tree, num, false_tree, at_most, less, imp_of}
use Rattle.qed_terms.specs.WellFormed.{fits, int}
use Rattle.c_runs.specs.Program.{Variable, Claim, Measure, Behavior, Contract, Loop, Facts}
use Rattle.c_runs.specs.Claims as broken
use Rattle.c_runs.specs.Tree.{Steps}
use Rattle.plain_states.specs.Slots.{value_slot}
use Rattle.plain_states.specs.Scopes.{kind_of}
use Rattle.plain_runs.specs.Fitting.{Shape}
use Rattle.acsl_encode.specs.Readings as annotation
use Rattle.acsl_encode.specs.WellFormed.{IsFormula, ReadingFits}
use Rattle.acsl_encode.specs.Encode as encode
use Rattle.acsl_encode.proofs.Fitting.{AllFormulas}
use Rattle.acsl_encode.proofs.Fitted.{formulas_fit}
use Rattle.walk_steps.specs.Forms.{forms}
use Rattle.walk_steps.specs.Step.{Change, Step}
use Rattle.walk_steps.specs.Texts.{AllWrite, ChangesWrite, Writes}
use Rattle.program_steps.specs.Stops.{broken_place}
use Rattle.program_steps.specs.Terms.{Texts, entry_reading, claim_tree, assumed_tree, or_zero}
use Rattle.program_steps.specs.Words.{Force, of_function, of_loop, Point, under, lacks}
use Rattle.program_steps.specs.Staying.{stays, stays_from, all_stay}
use Rattle.loop_words.specs.Sets.{lacks_some, some_outside, lacking_in, lacking_all, within, inside_trees, file_changes, local_changes}
use Rattle.loop_words.specs.Words.{value_change, flag_change, file_list, local_list, assumed_at, stay_trees, head_reading, end_reading, before_reading, measure_tree, head_tree, entry_check, kept_check, variant_checks, loop_word}
use Rattle.program_goals.specs.Texts.{TextsFit}
use Rattle.program_goals.proofs.Names.{and_both, leaf_is_int}
use Rattle.program_goals.proofs.Formulas.{more_formulas, refused_fits, under_fits, body_fits, claim_fits, entry_fits}
use Rattle.program_goals.proofs.Writes.{Fills, form_writes, asks_write, knows_write, checks_both}

-- ---- formulas

module _ (p : Facts) (s : Shape) (texts : Texts) (named : TextsFit texts) where
  lacking_fits : (e : ℕ) (plain : Bool) (b : Behavior) (rs : List acsl.Tree) → AllFormulas (lacking_in p s texts e plain b rs)
  lacking_fits e plain b rs = by (lacks_some b.assigns rs) where
    by : (t : Bool) → AllFormulas (if t then under plain (assumed_tree p s texts (entry_reading p s texts e) b.assumes) false_tree ∷ [] else [])
    by true = (under_fits plain _ false_tree (entry_fits p s texts named e b) refl, tt)
    by false = tt

  lacking_all_fits : (e : ℕ) (bs : List Behavior) (rs : List acsl.Tree) → AllFormulas (lacking_all p s texts e bs rs)
  lacking_all_fits e [] rs = tt
  lacking_all_fits e (b ∷ bs) rs = more_formulas (lacking_in p s texts e false b rs) _ (lacking_fits e false b rs) (lacking_all_fits e bs rs)

  false_fits : (b : Bool) → AllFormulas (if b then false_tree ∷ [] else [])
  false_fits true = (refl, tt)
  false_fits false = tt

  within_fits : (e : ℕ) (c : Contract) (w : Force) (rs : List acsl.Tree) → AllFormulas (within p s texts e c w rs)
  within_fits e c of_function rs =
      refused_fits (lacks_some c.plain.assigns rs) (lacking_in p s texts e true c.plain rs ++ lacking_all p s texts e c.behaviors rs)
      (more_formulas (lacking_in p s texts e true c.plain rs) _ (lacking_fits e true c.plain rs) (lacking_all_fits e c.behaviors rs))
  within_fits e c (of_loop ws d) rs = false_fits (some_outside p s texts ws d rs)

  inside_fits : (c : Contract) (pt : Point) (l : Loop) → AllFormulas (inside_trees p s texts c pt l)
  inside_fits c pt l = by l.assigns where
    by : (o : Option (List acsl.Tree)) → AllFormulas (inside_trees p s texts c pt (record l { assigns = o }))
    by None = tt
    by (Some rs) = within_fits (suc pt.entry) c pt.force rs

  stay_fits : (x : ℕ) → IsFormula (stays x)
  stay_fits x = and_both (leaf_is_int 0 (value_slot x)).int (and_both (leaf_is_int 1 (value_slot x)).int refl)

  stays_fit : (a : Tree) → IsFormula a → (set : Option (List acsl.Tree)) (f : ℕ → Bool) (x : ℕ) (vs : List Variable) → AllFormulas (stays_from a set f x vs)
  stays_fit a h set f x [] = tt
  stays_fit a h set f x (v ∷ vs) = by (f x && lacks set (variables.Global x)) (stays_fit a h set f (suc x) vs) where
    by : (t : Bool) → AllFormulas (stays_from a set f (suc x) vs) → AllFormulas ((if t then imp_of a (stays x) ∷ [] else []) ++ stays_from a set f (suc x) vs)
    by true rest = (and_both h (and_both (stay_fits x) refl), rest)
    by false rest = rest

  all_stay_fit : (e : ℕ) (f : ℕ → Bool) (bs : List Behavior) → AllFormulas (all_stay (assumed_at p s texts e) f p.globals bs)
  all_stay_fit e f [] = tt
  all_stay_fit e f (b ∷ bs) =
      more_formulas (stays_from (assumed_tree p s texts (entry_reading p s texts e) b.assumes) b.assigns f 0 p.globals) _
      (stays_fit (assumed_tree p s texts (entry_reading p s texts e) b.assumes) (entry_fits p s texts named e b) b.assigns f 0 p.globals) (all_stay_fit e f bs)

  stay_trees_fit : (c : Contract) (pt : Point) (l : Loop) → AllFormulas (stay_trees p s texts c pt l)
  stay_trees_fit c pt l = by l.assigns pt.force where
    by : (o : Option (List acsl.Tree)) (w : Force) → AllFormulas (stay_trees p s texts c (record pt { force = w }) (record l { assigns = o }))
    by None of_function = all_stay_fit (suc (suc pt.entry)) (file_changes c (record pt { force = of_function }) (record l { assigns = None })) c.behaviors
    by None (of_loop ws d) = tt
    by (Some rs) w = tt

  head_fits : (pt : Point) (cs : List Claim) → AllFormulas (map (head_tree p s texts pt) cs)
  head_fits pt [] = tt
  head_fits pt (c ∷ cs) =
      (claim_fits p s texts named (head_reading p s texts pt) c.what (body_fits p s texts named 0 (suc (suc pt.entry)) 1 c.what), head_fits pt cs)

  pub measure_int : (r : acsl.Tree → annotation.Reading) (a : acsl.Tree) → ReadingFits (r a) → fits int (measure_tree p s texts r a) ≡ true
  measure_int r a good = by (encode.term_of (r a) a) refl where
    by : (o : Option Tree) → encode.term_of (r a) a ≡ o → fits int (or_zero o) ≡ true
    by None e = refl
    by (Some u) e = ((formulas_fit (r a) a good).number u e).int

-- ---- words

module _ (Term Formula : Tree → Type 0) (fills : Fills Term Formula) (m : sense.World) (p : Facts) where
  value_writes : (b : Bool) (k : Kind) (cs : List Change) → ChangesWrite Term Formula cs → ChangesWrite Term Formula (value_change p b k ∷ cs)
  value_writes true k cs h = (((λ ss u slots so. fills.at_least _ u so), ((λ ss u slots so. fills.up_to _ u so), tt)), h)
  value_writes false k cs h = h

  flag_writes : (b : Bool) (cs : List Change) → ChangesWrite Term Formula cs → ChangesWrite Term Formula (flag_change p b ∷ cs)
  flag_writes true cs h = h
  flag_writes false cs h = h

  files_write : (f : ℕ → Bool) (x : ℕ) (vs : List Variable) (cs : List Change) → ChangesWrite Term Formula cs → ChangesWrite Term Formula (file_list p f x vs ++ cs)
  files_write f x [] cs h = h
  files_write f x (v ∷ vs) cs h = value_writes (f x) (kind_of v) _ (files_write f (suc x) vs cs h)

  locals_write : (f : ℕ → Bool) (x : ℕ) (vs : List Variable) → ChangesWrite Term Formula (local_list p f x vs)
  locals_write f x [] = tt
  locals_write f x (v ∷ vs) = value_writes (f x) (kind_of v) _ (flag_writes (f x) _ (locals_write f (suc x) vs))

  module _ (s : Shape) (texts : Texts) (named : TextsFit texts) (pt : Point) where
    entries_write : (cs : List Claim) → AllWrite Term Formula (forms (map (entry_check p s texts m pt) cs))
    entries_write [] = tt
    entries_write (c ∷ cs) = (
      form_writes Term Formula fills m (head_tree p s texts pt c)
          (claim_fits p s texts named (head_reading p s texts pt) c.what (body_fits p s texts named 0 (suc (suc pt.entry)) 1 c.what)),
      entries_write cs,
    )

    kept_write : (cs : List Claim) → AllWrite Term Formula (forms (map (kept_check p s texts m pt) cs))
    kept_write [] = tt
    kept_write (c ∷ cs) = (
      form_writes Term Formula fills m (claim_tree p s texts (end_reading p s texts pt) c.what)
          (claim_fits p s texts named (end_reading p s texts pt) c.what (body_fits p s texts named 0 (suc (suc (suc pt.entry))) 2 c.what)),
      kept_write cs,
    )

    before_int : (a : acsl.Tree) → fits int (measure_tree p s texts (before_reading p s texts pt) a) ≡ true
    before_int a = measure_int p s texts named (before_reading p s texts pt) a (body_fits p s texts named 1 (suc (suc (suc pt.entry))) 2 a)

    end_int : (a : acsl.Tree) → fits int (measure_tree p s texts (end_reading p s texts pt) a) ≡ true
    end_int a = measure_int p s texts named (end_reading p s texts pt) a (body_fits p s texts named 0 (suc (suc (suc pt.entry))) 2 a)

    variant_writes : (v : Option Measure) → AllWrite Term Formula (forms (variant_checks p s texts m pt v))
    variant_writes None = tt
    variant_writes (Some v) = (
      form_writes Term Formula fills m (at_most (num (pos 0)) (measure_tree p s texts (before_reading p s texts pt) v.what)) (and_both refl (and_both (before_int v.what) refl)),
      (
        form_writes Term Formula fills m (less (measure_tree p s texts (end_reading p s texts pt) v.what) (measure_tree p s texts (before_reading p s texts pt) v.what))
            (and_both (end_int v.what) (and_both (before_int v.what) refl)),
        tt,
      ),
    )

pub loop_writes : (Term Formula : Tree → Type 0) → Fills Term Formula → (m : sense.World) (p : Facts) (s : Shape) (texts : Texts) → TextsFit texts → (c : Contract) (pt : Point) (l : Loop) (ss : Steps) (pass : Step)
    → Writes Term Formula pass → Writes Term Formula (loop_word m p s texts c pt l ss pass)
loop_writes Term Formula fills m p s texts named c pt l ss pass h = (
  asks_write Term Formula fills m (inside_trees p s texts c pt l) (broken_place broken.assigns l.line) (inside_fits p s texts named c pt l),
  (
    entries_write Term Formula fills m p s texts named pt l.invariants,
    (
      files_write Term Formula fills m p (file_changes c pt l) 0 p.globals (local_list p (local_changes l ss) 0 s.variables)
          (locals_write Term Formula fills m p (local_changes l ss) 0 s.variables),
      (
        knows_write Term Formula fills m (stay_trees p s texts c pt l ++ map (head_tree p s texts pt) l.invariants)
            (more_formulas (stay_trees p s texts c pt l) _ (stay_trees_fit p s texts named c pt l) (head_fits p s texts named pt l.invariants)),
        (
          h,
          (
            checks_both Term Formula fills m (map (kept_check p s texts m pt) l.invariants) (variant_checks p s texts m pt l.variant)
                (kept_write Term Formula fills m p s texts named pt l.invariants) (variant_writes Term Formula fills m p s texts named pt l.variant),
            tt,
          ),
        ),
      ),
    ),
  ),
)
