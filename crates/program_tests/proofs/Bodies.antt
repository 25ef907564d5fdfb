-- Bodies that pass the tests are annotated as is asked.
use Rattle.std.proofs.Common.{◌≡◌, ℕ, zero, suc, nat_lt, Bool, true, false, not, ◌&&◌, ◌||◌, List, [], ◌∷◌, length, map, Option, Some, None, option_map, refl, sym, ap, subst, ◌∙◌, arith}
use Rattle.std.proofs.lemmas.Bool.{false≢true, and_parts, ltb-true}
use Rattle.std.proofs.lemmas.Bool.Decides.{nat_tests}
use Rattle.typed_prog.specs.declared.types.CoreType.{CoreType}
use Rattle.typed_prog.specs.Tree as t
use Rattle.acsl_names.specs.declared.names.Definition.{Definition}
use Rattle.qed_terms.specs.Meaning as sense
use Rattle.c_runs.specs.Program.{Contract, Loop, Facts}
use Rattle.c_runs.specs.Tree as core
use Rattle.c_runs.specs.Tree.{Goal, Steps}
use Rattle.program_steps.specs.Temporaries.{Temporaries, no_temporaries, all_live}
use Rattle.acsl_well_typed.specs.WellTyped.{Known}
use Rattle.acsl_well_typed.specs.Definitions.{known_with}
use Rattle.memory_words.specs.Shapes.{FileCells, Shape}
use Rattle.memory_words.specs.Readings.{InScope, Texts, body_reading}
use Rattle.memory_words.specs.Points.{Out, Point, deeper_out, uses_of}
use Rattle.memory_words.specs.Points as point
use Rattle.memory_words.specs.Words.{has_home, in_scope_of}
use Rattle.memory_words.specs.Words as words
use Rattle.memory_calls.specs.LoopSets.{lets_local}
use Rattle.memory_calls.specs.LoopFits.{has_level}
use Rattle.typed_annotations.specs.Sights.{may_name}
use Rattle.typed_annotations.specs.Claims.{TextsFit}
use Rattle.typed_annotations.proofs.Fits.{annotations_fit}
use Rattle.typed_annotations.proofs.Reading.{own_readings}
use Rattle.typed_annotations.proofs.Contracts.{loops_fit}
use Rattle.program_cells.specs.Programs.{is_plain_root}
use Rattle.memory_fitting.specs.Annotated.{HasNoWay, Annotated, AllAnnotated}
use Rattle.program_tests.specs.Tests.{has_none, has_no_way, all_scoped, loop_passes, Where, in_names, in_pass, sights_at, step_passes, steps_pass}
use Rattle.program_tests.specs.Laws.{where_of, PassingBodiesAreAnnotated}
use Rattle.program_tests.proofs.Annotations.{claim_is, loop_is}

-- ---- where statements stand

same_length : (os : List Out) → length (map deeper_out os) ≡ length os
same_length [] = refl
same_length (o ∷ os) = ap suc (same_length os)

same_level : (o : Option ℕ) → has_level (option_map suc o) ≡ has_level o
same_level None = refl
same_level (Some l) = refl

-- one more state is remembered
where_remembered : (pt : Point) → where_of (point.remembered pt) ≡ where_of pt
where_remembered pt =
    let outs = same_length pt.outs in
    let level = same_level pt.stands.loop_entry in
    λ i. record { outs = outs i; in_scope = pt.stands.in_scope; loop_scope = pt.stands.loop_scope; in_loop = level i }

module _ (s : Shape) (cells : FileCells) where
  where_in_scope : (pt : Point) (ys : List ℕ) (home : Bool) → where_of (in_scope_of s cells home pt ys) ≡ in_names ys (where_of pt)
  where_in_scope pt ys true = ap (in_names ys) (where_remembered pt)
  where_in_scope pt ys false = refl

  params_in_scope : (pt : Point) (ys : List ℕ) (home : Bool) → (in_scope_of s cells home pt ys).stands.is_param ≡ pt.stands.is_param
  params_in_scope pt ys true = refl
  params_in_scope pt ys false = refl

where_in_pass : (pt : Point) (l : Loop) → where_of (words.in_pass l pt) ≡ in_pass (where_of pt)
where_in_pass pt l =
    let outs = same_length (map deeper_out pt.outs) ∙ same_length pt.outs in
    λ i. record { outs = outs i; in_scope = pt.stands.in_scope; loop_scope = pt.stands.in_scope; in_loop = true }

-- ---- variables in scope

less_cases : (x n : ℕ) (X : Type 0) → nat_lt x (suc n) ≡ true → (nat_lt x n ≡ true → X) → (x ≡ n → X) → X
less_cases x n X less low same = by (nat_lt x n) refl where
  by : (b : Bool) → nat_lt x n ≡ b → X
  by true is = low is
  by false is = same (grind (arith, nat_tests, is, less))

or_so : (a b : Bool) → (not a || b) ≡ true → a ≡ true → b ≡ true
or_so true b h a = h
or_so false b h a = absurd (false≢true a)

scoped_below : (n : ℕ) (f i : InScope) → all_scoped n f i ≡ true → (x : ℕ) → nat_lt x n ≡ true → f x ≡ true → i x ≡ true
scoped_below zero f i h x less lets = absurd (grind (arith, nat_tests, less))
scoped_below (suc n) f i h x less lets =
    let b = and_parts (all_scoped n f i) (not (f n) || i n) h in
    less_cases x n (i x ≡ true) less (λ low. scoped_below n f i b.0 x low lets)
    (λ same. subst (λ y. i y ≡ true) (sym same) (or_so (f n) (i n) b.1 (subst (λ y. f y ≡ true) same lets)))

pub scoped_so : (n : ℕ) (f i : InScope) → all_scoped n f i ≡ true → (x : ℕ) → (nat_lt x n && f x) ≡ true → i x ≡ true
scoped_so n f i h x changes = let b = and_parts (nat_lt x n) (f x) changes in scoped_below n f i h x b.0 b.1

-- ---- results of calls

none_is : (es : t.Values) → has_none es ≡ true → es ≡ t.stop
none_is t.stop h = refl
none_is (t.more e es) h = absurd (false≢true h)

no_way : (p : Facts) (s : Shape) (to : Goal) → has_no_way p s.variables to ≡ true → HasNoWay p s to
no_way p s (core.place cs type l path es) h = λ root. none_is es (or_so (is_plain_root p s.variables path.root) (has_none es) h root)
no_way p s core.nowhere h = tt
no_way p s (core.temporary n) h = tt
no_way p s (core.variable x) h = tt

-- ---- statements

module _ (m : sense.World) (p : Facts) (s : Shape) (cells : FileCells) (texts : Texts) (fit : TextsFit m p s cells texts) (ds : List Definition) (result : CoreType)
    (c : Contract) where
  abbrev K : Known
  K = known_with true ds result

  abbrev Passes : InScope → Where → Steps → Type 0
  Passes ps h ss = steps_pass p cells texts K s.variables ps h ss ≡ true

  mutual
    step_annotated : (pt : Point) (f : Temporaries) (a : core.Step) → step_passes p cells texts K s.variables pt.stands.is_param (where_of pt) a ≡ true
        → Annotated m p s cells texts c pt f a
    step_annotated pt f (core.set cs n e) h = tt
    step_annotated pt f (core.store cs type l path es) h = tt
    step_annotated pt f (core.start cs x e) h = tt
    step_annotated pt f (core.call cs to n l es) h = no_way p s to h
    step_annotated pt f (core.branch cs e a b) h =
        let here = steps_pass p cells texts K s.variables pt.stands.is_param (where_of pt) in
        let d = and_parts (here a) (here b) h in (steps_annotated pt f a d.0, steps_annotated pt f b d.1)
    step_annotated pt f (core.repeat l ss) h =
        let ps = pt.stands.is_param in
        let inside = in_pass (where_of pt) in
        let rest = steps_pass p cells texts K s.variables ps inside ss in
        let scoped = all_scoped l.declared (lets_local l ss) pt.stands.in_scope in
        let may = may_name p s.variables pt.stands.in_scope in
        let its = sights_at p cells texts K s.variables ps inside in
        let d = and_parts (loop_passes K its may l) (scoped && rest) h in
        let e = and_parts scoped rest d.1 in (
          loops_fit m p s cells texts fit ds result pt l (loop_is K its may l d.0),
          (λ x changes. scoped_so l.declared (lets_local l ss) pt.stands.in_scope e.0 x changes),
          steps_annotated (words.in_pass l pt) no_temporaries ss (subst (λ w. Passes ps w ss) (sym (where_in_pass pt l)) e.1),
        )
    step_annotated pt f (core.around ss) h = steps_annotated (point.in_block f pt) f ss h
    step_annotated pt f (core.exit n) h = ltb-true n (length pt.outs) h
    step_annotated pt f (core.give cs e) h = tt
    step_annotated pt f (core.claim a) h =
        let its = sights_at p cells texts K s.variables pt.stands.is_param (where_of pt) in
        (annotations_fit m p texts ds result its (body_reading p s cells texts pt.stands) a.what ((own_readings m p s cells texts fit a.what).body pt.stands)
        (claim_is K its a.what h)).0
    step_annotated pt f (core.scope ys ss) h =
        let home = has_home s.variables ys in
        steps_annotated (in_scope_of s cells home pt ys) f ss
        (subst (λ ps. Passes ps (where_of (in_scope_of s cells home pt ys)) ss) (sym (params_in_scope s cells pt ys home))
        (subst (λ w. Passes pt.stands.is_param w ss) (sym (where_in_scope s cells pt ys home)) h))

    pub steps_annotated : (pt : Point) (f : Temporaries) (ss : Steps) → steps_pass p cells texts K s.variables pt.stands.is_param (where_of pt) ss ≡ true
        → AllAnnotated m p s cells texts c pt f ss
    steps_annotated pt f core.end h = tt
    steps_annotated pt f (core.then_ a ss) h =
        let d = and_parts (step_passes p cells texts K s.variables pt.stands.is_param (where_of pt) a) (steps_pass p cells texts K s.variables pt.stands.is_param (where_of pt) ss) h in
        (step_annotated pt (all_live ss (uses_of pt.outs) f) a d.0, steps_annotated pt f ss d.1)

pub passing_bodies_are_annotated : PassingBodiesAreAnnotated
passing_bodies_are_annotated m p s cells texts fit ds result c pt f ss h = steps_annotated m p s cells texts fit ds result c pt f ss h
