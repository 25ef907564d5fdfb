-- Texts whose logic functions take as many integers pass the same tests.
use Rattle.std.proofs.Common.{◌≡◌, ℕ, zero, suc, ◌==◌, Bool, true, false, not, ◌&&◌, if◌then◌else◌, List, [], ◌∷◌, length, refl, sym, ap, ◌∙◌}
use Rattle.std.specs.Prelude.{Option, Some, None, slice_index_or}
use Rattle.std.specs.Option.{is_some}
use Rattle.std.specs.List.{list_all}
use Rattle.std.proofs.lemmas.Bool.{and_parts, false≢true}
use Rattle.acsl_trees.specs.Tree.{Tree}
use Rattle.acsl_expand.specs.Expansion.{Definition, definition_at}
use Rattle.c_runs.specs.Program.{Variable, Claim, Measure, Behavior, Contract, Loop, Function, Facts}
use Rattle.c_runs.specs.Tree as core
use Rattle.c_runs.specs.Tree.{Steps}
use Rattle.plain_runs.specs.Fitting.{Shape}
use Rattle.acsl_encode.specs.Readings.{Called, Common}
use Rattle.acsl_encode.specs.Setting.{in_form, logic_at, logic_of, known_first}
use Rattle.program_trees.specs.Files.{at}
use Rattle.program_steps.specs.Terms.{Texts}
use Rattle.plain_annotations.specs.Plain.{is_plain}
use Rattle.plain_annotations.specs.Places.{are_none, is_known, params_of, place_over}
use Rattle.plain_annotations.specs.Claims.{is_claim}
use Rattle.plain_annotations.specs.Clauses.{is_set, is_measure, is_behavior, is_contract, is_loop}
use Rattle.plain_annotations.specs.Annotated.{own_shape, step_claims, all_claim, sets_of_file, is_annotated}
use Rattle.plain_annotations.specs.Settings.{shared, told, calls_none}
use Rattle.plain_trees.specs.Taking.{taking, Takes, if_annotated}
use Rattle.plain_trees.specs.Laws.{EachIsAnnotated, NothingIsCalled}
use Rattle.plain_trees.proofs.Placing.{params_are}

module _ (p : Facts) (texts : Texts) (takes : List (Option ℕ)) (as_many : Takes p texts takes) where
  abbrev here : Texts
  here = taking takes

  place_same : (own : List Variable) (r : Bool) → place_over p here own r ≡ place_over p texts own r
  place_same own r = λ i. record {
    variables = is_known p own;
    has_result = r;
    params = λ f. (sym (params_are p (slice_index_or takes f None)) ∙ sym (as_many f)) i;
  }

  claim_same : (own : List Variable) (r : Bool) (a : Tree) → is_claim p here own r a ≡ is_claim p texts own r a
  claim_same own r a = ap (λ q. is_plain q 0 a) (place_same own r)

  module _ (s : Shape) where
    measure_same : (o : Option Measure) → is_measure p here s o ≡ is_measure p texts s o
    measure_same None = refl
    measure_same (Some v) = claim_same s.variables false v.what

    behavior_same : (b : Behavior) → is_behavior p here s b ≡ is_behavior p texts s b
    behavior_same b = λ i.
        list_all (λ a. claim_same s.variables false a i) b.assumes
        && (list_all (λ (c : Claim). claim_same s.variables false c.what i) b.requires
        && (list_all (λ (c : Claim). claim_same s.variables (is_some s.result) c.what i) b.ensures && is_set p s.variables b.assigns))

    contract_same : (c : Contract) → is_contract p here s c ≡ is_contract p texts s c
    contract_same c = λ i.
        are_none c.plain.assumes && (behavior_same c.plain i && (list_all (λ b. behavior_same b i) c.behaviors && measure_same c.decreases i))

    loop_same : (l : Loop) → is_loop p here s l ≡ is_loop p texts s l
    loop_same l = λ i. list_all (λ (c : Claim). claim_same s.variables false c.what i) l.invariants && (is_set p s.variables l.assigns && measure_same l.variant i)

    mutual
      step_same : (a : core.Step) → step_claims p here s a ≡ step_claims p texts s a
      step_same (core.claim c) = claim_same s.variables false c.what
      step_same (core.repeat l ss) = λ i. loop_same l i && steps_same ss i
      step_same (core.branch cs e a b) = λ i. steps_same a i && steps_same b i
      step_same (core.around ss) = steps_same ss
      step_same (core.scope ys ss) = steps_same ss
      step_same (core.set cs n e) = refl
      step_same (core.store cs type l path es) = refl
      step_same (core.start cs x e) = refl
      step_same (core.call cs to n l es) = refl
      step_same (core.exit k) = refl
      step_same (core.give cs e) = refl

      steps_same : (ss : Steps) → all_claim p here s ss ≡ all_claim p texts s ss
      steps_same core.end = refl
      steps_same (core.then_ a ss) = λ i. step_same a i && steps_same ss i

  function_same : (f : Function Steps) → is_annotated p here f ≡ is_annotated p texts f
  function_same f = λ i. contract_same (own_shape f) f.contract i && (sets_of_file p f.contract && steps_same (own_shape f) f.body i)

  each : (fs : List (Option (Function Steps))) → list_all (if_annotated p here) fs ≡ true → (n : ℕ) (f : Function Steps) → at fs n ≡ Some f → is_annotated p texts f ≡ true
  each [] all n f e = absurd (false≢true (ap is_some e))
  each (o ∷ fs) all zero f e =
      sym (function_same f) ∙ ap (if_annotated p here) (sym e) ∙ (and_parts (if_annotated p here o) (list_all (if_annotated p here) fs) all).0
  each (o ∷ fs) all (suc n) f e = each fs (and_parts (if_annotated p here o) (list_all (if_annotated p here) fs) all).1 n f e

pub each_is_annotated : EachIsAnnotated
each_is_annotated p texts takes as_many fs all n f e = each p texts takes as_many fs all n f e

-- ---- no logic function calls itself

pub none_recursive : (ds : List Definition) → list_all calls_none ds ≡ true → (n : ℕ) → (definition_at ds n).is_recursive ≡ false
none_recursive [] h n = refl
none_recursive (d ∷ ds) h zero = by d.is_recursive (and_parts (calls_none d) (list_all calls_none ds) h).0
  where
    by : (b : Bool) → not b ≡ true → b ≡ false
    by true e = absurd (false≢true e)
    by false e = refl
none_recursive (d ∷ ds) h (suc n) = none_recursive ds (and_parts (calls_none d) (list_all calls_none ds) h).1 n

pub none_known : (r : Common) (t : ℕ → Called) (ds : List Definition) → ((n : ℕ) → (definition_at ds n).is_recursive ≡ false) → (n f : ℕ) → known_first r t ds n f ≡ None
unfolding known_first
none_known r t ds none zero f = refl
none_known r t ds none (suc n) f =
    ap (λ b. if f == n then in_form (t n) (if b then logic_of r (known_first r t ds n) n (t n) (definition_at ds n).body else None) else known_first r t ds n f) (none n)
    ∙ by (f == n) (none_known r t ds none n f)
  where
    by : (b : Bool) → known_first r t ds n f ≡ None → (if b then None else known_first r t ds n f) ≡ None
    by true e = refl
    by false e = e

pub nothing_is_called : NothingIsCalled
nothing_is_called p names none f =
    ap (params_of p) (none_known (shared p) (told p names) p.definitions (none_recursive p.definitions none) (length p.definitions) f)
