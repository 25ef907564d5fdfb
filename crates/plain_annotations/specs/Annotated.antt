-- Tests of the annotations of a function of a core program with checks: those in its body, and its contract (ACSL 2.3, 2.4).
use Rattle.std.specs.Prelude.{Bool, true, ◌&&◌, []}
use Rattle.std.specs.List.{list_all}
use Rattle.wp_base.specs.declared.kinds.Kind.TheVariants as kind
use Rattle.c_runs.specs.Program.{Behavior, Contract, Function, Facts}
use Rattle.c_runs.specs.Tree as core
use Rattle.c_runs.specs.Tree.{Steps}
use Rattle.program_steps.specs.Told.{Shape, shape_of}
use Rattle.program_steps.specs.Terms.{Texts}
use Rattle.plain_annotations.specs.Claims.{is_body_claim}
use Rattle.plain_annotations.specs.Clauses.{is_set, is_contract, is_loop}

-- annotations speak of no temporaries
abbrev pub own_shape : Function Steps → Shape
own_shape f = shape_of f 0 (λ n. kind.Int)

module _ (p : Facts) (texts : Texts) (s : Shape) where
  abbrev mutual
    pub step_claims : core.Step → Bool
    step_claims (core.claim c) = is_body_claim p texts s c.what
    step_claims (core.repeat l ss) = is_loop p texts s l && all_claim ss
    step_claims (core.branch cs e a b) = all_claim a && all_claim b
    step_claims (core.around ss) = all_claim ss
    step_claims (core.scope ys ss) = all_claim ss
    step_claims (core.set cs n e) = true
    step_claims (core.store cs type l path es) = true
    step_claims (core.start cs x e) = true
    step_claims (core.call cs to n l es) = true
    step_claims (core.exit k) = true
    step_claims (core.give cs e) = true

    pub all_claim : Steps → Bool
    all_claim core.end = true
    all_claim (core.then_ a ss) = step_claims a && all_claim ss

-- What a function may change is told of variables of the file alone: its callers know no others.
abbrev pub sets_of_file : Facts → Contract → Bool
sets_of_file p c = is_set p [] c.plain.assigns && list_all (λ (b : Behavior). is_set p [] b.assigns) c.behaviors

-- a function that calls and may be called
abbrev pub is_annotated : Facts → Texts → Function Steps → Bool
is_annotated p texts f = is_contract p texts (own_shape f) f.contract && (sets_of_file p f.contract && all_claim p texts (own_shape f) f.body)
