-- A function as a word: what behaviors say of each other is asked at its entry, then its body is run, and its promises are asked where it returns.
use Rattle.std.specs.Prelude.{◌≡◌, ◌<◌, ℕ, zero, suc, Bool, true, false, if◌then◌else◌, pos, List, [], ◌∷◌, ◌++◌, map, length, Option, Some, None, slice_get}
use Rattle.std.specs.List.{list_all}
use Rattle.wp_base.specs.declared.kinds.CellKind.{CellKind}
use Rattle.wp_base.specs.declared.kinds.CellKind.TheVariants as cell
use Rattle.wp_base.specs.declared.kinds.Kind.{Kind}
use Rattle.typed_prog.specs.declared.operators.Variable.{Variable}
use Rattle.typed_prog.specs.declared.operators.Variable.TheVariants as variables
use Rattle.acsl_trees.specs.Tree as acsl
use Rattle.acsl_trees.specs.declared.heads.Content.TheVariants as content
use Rattle.acsl_trees.specs.declared.heads.Head.TheVariants as head
use Rattle.c_runs.specs.TruthStates as labelled
use Rattle.c_runs.specs.TruthStates.{Value, number}
use Rattle.acsl_encode.specs.Readings as annotation
use Rattle.acsl_encode.specs.Encode as encode
use Rattle.acsl_encode.specs.Encode.{all_of}
use Rattle.qed_terms.specs.Meaning as sense
use Rattle.qed_terms.specs.Meaning.{truth}
use Rattle.qed_terms.specs.Tree.{Tree, false_tree, not_of, and_of, or_of}
use Rattle.c_runs.specs.Program as program
use Rattle.c_runs.specs.Program.{Claim, Behavior, Together, Contract, Function, Facts}
use Rattle.c_runs.specs.Operators.{noreturn}
use Rattle.c_runs.specs.Claims as broken
use Rattle.c_runs.specs.Claims.{Broken, holds, struct_cells, in_order}
use Rattle.c_runs.specs.States.{World, seen_by_contract}
use Rattle.c_runs.specs.Scopes.{arrived}
use Rattle.c_runs.specs.Calls.{Eval, gives, stops}
use Rattle.c_runs.specs.CoreRun.{begun}
use Rattle.c_runs.specs.Tree.{Steps}
use Rattle.plain_states.specs.Slots.{State, at, result_slot}
use Rattle.goal_segments.specs.Told.{Shape, sizes, is_param, IsResult}
use Rattle.walk_steps.specs.State.{at_or}
use Rattle.walk_steps.specs.Forms.{Place, Check}
use Rattle.walk_steps.specs.Run.{End, goes_on, leaves, fails, Seg}
use Rattle.walk_steps.specs.Step.{Step, skip, halt, seq, ask, block, remember}
use Rattle.program_steps.specs.Leaves.{is_closed, leaves_of}
use Rattle.program_steps.specs.Stops.{undefined_place, broken_place}
use Rattle.program_steps.specs.Temporaries.{no_temporaries, all_live}
use Rattle.program_steps.specs.Terms.{Texts, entry_reading, return_reading, claim_tree, assumed_tree, kind_given}
use Rattle.program_steps.specs.Words.{Point, of_function, Others, under, check, ask_one, steps}
use Rattle.program_steps.specs.Standing.{StandsFor, SeenAs, FailsAs}
use Rattle.program_steps.specs.Typed.{ClaimFits, OtherFits, AllFit}
use Rattle.acsl_encode.specs.Meaning.{IsOfKind}

-- in the body of a function, whose entry is the last state that is remembered
abbrev pub body_point : (number : ℕ) → Point
body_point n = record { self = n; entry = 0; loop_entry = 0; outs = []; force = of_function }

-- one stands alone, and none is `false`
abbrev pub any_of : List Tree → Tree
any_of [] = false_tree
any_of (f ∷ []) = f
any_of (f ∷ g ∷ fs) = or_of (f ∷ g ∷ fs)

-- each two of them aren't true at once
abbrev pub not_both : Tree → List Tree → List Tree
not_both f [] = []
not_both f (g ∷ gs) = not_of (and_of (f ∷ g ∷ [])) ∷ not_both f gs

abbrev pub no_two : List Tree → List Tree
no_two [] = []
no_two (f ∷ fs) = not_both f fs ++ no_two fs

module _ (m : sense.World) (p : Facts) (s : Shape) (texts : Texts) where
  -- the function's entry is the state that is remembered
  abbrev pub behavior_tree : Behavior → Tree
  behavior_tree b = assumed_tree p s texts (entry_reading p s texts 1) b.assumes

  abbrev pub named_tree : Option Behavior → Tree
  named_tree (Some b) = behavior_tree b
  named_tree None = false_tree

  abbrev pub named_trees : List Behavior → List ℕ → List Tree
  named_trees bs [] = map behavior_tree bs
  named_trees bs (n ∷ ns) = map (λ i. named_tree (slice_get bs i)) (n ∷ ns)

  abbrev pub together_check : List Behavior → Together → Check
  together_check bs t =
      if t.is_complete then check m (any_of (named_trees bs t.numbers)) (broken_place broken.complete t.line)
      else check m (all_of (no_two (named_trees bs t.numbers))) (broken_place broken.disjoint t.line)

  abbrev pub ensure_check : (is_plain : Bool) → Behavior → Claim → Check
  ensure_check plain b c =
      check m (under plain (behavior_tree b) (claim_tree p s texts (return_reading p s texts 1) c.what)) (broken_place broken.ensures c.line)

  abbrev pub ensure_checks : (is_plain : Bool) → Behavior → List Check
  ensure_checks plain b = map (ensure_check plain b) b.ensures

  abbrev pub all_ensured : List Behavior → List Check
  all_ensured [] = []
  all_ensured (b ∷ bs) = ensure_checks false b ++ all_ensured bs

  -- the end of a body that gives a result isn't come to
  abbrev pub ending : Option CellKind → (line : ℕ) → Step
  ending None l = skip
  ending (Some k) l = seq (ask_one m false_tree (undefined_place noreturn l)) halt

  abbrev pub function_word : Others → (number : ℕ) → Function Steps → Step
  function_word others n f =
      remember
      (seq (ask (map (together_check f.contract.behaviors) (in_order f.contract.together)))
      (seq (block (seq (steps m p s texts f.contract others (body_point n) f.body no_temporaries) (ending f.result f.end)))
      (ask (ensure_checks true f.contract.plain ++ all_ensured f.contract.behaviors))))

-- ---- what is asked of it

-- how a function has returned: its parameters have their values at entry
pub record SeenReturn (p : Facts) (s : Shape) (w : labelled.World) (sts : List State) : Type 0 where
  pub here_is : SeenAs p s w.here (at_or [] sts 0) (at_or [] sts 1)
  pub pre_is : SeenAs p s w.pre (at_or [] sts 1) (at_or [] sts 1)
  pub post_is : SeenAs p s w.post (at_or [] sts 0) (at_or [] sts 1)
  pub loop_entry_is : SeenAs p s w.loop_entry (at_or [] sts 1) (at_or [] sts 1)
  pub result : (k : CellKind) → s.result ≡ Some k → w.result ≡ number (at (at_or [] sts 0) (result_slot (sizes p s)))
  pub result_fits : IsOfKind p.model (kind_given s.result) (at (at_or [] sts 0) (result_slot (sizes p s)))
  pub model : p.model ≡ w.model
  pub structs : (n : ℕ) → struct_cells p n ≡ w.structs n

-- a promise has a closed formula, which means it
pub record ReturnFits (m : sense.World) (p : Facts) (s : Shape) (texts : Texts) (a : acsl.Tree) : Type 0 where
  pub formula : Tree
  pub is : encode.formula_of (return_reading p s texts 1 a) a ≡ Some formula
  pub closed : is_closed [] formula ≡ true
  pub means : (w : labelled.World) (sts : List State) → SeenReturn p s w sts → truth m (leaves_of sts) formula ≡ holds p w a

-- a variable that there is
abbrev pub IsKnown : Facts → Shape → Variable → Type 0
IsKnown p s (variables.Global x) = x < length p.globals
IsKnown p s (variables.Local x) = x < length s.variables

-- a region that is a plain variable
pub record RegionFits (p : Facts) (s : Shape) (a : acsl.Tree) : Type 0 where
  pub variable : Variable
  pub known : IsKnown p s variable
  pub kind : Kind
  pub is : a ≡ acsl.node (head.Region (content.Integer kind)) (acsl.more (acsl.node (head.Variable variable) acsl.stop) acsl.stop)

abbrev pub AllOf : {X : Type 0} → (X → Type 0) → List X → Type 0
AllOf f [] = Unit {0}
AllOf f (x ∷ xs) = f x × AllOf f xs

abbrev pub SetFits : Facts → Shape → Option (List acsl.Tree) → Type 0
SetFits p s None = Unit {0}
SetFits p s (Some as_) = AllOf (RegionFits p s) as_

pub record BehaviorFits (m : sense.World) (p : Facts) (s : Shape) (texts : Texts) (b : Behavior) : Type 0 where
  pub assumes : AllOf (λ a. ClaimFits m p s texts a 1 1 1) b.assumes
  pub ensures : AllOf (λ (c : Claim). ReturnFits m p s texts c.what) b.ensures
  pub assigns : SetFits p s b.assigns

pub record FunctionFits (m : sense.World) (p : Facts) (s : Shape) (texts : Texts) (fits : OtherFits) (f : Function Steps) : Type 0 where
  pub assumes : f.contract.plain.assumes ≡ []
  pub plain : BehaviorFits m p s texts f.contract.plain
  pub behaviors : AllOf (BehaviorFits m p s texts) f.contract.behaviors
  pub body : AllFit m p s texts fits (is_param f.params) [] no_temporaries f.body

-- ---- where it is entered, and how it ends

-- slots stand for the world in which it is entered with these arguments
pub record EntersAs (p : Facts) (s : Shape) (f : Function Steps) (vs : List Value) (w : World) (st : State) : Type 0 where
  pub stands : StandsFor p s w.memory.blocks (is_param f.params) (all_live f.body [] no_temporaries) (begun (arrived f.variables vs w)) st
  pub seen : SeenAs p s (seen_by_contract p vs w.memory) st st

-- a result stands in its slot; a failing check is one of the same kind and line
abbrev pub FunctionEnds : Facts → Shape → List Place → Eval → End → Type 0
FunctionEnds p s ps (gives v u) (goes_on st) = IsResult p s.result v × ((k : CellKind) → s.result ≡ Some k → v ≡ number (at st (result_slot (sizes p s))))
FunctionEnds p s ps (gives v u) (leaves k st) = ⊥
FunctionEnds p s ps (gives v u) (fails i) = ⊥
FunctionEnds p s ps (stops e) (goes_on st) = ⊥
FunctionEnds p s ps (stops e) (leaves k st) = ⊥
FunctionEnds p s ps (stops e) (fails i) = FailsAs ps 0 i e

-- Runs of a function and those of its word: for each of the ones there is one of the others that ends so.
pub record FunctionRuns (r : Eval → Type 0) (ends : Eval → End → Type 0) (a : Step) (st : State) : Type 0 where
  pub forth : (o : Eval) → r o → (e : End) × Seg [] 0 a st e × ends o e
  pub back : (e : End) → Seg [] 0 a st e → (o : Eval) × r o × ends o e
