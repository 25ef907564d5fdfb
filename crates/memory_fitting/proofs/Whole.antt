-- Functions with memory fit.
use Rattle.std.proofs.Common.{◌≡◌, ℕ, Bool, true, false, List, [], ◌∷◌, ◌++◌, Option, Some, None, option_map, slice_get, refl, sym, ap, subst, ◌∙◌}
use Rattle.std.proofs.lemmas.Bool.{false≢true, ltb-true}
use Rattle.wp_base.specs.declared.kinds.CellKind.{CellKind}
use Rattle.wp_base.specs.declared.kinds.CellKind.TheVariants as cell
use Rattle.qed_terms.specs.Meaning as sense
use Rattle.c_runs.specs.Program.{Variable, Claim, Behavior, Contract, Function, Facts, Program}
use Rattle.c_runs.specs.Core.{Cores}
use Rattle.c_runs.specs.Tree.{Steps}
use Rattle.c_runs.specs.Adding.{steps_of, function_of, add_checks}
use Rattle.program_steps.specs.Temporaries.{no_temporaries}
use Rattle.typed_normal.specs.Typed.{FunctionIsTyped}
use Rattle.typed_normal.specs.Order.{SetsFirst}
use Rattle.memory_words.specs.Shapes.{FileCells, Shape, kind_of, is_pointer_cell}
use Rattle.memory_words.specs.Readings.{Texts, entry_reading, return_reading}
use Rattle.memory_words.specs.Seen.{ClaimFits}
use Rattle.memory_words.specs.Points.{of_function}
use Rattle.memory_words.specs.Typed.{AllOf}
use Rattle.memory_calls.specs.LoopFits.{ClauseFits, ForceFits}
use Rattle.memory_functions.specs.Words.{Written}
use Rattle.memory_functions.specs.GoalFunctions.{is_param, body_point}
use Rattle.memory_functions.specs.FunctionFunctions.{ParamFits, BehaviorFits}
use Rattle.memory_functions.specs.Fitting.{BehaviorStarts}
use Rattle.typed_annotations.specs.Behaviors.{OwnBehaviorFits, OwnContractFits}
use Rattle.program_cells.specs.Parts.{Part, AreKnown}
use Rattle.program_cells.specs.Trees.{Declared}
use Rattle.program_cells.specs.Programs.{variables_parts, given_parts, contract_parts, steps_parts}
use Rattle.temporary_kinds.specs.Kinds.{steps_kind, result_of, results_of}
use Rattle.temporary_kinds.proofs.Kinds_theirs.{mentioned_kinds_are_theirs}
use Rattle.temporary_kinds.proofs.Counted.{mentioned_are_counted}
use Rattle.memory_fitting.specs.Expressions.{typed_shape, Agrees}
use Rattle.memory_fitting.specs.Annotated.{NumbersAre}
use Rattle.memory_fitting.specs.Statements.{AreGiven}
use Rattle.memory_fitting.specs.Functions.{shape_of, IsReady, FunctionIsFit, TypedFunctionsFit}
use Rattle.memory_fitting.proofs.Typing.{known_left, known_right, blocks_known}
use Rattle.memory_fitting.proofs.Variables.{variable_known, declared_fits, one_cell_fits}
use Rattle.memory_fitting.proofs.Stated.{steps_fit}

all_of : {X : Type 0} (f g : X → Type 0) → ((x : X) → f x → g x) → (xs : List X) → AllOf f xs → AllOf g xs
all_of f g give [] h = tt
all_of f g give (x ∷ xs) h = (give x h.0, all_of f g give xs h.1)

-- ---- contracts

module _ (m : sense.World) (p : Facts) (s : Shape) (cells : FileCells) (texts : Texts) (params : ℕ) where
  abbrev Own : Behavior → Type 0
  Own b = OwnBehaviorFits m p s cells texts (is_param params) b

  clause_fits : (b : Behavior) → Own b → ClauseFits m p s cells texts (is_param params) b
  clause_fits b h = record { assumes = h.assumes; regions = h.regions }

  behavior_fits : (b : Behavior) → Own b → BehaviorFits m p s cells texts params b
  behavior_fits b h = record {
    assumes = all_of (λ a. (level : ℕ) → ClaimFits m p (entry_reading p s cells texts level (is_param params)) a)
        (ClaimFits m p (entry_reading p s cells texts 1 (is_param params))) (λ a all. all 1) b.assumes h.assumes;
    ensures = all_of (λ (c : Claim). (entry : ℕ) → ClaimFits m p (return_reading p s cells texts entry (is_param params)) c.what)
        (λ (c : Claim). ClaimFits m p (return_reading p s cells texts 1 (is_param params)) c.what) (λ c all. all 1) b.ensures h.ensures;
    assigns = h.sets 1;
  }

  behavior_starts : (b : Behavior) → Own b → BehaviorStarts m p s cells texts params b
  behavior_starts b h = record {
    assumes = all_of (λ a. (level : ℕ) → ClaimFits m p (entry_reading p s cells texts level (is_param params)) a)
        (ClaimFits m p (entry_reading p s cells texts 0 (is_param params))) (λ a all. all 0) b.assumes h.assumes;
    requires = all_of (λ (c : Claim). (level : ℕ) → ClaimFits m p (entry_reading p s cells texts level (is_param params)) c.what)
        (λ (c : Claim). ClaimFits m p (entry_reading p s cells texts 0 (is_param params)) c.what) (λ c all. all 0) b.requires h.requires;
  }

  own_force : (c : Contract) → OwnContractFits m p s cells texts (is_param params) c → (number : ℕ)
      → ForceFits m p s cells texts c (body_point m p s cells texts params number) of_function
  own_force c h number =
      (h.assumes, (clause_fits c.plain h.plain, all_of Own (ClauseFits m p s cells texts (is_param params)) clause_fits c.behaviors h.behaviors))

-- ---- functions

module _ (m : sense.World) (q : Program Cores) (cells : FileCells) (texts : Texts) (own : ℕ) (g : Function Cores) (w : Written) (d : Declared) (b : Bool) (h : CellKind → Bool)
    (typed : FunctionIsTyped q b h g) (order : SetsFirst (function_of g).body) (ready : IsReady m q cells texts own g w d) where
  abbrev p : Facts
  p = q.facts

  abbrev s : Shape
  s = shape_of m q cells texts own g w

  abbrev body : Steps
  body = steps_of g.variables g.body

  abbrev results : ℕ → Option CellKind
  results = results_of (add_checks q)

  given : AreGiven q.functions results
  given n f is = ap (λ o. result_of (option_map function_of o)) is

  theirs : (n : ℕ) (l : CellKind) → steps_kind results body n ≡ Some l → typed.temp_kind n ≡ l
  theirs = mentioned_kinds_are_theirs p (typed_shape s typed.temporaries typed.temp_kind b h) q.functions results given (is_param g.params) 0 g.body typed.body

  agrees : Agrees s typed.temp_kind (steps_kind results body)
  agrees n l is = (ready.temporaries.kinds n l is ∙ sym (theirs n l is), ready.temporaries.count n (mentioned_are_counted results body n l is))

  numbers : NumbersAre s typed.temp_kind
  numbers n l is = by (steps_kind results body n) refl where
    by : (o : Option CellKind) → steps_kind results body n ≡ o → is_pointer_cell (w.temp_kind n) ≡ false
    by None told = ready.temporaries.others n told
    by (Some j) told = ap is_pointer_cell (ready.temporaries.kinds n j told ∙ sym (theirs n j told) ∙ is)

  -- ---- what it speaks of

  abbrev behind_result : List Part
  behind_result = contract_parts p g.variables d g.contract ++ steps_parts p g.variables d body

  vars : AreKnown cells (variables_parts g.variables)
  vars = known_left cells (variables_parts g.variables) (given_parts g.result ++ behind_result) ready.known

  others : AreKnown cells (given_parts g.result ++ behind_result)
  others = known_right cells (variables_parts g.variables) (given_parts g.result ++ behind_result) ready.known

  parts : AreKnown cells (steps_parts p g.variables d body)
  parts = known_right cells (contract_parts p g.variables d g.contract) (steps_parts p g.variables d body) (known_right cells (given_parts g.result) behind_result others)

  result_fits : g.result ≡ Some cell.Ptr → cells.has_blocks ≡ true
  result_fits is = blocks_known cells [] (subst (λ r. AreKnown cells (given_parts r)) is (known_left cells (given_parts g.result) behind_result others))

  param_fits : (x : ℕ) (v : Variable) → slice_get g.variables x ≡ Some v → is_param g.params x ≡ true → ParamFits s cells v
  param_fits x v found param =
      let known = variable_known cells g.variables vars x v found in record {
        declared = declared_fits cells s v known;
        one_cell = λ home.
            let one = typed.one_cell x v (ltb-true x g.params param) found home in (one, (one_cell_fits cells v (kind_of v) known home one).1);
      }

  fit : FunctionIsFit m q cells texts own g w
  fit = record {
    fits = record {
      result = result_fits;
      params_there = typed.params;
      params = param_fits;
      assumes = ready.contract.assumes;
      plain = behavior_fits m p s cells texts g.params g.contract.plain ready.contract.plain;
      behaviors = all_of (Own m p s cells texts g.params) (BehaviorFits m p s cells texts g.params) (behavior_fits m p s cells texts g.params) g.contract.behaviors
          ready.contract.behaviors;
      body = steps_fit m p s typed.temporaries typed.temp_kind b h cells texts g.contract q.functions results d given numbers vars ready.callees
          (body_point m p s cells texts g.params own) no_temporaries 0 g.body typed.body parts agrees ready.temporaries.count order.loops ready.contract
          (own_force m p s cells texts g.params g.contract ready.contract own) ready.body;
    };
    starts = record {
      params_there = typed.params;
      assumes = ready.contract.assumes;
      plain = behavior_starts m p s cells texts g.params g.contract.plain ready.contract.plain;
      behaviors = all_of (Own m p s cells texts g.params) (BehaviorStarts m p s cells texts g.params) (behavior_starts m p s cells texts g.params) g.contract.behaviors
          ready.contract.behaviors;
      temporaries = λ n less used. absurd (false≢true (sym (order.begins n) ∙ used));
    };
  }

pub typed_functions_fit : TypedFunctionsFit
typed_functions_fit m q cells texts own g w d b h typed order ready = fit m q cells texts own g w d b h typed order ready
