-- Functions that pass, written with the temporaries that are told of them, are ready.
use Rattle.std.proofs.Common.{◌≡◌, ℕ, Bool, true, List, Option, Some, None, option_map, refl, sym, ap, subst}
use Rattle.std.proofs.lemmas.Bool.{and_parts}
use Rattle.std.proofs.lemmas.Option.{none-some, same_Some}
use Rattle.wp_base.specs.declared.kinds.CellKind.{CellKind}
use Rattle.typed_prog.specs.declared.types.CoreType.{CoreType}
use Rattle.acsl_names.specs.declared.names.Definition.{Definition}
use Rattle.qed_terms.specs.Meaning as sense
use Rattle.c_runs.specs.Program.{Function, Facts, Program}
use Rattle.c_runs.specs.Core.{Cores}
use Rattle.c_runs.specs.Tree.{Steps}
use Rattle.c_runs.specs.Adding.{function_of, add_checks}
use Rattle.program_steps.specs.Temporaries.{no_temporaries}
use Rattle.acsl_well_typed.specs.WellTyped.{Known}
use Rattle.acsl_well_typed.specs.Definitions.{known_with}
use Rattle.annotations_encoded.specs.Sights.{Sights}
use Rattle.memory_words.specs.Places.{Place}
use Rattle.memory_words.specs.Shapes.{FileCells, Shape, is_pointer_cell}
use Rattle.memory_words.specs.Readings.{Texts}
use Rattle.memory_functions.specs.Words.{Written, shape_in}
use Rattle.memory_functions.specs.GoalFunctions.{body_point}
use Rattle.typed_annotations.specs.Sights.{params_of, entry_sights, return_sights}
use Rattle.typed_annotations.specs.Claims.{TextsFit}
use Rattle.typed_annotations.specs.Behaviors.{ContractIs}
use Rattle.typed_annotations.proofs.Contracts.{contracts_fit, callees_fit}
use Rattle.program_cells.specs.Parts.{AreKnown}
use Rattle.program_cells.specs.Trees.{Declared}
use Rattle.program_cells.specs.Programs.{given_parts, function_parts}
use Rattle.temporary_kinds.specs.Kinds.{or_int, results_of}
use Rattle.memory_fitting.specs.Annotated.{CalleesAre}
use Rattle.memory_fitting.specs.Statements.{with_checks}
use Rattle.memory_fitting.specs.Functions.{HasTemporaries, IsReady}
use Rattle.program_tests.specs.Tests.{at_begin, steps_pass, own_contract_passes, function_passes}
use Rattle.program_tests.specs.Written.{body_written, body_of, all_written}
use Rattle.program_tests.specs.Laws.{AllPass, ResultsAreKnown, PassingFunctionsAreReady}
use Rattle.program_tests.proofs.Annotations.{contract_is}
use Rattle.program_tests.proofs.Bodies.{steps_annotated}

-- ---- temporaries

has_temporaries : (results : ℕ → Option CellKind) (name : Place → List ℕ) (f : Function Steps) → HasTemporaries results f (body_written results name f.body)
has_temporaries results name f = record {
  kinds = λ n l is. ap or_int is;
  others = λ n is. ap (λ o. is_pointer_cell (or_int o)) is;
  count = λ n less. less;
}

-- ---- functions with their checks

-- of a function with checks it is known which one it is without them
pub checked_from : (o : Option (Function Cores)) (f : Function Steps) → option_map function_of o ≡ Some f → (g : Function Cores) × (o ≡ Some g) × (function_of g ≡ f)
checked_from (Some g) f e = (g, refl, same_Some (function_of g) f e)
checked_from None f e = absurd (none-some f e)

module _ (p : Facts) (cells : FileCells) (texts : Texts) (ds : List Definition) (result : CoreType) (f : Function Steps) (h : function_passes p cells texts ds result f ≡ true) where
  abbrev K : Known
  K = known_with true ds result

  abbrev entry : Sights
  entry = entry_sights p cells texts f.variables (params_of f)

  abbrev back : Sights
  back = return_sights p cells texts f.variables (params_of f) f.result

  abbrev contract_part : Bool
  contract_part = own_contract_passes p cells texts ds result f

  abbrev body_part : Bool
  body_part = steps_pass p cells texts K f.variables (params_of f) (at_begin (params_of f)) f.body

  pub own_contract : ContractIs p K entry back f.contract
  own_contract = contract_is p K entry back f.contract (and_parts contract_part body_part h).0

  pub own_body : steps_pass p cells texts K f.variables (params_of f) (at_begin (params_of f)) f.body ≡ true
  own_body = (and_parts contract_part body_part h).1

module _ (m : sense.World) (q : Program Cores) (cells : FileCells) (texts : Texts) (ds : List Definition) (types : ℕ → CoreType) (all : AllPass q cells texts ds types)
    (given : ResultsAreKnown q cells texts ds types) where
  abbrev p : Facts
  p = q.facts

  callees : (s : Shape) → TextsFit m p s cells texts → CalleesAre m p s cells texts (with_checks q.functions)
  callees s fit = record {
    fit = λ n f e es. let g = checked_from (q.functions n) f e in
        callees_fit m p s cells texts fit ds (types n) f es
        (own_contract p cells texts ds (types n) f (subst (λ f. function_passes p cells texts ds (types n) f ≡ true) g.2 (all n g.0 g.1)));
    results = λ n f e. let g = checked_from (q.functions n) f e in subst (λ (f : Function Steps). AreKnown cells (given_parts f.result)) g.2 (given n g.0 g.1);
  }

  module _ (n : ℕ) (g : Function Cores) (d : Declared) (is : q.functions n ≡ Some g) (known : AreKnown cells (function_parts p d (function_of g))) where
    ready : (w : Written) → HasTemporaries (results_of (add_checks q)) (function_of g) w → TextsFit m p (shape_in (function_of g) w) cells texts → IsReady m q cells texts n g w d
    ready w temporaries fit = record {
      temporaries = temporaries;
      known = known;
      callees = callees (shape_in (function_of g) w) fit;
      contract = contracts_fit m p (shape_in (function_of g) w) cells texts fit ds (types n) (params_of (function_of g)) g.contract
          (own_contract p cells texts ds (types n) (function_of g) (all n g is));
      body = steps_annotated m p (shape_in (function_of g) w) cells texts fit ds (types n) g.contract (body_point m p (shape_in (function_of g) w) cells texts g.params n)
          no_temporaries (function_of g).body (own_body p cells texts ds (types n) (function_of g) (all n g is));
    }

    written_is : (name : ℕ → Place → List ℕ) → body_written (results_of (add_checks q)) (name n) (function_of g).body ≡ all_written (add_checks q) name n
    written_is name = sym (ap (λ o. body_written (results_of (add_checks q)) (name n) (body_of (option_map function_of o))) is)

    pub is_ready : (name : ℕ → Place → List ℕ) → TextsFit m p (shape_in (function_of g) (all_written (add_checks q) name n)) cells texts
        → IsReady m q cells texts n g (all_written (add_checks q) name n) d
    is_ready name fit =
        ready (all_written (add_checks q) name n)
        (subst (HasTemporaries (results_of (add_checks q)) (function_of g)) (written_is name) (has_temporaries (results_of (add_checks q)) (name n) (function_of g)))
        fit

pub passing_functions_are_ready : PassingFunctionsAreReady
passing_functions_are_ready m q cells texts ds types name all given n g d is known fit = is_ready m q cells texts ds types all given n g d is known name fit
