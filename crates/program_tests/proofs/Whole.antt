-- Programs that are tested so are what the laws on goals ask for.
use Rattle.std.proofs.Common.{◌≡◌, ℕ, true, false, List, [], ◌++◌, Option, Some, None, option_map, refl, sym, ap, subst, ◌∙◌}
use Rattle.std.proofs.lemmas.Bool.{false≢true}
use Rattle.std.proofs.lemmas.Option.{none-some}
use Rattle.wp_base.specs.declared.kinds.CellKind.{CellKind}
use Rattle.wp_base.specs.declared.kinds.CellKind.TheVariants as cell
use Rattle.c_kinds.specs.Models.{long_bits}
use Rattle.typed_prog.specs.declared.types.CoreType.{CoreType}
use Rattle.acsl_names.specs.declared.names.Definition.{Definition}
use Rattle.qed_terms.specs.Meaning as sense
use Rattle.qed_terms.specs.Setting.{Setting, world_of}
use Rattle.c_runs.specs.Program.{Function, Program}
use Rattle.c_runs.specs.Core.{Cores}
use Rattle.c_runs.specs.Tree.{Steps}
use Rattle.c_runs.specs.Adding.{steps_of, function_of, add_checks}
use Rattle.typed_runs.specs.Fitting.{FitsProgram}
use Rattle.typed_normal.proofs.Giving.{typed_programs_fit}
use Rattle.memory_words.specs.Places.{Place}
use Rattle.memory_words.specs.Shapes.{FileCells, is_pointer_cell}
use Rattle.memory_words.specs.Readings.{Texts}
use Rattle.memory_words.specs.Seen.{InSetting}
use Rattle.memory_functions.specs.Words.{Written, shape_in}
use Rattle.memory_programs.specs.Programs.{FunctionIn}
use Rattle.program_cells.specs.Parts.{Part, AreKnown}
use Rattle.program_cells.specs.Trees.{Declared}
use Rattle.program_cells.specs.Programs.{variables_parts, given_parts, contract_parts, steps_parts, function_parts}
use Rattle.program_cells.specs.Programs as spoken
use Rattle.temporary_kinds.specs.Kinds.{or_int, steps_kind, result_of, results_of}
use Rattle.memory_fitting.specs.Functions.{IsReady, FunctionIsFit}
use Rattle.memory_fitting.proofs.Typing.{known_left, known_right, blocks_known}
use Rattle.memory_fitting.proofs.Whole.{typed_functions_fit}
use Rattle.program_tests.specs.Written.{body_written, body_of, all_written}
use Rattle.program_tests.specs.Laws.{ResultsAreKnown, KnowsCells, ProgramsKnowCells, IsTested, TestedProgramsFit}
use Rattle.program_tests.proofs.Ready.{checked_from, is_ready}
use Rattle.program_tests.proofs.Sets.{sets_fit}
use Rattle.program_tests.proofs.Spoken.{kinds_need_blocks}
use Rattle.program_tests.proofs.Pointing.{no_pointer_cell, steps_tell, all_plain, no_pointers}

-- ---- the cells of a typed file

pub programs_know_cells : ProgramsKnowCells
programs_know_cells t q have known = record {
  no_kinds = kinds_need_blocks t (add_checks q);
  globals = known.globals;
  declared = λ n g is. let b = have n g is in spoken.declared_in t (add_checks q) b.1;
  functions = λ n g is.
      let b = have n g is in known.bodies b.0 b.1 (function_of g) b.2 (ap (add_checks q).functions b.3 ∙ ap (option_map function_of) is);
}

-- ---- what is known of a function

module _ (cells : FileCells) (q : Program Cores) (known : KnowsCells q cells) where
  module _ (n : ℕ) (g : Function Cores) (is : q.functions n ≡ Some g) where
    abbrev d : Declared
    d = known.declared n g is

    abbrev body : Steps
    body = steps_of g.variables g.body

    abbrev behind_result : List Part
    behind_result = contract_parts q.facts g.variables d g.contract ++ steps_parts q.facts g.variables d body

    abbrev whole : AreKnown cells (function_parts q.facts d (function_of g))
    whole = known.functions n g is

    pub variables_known : AreKnown cells (variables_parts g.variables)
    variables_known = known_left cells (variables_parts g.variables) (given_parts g.result ++ behind_result) whole

    behind_variables : AreKnown cells (given_parts g.result ++ behind_result)
    behind_variables = known_right cells (variables_parts g.variables) (given_parts g.result ++ behind_result) whole

    pub result_known : AreKnown cells (given_parts g.result)
    result_known = known_left cells (given_parts g.result) behind_result behind_variables

    pub body_known : AreKnown cells (steps_parts q.facts g.variables d body)
    body_known =
        known_right cells (contract_parts q.facts g.variables d g.contract) (steps_parts q.facts g.variables d body)
        (known_right cells (given_parts g.result) behind_result behind_variables)

    result_blocks : g.result ≡ Some cell.Ptr → cells.has_blocks ≡ true
    result_blocks e = blocks_known cells [] (subst (λ r. AreKnown cells (given_parts r)) e result_known)

  results_tell : (n : ℕ) → results_of (add_checks q) n ≡ Some cell.Ptr → cells.has_blocks ≡ true
  results_tell n e = by (q.functions n) refl e where
    by : (o : Option (Function Cores)) → q.functions n ≡ o → result_of (option_map function_of o) ≡ Some cell.Ptr → cells.has_blocks ≡ true
    by (Some g) is e = result_blocks n g is e
    by None is e = absurd (none-some cell.Ptr e)

  -- ---- the setting

  module _ (m : sense.World) where
    pub in_setting : (n : ℕ) (g : Function Cores) (is : q.functions n ≡ Some g) (name : Place → List ℕ) (model : m.long_bits ≡ long_bits q.facts.model)
        → InSetting m q.facts (shape_in (function_of g) (body_written (results_of (add_checks q)) name (function_of g).body)) cells
    in_setting n g is name model = record {
      model = model;
      plain_globals = λ none x v found. all_plain q.facts cells q.facts.globals known.globals none x v found;
      plain_locals = λ none x v found. all_plain q.facts cells g.variables (variables_known n g is) none x v found;
      no_kinds = known.no_kinds;
      integer_globals = λ none x v found. no_pointers q.facts cells q.facts.globals known.globals none x v found;
      integer_locals = λ none x v found. no_pointers q.facts cells g.variables (variables_known n g is) none x v found;
      integer_temporaries = λ none i less. temporary none i (steps_kind (results_of (add_checks q)) (body n g is) i) refl;
      integer_result = λ none k e. no_pointer_cell k (λ ptr. false≢true (sym none ∙ result_blocks n g is (e ∙ ap Some ptr)));
    } where
      temporary : cells.has_blocks ≡ false → (i : ℕ) (o : Option CellKind) → steps_kind (results_of (add_checks q)) (body n g is) i ≡ o → is_pointer_cell (or_int o) ≡ false
      temporary none i None e = refl
      temporary none i (Some k) e = no_pointer_cell k (λ ptr. false≢true (sym none
          ∙ steps_tell q.facts cells g.variables (results_of (add_checks q)) results_tell (d n g is) (body n g is) (body_known n g is) i (e ∙ ap Some ptr)))

-- ---- programs

module _ (setting : Setting) (q : Program Cores) (cells : FileCells) (texts : Texts) (ds : List Definition) (types : ℕ → CoreType) (name : ℕ → Place → List ℕ)
    (h : IsTested setting q cells texts ds types name) where
  abbrev m : sense.World
  m = world_of setting

  abbrev written : ℕ → Written
  written = all_written (add_checks q) name

  given : ResultsAreKnown q cells texts ds types
  given n g is = result_known cells q h.known n g is

  module _ (n : ℕ) (g : Function Cores) (is : q.functions n ≡ Some g) where
    written_is : body_written (results_of (add_checks q)) (name n) (function_of g).body ≡ written n
    written_is = sym (ap (λ o. body_written (results_of (add_checks q)) (name n) (body_of (option_map function_of o))) is)

    stands_in : InSetting m q.facts (shape_in (function_of g) (written n)) cells
    stands_in =
        subst (λ w. InSetting m q.facts (shape_in (function_of g) w) cells) written_is
        (in_setting cells q h.known m n g is (name n) h.model)

    ready : IsReady m q cells texts n g (written n) (h.known.declared n g is)
    ready =
        is_ready m q cells texts ds types h.passes given n g (h.known.declared n g is) is (h.known.functions n g is) name (h.texts_fit n g is)

    fit : FunctionIsFit m q cells texts n g (written n)
    fit =
        typed_functions_fit m q cells texts n g (written n) (h.known.declared n g is) h.typed.has_blocks h.typed.has_kind (h.typed.functions n g is)
        (h.order n (function_of g) (ap (option_map function_of) is)) ready

    function_in : FunctionIn setting (add_checks q) cells texts n (function_of g) (written n)
    function_in = record {
      in_setting = stands_in;
      fits = fit.fits;
      starts = fit.starts;
      names = h.names n g is;
      differ = h.differ n g is;
    }

  fits : FitsProgram (add_checks q)
  fits = typed_programs_fit q h.typed h.order

pub tested_programs_fit : TestedProgramsFit
tested_programs_fit setting q cells texts ds types name h = record {
  typed = fits setting q cells texts ds types name h;
  sets = sets_fit q cells texts ds types h.passes (fits setting q cells texts ds types name h);
  functions = λ n f e.
      let g = checked_from (q.functions n) f e in
      subst (λ f. FunctionIn setting (add_checks q) cells texts n f (all_written (add_checks q) name n)) g.2 (function_in setting q cells texts ds types name h n g.0 g.1);
}
