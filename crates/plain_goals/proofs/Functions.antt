-- A function whose annotations pass the tests, whose statements stand and whose names are fit is one of which goals are made.
use Rattle.std.proofs.Common.{◌≡◌, ℕ, true, ◌&&◌, []}
use Rattle.std.specs.Prelude.{Some}
use Rattle.std.proofs.lemmas.Bool.{and_parts}
use Rattle.c_kinds.specs.Models.{long_bits}
use Rattle.qed_terms.specs.Setting.{Setting, world_of}
use Rattle.c_runs.specs.Program.{Function, Program}
use Rattle.c_runs.specs.Tree.{Steps}
use Rattle.plain_runs.specs.Fitting.{is_param, FitsProgram}
use Rattle.program_steps.specs.Temporaries.{no_temporaries}
use Rattle.program_steps.specs.Terms.{Texts}
use Rattle.program_steps.specs.Placed.{InSetting}
use Rattle.plain_annotations.specs.Clauses.{is_contract}
use Rattle.plain_annotations.specs.Places.{TextsFit}
use Rattle.slot_names.specs.Laws.{Fit}
use Rattle.program_goals.specs.Words.{Written, shape_in}
use Rattle.program_goals.specs.Programs.{FunctionIn}
use Rattle.plain_words.specs.Standing.{AllStand}
use Rattle.plain_annotations.specs.Annotated.{own_shape, all_claim, sets_of_file, is_annotated}
use Rattle.plain_annotations.proofs.Clauses.{contracts_fit}
use Rattle.plain_goals.proofs.Statements.{all_fit}

module _ (setting : Setting) (q : Program Steps) (texts : Texts) (fits : FitsProgram q) (model : (world_of setting).long_bits ≡ long_bits q.facts.model)
    (annotated : (n : ℕ) (f : Function Steps) → q.functions n ≡ Some f → is_annotated q.facts texts f ≡ true) where
  contracts : (n : ℕ) (g : Function Steps) → q.functions n ≡ Some g → (is_contract q.facts texts (own_shape g) g.contract ≡ true) × (sets_of_file q.facts g.contract ≡ true)
  contracts n g e =
      let x = and_parts (is_contract q.facts texts (own_shape g) g.contract) (sets_of_file q.facts g.contract && all_claim q.facts texts (own_shape g) g.body) (annotated n g e) in
      let y = and_parts (sets_of_file q.facts g.contract) (all_claim q.facts texts (own_shape g) g.body) x.1 in
      (x.0, y.0)

  claims : (n : ℕ) (g : Function Steps) → q.functions n ≡ Some g → all_claim q.facts texts (own_shape g) g.body ≡ true
  claims n g e =
      let x = and_parts (is_contract q.facts texts (own_shape g) g.contract) (sets_of_file q.facts g.contract && all_claim q.facts texts (own_shape g) g.body) (annotated n g e) in
      (and_parts (sets_of_file q.facts g.contract) (all_claim q.facts texts (own_shape g) g.body) x.1).1

  pub function_in : (n : ℕ) (f : Function Steps) → q.functions n ≡ Some f → (w : Written) → TextsFit (world_of setting) q.facts (shape_in f w) texts
      → AllStand q.facts (shape_in f w) q.functions (is_param f.params) [] no_temporaries f.body → Fit w.bases q.facts.globals f.variables f.params w.temporaries
      → FunctionIn setting q texts n f w
  function_in n f e w named stands bases =
      let here : InSetting (world_of setting) q.facts (shape_in f w) = record { model = model; globals = fits.globals; integers = (fits.functions n f e).integers } in
      let c = contracts_fit (world_of setting) q.facts (shape_in f w) texts here named f.contract (contracts n f e).0 in
      record {
        fits = record {
          assumes = c.assumes;
          plain = c.plain;
          behaviors = c.behaviors;
          body = all_fit (world_of setting) q texts contracts n f w here named (contracts n f e).0 (is_param f.params) [] no_temporaries f.body stands (claims n f e);
        };
        starts = c.starts;
        size = bases.size;
        bases = bases.bases;
        own = bases.differ;
      }
