-- What expressions and operands give, and what is asked before.
use Rattle.std.specs.Prelude.{◌≡◌, ℕ, Bool, true, List, ◌∷◌, ◌++◌}
use Rattle.std.specs.List.{list_all}
use Rattle.wp_base.specs.declared.kinds.CellKind.{CellKind}
use Rattle.wp_base.specs.declared.kinds.CellKind.TheVariants as cell
use Rattle.wp_base.specs.Blocks.{count, is_cell}
use Rattle.typed_prog.specs.declared.types.CoreType.{CoreType}
use Rattle.typed_prog.specs.declared.operators.Path.{Path}
use Rattle.typed_prog.specs.Tree as t
use Rattle.qed_terms.specs.Meaning as sense
use Rattle.qed_terms.specs.Meaning.{truth}
use Rattle.c_runs.specs.TruthStates.{block_of, offset_of}
use Rattle.c_runs.specs.Truth.{value_at}
use Rattle.c_runs.specs.Told.{Value}
use Rattle.c_runs.specs.Program.{Facts}
use Rattle.c_runs.specs.States.{is_nonzero}
use Rattle.c_runs.specs.Scopes.{is_content}
use Rattle.c_runs.specs.Objects.{cell_of, address, is_pointed}
use Rattle.c_runs.specs.Operators.{access}
use Rattle.c_runs.specs.CoreRun.{CoreWorld}
use Rattle.c_runs.specs.Checks.{Check, checks_of, all_checks, index_checks, one_if}
use Rattle.c_runs.specs.Tests.{total, totals, is_met}
use Rattle.value_terms.specs.Readings.{Term, condition, term_at}
use Rattle.value_terms.specs.Terms.{term_of, terms_of, address_term}
use Rattle.value_terms.specs.Words.{word_of, words, checks_in}
use Rattle.value_terms.specs.Places.{is_met_among, way_items}
use Rattle.value_terms.specs.Typed.{operand_kind}
use Rattle.value_terms.specs.Laws.{Says}
use Rattle.value_terms.specs.Worlds.{Means}
use Rattle.memory_steps.specs.State.{State}
use Rattle.memory_words.specs.Places.{Place}
use Rattle.memory_words.specs.Leaves.{leaves_of, closed}
use Rattle.memory_words.specs.Shapes.{FileCells, Shape, sizes}
use Rattle.memory_words.specs.Readings.{reading}
use Rattle.memory_words.specs.Standing.{IsHeldAs}
use Rattle.memory_words.specs.Puts.{is_spare, first_value, second_value, Gives}

module _ (m : sense.World) (p : Facts) (s : Shape) (cells : FileCells) (c : CoreWorld) (st : State) (olds : List State) where
  -- ---- expressions

  abbrev pub value_in : t.Value → Value
  value_in e = total p s.variables c.temps c.world e

  abbrev pub met_in : t.Value → Check → Bool
  met_in e = is_met p s.variables c.temps c.world e

  abbrev pub term_in : t.Value → Term
  term_in e = term_of p s.variables (reading p s cells) e

  -- where the checks are met: a value of the kind
  pub record HasValue (k : CellKind) (u : Term) (v : Value) : Type 0 where
    pub gives : (a : Place) → is_spare a ≡ true → Gives m (sizes p s) olds a k u v st
    pub fits : is_content p (count c.world.memory.blocks) k v ≡ true

  pub record Evaluates (e : t.Value) (k : CellKind) : Type 0 where
    pub says : Says (truth m (leaves_of (st ∷ olds))) (met_in e) (word_of p s.variables (reading p s cells) e)
    pub checks : checks_in (word_of p s.variables (reading p s cells) e) ≡ checks_of s.variables e
    pub value : list_all (met_in e) (checks_of s.variables e) ≡ true → HasValue k (term_in e) (value_in e)
    pub test : list_all (met_in e) (checks_of s.variables e) ≡ true
        → truth m (leaves_of (st ∷ olds)) (closed (condition (term_in e))) ≡ is_nonzero (value_in e)

  -- ---- operands

  abbrev pub values_in : t.Values → List Value
  values_in es = totals p s.variables c.temps c.world es

  abbrev pub met_among : t.Values → Check → Bool
  met_among es = is_met_among p s.variables c.temps c.world es

  abbrev pub terms_in : t.Values → List Term
  terms_in es = terms_of p s.variables (reading p s cells) es

  pub record AllEvaluate (es : t.Values) : Type 0 where
    pub says : Says (truth m (leaves_of (st ∷ olds))) (met_among es) (words p s.variables (reading p s cells) es)
    pub checks : checks_in (words p s.variables (reading p s cells) es) ≡ all_checks s.variables es
    pub values : list_all (met_among es) (all_checks s.variables es) ≡ true → (i : ℕ)
        → HasValue (operand_kind es i) (term_at (terms_in es) i) (value_at (values_in es) i)
    pub means : list_all (met_among es) (all_checks s.variables es) ≡ true → (i : ℕ)
        → Means m (leaves_of (st ∷ olds)) (term_at (terms_in es) i) (value_at (values_in es) i)

  -- ---- the way to a cell, whose operands have these terms and values

  -- it is a cell of the kind
  pub record CellIs (type : CoreType) (path : Path) (ts : List Term) (vs : List Value) : Type 0 where
    pub target : IsHeldAs cell.Ptr (address p c.world path vs) (first_value m (st ∷ olds) cell.Ptr (address_term p (reading p s cells) path ts))
        (second_value m (st ∷ olds) cell.Ptr (address_term p (reading p s cells) path ts))
    pub there : is_cell (cell_of type) c.world.memory.blocks (block_of (address p c.world path vs)) (offset_of (address p c.world path vs)) ≡ true

  pub record LeadsThere (type : CoreType) (path : Path) (ts : List Term) (vs : List Value) (met : Check → Bool) : Type 0 where
    pub says : Says (truth m (leaves_of (st ∷ olds))) met (way_items p (reading p s cells) type path ts)
    pub checks : checks_in (way_items p (reading p s cells) type path ts) ≡ index_checks 0 path.steps ++ one_if (is_pointed path.root) access path.line
    pub cell : list_all met (checks_in (way_items p (reading p s cells) type path ts)) ≡ true → CellIs type path ts vs
