-- Operands one after the other, as those of a call, and the way to an object that is written: what is so of expressions, said of these.
use Rattle.std.specs.Prelude.{◌≡◌, ℕ, Bool, true, List, [], ◌++◌, slice_get}
use Rattle.std.specs.List.{list_all}
use Rattle.wp_base.specs.declared.kinds.CellKind.{CellKind}
use Rattle.wp_base.specs.Blocks.{is_cell}
use Rattle.typed_prog.specs.declared.types.CoreType.{CoreType}
use Rattle.typed_prog.specs.declared.operators.Path.{Path}
use Rattle.typed_prog.specs.Tree as t
use Rattle.qed_terms.specs.declared.head.Head.TheVariants as h
use Rattle.qed_terms.specs.declared.head.FormOp.TheVariants as form
use Rattle.qed_terms.specs.Meaning as m
use Rattle.qed_terms.specs.Tree.{Tree, node, three}
use Rattle.qed_terms.specs.WellFormed.{fits, formula}
use Rattle.c_runs.specs.TruthStates.{Value, block_of, offset_of}
use Rattle.c_runs.specs.Truth.{value_at}
use Rattle.c_runs.specs.Program.{Facts, Variable}
use Rattle.c_runs.specs.States.{World}
use Rattle.c_runs.specs.Operators.{index, access}
use Rattle.c_runs.specs.Objects.{cell_of, address, is_pointed, may_write}
use Rattle.c_runs.specs.Values.{Temps}
use Rattle.c_runs.specs.Checks.{Check, here, one_if, index_checks, all_checks}
use Rattle.c_runs.specs.Tests.{totals, step_test, holds_in}
use Rattle.value_terms.specs.Readings as readings
use Rattle.value_terms.specs.Readings.{Term, block_term, offset_term, term_at, Reading, term_fits}
use Rattle.value_terms.specs.Terms.{address_term, terms_of}
use Rattle.value_terms.specs.Words.{Item, formula_of, checks_in, asked_if, index_items, words}
use Rattle.value_terms.specs.Typed.{Scope, operand_kind, ObjectIsTyped, AreTyped}
use Rattle.value_terms.specs.Worlds.{IsOf, Means}
use Rattle.value_terms.specs.Laws.{Stood, Says}

-- ---- operands

abbrev pub is_met_among : Facts → List Variable → Temps → World → t.Values → Check → Bool
is_met_among p xs tm w es c = holds_in p xs tm w es c.way c.kind c.step

abbrev pub all_met_among : Facts → List Variable → Temps → World → t.Values → Bool
all_met_among p xs tm w es = list_all (is_met_among p xs tm w es) (all_checks xs es)

pub record AreMeant (mw : m.World) (env : m.Values) (r : Reading) (p : Facts) (xs : List Variable) (tm : Temps) (w : World) (es : t.Values) : Type 0 where
  pub kinds : all_met_among p xs tm w es ≡ true → (i : ℕ) → IsOf p w (operand_kind es i) (value_at (totals p xs tm w es) i)
  pub terms : all_met_among p xs tm w es ≡ true → (i : ℕ) → Means mw env (term_at (terms_of p xs r es) i) (value_at (totals p xs tm w es) i)
  pub word : Says (m.truth mw env) (is_met_among p xs tm w es) (words p xs r es)
  pub checks : checks_in (words p xs r es) ≡ all_checks xs es

abbrev pub OperandsAreMeant : Type 0
OperandsAreMeant =
    (mw : m.World) (env : m.Values) (r : Reading) (p : Facts) (xs : List Variable) (s : Scope) (tm : Temps) (w : World) → Stood mw env r p xs s tm w
    → (es : t.Values) → AreTyped p xs s es → AreMeant mw env r p xs tm w es

-- ---- the way to an object that is written, whose operands have these terms

module _ (p : Facts) (r : Reading) where
  -- the cell exists, and may be written
  abbrev pub write_term : CellKind → Term → Tree
  write_term k a = node (h.Form (form.Write k)) (three r.table (block_term a) (offset_term a))

  -- the index of each declared array, and then the access
  abbrev pub way_items : CoreType → Path → List Term → List Item
  way_items type path ts =
      index_items p r ts 0 path.steps ++ asked_if (is_pointed path.root) access path.line (write_term (cell_of type) (address_term p r path ts))

-- what the checks of the way say, where its operands have these values
pub record TestsWay (met : Check → Bool) (p : Facts) (w : World) (type : CoreType) (path : Path) (vs : List Value) : Type 0 where
  pub index : (line n : ℕ) → met (record { kind = index; line = line; step = n; way = [] }) ≡ step_test vs (slice_get path.steps n)
  pub access : met (here access path.line) ≡ may_write w.memory (cell_of type) path.root (address p w path vs)

pub record WayIsMeant (mw : m.World) (env : m.Values) (r : Reading) (p : Facts) (w : World) (type : CoreType) (path : Path) (ts : List Term) (vs : List Value)
    (met : Check → Bool) : Type 0 where
  pub target : Means mw env (address_term p r path ts) (address p w path vs)
  pub items : Says (m.truth mw env) met (way_items p r type path ts)
  pub checks : checks_in (way_items p r type path ts) ≡ index_checks 0 path.steps ++ one_if (is_pointed path.root) access path.line
  -- what the way leads to is a cell of the kind
  pub cell : list_all met (checks_in (way_items p r type path ts)) ≡ true
      → is_cell (cell_of type) w.memory.blocks (block_of (address p w path vs)) (offset_of (address p w path vs)) ≡ true

-- Of operands whose terms mean their values.
abbrev pub WaysAreMeant : Type 0
WaysAreMeant =
    (mw : m.World) (env : m.Values) (r : Reading) (p : Facts) (xs : List Variable) (s : Scope) (tm : Temps) (w : World) → Stood mw env r p xs s tm w
    → (ts : List Term) (vs : List Value) → ((i : ℕ) → Means mw env (term_at ts i) (value_at vs i))
    → (type : CoreType) (path : Path) → s.has_blocks ≡ true → ObjectIsTyped p xs s path.root path.steps (cell_of type)
    → (met : Check → Bool) → TestsWay met p w type path vs → WayIsMeant mw env r p w type path ts vs met

-- ---- well formed

pub record AreWellFormed (p : Facts) (xs : List Variable) (r : Reading) (es : t.Values) : Type 0 where
  pub terms : (i : ℕ) → term_fits (term_at (terms_of p xs r es) i) ≡ true
  pub word : list_all (λ i. fits formula (formula_of i)) (words p xs r es) ≡ true
  pub address : (path : Path) → term_fits (address_term p r path (terms_of p xs r es)) ≡ true
  pub way : (type : CoreType) (path : Path) → list_all (λ i. fits formula (formula_of i)) (way_items p r type path (terms_of p xs r es)) ≡ true

abbrev pub OperandsAreWellFormed : Type 0
OperandsAreWellFormed = (p : Facts) (xs : List Variable) (r : Reading) → readings.IsWellFormed r → (es : t.Values) → AreWellFormed p xs r es
