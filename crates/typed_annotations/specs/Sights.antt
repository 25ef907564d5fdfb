-- What the readings of a function with memory give, told by the variables of the file and of the function alone (ACSL 2.3.1, 2.4.3).
use Rattle.std.specs.Prelude.{nat_lt, Bool, true, false, ◌&&◌, if◌then◌else◌, List, Option, Some, None, slice_get}
use Rattle.wp_base.specs.declared.kinds.CellKind.{CellKind}
use Rattle.wp_base.specs.declared.kinds.CellKind.TheVariants as cell
use Rattle.typed_prog.specs.declared.operators.Variable as code
use Rattle.typed_prog.specs.declared.operators.Variable.TheVariants as variables
use Rattle.c_runs.specs.Program.{Variable, Function, Facts}
use Rattle.c_runs.specs.Tree.{Steps}
use Rattle.c_runs.specs.Claims.{struct_cells}
use Rattle.c_runs.specs.Objects.{is_plain_in}
use Rattle.acsl_well_typed.specs.WellTyped.{What, an_integer, a_pointer}
use Rattle.annotations_encoded.specs.Sights.{Site, holds_integer, holds_pointer, has_block, unknown, Sight, Sights}
use Rattle.memory_words.specs.Shapes.{FileCells, kind_of}
use Rattle.memory_words.specs.Readings.{InScope, Texts}

-- ---- variables

abbrev pub kind_site : CellKind → Site
kind_site (cell.Of k) = holds_integer (Some k)
kind_site cell.Ptr = holds_pointer

-- an integer of any size until a value is set
abbrev pub any_site : CellKind → Site
any_site (cell.Of k) = holds_integer None
any_site cell.Ptr = holds_pointer

abbrev pub file_site : Option Variable → Site
file_site (Some v) = if v.is_plain then kind_site (kind_of v) else has_block
file_site None = unknown

abbrev pub local_site : Option Variable → Site
local_site (Some v) = if v.is_plain then (if v.has_value then kind_site (kind_of v) else any_site (kind_of v)) else has_block
local_site None = unknown

-- a contract knows no address of a parameter
abbrev pub param_site : Option Variable → Site
param_site (Some v) = kind_site (kind_of v)
param_site None = unknown

-- the function has these variables, of which some are in scope, or are parameters
module _ (p : Facts) (vs : List Variable) where
  abbrev pub body_site : InScope → code.Variable → Site
  body_site i (variables.Global x) = file_site (slice_get p.globals x)
  body_site i (variables.Local x) = if i x then local_site (slice_get vs x) else unknown

  abbrev pub contract_site : InScope → code.Variable → Site
  contract_site i (variables.Global x) = file_site (slice_get p.globals x)
  contract_site i (variables.Local x) = if i x then param_site (slice_get vs x) else unknown

  -- the variables that no pointer leads to, of the file and of these: a set of regions may name them
  abbrev pub may_name : InScope → code.Variable → Bool
  may_name i (variables.Global x) = is_plain_in (slice_get p.globals x)
  may_name i (variables.Local x) = i x && is_plain_in (slice_get vs x)

-- the first variables of a function are its parameters
abbrev pub params_of : Function Steps → InScope
params_of f x = nat_lt x f.params

-- a contract's set names no variable of the function
abbrev pub of_file : Facts → code.Variable → Bool
of_file p (variables.Global x) = is_plain_in (slice_get p.globals x)
of_file p (variables.Local x) = false

-- ---- states and readings

abbrev pub sight_by : FileCells → (code.Variable → Site) → Sight
sight_by cells f = record { site = f; has_table = cells.has_blocks; has_kind = cells.has_kind }

abbrev pub result_given : Option CellKind → Option What
result_given None = None
result_given (Some (cell.Of k)) = Some an_integer
result_given (Some cell.Ptr) = Some a_pointer

module _ (p : Facts) (cells : FileCells) (texts : Texts) where
  -- `Post` is the state in force
  abbrev pub sights : (here entry loop_entry : Sight) → Option What → Sights
  sights h e l o = record {
    here = h;
    pre = e;
    post = h;
    loop_entry = l;
    result = o;
    model = p.model;
    structs = struct_cells p;
    called = texts.called;
  }

  module _ (vs : List Variable) where
    abbrev pub in_body : InScope → Sight
    in_body i = sight_by cells (body_site p vs i)

    abbrev pub in_contract : InScope → Sight
    in_contract i = sight_by cells (contract_site p vs i)

    abbrev pub at_loop : (in_loop : Bool) → (loop_scope is_param : InScope) → Sight
    at_loop true l i = in_body l
    at_loop false l i = in_contract i

    -- in the body, inside of a loop or not
    abbrev pub body_sights : (in_scope is_param loop_scope : InScope) → (in_loop : Bool) → Sights
    body_sights i ps l b = sights (in_body i) (in_contract ps) (at_loop b l ps) None

    -- where the function is entered, and where it returns
    abbrev pub entry_sights : (is_param : InScope) → Sights
    entry_sights ps = sights (in_contract ps) (in_contract ps) (in_contract ps) None

    abbrev pub return_sights : (is_param : InScope) → Option CellKind → Sights
    return_sights ps o = sights (in_contract ps) (in_contract ps) (in_contract ps) (result_given o)
