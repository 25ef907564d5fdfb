-- How expressions and annotations of a function read the leaves of its slots.
use Rattle.std.specs.Prelude.{ℕ, Bool, true, false, if◌then◌else◌, ℤ, pos, negsuc, Option, Some, None, slice_get}
use Rattle.wp_base.specs.declared.kinds.CellKind.{CellKind}
use Rattle.wp_base.specs.declared.kinds.CellKind.TheVariants as cell
use Rattle.typed_prog.specs.declared.operators.Variable.{Variable}
use Rattle.typed_prog.specs.declared.operators.Variable.TheVariants as variables
use Rattle.acsl_trees.specs.Tree as acsl
use Rattle.qed_terms.specs.Tree.{Tree, num}
use Rattle.c_runs.specs.Program as program
use Rattle.c_runs.specs.Program.{Facts}
use Rattle.c_runs.specs.States.{hidden, global_home}
use Rattle.c_runs.specs.Claims.{struct_cells}
use Rattle.value_terms.specs.Readings.{Term, as_number, as_pointer, Reading}
use Rattle.acsl_encode.specs.Readings as annotation
use Rattle.acsl_encode.specs.Readings.{Slot, whole, any_integer, pointer, home, absent, Pointer, at, Seen, Called, Common, Terms, integer, address, nothing}
use Rattle.acsl_encode.specs.Binders.{Spelled, numbered}
use Rattle.memory_words.specs.Places.{Place, value, offset, flag, result, result_offset, temporary, temporary_offset, numbers, blocks, offsets}
use Rattle.memory_words.specs.Leaves as leaves
use Rattle.memory_words.specs.Leaves.{table_leaf}
use Rattle.memory_words.specs.Shapes.{FileCells, Shape, sizes, kind_of}

-- what isn't known of a program without its texts: the names of the binders of each annotation, and how logic functions are called
pub record Texts : Type 0 where
  pub binders : acsl.Tree → Spelled
  pub called : (number : ℕ) → Option Called

-- which variables of a function are in scope
abbrev pub InScope : Type 0
InScope = ℕ → Bool

-- Where an annotation stands: the level of the state in force and the variables in scope there; that of the function's entry, and its parameters; and that of
-- the innermost loop's entry, or none. The present state has level 0, and those that were remembered 1, 2, .., the last one first.
pub record Standpoint : Type 0 where
  pub here : ℕ
  pub in_scope : InScope
  pub entry : ℕ
  pub is_param : InScope
  pub loop_entry : Option ℕ
  pub loop_scope : InScope

-- ---- two leaves of a kind

abbrev pub term_of_kind : CellKind → (first second : Tree) → Term
term_of_kind (cell.Of k) t u = as_number t
term_of_kind cell.Ptr t u = as_pointer t u

abbrev pub slot_of_kind : CellKind → (first second : Tree) → Slot
slot_of_kind (cell.Of k) t u = whole k t
slot_of_kind cell.Ptr t u = pointer t u

-- an integer of any size until a value is set
abbrev pub slot_of_any : CellKind → (first second : Tree) → Slot
slot_of_any (cell.Of k) t u = any_integer t
slot_of_any cell.Ptr t u = pointer t u

abbrev pub terms_of_kind : Option CellKind → (first second : Tree) → Terms
terms_of_kind None t u = nothing
terms_of_kind (Some (cell.Of k)) t u = integer (Some k) t
terms_of_kind (Some cell.Ptr) t u = address t u

module _ (p : Facts) (s : Shape) (cells : FileCells) where
  abbrev pub leaf : (level : ℕ) → Place → Tree
  leaf l a = leaves.leaf (sizes p s) l a

  abbrev pub memory_leaf : (level : ℕ) → Place → Tree
  memory_leaf l a = leaves.memory_leaf (sizes p s) l a

  -- ---- expressions, in the state of a level

  abbrev pub variable_term : (level : ℕ) → Variable → Option program.Variable → Term
  variable_term l x (Some v) = term_of_kind (kind_of v) (leaf l (value x)) (leaf l (offset x))
  variable_term l x None = as_number (num (pos 0))

  abbrev pub reading_at : (level : ℕ) → Reading
  reading_at l = record {
    locals = λ x. variable_term l (variables.Local x) (slice_get s.variables x);
    globals = λ x. variable_term l (variables.Global x) (slice_get p.globals x);
    temporaries = λ n. term_of_kind (s.temp_kind n) (leaf l (temporary n)) (leaf l (temporary_offset n));
    flags = λ x. leaf l (flag (variables.Local x));
    homes = λ x. leaf l (value (variables.Local x));
    table = table_leaf l;
    numbers = λ k. memory_leaf l (numbers k);
    blocks = memory_leaf l blocks;
    offsets = memory_leaf l offsets;
  }

  abbrev pub reading : Reading
  reading = reading_at 0

  -- ---- annotations: variables of the file in the state of one level, and those of the function in that of another one

  abbrev pub global_slot : (level x : ℕ) → Option program.Variable → Slot
  global_slot l x (Some v) =
      if v.is_plain then slot_of_kind (kind_of v) (leaf l (value (variables.Global x))) (leaf l (offset (variables.Global x)))
      else home (num (global_home p x))
  global_slot l x None = absent

  -- in the body, a variable in scope
  abbrev pub local_slot : (level x : ℕ) → Option program.Variable → Slot
  local_slot l x (Some v) =
      if v.is_plain then (if v.has_value then slot_of_kind (kind_of v) (leaf l (value (variables.Local x))) (leaf l (offset (variables.Local x)))
      else slot_of_any (kind_of v) (leaf l (value (variables.Local x))) (leaf l (offset (variables.Local x))))
      else home (leaf l (value (variables.Local x)))
  local_slot l x None = absent

  -- in a contract, which knows a parameter's value at entry and no address of it
  abbrev pub param_slot : (level x : ℕ) → Option program.Variable → Slot
  param_slot l x (Some v) = slot_of_kind (kind_of v) (leaf l (value (variables.Local x))) (leaf l (offset (variables.Local x)))
  param_slot l x None = absent

  abbrev pub body_slot : (level : ℕ) → InScope → Variable → Slot
  body_slot l i (variables.Global x) = global_slot l x (slice_get p.globals x)
  body_slot l i (variables.Local x) = if i x then local_slot l x (slice_get s.variables x) else absent

  abbrev pub contract_slot : (of_file of_params : ℕ) → (is_param : InScope) → Variable → Slot
  contract_slot g l i (variables.Global x) = global_slot g x (slice_get p.globals x)
  contract_slot g l i (variables.Local x) = if i x then param_slot l x (slice_get s.variables x) else absent

  abbrev pub if_there : {X : Type 0} → Bool → X → Option X
  if_there true x = Some x
  if_there false x = None

  -- the table and the memories of a level, and these variables
  abbrev pub seen_by : (level : ℕ) → (Variable → Slot) → Seen
  seen_by l f = record {
    variable = f;
    table = if_there cells.has_blocks (table_leaf l);
    numbers = λ k. if_there (cells.has_kind (cell.Of k)) (memory_leaf l (numbers k));
    pointers = if_there (cells.has_kind cell.Ptr) (at (memory_leaf l blocks) (memory_leaf l offsets));
  }

  abbrev pub seen_in_body : (level : ℕ) → InScope → Seen
  seen_in_body l i = seen_by l (body_slot l i)

  abbrev pub seen_by_contract : (of_file of_params : ℕ) → (is_param : InScope) → Seen
  seen_by_contract g l i = seen_by g (contract_slot g l i)

  -- ---- what is the same in all states

  abbrev pub home_if : Option program.Variable → ℤ → Option ℤ
  home_if (Some v) b = if v.is_plain then None else Some b
  home_if None b = None

  abbrev pub hidden_if : Option program.Variable → (home else_this : ℤ) → ℤ
  hidden_if (Some v) b c = if v.is_plain then b else c
  hidden_if None b c = c

  -- the block that stands for a variable which no pointer leads to; what stands for another one isn't asked
  abbrev pub hidden_block : Variable → ℤ
  hidden_block (variables.Global x) = hidden_if (slice_get p.globals x) (global_home p x) (negsuc x)
  hidden_block (variables.Local x) = hidden p x

  module _ (texts : Texts) where
    abbrev pub common_of : acsl.Tree → Common
    common_of a = record {
      model = p.model;
      structs = struct_cells p;
      hidden = hidden_block;
      homes = λ n. home_if (slice_get p.globals n) (global_home p n);
      binder = numbered (texts.binders a);
    }

    abbrev pub seen_at_loop : Standpoint → Option ℕ → Seen
    seen_at_loop st (Some l) = seen_in_body l st.loop_scope
    seen_at_loop st None = seen_by_contract st.entry st.entry st.is_param

    abbrev pub body_reading : Standpoint → acsl.Tree → annotation.Reading
    body_reading st a = record {
      here = seen_in_body st.here st.in_scope;
      pre = seen_by_contract st.entry st.entry st.is_param;
      post = seen_in_body st.here st.in_scope;
      loop_entry = seen_at_loop st st.loop_entry;
      result = nothing;
      common = common_of a;
      called = texts.called;
    }

    -- where a function is entered, in the state of this level
    abbrev pub entry_reading : (level : ℕ) → (is_param : InScope) → acsl.Tree → annotation.Reading
    entry_reading e i a = record {
      here = seen_by_contract e e i;
      pre = seen_by_contract e e i;
      post = seen_by_contract e e i;
      loop_entry = seen_by_contract e e i;
      result = nothing;
      common = common_of a;
      called = texts.called;
    }

    -- where it returns, in the present state: parameters have their values at entry
    abbrev pub return_reading : (entry : ℕ) → (is_param : InScope) → acsl.Tree → annotation.Reading
    return_reading e i a = record {
      here = seen_by_contract 0 e i;
      pre = seen_by_contract e e i;
      post = seen_by_contract 0 e i;
      loop_entry = seen_by_contract e e i;
      result = terms_of_kind s.result (leaf 0 result) (leaf 0 result_offset);
      common = common_of a;
      called = texts.called;
    }
