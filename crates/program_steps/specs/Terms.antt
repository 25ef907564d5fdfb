-- Terms and formulas of a function over plain integers, over the leaves of its slots.
use Rattle.std.specs.Prelude.{ℕ, zero, suc, ◌+◌, ◌==◌, Bool, true, false, ◌||◌, if◌then◌else◌, ℤ, pos, negsuc, List, [], ◌∷◌, ◌++◌, map, Option, Some, None, slice_get}
use Rattle.std.specs.List.{list_any}
use Rattle.typed_prog.specs.Tree as t
use Rattle.typed_prog.specs.declared.operators.Variable.{Variable}
use Rattle.typed_prog.specs.declared.operators.Variable.TheVariants as variables
use Rattle.acsl_trees.specs.Tree as acsl
use Rattle.acsl_trees.specs.declared.heads.Head.TheVariants as head
use Rattle.qed_terms.specs.declared.head.Sort.TheVariants as sort
use Rattle.qed_terms.specs.declared.head.Head.TheVariants as h
use Rattle.qed_terms.specs.Tree.{Tree, node, stop, num, false_tree, imp_of}
use Rattle.c_runs.specs.Program.{Behavior, Facts}
use Rattle.c_runs.specs.Program as program
use Rattle.c_runs.specs.States.{hidden, global_home}
use Rattle.c_runs.specs.Claims.{struct_cells}
use Rattle.plain_states.specs.Slots.{value_slot, local_value, local_flag, result_slot, temp_slot}
use Rattle.plain_states.specs.Scopes.{kind_of}
use Rattle.goal_segments.specs.Told.{Shape, sizes}
use Rattle.value_terms.specs.Readings.{Reading, as_number}
use Rattle.acsl_encode.specs.Readings as annotation
use Rattle.acsl_encode.specs.Readings.{Slot, whole, any_integer, absent, Seen, Called, Common, integer, nothing}
use Rattle.acsl_encode.specs.Binders.{Spelled, numbered}
use Rattle.acsl_encode.specs.Encode.{formula_of, all_of}
use Rattle.program_steps.specs.Leaves.{leaf}
use Rattle.wp_base.specs.declared.kinds.CellKind.{CellKind}
use Rattle.wp_base.specs.declared.kinds.CellKind.TheVariants as cell
use Rattle.wp_base.specs.declared.kinds.Kind.{Kind}

-- what isn't known of a program without its texts: the names of the binders of each annotation, and how logic functions are called
pub record Texts : Type 0 where
  pub binders : acsl.Tree → Spelled
  pub called : (number : ℕ) → Option Called

-- the kind of the integers that a function gives
abbrev pub kind_given : Option CellKind → Option Kind
kind_given (Some (cell.Of k)) = Some k
kind_given (Some cell.Ptr) = None
kind_given None = None

-- a variable that holds this; one that is declared without a value may hold any integer until it is set
abbrev pub held_in : program.Variable → Tree → Slot
held_in v t = if v.has_value then whole (kind_of v) t else any_integer t

-- in the places of what no expression reads
abbrev pub unused : Tree
unused = num (pos 0)

abbrev pub unused_table : Tree
unused_table = node (h.Var (97 ∷ []) sort.Table) stop

abbrev pub unused_memory : Tree
unused_memory = node (h.Var (97 ∷ []) sort.Memory) stop

-- a measure without a term counts as 0
abbrev pub or_zero : Option Tree → Tree
or_zero (Some t) = t
or_zero None = num (pos 0)

module _ (p : Facts) (s : Shape) where
  -- ---- expressions, in the present state

  abbrev pub reading : Reading
  reading = record {
    locals = λ x. as_number (leaf 0 (local_value (sizes p s) x));
    globals = λ x. as_number (leaf 0 (value_slot x));
    temporaries = λ n. as_number (leaf 0 (temp_slot (sizes p s) n));
    flags = λ x. leaf 0 (local_flag (sizes p s) x);
    homes = λ x. unused;
    table = unused_table;
    numbers = λ k. unused_memory;
    blocks = unused_memory;
    offsets = unused_memory;
  }

  -- ---- annotations

  -- a variable of the file in the state of one level, and one of the function in that of another one
  abbrev pub global_slot : (level x : ℕ) → Option program.Variable → Slot
  global_slot l x (Some v) = whole (kind_of v) (leaf l (value_slot x))
  global_slot l x None = absent

  abbrev pub local_slot : (level x : ℕ) → Option program.Variable → Slot
  local_slot l x (Some v) = held_in v (leaf l (local_value (sizes p s) x))
  local_slot l x None = absent

  abbrev pub slot_of : (of_file of_function : ℕ) → Variable → Slot
  slot_of g l (variables.Global x) = global_slot g x (slice_get p.globals x)
  slot_of g l (variables.Local x) = local_slot l x (slice_get s.variables x)

  abbrev pub seen_at : (of_file of_function : ℕ) → Seen
  seen_at g l = record { variable = slot_of g l; table = None; numbers = λ k. None; pointers = None }

  abbrev pub hidden_block : Variable → ℤ
  hidden_block (variables.Global x) = negsuc x
  hidden_block (variables.Local x) = hidden p x

  module _ (texts : Texts) where
    abbrev pub common_of : acsl.Tree → Common
    common_of a = record {
      model = p.model;
      structs = struct_cells p;
      hidden = hidden_block;
      homes = λ n. None;
      binder = numbered (texts.binders a);
    }

    -- in the body of a function, by the levels of the state in force, of the function's entry and of that of the innermost loop
    abbrev pub body_reading : (here entry loop_entry : ℕ) → acsl.Tree → annotation.Reading
    body_reading h e g a = record {
      here = seen_at h h;
      pre = seen_at e e;
      post = seen_at h h;
      loop_entry = seen_at g g;
      result = nothing;
      common = common_of a;
      called = texts.called;
    }

    -- in one state alone
    abbrev pub entry_reading : (level : ℕ) → acsl.Tree → annotation.Reading
    entry_reading e a = body_reading e e e a

    -- where the function returns: parameters have their values at entry, and its result has its kind
    abbrev pub return_reading : (entry : ℕ) → acsl.Tree → annotation.Reading
    return_reading e a = record {
      here = seen_at 0 e;
      pre = seen_at e e;
      post = seen_at 0 e;
      loop_entry = seen_at e e;
      result = integer (kind_given s.result) (leaf 0 (result_slot (sizes p s)));
      common = common_of a;
      called = texts.called;
    }

    -- an annotation without a formula counts as `false`
    abbrev pub or_none : Option Tree → Tree
    or_none (Some f) = f
    or_none None = false_tree

    abbrev pub claim_tree : (acsl.Tree → annotation.Reading) → acsl.Tree → Tree
    claim_tree r a = or_none (formula_of (r a) a)

    -- what a behavior assumes
    abbrev pub assumed_tree : (acsl.Tree → annotation.Reading) → List acsl.Tree → Tree
    assumed_tree r as_ = all_of (map (claim_tree r) as_)

-- ---- sets of plain variables

abbrev pub same_variable : Variable → Variable → Bool
same_variable (variables.Global x) (variables.Global y) = x == y
same_variable (variables.Local x) (variables.Local y) = x == y
same_variable x y = false

-- a region that is a variable
abbrev pub is_region_of : Variable → acsl.Tree → Bool
is_region_of x (acsl.node (head.Region c) (acsl.more (acsl.node (head.Variable y) acsl.stop) acsl.stop)) = same_variable x y
is_region_of x _ = false

abbrev pub has_variable : List acsl.Tree → Variable → Bool
has_variable as_ x = list_any (is_region_of x) as_
