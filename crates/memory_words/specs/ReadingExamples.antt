-- The readings of one function, worked out by hand: `int g; int f(int *p) { int y; int a[2]; .. }`.
use Rattle.std.specs.Prelude.{◌≡◌, ℕ, ◌==◌, ◌||◌, Bool, true, false, [], ◌∷◌, Some, None}
use Rattle.wp_base.specs.declared.kinds.Kind.TheVariants as kind
use Rattle.wp_base.specs.declared.kinds.CellKind.{CellKind}
use Rattle.wp_base.specs.declared.kinds.CellKind.TheVariants as cell
use Rattle.wp_base.specs.declared.kinds.Layout.{Layout}
use Rattle.c_kinds.specs.declared.models.Machdep.TheVariants as machdep
use Rattle.typed_prog.specs.declared.operators.Arithmetic.TheVariants as arithmetic
use Rattle.typed_prog.specs.declared.operators.Comparison.TheVariants as comparison
use Rattle.typed_prog.specs.declared.operators.Variable.TheVariants as variables
use Rattle.acsl_trees.specs.declared.heads.Content.TheVariants as content
use Rattle.acsl_trees.specs.declared.heads.Label.TheVariants as label
use Rattle.acsl_trees.specs.declared.heads.Head.TheVariants as acsl
use Rattle.acsl_trees.specs.Tree.{Tree, leaf, one, two}
use Rattle.qed_terms.specs.declared.head.Head.TheVariants as h
use Rattle.qed_terms.specs.declared.head.TermOp.TheVariants as op
use Rattle.qed_terms.specs.Tree as term
use Rattle.qed_terms.specs.Tree.{Tree as Term, var, equal}
use Rattle.c_runs.specs.Program.{Variable, Facts}
use Rattle.value_terms.specs.Readings.{as_number, as_pointer}
use Rattle.acsl_encode.specs.Readings.{any_integer, home, absent}
use Rattle.acsl_encode.specs.Encode.{op_two, formula_of}
use Rattle.memory_steps.specs.World.{memory_var}
use Rattle.memory_words.specs.Leaves.{leaf_name}
use Rattle.memory_words.specs.Shapes.{FileCells, Shape}
use Rattle.memory_words.specs.Readings.{InScope, Texts, Standpoint, reading, body_slot, body_reading, return_reading}

abbrev ints : (count : ℕ) → Layout
ints n = record { count = n; cells = cell.Of kind.Int ∷ []; writable = true }

abbrev plain_of : CellKind → (has_value : Bool) → Variable
plain_of k b = record { layout = record { count = 1; cells = k ∷ []; writable = true }; is_plain = true; has_value = b }

abbrev pub file : Facts
file = record {
  model = machdep.X86_64;
  globals = plain_of (cell.Of kind.Int) true ∷ [];
  structs = [];
  definitions = [];
  in_cluster = λ f g. false;
}

-- p, y and a have the numbers 0, 1 and 2
abbrev pub function : Shape
function = record {
  variables = plain_of cell.Ptr true ∷ plain_of (cell.Of kind.Int) false ∷ record { layout = ints 2; is_plain = false; has_value = false } ∷ [];
  temporaries = 0;
  temp_kind = λ n. cell.Ptr;
  result = Some (cell.Of kind.Int);
}

abbrev pub all_cells : FileCells
all_cells = record { has_blocks = true; has_kind = λ k. true }

abbrev pub no_texts : Texts
no_texts = record { binders = λ a. []; called = λ n. None }

-- slot i of level l
abbrev pub named : (l i : ℕ) → Term
named l i = var (leaf_name l i)

abbrev pub is_p : InScope
is_p x = x == 0

abbrev pub all_but_y : InScope
all_but_y x = x == 0 || x == 2

-- behind the entry, which was remembered
abbrev pub in_body : Standpoint
in_body = record { here = 0; in_scope = λ x. true; entry = 1; is_param = is_p; loop_entry = None; loop_scope = is_p }

abbrev read_int : Tree → Tree
read_int t = one (acsl.Read (content.Integer kind.Int) None) t

abbrev g : Tree
g = read_int (leaf (acsl.Variable (variables.Global 0)))

abbrev y : Tree
y = read_int (leaf (acsl.Variable (variables.Local 1)))

-- `*p`
abbrev at_p : Tree
at_p = read_int (one acsl.Pointed (one (acsl.Read content.Pointer None) (leaf (acsl.Variable (variables.Local 0)))))

-- what p led to at entry is loaded in the memory of `int` of this level
abbrev load_at : (l : ℕ) → Term
load_at l = term.node (h.Term op.Load) (term.three (memory_var (leaf_name l 22)) (named 1 3) (named 1 4))

pub record WorkedReadings : Type 0 where
  -- expressions: a variable of the file, the pointer, an `int`, and the flag and the block of a variable
  pub file_variable : (reading file function all_cells).globals 0 ≡ as_number (named 0 0)
  pub parameter : (reading file function all_cells).locals 0 ≡ as_pointer (named 0 3) (named 0 4)
  pub variable : (reading file function all_cells).locals 1 ≡ as_number (named 0 6)
  pub flag : (reading file function all_cells).flags 1 ≡ named 0 8
  pub block : (reading file function all_cells).homes 2 ≡ named 0 9
  -- annotations: y is any integer until it is set; it may be out of scope; a has a block
  pub unset : body_slot file function all_cells 0 (λ x. true) (variables.Local 1) ≡ any_integer (named 0 6)
  pub unscoped : body_slot file function all_cells 0 all_but_y (variables.Local 1) ≡ absent
  pub array : body_slot file function all_cells 0 all_but_y (variables.Local 2) ≡ home (named 0 9)
  -- `y == \at(g, Pre)` in the body
  pub body : formula_of (body_reading file function all_cells no_texts in_body (two (acsl.Compare comparison.Equal) y (one (acsl.At label.Pre) g)))
      (two (acsl.Compare comparison.Equal) y (one (acsl.At label.Pre) g)) ≡ Some (equal (named 0 6) (named 1 0))
  -- `\result == *p + \old(*p)` at a return: the parameter is that of the entry, and the memories are those of both states
  pub back : formula_of (return_reading file function all_cells no_texts 1 is_p at_p)
      (two (acsl.Compare comparison.Equal) (leaf acsl.Result) (two (acsl.Arithmetic arithmetic.Add) at_p (one (acsl.At label.Pre) at_p)))
      ≡ Some (equal (named 0 12) (op_two op.Add (load_at 0) (load_at 1)))
