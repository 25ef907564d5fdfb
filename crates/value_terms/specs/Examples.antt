-- Terms and words of small expressions, worked out by hand: they hold the text of goals, of which the laws know the meaning alone. Kinds are those of the model
-- with 64 bits. Variables 0, 1, .. of the function hold two integers, two unsigned ones, two pointers and an integer without value.
use Rattle.std.specs.Prelude.{◌≡◌, ℕ, ◌+◌, ◌==◌, Bool, true, false, ◌||◌, if◌then◌else◌, ℤ, pos, negsuc, List, [], ◌∷◌, map}
use Rattle.wp_base.specs.declared.kinds.Kind.TheVariants as kind
use Rattle.wp_base.specs.declared.kinds.CellKind.{CellKind}
use Rattle.wp_base.specs.declared.kinds.CellKind.TheVariants as cell
use Rattle.c_kinds.specs.declared.models.Machdep.TheVariants as model
use Rattle.typed_prog.specs.declared.types.CoreType.{CoreType}
use Rattle.typed_prog.specs.declared.operators.Arithmetic.TheVariants as ar
use Rattle.typed_prog.specs.declared.operators.Comparison.TheVariants as cmp
use Rattle.typed_prog.specs.declared.operators.Op.{Op}
use Rattle.typed_prog.specs.declared.operators.Op.TheVariants as op
use Rattle.typed_prog.specs.declared.operators.Path.{Path}
use Rattle.typed_prog.specs.declared.operators.Root.TheVariants as root
use Rattle.typed_prog.specs.declared.operators.Step.{Step}
use Rattle.typed_prog.specs.declared.operators.Step.TheVariants as step
use Rattle.typed_prog.specs.declared.operators.Variable.TheVariants as variable
use Rattle.typed_prog.specs.Types.{of_kind, pointer_to}
use Rattle.typed_prog.specs.Tree as t
use Rattle.qed_terms.specs.declared.head.Head.TheVariants as h
use Rattle.qed_terms.specs.declared.head.FormOp.TheVariants as form
use Rattle.qed_terms.specs.declared.head.Sort.TheVariants as sort
use Rattle.qed_terms.specs.declared.head.TermOp.TheVariants as term
use Rattle.qed_terms.specs.Tree.{Tree, node, stop, two, three, num, var, ite, equal, at_most, less, not_of, and_of}
use Rattle.c_runs.specs.Program.{Facts, Variable}
use Rattle.c_runs.specs.Operators.{Undefined, init, index, overflow, divzero, shift, access, pointing, comparing}
use Rattle.value_terms.specs.Readings.{Term, as_number, as_pointer, condition, Reading}
use Rattle.value_terms.specs.Terms.{of_one, of_two, term_of}
use Rattle.value_terms.specs.Words.{Item, asked, known, word_of}

-- ---- what is looked at

pub data Mark : Type 0 where
  asks : (u : Undefined) (f : Tree) → Mark
  knows : (f : Tree) → Mark

abbrev pub mark_of : Item → Mark
mark_of (asked c f) = asks c.kind f
mark_of (known f) = knows f

-- ---- variables and what stands for them

abbrev pub scalar : CellKind → (has_value : Bool) → Variable
scalar k b = record { layout = record { count = 1; cells = k ∷ []; writable = true }; is_plain = true; has_value = b }

-- int t[4];
abbrev pub facts : Facts
facts = record {
  model = model.X86_64;
  globals = record { layout = record { count = 4; cells = cell.Of kind.Int ∷ []; writable = true }; is_plain = false; has_value = true } ∷ [];
  structs = [];
  definitions = [];
  in_cluster = λ f g. false;
}

abbrev pub variables : List Variable
variables =
    scalar (cell.Of kind.Int) true ∷ scalar (cell.Of kind.Int) true ∷ scalar (cell.Of kind.UInt) true ∷ scalar (cell.Of kind.UInt) true
    ∷ scalar cell.Ptr true ∷ scalar cell.Ptr true ∷ scalar (cell.Of kind.Int) false ∷ []

-- names, each of one number
abbrev pub name : ℕ → Tree
name n = var (n ∷ [])

abbrev pub table : Tree
table = node (h.Var (100 ∷ []) sort.Table) stop

abbrev pub memory : ℕ → Tree
memory n = node (h.Var (n ∷ []) sort.Memory) stop

-- variables 4 and 5 are pointers
abbrev pub local_term : (variable : ℕ) → Term
local_term x = if x == 4 || x == 5 then as_pointer (name x) (name (x + 10)) else as_number (name x)

abbrev pub reading : Reading
reading = record {
  locals = local_term;
  globals = λ x. as_number (num (pos 0));
  temporaries = λ n. as_number (name (n + 50));
  flags = λ x. name (x + 20);
  homes = λ x. name (x + 30);
  table = table;
  numbers = λ k. memory 101;
  blocks = memory 102;
  offsets = memory 103;
}

-- ---- expressions

abbrev pub int : CoreType
int = of_kind kind.Int

abbrev pub uint : CoreType
uint = of_kind kind.UInt

abbrev pub pointer : CoreType
pointer = pointer_to int false

abbrev pub local : (variable : ℕ) → Path
local x = record { root = root.Variable (variable.Local x); steps = []; line = 1 }

abbrev pub at : CoreType → (variable : ℕ) → t.Value
at type x = t.typed (t.apply (op.Read (local x)) t.stop) type 1

abbrev pub unary : CoreType → Op → t.Value → t.Value
unary type o a = t.typed (t.apply o (t.more a t.stop)) type 1

abbrev pub binary : CoreType → Op → t.Value → t.Value → t.Value
binary type o a b = t.typed (t.apply o (t.more a (t.more b t.stop))) type 1

abbrev pub number : CoreType → ℤ → t.Value
number type z = t.typed (t.constant z) type 1

-- the object that is come to from where the first operand points
abbrev pub behind : List Step → t.Values → CoreType → t.Value
behind ss es type = t.typed (t.apply (op.Read (record { root = root.Pointed 0; steps = ss; line = 1 })) es) type 1

-- t[a]
abbrev pub element_path : Path
element_path = record { root = root.Variable (variable.Global 0); steps = step.Element 0 1 4 1 ∷ []; line = 1 }

abbrev pub element_read : t.Value
element_read = t.typed (t.apply (op.Read element_path) (t.more (at int 0) t.stop)) int 1

abbrev pub the_term : t.Value → Term
the_term e = term_of facts variables reading e

abbrev pub marks : t.Value → List Mark
marks e = map mark_of (word_of facts variables reading e)

-- ---- what they come to

abbrev pub least : Tree
least = num (negsuc 2147483647)

abbrev pub most : Tree
most = num (pos 2147483647)

abbrev pub plus : Tree → Tree → Tree
plus a b = of_two term.Add a b

pub record Texts : Type 0 where
  -- a + b
  pub sum : the_term (binary int (op.Arithmetic ar.Add) (at int 0) (at int 1)) ≡ as_number (plus (name 0) (name 1))
  pub sum_asks : marks (binary int (op.Arithmetic ar.Add) (at int 0) (at int 1))
      ≡ asks overflow (and_of (at_most least (plus (name 0) (name 1)) ∷ at_most (plus (name 0) (name 1)) most ∷ [])) ∷ []
  -- u + v
  pub wrapped : the_term (binary uint (op.Arithmetic ar.Add) (at uint 2) (at uint 3)) ≡ as_number (of_one (term.Wrap kind.UInt) (plus (name 2) (name 3)))
  pub wrapped_asks : marks (binary uint (op.Arithmetic ar.Add) (at uint 2) (at uint 3)) ≡ []
  -- a / b and a % -1
  pub quotient_asks : marks (binary int (op.Arithmetic ar.Div) (at int 0) (at int 1))
      ≡ asks divzero (not_of (equal (name 1) (num (pos 0))))
      ∷ asks overflow (not_of (and_of (equal (name 0) least ∷ equal (name 1) (num (negsuc 0)) ∷ []))) ∷ []
  pub by_minus_one : marks (binary int (op.Arithmetic ar.Rem) (at int 0) (number int (negsuc 0))) ≡ asks overflow (not_of (equal (name 0) least)) ∷ []
  -- u << v and a << b
  pub shifted : the_term (binary uint (op.Arithmetic ar.Shl) (at uint 2) (at uint 3))
      ≡ as_number (of_one (term.Wrap kind.UInt) (of_two term.ShiftLeft (name 2) (name 3)))
  pub shift_asks : marks (binary int (op.Arithmetic ar.Shl) (at int 0) (at int 1))
      ≡ asks shift (and_of (at_most (num (pos 0)) (name 1) ∷ less (name 1) (num (pos 32)) ∷ []))
      ∷ asks overflow (and_of (at_most (num (pos 0)) (name 0) ∷ at_most (of_two term.ShiftLeft (name 0) (name 1)) most ∷ [])) ∷ []
  -- ~u, whose range is known
  pub complement_knows : marks (unary uint op.Complement (at uint 2))
      ≡ knows (at_most (num (pos 0)) (of_one (term.Wrap kind.UInt) (of_one term.BitNot (name 2))))
      ∷ knows (at_most (of_one (term.Wrap kind.UInt) (of_one term.BitNot (name 2))) (num (pos 4294967295))) ∷ []
  -- if (a < b), if (!a), if (a) and if (p)
  pub compared : condition (the_term (binary int (op.Compare cmp.Less) (at int 0) (at int 1))) ≡ less (name 0) (name 1)
  pub turned : condition (the_term (unary int op.Not (at int 0))) ≡ not_of (not_of (equal (name 0) (num (pos 0))))
  pub nonzero : condition (the_term (at int 0)) ≡ not_of (equal (name 0) (num (pos 0)))
  pub not_null : condition (the_term (at pointer 4)) ≡ not_of (and_of (equal (name 4) (num (pos 0)) ∷ equal (name 14) (num (pos 0)) ∷ []))
  -- (char)a, (long)a and (_Bool)(a < b)
  pub narrowed : the_term (unary (of_kind kind.Char) op.Cast (at int 0)) ≡ as_number (of_one (term.Wrap kind.Char) (name 0))
  pub widened : the_term (unary (of_kind kind.Long) op.Cast (at int 0)) ≡ as_number (name 0)
  pub as_truth : the_term (unary (of_kind kind.Bool) op.Cast (binary int (op.Compare cmp.Less) (at int 0) (at int 1)))
      ≡ as_number (ite (equal (ite (less (name 0) (name 1)) (num (pos 1)) (num (pos 0))) (num (pos 0))) (num (pos 0)) (num (pos 1)))
  -- a variable without value
  pub unset_asks : marks (at int 6) ≡ asks init (equal (name 26) (num (pos 1))) ∷ []
  -- p[a]: the access, and then the range of what was read
  pub followed : the_term (behind (step.Moved 1 1 ∷ []) (t.more (at pointer 4) (t.more (at int 0) t.stop)) int)
      ≡ as_number (node (h.Term term.Load) (three (memory 101) (name 4) (plus (name 14) (name 0))))
  pub followed_asks : marks (behind (step.Moved 1 1 ∷ []) (t.more (at pointer 4) (t.more (at int 0) t.stop)) int)
      ≡ asks access (node (h.Form (form.Read (cell.Of kind.Int))) (three table (name 4) (plus (name 14) (name 0))))
      ∷ knows (at_most least (node (h.Term term.Load) (three (memory 101) (name 4) (plus (name 14) (name 0)))))
      ∷ knows (at_most (node (h.Term term.Load) (three (memory 101) (name 4) (plus (name 14) (name 0)))) most) ∷ []
  -- p->f, a pointer behind another cell
  pub field : the_term (behind (step.Field 1 1 ∷ []) (t.more (at pointer 4) t.stop) pointer)
      ≡ as_pointer (node (h.Term term.Load) (three (memory 102) (name 4) (plus (name 14) (num (pos 1)))))
      (node (h.Term term.Load) (three (memory 103) (name 4) (plus (name 14) (num (pos 1)))))
  -- t[a], an element of an array of the file
  pub element : the_term element_read ≡ as_number (node (h.Term term.Load) (three (memory 101) (num (pos 1)) (plus (num (pos 0)) (name 0))))
  pub element_asks : marks element_read
      ≡ asks index (and_of (at_most (num (pos 0)) (name 0) ∷ less (name 0) (num (pos 4)) ∷ []))
      ∷ knows (at_most least (node (h.Term term.Load) (three (memory 101) (num (pos 1)) (plus (num (pos 0)) (name 0)))))
      ∷ knows (at_most (node (h.Term term.Load) (three (memory 101) (num (pos 1)) (plus (num (pos 0)) (name 0)))) most) ∷ []
  -- p - 2, where elements have two cells
  pub moved : the_term (binary pointer (op.Offset true false 2 false) (at pointer 4) (number int (pos 2)))
      ≡ as_pointer (name 4) (of_two term.Sub (name 14) (of_two term.Mul (num (pos 2)) (num (pos 2))))
  pub moved_asks : marks (binary pointer (op.Offset false false 1 false) (at pointer 4) (at int 0))
      ≡ asks pointing (and_of (node (h.Form form.Live) (two table (name 4)) ∷ at_most (num (pos 0)) (plus (name 14) (name 0))
      ∷ at_most (plus (name 14) (name 0)) (node (h.Term term.Len) (two table (name 4))) ∷ [])) ∷ []
  -- p == q, and p - q by elements of two cells
  pub same : condition (the_term (binary int (op.ComparePointers cmp.Equal) (at pointer 4) (at pointer 5)))
      ≡ and_of (equal (name 4) (name 5) ∷ equal (name 14) (name 15) ∷ [])
  pub apart : the_term (binary (of_kind kind.Long) (op.Difference 2) (at pointer 4) (at pointer 5))
      ≡ as_number (of_two term.Div (of_two term.Sub (name 14) (name 15)) (num (pos 2)))
  pub apart_asks : marks (binary (of_kind kind.Long) (op.Difference 2) (at pointer 4) (at pointer 5))
      ≡ asks comparing (and_of (equal (name 4) (name 5) ∷ node (h.Form form.Live) (two table (name 4))
      ∷ at_most (num (pos 0)) (name 14) ∷ at_most (name 14) (node (h.Term term.Len) (two table (name 4)))
      ∷ at_most (num (pos 0)) (name 15) ∷ at_most (name 15) (node (h.Term term.Len) (two table (name 4))) ∷ [])) ∷ []
