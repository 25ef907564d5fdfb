-- Terms of expressions of core programs: no effect, connective or choice stands in them. Integers are of any size in terms, so an unsigned result is wrapped
-- (C11 6.2.5p9), and a signed one is the term itself, whose check says that it fits.
use Rattle.std.specs.Prelude.{ℕ, zero, suc, ◌==◌, Bool, true, false, if◌then◌else◌, pos, List, [], ◌∷◌, Option, Some, None}
use Rattle.wp_base.specs.declared.kinds.Kind.{Kind}
use Rattle.wp_base.specs.declared.kinds.Kind.TheVariants as kind
use Rattle.wp_base.specs.declared.kinds.CellKind.{CellKind}
use Rattle.wp_base.specs.declared.kinds.CellKind.TheVariants as cell
use Rattle.wp_base.specs.Kinds.{is_signed}
use Rattle.c_kinds.specs.declared.models.Machdep.{Machdep}
use Rattle.c_kinds.specs.Conversions.{holds_all}
use Rattle.typed_prog.specs.declared.types.CoreType.{CoreType}
use Rattle.typed_prog.specs.declared.operators.Arithmetic.{Arithmetic}
use Rattle.typed_prog.specs.declared.operators.Arithmetic.TheVariants as ar
use Rattle.typed_prog.specs.declared.operators.Comparison.{Comparison}
use Rattle.typed_prog.specs.declared.operators.Comparison.TheVariants as cmp
use Rattle.typed_prog.specs.declared.operators.Op.{Op}
use Rattle.typed_prog.specs.declared.operators.Op.TheVariants as op
use Rattle.typed_prog.specs.declared.operators.Path.{Path}
use Rattle.typed_prog.specs.declared.operators.Root.{Root}
use Rattle.typed_prog.specs.declared.operators.Root.TheVariants as root
use Rattle.typed_prog.specs.declared.operators.Step.{Step}
use Rattle.typed_prog.specs.declared.operators.Step.TheVariants as step
use Rattle.typed_prog.specs.declared.operators.Variable.{Variable}
use Rattle.typed_prog.specs.declared.operators.Variable.TheVariants as variable
use Rattle.typed_prog.specs.Tree as t
use Rattle.qed_terms.specs.declared.head.Head.TheVariants as h
use Rattle.qed_terms.specs.declared.head.TermOp.{TermOp}
use Rattle.qed_terms.specs.declared.head.TermOp.TheVariants as term
use Rattle.qed_terms.specs.Tree.{Tree, node, one, two, three, num, ite, equal, at_most, less, not_of, and_of}
use Rattle.c_runs.specs.Program as run
use Rattle.c_runs.specs.Program.{Facts}
use Rattle.c_runs.specs.States.{global_home}
use Rattle.c_runs.specs.Objects.{plain_root, cell_of}
use Rattle.c_runs.specs.Values.{kind_at}
use Rattle.value_terms.specs.Readings.{Term, as_number, as_test, as_pointer, number_term, block_term, offset_term, condition, term_at, Reading, plain_global}

-- ---- integers

abbrev pub of_one : TermOp → Tree → Tree
of_one o t = node (h.Term o) (one t)

abbrev pub of_two : TermOp → Tree → Tree → Tree
of_two o t u = node (h.Term o) (two t u)

abbrev pub within_term : Kind → Tree → Tree
within_term k t = if is_signed k then t else of_one (term.Wrap k) t

-- the result of an operator whatever the kind is
abbrev pub exact_term : Arithmetic → Tree → Tree → Tree
exact_term ar.Mul t u = of_two term.Mul t u
exact_term ar.Div t u = of_two term.Div t u
exact_term ar.Rem t u = of_two term.Mod t u
exact_term ar.Add t u = of_two term.Add t u
exact_term ar.Sub t u = of_two term.Sub t u
exact_term ar.Shl t u = of_two term.ShiftLeft t u
exact_term ar.Shr t u = of_two term.ShiftRight t u
exact_term ar.And t u = of_two term.BitAnd t u
exact_term ar.Xor t u = of_two term.BitXor t u
exact_term ar.Or t u = of_two term.BitOr t u

-- the exact result may lie outside of the kind
abbrev pub may_leave : Arithmetic → Bool
may_leave ar.Mul = true
may_leave ar.Add = true
may_leave ar.Sub = true
may_leave ar.Shl = true
may_leave o = false

abbrev pub arithmetic_term : Kind → Arithmetic → Tree → Tree → Tree
arithmetic_term k o t u = if may_leave o then within_term k (exact_term o t u) else exact_term o t u

abbrev pub comparison : Comparison → Tree → Tree → Tree
comparison cmp.Less t u = less t u
comparison cmp.AtMost t u = at_most t u
comparison cmp.Greater t u = less u t
comparison cmp.AtLeast t u = at_most u t
comparison cmp.Equal t u = equal t u
comparison cmp.NotEqual t u = not_of (equal t u)

-- to a kind that doesn't hold all numbers of the other one (C11 6.3.1.2, 6.3.1.3)
abbrev pub narrowed : Kind → Tree → Tree
narrowed kind.Bool t = ite (equal t (num (pos 0))) (num (pos 0)) (num (pos 1))
narrowed k t = of_one (term.Wrap k) t

abbrev pub converted_term : Machdep → (to from : Kind) → Tree → Tree
converted_term m k l t = if holds_all m k l then t else narrowed k t

-- ---- pointers

-- so many cells further on, or back
abbrev pub scaled : (size : ℕ) → Tree → Tree
scaled size i = if size == 1 then i else of_two term.Mul (num (pos size)) i

abbrev pub moved_term : (minus : Bool) → (size : ℕ) → Term → Term → Term
moved_term true size a i = as_pointer (block_term a) (of_two term.Sub (offset_term a) (scaled size (number_term i)))
moved_term false size a i = as_pointer (block_term a) (of_two term.Add (offset_term a) (scaled size (number_term i)))

-- a field, whose first cell has this offset
abbrev pub field_term : (offset : ℕ) → Term → Term
field_term zero a = as_pointer (block_term a) (offset_term a)
field_term (suc k) a = as_pointer (block_term a) (of_two term.Add (offset_term a) (num (pos (suc k))))

abbrev pub same_pointer_term : Term → Term → Tree
same_pointer_term a b = and_of (equal (block_term a) (block_term b) ∷ equal (offset_term a) (offset_term b) ∷ [])

abbrev pub pointer_comparison : Comparison → Term → Term → Tree
pointer_comparison cmp.Equal a b = same_pointer_term a b
pointer_comparison cmp.NotEqual a b = not_of (same_pointer_term a b)
pointer_comparison c a b = comparison c (offset_term a) (offset_term b)

abbrev pub difference_term : (size : ℕ) → Term → Term → Tree
difference_term size a b =
    if size == 1 then of_two term.Sub (offset_term a) (offset_term b)
    else of_two term.Div (of_two term.Sub (offset_term a) (offset_term b)) (num (pos size))

-- ---- objects

module _ (p : Facts) (r : Reading) where
  -- the blocks of the file's variables have fixed numbers
  abbrev pub home_term : Variable → Tree
  home_term (variable.Global x) = num (global_home p x)
  home_term (variable.Local x) = r.homes x

  abbrev pub start_term : Root → List Term → Term
  start_term (root.Variable x) ts = as_pointer (home_term x) (num (pos 0))
  start_term (root.Pointed n) ts = term_at ts n

  abbrev pub stepped_term : List Term → Step → Term → Term
  stepped_term ts (step.Field n offset) a = field_term offset a
  stepped_term ts (step.Element operand size count line) a = moved_term false size a (term_at ts operand)
  stepped_term ts (step.Moved operand size) a = moved_term false size a (term_at ts operand)

  abbrev pub along_term : List Term → List Step → Term → Term
  along_term ts [] a = a
  along_term ts (s ∷ ss) a = along_term ts ss (stepped_term ts s a)

  abbrev pub address_term : Path → List Term → Term
  address_term path ts = along_term ts path.steps (start_term path.root ts)

  abbrev pub load_term : (memory : Tree) → Term → Tree
  load_term m a = node (h.Term term.Load) (three m (block_term a) (offset_term a))

  -- what a cell of the kind holds
  abbrev pub loaded : CellKind → Term → Term
  loaded (cell.Of k) a = as_number (load_term (r.numbers k) a)
  loaded cell.Ptr a = as_pointer (load_term r.blocks a) (load_term r.offsets a)

  abbrev pub cell_term : Option ℕ → CoreType → Path → List Term → Term
  cell_term (Some x) type path ts = r.globals x
  cell_term None type path ts = loaded (cell_of type) (address_term path ts)

  abbrev pub read_term : Option ℕ → CoreType → Path → List Term → Term
  read_term (Some x) type path ts = r.locals x
  read_term None type path ts = cell_term (plain_global p.globals path.root) type path ts

-- ---- expressions

-- what an expression is converted from
abbrev pub first_kind : t.Values → Kind
first_kind t.stop = kind.Int
first_kind (t.more e es) = kind_at (t.type_of e)

-- moved by the integer, which is the second operand or the first
abbrev pub moved_terms : (index_first minus : Bool) → (size : ℕ) → List Term → Term
moved_terms true minus size ts = moved_term minus size (term_at ts 1) (term_at ts 0)
moved_terms false minus size ts = moved_term minus size (term_at ts 0) (term_at ts 1)

module _ (p : Facts) (xs : List run.Variable) (r : Reading) where
  -- an operation of this type on operands of these terms
  unfoldable pub op_term : CoreType → Op → t.Values → List Term → Term
  op_term type (op.Read path) es ts = read_term p r (plain_root xs path.root) type path ts
  op_term type (op.Address path accessed) es ts = address_term p r path ts
  op_term type (op.Decay path accessed) es ts = address_term p r path ts
  op_term type op.Negate es ts = as_number (within_term (kind_at type) (of_one term.Neg (number_term (term_at ts 0))))
  op_term type op.Complement es ts = as_number (within_term (kind_at type) (of_one term.BitNot (number_term (term_at ts 0))))
  op_term type op.Not es ts = as_test (not_of (condition (term_at ts 0)))
  op_term type (op.Arithmetic o) es ts = as_number (arithmetic_term (kind_at type) o (number_term (term_at ts 0)) (number_term (term_at ts 1)))
  op_term type (op.Compare c) es ts = as_test (comparison c (number_term (term_at ts 0)) (number_term (term_at ts 1)))
  op_term type (op.ComparePointers c) es ts = as_test (pointer_comparison c (term_at ts 0) (term_at ts 1))
  op_term type (op.Offset minus index_first size accessed) es ts = moved_terms index_first minus size ts
  op_term type (op.Difference size) es ts = as_number (difference_term size (term_at ts 0) (term_at ts 1))
  op_term type op.Convert es ts = as_number (converted_term p.model (kind_at type) (first_kind es) (number_term (term_at ts 0)))
  op_term type op.Requalify es ts = term_at ts 0
  op_term type op.Cast es ts = as_number (converted_term p.model (kind_at type) (first_kind es) (number_term (term_at ts 0)))

  abbrev mutual
    pub node_term : CoreType → t.ValueNode → Term
    node_term type (t.constant z) = as_number (num z)
    node_term type t.null = as_pointer (num (pos 0)) (num (pos 0))
    node_term type (t.temporary n) = r.temporaries n
    node_term type (t.apply o es) = op_term type o es (terms_of es)
    node_term type _ = as_number (num (pos 0))

    pub term_of : t.Value → Term
    term_of (t.typed what type line) = node_term type what

    pub terms_of : t.Values → List Term
    terms_of t.stop = []
    terms_of (t.more e es) = term_of e ∷ terms_of es
