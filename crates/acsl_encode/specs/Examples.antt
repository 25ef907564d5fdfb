-- What annotations become, word for word, under one reading.
use Rattle.std.specs.Prelude.{◌≡◌, ℕ, zero, suc, pos, negsuc, true, false, [], ◌∷◌, codes, Some, None}
use Rattle.wp_base.specs.declared.kinds.Kind.TheVariants as kind
use Rattle.wp_base.specs.declared.kinds.CellKind.TheVariants as cell
use Rattle.c_kinds.specs.declared.models.Machdep.TheVariants as machdep
use Rattle.typed_prog.specs.declared.operators.Variable.{Variable}
use Rattle.typed_prog.specs.declared.operators.Variable.TheVariants as variables
use Rattle.typed_prog.specs.declared.operators.Arithmetic.TheVariants as ar
use Rattle.typed_prog.specs.declared.operators.Comparison.TheVariants as cmp
use Rattle.acsl_trees.specs.declared.heads.BinderPlace.{BinderPlace}
use Rattle.acsl_trees.specs.declared.heads.Content.TheVariants as content
use Rattle.acsl_trees.specs.declared.heads.Label.TheVariants as label
use Rattle.acsl_trees.specs.declared.heads.Range.TheVariants as range
use Rattle.acsl_trees.specs.declared.heads.Head.TheVariants as h
use Rattle.acsl_trees.specs.Tree.{Tree, trees_of, node, leaf, one, two, three}
use Rattle.qed_terms.specs.declared.head.Sort.TheVariants as sort
use Rattle.qed_terms.specs.declared.head.Head.TheVariants as th
use Rattle.qed_terms.specs.declared.head.TermOp.TheVariants as op
use Rattle.qed_terms.specs.declared.head.FormOp.{FormOp}
use Rattle.qed_terms.specs.declared.head.FormOp.TheVariants as form
use Rattle.qed_terms.specs.Tree as tree
use Rattle.qed_terms.specs.Tree.{Tree as Term, num, var, at_most, less, equal, ite, not_of, and_of, imp_of, or_of}
use Rattle.acsl_encode.specs.Readings as reading
use Rattle.acsl_encode.specs.Readings.{Slot, at, Seen, Reading}
use Rattle.acsl_encode.specs.Encode.{op_one, op_two, term_of, formula_of}
use Rattle.acsl_encode.specs.Binders.{numbered}
use Rattle.acsl_encode.specs.Setting.{memory_var, memory_name, blocks_name, offsets_name}

-- where quantifiers stand, which says nothing of the truth
abbrev pub here : BinderPlace
here = record { line = 1; node = 1 }

-- ---- a reading: an `int` x and a pointer p, and the number of x at entry

abbrev pub slots : (x : Term) → Variable → Slot
slots x (variables.Local zero) = reading.whole kind.Int x
slots x (variables.Local (suc n)) = reading.pointer (var (codes "p:b")) (var (codes "p:o"))
slots x (variables.Global n) = reading.home (num (pos 1))

abbrev pub seen_as : (x : Term) → Seen
seen_as x = record {
  variable = slots x;
  table = Some (tree.node (th.Var (codes "T") sort.Table) tree.stop);
  numbers = λ k. Some (memory_var (memory_name k));
  pointers = Some (at (memory_var blocks_name) (memory_var offsets_name));
}

abbrev pub sample : Reading
sample = record {
  here = seen_as (var (codes "x"));
  pre = seen_as (num (pos 7));
  post = seen_as (var (codes "x"));
  loop_entry = seen_as (num (pos 9));
  result = reading.integer (Some kind.Int) (var (codes "\\result"));
  common = record {
    model = machdep.X86_64;
    structs = λ n. cell.Of kind.Int ∷ cell.Ptr ∷ [];
    hidden = λ x. negsuc 0;
    homes = λ n. None;
    binder = numbered (codes "k" ∷ codes "k" ∷ codes "r" ∷ []);
  };
  called = λ n. Some (record {
    name = codes "f";
    params = reading.one (codes "n") ∷ [];
    memories = cell.Of kind.Int ∷ cell.Ptr ∷ [];
    globals = [];
  });
}

-- ---- annotations

abbrev pub spelled : ℕ → Tree
spelled n = leaf (h.Number (pos n))

abbrev pub x_read : Tree
x_read = one (h.Read (content.Integer kind.Int) None) (leaf (h.Variable (variables.Local 0)))

abbrev pub p_read : Tree
p_read = one (h.Read content.Pointer None) (leaf (h.Variable (variables.Local 1)))

abbrev pub is_five : Tree → Tree
is_five t = two (h.Compare cmp.Equal) t (spelled 5)

abbrev pub x_term : Term
x_term = var (codes "x")

abbrev pub k_one : Term
k_one = var (codes "k!1")

abbrev pub k_two : Term
k_two = var (codes "k!2")

abbrev pub p_block : Term
p_block = var (codes "p:b")

abbrev pub p_offset : Term
p_offset = var (codes "p:o")

abbrev pub five : Term → Term
five t = equal t (num (pos 5))

abbrev pub table_name : Term
table_name = tree.node (th.Var (codes "T") sort.Table) tree.stop

abbrev pub cell_of : FormOp → Term → Term
cell_of o offset = tree.node (th.Form o) (tree.three table_name p_block offset)

abbrev pub IsTerm : Tree → Term → Type 0
IsTerm t u = term_of sample t ≡ Some u

abbrev pub IsFormula : Tree → Term → Type 0
IsFormula t f = formula_of sample t ≡ Some f

-- numbers and truths, which aren't folded
pub record Operators : Type 0 where
  pub minus : IsTerm (one h.Negate (spelled 1)) (op_one op.Neg (num (pos 1)))
  pub sum : IsTerm (two (h.Arithmetic ar.Add) (spelled 1) (spelled 1)) (op_two op.Add (num (pos 1)) (num (pos 1)))
  pub greater : IsFormula (two (h.Compare cmp.Greater) x_read (spelled 5)) (less (num (pos 5)) x_term)
  pub unequal : IsFormula (two (h.Compare cmp.NotEqual) x_read (spelled 5)) (not_of (five x_term))
  pub link : IsFormula (node h.Chain (trees_of (x_read ∷ one (h.Link cmp.Less) (spelled 5) ∷ []))) (less x_term (num (pos 5)))
  pub chain : IsFormula (node h.Chain (trees_of (spelled 0 ∷ one (h.Link cmp.AtMost) x_read ∷ one (h.Link cmp.Less) (spelled 5) ∷ [])))
      (and_of (at_most (num (pos 0)) x_term ∷ less x_term (num (pos 5)) ∷ []))
  pub nested : IsFormula (two h.And (two h.And (is_five x_read) (is_five x_read)) (is_five x_read))
      (and_of (and_of (five x_term ∷ five x_term ∷ []) ∷ five x_term ∷ []))
  pub differ : IsFormula (two h.Xor (is_five x_read) (is_five x_read)) (not_of (tree.node th.Iff (tree.two (five x_term) (five x_term))))
  pub choice : IsFormula (three h.Choose (is_five x_read) (is_five (spelled 1)) (is_five (spelled 2)))
      (and_of (imp_of (five x_term) (five (num (pos 1))) ∷ imp_of (not_of (five x_term)) (five (num (pos 2))) ∷ []))
  pub chosen : IsTerm (three h.Choose (is_five x_read) x_read (spelled 2)) (ite (five x_term) x_term (num (pos 2)))
  pub as_number : IsTerm (two (h.Arithmetic ar.Add) (is_five x_read) (spelled 1)) (op_two op.Add (ite (five x_term) (num (pos 1)) (num (pos 0))) (num (pos 1)))
  pub as_truth : IsFormula (one h.Not x_read) (not_of (not_of (equal x_term (num (pos 0)))))

pub record Casts : Type 0 where
  pub narrower : IsTerm (one (h.Convert kind.Char) x_read) (op_one (op.Wrap kind.Char) x_term)
  pub wider : IsTerm (one (h.Convert kind.Long) x_read) x_term
  pub bool : IsTerm (one (h.Convert kind.Bool) x_read) (ite (equal x_term (num (pos 0))) (num (pos 0)) (num (pos 1)))
  pub integer : IsTerm (one (h.Convert kind.LLong) (two (h.Arithmetic ar.Add) x_read (spelled 1)))
      (op_one (op.Wrap kind.LLong) (op_two op.Add x_term (num (pos 1))))

pub record States : Type 0 where
  pub old : IsTerm (one (h.At label.Pre) x_read) (num (pos 7))
  pub entry : IsTerm (one (h.At label.LoopEntry) x_read) (num (pos 9))
  pub named : IsFormula (two h.Let x_read (one (h.At label.Pre) (two (h.Compare cmp.Equal) (leaf (h.Name 0)) x_read))) (equal x_term (num (pos 7)))
  pub result : IsFormula (is_five (leaf h.Result)) (five (var (codes "\\result")))

pub record Binders : Type 0 where
  pub every : IsFormula (three (h.Every (range.Between true false here)) (spelled 0) x_read (is_five (leaf (h.Name 0))))
      (tree.node (th.Forall (codes "k!1")) (tree.three (op_two op.Add (num (pos 0)) (num (pos 1))) (op_two op.Add x_term (num (pos 1))) (five k_one)))
  pub some : IsFormula (three (h.Some (range.Between false true here)) (spelled 0) x_read (is_five (leaf (h.Name 0))))
      (tree.node (th.Exists (codes "k!1")) (tree.three (num (pos 0)) x_term (five k_one)))
  pub inner : IsFormula (one (h.Every (range.Kind kind.UChar here)) (one (h.Some (range.Kind kind.Bool here))
      (two (h.Compare cmp.Less) (leaf (h.Name 0)) (leaf (h.Name 1)))))
      (tree.node (th.Forall (codes "k!1")) (tree.three (num (pos 0)) (num (pos 256))
      (tree.node (th.Exists (codes "k!2")) (tree.three (num (pos 0)) (num (pos 2)) (less k_one k_two)))))

pub record Pointers : Type 0 where
  pub pointed : IsTerm (one (h.Read (content.Integer kind.Int) None) (one h.Pointed p_read))
      (tree.node (th.Term op.Load) (tree.three (memory_var (codes "M:int")) p_block p_offset))
  pub null : IsFormula (two (h.ComparePointers cmp.Equal) p_read (leaf h.Null)) (and_of (equal p_block (num (pos 0)) ∷ equal p_offset (num (pos 0)) ∷ []))
  pub difference : IsTerm (two (h.Difference 2) p_read p_read) (op_two op.Div (op_two op.Sub p_offset p_offset) (num (pos 2)))
  pub valid : IsFormula (one (h.Valid (content.Integer kind.Int) true) (one h.Pointed p_read)) (cell_of (form.Write (cell.Of kind.Int)) p_offset)
  pub elements : IsFormula (two h.And (one (h.Every (range.Kind kind.Bool here)) (is_five (leaf (h.Name 0))))
      (one (h.Valid (content.Struct 0) false) (three (h.Behind 2) p_read (spelled 0) x_read)))
      (and_of (tree.node (th.Forall (codes "k!1")) (tree.three (num (pos 0)) (num (pos 2)) (five k_one))
      ∷ tree.node (th.Forall (codes "k!2")) (tree.three (num (pos 0)) (op_two op.Add x_term (num (pos 1))) (and_of (
      cell_of (form.Read (cell.Of kind.Int)) (op_two op.Add p_offset (op_two op.Mul (num (pos 2)) k_two))
      ∷ cell_of (form.Read cell.Ptr) (op_two op.Add (op_two op.Add p_offset (op_two op.Mul (num (pos 2)) k_two)) (num (pos 1))) ∷ []))) ∷ []))
  pub separated : IsFormula (two h.Separated (one (h.Region (content.Integer kind.Int)) (one h.Pointed p_read))
      (one (h.Region (content.Integer kind.Int)) (three (h.Behind 1) p_read (spelled 1) x_read)))
      (or_of (not_of (equal p_block p_block) ∷ at_most (op_two op.Add p_offset (num (pos 1))) (op_two op.Add p_offset (num (pos 1)))
      ∷ at_most (op_two op.Add p_offset (op_two op.Add x_term (num (pos 1)))) p_offset
      ∷ at_most (op_two op.Add p_offset (num (pos 1))) p_offset
      ∷ at_most (op_two op.Add p_offset (op_two op.Add x_term (num (pos 1)))) (op_two op.Add p_offset (num (pos 1))) ∷ []))
  pub call : IsTerm (one (h.Call 0) x_read)
      (tree.node (th.App (codes "f")) (tree.trees_of (x_term ∷ memory_var (codes "M:int") ∷ memory_var (codes "M:ptrb") ∷ memory_var (codes "M:ptro") ∷ [])))

pub record ExamplesHold : Type 0 where
  pub operators : Operators
  pub casts : Casts
  pub states : States
  pub binders : Binders
  pub pointers : Pointers
