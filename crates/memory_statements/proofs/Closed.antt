-- Terms of expressions bind no name, so they are closed where all that they read is.
use Rattle.std.proofs.Common.{◌≡◌, ℕ, zero, suc, Bool, true, false, ◌&&◌, if◌then◌else◌, List, [], ◌∷◌, Option, Some, None, slice_get, refl}
use Rattle.std.specs.Prelude.{◌==◌, pos}
use Rattle.std.specs.List.{list_all}
use Rattle.std.proofs.lemmas.Bool.{and_parts}
use Rattle.wp_base.specs.declared.kinds.Kind.{Kind}
use Rattle.wp_base.specs.declared.kinds.Kind.TheVariants as kind
use Rattle.wp_base.specs.declared.kinds.CellKind.{CellKind}
use Rattle.wp_base.specs.declared.kinds.CellKind.TheVariants as cell
use Rattle.wp_base.specs.Kinds.{is_signed}
use Rattle.c_kinds.specs.declared.models.Machdep.{Machdep}
use Rattle.c_kinds.specs.Conversions.{holds_all}
use Rattle.typed_prog.specs.declared.types.CoreType.{CoreType}
use Rattle.typed_prog.specs.declared.operators.Arithmetic.{Arithmetic}
use Rattle.typed_prog.specs.declared.operators.Arithmetic.TheVariants as ar
use Rattle.typed_prog.specs.declared.operators.Comparison.{Comparison}
use Rattle.typed_prog.specs.declared.operators.Comparison.TheVariants as cmp
use Rattle.typed_prog.specs.declared.operators.Op.{Op}
use Rattle.typed_prog.specs.declared.operators.Op.TheVariants as op
use Rattle.typed_prog.specs.declared.operators.Path.{Path}
use Rattle.typed_prog.specs.declared.operators.Root.{Root}
use Rattle.typed_prog.specs.declared.operators.Root.TheVariants as root
use Rattle.typed_prog.specs.declared.operators.Step.{Step}
use Rattle.typed_prog.specs.declared.operators.Step.TheVariants as step
use Rattle.typed_prog.specs.declared.operators.Variable.{Variable}
use Rattle.typed_prog.specs.declared.operators.Variable.TheVariants as variables
use Rattle.typed_prog.specs.Tree as t
use Rattle.qed_terms.specs.declared.head.TermOp.TheVariants as term
use Rattle.qed_terms.specs.Tree.{Tree, num}
use Rattle.c_runs.specs.Program as run
use Rattle.c_runs.specs.Program.{Facts}
use Rattle.c_runs.specs.Objects.{plain_root, cell_of}
use Rattle.c_runs.specs.Values.{kind_at}
use Rattle.value_terms.specs.Readings.{Term, as_number, as_test, as_pointer, number_term, block_term, offset_term, condition, term_at, Reading, plain_global}
use Rattle.value_terms.specs.Terms.{of_one, of_two, within_term, exact_term, may_leave, arithmetic_term, comparison, narrowed, converted_term, scaled, moved_term, field_term, pointer_comparison, difference_term, start_term, stepped_term, along_term, address_term, loaded, cell_term, read_term, first_kind, moved_terms, op_term, node_term, term_of, terms_of}
use Rattle.memory_words.specs.Places.{value, offset, temporary, temporary_offset}
use Rattle.memory_words.specs.Leaves.{is_closed}
use Rattle.memory_words.proofs.Leaves.{leaf_closed}
use Rattle.memory_words.specs.Shapes.{FileCells, Shape, sizes, kind_of}
use Rattle.memory_words.specs.Readings.{term_of_kind, leaf, variable_term, reading_at}
use Rattle.memory_words.specs.Seen.{is_closed_term}
use Rattle.memory_statements.specs.StoreLaws.{TermsAreClosed}

abbrev C : Term → Type 0
C u = is_closed_term u ≡ true

abbrev T : Tree → Type 0
T t = is_closed [] t ≡ true

-- ---- parts

pub number_closed : (u : Term) → C u → T (number_term u)
number_closed (as_number t) h = h
number_closed (as_test f) h = λ i. h i && true
number_closed (as_pointer b o) h = refl

pub block_closed : (u : Term) → C u → T (block_term u)
block_closed (as_number t) h = refl
block_closed (as_test f) h = refl
block_closed (as_pointer b o) h = (and_parts (is_closed [] b) (is_closed [] o) h).0

pub offset_closed : (u : Term) → C u → T (offset_term u)
offset_closed (as_number t) h = refl
offset_closed (as_test f) h = refl
offset_closed (as_pointer b o) h = (and_parts (is_closed [] b) (is_closed [] o) h).1

condition_closed : (u : Term) → C u → T (condition u)
condition_closed (as_number t) h = λ i. (h i && true) && true
condition_closed (as_test f) h = h
condition_closed (as_pointer b o) h =
    let both = and_parts (is_closed [] b) (is_closed [] o) h in λ i. ((both.0 i && true) && ((both.1 i && true) && true)) && true

at_closed : (ts : List Term) → list_all is_closed_term ts ≡ true → (i : ℕ) → C (term_at ts i)
at_closed [] h i = refl
at_closed (t ∷ ts) h zero = (and_parts (is_closed_term t) (list_all is_closed_term ts) h).0
at_closed (t ∷ ts) h (suc i) = at_closed ts (and_parts (is_closed_term t) (list_all is_closed_term ts) h).1 i

either : (b : Bool) (t u : Tree) → T t → T u → T (if b then t else u)
either true t u h k = h
either false t u h k = k

-- ---- integers

within_closed : (k : Kind) (t : Tree) → T t → T (within_term k t)
within_closed k t h = either (is_signed k) t (of_one (term.Wrap k) t) h (λ i. h i && true)

exact_closed : (o : Arithmetic) (t u : Tree) → T t → T u → T (exact_term o t u)
exact_closed ar.Mul t u h k = λ i. h i && (k i && true)
exact_closed ar.Div t u h k = λ i. h i && (k i && true)
exact_closed ar.Rem t u h k = λ i. h i && (k i && true)
exact_closed ar.Add t u h k = λ i. h i && (k i && true)
exact_closed ar.Sub t u h k = λ i. h i && (k i && true)
exact_closed ar.Shl t u h k = λ i. h i && (k i && true)
exact_closed ar.Shr t u h k = λ i. h i && (k i && true)
exact_closed ar.And t u h k = λ i. h i && (k i && true)
exact_closed ar.Xor t u h k = λ i. h i && (k i && true)
exact_closed ar.Or t u h k = λ i. h i && (k i && true)

arithmetic_closed : (k : Kind) (o : Arithmetic) (t u : Tree) → T t → T u → T (arithmetic_term k o t u)
arithmetic_closed k o t u g h =
    let e = exact_closed o t u g h in either (may_leave o) (within_term k (exact_term o t u)) (exact_term o t u) (within_closed k (exact_term o t u) e) e

comparison_closed : (c : Comparison) (t u : Tree) → T t → T u → T (comparison c t u)
comparison_closed cmp.Less t u h k = λ i. h i && (k i && true)
comparison_closed cmp.AtMost t u h k = λ i. h i && (k i && true)
comparison_closed cmp.Greater t u h k = λ i. k i && (h i && true)
comparison_closed cmp.AtLeast t u h k = λ i. k i && (h i && true)
comparison_closed cmp.Equal t u h k = λ i. h i && (k i && true)
comparison_closed cmp.NotEqual t u h k = λ i. (h i && (k i && true)) && true

narrowed_closed : (k : Kind) (t : Tree) → T t → T (narrowed k t)
narrowed_closed kind.Bool t h = λ i. (h i && true) && true
narrowed_closed kind.Char t h = λ i. h i && true
narrowed_closed kind.SChar t h = λ i. h i && true
narrowed_closed kind.UChar t h = λ i. h i && true
narrowed_closed kind.Short t h = λ i. h i && true
narrowed_closed kind.UShort t h = λ i. h i && true
narrowed_closed kind.Int t h = λ i. h i && true
narrowed_closed kind.UInt t h = λ i. h i && true
narrowed_closed kind.Long t h = λ i. h i && true
narrowed_closed kind.ULong t h = λ i. h i && true
narrowed_closed kind.LLong t h = λ i. h i && true
narrowed_closed kind.ULLong t h = λ i. h i && true

converted_closed : (m : Machdep) (k l : Kind) (t : Tree) → T t → T (converted_term m k l t)
converted_closed m k l t h = either (holds_all m k l) t (narrowed k t) h (narrowed_closed k t h)

-- ---- pointers

scaled_closed : (size : ℕ) (t : Tree) → T t → T (scaled size t)
scaled_closed size t h = either (size == 1) t (of_two term.Mul (num (pos size)) t) h (λ i. h i && true)

moved_closed : (minus : Bool) (size : ℕ) (a i : Term) → C a → C i → C (moved_term minus size a i)
moved_closed true size a i h k =
    let n = scaled_closed size (number_term i) (number_closed i k) in λ j. block_closed a h j && (offset_closed a h j && (n j && true))
moved_closed false size a i h k =
    let n = scaled_closed size (number_term i) (number_closed i k) in λ j. block_closed a h j && (offset_closed a h j && (n j && true))

field_closed : (further : ℕ) (a : Term) → C a → C (field_term further a)
field_closed zero a h = λ i. block_closed a h i && offset_closed a h i
field_closed (suc k) a h = λ i. block_closed a h i && (offset_closed a h i && true)

pointers_closed : (c : Comparison) (a b : Term) → C a → C b → T (pointer_comparison c a b)
pointers_closed cmp.Equal a b h k =
    λ i. (block_closed a h i && (block_closed b k i && true)) && ((offset_closed a h i && (offset_closed b k i && true)) && true)
pointers_closed cmp.NotEqual a b h k =
    λ i. ((block_closed a h i && (block_closed b k i && true)) && ((offset_closed a h i && (offset_closed b k i && true)) && true)) && true
pointers_closed cmp.Less a b h k = comparison_closed cmp.Less (offset_term a) (offset_term b) (offset_closed a h) (offset_closed b k)
pointers_closed cmp.AtMost a b h k = comparison_closed cmp.AtMost (offset_term a) (offset_term b) (offset_closed a h) (offset_closed b k)
pointers_closed cmp.Greater a b h k = comparison_closed cmp.Greater (offset_term a) (offset_term b) (offset_closed a h) (offset_closed b k)
pointers_closed cmp.AtLeast a b h k = comparison_closed cmp.AtLeast (offset_term a) (offset_term b) (offset_closed a h) (offset_closed b k)

difference_closed : (size : ℕ) (a b : Term) → C a → C b → T (difference_term size a b)
difference_closed size a b h k =
    either (size == 1) (of_two term.Sub (offset_term a) (offset_term b)) (of_two term.Div (of_two term.Sub (offset_term a) (offset_term b)) (num (pos size)))
    (λ i. offset_closed a h i && (offset_closed b k i && true)) (λ i. (offset_closed a h i && (offset_closed b k i && true)) && true)

moved_terms_closed : (index_first minus : Bool) (size : ℕ) (ts : List Term) → list_all is_closed_term ts ≡ true → C (moved_terms index_first minus size ts)
moved_terms_closed true minus size ts h = moved_closed minus size (term_at ts 1) (term_at ts 0) (at_closed ts h 1) (at_closed ts h 0)
moved_terms_closed false minus size ts h = moved_closed minus size (term_at ts 0) (term_at ts 1) (at_closed ts h 0) (at_closed ts h 1)

-- ---- readings

pub record ReadsClosed (r : Reading) : Type 0 where
  pub locals : (x : ℕ) → C (r.locals x)
  pub globals : (x : ℕ) → C (r.globals x)
  pub temporaries : (n : ℕ) → C (r.temporaries n)
  pub homes : (x : ℕ) → T (r.homes x)
  pub numbers : (k : Kind) → T (r.numbers k)
  pub blocks : T r.blocks
  pub offsets : T r.offsets

module _ (p : Facts) (r : Reading) (closed : ReadsClosed r) where
  start_closed : (o : Root) (ts : List Term) → list_all is_closed_term ts ≡ true → C (start_term p r o ts)
  start_closed (root.Variable (variables.Global x)) ts h = refl
  start_closed (root.Variable (variables.Local x)) ts h = λ i. closed.homes x i && true
  start_closed (root.Pointed n) ts h = at_closed ts h n

  stepped_closed : (ts : List Term) → list_all is_closed_term ts ≡ true → (s : Step) (a : Term) → C a → C (stepped_term p r ts s a)
  stepped_closed ts h (step.Field n further) a k = field_closed further a k
  stepped_closed ts h (step.Element operand size count line) a k = moved_closed false size a (term_at ts operand) k (at_closed ts h operand)
  stepped_closed ts h (step.Moved operand size) a k = moved_closed false size a (term_at ts operand) k (at_closed ts h operand)

  along_closed : (ts : List Term) → list_all is_closed_term ts ≡ true → (ss : List Step) (a : Term) → C a → C (along_term p r ts ss a)
  along_closed ts h [] a k = k
  along_closed ts h (s ∷ ss) a k = along_closed ts h ss (stepped_term p r ts s a) (stepped_closed ts h s a k)

  pub address_closed : (path : Path) (ts : List Term) → list_all is_closed_term ts ≡ true → C (address_term p r path ts)
  address_closed path ts h = along_closed ts h path.steps (start_term p r path.root ts) (start_closed path.root ts h)

  loaded_closed : (k : CellKind) (a : Term) → C a → C (loaded p r k a)
  loaded_closed (cell.Of k) a h = λ i. closed.numbers k i && (block_closed a h i && (offset_closed a h i && true))
  loaded_closed cell.Ptr a h =
      λ i. (closed.blocks i && (block_closed a h i && (offset_closed a h i && true))) && (closed.offsets i && (block_closed a h i && (offset_closed a h i && true)))

  cell_closed : (g : Option ℕ) (type : CoreType) (path : Path) (ts : List Term) → list_all is_closed_term ts ≡ true → C (cell_term p r g type path ts)
  cell_closed (Some x) type path ts h = closed.globals x
  cell_closed None type path ts h = loaded_closed (cell_of type) (address_term p r path ts) (address_closed path ts h)

  read_closed : (l : Option ℕ) (type : CoreType) (path : Path) (ts : List Term) → list_all is_closed_term ts ≡ true → C (read_term p r l type path ts)
  read_closed (Some x) type path ts h = closed.locals x
  read_closed None type path ts h = cell_closed (plain_global p.globals path.root) type path ts h

  module _ (xs : List run.Variable) where
    op_closed : (type : CoreType) (o : Op) (es : t.Values) (ts : List Term) → list_all is_closed_term ts ≡ true → C (op_term p xs r type o es ts)
    unfolding op_term
    op_closed type (op.Read path) es ts h = read_closed (plain_root xs path.root) type path ts h
    op_closed type (op.Address path accessed) es ts h = address_closed path ts h
    op_closed type (op.Decay path accessed) es ts h = address_closed path ts h
    op_closed type op.Negate es ts h =
        within_closed (kind_at type) (of_one term.Neg (number_term (term_at ts 0))) (λ i. number_closed (term_at ts 0) (at_closed ts h 0) i && true)
    op_closed type op.Complement es ts h =
        within_closed (kind_at type) (of_one term.BitNot (number_term (term_at ts 0))) (λ i. number_closed (term_at ts 0) (at_closed ts h 0) i && true)
    op_closed type op.Not es ts h = λ i. condition_closed (term_at ts 0) (at_closed ts h 0) i && true
    op_closed type (op.Arithmetic o) es ts h =
        arithmetic_closed (kind_at type) o (number_term (term_at ts 0)) (number_term (term_at ts 1)) (number_closed (term_at ts 0) (at_closed ts h 0)) (number_closed (term_at ts 1) (at_closed ts h 1))
    op_closed type (op.Compare c) es ts h =
        comparison_closed c (number_term (term_at ts 0)) (number_term (term_at ts 1)) (number_closed (term_at ts 0) (at_closed ts h 0)) (number_closed (term_at ts 1) (at_closed ts h 1))
    op_closed type (op.ComparePointers c) es ts h = pointers_closed c (term_at ts 0) (term_at ts 1) (at_closed ts h 0) (at_closed ts h 1)
    op_closed type (op.Offset minus index_first size accessed) es ts h = moved_terms_closed index_first minus size ts h
    op_closed type (op.Difference size) es ts h = difference_closed size (term_at ts 0) (term_at ts 1) (at_closed ts h 0) (at_closed ts h 1)
    op_closed type op.Convert es ts h = converted_closed p.model (kind_at type) (first_kind es) (number_term (term_at ts 0)) (number_closed (term_at ts 0) (at_closed ts h 0))
    op_closed type op.Requalify es ts h = at_closed ts h 0
    op_closed type op.Cast es ts h = converted_closed p.model (kind_at type) (first_kind es) (number_term (term_at ts 0)) (number_closed (term_at ts 0) (at_closed ts h 0))

    mutual
      node_closed : (type : CoreType) (v : t.ValueNode) → C (node_term p xs r type v)
      node_closed type (t.constant z) = refl
      node_closed type t.null = refl
      node_closed type (t.temporary n) = closed.temporaries n
      node_closed type (t.apply o es) = op_closed type o es (terms_of p xs r es) (values_closed es)
      node_closed type (t.logic c a b) = refl
      node_closed type (t.choose c a b) = refl
      node_closed type (t.effect e es) = refl

      pub value_closed : (e : t.Value) → C (term_of p xs r e)
      value_closed (t.typed what type line) = node_closed type what

      pub values_closed : (es : t.Values) → list_all is_closed_term (terms_of p xs r es) ≡ true
      values_closed t.stop = refl
      values_closed (t.more e es) = λ i. value_closed e i && values_closed es i

-- ---- slots

module _ (p : Facts) (s : Shape) (cells : FileCells) (l : ℕ) where
  kind_closed : (k : CellKind) (t u : Tree) → T t → T u → C (term_of_kind k t u)
  kind_closed (cell.Of k) t u h g = h
  kind_closed cell.Ptr t u h g = λ i. h i && g i

  variable_closed : (x : Variable) (o : Option run.Variable) → C (variable_term p s cells l x o)
  variable_closed x (Some v) =
      kind_closed (kind_of v) (leaf p s cells l (value x)) (leaf p s cells l (offset x)) (leaf_closed [] (sizes p s) l (value x)) (leaf_closed [] (sizes p s) l (offset x))
  variable_closed x None = refl

  pub slots_closed : ReadsClosed (reading_at p s cells l)
  slots_closed = record {
    locals = λ x. variable_closed (variables.Local x) (slice_get s.variables x);
    globals = λ x. variable_closed (variables.Global x) (slice_get p.globals x);
    temporaries = λ n.
        kind_closed (s.temp_kind n) (leaf p s cells l (temporary n)) (leaf p s cells l (temporary_offset n)) (leaf_closed [] (sizes p s) l (temporary n)) (leaf_closed [] (sizes p s) l (temporary_offset n));
    homes = λ x. leaf_closed [] (sizes p s) l (value (variables.Local x));
    numbers = λ k. refl;
    blocks = refl;
    offsets = refl;
  }

pub terms_are_closed : TermsAreClosed
terms_are_closed p s cells l = record {
  term = value_closed p (reading_at p s cells l) (slots_closed p s cells l) s.variables;
  terms = values_closed p (reading_at p s cells l) (slots_closed p s cells l) s.variables;
  address = λ path ts h. address_closed p (reading_at p s cells l) (slots_closed p s cells l) path ts h;
}
