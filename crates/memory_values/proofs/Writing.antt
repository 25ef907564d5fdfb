-- Terms of expressions: where what is read is written so, so is all that is made of it.
use Rattle.std.proofs.Common.{ℕ, zero, suc, ◌==◌, Bool, true, false, pos, List, [], ◌∷◌, Option, Some, None}
use Rattle.std.specs.Prelude.{if◌then◌else◌}
use Rattle.wp_base.specs.declared.kinds.Kind.{Kind}
use Rattle.wp_base.specs.declared.kinds.Kind.TheVariants as kind
use Rattle.wp_base.specs.declared.kinds.CellKind.{CellKind}
use Rattle.wp_base.specs.declared.kinds.CellKind.TheVariants as cell
use Rattle.wp_base.specs.Kinds.{is_signed}
use Rattle.c_kinds.specs.declared.models.Machdep.{Machdep}
use Rattle.c_kinds.specs.Conversions.{holds_all}
use Rattle.typed_prog.specs.declared.types.CoreType.{CoreType}
use Rattle.typed_prog.specs.declared.operators.Arithmetic.{Arithmetic}
use Rattle.typed_prog.specs.declared.operators.Arithmetic.TheVariants as ar
use Rattle.typed_prog.specs.declared.operators.Comparison.{Comparison}
use Rattle.typed_prog.specs.declared.operators.Comparison.TheVariants as cmp
use Rattle.typed_prog.specs.declared.operators.Op.{Op}
use Rattle.typed_prog.specs.declared.operators.Op.TheVariants as op
use Rattle.typed_prog.specs.declared.operators.Path.{Path}
use Rattle.typed_prog.specs.declared.operators.Root.{Root}
use Rattle.typed_prog.specs.declared.operators.Root.TheVariants as root
use Rattle.typed_prog.specs.declared.operators.Step.{Step}
use Rattle.typed_prog.specs.declared.operators.Step.TheVariants as step
use Rattle.typed_prog.specs.declared.operators.Variable.{Variable}
use Rattle.typed_prog.specs.declared.operators.Variable.TheVariants as variable
use Rattle.typed_prog.specs.Tree as t
use Rattle.qed_terms.specs.declared.head.TermOp.TheVariants as term
use Rattle.qed_terms.specs.Tree.{Tree, num}
use Rattle.memory_steps.specs.Forms.{Slots}
use Rattle.c_runs.specs.Program as run
use Rattle.c_runs.specs.Program.{Facts}
use Rattle.c_runs.specs.States.{global_home}
use Rattle.c_runs.specs.Objects.{plain_root, cell_of}
use Rattle.c_runs.specs.Values.{kind_at}
use Rattle.value_terms.specs.Readings.{Term, as_number, as_test, as_pointer, number_term, block_term, offset_term, condition, term_at, Reading, plain_global}
use Rattle.value_terms.specs.Terms.{of_one, of_two, within_term, exact_term, may_leave, arithmetic_term, comparison, narrowed, converted_term, scaled, moved_term, field_term, same_pointer_term, pointer_comparison, difference_term, home_term, start_term, stepped_term, along_term, address_term, load_term, loaded, cell_term, read_term, first_kind, moved_terms, op_term, node_term, term_of, terms_of}
use Rattle.memory_values.proofs.Heads.{Written, number_written, term_written, ite_written, not_written, and_written, equal_written, at_most_written, less_written, one_written, two_written, three_written}

pub data TermWritten (strict : Bool) (ss : List Slots) : Term → Term → Type 0 where
  number : {t u : Tree} (h : Written strict ss t u) → TermWritten strict ss (as_number t) (as_number u)
  test : {f g : Tree} (h : Written strict ss f g) → TermWritten strict ss (as_test f) (as_test g)
  pointer : {b c o p : Tree} (h : Written strict ss b c) (g : Written strict ss o p) → TermWritten strict ss (as_pointer b o) (as_pointer c p)

-- what is read
pub record ReadingWritten (strict : Bool) (ss : List Slots) (r s : Reading) : Type 0 where
  pub locals : (variable : ℕ) → TermWritten strict ss (r.locals variable) (s.locals variable)
  pub globals : (variable : ℕ) → TermWritten strict ss (r.globals variable) (s.globals variable)
  pub temporaries : (number : ℕ) → TermWritten strict ss (r.temporaries number) (s.temporaries number)
  pub flags : (variable : ℕ) → Written strict ss (r.flags variable) (s.flags variable)
  pub homes : (variable : ℕ) → Written strict ss (r.homes variable) (s.homes variable)
  pub table : Written strict ss r.table s.table
  pub numbers : (k : Kind) → Written strict ss (r.numbers k) (s.numbers k)
  pub blocks : Written strict ss r.blocks s.blocks
  pub offsets : Written strict ss r.offsets s.offsets

-- operands, by their numbers
pub record OperandsWritten (strict : Bool) (ss : List Slots) (ts us : List Term) : Type 0 where
  pub at : (i : ℕ) → TermWritten strict ss (term_at ts i) (term_at us i)

zero_written : {strict : Bool} {ss : List Slots} → Written strict ss (num (pos 0)) (num (pos 0))
zero_written = number_written (pos 0)

module _ {strict : Bool} {ss : List Slots} where
  -- ---- parts of a term

  pub number_part : {a b : Term} → TermWritten strict ss a b → Written strict ss (number_term a) (number_term b)
  number_part (number h) = h
  number_part (test h) = ite_written h (number_written (pos 1)) zero_written
  number_part (pointer h g) = zero_written

  pub block_part : {a b : Term} → TermWritten strict ss a b → Written strict ss (block_term a) (block_term b)
  block_part (number h) = zero_written
  block_part (test h) = zero_written
  block_part (pointer h g) = h

  pub offset_part : {a b : Term} → TermWritten strict ss a b → Written strict ss (offset_term a) (offset_term b)
  offset_part (number h) = zero_written
  offset_part (test h) = zero_written
  offset_part (pointer h g) = g

  pub condition_part : {a b : Term} → TermWritten strict ss a b → Written strict ss (condition a) (condition b)
  condition_part (number h) = not_written (equal_written h zero_written)
  condition_part (test h) = h
  condition_part (pointer h g) = not_written (and_written (two_written (equal_written h zero_written) (equal_written g zero_written)))

  -- ---- integers

  within_written : (k : Kind) {t u : Tree} → Written strict ss t u → Written strict ss (within_term k t) (within_term k u)
  within_written k {t = t} {u = u} h = by_sign (is_signed k)
    where
      by_sign : (s : Bool) → Written strict ss (if s then t else of_one (term.Wrap k) t) (if s then u else of_one (term.Wrap k) u)
      by_sign true = h
      by_sign false = term_written (term.Wrap k) (one_written h)

  pub exact_written : (o : Arithmetic) {t u v w : Tree} → Written strict ss t u → Written strict ss v w → Written strict ss (exact_term o t v) (exact_term o u w)
  exact_written ar.Mul h g = term_written term.Mul (two_written h g)
  exact_written ar.Div h g = term_written term.Div (two_written h g)
  exact_written ar.Rem h g = term_written term.Mod (two_written h g)
  exact_written ar.Add h g = term_written term.Add (two_written h g)
  exact_written ar.Sub h g = term_written term.Sub (two_written h g)
  exact_written ar.Shl h g = term_written term.ShiftLeft (two_written h g)
  exact_written ar.Shr h g = term_written term.ShiftRight (two_written h g)
  exact_written ar.And h g = term_written term.BitAnd (two_written h g)
  exact_written ar.Xor h g = term_written term.BitXor (two_written h g)
  exact_written ar.Or h g = term_written term.BitOr (two_written h g)

  arithmetic_written : (k : Kind) (o : Arithmetic) {t u v w : Tree} → Written strict ss t u → Written strict ss v w → Written strict ss (arithmetic_term k o t v) (arithmetic_term k o u w)
  arithmetic_written k o {t = t} {u = u} {v = v} {w = w} h g = by_test (may_leave o)
    where
      by_test : (b : Bool) → Written strict ss (if b then within_term k (exact_term o t v) else exact_term o t v) (if b then within_term k (exact_term o u w) else exact_term o u w)
      by_test true = within_written k (exact_written o h g)
      by_test false = exact_written o h g

  comparison_written : (c : Comparison) {t u v w : Tree} → Written strict ss t u → Written strict ss v w → Written strict ss (comparison c t v) (comparison c u w)
  comparison_written cmp.Less h g = less_written h g
  comparison_written cmp.AtMost h g = at_most_written h g
  comparison_written cmp.Greater h g = less_written g h
  comparison_written cmp.AtLeast h g = at_most_written g h
  comparison_written cmp.Equal h g = equal_written h g
  comparison_written cmp.NotEqual h g = not_written (equal_written h g)

  narrowed_written : (k : Kind) {t u : Tree} → Written strict ss t u → Written strict ss (narrowed k t) (narrowed k u)
  narrowed_written kind.Bool h = ite_written (equal_written h zero_written) zero_written (number_written (pos 1))
  narrowed_written kind.Char h = term_written (term.Wrap kind.Char) (one_written h)
  narrowed_written kind.SChar h = term_written (term.Wrap kind.SChar) (one_written h)
  narrowed_written kind.UChar h = term_written (term.Wrap kind.UChar) (one_written h)
  narrowed_written kind.Short h = term_written (term.Wrap kind.Short) (one_written h)
  narrowed_written kind.UShort h = term_written (term.Wrap kind.UShort) (one_written h)
  narrowed_written kind.Int h = term_written (term.Wrap kind.Int) (one_written h)
  narrowed_written kind.UInt h = term_written (term.Wrap kind.UInt) (one_written h)
  narrowed_written kind.Long h = term_written (term.Wrap kind.Long) (one_written h)
  narrowed_written kind.ULong h = term_written (term.Wrap kind.ULong) (one_written h)
  narrowed_written kind.LLong h = term_written (term.Wrap kind.LLong) (one_written h)
  narrowed_written kind.ULLong h = term_written (term.Wrap kind.ULLong) (one_written h)

  converted_written : (m : Machdep) (k l : Kind) {t u : Tree} → Written strict ss t u → Written strict ss (converted_term m k l t) (converted_term m k l u)
  converted_written m k l {t = t} {u = u} h = by_test (holds_all m k l)
    where
      by_test : (b : Bool) → Written strict ss (if b then t else narrowed k t) (if b then u else narrowed k u)
      by_test true = h
      by_test false = narrowed_written k h

  -- ---- pointers

  scaled_written : (size : ℕ) {t u : Tree} → Written strict ss t u → Written strict ss (scaled size t) (scaled size u)
  scaled_written size {t = t} {u = u} h = by_test (size == 1)
    where
      by_test : (b : Bool) → Written strict ss (if b then t else of_two term.Mul (num (pos size)) t) (if b then u else of_two term.Mul (num (pos size)) u)
      by_test true = h
      by_test false = term_written term.Mul (two_written (number_written (pos size)) h)

  moved_written : (minus : Bool) (size : ℕ) {a b c d : Term} → TermWritten strict ss a b → TermWritten strict ss c d → TermWritten strict ss (moved_term minus size a c) (moved_term minus size b d)
  moved_written true size h g = pointer (block_part h) (term_written term.Sub (two_written (offset_part h) (scaled_written size (number_part g))))
  moved_written false size h g = pointer (block_part h) (term_written term.Add (two_written (offset_part h) (scaled_written size (number_part g))))

  field_written : (k : ℕ) {a b : Term} → TermWritten strict ss a b → TermWritten strict ss (field_term k a) (field_term k b)
  field_written zero h = pointer (block_part h) (offset_part h)
  field_written (suc k) h = pointer (block_part h) (term_written term.Add (two_written (offset_part h) (number_written (pos (suc k)))))

  same_written : {a b c d : Term} → TermWritten strict ss a b → TermWritten strict ss c d → Written strict ss (same_pointer_term a c) (same_pointer_term b d)
  same_written h g = and_written (two_written (equal_written (block_part h) (block_part g)) (equal_written (offset_part h) (offset_part g)))

  pointers_written : (c : Comparison) {a b d e : Term} → TermWritten strict ss a b → TermWritten strict ss d e → Written strict ss (pointer_comparison c a d) (pointer_comparison c b e)
  pointers_written cmp.Less h g = less_written (offset_part h) (offset_part g)
  pointers_written cmp.AtMost h g = at_most_written (offset_part h) (offset_part g)
  pointers_written cmp.Greater h g = less_written (offset_part g) (offset_part h)
  pointers_written cmp.AtLeast h g = at_most_written (offset_part g) (offset_part h)
  pointers_written cmp.Equal h g = same_written h g
  pointers_written cmp.NotEqual h g = not_written (same_written h g)

  difference_written : (size : ℕ) {a b c d : Term} → TermWritten strict ss a b → TermWritten strict ss c d → Written strict ss (difference_term size a c) (difference_term size b d)
  difference_written size {a = a} {b = b} {c = c} {d = d} h g = by_test (size == 1)
    where
      cells : Written strict ss (of_two term.Sub (offset_term a) (offset_term c)) (of_two term.Sub (offset_term b) (offset_term d))
      cells = term_written term.Sub (two_written (offset_part h) (offset_part g))

      by_test : (x : Bool) → Written strict ss (if x then of_two term.Sub (offset_term a) (offset_term c) else of_two term.Div (of_two term.Sub (offset_term a) (offset_term c)) (num (pos size)))
          (if x then of_two term.Sub (offset_term b) (offset_term d) else of_two term.Div (of_two term.Sub (offset_term b) (offset_term d)) (num (pos size)))
      by_test true = cells
      by_test false = term_written term.Div (two_written cells (number_written (pos size)))

  -- ---- operations

  module _ (p : Facts) (xs : List run.Variable) {r s : Reading} (well : ReadingWritten strict ss r s) where
    home_written : (x : Variable) → Written strict ss (home_term p r x) (home_term p s x)
    home_written (variable.Global x) = number_written (global_home p x)
    home_written (variable.Local x) = well.homes x

    start_written : (o : Root) {ts us : List Term} → OperandsWritten strict ss ts us → TermWritten strict ss (start_term p r o ts) (start_term p s o us)
    start_written (root.Variable x) h = pointer (home_written x) zero_written
    start_written (root.Pointed n) h = h.at n

    stepped_written : (q : Step) {ts us : List Term} {a b : Term} → OperandsWritten strict ss ts us → TermWritten strict ss a b → TermWritten strict ss (stepped_term p r ts q a) (stepped_term p s us q b)
    stepped_written (step.Field n offset) h g = field_written offset g
    stepped_written (step.Element operand size count line) h g = moved_written false size g (h.at operand)
    stepped_written (step.Moved operand size) h g = moved_written false size g (h.at operand)

    along_written : (qs : List Step) {ts us : List Term} {a b : Term} → OperandsWritten strict ss ts us → TermWritten strict ss a b → TermWritten strict ss (along_term p r ts qs a) (along_term p s us qs b)
    along_written [] h g = g
    along_written (q ∷ qs) h g = along_written qs h (stepped_written q h g)

    pub address_written : (path : Path) {ts us : List Term} → OperandsWritten strict ss ts us → TermWritten strict ss (address_term p r path ts) (address_term p s path us)
    address_written path h = along_written path.steps h (start_written path.root h)

    load_written : {m n : Tree} {a b : Term} → Written strict ss m n → TermWritten strict ss a b → Written strict ss (load_term p r m a) (load_term p s n b)
    load_written w h = term_written term.Load (three_written w (block_part h) (offset_part h))

    loaded_written : (k : CellKind) {a b : Term} → TermWritten strict ss a b → TermWritten strict ss (loaded p r k a) (loaded p s k b)
    loaded_written (cell.Of k) h = number (load_written (well.numbers k) h)
    loaded_written cell.Ptr h = pointer (load_written well.blocks h) (load_written well.offsets h)

    pub cell_written : (o : Option ℕ) (type : CoreType) (path : Path) {ts us : List Term} → OperandsWritten strict ss ts us → TermWritten strict ss (cell_term p r o type path ts) (cell_term p s o type path us)
    cell_written (Some x) type path h = well.globals x
    cell_written None type path h = loaded_written (cell_of type) (address_written path h)

    read_written : (o : Option ℕ) (type : CoreType) (path : Path) {ts us : List Term} → OperandsWritten strict ss ts us → TermWritten strict ss (read_term p r o type path ts) (read_term p s o type path us)
    read_written (Some x) type path h = well.locals x
    read_written None type path h = cell_written (plain_global p.globals path.root) type path h

    pub moved_both : (index_first minus : Bool) (size : ℕ) {ts us : List Term} → OperandsWritten strict ss ts us → TermWritten strict ss (moved_terms index_first minus size ts) (moved_terms index_first minus size us)
    moved_both true minus size h = moved_written minus size (h.at 1) (h.at 0)
    moved_both false minus size h = moved_written minus size (h.at 0) (h.at 1)

    pub op_written : (type : CoreType) (o : Op) (es : t.Values) {ts us : List Term} → OperandsWritten strict ss ts us → TermWritten strict ss (op_term p xs r type o es ts) (op_term p xs s type o es us)
    unfolding op_term
    op_written type (op.Read path) es h = read_written (plain_root xs path.root) type path h
    op_written type (op.Address path accessed) es h = address_written path h
    op_written type (op.Decay path accessed) es h = address_written path h
    op_written type op.Negate es h = number (within_written (kind_at type) (term_written term.Neg (one_written (number_part (h.at 0)))))
    op_written type op.Complement es h = number (within_written (kind_at type) (term_written term.BitNot (one_written (number_part (h.at 0)))))
    op_written type op.Not es h = test (not_written (condition_part (h.at 0)))
    op_written type (op.Arithmetic o) es h = number (arithmetic_written (kind_at type) o (number_part (h.at 0)) (number_part (h.at 1)))
    op_written type (op.Compare c) es h = test (comparison_written c (number_part (h.at 0)) (number_part (h.at 1)))
    op_written type (op.ComparePointers c) es h = test (pointers_written c (h.at 0) (h.at 1))
    op_written type (op.Offset minus index_first size accessed) es h = moved_both index_first minus size h
    op_written type (op.Difference size) es h = number (difference_written size (h.at 0) (h.at 1))
    op_written type op.Convert es h = number (converted_written p.model (kind_at type) (first_kind es) (number_part (h.at 0)))
    op_written type op.Requalify es h = h.at 0
    op_written type op.Cast es h = number (converted_written p.model (kind_at type) (first_kind es) (number_part (h.at 0)))

    mutual
      node_written : (type : CoreType) (what : t.ValueNode) → TermWritten strict ss (node_term p xs r type what) (node_term p xs s type what)
      node_written type (t.constant z) = number (number_written z)
      node_written type t.null = pointer zero_written zero_written
      node_written type (t.temporary n) = well.temporaries n
      node_written type (t.apply o es) = op_written type o es (record { at = kids_written es })
      node_written type (t.logic c a b) = number zero_written
      node_written type (t.choose c a b) = number zero_written
      node_written type (t.effect e es) = number zero_written

      pub value_written : (e : t.Value) → TermWritten strict ss (term_of p xs r e) (term_of p xs s e)
      value_written (t.typed what type l) = node_written type what

      pub kids_written : (es : t.Values) (i : ℕ) → TermWritten strict ss (term_at (terms_of p xs r es) i) (term_at (terms_of p xs s es) i)
      kids_written t.stop i = number zero_written
      kids_written (t.more e es) zero = value_written e
      kids_written (t.more e es) (suc i) = kids_written es i
