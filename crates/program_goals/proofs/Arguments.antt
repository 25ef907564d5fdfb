-- Terms of arguments are terms for integers that aren't taken for memories: none of them is a name but those that the reading has.
use Rattle.std.proofs.Common.{◌≡◌, ℕ, zero, suc, ◌==◌, Bool, true, false, if◌then◌else◌, List, [], ◌∷◌, Option, Some, None, refl, sym, ◌∙◌}
use Rattle.std.specs.Prelude.{pos}
use Rattle.std.proofs.lemmas.Bool.{false≢true, and_parts}
use Rattle.wp_base.specs.declared.kinds.CellKind.{CellKind}
use Rattle.wp_base.specs.declared.kinds.CellKind.TheVariants as cell
use Rattle.wp_base.specs.declared.kinds.Kind.{Kind}
use Rattle.wp_base.specs.declared.kinds.Kind.TheVariants as kind
use Rattle.c_kinds.specs.declared.models.Machdep.{Machdep}
use Rattle.wp_base.specs.Kinds.{is_signed}
use Rattle.c_kinds.specs.Conversions.{holds_all}
use Rattle.typed_prog.specs.declared.types.CoreType.{CoreType}
use Rattle.typed_prog.specs.declared.operators.Arithmetic.{Arithmetic}
use Rattle.typed_prog.specs.declared.operators.Arithmetic.TheVariants as ar
use Rattle.typed_prog.specs.declared.operators.Op.{Op}
use Rattle.typed_prog.specs.declared.operators.Op.TheVariants as op
use Rattle.typed_prog.specs.declared.operators.Path.{Path}
use Rattle.typed_prog.specs.declared.operators.Root.{Root}
use Rattle.typed_prog.specs.declared.operators.Root.TheVariants as root
use Rattle.typed_prog.specs.declared.operators.Step.{Step}
use Rattle.typed_prog.specs.declared.operators.Step.TheVariants as way
use Rattle.typed_prog.specs.Tree as t
use Rattle.qed_terms.specs.declared.head.TermOp.{TermOp}
use Rattle.qed_terms.specs.declared.head.TermOp.TheVariants as term
use Rattle.qed_terms.specs.declared.head.Head.TheVariants as h
use Rattle.qed_terms.specs.Tree.{Tree, node, num}
use Rattle.qed_terms.specs.WellFormed.{fits, int, argument}
use Rattle.c_runs.specs.Program.{Facts}
use Rattle.c_runs.specs.Program as run
use Rattle.c_runs.specs.Objects.{plain_root, cell_of}
use Rattle.c_runs.specs.Values.{kind_at}
use Rattle.acsl_encode.specs.WellFormed.{IsInt}
use Rattle.value_terms.specs.Readings.{Term, number_term, offset_term, term_at, term_fits, plain_global, Reading}
use Rattle.value_terms.specs.Terms.{of_one, of_two, within_term, exact_term, may_leave, arithmetic_term, narrowed, converted_term, difference_term, first_kind, moved_terms, moved_term, field_term, start_term, stepped_term, along_term, address_term, loaded, cell_term, read_term, op_term, node_term, term_of, terms_of}
use Rattle.program_goals.proofs.Writes.{number_fits}

-- a name, and whether one may be given as an integer
abbrev is_var : Tree → Bool
is_var (node (h.Var x s) ts) = true
is_var (node head ts) = false

abbrev pub IsPlain : Tree → Type 0
IsPlain u = is_var u ≡ true → fits argument u ≡ true

abbrev pub PlainTerm : Term → Type 0
PlainTerm a = IsPlain (number_term a)

-- a term for an integer that is no name may be given
no_name : (u : Tree) → is_var u ≡ false → fits int u ≡ true → fits argument u ≡ true
no_name (node (h.Num z) ts) n e = e
no_name (node (h.Var x s) ts) n e = absurd (false≢true (sym n))
no_name (node (h.Term o) ts) n e = by o e where
  by : (o : TermOp) → fits int (node (h.Term o) ts) ≡ true → fits argument (node (h.Term o) ts) ≡ true
  by term.Add e = e
  by term.Sub e = e
  by term.Mul e = e
  by term.Neg e = e
  by term.Div e = e
  by term.Mod e = e
  by (term.Wrap k) e = e
  by term.ShiftLeft e = e
  by term.ShiftRight e = e
  by term.BitAnd e = e
  by term.BitOr e = e
  by term.BitXor e = e
  by term.BitNot e = e
  by term.Load e = e
  by term.Count e = e
  by term.Len e = e
  by term.Store e = absurd (false≢true e)
  by (term.Alloc layout) e = absurd (false≢true e)
  by term.Grow e = absurd (false≢true e)
no_name (node h.Ite ts) n e = e
no_name (node (h.App f) ts) n e = e
no_name (node (h.Form o) ts) n e = absurd (false≢true e)
no_name (node h.True ts) n e = absurd (false≢true e)
no_name (node h.False ts) n e = absurd (false≢true e)
no_name (node h.Not ts) n e = absurd (false≢true e)
no_name (node h.And ts) n e = absurd (false≢true e)
no_name (node h.Or ts) n e = absurd (false≢true e)
no_name (node h.Imp ts) n e = absurd (false≢true e)
no_name (node h.Iff ts) n e = absurd (false≢true e)
no_name (node (h.Forall x) ts) n e = absurd (false≢true (and_parts _ _ (and_parts _ _ e).0).1)
no_name (node (h.Exists x) ts) n e = absurd (false≢true (and_parts _ _ (and_parts _ _ e).0).1)

pub given_int : (a : Term) → term_fits a ≡ true → PlainTerm a → IsInt (number_term a)
given_int a fit plain = record { int = number_fits a fit; argument = by (is_var (number_term a)) refl } where
  by : (b : Bool) → is_var (number_term a) ≡ b → fits argument (number_term a) ≡ true
  by true e = plain e
  by false e = no_name (number_term a) e (number_fits a fit)

-- ---- operators

abbrev AllPlain : List Term → Type 0
AllPlain ts = (i : ℕ) → PlainTerm (term_at ts i)

within_plain : (k : Kind) (u : Tree) → is_var u ≡ false → IsPlain (within_term k u)
within_plain k u n = by (is_signed k) where
  by : (b : Bool) → IsPlain (if b then u else of_one (term.Wrap k) u)
  by true e = absurd (false≢true (sym n ∙ e))
  by false e = absurd (false≢true e)

exact_plain : (o : Arithmetic) (t u : Tree) → is_var (exact_term o t u) ≡ false
exact_plain ar.Mul t u = refl
exact_plain ar.Div t u = refl
exact_plain ar.Rem t u = refl
exact_plain ar.Add t u = refl
exact_plain ar.Sub t u = refl
exact_plain ar.Shl t u = refl
exact_plain ar.Shr t u = refl
exact_plain ar.And t u = refl
exact_plain ar.Xor t u = refl
exact_plain ar.Or t u = refl

arithmetic_plain : (k : Kind) (o : Arithmetic) (t u : Tree) → IsPlain (arithmetic_term k o t u)
arithmetic_plain k o t u = by (may_leave o) where
  by : (b : Bool) → IsPlain (if b then within_term k (exact_term o t u) else exact_term o t u)
  by true = within_plain k (exact_term o t u) (exact_plain o t u)
  by false = λ e. absurd (false≢true (sym (exact_plain o t u) ∙ e))

narrowed_plain : (k : Kind) (u : Tree) → is_var (narrowed k u) ≡ false
narrowed_plain kind.Bool u = refl
narrowed_plain kind.Char u = refl
narrowed_plain kind.SChar u = refl
narrowed_plain kind.UChar u = refl
narrowed_plain kind.Short u = refl
narrowed_plain kind.UShort u = refl
narrowed_plain kind.Int u = refl
narrowed_plain kind.UInt u = refl
narrowed_plain kind.Long u = refl
narrowed_plain kind.ULong u = refl
narrowed_plain kind.LLong u = refl
narrowed_plain kind.ULLong u = refl

converted_plain : (m : Machdep) (k l : Kind) (u : Tree) → IsPlain u → IsPlain (converted_term m k l u)
converted_plain m k l u h = by (holds_all m k l) where
  by : (b : Bool) → IsPlain (if b then u else narrowed k u)
  by true = h
  by false = λ e. absurd (false≢true (sym (narrowed_plain k u) ∙ e))

difference_plain : (size : ℕ) (a b : Term) → IsPlain (difference_term size a b)
difference_plain size a b = by (size == 1) where
  by : (t : Bool) → IsPlain (if t then of_two term.Sub (offset_term a) (offset_term b) else of_two term.Div (of_two term.Sub (offset_term a) (offset_term b)) (num (pos size)))
  by true e = absurd (false≢true e)
  by false e = absurd (false≢true e)

moved_plain : (minus : Bool) (size : ℕ) (a i : Term) → PlainTerm (moved_term minus size a i)
moved_plain true size a i e = absurd (false≢true e)
moved_plain false size a i e = absurd (false≢true e)

field_plain : (n : ℕ) (a : Term) → PlainTerm (field_term n a)
field_plain zero a e = absurd (false≢true e)
field_plain (suc n) a e = absurd (false≢true e)

module _ (p : Facts) (xs : List run.Variable) (r : Reading) (locals : (x : ℕ) → PlainTerm (r.locals x)) (globals : (x : ℕ) → PlainTerm (r.globals x))
    (temporaries : (n : ℕ) → PlainTerm (r.temporaries n)) where
  stepped_plain : (ts : List Term) (s : Step) (a : Term) → PlainTerm (stepped_term p r ts s a)
  stepped_plain ts (way.Field n offset) a = field_plain offset a
  stepped_plain ts (way.Element operand size count line) a = moved_plain false size a (term_at ts operand)
  stepped_plain ts (way.Moved operand size) a = moved_plain false size a (term_at ts operand)

  along_plain : (ts : List Term) (ss : List Step) (a : Term) → PlainTerm a → PlainTerm (along_term p r ts ss a)
  along_plain ts [] a h = h
  along_plain ts (s ∷ ss) a h = along_plain ts ss (stepped_term p r ts s a) (stepped_plain ts s a)

  start_plain : (o : Root) (ts : List Term) → AllPlain ts → PlainTerm (start_term p r o ts)
  start_plain (root.Variable x) ts h = λ e. absurd (false≢true e)
  start_plain (root.Pointed n) ts h = h n

  address_plain : (path : Path) (ts : List Term) → AllPlain ts → PlainTerm (address_term p r path ts)
  address_plain path ts h = along_plain ts path.steps (start_term p r path.root ts) (start_plain path.root ts h)

  loaded_plain : (k : CellKind) (a : Term) → PlainTerm (loaded p r k a)
  loaded_plain (cell.Of k) a e = absurd (false≢true e)
  loaded_plain cell.Ptr a e = absurd (false≢true e)

  cell_plain : (o : Option ℕ) (type : CoreType) (path : Path) (ts : List Term) → PlainTerm (cell_term p r o type path ts)
  cell_plain (Some x) type path ts = globals x
  cell_plain None type path ts = loaded_plain (cell_of type) (address_term p r path ts)

  read_plain : (o : Option ℕ) (type : CoreType) (path : Path) (ts : List Term) → PlainTerm (read_term p r o type path ts)
  read_plain (Some x) type path ts = locals x
  read_plain None type path ts = cell_plain (plain_global p.globals path.root) type path ts

  moved_terms_plain : (index_first minus : Bool) (size : ℕ) (ts : List Term) → PlainTerm (moved_terms index_first minus size ts)
  moved_terms_plain true minus size ts = moved_plain minus size (term_at ts 1) (term_at ts 0)
  moved_terms_plain false minus size ts = moved_plain minus size (term_at ts 0) (term_at ts 1)

  op_plain : (type : CoreType) (o : Op) (es : t.Values) (ts : List Term) → AllPlain ts → PlainTerm (op_term p xs r type o es ts)
  unfolding op_term
  op_plain type (op.Read path) es ts h = read_plain (plain_root xs path.root) type path ts
  op_plain type (op.Address path accessed) es ts h = address_plain path ts h
  op_plain type (op.Decay path accessed) es ts h = address_plain path ts h
  op_plain type op.Negate es ts h = within_plain (kind_at type) (of_one term.Neg (number_term (term_at ts 0))) refl
  op_plain type op.Complement es ts h = within_plain (kind_at type) (of_one term.BitNot (number_term (term_at ts 0))) refl
  op_plain type op.Not es ts h = λ e. absurd (false≢true e)
  op_plain type (op.Arithmetic o) es ts h = arithmetic_plain (kind_at type) o (number_term (term_at ts 0)) (number_term (term_at ts 1))
  op_plain type (op.Compare c) es ts h = λ e. absurd (false≢true e)
  op_plain type (op.ComparePointers c) es ts h = λ e. absurd (false≢true e)
  op_plain type (op.Offset minus index_first size accessed) es ts h = moved_terms_plain index_first minus size ts
  op_plain type (op.Difference size) es ts h = difference_plain size (term_at ts 0) (term_at ts 1)
  op_plain type op.Convert es ts h = converted_plain p.model (kind_at type) (first_kind es) (number_term (term_at ts 0)) (h 0)
  op_plain type op.Requalify es ts h = h 0
  op_plain type op.Cast es ts h = converted_plain p.model (kind_at type) (first_kind es) (number_term (term_at ts 0)) (h 0)

  mutual
    node_plain : (type : CoreType) (what : t.ValueNode) → PlainTerm (node_term p xs r type what)
    node_plain type (t.constant z) = λ e. absurd (false≢true e)
    node_plain type t.null = λ e. absurd (false≢true e)
    node_plain type (t.temporary n) = temporaries n
    node_plain type (t.apply o es) = op_plain type o es (terms_of p xs r es) (terms_plain es)
    node_plain type (t.logic c a b) = λ e. absurd (false≢true e)
    node_plain type (t.choose c a b) = λ e. absurd (false≢true e)
    node_plain type (t.effect c es) = λ e. absurd (false≢true e)

    term_plain : (e : t.Value) → PlainTerm (term_of p xs r e)
    term_plain (t.typed what type l) = node_plain type what

    pub terms_plain : (es : t.Values) (i : ℕ) → PlainTerm (term_at (terms_of p xs r es) i)
    terms_plain t.stop i = λ e. absurd (false≢true e)
    terms_plain (t.more e es) zero = term_plain e
    terms_plain (t.more e es) (suc i) = terms_plain es i
