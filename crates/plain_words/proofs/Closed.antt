-- Typed operands without pointers have closed terms, where all that they read has.
use Rattle.std.proofs.Common.{◌≡◌, ℕ, zero, suc, Bool, true, false, ◌&&◌, List, [], refl, sym, ◌∙◌}
use Rattle.std.specs.Prelude.{Option, Some, None, if◌then◌else◌}
use Rattle.std.proofs.lemmas.Bool.{false≢true}
use Rattle.wp_base.specs.declared.kinds.Kind.{Kind}
use Rattle.wp_base.specs.declared.kinds.Kind.TheVariants as kind
use Rattle.wp_base.specs.Kinds.{is_signed}
use Rattle.c_kinds.specs.declared.models.Machdep.{Machdep}
use Rattle.c_kinds.specs.Conversions.{holds_all}
use Rattle.typed_prog.specs.declared.types.CoreType.{CoreType}
use Rattle.typed_prog.specs.declared.operators.Arithmetic.{Arithmetic}
use Rattle.typed_prog.specs.declared.operators.Arithmetic.TheVariants as ar
use Rattle.typed_prog.specs.declared.operators.Comparison.{Comparison}
use Rattle.typed_prog.specs.declared.operators.Comparison.TheVariants as cmp
use Rattle.typed_prog.specs.declared.operators.Op.{Op}
use Rattle.typed_prog.specs.declared.operators.Op.TheVariants as op
use Rattle.typed_prog.specs.declared.operators.Path.{Path}
use Rattle.typed_prog.specs.Tree as t
use Rattle.qed_terms.specs.declared.head.TermOp.{TermOp}
use Rattle.qed_terms.specs.declared.head.TermOp.TheVariants as term
use Rattle.qed_terms.specs.Tree.{Tree}
use Rattle.c_runs.specs.Program.{Variable, Facts}
use Rattle.c_runs.specs.Objects.{plain_root}
use Rattle.c_runs.specs.Values.{kind_at}
use Rattle.plain_states.specs.Slots.{value_slot, local_value, temp_slot}
use Rattle.plain_runs.specs.Fitting.{Shape, sizes}
use Rattle.value_terms.specs.Readings.{Term, as_number, as_test, as_pointer, number_term, condition, term_at, Reading, plain_global}
use Rattle.value_terms.specs.Terms.{of_one, of_two, within_term, exact_term, may_leave, arithmetic_term, comparison, narrowed, converted_term, cell_term, read_term, first_kind, op_term, node_term, term_of, terms_of}
use Rattle.value_terms.specs.Typed.{Scope, CellIsTyped, ReadIsTyped, OpIsTyped, NodeIsTyped, IsTyped, AreTyped, kind_given}
use Rattle.loop_words.specs.Told.{is_closed, Temporaries, scope_at}
use Rattle.loop_words.proofs.Told.{leaf_closed}
use Rattle.call_words.specs.Callee.{reading_at, terms_at}

abbrev pub IsClosed : Tree → Type 0
IsClosed u = is_closed [] u ≡ true

pub data TermIsClosed : Term → Type 0 where
  number : {u : Tree} (h : IsClosed u) → TermIsClosed (as_number u)
  test : {f : Tree} (h : IsClosed f) → TermIsClosed (as_test f)
  pointer : {b o : Tree} (h : IsClosed b) (g : IsClosed o) → TermIsClosed (as_pointer b o)

pub number_part : {a : Term} → TermIsClosed a → IsClosed (number_term a)
number_part (number h) = h
number_part (test h) = λ i. h i && true
number_part (pointer h g) = refl

pub condition_part : {a : Term} → TermIsClosed a → IsClosed (condition a)
condition_part (number h) = λ i. (h i && true) && true
condition_part (test h) = h
condition_part (pointer h g) = λ i. ((h i && true) && ((g i && true) && true)) && true

-- ---- integers

one_closed : (o : TermOp) (u : Tree) → IsClosed u → IsClosed (of_one o u)
one_closed o u h = λ i. h i && true

two_closed : (o : TermOp) (u w : Tree) → IsClosed u → IsClosed w → IsClosed (of_two o u w)
two_closed o u w h g = λ i. h i && (g i && true)

within_closed : (k : Kind) (u : Tree) → IsClosed u → IsClosed (within_term k u)
within_closed k u h = by (is_signed k)
  where
    by : (b : Bool) → IsClosed (if b then u else of_one (term.Wrap k) u)
    by true = h
    by false = one_closed (term.Wrap k) u h

pub exact_closed : (o : Arithmetic) (u w : Tree) → IsClosed u → IsClosed w → IsClosed (exact_term o u w)
exact_closed ar.Mul u w h g = two_closed term.Mul u w h g
exact_closed ar.Div u w h g = two_closed term.Div u w h g
exact_closed ar.Rem u w h g = two_closed term.Mod u w h g
exact_closed ar.Add u w h g = two_closed term.Add u w h g
exact_closed ar.Sub u w h g = two_closed term.Sub u w h g
exact_closed ar.Shl u w h g = two_closed term.ShiftLeft u w h g
exact_closed ar.Shr u w h g = two_closed term.ShiftRight u w h g
exact_closed ar.And u w h g = two_closed term.BitAnd u w h g
exact_closed ar.Xor u w h g = two_closed term.BitXor u w h g
exact_closed ar.Or u w h g = two_closed term.BitOr u w h g

arithmetic_closed : (k : Kind) (o : Arithmetic) (u w : Tree) → IsClosed u → IsClosed w → IsClosed (arithmetic_term k o u w)
arithmetic_closed k o u w h g = by (may_leave o)
  where
    by : (b : Bool) → IsClosed (if b then within_term k (exact_term o u w) else exact_term o u w)
    by true = within_closed k (exact_term o u w) (exact_closed o u w h g)
    by false = exact_closed o u w h g

comparison_closed : (c : Comparison) (u w : Tree) → IsClosed u → IsClosed w → IsClosed (comparison c u w)
comparison_closed cmp.Less u w h g = λ i. h i && (g i && true)
comparison_closed cmp.AtMost u w h g = λ i. h i && (g i && true)
comparison_closed cmp.Greater u w h g = λ i. g i && (h i && true)
comparison_closed cmp.AtLeast u w h g = λ i. g i && (h i && true)
comparison_closed cmp.Equal u w h g = λ i. h i && (g i && true)
comparison_closed cmp.NotEqual u w h g = λ i. (h i && (g i && true)) && true

narrowed_closed : (k : Kind) (u : Tree) → IsClosed u → IsClosed (narrowed k u)
narrowed_closed kind.Bool u h = λ i. (h i && true) && true
narrowed_closed kind.Char u h = one_closed (term.Wrap kind.Char) u h
narrowed_closed kind.SChar u h = one_closed (term.Wrap kind.SChar) u h
narrowed_closed kind.UChar u h = one_closed (term.Wrap kind.UChar) u h
narrowed_closed kind.Short u h = one_closed (term.Wrap kind.Short) u h
narrowed_closed kind.UShort u h = one_closed (term.Wrap kind.UShort) u h
narrowed_closed kind.Int u h = one_closed (term.Wrap kind.Int) u h
narrowed_closed kind.UInt u h = one_closed (term.Wrap kind.UInt) u h
narrowed_closed kind.Long u h = one_closed (term.Wrap kind.Long) u h
narrowed_closed kind.ULong u h = one_closed (term.Wrap kind.ULong) u h
narrowed_closed kind.LLong u h = one_closed (term.Wrap kind.LLong) u h
narrowed_closed kind.ULLong u h = one_closed (term.Wrap kind.ULLong) u h

converted_closed : (m : Machdep) (k l : Kind) (u : Tree) → IsClosed u → IsClosed (converted_term m k l u)
converted_closed m k l u h = by (holds_all m k l)
  where
    by : (b : Bool) → IsClosed (if b then u else narrowed k u)
    by true = h
    by false = narrowed_closed k u h

-- ---- expressions

module _ (p : Facts) (xs : List Variable) (s : Scope) (none : s.has_blocks ≡ false) (r : Reading) (locals : (x : ℕ) → TermIsClosed (r.locals x)) (globals : (x : ℕ) → TermIsClosed (r.globals x))
    (temporaries : (n : ℕ) → TermIsClosed (r.temporaries n)) where
  no_blocks : s.has_blocks ≡ true → ⊥
  no_blocks h = false≢true (sym none ∙ h)

  cell_closed : (o : Option ℕ) (type : CoreType) (path : Path) (ts : List Term) → CellIsTyped p xs s o path.root path.steps (kind_given type) → TermIsClosed (cell_term p r o type path ts)
  cell_closed (Some x) type path ts h = globals x
  cell_closed None type path ts h = absurd (no_blocks h.0)

  read_closed : (o : Option ℕ) (type : CoreType) (path : Path) (ts : List Term) → ReadIsTyped p xs s o type path → TermIsClosed (read_term p r o type path ts)
  read_closed (Some x) type path ts h = locals x
  read_closed None type path ts h = cell_closed (plain_global p.globals path.root) type path ts h.1

  pub op_closed : (type : CoreType) (o : Op) (es : t.Values) (ts : List Term) → ((i : ℕ) → TermIsClosed (term_at ts i)) → OpIsTyped p xs s type o es → TermIsClosed (op_term p xs r type o es ts)
  unfolding op_term
  op_closed type (op.Read path) es ts at h = read_closed (plain_root xs path.root) type path ts h
  op_closed type (op.Address path accessed) es ts at h = absurd (no_blocks h.1)
  op_closed type (op.Decay path accessed) es ts at h = absurd (no_blocks h.1)
  op_closed type op.Negate es ts at h =
      number (within_closed (kind_at type) (of_one term.Neg (number_term (term_at ts 0))) (one_closed term.Neg (number_term (term_at ts 0)) (number_part (at 0))))
  op_closed type op.Complement es ts at h =
      number (within_closed (kind_at type) (of_one term.BitNot (number_term (term_at ts 0))) (one_closed term.BitNot (number_term (term_at ts 0)) (number_part (at 0))))
  op_closed type op.Not es ts at h = test (let k = condition_part (at 0) in λ i. k i && true)
  op_closed type (op.Arithmetic o) es ts at h =
      number (arithmetic_closed (kind_at type) o (number_term (term_at ts 0)) (number_term (term_at ts 1)) (number_part (at 0)) (number_part (at 1)))
  op_closed type (op.Compare c) es ts at h = test (comparison_closed c (number_term (term_at ts 0)) (number_term (term_at ts 1)) (number_part (at 0)) (number_part (at 1)))
  op_closed type (op.ComparePointers c) es ts at h = absurd (no_blocks h.1)
  op_closed type (op.Offset minus index_first size accessed) es ts at h = absurd (no_blocks h.1)
  op_closed type (op.Difference size) es ts at h = absurd (no_blocks h.1)
  op_closed type op.Convert es ts at h = number (converted_closed p.model (kind_at type) (first_kind es) (number_term (term_at ts 0)) (number_part (at 0)))
  op_closed type op.Requalify es ts at h = at 0
  op_closed type op.Cast es ts at h = number (converted_closed p.model (kind_at type) (first_kind es) (number_term (term_at ts 0)) (number_part (at 0)))

  mutual
    node_closed : (type : CoreType) (what : t.ValueNode) → NodeIsTyped p xs s type what → TermIsClosed (node_term p xs r type what)
    node_closed type (t.constant z) h = number refl
    node_closed type t.null h = pointer refl refl
    node_closed type (t.temporary n) h = temporaries n
    node_closed type (t.apply o es) h = op_closed type o es (terms_of p xs r es) (kids_closed es h.0) h.1
    node_closed type (t.logic c a b) h = absurd h
    node_closed type (t.choose c a b) h = absurd h
    node_closed type (t.effect e es) h = absurd h

    pub value_closed : (e : t.Value) → IsTyped p xs s e → TermIsClosed (term_of p xs r e)
    value_closed (t.typed what type l) h = node_closed type what h

    pub kids_closed : (es : t.Values) → AreTyped p xs s es → (i : ℕ) → TermIsClosed (term_at (terms_of p xs r es) i)
    kids_closed t.stop h i = number refl
    kids_closed (t.more e es) h zero = value_closed e h.0
    kids_closed (t.more e es) h (suc i) = kids_closed es h.1 i

-- ---- over leaves

pub arguments_closed : (p : Facts) (s : Shape) (f : Temporaries) (es : t.Values) → AreTyped p s.variables (scope_at s f) es → (level i : ℕ)
    → is_closed [] (number_term (term_at (terms_at p s level es) i)) ≡ true
arguments_closed p s f es h l i =
    number_part (kids_closed p s.variables (scope_at s f) refl (reading_at p s l) (λ x. number (leaf_closed l (local_value (sizes p s) x))) (λ x. number (leaf_closed l (value_slot x)))
    (λ n. number (leaf_closed l (temp_slot (sizes p s) n))) es h i)
