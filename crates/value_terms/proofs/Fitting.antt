-- Terms and formulas that are made of well formed ones are well formed.
use Rattle.std.proofs.Common.{◌≡◌, ℕ, zero, suc, ◌==◌, Bool, true, false, ◌&&◌, pos, List, [], ◌∷◌, Option, Some, None, refl}
use Rattle.std.specs.Prelude.{if◌then◌else◌}
use Rattle.std.proofs.lemmas.Bool.{and_parts}
use Rattle.wp_base.specs.declared.kinds.Kind.{Kind}
use Rattle.wp_base.specs.declared.kinds.Kind.TheVariants as kind
use Rattle.wp_base.specs.declared.kinds.CellKind.{CellKind}
use Rattle.wp_base.specs.declared.kinds.CellKind.TheVariants as cell
use Rattle.wp_base.specs.Kinds.{is_signed}
use Rattle.c_kinds.specs.declared.models.Machdep.{Machdep}
use Rattle.c_kinds.specs.Conversions.{holds_all}
use Rattle.typed_prog.specs.declared.types.CoreType.{CoreType}
use Rattle.typed_prog.specs.declared.operators.Arithmetic.{Arithmetic}
use Rattle.typed_prog.specs.declared.operators.Arithmetic.TheVariants as ar
use Rattle.typed_prog.specs.declared.operators.Comparison.{Comparison}
use Rattle.typed_prog.specs.declared.operators.Comparison.TheVariants as cmp
use Rattle.typed_prog.specs.declared.operators.Op.{Op}
use Rattle.typed_prog.specs.declared.operators.Op.TheVariants as op
use Rattle.typed_prog.specs.declared.operators.Path.{Path}
use Rattle.typed_prog.specs.declared.operators.Root.{Root}
use Rattle.typed_prog.specs.declared.operators.Root.TheVariants as root
use Rattle.typed_prog.specs.declared.operators.Step.{Step}
use Rattle.typed_prog.specs.declared.operators.Step.TheVariants as step
use Rattle.typed_prog.specs.declared.operators.Variable.{Variable}
use Rattle.typed_prog.specs.declared.operators.Variable.TheVariants as variable
use Rattle.typed_prog.specs.Tree as t
use Rattle.qed_terms.specs.declared.head.TermOp.TheVariants as term
use Rattle.qed_terms.specs.Tree.{Tree, num}
use Rattle.qed_terms.specs.WellFormed.{fits, int, formula}
use Rattle.c_runs.specs.Program as run
use Rattle.c_runs.specs.Program.{Facts}
use Rattle.c_runs.specs.Objects.{plain_root, cell_of}
use Rattle.c_runs.specs.Values.{kind_at}
use Rattle.value_terms.specs.Readings.{Term, as_number, as_test, as_pointer, number_term, block_term, offset_term, condition, term_at, Reading, plain_global, term_fits, IsWellFormed}
use Rattle.value_terms.specs.Terms.{of_one, of_two, within_term, exact_term, may_leave, arithmetic_term, comparison, narrowed, converted_term, scaled, moved_term, field_term, same_pointer_term, pointer_comparison, difference_term, home_term, start_term, along_term, address_term, loaded, cell_term, read_term, first_kind, moved_terms, op_term, node_term, term_of, terms_of}

abbrev pub Int : Tree → Type 0
Int t = fits int t ≡ true

abbrev pub Form : Tree → Type 0
Form f = fits formula f ≡ true

pub one_fits : {a : Bool} → a ≡ true → (a && true) ≡ true
one_fits p = λ i. p i && true

pub two_fit : {a b : Bool} → a ≡ true → b ≡ true → (a && (b && true)) ≡ true
two_fit p q = λ i. p i && (q i && true)

pub three_fit : {a b c : Bool} → a ≡ true → b ≡ true → c ≡ true → (a && (b && (c && true))) ≡ true
three_fit p q r = λ i. p i && (q i && (r i && true))

-- ---- parts of a term

pub number_fits : (a : Term) → term_fits a ≡ true → Int (number_term a)
number_fits (as_number t) h = h
number_fits (as_test f) h = three_fit h refl refl
number_fits (as_pointer b o) h = refl

pub block_fits : (a : Term) → term_fits a ≡ true → Int (block_term a)
block_fits (as_number t) h = refl
block_fits (as_test f) h = refl
block_fits (as_pointer b o) h = (and_parts (fits int b) (fits int o) h).0

pub offset_fits : (a : Term) → term_fits a ≡ true → Int (offset_term a)
offset_fits (as_number t) h = refl
offset_fits (as_test f) h = refl
offset_fits (as_pointer b o) h = (and_parts (fits int b) (fits int o) h).1

pub condition_fits : (a : Term) → term_fits a ≡ true → Form (condition a)
condition_fits (as_number t) h = one_fits (two_fit h refl)
condition_fits (as_test f) h = h
condition_fits (as_pointer b o) h =
    let parts = and_parts (fits int b) (fits int o) h in
    one_fits (two_fit (two_fit parts.0 refl) (two_fit parts.1 refl))

-- ---- integers

within_fits : (k : Kind) (t : Tree) → Int t → Int (within_term k t)
within_fits k t h = by_sign (is_signed k)
  where
    by_sign : (s : Bool) → Int (if s then t else of_one (term.Wrap k) t)
    by_sign true = h
    by_sign false = one_fits h

pub exact_fits : (o : Arithmetic) (t u : Tree) → Int t → Int u → Int (exact_term o t u)
exact_fits ar.Mul t u h g = two_fit h g
exact_fits ar.Div t u h g = two_fit h g
exact_fits ar.Rem t u h g = two_fit h g
exact_fits ar.Add t u h g = two_fit h g
exact_fits ar.Sub t u h g = two_fit h g
exact_fits ar.Shl t u h g = two_fit h g
exact_fits ar.Shr t u h g = two_fit h g
exact_fits ar.And t u h g = two_fit h g
exact_fits ar.Xor t u h g = two_fit h g
exact_fits ar.Or t u h g = two_fit h g

arithmetic_fits : (k : Kind) (o : Arithmetic) (t u : Tree) → Int t → Int u → Int (arithmetic_term k o t u)
arithmetic_fits k o t u h g = by_test (may_leave o)
  where
    by_test : (b : Bool) → Int (if b then within_term k (exact_term o t u) else exact_term o t u)
    by_test true = within_fits k (exact_term o t u) (exact_fits o t u h g)
    by_test false = exact_fits o t u h g

comparison_fits : (c : Comparison) (t u : Tree) → Int t → Int u → Form (comparison c t u)
comparison_fits cmp.Less t u h g = two_fit h g
comparison_fits cmp.AtMost t u h g = two_fit h g
comparison_fits cmp.Greater t u h g = two_fit g h
comparison_fits cmp.AtLeast t u h g = two_fit g h
comparison_fits cmp.Equal t u h g = two_fit h g
comparison_fits cmp.NotEqual t u h g = one_fits (two_fit h g)

narrowed_fits : (k : Kind) (t : Tree) → Int t → Int (narrowed k t)
narrowed_fits kind.Bool t h = three_fit (two_fit h refl) refl refl
narrowed_fits kind.Char t h = one_fits h
narrowed_fits kind.SChar t h = one_fits h
narrowed_fits kind.UChar t h = one_fits h
narrowed_fits kind.Short t h = one_fits h
narrowed_fits kind.UShort t h = one_fits h
narrowed_fits kind.Int t h = one_fits h
narrowed_fits kind.UInt t h = one_fits h
narrowed_fits kind.Long t h = one_fits h
narrowed_fits kind.ULong t h = one_fits h
narrowed_fits kind.LLong t h = one_fits h
narrowed_fits kind.ULLong t h = one_fits h

converted_fits : (m : Machdep) (k l : Kind) (t : Tree) → Int t → Int (converted_term m k l t)
converted_fits m k l t h = by_test (holds_all m k l)
  where
    by_test : (b : Bool) → Int (if b then t else narrowed k t)
    by_test true = h
    by_test false = narrowed_fits k t h

-- ---- pointers

scaled_fits : (size : ℕ) (i : Tree) → Int i → Int (scaled size i)
scaled_fits size i h = by_test (size == 1)
  where
    by_test : (b : Bool) → Int (if b then i else of_two term.Mul (num (pos size)) i)
    by_test true = h
    by_test false = two_fit refl h

pub pair_fits : {a b : Bool} → a ≡ true → b ≡ true → (a && b) ≡ true
pair_fits p q = λ i. p i && q i

moved_fits : (minus : Bool) (size : ℕ) (a b : Term) → term_fits a ≡ true → term_fits b ≡ true → term_fits (moved_term minus size a b) ≡ true
moved_fits true size a b h g = pair_fits (block_fits a h) (two_fit (offset_fits a h) (scaled_fits size (number_term b) (number_fits b g)))
moved_fits false size a b h g = pair_fits (block_fits a h) (two_fit (offset_fits a h) (scaled_fits size (number_term b) (number_fits b g)))

field_fits : (k : ℕ) (a : Term) → term_fits a ≡ true → term_fits (field_term k a) ≡ true
field_fits zero a h = pair_fits (block_fits a h) (offset_fits a h)
field_fits (suc k) a h = pair_fits (block_fits a h) (two_fit (offset_fits a h) refl)

same_pair_fits : (a b : Term) → term_fits a ≡ true → term_fits b ≡ true → Form (same_pointer_term a b)
same_pair_fits a b h g = two_fit (two_fit (block_fits a h) (block_fits b g)) (two_fit (offset_fits a h) (offset_fits b g))

pointers_fit : (c : Comparison) (a b : Term) → term_fits a ≡ true → term_fits b ≡ true → Form (pointer_comparison c a b)
pointers_fit cmp.Less a b h g = comparison_fits cmp.Less (offset_term a) (offset_term b) (offset_fits a h) (offset_fits b g)
pointers_fit cmp.AtMost a b h g = comparison_fits cmp.AtMost (offset_term a) (offset_term b) (offset_fits a h) (offset_fits b g)
pointers_fit cmp.Greater a b h g = comparison_fits cmp.Greater (offset_term a) (offset_term b) (offset_fits a h) (offset_fits b g)
pointers_fit cmp.AtLeast a b h g = comparison_fits cmp.AtLeast (offset_term a) (offset_term b) (offset_fits a h) (offset_fits b g)
pointers_fit cmp.Equal a b h g = same_pair_fits a b h g
pointers_fit cmp.NotEqual a b h g = one_fits (same_pair_fits a b h g)

difference_fits : (size : ℕ) (a b : Term) → term_fits a ≡ true → term_fits b ≡ true → Int (difference_term size a b)
difference_fits size a b h g = by_test (size == 1)
  where
    by_test : (t : Bool) → Int (if t then of_two term.Sub (offset_term a) (offset_term b)
        else of_two term.Div (of_two term.Sub (offset_term a) (offset_term b)) (num (pos size)))
    by_test true = two_fit (offset_fits a h) (offset_fits b g)
    by_test false = two_fit (two_fit (offset_fits a h) (offset_fits b g)) refl

-- ---- operands

abbrev pub AllFit : List Term → Type 0
AllFit ts = (i : ℕ) → term_fits (term_at ts i) ≡ true

module _ (p : Facts) (xs : List run.Variable) (r : Reading) (well : IsWellFormed r) where
  home_fits : (x : Variable) → Int (home_term p r x)
  home_fits (variable.Global x) = refl
  home_fits (variable.Local x) = well.homes x

  start_fits : (o : Root) (ts : List Term) → AllFit ts → term_fits (start_term p r o ts) ≡ true
  start_fits (root.Variable x) ts h = pair_fits (home_fits x) refl
  start_fits (root.Pointed n) ts h = h n

  along_fits : (ts : List Term) (ss : List Step) (a : Term) → AllFit ts → term_fits a ≡ true
      → term_fits (along_term p r ts ss a) ≡ true
  along_fits ts [] a h g = g
  along_fits ts (step.Field n offset ∷ ss) a h g = along_fits ts ss (field_term offset a) h (field_fits offset a g)
  along_fits ts (step.Element operand size count line ∷ ss) a h g =
      along_fits ts ss (moved_term false size a (term_at ts operand)) h (moved_fits false size a (term_at ts operand) g (h operand))
  along_fits ts (step.Moved operand size ∷ ss) a h g =
      along_fits ts ss (moved_term false size a (term_at ts operand)) h (moved_fits false size a (term_at ts operand) g (h operand))

  pub address_fits : (path : Path) (ts : List Term) → AllFit ts → term_fits (address_term p r path ts) ≡ true
  address_fits path ts h = along_fits ts path.steps (start_term p r path.root ts) h (start_fits path.root ts h)

  loaded_fits : (k : CellKind) (a : Term) → term_fits a ≡ true → term_fits (loaded p r k a) ≡ true
  loaded_fits (cell.Of k) a h = three_fit (well.numbers k) (block_fits a h) (offset_fits a h)
  loaded_fits cell.Ptr a h =
      pair_fits (three_fit well.blocks (block_fits a h) (offset_fits a h)) (three_fit well.offsets (block_fits a h) (offset_fits a h))

  pub cell_fits : (o : Option ℕ) (type : CoreType) (path : Path) (ts : List Term) → AllFit ts
      → term_fits (cell_term p r o type path ts) ≡ true
  cell_fits (Some x) type path ts h = well.globals x
  cell_fits None type path ts h = loaded_fits (cell_of type) (address_term p r path ts) (address_fits path ts h)

  read_fits : (o : Option ℕ) (type : CoreType) (path : Path) (ts : List Term) → AllFit ts
      → term_fits (read_term p r o type path ts) ≡ true
  read_fits (Some x) type path ts h = well.locals x
  read_fits None type path ts h = cell_fits (plain_global p.globals path.root) type path ts h

  pub moved_both : (index_first minus : Bool) (size : ℕ) (ts : List Term) → AllFit ts
      → term_fits (moved_terms index_first minus size ts) ≡ true
  moved_both true minus size ts h = moved_fits minus size (term_at ts 1) (term_at ts 0) (h 1) (h 0)
  moved_both false minus size ts h = moved_fits minus size (term_at ts 0) (term_at ts 1) (h 0) (h 1)

  pub op_fits : (type : CoreType) (o : Op) (es : t.Values) (ts : List Term) → AllFit ts
      → term_fits (op_term p xs r type o es ts) ≡ true
  unfolding op_term
  op_fits type (op.Read path) es ts h = read_fits (plain_root xs path.root) type path ts h
  op_fits type (op.Address path accessed) es ts h = address_fits path ts h
  op_fits type (op.Decay path accessed) es ts h = address_fits path ts h
  op_fits type op.Negate es ts h =
      within_fits (kind_at type) (of_one term.Neg (number_term (term_at ts 0))) (one_fits (number_fits (term_at ts 0) (h 0)))
  op_fits type op.Complement es ts h =
      within_fits (kind_at type) (of_one term.BitNot (number_term (term_at ts 0))) (one_fits (number_fits (term_at ts 0) (h 0)))
  op_fits type op.Not es ts h = one_fits (condition_fits (term_at ts 0) (h 0))
  op_fits type (op.Arithmetic o) es ts h =
      arithmetic_fits (kind_at type) o (number_term (term_at ts 0)) (number_term (term_at ts 1))
      (number_fits (term_at ts 0) (h 0)) (number_fits (term_at ts 1) (h 1))
  op_fits type (op.Compare c) es ts h =
      comparison_fits c (number_term (term_at ts 0)) (number_term (term_at ts 1))
      (number_fits (term_at ts 0) (h 0)) (number_fits (term_at ts 1) (h 1))
  op_fits type (op.ComparePointers c) es ts h = pointers_fit c (term_at ts 0) (term_at ts 1) (h 0) (h 1)
  op_fits type (op.Offset minus index_first size accessed) es ts h = moved_both index_first minus size ts h
  op_fits type (op.Difference size) es ts h = difference_fits size (term_at ts 0) (term_at ts 1) (h 0) (h 1)
  op_fits type op.Convert es ts h = converted_fits p.model (kind_at type) (first_kind es) (number_term (term_at ts 0)) (number_fits (term_at ts 0) (h 0))
  op_fits type op.Requalify es ts h = h 0
  op_fits type op.Cast es ts h = converted_fits p.model (kind_at type) (first_kind es) (number_term (term_at ts 0)) (number_fits (term_at ts 0) (h 0))

  mutual
    node_fits : (type : CoreType) (what : t.ValueNode) → term_fits (node_term p xs r type what) ≡ true
    node_fits type (t.constant z) = refl
    node_fits type t.null = refl
    node_fits type (t.temporary n) = well.temporaries n
    node_fits type (t.apply o es) = op_fits type o es (terms_of p xs r es) (kids_fit es)
    node_fits type (t.logic c a b) = refl
    node_fits type (t.choose c a b) = refl
    node_fits type (t.effect e es) = refl

    pub one_fit : (e : t.Value) → term_fits (term_of p xs r e) ≡ true
    one_fit (t.typed what type l) = node_fits type what

    pub kids_fit : (es : t.Values) (i : ℕ) → term_fits (term_at (terms_of p xs r es) i) ≡ true
    kids_fit t.stop i = refl
    kids_fit (t.more e es) zero = one_fit e
    kids_fit (t.more e es) (suc i) = kids_fit es i
