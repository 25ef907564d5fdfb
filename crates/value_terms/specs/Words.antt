-- The word of an expression: what its evaluation meets, in order. A check has its formula; and where a value is in a range by what it is made of, this
-- joins what is known.
use Rattle.std.specs.Prelude.{ℕ, zero, suc, Bool, true, false, not, ◌&&◌, ◌||◌, ℤ, pos, negsuc, List, [], ◌∷◌, ◌++◌, map, Option, Some, None}
use Rattle.wp_base.specs.declared.kinds.Kind.{Kind}
use Rattle.wp_base.specs.declared.kinds.CellKind.{CellKind}
use Rattle.wp_base.specs.declared.kinds.CellKind.TheVariants as cell
use Rattle.wp_base.specs.Kinds.{is_signed}
use Rattle.c_kinds.specs.declared.models.Machdep.{Machdep}
use Rattle.c_kinds.specs.Models.{low, high}
use Rattle.c_kinds.specs.Numbers.{bits}
use Rattle.typed_prog.specs.declared.types.CoreType.{CoreType}
use Rattle.typed_prog.specs.declared.operators.Arithmetic.{Arithmetic}
use Rattle.typed_prog.specs.declared.operators.Arithmetic.TheVariants as ar
use Rattle.typed_prog.specs.declared.operators.Op.{Op}
use Rattle.typed_prog.specs.declared.operators.Op.TheVariants as op
use Rattle.typed_prog.specs.declared.operators.Path.{Path}
use Rattle.typed_prog.specs.declared.operators.Step.{Step}
use Rattle.typed_prog.specs.declared.operators.Step.TheVariants as step
use Rattle.typed_prog.specs.Tree as t
use Rattle.qed_terms.specs.declared.head.Head.TheVariants as h
use Rattle.qed_terms.specs.declared.head.FormOp.TheVariants as form
use Rattle.qed_terms.specs.declared.head.TermOp.TheVariants as term
use Rattle.qed_terms.specs.Tree.{Tree, node, one, two, three, num, equal, at_most, less, not_of, and_of}
use Rattle.c_runs.specs.Program.{Facts, Variable}
use Rattle.c_runs.specs.Operators.{Undefined, init, overflow, divzero, shift, access, index, pointing, comparing, is_order}
use Rattle.c_runs.specs.Objects.{plain_root, has_value, cell_of, is_pointed, is_sure}
use Rattle.c_runs.specs.Values.{kind_at}
use Rattle.c_runs.specs.Checks.{Check, here, second_constant, may_be_zero, may_be_minus_one, in_operand, later}
use Rattle.value_terms.specs.Readings.{Term, number_term, block_term, offset_term, term_at, Reading, plain_global}
use Rattle.value_terms.specs.Terms.{of_one, of_two, exact_term, address_term, cell_term, moved_terms, op_term, terms_of}

-- ---- items

pub data Item : Type 0 where
  asked : (c : Check) (f : Tree) → Item
  known : (f : Tree) → Item

-- the checks alone
abbrev pub checks_in : List Item → List Check
checks_in [] = []
checks_in (asked c f ∷ is) = c ∷ checks_in is
checks_in (known f ∷ is) = checks_in is

abbrev pub formula_of : Item → Tree
formula_of (asked c f) = f
formula_of (known f) = f

abbrev pub asked_if : Bool → Undefined → (line : ℕ) → Tree → List Item
asked_if true u l f = asked (here u l) f ∷ []
asked_if false u l f = []

abbrev pub with_check : (Check → Check) → Item → Item
with_check g (asked c f) = asked (g c) f
with_check g (known f) = known f

-- ---- formulas

abbrev pub is_between_term : (low high t : Tree) → Tree
is_between_term low high t = and_of (at_most low t ∷ at_most t high ∷ [])

-- the kind holds the number
abbrev pub held_term : Machdep → Kind → Tree → Tree
held_term m k t = is_between_term (num (low m k)) (num (high m k)) t

-- the same as two facts
abbrev pub range_facts : Machdep → Kind → Tree → List Item
range_facts m k t = known (at_most (num (low m k)) t) ∷ known (at_most t (num (high m k))) ∷ []

-- from 0 up to below a number
abbrev pub is_below_term : Tree → (count : ℕ) → Tree
is_below_term t n = and_of (at_most (num (pos 0)) t ∷ less t (num (pos n)) ∷ [])

-- the dividend isn't the least number of the kind, or the divisor isn't -1
abbrev pub quotient_fits_term : Machdep → Kind → (divisor : Option ℤ) → Tree → Tree → Tree
quotient_fits_term m k (Some (negsuc zero)) t u = not_of (equal t (num (low m k)))
quotient_fits_term m k _ t u = not_of (and_of (equal t (num (low m k)) ∷ equal u (num (negsuc 0)) ∷ []))

-- a number from 0 up is shifted to the left, and the kind holds the result
abbrev pub shift_fits_term : Machdep → Kind → Tree → Tree → Tree
shift_fits_term m k t u = and_of (at_most (num (pos 0)) t ∷ at_most (of_two term.ShiftLeft t u) (num (high m k)) ∷ [])

-- ---- integers

abbrev pub division_items : Machdep → Kind → (line : ℕ) → (divisor : Option ℤ) → Tree → Tree → List Item
division_items m k l z t u =
    asked_if (may_be_zero z) divzero l (not_of (equal u (num (pos 0))))
    ++ asked_if (is_signed k && may_be_minus_one z) overflow l (quotient_fits_term m k z t u)

abbrev pub arithmetic_items : Machdep → Kind → (line : ℕ) → Arithmetic → (second : Option ℤ) → Tree → Tree → List Item
arithmetic_items m k l ar.Mul z t u = asked_if (is_signed k) overflow l (held_term m k (exact_term ar.Mul t u))
arithmetic_items m k l ar.Add z t u = asked_if (is_signed k) overflow l (held_term m k (exact_term ar.Add t u))
arithmetic_items m k l ar.Sub z t u = asked_if (is_signed k) overflow l (held_term m k (exact_term ar.Sub t u))
arithmetic_items m k l ar.Div z t u = division_items m k l z t u
arithmetic_items m k l ar.Rem z t u = division_items m k l z t u
arithmetic_items m k l ar.Shl z t u = asked (here shift l) (is_below_term u (bits m k)) ∷ asked_if (is_signed k) overflow l (shift_fits_term m k t u)
arithmetic_items m k l ar.Shr z t u = asked (here shift l) (is_below_term u (bits m k)) ∷ []
arithmetic_items m k l ar.And z t u = range_facts m k (exact_term ar.And t u)
arithmetic_items m k l ar.Xor z t u = range_facts m k (exact_term ar.Xor t u)
arithmetic_items m k l ar.Or z t u = range_facts m k (exact_term ar.Or t u)

-- ---- pointers and objects

module _ (p : Facts) (r : Reading) where
  abbrev pub live_term : Term → Tree
  live_term a = node (h.Form form.Live) (two r.table (block_term a))

  abbrev pub len_term : Term → Tree
  len_term a = node (h.Term term.Len) (two r.table (block_term a))

  -- the block is live, and the offset is that of a cell or right behind the last one
  abbrev pub pointing_term : Term → Tree
  pointing_term a = and_of (live_term a ∷ at_most (num (pos 0)) (offset_term a) ∷ at_most (offset_term a) (len_term a) ∷ [])

  -- both lead into one live object, or right behind it
  abbrev pub comparing_term : Term → Term → Tree
  comparing_term a b =
      and_of (equal (block_term a) (block_term b) ∷ live_term a
      ∷ at_most (num (pos 0)) (offset_term a) ∷ at_most (offset_term a) (len_term a)
      ∷ at_most (num (pos 0)) (offset_term b) ∷ at_most (offset_term b) (len_term a) ∷ [])

  abbrev pub access_term : CellKind → Term → Tree
  access_term k a = node (h.Form (form.Read k)) (three r.table (block_term a) (offset_term a))

  -- the index of each declared array on a way
  abbrev pub index_items : List Term → (number : ℕ) → List Step → List Item
  index_items ts n [] = []
  index_items ts n (step.Element operand size count line ∷ ss) =
      asked (record { kind = index; line = line; step = n; way = [] }) (is_below_term (number_term (term_at ts operand)) count) ∷ index_items ts (suc n) ss
  index_items ts n (step.Field number offset ∷ ss) = index_items ts (suc n) ss
  index_items ts n (step.Moved operand size ∷ ss) = index_items ts (suc n) ss

  -- what a cell holds is of its kind; a pointer leads to a block that was made, or is null
  abbrev pub cell_facts : CellKind → Term → List Item
  cell_facts (cell.Of k) a = range_facts p.model k (number_term a)
  cell_facts cell.Ptr a =
      known (at_most (num (pos 0)) (block_term a)) ∷ known (less (block_term a) (node (h.Term term.Count) (one r.table))) ∷ []

  -- a plain variable of the file has no range here: it is known from the start
  abbrev pub facts_by : Option ℕ → CoreType → Path → List Term → List Item
  facts_by (Some x) type path ts = []
  facts_by None type path ts = cell_facts (cell_of type) (cell_term p r None type path ts)

  abbrev pub read_items : Option ℕ → List Variable → CoreType → Path → List Term → List Item
  read_items (Some x) xs type path ts = asked_if (not (has_value xs x)) init path.line (equal (r.flags x) (num (pos 1)))
  read_items None xs type path ts =
      index_items ts 0 path.steps
      ++ (asked_if (is_pointed path.root) access path.line (access_term (cell_of type) (address_term p r path ts))
      ++ facts_by (plain_global p.globals path.root) type path ts)

  abbrev pub address_items : (accessed : Bool) → Path → List Term → List Item
  address_items accessed path ts = asked_if (not (accessed || is_sure path.steps)) pointing path.line (pointing_term (address_term p r path ts))

-- ---- expressions

module _ (p : Facts) (xs : List Variable) (r : Reading) where
  -- those of an operation of this type and line on operands of these terms
  unfoldable pub op_items : CoreType → (line : ℕ) → Op → t.Values → List Term → List Item
  op_items type l (op.Read path) es ts = read_items p r (plain_root xs path.root) xs type path ts
  op_items type l (op.Address path accessed) es ts = address_items p r accessed path ts
  op_items type l (op.Decay path accessed) es ts = address_items p r accessed path ts
  op_items type l op.Negate es ts =
      asked_if (is_signed (kind_at type)) overflow l (held_term p.model (kind_at type) (of_one term.Neg (number_term (term_at ts 0))))
  op_items type l op.Complement es ts = range_facts p.model (kind_at type) (number_term (op_term p xs r type op.Complement es ts))
  op_items type l (op.Arithmetic o) es ts =
      arithmetic_items p.model (kind_at type) l o (second_constant es) (number_term (term_at ts 0)) (number_term (term_at ts 1))
  op_items type l (op.ComparePointers c) es ts = asked_if (is_order c) comparing l (comparing_term p r (term_at ts 0) (term_at ts 1))
  op_items type l (op.Offset minus index_first size accessed) es ts =
      asked_if (not accessed) pointing l (pointing_term p r (moved_terms index_first minus size ts))
  op_items type l (op.Difference size) es ts = asked (here comparing l) (comparing_term p r (term_at ts 0) (term_at ts 1)) ∷ []
  op_items type l o es ts = []

  abbrev mutual
    pub node_word : CoreType → (line : ℕ) → t.ValueNode → List Item
    node_word type l (t.apply o es) = words es ++ op_items type l o es (terms_of p xs r es)
    node_word type l _ = []

    pub word_of : t.Value → List Item
    word_of (t.typed what type line) = node_word type line what

    pub words : t.Values → List Item
    words t.stop = []
    words (t.more e es) = map (with_check (in_operand 0)) (word_of e) ++ map (with_check later) (words es)
