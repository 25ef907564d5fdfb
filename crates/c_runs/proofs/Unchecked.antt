-- An expression without checks has a value.
use Rattle.std.proofs.Common.{◌≡◌, ℕ, suc, Bool, true, false, not, ◌&&◌, ◌||◌, if◌then◌else◌, List, [], ◌∷◌, ◌++◌, Option, Some, None, refl, sym, ap, ◌∙◌}
use Rattle.std.proofs.lemmas.Bool.{false≢true}
use Rattle.std.specs.Prelude.{ℤ, pos, negsuc, neg_ℤ, ◌+ℤ◌, ◌-ℤ◌, ◌*ℤ◌}
use Rattle.wp_base.specs.declared.kinds.Kind.{Kind}
use Rattle.wp_base.specs.Kinds.{is_signed}
use Rattle.c_kinds.specs.declared.models.Machdep.{Machdep}
use Rattle.c_kinds.specs.Models.{low}
use Rattle.typed_prog.specs.declared.types.CoreType.{CoreType}
use Rattle.typed_prog.specs.declared.operators.Arithmetic.{Arithmetic}
use Rattle.typed_prog.specs.declared.operators.Arithmetic.TheVariants as ar
use Rattle.typed_prog.specs.declared.operators.Op.{Op}
use Rattle.typed_prog.specs.declared.operators.Op.TheVariants as op
use Rattle.typed_prog.specs.declared.operators.Path.{Path}
use Rattle.typed_prog.specs.declared.operators.Step.{Step}
use Rattle.typed_prog.specs.declared.operators.Step.TheVariants as step
use Rattle.typed_prog.specs.Tree as tree
use Rattle.qed_terms.specs.Operators.{is_zero, is_equal}
use Rattle.c_runs.specs.Told.{Value, number, null, number_of, first, second, compare_pointers}
use Rattle.c_runs.specs.Program.{Facts, Variable}
use Rattle.c_runs.specs.States.{Local, plain, home, World}
use Rattle.c_runs.specs.Operators.{Undefined, init, overflow, divzero, access, pointing, comparing, Val, is, wrong, where_true, truth_number, may_divide, arithmetic, computed, within, fits, is_order, pointed, pointed_unless}
use Rattle.c_runs.specs.Objects.{plain_root, has_value, read_local, address, indexed, is_pointed, may_read, read_by, content, cell_of, is_sure, address_made}
use Rattle.c_runs.specs.Values.{kind_at, moved_in, applied, value, node_value, values, Temps, Vals, are, wrongs, push_val}
use Rattle.c_runs.specs.Calls.{nought}
use Rattle.c_runs.specs.Checks.{one_if, index_checks, read_checks_by, second_constant, division_checks, arithmetic_checks, op_checks, is_empty, has_checks, have_checks, node_may_fail}

pub or_parts : (a b : Bool) → (a || b) ≡ false → (a ≡ false) × (b ≡ false)
or_parts true b h = absurd (false≢true (sym h))
or_parts false b h = (refl, h)

-- it has a value
abbrev Defined : Val → Type 0
Defined x = (v : Value) × (x ≡ is v)

-- no check is there
abbrev Free : {X : Type 0} → List X → Type 0
Free cs = not (is_empty cs) ≡ false

none_of : (b : Bool) (u : Undefined) (l : ℕ) → Free (one_if b u l) → b ≡ false
none_of true u l h = absurd (false≢true (sym h))
none_of false u l h = refl

both_free : {X : Type 0} (a b : List X) → Free (a ++ b) → Free a × Free b
both_free [] b h = (refl, h)
both_free (x ∷ a) b h = absurd (false≢true (sym h))

-- ---- objects

no_indexes : (n : ℕ) (vs : List Value) (ss : List Step) (x : Val) → Free (index_checks n ss) → indexed vs ss x ≡ x
no_indexes n vs [] x h = refl
no_indexes n vs (step.Element operand size count line ∷ ss) x h = absurd (false≢true (sym h))
no_indexes n vs (step.Field field offset ∷ ss) x h = no_indexes (suc n) vs ss x h
no_indexes n vs (step.Moved operand size ∷ ss) x h = no_indexes (suc n) vs ss x h

local_read : (sure : Bool) (l : ℕ) (x : Local) → not sure ≡ false → Defined (read_local sure l x)
local_read true l (plain v s) h = (v, refl)
local_read true l (home b) h = (number (pos 0), refl)
local_read false l x h = absurd (false≢true (sym h))

read_defined : (r : Option ℕ) (p : Facts) (xs : List Variable) (w : World) (type : CoreType) (path : Path) (vs : List Value) → Free (read_checks_by r xs path) → Defined (read_by r p xs w type path vs)
read_defined (Some x) p xs w type path vs h = local_read (has_value xs x) path.line (w.locals x) (none_of (not (has_value xs x)) init path.line h)
read_defined None p xs w type path vs h =
    let l = both_free (index_checks 0 path.steps) (one_if (is_pointed path.root) access path.line) h in
    let v = address p w path vs in
    let u = content w.memory (cell_of type) v in
    let e = none_of (is_pointed path.root) access path.line l.1 in
    (u, no_indexes 0 vs path.steps (where_true (may_read w.memory (cell_of type) path.root v) access path.line (is u)) l.0 ∙ rw e refl)

address_defined : (accessed : Bool) (p : Facts) (w : World) (path : Path) (vs : List Value) → Free (one_if (not (accessed || is_sure path.steps)) pointing path.line) → Defined (address_made p w accessed path vs)
address_defined accessed p w path vs h = (address p w path vs, by_flag (accessed || is_sure path.steps) (none_of (not (accessed || is_sure path.steps)) pointing path.line h))
  where
    by_flag : (b : Bool) → not b ≡ false → (if b then is (address p w path vs) else pointed w.memory.blocks path.line (address p w path vs)) ≡ is (address p w path vs)
    by_flag true h = refl
    by_flag false h = absurd (false≢true (sym h))

-- ---- integers

unsigned_fits : (m : Machdep) (k : Kind) (l : ℕ) (z : ℤ) (v : Value) → Free (one_if (is_signed k) overflow l) → Defined (where_true (fits m k z) overflow l (is v))
unsigned_fits m k l z v h = (v, rw (none_of (is_signed k) overflow l h) refl)

-- the second operand is the constant, if there is one
abbrev IsSecond : Option ℤ → ℤ → Type 0
IsSecond None b = Unit {0}
IsSecond (Some z) b = b ≡ z

quotient_defined : (m : Machdep) (k : Kind) (l : ℕ) (a b : ℤ) (u : Option ℤ) (v : Value) → IsSecond u b → Free (division_checks (is_signed k) l u)
    → Defined (where_true (not (is_zero b)) divzero l (where_true (may_divide m k a b) overflow l (is v)))
quotient_defined m k l a b None v e h = absurd (false≢true (sym h))
quotient_defined m k l a b (Some z) v e h =
    let t = both_free (one_if (is_zero z) divzero l) (one_if (is_signed k && (is_zero z || is_equal z (negsuc 0))) overflow l) h in
    let nonzero = none_of (is_zero z) divzero l t.0 in
    let exact = none_of (is_signed k && (is_zero z || is_equal z (negsuc 0))) overflow l t.1 in
    (v, rw e (rw nonzero (ap (λ c. where_true c overflow l (is v)) (divides (is_signed k) (is_zero z) (is_equal z (negsuc 0)) (is_equal a (low m k)) nonzero exact))))
  where
    divides : (signed zeroed minus least : Bool) → zeroed ≡ false → (signed && (zeroed || minus)) ≡ false → (if signed then not (least && minus) else true) ≡ true
    divides false z n y hz h = refl
    divides true true n y hz h = absurd (false≢true (sym hz))
    divides true false true y hz h = absurd (false≢true (sym h))
    divides true false false true hz h = refl
    divides true false false false hz h = refl

arithmetic_defined : (m : Machdep) (k : Kind) (l : ℕ) (o : Arithmetic) (a b : ℤ) (u : Option ℤ) → IsSecond u b → Free (arithmetic_checks (is_signed k) l o u) → Defined (computed m k l o a b)
arithmetic_defined m k l ar.Mul a b u e h = unsigned_fits m k l (a *ℤ b) (number (arithmetic m k ar.Mul a b)) h
arithmetic_defined m k l ar.Add a b u e h = unsigned_fits m k l (a +ℤ b) (number (arithmetic m k ar.Add a b)) h
arithmetic_defined m k l ar.Sub a b u e h = unsigned_fits m k l (a -ℤ b) (number (arithmetic m k ar.Sub a b)) h
arithmetic_defined m k l ar.Div a b u e h = quotient_defined m k l a b u (number (arithmetic m k ar.Div a b)) e h
arithmetic_defined m k l ar.Rem a b u e h = quotient_defined m k l a b u (number (arithmetic m k ar.Rem a b)) e h
arithmetic_defined m k l ar.Shl a b u e h = absurd (false≢true (sym h))
arithmetic_defined m k l ar.Shr a b u e h = absurd (false≢true (sym h))
arithmetic_defined m k l ar.And a b u e h = (number (arithmetic m k ar.And a b), refl)
arithmetic_defined m k l ar.Xor a b u e h = (number (arithmetic m k ar.Xor a b), refl)
arithmetic_defined m k l ar.Or a b u e h = (number (arithmetic m k ar.Or a b), refl)

-- ---- operators

pub op_defined : (p : Facts) (xs : List Variable) (w : World) (type : CoreType) (l : ℕ) (o : Op) (es : tree.Values) (vs : List Value) → IsSecond (second_constant es) (number_of (second vs))
    → Free (op_checks xs type l o es) → Defined (applied p xs w type l o vs)
unfolding applied
op_defined p xs w type l (op.Read path) es vs e h = read_defined (plain_root xs path.root) p xs w type path vs h
op_defined p xs w type l (op.Address path accessed) es vs e h = address_defined accessed p w path vs h
op_defined p xs w type l (op.Decay path accessed) es vs e h = address_defined accessed p w path vs h
op_defined p xs w type l op.Negate es vs e h =
    let z = neg_ℤ (number_of (first vs)) in unsigned_fits p.model (kind_at type) l z (number (within p.model (kind_at type) z)) h
op_defined p xs w type l op.Complement es vs e h = (_, refl)
op_defined p xs w type l op.Not es vs e h = (_, refl)
op_defined p xs w type l (op.Arithmetic o) es vs e h = arithmetic_defined p.model (kind_at type) l o (number_of (first vs)) (number_of (second vs)) (second_constant es) e h
op_defined p xs w type l (op.Compare c) es vs e h = (_, refl)
op_defined p xs w type l (op.ComparePointers c) es vs e h = (truth_number (compare_pointers c (first vs) (second vs)), rw (none_of (is_order c) comparing l h) refl)
op_defined p xs w type l (op.Offset minus index_first size accessed) es vs e h = by_flag accessed (none_of (not accessed) pointing l h)
  where
    by_flag : (b : Bool) → not b ≡ false → Defined (pointed_unless b w.memory.blocks l (moved_in index_first minus size vs))
    by_flag true h = (moved_in index_first minus size vs, refl)
    by_flag false h = absurd (false≢true (sym h))
op_defined p xs w type l (op.Difference size) es vs e h = absurd (false≢true (sym h))
op_defined p xs w type l op.Convert es vs e h = (_, refl)
op_defined p xs w type l op.Requalify es vs e h = (first vs, refl)
op_defined p xs w type l op.Cast es vs e h = (_, refl)

-- ---- expressions

module _ (p : Facts) (xs : List Variable) (tm : Temps) (w : World) where
  abbrev operands : tree.Values → Vals
  operands es = values p xs tm nought w es

  is_defined : Val → Bool
  is_defined (is v) = true
  is_defined (wrong u l) = false

  -- a constant second operand has its value
  second_is : (es : tree.Values) (vs : List Value) → operands es ≡ are vs → IsSecond (second_constant es) (number_of (second vs))
  second_is tree.stop vs h = tt
  second_is (tree.more a tree.stop) vs h = tt
  second_is (tree.more a (tree.more (tree.typed (tree.constant z) type l) es)) vs h = by_vals (value p xs tm nought w a) (operands es) vs h
    where
      number_in : Vals → ℤ
      number_in (are vs) = number_of (second vs)
      number_in (wrongs u l) = z

      by_vals : (x : Val) (y : Vals) (vs : List Value) → push_val x (push_val (is (number z)) y) ≡ are vs → number_of (second vs) ≡ z
      by_vals (is v) (are us) vs h = ap number_in (sym h)
      by_vals (is v) (wrongs u l) vs h = ap number_in (sym h)
      by_vals (wrong u l) y vs h = ap number_in (sym h)
  second_is (tree.more a (tree.more (tree.typed tree.null type l) es)) vs h = tt
  second_is (tree.more a (tree.more (tree.typed (tree.temporary n) type l) es)) vs h = tt
  second_is (tree.more a (tree.more (tree.typed (tree.apply o os) type l) es)) vs h = tt
  second_is (tree.more a (tree.more (tree.typed (tree.logic c x y) type l) es)) vs h = tt
  second_is (tree.more a (tree.more (tree.typed (tree.choose c x y) type l) es)) vs h = tt
  second_is (tree.more a (tree.more (tree.typed (tree.effect f os) type l) es)) vs h = tt

  mutual
    node_defined : (type : CoreType) (l : ℕ) (node : tree.ValueNode) → node_may_fail xs type l node ≡ false → Defined (node_value p xs tm nought w type l node)
    node_defined type l (tree.constant z) h = (number z, refl)
    node_defined type l tree.null h = (null, refl)
    node_defined type l (tree.temporary n) h = (tm n, refl)
    node_defined type l (tree.apply o es) h =
        let t = or_parts (have_checks xs es) (not (is_empty (op_checks xs type l o es))) h in
        let x = all_defined es t.0 in
        let y = op_defined p xs w type l o es x.0 (second_is es x.0 x.1) t.1 in
        (y.0, rw (x.1) y.1)
    node_defined type l (tree.logic c a b) h = absurd (false≢true (sym h))
    node_defined type l (tree.choose c a b) h = absurd (false≢true (sym h))
    node_defined type l (tree.effect e es) h = absurd (false≢true (sym h))

    pub no_checks : (e : tree.Value) → has_checks xs e ≡ false → Defined (value p xs tm nought w e)
    no_checks (tree.typed node type l) h = node_defined type l node h

    all_defined : (es : tree.Values) → have_checks xs es ≡ false → (vs : List Value) × (operands es ≡ are vs)
    all_defined tree.stop h = ([], refl)
    all_defined (tree.more e es) h =
        let t = or_parts (has_checks xs e) (have_checks xs es) h in
        let x = no_checks e t.0 in
        let y = all_defined es t.1 in
        (x.0 ∷ y.0, rw (x.1, y.1) refl)
