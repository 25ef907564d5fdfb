-- Each operator on the values of its operands, beside its checks.
use Rattle.std.proofs.Common.{◌≡◌, ℕ, suc, ◌+◌, Bool, true, false, not, ◌&&◌, ◌||◌, List, [], ◌∷◌, ◌++◌, refl, ap, ◌∙◌, arith, ℤ, negsuc, ◌+ℤ◌, ◌-ℤ◌, ◌*ℤ◌, Option, Some, None}
use Rattle.std.specs.Prelude.{if◌then◌else◌, slice_get}
use Rattle.wp_base.specs.declared.kinds.Kind.{Kind}
use Rattle.wp_base.specs.Kinds.{is_signed}
use Rattle.c_kinds.specs.declared.models.Machdep.{Machdep}
use Rattle.c_kinds.specs.Models.{low, holds}
use Rattle.typed_prog.specs.declared.types.CoreType.{CoreType}
use Rattle.typed_prog.specs.declared.operators.Arithmetic.{Arithmetic}
use Rattle.typed_prog.specs.declared.operators.Arithmetic.TheVariants as ar
use Rattle.typed_prog.specs.declared.operators.Op.{Op}
use Rattle.typed_prog.specs.declared.operators.Op.TheVariants as op
use Rattle.typed_prog.specs.declared.operators.Path.{Path}
use Rattle.typed_prog.specs.declared.operators.Step.{Step}
use Rattle.typed_prog.specs.declared.operators.Step.TheVariants as step
use Rattle.typed_prog.specs.Tree as t
use Rattle.qed_terms.specs.Operators.{is_zero, is_equal}
use Rattle.c_runs.specs.Told.{Value, number, number_of, second, value_at}
use Rattle.c_runs.specs.Program.{Facts, Variable}
use Rattle.c_runs.specs.States.{Local, plain, home, World, held_by}
use Rattle.c_runs.specs.Operators.{Undefined, init, overflow, divzero, shift, access, index, pointing, comparing, Val, is, wrong, where_true, fits, may_divide, may_shift, may_shift_left, arithmetic, computed, is_order}
use Rattle.c_runs.specs.Objects.{plain_root, has_value, cell_of, address, is_index, indexed, may_read, content, is_pointed, read_local, read_at, read_by}
use Rattle.c_runs.specs.Values.{kind_at, applied, Temps}
use Rattle.c_runs.specs.Checks.{Check, here, one_if, index_checks, read_checks_by, constant_of, second_constant, may_be_zero, may_be_minus_one, arithmetic_checks, op_checks}
use Rattle.c_runs.specs.Tests.{total_read_by, total_applied, totals, is_set_by, step_test, read_test_by, arithmetic_test, op_test}
use Rattle.c_runs.specs.CheckLaws.{settle}
use Rattle.c_runs.proofs.Settling.{one_settle, last_settle}

abbrev pub at_step : Undefined → (line n : ℕ) → Check
at_step u l n = record { kind = u; line = l; step = n; way = [] }

-- ---- reading

local_settle : (sure : Bool) (l : ℕ) (x : Local) (test : Check → Bool) → test (here init l) ≡ (sure || is_set_by x)
    → read_local sure l x ≡ settle (one_if (not sure) init l) test wrong (is (held_by x))
local_settle true l (plain v b) test h = refl
local_settle false l (plain v b) test h = last_settle true b init l test v (λ e. absurd cc) h
local_settle true l (home b) test h = refl
local_settle false l (home b) test h = rw h refl

pub indexed_settle : (vs : List Value) (ss : List Step) (n : ℕ) (test : Check → Bool) (cs : List Check) (v : Val) (x : Value)
    → ((i k l : ℕ) → k ≡ n + i → test (at_step index l k) ≡ step_test vs (slice_get ss i))
    → v ≡ settle cs test wrong (is x) → indexed vs ss v ≡ settle (index_checks n ss ++ cs) test wrong (is x)
indexed_settle vs [] n test cs v x h rest = rest
indexed_settle vs (step.Element operand size count line ∷ ss) n test cs v x h rest =
    let ok = is_index count (number_of (value_at vs operand)) in
    let here : test (at_step index line n) ≡ ok = h 0 n line (omega arith) in
    let behind : indexed vs ss v ≡ settle (index_checks (suc n) ss ++ cs) test wrong (is x) =
    indexed_settle vs ss (suc n) test cs v x (λ i k l e. h (suc i) k l (omega arith)) rest in
    rw (here, behind) (by_test ok line (settle (index_checks (suc n) ss ++ cs) test wrong (is x)))
  where
    by_test : (b : Bool) (l : ℕ) (v : Val) → where_true b index l v ≡ (if b then v else wrong index l)
    by_test true l v = refl
    by_test false l v = refl
indexed_settle vs (step.Field k o ∷ ss) n test cs v x h rest = indexed_settle vs ss (suc n) test cs v x (λ i k l e. h (suc i) k l (omega arith)) rest
indexed_settle vs (step.Moved o size ∷ ss) n test cs v x h rest = indexed_settle vs ss (suc n) test cs v x (λ i k l e. h (suc i) k l (omega arith)) rest

pub unless_pointed : (b ok : Bool) → b ≡ false → (if b then ok else true) ≡ true
unless_pointed true ok e = absurd cc
unless_pointed false ok e = refl

read_settle : (r : Option ℕ) (p : Facts) (xs : List Variable) (w : World) (type : CoreType) (path : Path) (vs : List Value) (test : Check → Bool)
    → ((u : Undefined) (l n : ℕ) → test (at_step u l n) ≡ read_test_by r p xs w type path u n vs)
    → read_by r p xs w type path vs ≡ settle (read_checks_by r xs path) test wrong (is (total_read_by r p w type path vs))
read_settle (Some x) p xs w type path vs test h = local_settle (has_value xs x) path.line (w.locals x) test (h init path.line 0)
read_settle None p xs w type path vs test h =
    indexed_settle vs path.steps 0 test (one_if (is_pointed path.root) access path.line) (read_at w.memory (cell_of type) path (address p w path vs))
    (content w.memory (cell_of type) (address p w path vs))
    (λ i k l e. h index l k ∙ ap (λ n. step_test vs (slice_get path.steps n)) (omega arith))
    (last_settle (is_pointed path.root) (may_read w.memory (cell_of type) path.root (address p w path vs)) access path.line test _
    (unless_pointed (is_pointed path.root) _) (h access path.line 0))

-- ---- integers

divided_well : (signed is_low is_minus may_be : Bool) → (is_minus ≡ true → may_be ≡ true) → (signed && may_be) ≡ false
    → (if signed then not (is_low && is_minus) else true) ≡ true
divided_well false low minus may_be h e = refl
divided_well true false minus may_be h e = refl
divided_well true true false may_be h e = refl
divided_well true true true may_be h e = absurd (let t = h refl in cc)

second_or : (a b : Bool) → b ≡ true → (a || b) ≡ true
second_or true b e = refl
second_or false b e = e

zero_by : (u : Option ℤ) (b : ℤ) → ((z : ℤ) → u ≡ Some z → b ≡ z) → may_be_zero u ≡ false → not (is_zero b) ≡ true
zero_by None b h e = absurd cc
zero_by (Some z) b h e = rw (h z refl, e) refl

minus_by : (u : Option ℤ) (b : ℤ) → ((z : ℤ) → u ≡ Some z → b ≡ z) → is_equal b (negsuc 0) ≡ true → may_be_minus_one u ≡ true
minus_by None b h e = refl
minus_by (Some z) b h e = second_or (is_zero z) (is_equal z (negsuc 0)) (rw (h z refl) at e)

divide_settle : (m : Machdep) (k : Kind) (l : ℕ) (u : Option ℤ) (a b z : ℤ) → ((z : ℤ) → u ≡ Some z → b ≡ z) → (test : Check → Bool)
    → test (here divzero l) ≡ not (is_zero b) → test (here overflow l) ≡ may_divide m k a b
    → where_true (not (is_zero b)) divzero l (where_true (may_divide m k a b) overflow l (is (number z)))
    ≡ settle (one_if (may_be_zero u) divzero l ++ one_if (is_signed k && may_be_minus_one u) overflow l) test wrong (is (number z))
divide_settle m k l u a b z h test some fit =
    one_settle (may_be_zero u) (not (is_zero b)) divzero l test (one_if (is_signed k && may_be_minus_one u) overflow l) _ (number z) (zero_by u b h) some
    (last_settle (is_signed k && may_be_minus_one u) (may_divide m k a b) overflow l test (number z)
    (divided_well (is_signed k) (is_equal a (low m k)) (is_equal b (negsuc 0)) (may_be_minus_one u) (minus_by u b h)) fit)

fit_settle : (m : Machdep) (k : Kind) (l : ℕ) (z y : ℤ) (test : Check → Bool) → test (here overflow l) ≡ fits m k z
    → where_true (fits m k z) overflow l (is (number y)) ≡ settle (one_if (is_signed k) overflow l) test wrong (is (number y))
fit_settle m k l z y test h = last_settle (is_signed k) (fits m k z) overflow l test (number y) (unless_pointed (is_signed k) (holds m k z)) h

no_case : (P : Type 0) → true ≡ false → P
no_case P e = absurd cc

arithmetic_settle : (m : Machdep) (k : Kind) (l : ℕ) (o : Arithmetic) (u : Option ℤ) (a b : ℤ) → ((z : ℤ) → u ≡ Some z → b ≡ z) → (test : Check → Bool)
    → ((f : Undefined) → test (here f l) ≡ arithmetic_test m k o f a b)
    → computed m k l o a b ≡ settle (arithmetic_checks (is_signed k) l o u) test wrong (is (number (arithmetic m k o a b)))
arithmetic_settle m k l ar.Mul u a b h test met = fit_settle m k l (a *ℤ b) _ test (met overflow)
arithmetic_settle m k l ar.Div u a b h test met = divide_settle m k l u a b _ h test (met divzero) (met overflow)
arithmetic_settle m k l ar.Rem u a b h test met = divide_settle m k l u a b _ h test (met divzero) (met overflow)
arithmetic_settle m k l ar.Add u a b h test met = fit_settle m k l (a +ℤ b) _ test (met overflow)
arithmetic_settle m k l ar.Sub u a b h test met = fit_settle m k l (a -ℤ b) _ test (met overflow)
arithmetic_settle m k l ar.Shl u a b h test met =
    one_settle true (may_shift m k b) shift l test (one_if (is_signed k) overflow l) _ _ (no_case _) (met shift)
    (last_settle (is_signed k) (may_shift_left m k a b) overflow l test _ (unless_pointed (is_signed k) _) (met overflow))
arithmetic_settle m k l ar.Shr u a b h test met = last_settle true (may_shift m k b) shift l test _ (no_case _) (met shift)
arithmetic_settle m k l ar.And u a b h test met = refl
arithmetic_settle m k l ar.Xor u a b h test met = refl
arithmetic_settle m k l ar.Or u a b h test met = refl

-- ---- operators

unless_accessed : (b ok : Bool) (v : Value) (l : ℕ) (test : Check → Bool) → test (here pointing l) ≡ ok
    → (if b then is v else where_true ok pointing l (is v)) ≡ settle (one_if (not b) pointing l) test wrong (is v)
unless_accessed true ok v l test h = refl
unless_accessed false ok v l test h = last_settle true ok pointing l test v (no_case _) h

-- what is asked in some cases alone
where_asked : (asked ok : Bool) (u : Undefined) (l : ℕ) (test : Check → Bool) (x : Value) → test (here u l) ≡ ok
    → where_true (if asked then ok else true) u l (is x) ≡ settle (one_if asked u l) test wrong (is x)
where_asked true ok u l test x h = last_settle true ok u l test x (no_case _) h
where_asked false ok u l test x h = refl

-- an operand that is a number as spelled has this value
pub constant_second : (p : Facts) (xs : List Variable) (tm : Temps) (w : World) (es : t.Values) (z : ℤ)
    → second_constant es ≡ Some z → number_of (second (totals p xs tm w es)) ≡ z
constant_second p xs tm w t.stop z e = absurd cc
constant_second p xs tm w (t.more a t.stop) z e = absurd cc
constant_second p xs tm w (t.more a (t.more (t.typed node type line) es)) z e = by_node node e
  where
    by_node : (node : t.ValueNode) → constant_of node ≡ Some z → number_of (second (totals p xs tm w (t.more a (t.more (t.typed node type line) es)))) ≡ z
    by_node (t.constant y) e = cc
    by_node t.null e = absurd cc
    by_node (t.temporary n) e = absurd cc
    by_node (t.apply o fs) e = absurd cc
    by_node (t.logic c a b) e = absurd cc
    by_node (t.choose c a b) e = absurd cc
    by_node (t.effect f fs) e = absurd cc

pub op_settle : (p : Facts) (xs : List Variable) (tm : Temps) (w : World) (type : CoreType) (l : ℕ) (o : Op) (es : t.Values) (test : Check → Bool)
    → ((u : Undefined) (line n : ℕ) → test (at_step u line n) ≡ op_test p xs w type o u n (totals p xs tm w es))
    → applied p xs w type l o (totals p xs tm w es) ≡ settle (op_checks xs type l o es) test wrong (is (total_applied p xs w type o (totals p xs tm w es)))
unfolding applied total_applied op_test
op_settle p xs tm w type l (op.Read path) es test h = read_settle (plain_root xs path.root) p xs w type path (totals p xs tm w es) test h
op_settle p xs tm w type l (op.Address path accessed) es test h = unless_accessed _ _ (address p w path (totals p xs tm w es)) path.line test (h pointing path.line 0)
op_settle p xs tm w type l (op.Decay path accessed) es test h = unless_accessed _ _ (address p w path (totals p xs tm w es)) path.line test (h pointing path.line 0)
op_settle p xs tm w type l op.Negate es test h = fit_settle p.model (kind_at type) l _ _ test (h overflow l 0)
op_settle p xs tm w type l op.Complement es test h = refl
op_settle p xs tm w type l op.Not es test h = refl
op_settle p xs tm w type l (op.Arithmetic o) es test h =
    arithmetic_settle p.model (kind_at type) l o (second_constant es) _ _ (constant_second p xs tm w es) test (λ u. h u l 0)
op_settle p xs tm w type l (op.Compare c) es test h = refl
op_settle p xs tm w type l (op.ComparePointers c) es test h =
    where_asked (is_order c) _ comparing l test _ (h comparing l 0)
op_settle p xs tm w type l (op.Offset minus index_first size true) es test h = refl
op_settle p xs tm w type l (op.Offset minus index_first size false) es test h = last_settle true _ pointing l test _ (no_case _) (h pointing l 0)
op_settle p xs tm w type l (op.Difference size) es test h = last_settle true _ comparing l test _ (no_case _) (h comparing l 0)
op_settle p xs tm w type l op.Convert es test h = refl
op_settle p xs tm w type l op.Requalify es test h = refl
op_settle p xs tm w type l op.Cast es test h = refl
