-- What the checks of an expression say, and the value that it has whatever they say.
use Rattle.std.specs.Prelude.{ℕ, zero, suc, Bool, true, false, not, ◌&&◌, ◌||◌, if◌then◌else◌, ℤ, pos, neg_ℤ, ◌+ℤ◌, ◌-ℤ◌, ◌*ℤ◌, List, [], ◌∷◌, Option, Some, None, slice_get}
use Rattle.wp_base.specs.declared.kinds.Kind.{Kind}
use Rattle.c_kinds.specs.declared.models.Machdep.{Machdep}
use Rattle.typed_prog.specs.declared.types.CoreType.{CoreType}
use Rattle.typed_prog.specs.declared.operators.Arithmetic.{Arithmetic}
use Rattle.typed_prog.specs.declared.operators.Arithmetic.TheVariants as ar
use Rattle.typed_prog.specs.declared.operators.Op.{Op}
use Rattle.typed_prog.specs.declared.operators.Op.TheVariants as op
use Rattle.typed_prog.specs.declared.operators.Path.{Path}
use Rattle.typed_prog.specs.declared.operators.Step.{Step}
use Rattle.typed_prog.specs.declared.operators.Step.TheVariants as step
use Rattle.typed_prog.specs.Tree as t
use Rattle.qed_terms.specs.Operators.{is_zero}
use Rattle.c_runs.specs.Told.{Value, number, null, number_of, compare, compare_pointers, first, second, value_at}
use Rattle.c_runs.specs.Program.{Facts, Variable}
use Rattle.c_runs.specs.States.{Local, plain, home, World, held_by, is_nonzero}
use Rattle.c_runs.specs.Operators.{Undefined, init, overflow, divzero, shift, access, index, pointing, comparing, truth_number, within, fits, may_divide, may_shift, may_shift_left, arithmetic, complement, may_point, may_compare, is_order, difference}
use Rattle.c_runs.specs.Objects.{plain_root, has_value, cell_of, address, is_index, may_read, content}
use Rattle.c_runs.specs.Values.{kind_at, moved_in, converted, Temps}
use Rattle.c_runs.specs.Checks.{Check}

-- ---- totals

abbrev pub total_read_by : Option ℕ → Facts → World → CoreType → Path → List Value → Value
total_read_by (Some x) p w type path vs = held_by (w.locals x)
total_read_by None p w type path vs = content w.memory (cell_of type) (address p w path vs)

-- what an operation gives, whatever its checks say
unfoldable pub total_applied : Facts → List Variable → World → CoreType → Op → List Value → Value
total_applied p xs w type (op.Read path) vs = total_read_by (plain_root xs path.root) p w type path vs
total_applied p xs w type (op.Address path accessed) vs = address p w path vs
total_applied p xs w type (op.Decay path accessed) vs = address p w path vs
total_applied p xs w type op.Negate vs = number (within p.model (kind_at type) (neg_ℤ (number_of (first vs))))
total_applied p xs w type op.Complement vs = number (complement p.model (kind_at type) (number_of (first vs)))
total_applied p xs w type op.Not vs = truth_number (not (is_nonzero (first vs)))
total_applied p xs w type (op.Arithmetic o) vs = number (arithmetic p.model (kind_at type) o (number_of (first vs)) (number_of (second vs)))
total_applied p xs w type (op.Compare c) vs = truth_number (compare c (number_of (first vs)) (number_of (second vs)))
total_applied p xs w type (op.ComparePointers c) vs = truth_number (compare_pointers c (first vs) (second vs))
total_applied p xs w type (op.Offset minus index_first size accessed) vs = moved_in index_first minus size vs
total_applied p xs w type (op.Difference size) vs = difference size (first vs) (second vs)
total_applied p xs w type op.Convert vs = converted p type (first vs)
total_applied p xs w type op.Requalify vs = first vs
total_applied p xs w type op.Cast vs = converted p type (first vs)

module _ (p : Facts) (xs : List Variable) where
  abbrev mutual
    pub total_node : Temps → World → CoreType → t.ValueNode → Value
    total_node tm w type (t.constant z) = number z
    total_node tm w type t.null = null
    total_node tm w type (t.temporary n) = tm n
    total_node tm w type (t.apply o es) = total_applied p xs w type o (totals tm w es)
    total_node tm w type _ = number (pos 0)

    pub total : Temps → World → t.Value → Value
    total tm w (t.typed node type line) = total_node tm w type node

    pub totals : Temps → World → t.Values → List Value
    totals tm w t.stop = []
    totals tm w (t.more e es) = total tm w e ∷ totals tm w es

-- ---- tests

abbrev pub is_set_by : Local → Bool
is_set_by (plain v is_set) = is_set
is_set_by (home b) = false

abbrev pub step_test : List Value → Option Step → Bool
step_test vs (Some (step.Element operand size count line)) = is_index count (number_of (value_at vs operand))
step_test vs _ = true

abbrev pub read_test_by : Option ℕ → Facts → List Variable → World → CoreType → Path → Undefined → (step : ℕ) → List Value → Bool
read_test_by (Some x) p xs w type path init n vs = has_value xs x || is_set_by (w.locals x)
read_test_by None p xs w type path index n vs = step_test vs (slice_get path.steps n)
read_test_by None p xs w type path access n vs = may_read w.memory (cell_of type) path.root (address p w path vs)
read_test_by r p xs w type path u n vs = true

abbrev pub arithmetic_test : Machdep → Kind → Arithmetic → Undefined → ℤ → ℤ → Bool
arithmetic_test m k ar.Mul overflow a b = fits m k (a *ℤ b)
arithmetic_test m k ar.Add overflow a b = fits m k (a +ℤ b)
arithmetic_test m k ar.Sub overflow a b = fits m k (a -ℤ b)
arithmetic_test m k ar.Div divzero a b = not (is_zero b)
arithmetic_test m k ar.Div overflow a b = may_divide m k a b
arithmetic_test m k ar.Rem divzero a b = not (is_zero b)
arithmetic_test m k ar.Rem overflow a b = may_divide m k a b
arithmetic_test m k ar.Shl shift a b = may_shift m k b
arithmetic_test m k ar.Shl overflow a b = may_shift_left m k a b
arithmetic_test m k ar.Shr shift a b = may_shift m k b
arithmetic_test m k o u a b = true

-- whether a check of the kind holds at an operation on operands of these values
unfoldable pub op_test : Facts → List Variable → World → CoreType → Op → Undefined → (step : ℕ) → List Value → Bool
op_test p xs w type (op.Read path) u n vs = read_test_by (plain_root xs path.root) p xs w type path u n vs
op_test p xs w type (op.Address path accessed) pointing n vs = may_point w.memory.blocks (address p w path vs)
op_test p xs w type (op.Decay path accessed) pointing n vs = may_point w.memory.blocks (address p w path vs)
op_test p xs w type op.Negate overflow n vs = fits p.model (kind_at type) (neg_ℤ (number_of (first vs)))
op_test p xs w type (op.Arithmetic o) u n vs = arithmetic_test p.model (kind_at type) o u (number_of (first vs)) (number_of (second vs))
op_test p xs w type (op.ComparePointers c) comparing n vs = may_compare w.memory.blocks (first vs) (second vs)
op_test p xs w type (op.Offset minus index_first size accessed) pointing n vs = may_point w.memory.blocks (moved_in index_first minus size vs)
op_test p xs w type (op.Difference size) comparing n vs = may_compare w.memory.blocks (first vs) (second vs)
op_test p xs w type o u n vs = true

module _ (p : Facts) (xs : List Variable) where
  abbrev mutual
    -- whether a check holds: the operation at its way, on the values of its operands
    pub node_holds : Temps → World → CoreType → t.ValueNode → (way : List ℕ) → Undefined → (step : ℕ) → Bool
    node_holds tm w type (t.apply o es) [] u n = op_test p xs w type o u n (totals p xs tm w es)
    node_holds tm w type (t.apply o es) (i ∷ way) u n = holds_in tm w es (i ∷ way) u n
    node_holds tm w type _ way u n = true

    pub holds_at : Temps → World → t.Value → (way : List ℕ) → Undefined → (step : ℕ) → Bool
    holds_at tm w (t.typed node type line) way u n = node_holds tm w type node way u n

    pub holds_in : Temps → World → t.Values → (way : List ℕ) → Undefined → (step : ℕ) → Bool
    holds_in tm w (t.more e es) (zero ∷ way) u n = holds_at tm w e way u n
    holds_in tm w (t.more e es) (suc i ∷ way) u n = holds_in tm w es (i ∷ way) u n
    holds_in tm w _ way u n = true

-- whether a check holds in a world and with these temporaries
abbrev pub is_met : Facts → List Variable → Temps → World → t.Value → Check → Bool
is_met p xs tm w e c = holds_at p xs tm w e c.way c.kind c.step
