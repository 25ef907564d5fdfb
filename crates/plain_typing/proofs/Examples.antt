-- The file of the example fits.
use Rattle.std.proofs.Common.{◌≡◌, ℕ, zero, suc, ◌<◌, ◌≤◌, Bool, true, false, [], Some, slice_get, refl, ap, subst, inl, inr, arith}
use Rattle.std.specs.Prelude.{◌==◌, nat_lt, ◌||◌, ℤ, pos, ◌⊎◌}
use Rattle.std.proofs.lemmas.Bool.{false_from_ne_true, or_cases, ltb-true}
use Rattle.std.proofs.lemmas.Bool.Decides.{Decides-eqb}
use Rattle.wp_base.specs.declared.kinds.CellKind.TheVariants as cell
use Rattle.wp_base.specs.declared.kinds.Kind.{Kind}
use Rattle.wp_base.specs.declared.kinds.Kind.TheVariants as kind
use Rattle.typed_prog.specs.Tree as t
use Rattle.c_runs.specs.Program.{Variable, Function, Program}
use Rattle.c_runs.specs.Plans.{constant_of}
use Rattle.c_runs.specs.Normal.{normal, normal_function}
use Rattle.c_runs.specs.Checks.{checks_of}
use Rattle.c_runs.specs.Tree.{Steps}
use Rattle.c_runs.specs.Adding.{add_checks, function_of}
use Rattle.plain_states.specs.Scopes.{kind_of}
use Rattle.plain_states.proofs.Scoping.{none_some}
use Rattle.plain_states.proofs.Calling.{some_same}
use Rattle.plain_runs.specs.Fitting.{Shape, shape_of, is_param, with_name, Gives, LeadsTo, to_local, to_global, by_variable, for_result, FitsFunction}
use Rattle.value_terms.specs.Typed.{kind_given, operand_kind, IsTyped}
use Rattle.plain_typing.specs.Laws.{scope_of}
use Rattle.plain_typing.specs.Examples.{int, integer, of_f, total, local, value_of, only, facts, f, functions, file, ExampleFits}
use Rattle.c_kinds.specs.Models.{holds}
use Rattle.plain_typing.proofs.Giving.{typed_give}
use Rattle.plain_typing.proofs.Operands.{typed_give_all, typed_store}

abbrev program : Program Steps
program = add_checks (normal file)

abbrev core : Function Steps
core = function_of (normal_function f)

abbrev int_kind : ℕ → Kind
int_kind n = kind.Int

abbrev shape : Shape
shape = shape_of core 1 int_kind

-- ---- expressions

n_is_typed : IsTyped facts of_f (scope_of shape) (value_of 0)
n_is_typed = (tt, record { variable = integer true; found = refl; declared = refl; kind = refl })

left_is_typed : IsTyped facts of_f (scope_of shape) (value_of 1)
left_is_typed = (tt, record { variable = integer true; found = refl; declared = refl; kind = refl })

part_is_typed : IsTyped facts of_f (scope_of shape) (value_of 2)
part_is_typed = (tt, record { variable = integer true; found = refl; declared = refl; kind = refl })

gives : (e : t.Value) → IsTyped facts of_f (scope_of shape) e → kind_given (t.type_of e) ≡ cell.Of kind.Int → Gives facts shape (checks_of of_f e) e kind.Int
gives e typed k = typed_give facts shape refl refl e typed kind.Int k

abbrev temporary_of : t.Value
temporary_of = t.typed (t.temporary 0) int 6

-- ---- variables in scope

abbrev in_f : ℕ → Bool
in_f = with_name 1 (is_param 1)

none_behind : (x : ℕ) → 2 ≤ x → in_f x ≡ false
none_behind x h = false_from_ne_true (in_f x) (λ e. by (or_cases (1 == x) (nat_lt x 1) e)) where
  by : ((1 == x) ≡ true) ⊎ (nat_lt x 1 ≡ true) → ⊥
  by (inl e) = absurd (omega (arith, h, (Decides-eqb 1 x).0 e))
  by (inr e) = absurd (omega (arith, h, ltb-true x 1 e))

-- ---- statements

one_of : (z : ℤ) → holds facts.model kind.Int z ≡ true → Gives facts shape [] (constant_of int 6 z) kind.Int
one_of z h = gives (constant_of int 6 z) (refl, h) refl

argument : (i : ℕ) (v : Variable) → i < 1 → slice_get of_f i ≡ Some v → operand_kind (only (value_of 1)) i ≡ cell.Of (kind_of v)
argument zero v below e = ap (λ x. cell.Of (kind_of x)) (some_same (integer true) v e)
argument (suc i) v below e = absurd (omega (arith, below))

abbrev in_loop : ℕ → Bool
in_loop = with_name 2 in_f

abbrev to_left : LeadsTo facts shape in_loop (local 1) kind.Int
to_left = to_local 1 (integer true) refl refl refl refl refl

abbrev to_total : LeadsTo facts shape in_f total kind.Int
to_total = to_global 0 (integer true) refl refl refl refl

-- what a condition that leaves a block asks for
abbrev leaves : Unit {0} × (Unit {0} × Unit {0})
leaves = (tt, (tt, tt))

fits : FitsFunction program core
fits = record {
  temporaries = 1;
  temp_kind = int_kind;
  integers = refl;
  params = omega arith;
  body = (
    (
      (refl, omega arith, omega arith, tt),
      (
        -- int left = n;
        (kind.Int, (integer true, refl, refl, refl, omega arith), gives (value_of 0) n_is_typed refl),
        (
          -- the loop, with its test, the call and the assignment
          (
            (
              omega arith,
              λ x h. inl (none_behind x h),
              (
                leaves,
                (
                  (
                    (
                      (refl, omega arith, omega arith, tt),
                      (
                        (
                          core,
                          refl,
                          for_result (typed_give_all facts shape refl refl (only (value_of 1)) (left_is_typed, tt) of_f (omega arith) argument) refl
                              (by_variable (integer true, refl, refl, refl, omega arith)),
                        ),
                        (
                          (kind.Int, to_left, typed_store facts shape refl refl (value_of 2) part_is_typed in_loop int (local 1) kind.Int to_left refl),
                          tt,
                        ),
                      ),
                    ),
                    tt,
                  ),
                  tt,
                ),
              ),
            ),
            tt,
          ),
          (
            -- total = left;
            (kind.Int, to_total, typed_store facts shape refl refl (value_of 1) left_is_typed in_f int total kind.Int to_total refl),
            (
              -- n || left goes to the temporary
              (
                ((((tt, tt), tt), (leaves, tt)), ((omega arith, one_of (pos 1) refl), (tt, tt))),
                ((omega arith, one_of (pos 0) refl), tt),
              ),
              ((kind.Int, refl, gives temporary_of refl refl), tt),
            ),
          ),
        ),
      ),
    ),
    tt,
  );
}

whose : (n : ℕ) (g : Function Steps) → program.functions n ≡ Some g → FitsFunction program g
whose zero g h = subst (FitsFunction program) (some_same core g h) fits
whose (suc n) g h = absurd (none_some g h)

pub example_fits : ExampleFits
example_fits = record { globals = refl; functions = whose }
