-- No check of the table is idle.
use Rattle.std.proofs.Common.{◌≡◌, ℕ, Bool, true, false, not, ◌&&◌, ◌||◌, List, [], ◌∷◌, refl, sym, ap, subst, ℤ, pos, negsuc}
use Rattle.std.specs.Prelude.{if◌then◌else◌}
use Rattle.std.specs.List.{list_all}
use Rattle.std.proofs.lemmas.Bool.{and_parts}
use Rattle.std.proofs.lemmas.Bool.Decides.{Decides-eqb}
use Rattle.wp_base.specs.declared.kinds.Kind.{Kind}
use Rattle.wp_base.specs.Kinds.{is_signed}
use Rattle.c_kinds.specs.declared.models.Machdep.TheVariants as model
use Rattle.c_kinds.specs.Models.{low}
use Rattle.c_kinds.proofs.Ranking.{every_kind, for_each}
use Rattle.typed_prog.specs.declared.types.CoreType.{CoreType}
use Rattle.typed_prog.specs.declared.operators.Arithmetic.{Arithmetic}
use Rattle.typed_prog.specs.declared.operators.Arithmetic.TheVariants as ar
use Rattle.typed_prog.specs.declared.operators.Op.{Op}
use Rattle.typed_prog.specs.declared.operators.Op.TheVariants as op
use Rattle.typed_prog.specs.Tree as t
use Rattle.qed_terms.specs.Operators.{is_zero, is_equal}
use Rattle.c_runs.specs.Told.{Value, first, second}
use Rattle.c_runs.specs.Program.{Variable}
use Rattle.c_runs.specs.Operators.{overflow, divzero, shift, pointing, comparing, may_shift, may_divide, is_order}
use Rattle.c_runs.specs.Objects.{plain_root, is_sure, address}
use Rattle.c_runs.specs.Values.{kind_at, moved_in}
use Rattle.c_runs.specs.Checks.{here, one_if}
use Rattle.c_runs.specs.Tests.{totals, op_test}
use Rattle.c_runs.specs.Failing.{temporaries, and_constant, may_have, EachAt, divides, NoneIsIdle}
use Rattle.c_runs.proofs.Failing.{some_facts, no_blocks, holding, all_zero, none_pointed, none_compared, each_if, none_before, least, overflowing, read_each}

-- ---- integers

-- no kind has so few bits that a shift by 0 isn't one
all_shift : list_all (λ k. may_shift model.X86_64 k (pos 0)) every_kind ≡ true
unfolding every_kind
all_shift = refl

shifts_by_none : (k : Kind) → may_shift model.X86_64 k (pos 0) ≡ true
shifts_by_none k = for_each (λ k. may_shift model.X86_64 k (pos 0)) all_shift k

if_signed : (s b : Bool) → s ≡ true → b ≡ false → (if s then b else true) ≡ false
if_signed true b e h = h
if_signed false b e h = absurd cc

not_both : (a b : Bool) → a ≡ true → b ≡ true → not (a && b) ≡ false
not_both true b e h = ap not h
not_both false b e h = absurd cc

quotient_fails : (k : Kind) (z : ℤ) → is_signed k ≡ true → is_equal z (negsuc 0) ≡ true → may_divide model.X86_64 k (least k) z ≡ false
quotient_fails k z s minus =
    if_signed (is_signed k) _ s (not_both (is_equal (least k) (low model.X86_64 k)) (is_equal z (negsuc 0)) (overflowing k s).itself minus)

other_true : (a b : Bool) → (a || b) ≡ true → a ≡ false → b ≡ true
other_true true b h e = absurd cc
other_true false b h e = h

module _ (xs : List Variable) (type at : CoreType) (l : ℕ) where
  abbrev made : Op → t.Values → t.Value
  made o es = t.typed (t.apply o es) type l

  abbrev two : Arithmetic → t.Value
  two o = made (op.Arithmetic o) (temporaries at 2)

  abbrev kind_here : Kind
  kind_here = kind_at type

  arithmetic_each : (o : Arithmetic) → EachAt xs type l (op.Arithmetic o) (temporaries at 2)
  unfolding op_test
  arithmetic_each ar.Mul = each_if xs (two ar.Mul) [] (is_signed kind_here) overflow l
      (λ s. record { facts = some_facts; temps = holding (least kind_here) (negsuc 0); world = no_blocks; met = refl; unmet = (overflowing kind_here s).product })
  arithmetic_each ar.Add = each_if xs (two ar.Add) [] (is_signed kind_here) overflow l
      (λ s. record { facts = some_facts; temps = holding (least kind_here) (negsuc 0); world = no_blocks; met = refl; unmet = (overflowing kind_here s).sum })
  arithmetic_each ar.Sub = each_if xs (two ar.Sub) [] (is_signed kind_here) overflow l
      (λ s. record { facts = some_facts; temps = holding (least kind_here) (pos 1); world = no_blocks; met = refl; unmet = (overflowing kind_here s).difference })
  arithmetic_each ar.Div = (
    record { facts = some_facts; temps = all_zero; world = no_blocks; met = refl; unmet = refl },
    each_if xs (two ar.Div) (here divzero l ∷ []) (is_signed kind_here && true) overflow l (λ s. record {
      facts = some_facts;
      temps = holding (least kind_here) (negsuc 0);
      world = no_blocks;
      met = refl;
      unmet = quotient_fails kind_here (negsuc 0) (and_parts (is_signed kind_here) true s).0 refl;
    }),
  )
  arithmetic_each ar.Rem = (
    record { facts = some_facts; temps = all_zero; world = no_blocks; met = refl; unmet = refl },
    each_if xs (two ar.Rem) (here divzero l ∷ []) (is_signed kind_here && true) overflow l (λ s. record {
      facts = some_facts;
      temps = holding (least kind_here) (negsuc 0);
      world = no_blocks;
      met = refl;
      unmet = quotient_fails kind_here (negsuc 0) (and_parts (is_signed kind_here) true s).0 refl;
    }),
  )
  arithmetic_each ar.Shl = (
    record { facts = some_facts; temps = holding (pos 0) (negsuc 0); world = no_blocks; met = refl; unmet = refl },
    each_if xs (two ar.Shl) (here shift l ∷ []) (is_signed kind_here) overflow l (λ s. record {
      facts = some_facts;
      temps = holding (negsuc 0) (pos 0);
      world = no_blocks;
      met = ap (λ b. b && true) (shifts_by_none kind_here);
      unmet = if_signed (is_signed kind_here) false s refl;
    }),
  )
  arithmetic_each ar.Shr = (record { facts = some_facts; temps = holding (pos 0) (negsuc 0); world = no_blocks; met = refl; unmet = refl }, tt)
  arithmetic_each ar.And = tt
  arithmetic_each ar.Xor = tt
  arithmetic_each ar.Or = tt

  negate_each : EachAt xs type l op.Negate (temporaries at 1)
  unfolding op_test
  negate_each = each_if xs (made op.Negate (temporaries at 1)) [] (is_signed kind_here) overflow l
      (λ s. record { facts = some_facts; temps = λ n. holding (least kind_here) (pos 0) n; world = no_blocks; met = refl; unmet = (overflowing kind_here s).opposite })

  -- a divisor that is a number other than 0
  constant_each : (o : Arithmetic) (z : ℤ) → divides o ≡ true → is_zero z ≡ false → EachAt xs type l (op.Arithmetic o) (and_constant at z)
  unfolding op_test
  constant_each ar.Div z e some =
      let whole = made (op.Arithmetic ar.Div) (and_constant at z) in
      none_before xs whole (is_zero z) divzero l (one_if (is_signed kind_here && (is_zero z || is_equal z (negsuc 0))) overflow l) some
      (each_if xs whole [] (is_signed kind_here && (is_zero z || is_equal z (negsuc 0))) overflow l (λ s.
      let parts = and_parts (is_signed kind_here) (is_zero z || is_equal z (negsuc 0)) s in record {
        facts = some_facts;
        temps = holding (least kind_here) (pos 0);
        world = no_blocks;
        met = refl;
        unmet = quotient_fails kind_here z parts.0 (other_true (is_zero z) _ parts.1 some);
      }))
  constant_each ar.Rem z e some =
      let whole = made (op.Arithmetic ar.Rem) (and_constant at z) in
      none_before xs whole (is_zero z) divzero l (one_if (is_signed kind_here && (is_zero z || is_equal z (negsuc 0))) overflow l) some
      (each_if xs whole [] (is_signed kind_here && (is_zero z || is_equal z (negsuc 0))) overflow l (λ s.
      let parts = and_parts (is_signed kind_here) (is_zero z || is_equal z (negsuc 0)) s in record {
        facts = some_facts;
        temps = holding (least kind_here) (pos 0);
        world = no_blocks;
        met = refl;
        unmet = quotient_fails kind_here z parts.0 (other_true (is_zero z) _ parts.1 some);
      }))
  constant_each ar.Mul z e some = absurd cc
  constant_each ar.Add z e some = absurd cc
  constant_each ar.Sub z e some = absurd cc
  constant_each ar.Shl z e some = absurd cc
  constant_each ar.Shr z e some = absurd cc
  constant_each ar.And z e some = absurd cc
  constant_each ar.Xor z e some = absurd cc
  constant_each ar.Or z e some = absurd cc

  -- ---- pointers, where no block is live

  abbrev zeros : ℕ → List Value
  zeros n = totals some_facts xs all_zero no_blocks (temporaries at n)

  each_operator : (o : Op) (n : ℕ) → may_have o n ≡ true → EachAt xs type l o (temporaries at n)
  unfolding op_test
  each_operator (op.Read path) n h = read_each xs type at l n path h (plain_root xs path.root) refl
  each_operator (op.Address path accessed) n h =
      each_if xs (made (op.Address path accessed) (temporaries at n)) [] (not (accessed || is_sure path.steps)) pointing path.line
      (λ b. record { facts = some_facts; temps = all_zero; world = no_blocks; met = refl; unmet = none_pointed (address some_facts no_blocks path (zeros n)) })
  each_operator (op.Decay path accessed) n h =
      each_if xs (made (op.Decay path accessed) (temporaries at n)) [] (not (accessed || is_sure path.steps)) pointing path.line
      (λ b. record { facts = some_facts; temps = all_zero; world = no_blocks; met = refl; unmet = none_pointed (address some_facts no_blocks path (zeros n)) })
  each_operator op.Negate n h = subst (λ n. EachAt xs type l op.Negate (temporaries at n)) (sym ((Decides-eqb n 1).0 h)) negate_each
  each_operator op.Complement n h = tt
  each_operator op.Not n h = tt
  each_operator (op.Arithmetic o) n h = subst (λ n. EachAt xs type l (op.Arithmetic o) (temporaries at n)) (sym ((Decides-eqb n 2).0 h)) (arithmetic_each o)
  each_operator (op.Compare c) n h = tt
  each_operator (op.ComparePointers c) n h =
      each_if xs (made (op.ComparePointers c) (temporaries at n)) [] (is_order c) comparing l
      (λ b. record { facts = some_facts; temps = all_zero; world = no_blocks; met = refl; unmet = none_compared (first (zeros n)) (second (zeros n)) })
  each_operator (op.Offset minus index_first size accessed) n h =
      each_if xs (made (op.Offset minus index_first size accessed) (temporaries at n)) [] (not accessed) pointing l
      (λ b. record { facts = some_facts; temps = all_zero; world = no_blocks; met = refl; unmet = none_pointed (moved_in index_first minus size (zeros n)) })
  each_operator (op.Difference size) n h =
      (record { facts = some_facts; temps = all_zero; world = no_blocks; met = refl; unmet = none_compared (first (zeros n)) (second (zeros n)) }, tt)
  each_operator op.Convert n h = tt
  each_operator op.Requalify n h = tt
  each_operator op.Cast n h = tt

pub none_is_idle : NoneIsIdle
none_is_idle xs type at l = record { operators = each_operator xs type at l; constants = constant_each xs type at l }
