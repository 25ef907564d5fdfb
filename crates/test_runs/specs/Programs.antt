-- Small programs, each with what its runs come to by C11, worked out by hand.
use Rattle.std.specs.Prelude.{◌≡◌, ℕ, false, ℤ, pos, negsuc, [], ◌∷◌, Some, None}
use Rattle.typed_prog.specs.declared.operators.Arithmetic.{Arithmetic}
use Rattle.typed_prog.specs.declared.operators.Arithmetic.TheVariants as ar
use Rattle.typed_prog.specs.declared.operators.Comparison.TheVariants as cmp
use Rattle.typed_prog.specs.declared.operators.Connective.TheVariants as connective
use Rattle.typed_prog.specs.declared.operators.UpdateForm.TheVariants as form
use Rattle.typed_prog.specs.Tree.{typed, logic}
use Rattle.c_runs.specs.Program.{Loop, evaluate, block, initial, choose, loop, switch, case_of, default, break, continue, return_of, Stmts, Program}
use Rattle.c_runs.specs.Operators.{init, overflow, divzero, shift, access, index, pointing, noreturn}
use Rattle.test_runs.specs.Forms.{int, num, local, element, read, var, pointed, calc, test, assign, update, call, decayed, moved, stmts, with_value, without_value, array, a_pointer, function_of, file_of, outcome, returned, ran_out, went_wrong}

abbrev pub no_claims : (declared : ℕ) → Loop
no_claims n = record { invariants = []; assigns = None; line = 0; variant = None; declared = n }

-- ---- `switch (x) { case 1: y = 10; case 2: y = y + 1; break; default: y = 5; } return y;` with `int y = 0` before (C11 6.8.4.2)

abbrev pub falls_through : Program Stmts
falls_through = file_of [] (function_of 1 (with_value ∷ with_value ∷ []) (block (1 ∷ []) (stmts (
    initial 1 1 (num (pos 0))
    ∷ switch (var 0 1) (stmts (
    case_of (pos 1) ∷ evaluate (assign (local 1 2) 2 (num (pos 10)) [])
    ∷ case_of (pos 2) ∷ evaluate (assign (local 1 3) 3 (calc ar.Add 3 (var 1 3) (num (pos 1))) []) ∷ break
    ∷ default ∷ evaluate (assign (local 1 4) 4 (num (pos 5)) []) ∷ []))
    ∷ return_of (Some (var 1 5)) ∷ [])) ∷ []) ∷ [])

pub record FallsThrough : Type 0 where
  pub one : outcome falls_through (pos 1 ∷ []) 1 [] ≡ returned (pos 11) 0
  pub two : outcome falls_through (pos 2 ∷ []) 3 [] ≡ returned (pos 1) 2
  pub other : outcome falls_through (pos 7 ∷ []) 1 [] ≡ returned (pos 5) 0
  pub no_turn : outcome falls_through (pos 7 ∷ []) 0 [] ≡ ran_out

-- ---- `do { i++; if (i == 2) continue; n++; } while (i < 3); return n;` from 0 and 0: three passes, one of which leaves early (C11 6.8.6.2)

abbrev pub goes_round : Program Stmts
goes_round = file_of [] (function_of 0 (with_value ∷ with_value ∷ []) (block (0 ∷ 1 ∷ []) (stmts (
    initial 0 1 (num (pos 0)) ∷ initial 1 1 (num (pos 0))
    ∷ loop (no_claims 2) None (block [] (stmts (
    evaluate (update (local 0 2) ar.Add form.Postfix 2 (num (pos 1)))
    ∷ choose (test cmp.Equal 2 (var 0 2) (num (pos 2))) continue (block [] (stmts []))
    ∷ evaluate (update (local 1 3) ar.Add form.Postfix 3 (num (pos 1))) ∷ [])))
    None (Some (test cmp.Less 4 (var 0 4) (num (pos 3))))
    ∷ return_of (Some (var 1 5)) ∷ [])) ∷ []) ∷ [])

pub record GoesRound : Type 0 where
  pub enough : outcome goes_round [] 5 [] ≡ returned (pos 2) 1
  pub just : outcome goes_round [] 4 [] ≡ returned (pos 2) 0
  pub short : outcome goes_round [] 3 [] ≡ ran_out

-- ---- `int i = 1; int j = 5 + i++; return j * 10 + i;` (C11 6.5.2.4p2)

abbrev pub counts_on : Program Stmts
counts_on = file_of [] (function_of 0 (with_value ∷ with_value ∷ []) (block (0 ∷ 1 ∷ []) (stmts (
    initial 0 1 (num (pos 1))
    ∷ initial 1 2 (calc ar.Add 2 (num (pos 5)) (update (local 0 2) ar.Add form.Postfix 2 (num (pos 1))))
    ∷ return_of (Some (calc ar.Add 3 (calc ar.Mul 3 (var 1 3) (num (pos 10))) (var 0 3))) ∷ [])) ∷ []) ∷ [])

abbrev pub CountsOn : Type 0
CountsOn = outcome counts_on [] 1 [] ≡ returned (pos 62) 0

-- ---- `int f(int n) { if (n < 1) return 0; return f(n - 1) + 1; }`: a turn a call (C11 6.5.2.2p11)

abbrev pub recurs : Program Stmts
recurs = file_of [] (function_of 1 (with_value ∷ []) (
    choose (test cmp.Less 1 (var 0 1) (num (pos 1))) (return_of (Some (num (pos 0)))) (block [] (stmts []))
    ∷ return_of (Some (calc ar.Add 2 (call 0 2 (calc ar.Sub 2 (var 0 2) (num (pos 1)) ∷ [])) (num (pos 1)))) ∷ []) ∷ [])

pub record Recurs : Type 0 where
  pub enough : outcome recurs (pos 3 ∷ []) 4 [] ≡ returned (pos 3) 0
  pub short : outcome recurs (pos 3 ∷ []) 3 [] ≡ ran_out

-- ---- `return x < 0 && x - 2147483647 < 5;`: the second operand where the first is true alone (C11 6.5.13p4)

abbrev pub stops_early : Program Stmts
stops_early = file_of [] (function_of 1 (with_value ∷ []) (
    return_of (Some (typed (logic connective.And (test cmp.Less 1 (var 0 1) (num (pos 0)))
    (test cmp.Less 2 (calc ar.Sub 2 (var 0 2) (num (pos 2147483647))) (num (pos 5)))) int 1)) ∷ []) ∷ [])

pub record StopsEarly : Type 0 where
  pub first : outcome stops_early (pos 0 ∷ []) 1 [] ≡ returned (pos 0) 0
  pub both : outcome stops_early (negsuc 0 ∷ []) 1 [] ≡ returned (pos 1) 0
  pub wrong : outcome stops_early (negsuc 1 ∷ []) 1 [] ≡ went_wrong overflow 2

-- ---- `int x; if (c) x = 4; return x;` (C11 6.3.2.1p2)

abbrev pub reads_unset : Program Stmts
reads_unset = file_of [] (function_of 1 (with_value ∷ without_value ∷ []) (block (1 ∷ []) (stmts (
    choose (var 0 1) (evaluate (assign (local 1 1) 1 (num (pos 4)) [])) (block [] (stmts []))
    ∷ return_of (Some (var 1 2)) ∷ [])) ∷ []) ∷ [])

pub record ReadsUnset : Type 0 where
  pub set : outcome reads_unset (pos 1 ∷ []) 1 (pos 9 ∷ []) ≡ returned (pos 4) 0
  pub unset : outcome reads_unset (pos 0 ∷ []) 1 (pos 9 ∷ []) ≡ went_wrong init 2

-- ---- `int a[2]; return a[i];`: a cell that was never set holds some value (C11 6.7.9p10), an index has its bounds

abbrev pub takes_contents : Program Stmts
takes_contents = file_of [] (function_of 1 (with_value ∷ array 2 ∷ []) (block (1 ∷ []) (stmts (
    return_of (Some (read (element 1 2 3) (var 0 3 ∷ []))) ∷ [])) ∷ []) ∷ [])

pub record TakesContents : Type 0 where
  pub first : outcome takes_contents (pos 0 ∷ []) 1 (pos 7 ∷ pos 8 ∷ []) ≡ returned (pos 7) 0
  pub second : outcome takes_contents (pos 1 ∷ []) 1 (pos 7 ∷ pos 8 ∷ []) ≡ returned (pos 8) 0
  pub none_left : outcome takes_contents (pos 1 ∷ []) 1 (pos 7 ∷ []) ≡ returned (pos 0) 0
  pub no_int : outcome takes_contents (pos 0 ∷ []) 1 (pos 2147483648 ∷ []) ≡ returned (pos 0) 0
  pub outside : outcome takes_contents (pos 2 ∷ []) 1 [] ≡ went_wrong index 3
  pub below : outcome takes_contents (negsuc 0 ∷ []) 1 [] ≡ went_wrong index 3

-- ---- `int a[2]; int *p; p = a + 2; return *p;`, and the same with 3: behind the last element a pointer may be made and not followed (C11 6.5.6p8)

abbrev pub points : ℤ → Program Stmts
points z = file_of [] (function_of 0 (array 2 ∷ a_pointer ∷ []) (block (0 ∷ 1 ∷ []) (stmts (
    evaluate (assign (local 1 2) 2 (moved false 2 (decayed 0 2) z) [])
    ∷ return_of (Some (pointed 3 (var 1 3))) ∷ [])) ∷ []) ∷ [])

pub record Points : Type 0 where
  pub inside : outcome (points (pos 1)) [] 1 (pos 5 ∷ pos 6 ∷ []) ≡ returned (pos 6) 0
  pub behind : outcome (points (pos 2)) [] 1 [] ≡ went_wrong access 3
  pub beyond : outcome (points (pos 3)) [] 1 [] ≡ went_wrong pointing 2

-- ---- `int *p; { int a[1]; p = a; } return *p;`: the array has ended (C11 6.2.4p2)

abbrev pub dangles : Program Stmts
dangles = file_of [] (function_of 0 (a_pointer ∷ array 1 ∷ []) (block (0 ∷ []) (stmts (
    block (1 ∷ []) (stmts (evaluate (assign (local 0 2) 2 (decayed 1 2) []) ∷ []))
    ∷ return_of (Some (pointed 3 (var 0 3))) ∷ [])) ∷ []) ∷ [])

abbrev pub Dangles : Type 0
Dangles = outcome dangles [] 1 [] ≡ went_wrong access 3

-- ---- `while (1) { switch (x) { case 0: break; } if (x == 0) return 8; break; } return 9;`: a `break` leaves the switch alone (C11 6.8.6.3)

abbrev pub leaves_switch : Program Stmts
leaves_switch = file_of [] (function_of 1 (with_value ∷ []) (
    loop (no_claims 1) (Some (num (pos 1))) (block [] (stmts (
    switch (var 0 2) (stmts (case_of (pos 0) ∷ break ∷ []))
    ∷ choose (test cmp.Equal 3 (var 0 3) (num (pos 0))) (return_of (Some (num (pos 8)))) (block [] (stmts []))
    ∷ break ∷ []))) None None
    ∷ return_of (Some (num (pos 9))) ∷ []) ∷ [])

pub record LeavesSwitch : Type 0 where
  pub inside : outcome leaves_switch (pos 0 ∷ []) 2 [] ≡ returned (pos 8) 0
  pub behind : outcome leaves_switch (pos 1 ∷ []) 2 [] ≡ returned (pos 9) 0

-- ---- operators: `return x / y;`, `return x << y;`, and running off the end (C11 6.5.5, 6.5.7, 6.9.1p12)

abbrev pub computes : Arithmetic → Program Stmts
computes o = file_of [] (function_of 2 (with_value ∷ with_value ∷ []) (return_of (Some (calc o 4 (var 0 4) (var 1 4))) ∷ []) ∷ [])

abbrev pub falls_off : Program Stmts
falls_off = file_of [] (function_of 0 [] [] ∷ [])

abbrev pub gives_nothing : Program Stmts
gives_nothing = file_of [] (record (function_of 0 [] []) { result = None } ∷ [])

pub record Computes : Type 0 where
  pub towards_zero : outcome (computes ar.Div) (negsuc 6 ∷ pos 2 ∷ []) 1 [] ≡ returned (negsuc 2) 0
  pub sign_of_first : outcome (computes ar.Rem) (negsuc 6 ∷ pos 2 ∷ []) 1 [] ≡ returned (negsuc 0) 0
  pub by_zero : outcome (computes ar.Div) (pos 1 ∷ pos 0 ∷ []) 1 [] ≡ went_wrong divzero 4
  pub no_quotient : outcome (computes ar.Div) (negsuc 2147483647 ∷ negsuc 0 ∷ []) 1 [] ≡ went_wrong overflow 4
  pub no_remainder : outcome (computes ar.Rem) (negsuc 2147483647 ∷ negsuc 0 ∷ []) 1 [] ≡ went_wrong overflow 4
  pub product : outcome (computes ar.Mul) (pos 65536 ∷ pos 32768 ∷ []) 1 [] ≡ went_wrong overflow 4
  pub shifted : outcome (computes ar.Shl) (pos 3 ∷ pos 4 ∷ []) 1 [] ≡ returned (pos 48) 0
  pub too_far : outcome (computes ar.Shl) (pos 3 ∷ pos 32 ∷ []) 1 [] ≡ went_wrong shift 4
  pub negative : outcome (computes ar.Shl) (negsuc 0 ∷ pos 1 ∷ []) 1 [] ≡ went_wrong overflow 4
  pub right : outcome (computes ar.Shr) (negsuc 4 ∷ pos 1 ∷ []) 1 [] ≡ returned (negsuc 2) 0
  pub off_the_end : outcome falls_off [] 1 [] ≡ went_wrong noreturn 99
  pub no_result : outcome gives_nothing [] 1 [] ≡ returned (pos 0) 0
