-- Small programs in which something is done within an expression or in passes of a loop, each with what its runs come to by C11, worked out by hand.
use Rattle.std.specs.Prelude.{◌≡◌, ℕ, ℤ, pos, List, [], ◌∷◌, Some, None}
use Rattle.typed_prog.specs.declared.operators.Arithmetic.TheVariants as ar
use Rattle.typed_prog.specs.declared.operators.Comparison.TheVariants as cmp
use Rattle.typed_prog.specs.declared.operators.Connective.TheVariants as connective
use Rattle.typed_prog.specs.declared.operators.UpdateForm.TheVariants as form
use Rattle.typed_prog.specs.Tree.{Value, typed, logic, choose as choose_}
use Rattle.c_runs.specs.Program.{Stmt, evaluate, block, initial, loop, switch, case_of, default, continue, break, return_of, Stmts, Program}
use Rattle.c_runs.specs.Operators.{divzero}
use Rattle.test_runs.specs.Forms.{int, num, local, element, read, var, calc, test, assign, update, call, stmts, with_value, array, function_of, file_of, outcome, Shown, returned, went_wrong}
use Rattle.test_runs.specs.Programs.{no_claims}

-- a file whose second function gives 2
abbrev pub with_two : List Stmt → Program Stmts
with_two ss = file_of [] (function_of 1 (with_value ∷ with_value ∷ []) ss ∷ function_of 0 [] (return_of (Some (num (pos 2))) ∷ []) ∷ [])

abbrev pub the_two : Value
the_two = call 1 3 []

-- `return e;` with a parameter c
abbrev pub gives : Value → (c : ℤ) → (turns : ℕ) → Shown
gives e c n = outcome (with_two (return_of (Some e) ∷ [])) (c ∷ []) n []

-- ---- `c || f()`, `c && f()`, `(c ? f() : 7) + c`: a call takes a turn, so what isn't evaluated leaves one (C11 6.5.13p4, 6.5.14p4, 6.5.15p4)

abbrev pub either : Value
either = typed (logic connective.Or (var 0 3) the_two) int 3

abbrev pub both : Value
both = typed (logic connective.And (var 0 3) the_two) int 3

abbrev pub chosen : Value
chosen = calc ar.Add 3 (typed (choose_ (var 0 3) the_two (num (pos 7))) int 3) (var 0 3)

-- what is beside a call is evaluated behind it, and what stands behind `&&` where it comes to that
abbrev pub divides : Value
divides = calc ar.Add 3 (calc ar.Div 4 (num (pos 8)) (var 0 4)) (typed (logic connective.And the_two (calc ar.Div 5 (num (pos 1)) (var 0 5))) int 3)

pub record Decides : Type 0 where
  pub either_first : gives either (pos 5) 2 ≡ returned (pos 1) 1
  pub either_second : gives either (pos 0) 2 ≡ returned (pos 1) 0
  pub both_first : gives both (pos 0) 2 ≡ returned (pos 0) 1
  pub both_second : gives both (pos 5) 2 ≡ returned (pos 1) 0
  pub chosen_first : gives chosen (pos 3) 2 ≡ returned (pos 5) 0
  pub chosen_second : gives chosen (pos 0) 2 ≡ returned (pos 7) 1
  pub divides_well : gives divides (pos 1) 2 ≡ returned (pos 9) 0
  pub divides_first : gives divides (pos 0) 2 ≡ went_wrong divzero 4

-- ---- `int x = 5; x += f(); return x;`, `int y = x = c; return x * 10 + y;`, and `a[i++] = 7; return a[0] * 10 + i;` (C11 6.5.16)

abbrev pub adds : Program Stmts
adds = with_two (block (1 ∷ []) (stmts (initial 1 1 (num (pos 5)) ∷ evaluate (update (local 1 3) ar.Add form.Compound 3 the_two) ∷ return_of (Some (var 1 4)) ∷ [])) ∷ [])

abbrev pub passes_on : Program Stmts
passes_on = file_of [] (function_of 1 (with_value ∷ with_value ∷ with_value ∷ []) (block (1 ∷ 2 ∷ []) (stmts (
    initial 1 1 (num (pos 0)) ∷ initial 2 2 (assign (local 1 2) 2 (var 0 2) [])
    ∷ return_of (Some (calc ar.Add 3 (calc ar.Mul 3 (var 1 3) (num (pos 10))) (var 2 3))) ∷ [])) ∷ []) ∷ [])

abbrev pub steps_in : Program Stmts
steps_in = file_of [] (function_of 1 (with_value ∷ array 2 ∷ []) (block (1 ∷ []) (stmts (
    evaluate (assign (element 1 2 2) 2 (num (pos 7)) (update (local 0 2) ar.Add form.Postfix 2 (num (pos 1)) ∷ []))
    ∷ return_of (Some (calc ar.Add 3 (calc ar.Mul 3 (read (element 1 2 3) (num (pos 0) ∷ [])) (num (pos 10))) (var 0 3))) ∷ [])) ∷ []) ∷ [])

pub record Assigns : Type 0 where
  pub adds_ : outcome adds (pos 0 ∷ []) 2 [] ≡ returned (pos 7) 0
  pub passes_on_ : outcome passes_on (pos 4 ∷ []) 1 [] ≡ returned (pos 44) 0
  pub steps_in_ : outcome steps_in (pos 0 ∷ []) 1 [] ≡ returned (pos 71) 0

-- ---- `for (i = 0; i < 4; i++) { switch (i) { case 1: continue; case 2: break; default: n += i; } n += 10; } return n;`: `continue` goes to the step of
-- the loop, `break` behind the switch (C11 6.8.6.2, 6.8.6.3)

abbrev pub more_by : (line : ℕ) → Value → Stmt
more_by l e = evaluate (update (local 1 l) ar.Add form.Compound l e)

abbrev pub goes_on : Program Stmts
goes_on = file_of [] (function_of 0 (with_value ∷ with_value ∷ []) (block (0 ∷ 1 ∷ []) (stmts (
    initial 0 1 (num (pos 0)) ∷ initial 1 1 (num (pos 0))
    ∷ loop (no_claims 2) (Some (test cmp.Less 2 (var 0 2) (num (pos 4)))) (block [] (stmts (
    switch (var 0 3) (stmts (case_of (pos 1) ∷ continue ∷ case_of (pos 2) ∷ break ∷ default ∷ more_by 5 (var 0 5) ∷ []))
    ∷ more_by 6 (num (pos 10)) ∷ [])))
    (Some (update (local 0 2) ar.Add form.Postfix 2 (num (pos 1)))) None
    ∷ return_of (Some (var 1 7)) ∷ [])) ∷ []) ∷ [])

-- four passes, and one that only tests
abbrev pub GoesOn : Type 0
GoesOn = outcome goes_on [] 6 [] ≡ returned (pos 33) 0

pub record OnOrders : Type 0 where
  pub decides : Decides
  pub assigns : Assigns
  pub goes_on_ : GoesOn
