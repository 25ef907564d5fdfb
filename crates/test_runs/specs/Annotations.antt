-- Small programs with annotations, each with what its runs come to by ACSL, worked out by hand.
use Rattle.std.specs.Prelude.{◌≡◌, ℕ, true, false, ℤ, pos, negsuc, [], ◌∷◌, ◌++◌, Some, None}
use Rattle.wp_base.specs.declared.kinds.Kind.TheVariants as kind
use Rattle.typed_prog.specs.declared.operators.Arithmetic.TheVariants as ar
use Rattle.typed_prog.specs.declared.operators.Comparison.{Comparison}
use Rattle.typed_prog.specs.declared.operators.Comparison.TheVariants as cmp
use Rattle.typed_prog.specs.declared.operators.UpdateForm.TheVariants as form
use Rattle.typed_prog.specs.declared.operators.Variable.{Variable as Name}
use Rattle.typed_prog.specs.declared.operators.Variable.TheVariants as variable
use Rattle.acsl_trees.specs.declared.heads.Content.TheVariants as content
use Rattle.acsl_trees.specs.declared.heads.Head.TheVariants as h
use Rattle.acsl_trees.specs.Tree.{Tree, leaf, one, two}
use Rattle.c_runs.specs.Program.{Claim, Behavior, Contract, Loop, Stmts, evaluate, block, initial, choose, loop, return_of, assert as assert_, Function, Program}
use Rattle.c_runs.specs.Claims.{requires, decreases, complete, disjoint, assert, invariant, variant_positive, variant_less, assigns, ensures}
use Rattle.test_runs.specs.Forms.{num, local, global, var, calc, test, assign, update, call, stmts, with_value, no_clauses, no_contract, function_of, file_of, outcome, returned, broke}

-- ---- terms

abbrev pub place_of : Name → Tree
place_of x = leaf (h.Variable x)

abbrev pub held : Name → Tree
held x = one (h.Read (content.Integer kind.Int) None) (place_of x)

abbrev pub it : (variable : ℕ) → Tree
it x = held (variable.Local x)

abbrev pub lit : ℤ → Tree
lit z = leaf (h.Number z)

abbrev pub is : Comparison → Tree → Tree → Tree
is c a b = two (h.Compare c) a b

abbrev pub at_line : (line : ℕ) → Tree → Claim
at_line l t = record { what = t; line = l }

abbrev pub cell_of : Name → Tree
cell_of x = one (h.Region (content.Integer kind.Int)) (place_of x)

abbrev pub under : Contract → Function Stmts → Function Stmts
under c f = record f { contract = c }

-- ---- `//@ assert x < 3;` on line 5

abbrev pub asserts : Program Stmts
asserts = file_of [] (function_of 1 (with_value ∷ []) (assert_ (at_line 5 (is cmp.Less (it 0) (lit (pos 3)))) ∷ return_of (Some (var 0 6)) ∷ []) ∷ [])

pub record Asserts : Type 0 where
  pub so : outcome asserts (pos 2 ∷ []) 1 [] ≡ returned (pos 2) 0
  pub not_so : outcome asserts (pos 3 ∷ []) 1 [] ≡ broke assert 5

-- ---- `assigns g;` before a function that sets h, or g, on line 4

abbrev pub only_first : Contract
only_first = record no_contract { plain = record no_clauses { assigns = Some (cell_of (variable.Global 0) ∷ []) } }

abbrev pub sets : (variable : ℕ) → Program Stmts
sets x = file_of (with_value ∷ with_value ∷ []) (under only_first (function_of 0 [] (
    evaluate (assign (global x 4) 4 (num (pos 6)) []) ∷ return_of (Some (num (pos 0))) ∷ [])) ∷ [])

pub record Sets : Type 0 where
  pub first : outcome (sets 0) [] 1 [] ≡ returned (pos 0) 0
  pub second : outcome (sets 1) [] 1 [] ≡ broke assigns 4

-- ---- `while (i < n) i++;` under an invariant `i <= 3` on line 2 and a variant on line 3, which is `3 - i` or `i`

abbrev pub counted : Tree → Loop
counted v = record {
  invariants = at_line 2 (is cmp.AtMost (it 1) (lit (pos 3))) ∷ [];
  assigns = None;
  line = 0;
  variant = Some (record { what = v; line = 3 });
  declared = 2;
}

abbrev pub counts : Tree → Program Stmts
counts v = file_of [] (function_of 1 (with_value ∷ with_value ∷ []) (block (1 ∷ []) (stmts (
    initial 1 1 (num (pos 0))
    ∷ loop (counted v) (Some (test cmp.Less 4 (var 1 4) (var 0 4))) (evaluate (update (local 1 5) ar.Add form.Postfix 5 (num (pos 1)))) None None
    ∷ return_of (Some (var 1 6)) ∷ [])) ∷ []) ∷ [])

abbrev pub left_over : Tree
left_over = two (h.Arithmetic ar.Sub) (lit (pos 3)) (it 1)

pub record Counts : Type 0 where
  -- a pass begins at the last head too, whose test then fails
  pub three : outcome (counts left_over) (pos 3 ∷ []) 5 [] ≡ returned (pos 3) 0
  pub past : outcome (counts left_over) (pos 4 ∷ []) 9 [] ≡ broke invariant 2
  pub grows : outcome (counts (it 1)) (pos 3 ∷ []) 9 [] ≡ broke variant_less 3
  pub never : outcome (counts (it 1)) (pos 0 ∷ []) 9 [] ≡ returned (pos 0) 7
  pub negative : outcome (counts (two (h.Arithmetic ar.Sub) (lit (negsuc 0)) (it 1))) (pos 3 ∷ []) 9 [] ≡ broke variant_positive 3

-- ---- a parameter has its value at entry where a contract is read: `n = n + 1; return n;` (ACSL 2.3.1)

abbrev pub result_is : Tree → Contract
result_is t = record no_contract { plain = record no_clauses { ensures = at_line 7 (is cmp.Equal (leaf h.Result) t) ∷ [] } }

abbrev pub steps_on : Tree → Program Stmts
steps_on t = file_of [] (under (result_is t) (function_of 1 (with_value ∷ []) (
    evaluate (assign (local 0 8) 8 (calc ar.Add 8 (var 0 8) (num (pos 1))) []) ∷ return_of (Some (var 0 9)) ∷ [])) ∷ [])

pub record StepsOn : Type 0 where
  pub at_entry : outcome (steps_on (two (h.Arithmetic ar.Add) (it 0) (lit (pos 1)))) (pos 4 ∷ []) 1 [] ≡ returned (pos 5) 0
  pub not_behind : outcome (steps_on (it 0)) (pos 4 ∷ []) 1 [] ≡ broke ensures 7

-- ---- a call on line 9 of a function that `requires n > 0`

abbrev pub wants : Contract
wants = record no_contract { plain = record no_clauses { requires = at_line 1 (is cmp.Greater (it 0) (lit (pos 0))) ∷ [] } }

abbrev pub asks : Program Stmts
asks = file_of [] (function_of 1 (with_value ∷ []) (return_of (Some (call 1 9 (var 0 9 ∷ []))) ∷ [])
    ∷ under wants (function_of 1 (with_value ∷ []) (return_of (Some (var 0 2)) ∷ [])) ∷ [])

pub record Asks : Type 0 where
  pub met : outcome asks (pos 1 ∷ []) 2 [] ≡ returned (pos 1) 0
  pub not_met : outcome asks (pos 0 ∷ []) 2 [] ≡ broke requires 9

-- ---- `behavior a: assumes n < 0;`, `behavior b: assumes n < k;`, and that they are complete (line 3) and disjoint (line 4) (ACSL 2.3.3)

abbrev pub assumed : Tree → Behavior
assumed t = record no_clauses { assumes = t ∷ [] }

abbrev pub in_turn : ℤ → Contract
in_turn z = record no_contract {
  behaviors = assumed (is cmp.Less (it 0) (lit (pos 0))) ∷ assumed (is cmp.AtLeast (it 0) (lit z)) ∷ [];
  together = record { is_complete = true; numbers = []; line = 3 } ∷ record { is_complete = false; numbers = 0 ∷ 1 ∷ []; line = 4 } ∷ [];
}

abbrev pub splits : ℤ → Program Stmts
splits z = file_of [] (under (in_turn z) (function_of 1 (with_value ∷ []) (return_of (Some (var 0 5)) ∷ [])) ∷ [])

pub record Splits : Type 0 where
  pub well : outcome (splits (pos 0)) (pos 0 ∷ []) 1 [] ≡ returned (pos 0) 0
  pub gap : outcome (splits (pos 1)) (pos 0 ∷ []) 1 [] ≡ broke complete 3
  pub overlap : outcome (splits (negsuc 1)) (negsuc 0 ∷ []) 1 [] ≡ broke disjoint 4

-- ---- with a third one, `assumes n > 0;`: that the first two are disjoint (line 3), and that the third one is complete (line 4), which is tested first

abbrev pub in_disorder : ℤ → Contract
in_disorder z = record (in_turn z) {
  behaviors = (in_turn z).behaviors ++ assumed (is cmp.Greater (it 0) (lit (pos 0))) ∷ [];
  together = record { is_complete = false; numbers = 0 ∷ 1 ∷ []; line = 3 } ∷ record { is_complete = true; numbers = 2 ∷ []; line = 4 } ∷ [];
}

abbrev pub mixes : ℤ → Program Stmts
mixes z = file_of [] (under (in_disorder z) (function_of 1 (with_value ∷ []) (return_of (Some (var 0 5)) ∷ [])) ∷ [])

pub record Mixes : Type 0 where
  pub well : outcome (mixes (pos 0)) (pos 1 ∷ []) 1 [] ≡ returned (pos 1) 0
  pub both : outcome (mixes (negsuc 1)) (negsuc 0 ∷ []) 1 [] ≡ broke complete 4

-- ---- `decreases n;` and a call on line 6 with `n - 1`, or with n (ACSL 2.5.3)

abbrev pub shrinks : Contract
shrinks = record no_contract { decreases = Some (record { what = it 0; line = 1 }) }

abbrev pub goes_down : ℤ → Program Stmts
goes_down z = file_of [] (under shrinks (function_of 1 (with_value ∷ []) (
    choose (var 0 5) (return_of (Some (call 0 6 (calc ar.Sub 6 (var 0 6) (num z) ∷ [])))) (return_of (Some (num (pos 7)))) ∷ [])) ∷ [])

pub record GoesDown : Type 0 where
  pub less : outcome (goes_down (pos 1)) (pos 2 ∷ []) 3 [] ≡ returned (pos 7) 0
  pub same : outcome (goes_down (pos 0)) (pos 2 ∷ []) 3 [] ≡ broke decreases 6
  -- the measure has to be at least 0 where the call is made
  pub negative : outcome (goes_down (pos 1)) (negsuc 0 ∷ []) 3 [] ≡ broke decreases 6
