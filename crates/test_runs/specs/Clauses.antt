-- Small programs with sets, behaviors, labels, quantifiers and logic functions, each with what its runs come to by ACSL, worked out by hand.
use Rattle.std.specs.Prelude.{◌≡◌, ℕ, true, false, ℤ, pos, negsuc, List, [], ◌∷◌, Option, Some, None}
use Rattle.wp_base.specs.declared.kinds.Kind.TheVariants as kind
use Rattle.typed_prog.specs.declared.operators.Arithmetic.TheVariants as ar
use Rattle.typed_prog.specs.declared.operators.Comparison.TheVariants as cmp
use Rattle.typed_prog.specs.declared.operators.Variable.TheVariants as variable
use Rattle.typed_prog.specs.Tree.{Value}
use Rattle.acsl_trees.specs.declared.heads.BinderPlace.{BinderPlace}
use Rattle.acsl_trees.specs.declared.heads.Content.TheVariants as content
use Rattle.acsl_trees.specs.declared.heads.Head.TheVariants as h
use Rattle.acsl_trees.specs.declared.heads.Label.{Label}
use Rattle.acsl_trees.specs.declared.heads.Label.TheVariants as label
use Rattle.acsl_trees.specs.declared.heads.Range.{Range}
use Rattle.acsl_trees.specs.declared.heads.Range.TheVariants as range
use Rattle.acsl_trees.specs.Tree.{Tree, leaf, one, two, three}
use Rattle.acsl_expand.specs.Expansion.{Definition}
use Rattle.c_runs.specs.Program.{Claim, Behavior, Contract, Loop, Stmt, Stmts, evaluate, block, choose, loop, break, return_of, assert as assert_, Program}
use Rattle.c_runs.specs.Claims.{requires, assert, invariant, assigns, ensures}
use Rattle.test_runs.specs.Forms.{num, local, global, element, var, calc, test, assign, call, decayed, stmts, with_value, array, no_clauses, no_contract, function_of, file_of, outcome, Shown, returned, pointer_returned, ran_out, broke}
use Rattle.test_runs.specs.Annotations.{it, lit, is, at_line, cell_of, place_of, under, goes_down}
use Rattle.test_runs.specs.Pointers.{at_pointer, the_pointer, set_pointer}

-- ---- words

abbrev pub with_set : List Tree → Contract
with_set ts = record no_contract { plain = record no_clauses { assigns = Some ts } }

abbrev pub sets_global : (variable line : ℕ) → Stmt
sets_global x l = evaluate (assign (global x l) l (num (pos 6)) [])

abbrev pub sets_local : (variable line : ℕ) → Stmt
sets_local x l = evaluate (assign (local x l) l (num (pos 6)) [])

abbrev pub gives_zero : Stmt
gives_zero = return_of (Some (num (pos 0)))

abbrev pub under_loop : (declared : ℕ) → Option (List Tree) → List Claim → Loop
under_loop n s cs = record { invariants = cs; assigns = s; line = 0; variant = None; declared = n }

abbrev pub forever : Option Value
forever = Some (num (pos 1))

-- a function with the contract, which calls one without on line 9
abbrev pub calls_it : Contract → List Stmt → Program Stmts
calls_it c ss = file_of (with_value ∷ []) (under c (function_of 0 [] (evaluate (call 1 9 []) ∷ gives_zero ∷ [])) ∷ function_of 0 (array 1 ∷ []) ss ∷ [])

-- ---- `assigns \nothing;`: cells of a call's own blocks are newer, whatever it says itself; those of its caller and variables of the file aren't (ACSL 2.3.2)

abbrev pub own_cell : List Stmt
own_cell = block (0 ∷ []) (stmts (evaluate (assign (element 0 1 4) 4 (num (pos 1)) (num (pos 0) ∷ [])) ∷ [])) ∷ gives_zero ∷ []

-- `int a[1]; f(a);` with `assigns \nothing;` before f alone, which sets `*p`
abbrev pub lends_to : Contract → Program Stmts
lends_to c = file_of [] (function_of 0 (array 1 ∷ []) (block (0 ∷ []) (stmts (evaluate (call 1 2 (decayed 0 2 ∷ [])) ∷ gives_zero ∷ [])) ∷ [])
    ∷ under c (function_of 1 (set_pointer ∷ []) (evaluate (assign (at_pointer 7) 7 (num (pos 5)) (the_pointer 0 7 ∷ [])) ∷ gives_zero ∷ [])) ∷ [])

-- `*p` as an entry, read at the entry of the call
abbrev pub what_it_leads_to : Tree
what_it_leads_to = one (h.Region (content.Integer kind.Int)) (one h.Pointed (one (h.Read content.Pointer None) (place_of (variable.Local 0))))

abbrev pub what_it_leads_to_as_char : Tree
what_it_leads_to_as_char = one (h.Region (content.Integer kind.Char)) (one h.Pointed (one (h.Read content.Pointer None) (place_of (variable.Local 0))))

pub record ChangesNothing : Type 0 where
  pub own : outcome (calls_it (with_set []) own_cell) [] 2 [] ≡ returned (pos 0) 0
  pub of_file : outcome (calls_it (with_set []) (sets_global 0 4 ∷ gives_zero ∷ [])) [] 2 [] ≡ broke assigns 4
  pub named : outcome (calls_it (with_set (cell_of (variable.Global 0) ∷ [])) (sets_global 0 4 ∷ gives_zero ∷ [])) [] 2 [] ≡ returned (pos 0) 0
  pub of_caller : outcome (lends_to (with_set [])) [] 2 [] ≡ broke assigns 7
  pub led_to : outcome (lends_to (with_set (what_it_leads_to ∷ []))) [] 2 [] ≡ returned (pos 0) 0
  pub of_no_such_kind : outcome (lends_to (with_set (what_it_leads_to_as_char ∷ []))) [] 2 [] ≡ broke assigns 7
  pub without : outcome (lends_to no_contract) [] 2 [] ≡ returned (pos 0) 0

-- ---- `behavior b: assumes n > 0; requires n < 5; assigns g; ensures \result == 0;`, where the body sets h (ACSL 2.3.3)

abbrev pub positive : Tree
positive = is cmp.Greater (it 0) (lit (pos 0))

abbrev pub only_then : Behavior → Contract
only_then b = record no_contract { behaviors = record b { assumes = positive ∷ [] } ∷ [] }

abbrev pub behaves : Behavior → List Stmt → ℤ → Shown
behaves b ss n = outcome (file_of (with_value ∷ with_value ∷ []) (function_of 1 (with_value ∷ []) (
    return_of (Some (call 1 9 (var 0 9 ∷ []))) ∷ []) ∷ under (only_then b) (function_of 1 (with_value ∷ []) ss) ∷ [])) (n ∷ []) 2 []

abbrev pub below_five : Behavior
below_five = record no_clauses { requires = at_line 1 (is cmp.Less (it 0) (lit (pos 5))) ∷ [] }

abbrev pub gives_none : Behavior
gives_none = record no_clauses { ensures = at_line 3 (is cmp.Equal (leaf h.Result) (lit (pos 0))) ∷ [] }

abbrev pub sets_first : Behavior
sets_first = record no_clauses { assigns = Some (cell_of (variable.Global 0) ∷ []) }

pub record Behaves : Type 0 where
  pub asked : behaves below_five (gives_zero ∷ []) (pos 5) ≡ broke requires 9
  pub met : behaves below_five (gives_zero ∷ []) (pos 4) ≡ returned (pos 0) 0
  pub not_asked : behaves below_five (gives_zero ∷ []) (pos 0) ≡ returned (pos 0) 0
  pub promised : behaves gives_none (return_of (Some (num (pos 2))) ∷ []) (pos 1) ≡ broke ensures 3
  pub not_promised : behaves gives_none (return_of (Some (num (pos 2))) ∷ []) (pos 0) ≡ returned (pos 2) 0
  -- what is assumed is read at the entry: `n = 0;` doesn't undo it
  pub at_entry : behaves gives_none (evaluate (assign (local 0 4) 4 (num (pos 0)) []) ∷ return_of (Some (num (pos 2))) ∷ []) (pos 1) ≡ broke ensures 3
  pub held_to : behaves sets_first (sets_global 1 4 ∷ gives_zero ∷ []) (pos 1) ≡ broke assigns 4
  pub not_held_to : behaves sets_first (sets_global 1 4 ∷ gives_zero ∷ []) (pos 0) ≡ returned (pos 0) 0

-- ---- loops: `int i, j;`, an outer one with `loop assigns i;`, and in it j is set, by a loop with a set of its own or without (ACSL 2.4.2)

abbrev pub outer : Loop
outer = under_loop 2 (Some (cell_of (variable.Local 0) ∷ [])) []

abbrev pub in_outer : List Stmt → Shown
in_outer ss = outcome (file_of [] (function_of 0 (with_value ∷ with_value ∷ with_value ∷ []) (block (0 ∷ 1 ∷ []) (stmts (
    loop outer forever (block (2 ∷ []) (stmts ss)) None None ∷ gives_zero ∷ [])) ∷ []) ∷ [])) [] 3 []

abbrev pub inner_sets : Option (List Tree) → Stmt
inner_sets s = loop (under_loop 3 s []) forever (block [] (stmts (sets_local 1 5 ∷ break ∷ []))) None None

pub record Loops : Type 0 where
  pub named : in_outer (sets_local 0 4 ∷ break ∷ []) ≡ returned (pos 0) 1
  pub not_named : in_outer (sets_local 1 4 ∷ break ∷ []) ≡ broke assigns 4
  pub declared_inside : in_outer (sets_local 2 4 ∷ break ∷ []) ≡ returned (pos 0) 1
  pub by_inner : in_outer (inner_sets None ∷ break ∷ []) ≡ broke assigns 5
  pub named_by_inner : in_outer (inner_sets (Some (cell_of (variable.Local 1) ∷ [])) ∷ break ∷ []) ≡ broke assigns 5

-- ---- `while (1) { n = n + 1; if (n == 3) break; }` under claims about n at the loop's entry, and at the function's (ACSL 2.4.3)

abbrev pub at_label : Label → Tree → Tree
at_label l t = one (h.At l) t

abbrev pub then_zero : List Stmt → List Stmt
then_zero [] = gives_zero ∷ []
then_zero (s ∷ ss) = s ∷ then_zero ss

abbrev pub rises : List Claim → List Stmt → Program Stmts
rises cs ss = file_of [] (function_of 1 (with_value ∷ []) (
    evaluate (assign (local 0 1) 1 (calc ar.Add 1 (var 0 1) (num (pos 1))) [])
    ∷ loop (under_loop 1 None cs) forever (block [] (stmts (
    evaluate (assign (local 0 4) 4 (calc ar.Add 4 (var 0 4) (num (pos 1))) [])
    ∷ choose (test cmp.Equal 5 (var 0 5) (num (pos 3))) break (block [] (stmts [])) ∷ []))) None None
    ∷ then_zero ss) ∷ [])

-- from 0: 1 at the loop's entry, heads with 1 and 2, and 3 behind it, where no invariant is asked for
abbrev pub from_zero : List Claim → List Stmt → Shown
from_zero cs ss = outcome (rises cs ss) (pos 0 ∷ []) 3 []

abbrev pub is_at_entry : ℤ → Tree
is_at_entry z = is cmp.Equal (at_label label.LoopEntry (it 0)) (lit z)

abbrev pub was_before : ℤ → Claim
was_before z = at_line 8 (is cmp.Equal (at_label label.Pre (it 0)) (lit z))

pub record Labels : Type 0 where
  pub entry : from_zero (at_line 2 (is_at_entry (pos 1)) ∷ []) [] ≡ returned (pos 0) 0
  pub no_entry : from_zero (at_line 2 (is_at_entry (pos 0)) ∷ []) [] ≡ broke invariant 2
  pub at_heads : from_zero (at_line 2 (is cmp.Less (it 0) (lit (pos 3))) ∷ []) [] ≡ returned (pos 0) 0
  pub second_head : from_zero (at_line 2 (is cmp.Less (it 0) (lit (pos 2))) ∷ []) [] ≡ broke invariant 2
  pub before : from_zero [] (assert_ (was_before (pos 0)) ∷ []) ≡ returned (pos 0) 0
  pub not_now : from_zero [] (assert_ (was_before (pos 3)) ∷ []) ≡ broke assert 8
  -- `Here` under another label is that state
  pub here_there : from_zero [] (assert_ (at_line 8 (is cmp.Equal (at_label label.Pre (at_label label.Here (it 0))) (lit (pos 0)))) ∷ []) ≡ returned (pos 0) 0

-- ---- predicates about a parameter n: `\forall integer k; 0 <= k < n ==> k < 2`, `\exists`, and a logic function (ACSL 2.2.2, 2.6.3)

abbrev pub said_of : Tree → Program Stmts
said_of t = file_of [] (function_of 1 (with_value ∷ []) (assert_ (at_line 5 t) ∷ gives_zero ∷ []) ∷ [])

abbrev pub with_definitions : List Definition → Program Stmts → Program Stmts
with_definitions ds p = record p { facts = record p.facts { definitions = ds } }

abbrev pub says : List Definition → Tree → ℤ → Shown
says ds t n = outcome (with_definitions ds (said_of t)) (n ∷ []) 1 []

-- where the quantifiers stand, which says nothing of the truth
abbrev pub here : BinderPlace
here = record { line = 5; node = 1 }

abbrev pub below_n : Range
below_n = range.Between false true here

abbrev pub small : Tree
small = is cmp.Less (leaf (h.Name 0)) (lit (pos 2))

-- `logic integer len(integer n) = n <= 0 ? 0 : len(n - 1) + 1;`
abbrev pub len : Definition
len = record {
  body = three h.Choose (is cmp.AtMost (leaf (h.Name 0)) (lit (pos 0))) (lit (pos 0))
      (two (h.Arithmetic ar.Add) (one (h.Call 0) (two (h.Arithmetic ar.Sub) (leaf (h.Name 0)) (lit (pos 1)))) (lit (pos 1)));
  is_recursive = true;
}

abbrev pub len_is : ℤ → Tree
len_is z = is cmp.Equal (one (h.Call 0) (it 0)) (lit z)

pub record Says : Type 0 where
  pub every : says [] (three (h.Every below_n) (lit (pos 0)) (it 0) small) (pos 2) ≡ returned (pos 0) 0
  pub not_every : says [] (three (h.Every below_n) (lit (pos 0)) (it 0) small) (pos 3) ≡ broke assert 5
  pub every_of_none : says [] (three (h.Every below_n) (lit (pos 0)) (it 0) (lit (pos 0))) (pos 0) ≡ returned (pos 0) 0
  pub every_backwards : says [] (three (h.Every below_n) (lit (pos 0)) (it 0) (lit (pos 0))) (negsuc 3) ≡ returned (pos 0) 0
  pub some : says [] (three (h.Some below_n) (lit (pos 0)) (it 0) small) (pos 1) ≡ returned (pos 0) 0
  pub some_of_none : says [] (three (h.Some below_n) (lit (pos 0)) (it 0) (lit (pos 1))) (pos 0) ≡ broke assert 5
  pub of_a_kind : says [] (one (h.Every (range.Kind kind.Bool here)) small) (pos 0) ≡ returned (pos 0) 0
  pub above_the_cut : says (len ∷ []) (len_is (pos 3)) (pos 3) ≡ returned (pos 0) 0
  pub at_the_cut : says (len ∷ []) (len_is (pos 0)) (pos 0) ≡ returned (pos 0) 0
  pub below_the_cut : says (len ∷ []) (len_is (pos 0)) (negsuc 4) ≡ returned (pos 0) 0
  -- numbers in annotations don't end, and are divided by 0 without harm
  pub past_int : says [] (is cmp.Greater (two (h.Arithmetic ar.Add) (it 0) (lit (pos 1))) (it 0)) (pos 2147483647) ≡ returned (pos 0) 0
  pub by_zero : says [] (is cmp.Equal (two (h.Arithmetic ar.Div) (it 0) (lit (pos 0))) (lit (pos 0))) (pos 7) ≡ returned (pos 0) 0

-- ---- `ensures \valid(\result);` where a block of the call is returned, which has ended by then; and `assert \valid(a);` within (ACSL 2.7.1)

abbrev pub valid : Tree → Tree
valid t = one (h.Valid (content.Integer kind.Int) true) t

abbrev pub hands_out : Contract → Tree → Shown
hands_out c t = outcome (file_of [] (under c (function_of 0 (array 1 ∷ []) (block (0 ∷ []) (stmts (
    assert_ (at_line 5 t) ∷ return_of (Some (decayed 0 6)) ∷ [])) ∷ [])) ∷ [])) [] 1 []

abbrev pub valid_result : Contract
valid_result = record no_contract { plain = record no_clauses { ensures = at_line 1 (valid (leaf h.Result)) ∷ [] } }

abbrev pub the_array : Tree
the_array = one h.Address (place_of (variable.Local 0))

abbrev pub up_to : ℤ → Tree
up_to z = three (h.Behind 1) the_array (lit (pos 0)) (lit z)

pub record Valid : Type 0 where
  pub inside : hands_out no_contract (valid the_array) ≡ pointer_returned 0
  pub ended : hands_out valid_result (valid the_array) ≡ broke ensures 1
  pub no_element : hands_out no_contract (valid (up_to (negsuc 0))) ≡ pointer_returned 0
  pub too_many : hands_out no_contract (valid (up_to (pos 1))) ≡ broke assert 5
  pub of_char : hands_out no_contract (one (h.Valid (content.Integer kind.Char) false) the_array) ≡ broke assert 5

-- ---- `decreases n;`, and a call with n of a function that is of no cluster with this one: nothing is asked, so the turns are spent (ACSL 2.5.3)

abbrev pub apart : Program Stmts → Program Stmts
apart p = record p { facts = record p.facts { in_cluster = λ f g. false } }

abbrev pub Elsewhere : Type 0
Elsewhere = outcome (apart (goes_down (pos 0))) (pos 2 ∷ []) 3 [] ≡ ran_out

pub record OnClauses : Type 0 where
  pub changes_nothing : ChangesNothing
  pub behaves_ : Behaves
  pub loops : Loops
  pub labels : Labels
  pub says_ : Says
  pub valid_ : Valid
  pub elsewhere : Elsewhere
