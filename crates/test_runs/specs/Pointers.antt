-- Small programs with pointers, structs and scopes, each with what its runs come to by C11, worked out by hand.
use Rattle.std.specs.Prelude.{◌≡◌, ℕ, true, false, ℤ, pos, negsuc, List, [], ◌∷◌, Some, None}
use Rattle.wp_base.specs.declared.kinds.Kind.TheVariants as kind
use Rattle.wp_base.specs.declared.kinds.CellKind.TheVariants as cell
use Rattle.typed_prog.specs.declared.operators.Arithmetic.TheVariants as ar
use Rattle.typed_prog.specs.declared.operators.Comparison.{Comparison}
use Rattle.typed_prog.specs.declared.operators.Comparison.TheVariants as cmp
use Rattle.typed_prog.specs.declared.operators.Op.TheVariants as op
use Rattle.typed_prog.specs.declared.operators.Path.{Path}
use Rattle.typed_prog.specs.declared.operators.Root.TheVariants as root
use Rattle.typed_prog.specs.declared.operators.Step.TheVariants as step
use Rattle.typed_prog.specs.declared.operators.Variable.TheVariants as variable
use Rattle.typed_prog.specs.Tree.{Value, typed, null, apply, values_of}
use Rattle.c_runs.specs.Program.{Stmt, evaluate, block, initial, choose, loop, return_of, Stmts, Variable, Program}
use Rattle.c_runs.specs.Operators.{init, access, index, pointing, comparing}
use Rattle.test_runs.specs.Forms.{int, num, local, element, read, var, pointed, calc, test, assign, call, int_pointer, decayed, moved, stmts, ints, with_value, without_value, array, a_pointer, function_of, file_of, outcome, Shown, returned, went_wrong}
use Rattle.test_runs.specs.Programs.{no_claims}

-- ---- values

abbrev pub the_pointer : (variable line : ℕ) → Value
the_pointer x l = typed (apply (op.Read (local x l)) (values_of [])) int_pointer l

abbrev pub related : Comparison → (line : ℕ) → Value → Value → Value
related c l a b = typed (apply (op.ComparePointers c) (values_of (a ∷ b ∷ []))) int l

abbrev pub apart : (line : ℕ) → Value → Value → Value
apart l a b = typed (apply (op.Difference 1) (values_of (a ∷ b ∷ []))) int l

abbrev pub nowhere : Value
nowhere = typed null int_pointer 1

-- `*e`, as an object that is written
abbrev pub at_pointer : (line : ℕ) → Path
at_pointer l = record { root = root.Pointed 0; steps = []; line = l }

-- a pointer that is declared with a value
abbrev pub set_pointer : Variable
set_pointer = record a_pointer { has_value = true }

-- ---- `int a[2]; int b[2]; return ..;` (C11 6.5.6p9, 6.5.8p5, 6.5.9p6)

abbrev pub compares : Value → Shown
compares e = outcome (file_of [] (function_of 0 (array 2 ∷ array 2 ∷ []) (block (0 ∷ 1 ∷ []) (stmts (return_of (Some e) ∷ [])) ∷ []) ∷ [])) [] 1 []

abbrev pub first : Value
first = decayed 0 3

abbrev pub second : Value
second = decayed 1 3

pub record Compares : Type 0 where
  pub in_one : compares (related cmp.Less 3 first (moved false 3 first (pos 1))) ≡ returned (pos 1) 0
  pub behind : compares (related cmp.AtLeast 3 first (moved false 3 first (pos 2))) ≡ returned (pos 0) 0
  pub in_two : compares (related cmp.Less 3 first second) ≡ went_wrong comparing 3
  pub equal : compares (related cmp.Equal 3 first second) ≡ returned (pos 0) 0
  pub unequal : compares (related cmp.NotEqual 3 first second) ≡ returned (pos 1) 0
  pub null_order : compares (related cmp.AtMost 3 nowhere nowhere) ≡ went_wrong comparing 3
  pub null_equal : compares (related cmp.Equal 3 nowhere nowhere) ≡ returned (pos 1) 0
  pub elements : compares (apart 3 (moved false 3 first (pos 2)) first) ≡ returned (pos 2) 0
  pub backwards : compares (apart 3 first (moved false 3 first (pos 2))) ≡ returned (negsuc 1) 0
  pub between_two : compares (apart 3 second first) ≡ went_wrong comparing 3
  pub before : compares (related cmp.Equal 3 (moved false 3 first (negsuc 0)) first) ≡ went_wrong pointing 3

-- ---- `int *p = 0; return ..;`: null leads nowhere, and isn't moved, by 0 neither (C11 6.3.2.3p3, 6.5.3.2p4, 6.5.6p8)

abbrev pub of_null : Value → Shown
of_null e = outcome (file_of [] (function_of 0 (set_pointer ∷ []) (block (0 ∷ []) (stmts (initial 0 1 nowhere ∷ return_of (Some e) ∷ [])) ∷ []) ∷ [])) [] 1 []

pub record OfNull : Type 0 where
  pub followed : of_null (pointed 2 (the_pointer 0 2)) ≡ went_wrong access 2
  pub is_null : of_null (typed (apply op.Not (values_of (the_pointer 0 2 ∷ []))) int 2) ≡ returned (pos 1) 0
  pub still : of_null (related cmp.Equal 2 (moved false 2 (the_pointer 0 2) (pos 0)) nowhere) ≡ went_wrong pointing 2

-- ---- `int *p; { int a[1]; p = a; } return ..;`: an ended block is equal to itself, and has no order (this project's choice at C11 6.2.4p2)

abbrev pub of_ended : Value → Shown
of_ended e = outcome (file_of [] (function_of 0 (a_pointer ∷ array 1 ∷ []) (block (0 ∷ []) (stmts (
    block (1 ∷ []) (stmts (evaluate (assign (local 0 2) 2 (decayed 1 2) []) ∷ [])) ∷ return_of (Some e) ∷ [])) ∷ []) ∷ [])) [] 1 []

pub record OfEnded : Type 0 where
  pub equal : of_ended (related cmp.Equal 3 (the_pointer 0 3) (the_pointer 0 3)) ≡ returned (pos 1) 0
  pub not_null : of_ended (typed (apply op.Not (values_of (the_pointer 0 3 ∷ []))) int 3) ≡ returned (pos 0) 0
  pub order : of_ended (related cmp.AtMost 3 (the_pointer 0 3) (the_pointer 0 3)) ≡ went_wrong comparing 3
  pub moved_ : of_ended (related cmp.Equal 3 (moved false 3 (the_pointer 0 3) (pos 0)) nowhere) ≡ went_wrong pointing 3

-- ---- `int *p = a; *p = 1; return *p;` over an array of `int`, of constant `int`, and of `char` (C11 6.7.3p6, 6.5p7)

abbrev pub a_const : Variable
a_const = record { layout = record (ints 1) { writable = false }; is_plain = false; has_value = false }

abbrev pub a_char : Variable
a_char = record { layout = record { count = 1; cells = cell.Of kind.Char ∷ []; writable = true }; is_plain = false; has_value = false }

abbrev pub writes : Variable → List Stmt → Shown
writes v ss = outcome (file_of [] (function_of 0 (v ∷ []) (block (0 ∷ []) (stmts ss) ∷ []) ∷ [])) [] 1 (pos 8 ∷ [])

abbrev pub write_one : Stmt
write_one = evaluate (assign (at_pointer 2) 2 (num (pos 1)) (decayed 0 2 ∷ []))

abbrev pub read_it : Stmt
read_it = return_of (Some (pointed 3 (decayed 0 3)))

pub record Writes : Type 0 where
  pub well : writes (array 1) (write_one ∷ read_it ∷ []) ≡ returned (pos 1) 0
  pub constant : writes a_const (write_one ∷ read_it ∷ []) ≡ went_wrong access 2
  pub constant_read : writes a_const (read_it ∷ []) ≡ returned (pos 8) 0
  pub other_kind : writes a_char (write_one ∷ []) ≡ went_wrong access 2
  pub other_kind_read : writes a_char (read_it ∷ []) ≡ went_wrong access 3

-- ---- `struct { int x; int a[2]; } s[2]; return s[i].a[j];` (C11 6.5.2.1, 6.5.2.3, 6.7.2.1p15): an index is held to its own array, from the left

abbrev pub pairs : Variable
pairs = record { layout = record { count = 2; cells = cell.Of kind.Int ∷ cell.Of kind.Int ∷ cell.Of kind.Int ∷ []; writable = true }; is_plain = false; has_value = false }

abbrev pub inner : Path
inner = record { root = root.Variable (variable.Local 2); steps = step.Element 0 3 2 5 ∷ step.Field 1 1 ∷ step.Element 1 1 2 6 ∷ []; line = 6 }

abbrev pub finds : ℤ → ℤ → Shown
finds i j = outcome (file_of [] (function_of 2 (with_value ∷ with_value ∷ pairs ∷ []) (block (2 ∷ []) (stmts (
    return_of (Some (read inner (var 0 5 ∷ var 1 6 ∷ []))) ∷ [])) ∷ []) ∷ []))
    (i ∷ j ∷ []) 1 (pos 10 ∷ pos 11 ∷ pos 12 ∷ pos 13 ∷ pos 14 ∷ pos 15 ∷ [])

pub record Finds : Type 0 where
  pub last : finds (pos 1) (pos 1) ≡ returned (pos 15) 0
  pub first_ : finds (pos 0) (pos 0) ≡ returned (pos 11) 0
  pub next_struct : finds (pos 0) (pos 2) ≡ went_wrong index 6
  pub both_out : finds (pos 2) (pos 2) ≡ went_wrong index 5
  pub below : finds (pos 1) (negsuc 0) ≡ went_wrong index 6

-- ---- `int a[1]; f(a); return a[0];` with `int f(int *p) { *p = 5; return 0; }`; and `return *f();` with `int *f(void) { int a[1]; return a; }`

abbrev pub lends : Program Stmts
lends = file_of [] (function_of 0 (array 1 ∷ []) (block (0 ∷ []) (stmts (
    evaluate (call 1 2 (decayed 0 2 ∷ [])) ∷ return_of (Some (read (element 0 1 3) (num (pos 0) ∷ []))) ∷ [])) ∷ [])
    ∷ function_of 1 (set_pointer ∷ []) (evaluate (assign (at_pointer 7) 7 (num (pos 5)) (the_pointer 0 7 ∷ [])) ∷ return_of (Some (num (pos 0))) ∷ []) ∷ [])

abbrev pub hands_out : Program Stmts
hands_out = file_of [] (function_of 0 [] (return_of (Some (pointed 2 (call 1 2 []))) ∷ [])
    ∷ function_of 0 (array 1 ∷ []) (block (0 ∷ []) (stmts (return_of (Some (decayed 0 7)) ∷ [])) ∷ []) ∷ [])

-- ---- `int f(int n) { int x = n; if (n) f(n - 1); return x; }`: each call has variables of its own (C11 6.2.4p6)

abbrev pub keeps : Program Stmts
keeps = file_of [] (function_of 1 (with_value ∷ with_value ∷ []) (block (1 ∷ []) (stmts (
    initial 1 1 (var 0 1) ∷ choose (var 0 2) (evaluate (call 0 2 (calc ar.Sub 2 (var 0 2) (num (pos 1)) ∷ []))) (block [] (stmts []))
    ∷ return_of (Some (var 1 3)) ∷ [])) ∷ []) ∷ [])

pub record Calls : Type 0 where
  pub lends_ : outcome lends [] 2 [] ≡ returned (pos 5) 0
  pub hands_out_ : outcome hands_out [] 2 [] ≡ went_wrong access 2
  pub keeps_ : outcome keeps (pos 2 ∷ []) 3 [] ≡ returned (pos 2) 0

-- ---- `int i = 0; while (1) { int x; if (i == 0) x = 7; i = i + x; }`: a block is entered anew in each pass (C11 6.2.4p6)

abbrev pub anew : Program Stmts
anew = file_of [] (function_of 0 (with_value ∷ without_value ∷ []) (block (0 ∷ []) (stmts (
    initial 0 1 (num (pos 0))
    ∷ loop (no_claims 1) (Some (num (pos 1))) (block (1 ∷ []) (stmts (
    choose (test cmp.Equal 3 (var 0 3) (num (pos 0))) (evaluate (assign (local 1 3) 3 (num (pos 7)) [])) (block [] (stmts []))
    ∷ evaluate (assign (local 0 4) 4 (calc ar.Add 4 (var 0 4) (var 1 4)) []) ∷ []))) None None ∷ [])) ∷ []) ∷ [])

-- ---- `int *p; int i = 0; while (1) { int a[1]; if (i) return *p; p = a; i = 1; }`

abbrev pub of_last_pass : Program Stmts
of_last_pass = file_of [] (function_of 0 (a_pointer ∷ with_value ∷ array 1 ∷ []) (block (0 ∷ 1 ∷ []) (stmts (
    initial 1 1 (num (pos 0))
    ∷ loop (no_claims 2) (Some (num (pos 1))) (block (2 ∷ []) (stmts (
    choose (var 1 3) (return_of (Some (pointed 3 (the_pointer 0 3)))) (block [] (stmts []))
    ∷ evaluate (assign (local 0 4) 4 (decayed 2 4) []) ∷ evaluate (assign (local 1 5) 5 (num (pos 1)) []) ∷ []))) None None ∷ [])) ∷ []) ∷ [])

pub record Scopes : Type 0 where
  pub anew_ : outcome anew [] 9 [] ≡ went_wrong init 4
  pub of_last_pass_ : outcome of_last_pass [] 9 [] ≡ went_wrong access 3

pub record OnPointers : Type 0 where
  pub compares_ : Compares
  pub of_null_ : OfNull
  pub of_ended_ : OfEnded
  pub writes_ : Writes
  pub finds_ : Finds
  pub calls : Calls
  pub scopes : Scopes
