-- The sets of loops name variables that are in scope where the loop stands (ACSL 2.4.2): a test of statements as they run.
use Rattle.std.specs.Prelude.{ℕ, nat_lt, Bool, true, ◌&&◌, List, Option, Some, None}
use Rattle.std.specs.List.{list_all}
use Rattle.typed_prog.specs.declared.operators.Variable.{Variable}
use Rattle.typed_prog.specs.declared.operators.Variable.TheVariants as variables
use Rattle.acsl_trees.specs.Tree as acsl
use Rattle.c_runs.specs.Program.{Loop, Stmt, evaluate, block, initial, choose, loop, switch, case_of, default, break, continue, return_of, assert, Stmts, stop, more}
use Rattle.plain_runs.specs.Fitting.{with_names}
use Rattle.loop_words.specs.Sets.{region_variable}

-- a variable of the function was declared before the loop, before which so many are, and is in scope
abbrev pub is_there : (in_scope : ℕ → Bool) → (declared : ℕ) → Option Variable → Bool
is_there f n None = true
is_there f n (Some (variables.Global x)) = true
is_there f n (Some (variables.Local x)) = nat_lt x n && f x

abbrev pub region_is_there : (in_scope : ℕ → Bool) → (declared : ℕ) → acsl.Tree → Bool
region_is_there f n a = is_there f n (region_variable a)

-- a loop without a set of its own names none
abbrev pub set_is_there : (in_scope : ℕ → Bool) → (declared : ℕ) → Option (List acsl.Tree) → Bool
set_is_there f n None = true
set_is_there f n (Some rs) = list_all (region_is_there f n) rs

abbrev pub set_stands : (in_scope : ℕ → Bool) → Loop → Bool
set_stands f l = set_is_there f l.declared l.assigns

abbrev mutual
  pub sets_stand : (in_scope : ℕ → Bool) → Stmt → Bool
  sets_stand f (evaluate e) = true
  sets_stand f (block ys ss) = all_sets_stand (with_names ys f) ss
  sets_stand f (initial x line e) = true
  sets_stand f (choose e a b) = sets_stand f a && sets_stand f b
  sets_stand f (loop l before s step behind) = set_stands f l && sets_stand f s
  sets_stand f (switch e ss) = all_sets_stand f ss
  sets_stand f (case_of z) = true
  sets_stand f default = true
  sets_stand f break = true
  sets_stand f continue = true
  sets_stand f (return_of e) = true
  sets_stand f (assert c) = true

  pub all_sets_stand : (in_scope : ℕ → Bool) → Stmts → Bool
  all_sets_stand f stop = true
  all_sets_stand f (more s ss) = sets_stand f s && all_sets_stand f ss
