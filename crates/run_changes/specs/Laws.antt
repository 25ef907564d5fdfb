-- What a whole run changes, and what it promises (ACSL 2.3.1, 2.3.2).
use Rattle.std.specs.Prelude.{◌≡◌, ℕ, List, [], Some, None}
use Rattle.c_runs.specs.TruthStates.{Value}
use Rattle.c_runs.specs.Program.{Contract, Stmts, Function, Facts, Program}
use Rattle.c_runs.specs.States.{Memory}
use Rattle.c_runs.specs.Claims.{Stop, spent, undefined, failed, ensured, here_in}
use Rattle.c_runs.specs.Calls.{Eval, gives, stops}
use Rattle.c_runs.specs.Run as spelled
use Rattle.c_runs.specs.Allowed.{MayChange}
use Rattle.c_runs.specs.Core.{Cores}
use Rattle.c_runs.specs.CoreRun as core

abbrev pub WhereSpent : (Memory → Type 0) → Stop → Type 0
WhereSpent q (spent w) = q w.memory
WhereSpent q (undefined u line) = Unit {0}
WhereSpent q (failed b line) = Unit {0}

-- of the memory behind a run that returns, or of that in which its turns are spent
abbrev pub Behind : (Memory → Type 0) → Eval → Type 0
Behind q (gives v w) = q w.memory
Behind q (stops s) = WhereSpent q s

-- A run that returns, or whose turns are spent, has changed only what the clauses of its function allow.
abbrev pub RunsChangeWhatTheyMay : Type 0
RunsChangeWhatTheyMay =
    (p : Program Stmts) (f : ℕ) (b : Function Stmts) (vs : List Value) (m : Memory) (n : ℕ) (contents : List Value)
    → p.functions f ≡ Some b → Behind (MayChange p.facts b.contract vs m) (spelled.run_function p f vs m n contents)

-- the same of core programs, whether they were spelled or not
abbrev pub CoreRunsChangeWhatTheyMay : Type 0
CoreRunsChangeWhatTheyMay =
    (p : Program Cores) (f : ℕ) (b : Function Cores) (vs : List Value) (m : Memory) (n : ℕ) (contents : List Value)
    → p.functions f ≡ Some b → Behind (MayChange p.facts b.contract vs m) (core.run_function p f vs m n contents)

-- what is promised of a call with these arguments in the first memory holds of what it returns
abbrev pub Promised : Facts → (function : ℕ) → Contract → (arguments : List Value) → Memory → Eval → Type 0
Promised p f c vs m (gives v w) = ensured p (here_in p f vs m c []) w.memory v c ≡ None
Promised p f c vs m (stops s) = Unit {0}

-- A run that returns has kept the promises of its function.
abbrev pub RunsKeepPromises : Type 0
RunsKeepPromises =
    (p : Program Stmts) (f : ℕ) (b : Function Stmts) (vs : List Value) (m : Memory) (n : ℕ) (contents : List Value)
    → p.functions f ≡ Some b → Promised p.facts f b.contract vs m (spelled.run_function p f vs m n contents)

abbrev pub CoreRunsKeepPromises : Type 0
CoreRunsKeepPromises =
    (p : Program Cores) (f : ℕ) (b : Function Cores) (vs : List Value) (m : Memory) (n : ℕ) (contents : List Value)
    → p.functions f ≡ Some b → Promised p.facts f b.contract vs m (core.run_function p f vs m n contents)
