-- Where `break` and `continue` stand in statements as they run: inside of what they leave (C11 6.8.6.2, 6.8.6.3).
use Rattle.std.specs.Prelude.{◌≡◌, ℕ, Bool, true, false, Some}
use Rattle.c_runs.specs.Program.{Stmt, evaluate, block, initial, choose, loop, switch, case_of, default, break, continue, return_of, assert, Stmts, stop, more, Function, Program}

-- whether a loop is around, and whether a loop or a switch is
abbrev mutual
  pub Jumps : (loops breaks : Bool) → Stmt → Type 0
  Jumps loops breaks (evaluate e) = Unit {0}
  Jumps loops breaks (block ys ss) = AllJump loops breaks ss
  Jumps loops breaks (initial x line e) = Unit {0}
  Jumps loops breaks (choose e a b) = Jumps loops breaks a × Jumps loops breaks b
  Jumps loops breaks (loop l before s step behind) = Jumps true true s
  Jumps loops breaks (switch e ss) = AllJump loops true ss
  Jumps loops breaks (case_of z) = Unit {0}
  Jumps loops breaks default = Unit {0}
  Jumps loops breaks break = breaks ≡ true
  Jumps loops breaks continue = loops ≡ true
  Jumps loops breaks (return_of e) = Unit {0}
  Jumps loops breaks (assert c) = Unit {0}

  pub AllJump : (loops breaks : Bool) → Stmts → Type 0
  AllJump loops breaks stop = Unit {0}
  AllJump loops breaks (more s ss) = Jumps loops breaks s × AllJump loops breaks ss

-- no loop and no switch is around a body
abbrev pub BodiesJump : Program Stmts → Type 0
BodiesJump q = (n : ℕ) (f : Function Stmts) → q.functions n ≡ Some f → AllJump false false f.body
