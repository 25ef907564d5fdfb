-- Core programs: statements whose expressions have no effect, connective or choice in them. What these do is done by statements before, and a value goes
-- to a temporary. Blocks are left by exits: exit k leaves the k-th block around it, 0 being the innermost one.
use Rattle.std.specs.Prelude.{ℕ, List, Option}
use Rattle.typed_prog.specs.declared.types.CoreType.{CoreType}
use Rattle.typed_prog.specs.declared.operators.Path.{Path}
use Rattle.typed_prog.specs.Tree.{Value, Values}
use Rattle.c_runs.specs.Program.{Claim, Loop}

-- Where the result of a call goes: nowhere, to a temporary, to an object of this type whose way has these operands, or to a variable that is declared with it.
pub data Target : Type 0 where
  nowhere : Target
  temporary : (n : ℕ) → Target
  place : (type : CoreType) (line : ℕ) (path : Path) (operands : Values) → Target
  variable : (x : ℕ) → Target

mutual
  pub data Core : Type 0 where
    -- a temporary gets a value
    set : (n : ℕ) (e : Value) → Core
    -- an object of this type gets the first value; the others are the operands of its way
    store : (type : CoreType) (line : ℕ) (path : Path) (es : Values) → Core
    -- the value that a variable is declared with
    start : (x : ℕ) (e : Value) → Core
    call : (to : Target) (function line : ℕ) (arguments : Values) → Core
    branch : (test : Value) (first second : Cores) → Core
    repeat : (l : Loop) (body : Cores) → Core
    around : (body : Cores) → Core
    exit : (k : ℕ) → Core
    give : (e : Option Value) → Core
    claim : (c : Claim) → Core
    scope : (variables : List ℕ) (body : Cores) → Core

  pub data Cores : Type 0 where
    end : Cores
    then_ : (s : Core) (ss : Cores) → Cores

abbrev pub join : Cores → Cores → Cores
join end b = b
join (then_ s a) b = then_ s (join a b)

abbrev pub one : Core → Cores
one s = then_ s end
