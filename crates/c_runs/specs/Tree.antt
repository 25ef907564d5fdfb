-- Core programs with checks: each statement says what is asked before it. So its expressions have values, whatever they would be without.
use Rattle.std.specs.Prelude.{ℕ, List, Option}
use Rattle.typed_prog.specs.declared.types.CoreType.{CoreType}
use Rattle.typed_prog.specs.declared.operators.Path.{Path}
use Rattle.typed_prog.specs.Tree.{Value, Values}
use Rattle.c_runs.specs.Program.{Claim, Loop}
use Rattle.c_runs.specs.NormalTold.{Check}

-- where the result of a call goes; what is asked of a place is asked behind the call
pub data Goal : Type 0 where
  nowhere : Goal
  temporary : (n : ℕ) → Goal
  place : (cs : List Check) (type : CoreType) (line : ℕ) (path : Path) (operands : Values) → Goal
  variable : (x : ℕ) → Goal

mutual
  pub data Step : Type 0 where
    set : (cs : List Check) (n : ℕ) (e : Value) → Step
    store : (cs : List Check) (type : CoreType) (line : ℕ) (path : Path) (es : Values) → Step
    start : (cs : List Check) (x : ℕ) (e : Value) → Step
    call : (cs : List Check) (to : Goal) (function line : ℕ) (arguments : Values) → Step
    branch : (cs : List Check) (test : Value) (first second : Steps) → Step
    repeat : (l : Loop) (body : Steps) → Step
    around : (body : Steps) → Step
    exit : (k : ℕ) → Step
    give : (cs : List Check) (e : Option Value) → Step
    claim : (c : Claim) → Step
    scope : (variables : List ℕ) (body : Steps) → Step

  pub data Steps : Type 0 where
    end : Steps
    then_ : (s : Step) (ss : Steps) → Steps
