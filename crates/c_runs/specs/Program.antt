-- Programs as they run: statements with their typed expressions and typed annotations, and what is known of a file (C11 6.8, 6.9; ACSL 2.3, 2.4). Functions
-- and variables have numbers.
use Rattle.std.specs.Prelude.{ℕ, ℤ, Bool, List, Option}
use Rattle.wp_base.specs.declared.kinds.CellKind.{CellKind}
use Rattle.wp_base.specs.declared.kinds.Layout.{Layout}
use Rattle.c_kinds.specs.declared.models.Machdep.{Machdep}
use Rattle.typed_prog.specs.Tree.{Value}
use Rattle.c_runs.specs.TruthTold.{Tree, Definition}

-- ---- annotations

-- a predicate that has to be true, and the line of its clause
pub record Claim : Type 0 where
  pub what : Tree
  pub line : ℕ

-- a number that has to become smaller
pub record Measure : Type 0 where
  pub what : Tree
  pub line : ℕ

-- What is promised where all that is assumed holds. Without a set of regions, any change is allowed.
pub record Behavior : Type 0 where
  pub assumes : List Tree
  pub requires : List Claim
  pub ensures : List Claim
  pub assigns : Option (List Tree)

-- that one of these behaviors is there, or that no two of them are at once; none are named for all of them
pub record Together : Type 0 where
  pub is_complete : Bool
  pub numbers : List ℕ
  pub line : ℕ

pub record Contract : Type 0 where
  -- what stands outside of behaviors, which nothing is assumed of
  pub plain : Behavior
  pub decreases : Option Measure
  pub behaviors : List Behavior
  pub together : List Together

-- What is claimed of a loop; the line of its clause on what it assigns, 0 where it has none; and how many variables of its function are declared before it.
pub record Loop : Type 0 where
  pub invariants : List Claim
  pub assigns : Option (List Tree)
  pub line : ℕ
  pub variant : Option Measure
  pub declared : ℕ

-- ---- statements

mutual
  -- Labels of a switch are statements that do nothing. A loop has a test before its body, as `while`; a step behind it, as `for`; or a test behind it, as `do`.
  pub data Stmt : Type 0 where
    evaluate : (e : Value) → Stmt
    block : (variables : List ℕ) (ss : Stmts) → Stmt
    -- the value with which a variable is declared
    initial : (variable line : ℕ) (e : Value) → Stmt
    choose : (test : Value) (first second : Stmt) → Stmt
    loop : (l : Loop) (before : Option Value) (body : Stmt) (step behind : Option Value) → Stmt
    switch : (e : Value) (ss : Stmts) → Stmt
    case_of : (z : ℤ) → Stmt
    default : Stmt
    break : Stmt
    continue : Stmt
    return_of : (e : Option Value) → Stmt
    assert : (c : Claim) → Stmt

  pub data Stmts : Type 0 where
    stop : Stmts
    more : (s : Stmt) (ss : Stmts) → Stmts

-- ---- functions and files

-- A variable: its cells; whether it is a scalar whose address is never taken, so that no pointer leads to it; and whether it is a parameter or is declared with
-- a value.
pub record Variable : Type 0 where
  pub layout : Layout
  pub is_plain : Bool
  pub has_value : Bool

-- A function by what its body is made of. Its first variables are its parameters.
pub record Function (B : Type 0) : Type 0 where
  pub params : ℕ
  pub variables : List Variable
  -- the kind of what it gives; a function without result has none
  pub result : Option CellKind
  pub contract : Contract
  pub body : B
  -- the line of its closing brace
  pub end : ℕ

-- What a file says beside its bodies: its variables, the cells of each struct, what logic definitions stand for, and whether two functions call each other.
pub record Facts : Type 0 where
  pub model : Machdep
  pub globals : List Variable
  pub structs : List (List CellKind)
  pub definitions : List Definition
  pub in_cluster : (caller callee : ℕ) → Bool

pub record Program (B : Type 0) : Type 0 where
  pub facts : Facts
  pub functions : ℕ → Option (Function B)
