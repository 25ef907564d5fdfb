-- What stands for the states that an annotation is read in (ACSL 2.4.3): a term for an integer, two for a pointer.
use Rattle.std.specs.Prelude.{ℕ, ℤ, List, Option, Some, None}
use Rattle.wp_base.specs.declared.kinds.Kind.{Kind}
use Rattle.wp_base.specs.declared.kinds.CellKind.{CellKind}
use Rattle.c_kinds.specs.declared.models.Machdep.{Machdep}
use Rattle.typed_prog.specs.declared.operators.Variable.{Variable}
use Rattle.acsl_trees.specs.declared.heads.Label.{Label}
use Rattle.acsl_trees.specs.declared.heads.Label.TheVariants as label
use Rattle.qed_terms.specs.Tree.{Tree as Term}

-- ---- values

-- An integer of a kind of C, or of type `integer`; a truth, which is 1 or 0; a pointer, which is the address of an object too; the address of a variable
-- that no pointer leads to; addresses behind a pointer, over elements of so many cells, from one number to another one; and cells of a block from an offset
-- up to below another one, elements with these cells. Nothing stands for what isn't in order.
pub data Terms : Type 0 where
  integer : (kind : Option Kind) (t : Term) → Terms
  truth : (f : Term) → Terms
  address : (block offset : Term) → Terms
  variable : (x : Variable) → Terms
  elements : (block offset : Term) (size : ℕ) (low high : Term) → Terms
  region : (cells : List CellKind) (block low high : Term) → Terms
  nothing : Terms

-- a pointer is its block and its offset; for the cells of pointers there is a memory of each
pub record Pointer : Type 0 where
  pub block : Term
  pub offset : Term

abbrev pub at : (block offset : Term) → Pointer
at b o = record { block = b; offset = o }

-- ---- states

-- A variable: what it holds, where no pointer leads to it, an integer of a kind, one of any size or a pointer; else its block; or nothing is known of it.
pub data Slot : Type 0 where
  whole : (k : Kind) (t : Term) → Slot
  any_integer : (t : Term) → Slot
  pointer : (block offset : Term) → Slot
  home : (block : Term) → Slot
  absent : Slot

-- The variables, the table of blocks, and a memory for each kind of cell, two for that of pointers, as far as there are terms for them.
pub record Seen : Type 0 where
  pub variable : Variable → Slot
  pub table : Option Term
  pub numbers : Kind → Option Term
  pub pointers : Option Pointer

-- ---- logic functions that call themselves (ACSL 2.6.3)

-- the name of an integer, or those of a pointer's block and offset
pub data Named : Type 0 where
  one : (x : List ℕ) → Named
  two : (block offset : List ℕ) → Named

-- a variable of the file that no pointer leads to, by its number, an integer of a kind or a pointer, with its names
pub data Global : Type 0 where
  integer_global : (number : ℕ) (k : Kind) (x : List ℕ) → Global
  pointer_global : (number : ℕ) (block offset : List ℕ) → Global

-- A function's name, and those of its parameters. It is given the memories of these kinds, and these variables, as its body reads them.
pub record Called : Type 0 where
  pub name : List ℕ
  pub params : List Named
  pub memories : List CellKind
  pub globals : List Global

-- ---- readings

-- What is so in every state: the data model, and the cells of each struct; the numbers of blocks that stand for variables which no pointer leads to, and those
-- of the other variables of the file; and the
-- names of the binders of a clause, in their order.
pub record Common : Type 0 where
  pub model : Machdep
  pub structs : ℕ → List CellKind
  pub hidden : Variable → ℤ
  pub homes : (number : ℕ) → Option ℤ
  pub binder : (number : ℕ) → List ℕ

-- the state that a term is read in, and those of labels; what `\result` is; and how logic functions are called, by their numbers
pub record Reading : Type 0 where
  pub here : Seen
  pub pre : Seen
  pub post : Seen
  pub loop_entry : Seen
  pub result : Terms
  pub common : Common
  pub called : (number : ℕ) → Option Called

-- under a label
abbrev pub seen_at : Label → Reading → Seen
seen_at label.Here r = r.here
seen_at label.Pre r = r.pre
seen_at label.Post r = r.post
seen_at label.LoopEntry r = r.loop_entry

abbrev pub moved_to : Label → Reading → Reading
moved_to l r = record r { here = seen_at l r }

-- in the state in force, or in that of a label
abbrev pub seen_in : Option Label → Reading → Seen
seen_in None r = r.here
seen_in (Some l) r = seen_at l r
