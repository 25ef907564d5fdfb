-- Typed files, as plain values (C11 6.9).
use Rattle.std.specs.Prelude.{ℕ, Bool, List, Option}
use Rattle.c_kinds.specs.declared.models.Machdep.{Machdep}
use Rattle.c_syntax.specs.Contract.{Contract}
use Rattle.c_syntax.specs.Decl.{LogicDecl}
use Rattle.typed_prog.specs.Tree.{Value}
use Rattle.c_scopes.specs.declared.symbols.Object.{Object}
use Rattle.c_scopes.specs.declared.file.File.{File}
use Rattle.typed_unit.specs.Stmt.{Stmt}

-- the body of a function by its number: its parameters and locals, which of them are plain, and the lines of its name and of its last token
pub record Body : Type 0 where
  pub function : ℕ
  pub locals : List Object
  pub plain : List Bool
  pub stmt : Stmt
  pub line : ℕ
  pub end : ℕ

-- a declaration that may hold annotations
pub data Annotated : Type 0 where
  of_function : (number : ℕ) (params : List Object) (contract : Contract) (has_body : Bool) → Annotated
  of_logic : (d : LogicDecl) → Annotated

-- such a declaration, with the number of ordinary names and of tags that are declared before it
pub record Part : Type 0 where
  pub names : ℕ
  pub tags : ℕ
  pub decl : Annotated

pub record Typed : Type 0 where
  pub model : Machdep
  pub file : File
  pub plain : List Bool
  pub inits : List (Option Value)
  pub bodies : List Body
  pub parts : List Part
