-- What a variable of the file is declared as (C11 6.7, 6.9.2), in rules that each stand for itself, with no order of faults.
use Rattle.std.specs.Prelude.{◌≡◌, ℕ, Bool, true, is_some, List, [], ◌∷◌, Option, Some, None, Ok, slice_set}
use Rattle.wp_base.specs.declared.kinds.Layout.{Layout}
use Rattle.c_syntax.specs.Expr as e
use Rattle.typed_prog.specs.declared.types.CoreType.{CoreType}
use Rattle.typed_prog.specs.Tree as t
use Rattle.name_table.specs.Names.{Names}
use Rattle.c_scopes.specs.declared.symbols.Resolved.{Resolved}
use Rattle.c_scopes.specs.Extents.{extent}
use Rattle.c_variables.specs.declared.context.Context.{Context}
use Rattle.c_variables.specs.Contexts.{around_of}
use Rattle.c_variables.specs.Variables.{variable}
use Rattle.c_decls.specs.Constants.{is_constant}
use Rattle.c_decls.specs.Globals.{Inits, may_declare, earlier_of, agrees, place_of, with_global, with_place}
use Rattle.c_typed_stmts.specs.Full.{IsAssigned}

-- an initialiser has the type of the variable, and is known before a program runs (6.7.9p4, p11)
pub record IsInitial (c : Context) (type : CoreType) (a : e.Expr) (v : t.Value) : Type 0 where
  pub assigned : IsAssigned c type a v
  pub constant : is_constant v ≡ true

-- what is in the place of the variable with this number behind its declarator
pub data IsInitialised (c : Context) (n : ℕ) (type : CoreType) : Option e.Expr → Inits → Inits → Type 0 where
  not_written : (inits : Inits) → IsInitialised c n type None inits inits
  written : (inits : Inits) (a : e.Expr) (v : t.Value) → IsInitial c type a v → IsInitialised c n type (Some a) inits (slice_set inits n (Some v))

-- A variable: its name is new, or that of a variable with the same type and with one initialiser at most; an object of its type has no more
-- cells than the limit; and it is in scope in its own initialiser.
pub record IsGlobal (taken : Names Bool) (s : Context × Inits) (d : e.VarDecl) (behind : Context × Inits) : Type 0 where
  pub is : Resolved
  pub layout : Layout
  pub may : may_declare (earlier_of s.0 d.name) ≡ true
  pub means : variable (around_of s.0) true d.line d.ty ≡ Ok is
  pub same : agrees s.0 s.1 (is_some d.init) is (earlier_of s.0 d.name) ≡ true
  pub held : extent s.0.scope.file.structs d.line is ≡ Ok layout
  pub declares : behind.0 ≡ with_global taken s.0 d is
  pub init : IsInitialised behind.0 (place_of s.0 d.name) is.ty d.init (with_place s.0 s.1 d) behind.1

pub data AreGlobals (taken : Names Bool) : Context × Inits → List e.VarDecl → Context × Inits → Type 0 where
  no_global : (s : Context × Inits) → AreGlobals taken s [] s
  one_global : (s next behind : Context × Inits) (d : e.VarDecl) (ds : List e.VarDecl) → IsGlobal taken s d next → AreGlobals taken next ds behind → AreGlobals taken s (d ∷ ds) behind
