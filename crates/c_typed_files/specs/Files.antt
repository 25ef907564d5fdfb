-- Which typed file a file has (C11 6.9): a rule a form of declaration.
use Rattle.std.specs.Prelude.{◌≡◌, true, List, [], ◌∷◌, Ok}
use Rattle.c_kinds.specs.declared.models.Machdep.{Machdep}
use Rattle.c_syntax.specs.Expr as e
use Rattle.c_syntax.specs.Decl as d
use Rattle.c_scopes.specs.declared.symbols.Resolved.{Resolved}
use Rattle.c_scopes.specs.Declarations.{with_typedef}
use Rattle.c_variables.specs.declared.context.Context.{Context}
use Rattle.c_variables.specs.Contexts.{around_of}
use Rattle.c_variables.specs.Variables.{variable}
use Rattle.c_taken.specs.Walks.{taken_locals}
use Rattle.typed_unit.specs.Unit as u
use Rattle.c_decls.specs.Each.{with_file}
use Rattle.c_decls.specs.Enums.{is_new_name}
use Rattle.c_decls.specs.Globals.{Inits}
use Rattle.c_decls.specs.Laws.{CountsUp, IsLaidOut, StructIsDeclared, EnumIsDeclared, TypedefIsDeclared}
use Rattle.c_functions.specs.Functions.{Functions}
use Rattle.c_typing.specs.Typing.{Facts, Unit, facts_of, at_start, in_context, with_logic, finished, typed_program}
use Rattle.c_typed_files.specs.Globals.{AreGlobals}
use Rattle.c_typed_files.specs.Functions.{IsFunction}

-- a struct is laid out field by field, and its tag is new
pub record IsStruct (c : Context) (x : d.StructDecl) (behind : Context) : Type 0 where
  pub laid : IsLaidOut c x behind
  pub once : StructIsDeclared x c behind

-- the enumerators count up, and each name is new
pub record IsEnum (c : Context) (x : d.EnumDecl) (behind : Context) : Type 0 where
  pub counts : CountsUp c x.items behind
  pub once : EnumIsDeclared x c behind

-- a typedef name is new, and stands for the type that is spelled
pub record IsTypedef (c : Context) (x : e.VarDecl) (behind : Context) : Type 0 where
  pub is : Resolved
  pub new : is_new_name c x.name ≡ true
  pub means : variable (around_of c) true x.line x.ty ≡ Ok is
  pub declares : behind ≡ with_file c (with_typedef c.scope.file x.name is)

pub data IsDeclared (facts : Facts) (v : Unit) : d.Decl → Unit → Type 0 where
  of_struct : (x : d.StructDecl) (behind : Context) → IsStruct v.context x behind → IsDeclared facts v (d.struct_decl x) (in_context v behind)
  of_enum : (x : d.EnumDecl) (behind : Context) → IsEnum v.context x behind → IsDeclared facts v (d.enum_decl x) (in_context v behind)
  of_typedef : (x : e.VarDecl) (behind : Context) → IsTypedef v.context x behind → IsDeclared facts v (d.typedef_decl x) (in_context v behind)
  of_globals : (xs : List e.VarDecl) (behind : Context) (inits : Inits) → AreGlobals facts.taken (v.context, v.inits) xs (behind, inits)
      → IsDeclared facts v (d.globals xs) (record v { context = behind; inits = inits })
  of_function : (g : d.Function) (behind : Context) (fs : Functions) → IsFunction facts.bodied (taken_locals g) v.context v.functions g behind fs
      → IsDeclared facts v (d.function g) (record v { context = behind; functions = fs })
  of_logic : (l : d.LogicDecl) → IsDeclared facts v (d.logic_decl l) (with_logic v l)

-- each declaration in what those before it declared
pub data AreDeclared (facts : Facts) : Unit → List d.Decl → Unit → Type 0 where
  no_decl : (v : Unit) → AreDeclared facts v [] v
  one_decl : (v next behind : Unit) (x : d.Decl) (xs : List d.Decl) → IsDeclared facts v x next → AreDeclared facts next xs behind → AreDeclared facts v (x ∷ xs) behind

pub record IsFile (m : Machdep) (p : List d.Decl) (y : u.Typed) : Type 0 where
  pub behind : Unit
  pub declared : AreDeclared (facts_of p) (at_start m) p behind
  pub holds : y ≡ finished behind

-- what is typed is in order
abbrev pub TypedFilesAreInOrder : Type 0
TypedFilesAreInOrder = (m : Machdep) (p : List d.Decl) (y : u.Typed) → typed_program m p ≡ Ok y → IsFile m p y
