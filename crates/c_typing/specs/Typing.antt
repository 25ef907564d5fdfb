-- The typed form of a file, or its first fault among declarations and code (C11 6.9). Each declaration is typed in what those before it declared. Two facts are
-- taken from the whole file first: whose address is taken, and which functions have a body.
use Rattle.std.specs.Prelude.{ℕ, true, Bool, List, [], ◌∷◌, ◌++◌, length, Option, Some, None, Ok}
use Rattle.c_kinds.specs.declared.models.Machdep.{Machdep}
use Rattle.c_syntax.specs.Decl as d
use Rattle.c_syntax.specs.Stmt as p
use Rattle.c_answers.specs.Answers.{Answer, after}
use Rattle.typed_prog.specs.Types.{void}
use Rattle.typed_prog.specs.Tree as t
use Rattle.name_table.specs.Names.{Names, declared}
use Rattle.c_scopes.specs.Declarations.{no_declarations, no_locals}
use Rattle.c_taken.specs.Walks.{taken_names, taken_locals}
use Rattle.c_variables.specs.declared.context.Context.{Context}
use Rattle.typed_unit.specs.Unit as u
use Rattle.c_decls.specs.Structs.{struct_declared}
use Rattle.c_decls.specs.Enums.{enum_declared, typedef_declared}
use Rattle.c_decls.specs.Globals.{globals_declared}
use Rattle.c_functions.specs.Functions.{Functions, function}

-- ---- facts of the whole file

abbrev pub bodied_by : List ℕ → Option p.Stmt → Names Bool → Names Bool
bodied_by x None names = names
bodied_by x (Some s) names = declared names x true

abbrev pub bodied_with : Names Bool → d.Decl → Names Bool
bodied_with names (d.function g) = bodied_by g.name g.body names
bodied_with names _ = names

-- the functions with a body
abbrev pub bodied : Names Bool → List d.Decl → Names Bool
bodied names [] = names
bodied names (x ∷ xs) = bodied (bodied_with names x) xs

-- the names of the file whose address is taken, and the functions with a body
pub record Facts : Type 0 where
  pub taken : Names Bool
  pub bodied : Names Bool

abbrev pub facts_of : List d.Decl → Facts
facts_of p = record { taken = taken_names p; bodied = bodied [] p }

-- ---- declarations

-- what stands so far: what is declared, the initialisers of variables, and what functions have left
pub record Unit : Type 0 where
  pub context : Context
  pub inits : List (Option t.Value)
  pub functions : Functions

abbrev pub at_start : Machdep → Unit
at_start m = record {
  context = record { model = m; scope = record { file = no_declarations; local = no_locals }; sizes = []; globals = []; locals = []; taken = []; result = void };
  inits = [];
  functions = record { bodies = []; parts = [] };
}

abbrev pub in_context : Unit → Context → Unit
in_context v c = record v { context = c }

abbrev pub with_logic : Unit → d.LogicDecl → Unit
with_logic v l =
    record v { functions = record v.functions { parts = v.functions.parts ++ record { names = length v.context.scope.file.names; tags = length v.context.scope.file.tags; decl = u.of_logic l } ∷ [] } }

unfoldable pub declaration : Facts → Unit → d.Decl → Answer Unit
declaration facts v (d.struct_decl x) = after (struct_declared v.context x) (λ c. Ok (in_context v c))
declaration facts v (d.enum_decl x) = after (enum_declared v.context x) (λ c. Ok (in_context v c))
declaration facts v (d.typedef_decl x) = after (typedef_declared v.context x) (λ c. Ok (in_context v c))
declaration facts v (d.globals xs) = after (globals_declared facts.taken v.context v.inits xs) (λ r. Ok (record v { context = r.0; inits = r.1 }))
declaration facts v (d.function g) =
    after (function v.context v.functions facts.bodied (taken_locals g) g) (λ r. Ok (record v { context = r.0; functions = r.1 }))
declaration facts v (d.logic_decl l) = Ok (with_logic v l)

abbrev pub declarations : Facts → Unit → List d.Decl → Answer Unit
declarations facts v [] = Ok v
declarations facts v (x ∷ xs) = after (declaration facts v x) (λ w. declarations facts w xs)

abbrev pub finished : Unit → u.Typed
finished v = record {
  model = v.context.model;
  file = v.context.scope.file;
  plain = v.context.globals;
  inits = v.inits;
  bodies = v.functions.bodies;
  parts = v.functions.parts;
}

-- the file with this data model
unfoldable pub typed_program : Machdep → List d.Decl → Answer u.Typed
typed_program m p = after (declarations (facts_of p) (at_start m) p) (λ v. Ok (finished v))
