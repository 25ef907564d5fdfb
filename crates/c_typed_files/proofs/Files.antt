-- Files, declaration by declaration.
use Rattle.std.proofs.Common.{◌≡◌, true, List, [], ◌∷◌, Ok, Err, refl, sym, subst}
use Rattle.c_kinds.specs.declared.models.Machdep.{Machdep}
use Rattle.c_syntax.specs.Expr as e
use Rattle.c_syntax.specs.Decl as d
use Rattle.c_answers.specs.Answers.{Answer, after}
use Rattle.c_scopes.specs.declared.symbols.Resolved.{Resolved}
use Rattle.c_variables.specs.declared.context.Context.{Context}
use Rattle.c_variables.specs.Contexts.{around_of}
use Rattle.c_variables.specs.Variables.{variable}
use Rattle.c_taken.specs.Walks.{taken_locals}
use Rattle.typed_unit.specs.Unit as u
use Rattle.c_decls.specs.Structs.{struct_declared}
use Rattle.c_decls.specs.Enums.{enum_declared, typedef_declared, is_new_name}
use Rattle.c_decls.specs.Each.{each}
use Rattle.c_decls.specs.Globals.{global, globals_declared}
use Rattle.c_decls.specs.Laws.{CountsUp, IsLaidOut, StructIsDeclared, EnumIsDeclared, NamesAreDeclaredOnce, NumbersCountUp, StructsAreLaidOut}
use Rattle.c_decls.proofs.Numbering.{numbers_count_up}
use Rattle.c_decls.proofs.LayingOut.{structs_are_laid_out}
use Rattle.c_decls.proofs.Once.{names_are_declared_once}
use Rattle.c_functions.specs.Functions.{function}
use Rattle.c_typing.specs.Typing.{Facts, Unit, facts_of, at_start, in_context, with_logic, declaration, declarations, finished, typed_program}
use Rattle.c_well_typed.proofs.Fitting.{Holds, after_holds}
use Rattle.c_typed_stmts.proofs.Values.{this}
use Rattle.c_typed_files.specs.Globals.{AreGlobals}
use Rattle.c_typed_files.specs.Functions.{IsFunction}
use Rattle.c_typed_files.specs.Files as g
use Rattle.c_typed_files.specs.Files.{IsStruct, IsEnum, IsTypedef, IsDeclared, AreDeclared, IsFile, TypedFilesAreInOrder}
use Rattle.c_typed_stmts.proofs.Names.{kept, new_variable}
use Rattle.c_typed_files.proofs.Globals.{all_globals}
use Rattle.c_typed_files.proofs.Functions.{a_function}

a_struct : (c : Context) (x : d.StructDecl) (o : Answer Context) → struct_declared c x ≡ o → Holds (IsStruct c x) o
a_struct c x (Ok behind) is = record { laid = structs_are_laid_out c behind x is; once = (names_are_declared_once c behind).structs x is }
a_struct c x (Err r) is = tt

an_enum : (c : Context) (x : d.EnumDecl) (o : Answer Context) → enum_declared c x ≡ o → Holds (IsEnum c x) o
an_enum c x (Ok behind) is = record { counts = numbers_count_up c behind x is; once = (names_are_declared_once c behind).enums x is }
an_enum c x (Err r) is = tt

a_typedef : (c : Context) (x : e.VarDecl) → Holds (IsTypedef c x) (typedef_declared c x)
unfolding typedef_declared
a_typedef c x = after_holds (λ r. variable (around_of c) (is_new_name c x.name) x.line x.ty ≡ Ok r) (IsTypedef c x) _ _ (kept (variable (around_of c) (is_new_name c x.name) x.line x.ty)) (λ r is.
    let new = new_variable (around_of c) (is_new_name c x.name) x.line x.ty r is in
    record { is = r; new = new; means = subst (λ b. variable (around_of c) b x.line x.ty ≡ Ok r) new is; declares = refl })

a_declaration : (facts : Facts) (v : Unit) (x : d.Decl) → Holds (IsDeclared facts v x) (declaration facts v x)
unfolding declaration
a_declaration facts v (d.struct_decl x) =
    after_holds (IsStruct v.context x) (IsDeclared facts v (d.struct_decl x)) (struct_declared v.context x) _ (a_struct v.context x (struct_declared v.context x) refl) (λ c is. g.of_struct x c is)
a_declaration facts v (d.enum_decl x) =
    after_holds (IsEnum v.context x) (IsDeclared facts v (d.enum_decl x)) (enum_declared v.context x) _ (an_enum v.context x (enum_declared v.context x) refl) (λ c is. g.of_enum x c is)
a_declaration facts v (d.typedef_decl x) =
    after_holds (IsTypedef v.context x) (IsDeclared facts v (d.typedef_decl x)) (typedef_declared v.context x) _ (a_typedef v.context x) (λ c is. g.of_typedef x c is)
a_declaration facts v (d.globals xs) =
    after_holds (AreGlobals facts.taken (v.context, v.inits) xs) (IsDeclared facts v (d.globals xs)) (globals_declared facts.taken v.context v.inits xs) _ (all_globals facts.taken (v.context, v.inits) xs)
    (λ r are. g.of_globals xs r.0 r.1 are)
a_declaration facts v (d.function h) =
    after_holds (λ r. IsFunction facts.bodied (taken_locals h) v.context v.functions h r.0 r.1) (IsDeclared facts v (d.function h)) (function v.context v.functions facts.bodied (taken_locals h) h) _
    (a_function facts.bodied (taken_locals h) v.context v.functions h) (λ r is. g.of_function h r.0 r.1 is)
a_declaration facts v (d.logic_decl l) = g.of_logic l

all_declared : (facts : Facts) (v : Unit) (xs : List d.Decl) → Holds (AreDeclared facts v xs) (declarations facts v xs)
all_declared facts v [] = g.no_decl v
all_declared facts v (x ∷ xs) =
    after_holds (IsDeclared facts v x) (AreDeclared facts v (x ∷ xs)) (declaration facts v x) _ (a_declaration facts v x) (λ next is. more next is (declarations facts next xs) (all_declared facts next xs))
  where
    more : (next : Unit) → IsDeclared facts v x next → (o : Answer Unit) → Holds (AreDeclared facts next xs) o → Holds (AreDeclared facts v (x ∷ xs)) o
    more next is (Ok behind) are = g.one_decl v next behind x xs is are
    more next is (Err r) are = tt

a_file : (m : Machdep) (p : List d.Decl) → Holds (IsFile m p) (typed_program m p)
unfolding typed_program
a_file m p = after_holds (AreDeclared (facts_of p) (at_start m) p) (IsFile m p) (declarations (facts_of p) (at_start m) p) _ (all_declared (facts_of p) (at_start m) p) (λ behind are.
    record { behind = behind; declared = are; holds = refl })

pub typed_files_are_in_order : TypedFilesAreInOrder
typed_files_are_in_order m p y is = this (IsFile m p) (typed_program m p) y (a_file m p) is
