-- What the grammar says of annotations: each quantifier binds a name, and a definition stands for a term exactly where it has a result.
use Rattle.std.proofs.Common.{ℕ, List, [], ◌∷◌, map, Option, sym, subst}
use Rattle.c_syntax.specs.declared.token.Token.{Token}
use Rattle.c_syntax.specs.Decl as d
use Rattle.c_grammar.specs.Tokens.{Names}
use Rattle.c_grammar.specs.Lists as lists
use Rattle.c_grammar.specs.Annots as n
use Rattle.c_grammar.specs.Decls as f
use Rattle.acsl_well_typed.specs.Clauses.{All}
use Rattle.acsl_binders.specs.Spelled.{DeclBinds}
use Rattle.acsl_binders.proofs.Annots.{both_all, definition_binds}
use Rattle.acsl_binders.proofs.Decls.{spelled_programs_bind}
use Rattle.acsl_same_meaning.specs.Spelled.{IsSpelled}
use Rattle.acsl_same_meaning.specs.Programs.{DeclIsSpelled, ProgramsAreSpelled}

-- ---- definitions

abbrev LogicIs : d.Decl → Type 0
LogicIs (d.logic_decl l) = IsSpelled l
LogicIs _ = Unit {0}

logic_is : {types : Names} {all : List Token} {x : d.LogicDecl} → n.SpellsLogic types all x → IsSpelled x
logic_is (n.SpellsLogic.predicate line line' line'' is ps x eq) = definition_binds (n.SpellsLogic.predicate line line' line'' is ps x eq)
logic_is (n.SpellsLogic.logic line line' line'' result is ps x eq) = tt

logics_are : {types : Names} {all : List Token} {xs : List d.LogicDecl} → lists.Repeated (n.SpellsLogic types) all xs → All LogicIs (map d.logic_decl xs)
logics_are lists.Repeated.none = tt
logics_are (lists.Repeated.more x xs eq) = (logic_is x, logics_are xs)

decl_is : {types after : Names} {at : ℕ} {all : List Token} {ds : List d.Decl} {ls : List f.Lines} → f.SpellsDecl types at all ds after ls → All LogicIs ds
decl_is (f.SpellsDecl.logic line line' xs eq made) = subst (All LogicIs) (sym made) (logics_are xs)
decl_is (f.SpellsDecl.struct_of line line' line'' line''' is x eq) = (tt, tt)
decl_is (f.SpellsDecl.enum_of line is x) = (tt, tt)
decl_is (f.SpellsDecl.enum_alone x) = (tt, tt)
decl_is (f.SpellsDecl.typedef_of line line' x y eq behind) = (tt, tt)
decl_is (f.SpellsDecl.globals x y eq) = (tt, tt)
decl_is (f.SpellsDecl.function x) = (tt, tt)

decls_are : {types after : Names} {at : ℕ} {all : List Token} {ds : List d.Decl} {ls : List f.Lines} → f.SpellsDecls types at all ds after ls → All LogicIs ds
decls_are f.SpellsDecls.none = tt
decls_are (f.SpellsDecls.more {ds = ds} {ds' = others} x xs eq made lines) = subst (All LogicIs) (sym made) (both_all LogicIs ds others (decl_is x) (decls_are xs))

-- ---- programs

both_of : (x : d.Decl) → DeclBinds x → LogicIs x → DeclIsSpelled x
both_of (d.struct_decl x) binds is = tt
both_of (d.enum_decl x) binds is = tt
both_of (d.typedef_decl x) binds is = tt
both_of (d.globals xs) binds is = tt
both_of (d.function g) binds is = binds
both_of (d.logic_decl l) binds is = is

all_of : (ds : List d.Decl) → All DeclBinds ds → All LogicIs ds → All DeclIsSpelled ds
all_of [] binds are = tt
all_of (x ∷ xs) binds are = (both_of x binds.0 are.0, all_of xs binds.1 are.1)

pub programs_are_spelled : ProgramsAreSpelled
programs_are_spelled tokens q ls spelled = all_of q (spelled_programs_bind tokens q ls spelled) (decls_are spelled.1)
