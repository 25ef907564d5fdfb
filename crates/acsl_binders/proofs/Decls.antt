-- Declarations and programs as spelled.
use Rattle.std.proofs.Common.{ℕ, List, map, Option, sym, subst}
use Rattle.c_syntax.specs.declared.token.Token.{Token}
use Rattle.c_syntax.specs.Contract.{Contract}
use Rattle.c_syntax.specs.Stmt as p
use Rattle.c_syntax.specs.Decl as d
use Rattle.c_grammar.specs.Tokens.{Names}
use Rattle.c_grammar.specs.Lists as l
use Rattle.c_grammar.specs.Lists.{Repeated}
use Rattle.c_grammar.specs.Annots.{SpellsLogic}
use Rattle.c_grammar.specs.Decls as g
use Rattle.c_grammar.specs.Decls.{Lines, SpellsContractAt, SpellsEnd, SpellsFunction, SpellsDecl, SpellsDecls}
use Rattle.acsl_well_typed.specs.Clauses.{ContractBinds}
use Rattle.acsl_binders.specs.Spelled.{BodySpelledBinds, DeclBinds, ProgramBinds, SpelledProgramsBind}
use Rattle.acsl_binders.proofs.Annots.{both_all, no_contract_binds, contract_binds, definition_binds}
use Rattle.acsl_binders.proofs.Stmts.{block_binds}

contract_at_binds : {types : Names} {at : ℕ} {ts : List Token} {c : Contract} → SpellsContractAt types at ts c → ContractBinds c
contract_at_binds (g.none is) = subst ContractBinds (sym is) no_contract_binds
contract_at_binds (g.annotated line line' x is) = contract_binds x

end_binds : {types : Names} {at : ℕ} {ts : List Token} {body : Option p.Stmt} {end : ℕ} {starts : List ℕ} → SpellsEnd types at ts body end starts → BodySpelledBinds body
end_binds g.prototype = tt
end_binds (g.body x) = block_binds x

abbrev pub FunctionBinds : d.Function → Type 0
FunctionBinds f = DeclBinds (d.function f)

function_binds : {types : Names} {at : ℕ} {ts : List Token} {f : d.Function} {ls : Lines} → SpellsFunction types at ts f ls → FunctionBinds f
function_binds (g.function line line' contract linkage result stars is args before end split made lines) =
    subst FunctionBinds (sym made) (contract_at_binds contract, end_binds end)

definitions_bind : {types : Names} {ts : List Token} {xs : List d.LogicDecl} → Repeated (SpellsLogic types) ts xs → ProgramBinds (map d.logic_decl xs)
definitions_bind l.none = tt
definitions_bind (l.more x xs is) = (definition_binds x, definitions_bind xs)

decl_binds : {types : Names} {at : ℕ} {ts : List Token} {ds : List d.Decl} {after : Names} {ls : List Lines} → SpellsDecl types at ts ds after ls → ProgramBinds ds
decl_binds (g.logic line line' xs split made) = subst ProgramBinds (sym made) (definitions_bind xs)
decl_binds (g.struct_of line line' line'' line''' is fields split) = (tt, tt)
decl_binds (g.enum_of line is x) = (tt, tt)
decl_binds (g.enum_alone x) = (tt, tt)
decl_binds (g.typedef_of line line' first x split names) = (tt, tt)
decl_binds (g.globals linkage x split) = (tt, tt)
decl_binds (g.function x) = (function_binds x, tt)

decls_bind : {types : Names} {at : ℕ} {ts : List Token} {ds : List d.Decl} {after : Names} {ls : List Lines} → SpellsDecls types at ts ds after ls → ProgramBinds ds
decls_bind g.none = tt
decls_bind (g.more {ds = ds} {ds' = ds'} x xs split made lines) = subst ProgramBinds (sym made) (both_all DeclBinds ds ds' (decl_binds x) (decls_bind xs))

pub spelled_programs_bind : SpelledProgramsBind
spelled_programs_bind ts p ls x = decls_bind x.1
