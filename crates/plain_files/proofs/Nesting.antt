-- In programs as spelled declarations stand in blocks.
use Rattle.std.proofs.Common.{◌≡◌, ℕ, Bool, false, List, [], ◌∷◌, ◌++◌, map, Option, refl, sym, subst}
use Rattle.c_syntax.specs.declared.token.Token.{Token}
use Rattle.c_syntax.specs.Stmt as p
use Rattle.c_syntax.specs.Decl as d
use Rattle.c_grammar.specs.Tokens.{Names}
use Rattle.c_grammar.specs.Lists.{Repeated}
use Rattle.c_grammar.specs.Annots.{SpellsLogic}
use Rattle.c_grammar.specs.Lists as l
use Rattle.c_grammar.specs.Stmts as g
use Rattle.c_grammar.specs.Stmts.{SpellsFirst, SpellsStmt, SpellsBody, SpellsBlock, SpellsStmts, SpellsCases}
use Rattle.c_grammar.specs.Decls as f
use Rattle.c_grammar.specs.Decls.{Lines, SpellsEnd, SpellsFunction, SpellsDecl, SpellsDecls}
use Rattle.plain_files.specs.Blocks.{is_declaration, Nests, AllNest, NoneDeclares, BodyNests, DeclNests, ProgramNests, SpelledProgramsNest}
use Rattle.plain_files.proofs.Leaving.{block_jumps}

first_nests : {types : Names} {room : ℕ} {ts : List Token} {x : p.Stmt} → SpellsFirst types room ts x → Nests x
first_nests g.nothing = tt
first_nests (g.expr line x is) = tt
first_nests (g.variables x) = tt

-- a statement is no declaration
no_declaration : {types : Names} {loops breaks : Bool} {room at : ℕ} {ts : List Token} {x : p.Stmt} {starts : List ℕ}
    → SpellsStmt types loops breaks room at ts x starts → is_declaration x ≡ false
no_declaration g.empty = refl
no_declaration (g.expr line x is) = refl
no_declaration (g.block x) = refl
no_declaration (g.if_only line line' test x is) = refl
no_declaration (g.if_else line line' line'' test x short y is) = refl
no_declaration (g.while_of line line' annot test x is) = refl
no_declaration (g.do_of line line' line'' line''' annot x test is) = refl
no_declaration (g.for_of line line' line'' annot first test step x is) = refl
no_declaration (g.switch line line' line'' line''' test x labelled once is) = refl
no_declaration (g.break line is) = refl
no_declaration (g.continue line is) = refl
no_declaration (g.return_of line x is) = refl
no_declaration (g.assert line line' x is) = refl

body_declares_none : {types : Names} {loops breaks : Bool} {room at : ℕ} {ts : List Token} {x : p.Stmt} {starts : List ℕ}
    → SpellsBody types loops breaks room at ts x starts → is_declaration x ≡ false
body_declares_none (g.braces x) = refl
body_declares_none (g.plain is x) = no_declaration x

mutual
  stmt_nests : {types : Names} {loops breaks : Bool} {room at : ℕ} {ts : List Token} {x : p.Stmt} {starts : List ℕ}
      → SpellsStmt types loops breaks room at ts x starts → Nests x
  stmt_nests g.empty = tt
  stmt_nests (g.expr line x is) = tt
  stmt_nests (g.block x) = block_nests x
  stmt_nests (g.if_only line line' test x is) = (body_declares_none x, body_nests x)
  stmt_nests (g.if_else line line' line'' test x short y is) = (body_declares_none x, body_nests x, body_declares_none y, body_nests y)
  stmt_nests (g.while_of line line' annot test x is) = (body_declares_none x, body_nests x)
  stmt_nests (g.do_of line line' line'' line''' annot x test is) = (body_declares_none x, body_nests x)
  stmt_nests (g.for_of line line' line'' annot first test step x is) = (first_nests first, body_declares_none x, body_nests x)
  stmt_nests (g.switch line line' line'' line''' test x labelled once is) = cases_nest x
  stmt_nests (g.break line is) = tt
  stmt_nests (g.continue line is) = tt
  stmt_nests (g.return_of line x is) = tt
  stmt_nests (g.assert line line' x is) = tt

  body_nests : {types : Names} {loops breaks : Bool} {room at : ℕ} {ts : List Token} {x : p.Stmt} {starts : List ℕ}
      → SpellsBody types loops breaks room at ts x starts → Nests x
  body_nests (g.braces x) = block_nests x
  body_nests (g.plain is x) = stmt_nests x

  block_nests : {types : Names} {loops breaks : Bool} {room at : ℕ} {ts : List Token} {line end : ℕ} {xs : p.Stmts} {starts : List ℕ}
      → SpellsBlock types loops breaks room at ts line end xs starts → AllNest xs
  block_nests (g.between x is) = stmts_nest x

  stmts_nest : {types : Names} {loops breaks : Bool} {room at : ℕ} {ts : List Token} {xs : p.Stmts} {starts : List ℕ}
      → SpellsStmts types loops breaks room at ts xs starts → AllNest xs
  stmts_nest g.no_stmts = tt
  stmts_nest (g.stmt x xs is) = (stmt_nests x, stmts_nest xs)
  stmts_nest (g.variables x xs is) = (tt, stmts_nest xs)

  cases_nest : {types : Names} {loops : Bool} {room at : ℕ} {ts : List Token} {xs : p.Stmts} {starts : List ℕ}
      → SpellsCases types loops room at ts xs starts → NoneDeclares xs
  cases_nest g.no_cases = tt
  cases_nest (g.case_of line x xs is) = (refl, tt, cases_nest xs)
  cases_nest (g.default line xs) = (refl, tt, cases_nest xs)
  cases_nest (g.behind x xs is) = (no_declaration x, stmt_nests x, cases_nest xs)

-- ---- programs

end_nests : {types : Names} {at : ℕ} {ts : List Token} {body : Option p.Stmt} {end : ℕ} {starts : List ℕ} → SpellsEnd types at ts body end starts → BodyNests body
end_nests f.prototype = tt
end_nests (f.body x) = (block_nests x, refl, block_jumps x)

abbrev FunctionNests : d.Function → Type 0
FunctionNests h = DeclNests (d.function h)

function_nests : {types : Names} {at : ℕ} {ts : List Token} {h : d.Function} {ls : Lines} → SpellsFunction types at ts h ls → FunctionNests h
function_nests (f.function line line' contract linkage result stars is args before end split made lines) = subst FunctionNests (sym made) (end_nests end)

definitions_nest : {types : Names} {ts : List Token} {xs : List d.LogicDecl} → Repeated (SpellsLogic types) ts xs → ProgramNests (map d.logic_decl xs)
definitions_nest l.none = tt
definitions_nest (l.more x xs is) = (tt, definitions_nest xs)

both_nest : (xs ys : List d.Decl) → ProgramNests xs → ProgramNests ys → ProgramNests (xs ++ ys)
both_nest [] ys h k = k
both_nest (x ∷ xs) ys h k = (h.0, both_nest xs ys h.1 k)

decl_nests : {types : Names} {at : ℕ} {ts : List Token} {ds : List d.Decl} {after : Names} {ls : List Lines} → SpellsDecl types at ts ds after ls → ProgramNests ds
decl_nests (f.logic line line' xs split made) = subst ProgramNests (sym made) (definitions_nest xs)
decl_nests (f.struct_of line line' line'' line''' is fields split) = (tt, tt)
decl_nests (f.enum_of line is x) = (tt, tt)
decl_nests (f.enum_alone x) = (tt, tt)
decl_nests (f.typedef_of line line' first x split names) = (tt, tt)
decl_nests (f.globals linkage x split) = (tt, tt)
decl_nests (f.function x) = (function_nests x, tt)

decls_nest : {types : Names} {at : ℕ} {ts : List Token} {ds : List d.Decl} {after : Names} {ls : List Lines} → SpellsDecls types at ts ds after ls → ProgramNests ds
decls_nest f.none = tt
decls_nest (f.more {ds = ds} {ds' = ds'} x xs split made lines) = subst ProgramNests (sym made) (both_nest ds ds' (decl_nests x) (decls_nest xs))

pub spelled_programs_nest : SpelledProgramsNest
spelled_programs_nest ts p ls x = decls_nest x.1
