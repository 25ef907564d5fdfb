-- Statements as spelled.
use Rattle.std.proofs.Common.{ℕ, Bool, List, sym, subst}
use Rattle.c_syntax.specs.declared.token.Token.{Token}
use Rattle.c_syntax.specs.Contract.{LoopAnnot}
use Rattle.c_syntax.specs.Stmt as p
use Rattle.c_grammar.specs.Tokens.{Names}
use Rattle.c_grammar.specs.Stmts as g
use Rattle.c_grammar.specs.Stmts.{SpellsFirst, SpellsLoopAnnot, SpellsStmt, SpellsBody, SpellsBlock, SpellsStmts, SpellsCases}
use Rattle.acsl_well_typed.specs.Clauses.{LoopBinds}
use Rattle.acsl_binders.specs.Spelled.{SpelledBinds, AllSpelledBind, SpelledStatementsBind}
use Rattle.acsl_binders.proofs.Annots.{no_loop_binds, loop_binds, assertion_binds}

annot_binds : {types : Names} {room at : ℕ} {ts : List Token} {annot : LoopAnnot} → SpellsLoopAnnot types room at ts annot → LoopBinds annot
annot_binds (g.none is) = subst LoopBinds (sym is) no_loop_binds
annot_binds (g.annotated line line' x is) = loop_binds x

first_binds : {types : Names} {room : ℕ} {ts : List Token} {x : p.Stmt} → SpellsFirst types room ts x → SpelledBinds x
first_binds g.nothing = tt
first_binds (g.expr line x is) = tt
first_binds (g.variables x) = tt

mutual
  pub stmt_binds : {types : Names} {loops breaks : Bool} {room at : ℕ} {ts : List Token} {x : p.Stmt} {starts : List ℕ}
      → SpellsStmt types loops breaks room at ts x starts → SpelledBinds x
  stmt_binds g.empty = tt
  stmt_binds (g.expr line x is) = tt
  stmt_binds (g.block x) = block_binds x
  stmt_binds (g.if_only line line' test x is) = body_binds x
  stmt_binds (g.if_else line line' line'' test x short y is) = (body_binds x, body_binds y)
  stmt_binds (g.while_of line line' annot test x is) = (annot_binds annot, body_binds x)
  stmt_binds (g.do_of line line' line'' line''' annot x test is) = (annot_binds annot, body_binds x)
  stmt_binds (g.for_of line line' line'' annot first test step x is) = (annot_binds annot, first_binds first, body_binds x)
  stmt_binds (g.switch line line' line'' line''' test x labelled once is) = cases_bind x
  stmt_binds (g.break line is) = tt
  stmt_binds (g.continue line is) = tt
  stmt_binds (g.return_of line x is) = tt
  stmt_binds (g.assert line line' x is) = assertion_binds x

  body_binds : {types : Names} {loops breaks : Bool} {room at : ℕ} {ts : List Token} {x : p.Stmt} {starts : List ℕ}
      → SpellsBody types loops breaks room at ts x starts → SpelledBinds x
  body_binds (g.braces x) = block_binds x
  body_binds (g.plain is x) = stmt_binds x

  pub block_binds : {types : Names} {loops breaks : Bool} {room at : ℕ} {ts : List Token} {line end : ℕ} {xs : p.Stmts} {starts : List ℕ}
      → SpellsBlock types loops breaks room at ts line end xs starts → AllSpelledBind xs
  block_binds (g.between x is) = stmts_bind x

  stmts_bind : {types : Names} {loops breaks : Bool} {room at : ℕ} {ts : List Token} {xs : p.Stmts} {starts : List ℕ}
      → SpellsStmts types loops breaks room at ts xs starts → AllSpelledBind xs
  stmts_bind g.no_stmts = tt
  stmts_bind (g.stmt x xs is) = (stmt_binds x, stmts_bind xs)
  stmts_bind (g.variables x xs is) = (tt, stmts_bind xs)

  cases_bind : {types : Names} {loops : Bool} {room at : ℕ} {ts : List Token} {xs : p.Stmts} {starts : List ℕ}
      → SpellsCases types loops room at ts xs starts → AllSpelledBind xs
  cases_bind g.no_cases = tt
  cases_bind (g.case_of line x xs is) = (tt, cases_bind xs)
  cases_bind (g.default line xs) = (tt, cases_bind xs)
  cases_bind (g.behind x xs is) = (stmt_binds x, cases_bind xs)

pub spelled_statements_bind : SpelledStatementsBind
spelled_statements_bind types loops breaks room at ts x starts s = stmt_binds s
