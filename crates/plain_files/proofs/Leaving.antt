-- In programs as spelled `break` and `continue` stand inside of what they leave.
use Rattle.std.proofs.Common.{ℕ, Bool, true, List}
use Rattle.c_syntax.specs.declared.token.Token.{Token}
use Rattle.c_syntax.specs.Stmt as p
use Rattle.c_grammar.specs.Tokens.{Names}
use Rattle.c_grammar.specs.Stmts as g
use Rattle.c_grammar.specs.Stmts.{SpellsFirst, SpellsStmt, SpellsBody, SpellsBlock, SpellsStmts, SpellsCases}
use Rattle.plain_files.specs.Blocks.{JumpsStand, AllJumpsStand}

first_jumps : {types : Names} {room : ℕ} {ts : List Token} {x : p.Stmt} → SpellsFirst types room ts x → (loops breaks : Bool) → JumpsStand loops breaks x
first_jumps g.nothing loops breaks = tt
first_jumps (g.expr line x is) loops breaks = tt
first_jumps (g.variables x) loops breaks = tt

mutual
  stmt_jumps : {types : Names} {loops breaks : Bool} {room at : ℕ} {ts : List Token} {x : p.Stmt} {starts : List ℕ}
      → SpellsStmt types loops breaks room at ts x starts → JumpsStand loops breaks x
  stmt_jumps g.empty = tt
  stmt_jumps (g.expr line x is) = tt
  stmt_jumps (g.block x) = block_jumps x
  stmt_jumps (g.if_only line line' test x is) = body_jumps x
  stmt_jumps (g.if_else line line' line'' test x short y is) = (body_jumps x, body_jumps y)
  stmt_jumps (g.while_of line line' annot test x is) = body_jumps x
  stmt_jumps (g.do_of line line' line'' line''' annot x test is) = body_jumps x
  stmt_jumps {loops = l} {breaks = b} (g.for_of line line' line'' annot first test step x is) = (first_jumps first l b, body_jumps x)
  stmt_jumps (g.switch line line' line'' line''' test x labelled once is) = cases_jump x
  stmt_jumps (g.break line is) = is
  stmt_jumps (g.continue line is) = is
  stmt_jumps (g.return_of line x is) = tt
  stmt_jumps (g.assert line line' x is) = tt

  body_jumps : {types : Names} {loops breaks : Bool} {room at : ℕ} {ts : List Token} {x : p.Stmt} {starts : List ℕ}
      → SpellsBody types loops breaks room at ts x starts → JumpsStand loops breaks x
  body_jumps (g.braces x) = block_jumps x
  body_jumps (g.plain is x) = stmt_jumps x

  pub block_jumps : {types : Names} {loops breaks : Bool} {room at : ℕ} {ts : List Token} {line end : ℕ} {xs : p.Stmts} {starts : List ℕ}
      → SpellsBlock types loops breaks room at ts line end xs starts → AllJumpsStand loops breaks xs
  block_jumps (g.between x is) = stmts_jump x

  stmts_jump : {types : Names} {loops breaks : Bool} {room at : ℕ} {ts : List Token} {xs : p.Stmts} {starts : List ℕ}
      → SpellsStmts types loops breaks room at ts xs starts → AllJumpsStand loops breaks xs
  stmts_jump g.no_stmts = tt
  stmts_jump (g.stmt x xs is) = (stmt_jumps x, stmts_jump xs)
  stmts_jump (g.variables x xs is) = (tt, stmts_jump xs)

  cases_jump : {types : Names} {loops : Bool} {room at : ℕ} {ts : List Token} {xs : p.Stmts} {starts : List ℕ}
      → SpellsCases types loops room at ts xs starts → AllJumpsStand loops true xs
  cases_jump g.no_cases = tt
  cases_jump (g.case_of line x xs is) = (tt, cases_jump xs)
  cases_jump (g.default line xs) = (tt, cases_jump xs)
  cases_jump (g.behind x xs is) = (stmt_jumps x, cases_jump xs)
