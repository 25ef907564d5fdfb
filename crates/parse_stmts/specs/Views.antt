-- What the parts of statements that were read are as plain trees.
use Rattle.std.specs.Prelude.{ℕ, List, [], ◌∷◌, map, Option, Some}
use Rattle.std.specs.Option.{option_map}
use Rattle.c_syntax.specs.declared.token.Token.{Token}
use Rattle.c_syntax.specs.declared.stmt.Stmt.{Stmt}
use Rattle.c_syntax.specs.Stmt as s
use Rattle.c_syntax.specs.View.{view_stmt}
use Rattle.c_grammar.specs.Reading.{◌>>=◌}
use Rattle.parse_stmts.specs.declared.blocks.Body.{Body}
use Rattle.parse_stmts.specs.Read as r

-- a statement with the lines on which statements began
abbrev pub stmt_with : List ℕ → Stmt → s.Stmt × List ℕ
stmt_with starts a = (view_stmt a, starts)

-- statements and the line of their closing brace, with these lines
abbrev pub stmts_with : List ℕ → List Stmt × ℕ → s.Stmts × ℕ × List ℕ
stmts_with starts b = (s.stmts_of (map view_stmt b.0), b.1, starts)

-- what comes behind `else`, with these lines
abbrev pub other_with : List ℕ → Option Stmt → Option s.Stmt × List ℕ
other_with starts a = (option_map view_stmt a, starts)

abbrev pub view_body : Body → r.Body
view_body b = record { stmts = s.stmts_of (map view_stmt b.stmts); line = b.line; end = b.end; starts = b.starts }

abbrev pub before : List s.Stmt → s.Stmts → s.Stmts
before [] rest = rest
before (a ∷ ss) rest = s.more a (before ss rest)

-- these, and then those that are read
abbrev pub with_stmts : List s.Stmt → Option ((s.Stmts × ℕ × List ℕ) × List Token) → Option ((s.Stmts × ℕ × List ℕ) × List Token)
with_stmts ss given = given >>= λ x. Some ((before ss x.0.0, x.0.1, x.0.2), x.1)
