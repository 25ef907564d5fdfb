-- The body of a function as the grammar spells it (C11 6.9.1).
use Rattle.std.specs.Prelude.{ℕ, false, List}
use Rattle.c_syntax.specs.declared.token.Token.{Token}
use Rattle.c_grammar.specs.Tokens.{Names}
use Rattle.c_grammar.specs.Stmts.{SpellsBlock}
use Rattle.c_grammar.specs.declared.limits.TheConstants.{DEEPEST}
use Rattle.parse_stmts.specs.Read.{Body}

-- a block at this place, with the lines of its braces and those on which its statements begin
abbrev pub SpellsBodyAt : Names → (at : ℕ) → List Token → Body → Type 0
SpellsBodyAt types at xs b = SpellsBlock types false false DEEPEST at xs b.line b.end b.stmts b.starts
