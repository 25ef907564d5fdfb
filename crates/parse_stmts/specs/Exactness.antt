-- What it is that the reader of bodies reads what is spelled, and all of it.
use Rattle.std.specs.Prelude.{ℕ}
use Rattle.c_grammar.specs.Tokens.{Names}
use Rattle.c_grammar.specs.Exactness.{IsExactAt}
use Rattle.parse_stmts.specs.Read.{block_at}
use Rattle.parse_stmts.specs.Spelled.{SpellsBodyAt}

abbrev pub BlockIsExact : Type 0
BlockIsExact = (types : Names) (end : ℕ) → IsExactAt (λ at. SpellsBodyAt types at) (λ rest. Unit {0}) end (block_at types end)
