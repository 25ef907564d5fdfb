-- What the readers of annotations and of bodies read: what is spelled.
use Rattle.std.specs.Prelude.{◌≡◌, ℕ, ◌+◌, List, ◌∷◌, ◌++◌, length, Some, false}
use Rattle.c_syntax.specs.declared.token.Token.{Token}
use Rattle.c_syntax.specs.Stmt as s
use Rattle.c_syntax.specs.Contract.{Contract}
use Rattle.c_syntax.specs.Decl as d
use Rattle.c_grammar.specs.Tokens.{Names, annot_close}
use Rattle.c_grammar.specs.Lists.{Repeated}
use Rattle.c_grammar.specs.Annots.{SpellsContract, SpellsLogic}
use Rattle.c_grammar.specs.Stmts.{SpellsBlock}
use Rattle.c_grammar.specs.declared.limits.TheConstants.{DEEPEST}
use Rattle.acsl_parser.specs.Read.{contract_at, logics_at}
use Rattle.acsl_parser.proofs.Laws as annots
use Rattle.parse_stmts.specs.Read.{block_at}
use Rattle.parse_stmts.proofs.Laws as stmts

pub record Parts : Type 0 where
  pub contract : (types : Names) (at end : ℕ) (xs : List Token) (c : Contract) → SpellsContract types at xs c → (line : ℕ) (rest : List Token)
      → at + length (xs ++ annot_close line ∷ rest) ≡ end → contract_at types end (xs ++ annot_close line ∷ rest) ≡ Some (c, annot_close line ∷ rest)
  pub logics : (types : Names) (xs : List Token) (x : d.LogicDecl) (ds : List d.LogicDecl) → Repeated (SpellsLogic types) xs (x ∷ ds) → (line : ℕ) (rest : List Token)
      → logics_at types (xs ++ annot_close line ∷ rest) ≡ Some (x ∷ ds, annot_close line ∷ rest)
  pub block : (types : Names) (at end : ℕ) (xs : List Token) (line last : ℕ) (body : s.Stmts) (starts : List ℕ) → SpellsBlock types false false DEEPEST at xs line last body starts → (rest : List Token)
      → at + length (xs ++ rest) ≡ end → block_at types end (xs ++ rest) ≡ Some (record { stmts = body; line = line; end = last; starts = starts }, rest)

pub parts : Parts
parts = record {
  contract = λ types at end xs c s line rest place. annots.contract_complete types end at xs c s line rest place;
  logics = annots.logics_complete;
  block = λ types at end xs line last body starts s rest place. stmts.block_complete types end at xs (record { stmts = body; line = line; end = last; starts = starts }) s rest place;
}
