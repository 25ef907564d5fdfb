-- The reader of statements reads exactly what is spelled. The crates above cite these laws.
use Rattle.std.proofs.Common.{◌≡◌, ℕ, ◌+◌, ◌-◌, ◌≤◌, true, false, List, ◌∷◌, ◌++◌, length, Some, refl, ap, ◌∙◌, arith}
use Rattle.c_syntax.specs.declared.token.Token.{Token}
use Rattle.c_syntax.specs.declared.token.TokenKind.{TokenKind}
use Rattle.c_syntax.specs.declared.token.TokenKind.TheVariants as k
use Rattle.c_syntax.specs.declared.token.Word.{Word}
use Rattle.c_syntax.specs.declared.token.Word.TheVariants as w
use Rattle.c_syntax.specs.declared.token.Punct.{Punct}
use Rattle.c_syntax.specs.declared.token.Punct.TheVariants as p
use Rattle.c_grammar.specs.Tokens.{Names, token, punct}
use Rattle.c_grammar.proofs.Readers.{Took}
use Rattle.parse_types.specs.Read.{starts_type, kind_starts}
use Rattle.parse_exprs.specs.Read.{ends_expr}
use Rattle.parse_exprs.proofs.Laws as exprs
use Rattle.parse_decls.proofs.Laws as decls
use Rattle.acsl_parser.proofs.Laws as annots
use Rattle.parse_stmts.specs.Read.{Body, block_at}
use Rattle.parse_stmts.specs.Spelled.{SpellsBodyAt}
use Rattle.parse_stmts.proofs.Starts.{closes, keyed}
use Rattle.parse_stmts.proofs.Sound.{Parts}
use Rattle.parse_stmts.proofs.SoundStmts as sound
use Rattle.parse_stmts.proofs.Complete.{Whole}
use Rattle.parse_stmts.proofs.CompleteStmts as complete

-- ---- the readers of what stands in statements

close_ends : (q : Punct) (line : ℕ) (rest : List Token) → closes q ≡ true → ends_expr (punct q line ∷ rest) ≡ true
close_ends p.Semicolon line rest h = refl
close_ends p.CloseParen line rest h = refl
close_ends p.Colon line rest h = refl
close_ends _ line rest h = absurd cc

keyed_kind : (types : Names) (kind : TokenKind) → keyed kind ≡ true → kind_starts types kind ≡ false
keyed_kind types (k.Word w.If) h = refl
keyed_kind types (k.Word w.Else) h = refl
keyed_kind types (k.Word w.While) h = refl
keyed_kind types (k.Word w.Do) h = refl
keyed_kind types (k.Word w.For) h = refl
keyed_kind types (k.Word w.Switch) h = refl
keyed_kind types (k.Word w.Break) h = refl
keyed_kind types (k.Word w.Continue) h = refl
keyed_kind types (k.Word w.Return) h = refl
keyed_kind types (k.Word _) h = absurd cc
keyed_kind types (k.Name x) h = absurd cc
keyed_kind types _ h = refl

keyed_starts : (types : Names) (kind : TokenKind) (line : ℕ) (rest : List Token) → keyed kind ≡ true → starts_type types (token kind line ∷ rest) ≡ false
unfolding starts_type
keyed_starts types kind line rest h = keyed_kind types kind h

parts : (types : Names) → Parts types
parts types = record {
  expr_sound = exprs.expr_sound types;
  cond_sound = exprs.cond_sound types;
  variables_sound = decls.variables_sound types;
  loop_sound = annots.loop_sound types;
  assert_sound = annots.assert_sound types;
}

whole : (types : Names) → Whole types
whole types = record {
  expr_complete = λ room xs a s q c line rest. exprs.expr_complete types room xs a s (punct q line ∷ rest) (close_ends q line rest c);
  cond_complete = λ room xs a s line rest. exprs.cond_complete types room xs a s (punct p.Colon line ∷ rest) refl;
  variables_complete = decls.variables_complete types;
  loop_complete = annots.loop_complete types;
  assert_complete = annots.assert_complete types;
  loop_starts = annots.loop_starts types;
  variables_start = decls.variables_start types;
  expr_starts = λ room xs a s rest. exprs.starts_no_type types (xs ++ rest) (exprs.expr_starts types room xs a s rest);
  keyed_starts = keyed_starts types;
}

-- ---- the body of a function

-- what is read is spelled so
pub block_sound : (types : Names) → (end at : ℕ) (ts : List Token) (b : Body) (rest : List Token) → at + length ts ≡ end → block_at types end ts ≡ Some (b, rest) → Took (SpellsBodyAt types at) ts b rest
block_sound types end at ts b rest place h = sound.block_sound types (parts types) end at ts b rest place h

-- what is spelled is read, whatever comes after it
pub block_complete : (types : Names) → (end at : ℕ) (xs : List Token) (b : Body) → SpellsBodyAt types at xs b → (rest : List Token) → at + length (xs ++ rest) ≡ end
    → block_at types end (xs ++ rest) ≡ Some (b, rest)
block_complete types end at xs b s rest place = complete.block_complete types (whole types) end at xs b s rest place

-- the same from the tokens on which it stands
pub block_there : (types : Names) (end : ℕ) (ts : List Token) → length ts ≤ end → (xs : List Token) (b : Body) (rest : List Token) → ts ≡ xs ++ rest → SpellsBodyAt types (end - length ts) xs b
    → block_at types end ts ≡ Some (b, rest)
block_there types end ts le xs b rest is s =
    let at = end - length ts in
    let place : at + length (xs ++ rest) ≡ end = omega (arith, le, ap length is) in
    ap (block_at types end) is ∙ block_complete types end at xs b s rest place
