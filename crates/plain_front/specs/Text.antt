-- What a text is read as, and the one fault of a text that isn't verified.
use Rattle.std.specs.Prelude.{◌≡◌, ◌⊎◌, ℕ, true, false, List, Ok, Err}
use Rattle.wp_base.specs.declared.answers.Refusal.{Refusal}
use Rattle.wp_base.specs.declared.answers.Rule.TheVariants as rule
use Rattle.c_syntax.specs.declared.token.Token.{Token}
use Rattle.c_syntax.specs.Decl as d
use Rattle.c_lexer.specs.Tokens.{tokens_of}
use Rattle.c_grammar.specs.Decls.{IsUnspelledOn}
use Rattle.c_kinds.specs.declared.models.Machdep.{Machdep}
use Rattle.c_parser.specs.Outcome.{SpellsWithin, SpellsPast, SpellsNone}
use Rattle.logic_sources.specs.Told.{Source, source_of}
use Rattle.logic_sources.specs.Built.{is_verified}

-- Its tokens spell a tree within the limits, whose names and types are in order with this data model, in annotations too, and that is verified.
pub record Spells (m : Machdep) (text : List ℕ) (s : Source) : Type 0 where
  pub tokens : List Token
  pub tree : d.Program
  pub lexed : tokens_of text ≡ Ok tokens
  pub spelled : SpellsWithin tokens tree
  pub is : source_of m tree ≡ Ok s
  pub built : is_verified s ≡ true

-- The fault of a text: the first of its tokens, or else that they spell no program, or else that they pass a limit, or else the first one among the
-- declarations and the code of the program that they spell, or else the first one among its annotations, or else that it isn't verified, which is said of
-- line 1.
pub data HasFault (m : Machdep) (text : List ℕ) : Refusal → Type 0 where
  unlexed : (r : Refusal) → tokens_of text ≡ Err r → HasFault m text r
  unspelled : (tokens : List Token) (line : ℕ) → tokens_of text ≡ Ok tokens → SpellsNone tokens → IsUnspelledOn tokens line → HasFault m text (record { rule = rule.Syntax; line = line })
  past : (tokens : List Token) (line : ℕ) → tokens_of text ≡ Ok tokens → SpellsPast tokens line → HasFault m text (record { rule = rule.Limit; line = line })
  untyped : (tokens : List Token) (tree : d.Program) (r : Refusal) → tokens_of text ≡ Ok tokens → SpellsWithin tokens tree → source_of m tree ≡ Err r → HasFault m text r
  unbuilt : (tokens : List Token) (tree : d.Program) (s : Source) → tokens_of text ≡ Ok tokens → SpellsWithin tokens tree → source_of m tree ≡ Ok s → is_verified s ≡ false
      → HasFault m text (record { rule = rule.Unbuilt; line = 1 })

-- It spells what is verified, or it has a fault.
abbrev pub SpellsOrHasFault : Machdep → List ℕ → Type 0
SpellsOrHasFault m text = ((s : Source) × Spells m text s) ⊎ ((r : Refusal) × HasFault m text r)
