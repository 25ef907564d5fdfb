-- What predicates use of terms: their readers read exactly what is spelled.
use Rattle.std.proofs.Common.{◌≡◌, ℕ, refl, arith, Bool, true, false, List, ◌∷◌, ◌++◌, Some}
use Rattle.c_syntax.specs.declared.token.Token.{Token}
use Rattle.c_syntax.specs.declared.token.Punct.TheVariants as p
use Rattle.c_syntax.specs.Term as t
use Rattle.c_grammar.specs.Tokens.{Names, punct}
use Rattle.c_grammar.specs.Operators.{shift_level}
use Rattle.c_grammar.specs.Terms.{anywhere, in_chain, SpellsTerm, SpellsTermBinary, SpellsSomeTerms, SpellsPointer}
use Rattle.c_grammar.specs.Reading.{Reader, past}
use Rattle.c_grammar.proofs.Readers.{Sound}
use Rattle.parse_types.specs.Read.{starts_type}
use Rattle.parse_terms.specs.Next.{begins_chain, ends_term, ends_terms, ends_chain_term, continues}
use Rattle.parse_terms.specs.Read.{term_at, chain_term_at, some_terms_at, pointer_at}
use Rattle.parse_terms.proofs.Laws as law
use Rattle.parse_terms.proofs.First.{binary_first}

-- no bracket is left open, and `..` stands in brackets alone
abbrev pub Neutral : {X : Type 0} → (List Token → X → Type 0) → Type 0
Neutral {X} S = (xs : List Token) (a : X) → S xs a → (depth : ℕ) (found : Bool) (rest : List Token) → past depth found (xs ++ rest) ≡ past depth found rest

abbrev pub Complete : {X : Type 0} → (List Token → X → Type 0) → (ends : List Token → Bool) → Reader X → Type 0
Complete {X} S ends read = (xs : List Token) (a : X) → S xs a → (rest : List Token) → ends rest ≡ true → read (xs ++ rest) ≡ Some (a, rest)

abbrev pub SpellsList : Names → ℕ → List Token → List t.Term → Type 0
SpellsList types room xs args = SpellsSomeTerms types anywhere room xs (t.terms_of args)

pub record Below (types : Names) : Type 0 where
  pub chain_sound : (room : ℕ) → Sound (SpellsTermBinary types in_chain shift_level room) (chain_term_at types room)
  pub chain_complete : (room : ℕ) → Complete (SpellsTermBinary types in_chain shift_level room) ends_chain_term (chain_term_at types room)
  pub chain_neutral : (room : ℕ) → Neutral (SpellsTermBinary types in_chain shift_level room)
  pub chain_starts : (room : ℕ) (xs : List Token) (a : t.Term) → SpellsTermBinary types in_chain shift_level room xs a → (rest : List Token) → continues rest ≡ true → begins_chain types (xs ++ rest) ≡ true
  pub chain_no_type : (room : ℕ) (xs : List Token) (a : t.Term) → SpellsTermBinary types in_chain shift_level room xs a → (rest : List Token) → starts_type types (xs ++ rest) ≡ false
  pub term_sound : (room : ℕ) → Sound (SpellsTerm types anywhere room) (term_at types room)
  pub term_complete : (room : ℕ) → Complete (SpellsTerm types anywhere room) ends_term (term_at types room)
  pub term_neutral : (room : ℕ) → Neutral (SpellsTerm types anywhere room)
  pub some_sound : (room : ℕ) → Sound (SpellsList types room) (some_terms_at types room)
  pub some_complete : (room : ℕ) (xs : List Token) (args : t.Terms) → SpellsSomeTerms types anywhere room xs args
      → (line : ℕ) (rest : List Token) → some_terms_at types room (xs ++ punct p.CloseParen line ∷ rest) ≡ Some (t.list_of args, punct p.CloseParen line ∷ rest)
  pub some_neutral : (room : ℕ) → Neutral (SpellsSomeTerms types anywhere room)
  pub pointer_sound : (room : ℕ) → Sound (SpellsPointer types room) (pointer_at types room)
  pub pointer_complete : (room : ℕ) → Complete (SpellsPointer types room) ends_term (pointer_at types room)
  pub pointer_neutral : (room : ℕ) → Neutral (SpellsPointer types room)

ends_list : (line : ℕ) (rest : List Token) → ends_terms (punct p.CloseParen line ∷ rest) ≡ true
unfolding ends_terms ends_term
ends_list line rest = refl

pub below : (types : Names) → Below types
below types = record {
  chain_sound = law.chain_term_sound types;
  chain_complete = law.chain_term_complete types;
  chain_neutral = law.chain_term_neutral types in_chain shift_level;
  chain_starts = λ room xs a s. law.chain_begins types shift_level room xs a s (omega arith);
  chain_no_type = λ room xs a s rest. (binary_first s rest).0;
  term_sound = law.term_sound types;
  term_complete = law.term_complete types;
  term_neutral = law.term_neutral types anywhere;
  some_sound = law.some_terms_sound types;
  some_complete = λ room xs args s line rest. law.some_terms_complete types room xs args s (punct p.CloseParen line ∷ rest) (ends_list line rest);
  some_neutral = law.some_terms_neutral types anywhere;
  pointer_sound = law.pointer_sound types;
  pointer_complete = law.pointer_complete types;
  pointer_neutral = law.pointer_neutral types;
}
