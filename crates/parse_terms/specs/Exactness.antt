-- What it is that the readers of terms read what is spelled, and all of it.
use Rattle.std.specs.Prelude.{◌≡◌, ℕ, true}
use Rattle.c_syntax.specs.Term.{terms_of}
use Rattle.c_grammar.specs.Tokens.{Names}
use Rattle.c_grammar.specs.Operators.{shift_level}
use Rattle.c_grammar.specs.Terms.{anywhere, in_chain, SpellsTerm, SpellsTermBinary, SpellsSomeTerms, SpellsPointer, SpellsEntry}
use Rattle.c_grammar.specs.Exactness.{IsExact}
use Rattle.parse_terms.specs.Next.{ends_term, ends_chain_term, ends_terms}
use Rattle.parse_terms.specs.Read.{term_at, chain_term_at, some_terms_at, pointer_at, entry_at}

abbrev pub TermIsExact : Type 0
TermIsExact = (types : Names) (room : ℕ) → IsExact (SpellsTerm types anywhere room) (λ rest. ends_term rest ≡ true) (term_at types room)

abbrev pub ChainTermIsExact : Type 0
ChainTermIsExact = (types : Names) (room : ℕ) → IsExact (SpellsTermBinary types in_chain shift_level room) (λ rest. ends_chain_term rest ≡ true) (chain_term_at types room)

abbrev pub SomeTermsAreExact : Type 0
SomeTermsAreExact = (types : Names) (room : ℕ) → IsExact (λ xs args. SpellsSomeTerms types anywhere room xs (terms_of args)) (λ rest. ends_terms rest ≡ true) (some_terms_at types room)

abbrev pub PointerIsExact : Type 0
PointerIsExact = (types : Names) (room : ℕ) → IsExact (SpellsPointer types room) (λ rest. ends_term rest ≡ true) (pointer_at types room)

abbrev pub EntryIsExact : Type 0
EntryIsExact = (types : Names) (room : ℕ) → IsExact (SpellsEntry types room) (λ rest. ends_term rest ≡ true) (entry_at types room)
