-- What readers of parts of declarations read.
use Rattle.std.specs.Prelude.{◌≡◌, ℕ, List, [], ◌∷◌, ◌++◌}
use Rattle.c_syntax.specs.declared.token.Token.{Token}
use Rattle.c_syntax.specs.declared.token.Punct.TheVariants as p
use Rattle.c_grammar.specs.Tokens.{punct}
use Rattle.c_grammar.specs.Decls.{SpellsLinkage}

-- tokens that spell it, and a semicolon
abbrev pub SpellsEnded : {X : Type 0} → (Spells : List Token → X → Type 0) → List Token → X → Type 0
SpellsEnded Spells all x = (inside : List Token) × (line : ℕ) × (all ≡ inside ++ punct p.Semicolon line ∷ []) × Spells inside x

-- a linkage comes before these, or nothing
abbrev pub IsAfterLinkage : (tokens rest : List Token) → Type 0
IsAfterLinkage tokens rest = (front : List Token) × (tokens ≡ front ++ rest) × SpellsLinkage front
