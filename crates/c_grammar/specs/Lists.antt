-- Items between commas, over any relation of items.
use Rattle.std.specs.Prelude.{◌≡◌, ℕ, List, [], ◌∷◌, ◌++◌}
use Rattle.c_syntax.specs.declared.token.Token.{Token}
use Rattle.c_syntax.specs.declared.token.Punct.TheVariants as p
use Rattle.c_grammar.specs.Tokens.{punct}

-- item {"," item}
pub data Separated {X : Type 0} (Item : List Token → X → Type 0) : List Token → List X → Type 0 where
  one : {all : List Token} {x : X} → Item all x → Separated Item all (x ∷ [])
  more : (line : ℕ) {first rest all : List Token} {x : X} {xs : List X}
      → Item first x → Separated Item rest xs → all ≡ first ++ punct p.Comma line ∷ rest → Separated Item all (x ∷ xs)

-- {item}
pub data Repeated {X : Type 0} (Item : List Token → X → Type 0) : List Token → List X → Type 0 where
  none : Repeated Item [] []
  more : {first rest all : List Token} {x : X} {xs : List X}
      → Item first x → Repeated Item rest xs → all ≡ first ++ rest → Repeated Item all (x ∷ xs)
