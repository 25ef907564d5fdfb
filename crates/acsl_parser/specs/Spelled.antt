-- What the public readers read.
use Rattle.std.specs.Prelude.{◌≡◌, ℕ, List, ◌∷◌}
use Rattle.c_syntax.specs.declared.token.Token.{Token}
use Rattle.c_syntax.specs.Pred as r
use Rattle.c_syntax.specs.Decl as d
use Rattle.c_grammar.specs.Tokens.{Names, annot_close}
use Rattle.c_grammar.specs.Lists.{Repeated}
use Rattle.c_grammar.specs.Annots.{SpellsAssert, SpellsLogic}

-- an assertion, with the line of its word
abbrev pub SpellsAssertOn : Names → (room : ℕ) → List Token → r.Pred × ℕ → Type 0
SpellsAssertOn types room xs x = SpellsAssert types room xs x.0 x.1

-- an assertion, whatever the line of its word
abbrev pub SpellsAssertAlone : Names → (room : ℕ) → List Token → r.Pred → Type 0
SpellsAssertAlone types room xs a = (line : ℕ) × SpellsAssert types room xs a line

-- one definition or more
pub record SpellsLogics (types : Names) (xs : List Token) (ds : List d.LogicDecl) : Type 0 where
  pub first : d.LogicDecl
  pub more : List d.LogicDecl
  pub are : ds ≡ first ∷ more
  pub spelled : Repeated (SpellsLogic types) xs (first ∷ more)

-- what ends the annotation comes next
abbrev pub IsClosed : List Token → Type 0
IsClosed rest = (line : ℕ) × (more : List Token) × (rest ≡ annot_close line ∷ more)
