-- What it is that the readers of types read what is spelled, and all of it.
use Rattle.std.specs.Prelude.{◌≡◌, Bool, true}
use Rattle.c_syntax.specs.Expr as e
use Rattle.c_grammar.specs.Tokens.{Names}
use Rattle.c_grammar.specs.Types.{SpellsType, SpellsStars, SpellsTypeName}
use Rattle.c_grammar.specs.Exactness.{IsExact}
use Rattle.parse_types.specs.Read.{type_at, stars_at, type_name_at, ends_type, ends_stars, ends_type_name}

abbrev pub TypeIsExact : Type 0
TypeIsExact = (types : Names) → IsExact (SpellsType types) (λ rest. ends_type rest ≡ true) (type_at types)

abbrev pub StarsAreExact : Type 0
StarsAreExact = (consts : Bool) (t : e.CType) → IsExact (λ xs t'. SpellsStars consts xs t t') (λ rest. ends_stars consts rest ≡ true) (stars_at consts t)

abbrev pub TypeNameIsExact : Type 0
TypeNameIsExact = (types : Names) → IsExact (SpellsTypeName types) (λ rest. ends_type_name rest ≡ true) (type_name_at types)
