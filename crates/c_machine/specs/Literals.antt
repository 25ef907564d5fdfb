-- The kind of a constant that is written as a number or as a character (C11 6.4.4.1p5, 6.4.4.4p10).
use Rattle.std.specs.Prelude.{ℤ, List, [], ◌∷◌, Option, Some, None, if◌then◌else◌}
use Rattle.std.specs.Option.{option_map}
use Rattle.wp_base.specs.declared.kinds.Kind.{Kind}
use Rattle.wp_base.specs.declared.kinds.Kind.TheVariants as kind
use Rattle.c_syntax.specs.declared.token.Base.{Base}
use Rattle.c_syntax.specs.declared.token.Base.TheVariants as base
use Rattle.c_syntax.specs.declared.token.Suffix.{Suffix}
use Rattle.c_syntax.specs.declared.token.Suffix.TheVariants as suffix
use Rattle.c_syntax.specs.declared.token.TokenKind.{TokenKind}
use Rattle.c_syntax.specs.declared.token.TokenKind.TheVariants as token
use Rattle.c_kinds.specs.declared.models.Machdep.{Machdep}
use Rattle.c_kinds.specs.Models.{holds}
use Rattle.c_machine.specs.declared.rules.Constant.{Constant}

-- the kinds that a number may have, in the order in which they are tried
abbrev pub kinds_for : Base → Suffix → List Kind
kinds_for base.Decimal suffix.None = kind.Int ∷ kind.Long ∷ kind.LLong ∷ []
kinds_for base.Decimal suffix.L = kind.Long ∷ kind.LLong ∷ []
kinds_for base.Decimal suffix.LL = kind.LLong ∷ []
kinds_for b suffix.None = kind.Int ∷ kind.UInt ∷ kind.Long ∷ kind.ULong ∷ kind.LLong ∷ kind.ULLong ∷ []
kinds_for b suffix.L = kind.Long ∷ kind.ULong ∷ kind.LLong ∷ kind.ULLong ∷ []
kinds_for b suffix.LL = kind.LLong ∷ kind.ULLong ∷ []
kinds_for b suffix.U = kind.UInt ∷ kind.ULong ∷ kind.ULLong ∷ []
kinds_for b suffix.UL = kind.ULong ∷ kind.ULLong ∷ []
kinds_for b suffix.ULL = kind.ULLong ∷ []

-- the first of these kinds that holds the number
abbrev pub first_holding : Machdep → ℤ → List Kind → Option Kind
first_holding m z [] = None
first_holding m z (k ∷ ks) = if holds m k z then Some k else first_holding m z ks

-- a number of the first of these kinds that holds it
unfoldable pub literal : Machdep → ℤ → List Kind → Option Constant
literal m z ks = option_map (λ k. record { kind = k; value = Some z }) (first_holding m z ks)

-- a token as a constant
abbrev pub token_constant : Machdep → TokenKind → Option Constant
token_constant m (token.Number z b s) = literal m z (kinds_for b s)
token_constant m t = None

-- a character constant is an `int`
abbrev pub char_constant : Machdep → ℤ → Option Constant
char_constant m z = literal m z (kind.Int ∷ [])
