-- The readers of types read exactly what is spelled. The crates above cite these laws.
use Rattle.std.proofs.Common.{◌≡◌, ℕ, Bool, true, List, ◌++◌, Some}
use Rattle.c_syntax.specs.declared.token.Token.{Token}
use Rattle.c_syntax.specs.Expr as e
use Rattle.c_grammar.specs.Tokens.{Names}
use Rattle.c_grammar.specs.Types.{SpellsType, SpellsStars, SpellsTypeName}
use Rattle.c_grammar.specs.Reading.{past}
use Rattle.c_grammar.proofs.Readers.{Sound}
use Rattle.parse_types.specs.Read.{starts_type, type_at, stars_at, type_name_at, ends_type, ends_stars, ends_type_name}
use Rattle.parse_types.proofs.Sound as sound
use Rattle.parse_types.proofs.Complete as complete

pub type_sound : (types : Names) → Sound (SpellsType types) (type_at types)
type_sound = sound.type_sound

pub stars_sound : (consts : Bool) (t : e.CType) → Sound (λ xs t'. SpellsStars consts xs t t') (stars_at consts t)
stars_sound = sound.stars_sound

pub type_name_sound : (types : Names) → Sound (SpellsTypeName types) (type_name_at types)
type_name_sound = sound.type_name_sound

pub type_complete : (types : Names) (xs : List Token) (t : e.CType) → SpellsType types xs t → (rest : List Token) → ends_type rest ≡ true → type_at types (xs ++ rest) ≡ Some (t, rest)
type_complete = complete.type_complete

pub stars_complete : (consts : Bool) (xs : List Token) (t t' : e.CType) → SpellsStars consts xs t t' → (rest : List Token) → ends_stars consts rest ≡ true → stars_at consts t (xs ++ rest) ≡ Some (t', rest)
stars_complete = complete.stars_complete

pub type_name_complete : (types : Names) (xs : List Token) (t : e.CType) → SpellsTypeName types xs t → (rest : List Token) → ends_type_name rest ≡ true → type_name_at types (xs ++ rest) ≡ Some (t, rest)
type_name_complete = complete.type_name_complete

pub type_starts : (types : Names) (xs : List Token) (t : e.CType) → SpellsType types xs t → (rest : List Token) → starts_type types (xs ++ rest) ≡ true
type_starts = complete.type_starts

pub type_name_starts : (types : Names) (xs : List Token) (t : e.CType) → SpellsTypeName types xs t → (rest : List Token) → starts_type types (xs ++ rest) ≡ true
type_name_starts = complete.type_name_starts

-- no bracket and no `..` stands in a type
pub type_neutral : (types : Names) (xs : List Token) (t : e.CType) → SpellsType types xs t → (depth : ℕ) (found : Bool) (rest : List Token) → past depth found (xs ++ rest) ≡ past depth found rest
type_neutral = complete.type_neutral

pub stars_neutral : (consts : Bool) (xs : List Token) (t t' : e.CType) → SpellsStars consts xs t t' → (depth : ℕ) (found : Bool) (rest : List Token) → past depth found (xs ++ rest) ≡ past depth found rest
stars_neutral consts xs t t' s = complete.stars_neutral s

pub type_name_neutral : (types : Names) (xs : List Token) (t : e.CType) → SpellsTypeName types xs t → (depth : ℕ) (found : Bool) (rest : List Token) → past depth found (xs ++ rest) ≡ past depth found rest
type_name_neutral = complete.type_name_neutral
