-- The readers of predicates, and of types and names that annotations declare, read exactly what is spelled. The crates above cite these laws.
use Rattle.std.proofs.Common.{◌≡◌, ℕ, Bool, true, false, List, ◌++◌, Some, length, arith, length-append}
use Rattle.c_syntax.specs.declared.token.Token.{Token}
use Rattle.c_syntax.specs.Expr as e
use Rattle.c_syntax.specs.Pred as r
use Rattle.c_grammar.specs.Tokens.{Names}
use Rattle.c_grammar.specs.Preds.{SpellsLogicType, SpellsTyped, SpellsPred}
use Rattle.c_grammar.specs.Reading.{past}
use Rattle.c_grammar.proofs.Readers.{Sound}
use Rattle.parse_types.specs.Read.{starts_type, ends_type_name}
use Rattle.parse_preds.specs.Next.{ends_pred}
use Rattle.parse_preds.specs.Binders.{logic_type_at, typed_at}
use Rattle.parse_preds.specs.Read.{pred_at}
use Rattle.parse_preds.specs.Views.{SpellsSomePred}
use Rattle.parse_preds.proofs.Below.{below}
use Rattle.parse_preds.proofs.BindersSound as binders_sound
use Rattle.parse_preds.proofs.BindersComplete as binders_complete
use Rattle.parse_preds.proofs.Neutral as neutral
use Rattle.parse_preds.proofs.Forms as sound
use Rattle.parse_preds.proofs.CompleteForms as complete

pub logic_type_sound : (types : Names) → Sound (SpellsLogicType types) (logic_type_at types)
logic_type_sound = binders_sound.logic_type_sound

pub logic_type_complete : (types : Names) (xs : List Token) (type : e.CType) → SpellsLogicType types xs type → (rest : List Token) → ends_type_name rest ≡ true → logic_type_at types (xs ++ rest) ≡ Some (type, rest)
logic_type_complete = binders_complete.logic_type_complete

pub typed_sound : (types : Names) → Sound (SpellsTyped types) (typed_at types)
typed_sound = binders_sound.typed_sound

-- whatever comes behind the name
pub typed_complete : (types : Names) (xs : List Token) (x : e.VarDecl) → SpellsTyped types xs x → (rest : List Token) → typed_at types (xs ++ rest) ≡ Some (x, rest)
typed_complete = binders_complete.typed_complete

pub pred_sound : (types : Names) (room : ℕ) → Sound (SpellsSomePred types room) (pred_at types room)
pred_sound types = sound.pred_sound types (below types)

pub pred_complete : (types : Names) (room : ℕ) (trails : Bool) (xs : List Token) (a : r.Pred) → SpellsPred types room trails xs a → (rest : List Token) → ends_pred rest ≡ true → pred_at types room (xs ++ rest) ≡ Some (a, rest)
unfolding pred_at
pred_complete types room trails xs a s rest ends = complete.pred_complete (below types) s (length (xs ++ rest)) (omega (arith, length-append xs rest)) rest ends

-- no bracket is left open, and `..` stands in brackets alone
pub pred_neutral : (types : Names) (room : ℕ) (trails : Bool) (xs : List Token) (a : r.Pred) → SpellsPred types room trails xs a → (depth : ℕ) (found : Bool) (rest : List Token)
    → past depth found (xs ++ rest) ≡ past depth found rest
pred_neutral types room trails xs a s = neutral.pred_neutral (below types) s

pub pred_no_type : (types : Names) (room : ℕ) (trails : Bool) (xs : List Token) (a : r.Pred) → SpellsPred types room trails xs a → (rest : List Token) → starts_type types (xs ++ rest) ≡ false
pred_no_type types room trails xs a s = neutral.pred_no_type (below types) s
