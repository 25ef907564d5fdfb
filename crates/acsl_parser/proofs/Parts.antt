-- What annotations need of the readers of predicates and of typed names.
use Rattle.std.proofs.Common.{◌≡◌, ℕ, Bool, true, List, ◌++◌, Some}
use Rattle.c_syntax.specs.declared.token.Token.{Token}
use Rattle.c_syntax.specs.Expr as e
use Rattle.c_syntax.specs.Pred as r
use Rattle.c_grammar.specs.Tokens.{Names}
use Rattle.c_grammar.specs.Preds.{SpellsPred, SpellsTyped}
use Rattle.c_grammar.proofs.Readers.{Sound}
use Rattle.parse_preds.specs.Next.{ends_pred}
use Rattle.parse_preds.proofs.Laws as law
use Rattle.parse_preds.specs.Read.{pred_at, typed_at}

-- a predicate, whether it trails or not
abbrev pub SomePred : Names → ℕ → List Token → r.Pred → Type 0
SomePred types room xs a = (trails : Bool) × SpellsPred types room trails xs a

-- they read what is spelled, and nothing else
pub record Below (types : Names) : Type 0 where
  pub pred_sound : (room : ℕ) → Sound (SomePred types room) (pred_at types room)
  pub pred_complete : (room : ℕ) (trails : Bool) (xs : List Token) (a : r.Pred) → SpellsPred types room trails xs a → (rest : List Token) → ends_pred rest ≡ true → pred_at types room (xs ++ rest) ≡ Some (a, rest)
  pub typed_sound : Sound (SpellsTyped types) (typed_at types)
  pub typed_complete : (xs : List Token) (x : e.VarDecl) → SpellsTyped types xs x → (rest : List Token) → typed_at types (xs ++ rest) ≡ Some (x, rest)

pub below : (types : Names) → Below types
below types = record {
  pred_sound = law.pred_sound types;
  pred_complete = law.pred_complete types;
  typed_sound = law.typed_sound types;
  typed_complete = law.typed_complete types;
}
