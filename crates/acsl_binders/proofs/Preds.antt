-- A predicate as spelled: its binders are a list with a first one.
use Rattle.std.proofs.Common.{ℕ, Bool, List, sym, subst}
use Rattle.c_syntax.specs.declared.token.Token.{Token}
use Rattle.c_syntax.specs.Expr as e
use Rattle.c_syntax.specs.Pred.{Pred}
use Rattle.c_grammar.specs.Tokens.{Names}
use Rattle.c_grammar.specs.Operators.{Connective, both, one_of, either}
use Rattle.c_grammar.specs.Preds as g
use Rattle.c_grammar.specs.Preds.{SpellsBinders, connected, SpellsAtom, SpellsOperand, SpellsJoined, SpellsImplied, SpellsIff, SpellsPred}
use Rattle.acsl_well_typed.specs.Ranges.{BindsOne, EachBinds}
use Rattle.acsl_binders.specs.Spelled.{SpelledPredsBind}

a_binder : {types : Names} {ts : List Token} {xs : List e.VarDecl} → SpellsBinders types ts xs → BindsOne xs
a_binder (g.binders x xs is) = tt

both_bind : (c : Connective) (line : ℕ) (a b : Pred) → EachBinds a → EachBinds b → EachBinds (connected c line a b)
both_bind both line a b x y = (x, y)
both_bind one_of line a b x y = (x, y)
both_bind either line a b x y = (x, y)

mutual
  atom_binds : {types : Names} {room : ℕ} {ts : List Token} {a : Pred} → SpellsAtom types room ts a → EachBinds a
  atom_binds g.always = tt
  atom_binds g.never = tt
  atom_binds (g.chain x is) = tt
  atom_binds (g.valid line line' x is) = tt
  atom_binds (g.valid_read line line' x is) = tt
  atom_binds (g.separated line line' x is) = tt
  atom_binds (g.old line line' x is) = pred_binds x
  atom_binds (g.named x) = tt
  atom_binds (g.call line line' x y is) = tt
  atom_binds (g.parens line line' x is) = pred_binds x

  operand_binds : {types : Names} {room : ℕ} {trails : Bool} {ts : List Token} {a : Pred} → SpellsOperand types room trails ts a → EachBinds a
  operand_binds (g.of_atom x) = atom_binds x
  operand_binds (g.not_of x) = operand_binds x
  operand_binds (g.for_all line x y is) = (a_binder x, pred_binds y)
  operand_binds (g.for_some line x y is) = (a_binder x, pred_binds y)
  operand_binds (g.let_in line line' line'' x v y is) = pred_binds y

  joined_binds : {types : Names} {n room : ℕ} {trails : Bool} {ts : List Token} {a : Pred} → SpellsJoined types n room trails ts a → EachBinds a
  joined_binds (g.of_operand x) = operand_binds x
  joined_binds (g.joined line q {c = c} {a = a} {b = b} below is level x y split made) =
      subst EachBinds (sym made) (both_bind c line a b (joined_binds x) (joined_binds y))

  implied_binds : {types : Names} {room : ℕ} {trails : Bool} {ts : List Token} {a : Pred} → SpellsImplied types room trails ts a → EachBinds a
  implied_binds (g.of_joined x) = joined_binds x
  implied_binds (g.implies x y is) = (joined_binds x, implied_binds y)

  iff_binds : {types : Names} {room : ℕ} {trails : Bool} {ts : List Token} {a : Pred} → SpellsIff types room trails ts a → EachBinds a
  iff_binds (g.of_implied x) = implied_binds x
  iff_binds (g.iff x y is) = (iff_binds x, implied_binds y)

  pub pred_binds : {types : Names} {room : ℕ} {trails : Bool} {ts : List Token} {a : Pred} → SpellsPred types room trails ts a → EachBinds a
  pred_binds (g.of_iff x) = iff_binds x
  pred_binds (g.cond line x y z is) = (iff_binds x, pred_binds y, pred_binds z)

pub spelled_preds_bind : SpelledPredsBind
spelled_preds_bind types room trails ts a x = pred_binds x
