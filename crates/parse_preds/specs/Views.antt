-- What the readers of the program give.
use Rattle.std.specs.Prelude.{ℕ, Bool, List, map}
use Rattle.c_syntax.specs.declared.annot.Term.{Term}
use Rattle.c_syntax.specs.declared.annot.Pred.{Pred}
use Rattle.c_syntax.specs.declared.expr.BinOp.{BinOp}
use Rattle.c_syntax.specs.Term as t
use Rattle.c_syntax.specs.Pred as r
use Rattle.c_syntax.specs.View.{view_term, view_pred}
use Rattle.c_syntax.specs.declared.token.Token.{Token}
use Rattle.c_grammar.specs.Tokens.{Names}
use Rattle.c_grammar.specs.Operators as op
use Rattle.c_grammar.specs.Preds.{SpellsPred}
use Rattle.parse_preds.specs.declared.next.Connective.{Connective}
use Rattle.parse_preds.specs.declared.next.Connective.TheVariants as c
use Rattle.parse_preds.specs.declared.preds.Form as code
use Rattle.parse_preds.specs.declared.preds.Form.TheVariants as f
use Rattle.parse_preds.specs.Read.{Form, an_operand, an_implied, a_whole}

abbrev pub view_connective : Connective → op.Connective
view_connective c.Both = op.both
view_connective c.OneOf = op.one_of
view_connective c.Either = op.either

abbrev pub view_found : Connective × ℕ → op.Connective × ℕ
view_found x = (view_connective x.0, x.1)

abbrev pub view_tail : List Term × List BinOp → List t.Term × List BinOp
view_tail x = (map view_term x.0, x.1)

abbrev pub view_value : List ℕ × Term → List ℕ × t.Term
view_value x = (x.0, view_term x.1)

abbrev pub view_arms : Pred × Pred → r.Pred × r.Pred
view_arms x = (view_pred x.0, view_pred x.1)

abbrev pub view_form : code.Form → Form
view_form f.Operand = an_operand
view_form f.Implied = an_implied
view_form f.Whole = a_whole

-- a predicate, whether it trails or not
abbrev pub SpellsSomePred : Names → (room : ℕ) → List Token → r.Pred → Type 0
SpellsSomePred types room xs a = (trails : Bool) × SpellsPred types room trails xs a
