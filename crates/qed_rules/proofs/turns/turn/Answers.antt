use Rattle.std.proofs.Common.{sym, ◌∙◌, ap}
use Rattle.qed_terms.specs.View.{formula_tree}
use Rattle.qed_rules.specs.Passes.{turned}
use Rattle.qed_rules.proofs.FormulaPasses.{turned_and, turned_or}
use Rattle.qed_rules.proofs.turns.turn.Goals as goal

pub returns-in_ok-nots-in-And : goal.returns-in_ok-nots-in-And
returns-in_ok-nots-in-And c =
    turned_and c.in-And.parts c.in_ok-nots-in-And.field-0 c.in_ok-nots-in-And.ensures ∙ ap (λ f. turned (formula_tree f)) (sym c.in-And.is)

pub returns-in_ok-nots-in-Or : goal.returns-in_ok-nots-in-Or
returns-in_ok-nots-in-Or c =
    turned_or c.in-Or.parts c.in_ok-nots-in-Or.field-0 c.in_ok-nots-in-Or.ensures ∙ ap (λ f. turned (formula_tree f)) (sym c.in-Or.is)
