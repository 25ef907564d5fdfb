use Rattle.std.proofs.Common.{ap, refl, ◌∙◌}
use Rattle.qed_terms.proofs.Equations.{term_tree-Op, term_tree-App, formula_tree-Rel, formula_tree-And, formula_tree-Or}
use Rattle.qed_terms.specs.Nodes.{node_tree}
use Rattle.qed_terms.specs.View.{term_tree, formula_tree}
use Rattle.goal_text.proofs.Writing.{looks_at, app_like, and_like, or_like}
use Rattle.goal_text.proofs.around.look.Goals as goal

pub returns-in-Op : goal.returns-in-Op
returns-in-Op c = looks_at c.look_at_op.result (node_tree c.args.node) _ _ (ap node_tree c.in-Term.is ∙ ap term_tree c.in-Op.is ∙ term_tree-Op _ c.in-Op.field-1) c.look_at_op.ensures

pub returns-in-App : goal.returns-in-App
returns-in-App c = looks_at _ (node_tree c.args.node) _ _ (ap node_tree c.in-Term.is ∙ ap term_tree c.in-App.is ∙ term_tree-App _ c.in-App.field-1) (app_like _ c.bytes-in-App.result _ refl c.bytes-in-App.ensures)

pub returns-in-Rel : goal.returns-in-Rel
returns-in-Rel c = looks_at c.look_at_relation.result (node_tree c.args.node) _ _ (ap node_tree c.in-Formula.is ∙ ap formula_tree c.in-Rel.is ∙ formula_tree-Rel _ c.in-Rel.field-1) c.look_at_relation.ensures

pub returns-in-And : goal.returns-in-And
returns-in-And c = looks_at _ (node_tree c.args.node) _ _ (ap node_tree c.in-Formula.is ∙ ap formula_tree c.in-And.is ∙ formula_tree-And c.in-And.field-0) (and_like _ refl)

pub returns-in-Or : goal.returns-in-Or
returns-in-Or c = looks_at _ (node_tree c.args.node) _ _ (ap node_tree c.in-Formula.is ∙ ap formula_tree c.in-Or.is ∙ formula_tree-Or c.in-Or.field-0) (or_like _ refl)
