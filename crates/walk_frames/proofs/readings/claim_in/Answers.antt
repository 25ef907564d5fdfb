use Rattle.std.proofs.Common.{◌≡◌, IfOk, subst}
use Rattle.acsl_encode.specs.Encode.{formula_of}
use Rattle.acsl_trees.specs.Tree.{view_tree}
use Rattle.annotation_words.specs.Claims.{claimed}
use Rattle.annotation_words.specs.View.{called_in}
use Rattle.program_trees.specs.View.{view_facts}
use Rattle.qed_terms.specs.View.{formula_tree}
use Rattle.walk_frames.proofs.Given.{read_same}
use Rattle.walk_frames.proofs.readings.claim_in.Goals as goal

pub returns : goal.returns
returns g c =
    subst (λ r. IfOk c.claim_of.result (λ made. formula_tree made ≡ claimed (formula_of r (view_tree c.args.tree.now))))
    (read_same (view_facts c.args.facts.now) (g.T.Texts.text c.args.texts.now) c.args.labels (view_tree c.args.tree.now) c.binders.result.now (called_in c.called.result.now) c.binders.ensures c.called.ensures)
    c.claim_of.ensures
