use Rattle.std.proofs.Common.{ap, ◌∙◌}
use Rattle.acsl_trees.specs.Tree.{view_tree}
use Rattle.plain_annotations.specs.Plain.{is_plain}
use Rattle.plain_trees.proofs.claims.is_claim.Goals as goal

pub returns : goal.returns
returns c = c.is_plain.ensures ∙ ap (λ q. is_plain q 0 (view_tree c.args.tree.now)) (c.place_of.ensures c.args.takes.now)
