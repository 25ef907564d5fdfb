use Rattle.std.proofs.Common.{sym, ◌∙◌}
use Rattle.qed_terms.specs.View.{term_tree}
use Rattle.qed_rules.proofs.FormulaPasses.{instance_is}
use Rattle.qed_rules.proofs.quantifiers.is_instance.Goals as goal

pub returns-then-is_integer : goal.returns-then-is_integer
returns-then-is_integer c =
    instance_is c.args.name.now (term_tree c.args.low.now) (term_tree c.args.high.now) c.args.body.now c.may_replace.result
    (sym c.if-not-branch.false ∙ c.in_ok-is_single_range.ensures) (sym c.if-is_integer.true ∙ c.is_integer.ensures) c.may_replace.ensures
