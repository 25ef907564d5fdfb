use Rattle.std.proofs.Common.{◌∙◌, ap, subst}
use Rattle.qed_terms.specs.Setting.{is_regular}
use Rattle.qed_terms.specs.View.{formula_tree}
use Rattle.qed_rules.specs.Rules.{step}
use Rattle.qed_simplify.specs.Normal.{Normal}
use Rattle.qed_simplify.proofs.Laws.{plain_settings}
use Rattle.qed_simplify.proofs.normal_form.normal_plain.Goals as goal

pub normal-requires : goal.normal-requires
normal-requires c = ap is_regular c.plain_setting-world.ensures ∙ plain_settings.1

pub returns : goal.returns
returns c = subst (λ s. Normal (step s) (formula_tree c.args.formula.now) (formula_tree c.in_ok-normal.normal)) c.plain_setting-world.ensures c.in_ok-normal.ensures.normal
