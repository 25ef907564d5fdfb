use Rattle.std.proofs.Common.{ap, ◌∙◌, subst}
use Rattle.qed_terms.specs.View.{formula_tree, view_setting}
use Rattle.qed_simplify.specs.Normal.{plain}
use Rattle.prover.specs.Prover.{IsProverVerdict}
use Rattle.wpgoal_cli.proofs.Settings.{regular_in}
use Rattle.wpgoal_cli.proofs.lines.verdict_on.Goals as goal

pub prove-requires : goal.prove-requires
prove-requires c = regular_in c.args.model (view_setting c.plain_setting-setting.result) c.width.result c.plain_setting-setting.ensures c.width.ensures

pub returns : goal.returns
returns c =
    let same = c.plain_setting-setting.ensures ∙ ap plain c.width.ensures in
    subst (λ s. IsProverVerdict s c.args.wanted.fuel c.args.wanted.branches (formula_tree c.args.formula.now) c.in_ok-verdict.verdict) same c.in_ok-verdict.ensures
