use Rattle.std.proofs.Common.{◌≡◌, true, sym, ◌∙◌, rules}
use Rattle.program_trees.specs.View.{view_facts}
use Rattle.logic_calls.specs.View.{view_names}
use Rattle.logic_settings.proofs.Forming.{all_next}
use Rattle.logic_settings.proofs.forms.all_fit.Goals as goal

pub loop-at-preserved : goal.loop-at-preserved
loop-at-preserved c =
    let p = view_facts c.args.facts.now in
    let names = view_names c.args.names.now in
    let kept : c.in_ok-fits.fits ≡ true = search rules in
    all_next p names c.as_slice-definitions.result.now c.loop-at.at _ c.index-definitions-at.result c.loop-at.invariant c.loop-at-test.true c.index-definitions-at.is
    (sym kept ∙ c.in_ok-fits.ensures)
