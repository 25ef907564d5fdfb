use Rattle.std.proofs.Common.{◌≡◌, [], subst}
use Rattle.qed_terms.specs.declared.verdict.Verdict.TheVariants as verdict
use Rattle.qed_terms.specs.View.{view_setting}
use Rattle.branches.specs.Expansion.{Runs, from_formula}
use Rattle.branches.specs.Ids.{end_of}
use Rattle.instance_rows.specs.Round.{IsRound}
use Rattle.expansion_ends.specs.Goals.{proving}
use Rattle.prover.specs.Late.{IsClosedLate}
use Rattle.prover.proofs.proving.closes_late.Goals as goal

pub returns-in-Proved-clause-runs : goal.returns-in-Proved-clause-runs
returns-in-Proved-clause-runs g c = λ e.
    let start = g.S.TermStore.tree c.args.store.now c.args.start in
    let is : c.in_ok-verdict.verdict ≡ verdict.Proved = cc in
    subst (λ v. Runs (proving IsClosedLate IsRound (view_setting c.args.world.now)) c.args.branches (from_formula c.args.fuel start) 0 [] (end_of v)) is c.in_ok-verdict.ensures.runs
