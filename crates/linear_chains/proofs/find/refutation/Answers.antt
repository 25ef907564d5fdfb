use Rattle.std.proofs.Common.{subst, sym, ◌∙◌, ap, map}
use Rattle.linear_chains.specs.Links.{step_of}
use Rattle.linear_chains.specs.Chains.{Meets}
use Rattle.linear_chains.specs.Tables.{number_in}
use Rattle.linear_chains.specs.View.{link_of, side_step}
use Rattle.linear_chains.proofs.Made.{answers_of}
use Rattle.linear_chains.proofs.find.refutation.Goals as goal

pub returns-then-all_meet : goal.returns-then-all_meet
returns-then-all_meet c =
    let d = number_in c.in_ok-found.found.table.entries c.as_slice-3.result.now in
    let same = ap (map side_step) c.as_slice-2.ensures.value ∙ c.in_ok-steps.ensures in
    let meets = subst (λ s. Meets s d) same (c.all_meet.ensures c.if-all_meet.true) in
    answers_of (map link_of c.args.links.now) c.requires d meets c.in_ok-sum.sum c.in_ok-sum.ensures
