use Rattle.std.proofs.Common.{sym, ◌∙◌}
use Rattle.linear_chains.specs.View.{link_of}
use Rattle.linear_chains.proofs.Least.{differ_first, differ_second, differ_third}
use Rattle.linear_chains.proofs.sums.all_differ.Goals as goal

pub returns-then-same_link : goal.returns-then-same_link
returns-then-same_link c = differ_first (link_of c.args.first.now) (link_of c.args.second.now) (link_of c.args.third.now) (sym c.same_link.ensures ∙ c.if-same_link.true)

pub returns-then-same_link-2 : goal.returns-then-same_link-2
returns-then-same_link-2 c = differ_second (link_of c.args.first.now) (link_of c.args.second.now) (link_of c.args.third.now) (sym c.same_link-2.ensures ∙ c.if-same_link-2.true)

pub returns : goal.returns
returns c =
    differ_third (link_of c.args.first.now) (link_of c.args.second.now) (link_of c.args.third.now) c.same_link-3.result (sym c.same_link.ensures ∙ c.if-same_link.false) (sym c.same_link-2.ensures ∙ c.if-same_link-2.false) c.same_link-3.ensures
