use Rattle.std.proofs.Common.{map, ◌∙◌}
use Rattle.equality_variables.proofs.Sums.{sum_fits, sum_of_none, sum_of_one, sum_of_more}
use Rattle.equality_variables.proofs.made.sum_term.Goals as goal

pub returns-then-terms-eq0-clause-tree : goal.returns-then-terms-eq0-clause-tree
returns-then-terms-eq0-clause-tree g c = c.in_ok-zero.ensures.tree ∙ sum_of_none (g.S.TermStore.tree c.args.store.now) c.args.terms.now c.if-terms-eq0.true

pub returns-then-terms-eq1-clause-tree : goal.returns-then-terms-eq1-clause-tree
returns-then-terms-eq1-clause-tree g c = sum_of_one (g.S.TermStore.tree c.args.store.now) c.args.terms.now c.index-terms-0.result c.if-terms-eq1.true c.index-terms-0.is

pub make-requires-clause-fit : goal.make-requires-clause-fit
make-requires-clause-fit g c = sum_fits (map (g.S.TermStore.tree c.args.store.now) c.args.terms.now) c.requires.1

pub returns-clause-tree : goal.returns-clause-tree
returns-clause-tree g c = c.in_ok-sum.ensures.stands ∙ sum_of_more (g.S.TermStore.tree c.args.store.now) c.args.terms.now c.if-terms-eq0.false c.if-terms-eq1.false
