use Rattle.std.proofs.Common.{map}
use Rattle.pair_instances.proofs.PairLaws.{not_begun}
use Rattle.pair_instances.proofs.pairs.at_first.Goals as goal

pub returns-then-not-begins-clause-stand : goal.returns-then-not-begins-clause-stand
returns-then-not-begins-clause-stand g c =
    let tree = g.S.TermStore.tree c.args.store.now in
    not_begun tree c.args.long_bits c.args.row (tree c.args.first) c.head.result.now c.begins.result (map tree c.args.seconds.now) (map tree c.args.out.now.items) c.head.ensures c.begins.ensures c.if-not-begins.true
