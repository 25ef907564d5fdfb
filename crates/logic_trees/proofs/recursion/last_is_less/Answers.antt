use Rattle.std.proofs.Common.{◌≡◌, ◌-◌, suc, length, arith}
use Rattle.logic_trees.proofs.Forms.{last_made}
use Rattle.logic_trees.proofs.recursion.last_is_less.Goals as goal

pub returns : goal.returns
returns c =
    let last : suc (length c.args.kids.now - 1) ≡ length c.args.kids.now = omega (arith, c.if-kids-eq0.false) in
    last_made c.args.name c.args.kids.now (length c.args.kids.now - 1) c.index-kids-last.result c.is_one_less.result c.index-kids-last.is last c.is_one_less.ensures
