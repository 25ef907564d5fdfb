use Rattle.std.proofs.Common.{◌≡◌, length, rules}
use Rattle.std.specs.Prelude.{true}
use Rattle.logic_trees.proofs.Forms.{choice_made}
use Rattle.logic_trees.proofs.recursion.is_recursion_at.Goals as goal

pub returns : goal.returns
returns c =
    let so : c.is_choice-fits.result ≡ true = search rules in
    let three : length c.args.kids.now ≡ 3 = search rules in
    choice_made c.args.number c.args.name c.args.head c.args.kids.now c.is_choice-fits.result c.index-kids-0.result c.index-kids-1.result c.index-kids-2.result
    c.are_parts.result c.is_choice-fits.ensures so three c.index-kids-0.is c.index-kids-1.is c.index-kids-2.is c.are_parts.ensures
