use Rattle.std.proofs.Common.{◌≡◌, length, rules, sym, ◌∙◌}
use Rattle.std.specs.Prelude.{true}
use Rattle.acsl_trees.specs.declared.tree.Tree.{out-Tree}
use Rattle.logic_trees.specs.Every.{is_step}
use Rattle.logic_trees.proofs.Forms.{less_made}
use Rattle.logic_trees.proofs.recursion.is_less.Goals as goal

pub returns : goal.returns
returns c =
    let so : c.is_subtraction-fits.result ≡ true = search rules in
    let two : length c.args.kids.now ≡ 2 = search rules in
    less_made c.args.name c.args.head c.args.kids.now c.is_subtraction-fits.result c.index-kids-0.result c.index-kids-1.result c.is_step.result
    c.is_subtraction-fits.ensures so two c.index-kids-0.is c.index-kids-1.is
    (c.is_step.ensures ∙ (λ i. is_step c.args.name (out-Tree (sym c.index-kids-0.is i)).head (out-Tree (sym c.index-kids-1.is i)).head))
