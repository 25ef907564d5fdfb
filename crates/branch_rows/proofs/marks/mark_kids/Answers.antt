use Rattle.std.proofs.Common.{◌<◌, length, All, subst, sym, arith}
use Rattle.tree_places.specs.View.{node_of}
use Rattle.branch_rows.proofs.marks.mark_kids.Goals as goal

pub mark_all-requires : goal.mark_all-requires
mark_all-requires c =
    subst (λ xs. All (λ k. k < length c.args.marks.now.items) xs) (sym c.as_slice.ensures.value)
    (λ k d l. let b = c.requires.kept.table.before c.args.place (node_of c.node_there-node.result.now) c.node_there-node.ensures k d l in let p = c.requires.below in let a = c.requires.all in omega arith)
