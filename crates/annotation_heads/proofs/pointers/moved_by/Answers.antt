use Rattle.qed_terms.specs.View.{term_tree}
use Rattle.annotation_heads.specs.View.{view_pointer}
use Rattle.annotation_heads.proofs.Paired.{moved_so}
use Rattle.annotation_heads.proofs.pointers.moved_by.Goals as goal

pub returns : goal.returns
returns c =
    let offset = c.over-offset.ensures _ _ c.ready-2.ensures (c.times-cells.ensures _ c.ready.ensures) in
    moved_so c.args.minus c.args.size (view_pointer c.args.pointer) (term_tree c.args.number) _ c.moving.result c.moving.ensures
    (c.in_ok-made.ensures _ _ c.ready-3.ensures offset)
