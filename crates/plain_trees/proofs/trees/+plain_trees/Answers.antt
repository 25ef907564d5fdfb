use Rattle.std.proofs.Common.{rules}
use Rattle.plain_trees.specs.View.{view_place}
use Rattle.plain_trees.proofs.Walking.{unfit, read_is, kids_are, kid_around, kid_turn, kid_fault, kids_done}
use Rattle.plain_trees.proofs.trees.+plain_trees.Goals as goal

pub are_plain_under-returns-then-not-fits : goal.are_plain_under-returns-then-not-fits
are_plain_under-returns-then-not-fits t c = λ d h.
    let ks = c.args.kids.now in
    kid_fault (view_place c.args.place c.args.takes.now) d c.args.in_binder ks c.loop-at.at c.index-kids-at.result
    c.is_plain_under-fits.result _ (search rules) c.index-kids-at.is
    (c.is_plain_under-fits.ensures (kid_around c.args.in_binder ks c.loop-at.at d) (c.around_kid-names.ensures d h)) c.if-not-fits.true (c.loop-at.invariant d h)

pub are_plain_under-loop-at-preserved : goal.are_plain_under-loop-at-preserved
are_plain_under-loop-at-preserved t c = λ d h.
    let ks = c.args.kids.now in
    kid_turn (view_place c.args.place c.args.takes.now) d c.args.in_binder ks c.loop-at.at c.index-kids-at.result
    c.is_plain_under-fits.result _ (search rules) c.index-kids-at.is
    (c.is_plain_under-fits.ensures (kid_around c.args.in_binder ks c.loop-at.at d) (c.around_kid-names.ensures d h)) c.if-not-fits.false (c.loop-at.invariant d h)

pub are_plain_under-returns : goal.are_plain_under-returns
are_plain_under-returns t c = λ d h.
    kids_done (view_place c.args.place c.args.takes.now) d c.args.in_binder c.args.kids.now c.loop-at.at _ (search rules) (c.loop-at.invariant d h)

pub is_plain_under-returns-then-not-fits : goal.is_plain_under-returns-then-not-fits
is_plain_under-returns-then-not-fits t c = λ d h.
    unfit (view_place c.args.place c.args.takes.now) d c.node_fits-fits.result c.args.tree.now c.as_slice-kids.result.now (search rules)
    (c.node_fits-fits.ensures d h) c.if-not-fits.true

pub is_plain_under-returns-then-is_read : goal.is_plain_under-returns-then-is_read
is_plain_under-returns-then-is_read t c = λ d h.
    read_is (view_place c.args.place c.args.takes.now) d c.node_fits-fits.result c.is_read.result c.role_of-role.result c.args.tree.now c.as_slice-kids.result.now
    (search rules) (c.node_fits-fits.ensures d h) c.if-not-fits.false c.role_of-role.ensures c.is_read.ensures c.if-is_read.true

pub is_plain_under-returns : goal.is_plain_under-returns
is_plain_under-returns t c = λ d h.
    kids_are (view_place c.args.place c.args.takes.now) d c.node_fits-fits.result c.is_read.result c.is_binder.result c.are_plain_under.result c.role_of-role.result
    c.args.tree.now c.as_slice-kids.result.now (search rules) (c.node_fits-fits.ensures d h) c.if-not-fits.false c.role_of-role.ensures c.is_read.ensures
    c.if-is_read.false c.is_binder.ensures (c.are_plain_under.ensures d h)
