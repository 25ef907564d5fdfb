use Rattle.std.proofs.Common.{◌≡◌, sym, ◌∙◌, ap, arith}
use Rattle.std.specs.Prelude.{Some, None}
use Rattle.qed_terms.specs.Tree.{size}
use Rattle.qed_terms.specs.Nodes.{node_tree, kids_of, room_after}
use Rattle.qed_terms.proofs.Sizes.{size-kid, no_room, room_first, room_next, room_stops}
use Rattle.qed_terms.proofs.compare.+room_after.Goals as goal

pub returns-then-room-eq0 : goal.returns-then-room-eq0
returns-then-room-eq0 t c = sym (ap (λ r. room_after r (size (node_tree c.args.node))) c.if-room-eq0.true ∙ no_room (node_tree c.args.node))

pub loop-at-init : goal.loop-at-init
loop-at-init t c = room_first (node_tree c.args.node) c.args.room (omega (arith, c.if-room-eq0.false))

pub room_after-requires : goal.room_after-requires
room_after-requires t c =
    let k = size-kid (node_tree c.args.node) c.loop-at.at (omega (arith, c.loop-at-test.true, c.kid_count-at-end.ensures)) in
    let e = ap size c.kid.ensures in
    (omega (arith, k, e, c.decreases), tt)

pub returns-in-None : goal.returns-in-None
returns-in-None t c =
    let e : room_after c.loop-at.left (size (node_tree c.kid.result)) ≡ None = sym c.room_after.ensures ∙ c.in-None.is in
    sym (c.loop-at.invariant ∙ room_stops (kids_of (node_tree c.args.node)) c.loop-at.left c.loop-at.at (omega (arith, c.loop-at-test.true, c.kid_count-at-end.ensures)) (ap (λ u. room_after c.loop-at.left (size u)) (sym c.kid.ensures) ∙ e))

pub loop-at-preserved : goal.loop-at-preserved
loop-at-preserved t c =
    let e : room_after c.loop-at.left (size (node_tree c.kid.result)) ≡ Some c.in-Some.rest = sym c.room_after.ensures ∙ c.in-Some.is in
    c.loop-at.invariant ∙ room_next (kids_of (node_tree c.args.node)) c.loop-at.left c.loop-at.at c.in-Some.rest (omega (arith, c.loop-at-test.true, c.kid_count-at-end.ensures)) (ap (λ u. room_after c.loop-at.left (size u)) (sym c.kid.ensures) ∙ e)
