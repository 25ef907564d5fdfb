use Rattle.std.proofs.Common.{◌≡◌, not, ◌&&◌, true, sym, ◌∙◌, ap, arith}
use Rattle.qed_terms.specs.Free.{is_free}
use Rattle.stored_puts.specs.Kids.{is_body}
use Rattle.stored_puts.proofs.FreeKids.{free_there, free_nowhere}
use Rattle.stored_puts.proofs.StoredKids.{kid_less, kid_held}
use Rattle.stored_puts.proofs.free.+is_free.Goals as goal

pub is_free-free-requires : goal.is_free-free-requires
is_free-free-requires g t c κs within =
    let tree = g.S.TermStore.tree c.args.store.now in
    let held = g.S.TermStore.held c.args.store.now in
    let ids = c.kids-kids.result.now in
    let less = kid_less tree ids c.loop-at.at c.index-kids-at.result (tree c.args.id) c.loop-at-test.true c.index-kids-at.is c.kids-kids.ensures.stand in
    let d = c.decreases in
    (omega (arith, less, d), (within.0, (within.1, kid_held held ids c.loop-at.at c.index-kids-at.result c.kids-kids.ensures.held c.loop-at-test.true c.index-kids-at.is)))

pub returns-then-is_free_there : goal.returns-then-is_free_there
returns-then-is_free_there g t c =
    let tree = g.S.TermStore.tree c.args.store.now in
    let bound = c.binds-bound.result in
    let kid = c.index-kids-at.result in
    let free : not (is_body bound c.loop-at.at) && is_free c.args.name.now c.args.sort (tree kid) ≡ true = sym (c.is_free_there.ensures ∙ ap (λ b. not (is_body bound c.loop-at.at) && b) c.is_free-free.ensures) ∙ c.if-is_free_there.true in
    free_there c.args.name.now c.args.sort tree bound c.kids-kids.result.now c.loop-at.at (tree c.args.id) c.head-head.result.now kid c.head-head.ensures (sym c.is_this.ensures ∙ c.if-is_this.false) c.binds-bound.ensures
    c.kids-kids.ensures.stand c.loop-at-test.true c.index-kids-at.is free c.loop-at.invariant

pub returns : goal.returns
returns g t c =
    let tree = g.S.TermStore.tree c.args.store.now in
    free_nowhere c.args.name.now c.args.sort tree c.binds-bound.result c.kids-kids.result.now c.loop-at.at (tree c.args.id) c.head-head.result.now c.head-head.ensures (sym c.is_this.ensures ∙ c.if-is_this.false) c.binds-bound.ensures
    c.kids-kids.ensures.stand c.loop-at-test.false c.loop-at.invariant
