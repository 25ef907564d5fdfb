use Rattle.std.proofs.Common.{◌≡◌, true, false, not, ◌&&◌, ◌||◌, sym, ◌∙◌, ap, arith}
use Rattle.qed_terms.specs.Free.{binds}
use Rattle.stored_puts.specs.Kids.{is_place, is_body, clear_at}
use Rattle.stored_puts.proofs.Tests.{not_false, not_true}
use Rattle.stored_puts.proofs.ClearKids.{hidden, clear_later, not_clear, all_clear}
use Rattle.stored_puts.proofs.StoredKids.{kid_less, kid_held}
use Rattle.stored_puts.proofs.clear.+is_clear.Goals as goal

pub returns-then-is_hidden : goal.returns-then-is_hidden
returns-then-is_hidden g t c =
    let tree = g.S.TermStore.tree c.args.store.now in
    let given = c.args.given.now in
    let here = sym (c.is_hidden.ensures ∙ ap (λ n. is_place given.sort n c.head-head.result.now && c.args.under) c.bytes-name.ensures) ∙ c.if-is_hidden.true in
    hidden c.args.under given.name (tree given.term) given.sort (tree c.args.id) c.head-head.result.now (g.met.S.TermStore.well_formed c.args.store.now c.args.id c.requires.held) c.head-head.ensures here

pub is_clear-clear-requires : goal.is_clear-clear-requires
is_clear-clear-requires g t c κs within =
    let tree = g.S.TermStore.tree c.args.store.now in
    let held = g.S.TermStore.held c.args.store.now in
    let ids = c.kids-kids.result.now in
    let less = kid_less tree ids c.loop-at.at c.index-kids-at.result (tree c.args.id) c.loop-at-test.true c.index-kids-at.is c.kids-kids.ensures.stand in
    let d = c.decreases in
    let kid = kid_held held ids c.loop-at.at c.index-kids-at.result c.kids-kids.ensures.held c.loop-at-test.true c.index-kids-at.is in
    (omega (arith, less, d), (within.0, (within.1, (c.requires.term, kid))))

pub loop-at-preserved : goal.loop-at-preserved
loop-at-preserved g t c =
    let tree = g.S.TermStore.tree c.args.store.now in
    let given = c.args.given.now in
    let bound = c.binds-bound.result in
    let kid = c.index-kids-at.result in
    let clear = c.is_clear-clear.ensures ∙ ap (λ b. clear_at given.sort b given.name (tree given.term) (tree kid)) c.is_under.ensures in
    let told : not (is_body bound c.loop-at.at || clear_at given.sort (is_body c.covers-covered.result c.loop-at.at || c.args.under) given.name (tree given.term) (tree kid)) ≡ false =
    sym (c.is_unclear_there.ensures ∙ ap (λ b. not (is_body bound c.loop-at.at || b)) clear) ∙ c.if-is_unclear_there.false in
    clear_later c.args.under given.name (tree given.term) tree given.sort bound c.covers-covered.result c.kids-kids.result.now c.loop-at.at _ kid c.loop-at-test.true c.index-kids-at.is
    (not_false (is_body bound c.loop-at.at || clear_at given.sort (is_body c.covers-covered.result c.loop-at.at || c.args.under) given.name (tree given.term) (tree kid)) told) c.loop-at.invariant

pub returns-then-is_unclear_there : goal.returns-then-is_unclear_there
returns-then-is_unclear_there g t c =
    let tree = g.S.TermStore.tree c.args.store.now in
    let given = c.args.given.now in
    let bound = c.binds-bound.result in
    let head = c.head-head.result.now in
    let kid = c.index-kids-at.result in
    let clear = c.is_clear-clear.ensures ∙ ap (λ b. clear_at given.sort b given.name (tree given.term) (tree kid)) c.is_under.ensures in
    let told : not (is_body bound c.loop-at.at || clear_at given.sort (is_body c.covers-covered.result c.loop-at.at || c.args.under) given.name (tree given.term) (tree kid)) ≡ true =
    sym (c.is_unclear_there.ensures ∙ ap (λ b. not (is_body bound c.loop-at.at || b)) clear) ∙ c.if-is_unclear_there.true in
    let seen = sym (c.is_hidden.ensures ∙ ap (λ n. is_place given.sort n head && c.args.under) c.bytes-name.ensures) ∙ c.if-is_hidden.false in
    not_clear c.args.under given.name (tree given.term) tree given.sort bound c.covers-covered.result c.kids-kids.result.now c.loop-at.at (tree c.args.id) head kid
    (g.met.S.TermStore.well_formed c.args.store.now c.args.id c.requires.held) c.head-head.ensures seen (c.binds-bound.ensures ∙ ap (λ n. binds n given.sort head) c.bytes-name.ensures) c.covers-covered.ensures
    c.kids-kids.ensures.stand c.loop-at-test.true c.index-kids-at.is
    (not_true (is_body bound c.loop-at.at || clear_at given.sort (is_body c.covers-covered.result c.loop-at.at || c.args.under) given.name (tree given.term) (tree kid)) told) c.loop-at.invariant

pub returns : goal.returns
returns g t c =
    let tree = g.S.TermStore.tree c.args.store.now in
    let given = c.args.given.now in
    let head = c.head-head.result.now in
    let seen = sym (c.is_hidden.ensures ∙ ap (λ n. is_place given.sort n head && c.args.under) c.bytes-name.ensures) ∙ c.if-is_hidden.false in
    all_clear c.args.under given.name (tree given.term) tree given.sort c.binds-bound.result c.covers-covered.result c.kids-kids.result.now c.loop-at.at (tree c.args.id) head
    (g.met.S.TermStore.well_formed c.args.store.now c.args.id c.requires.held) c.head-head.ensures seen (c.binds-bound.ensures ∙ ap (λ n. binds n given.sort head) c.bytes-name.ensures) c.covers-covered.ensures
    c.kids-kids.ensures.stand c.loop-at-test.false c.loop-at.invariant
