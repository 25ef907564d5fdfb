use Rattle.std.proofs.Common.{sym, ap, ◌∙◌, subst}
use Rattle.known_bounds.specs.declared.bounds.Bound.{Bound}
use Rattle.known_bounds.specs.Bounds.{AreKept}
use Rattle.known_bounds.proofs.Kept.{named, kept_more}
use Rattle.known_bounds.proofs.bounds.bounds_from.Goals as goal

pub loop-at-preserved : goal.loop-at-preserved
loop-at-preserved c env kept =
    subst (AreKept env) (sym c.in_ok-push.ensures.items)
    (kept_more env c.loop-at.found.items _ (c.loop-at.invariant env kept) (named env c.args.bounds.now c.loop-at.at c.index-bounds-at.result c.in_ok-name.name c.loop-at-test.true c.index-bounds-at.is (sym c.in_ok-name.ensures) kept))
