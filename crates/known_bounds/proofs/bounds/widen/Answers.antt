use Rattle.std.proofs.Common.{ℤ, sym, subst, ⊎_elim, inl, inr}
use Rattle.known_bounds.specs.Bounds.{AreKept}
use Rattle.known_bounds.proofs.Kept.{extends_both}
use Rattle.known_bounds.proofs.bounds.widen.Goals as goal

pub loop-at-preserved : goal.loop-at-preserved
loop-at-preserved c = (
  λ env kept one.
      let now = c.loop-at.invariant.0 env kept one in
      let all = subst (AreKept env) (sym c.as_slice.ensures.value) now in
      let z : ℤ = env.ints c.index-first-at.result.name in
      c.in_ok-narrow.ensures.kept env now
      (c.either.ensures z
      (⊎_elim (λ f. inl (c.both-here.ensures z (c.range_of_name-around.ensures env all) (c.range_of_name.ensures env f))) (λ s. inr (c.both-there.ensures z (c.range_of_name-around.ensures env all) (c.range_of_name-in-loop-at.ensures env s))) one)),
  extends_both c.args.bounds.now.items c.loop-at.bounds.items c.narrow.new.bounds.items c.loop-at.invariant.1 c.in_ok-narrow.ensures.front,
)
