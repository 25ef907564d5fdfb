use Rattle.std.proofs.Common.{arith}
use Rattle.stored_normals.proofs.Fits.{not_placed}
use Rattle.stored_normals.proofs.places.are_placed.Goals as goal

pub returns-then-places-kids : goal.returns-then-places-kids
returns-then-places-kids g c = not_placed (g.S.TermStore.tree c.args.store.now) c.args.places.now c.args.kids.now (λ e. omega (arith, e, c.if-places-kids.true))
