use Rattle.std.proofs.Common.{◌≡◌, ◌∷◌, ◌++◌, length, map, refl, sym, ap, ◌∙◌, arith}
use Rattle.qed_terms.specs.View.{formula_tree, term_tree}
use Rattle.memory_steps.specs.Forms.{slots_of}
use Rattle.memory_steps.specs.World.{world}
use Rattle.memory_worlds.specs.Scopes.{with_saved}
use Rattle.memory_worlds.specs.View.{exits_at, view_mark}
use Rattle.memory_worlds.proofs.Ending.{saved_next}
use Rattle.memory_worlds.proofs.ends.put_back_all.Goals as goal

pub loop-exit-preserved : goal.loop-exit-preserved
loop-exit-preserved c =
    let e = c.in-Some.exit in
    let rest = c.next.new.self.rest.items in
    let front : c.loop-exit.exit-iterator.rest.items ≡ e ∷ rest = c.in-Some.ensures.steps.0 in
    let counted = c.in-Some.ensures.steps.1 in
    let now = c.loop-exit.left.items in
    let is = c.args.places.now in
    let saved = map term_tree c.args.saved.now in
    record {
      count = omega (arith, counted, ap length front, c.loop-exit.invariant.count);
      so_far = λ k. saved_next is saved e _ rest now c.push.new.self.items k refl
          (ap (λ ts. world (map formula_tree e.world.known.items) (slots_of ts (term_tree e.world.slots.table) (map view_mark e.world.slots.trail.items))) c.in_ok-put_back.ensures) c.in_ok-push.ensures.items
          ∙ ap (λ es. exits_at now k ++ map (with_saved is saved) (exits_at es k)) (sym front) ∙ c.loop-exit.invariant.so_far k;
    }
