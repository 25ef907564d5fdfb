use Rattle.std.proofs.Common.{◌≡◌, length, get_or, refl, sym, ◌∙◌, ap, subst, inl, inr, arith}
use Rattle.same_places.specs.Same.{at}
use Rattle.clashes.specs.Seen.{place_in, AreSeen}
use Rattle.clashes.proofs.Seeing.{seen_none, seen_more}
use Rattle.clashes.proofs.seen.class_places.Goals as goal

pub loop-place-init : goal.loop-place-init
loop-place-init c = record {
  within = omega arith;
  seen = seen_none (at c.args.classes.now) c.args.places.now (place_in c.new-seen.result.entries) (λ k. ap (λ es. place_in es k) c.new-seen.ensures.empty);
}

pub loop-place-preserved : goal.loop-place-preserved
loop-place-preserved c =
    let i = c.loop-place.place-index in
    let k = get_or c.args.places.now i 0 in
    let find = place_in c.note.new.seen.entries in
    record {
      within = let l = c.loop-place-test.true in omega arith;
      seen = seen_more (at c.args.classes.now) c.args.places.now i (place_in c.loop-place.seen.entries) find k refl c.loop-place.invariant.seen (ap find (sym c.class_at.ensures) ∙ c.in_ok-note.ensures.new) (λ d. elim (c.in_ok-note.ensures.others d) [ inl e ↦ inl (e ∙ c.class_at.ensures) | inr e ↦ inr e ]);
    }

pub returns : goal.returns
returns c =
    let a = c.loop-place-test.false in
    let b = c.loop-place.invariant.within in
    let e : c.loop-place.place-index ≡ length c.args.places.now = omega arith in
    subst (λ n. AreSeen (at c.args.classes.now) c.args.places.now n (place_in c.loop-place.seen.entries)) e c.loop-place.invariant.seen
