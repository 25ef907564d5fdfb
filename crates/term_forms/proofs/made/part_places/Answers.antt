use Rattle.std.proofs.Common.{◌<◌, All, map, subst, sym, ap, ◌∙◌, arith}
use Rattle.std.specs.Prelude.{pos}
use Rattle.tree_places.specs.View.{nodes_of}
use Rattle.tree_places.proofs.Nodes.{grows_on, grows_long}
use Rattle.term_forms.specs.Forms.{tree_of, count_of}
use Rattle.term_forms.proofs.Sums.{below_more, places_more}
use Rattle.term_forms.proofs.made.part_places.Goals as goal

pub part_place-requires-clause-part : goal.part_place-requires-clause-part
part_place-requires-clause-part c =
    let w = c.requires.parts c.loop-part.part-index (0, pos 0) c.loop-part-test.true in
    let l = grows_long (nodes_of c.args.table.now) (nodes_of c.loop-part.table) c.loop-part.invariant.grows in
    omega arith

pub loop-part-preserved : goal.loop-part-preserved
loop-part-preserved c =
    let first = nodes_of c.args.table.now in
    let ns = nodes_of c.loop-part.table in
    let ms = nodes_of c.part_place.new.table in
    let done = c.loop-part.places.items in
    let i = c.in_ok-part_place.field-0 in
    let all = c.loop-part.invariant.kept.table.all in
    let g = c.in_ok-part_place.ensures.grows in
    record {
      kept = c.in_ok-part_place.ensures.kept;
      grows = grows_on first ns ms c.loop-part.invariant.grows g;
      below = subst (λ xs. All (λ k. k < count_of c.part_place.new.table) xs) (sym c.in_ok-push.ensures.items) (below_more ns ms all g done i c.loop-part.invariant.below c.in_ok-part_place.ensures.below);
      trees = ap (map (tree_of c.part_place.new.table)) c.in_ok-push.ensures.items
          ∙ places_more ns ms all g first c.requires.kept.table.all c.loop-part.invariant.grows c.args.parts.now c.loop-part.part-index done i c.loop-part-test.true c.requires.parts c.loop-part.invariant.below c.loop-part.invariant.trees c.in_ok-part_place.ensures.tree;
    }
