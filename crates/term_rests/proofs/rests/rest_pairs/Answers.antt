use Rattle.std.proofs.Common.{rules, length, subst, sym, ◌<◌, ◌+◌}
use Rattle.tree_places.specs.View.{nodes_of}
use Rattle.tree_places.proofs.Nodes.{grows_on}
use Rattle.term_forms.specs.Forms.{tree_of, count_of}
use Rattle.term_rests.specs.Rests.{ArePairs}
use Rattle.term_rests.proofs.Pairs.{pairs_more}
use Rattle.term_rests.proofs.rests.rest_pairs.Goals as goal

pub loop-at-preserved : goal.loop-at-preserved
loop-at-preserved c =
    let first = nodes_of c.args.table.now in
    let ns = nodes_of c.loop-at.table in
    let ms = nodes_of c.rest_pair.new.table in
    let below : c.loop-at.at < length c.args.form.now.parts.items = search rules in
    record {
      kept = c.in_ok-pair.ensures.kept;
      grows = grows_on first ns ms c.loop-at.invariant.grows c.in_ok-pair.ensures.grows;
      pairs = subst (λ ps. ArePairs (count_of c.rest_pair.new.table) (tree_of c.args.table.now) (tree_of c.rest_pair.new.table) c.args.form.now (c.loop-at.at + 1) ps) (sym c.in_ok-push_pair.ensures)
          (pairs_more first ns ms c.requires.kept.table.all c.loop-at.invariant.kept.table.all c.loop-at.invariant.grows c.in_ok-pair.ensures.grows c.args.form.now c.requires.below c.loop-at.at c.loop-at.pairs.items below c.loop-at.invariant.pairs c.in_ok-pair.pair c.in_ok-pair.ensures.pair);
    }
