use Rattle.std.proofs.Common.{rules, ◌≤◌, length, map}
use Rattle.qed_terms.specs.View.{term_tree}
use Rattle.walk_steps.specs.Laws.{start_slots}
use Rattle.function_walks.specs.Entry.{view_origins}
use Rattle.function_walks.proofs.Starts.{no_more}
use Rattle.function_walks.proofs.origins.slots_of.Goals as goal

pub returns-then-index-bases : goal.returns-then-index-bases
returns-then-index-bases c =
    let over : length c.args.bases.now ≤ c.loop-index.index = search (rules, c.if-index-bases.true) in
    no_more c.args.bases.now c.args.origins.now c.loop-index.index (map term_tree c.loop-index.made.items) (start_slots c.args.bases.now (view_origins c.args.origins.now)) over c.loop-index.invariant
