use Rattle.std.proofs.Common.{rules, ◌≡◌, ◌++◌, suc, map, ap, sym, refl, ◌∙◌}
use Rattle.walk_steps.specs.Walk.{list_of}
use Rattle.memory_worlds.specs.View.{exits_at, view_base, view_end, view_world}
use Rattle.memory_walks.specs.View.{view_state}
use Rattle.memory_walks.proofs.Meeting.{block_stops}
use Rattle.memory_walks.proofs.blocks.end_block.Goals as goal

pub returns-in-None : goal.returns-in-None
returns-in-None c =
    let state = c.args.state.now in
    let bs = map view_base c.args.bases.now in
    let outer : c.replace-inner.new.dest.items ≡ c.args.outer.items = search (rules, c.replace-inner.ensures.after) in
    let inner : c.replace-inner.result.items ≡ state.left.items = search (rules, c.replace-inner.ensures.value) in
    let q = view_state state in
    let r = view_state record { olds = state.olds; names = c.gather.new.names; world = c.all_ends.new.world; left = c.sort_exits.new.left } in
    block_stops bs (exits_at c.args.outer.items) c.args.goes q r (map view_world c.in_ok-here-2.here.items)
    (λ e h. c.in_ok-here-2.ensures.ends e h ∙ ap (λ ws. ws ++ list_of e) (c.in_ok-here.ensures.here ∙ ap (λ es. exits_at es 0) inner))
    c.in_ok-gather.ensures.used refl
    (λ k. c.in_ok-here.ensures.left k ∙ (λ i. exits_at (outer i) k ++ exits_at (inner i) (suc k)))
    (ap view_end (sym c.in-None.is) ∙ c.in_ok-gather.ensures.end)
    (λ e. ap view_world (c.in_ok-here-2.ensures.kept e))
