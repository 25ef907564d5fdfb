use Rattle.std.proofs.Common.{◌++◌, map, ◌∙◌, ap}
use Rattle.qed_terms.specs.View.{view_setting}
use Rattle.qed_terms.proofs.Kept.{kept_over, kept_trees}
use Rattle.instance_rows.specs.Calls.{cases_of_call}
use Rattle.instance_rows.specs.Occurrences.{at_each}
use Rattle.instance_rounds.specs.Formulas.{rows_of}
use Rattle.instance_rounds.proofs.PartLaws.{put_behind, all_made}
use Rattle.instance_rounds.proofs.formulas.in_order.Goals as goal

pub returns-clause-stand : goal.returns-clause-stand
returns-clause-stand g c =
    let held = g.S.TermStore.held in
    let tree = g.S.TermStore.tree in
    let first = c.args.store.now in
    let second = c.with_offsets.new.store in
    let last = c.calls_at_each.new.store in
    let s = view_setting c.args.world.now in
    let ls = map (tree first) c.args.literals.now in
    let ts = map (tree first) c.args.nodes.now in
    let offs = map (tree first) c.args.offsets.now in
    let nodes = kept_trees (held first) (held second) (tree first) (tree second) c.args.nodes.now c.in_ok-out.ensures.older c.requires.nodes in
    let calls = c.in_ok-calls_at_each.ensures.stand ∙ (λ i. c.in_ok-out.ensures.stand i ++ at_each (cases_of_call s.logic) (nodes i)) in
    let older = kept_over (held first) (held second) (held last) (tree first) (tree second) (tree last) c.in_ok-out.ensures.older c.in_ok-calls_at_each.ensures.older in
    all_made s ls ts offs (map (tree first) c.args.foralls.now) (map (tree last) c.extend_from_slice.new.self.items)
    (put_behind (held first) (held last) (tree first) (tree last) c.calls_at_each.new.out.items c.extend_from_slice.new.self.items c.args.foralls.now (rows_of s ls ts offs ++ at_each (cases_of_call s.logic) ts)
    older c.requires.foralls calls c.in_ok-extend_from_slice.ensures.items)
