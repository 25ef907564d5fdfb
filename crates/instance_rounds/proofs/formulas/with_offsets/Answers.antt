use Rattle.std.proofs.Common.{◌++◌, map, ◌∙◌, ap}
use Rattle.qed_terms.specs.View.{view_setting}
use Rattle.instance_rounds.specs.Steps.{rows_in_order}
use Rattle.instance_rounds.proofs.PartLaws.{regular_width, put_behind, rows_made}
use Rattle.instance_rounds.proofs.formulas.with_offsets.Goals as goal

pub put_rows-requires-clause-width : goal.put_rows-requires-clause-width
put_rows-requires-clause-width g c = regular_width (view_setting c.args.world.now) c.requires.regular

pub returns-clause-stand : goal.returns-clause-stand
returns-clause-stand g c =
    let held = g.S.TermStore.held in
    let tree = g.S.TermStore.tree in
    let first = c.args.store.now in
    let last = c.put_rows.new.store in
    let s = view_setting c.args.world.now in
    let ls = map (tree first) c.args.literals.now in
    let ts = map (tree first) c.args.nodes.now in
    let before = ap (map (tree first)) c.new-out.ensures.items in
    let rows = c.in_ok-put_rows.ensures.stand ∙ ap (λ fs. fs ++ rows_in_order s.long_bits ls ts) before in
    rows_made s ls ts (map (tree first) c.args.offsets.now) (map (tree last) c.extend_from_slice.new.self.items)
    (put_behind (held first) (held last) (tree first) (tree last) c.put_rows.new.out.items c.extend_from_slice.new.self.items c.args.offsets.now (rows_in_order s.long_bits ls ts)
    c.in_ok-put_rows.ensures.older c.requires.offsets rows c.in_ok-extend_from_slice.ensures.items)
