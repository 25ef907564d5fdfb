use Rattle.std.proofs.Common.{rules, ◌≡◌, ◌+◌, ◌-◌, ◌<◌, length, subst, sym, ◌∙◌, arith}
use Rattle.std.proofs.lemmas.List.{length-map}
use Rattle.tree_places.specs.View.{numbers_of, find_in, node_of, nodes_of}
use Rattle.branch_rows.specs.Marks.{GoneDown}
use Rattle.branch_rows.proofs.Down.{roots_marked, gone_more, are_marks}
use Rattle.branch_rows.proofs.marks.marks_under.Goals as goal

pub loop-done-init : goal.loop-done-init
loop-done-init c =
    let ns = nodes_of c.args.table.now in
    let long = length-map c.args.table.now.nodes.items node_of in
    let at : c.len-count.result ≡ length c.args.table.now.nodes.items = search rules in
    let count : length ns ≡ c.len-count.result = long ∙ sym at in
    let from : length ns ≡ c.len-count.result - 0 = omega (arith, count) in
    let all : length c.in_ok-marks.marks.items ≡ length ns = c.in_ok-marks.ensures.all ∙ sym count in
    subst (λ z. GoneDown ns c.args.roots.now z c.mark_all.new.marks.items) from
    (roots_marked ns (numbers_of c.args.table.now.heads) (find_in c.args.table.now.places.entries) c.requires.kept.table c.args.roots.now c.in_ok-marks.marks.items c.mark_all.new.marks.items c.in_ok-marks.ensures.none all c.mark_all.ensures)

pub loop-done-preserved : goal.loop-done-preserved
loop-done-preserved c =
    let ns = nodes_of c.args.table.now in
    let below : c.loop-done.done < c.len-count.result = search rules in
    let place : c.len-count.result - 1 - c.loop-done.done ≡ c.len-count.result - (c.loop-done.done + 1) = omega (arith, below) in
    let from : c.len-count.result - c.loop-done.done ≡ c.len-count.result - 1 - c.loop-done.done + 1 = omega (arith, below) in
    subst (λ z. GoneDown ns c.args.roots.now z c.mark_kids.new.marks.items) place
    (gone_more ns (numbers_of c.args.table.now.heads) (find_in c.args.table.now.places.entries) c.requires.kept.table c.args.roots.now (c.len-count.result - 1 - c.loop-done.done) c.loop-done.marks.items c.mark_kids.new.marks.items c.mark_kids.ensures
    (subst (λ z. GoneDown ns c.args.roots.now z c.loop-done.marks.items) from c.loop-done.invariant))

pub returns : goal.returns
returns c =
    let ns = nodes_of c.args.table.now in
    let over = c.loop-done-test.false in
    let from : c.len-count.result - c.loop-done.done ≡ 0 = omega (arith, over) in
    are_marks ns (numbers_of c.args.table.now.heads) (find_in c.args.table.now.places.entries) c.requires.kept.table c.args.roots.now c.loop-done.marks.items c.requires.below
    (subst (λ z. GoneDown ns c.args.roots.now z c.loop-done.marks.items) from c.loop-done.invariant)
