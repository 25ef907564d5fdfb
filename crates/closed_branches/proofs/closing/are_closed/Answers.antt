use Rattle.std.proofs.Common.{map, sym, subst}
use Rattle.tree_places.specs.View.{nodes_of}
use Rattle.term_forms.specs.Forms.{tree_of}
use Rattle.branch_rows.proofs.Standing.{literals_same, literals_below}
use Rattle.congruence.specs.Closed.{IsClosed}
use Rattle.closed_branches.proofs.Reasons.{closed_by_clash, closed_by_test}
use Rattle.closed_branches.proofs.closing.are_closed.Goals as goal

pub has_clash-requires-clause-below : goal.has_clash-requires-clause-below
has_clash-requires-clause-below g c = literals_below (nodes_of c.args.table.now) (nodes_of c.term_classes.new.table) c.args.literals.now c.in_ok-closed.ensures.grows c.requires.below

pub has_clash-requires-clause-closed : goal.has_clash-requires-clause-closed
has_clash-requires-clause-closed g c =
    let old = nodes_of c.args.table.now in
    let ns = nodes_of c.term_classes.new.table in
    let same = literals_same old ns c.args.literals.now c.requires.kept.table.all c.in_ok-closed.ensures.grows c.requires.below in
    subst (λ ls. IsClosed ls ns c.in_ok-closed.closed.marks.items c.in_ok-closed.closed.classes.items) (sym same) c.in_ok-closed.ensures.closed

pub refutes-requires-clause-below : goal.refutes-requires-clause-below
refutes-requires-clause-below g c = literals_below (nodes_of c.args.table.now) (nodes_of c.term_classes.new.table) c.args.literals.now c.in_ok-closed.ensures.grows c.requires.below

pub refutes-requires-clause-closed : goal.refutes-requires-clause-closed
refutes-requires-clause-closed g c =
    let old = nodes_of c.args.table.now in
    let ns = nodes_of c.term_classes.new.table in
    let same = literals_same old ns c.args.literals.now c.requires.kept.table.all c.in_ok-closed.ensures.grows c.requires.below in
    subst (λ ls. IsClosed ls ns c.in_ok-closed.closed.marks.items c.in_ok-closed.closed.classes.items) (sym same) c.in_ok-closed.ensures.closed

pub returns-then-clash : goal.returns-then-clash
returns-then-clash g c =
    let ks = c.args.literals.now in
    let old = nodes_of c.args.table.now in
    let ns = nodes_of c.term_classes.new.table in
    let same = literals_same old ns ks c.requires.kept.table.all c.in_ok-closed.ensures.grows c.requires.below in
    closed_by_clash g.T.LiteralTest.refuted (map (tree_of c.term_classes.new.table) ks) (map (tree_of c.args.table.now) ks) c.in_ok-clash.clash same c.in_ok-clash.ensures c.if-clash.true

pub returns : goal.returns
returns g c =
    let ks = c.args.literals.now in
    let old = nodes_of c.args.table.now in
    let ns = nodes_of c.term_classes.new.table in
    let same = literals_same old ns ks c.requires.kept.table.all c.in_ok-closed.ensures.grows c.requires.below in
    closed_by_test g.T.LiteralTest.refuted (map (tree_of c.term_classes.new.table) ks) (map (tree_of c.args.table.now) ks) c.in_ok-clash.clash c.in_ok-answer.answer same c.in_ok-clash.ensures c.if-clash.false c.in_ok-answer.ensures
