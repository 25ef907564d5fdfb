use Rattle.std.proofs.Common.{sym, subst}
use Rattle.tree_places.specs.View.{nodes_of}
use Rattle.branch_rows.proofs.Standing.{literals_same, literals_below}
use Rattle.congruence.specs.Closed.{IsClosed}
use Rattle.test_prover.proofs.closing.closing_of.Goals as goal

pub has_clash-requires-clause-below : goal.has_clash-requires-clause-below
has_clash-requires-clause-below c = literals_below (nodes_of c.args.table.now) (nodes_of c.term_classes.new.table) c.args.literals.now c.in_ok-closed.ensures.grows c.requires.below

pub has_clash-requires-clause-closed : goal.has_clash-requires-clause-closed
has_clash-requires-clause-closed c =
    let old = nodes_of c.args.table.now in
    let ns = nodes_of c.term_classes.new.table in
    let same = literals_same old ns c.args.literals.now c.requires.kept.table.all c.in_ok-closed.ensures.grows c.requires.below in
    subst (λ ls. IsClosed ls ns c.in_ok-closed.closed.marks.items c.in_ok-closed.closed.classes.items) (sym same) c.in_ok-closed.ensures.closed

pub negative_chain-requires-clause-below : goal.negative_chain-requires-clause-below
negative_chain-requires-clause-below c = literals_below (nodes_of c.args.table.now) (nodes_of c.term_classes.new.table) c.args.literals.now c.in_ok-closed.ensures.grows c.requires.below

pub negative_chain-requires-clause-closed : goal.negative_chain-requires-clause-closed
negative_chain-requires-clause-closed c =
    let old = nodes_of c.args.table.now in
    let ns = nodes_of c.term_classes.new.table in
    let same = literals_same old ns c.args.literals.now c.requires.kept.table.all c.in_ok-closed.ensures.grows c.requires.below in
    subst (λ ls. IsClosed ls ns c.in_ok-closed.closed.marks.items c.in_ok-closed.closed.classes.items) (sym same) c.in_ok-closed.ensures.closed
