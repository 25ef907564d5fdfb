use Rattle.std.proofs.Common.{◌-◌, List, true, length, drop, refl, sym, ap, ◌∙◌, arith}
use Rattle.std.proofs.lemmas.Option.{slice_get_read}
use Rattle.c_syntax.specs.declared.token.Token.{Token}
use Rattle.c_syntax.specs.View.{view_pred}
use Rattle.c_grammar.specs.Annots.{SpellsAssert}
use Rattle.c_grammar.specs.declared.limits.TheConstants.{DEEPEST}
use Rattle.acsl_parser.specs.Spelled.{SpellsAssertAlone, SpellsAssertOn}
use Rattle.acsl_parser.specs.Places.{placed, without_line}
use Rattle.acsl_parser.proofs.Placing.{rest_here, stands, only_there, refuses, spelled_alone, only_alone}
use Rattle.acsl_parser.proofs.places.parse_assert.Goals as goal
use Rattle.acsl_parser.specs.Views.{view_assert}
use Rattle.acsl_parser.specs.Read.{assert_at}
use Rattle.acsl_parser.proofs.Laws.{assert_sound}
use Rattle.acsl_parser.proofs.Closed.{assert_only}
use Rattle.acsl_parser.proofs.Promises.{spelled_here, only_here}

pub returns-clause-spelled : goal.returns-clause-spelled
returns-clause-spelled c =
    let tokens = c.args.tokens.now in
    let rest = rest_here c.args.at tokens (omega (arith, c.requires.place)) in
    let reads = rw (c.as_slice-all.ensures, rest) at c.assert_at-found.ensures in
    let spelled = spelled_here (SpellsAssertOn c.args.types.now (DEEPEST - c.args.depth)) view_assert (assert_at c.args.types.now (DEEPEST - c.args.depth)) (drop c.args.at tokens) (λ y rest h. assert_sound c.args.types.now (DEEPEST - c.args.depth) (drop c.args.at tokens) y rest h) c.assert_at-found.result reads in
    let alone = spelled_alone (SpellsAssert c.args.types.now (DEEPEST - c.args.depth)) view_pred (drop c.args.at tokens) c.assert_at-found.result spelled in
    rw (c.placed.ensures, c.as_slice-all.ensures, c.without_line.ensures)
    (stands (SpellsAssertAlone c.args.types.now (DEEPEST - c.args.depth)) view_pred true tokens c.args.at _ (without_line c.assert_at-found.result) (omega (arith, c.requires.place)) alone)

pub returns-clause-only : goal.returns-clause-only
returns-clause-only c part next s =
    let tokens = c.args.tokens.now in
    let rest = rest_here c.args.at tokens (omega (arith, c.requires.place)) in
    let reads = rw (c.as_slice-all.ensures, rest) at c.assert_at-found.ensures in
    let only = only_here (SpellsAssertOn c.args.types.now (DEEPEST - c.args.depth)) (λ (ts : List Token). Unit {0}) view_assert (assert_at c.args.types.now (DEEPEST - c.args.depth)) (drop c.args.at tokens) (assert_only c.args.types.now (DEEPEST - c.args.depth) (drop c.args.at tokens)) c.assert_at-found.result reads in
    let alone = only_alone (SpellsAssert c.args.types.now (DEEPEST - c.args.depth)) (λ (ts : List Token). Unit {0}) view_pred (drop c.args.at tokens) c.assert_at-found.result only in
    rw (c.placed.ensures, c.as_slice-all.ensures, c.without_line.ensures)
    (only_there (SpellsAssertAlone c.args.types.now (DEEPEST - c.args.depth)) (λ (ts : List Token). Unit {0}) view_pred true tokens c.args.at _ (without_line c.assert_at-found.result) (λ ts closed. tt) alone part next s)

pub returns-clause-refusal : goal.returns-clause-refusal
returns-clause-refusal c x is =
    let tokens = c.args.tokens.now in
    let first = rw c.as_slice-all.ensures at c.index-all-at.is in
    let there = slice_get_read tokens (length tokens) c.args.at c.index-all-at.result refl c.requires.place first in
    refuses true (length c.as_slice-all.result.now) tokens c.args.at c.index-all-at.result c.without_line.result there x (ap (λ t. placed true (length c.as_slice-all.result.now) t.line c.without_line.result) c.index-all-at.is ∙ sym c.placed.ensures ∙ is)
