use Rattle.std.proofs.Common.{List, false, length, refl, sym, ap, ◌∙◌, arith, drop}
use Rattle.std.proofs.lemmas.Option.{slice_get_read}
use Rattle.c_syntax.specs.declared.token.Token.{Token}
use Rattle.c_syntax.specs.View.{view_logic}
use Rattle.c_grammar.specs.Annots.{SpellsLogic}
use Rattle.acsl_parser.specs.Places.{placed}
use Rattle.acsl_parser.proofs.Placing.{rest_here, stands, only_there, refuses}
use Rattle.acsl_parser.proofs.places.parse_global.Goals as goal
use Rattle.acsl_parser.specs.Read.{logic_at}
use Rattle.acsl_parser.proofs.Laws.{logic_sound}
use Rattle.acsl_parser.proofs.Closed.{logic_only}
use Rattle.acsl_parser.proofs.Promises.{spelled_here, only_here}

pub returns-clause-spelled : goal.returns-clause-spelled
returns-clause-spelled c =
    let tokens = c.args.tokens.now in
    let rest = rest_here c.args.at tokens (omega (arith, c.requires)) in
    let reads = rw (c.as_slice-all.ensures, rest) at c.logic_at-found.ensures in
    let spelled = spelled_here (SpellsLogic c.args.types.now) view_logic (logic_at c.args.types.now) (drop c.args.at tokens) (λ y rest h. logic_sound c.args.types.now (drop c.args.at tokens) y rest h) c.logic_at-found.result reads in
    rw (c.placed.ensures, c.as_slice-all.ensures)
    (stands (SpellsLogic c.args.types.now) view_logic false tokens c.args.at _ c.logic_at-found.result (omega (arith, c.requires)) spelled)

pub returns-clause-only : goal.returns-clause-only
returns-clause-only c part next s =
    let tokens = c.args.tokens.now in
    let rest = rest_here c.args.at tokens (omega (arith, c.requires)) in
    let reads = rw (c.as_slice-all.ensures, rest) at c.logic_at-found.ensures in
    let only = only_here (SpellsLogic c.args.types.now) (λ (ts : List Token). Unit {0}) view_logic (logic_at c.args.types.now) (drop c.args.at tokens) (logic_only c.args.types.now (drop c.args.at tokens)) c.logic_at-found.result reads in
    rw (c.placed.ensures, c.as_slice-all.ensures)
    (only_there (SpellsLogic c.args.types.now) (λ (ts : List Token). Unit {0}) view_logic false tokens c.args.at _ c.logic_at-found.result (λ ts any. any) only part next s)

pub returns-clause-refusal : goal.returns-clause-refusal
returns-clause-refusal c x is =
    let tokens = c.args.tokens.now in
    let first = rw c.as_slice-all.ensures at c.index-all-at.is in
    let there = slice_get_read tokens (length tokens) c.args.at c.index-all-at.result refl c.requires first in
    refuses false (length c.as_slice-all.result.now) tokens c.args.at c.index-all-at.result c.logic_at-found.result there x (ap (λ t. placed false (length c.as_slice-all.result.now) t.line c.logic_at-found.result) c.index-all-at.is ∙ sym c.placed.ensures ∙ is)
