use Rattle.std.proofs.Common.{◌-◌, true, length, refl, sym, ap, ◌∙◌, arith, drop}
use Rattle.std.proofs.lemmas.Option.{slice_get_read}
use Rattle.c_syntax.specs.View.{view_loop}
use Rattle.c_grammar.specs.Annots.{SpellsLoop}
use Rattle.c_grammar.specs.declared.limits.TheConstants.{DEEPEST}
use Rattle.acsl_parser.specs.Spelled.{IsClosed}
use Rattle.acsl_parser.specs.Places.{placed}
use Rattle.acsl_parser.proofs.Placing.{rest_here, place_here, stands, only_there, refuses, rest_shorter}
use Rattle.acsl_parser.proofs.places.parse_loop.Goals as goal
use Rattle.acsl_parser.specs.Read.{loop_at}
use Rattle.acsl_parser.proofs.Laws.{loop_sound}
use Rattle.acsl_parser.proofs.Closed.{loop_only}
use Rattle.acsl_parser.proofs.Promises.{spelled_here, only_here}

pub returns-clause-spelled : goal.returns-clause-spelled
returns-clause-spelled c =
    let tokens = c.args.tokens.now in
    let rest = rest_here c.args.at tokens (omega (arith, c.requires.place)) in
    let here = place_here c.args.at tokens (omega (arith, c.requires.place)) in
    let reads = rw (c.as_slice-all.ensures, rest) at c.loop_at-found.ensures in
    let spelled = rw here at (spelled_here (SpellsLoop c.args.types.now (DEEPEST - c.args.depth) (length tokens - length (drop c.args.at tokens))) view_loop (loop_at c.args.types.now (DEEPEST - c.args.depth) (length tokens)) (drop c.args.at tokens) (λ y rest h. loop_sound c.args.types.now (DEEPEST - c.args.depth) (length tokens) (drop c.args.at tokens) y rest (rest_shorter c.args.at tokens) h) c.loop_at-found.result reads) in
    rw (c.placed.ensures, c.as_slice-all.ensures)
    (stands (SpellsLoop c.args.types.now (DEEPEST - c.args.depth) c.args.at) view_loop true tokens c.args.at _ c.loop_at-found.result (omega (arith, c.requires.place)) spelled)

pub returns-clause-only : goal.returns-clause-only
returns-clause-only c part next s =
    let tokens = c.args.tokens.now in
    let rest = rest_here c.args.at tokens (omega (arith, c.requires.place)) in
    let here = place_here c.args.at tokens (omega (arith, c.requires.place)) in
    let reads = rw (c.as_slice-all.ensures, rest) at c.loop_at-found.ensures in
    let only = rw here at (only_here (SpellsLoop c.args.types.now (DEEPEST - c.args.depth) (length tokens - length (drop c.args.at tokens))) IsClosed view_loop (loop_at c.args.types.now (DEEPEST - c.args.depth) (length tokens)) (drop c.args.at tokens) (loop_only c.args.types.now (DEEPEST - c.args.depth) (length tokens) (drop c.args.at tokens) (rest_shorter c.args.at tokens)) c.loop_at-found.result reads) in
    rw (c.placed.ensures, c.as_slice-all.ensures)
    (only_there (SpellsLoop c.args.types.now (DEEPEST - c.args.depth) c.args.at) IsClosed view_loop true tokens c.args.at _ c.loop_at-found.result (λ ts closed. closed) only part next s)

pub returns-clause-refusal : goal.returns-clause-refusal
returns-clause-refusal c x is =
    let tokens = c.args.tokens.now in
    let first = rw c.as_slice-all.ensures at c.index-all-at.is in
    let there = slice_get_read tokens (length tokens) c.args.at c.index-all-at.result refl c.requires.place first in
    refuses true (length c.as_slice-all.result.now) tokens c.args.at c.index-all-at.result c.loop_at-found.result there x (ap (λ t. placed true (length c.as_slice-all.result.now) t.line c.loop_at-found.result) c.index-all-at.is ∙ sym c.placed.ensures ∙ is)
