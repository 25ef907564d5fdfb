use Rattle.std.proofs.Common.{◌≡◌, ◌+◌, ◌-◌, length, map, None, refl, sym, ap, ◌∙◌, arith}
use Rattle.std.proofs.lemmas.List.{map-append}
use Rattle.c_syntax.specs.View.{view_decl}
use Rattle.parse_file.specs.declared.file.Front.{Front}
use Rattle.parse_file.specs.Read.{decl_at}
use Rattle.parse_file.specs.Views.{view_front, view_found, view_lines}
use Rattle.parse_file.proofs.Reading.{front_ends, front_stops, front_turn}
use Rattle.parse_file.proofs.file.file_front.Goals as goal

pub returns-in-Err-Syntax : goal.returns-in-Err-Syntax
returns-in-Err-Syntax c =
    let end = length c.args.tokens.now in
    let front = c.loop-turn.front in
    let none : decl_at front.names end front.left.now ≡ None = rw c.in-Err-Syntax.field-0-is at c.in-Err-Syntax.ensures in
    sym (front_stops end (end - c.loop-turn.turn) (view_front front) none) ∙ c.loop-turn.invariant

pub loop-turn-preserved : goal.loop-turn-preserved
loop-turn-preserved c =
    let end = length c.args.tokens.now in
    let turn = c.loop-turn.turn in
    let front = c.loop-turn.front in
    let found = c.in-Ok.found in
    let next : Front = record { decls = c.in_ok-append-in-Ok.field-0; names = c.in_ok-declare_all-in-Ok.field-0; lines = c.in_ok-append-in-Ok-2.field-0; left = c.in-Ok.rest } in
    let one_more : end - turn ≡ end - (turn + 1) + 1 = omega (arith, c.loop-turn-test.true) in
    let decls = ap (map view_decl) c.in_ok-append-in-Ok.ensures ∙ map-append view_decl front.decls found.decls in
    let lines = ap (map view_lines) c.in_ok-append-in-Ok-2.ensures ∙ map-append view_lines front.lines found.lines in
    front_turn end (end - turn) (end - (turn + 1)) (view_front front) (view_front next) (view_found found) c.in-Ok.rest.now one_more c.in-Ok.ensures decls c.in_ok-declare_all-in-Ok.ensures lines refl
    ∙ c.loop-turn.invariant

pub returns : goal.returns
returns c =
    let end = length c.args.tokens.now in
    let over : end - c.loop-turn.turn ≡ 0 = omega arith in
    sym (front_ends end (end - c.loop-turn.turn) (view_front c.loop-turn.front) over) ∙ c.loop-turn.invariant
