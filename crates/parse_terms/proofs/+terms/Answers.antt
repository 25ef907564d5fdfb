use Rattle.std.proofs.Common.{arith, ◌∙◌, ◌-◌, ◌+◌, ◌∷◌, [], length, map, sym, ap}
use Rattle.std.proofs.lemmas.List.{map-append}
use Rattle.std.proofs.lemmas.Result.{err_from_is_err_and}
use Rattle.c_syntax.specs.View.{view_term}
use Rattle.c_grammar.specs.Reading.{levels}
use Rattle.c_grammar.specs.Terms.{inside_of}
use Rattle.c_grammar.specs.ListReaders.{with_items, more_separated}
use Rattle.c_grammar.proofs.Chains.{chain_fault, chain_turn}
use Rattle.c_grammar.proofs.Turns.{items_end, items_stop, items_turn, items_fault}
use Rattle.parse_terms.specs.Read as r
use Rattle.parse_terms.specs.Views.{view_place}
use Rattle.parse_terms.proofs.Reading.{choice_fault, parts_fault, parts_turn}
use Rattle.parse_terms.proofs.+terms.Goals as goal

pub wholes::operators-returns-in_err-right : goal.wholes::operators-returns-in_err-right
wholes::operators-returns-in_err-right t c =
    let p = err_from_is_err_and c.from_residual.result c.from_residual.ensures.1 in
    let left = length c.args.tokens.now - c.loop-turn.turn in
    let operand = levels r.joined r.operator (c.args.level - 1) (r.read c.args.types.now c.args.room r.operands (view_place c.args.place)) in
    rw (p.1, p.2, ← c.loop-turn.invariant)
    (chain_fault view_term r.joined (r.operator c.args.level) left (left - 1) operand (view_term c.loop-turn.left) c.loop-turn.rest.now
    c.in-Some.op c.in-Some.line c.in-Some.after.now _ (omega arith) c.in-Some.ensures c.in_err-right.ensures)

pub wholes::operators-loop-turn-preserved : goal.wholes::operators-loop-turn-preserved
wholes::operators-loop-turn-preserved t c =
    let left = length c.args.tokens.now - c.loop-turn.turn in
    let later = length c.args.tokens.now - (c.loop-turn.turn + 1) in
    let operand = levels r.joined r.operator (c.args.level - 1) (r.read c.args.types.now c.args.room r.operands (view_place c.args.place)) in
    chain_turn r.joined (r.operator c.args.level) left later operand (view_term c.loop-turn.left) (view_term c.in_ok-right.right) (view_term c.in_ok-left.left) c.loop-turn.rest.now
    c.in-Some.op c.in-Some.line c.in-Some.after.now c.in_ok-right.after.now (omega arith) c.in-Some.ensures c.in_ok-right.ensures c.in_ok-left.ensures
    ∙ c.loop-turn.invariant

pub operands::parts-returns-in_err-next : goal.operands::parts-returns-in_err-next
operands::parts-returns-in_err-next t c =
    let p = err_from_is_err_and c.from_residual.result c.from_residual.ensures.1 in
    let left = length c.args.tokens.now - c.loop-turn.turn in
    let inner = r.inner c.args.types.now c.args.room r.wholes (inside_of (view_place c.args.place)) in
    rw (p.1, p.2, ← c.loop-turn.invariant)
    (parts_fault view_term (view_place c.args.place) inner left (left - 1) (view_term c.loop-turn.part) c.loop-turn.rest.now
    c.in-Some.selector c.in-Some.line c.in-Some.after.now _ (omega arith) c.in-Some.ensures c.in_err-next.ensures)

pub operands::parts-loop-turn-preserved : goal.operands::parts-loop-turn-preserved
operands::parts-loop-turn-preserved t c =
    let left = length c.args.tokens.now - c.loop-turn.turn in
    let later = length c.args.tokens.now - (c.loop-turn.turn + 1) in
    let inner = r.inner c.args.types.now c.args.room r.wholes (inside_of (view_place c.args.place)) in
    parts_turn (view_place c.args.place) inner left later (view_term c.loop-turn.part) (view_term c.in_ok-next.next) c.loop-turn.rest.now
    c.in-Some.selector c.in-Some.line c.in-Some.after.now c.in_ok-next.after.now (omega arith) c.in-Some.ensures c.in_ok-next.ensures
    ∙ c.loop-turn.invariant

pub wholes::more_terms-returns-in_default : goal.wholes::more_terms-returns-in_default
wholes::more_terms-returns-in_default t c =
    let one = r.read c.args.types.now c.args.room r.wholes (view_place c.args.place) in
    sym c.loop-turn.invariant ∙ items_stop one (length c.args.tokens.now - c.loop-turn.turn) (map view_term c.loop-turn.terms) c.loop-turn.rest.now c.in_default.ensures

pub wholes::more_terms-returns-in_err-item : goal.wholes::more_terms-returns-in_err-item
wholes::more_terms-returns-in_err-item t c =
    let p = err_from_is_err_and c.from_residual.result c.from_residual.ensures.1 in
    let left = length c.args.tokens.now - c.loop-turn.turn in
    let one = r.read c.args.types.now c.args.room r.wholes (view_place c.args.place) in
    rw (p.1, p.2, ← c.loop-turn.invariant)
    (items_fault view_term (map view_term) one left (left - 1) (map view_term c.loop-turn.terms) c.loop-turn.rest.now _ c.in-Some.after.now _ (omega arith) c.in-Some.ensures c.in_err-item.ensures)

pub wholes::more_terms-loop-turn-preserved : goal.wholes::more_terms-loop-turn-preserved
wholes::more_terms-loop-turn-preserved t c =
    let left = length c.args.tokens.now - c.loop-turn.turn in
    let later = length c.args.tokens.now - (c.loop-turn.turn + 1) in
    let one = r.read c.args.types.now c.args.room r.wholes (view_place c.args.place) in
    let item = c.in_ok-item.item in
    let pushed = ap (map view_term) c.in_ok-push.ensures.ok ∙ map-append view_term c.loop-turn.terms (item ∷ []) in
    ap (λ as'. with_items as' (more_separated one later c.in_ok-item.after.now)) pushed
    ∙ items_turn one left later (map view_term c.loop-turn.terms) (view_term item) c.loop-turn.rest.now _ c.in-Some.after.now c.in_ok-item.after.now (omega arith) c.in-Some.ensures c.in_ok-item.ensures
    ∙ c.loop-turn.invariant

pub wholes::more_terms-returns : goal.wholes::more_terms-returns
wholes::more_terms-returns t c =
    let one = r.read c.args.types.now c.args.room r.wholes (view_place c.args.place) in
    sym c.loop-turn.invariant ∙ items_end one (length c.args.tokens.now - c.loop-turn.turn) (map view_term c.loop-turn.terms) c.loop-turn.rest.now (omega arith)

pub wholes::choice-returns-in_err-second : goal.wholes::choice-returns-in_err-second
wholes::choice-returns-in_err-second t c =
    let p = err_from_is_err_and c.from_residual-in_err-second.result c.from_residual-in_err-second.ensures.1 in
    let inner = r.inner c.args.types.now c.args.room r.wholes (view_place c.args.place) in
    rw (p.1, p.2)
    (choice_fault view_term inner (view_term c.args.test) c.args.line _ (view_term c.in_ok-first.first) c.args.tokens.now c.in_ok-first.rest.now _ _
    c.in_ok-first.ensures c.in_ok-rest.ensures c.in_err-second.ensures)
