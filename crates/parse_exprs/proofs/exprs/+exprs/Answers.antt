use Rattle.std.proofs.Common.{arith, ◌∙◌, ◌-◌, ◌+◌, length, map, List, Some, sym, ap}
use Rattle.std.proofs.lemmas.Result.{err_from_is_err_and}
use Rattle.c_syntax.specs.Expr as e
use Rattle.c_syntax.specs.View.{view_expr}
use Rattle.parse_exprs.specs.declared.trees.Place.{Place}
use Rattle.parse_exprs.specs.Read.{inside, binary, unary_at, expr_at, finish, some_args, assigns, binary_make}
use Rattle.parse_exprs.specs.Views.{with_args, with_places}
use Rattle.parse_exprs.proofs.Reading.{view_last, args_fault, args_last, args_turn, suffixes_fault, suffixes_turn, expr_is, assigns_begin, assigns_fault, assigns_last, assigns_last_fault, assigns_turn}
use Rattle.parse_exprs.proofs.exprs.+exprs.Goals as goal
use Rattle.parse_exprs.specs.Operators.{operator}
use Rattle.c_grammar.proofs.Chains.{chain_fault, chain_turn}

-- ---- arguments

pub some_args-returns-in_err-found : goal.some_args-returns-in_err-found
some_args-returns-in_err-found t c =
    let p = err_from_is_err_and c.from_residual.result c.from_residual.ensures.1 in
    let left = length c.args.tokens.now - c.loop-turn.turn in
    rw (p.1, p.2, ← c.loop-turn.invariant)
    (args_fault (expr_at c.args.types.now c.args.room) left (left - 1) (map view_expr c.loop-turn.args) c.loop-turn.rest.now _ (omega arith) c.in_err-found.ensures)

pub some_args-returns-then-not-another : goal.some_args-returns-then-not-another
some_args-returns-then-not-another t c =
    let left = length c.args.tokens.now - c.loop-turn.turn in
    sym c.loop-turn.invariant
    ∙ args_last (expr_at c.args.types.now c.args.room) left (left - 1) (map view_expr c.loop-turn.args) (view_expr c.in_ok-found.found) c.in_ok-found.another
    c.loop-turn.rest.now c.in_ok-found.after.now (omega arith) c.in_ok-found.ensures c.if-not-another.true
    ∙ ap (λ (es : List e.Expr). Some (es, c.in_ok-found.after.now)) (sym (ap (map view_expr) c.in_ok-push.ensures.ok ∙ view_last c.loop-turn.args c.in_ok-found.found))

pub some_args-loop-turn-preserved : goal.some_args-loop-turn-preserved
some_args-loop-turn-preserved t c =
    let one = expr_at c.args.types.now c.args.room in
    let left = length c.args.tokens.now - c.loop-turn.turn in
    let later = length c.args.tokens.now - (c.loop-turn.turn + 1) in
    ap (λ es. with_args es (some_args one later c.in_ok-found.after.now)) (ap (map view_expr) c.in_ok-push.ensures.ok ∙ view_last c.loop-turn.args c.in_ok-found.found)
    ∙ args_turn one left later (map view_expr c.loop-turn.args) (view_expr c.in_ok-found.found) c.in_ok-found.another
    c.loop-turn.rest.now c.in_ok-found.after.now (omega arith) c.in_ok-found.ensures c.if-not-another.false
    ∙ c.loop-turn.invariant

-- ---- operators behind an operand

pub suffixes-returns-in_err-longer : goal.suffixes-returns-in_err-longer
suffixes-returns-in_err-longer t c =
    let p = err_from_is_err_and c.from_residual.result c.from_residual.ensures.1 in
    let left = length c.args.tokens.now - c.loop-turn.turn in
    rw (p.1, p.2, ← c.loop-turn.invariant)
    (suffixes_fault (inside c.args.types.now c.args.room) left (left - 1) (view_expr c.loop-turn.operand) c.loop-turn.rest.now
    c.in-Some.how c.in-Some.line c.in-Some.after.now _ (omega arith) c.in-Some.ensures c.in_err-longer.ensures)

pub suffixes-loop-turn-preserved : goal.suffixes-loop-turn-preserved
suffixes-loop-turn-preserved t c =
    let left = length c.args.tokens.now - c.loop-turn.turn in
    let later = length c.args.tokens.now - (c.loop-turn.turn + 1) in
    suffixes_turn (inside c.args.types.now c.args.room) left later (view_expr c.loop-turn.operand) (view_expr c.in_ok-longer.longer) c.loop-turn.rest.now
    c.in-Some.how c.in-Some.line c.in-Some.after.now c.in_ok-longer.after.now (omega arith) c.in-Some.ensures c.in_ok-longer.ensures
    ∙ c.loop-turn.invariant

-- ---- operators of two operands

pub chain-returns-in_err-right : goal.chain-returns-in_err-right
chain-returns-in_err-right t c =
    let p = err_from_is_err_and c.from_residual.result c.from_residual.ensures.1 in
    let left = length c.args.tokens.now - c.loop-turn.turn in
    rw (p.1, p.2, ← c.loop-turn.invariant)
    (chain_fault view_expr binary_make (operator c.args.level) left (left - 1) (binary (c.args.level - 1) (unary_at c.args.types.now c.args.room)) (view_expr c.loop-turn.left) c.loop-turn.rest.now
    c.in-Some.op c.in-Some.line c.in-Some.after.now _ (omega arith) c.in-Some.ensures c.in_err-right.ensures)

pub chain-loop-turn-preserved : goal.chain-loop-turn-preserved
chain-loop-turn-preserved t c =
    let left = length c.args.tokens.now - c.loop-turn.turn in
    let later = length c.args.tokens.now - (c.loop-turn.turn + 1) in
    chain_turn binary_make (operator c.args.level) left later (binary (c.args.level - 1) (unary_at c.args.types.now c.args.room)) (view_expr c.loop-turn.left) (view_expr c.in_ok-right.right) (view_expr c.in_ok-left.left) c.loop-turn.rest.now
    c.in-Some.op c.in-Some.line c.in-Some.after.now c.in_ok-right.after.now (omega arith) c.in-Some.ensures c.in_ok-right.ensures c.in_ok-left.ensures
    ∙ c.loop-turn.invariant

-- ---- assignments

pub expr-loop-turn-init : goal.expr-loop-turn-init
expr-loop-turn-init t c =
    assigns_begin (unary_at c.args.types.now c.args.room) (finish c.args.types.now c.args.room) (length c.args.tokens.now - 0) (length c.args.tokens.now) c.new-places.result.items c.args.tokens.now c.new-places.ensures.items (omega arith)

pub expr-returns-in_err-first : goal.expr-returns-in_err-first
expr-returns-in_err-first t c =
    let p = err_from_is_err_and c.from_residual.result c.from_residual.ensures.1 in
    let left = length c.args.tokens.now - c.loop-turn.turn in
    rw (p.1, p.2, expr_is c.args.types.now c.args.room c.args.tokens.now, ← c.loop-turn.invariant)
    (assigns_fault (unary_at c.args.types.now c.args.room) (finish c.args.types.now c.args.room) left (left - 1) c.loop-turn.places.items c.loop-turn.rest.now _ (omega arith) c.in_err-first.ensures)

pub expr-returns-in_err-value : goal.expr-returns-in_err-value
expr-returns-in_err-value t c =
    let p = err_from_is_err_and c.from_residual-in_err-value.result c.from_residual-in_err-value.ensures.1 in
    let left = length c.args.tokens.now - c.loop-turn.turn in
    rw (p.1, p.2, expr_is c.args.types.now c.args.room c.args.tokens.now, ← c.loop-turn.invariant)
    (assigns_last_fault (unary_at c.args.types.now c.args.room) (finish c.args.types.now c.args.room) left (left - 1) c.loop-turn.places.items (view_expr c.in_ok-first.first)
    c.loop-turn.rest.now c.in_ok-first.after.now _ (omega arith) c.in_ok-first.ensures c.in_default.ensures c.in_err-value.ensures)

pub expr-returns-in_default : goal.expr-returns-in_default
expr-returns-in_default t c =
    let left = length c.args.tokens.now - c.loop-turn.turn in
    expr_is c.args.types.now c.args.room c.args.tokens.now
    ∙ sym c.loop-turn.invariant
    ∙ assigns_last (unary_at c.args.types.now c.args.room) (finish c.args.types.now c.args.room) left (left - 1) c.loop-turn.places.items (view_expr c.in_ok-first.first) (view_expr c.in_ok-value.value)
    c.loop-turn.rest.now c.in_ok-first.after.now c.in_ok-value.rest.now (omega arith) c.in_ok-first.ensures c.in_default.ensures c.in_ok-value.ensures
    ∙ ap (λ (x : e.Expr). Some (x, c.in_ok-value.rest.now)) (sym c.in_ok-assigned.ensures)

pub expr-loop-turn-preserved : goal.expr-loop-turn-preserved
expr-loop-turn-preserved t c =
    let one = unary_at c.args.types.now c.args.room in
    let last = finish c.args.types.now c.args.room in
    let left = length c.args.tokens.now - c.loop-turn.turn in
    let later = length c.args.tokens.now - (c.loop-turn.turn + 1) in
    let place : Place = record { to = c.in_ok-first.first; op = c.in-Some.op; line = c.in-Some.line } in
    ap (λ ps. with_places ps (assigns one last later c.in-Some.after.now)) c.in_ok-push.ensures.items
    ∙ assigns_turn one last left later c.loop-turn.places.items place c.loop-turn.rest.now c.in_ok-first.after.now c.in-Some.after.now (omega arith) c.in_ok-first.ensures c.in-Some.ensures
    ∙ c.loop-turn.invariant
