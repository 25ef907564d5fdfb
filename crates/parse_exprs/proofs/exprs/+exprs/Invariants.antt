use Rattle.std.proofs.Common.{◌≡◌, ◌+◌, ◌*◌, ◌-◌, map}
use Rattle.c_syntax.specs.View.{view_expr}
use Rattle.parse_exprs.specs.Read.{inside, unary_at, expr_at, finish, some_args, suffixes, assigns, binary, binary_chain}
use Rattle.parse_exprs.specs.Views.{with_args, with_places}
use Rattle.parse_exprs.proofs.exprs.+exprs.Given as goal

abbrev pub decreases-enclosed : goal.decreases-enclosed
decreases-enclosed l = 64 * l.room

abbrev pub decreases-prefixed : goal.decreases-prefixed
decreases-prefixed l = 64 * l.room

abbrev pub decreases-cast : goal.decreases-cast
decreases-cast l = 64 * l.room

abbrev pub decreases-arms : goal.decreases-arms
decreases-arms l = 64 * l.room + 1

abbrev pub decreases-args : goal.decreases-args
decreases-args l = 64 * l.room

abbrev pub decreases-named : goal.decreases-named
decreases-named l = 64 * l.room + 1

abbrev pub decreases-primary : goal.decreases-primary
decreases-primary l = 64 * l.room + 2

abbrev pub decreases-suffix : goal.decreases-suffix
decreases-suffix l = 64 * l.room + 1

abbrev pub decreases-suffixes : goal.decreases-suffixes
decreases-suffixes l = 64 * l.room + 2

abbrev pub decreases-postfix : goal.decreases-postfix
decreases-postfix l = 64 * l.room + 3

abbrev pub decreases-unary : goal.decreases-unary
decreases-unary l = 64 * l.room + 4

abbrev pub decreases-chain : goal.decreases-chain
decreases-chain l = 64 * l.room + 3 * l.level + 5

abbrev pub decreases-operands_from : goal.decreases-operands_from
decreases-operands_from l = 64 * l.room + 3 * l.level + 6

abbrev pub decreases-operands : goal.decreases-operands
decreases-operands l = 64 * l.room + 3 * l.level + 7

abbrev pub decreases-cond_from : goal.decreases-cond_from
decreases-cond_from l = 64 * l.room + 40

abbrev pub decreases-cond : goal.decreases-cond
decreases-cond l = 64 * l.room + 41

abbrev pub decreases-expr : goal.decreases-expr
decreases-expr l = 64 * l.room + 41

abbrev pub decreases-arg : goal.decreases-arg
decreases-arg l = 64 * l.room + 42

abbrev pub decreases-some_args : goal.decreases-some_args
decreases-some_args l = 64 * l.room + 43

-- what was read so far, and what is still read, make the whole
abbrev pub invariant-some_args-loop-turn : goal.invariant-some_args-loop-turn
invariant-some_args-loop-turn l =
    let one = expr_at l.types l.room in
    with_args (map view_expr l.args) (some_args one (l.turn-end - l.turn) l.rest) ≡ some_args one l.turn-end l.tokens

abbrev pub invariant-suffixes-loop-turn : goal.invariant-suffixes-loop-turn
invariant-suffixes-loop-turn l =
    let within = inside l.types l.room in
    suffixes within (l.turn-end - l.turn) (view_expr l.operand) l.rest ≡ suffixes within l.turn-end (view_expr l.fn.first) l.tokens

abbrev pub invariant-chain-loop-turn : goal.invariant-chain-loop-turn
invariant-chain-loop-turn l =
    let operand = binary (l.level - 1) (unary_at l.types l.room) in
    binary_chain l.level operand (l.turn-end - l.turn) (view_expr l.left) l.rest ≡ binary_chain l.level operand l.turn-end (view_expr l.fn.first) l.tokens

abbrev pub invariant-expr-loop-turn : goal.invariant-expr-loop-turn
invariant-expr-loop-turn l =
    let one = unary_at l.types l.room in
    with_places l.places.items (assigns one (finish l.types l.room) (l.turn-end - l.turn) l.rest) ≡ assigns one (finish l.types l.room) l.turn-end l.tokens
