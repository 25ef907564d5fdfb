use Rattle.std.proofs.Common.{◌≡◌, ◌≤◌, ◌+◌, ◌*◌, ◌-◌}
use Rattle.c_syntax.specs.View.{view_pred}
use Rattle.c_grammar.specs.Preds.{connected}
use Rattle.parse_preds.specs.Next.{connective_at}
use Rattle.parse_preds.specs.Read.{iff_of, iff_at}
use Rattle.parse_preds.specs.Parts.{chain_part, joined_at, joined_from, implied_at, iff_from, behind, around, around_all}
use Rattle.parse_preds.proofs.preds.+preds.Given as goal

-- Each call is made with fewer forms or fewer quantifiers left, or of a function that stands lower here.

abbrev pub decreases-below : goal.decreases-below
decreases-below l = 32 * (l.room + l.turns) + 0

abbrev pub decreases-enclosed : goal.decreases-enclosed
decreases-enclosed l = 32 * (l.room + l.turns) + 1

abbrev pub decreases-old_at : goal.decreases-old_at
decreases-old_at l = 32 * (l.room + l.turns) + 2

abbrev pub decreases-atom : goal.decreases-atom
decreases-atom l = 32 * (l.room + l.turns) + 3

abbrev pub decreases-atom_part : goal.decreases-atom_part
decreases-atom_part l = 32 * (l.room + l.turns) + 4

abbrev pub decreases-not_at : goal.decreases-not_at
decreases-not_at l = 32 * (l.room + l.turns) + 1

abbrev pub decreases-operand : goal.decreases-operand
decreases-operand l = 32 * (l.room + l.turns) + 5

abbrev pub decreases-joined : goal.decreases-joined
decreases-joined l = 32 * (l.room + l.turns) + (6 + 2 * l.level)

abbrev pub decreases-joined_on : goal.decreases-joined_on
decreases-joined_on l = 32 * (l.room + l.turns) + (5 + 2 * l.level)

abbrev pub decreases-implied_on : goal.decreases-implied_on
decreases-implied_on l = 32 * (l.room + l.turns) + 1

abbrev pub decreases-implied : goal.decreases-implied
decreases-implied l = 32 * (l.room + l.turns) + 13

abbrev pub decreases-equivalent_on : goal.decreases-equivalent_on
decreases-equivalent_on l = 32 * (l.room + l.turns) + 14

abbrev pub decreases-equivalent : goal.decreases-equivalent
decreases-equivalent l = 32 * (l.room + l.turns) + 15

abbrev pub decreases-arms : goal.decreases-arms
decreases-arms l = 32 * (l.room + l.turns) + 1

abbrev pub decreases-conditional : goal.decreases-conditional
decreases-conditional l = 32 * (l.room + l.turns) + 2

abbrev pub decreases-whole : goal.decreases-whole
decreases-whole l = 32 * (l.room + l.turns) + 16

abbrev pub decreases-part_at : goal.decreases-part_at
decreases-part_at l = 32 * (l.room + l.turns) + 17

abbrev pub decreases-behind : goal.decreases-behind
decreases-behind l = 32 * (l.room + l.turns) + 17

abbrev pub decreases-complete : goal.decreases-complete
decreases-complete l = 32 * (l.room + l.turns) + 18

abbrev pub invariant-joined_on-loop-turn : goal.invariant-joined_on-loop-turn
invariant-joined_on-loop-turn l =
    chain_part connected (connective_at l.level) (joined_at l.types l.room l.turns (l.level - 1)) (l.turn-end - l.turn) (view_pred l.left) l.rest ≡ joined_from l.types l.room l.turns l.level (view_pred l.fn.first) l.tokens

abbrev pub invariant-equivalent_on-loop-turn : goal.invariant-equivalent_on-loop-turn
invariant-equivalent_on-loop-turn l =
    chain_part iff_of (iff_at 1) (implied_at l.types l.room l.turns) (l.turn-end - l.turn) (view_pred l.left) l.rest ≡ iff_from l.types l.room l.turns (view_pred l.fn.first) l.tokens

abbrev pub invariant-behind-loop-left : goal.invariant-behind-loop-left
invariant-behind-loop-left l = record {
  within : l.left ≤ l.turns;
  whole : behind l.types l.room l.left (around_all l.opened.items) l.rest ≡ behind l.types l.room l.turns (around l.fn.first) l.tokens;
}

abbrev pub decreases-behind-loop-left : goal.decreases-behind-loop-left
decreases-behind-loop-left l = l.left
