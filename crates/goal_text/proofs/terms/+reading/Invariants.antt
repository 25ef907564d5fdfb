use Rattle.std.proofs.Common.{◌≡◌, map, drop, ◌+◌, ◌-◌, ◌*◌}
use Rattle.goal_text.specs.Reader as spec
use Rattle.goal_text.specs.Views.{kids_view, place_of}
use Rattle.goal_text.proofs.terms.+reading.Given as goal

-- ---- each bracket takes one of the room, and within it each function calls those of a lower rank

abbrev pub decreases-formula : goal.decreases-formula
decreases-formula l = 8 * l.room

abbrev pub decreases-kid : goal.decreases-kid
decreases-kid l = 8 * l.room + 1

abbrev pub decreases-kids_any : goal.decreases-kids_any
decreases-kids_any l = 8 * l.room + 2

abbrev pub decreases-kids_at : goal.decreases-kids_at
decreases-kids_at l = 8 * l.room + 2

abbrev pub decreases-read_kids : goal.decreases-read_kids
decreases-read_kids l = 8 * l.room + 5

abbrev pub decreases-region : goal.decreases-region
decreases-region l = 8 * l.room + 3

abbrev pub decreases-regions : goal.decreases-regions
decreases-regions l = 8 * l.room + 4

abbrev pub decreases-term : goal.decreases-term
decreases-term l = 8 * l.room

-- ---- from here on the same is read

abbrev pub invariant-kids_at-loop-place : goal.invariant-kids_at-loop-place
invariant-kids_at-loop-place l =
    spec.kids_at (spec.tree l.room) (map place_of (drop l.place-index l.places)) (kids_view l.kids) l.rest ≡ spec.kids_at (spec.tree l.room) (map place_of l.places) (kids_view l.fn.kids) l.bytes

abbrev pub invariant-kids_any-loop-turn : goal.invariant-kids_any-loop-turn
invariant-kids_any-loop-turn l =
    let step = spec.kid (spec.tree l.room) (place_of l.place) in
    spec.repeat step (l.turn-end - l.turn) (kids_view l.kids) l.rest ≡ spec.repeat step l.turn-end (kids_view l.fn.kids) l.bytes

abbrev pub invariant-regions-loop-turn : goal.invariant-regions-loop-turn
invariant-regions-loop-turn l =
    let step = spec.region (spec.tree l.room) in
    spec.repeat step (l.turn-end - l.turn) (kids_view l.kids) l.rest ≡ spec.repeat step l.turn-end (kids_view l.fn.kids) l.bytes
