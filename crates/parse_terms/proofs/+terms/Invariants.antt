use Rattle.std.proofs.Common.{◌≡◌, ◌+◌, ◌*◌, ◌-◌, map}
use Rattle.c_syntax.specs.View.{view_term}
use Rattle.c_grammar.specs.Reading.{chain, levels}
use Rattle.c_grammar.specs.Terms.{inside_of}
use Rattle.c_grammar.specs.ListReaders.{with_items, more_separated}
use Rattle.parse_terms.specs.Read as r
use Rattle.parse_terms.specs.Views.{view_place}
use Rattle.parse_terms.proofs.+terms.Given as goal

abbrev pub decreases-wholes::inner_term : goal.decreases-wholes::inner_term
decreases-wholes::inner_term l = 64 * l.room

abbrev pub decreases-operands::inner_operand : goal.decreases-operands::inner_operand
decreases-operands::inner_operand l = 64 * l.room

abbrev pub decreases-operands::inner_group : goal.decreases-operands::inner_group
decreases-operands::inner_group l = 64 * l.room

abbrev pub decreases-operands::args : goal.decreases-operands::args
decreases-operands::args l = 64 * l.room

abbrev pub decreases-operands::prefixed : goal.decreases-operands::prefixed
decreases-operands::prefixed l = 64 * l.room + 1

abbrev pub decreases-operands::cast : goal.decreases-operands::cast
decreases-operands::cast l = 64 * l.room + 1

abbrev pub decreases-wholes::choice : goal.decreases-wholes::choice
decreases-wholes::choice l = 64 * l.room + 1

abbrev pub decreases-wholes::bounds : goal.decreases-wholes::bounds
decreases-wholes::bounds l = 64 * l.room + 1

abbrev pub decreases-wholes::spread : goal.decreases-wholes::spread
decreases-wholes::spread l = 64 * l.room + 2

abbrev pub decreases-operands::offset : goal.decreases-operands::offset
decreases-operands::offset l = 64 * l.room + 1

abbrev pub decreases-operands::old : goal.decreases-operands::old
decreases-operands::old l = 64 * l.room + 1

abbrev pub decreases-operands::at_label : goal.decreases-operands::at_label
decreases-operands::at_label l = 64 * l.room + 1

abbrev pub decreases-operands::named : goal.decreases-operands::named
decreases-operands::named l = 64 * l.room + 1

abbrev pub decreases-operands::selected : goal.decreases-operands::selected
decreases-operands::selected l = 64 * l.room + 2

abbrev pub decreases-operands::worded : goal.decreases-operands::worded
decreases-operands::worded l = 64 * l.room + 2

abbrev pub decreases-operands::primary : goal.decreases-operands::primary
decreases-operands::primary l = 64 * l.room + 3

abbrev pub decreases-operands::parts : goal.decreases-operands::parts
decreases-operands::parts l = 64 * l.room + 3

abbrev pub decreases-operands::postfix : goal.decreases-operands::postfix
decreases-operands::postfix l = 64 * l.room + 4

abbrev pub decreases-operands::operand : goal.decreases-operands::operand
decreases-operands::operand l = 64 * l.room + 5

abbrev pub decreases-wholes::operators : goal.decreases-wholes::operators
decreases-wholes::operators l = 64 * l.room + 5 + 2 * l.level

abbrev pub decreases-wholes::binary : goal.decreases-wholes::binary
decreases-wholes::binary l = 64 * l.room + 6 + 2 * l.level

abbrev pub decreases-wholes::term : goal.decreases-wholes::term
decreases-wholes::term l = 64 * l.room + 30

abbrev pub decreases-wholes::spread_term : goal.decreases-wholes::spread_term
decreases-wholes::spread_term l = 64 * l.room + 31

abbrev pub decreases-wholes::more_terms : goal.decreases-wholes::more_terms
decreases-wholes::more_terms l = 64 * l.room + 31

abbrev pub decreases-wholes::terms : goal.decreases-wholes::terms
decreases-wholes::terms l = 64 * l.room + 32

-- the operands so far and those to come
abbrev pub invariant-wholes::operators-loop-turn : goal.invariant-wholes::operators-loop-turn
invariant-wholes::operators-loop-turn l =
    let operand = levels r.joined r.operator (l.level - 1) (r.read l.types l.room r.operands (view_place l.place)) in
    chain r.joined (r.operator l.level) operand (l.turn-end - l.turn) (view_term l.left) l.rest ≡ chain r.joined (r.operator l.level) operand l.turn-end (view_term l.fn.first) l.tokens

-- the part so far and those to come
abbrev pub invariant-operands::parts-loop-turn : goal.invariant-operands::parts-loop-turn
invariant-operands::parts-loop-turn l =
    let inner = r.inner l.types l.room r.wholes (inside_of (view_place l.place)) in
    r.parts (view_place l.place) inner (l.turn-end - l.turn) (view_term l.part) l.rest ≡ r.parts (view_place l.place) inner l.turn-end (view_term l.fn.first) l.tokens

-- the terms so far and those to come
abbrev pub invariant-wholes::more_terms-loop-turn : goal.invariant-wholes::more_terms-loop-turn
invariant-wholes::more_terms-loop-turn l =
    let one = r.read l.types l.room r.wholes (view_place l.place) in
    with_items (map view_term l.terms) (more_separated one (l.turn-end - l.turn) l.rest) ≡ with_items (map view_term l.fn.first) (more_separated one l.turn-end l.tokens)
