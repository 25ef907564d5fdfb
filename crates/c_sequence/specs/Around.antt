-- What stands around a part of a full expression, as a function from what is known of the part to what is known of the whole.
use Rattle.std.specs.Prelude.{Bool, true, false, not, ◌&&◌, ◌||◌}
use Rattle.typed_prog.specs.declared.operators.Op.{Op}
use Rattle.typed_prog.specs.declared.operators.Op.TheVariants as op
use Rattle.typed_prog.specs.declared.operators.Effect.{Effect}
use Rattle.c_sequence.specs.declared.found.Embedded.{Embedded}
use Rattle.c_sequence.specs.declared.summaries.Summary.{Summary}
use Rattle.c_sequence.specs.declared.frames.Around.{Around}
use Rattle.c_sequence.specs.Sequence.{Plain, summary, quiet, may_read, is_pending}

abbrev pub around_of : (own : Summary) → (beside_effect beside_read behind_pending stays_pending : Bool) → Around
around_of own e r p s = record { own = own; beside_effect = e; beside_read = r; behind_pending = p; stays_pending = s }

-- the whole that this is with the part
abbrev pub whole : Around → Summary → Summary
whole c x =
    summary (x.holds || c.own.holds) (x.reads && c.own.reads)
    ((x.fine && c.own.fine) && ((not x.holds || c.beside_effect) && ((x.reads || c.beside_read) && (not x.pending || c.behind_pending))))
    ((x.pending && c.stays_pending) || c.own.pending)

-- what stands around what stands around the part
abbrev pub outside : (outer inner : Around) → Around
outside c d = around_of (whole c d.own) (d.beside_effect && c.beside_effect) (d.beside_read && c.beside_read) (d.behind_pending && (not d.stays_pending || c.behind_pending)) (d.stays_pending && c.stays_pending)

-- ---- single forms

abbrev pub nothing_around : Around
nothing_around = around_of quiet true true true true

-- a part whose order with this one is open
abbrev pub beside_this : Summary → Around
beside_this y = around_of y y.reads (not y.holds) true true

-- a part that is done before this one or behind it
abbrev pub in_order_with : Summary → Around
in_order_with y = around_of y true true true true

-- an object is read whose place the part is
abbrev pub read_of : (may : Bool) → Around
read_of may = around_of (summary false may true false) true true may true

abbrev pub operator_of : Plain → Embedded → Op → Around
operator_of plain e (op.Read path) = read_of (may_read plain e path)
operator_of plain e o = nothing_around

abbrev pub effect_of : Effect → Around
effect_of e = around_of (summary true true true (is_pending e)) true true true false
