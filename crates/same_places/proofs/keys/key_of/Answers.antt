use Rattle.std.proofs.Common.{◌∙◌, ap}
use Rattle.same_places.specs.Passing.{class_parts}
use Rattle.same_places.specs.View.{row_of}
use Rattle.same_places.proofs.Turns.{a_key}
use Rattle.same_places.proofs.keys.key_of.Goals as goal

pub returns : goal.returns
returns c =
    a_key c.args.classes.now (row_of c.args.row.now) c.in_ok-key.key.items c.sort.new.parts.items c.push.new.self.items (c.in_ok-key.ensures ∙ ap (class_parts c.args.classes.now) c.as_slice.ensures.value) c.sort.ensures.moved c.sort.ensures.in_order c.in_ok-push.ensures.items
