use Rattle.std.proofs.Common.{rules}
use Rattle.c_kinds.specs.Layouts.{places, all_cells}
use Rattle.c_kinds.proofs.Laying.{fields_turn, cells_turn}
use Rattle.c_kinds.proofs.layouts.cells_of.Goals as goal

pub loop-part-preserved : goal.loop-part-preserved
loop-part-preserved c =
    let items = c.as_slice-part-items.result.now in
    record {
      fields = fields_turn items c.loop-part.part-index c.part-item.result c.loop-part.fields.items c.push.new.self.items (places 0 c.args.parts.now) c.loop-part.cells.items c.put_cells.new.cells.items (search rules) (search rules) (search rules) (search rules) c.loop-part.invariant.fields;
      cells = cells_turn items c.loop-part.part-index c.part-item.result c.loop-part.cells.items c.put_cells.new.cells.items (all_cells c.args.parts.now) (search rules) (search rules) (search rules) c.loop-part.invariant.cells;
      same = c.loop-part.invariant.same;
    }
