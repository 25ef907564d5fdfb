use Rattle.std.proofs.Common.{sym, ◌∙◌}
use Rattle.memory_values.specs.View.{facts_in, view_reading}
use Rattle.memory_values.proofs.Seeing.{loaded_number, loaded_pointer}
use Rattle.memory_values.proofs.objects.reached.Goals as goal

pub returns-in-Of : goal.returns-in-Of
returns-in-Of c = loaded_number (facts_in c.args.reading) (view_reading c.args.reading) _ _ _ _ (sym c.cell_of.ensures ∙ c.in-Of.is) (c.number_value.ensures _ c.load_number.ensures)

pub returns-in-Ptr : goal.returns-in-Ptr
returns-in-Ptr c = loaded_pointer (facts_in c.args.reading) (view_reading c.args.reading) _ _ _ (sym c.cell_of.ensures ∙ c.in-Ptr.is) (c.pointer_value.ensures _ _ c.load_block.ensures c.load_offset.ensures)
