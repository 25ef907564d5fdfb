use Rattle.std.proofs.Common.{sym, ◌∙◌}
use Rattle.program_trees.specs.View.{view_facts}
use Rattle.value_words.proofs.Seeing.{loaded_number, loaded_pointer}
use Rattle.value_words.proofs.objects.reached.Goals as goal

pub returns-in-Of : goal.returns-in-Of
returns-in-Of c = λ xs ts. loaded_number (view_facts c.args.facts.now) xs ts _ _ _ _ (sym c.cell_of.ensures ∙ c.in-Of.is) (c.number_value.ensures _ (c.load.ensures xs ts))

pub returns-in-Ptr : goal.returns-in-Ptr
returns-in-Ptr c = λ xs ts. loaded_pointer (view_facts c.args.facts.now) xs ts _ _ _ (sym c.cell_of.ensures ∙ c.in-Ptr.is) (c.pointer_value.ensures _ _ (c.load-in-Ptr.ensures xs ts) (c.load-in-Ptr-2.ensures xs ts))
