use Rattle.std.proofs.Common.{sym, ◌∙◌}
use Rattle.program_trees.specs.View.{view_facts}
use Rattle.value_words.proofs.Seeing.{number_facts, pointer_facts}
use Rattle.value_words.proofs.accesses.push_there.Goals as goal

pub returns-in-Of : goal.returns-in-Of
returns-in-Of c = λ xs ts. number_facts (view_facts c.args.facts.now) xs ts _ _ _ _ _ _ (sym c.cell_of.ensures ∙ c.in-Of.is) (c.push_range.ensures _ (c.load-held.ensures xs ts))

pub returns-in-Ptr : goal.returns-in-Ptr
returns-in-Ptr c = λ xs ts. pointer_facts (view_facts c.args.facts.now) xs ts _ _ _ _ _ (sym c.cell_of.ensures ∙ c.in-Ptr.is) (c.push_made.ensures xs ts)
