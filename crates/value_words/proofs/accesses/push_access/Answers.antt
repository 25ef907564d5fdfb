use Rattle.program_trees.specs.View.{view_facts}
use Rattle.value_words.proofs.Adding.{asks_if}
use Rattle.value_words.proofs.accesses.push_access.Goals as goal

pub returns-then-is_pointed : goal.returns-then-is_pointed
returns-then-is_pointed c = λ xs ts. asks_if _ _ _ _ _ _ _ (cc) (c.push_asked.ensures _ (c.is_cell-exists.ensures (view_facts c.args.facts.now) xs ts _ (c.address-address.ensures xs ts)))
