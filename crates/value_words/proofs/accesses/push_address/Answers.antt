use Rattle.program_trees.specs.View.{view_facts}
use Rattle.value_words.proofs.Adding.{asks_if}
use Rattle.value_words.proofs.accesses.push_address.Goals as goal

pub returns-then-is_asked : goal.returns-then-is_asked
returns-then-is_asked c = λ xs ts. asks_if _ _ _ _ _ _ _ (cc) (c.push_pointing.ensures (view_facts c.args.facts.now) xs ts _ (c.address-address.ensures xs ts))
