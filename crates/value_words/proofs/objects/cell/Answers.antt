use Rattle.std.proofs.Common.{map}
use Rattle.core_trees.specs.View.{view_variables}
use Rattle.program_trees.specs.View.{view_facts}
use Rattle.qed_terms.specs.View.{term_tree}
use Rattle.value_terms.specs.Readings.{plain_global}
use Rattle.value_words.specs.OverSlots.{reading_of}
use Rattle.value_words.specs.View.{view_terms}
use Rattle.value_words.proofs.Seeing.{cell_some}
use Rattle.value_words.proofs.objects.cell.Goals as goal

pub returns-in-Some : goal.returns-in-Some
returns-in-Some c = λ xs.
    cell_some (view_facts c.args.facts.now) (reading_of (view_facts c.args.facts.now) xs (map term_tree c.args.slots.now)) c.global.result (plain_global (view_variables c.args.facts.now.globals) c.args.path.now.root)
    c.in-Some.number c.args.ty.now c.args.path.now (view_terms c.args.terms.now) (c.global.ensures (view_facts c.args.facts.now) xs) (cc)
