use Rattle.std.proofs.Common.{◌∙◌}
use Rattle.program_trees.specs.View.{view_facts}
use Rattle.annotation_words.specs.View.{view_seen}
use Rattle.annotation_words.proofs.Slot_reads.{read_variable}
use Rattle.annotation_words.proofs.reads.integer_read.Goals as goal

pub returns-in_ok-made-in-Variable : goal.returns-in_ok-made-in-Variable
returns-in_ok-made-in-Variable c = λ k x shape.
    read_variable (view_seen (view_facts c.args.facts.now) c.args.seen) k x c.in-Variable.number _ (shape ∙ c.in-Variable.is)
    (c.in_ok-made-in-Variable.ensures k)
