use Rattle.std.proofs.Common.{◌≡◌, drop}
use Rattle.view_words.specs.Command.{command_of}
use Rattle.view_words.specs.CommandView.{view_asked, view_operands}
use Rattle.view_words.proofs.Reading.{read_on}
use Rattle.view_words.proofs.words.command_of.Given as goal

-- what was read, and what is still to be read, are the command
abbrev pub invariant-loop-word : goal.invariant-loop-word
invariant-loop-word l = read_on l.wants l.ended (view_asked l.asked) (view_operands l.found) (drop l.word-index l.words) ≡ command_of l.words
