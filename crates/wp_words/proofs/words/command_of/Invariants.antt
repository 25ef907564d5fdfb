use Rattle.std.proofs.Common.{◌≡◌, drop}
use Rattle.wp_words.specs.Command.{command_of}
use Rattle.wp_words.specs.CommandView.{view_reading}
use Rattle.wp_words.specs.Reading.{read_on}
use Rattle.wp_words.proofs.words.command_of.Given as goal

-- what was read, and what is still to be read, are the command
abbrev pub invariant-loop-word : goal.invariant-loop-word
invariant-loop-word l = read_on (view_reading l.reading) (drop l.word-index l.words) ≡ command_of l.words
