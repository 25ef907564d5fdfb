use Rattle.std.proofs.Common.{◌≡◌, true, take}
use Rattle.std.specs.List.{list_all}
use Rattle.wp_words.specs.Command.{is_digit, digits_value}
use Rattle.wp_words.proofs.numbers.number_of.Given as goal

-- what was read are digits, and this is their number
abbrev pub invariant-loop-byte : goal.invariant-loop-byte
invariant-loop-byte l = (l.value ≡ digits_value (take l.byte-index l.text)) × (list_all is_digit (take l.byte-index l.text) ≡ true)
