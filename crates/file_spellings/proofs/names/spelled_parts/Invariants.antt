use Rattle.std.proofs.Common.{◌≡◌, ◌++◌, map}
use Rattle.logic_calls.specs.View.{view_spelling}
use Rattle.typed_unit.specs.View.{view_part}
use Rattle.file_spellings.specs.Spelled as spec
use Rattle.file_spellings.proofs.Spelling_all.{PartsFrom}
use Rattle.file_spellings.proofs.names.spelled_parts.Given as goal

-- those so far, and those that are left
abbrev pub invariant-loop-at : goal.invariant-loop-at
invariant-loop-at l = map view_spelling l.made ++ PartsFrom l.file l.parts l.at ≡ spec.spelled_parts l.file (map view_part l.parts)
