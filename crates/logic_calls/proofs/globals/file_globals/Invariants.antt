use Rattle.std.proofs.Common.{◌≡◌, ◌++◌, map}
use Rattle.annotation_words.specs.View.{view_global}
use Rattle.core_trees.specs.View.{view_variables}
use Rattle.plain_annotations.specs.Settings.{globals_from}
use Rattle.logic_calls.proofs.Filing.{file_from}
use Rattle.logic_calls.proofs.globals.file_globals.Given as goal

-- what is made, and what is to come
abbrev pub invariant-loop-at : goal.invariant-loop-at
invariant-loop-at l = map view_global l.made ++ file_from l.variables l.names l.at ≡ globals_from 0 (view_variables l.variables) l.names
