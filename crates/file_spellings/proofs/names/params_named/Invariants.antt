use Rattle.std.proofs.Common.{◌≡◌, ◌++◌, map}
use Rattle.annotation_words.specs.View.{view_named}
use Rattle.c_syntax.specs.View.{view_var}
use Rattle.file_spellings.specs.Spelled as spec
use Rattle.file_spellings.proofs.Spelling_all.{ParamsFrom}
use Rattle.file_spellings.proofs.names.params_named.Given as goal

-- those so far, and those that are left
abbrev pub invariant-loop-at : goal.invariant-loop-at
invariant-loop-at l = map view_named l.made ++ ParamsFrom l.file l.params l.at ≡ map (spec.param_named l.file) (map view_var l.params)
