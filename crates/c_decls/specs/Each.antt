-- Declarations one after another, each in what those before it declared.
use Rattle.std.specs.Prelude.{List, [], ◌∷◌, Ok}
use Rattle.c_answers.specs.Answers.{Answer, after}
use Rattle.c_scopes.specs.declared.file.File.{File}
use Rattle.c_variables.specs.declared.context.Context.{Context}

-- what is there after the first item goes into the second, and so on; the first fault is that of the whole
abbrev pub each : {S X : Type 0} → (S → X → Answer S) → S → List X → Answer S
each f s [] = Ok s
each f s (x ∷ xs) = after (f s x) (λ next. each f next xs)

-- the same place, with other declarations in the file
abbrev pub with_file : Context → File → Context
with_file c f = record c { scope = record c.scope { file = f } }
