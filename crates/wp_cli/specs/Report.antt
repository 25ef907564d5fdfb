-- The line that refuses a text.
use Rattle.std.specs.Prelude.{ℕ, List, ◌++◌, codes}
use Rattle.std.specs.Fmt.{decimal}
use Rattle.wp_base.specs.declared.answers.Refusal.{Refusal}
use Rattle.wp_base.specs.Answers.{number_of, name_of}

-- `refused line L: R NAME`
unfoldable pub refusal_line : Refusal → List ℕ
refusal_line r = codes "refused line " ++ decimal r.line ++ codes ": " ++ decimal (number_of r.rule) ++ codes " " ++ name_of r.rule ++ codes "\n"
