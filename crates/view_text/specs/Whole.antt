-- The source in a view: its lines are those that have a number before the first bar.
use Rattle.std.specs.Prelude.{◌≡◌, ℕ, ◌==◌, Bool, true, if◌then◌else◌, List, [], ◌∷◌, ◌++◌, drop, Option, Some, None}
use Rattle.std.specs.List.{list_all}
use Rattle.report_read.specs.Bytes.{until}
use Rattle.report_read.specs.Report.{Goal, Report, IsReport, is_goal}
use Rattle.report_shown.specs.Source.{lines}
use Rattle.view_text.specs.Text.{text_view}

abbrev pub is_blank : List ℕ → Bool
is_blank gutter = list_all (λ b. b == 32) gutter

-- what stands behind the bar and a space, if there is a number before it
abbrev pub behind_bar : Option (List ℕ × List ℕ) → List (List ℕ)
behind_bar None = []
behind_bar (Some p) = if is_blank p.0 then [] else drop 1 p.1 ∷ []

abbrev pub line_taken : List ℕ → List (List ℕ)
line_taken line = behind_bar (until 124 line)

abbrev pub taken_from : List (List ℕ) → List (List ℕ)
taken_from [] = []
taken_from (line ∷ lines) = line_taken line ++ taken_from lines

-- the lines of a view that have a number, without it
unfoldable pub source_in : (view : List ℕ) → List (List ℕ)
source_in view = taken_from (lines view)

-- With the added lines taken away, the source is there whole.
abbrev pub SourceIsWhole : Type 0
SourceIsWhole =
    (color : Bool) (source : List ℕ) (r : Report) (shown : List Goal) → IsReport r → list_all is_goal shown ≡ true → source_in (text_view color source r shown) ≡ lines source
