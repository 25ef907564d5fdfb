-- Which goals are shown, and how they are summed up.
use Rattle.std.specs.Prelude.{ℕ, ◌+◌, Bool, true, false, not, ◌&&◌, List, [], ◌∷◌, ◌++◌, map, filter, Option, Some, None, if◌then◌else◌}
use Rattle.std.specs.List.{list_any, list_all, prefix_len}
use Rattle.std.specs.Str.{bytes_eq}
use Rattle.qed_terms.specs.declared.verdict.Verdict.{Verdict}
use Rattle.report_read.specs.Report.{Goal, is_proved}
use Rattle.report_shown.specs.declared.wanted.Only.{Only}
use Rattle.report_shown.specs.declared.wanted.Only.TheVariants as only

-- the goals that are wanted: of this function, of this check, with this verdict; of all where none is named
pub record Wanted : Type 0 where
  pub function : Option (List ℕ)
  pub check : Option (List ℕ)
  pub only : Only

abbrev pub is_named : Option (List ℕ) → List ℕ → Bool
is_named None word = true
is_named (Some name) word = bytes_eq word name

abbrev pub has_verdict : Only → Verdict → Bool
has_verdict only.All v = true
has_verdict only.Proved v = is_proved v
has_verdict only.Unknown v = not (is_proved v)

abbrev pub is_wanted : Wanted → Goal → Bool
is_wanted w g = is_named w.function g.function && (is_named w.check g.check && has_verdict w.only g.verdict)

-- exactly those that pass are shown, in order
unfoldable pub shown : Wanted → List Goal → List Goal
shown w goals = filter (is_wanted w) goals

-- nothing unknown is shown
abbrev pub all_proved : List Goal → Bool
all_proved goals = list_all (λ (g : Goal). is_proved g.verdict) goals

-- ---- names

abbrev pub is_among : List (List ℕ) → List ℕ → Bool
is_among names name = list_any (λ n. bytes_eq n name) names

abbrev pub more_if_new : List (List ℕ) → List ℕ → List (List ℕ)
more_if_new names name = if is_among names name then names else names ++ name ∷ []

-- each name once, in the order in which they come
abbrev pub distinct_behind : (names : List (List ℕ)) → List (List ℕ) → List (List ℕ)
distinct_behind names [] = names
distinct_behind names (n ∷ ns) = distinct_behind (more_if_new names n) ns

abbrev pub functions_of : List Goal → List (List ℕ)
functions_of goals = distinct_behind [] (map (λ (g : Goal). g.function) goals)

abbrev pub checks_of : List Goal → List (List ℕ)
checks_of goals = distinct_behind [] (map (λ (g : Goal). g.check) goals)

-- ---- goals of one function that come one after another

abbrev pub onto_run : Goal → List (List Goal) → List (List Goal)
onto_run g [] = (g ∷ []) ∷ []
onto_run g ([] ∷ runs) = (g ∷ []) ∷ runs
onto_run g ((h ∷ run) ∷ runs) = if bytes_eq h.function g.function then (g ∷ h ∷ run) ∷ runs else (g ∷ []) ∷ (h ∷ run) ∷ runs

abbrev pub runs : List Goal → List (List Goal)
runs [] = []
runs (g ∷ goals) = onto_run g (runs goals)

-- how many goals at the front are of the first one's function
abbrev pub run_len : List Goal → ℕ
run_len [] = 0
run_len (g ∷ goals) = prefix_len (λ (h : Goal). bytes_eq h.function g.function) goals + 1
