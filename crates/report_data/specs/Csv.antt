-- Goals as comma-separated values (RFC 4180): a row of names, and a row a goal. A row ends in CR LF.
use Rattle.std.specs.Prelude.{◌≡◌, ℕ, ◌==◌, ◌||◌, ◌&&◌, Bool, true, false, List, [], ◌∷◌, ◌++◌, map, codes, Option, Some, None, unwrap_or, if◌then◌else◌}
use Rattle.std.specs.List.{list_all, list_any}
use Rattle.std.specs.Fmt.{decimal}
use Rattle.goal_words.specs.Bytes.{Reader, ◌>>=◌, expect}
use Rattle.goal_words.specs.Numbers.{count}
use Rattle.report_read.specs.Bytes.{joined, all_of}
use Rattle.report_read.specs.Report.{Goal, verdict_name, is_number}
use Rattle.report_read.specs.Read.{verdict_of}
use Rattle.report_data.specs.Json.{ended}

-- ---- rows

-- a quotation mark, a comma, CR, LF: a field with one of these is quoted
abbrev pub is_special : ℕ → Bool
is_special b = b == 34 || b == 44 || b == 13 || b == 10

-- in a quoted field a quotation mark stands twice
unfoldable pub doubled : ℕ → List ℕ
doubled b = if b == 34 then 34 ∷ 34 ∷ [] else b ∷ []

abbrev pub quoted : List ℕ → List ℕ
quoted bytes = 34 ∷ (joined (map doubled bytes) ++ 34 ∷ [])

unfoldable pub field : List ℕ → List ℕ
field bytes = if list_any is_special bytes then quoted bytes else bytes

abbrev pub next_field : List ℕ → List ℕ
next_field bytes = 44 ∷ field bytes

abbrev pub fields_text : List (List ℕ) → List ℕ
fields_text [] = []
fields_text (f ∷ fs) = field f ++ joined (map next_field fs)

unfoldable pub row_line : List (List ℕ) → List ℕ
row_line fs = fields_text fs ++ 13 ∷ 10 ∷ []

-- ---- goals

abbrev pub names : List (List ℕ)
names = codes "function" ∷ codes "number" ∷ codes "check" ∷ codes "line" ∷ codes "verdict" ∷ codes "formula" ∷ []

-- the field of a formula that isn't shown is empty
abbrev pub goal_fields : Goal → List (List ℕ)
goal_fields g = g.function ∷ decimal g.number ∷ g.check ∷ decimal g.line ∷ verdict_name g.verdict ∷ unwrap_or g.formula [] ∷ []

abbrev pub goal_row : Goal → List ℕ
goal_row g = row_line (goal_fields g)

unfoldable pub csv_text : List Goal → List ℕ
csv_text goals = row_line names ++ joined (map goal_row goals)

-- ---- reading

-- a byte of a quoted field, behind its first quotation mark
unfoldable pub quoted_at : Reader ℕ
quoted_at [] = None
quoted_at (b ∷ bytes) = if b == 34 then ended 34 (expect 34 bytes) else Some (b, bytes)

-- a byte of a field that isn't quoted
unfoldable pub plain_at : Reader ℕ
plain_at [] = None
plain_at (b ∷ bytes) = if is_special b then None else Some (b, bytes)

abbrev pub field_by : (bytes : List ℕ) → Option (List ℕ) → Option (List ℕ × List ℕ)
field_by bytes None = Some (all_of plain_at bytes)
field_by bytes (Some rest) = let f = all_of quoted_at rest in ended f.0 (expect 34 f.1)

unfoldable pub field_at : Reader (List ℕ)
field_at bytes = field_by bytes (expect 34 bytes)

unfoldable pub next_field_at : Reader (List ℕ)
next_field_at bytes = expect 44 bytes >>= field_at

unfoldable pub row_at : Reader (List (List ℕ))
row_at bytes = field_at bytes >>= λ f. let fs = all_of next_field_at f.1 in expect 13 fs.1 >>= λ rest. ended (f.0 ∷ fs.0) (expect 10 rest)

abbrev pub formula_of : List ℕ → Option (List ℕ)
formula_of [] = None
formula_of (b ∷ bytes) = Some (b ∷ bytes)

unfoldable pub goal_of : List (List ℕ) → Option Goal
goal_of (f ∷ n ∷ c ∷ l ∷ v ∷ m ∷ []) =
    count n >>= λ number. count l >>= λ line. verdict_of v >>= λ verdict.
    Some (record { function = f; number = number; check = c; line = line; verdict = verdict; formula = formula_of m })
goal_of _ = None

abbrev pub with_more : {X : Type 0} → X → Option (List X) → Option (List X)
with_more x None = None
with_more x (Some xs) = Some (x ∷ xs)

abbrev pub goals_of : List (List (List ℕ)) → Option (List Goal)
goals_of [] = Some []
goals_of (r ∷ rows) = goal_of r >>= λ g. with_more g (goals_of rows)

-- the goals of the rows behind the first one, if nothing stands behind these
abbrev pub behind_names : List (List (List ℕ)) × List ℕ → Option (List Goal)
behind_names (r ∷ rows, []) = goals_of rows
behind_names _ = None

unfoldable pub csv_in : List ℕ → Option (List Goal)
csv_in text = behind_names (all_of row_at text)

-- ---- a law

abbrev pub is_some : Option (List ℕ) → Bool
is_some (Some []) = false
is_some _ = true

-- what a goal of a report has: numbers of 32 bits, and a formula that isn't empty
abbrev pub is_goal : Goal → Bool
is_goal g = is_number g.number && (is_number g.line && is_some g.formula)

-- the goals are read back
abbrev pub CsvReadBack : Type 0
CsvReadBack = (goals : List Goal) → list_all is_goal goals ≡ true → csv_in (csv_text goals) ≡ Some goals
