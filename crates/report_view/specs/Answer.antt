-- What is answered to a source and the text of its report.
use Rattle.std.specs.Prelude.{ℕ, Bool, if◌then◌else◌, List, [], ◌∷◌, ◌++◌, map, codes, Option, Some, None}
use Rattle.std.specs.List.{list_any}
use Rattle.std.specs.Str.{bytes_eq}
use Rattle.std.specs.Fmt.{decimal}
use Rattle.wp_base.specs.declared.answers.Status.{Status}
use Rattle.wp_base.specs.declared.answers.Status.TheVariants as status
use Rattle.report_read.specs.Bytes.{joined}
use Rattle.report_read.specs.Report.{Goal, Report, Document, report, refusal}
use Rattle.report_read.specs.Read.{document_in, read, unread}
use Rattle.report_read.specs.Read as reading
use Rattle.report_shown.specs.Shown.{Wanted, shown, all_proved, functions_of, checks_of}
use Rattle.report_data.specs.Json.{json_text}
use Rattle.report_data.specs.Csv.{csv_text}
use Rattle.report_page.specs.Page.{page}
use Rattle.view_words.specs.declared.commands.Form.{Form}
use Rattle.view_words.specs.declared.commands.Form.TheVariants as form
use Rattle.view_words.specs.Command.{Command}
use Rattle.view_text.specs.Text.{text_view}
use Rattle.view_text.specs.Refused.{refusal_view}

-- how a run ends, what it writes, and what it says of a name that the report hasn't
pub record Answer : Type 0 where
  pub status : Status
  pub text : List ℕ
  pub said : List ℕ

abbrev pub writes : Status → List ℕ → Answer
writes s text = record { status = s; text = text; said = [] }

abbrev pub says : List ℕ → Answer
says said = record { status = status.Usage; text = []; said = said }

-- ---- names

abbrev pub is_function : List ℕ → Goal → Bool
is_function name g = bytes_eq g.function name

abbrev pub is_check : List ℕ → Goal → Bool
is_check name g = bytes_eq g.check name

abbrev pub listed : List ℕ → List ℕ
listed name = codes " " ++ name

-- what is said where no goal has a name: which names there are
unfoldable pub no_name : (sort name : List ℕ) → (names : List (List ℕ)) → List ℕ
no_name sort name names = codes "wpview: no goal has the " ++ (sort ++ (codes " " ++ (name ++ (codes "; there are:" ++ joined (map listed names)))))

abbrev pub no_function : List Goal → Option (List ℕ) → Option (List ℕ)
no_function goals None = None
no_function goals (Some name) = if list_any (is_function name) goals then None else Some (no_name (codes "function") name (functions_of goals))

abbrev pub no_check : List Goal → Option (List ℕ) → Option (List ℕ)
no_check goals None = None
no_check goals (Some name) = if list_any (is_check name) goals then None else Some (no_name (codes "check") name (checks_of goals))

abbrev pub or_else : Option (List ℕ) → Option (List ℕ) → Option (List ℕ)
or_else (Some said) other = Some said
or_else None other = other

-- the function is looked up first
unfoldable pub said_of : List Goal → Wanted → Option (List ℕ)
said_of goals w = or_else (no_function goals w.function) (no_check goals w.check)

-- ---- views

-- the goals in the form that is asked for; the page has the name of the file as its title
unfoldable pub view_in : Form → (color : Bool) → (file source : List ℕ) → Report → (shown : List Goal) → List ℕ
view_in form.Text color file source r goals = text_view color source r goals
view_in form.Html color file source r goals = page file source goals
view_in form.Json color file source r goals = json_text goals
view_in form.Csv color file source r goals = csv_text goals

abbrev pub status_of : (shown : List Goal) → Status
status_of goals = if all_proved goals then status.AllProved else status.SomeUnknown

abbrev pub shown_answer : Command → (source : List ℕ) → Report → (shown : List Goal) → Answer
shown_answer c source r goals = writes (status_of goals) (view_in c.form c.color c.file source r goals)

abbrev pub answer_unless : Option (List ℕ) → Answer → Answer
answer_unless (Some said) a = says said
answer_unless None a = a

-- exactly the goals of the report that pass are shown, in order
unfoldable pub report_answer : Command → (source : List ℕ) → Report → Answer
report_answer c source r = answer_unless (said_of r.goals c.wanted) (shown_answer c source r (shown c.wanted r.goals))

-- ---- what is no report

unfoldable pub unread_text : (line : ℕ) → List ℕ
unread_text line = codes "not a report line " ++ (decimal line ++ 10 ∷ [])

abbrev pub document_answer : Command → (source : List ℕ) → Document → Answer
document_answer c source (report r) = report_answer c source r
document_answer c source (refusal r) = writes status.Refused (refusal_view source r)

abbrev pub answer_by : Command → (source : List ℕ) → reading.Answer → Answer
answer_by c source (read d) = document_answer c source d
answer_by c source (unread line) = writes status.Refused (unread_text line)

-- the answer to a source and a text: a view of the report that the text is, a refusal in its place, or the first line that can't stand in a report
abbrev pub answer : Command → (source text : List ℕ) → Answer
answer c source text = answer_by c source (document_in text)
