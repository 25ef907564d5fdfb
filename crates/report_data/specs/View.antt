-- What is in memory, as plain values.
use Rattle.std.specs.Prelude.{ℕ, List}
use Rattle.std.specs.Borrow.{Bor}
use Rattle.std.specs.Fmt.{decimal}
use Rattle.report_data.specs.declared.json.Value.{Value}
use Rattle.report_data.specs.declared.json.Value.TheVariants as held
use Rattle.report_data.specs.declared.csv.Cell.{Cell}
use Rattle.report_data.specs.declared.csv.Cell.TheVariants as cell
use Rattle.report_data.specs.Json as json

abbrev pub view_value : Value → json.Value
view_value (held.Text bytes) = json.text_value bytes.now
view_value (held.Number n) = json.number_value n

abbrev pub view_member : Bor (List ℕ) × Value → json.Member
view_member m = (m.0.now, view_value m.1)

abbrev pub view_cell : Cell → List ℕ
view_cell (cell.Text bytes) = bytes.now
view_cell (cell.Number n) = decimal n
