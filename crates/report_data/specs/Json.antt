-- Goals as lines of JSON (RFC 8259): an object a goal, and a last one with the totals.
use Rattle.std.specs.Prelude.{◌≡◌, ℕ, ◌+◌, ◌*◌, ◌/◌, ◌%◌, ◌-◌, ◌==◌, ◌&&◌, ◌||◌, nat_lt, nat_le, Bool, true, List, [], ◌∷◌, ◌++◌, map, length, codes, Option, Some, None, if◌then◌else◌}
use Rattle.std.specs.List.{list_all}
use Rattle.std.specs.Str.{bytes_eq}
use Rattle.std.specs.Fmt.{decimal}
use Rattle.goal_words.specs.Bytes.{Reader, ◌>>=◌, expect, with_rest}
use Rattle.goal_words.specs.Numbers.{count}
use Rattle.report_read.specs.Bytes.{joined, all_of}
use Rattle.report_read.specs.Report.{Goal, verdict_name, proved_in, unknown_in, is_number}
use Rattle.report_read.specs.Read.{verdict_of}

-- ---- strings

-- a digit of base 16
unfoldable pub hex_digit : ℕ → ℕ
hex_digit n = if nat_lt n 10 then 48 + n else 87 + n

-- a quotation mark or a backslash
abbrev pub is_marked : ℕ → Bool
is_marked b = b == 34 || b == 92

-- printable ASCII
abbrev pub is_shown : ℕ → Bool
is_shown b = nat_le 32 b && nat_le b 126

-- the code point of this number, by its four digits of base 16
abbrev pub code_of : ℕ → List ℕ
code_of b = 92 ∷ 117 ∷ 48 ∷ 48 ∷ hex_digit (b / 16) ∷ hex_digit (b % 16) ∷ []

-- a byte of a string: one that isn't printable ASCII is the code point of its number
unfoldable pub escaped : ℕ → List ℕ
escaped b = if is_marked b then 92 ∷ b ∷ [] else if is_shown b then b ∷ [] else code_of b

abbrev pub string : List ℕ → List ℕ
string bytes = 34 ∷ (joined (map escaped bytes) ++ 34 ∷ [])

-- ---- objects

pub data Value : Type 0 where
  text_value : List ℕ → Value
  number_value : ℕ → Value

abbrev pub Member : Type 0
Member = List ℕ × Value

abbrev pub value_text : Value → List ℕ
value_text (text_value bytes) = string bytes
value_text (number_value n) = decimal n

unfoldable pub member_text : Member → List ℕ
member_text m = string m.0 ++ 58 ∷ value_text m.1

abbrev pub next_member : Member → List ℕ
next_member m = 44 ∷ member_text m

abbrev pub members_text : List Member → List ℕ
members_text [] = []
members_text (m ∷ ms) = member_text m ++ joined (map next_member ms)

-- an object on a line of its own
unfoldable pub object_line : List Member → List ℕ
object_line ms = 123 ∷ (members_text ms ++ 125 ∷ 10 ∷ [])

-- ---- goals

abbrev pub formula_members : Option (List ℕ) → List Member
formula_members None = []
formula_members (Some formula) = (codes "formula", text_value formula) ∷ []

abbrev pub goal_members : Goal → List Member
goal_members g =
    (codes "function", text_value g.function) ∷ (codes "number", number_value g.number) ∷ (codes "check", text_value g.check) ∷ (codes "line", number_value g.line)
    ∷ (codes "verdict", text_value (verdict_name g.verdict)) ∷ formula_members g.formula

abbrev pub total_members : (goals proved unknown : ℕ) → List Member
total_members n p u = (codes "goals", number_value n) ∷ (codes "proved", number_value p) ∷ (codes "unknown", number_value u) ∷ []

abbrev pub goal_object : Goal → List ℕ
goal_object g = object_line (goal_members g)

unfoldable pub json_text : List Goal → List ℕ
json_text goals = joined (map goal_object goals) ++ object_line (total_members (length goals) (proved_in goals) (unknown_in goals))

-- ---- reading

unfoldable pub hex_value : ℕ → Option ℕ
hex_value b = if nat_le 48 b && nat_le b 57 then Some (b - 48) else if nat_le 97 b && nat_le b 102 then Some (b - 87) else None

abbrev pub hex_at : Reader ℕ
hex_at [] = None
hex_at (b ∷ bytes) = with_rest bytes (hex_value b)

-- the code point behind `\u`
abbrev pub code_at : Reader ℕ
code_at bytes = hex_at bytes >>= λ a. hex_at a.1 >>= λ b. hex_at b.1 >>= λ c. hex_at c.1 >>= λ d. Some (((a.0 * 16 + b.0) * 16 + c.0) * 16 + d.0, d.1)

-- what stands behind a backslash
abbrev pub marked_at : Reader ℕ
marked_at [] = None
marked_at (b ∷ bytes) = if is_marked b then Some (b, bytes) else if b == 117 then code_at bytes else None

-- a character of a string: a quotation mark ends it
unfoldable pub char_at : Reader ℕ
char_at [] = None
char_at (b ∷ bytes) = if b == 34 then None else if b == 92 then marked_at bytes else Some (b, bytes)

-- what was read before this byte, and what stands behind it
abbrev pub ended : {X : Type 0} → X → Option (List ℕ) → Option (X × List ℕ)
ended x None = None
ended x (Some rest) = Some (x, rest)

unfoldable pub string_at : Reader (List ℕ)
string_at bytes = expect 34 bytes >>= λ rest. let s = all_of char_at rest in ended s.0 (expect 34 s.1)

abbrev pub digit_at : Reader ℕ
digit_at [] = None
digit_at (b ∷ bytes) = if nat_le 48 b && nat_le b 57 then Some (b, bytes) else None

unfoldable pub number_at : Reader ℕ
number_at bytes = let d = all_of digit_at bytes in with_rest d.1 (count d.0)

abbrev pub text_first : Option (List ℕ × List ℕ) → Option (ℕ × List ℕ) → Option (Value × List ℕ)
text_first (Some t) n = Some (text_value t.0, t.1)
text_first None None = None
text_first None (Some n) = Some (number_value n.0, n.1)

abbrev pub value_at : Reader Value
value_at bytes = text_first (string_at bytes) (number_at bytes)

unfoldable pub member_at : Reader Member
member_at bytes = string_at bytes >>= λ s. expect 58 s.1 >>= λ rest. value_at rest >>= λ v. Some ((s.0, v.0), v.1)

unfoldable pub next_member_at : Reader Member
next_member_at bytes = expect 44 bytes >>= member_at

-- an object, and the end of its line
unfoldable pub object_at : Reader (List Member)
object_at bytes =
    expect 123 bytes >>= λ rest. member_at rest >>= λ m. let ms = all_of next_member_at m.1 in expect 125 ms.1 >>= λ rest. ended (m.0 ∷ ms.0) (expect 10 rest)

-- what stands beside a name
abbrev pub member_of : (name : List ℕ) → List Member → Option Value
member_of name [] = None
member_of name (m ∷ ms) = if bytes_eq m.0 name then Some m.1 else member_of name ms

abbrev pub as_text : Value → Option (List ℕ)
as_text (text_value bytes) = Some bytes
as_text (number_value n) = None

abbrev pub as_number : Value → Option ℕ
as_number (text_value bytes) = None
as_number (number_value n) = Some n

abbrev pub text_of : (name : List ℕ) → List Member → Option (List ℕ)
text_of name ms = member_of name ms >>= as_text

abbrev pub number_of : (name : List ℕ) → List Member → Option ℕ
number_of name ms = member_of name ms >>= as_number

unfoldable pub goal_of : List Member → Option Goal
goal_of ms =
    text_of (codes "function") ms >>= λ f. number_of (codes "number") ms >>= λ n. text_of (codes "check") ms >>= λ c. number_of (codes "line") ms >>= λ l.
    text_of (codes "verdict") ms >>= λ w. verdict_of w >>= λ v.
    Some (record { function = f; number = n; check = c; line = l; verdict = v; formula = text_of (codes "formula") ms })

unfoldable pub goal_at : Reader Goal
goal_at bytes = object_at bytes >>= λ o. with_rest o.1 (goal_of o.0)

-- how many goals, how many of them proved, how many unknown
pub record Totals : Type 0 where
  pub goals : ℕ
  pub proved : ℕ
  pub unknown : ℕ

abbrev pub totals_of : List Goal → Totals
totals_of goals = record { goals = length goals; proved = proved_in goals; unknown = unknown_in goals }

unfoldable pub read_totals : List Member → Option Totals
read_totals ms =
    number_of (codes "goals") ms >>= λ n. number_of (codes "proved") ms >>= λ p. number_of (codes "unknown") ms >>= λ u. Some (record { goals = n; proved = p; unknown = u })

-- as many goals as stand there, and the totals, if nothing stands behind these
abbrev pub at_end : {X : Type 0} → X → List ℕ → Option X
at_end x [] = Some x
at_end x (b ∷ rest) = None

unfoldable pub json_in : List ℕ → Option (List Goal × Totals)
json_in text = let gs = all_of goal_at text in object_at gs.1 >>= λ o. read_totals o.0 >>= λ t. at_end (gs.0, t) o.1

-- ---- a law

abbrev pub is_byte : ℕ → Bool
is_byte b = nat_lt b 256

abbrev pub are_bytes : List ℕ → Bool
are_bytes bytes = list_all is_byte bytes

abbrev pub is_formula : Option (List ℕ) → Bool
is_formula None = true
is_formula (Some formula) = are_bytes formula

-- what a goal in memory has: bytes, and numbers of 32 bits
abbrev pub is_goal : Goal → Bool
is_goal g = are_bytes g.function && (is_number g.number && (are_bytes g.check && (is_number g.line && is_formula g.formula)))

-- the goals and their totals are read back
abbrev pub JsonReadBack : Type 0
JsonReadBack = (goals : List Goal) → list_all is_goal goals ≡ true → is_number (length goals) ≡ true → json_in (json_text goals) ≡ Some (goals, totals_of goals)
