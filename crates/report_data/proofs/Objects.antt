-- Members and objects of JSON: what is written is read.
use Rattle.std.proofs.Common.{◌≡◌, ℕ, Bool, true, ◌&&◌, List, [], ◌∷◌, ◌++◌, map, Option, Some, None, refl, ap, ◌∙◌, arith, append_assoc}
use Rattle.std.specs.List.{list_all}
use Rattle.goal_words.specs.Bytes.{◌>>=◌, expect}
use Rattle.goal_words.proofs.Numerals.{both_true}
use Rattle.report_read.specs.Bytes.{joined, all_of}
use Rattle.report_read.specs.Report.{is_number}
use Rattle.report_read.proofs.Many.{all_read}
use Rattle.report_data.specs.Json.{string, Value, text_value, number_value, Member, value_text, member_text, next_member, object_line, ended, string_at, digit_at, number_at, text_first, value_at, member_at, next_member_at, object_at, are_bytes}
use Rattle.report_data.proofs.Strings.{string_read, number_read, no_string}

-- no digit stands behind a value
abbrev Ends : List ℕ → Type 0
Ends rest = digit_at rest ≡ None

abbrev is_value : Value → Bool
is_value (text_value s) = are_bytes s
is_value (number_value n) = is_number n

abbrev pub is_member : Member → Bool
is_member m = are_bytes m.0 && is_value m.1

value_read : (v : Value) (rest : List ℕ) → is_value v ≡ true → Ends rest → value_at (value_text v ++ rest) ≡ Some (v, rest)
value_read (text_value s) rest h none = ap (λ o. text_first o (number_at (string s ++ rest))) (string_read s rest h)
value_read (number_value n) rest h none = (λ j. text_first (no_string n rest h j) (number_read n rest h none j))

member_read : (m : Member) (rest : List ℕ) → is_member m ≡ true → Ends rest → member_at (member_text m ++ rest) ≡ Some (m, rest)
unfolding member_at member_text
member_read m rest h none =
    let b = both_true (are_bytes m.0) (is_value m.1) h in
    let from : Option (List ℕ × List ℕ) → Option (Member × List ℕ) = λ o. o >>= λ s. expect 58 s.1 >>= λ r. value_at r >>= λ v. Some ((s.0, v.0), v.1) in
    let end : Option (Value × List ℕ) → Option (Member × List ℕ) = λ o. o >>= λ v. Some ((m.0, v.0), v.1) in
    ap (λ bytes. from (string_at bytes)) (append_assoc (string m.0) (58 ∷ value_text m.1) rest) ∙ ap from (string_read m.0 (58 ∷ (value_text m.1 ++ rest)) b.0)
    ∙ ap end (value_read m.1 rest b.1 none)

next_read : (m : Member) (rest : List ℕ) → is_member m ≡ true → Ends rest → next_member_at (next_member m ++ rest) ≡ Some (m, rest)
unfolding next_member_at
next_read m rest h none = member_read m rest h none

-- the object of these members, on its line
pub object_read : (m : Member) (ms : List Member) (rest : List ℕ) → list_all is_member (m ∷ ms) ≡ true → object_at (object_line (m ∷ ms) ++ rest) ≡ Some (m ∷ ms, rest)
unfolding object_at object_line next_member_at
object_read m ms rest h =
    let b = both_true (is_member m) (list_all is_member ms) h in
    let behind = 125 ∷ 10 ∷ rest in
    let others = joined (map next_member ms) in
    let regroup : ((member_text m ++ others) ++ 125 ∷ 10 ∷ []) ++ rest ≡ member_text m ++ (others ++ behind) =
    append_assoc (member_text m ++ others) (125 ∷ 10 ∷ []) rest ∙ append_assoc (member_text m) others behind in
    let end : Member → List Member × List ℕ → Option (List Member × List ℕ) = λ first s. expect 125 s.1 >>= λ r. ended (first ∷ s.0) (expect 10 r) in
    let from : Option (Member × List ℕ) → Option (List Member × List ℕ) = λ o. o >>= λ p. end p.0 (all_of next_member_at p.1) in
    ap (λ bytes. from (member_at bytes)) regroup ∙ ap from (member_read m (others ++ behind) b.0 (follows ms))
    ∙ ap (end m) (all_read next_member_at next_member is_member Ends next_read (λ x r. refl) (λ x. omega arith) ms behind b.1 refl refl)
  where
    follows : (ms : List Member) → Ends (joined (map next_member ms) ++ 125 ∷ 10 ∷ rest)
    follows [] = refl
    follows (m ∷ ms) = refl
