-- Names that no goal has, and lines that aren't read.
use Rattle.std.proofs.Common.{◌≡◌, ℕ, List, ◌++◌, map, codes, ap, ◌∙◌, append_assoc}
use Rattle.std.specs.Fmt.{decimal}
use Rattle.report_read.specs.Bytes.{joined}
use Rattle.report_view.specs.Answer.{listed, no_name, unread_text}

pub name_put : (sort name : List ℕ) (names : List (List ℕ)) (text one two three four five six : List ℕ) → one ≡ text ++ codes "wpview: no goal has the " → two ≡ one ++ sort → three ≡ two ++ codes " " → four ≡ three ++ name → five ≡ four ++ codes "; there are:"
    → six ≡ five ++ joined (map listed names) → six ≡ text ++ no_name sort name names
unfolding no_name
name_put sort name names text one two three four five six a b c d e f =
    let rest = joined (map listed names) in
    f ∙ ap (λ t. t ++ rest) (e ∙ ap (λ t. t ++ codes "; there are:") (d ∙ ap (λ t. t ++ name) (c ∙ ap (λ t. t ++ codes " ") (b ∙ ap (λ t. t ++ sort) a)))) ∙ simp append_assoc

pub unread_put : (line : ℕ) (text one two three : List ℕ) → one ≡ text ++ codes "not a report line " → two ≡ one ++ decimal line → three ≡ two ++ codes "\n" → three ≡ text ++ unread_text line
unfolding unread_text
unread_put line text one two three a b c = c ∙ ap (λ t. t ++ codes "\n") (b ∙ ap (λ t. t ++ decimal line) a) ∙ simp append_assoc
