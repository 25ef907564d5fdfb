-- Pieces put one behind another.
use Rattle.std.proofs.Common.{◌≡◌, ℕ, ◌+◌, ◌-◌, List, [], ◌∷◌, ◌++◌, length, codes, replicate, ap, ◌∙◌, append_assoc}
use Rattle.std.proofs.lemmas.List.{replicate_more}
use Rattle.std.specs.Fmt.{decimal}
use Rattle.report_read.specs.Report.{Goal}
use Rattle.view_text.specs.Text.{padded, source_line, margin, word_behind, word_below, verdict_text, goal_name, goal_text, some_formula, missing_line, hypothesis_note, ignored_note, row}
use Rattle.std.specs.Prelude.{Bool}

pub space_more : (n : ℕ) (start before after : List ℕ) → before ≡ start ++ replicate n 32 → after ≡ before ++ 32 ∷ [] → after ≡ start ++ replicate (n + 1) 32
space_more n start before after b a = a ∙ ap (λ t. t ++ 32 ∷ []) b ∙ append_assoc start (replicate n 32) (32 ∷ []) ∙ ap (λ r. start ++ r) (replicate_more n 32)

pub padded_put : (text : List ℕ) (w n : ℕ) → (text ++ replicate (w - length (decimal n)) 32) ++ decimal n ≡ text ++ padded w n
unfolding padded
padded_put text w n = append_assoc text (replicate (w - length (decimal n)) 32) (decimal n)

pub line_put : (text : List ℕ) (n : ℕ) (line : List ℕ) → (((text ++ padded 6 n) ++ codes " | ") ++ line) ++ codes "\n" ≡ text ++ source_line n line
unfolding source_line
line_put text n line = simp append_assoc

pub behind_put : (text word : List ℕ) → (text ++ codes " ") ++ word ≡ text ++ word_behind word
behind_put text word = simp append_assoc

pub below_put : (text word : List ℕ) → (((text ++ codes "\n") ++ margin) ++ codes "  ") ++ word ≡ text ++ word_below word
below_put text word = simp append_assoc

pub name_put : (g : Goal) (text one two three four five six seven : List ℕ) → one ≡ text ++ margin → two ≡ one ++ g.function → three ≡ two ++ codes " " → four ≡ three ++ decimal g.number → five ≡ four ++ codes " " → six ≡ five ++ g.check → seven ≡ six ++ codes ": "
    → seven ≡ text ++ goal_name g
unfolding goal_name
name_put g text one two three four five six seven a b c d e f h =
    h ∙ ap (λ t. t ++ codes ": ") (f ∙ ap (λ t. t ++ g.check) (e ∙ ap (λ t. t ++ codes " ") (d ∙ ap (λ t. t ++ decimal g.number) (c ∙ ap (λ t. t ++ codes " ") (b ∙ ap (λ t. t ++ g.function) a)))))
    ∙ simp append_assoc

pub goal_put : (color : Bool) (g : Goal) (text one two three four : List ℕ) → one ≡ text ++ goal_name g → two ≡ one ++ verdict_text color g.verdict → three ≡ two ++ some_formula g.formula → four ≡ three ++ codes "\n"
    → four ≡ text ++ goal_text color g
unfolding goal_text
goal_put color g text one two three four a b c d =
    d ∙ ap (λ t. t ++ codes "\n") (c ∙ ap (λ t. t ++ some_formula g.formula) (b ∙ ap (λ t. t ++ verdict_text color g.verdict) a)) ∙ simp append_assoc

pub missing_put : (text : List ℕ) (line : ℕ) → (((text ++ margin) ++ codes "line ") ++ decimal line) ++ codes ", which the source hasn't:\n" ≡ text ++ missing_line line
unfolding missing_line
missing_put text line = simp append_assoc

pub hypothesis_put : (name text one two three four : List ℕ) → one ≡ text ++ margin → two ≡ one ++ codes "hypothesis no pointer to " → three ≡ two ++ name → four ≡ three ++ codes "\n" → four ≡ text ++ hypothesis_note name
unfolding hypothesis_note
hypothesis_put name text one two three four a b c d =
    d ∙ ap (λ t. t ++ codes "\n") (c ∙ ap (λ t. t ++ name) (b ∙ ap (λ t. t ++ codes "hypothesis no pointer to ") a)) ∙ simp append_assoc

pub ignored_put : (line : ℕ) (text one two three four : List ℕ) → one ≡ text ++ margin → two ≡ one ++ codes "ignored from line " → three ≡ two ++ decimal line → four ≡ three ++ codes "\n" → four ≡ text ++ ignored_note line
unfolding ignored_note
ignored_put line text one two three four a b c d =
    d ∙ ap (λ t. t ++ codes "\n") (c ∙ ap (λ t. t ++ decimal line) (b ∙ ap (λ t. t ++ codes "ignored from line ") a)) ∙ simp append_assoc

pub seven_put : (text : List ℕ) (goals proved unknown : ℕ) (name : List ℕ)
    → ((((((text ++ margin) ++ padded 7 goals) ++ padded 8 proved) ++ padded 8 unknown) ++ codes " ") ++ name) ++ codes "\n" ≡ text ++ row goals proved unknown name
unfolding row
seven_put text goals proved unknown name = simp append_assoc
