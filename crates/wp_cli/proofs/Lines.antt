-- The line that refuses a text, piece by piece.
use Rattle.std.proofs.Common.{◌≡◌, ℕ, List, ◌++◌, append_assoc}
use Rattle.std.specs.Prelude.{codes}
use Rattle.std.specs.Fmt.{decimal}
use Rattle.wp_base.specs.declared.answers.Refusal.{Refusal}
use Rattle.wp_base.specs.Answers.{number_of, name_of}
use Rattle.wp_cli.specs.Report.{refusal_line}

pub refusal_line_put : (text name : List ℕ) (line number : ℕ) (r : Refusal) → line ≡ r.line → number ≡ number_of r.rule → name ≡ name_of r.rule
    → ((((((text ++ codes "refused line ") ++ decimal line) ++ codes ": ") ++ decimal number) ++ codes " ") ++ name) ++ codes "\n" ≡ text ++ refusal_line r
unfolding refusal_line
refusal_line_put text name line number r l n m = rw (l, n, m) (simp append_assoc)
