-- The lines of a report, piece by piece.
use Rattle.std.proofs.Common.{◌≡◌, ℕ, List, ◌++◌, Some, None, sym, append_assoc, append-nil}
use Rattle.std.specs.Prelude.{codes}
use Rattle.std.specs.Fmt.{decimal}
use Rattle.qed_terms.specs.declared.verdict.Verdict.{Verdict}
use Rattle.goal_report.specs.Report.{goal_line, text_line, summary_line, hypothesis_line, ignored_line, verdict_name}

pub goal_line_put : (text function check said : List ℕ) (number line : ℕ) (verdict : Verdict) → said ≡ verdict_name verdict
    → ((((((((((text ++ codes "goal ") ++ function) ++ codes " ") ++ decimal number) ++ codes " ") ++ check) ++ codes " line ") ++ decimal line) ++ codes " ") ++ said) ++ codes "\n" ≡ text ++ goal_line function number check line verdict
unfolding goal_line
goal_line_put text function check said number line verdict v = rw v (simp append_assoc)

pub summary_line_put : (text : List ℕ) (goals proved unknown : ℕ) → ((((((text ++ codes "goals ") ++ decimal goals) ++ codes " proved ") ++ decimal proved) ++ codes " unknown ") ++ decimal unknown) ++ codes "\n" ≡ text ++ summary_line goals proved unknown
unfolding summary_line
summary_line_put text goals proved unknown = simp append_assoc

pub text_line_put : (text goal : List ℕ) → ((text ++ codes "  ") ++ goal) ++ codes "\n" ≡ text ++ text_line (Some goal)
unfolding text_line
text_line_put text goal = simp append_assoc

pub no_text_put : (text : List ℕ) → text ≡ text ++ text_line None
unfolding text_line
no_text_put text = sym (append-nil text)

pub hypothesis_put : (text name : List ℕ) → ((text ++ codes "hypothesis no pointer to ") ++ name) ++ codes "\n" ≡ text ++ hypothesis_line name
unfolding hypothesis_line
hypothesis_put text name = simp append_assoc

pub ignored_put : (text : List ℕ) (line : ℕ) → ((text ++ codes "ignored from line ") ++ decimal line) ++ codes "\n" ≡ text ++ ignored_line line
unfolding ignored_line
ignored_put text line = simp append_assoc
