-- The lines of a body's goals.
use Rattle.std.proofs.Common.{◌≡◌, ℕ, ◌+◌, Bool, List, [], ◌++◌, length, Option, Some, None, refl, sym, ap, ◌∙◌, subst, append-nil, arith}
use Rattle.wp_base.specs.declared.kinds.Kind.{Kind}
use Rattle.qed_terms.specs.Setting.{Setting}
use Rattle.typed_unit.specs.Unit as u
use Rattle.c_runs.specs.Program.{Function, Program}
use Rattle.c_runs.specs.Tree.{Steps}
use Rattle.plain_words.specs.Temporaries.{temporaries_in}
use Rattle.program_steps.specs.Terms.{Texts}
use Rattle.slot_names.specs.Bases.{Name}
use Rattle.walk_steps.specs.Walk.{Goal}
use Rattle.goal_report.specs.Report.{Judged, Reported, goal_lines, proved_in}
use Rattle.goal_report.specs.Judging.{AreJudged, AreLines}
use Rattle.plain_goals.specs.Files.{FunctionGoals}
use Rattle.plain_sources.specs.Built.{first_names}
use Rattle.source_goals.specs.Walked.{goals_by, body_goals_by}
use Rattle.wp_words.specs.Command.{Wanted}
use Rattle.plain_reports.specs.Reports.{says, function_name, IsReported}
use Rattle.file_reports.specs.Bases.{function_bases, bases_if, body_bases_by}
use Rattle.file_reports.specs.Lines.{Page, BodyLines, LinesPut, function_goals_by}

-- no goals yet
pub no_lines : (setting : Setting) (wanted : Wanted) (t : u.Typed) (name : List ℕ) → AreLines (says setting wanted) wanted.shows name [] [] 0 0
no_lines setting wanted t name = record { judged = []; are = tt; text_is = refl; goals_is = refl; proved_is = refl }

module _ (wanted : Wanted) (setting : Setting) (t : u.Typed) (q : Program Steps) (texts : Texts) (file : List Name) (kinds : (function number : ℕ) → Kind) (b : u.Body) where
  -- of a function that isn't there
  pub none_put : (page : Page) → q.functions b.function ≡ None → BodyLines setting wanted t (body_goals_by setting t q texts file kinds b) page page
  none_put page none =
      let gs : goals_by setting t q texts file kinds b.function (q.functions b.function) ≡ [] = ap (goals_by setting t q texts file kinds b.function) none in
      let is : AreJudged (says setting wanted) wanted.shows (goals_by setting t q texts file kinds b.function (q.functions b.function)) [] =
      subst (λ (xs : List Goal). AreJudged (says setting wanted) wanted.shows xs []) (sym gs) tt in
      record {
        reported = record { name = function_name t b.function; goals = [] };
        is = record { name = refl; goals = is };
        text = sym (append-nil page.text);
        goals = omega arith;
        proved = omega arith;
      }

  -- of one that is walked
  pub lines_put : (f : Function Steps) (bases : List Name) (before after : Page) → q.functions b.function ≡ Some f → bases ≡ body_bases_by t q file b
      → LinesPut setting wanted t b.function (function_goals_by setting q texts b.function f (temporaries_in f.body) (kinds b.function) bases) before after
      → BodyLines setting wanted t (body_goals_by setting t q texts file kinds b) before after
  lines_put f bases before after some based lines =
      let own : bases ≡ function_bases file (first_names b.function t.bodies) f = based ∙ ap (bases_if file (first_names b.function t.bodies)) some in
      let gs : function_goals_by setting q texts b.function f (temporaries_in f.body) (kinds b.function) bases ≡ goals_by setting t q texts file kinds b.function (q.functions b.function) =
      ap (λ (xs : List Name). function_goals_by setting q texts b.function f (temporaries_in f.body) (kinds b.function) xs) own ∙ sym (ap (goals_by setting t q texts file kinds b.function) some) in
      record {
        reported = record { name = function_name t b.function; goals = lines.judged };
        is = record { name = refl; goals = subst (λ (xs : List Goal). AreJudged (says setting wanted) wanted.shows xs lines.judged) gs lines.are };
        text = lines.text;
        goals = lines.goals;
        proved = lines.proved;
      }

-- the lines of a function, put behind those before
pub put_behind : (setting : Setting) (wanted : Wanted) (t : u.Typed) (number : ℕ) (gs : List Goal) (name text : List ℕ) (goals proved : ℕ) (before after : Page) → name ≡ function_name t number → AreLines (says setting wanted) wanted.shows name gs text goals proved
    → after.text ≡ before.text ++ text → after.goals ≡ before.goals + goals → after.proved ≡ before.proved + proved → LinesPut setting wanted t number gs before after
put_behind setting wanted t number gs name text goals proved before after named lines t_is g_is p_is = record {
  judged = lines.judged;
  are = lines.are;
  text = t_is ∙ ap (λ x. before.text ++ x) lines.text_is ∙ ap (λ x. before.text ++ goal_lines x 1 lines.judged) named;
  goals = g_is ∙ ap (λ n. before.goals + n) lines.goals_is;
  proved = p_is ∙ ap (λ n. before.proved + n) lines.proved_is;
}
