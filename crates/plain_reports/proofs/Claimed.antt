-- What a report says of the program that it is the report of.
use Rattle.std.proofs.Common.{◌≡◌, ℕ, Bool, true, false, List, [], ◌∷◌, map, refl, sym, ap, ◌∙◌, subst, Option, Some}
use Rattle.std.specs.Prelude.{slice_get}
use Rattle.std.specs.List.{list_all}
use Rattle.std.proofs.lemmas.Bool.{false≢true}
use Rattle.wp_base.specs.declared.kinds.Kind.{Kind}
use Rattle.c_kinds.specs.declared.models.Machdep.{Machdep}
use Rattle.typed_unit.specs.Unit as u
use Rattle.qed_terms.specs.declared.verdict.Verdict.{Verdict}
use Rattle.qed_terms.specs.declared.verdict.Verdict.TheVariants as verdict
use Rattle.qed_terms.specs.Tree.{Tree}
use Rattle.qed_terms.specs.Setting.{Setting, Valid}
use Rattle.prover.proofs.Sound.{verdict_valid}
use Rattle.c_runs.specs.Program.{Function}
use Rattle.c_programs.specs.Files.{notes_of, program_of}
use Rattle.c_runs.specs.Tree.{Steps}
use Rattle.walk_steps.specs.State.{In}
use Rattle.walk_steps.specs.Walk.{Goal, formula_of}
use Rattle.program_goals.specs.Programs.{AllValid}
use Rattle.plain_programs.proofs.Variables.{is_found}
use Rattle.goal_report.specs.Report.{Judged, Reported, is_proved, goals_proved}
use Rattle.goal_report.specs.Judging.{IsJudged, AreJudged}
use Rattle.logic_sources.specs.Told.{FunctionGoals, core_of, setting_of_file, texts_of_file, written_of, goals_at, body_goals, file_goals, IsMet, Source}
use Rattle.logic_sources.proofs.Told.{core_found, body_in, valid_goals_of_texts_run_well, goals_of_texts_are_exact}
use Rattle.logic_sources.specs.Built.{names_of}
use Rattle.wp_words.specs.Command.{Wanted}
use Rattle.plain_reports.specs.Reports.{says, IsReported, IsReportOf}
use Rattle.plain_reports.specs.Claims.{goals_in, ProvedGoalsAreValid, AllProved, ReportsClaim}
use Rattle.plain_reports.proofs.Places.{place_of, seen_at, each_at, partner_at, all_at}

-- only one verdict calls a goal proved
called_proved : (v : Verdict) → is_proved v ≡ true → v ≡ verdict.Proved
called_proved verdict.Proved is = refl
called_proved verdict.Open is = absurd (false≢true is)
called_proved verdict.Branches is = absurd (false≢true is)
called_proved verdict.Size is = absurd (false≢true is)

abbrev setting_in : Source → Setting
setting_in s = setting_of_file s.typed s.annots (names_of s)

-- what may be said of a goal in the file's setting: that it is proved, where it is valid
said_valid : (s : Source) (wanted : Wanted) (goal : Tree) (v : Verdict) → says (setting_in s) wanted goal v → v ≡ verdict.Proved → Valid (setting_in s) goal
said_valid s wanted goal v said e = verdict_valid (setting_in s) wanted.fuel wanted.branches goal v said e

module _ (m : Machdep) (wanted : Wanted) (s : Source) (rs : List Reported) (h : IsReportOf m wanted s rs) where
  judged_at : (i : ℕ) (g : FunctionGoals) (r : Reported) → slice_get (goals_in s h.kinds rs) i ≡ Some g → slice_get rs i ≡ Some r → AreJudged (says (setting_in s) wanted) wanted.shows g.goals r.goals
  judged_at i g r at_g at_r = (each_at (IsReported (setting_in s) wanted s.typed) (goals_in s h.kinds rs) rs i g r h.judged at_g at_r).goals

  pub valid : ProvedGoalsAreValid s h.kinds rs
  valid i j g r x said at_g at_r at_x at_said e =
      let j' = each_at (IsJudged (says (setting_in s) wanted) wanted.shows) g.goals r.goals j x said (judged_at i g r at_g at_r) at_x at_said in
      said_valid s wanted (formula_of x) said.verdict j'.verdict e

  -- a goal of a function of which all are called proved
  valid_in : (i : ℕ) (g : FunctionGoals) → slice_get (goals_in s h.kinds rs) i ≡ Some g → ((r : Reported) → slice_get rs i ≡ Some r → goals_proved r.goals ≡ true)
      → (x : Goal) → In x g.goals → Valid (setting_of_file s.typed s.annots (names_of s)) (formula_of x)
  valid_in i g at_g all x among =
      let r = partner_at (IsReported (setting_in s) wanted s.typed) (goals_in s h.kinds rs) rs i g h.judged at_g in
      let js = judged_at i g r.0 at_g r.1 in
      let k = place_of x g.goals among in
      let said = partner_at (IsJudged (says (setting_in s) wanted) wanted.shows) g.goals r.0.goals k.0 x js k.1 in
      let e = all_at (λ (y : Judged). is_proved y.verdict) r.0.goals k.0 said.0 (all r.0 r.1) said.1 in
      valid i k.0 g r.0 x said.0 at_g r.1 k.1 said.1 (called_proved said.0.verdict e)

  all_valid : (reached : ℕ → Bool) → AllProved s h.kinds rs reached
      → AllValid (setting_of_file s.typed s.annots (names_of s)) (core_of s.typed s.annots) (texts_of_file s.typed s.annots (names_of s)) (written_of s.typed s.annots (names_of s) h.kinds) reached
  all_valid reached all n f so e x among =
      let t = s.typed in
      let a = s.annots in
      let c = core_found ((program_of t a).functions n) f e in
      let found = is_found t a n c.0 c.1.0 in
      let b = body_in n t.bodies (notes_of t.parts a.items) found.text found.written in
      let body = found.text.body in
      let k = place_of body t.bodies b.0 in
      let goals = body_goals t a (names_of s) h.kinds body in
      let at_goals = seen_at (body_goals t a (names_of s) h.kinds) body t.bodies k.0 k.1 in
      let here = subst (λ i. In x (goals_at t a (names_of s) h.kinds i ((core_of t a).functions i))) (sym b.1) (subst (λ o. In x (goals_at t a (names_of s) h.kinds n o)) (sym e) among) in
      valid_in k.0 goals at_goals (λ r at_r. all k.0 goals r at_goals at_r (ap reached b.1 ∙ so)) x here

pub reports_claim : ReportsClaim
reports_claim m wanted s rs h = record {
  valid = valid m wanted s rs h;
  correct = λ reached closed all n f so e vs w enters turns contents.
      valid_goals_of_texts_run_well m h.tokens s.tree s.typed s.annots (names_of s) h.kinds h.met reached closed (all_valid m wanted s rs h reached all) n f so e vs w enters turns contents;
  exact = goals_of_texts_are_exact m h.tokens s.tree s.typed s.annots (names_of s) h.kinds h.met;
}
