-- The core program that is made of a program has its outcomes.
use Rattle.std.proofs.Common.{◌≡◌, ℕ, true, Option, Some, None, sym, ap, ◌∙◌}
use Rattle.std.specs.Option.{option_map}
use Rattle.c_runs.specs.Program as p
use Rattle.c_runs.specs.Core.{Cores}
use Rattle.c_runs.specs.CoreRun as core
use Rattle.c_runs.specs.Normal.{normal_function}
use Rattle.c_runs.specs.NormalLaws.{are_core}
use Rattle.c_runs.proofs.Outcomes.{same_outcome}
use Rattle.c_runs.proofs.Pureness.{all_core}
use Rattle.program_trees.specs.View.{view_program}
use Rattle.normal_programs.specs.Laws.{CoreRunsAsSpelled}

made_core : (g : Option (p.Function p.Stmts)) (f : p.Function Cores) → option_map normal_function g ≡ Some f → are_core f.body ≡ true
made_core None f e = absurd cc
made_core (Some g) f e =
    let body : Option (p.Function Cores) → Cores = λ o. elim o [ None ↦ f.body | Some h ↦ h.body ] in
    ap are_core (sym (ap body e)) ∙ all_core g.variables g.body

pub core_runs_as_spelled : CoreRunsAsSpelled
core_runs_as_spelled q made e = record {
  outcome = λ f vs m n contents. ap (λ z. core.run_function z f vs m n contents) e ∙ same_outcome (view_program q) f vs m n contents;
  pure = λ k f is. made_core ((view_program q).functions k) f (sym (ap (λ (z : p.Program Cores). z.functions k) e) ∙ is);
}
