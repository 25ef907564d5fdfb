-- The core program of a program, with its checks, has the outcome of the program as spelled.
use Rattle.std.proofs.Common.{◌≡◌, ℕ, true, List, Option, Some, None, sym, ap, ◌∙◌, subst}
use Rattle.std.specs.Option.{option_map}
use Rattle.c_runs.specs.Program as p
use Rattle.c_runs.specs.Core.{Cores}
use Rattle.c_runs.specs.CoreRun as core
use Rattle.c_runs.specs.Normal.{normal, normal_function}
use Rattle.c_runs.specs.NormalLaws.{are_core}
use Rattle.c_runs.proofs.Outcomes.{same_outcome}
use Rattle.c_runs.proofs.Pureness.{all_core}
use Rattle.c_runs.specs.Adding.{add_checks}
use Rattle.c_runs.specs.CheckedLaws.{IsCore}
use Rattle.c_runs.specs.CheckedRun as checked
use Rattle.c_runs.proofs.Running.{checks_keep}
use Rattle.program_trees.specs.View.{view_program}
use Rattle.checks_added.specs.Laws.{ChecksRunAsSpelled}

made_core : (g : Option (p.Function p.Stmts)) (f : p.Function Cores) → option_map normal_function g ≡ Some f → are_core f.body ≡ true
made_core None f e = absurd cc
made_core (Some g) f e =
    let body : Option (p.Function Cores) → Cores = λ o. elim o [ None ↦ f.body | Some h ↦ h.body ] in
    ap are_core (sym (ap body e)) ∙ all_core g.variables g.body

pub is_core_program : (q : p.Program p.Stmts) → IsCore (normal q)
is_core_program q n f e = made_core (q.functions n) f e

pub checks_run_as_spelled : ChecksRunAsSpelled
checks_run_as_spelled q made with_checks h g f vs m n contents =
    let plain = view_program q in
    ap (λ z. checked.run_function z f vs m n contents) (g ∙ ap add_checks h)
    ∙ checks_keep (normal plain) (is_core_program plain) f vs m n contents ∙ same_outcome plain f vs m n contents
