-- Whole runs.
use Rattle.std.proofs.Common.{◌≡◌, ℕ, zero, suc, List, Option, Some, None, refl, ap}
use Rattle.std.specs.Option.{option_map}
use Rattle.c_runs.specs.Told.{Value}
use Rattle.c_runs.specs.Program.{Stmts, Function, Facts, Program}
use Rattle.c_runs.specs.States.{World, Here}
use Rattle.c_runs.specs.Values.{Vals, are, wrongs}
use Rattle.c_runs.specs.Claims.{spent, at_entry, required, entered_well, measure_of, decreased, here_in}
use Rattle.c_runs.specs.Scopes.{arrived}
use Rattle.c_runs.specs.Calls.{Act, unless, turn_by, back_in, keeps_promises, Runner, entered_by, found}
use Rattle.c_runs.specs.Run as sp
use Rattle.c_runs.specs.Core.{Cores}
use Rattle.c_runs.specs.CoreRun.{Ending, begun}
use Rattle.c_runs.specs.CoreRun as core
use Rattle.c_runs.specs.Normal.{normal_function, normal}
use Rattle.c_runs.specs.NormalLaws.{SameOutcome}
use Rattle.c_runs.proofs.Endings.{Like, on, out, once_more, back, halt, round_halt}
use Rattle.c_runs.proofs.Statements.{Deep, level_deep}

same_returned : (f : Function Stmts) {b c : ℕ} {e : Ending} {o : sp.Outcome} → Like b c e o → core.returned (normal_function f) e ≡ sp.returned f o
same_returned f (on x) = refl
same_returned f (out x) = refl
same_returned f (once_more x) = refl
same_returned f (back v x) = refl
same_returned f (halt s) = refl

same_turn : (n : ℕ) (w : World) (f g : Act) → ((w : World) → f w ≡ g w) → turn_by n w f ≡ turn_by n w g
same_turn zero w f g h = refl
same_turn (suc n) w f g h = h (record w { turns = n })

-- calls do the same where bodies do
module _ (p : Facts) (f : Runner Cores) (g : Runner Stmts) (same : (x : Function Stmts) (here : Here) (w : World) → f (normal_function x) here w ≡ g x here w) where
  same_entered : (x : Function Stmts) (here : Here) (vs : List Value) (w : World) → entered_by p f (normal_function x) here vs w ≡ entered_by p g x here vs w
  same_entered x here vs w =
      ap (λ r. unless (entered_well p (at_entry p vs w.memory) x.contract) (keeps_promises p here x.contract (back_in w r))) (same x here (arrived x.variables vs w))

  pub same_found : (here : Here) (n l : ℕ) (o : Option (Function Stmts)) (vs : List Value) (w : World) → found p f here n l (option_map normal_function o) vs w ≡ found p g here n l o vs w
  same_found here n l None vs w = refl
  same_found here n l (Some x) vs w =
      let inside = here_in p n vs w.memory x.contract here.granted in
      ap (λ r. unless (required p l (at_entry p vs w.memory) x.contract) (unless (decreased p l here n (measure_of p (at_entry p vs w.memory) x.contract.decreases)) r))
      (same_turn w.turns w (entered_by p f (normal_function x) inside vs) (entered_by p g x inside vs) (λ u. same_entered x inside vs u))

same_calls : (p : Program Stmts) (dp : sp.Deeper) (dc : core.Deeper) → Deep dp dc → (here : Here) (f l : ℕ) (vs : Vals) (w : World) → core.calls (normal p) dc here f l vs w ≡ sp.calls p dp here f l vs w
same_calls p dp dc deep here f l (wrongs u k) w = refl
same_calls p dp dc deep here f l (are vs) w =
    same_found p.facts (λ x here w. core.returned x (dc (core.body x) here (begun w))) (λ x here w. sp.returned x (dp (sp.body x) here w)) (λ x here w. same_returned x (deep.bodies x here w)) here f l (p.functions f) vs w

level : (p : Program Stmts) (dp : sp.Deeper) (dc : core.Deeper) → Deep dp dc → Deep (sp.task_by p dp) (core.task_by (normal p) dc)
level p dp dc deep = level_deep p dp dc (same_calls p dp dc deep) deep

all_deep : (p : Program Stmts) (n : ℕ) → Deep (sp.levels p n) (core.levels (normal p) n)
unfolding sp.levels core.levels
all_deep p zero =
    level p (λ t here w. sp.stopped (spent w)) (λ t here x. core.stopped (spent x.world)) (record { bodies = λ f here w. halt (spent w); loops = λ xs l last before s step behind n here x. round_halt (spent x.world) })
all_deep p (suc n) = level p (sp.levels p n) (core.levels (normal p) n) (all_deep p n)

pub same_outcome : SameOutcome
same_outcome p f vs m n contents =
    same_calls p (sp.levels p n) (core.levels (normal p) n) (all_deep p n) (sp.outside f p.facts m) f 0 (are vs) (sp.at_first n contents m)
