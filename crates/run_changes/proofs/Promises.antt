-- Where a run returns, what its function promises was tested.
use Rattle.std.proofs.Common.{◌≡◌, ℕ, zero, suc, List, [], Option, Some, None, refl, sym, subst}
use Rattle.c_runs.specs.TruthStates.{Value}
use Rattle.c_runs.specs.Program.{Contract, Stmts, Function, Facts}
use Rattle.c_runs.specs.States.{World, Memory, Here}
use Rattle.c_runs.specs.Claims.{Stop, ensured, at_entry, required, entered_well, measure_of, decreased, here_in}
use Rattle.c_runs.specs.Scopes.{arrived}
use Rattle.c_runs.specs.Calls.{Eval, gives, stops, Act, unless, turn_by, turn, back_in, keeps_promises, Runner, entered_by, called_by, found}
use Rattle.c_runs.specs.Run as spelled
use Rattle.c_runs.specs.Core.{Cores}
use Rattle.c_runs.specs.CoreRun as core
use Rattle.run_changes.specs.Laws.{Promised, RunsKeepPromises, CoreRunsKeepPromises}

module _ (p : Facts) (n : ℕ) (c : Contract) (vs : List Value) (m : Memory) where
  abbrev Kept : Eval → Type 0
  Kept = Promised p n c vs m

  abbrev inside : Here
  inside = here_in p n vs m c []

  promised_unless : (o : Option Stop) (e : Eval) → Kept e → Kept (unless o e)
  promised_unless None e k = k
  promised_unless (Some s) e k = tt

  promised_turn : (turns : ℕ) (w : World) (go : Act) → ((u : World) → Kept (go u)) → Kept (turn_by turns w go)
  promised_turn zero w go k = tt
  promised_turn (suc turns) w go k = k (record w { turns = turns })

  promised_end : (e : Eval) → Kept (keeps_promises p inside c e)
  promised_end (gives v w) = by (ensured p inside w.memory v c) refl
    where
      by : (o : Option Stop) → ensured p inside w.memory v c ≡ o → Kept (unless o (gives v w))
      by None e = e
      by (Some s) e = tt
  promised_end (stops s) = tt

module _ (B : Type 0) (p : Facts) (go : Runner B) where
  promised_call : (here : Here) (n l : ℕ) (f : Function B) (vs : List Value) (w : World) → here.granted ≡ [] → Promised p n f.contract vs w.memory (called_by p go here n l f vs w)
  promised_call here n l f vs w none =
      let c = f.contract in
      let m = w.memory in
      let e = at_entry p vs m in
      let run : Here → Eval = λ i. turn w (entered_by p go f i vs) in
      let least = decreased p l here n (measure_of p e c.decreases) in
      promised_unless p n c vs m (required p l e c) (unless least (run (here_in p n vs m c here.granted)))
      (promised_unless p n c vs m least (run (here_in p n vs m c here.granted))
      (subst (λ gs. Promised p n c vs m (run (here_in p n vs m c gs))) (sym none)
      (promised_turn p n c vs m w.turns w (entered_by p go f (inside p n c vs m) vs)
      (λ u. promised_unless p n c vs m (entered_well p (at_entry p vs u.memory) c) (keeps_promises p (inside p n c vs m) c (back_in u (go f (inside p n c vs m) (arrived f.variables vs u))))
      (promised_end p n c vs m (back_in u (go f (inside p n c vs m) (arrived f.variables vs u))))))))

pub runs_keep_promises : RunsKeepPromises
runs_keep_promises p f b vs m n contents is =
    let go : Runner Stmts = λ g here w. spelled.returned g (spelled.levels p n (spelled.body g) here w) in
    let here = spelled.outside f p.facts m in
    let w = spelled.at_first n contents m in
    subst (λ o. Promised p.facts f b.contract vs m (found p.facts go here f 0 o vs w)) (sym is) (promised_call Stmts p.facts go here f 0 b vs w refl)

pub core_runs_keep_promises : CoreRunsKeepPromises
core_runs_keep_promises p f b vs m n contents is =
    let go : Runner Cores = λ g here w. core.returned g (core.levels p n (core.body g) here (core.begun w)) in
    let here = spelled.outside f p.facts m in
    let w = spelled.at_first n contents m in
    subst (λ o. Promised p.facts f b.contract vs m (found p.facts go here f 0 o vs w)) (sym is) (promised_call Cores p.facts go here f 0 b vs w refl)
