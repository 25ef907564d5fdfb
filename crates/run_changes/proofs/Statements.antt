-- Statements as they are spelled, and whole runs of them.
use Rattle.std.proofs.Common.{ℕ, zero, suc, ℤ, Bool, true, false, if◌then◌else◌, List, Option, Some, None}
use Rattle.wp_base.specs.declared.kinds.CellKind.{CellKind}
use Rattle.typed_prog.specs.Tree as tree
use Rattle.c_runs.specs.TruthStates.{Value, number_of}
use Rattle.c_runs.specs.Program.{Loop, Stmt, evaluate, block, initial, choose, loop, switch, case_of, default, break, continue, return_of, assert, Stmts, stop, more, Variable, Function, Program}
use Rattle.c_runs.specs.States.{World, Memory, Here, is_nonzero}
use Rattle.c_runs.specs.Values.{Vals, are, wrongs}
use Rattle.c_runs.specs.Claims as claim
use Rattle.c_runs.specs.Claims.{Stop, spent, unless_true, holds, in_body, measure_of, at_head, in_loop}
use Rattle.c_runs.specs.Scopes.{entered}
use Rattle.c_runs.specs.Calls.{Eval, gives, stops}
use Rattle.c_runs.specs.Effects.{initial_act}
use Rattle.c_runs.specs.Run.{Outcome, goes_on, breaks, continues, returns, stopped, ran, then_do, scope_left, unless, one_turn, after_body, after_switch, label_of, Task, body, again, Deeper, ended, returned, calls, evaluated, tested, stepped, gives_back, pass, exec, exec_all, exec_from, task_by, levels}
use Rattle.run_changes.proofs.Worlds.{KeptWorld, KeptStop, KeptEval, IsBounded, bounded_loop, kept_entered, kept_left, kept_initial}
use Rattle.run_changes.proofs.Memories.{Kept}
use Rattle.run_changes.proofs.Calls.{KeptOption, told_true, told_head, KeptAct, kept_found}
use Rattle.run_changes.proofs.Expressions.{kept_run}

module _ (rs : List Value) (before : Memory) where
  abbrev KeptOutcome : Outcome → Type 0
  KeptOutcome (goes_on w) = KeptWorld rs before w
  KeptOutcome (breaks w) = KeptWorld rs before w
  KeptOutcome (continues w) = KeptWorld rs before w
  KeptOutcome (returns v w) = KeptWorld rs before w
  KeptOutcome (stopped s) = KeptStop rs before s

  abbrev KeepsOn : (World → Outcome) → Type 0
  KeepsOn go = (w : World) → KeptWorld rs before w → KeptOutcome (go w)

  abbrev pub AllKeep : Deeper → Type 0
  AllKeep deeper = (t : Task) (here : Here) → IsBounded rs before here.granted → KeepsOn (deeper t here)

  -- ---- one after the other

  kept_ran : (e : Eval) (go : Value → World → Outcome) → KeptEval rs before e → ((v : Value) → KeepsOn (go v)) → KeptOutcome (ran e go)
  kept_ran (gives v w) go k h = h v w k
  kept_ran (stops s) go k h = k

  kept_then : (o : Outcome) (go : World → Outcome) → KeptOutcome o → KeepsOn go → KeptOutcome (then_do o go)
  kept_then (goes_on w) go k h = h w k
  kept_then (breaks w) go k h = k
  kept_then (continues w) go k h = k
  kept_then (returns v w) go k h = k
  kept_then (stopped s) go k h = k

  kept_scope : (m : Memory) (ys : List ℕ) (o : Outcome) → Kept rs before m → KeptOutcome o → KeptOutcome (scope_left m ys o)
  kept_scope m ys (goes_on w) a k = kept_left rs before m ys w a k
  kept_scope m ys (breaks w) a k = kept_left rs before m ys w a k
  kept_scope m ys (continues w) a k = kept_left rs before m ys w a k
  kept_scope m ys (returns v w) a k = kept_left rs before m ys w a k
  kept_scope m ys (stopped s) a k = k

  kept_unless : (t : Option Stop) (o : Outcome) → KeptOption rs before t → KeptOutcome o → KeptOutcome (unless t o)
  kept_unless None o t k = k
  kept_unless (Some s) o t k = t

  kept_one_turn : (n : ℕ) (w : World) (go : World → Outcome) → KeptWorld rs before w → KeepsOn go → KeptOutcome (one_turn n w go)
  kept_one_turn zero w go a k = a.memory
  kept_one_turn (suc n) w go a k = k (record w { turns = n }) (record { memory = a.memory; homes = a.homes })

  kept_after : (o : Outcome) (go : World → Outcome) → KeptOutcome o → KeepsOn go → KeptOutcome (after_body o go)
  kept_after (goes_on w) go k h = h w k
  kept_after (continues w) go k h = h w k
  kept_after (breaks w) go k h = k
  kept_after (returns v w) go k h = k
  kept_after (stopped s) go k h = k

  kept_switch : (o : Outcome) → KeptOutcome o → KeptOutcome (after_switch o)
  kept_switch (breaks w) k = k
  kept_switch (goes_on w) k = k
  kept_switch (continues w) k = k
  kept_switch (returns v w) k = k
  kept_switch (stopped s) k = k

  kept_if : (t : Bool) (a b : Outcome) → KeptOutcome a → KeptOutcome b → KeptOutcome (if t then a else b)
  kept_if true a b x y = x
  kept_if false a b x y = y

  -- ---- bodies of functions

  kept_ended : (result : Option CellKind) (l : ℕ) (w : World) → KeptWorld rs before w → KeptEval rs before (ended result l w)
  kept_ended None l w k = k
  kept_ended (Some r) l w k = tt

  kept_returned : (f : Function Stmts) (o : Outcome) → KeptOutcome o → KeptEval rs before (returned f o)
  kept_returned f (returns v w) k = k
  kept_returned f (stopped s) k = k
  kept_returned f (goes_on w) k = kept_ended f.result f.end w k
  kept_returned f (breaks w) k = kept_ended f.result f.end w k
  kept_returned f (continues w) k = kept_ended f.result f.end w k

  module _ (p : Program Stmts) (deeper : Deeper) (below : AllKeep deeper) where
    pub kept_bodies : (f : Function Stmts) (here : Here) → IsBounded rs before here.granted → KeptAct rs before (λ w. returned f (deeper (body f) here w))
    kept_bodies f here i w a = kept_returned f (deeper (body f) here w) (below (body f) here i w a)

    kept_calls : (here : Here) → IsBounded rs before here.granted → (f l : ℕ) (vs : Vals) → KeptAct rs before (calls p deeper here f l vs)
    kept_calls here i f l (wrongs u k) w a = tt
    kept_calls here i f l (are vs) w a = kept_found rs before Stmts p.facts (λ f here w. returned f (deeper (body f) here w)) kept_bodies here f l (p.functions f) vs i w a

    module _ (xs : List Variable) where
      kept_value : (here : Here) → IsBounded rs before here.granted → (e : tree.Value) → KeptAct rs before (evaluated p deeper xs here e)
      kept_value here i e = kept_run rs before p.facts xs here i (calls p deeper here) (kept_calls here i) e

      kept_tested : (here : Here) → IsBounded rs before here.granted → (e : Option tree.Value) (w : World) (go : World → Outcome) → KeptWorld rs before w → KeepsOn go → KeptOutcome (tested p deeper xs here e w go)
      kept_tested here i None w go a k = k w a
      kept_tested here i (Some e) w go a k =
          kept_ran (evaluated p deeper xs here e w) (λ x w. if is_nonzero x then go w else goes_on w) (kept_value here i e w a) (λ x u j. kept_if (is_nonzero x) (go u) (goes_on u) (k u j) j)

      kept_stepped : (here : Here) → IsBounded rs before here.granted → (e : Option tree.Value) (w : World) (go : World → Outcome) → KeptWorld rs before w → KeepsOn go → KeptOutcome (stepped p deeper xs here e w go)
      kept_stepped here i None w go a k = k w a
      kept_stepped here i (Some e) w go a k = kept_ran (evaluated p deeper xs here e w) (λ x w. go w) (kept_value here i e w a) (λ x u j. k u j)

      kept_given : (here : Here) → IsBounded rs before here.granted → (e : Option tree.Value) → KeepsOn (gives_back p deeper xs here e)
      kept_given here i None w a = a
      kept_given here i (Some e) w a = kept_ran (evaluated p deeper xs here e w) returns (kept_value here i e w a) (λ v u j. j)

      kept_pass : (here : Here) → IsBounded rs before here.granted → (l : Loop) (last : Option ℤ) (first : Option tree.Value) (run_body : World → Outcome) (step behind : Option tree.Value)
          (later : Option ℤ → World → Outcome) → KeepsOn run_body → ((m : Option ℤ) → KeepsOn (later m)) → KeepsOn (pass p deeper xs here l last first run_body step behind later)
      kept_pass here i l last first run_body step behind later kb kl w a =
          let m = measure_of p.facts (in_body p.facts here w) l.variant in
          kept_unless (at_head p.facts (in_body p.facts here w) l last) _ (told_head rs before p.facts (in_body p.facts here w) l last)
          (kept_one_turn w.turns w _ a
          (λ v j. kept_tested here i first v (λ v. after_body (run_body v) (λ v. stepped p deeper xs here step v (λ v. tested p deeper xs here behind v (later m)))) j
          (λ v j. kept_after (run_body v) (λ v. stepped p deeper xs here step v (λ v. tested p deeper xs here behind v (later m))) (kb v j)
          (λ v j. kept_stepped here i step v (λ v. tested p deeper xs here behind v (later m)) j
          (λ v j. kept_tested here i behind v (later m) j (kl m))))))

      mutual
        kept_exec : (here : Here) → IsBounded rs before here.granted → (s : Stmt) → KeepsOn (exec p deeper xs here s)
        kept_exec here i (evaluate e) w a = kept_ran (evaluated p deeper xs here e w) (λ v w. goes_on w) (kept_value here i e w a) (λ v u j. j)
        kept_exec here i (block ys ss) w a =
            kept_scope w.memory ys (exec_all p deeper xs here ss (entered p.facts xs ys w)) a.memory (kept_all here i ss (entered p.facts xs ys w) (kept_entered rs before p.facts xs ys w a))
        kept_exec here i (initial x line e) w a =
            kept_ran (evaluated p deeper xs here e w) (λ v w. goes_on (initial_act xs x v w)) (kept_value here i e w a) (λ v u j. kept_initial rs before xs x v u j)
        kept_exec here i (choose e s t) w a =
            kept_ran (evaluated p deeper xs here e w) (λ x w. if is_nonzero x then exec p deeper xs here s w else exec p deeper xs here t w) (kept_value here i e w a)
            (λ x u j. kept_if (is_nonzero x) (exec p deeper xs here s u) (exec p deeper xs here t u) (kept_exec here i s u j) (kept_exec here i t u j))
        kept_exec here i (loop l first s step behind) w a =
            let inside = in_loop p.facts here l w in
            let j = bounded_loop rs before p.facts here l w i in
            kept_pass inside j l None first (exec p deeper xs inside s) step behind (λ last. deeper (again xs l last first s step behind) inside)
            (kept_exec inside j s) (λ last. below (again xs l last first s step behind) inside j) w a
        kept_exec here i (switch e ss) w a =
            kept_ran (evaluated p deeper xs here e w) (λ v w. after_switch (exec_from p deeper xs here (label_of (number_of v) ss) ss w)) (kept_value here i e w a)
            (λ v u j. kept_switch (exec_from p deeper xs here (label_of (number_of v) ss) ss u) (kept_from here i (label_of (number_of v) ss) ss u j))
        kept_exec here i (case_of z) w a = a
        kept_exec here i default w a = a
        kept_exec here i break w a = a
        kept_exec here i continue w a = a
        kept_exec here i (return_of e) w a = kept_given here i e w a
        kept_exec here i (assert c) w a =
            kept_unless (unless_true (holds p.facts (in_body p.facts here w) c.what) claim.assert c.line) (goes_on w) (told_true rs before (holds p.facts (in_body p.facts here w) c.what) claim.assert c.line) a

        kept_all : (here : Here) → IsBounded rs before here.granted → (ss : Stmts) → KeepsOn (exec_all p deeper xs here ss)
        kept_all here i stop w a = a
        kept_all here i (more s ss) w a = kept_then (exec p deeper xs here s w) (exec_all p deeper xs here ss) (kept_exec here i s w a) (kept_all here i ss)

        kept_from : (here : Here) → IsBounded rs before here.granted → (q : Stmt → Bool) (ss : Stmts) → KeepsOn (exec_from p deeper xs here q ss)
        kept_from here i q stop w a = a
        kept_from here i q (more s ss) w a = kept_if (q s) (exec_all p deeper xs here ss w) (exec_from p deeper xs here q ss w) (kept_all here i ss w a) (kept_from here i q ss w a)

    kept_task : AllKeep (task_by p deeper)
    kept_task (body f) here i w a = kept_all f.variables here i f.body w a
    kept_task (again xs l last first s step behind) here i w a =
        kept_pass xs here i l last first (exec p deeper xs here s) step behind (λ last. deeper (again xs l last first s step behind) here)
        (kept_exec xs here i s) (λ last. below (again xs l last first s step behind) here i) w a

  pub kept_levels : (p : Program Stmts) (n : ℕ) → AllKeep (levels p n)
  unfolding levels
  kept_levels p zero = kept_task p (λ t here w. stopped (spent w)) (λ t here i w a. a.memory)
  kept_levels p (suc n) = kept_task p (levels p n) (kept_levels p n)
