-- Statements of core programs, and whole runs of them.
use Rattle.std.proofs.Common.{ℕ, zero, suc, ℤ, Bool, true, false, if◌then◌else◌, List, Option, Some, None}
use Rattle.wp_base.specs.declared.kinds.CellKind.{CellKind}
use Rattle.typed_prog.specs.declared.types.CoreType.{CoreType}
use Rattle.typed_prog.specs.declared.operators.Path.{Path}
use Rattle.typed_prog.specs.Tree as tree
use Rattle.c_runs.specs.TruthStates.{Value}
use Rattle.c_runs.specs.Program.{Loop, Variable, Function, Program}
use Rattle.c_runs.specs.States.{World, Memory, Here, is_nonzero}
use Rattle.c_runs.specs.Operators.{Val, is, wrong}
use Rattle.c_runs.specs.Values.{Vals, are, wrongs}
use Rattle.c_runs.specs.Claims as claims
use Rattle.c_runs.specs.Claims.{Stop, spent, unless_true, holds, in_body, measure_of, at_head, in_loop}
use Rattle.c_runs.specs.Scopes.{entered}
use Rattle.c_runs.specs.Calls.{Eval, gives, stops}
use Rattle.c_runs.specs.Effects.{write, wrote_act, assign_act, initial_act}
use Rattle.c_runs.specs.Run as spelled
use Rattle.c_runs.specs.Core.{Target, nowhere, temporary, place, variable, Core, set, store, start, call, branch, repeat, around, exit, give, claim, scope, Cores, end, then_}
use Rattle.c_runs.specs.CoreRun.{CoreWorld, Ending, goes_on, exits, returns, stopped, then_do, with_val, with_eval, in_world, with_temp, block_end, scope_end, unless, one_turn, Task, body, again, Deeper, returned, begun, calls, eval, evals, to_place, result_to, pass, gives_back, exec, exec_all, task_by, levels}
use Rattle.run_changes.proofs.Memories.{Kept}
use Rattle.run_changes.proofs.Worlds.{KeptWorld, KeptStop, KeptEval, IsBounded, bounded_loop, kept_entered, kept_left, kept_initial, kept_stores, kept_assign}
use Rattle.run_changes.proofs.Calls.{KeptOption, told_true, told_head, KeptAct, kept_found}

module _ (rs : List Value) (before : Memory) where
  abbrev KeptEnding : Ending → Type 0
  KeptEnding (goes_on c) = KeptWorld rs before c.world
  KeptEnding (exits k c) = KeptWorld rs before c.world
  KeptEnding (returns v c) = KeptWorld rs before c.world
  KeptEnding (stopped s) = KeptStop rs before s

  abbrev KeepsOn : (CoreWorld → Ending) → Type 0
  KeepsOn go = (c : CoreWorld) → KeptWorld rs before c.world → KeptEnding (go c)

  abbrev pub AllKeep : Deeper → Type 0
  AllKeep deeper = (t : Task) (here : Here) → IsBounded rs before here.granted → KeepsOn (deeper t here)

  -- ---- one after the other

  kept_then : (o : Ending) (go : CoreWorld → Ending) → KeptEnding o → KeepsOn go → KeptEnding (then_do o go)
  kept_then (goes_on c) go k h = h c k
  kept_then (exits n c) go k h = k
  kept_then (returns v c) go k h = k
  kept_then (stopped s) go k h = k

  kept_val : (t : Val) (go : Value → Ending) → ((v : Value) → KeptEnding (go v)) → KeptEnding (with_val t go)
  kept_val (is v) go h = h v
  kept_val (wrong u l) go h = tt

  kept_eval : (e : Eval) (go : Value → World → Ending) → KeptEval rs before e → ((v : Value) (w : World) → KeptWorld rs before w → KeptEnding (go v w)) → KeptEnding (with_eval e go)
  kept_eval (gives v w) go k h = h v w k
  kept_eval (stops s) go k h = k

  kept_block : (o : Ending) → KeptEnding o → KeptEnding (block_end o)
  kept_block (goes_on c) k = k
  kept_block (exits zero c) k = k
  kept_block (exits (suc n) c) k = k
  kept_block (returns v c) k = k
  kept_block (stopped s) k = k

  kept_scope : (m : Memory) (ys : List ℕ) (o : Ending) → Kept rs before m → KeptEnding o → KeptEnding (scope_end m ys o)
  kept_scope m ys (goes_on c) a k = kept_left rs before m ys c.world a k
  kept_scope m ys (exits n c) a k = kept_left rs before m ys c.world a k
  kept_scope m ys (returns v c) a k = kept_left rs before m ys c.world a k
  kept_scope m ys (stopped s) a k = k

  kept_unless : (t : Option Stop) (o : Ending) → KeptOption rs before t → KeptEnding o → KeptEnding (unless t o)
  kept_unless None o t k = k
  kept_unless (Some s) o t k = t

  kept_one_turn : (n : ℕ) (c : CoreWorld) (go : CoreWorld → Ending) → KeptWorld rs before c.world → KeepsOn go → KeptEnding (one_turn n c go)
  kept_one_turn zero c go a k = a.memory
  kept_one_turn (suc n) c go a k = k (in_world c (record c.world { turns = n })) (record { memory = a.memory; homes = a.homes })

  kept_if : (t : Bool) (a b : Ending) → KeptEnding a → KeptEnding b → KeptEnding (if t then a else b)
  kept_if true a b x y = x
  kept_if false a b x y = y

  -- ---- bodies of functions

  kept_ended : (result : Option CellKind) (l : ℕ) (w : World) → KeptWorld rs before w → KeptEval rs before (spelled.ended result l w)
  kept_ended None l w k = k
  kept_ended (Some r) l w k = tt

  kept_returned : (f : Function Cores) (o : Ending) → KeptEnding o → KeptEval rs before (returned f o)
  kept_returned f (returns v c) k = k
  kept_returned f (stopped s) k = k
  kept_returned f (goes_on c) k = kept_ended f.result f.end c.world k
  kept_returned f (exits n c) k = kept_ended f.result f.end c.world k

  module _ (p : Program Cores) (deeper : Deeper) (below : AllKeep deeper) where
    pub kept_bodies : (f : Function Cores) (here : Here) → IsBounded rs before here.granted → KeptAct rs before (λ w. returned f (deeper (body f) here (begun w)))
    kept_bodies f here i w a = kept_returned f (deeper (body f) here (begun w)) (below (body f) here i (begun w) a)

    kept_calls : (here : Here) → IsBounded rs before here.granted → (f l : ℕ) (vs : Vals) → KeptAct rs before (calls p deeper here f l vs)
    kept_calls here i f l (wrongs u k) w a = tt
    kept_calls here i f l (are vs) w a = kept_found rs before Cores p.facts (λ f here w. returned f (deeper (body f) here (begun w))) kept_bodies here f l (p.functions f) vs i w a

    module _ (xs : List Variable) where
      kept_place : (here : Here) → IsBounded rs before here.granted → (type : CoreType) (l : ℕ) (path : Path) (v : Value) (c : CoreWorld) (vs : Vals) → KeptWorld rs before c.world
          → KeptEnding (to_place p deeper xs here type l path v c vs)
      kept_place here i type l path v c (are vs) a =
          kept_eval (wrote_act v (write p.facts xs here l type path c.world vs v)) (λ z w. goes_on (in_world c w)) (kept_stores rs before here i p.facts xs l type path v v vs c.world a) (λ z w k. k)
      kept_place here i type l path v c (wrongs u k) a = tt

      kept_result : (here : Here) → IsBounded rs before here.granted → (to : Target) (v : Value) (c : CoreWorld) → KeptWorld rs before c.world → KeptEnding (result_to p deeper xs here to v c)
      kept_result here i nowhere v c a = a
      kept_result here i (temporary n) v c a = a
      kept_result here i (place type l path es) v c a = kept_place here i type l path v c (evals p deeper xs c es) a
      kept_result here i (variable x) v c a = kept_initial rs before xs x v c.world a

      kept_given : (e : Option tree.Value) → KeepsOn (gives_back p deeper xs e)
      kept_given None c a = a
      kept_given (Some e) c a = kept_val (eval p deeper xs c e) (λ v. returns v c) (λ v. a)

      kept_pass : (here : Here) (l : Loop) (last : Option ℤ) (run_body : CoreWorld → Ending) (later : Option ℤ → CoreWorld → Ending) → KeepsOn run_body → ((m : Option ℤ) → KeepsOn (later m))
          → KeepsOn (pass p deeper xs here l last run_body later)
      kept_pass here l last run_body later kb kl c a =
          let m = measure_of p.facts (in_body p.facts here c.world) l.variant in
          kept_unless (at_head p.facts (in_body p.facts here c.world) l last) (one_turn c.world.turns c (λ d. then_do (run_body d) (later m)))
          (told_head rs before p.facts (in_body p.facts here c.world) l last)
          (kept_one_turn c.world.turns c (λ d. then_do (run_body d) (later m)) a (λ d j. kept_then (run_body d) (later m) (kb d j) (kl m)))

      mutual
        kept_exec : (here : Here) → IsBounded rs before here.granted → (s : Core) → KeepsOn (exec p deeper xs here s)
        kept_exec here i (set n e) c a = kept_val (eval p deeper xs c e) (λ v. goes_on (with_temp n v c)) (λ v. a)
        kept_exec here i (store type l path es) c a =
            kept_eval (assign_act p.facts xs here l type path (evals p deeper xs c es) c.world) (λ v w. goes_on (in_world c w))
            (kept_assign rs before here i p.facts xs l type path (evals p deeper xs c es) c.world a) (λ v w k. k)
        kept_exec here i (start x e) c a = kept_val (eval p deeper xs c e) (λ v. goes_on (in_world c (initial_act xs x v c.world))) (λ v. kept_initial rs before xs x v c.world a)
        kept_exec here i (call to f l es) c a =
            kept_eval (calls p deeper here f l (evals p deeper xs c es) c.world) (λ v w. result_to p deeper xs here to v (in_world c w)) (kept_calls here i f l (evals p deeper xs c es) c.world a)
            (λ v w k. kept_result here i to v (in_world c w) k)
        kept_exec here i (branch e s t) c a =
            kept_val (eval p deeper xs c e) (λ v. if is_nonzero v then exec_all p deeper xs here s c else exec_all p deeper xs here t c)
            (λ v. kept_if (is_nonzero v) (exec_all p deeper xs here s c) (exec_all p deeper xs here t c) (kept_all here i s c a) (kept_all here i t c a))
        kept_exec here i (repeat l ss) c a =
            let inside = in_loop p.facts here l c.world in
            let j = bounded_loop rs before p.facts here l c.world i in
            kept_pass inside l None (exec_all p deeper xs inside ss) (λ last. deeper (again xs l last ss) inside) (kept_all inside j ss) (λ last. below (again xs l last ss) inside j) c a
        kept_exec here i (around ss) c a = kept_block (exec_all p deeper xs here ss c) (kept_all here i ss c a)
        kept_exec here i (exit k) c a = a
        kept_exec here i (give e) c a = kept_given e c a
        kept_exec here i (claim q) c a =
            let t = holds p.facts (in_body p.facts here c.world) q.what in
            kept_unless (unless_true t claims.assert q.line) (goes_on c) (told_true rs before t claims.assert q.line) a
        kept_exec here i (scope ys ss) c a =
            let d = in_world c (entered p.facts xs ys c.world) in
            kept_scope c.world.memory ys (exec_all p deeper xs here ss d) a.memory (kept_all here i ss d (kept_entered rs before p.facts xs ys c.world a))

        kept_all : (here : Here) → IsBounded rs before here.granted → (ss : Cores) → KeepsOn (exec_all p deeper xs here ss)
        kept_all here i end c a = a
        kept_all here i (then_ s ss) c a = kept_then (exec p deeper xs here s c) (exec_all p deeper xs here ss) (kept_exec here i s c a) (kept_all here i ss)

    kept_task : AllKeep (task_by p deeper)
    kept_task (body f) here i c a = kept_all f.variables here i f.body c a
    kept_task (again xs l last ss) here i c a =
        kept_pass xs here l last (exec_all p deeper xs here ss) (λ last. deeper (again xs l last ss) here) (kept_all xs here i ss) (λ last. below (again xs l last ss) here i) c a

  pub kept_levels : (p : Program Cores) (n : ℕ) → AllKeep (levels p n)
  unfolding levels
  kept_levels p zero = kept_task p (λ t here c. stopped (spent c.world)) (λ t here i c a. a.memory)
  kept_levels p (suc n) = kept_task p (levels p n) (kept_levels p n)
