-- Runs of a core program, in so many turns. Scopes, calls, writes, annotations and turns are those of a program as spelled.
use Rattle.std.specs.Prelude.{ℕ, zero, suc, Bool, true, false, if◌then◌else◌, ℤ, List, [], ◌∷◌, Option, Some, None}
use Rattle.typed_prog.specs.declared.types.CoreType.{CoreType}
use Rattle.typed_prog.specs.declared.operators.Path.{Path}
use Rattle.typed_prog.specs.Tree as t
use Rattle.c_runs.specs.Told.{Value}
use Rattle.c_runs.specs.Program.{Claim, Loop, Variable, Function, Facts, Program}
use Rattle.c_runs.specs.States.{World, Memory, Here, at, is_nonzero}
use Rattle.c_runs.specs.Operators.{Val, is, wrong}
use Rattle.c_runs.specs.Values.{Temps, Vals, are, wrongs, value, values}
use Rattle.c_runs.specs.Claims as claim
use Rattle.c_runs.specs.Claims.{Stop, spent, undefined, unless_true, holds, in_body, measure_of, at_head, in_loop}
use Rattle.c_runs.specs.Scopes.{entered, left}
use Rattle.c_runs.specs.Calls.{Eval, gives, stops, Act, nought, called}
use Rattle.c_runs.specs.Effects.{write, wrote_act, assign_act, initial_act}
use Rattle.c_runs.specs.Run as spelled
use Rattle.c_runs.specs.Core.{Target, nowhere, temporary, place, variable, Core, set, store, start, call, branch, repeat, around, exit, give, claim as claims_, scope, Cores, end, then_}

-- Temporaries stand beside the state. Those of a function that is called are its own.
pub record CoreWorld : Type 0 where
  pub world : World
  pub temps : Temps

-- how a statement ends
pub data Ending : Type 0 where
  goes_on : (c : CoreWorld) → Ending
  exits : (k : ℕ) (c : CoreWorld) → Ending
  returns : (v : Value) (c : CoreWorld) → Ending
  stopped : (s : Stop) → Ending

abbrev pub then_do : Ending → (CoreWorld → Ending) → Ending
then_do (goes_on c) go = go c
then_do (exits k c) go = exits k c
then_do (returns v c) go = returns v c
then_do (stopped s) go = stopped s

abbrev pub with_val : Val → (Value → Ending) → Ending
with_val (is v) go = go v
with_val (wrong u l) go = stopped (undefined u l)

abbrev pub with_eval : Eval → (Value → World → Ending) → Ending
with_eval (gives v w) go = go v w
with_eval (stops s) go = stopped s

abbrev pub in_world : CoreWorld → World → CoreWorld
in_world c w = record c { world = w }

abbrev pub with_temp : (n : ℕ) → Value → CoreWorld → CoreWorld
with_temp n v c = record c { temps = at n v c.temps }

-- the end of a block, to which exits may go
abbrev pub block_end : Ending → Ending
block_end (goes_on c) = goes_on c
block_end (exits zero c) = goes_on c
block_end (exits (suc k) c) = exits k c
block_end (returns v c) = returns v c
block_end (stopped s) = stopped s

abbrev pub scope_left : (before : Memory) → (block : List ℕ) → CoreWorld → CoreWorld
scope_left m ys c = in_world c (left m ys c.world)

abbrev pub scope_end : (before : Memory) → (block : List ℕ) → Ending → Ending
scope_end m ys (goes_on c) = goes_on (scope_left m ys c)
scope_end m ys (exits k c) = exits k (scope_left m ys c)
scope_end m ys (returns v c) = returns v (scope_left m ys c)
scope_end m ys (stopped s) = stopped s

abbrev pub unless : Option Stop → Ending → Ending
unless None o = o
unless (Some s) o = stopped s

abbrev pub one_turn : ℕ → CoreWorld → (CoreWorld → Ending) → Ending
one_turn zero c go = stopped (spent c.world)
one_turn (suc n) c go = go (in_world c (record c.world { turns = n }))

-- what is done a level deeper
pub data Task : Type 0 where
  body : (f : Function Cores) → Task
  again : (xs : List Variable) (l : Loop) (last : Option ℤ) (ss : Cores) → Task

abbrev pub Deeper : Type 0
Deeper = Task → Here → CoreWorld → Ending

abbrev pub returned : Function Cores → Ending → Eval
returned f (returns v c) = gives v c.world
returned f (stopped s) = stops s
returned f (goes_on c) = spelled.ended f.result f.end c.world
returned f (exits k c) = spelled.ended f.result f.end c.world

-- a body begins without temporaries
abbrev pub begun : World → CoreWorld
begun w = record { world = w; temps = spelled.no_temps }

module _ (p : Program Cores) (deeper : Deeper) where
  abbrev pub calls : Here → (function line : ℕ) → Vals → Act
  calls = called p (λ f here w. returned f (deeper (body f) here (begun w)))

  module _ (xs : List Variable) where
    abbrev pub eval : CoreWorld → t.Value → Val
    eval c e = value p.facts xs c.temps nought c.world e

    abbrev pub evals : CoreWorld → t.Values → Vals
    evals c es = values p.facts xs c.temps nought c.world es

    -- the value goes to an object whose way has these operands
    abbrev pub to_place : Here → CoreType → (line : ℕ) → Path → Value → CoreWorld → Vals → Ending
    to_place here type l path v c (are vs) = with_eval (wrote_act v (write p.facts xs here l type path c.world vs v)) (λ z w. goes_on (in_world c w))
    to_place here type l path v c (wrongs u k) = stopped (undefined u k)

    -- the result of a call, in the world behind it
    abbrev pub result_to : Here → Target → Value → CoreWorld → Ending
    result_to here nowhere v c = goes_on c
    result_to here (temporary n) v c = goes_on (with_temp n v c)
    result_to here (place type l path es) v c = to_place here type l path v c (evals c es)
    result_to here (variable x) v c = goes_on (in_world c (initial_act xs x v c.world))

    abbrev pub pass : Here → Loop → (last : Option ℤ) → (CoreWorld → Ending) → (Option ℤ → CoreWorld → Ending) → CoreWorld → Ending
    pass here l last run_body later c =
        unless (at_head p.facts (in_body p.facts here c.world) l last)
        (one_turn c.world.turns c (λ d. then_do (run_body d) (later (measure_of p.facts (in_body p.facts here c.world) l.variant))))

    abbrev pub gives_back : Option t.Value → CoreWorld → Ending
    gives_back None c = returns nought c
    gives_back (Some e) c = with_val (eval c e) (λ v. returns v c)

    abbrev mutual
      pub exec : Here → Core → CoreWorld → Ending
      exec here (set n e) c = with_val (eval c e) (λ v. goes_on (with_temp n v c))
      exec here (store type l path es) c = with_eval (assign_act p.facts xs here l type path (evals c es) c.world) (λ v w. goes_on (in_world c w))
      exec here (start x e) c = with_val (eval c e) (λ v. goes_on (in_world c (initial_act xs x v c.world)))
      exec here (call to f l es) c = with_eval (calls here f l (evals c es) c.world) (λ v w. result_to here to v (in_world c w))
      exec here (branch e a b) c = with_val (eval c e) (λ v. if is_nonzero v then exec_all here a c else exec_all here b c)
      exec here (repeat l ss) c =
          let inside = in_loop p.facts here l c.world in
          pass inside l None (exec_all inside ss) (λ last. deeper (again xs l last ss) inside) c
      exec here (around ss) c = block_end (exec_all here ss c)
      exec here (exit k) c = exits k c
      exec here (give e) c = gives_back e c
      exec here (claims_ q) c = unless (unless_true (holds p.facts (in_body p.facts here c.world) q.what) claim.assert q.line) (goes_on c)
      exec here (scope ys ss) c = scope_end c.world.memory ys (exec_all here ss (in_world c (entered p.facts xs ys c.world)))

      pub exec_all : Here → Cores → CoreWorld → Ending
      exec_all here end c = goes_on c
      exec_all here (then_ s ss) c = then_do (exec here s c) (exec_all here ss)

  abbrev pub task_by : Deeper
  task_by (body f) here c = exec_all f.variables here f.body c
  task_by (again xs l last ss) here c = pass xs here l last (exec_all xs here ss) (λ last. deeper (again xs l last ss) here) c

unfoldable pub levels : Program Cores → ℕ → Deeper
levels p zero = task_by p (λ t here c. stopped (spent c.world))
levels p (suc n) = task_by p (levels p n)

-- with so many turns and these contents, in a memory
abbrev pub run_function : Program Cores → (function : ℕ) → (arguments : List Value) → Memory → ℕ → (contents : List Value) → Eval
run_function p f vs m n contents = calls p (levels p n) (spelled.outside f p.facts m) f 0 (are vs) (spelled.at_first n contents m)
