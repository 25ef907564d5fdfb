-- Runs of a core program with checks. Each check is tested where it stands, and stops the run where it isn't met; an expression has its total value, and a
-- write goes where its way leads. All else is as in a core program without.
use Rattle.std.specs.Prelude.{ℕ, zero, suc, Bool, true, if◌then◌else◌, ℤ, List, [], ◌∷◌, Option, Some, None, slice_get}
use Rattle.typed_prog.specs.declared.types.CoreType.{CoreType}
use Rattle.typed_prog.specs.declared.operators.Path.{Path}
use Rattle.typed_prog.specs.Tree as t
use Rattle.c_runs.specs.Told.{Value}
use Rattle.c_runs.specs.Program.{Loop, Variable, Function, Facts, Program}
use Rattle.c_runs.specs.States.{World, Memory, Here, is_nonzero, with_local, plain}
use Rattle.c_runs.specs.Operators.{Undefined, index, access}
use Rattle.c_runs.specs.Objects.{plain_root, cell_of, address, may_write}
use Rattle.c_runs.specs.Values.{Temps, are}
use Rattle.c_runs.specs.Claims as claims
use Rattle.c_runs.specs.Claims.{spent, undefined, unless_true, holds, in_body, measure_of, at_head, in_loop, may_change_local}
use Rattle.c_runs.specs.Scopes.{entered}
use Rattle.c_runs.specs.Calls.{Eval, gives, stops, Act, nought, called}
use Rattle.c_runs.specs.Effects.{Written, granted, cell_written, wrote_act, initial_act}
use Rattle.c_runs.specs.Run as spelled
use Rattle.c_runs.specs.CoreRun.{CoreWorld, Ending, goes_on, exits, returns, stopped, then_do, with_eval, in_world, with_temp, block_end, scope_end, unless, one_turn, begun}
use Rattle.c_runs.specs.NormalTold.{Check, total, totals, step_test, holds_in, is_met, settle}
use Rattle.c_runs.specs.Tree.{Goal, nowhere, temporary, place, variable, Step, set, store, start, call, branch, repeat, around, exit, give, claim, scope, Steps, end, then_}

-- ---- checks

abbrev pub goes_wrong : Undefined → (line : ℕ) → Ending
goes_wrong u l = stopped (undefined u l)

-- these are met, one after the other, before what follows
abbrev pub asked : List Check → (Check → Bool) → Ending → Ending
asked cs test behind = settle cs test goes_wrong behind

-- a check of a list of operands
abbrev pub is_met_in : Facts → List Variable → Temps → World → t.Values → Check → Bool
is_met_in p xs tm w es c = holds_in p xs tm w es c.way c.kind c.step

-- a check of the way to an object that is written, whose operands have these values
abbrev pub way_test_by : Option ℕ → Facts → World → CoreType → Path → Undefined → (step : ℕ) → List Value → Bool
way_test_by (Some x) p w type path u n vs = true
way_test_by None p w type path index n vs = step_test vs (slice_get path.steps n)
way_test_by None p w type path access n vs = may_write w.memory (cell_of type) path.root (address p w path vs)
way_test_by None p w type path u n vs = true

-- a check of a place: one of its operands, or of the way
abbrev pub place_test_at : (way : List ℕ) → (of_way of_operand : Bool) → Bool
place_test_at [] a b = a
place_test_at (i ∷ way) a b = b

abbrev pub place_test : Facts → List Variable → Temps → World → CoreType → Path → (way_values : List Value) → t.Values → Check → Bool
place_test p xs tm w type path vs es c =
    place_test_at c.way (way_test_by (plain_root xs path.root) p w type path c.kind c.step vs) (is_met_in p xs tm w es c)

-- ---- writes whose checks are met

abbrev pub put_by : Option ℕ → Facts → Here → (line : ℕ) → CoreType → Path → World → List Value → Value → Written
put_by (Some x) p here l type path w vs v = granted (may_change_local p here.granted x) l (with_local x (plain v true) w)
put_by None p here l type path w vs v = cell_written here l (cell_of type) w (address p w path vs) v

abbrev pub put : Facts → List Variable → Here → (line : ℕ) → CoreType → Path → World → List Value → Value → Written
put p xs here l type path w vs v = put_by (plain_root xs path.root) p here l type path w vs v

-- the first value is stored, and the others are those of the way
abbrev pub stored_value : List Value → Value
stored_value [] = nought
stored_value (v ∷ vs) = v

abbrev pub way_values : List Value → List Value
way_values [] = []
way_values (v ∷ vs) = vs

-- ---- statements

pub data Task : Type 0 where
  body : (f : Function Steps) → Task
  again : (xs : List Variable) (l : Loop) (last : Option ℤ) (ss : Steps) → Task

abbrev pub Deeper : Type 0
Deeper = Task → Here → CoreWorld → Ending

abbrev pub returned : Function Steps → Ending → Eval
returned f (returns v c) = gives v c.world
returned f (stopped s) = stops s
returned f (goes_on c) = spelled.ended f.result f.end c.world
returned f (exits k c) = spelled.ended f.result f.end c.world

module _ (p : Program Steps) (deeper : Deeper) where
  abbrev pub calls : Here → (function line : ℕ) → List Value → Act
  calls here n l vs = called p (λ f here w. returned f (deeper (body f) here (begun w))) here n l (are vs)

  module _ (xs : List Variable) where
    abbrev pub total_in : CoreWorld → t.Value → Value
    total_in c e = total p.facts xs c.temps c.world e

    abbrev pub totals_in : CoreWorld → t.Values → List Value
    totals_in c es = totals p.facts xs c.temps c.world es

    -- the checks of an expression
    abbrev pub asked_of : List Check → CoreWorld → t.Value → Ending → Ending
    asked_of cs c e behind = asked cs (is_met p.facts xs c.temps c.world e) behind

    -- an object whose way has these values, and all of these operands
    abbrev pub asked_at : List Check → CoreWorld → CoreType → Path → List Value → t.Values → Ending → Ending
    asked_at cs c type path vs es behind = asked cs (place_test p.facts xs c.temps c.world type path vs es) behind

    abbrev pub put_to : Here → CoreType → (line : ℕ) → Path → List Value → Value → CoreWorld → Ending
    put_to here type l path vs v c = with_eval (wrote_act v (put p.facts xs here l type path c.world vs v)) (λ z w. goes_on (in_world c w))

    abbrev pub result_to : Here → Goal → Value → CoreWorld → Ending
    result_to here nowhere v c = goes_on c
    result_to here (temporary n) v c = goes_on (with_temp n v c)
    result_to here (place cs type l path es) v c = asked_at cs c type path (totals_in c es) es (put_to here type l path (totals_in c es) v c)
    result_to here (variable x) v c = goes_on (in_world c (initial_act xs x v c.world))

    abbrev pub pass : Here → Loop → (last : Option ℤ) → (CoreWorld → Ending) → (Option ℤ → CoreWorld → Ending) → CoreWorld → Ending
    pass here l last run_body later c =
        unless (at_head p.facts (in_body p.facts here c.world) l last)
        (one_turn c.world.turns c (λ d. then_do (run_body d) (later (measure_of p.facts (in_body p.facts here c.world) l.variant))))

    abbrev pub gives_back : List Check → Option t.Value → CoreWorld → Ending
    gives_back cs None c = returns nought c
    gives_back cs (Some e) c = asked_of cs c e (returns (total_in c e) c)

    abbrev mutual
      pub exec : Here → Step → CoreWorld → Ending
      exec here (set cs n e) c = asked_of cs c e (goes_on (with_temp n (total_in c e) c))
      exec here (store cs type l path es) c =
          let vs = totals_in c es in asked_at cs c type path (way_values vs) es (put_to here type l path (way_values vs) (stored_value vs) c)
      exec here (start cs x e) c = asked_of cs c e (goes_on (in_world c (initial_act xs x (total_in c e) c.world)))
      exec here (call cs to f l es) c =
          asked cs (is_met_in p.facts xs c.temps c.world es)
          (with_eval (calls here f l (totals_in c es) c.world) (λ v w. result_to here to v (in_world c w)))
      exec here (branch cs e a b) c = asked_of cs c e (if is_nonzero (total_in c e) then exec_all here a c else exec_all here b c)
      exec here (repeat l ss) c =
          let inside = in_loop p.facts here l c.world in
          pass inside l None (exec_all inside ss) (λ last. deeper (again xs l last ss) inside) c
      exec here (around ss) c = block_end (exec_all here ss c)
      exec here (exit k) c = exits k c
      exec here (give cs e) c = gives_back cs e c
      exec here (claim q) c = unless (unless_true (holds p.facts (in_body p.facts here c.world) q.what) claims.assert q.line) (goes_on c)
      exec here (scope ys ss) c = scope_end c.world.memory ys (exec_all here ss (in_world c (entered p.facts xs ys c.world)))

      pub exec_all : Here → Steps → CoreWorld → Ending
      exec_all here end c = goes_on c
      exec_all here (then_ s ss) c = then_do (exec here s c) (exec_all here ss)

  abbrev pub task_by : Deeper
  task_by (body f) here c = exec_all f.variables here f.body c
  task_by (again xs l last ss) here c = pass xs here l last (exec_all xs here ss) (λ last. deeper (again xs l last ss) here) c

unfoldable pub levels : Program Steps → ℕ → Deeper
levels p zero = task_by p (λ t here c. stopped (spent c.world))
levels p (suc n) = task_by p (levels p n)

-- with so many turns and these contents, in a memory
abbrev pub run_function : Program Steps → (function : ℕ) → (arguments : List Value) → Memory → ℕ → (contents : List Value) → Eval
run_function p f vs m n contents = calls p (levels p n) (spelled.outside f p.facts m) f 0 vs (spelled.at_first n contents m)
