-- Runs of a program with spelled statements, in so many turns (C11 6.5, 6.8). A call takes a turn, and so does each pass of a loop that begins.
use Rattle.std.specs.Prelude.{ℕ, zero, suc, Bool, true, false, ◌||◌, if◌then◌else◌, ℤ, pos, List, [], ◌∷◌, Option, Some, None}
use Rattle.wp_base.specs.declared.kinds.CellKind.{CellKind}
use Rattle.typed_prog.specs.declared.types.CoreType.{CoreType}
use Rattle.typed_prog.specs.Types.{void}
use Rattle.typed_prog.specs.declared.operators.Connective.{Connective}
use Rattle.typed_prog.specs.declared.operators.Path.{Path}
use Rattle.typed_prog.specs.declared.operators.Op.TheVariants as op
use Rattle.typed_prog.specs.declared.operators.Change.{Change}
use Rattle.typed_prog.specs.declared.operators.UpdateForm.{UpdateForm}
use Rattle.typed_prog.specs.declared.operators.UpdateForm.TheVariants as form
use Rattle.typed_prog.specs.declared.operators.Effect.{Effect}
use Rattle.typed_prog.specs.declared.operators.Effect.TheVariants as effect
use Rattle.typed_prog.specs.Tree as t
use Rattle.c_runs.specs.TruthTold.{is_equal}
use Rattle.c_runs.specs.TruthStates.{Value, number, number_of}
use Rattle.c_runs.specs.Program.{Claim, Loop, Stmt, evaluate, block, initial, choose, loop, switch, case_of, default, break, continue, return_of, assert, Stmts, stop, more, Variable, Function, Facts, Program}
use Rattle.c_runs.specs.States.{World, Memory, Here, is_nonzero, no_locals, seen_by_contract}
use Rattle.c_runs.specs.Operators.{noreturn, Val, is, wrong, then_val, truth_number}
use Rattle.c_runs.specs.Values.{has_effect, decides, agree, Temps, Vals, are, wrongs, value, values}
use Rattle.c_runs.specs.Claims as claim
use Rattle.c_runs.specs.Claims.{Stop, spent, undefined, unless_true, holds, in_body, measure_of, at_head, in_loop}
use Rattle.c_runs.specs.Scopes.{entered, left}
use Rattle.c_runs.specs.Calls.{Eval, gives, stops, Act, bind, of_val, nought, nothing, called}
use Rattle.c_runs.specs.Effects.{changed, changed_value, write, wrote_act, assign_act, initial_act}

-- ---- expressions

abbrev pub no_temps : Temps
no_temps n = nought

-- The embedded effect is done first among what is unsequenced with it (C11 6.5p2, under which each order gives the same here): `first` does what comes first
-- in an expression, which is nothing where no effect is in it, and `all` does all of it.
pub record Acts : Type 0 where
  pub first : Act
  pub all : Act

abbrev pub logic_act : Connective → Act → Act → Act
logic_act c a b w =
    bind (a w) (λ x w. if agree (decides c) (is_nonzero x) then gives (truth_number (decides c)) w else bind (b w) (λ y w. gives (truth_number (is_nonzero y)) w))

abbrev pub choice_act : Act → Act → Act → Act
choice_act c a b w = bind (c w) (λ x w. if is_nonzero x then a w else b w)

abbrev pub same_acts : Act → Acts
same_acts a = record { first = a; all = a }

abbrev pub first_if : Bool → Act → Act → Act
first_if b x y = if b then x else y

-- the first operand, and the others
abbrev pub first_operand : t.Values → t.Value
first_operand t.stop = t.typed (t.constant (pos 0)) void 0
first_operand (t.more e es) = e

abbrev pub other_operands : t.Values → t.Values
other_operands t.stop = t.stop
other_operands (t.more e es) = es

-- the old value of what is updated, whose way has these operands
abbrev pub old_value : Path → CoreType → (line : ℕ) → t.Values → t.Value
old_value path type l es = t.typed (t.apply (op.Read path) es) type l

-- the operands of an assignment that does what an update does: the new value, and those of the way
abbrev pub updating : Path → Change → CoreType → (line : ℕ) → t.Values → t.Values
updating path by type l es = t.more (changed by type l (old_value path type l (other_operands es)) (first_operand es)) (other_operands es)

abbrev pub with_act : Val → (Value → Eval) → Eval
with_act (is v) go = go v
with_act (wrong u l) go = stops (undefined u l)

abbrev pub with_acts : Vals → (List Value → Eval) → Eval
with_acts (are vs) go = go vs
with_acts (wrongs u l) go = stops (undefined u l)

-- this value, whatever comes of it
abbrev pub giving : Value → Eval → Eval
giving v (gives u w) = gives v w
giving v (stops s) = stops s

module _ (p : Facts) (xs : List Variable) (here : Here) (calls : (function line : ℕ) → Vals → Act) where
  -- what comes first in it, and then its value
  abbrev pub whole : t.Value → Act → Act
  whole e first w = bind (first w) (λ d w. of_val w (value p xs no_temps d w e))

  abbrev pub plain_acts : t.Value → Act → Acts
  plain_acts e first = record { first = first; all = whole e first }

  -- the old value is read once, and is what the update gives (C11 6.5.2.4p2)
  abbrev pub postfix_act : CoreType → (line : ℕ) → Path → Change → t.Values → (done : Value) → Act
  postfix_act type l path by es d w =
      with_act (value p xs no_temps d w (old_value path type l (other_operands es))) (λ v.
      with_act (value p xs no_temps d w (first_operand es)) (λ u.
      with_act (changed_value p xs w by type l v u) (λ z.
      with_acts (values p xs no_temps d w (other_operands es)) (λ vs.
      giving v (wrote_act z (write p xs here l type path w vs z))))))

  abbrev pub update_act : CoreType → (line : ℕ) → Path → Change → UpdateForm → t.Values → (done : Value) → Act
  update_act type l path by form.Postfix es d w = postfix_act type l path by es d w
  update_act type l path by f es d w = assign_act p xs here l type path (values p xs no_temps d w (updating path by type l es)) w

  -- an effect on these operands, in which the effect is done
  abbrev pub effect_act : CoreType → (line : ℕ) → Effect → t.Values → (done : Value) → Act
  effect_act type l (effect.Assign path) es d w = assign_act p xs here l type path (values p xs no_temps d w es) w
  effect_act type l (effect.Update path by f) es d w = update_act type l path by f es d w
  effect_act type l (effect.Call f) es d w = calls f l (values p xs no_temps d w es) w

  abbrev mutual
    pub node_acts : CoreType → (line : ℕ) → t.ValueNode → Acts
    node_acts type l (t.constant z) = plain_acts (t.typed (t.constant z) type l) nothing
    node_acts type l t.null = plain_acts (t.typed t.null type l) nothing
    node_acts type l (t.temporary n) = plain_acts (t.typed (t.temporary n) type l) nothing
    node_acts type l (t.apply o es) = plain_acts (t.typed (t.apply o es) type l) (first_of es)
    node_acts type l (t.logic c a b) =
        let all = logic_act c (acts a).all (acts b).all in
        record { first = first_if (has_effect a) (acts a).first (first_if (has_effect b) all nothing); all = all }
    node_acts type l (t.choose c a b) =
        let all = choice_act (acts c).all (acts a).all (acts b).all in
        record { first = first_if (has_effect c) (acts c).first (first_if (has_effect a || has_effect b) all nothing); all = all }
    node_acts type l (t.effect e es) = same_acts (λ w. bind (first_of es w) (λ d w. effect_act type l e es d w))

    pub acts : t.Value → Acts
    acts (t.typed node type line) = node_acts type line node

    pub first_of : t.Values → Act
    first_of t.stop = nothing
    first_of (t.more e es) = first_if (has_effect e) (acts e).first (first_of es)

  abbrev pub run : t.Value → Act
  run e = (acts e).all

-- ---- how a statement ends

pub data Outcome : Type 0 where
  goes_on : (w : World) → Outcome
  breaks : (w : World) → Outcome
  continues : (w : World) → Outcome
  returns : (v : Value) (w : World) → Outcome
  stopped : (s : Stop) → Outcome

abbrev pub ran : Eval → (Value → World → Outcome) → Outcome
ran (gives v w) go = go v w
ran (stops s) go = stopped s

abbrev pub then_do : Outcome → (World → Outcome) → Outcome
then_do (goes_on w) go = go w
then_do (breaks w) go = breaks w
then_do (continues w) go = continues w
then_do (returns v w) go = returns v w
then_do (stopped s) go = stopped s

-- a scope is left however its statements end
abbrev pub scope_left : (before : Memory) → (block : List ℕ) → Outcome → Outcome
scope_left m ys (goes_on w) = goes_on (left m ys w)
scope_left m ys (breaks w) = breaks (left m ys w)
scope_left m ys (continues w) = continues (left m ys w)
scope_left m ys (returns v w) = returns v (left m ys w)
scope_left m ys (stopped s) = stopped s

abbrev pub unless : Option Stop → Outcome → Outcome
unless None o = o
unless (Some s) o = stopped s

abbrev pub one_turn : ℕ → World → (World → Outcome) → Outcome
one_turn zero w go = stopped (spent w)
one_turn (suc n) w go = go (record w { turns = n })

-- what a loop makes of how its body ended
abbrev pub after_body : Outcome → (World → Outcome) → Outcome
after_body (goes_on w) go = go w
after_body (continues w) go = go w
after_body (breaks w) go = goes_on w
after_body (returns v w) go = returns v w
after_body (stopped s) go = stopped s

-- what a switch makes of how its statements ended
abbrev pub after_switch : Outcome → Outcome
after_switch (breaks w) = goes_on w
after_switch (goes_on w) = goes_on w
after_switch (continues w) = continues w
after_switch (returns v w) = returns v w
after_switch (stopped s) = stopped s

-- ---- labels of a switch (C11 6.8.4.2)

abbrev pub is_case : ℤ → Stmt → Bool
is_case z (case_of y) = is_equal z y
is_case z _ = false

abbrev pub is_default : Stmt → Bool
is_default default = true
is_default _ = false

abbrev pub has_label : (Stmt → Bool) → Stmts → Bool
has_label q stop = false
has_label q (more s ss) = q s || has_label q ss

-- the label to which a switch goes
abbrev pub label_of : ℤ → Stmts → Stmt → Bool
label_of z ss = if has_label (is_case z) ss then is_case z else is_default

-- ---- statements

-- what is done a level deeper: the body of a function, or a loop from its next head, with the variant that the pass before began with
pub data Task : Type 0 where
  body : (f : Function Stmts) → Task
  again : (xs : List Variable) (l : Loop) (last : Option ℤ) (before : Option t.Value) (s : Stmt) (step behind : Option t.Value) → Task

abbrev pub Deeper : Type 0
Deeper = Task → Here → World → Outcome

-- a function without result may run off its end (C11 6.9.1p12; that `main` may not is this project's choice)
abbrev pub ended : (result : Option CellKind) → (end : ℕ) → World → Eval
ended None l w = gives nought w
ended (Some k) l w = stops (undefined noreturn l)

abbrev pub returned : Function Stmts → Outcome → Eval
returned f (returns v w) = gives v w
returned f (stopped s) = stops s
returned f (goes_on w) = ended f.result f.end w
returned f (breaks w) = ended f.result f.end w
returned f (continues w) = ended f.result f.end w

module _ (p : Program Stmts) (deeper : Deeper) where
  abbrev pub calls : Here → (function line : ℕ) → Vals → Act
  calls = called p (λ f here w. returned f (deeper (body f) here w))

  module _ (xs : List Variable) where
    abbrev pub evaluated : Here → t.Value → Act
    evaluated here e = run p.facts xs here (calls here) e

    abbrev pub tested : Here → Option t.Value → World → (World → Outcome) → Outcome
    tested here None w go = go w
    tested here (Some e) w go = ran (evaluated here e w) (λ x w. if is_nonzero x then go w else goes_on w)

    abbrev pub stepped : Here → Option t.Value → World → (World → Outcome) → Outcome
    stepped here None w go = go w
    stepped here (Some e) w go = ran (evaluated here e w) (λ x w. go w)

    abbrev pub gives_back : Here → Option t.Value → World → Outcome
    gives_back here None w = returns nought w
    gives_back here (Some e) w = ran (evaluated here e w) returns

    -- from a loop's head: its annotations, a turn, the test, the body, the step, the test behind it, and the next head
    abbrev pub pass : Here → Loop → (last : Option ℤ) → Option t.Value → (World → Outcome) → (step behind : Option t.Value) → (Option ℤ → World → Outcome) → World → Outcome
    pass here l last before run_body step behind later w =
        unless (at_head p.facts (in_body p.facts here w) l last)
        (one_turn w.turns w (λ v. tested here before v (λ v. after_body (run_body v) (λ v. stepped here step v (λ v.
        tested here behind v (later (measure_of p.facts (in_body p.facts here w) l.variant)))))))

    abbrev mutual
      pub exec : Here → Stmt → World → Outcome
      exec here (evaluate e) w = ran (evaluated here e w) (λ v w. goes_on w)
      exec here (block ys ss) w = scope_left w.memory ys (exec_all here ss (entered p.facts xs ys w))
      exec here (initial x line e) w = ran (evaluated here e w) (λ v w. goes_on (initial_act xs x v w))
      exec here (choose e a b) w = ran (evaluated here e w) (λ x w. if is_nonzero x then exec here a w else exec here b w)
      exec here (loop l before s step behind) w =
          let inside = in_loop p.facts here l w in
          pass inside l None before (exec inside s) step behind (λ last. deeper (again xs l last before s step behind) inside) w
      exec here (switch e ss) w = ran (evaluated here e w) (λ v w. after_switch (exec_from here (label_of (number_of v) ss) ss w))
      exec here (case_of z) w = goes_on w
      exec here default w = goes_on w
      exec here break w = breaks w
      exec here continue w = continues w
      exec here (return_of e) w = gives_back here e w
      exec here (assert c) w = unless (unless_true (holds p.facts (in_body p.facts here w) c.what) claim.assert c.line) (goes_on w)

      pub exec_all : Here → Stmts → World → Outcome
      exec_all here stop w = goes_on w
      exec_all here (more s ss) w = then_do (exec here s w) (exec_all here ss)

      -- from the first such label on
      pub exec_from : Here → (Stmt → Bool) → Stmts → World → Outcome
      exec_from here q stop w = goes_on w
      exec_from here q (more s ss) w = if q s then exec_all here ss w else exec_from here q ss w

  abbrev pub task_by : Deeper
  task_by (body f) here w = exec_all f.variables here f.body w
  task_by (again xs l last before s step behind) here w =
      pass xs here l last before (exec xs here s) step behind (λ last. deeper (again xs l last before s step behind) here) w

-- Each task deeper has taken a turn before, so with as many levels as turns the turns are spent first.
unfoldable pub levels : Program Stmts → ℕ → Deeper
levels p zero = task_by p (λ t here w. stopped (spent w))
levels p (suc n) = task_by p (levels p n)

-- ---- a function, called from outside

-- no other one is active
abbrev pub outside : (function : ℕ) → Facts → Memory → Here
outside f p m = record {
  function = f;
  arguments = [];
  entry = seen_by_contract p [] m;
  measure = None;
  loop_entry = seen_by_contract p [] m;
  granted = [];
}

abbrev pub at_first : ℕ → (contents : List Value) → Memory → World
at_first n contents m = record { turns = n; contents = contents; memory = m; locals = no_locals }

-- with so many turns and these contents, in a memory
abbrev pub run_function : Program Stmts → (function : ℕ) → (arguments : List Value) → Memory → ℕ → (contents : List Value) → Eval
run_function p f vs m n contents = calls p (levels p n) (outside f p.facts m) f 0 (are vs) (at_first n contents m)
