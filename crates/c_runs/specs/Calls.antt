-- Calls of functions, however their bodies are run (C11 6.5.2.2, 6.8.6.4; ACSL 2.3).
use Rattle.std.specs.Prelude.{ℕ, zero, suc, Bool, true, false, if◌then◌else◌, ℤ, pos, List, [], ◌∷◌, Option, Some, None}
use Rattle.c_runs.specs.TruthStates.{Value, number}
use Rattle.c_runs.specs.Program.{Contract, Function, Facts, Program}
use Rattle.c_runs.specs.States.{World, Memory, Here}
use Rattle.c_runs.specs.Operators.{Undefined, noreturn, Val, is, wrong}
use Rattle.c_runs.specs.Values.{Vals, are, wrongs}
use Rattle.c_runs.specs.Claims.{Stop, spent, undefined, at_entry, required, entered_well, ensured, measure_of, decreased, here_in}
use Rattle.c_runs.specs.Scopes.{left, arrived}

-- how the evaluation of an expression ends
pub data Eval : Type 0 where
  gives : (v : Value) (w : World) → Eval
  stops : (s : Stop) → Eval

abbrev pub Act : Type 0
Act = World → Eval

abbrev pub bind : Eval → (Value → Act) → Eval
bind (gives v w) go = go v w
bind (stops s) go = stops s

abbrev pub of_val : World → Val → Eval
of_val w (is v) = gives v w
of_val w (wrong u l) = stops (undefined u l)

-- what is of no use
abbrev pub nought : Value
nought = number (pos 0)

abbrev pub nothing : Act
nothing w = gives nought w

abbrev pub unless : Option Stop → Eval → Eval
unless None e = e
unless (Some s) e = stops s

-- ---- turns

-- a call takes one of the turns that are left
abbrev pub turn_by : ℕ → World → Act → Eval
turn_by zero w go = stops (spent w)
turn_by (suc n) w go = go (record w { turns = n })

abbrev pub turn : World → Act → Eval
turn w go = turn_by w.turns w go

-- ---- the end of a call

-- the caller's variables are as before, and the blocks of the call are ended
abbrev pub back_in : World → Eval → Eval
back_in w (gives v u) = gives v (record (left w.memory [] u) { locals = w.locals })
back_in w (stops s) = stops s

-- what is promised, where it returns
abbrev pub keeps_promises : Facts → Here → Contract → Eval → Eval
keeps_promises p here c (gives v w) = unless (ensured p here w.memory v c) (gives v w)
keeps_promises p here c (stops s) = stops s

-- ---- calls

-- how a body is run
abbrev pub Runner : Type 0 → Type 0
Runner B = Function B → Here → Act

abbrev pub entered_by : {B : Type 0} → Facts → Runner B → Function B → Here → List Value → Act
entered_by p go f here vs w =
    unless (entered_well p (at_entry p vs w.memory) f.contract)
    (keeps_promises p here f.contract (back_in w (go f here (arrived f.variables vs w))))

-- What it asks for is tested, then a turn is taken, and the body runs.
abbrev pub called_by : {B : Type 0} → Facts → Runner B → Here → (function line : ℕ) → Function B → List Value → Act
called_by p go here n l f vs w =
    unless (required p l (at_entry p vs w.memory) f.contract)
    (unless (decreased p l here n (measure_of p (at_entry p vs w.memory) f.contract.decreases))
    (turn w (entered_by p go f (here_in p n vs w.memory f.contract here.granted) vs)))

-- a well-typed program has the functions that it calls
abbrev pub found : {B : Type 0} → Facts → Runner B → Here → (function line : ℕ) → Option (Function B) → List Value → Act
found p go here n l None vs w = stops (undefined noreturn l)
found p go here n l (Some f) vs w = called_by p go here n l f vs w

abbrev pub called : {B : Type 0} → Program B → Runner B → Here → (function line : ℕ) → Vals → Act
called p go here n l (wrongs u k) w = stops (undefined u k)
called p go here n l (are vs) w = found p.facts go here n l (p.functions n) vs w
