-- How core statements end beside spelled ones.
use Rattle.std.proofs.Common.{◌≡◌, ℕ, zero, suc, true, false, if◌then◌else◌, List, Option, Some, None, refl, ap, subst}
use Rattle.c_runs.specs.Told.{Value}
use Rattle.c_runs.specs.States.{World, Memory, is_nonzero}
use Rattle.c_runs.specs.Values.{Temps}
use Rattle.c_runs.specs.Claims.{Stop, spent}
use Rattle.c_runs.specs.Calls.{Eval, gives, stops, bind, nought}
use Rattle.c_runs.specs.Run.{giving}
use Rattle.c_runs.specs.Run as sp
use Rattle.c_runs.specs.CoreRun.{CoreWorld, Ending, goes_on, exits, returns, stopped, then_do, block_end}
use Rattle.c_runs.specs.CoreRun as core
use Rattle.c_runs.proofs.Relations.{pair, Tested, tested_early, passes, leaves}

-- ---- statements

-- `break` leaves the block b, and `continue` the block c
pub data Like (b c : ℕ) : Ending → sp.Outcome → Type 0 where
  on : (x : CoreWorld) → Like b c (goes_on x) (sp.goes_on x.world)
  out : (x : CoreWorld) → Like b c (exits b x) (sp.breaks x.world)
  once_more : (x : CoreWorld) → Like b c (exits c x) (sp.continues x.world)
  back : (v : Value) (x : CoreWorld) → Like b c (returns v x) (sp.returns v x.world)
  halt : (s : Stop) → Like b c (stopped s) (sp.stopped s)

pub then_like : {b c : ℕ} {e : Ending} {o : sp.Outcome} (f : CoreWorld → Ending) (g : World → sp.Outcome) → Like b c e o → ((x : CoreWorld) → Like b c (f x) (g x.world)) → Like b c (then_do e f) (sp.then_do o g)
then_like f g (on x) h = h x
then_like f g (out x) h = out x
then_like f g (once_more x) h = once_more x
then_like f g (back v x) h = back v x
then_like f g (halt s) h = halt s

pub scope_like : {b c : ℕ} {e : Ending} {o : sp.Outcome} (m : Memory) (ys : List ℕ) → Like b c e o → Like b c (core.scope_end m ys e) (sp.scope_left m ys o)
scope_like m ys (on x) = on (core.scope_left m ys x)
scope_like m ys (out x) = out (core.scope_left m ys x)
scope_like m ys (once_more x) = once_more (core.scope_left m ys x)
scope_like m ys (back v x) = back v (core.scope_left m ys x)
scope_like m ys (halt s) = halt s

pub unless_like : {b c : ℕ} {e : Ending} {o : sp.Outcome} (s : Option Stop) → Like b c e o → Like b c (core.unless s e) (sp.unless s o)
unless_like None h = h
unless_like (Some s) h = halt s

-- under one block more
pub block_like : {b c : ℕ} {e : Ending} {o : sp.Outcome} → Like (suc b) (suc c) e o → Like b c (block_end e) o
block_like (on x) = on x
block_like (out x) = out x
block_like (once_more x) = once_more x
block_like (back v x) = back v x
block_like (halt s) = halt s

-- under two, with a way behind the inner one that isn't gone
pub blocks_like : {b c : ℕ} {e : Ending} {o : sp.Outcome} (g : CoreWorld → Ending) → Like (suc (suc b)) (suc (suc c)) e o → Like b c (block_end (then_do (block_end (then_do e (λ x. exits 1 x))) g)) o
blocks_like g (on x) = on x
blocks_like g (out x) = out x
blocks_like g (once_more x) = once_more x
blocks_like g (back v x) = back v x
blocks_like g (halt s) = halt s

-- ---- loops

-- a loop is left by an exit to the block around it
pub data Round : Ending → sp.Outcome → Type 0 where
  round_out : (x : CoreWorld) → Round (exits 0 x) (sp.goes_on x.world)
  round_back : (v : Value) (x : CoreWorld) → Round (returns v x) (sp.returns v x.world)
  round_halt : (s : Stop) → Round (stopped s) (sp.stopped s)

pub round_like : {b c : ℕ} {e : Ending} {o : sp.Outcome} → Round e o → Like b c (block_end e) o
round_like (round_out x) = on x
round_like (round_back v x) = back v x
round_like (round_halt s) = halt s

pub unless_round : {e : Ending} {o : sp.Outcome} (s : Option Stop) → Round e o → Round (core.unless s e) (sp.unless s o)
unless_round None h = h
unless_round (Some s) h = round_halt s

pub turn_round : (n : ℕ) (x : CoreWorld) (f : CoreWorld → Ending) (g : World → sp.Outcome) → ((x : CoreWorld) → Round (f x) (g x.world)) → Round (core.one_turn n x f) (sp.one_turn n x.world g)
turn_round zero x f g h = round_halt (spent x.world)
turn_round (suc n) x f g h = h (record x { world = record x.world { turns = n } })

pub test_round : {w : World} {tm : Temps} {t n : ℕ} (f : CoreWorld → Ending) (g : World → sp.Outcome) {e : Ending} {r : Eval} → Tested false true 0 w tm t n e r → ((x : CoreWorld) → Round (f x) (g x.world))
    → Round (then_do e f) (sp.ran r (λ v w. if is_nonzero v then g w else sp.goes_on w))
test_round f g (tested_early s) h = round_halt s
test_round f g (passes v w1 tm1 e mv) h = rw e (h (pair w1 tm1))
test_round f g (leaves v w1 tm1 e mv) h = rw e (round_out (pair w1 tm1))

pub body_round : (f : CoreWorld → Ending) (g : World → sp.Outcome) {e : Ending} {o : sp.Outcome} → Like 1 0 e o → ((x : CoreWorld) → Round (f x) (g x.world)) → Round (then_do (block_end e) f) (sp.after_body o g)
body_round f g (on x) h = h x
body_round f g (once_more x) h = h x
body_round f g (out x) h = round_out x
body_round f g (back v x) h = round_back v x
body_round f g (halt s) h = round_halt s

-- ---- switches

-- within a switch, where an exit to the block of the whole switch may be that of the jump to a label
pub data Switched (c : ℕ) : Ending → sp.Outcome → Type 0 where
  switched : {e : Ending} {o : sp.Outcome} → Like 0 (suc c) e o → Switched c e o
  no_such_label : (x : CoreWorld) → Switched c (exits 0 x) (sp.goes_on x.world)

switch_end : {b c : ℕ} {e : Ending} {o : sp.Outcome} → Like 0 (suc c) e o → Like b c (block_end e) (sp.after_switch o)
switch_end (on x) = on x
switch_end (out x) = on x
switch_end (once_more x) = once_more x
switch_end (back v x) = back v x
switch_end (halt s) = halt s

pub switch_like : {b c : ℕ} {e : Ending} {o : sp.Outcome} → Switched c e o → Like b c (block_end e) (sp.after_switch o)
switch_like (switched h) = switch_end h
switch_like (no_such_label x) = on x

-- ---- an expression that is done for its effect

pub data Runs : Ending → Eval → Type 0 where
  runs_on : (v : Value) (x : CoreWorld) → Runs (goes_on x) (gives v x.world)
  runs_halt : (s : Stop) → Runs (stopped s) (stops s)

abbrev world_in : World → Eval → World
world_in u (gives v w) = w
world_in u (stops s) = u

abbrev stop_in : Stop → Eval → Stop
stop_in u (gives v w) = u
stop_in u (stops s) = s

abbrev is_stop : Eval → Type 0
is_stop (gives v w) = ⊥
is_stop (stops s) = Unit {0}

abbrev is_given : Eval → Type 0
is_given (gives v w) = Unit {0}
is_given (stops s) = ⊥

pub runs_as : {e : Ending} {r : Eval} (r' : Eval) → Runs e r → giving nought r ≡ giving nought r' → Runs e r'
runs_as (gives v' w') (runs_on v x) h = subst (λ w. Runs (goes_on x) (gives v' w)) (ap (world_in x.world) h) (runs_on v' x)
runs_as (stops s') (runs_on v x) h = absurd (subst is_given h tt)
runs_as (gives v' w') (runs_halt s) h = absurd (subst is_stop h tt)
runs_as (stops s') (runs_halt s) h = subst (λ u. Runs (stopped s) (stops u)) (ap (stop_in s) h) (runs_halt s)

pub runs_like : {b c : ℕ} {e : Ending} {r : Eval} → Runs e r → Like b c e (sp.ran r (λ v w. sp.goes_on w))
runs_like (runs_on v x) = on x
runs_like (runs_halt s) = halt s

-- and then something is done with the value
pub runs_bound : {b c : ℕ} {e : Ending} (f : Value → World → World) (r : Eval) → Runs e (bind r (λ v w. gives v (f v w))) → Like b c e (sp.ran r (λ v w. sp.goes_on (f v w)))
runs_bound f (gives v w) h = runs_like h
runs_bound f (stops s) h = runs_like h

pub run_round : (f : CoreWorld → Ending) (g : World → sp.Outcome) {e : Ending} {r : Eval} → Runs e r → ((x : CoreWorld) → Round (f x) (g x.world)) → Round (then_do e f) (sp.ran r (λ v w. g w))
run_round f g (runs_on v x) h = h x
run_round f g (runs_halt s) h = round_halt s

pub bind_gives : (r : Eval) → bind r gives ≡ r
bind_gives (gives v w) = refl
bind_gives (stops s) = refl

pub bind_same : (r : Eval) (f g : Value → World → Eval) → ((v : Value) (w : World) → giving nought (f v w) ≡ giving nought (g v w)) → giving nought (bind r f) ≡ giving nought (bind r g)
bind_same (gives v w) f g h = h v w
bind_same (stops s) f g h = refl
