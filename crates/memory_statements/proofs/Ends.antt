-- Ends of statements and of blocks, and how they go together with those of their words.
use Rattle.std.proofs.Common.{◌≡◌, ◌<◌, ℕ, zero, suc, List, [], ◌∷◌, refl, sym, ap, ◌∙◌, subst, arith}
use Rattle.c_runs.specs.Program.{Facts}
use Rattle.c_runs.specs.Claims.{Stop}
use Rattle.c_runs.specs.CoreRun as run
use Rattle.c_runs.specs.CoreRun.{CoreWorld, Ending}
use Rattle.goal_segments.specs.RunSegments as segment
use Rattle.goal_segments.specs.RunSegments.{BlockEnds, Leaves, by_exit, by_return, by_stop}
use Rattle.walk_steps.specs.Forms.{Place}
use Rattle.memory_steps.specs.State.{State}
use Rattle.memory_steps.specs.Run.{End, goes_on, leaves, fails, out, IsOver}
use Rattle.program_steps.specs.Temporaries.{Temporaries}
use Rattle.memory_words.specs.Shapes.{FileCells, Shape}
use Rattle.memory_words.specs.Standing.{Frame, StandsFor}
use Rattle.memory_words.specs.Placed.{Openings, FailsAs, Ends}

-- inside of a block, from where those that are open stand around it
abbrev pub around_block : Openings → Openings
around_block os = record { here = []; outs = os.here ∷ os.outs }

module _ (p : Facts) (s : Shape) (cells : FileCells) (fr : Frame) (os : Openings) (outs : List Temporaries) where
  -- the checks of a part are among those of the whole
  pub ends_more : (f : Temporaries) (ps ps' : List Place) (n n' : ℕ) → ((j : ℕ) (e : Stop) → FailsAs ps n j e → FailsAs ps' n' j e) → (o : Ending) (e : End)
      → Ends p s cells fr os outs f ps n o e → Ends p s cells fr os outs f ps' n' o e
  ends_more f ps ps' n n' more (run.goes_on c) (goes_on st) h = h
  ends_more f ps ps' n n' more (run.goes_on c) (leaves l st) h = absurd h
  ends_more f ps ps' n n' more (run.goes_on c) (fails j) h = absurd h
  ends_more f ps ps' n n' more (run.exits k c) (goes_on st) h = absurd h
  ends_more f ps ps' n n' more (run.exits k c) (leaves l st) h = h
  ends_more f ps ps' n n' more (run.exits k c) (fails j) h = absurd h
  ends_more f ps ps' n n' more (run.returns v c) (goes_on st) h = absurd h
  ends_more f ps ps' n n' more (run.returns v c) (leaves l st) h = h
  ends_more f ps ps' n n' more (run.returns v c) (fails j) h = absurd h
  ends_more f ps ps' n n' more (run.stopped e) (goes_on st) h = absurd h
  ends_more f ps ps' n n' more (run.stopped e) (leaves l st) h = absurd h
  ends_more f ps ps' n n' more (run.stopped e) (fails j) h = more j e h

  -- what comes behind isn't come to
  pub over_ends : (f : Temporaries) (ps : List Place) (n : ℕ) (o : Ending) (e : End) → Leaves o → Ends p s cells fr os outs f ps n o e → IsOver e
  over_ends f ps n _ (goes_on st) by_exit h = h
  over_ends f ps n _ (leaves k st) by_exit h = tt
  over_ends f ps n _ (fails j) by_exit h = tt
  over_ends f ps n _ (goes_on st) by_return h = h
  over_ends f ps n _ (leaves k st) by_return h = tt
  over_ends f ps n _ (fails j) by_return h = tt
  over_ends f ps n _ (goes_on st) by_stop h = h
  over_ends f ps n _ (leaves k st) by_stop h = tt
  over_ends f ps n _ (fails j) by_stop h = tt

  pub over_leaves : (f : Temporaries) (ps : List Place) (n : ℕ) (o : Ending) (e : End) → IsOver e → Ends p s cells fr os outs f ps n o e → Leaves o
  over_leaves f ps n (run.goes_on c) (goes_on st) over h = absurd over
  over_leaves f ps n (run.goes_on c) (leaves k st) over h = absurd h
  over_leaves f ps n (run.goes_on c) (fails j) over h = absurd h
  over_leaves f ps n (run.exits k c) e over h = by_exit
  over_leaves f ps n (run.returns v c) e over h = by_return
  over_leaves f ps n (run.stopped x) e over h = by_stop

  -- and what is used behind is the same to it
  pub ends_else : (f g : Temporaries) (ps : List Place) (n : ℕ) (o : Ending) (e : End) → Leaves o → Ends p s cells fr os outs f ps n o e
      → Ends p s cells fr os outs g ps n o e
  ends_else f g ps n _ (goes_on st) by_exit h = h
  ends_else f g ps n _ (leaves k st) by_exit h = h
  ends_else f g ps n _ (fails j) by_exit h = h
  ends_else f g ps n _ (goes_on st) by_return h = h
  ends_else f g ps n _ (leaves k st) by_return h = h
  ends_else f g ps n _ (fails j) by_return h = h
  ends_else f g ps n _ (goes_on st) by_stop h = h
  ends_else f g ps n _ (leaves k st) by_stop h = h
  ends_else f g ps n _ (fails j) by_stop h = h

  -- a run that goes on
  pub record Goes (f : Temporaries) (o : Ending) (st : State) : Type 0 where
    pub world : CoreWorld
    pub is : run.goes_on world ≡ o
    pub stands : StandsFor p s cells fr f world st

  pub goes_from : (f : Temporaries) (ps : List Place) (n : ℕ) (o : Ending) (st : State) → Ends p s cells fr os outs f ps n o (goes_on st) → Goes f o st
  goes_from f ps n (run.goes_on c) st h = record { world = c; is = refl; stands = h }
  goes_from f ps n (run.exits k c) st h = absurd h
  goes_from f ps n (run.returns v c) st h = absurd h
  goes_from f ps n (run.stopped x) st h = absurd h

  pub record GoesTo (f : Temporaries) (c : CoreWorld) (e : End) : Type 0 where
    pub state : State
    pub is : goes_on state ≡ e
    pub stands : StandsFor p s cells fr f c state

  pub goes_to : (f : Temporaries) (ps : List Place) (n : ℕ) (c : CoreWorld) (e : End) → Ends p s cells fr os outs f ps n (run.goes_on c) e → GoesTo f c e
  goes_to f ps n c (goes_on st) h = record { state = st; is = refl; stands = h }
  goes_to f ps n c (leaves k st) h = absurd h
  goes_to f ps n c (fails j) h = absurd h

  -- ---- the end of a block

  no_zero : {k : ℕ} → zero ≡ suc k → ⊥
  no_zero e = cc

  less_one : {k l : ℕ} → suc k ≡ suc l → k ≡ l
  less_one e = cc

  -- what is left of a block are the scopes that stand in it
  pub block_out : (f : Temporaries) (ps : List Place) (n : ℕ) (o u : Ending) (e : End) → BlockEnds o u → Ends p s cells fr (around_block os) (f ∷ outs) f ps n o e
      → Ends p s cells fr os outs f ps n u (out e)
  block_out f ps n _ _ (goes_on st) segment.at_end h = h
  block_out f ps n _ _ (leaves k st) segment.at_end h = absurd h
  block_out f ps n _ _ (fails j) segment.at_end h = absurd h
  block_out f ps n _ _ (goes_on st) segment.left_here h = absurd h
  block_out f ps n _ _ (leaves zero st) segment.left_here h = h.2
  block_out f ps n _ _ (leaves (suc l) st) segment.left_here h = absurd (no_zero h.0)
  block_out f ps n _ _ (fails j) segment.left_here h = absurd h
  block_out f ps n _ _ (goes_on st) segment.left_further h = absurd h
  block_out f ps n _ _ (leaves zero st) segment.left_further h = absurd (no_zero (sym h.0))
  block_out f ps n _ _ (leaves (suc l) st) segment.left_further h = (less_one h.0, (let b = h.1 in omega (arith, b)), h.2)
  block_out f ps n _ _ (fails j) segment.left_further h = absurd h
  block_out f ps n _ _ (goes_on st) segment.returned h = absurd h
  block_out f ps n _ _ (leaves zero st) segment.returned h = absurd (no_zero h.0)
  block_out f ps n _ _ (leaves (suc l) st) segment.returned h = (
    less_one h.0,
    record { stands = h.1.stands; given = h.1.given; slot = h.1.slot },
  )
  block_out f ps n _ _ (fails j) segment.returned h = absurd h
  block_out f ps n _ _ (goes_on st) segment.stopped_in h = absurd h
  block_out f ps n _ _ (leaves k st) segment.stopped_in h = absurd h
  block_out f ps n _ _ (fails j) segment.stopped_in h = h
