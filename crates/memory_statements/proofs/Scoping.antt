-- Scopes run both ways where their statements do.
use Rattle.std.proofs.Common.{◌≡◌, ℕ, ◌<◌, true, List, [], ◌∷◌, length, refl, sym, ap}
use Rattle.std.proofs.lemmas.Bool.{false≢true}
use Rattle.wp_base.specs.Blocks.{Table}
use Rattle.qed_terms.specs.Meaning as sense
use Rattle.c_runs.specs.Program.{Facts, Program}
use Rattle.c_runs.specs.States.{Memory, World, Here, unset, with_memory}
use Rattle.c_runs.specs.Scopes.{ended_since, left}
use Rattle.c_runs.specs.CoreRun as run
use Rattle.c_runs.specs.CoreRun.{CoreWorld, Ending, in_world, scope_end, scope_left}
use Rattle.c_runs.specs.Tree as core
use Rattle.c_runs.specs.Tree.{Steps}
use Rattle.goal_segments.specs.Told.{with_names}
use Rattle.goal_segments.specs.Segments as segs
use Rattle.goal_segments.specs.Segments.{Opened, SameBlocks, is_single}
use Rattle.typed_memories.specs.Changes.{StillThere}
use Rattle.run_blocks.specs.Ends.{StillAt}
use Rattle.run_blocks.proofs.Standing.{still_then}
use Rattle.walk_steps.specs.Forms.{Place as CheckPlace}
use Rattle.program_steps.specs.Temporaries.{Temporaries, no_temporaries, out_at}
use Rattle.memory_steps.specs.State.{State}
use Rattle.memory_steps.specs.Run.{End, goes_on, leaves, fails, IsOver, on_state, put_back}
use Rattle.memory_words.specs.Places.{result, result_offset, number_in, number_at}
use Rattle.memory_words.specs.Shapes.{FileCells, Shape, sizes}
use Rattle.memory_words.specs.Readings.{InScope}
use Rattle.memory_words.specs.Standing.{Frame, StandsFor}
use Rattle.memory_words.proofs.Files.{held_same}
use Rattle.memory_words.specs.Words.{slots_of}
use Rattle.memory_words.specs.Typed.{Declares}
use Rattle.memory_words.specs.Placed.{Opening, Openings, left_of, all_of, ended_all, table_behind, lives_behind, frame_behind, FailsAs, Ends}
use Rattle.memory_statements.proofs.Framing.{in_names}
use Rattle.memory_statements.proofs.Restoring.{Named, Unnamed, AllBelow, other_kept, left_stands, unset_named, unnamed_kept}
use Rattle.memory_statements.proofs.Outside.{declared_below, declared_out, in_unnamed, out_or_named, result_behind}

-- ---- runs of a scope

pub record Scoped (q : Program Steps) (s : Shape) (here : Here) (ys : List ℕ) (ss : Steps) (c : CoreWorld) (o : Ending) : Type 0 where
  pub world : World
  pub ending : Ending
  pub opens : Opened q.facts s.variables ys c.world world
  pub runs : segs.AllSeg q s.variables here ss (in_world c world) ending
  pub is : scope_end c.world.memory ys ending ≡ o

pub scope_ways : (q : Program Steps) (s : Shape) (here : Here) (ys : List ℕ) (ss : Steps) (c : CoreWorld) (o : Ending) → segs.Seg q s.variables here (core.scope ys ss) c o → Scoped q s here ys ss c o
scope_ways q s here ys ss c o (segs.single is h) = absurd (false≢true is)
scope_ways q s here ys ss c _ (segs.scopes {w = w} {o = o} opens h) = record { world = w; ending = o; opens = opens; runs = h; is = refl }

-- blocks that were there before stay
pub still_before : (t u : Table) (o : Ending) → StillThere t u → StillAt u o → StillAt t o
still_before t u (run.goes_on c) h k = still_then t u c.world.memory.blocks h k
still_before t u (run.exits j c) h k = still_then t u c.world.memory.blocks h k
still_before t u (run.returns v c) h k = still_then t u c.world.memory.blocks h k
still_before t u (run.stopped e) h k = tt

-- ---- what is left

-- variables that are in scope are among those whose blocks live
pub lives_in : (fr : Frame) (i : InScope) (x : ℕ) → i x ≡ true → (qs : List Opening) → lives_behind fr.lives qs x ≡ true → lives_behind i qs x ≡ true
lives_in fr i x scoped [] h = scoped
lives_in fr i x scoped (q ∷ qs) h = h

module _ (m : sense.World) (p : Facts) (s : Shape) (cells : FileCells) (ys : List ℕ) (fr : Frame) (d : Declares s cells fr.in_scope ys) (c0 : CoreWorld) (f0 : Temporaries)
    (outer : State) (stands0 : StandsFor p s cells fr f0 c0 outer) (homes : ℕ → _) (kept : (x : ℕ) → fr.in_scope x ≡ true → homes x ≡ fr.homes x) where
  abbrev pub before : Memory
  before = c0.world.memory

  abbrev pub restoring : List ℕ
  restoring = slots_of m (sizes p s) ys

  low : AllBelow m (sizes p s) ys
  low = declared_below s cells ys fr.in_scope d

  pub leave_scope : (t : Table) (inner lives : InScope) → ((x : ℕ) → fr.in_scope x ≡ true → lives x ≡ true → inner x ≡ true) → (f : Temporaries) (c : CoreWorld) (w : World) (st : State)
      → StandsFor p s cells (record { in_scope = with_names ys fr.in_scope; table = t; lives = inner; homes = homes }) f c st → w.memory ≡ c.world.memory
      → ((x : ℕ) → Named x ys → w.locals x ≡ unset) → ((x : ℕ) → Unnamed x ys → w.locals x ≡ c.world.locals x)
      → StandsFor p s cells (record { in_scope = fr.in_scope; table = t; lives = lives; homes = fr.homes }) f (in_world c w) (put_back restoring outer st)
  leave_scope t inner lives live f c w st stands same named unnamed =
      left_stands m p s cells f c ys (record { in_scope = with_names ys fr.in_scope; table = t; lives = inner; homes = homes })
      (record { in_scope = fr.in_scope; table = t; lives = lives; homes = fr.homes }) outer st stands
      (record {
        low = low;
        table = refl;
        scoped = λ x h. (in_names ys fr.in_scope x h, in_unnamed s cells ys fr.in_scope d x h);
        unscoped = out_or_named s cells ys fr.in_scope d;
        lives = live;
        homes = λ x h. sym (kept x h);
        nothing_before = λ x l h. let was = stands0.unscoped x l (declared_out s cells ys fr.in_scope d x h) in (was.1, was.2, was.3);
      }) w named unnamed same

  -- with the scopes around that are left too
  abbrev pub Behind : (frame : Frame) (left : List Opening) → Temporaries → CoreWorld → State → Type 0
  Behind frame qs f c st = StandsFor p s cells (frame_behind frame qs) f (in_world c (with_memory (ended_all qs c.world.memory) c.world)) st

  pub leave_all : (qs qs' : List Opening) (t : Table) (i : InScope) → ((x : ℕ) → fr.in_scope x ≡ true → lives_behind fr.lives qs x ≡ true → i x ≡ true) → (f : Temporaries)
      (c : CoreWorld) (st : State) → ended_all qs (ended_since before c.world.memory) ≡ ended_all qs' c.world.memory
      → StandsFor p s cells (record { in_scope = with_names ys fr.in_scope; table = table_behind fr.table qs; lives = i; homes = homes }) f
      (in_world c (with_memory (ended_all qs' c.world.memory) c.world)) st
      → Behind fr qs f (scope_left before ys c) (put_back restoring outer st)
  leave_all qs qs' t i live f c st same stands =
      leave_scope (table_behind fr.table qs) i (lives_behind fr.lives qs) live f (in_world c (with_memory (ended_all qs' c.world.memory) c.world))
      (with_memory (ended_all qs (ended_since before c.world.memory)) (left before ys c.world)) st stands same (λ x h. unset_named ys c.world x h) (λ x h. unnamed_kept ys c.world x h)

  -- ---- ends that aren't reached

  module _ (frame : Frame) (os os' : Openings) (outs : List Temporaries) (after : Temporaries) (ps ps' : List CheckPlace) (n n' : ℕ)
      (lift : (i : ℕ) (e : _) → FailsAs ps n i e → FailsAs ps' n' i e)
      (exits_out : (k : ℕ) (f : Temporaries) (c : CoreWorld) (st : State) → k < length outs → StillThere before.blocks c.world.memory.blocks → Behind frame (left_of k os.here os.outs) f c st
      → Behind fr (left_of k os'.here os'.outs) f (scope_left before ys c) (put_back restoring outer st))
      (all_out : (f : Temporaries) (c : CoreWorld) (st : State) → StillThere before.blocks c.world.memory.blocks → Behind frame (all_of os.here os.outs) f c st
      → Behind fr (all_of os'.here os'.outs) f (scope_left before ys c) (put_back restoring outer st)) where
    pub over_out : (o : Ending) (e : End) → IsOver e → StillAt before.blocks o → Ends p s cells frame os outs after ps n o e
        → Ends p s cells fr os' outs after ps' n' (scope_end before ys o) (on_state (put_back restoring outer) e)
    over_out (run.goes_on c) (goes_on st) over there h = absurd over
    over_out (run.goes_on c) (leaves l st) over there h = absurd h
    over_out (run.goes_on c) (fails i) over there h = absurd h
    over_out (run.exits k c) (goes_on st) over there h = absurd h
    over_out (run.exits k c) (leaves l st) over there h = (h.0, h.1, exits_out k (out_at outs k) c st h.1 there h.2)
    over_out (run.exits k c) (fails i) over there h = absurd h
    over_out (run.returns v c) (goes_on st) over there h = absurd h
    over_out (run.returns v c) (leaves l st) over there h = (
      h.0,
      record {
        stands = all_out no_temporaries c st there h.1.stands;
        given = result_behind p before c.world.memory s.result v there.more h.1.given;
        slot = λ k e. held_same k v (number_at (sizes p s) st result) (number_at (sizes p s) st result_offset) (number_at (sizes p s) (put_back restoring outer st) result)
            (number_at (sizes p s) (put_back restoring outer st) result_offset)
            (ap number_in (other_kept m (sizes p s) ys low outer st h.1.stands.size result tt (λ y k. (λ e. cc, λ e. cc, λ e. cc))))
            (ap number_in (other_kept m (sizes p s) ys low outer st h.1.stands.size result_offset tt (λ y k. (λ e. cc, λ e. cc, λ e. cc)))) (h.1.slot k e);
      },
    )
    over_out (run.returns v c) (fails i) over there h = absurd h
    over_out (run.stopped e) (goes_on st) over there h = absurd h
    over_out (run.stopped e) (leaves l st) over there h = absurd h
    over_out (run.stopped e) (fails i) over there h = lift i e h
