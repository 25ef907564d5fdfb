-- What is so of readings of slots that stand for a world.
use Rattle.std.specs.Prelude.{ℕ, List, [], ◌∷◌}
use Rattle.wp_base.specs.Blocks.{Table}
use Rattle.acsl_trees.specs.Tree as acsl
use Rattle.c_runs.specs.TruthStates as labelled
use Rattle.c_runs.specs.TruthStates.{Value}
use Rattle.qed_terms.specs.Meaning as sense
use Rattle.c_runs.specs.Program.{Facts}
use Rattle.c_runs.specs.States.{Memory, seen, seen_by_contract as contract_state}
use Rattle.c_runs.specs.CoreRun.{CoreWorld}
use Rattle.value_terms.specs.Laws.{Stood}
use Rattle.acsl_encode.specs.Meaning.{SeenStands, Stands}
use Rattle.walk_steps.specs.State.{at_or}
use Rattle.memory_steps.specs.State.{State, state}
use Rattle.memory_words.specs.Leaves.{leaves_of}
use Rattle.memory_words.specs.Shapes.{FileCells, Shape}
use Rattle.memory_words.specs.Readings.{InScope, Texts, Standpoint, reading, common_of, seen_in_body, seen_by_contract, body_reading, entry_reading, return_reading}
use Rattle.memory_words.specs.Standing.{Temporaries, Frame, AllLive, FileStands, ParamsAre, StandsFor}
use Rattle.memory_words.specs.Seen.{InSetting, scope_at, SeenInBody, SeenByContract, BodySeen, EntrySeen, ReturnSeen}

-- ---- expressions

-- Where slots stand for a world in which the blocks of all variables in scope live, the reading of expressions stands for it.
abbrev pub ExpressionsRead : Type 0
ExpressionsRead =
    (m : sense.World) (p : Facts) (s : Shape) (cells : FileCells) → InSetting m p s cells → (fr : Frame) → AllLive fr → (f : Temporaries)
    → (c : CoreWorld) (st : State) → StandsFor p s cells fr f c st → (olds : List State)
    → Stood m (leaves_of (st ∷ olds)) (reading p s cells) p s.variables (scope_at s cells fr.in_scope f) c.temps c.world

-- ---- annotations

-- and what a body sees of the slots is the world's state
abbrev pub BodiesSee : Type 0
BodiesSee =
    (m : sense.World) (p : Facts) (s : Shape) (cells : FileCells) (texts : Texts) → InSetting m p s cells → (fr : Frame) → AllLive fr → (f : Temporaries)
    → (c : CoreWorld) (st : State) → StandsFor p s cells fr f c st → SeenInBody m p s cells texts fr.in_scope st (seen p c.world)

-- A contract sees the file of these slots, and the arguments, which other slots hold in the places of parameters.
abbrev pub ContractsSee : Type 0
ContractsSee =
    (m : sense.World) (p : Facts) (s : Shape) (cells : FileCells) (texts : Texts) (mem : Memory) (st : State) → FileStands p s cells mem st
    → (t : Table) (i : InScope) (vs : List Value) (entry : State) → ParamsAre p s t i vs entry
    → SeenByContract m p s cells texts i st entry (contract_state p vs mem)

-- The levels of a run's states: what is seen of a level is what is seen of its state by itself.
pub record LevelsAre (m : sense.World) (p : Facts) (s : Shape) (cells : FileCells) (texts : Texts) (sts : List State) (q : labelled.State) (a : acsl.Tree) : Type 0 where
  pub body : (l : ℕ) (i : InScope) → SeenInBody m p s cells texts i (at_or (state [] []) sts l) q
      → SeenStands m (common_of p s cells texts a) (leaves_of sts) (seen_in_body p s cells l i) q
  pub contract : (l e : ℕ) (i : InScope) → SeenByContract m p s cells texts i (at_or (state [] []) sts l) (at_or (state [] []) sts e) q
      → SeenStands m (common_of p s cells texts a) (leaves_of sts) (seen_by_contract p s cells l e i) q

abbrev pub LevelsAreStates : Type 0
LevelsAreStates =
    (m : sense.World) (p : Facts) (s : Shape) (cells : FileCells) (texts : Texts) (sts : List State) (q : labelled.State) (a : acsl.Tree) → LevelsAre m p s cells texts sts q a

-- So the readings of a body, of an entry and of a return stand for the worlds that annotations see there.
pub record ReadingsStand (m : sense.World) (p : Facts) (s : Shape) (cells : FileCells) (texts : Texts) (sts : List State) (w : labelled.World) (a : acsl.Tree) : Type 0 where
  pub body : (sp : Standpoint) → BodySeen m p s cells texts sp sts w → Stands m (body_reading p s cells texts sp a) (leaves_of sts) w
  pub entry : (e : ℕ) (i : InScope) → EntrySeen m p s cells texts e i sts w → Stands m (entry_reading p s cells texts e i a) (leaves_of sts) w
  pub back : (e : ℕ) (i : InScope) → ReturnSeen m p s cells texts e i sts w → Stands m (return_reading p s cells texts e i a) (leaves_of sts) w

abbrev pub AnnotationsRead : Type 0
AnnotationsRead =
    (m : sense.World) (p : Facts) (s : Shape) (cells : FileCells) (texts : Texts) → InSetting m p s cells → (sts : List State) (w : labelled.World) (a : acsl.Tree)
    → ReadingsStand m p s cells texts sts w a
