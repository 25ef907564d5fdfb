-- Words of loops and calls do what these do, all in them is good, and they end the blocks that they make.
use Rattle.std.proofs.Common.{◌≡◌, ℕ, zero, suc, List, [], ◌∷◌, map, Some, slice_get, ap}
use Rattle.std.proofs.lemmas.Option.{none-some, same_Some}
use Rattle.qed_terms.specs.Meaning as sense
use Rattle.qed_terms.specs.Setting.{Setting, world_of}
use Rattle.same_memories.proofs.Functions.{settings_respect}
use Rattle.c_runs.specs.Program.{Function, Program}
use Rattle.c_runs.specs.Tree.{Steps}
use Rattle.memory_steps.specs.State.{Base, base}
use Rattle.memory_steps.specs.Step.{sort_at}
use Rattle.memory_words.specs.Places.{Place, places, slot}
use Rattle.memory_words.proofs.SlotListing.{slots_of_places}
use Rattle.memory_words.specs.Shapes.{FileCells, sizes, is_memory}
use Rattle.memory_words.specs.Readings.{Texts}
use Rattle.memory_words.specs.Bases.{AreSorted}
use Rattle.memory_words.specs.Others.{OthersRun}
use Rattle.memory_calls.proofs.LoopGood.{loops_are_good}
use Rattle.memory_calls.proofs.Loops.{loops_run}
use Rattle.memory_calls.proofs.CallGood.{calls_are_good}
use Rattle.memory_calls.proofs.Calls.{calls_run}
use Rattle.memory_functions.specs.Words.{Written, shape_in, no_others, bases_in}
use Rattle.memory_functions.specs.GoodLaws.{OthersAreGood, OthersStay}
use Rattle.memory_functions.proofs.Calling.{loops_stay, calls_stay}
use Rattle.memory_programs.specs.Programs.{others_in, fits_in}

-- ---- bases

module _ (f : Place → Base) where
  sort_there : (ps : List Place) (i : ℕ) (a : Place) → slice_get ps i ≡ Some a → sort_at (map f ps) i ≡ (f a).is_memory
  sort_there [] i a e = absurd (none-some a e)
  sort_there (c ∷ ps) zero a e = ap (λ (a : Place). (f a).is_memory) (same_Some c a e)
  sort_there (c ∷ ps) (suc i) a e = sort_there ps i a e

bases_sorted : (m : sense.World) (q : Program Steps) (cells : FileCells) (texts : Texts) (n : ℕ) (f : Function Steps) (g : Written)
    → AreSorted (sizes q.facts (shape_in f g)) cells (bases_in m q cells texts n f g)
bases_sorted m q cells texts n f g a there =
    let z = sizes q.facts (shape_in f g) in sort_there (λ a. base (g.name a) (is_memory cells a)) (places z) (slot z a) a ((slots_of_places z).listed a there)

-- ---- loops and calls of a function

module _ (setting : Setting) (q : Program Steps) (cells : FileCells) (texts : Texts) (n : ℕ) (f : Function Steps) (g : Written) where
  abbrev m : sense.World
  m = world_of setting

  pub others_run : OthersRun m q (shape_in f g) cells texts f.contract (others_in setting q cells texts n f g) (fits_in setting q cells texts n f g)
  others_run = record {
    loop = loops_run m q (shape_in f g) cells texts f.contract;
    call = calls_run m q (shape_in f g) cells texts f.contract (no_others m q cells texts n f g);
  }

  pub others_good : OthersAreGood m (bases_in m q cells texts n f g) (fits_in setting q cells texts n f g) (others_in setting q cells texts n f g)
  others_good = record {
    loop = λ pt l ss pass fits good.
        loops_are_good m (settings_respect setting) q.facts (shape_in f g) cells texts (bases_in m q cells texts n f g) (bases_sorted m q cells texts n f g) f.contract pt l ss pass good;
    call = λ pt after cs to k l es fits.
        calls_are_good m (settings_respect setting) q.facts (shape_in f g) cells texts (bases_in m q cells texts n f g) (bases_sorted m q cells texts n f g) f.contract q.functions
        (no_others m q cells texts n f g) pt after cs to k l es fits;
  }

  pub others_stay : OthersStay (fits_in setting q cells texts n f g) (others_in setting q cells texts n f g)
  others_stay = record {
    loop = λ pt l ss pass fits stays. loops_stay m q.facts (shape_in f g) cells texts f.contract pt l ss pass stays;
    call = λ pt after cs to k l es fits. calls_stay m q.facts (shape_in f g) cells texts f.contract q.functions (no_others m q cells texts n f g) pt cs to k l es after;
  }
