-- What a run comes to, one test after the other, and formulas that are asked for these.
use Rattle.std.proofs.Common.{◌≡◌, ◌⊎◌, ℕ, ◌+◌, Bool, true, false, List, ◌∷◌, Option, Some, None, refl, sym, ap, ◌∙◌, inl, inr}
use Rattle.std.proofs.lemmas.Option.{same_Some}
use Rattle.qed_terms.specs.Meaning as sense
use Rattle.qed_terms.specs.Tree.{Tree}
use Rattle.c_runs.specs.Program.{Facts}
use Rattle.c_runs.specs.Claims.{Stop}
use Rattle.c_runs.specs.CoreRun.{CoreWorld, Ending, stopped}
use Rattle.walk_steps.specs.Forms.{Place}
use Rattle.memory_steps.specs.State.{State}
use Rattle.memory_steps.specs.Step.{Step, places, count}
use Rattle.memory_steps.specs.Step as step
use Rattle.program_steps.specs.Stops.{IsStop}
use Rattle.program_steps.specs.Temporaries.{Temporaries}
use Rattle.memory_words.specs.Shapes.{FileCells, Shape, sizes}
use Rattle.memory_words.specs.Standing.{Frame, StandsFor, FileStands}
use Rattle.memory_words.specs.Words.{ask_all}
use Rattle.memory_words.specs.Placed.{Openings, Ends, BothWays, all_told}
use Rattle.memory_words.proofs.Ends.{ends_well, ask_either}

-- it stops so, or goes on to what comes later
abbrev pub Stage : Option Stop → (Ending → Type 0) → Ending → Type 0
Stage x later o = ((y : Stop) × ((x ≡ Some y) × (stopped y ≡ o))) ⊎ ((x ≡ None) × later o)

none_some : {X : Type 0} {x : X} → None ≡ Some x → ⊥
none_some e = cc

module _ (p : Facts) (s : Shape) (cells : FileCells) (fr : Frame) (os : Openings) (outs : List Temporaries) (f : Temporaries) (m : sense.World) (olds : List State) (st : State)
    (a : Place) (fs : List Tree) (n : ℕ) (e : Stop) (stop : IsStop e a) (tail : Step) (later : Ending → Type 0) (x : Option Stop) where
  abbrev first : Step
  first = ask_all m (sizes p s) fs a

  -- it stops exactly where they aren't all true
  pub stage_both : (b : Bool) → all_told m (st ∷ olds) fs ≡ b → (b ≡ true → x ≡ None) → (b ≡ false → x ≡ Some e)
      → (b ≡ true → BothWays later (Ends p s cells fr os outs f (places tail) (n + count first)) olds (n + count first) tail st)
      → BothWays (Stage x later) (Ends p s cells fr os outs f (places (step.seq first tail)) n) olds n (step.seq first tail) st
  stage_both b told on_true on_false both =
      ask_either (Ends p s cells fr os outs f) (ends_well p s cells fr os outs f) m (sizes p s) olds st a fs n e stop tail later (Stage x later) b told
      (λ t o h. to t o h) (λ t o h. inr (on_true t, h)) (λ t. inl (e, (on_false t, refl))) (λ t o h. only t o h) both
    where
      to : b ≡ true → (o : Ending) → Stage x later o → later o
      to t o (inl (y, h)) = absurd (none_some (sym (on_true t) ∙ h.0))
      to t o (inr h) = h.1

      only : b ≡ false → (o : Ending) → Stage x later o → stopped e ≡ o
      only t o (inl (y, h)) = ap stopped (same_Some e y (sym (on_false t) ∙ h.0)) ∙ h.1
      only t o (inr h) = absurd (none_some (sym h.0 ∙ on_false t))

-- slots that stand for a world hold the file
pub file_of : (p : Facts) (s : Shape) (cells : FileCells) (fr : Frame) (used : Temporaries) (c : CoreWorld) (st : State) → StandsFor p s cells fr used c st
    → FileStands p s cells c.world.memory st
file_of p s cells fr used c st stands = record {
  good = stands.good;
  table_is = stands.table_is;
  numbers_are = stands.numbers_are;
  pointers_are = stands.pointers_are;
  globals = stands.globals;
}
