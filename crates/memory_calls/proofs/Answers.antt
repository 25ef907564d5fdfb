-- The places in which a call's result stands: how they are filled, what they give, and that they are put back.
use Rattle.std.proofs.Common.{◌≡◌, ℕ, true, false, List, [], ◌∷◌, length, refl, sym, ap, ◌∙◌, subst}
use Rattle.std.proofs.lemmas.Bool.{false≢true}
use Rattle.wp_base.specs.declared.kinds.CellKind.{CellKind}
use Rattle.wp_base.specs.declared.kinds.CellKind.TheVariants as cell
use Rattle.qed_terms.specs.Meaning as sense
use Rattle.c_runs.specs.TruthStates.{Value}
use Rattle.c_runs.specs.Program.{Facts}
use Rattle.c_runs.specs.CoreRun as run
use Rattle.c_runs.specs.CoreRun.{CoreWorld, Ending}
use Rattle.walk_steps.specs.Forms.{Place as CheckPlace}
use Rattle.memory_steps.specs.State.{State, number, HasSort}
use Rattle.memory_steps.specs.Run.{End, goes_on, leaves, fails, on_state, put_back}
use Rattle.memory_words.specs.Places.{Place, result, result_offset, answer, answer_offset, Sizes, IsIn, held, number_at, number_in, slot, slots_in, with_held}
use Rattle.memory_words.specs.Leaves.{leaf, leaves_of, closed}
use Rattle.memory_words.proofs.Leaves.{leaves_are_held, leaf_closed}
use Rattle.memory_words.proofs.Holding.{puts_are_held}
use Rattle.program_steps.specs.Temporaries.{Temporaries, no_temporaries, out_at}
use Rattle.memory_words.specs.Shapes.{FileCells, Shape, sizes}
use Rattle.memory_words.specs.Readings.{term_of_kind}
use Rattle.memory_words.specs.Standing.{IsHeldAs, Frame, StandsFor}
use Rattle.memory_words.proofs.Sorts.{number_is}
use Rattle.memory_words.proofs.Files.{held_same}
use Rattle.memory_words.specs.Placed.{Openings, Ends, left_of, all_of, frame_behind}
use Rattle.memory_words.specs.Puts.{counts, Keeps, NoPlace, Gives, first_value}
use Rattle.memory_words.proofs.PutStanding.{slots_go_on}
use Rattle.memory_words.proofs.Setting.{keeps_own, keeps_put, keeps_all}
use Rattle.memory_words.proofs.Valued.{closed_value}

-- both places
abbrev pub IsAnswer : Place → Type 0
IsAnswer answer = Unit {0}
IsAnswer answer_offset = Unit {0}
IsAnswer a = ⊥

pub no_counted : (f : Temporaries) (a : Place) → counts f a ≡ true → IsAnswer a → ⊥
no_counted f answer h own = false≢true h
no_counted f answer_offset h own = false≢true h
no_counted f a h own = own

-- ---- they are put back

module _ (z : Sizes) where
  abbrev pub filled : List ℕ
  filled = slot z answer ∷ slot z answer_offset ∷ []

  kept_back : (f : Temporaries) (old new : State) → HasSort false (held z old answer) → HasSort false (held z old answer_offset) → length new.slots ≡ slots_in z
      → Keeps z f NoPlace new (put_back filled old new)
  kept_back f old new first second size =
      subst (λ d. Keeps z f NoPlace new (with_held z answer_offset d (with_held z answer (held z old answer) new))) (sym (number_is (held z old answer_offset) second))
      (subst (λ d. Keeps z f NoPlace new (with_held z answer_offset (number (number_at z old answer_offset)) (with_held z answer d new))) (sym (number_is (held z old answer) first))
      (keeps_all z f IsAnswer (no_counted f) new
      (with_held z answer_offset (number (number_at z old answer_offset)) (with_held z answer (number (number_at z old answer)) new))
      (keeps_put z f IsAnswer new (with_held z answer (number (number_at z old answer)) new) answer_offset (number_at z old answer_offset) tt tt
      (keeps_put z f IsAnswer new new answer (number_at z old answer) tt tt (keeps_own z f IsAnswer new size)))))

  other_back : (old new : State) → length new.slots ≡ slots_in z → (a : Place) → IsIn z a → (answer ≡ a → ⊥) → (answer_offset ≡ a → ⊥)
      → held z (put_back filled old new) a ≡ held z new a
  other_back old new size a there one two =
      let first = puts_are_held z answer (held z old answer) new tt size in
      (puts_are_held z answer_offset (held z old answer_offset) (with_held z answer (held z old answer) new) tt (first.size ∙ size)).elsewhere a there two
      ∙ first.elsewhere a there one

module _ (p : Facts) (s : Shape) (cells : FileCells) (old : State) (first : HasSort false (held (sizes p s) old answer))
    (second : HasSort false (held (sizes p s) old answer_offset)) where
  abbrev z : Sizes
  z = sizes p s

  abbrev restored : State → State
  restored new = put_back (filled z) old new

  stands_back : (fr : Frame) (f : Temporaries) (c : CoreWorld) (st : State) → StandsFor p s cells fr f c st → StandsFor p s cells fr f c (restored st)
  stands_back fr f c st stands = slots_go_on p s cells fr f c st stands f (λ j h. h) (restored st) (kept_back z f old st first second stands.size)

  pub ends_back : (fr : Frame) (os : Openings) (outs : List Temporaries) (f : Temporaries) (ps : List CheckPlace) (n : ℕ) (o : Ending) (e : End) → Ends p s cells fr os outs f ps n o e
      → Ends p s cells fr os outs f ps n o (on_state (put_back (filled z) old) e)
  ends_back fr os outs f ps n (run.goes_on c) (goes_on st) h = stands_back fr f c st h
  ends_back fr os outs f ps n (run.goes_on c) (leaves k st) h = absurd h
  ends_back fr os outs f ps n (run.goes_on c) (fails j) h = absurd h
  ends_back fr os outs f ps n (run.exits k c) (goes_on st) h = absurd h
  ends_back fr os outs f ps n (run.exits k c) (leaves l st) h = (h.0, h.1, stands_back (frame_behind fr (left_of k os.here os.outs)) (out_at outs k) _ st h.2)
  ends_back fr os outs f ps n (run.exits k c) (fails j) h = absurd h
  ends_back fr os outs f ps n (run.returns v c) (goes_on st) h = absurd h
  ends_back fr os outs f ps n (run.returns v c) (leaves l st) h = (
    h.0,
    record {
      stands = stands_back (frame_behind fr (all_of os.here os.outs)) no_temporaries _ st h.1.stands;
      given = h.1.given;
      slot = λ k e. held_same k v (number_at z st result) (number_at z st result_offset) (number_at z (restored st) result) (number_at z (restored st) result_offset)
          (ap number_in (other_back z old st h.1.stands.size result tt (λ e. cc) (λ e. cc))) (ap number_in (other_back z old st h.1.stands.size result_offset tt (λ e. cc) (λ e. cc)))
          (h.1.slot k e);
    },
  )
  ends_back fr os outs f ps n (run.returns v c) (fails j) h = absurd h
  ends_back fr os outs f ps n (run.stopped x) (goes_on st) h = absurd h
  ends_back fr os outs f ps n (run.stopped x) (leaves l st) h = absurd h
  ends_back fr os outs f ps n (run.stopped x) (fails j) h = h

-- ---- what they give

module _ (m : sense.World) (z : Sizes) (olds : List State) (st : State) (size : length st.slots ≡ slots_in z) where
  leaf_is : (new : State) (a : Place) → sense.value m (leaves_of (new ∷ olds)) (closed (leaf z 0 a)) ≡ number_at z new a
  leaf_is new a = closed_value m (new ∷ olds) (leaf z 0 a) (leaf_closed [] z 0 a) ∙ (leaves_are_held m (new ∷ olds) 0).number z a

  pub answer_gives : (k : CellKind) (v : Value) → IsHeldAs k v (number_at z st answer) (number_at z st answer_offset)
      → Gives m z olds answer k (term_of_kind k (leaf z 0 answer) (leaf z 0 answer_offset)) v st
  answer_gives (cell.Of k) v is = record { held = held_same (cell.Of k) v (number_at z st answer) (number_at z st answer_offset) _ _ (leaf_is st answer) refl is; stays = refl }
  answer_gives cell.Ptr v is = record {
    held = held_same cell.Ptr v (number_at z st answer) (number_at z st answer_offset) _ _ (leaf_is st answer) (leaf_is st answer_offset) is;
    stays = leaf_is (with_held z answer (number (first_value m (st ∷ olds) cell.Ptr (term_of_kind cell.Ptr (leaf z 0 answer) (leaf z 0 answer_offset)))) st) answer_offset
        ∙ ap number_in ((puts_are_held z answer (number (first_value m (st ∷ olds) cell.Ptr (term_of_kind cell.Ptr (leaf z 0 answer) (leaf z 0 answer_offset)))) st tt size).elsewhere
        answer_offset tt (λ e. cc))
        ∙ sym (leaf_is st answer_offset);
  }
