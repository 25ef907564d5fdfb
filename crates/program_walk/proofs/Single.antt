-- Statements that have no others in them, in the words of the code.
use Rattle.std.proofs.Common.{◌≡◌, ℕ, ◌+◌, Bool, true, false, List, sym, ap, ◌∙◌, subst}
use Rattle.qed_terms.specs.Meaning as sense
use Rattle.qed_terms.specs.Tree.{Tree, not_of}
use Rattle.typed_prog.specs.Tree as t
use Rattle.c_runs.specs.Program.{Facts, Variable}
use Rattle.plain_states.specs.Slots.{Sizes, result_slot, sizes_of, temp_slot}
use Rattle.value_terms.specs.Readings.{Term, number_term}
use Rattle.walk_steps.specs.Walk.{Goal}
use Rattle.program_steps.specs.Leaves.{closed, fill, number}
use Rattle.program_steps.specs.Words as words
use Rattle.step_walks.specs.Walks.{Held, Walks, now_left, now_set, states}
use Rattle.step_walks.proofs.Walking.{exit_walks, seq_goes, set_walks}
use Rattle.walk_frames.specs.Words.{Still, give_word, set_word, start_word, term_word}
use Rattle.walk_frames.specs.Evaluated.{Evaluated}
use Rattle.walk_frames.proofs.Moving.{moved}

-- in an arm
pub arm_so : (b : Bool) (f u : Tree) → b ≡ true → u ≡ f → u ≡ words.is_so f b
arm_so b f u h e = e ∙ ap (words.is_so f) (sym h)

pub arm_not : (b : Bool) (f u : Tree) → b ≡ false → u ≡ not_of f → u ≡ words.is_so f b
arm_not b f u h e = e ∙ ap (words.is_so f) (sym h)

-- behind the value of an expression
module _ {bases : List (List ℕ)} {m : sense.World} {p : Facts} {xs : List Variable} {e : t.Value} {made : Term} {h q : Held} {fit fit' : List Goal → Type 0} (ev : Evaluated m bases p xs e made h q fit fit')
    (z : Sizes) (is_sizes : z ≡ sizes_of p xs) (v : Tree) (is_value : v ≡ number_term made) where
  value_is : fill (states q) (closed (term_word m p xs e)) ≡ v
  value_is = ev.number ∙ sym is_value

  pub set_after : {r : Held} (n i : ℕ) → i ≡ temp_slot z n → r ≡ now_set q i v → Walks bases (set_word m p xs n e) h r fit fit' true
  set_after n i is_slot is =
      seq_goes ev.walks (set_walks (temp_slot (sizes_of p xs) n) (number m (term_word m p xs e)) v value_is (is ∙ ap (λ j. now_set q j v) (is_slot ∙ ap (λ w. temp_slot w n) is_sizes)))

  pub start_after : {r : Held} (x n : ℕ) → n ≡ (sizes_of p xs).globals + x
      → ((u : Tree) → fill (states q) (closed u) ≡ v → (gs : List Goal) → Walks bases (words.set_variable m n u) q r (Still gs) (Still gs) true) → Walks bases (start_word m p xs x e) h r fit fit' true
  start_after {r = r} x n is_number go =
      seq_goes ev.walks (subst (λ k. Walks bases (words.set_variable m k (term_word m p xs e)) q r fit' fit' true) is_number (moved (go (term_word m p xs e) value_is)))

  pub give_after : {r s t : Held} (c k i : ℕ) → i ≡ result_slot z → r ≡ now_set q i v → ((gs : List Goal) → Walks bases (words.drop m z c (λ n. true)) r s (Still gs) (Still gs) true) → t ≡ now_left s k
      → Walks bases (give_word m p xs c k e) h t fit fit' false
  give_after {r = r} {s = s} c k i is_slot is gone left =
      seq_goes ev.walks
      (seq_goes (set_walks (result_slot (sizes_of p xs)) (number m (term_word m p xs e)) v value_is (is ∙ ap (λ j. now_set q j v) (is_slot ∙ ap result_slot is_sizes)))
      (seq_goes (subst (λ w. Walks bases (words.drop m w c (λ n. true)) r s fit' fit' true) is_sizes (moved gone)) (exit_walks k left)))
