-- Walks that pass no goals on, and single statements.
use Rattle.std.proofs.Common.{◌≡◌, ◌<◌, ℕ, zero, suc, ◌+◌, Bool, true, false, cond, pos, List, [], length, drop, get_or, refl, sym, ap, ◌∙◌, subst, arith}
use Rattle.qed_terms.specs.Meaning as sense
use Rattle.qed_terms.specs.Tree.{Tree, num}
use Rattle.typed_prog.specs.Tree as t
use Rattle.plain_states.specs.Slots.{Sizes, temp_slot, value_slot, flag_slot}
use Rattle.walk_steps.specs.Step as steps
use Rattle.walk_steps.specs.Step.{Step}
use Rattle.walk_steps.specs.Walk.{Goal}
use Rattle.program_steps.specs.Leaves.{fill, closed, number}
use Rattle.program_steps.specs.Temporaries.{Temporaries}
use Rattle.program_steps.specs.Words as words
use Rattle.walk_live.specs.Bits.{bits}
use Rattle.step_walks.specs.Walks.{Held, Walks, states, now_set}
use Rattle.step_walks.proofs.Walking.{skip_walks, set_walks, seq_goes}
use Rattle.walk_frames.specs.Words.{Still}

module _ {bases : List (List ℕ)} where
  -- what passes no goals on does so whatever fits
  pub moved : {p q : Held} {fit : List Goal → Type 0} {a : Step} {goes : Bool} → ((gs : List Goal) → Walks bases a p q (Still gs) (Still gs) goes) → Walks bases a p q fit fit goes
  moved {p = p} {q = q} {fit = fit} {a = a} {goes = goes} h = record {
    goals = λ gs f. subst fit ((h gs).goals gs refl) f;
    left = (h []).left;
    used = (h []).used;
    olds = (h []).olds;
    front = (h []).front;
    end = (h []).end;
  }

  -- a variable is set; its value is a term over the slots before
  pub variable_set : {p q r : Held} {fit : List Goal → Type 0} (m : sense.World) (x i j : ℕ) (t v one : Tree) → i ≡ value_slot x → j ≡ flag_slot x → fill (states p) (closed t) ≡ v → one ≡ num (pos 1)
      → q ≡ now_set p i v → r ≡ now_set q j one → Walks bases (words.set_variable m x t) p r fit fit true
  variable_set {p = p} {q = q} {r = r} m x i j t v one a b e u h k =
      seq_goes (set_walks (value_slot x) (number m t) v e (h ∙ ap (λ i. now_set p i v) a)) (set_walks (flag_slot x) (number m (num (pos 1))) (num (pos 1)) refl (k ∙ (λ l. now_set q (b l) (u l))))

-- ---- temporaries that are dropped

bit_at : (c : ℕ) (f : Temporaries) (n : ℕ) (d : Bool) → n < c → get_or (bits c f) n d ≡ f n
bit_at zero f n d l = absurd (omega (arith, l))
bit_at (suc c) f zero d l = refl
bit_at (suc c) f (suc n) d l = bit_at c (λ i. f (suc i)) n d (omega (arith, l))

bits_long : (c : ℕ) (f : Temporaries) → length (bits c f) ≡ c
bits_long zero f = refl
bits_long (suc c) f = ap suc (bits_long c (λ n. f (suc n)))

module _ {bases : List (List ℕ)} where
  pub one_dropped : {p q r : Held} {gs : List Goal} (m : sense.World) (z : Sizes) (c : ℕ) (f : Temporaries) (xs : List Bool) (n : ℕ) (d : Bool) → xs ≡ bits c f → n < length xs
      → Walks bases (words.drop m z n f) p q (Still gs) (Still gs) true
      → Walks bases (cond (get_or xs n d) (steps.set (temp_slot z n) (number m (num (pos 0)))) steps.skip) q r (Still gs) (Still gs) true → Walks bases (words.drop m z (n + 1) f) p r (Still gs) (Still gs) true
  one_dropped {p = p} {q = q} {r = r} {gs = gs} m z c f xs n d e l h k =
      let within : n < c = (let a = ap length e in let b = bits_long c f in omega (arith, l, a, b)) in
      let same : get_or xs n d ≡ f n = ap (λ ys. get_or ys n d) e ∙ bit_at c f n d within in
      let next : suc n ≡ n + 1 = omega arith in
      subst (λ k. Walks bases (words.drop m z k f) p r (Still gs) (Still gs) true) next
      (seq_goes h (subst (λ b. Walks bases (cond b (steps.set (temp_slot z n) (number m (num (pos 0)))) steps.skip) q r (Still gs) (Still gs) true) same k))

  pub all_dropped : {p q : Held} {gs : List Goal} (m : sense.World) (z : Sizes) (c : ℕ) (f : Temporaries) (xs : List Bool) (n : ℕ) → xs ≡ bits c f → n ≡ length xs
      → Walks bases (words.drop m z n f) p q (Still gs) (Still gs) true → Walks bases (words.drop m z c f) p q (Still gs) (Still gs) true
  all_dropped {p = p} {q = q} {gs = gs} m z c f xs n e l h = subst (λ k. Walks bases (words.drop m z k f) p q (Still gs) (Still gs) true) (l ∙ ap length e ∙ bits_long c f) h

  -- ... each of the first ones
  pub next_dropped : {p q r : Held} {gs : List Goal} (m : sense.World) (z : Sizes) (n : ℕ) → Walks bases (words.drop m z n (λ i. true)) p q (Still gs) (Still gs) true
      → Walks bases (cond true (steps.set (temp_slot z n) (number m (num (pos 0)))) steps.skip) q r (Still gs) (Still gs) true
      → Walks bases (words.drop m z (n + 1) (λ i. true)) p r (Still gs) (Still gs) true
  next_dropped {p = p} {r = r} {gs = gs} m z n h k =
      let next : suc n ≡ n + 1 = omega arith in
      subst (λ k. Walks bases (words.drop m z k (λ i. true)) p r (Still gs) (Still gs) true) next (seq_goes h k)

  pub every_dropped : {p q : Held} {gs : List Goal} (m : sense.World) (z : Sizes) (c n : ℕ) → n ≡ c → Walks bases (words.drop m z n (λ i. true)) p q (Still gs) (Still gs) true
      → Walks bases (words.drop m z c (λ i. true)) p q (Still gs) (Still gs) true
  every_dropped {p = p} {q = q} {gs = gs} m z c n e h = subst (λ k. Walks bases (words.drop m z k (λ i. true)) p q (Still gs) (Still gs) true) e h

  pub one_set : {p q : Held} {gs : List Goal} (m : sense.World) (z : Sizes) (n i : ℕ) (b : Bool) (u : Tree) → b ≡ true → i ≡ temp_slot z n → u ≡ num (pos 0) → q ≡ now_set p i u
      → Walks bases (cond b (steps.set (temp_slot z n) (number m (num (pos 0)))) steps.skip) p q (Still gs) (Still gs) true
  one_set {p = p} {q = q} {gs = gs} m z n i b u h e k l =
      subst (λ b. Walks bases (cond b (steps.set (temp_slot z n) (number m (num (pos 0)))) steps.skip) p q (Still gs) (Still gs) true) (sym h)
      (set_walks (temp_slot z n) (number m (num (pos 0))) (num (pos 0)) refl (l ∙ (λ j. now_set p (e j) (k j))))

  pub none_set : {p : Held} {gs : List Goal} (m : sense.World) (z : Sizes) (n : ℕ) (b : Bool) → b ≡ false
      → Walks bases (cond b (steps.set (temp_slot z n) (number m (num (pos 0)))) steps.skip) p p (Still gs) (Still gs) true
  none_set {p = p} {gs = gs} m z n b h =
      subst (λ b. Walks bases (cond b (steps.set (temp_slot z n) (number m (num (pos 0)))) steps.skip) p p (Still gs) (Still gs) true) (sym h) skip_walks

  pub none_dropped : {p : Held} {gs : List Goal} (m : sense.World) (z : Sizes) (f : Temporaries) → Walks bases (words.drop m z 0 f) p p (Still gs) (Still gs) true
  none_dropped m z f = skip_walks
