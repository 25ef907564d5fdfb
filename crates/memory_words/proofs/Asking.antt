-- The word of an expression goes on exactly where all its checks are met, and else fails at the first that isn't.
use Rattle.std.proofs.Common.{◌≡◌, ◌⊎◌, ℕ, suc, ◌+◌, Bool, true, false, List, [], ◌∷◌, Option, Some, None, refl, sym, ◌∙◌, subst, inl, inr, add-zero, arith}
use Rattle.std.specs.List.{list_all}
use Rattle.std.proofs.lemmas.Bool.{and_parts}
use Rattle.qed_terms.specs.Meaning as sense
use Rattle.qed_terms.specs.Meaning.{truth}
use Rattle.qed_terms.specs.Tree.{Tree}
use Rattle.c_runs.specs.Claims.{Stop, undefined}
use Rattle.c_runs.specs.Checks.{Check}
use Rattle.goal_segments.specs.RunSegments.{Asks, all_met, met, unmet}
use Rattle.value_terms.specs.Words.{Item, asked, known, checks_in}
use Rattle.value_terms.specs.Laws.{Says}
use Rattle.memory_steps.specs.State.{State}
use Rattle.memory_steps.specs.Step.{Step, places}
use Rattle.memory_steps.specs.Run.{End, goes_on, fails, Seg}
use Rattle.memory_steps.specs.Run as seg
use Rattle.memory_steps.proofs.Readings.{asks_then, knows_then}
use Rattle.memory_words.specs.Places.{Sizes}
use Rattle.memory_words.specs.Leaves.{is_closed, closed, leaves_of}
use Rattle.program_steps.specs.Stops.{undefined_place}
use Rattle.memory_words.specs.Seen.{is_closed_item}
use Rattle.memory_words.specs.Words.{items_step}
use Rattle.memory_words.specs.Placed.{FailsAs}
use Rattle.memory_words.proofs.Valued.{closed_told}

-- a number that runs on
pub behind : {olds : List State} {n : ℕ} {b : Step} {st : State} {o : End} → Seg olds n b st o → Seg olds (n + 0) b st o
behind {olds} {n} {b} {st} {o} k = subst (λ n. Seg olds n b st o) (sym (add-zero n)) k

one_more : (n : ℕ) → n + 1 ≡ suc n
one_more n = omega arith

module _ (m : sense.World) (z : Sizes) (olds : List State) (st : State) (so : Check → Bool) where
  abbrev pub Told : Tree → Bool
  Told f = truth m (leaves_of (st ∷ olds)) f

  -- the ways in which a word of items ends
  pub data Ways (is : List Item) (n : ℕ) : Option Stop → End → Type 0 where
    all_so : Ways is n None (goes_on st)
    one_fails : {i : ℕ} {e : Stop} → FailsAs (places (items_step m z is)) n i e → Ways is n (Some e) (fails i)

  more_asked : (c : Check) (f : Tree) (is : List Item) (n : ℕ) (o : Option Stop) (e : End) → Ways is (suc n) o e → Ways (asked c f ∷ is) n o e
  more_asked c f is n None _ all_so = all_so
  more_asked c f is n (Some x) _ (one_fails h) = one_fails (h.0, inr h.1, h.2)

  more_known : (f : Tree) (is : List Item) (n : ℕ) (o : Option Stop) (e : End) → Ways is n o e → Ways (known f ∷ is) n o e
  more_known f is n None _ all_so = all_so
  more_known f is n (Some x) _ (one_fails h) = one_fails (h.0, h.1, h.2)

  -- forth
  pub items_run : (is : List Item) (n : ℕ) → list_all is_closed_item is ≡ true → Says Told so is → (o : Option Stop) → Asks so (checks_in is) o
      → (e : End) × Seg olds n (items_step m z is) st e × Ways is n o e
  items_run [] n c says _ all_met = (goes_on st, seg.skips, all_so)
  items_run (asked a f ∷ is) n c says o (met is_so rest) =
      let both = and_parts (is_closed [] f) (list_all is_closed_item is) c in
      let r = items_run is (suc n) both.1 (says.1 is_so) o rest in
      let t = closed_told m (st ∷ olds) f both.0 ∙ says.0 ∙ is_so in
      (r.0, seg.goes_both (seg.asks (t, tt)) (subst (λ k. Seg olds k (items_step m z is) st r.0) (sym (one_more n)) r.1), more_asked a f is n o r.0 r.2)
  items_run (asked a f ∷ is) n c says _ (unmet untrue) =
      let both = and_parts (is_closed [] f) (list_all is_closed_item is) c in
      let t = closed_told m (st ∷ olds) f both.0 ∙ says.0 ∙ untrue in
      (fails n, seg.ends_first (seg.ask_fails (inl (t, refl))) tt, one_fails (undefined_place a.kind a.line, inl (refl, refl), (refl, refl)))
  items_run (known f ∷ is) n c says o asks =
      let both = and_parts (is_closed [] f) (list_all is_closed_item is) c in
      let r = items_run is n both.1 says.1 o asks in
      let t = closed_told m (st ∷ olds) f both.0 ∙ says.0 in
      (r.0, seg.goes_both (seg.knows_so (t, tt)) (behind r.1), more_known f is n o r.0 r.2)

  -- and back
  abbrev pub Found : List Item → ℕ → End → Type 0
  Found is n e = (o : Option Stop) × Asks so (checks_in is) o × Ways is n o e

  fails_now : (a : Check) (f : Tree) (is : List Item) (n i : ℕ) (e : End) → truth m (leaves_of (st ∷ olds)) (closed f) ≡ so a → seg.fails i ≡ e
      → ((truth m (leaves_of (st ∷ olds)) (closed f) ≡ false) × (n ≡ i)) ⊎ ((truth m (leaves_of (st ∷ olds)) (closed f) ≡ true) × ⊥) → Found (asked a f ∷ is) n e
  fails_now a f is n i e same is_it (inl x) =
      subst (Found (asked a f ∷ is) n) is_it
      (Some (undefined a.kind a.line), unmet (sym same ∙ x.0), one_fails (undefined_place a.kind a.line, inl (x.1, refl), (refl, refl)))
  fails_now a f is n i e same is_it (inr x) = absurd x.1

  pub items_way : (is : List Item) (n : ℕ) → list_all is_closed_item is ≡ true → Says Told so is → (e : End) → Seg olds n (items_step m z is) st e → Found is n e
  items_way [] n c says _ seg.skips = (None, all_met, all_so)
  items_way (asked a f ∷ is) n c says e s =
      let both = and_parts (is_closed [] f) (list_all is_closed_item is) c in
      let same : truth m (leaves_of (st ∷ olds)) (closed f) ≡ so a = closed_told m (st ∷ olds) f both.0 ∙ says.0 in
      by same both.1 (asks_then s) (λ x. items_way is (suc n) both.1 (says.1 x) e)
    where
      by : truth m (leaves_of (st ∷ olds)) (closed f) ≡ so a → list_all is_closed_item is ≡ true
          → ((i : ℕ) × (((truth m (leaves_of (st ∷ olds)) (closed f) ≡ false) × (n ≡ i)) ⊎ ((truth m (leaves_of (st ∷ olds)) (closed f) ≡ true) × ⊥)) × (seg.fails i ≡ e))
          ⊎ (((truth m (leaves_of (st ∷ olds)) (closed f) ≡ true) × Unit {0}) × Seg olds (n + 1) (items_step m z is) st e)
          → (so a ≡ true → Seg olds (suc n) (items_step m z is) st e → Found is (suc n) e) → Found (asked a f ∷ is) n e
      by same cs (inl (i, x, is_it)) rest = fails_now a f is n i e same is_it x
      by same cs (inr (t, k)) rest =
          let is_so = sym same ∙ t.0 in
          let r = rest is_so (subst (λ k. Seg olds k (items_step m z is) st e) (one_more n) k) in
          (r.0, met is_so r.1, more_asked a f is n r.0 e r.2)
  items_way (known f ∷ is) n c says e s =
      let both = and_parts (is_closed [] f) (list_all is_closed_item is) c in
      let r = items_way is n both.1 says.1 e (knows_then s).1 in
      (r.0, r.1, more_known f is n r.0 e r.2)
