-- Lists of checks, each with a way of its own for a run to stop, and what they come to.
use Rattle.std.proofs.Common.{◌≡◌, ◌⊎◌, ℕ, suc, Bool, true, false, ◌&&◌, List, [], ◌∷◌, ◌++◌, map, Option, Some, None, refl, sym, ap, ◌∙◌, subst, inl, inr}
use Rattle.std.proofs.lemmas.Bool.{false≢true, and_parts}
use Rattle.qed_terms.specs.Meaning as sense
use Rattle.qed_terms.specs.Meaning.{truth}
use Rattle.qed_terms.specs.Tree.{Tree}
use Rattle.c_runs.specs.Claims.{Stop, or_stop}
use Rattle.walk_steps.specs.Forms.{Place}
use Rattle.walk_steps.specs.State.{AllTrue, FirstFalse}
use Rattle.memory_steps.specs.State.{State}
use Rattle.memory_steps.specs.Forms.{Check, forms, told_forms}
use Rattle.memory_steps.specs.Step.{places}
use Rattle.memory_steps.specs.Step as step
use Rattle.memory_steps.specs.Run.{End, goes_on, fails, Seg}
use Rattle.memory_steps.specs.Run as seg
use Rattle.memory_steps.proofs.Readings.{ask_ways}
use Rattle.memory_words.specs.Places.{Sizes}
use Rattle.memory_words.specs.Leaves.{closed, leaves_of, form}
use Rattle.program_steps.specs.Stops.{IsStop}
use Rattle.memory_words.specs.Words.{check}
use Rattle.memory_words.specs.Placed.{IsPlace, FailsAs, all_told}

-- ---- checks, and what they come to

-- all are true, or one is the first that is false, and a run stops so
pub data Comes (sts : List State) (cs : List Check) : Option Stop → Type 0 where
  all_true : AllTrue (told_forms sts (forms cs)) → Comes sts cs None
  one_false : {e : Stop} → ((n : ℕ) → (i : ℕ) × FirstFalse n (told_forms sts (forms cs)) i × ((a : Place) × IsPlace (map (λ (c : Check). c.place) cs) n i a × IsStop e a)) → Comes sts cs (Some e)

pub none_come : (sts : List State) → Comes sts [] None
none_come sts = all_true tt

pub more_come : (sts : List State) (cs ds : List Check) (o x : Option Stop) → Comes sts cs o → Comes sts ds x → Comes sts (cs ++ ds) (or_stop o x)
more_come sts [] ds _ x (all_true t) k = k
more_come sts (c ∷ cs) ds _ x (all_true t) k = by x (more_come sts cs ds None x (all_true t.1) k) where
  by : (x : Option Stop) → Comes sts (cs ++ ds) x → Comes sts (c ∷ (cs ++ ds)) x
  by _ (all_true r) = all_true (t.0, r)
  by _ (one_false h) = one_false (λ n. let y = h (suc n) in (y.0, inr (t.0, y.1), (y.2.0, inr y.2.1, y.2.2)))
more_come sts cs ds _ x (one_false h) k = one_false (λ n. let y = h n in (y.0, false_more cs n y.0 y.1, (y.2.0, place_more cs n y.0 y.2.0 y.2.1, y.2.2))) where
  false_more : (cs : List Check) (n i : ℕ) → FirstFalse n (told_forms sts (forms cs)) i → FirstFalse n (told_forms sts (forms (cs ++ ds))) i
  false_more [] n i h = absurd h
  false_more (c ∷ cs) n i (inl h) = inl h
  false_more (c ∷ cs) n i (inr h) = inr (h.0, false_more cs (suc n) i h.1)

  place_more : (cs : List Check) (n i : ℕ) (a : Place) → IsPlace (map (λ (c : Check). c.place) cs) n i a → IsPlace (map (λ (c : Check). c.place) (cs ++ ds)) n i a
  place_more [] n i a h = absurd h
  place_more (c ∷ cs) n i a (inl h) = inl h
  place_more (c ∷ cs) n i a (inr h) = inr (place_more cs (suc n) i a h)

pub one_comes : (sts : List State) (c : Check) (o : Option Stop) (b : Bool) → c.form.told sts ≡ b → (b ≡ true → o ≡ None) → (b ≡ false → (e : Stop) × (o ≡ Some e) × IsStop e c.place)
    → Comes sts (c ∷ []) o
one_comes sts c o true told so untrue = subst (Comes sts (c ∷ [])) (sym (so refl)) (all_true (told, tt))
one_comes sts c o false told so untrue =
    let x = untrue refl in
    subst (Comes sts (c ∷ [])) (sym x.1) (one_false (λ n. (n, inl (told, refl), (c.place, inl (refl, refl), x.2))))

-- ---- asked in a step

same_false : (n : ℕ) (bs : List Bool) (i j : ℕ) → FirstFalse n bs i → FirstFalse n bs j → i ≡ j
same_false n [] i j h k = absurd h
same_false n (b ∷ bs) i j (inl h) (inl k) = sym h.1 ∙ k.1
same_false n (b ∷ bs) i j (inl h) (inr k) = absurd (false≢true (sym h.0 ∙ k.0))
same_false n (b ∷ bs) i j (inr h) (inl k) = absurd (false≢true (sym k.0 ∙ h.0))
same_false n (b ∷ bs) i j (inr h) (inr k) = same_false (suc n) bs i j h.1 k.1

not_all : (n : ℕ) (bs : List Bool) (i : ℕ) → AllTrue bs → FirstFalse n bs i → ⊥
not_all n [] i t h = h
not_all n (b ∷ bs) i t (inl h) = false≢true (sym h.0 ∙ t.0)
not_all n (b ∷ bs) i t (inr h) = not_all (suc n) bs i t.1 h.1

-- what a step that asks them comes to
pub data Asks (cs : List Check) (st : State) (n : ℕ) : Option Stop → End → Type 0 where
  goes : Asks cs st n None (goes_on st)
  stops : {e : Stop} {i : ℕ} → FailsAs (map (λ (c : Check). c.place) cs) n i e → Asks cs st n (Some e) (fails i)

pub asks_run : (olds : List State) (st : State) (cs : List Check) (n : ℕ) (o : Option Stop) → Comes (st ∷ olds) cs o → (e : End) × Seg olds n (step.ask cs) st e × Asks cs st n o e
asks_run olds st cs n _ (all_true t) = (goes_on st, seg.asks t, goes)
asks_run olds st cs n _ (one_false h) = let x = h n in (fails x.0, seg.ask_fails x.1, stops x.2)

pub asks_way : (olds : List State) (st : State) (cs : List Check) (n : ℕ) (o : Option Stop) → Comes (st ∷ olds) cs o → (e : End) → Seg olds n (step.ask cs) st e → Asks cs st n o e
asks_way olds st cs n o comes e k = by o comes (ask_ways k) where
  by : (o : Option Stop) → Comes (st ∷ olds) cs o
      → (AllTrue (told_forms (st ∷ olds) (forms cs)) × (goes_on st ≡ e)) ⊎ ((i : ℕ) × FirstFalse n (told_forms (st ∷ olds) (forms cs)) i × (fails i ≡ e)) → Asks cs st n o e
  by _ (all_true t) (inl h) = subst (Asks cs st n None) h.1 goes
  by _ (all_true t) (inr (i, f, same)) = absurd (not_all n (told_forms (st ∷ olds) (forms cs)) i t f)
  by _ (one_false x) (inl h) = absurd (not_all n (told_forms (st ∷ olds) (forms cs)) (x n).0 h.0 (x n).1)
  by _ (one_false {e = y} x) (inr (i, f, same)) =
      subst (Asks cs st n (Some y)) (ap fails (same_false n (told_forms (st ∷ olds) (forms cs)) (x n).0 i (x n).1 f) ∙ same) (stops (x n).2)

some_parts : {X : Type 0} {x y : X} → Some x ≡ Some y → x ≡ y
some_parts e = cc

none_some : {X : Type 0} {x : X} → None ≡ Some x → ⊥
none_some e = cc

pub ask_stops : (olds : List State) (st : State) (cs : List Check) (n : ℕ) (o : Option Stop) (x : Stop) → Comes (st ∷ olds) cs o → o ≡ Some x
    → (i : ℕ) × Seg olds n (step.ask cs) st (fails i) × FailsAs (places (step.ask cs)) n i x
ask_stops olds st cs n _ x (all_true t) e = absurd (none_some e)
ask_stops olds st cs n _ x (one_false h) e =
    let y = h n in (y.0, seg.ask_fails y.1, subst (λ z. FailsAs (places (step.ask cs)) n y.0 z) (some_parts e) y.2)

pub ask_goes : (olds : List State) (st : State) (cs : List Check) (n : ℕ) (o : Option Stop) → Comes (st ∷ olds) cs o → o ≡ None → Seg olds n (step.ask cs) st (goes_on st)
ask_goes olds st cs n _ (all_true t) e = seg.asks t
ask_goes olds st cs n _ (one_false h) e = absurd (none_some (sym e))

-- ---- how asked checks end

goes_no_fail : {st : State} {i : ℕ} → goes_on st ≡ fails i → ⊥
goes_no_fail e = cc

fails_no_go : {st : State} {i : ℕ} → fails i ≡ goes_on st → ⊥
fails_no_go e = cc

fails_parts : {i j : ℕ} → fails i ≡ fails j → i ≡ j
fails_parts e = cc

-- one is false, and a run stops so
pub comes_false : (olds : List State) (st : State) (cs : List Check) (n i : ℕ) (o : Option Stop) → Comes (st ∷ olds) cs o → FirstFalse n (told_forms (st ∷ olds) (forms cs)) i
    → (x : Stop) × ((o ≡ Some x) × FailsAs (places (step.ask cs)) n i x)
comes_false olds st cs n i o comes first = by (asks_way olds st cs n o comes (fails i) (seg.ask_fails first)) refl where
  by : {o : Option Stop} {e : End} → Asks cs st n o e → e ≡ fails i → (x : Stop) × ((o ≡ Some x) × FailsAs (places (step.ask cs)) n i x)
  by goes e = absurd (goes_no_fail e)
  by (stops {e = x} {i = j} h) e = (x, (refl, subst (λ j. FailsAs (places (step.ask cs)) n j x) (fails_parts e) h))

-- all are true, and it goes on
pub comes_true : (olds : List State) (st : State) (cs : List Check) (o : Option Stop) → Comes (st ∷ olds) cs o → AllTrue (told_forms (st ∷ olds) (forms cs)) → o ≡ None
comes_true olds st cs o comes all = by (asks_way olds st cs 0 o comes (goes_on st) (seg.asks all)) refl where
  by : {o : Option Stop} {e : End} → Asks cs st 0 o e → e ≡ goes_on st → o ≡ None
  by goes e = refl
  by (stops h) e = absurd (fails_no_go e)

-- ---- lists of formulas

module _ (m : sense.World) (sts : List State) where
  pub all_known : (fs : List Tree) → all_told m sts fs ≡ true → AllTrue (told_forms sts (map (form m) fs))
  all_known [] h = tt
  all_known (f ∷ fs) h = let both = and_parts (truth m (leaves_of sts) (closed f)) (all_told m sts fs) h in (both.0, all_known fs both.1)

  pub known_all : (fs : List Tree) → AllTrue (told_forms sts (map (form m) fs)) → all_told m sts fs ≡ true
  known_all [] h = refl
  known_all (f ∷ fs) h = λ i. h.0 i && known_all fs h.1 i

  pub asked_all : (z : Sizes) (a : Place) (fs : List Tree) → AllTrue (told_forms sts (forms (map (λ f. check m z f a) fs))) → all_told m sts fs ≡ true
  asked_all z a [] h = refl
  asked_all z a (f ∷ fs) h = λ i. h.0 i && asked_all z a fs h.1 i

  pub told_append : (fs gs : List Tree) → all_told m sts (fs ++ gs) ≡ (all_told m sts fs && all_told m sts gs)
  told_append [] gs = refl
  told_append (f ∷ fs) gs = ap (λ b. truth m (leaves_of sts) (closed f) && b) (told_append fs gs) ∙ by (truth m (leaves_of sts) (closed f)) where
    by : (a : Bool) → (a && (all_told m sts fs && all_told m sts gs)) ≡ ((a && all_told m sts fs) && all_told m sts gs)
    by true = refl
    by false = refl
