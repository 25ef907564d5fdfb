-- Lists of checks, each with a way of its own for a run to stop; and formulas that are made of several.
use Rattle.std.proofs.Common.{◌≡◌, ◌⊎◌, ℕ, zero, suc, ◌+◌, Bool, true, false, not, ◌&&◌, ◌||◌, if◌then◌else◌, List, [], ◌∷◌, ◌++◌, map, length, Option, Some, None, refl, sym, ap, ◌∙◌, subst, inl, inr, arith}
use Rattle.std.specs.List.{list_all, list_any}
use Rattle.std.proofs.lemmas.Bool.{false≢true, and_parts}
use Rattle.qed_terms.specs.Meaning as sense
use Rattle.qed_terms.specs.Meaning.{Values, each_true, some_true, meanings, truth}
use Rattle.qed_terms.specs.Tree.{Tree, trees_of, not_of, and_of}
use Rattle.acsl_encode.specs.Encode.{all_of}
use Rattle.c_runs.specs.Claims.{Stop, or_stop, is_so, one_at_most}
use Rattle.walk_steps.specs.State.{AllTrue, FirstFalse}
use Rattle.walk_steps.specs.Forms.{Place}
use Rattle.memory_steps.specs.State.{State}
use Rattle.memory_steps.specs.Forms.{Check, forms, told_forms}
use Rattle.memory_steps.specs.Step.{places}
use Rattle.memory_steps.specs.Step as step
use Rattle.memory_steps.specs.Run.{End, goes_on, fails, Seg}
use Rattle.memory_steps.specs.Run as seg
use Rattle.memory_steps.proofs.Readings.{ask_ways}
use Rattle.memory_words.specs.Leaves.{is_closed, are_closed}
use Rattle.program_steps.specs.Stops.{IsStop}
use Rattle.memory_words.specs.Regions.{any_of}
use Rattle.memory_words.specs.Placed.{IsPlace, FailsAs}
use Rattle.memory_functions.specs.GoalFunctions.{not_both, no_two}

-- ---- several formulas as one

closed_trees : (fs : List Tree) → list_all (is_closed []) fs ≡ true → are_closed [] (trees_of fs) ≡ true
closed_trees [] h = refl
closed_trees (f ∷ fs) h = let both = and_parts (is_closed [] f) (list_all (is_closed []) fs) h in ap (λ b. b && are_closed [] (trees_of fs)) both.0 ∙ closed_trees fs both.1

pub all_closed : (fs : List Tree) → list_all (is_closed []) fs ≡ true → is_closed [] (all_of fs) ≡ true
all_closed [] h = refl
all_closed (f ∷ []) h = (and_parts (is_closed [] f) true h).0
all_closed (f ∷ g ∷ fs) h = closed_trees (f ∷ g ∷ fs) h

pub any_closed : (fs : List Tree) → list_all (is_closed []) fs ≡ true → is_closed [] (any_of fs) ≡ true
any_closed [] h = refl
any_closed (f ∷ []) h = (and_parts (is_closed [] f) true h).0
any_closed (f ∷ g ∷ fs) h = closed_trees (f ∷ g ∷ fs) h

module _ (m : sense.World) (env : Values) where
  each_so : (fs : List Tree) → each_true (map sense.is_so (meanings m env (trees_of fs))) ≡ list_all (truth m env) fs
  each_so [] = refl
  each_so (f ∷ fs) = ap (λ b. truth m env f && b) (each_so fs)

  some_so : (fs : List Tree) → some_true (map sense.is_so (meanings m env (trees_of fs))) ≡ list_any (truth m env) fs
  some_so [] = refl
  some_so (f ∷ fs) = ap (λ b. truth m env f || b) (some_so fs)

  and_true : (b : Bool) → b ≡ (b && true)
  and_true true = refl
  and_true false = refl

  or_none : (b : Bool) → b ≡ (b || false)
  or_none true = refl
  or_none false = refl

  pub all_so : (fs : List Tree) → truth m env (all_of fs) ≡ list_all (truth m env) fs
  all_so [] = refl
  all_so (f ∷ []) = and_true (truth m env f)
  all_so (f ∷ g ∷ fs) = each_so (f ∷ g ∷ fs)

  pub any_so : (fs : List Tree) → truth m env (any_of fs) ≡ list_any (truth m env) fs
  any_so [] = refl
  any_so (f ∷ []) = or_none (truth m env f)
  any_so (f ∷ g ∷ fs) = some_so (f ∷ g ∷ fs)

  -- no two are true at once
  all_append : (fs gs : List Tree) → list_all (truth m env) (fs ++ gs) ≡ (list_all (truth m env) fs && list_all (truth m env) gs)
  all_append [] gs = refl
  all_append (f ∷ fs) gs = ap (λ b. truth m env f && b) (all_append fs gs) ∙ grouped (truth m env f) (list_all (truth m env) fs) (list_all (truth m env) gs) where
    grouped : (a b c : Bool) → (a && (b && c)) ≡ ((a && b) && c)
    grouped true b c = refl
    grouped false b c = refl

  none_with : (f : Tree) (gs : List Tree) → list_all (truth m env) (not_both f gs) ≡ (not (truth m env f) || not (list_any is_so (map (truth m env) gs)))
  none_with f [] = by (truth m env f) where
    by : (a : Bool) → true ≡ (not a || true)
    by true = refl
    by false = refl
  none_with f (g ∷ gs) = ap (λ b. not (truth m env f && (truth m env g && true)) && b) (none_with f gs)
      ∙ by (truth m env f) (truth m env g) (list_any is_so (map (truth m env) gs)) where
        by : (a b c : Bool) → (not (a && (b && true)) && (not a || not c)) ≡ (not a || not (b || c))
        by true true c = refl
        by true false c = refl
        by false b c = refl

  pub none_twice : (fs : List Tree) → list_all (truth m env) (no_two fs) ≡ one_at_most (map (truth m env) fs)
  none_twice [] = refl
  none_twice (f ∷ fs) = all_append (not_both f fs) (no_two fs) ∙ (λ k. (none_with f fs) k && (none_twice fs) k)

none_closed : (f : Tree) (gs : List Tree) → is_closed [] f ≡ true → list_all (is_closed []) gs ≡ true → list_all (is_closed []) (not_both f gs) ≡ true
none_closed f [] h k = refl
none_closed f (g ∷ gs) h k =
    let both = and_parts (is_closed [] g) (list_all (is_closed []) gs) k in
    (λ i. ((h i && (both.0 i && true)) && true) && list_all (is_closed []) (not_both f gs)) ∙ none_closed f gs h both.1

closed_append : (fs gs : List Tree) → list_all (is_closed []) fs ≡ true → list_all (is_closed []) gs ≡ true → list_all (is_closed []) (fs ++ gs) ≡ true
closed_append [] gs h k = k
closed_append (f ∷ fs) gs h k =
    let both = and_parts (is_closed [] f) (list_all (is_closed []) fs) h in
    ap (λ b. b && list_all (is_closed []) (fs ++ gs)) both.0 ∙ closed_append fs gs both.1 k

pub no_two_closed : (fs : List Tree) → list_all (is_closed []) fs ≡ true → list_all (is_closed []) (no_two fs) ≡ true
no_two_closed [] h = refl
no_two_closed (f ∷ fs) h =
    let both = and_parts (is_closed [] f) (list_all (is_closed []) fs) h in
    closed_append (not_both f fs) (no_two fs) (none_closed f fs both.0 both.1) (no_two_closed fs both.1)

-- ---- checks, and what they come to

-- all are true, or one is the first that is false, and a run stops so
pub data Comes (sts : List State) (cs : List Check) : Option Stop → Type 0 where
  all_true : AllTrue (told_forms sts (forms cs)) → Comes sts cs None
  one_false : {e : Stop} → ((n : ℕ) → (i : ℕ) × FirstFalse n (told_forms sts (forms cs)) i × ((a : Place) × IsPlace (map (λ (c : Check). c.place) cs) n i a × IsStop e a)) → Comes sts cs (Some e)

pub none_come : (sts : List State) → Comes sts [] None
none_come sts = all_true tt

pub more_come : (sts : List State) (cs ds : List Check) (o x : Option Stop) → Comes sts cs o → Comes sts ds x → Comes sts (cs ++ ds) (or_stop o x)
more_come sts [] ds _ x (all_true t) k = k
more_come sts (c ∷ cs) ds _ x (all_true t) k = by x (more_come sts cs ds None x (all_true t.1) k) where
  by : (x : Option Stop) → Comes sts (cs ++ ds) x → Comes sts (c ∷ (cs ++ ds)) x
  by _ (all_true r) = all_true (t.0, r)
  by _ (one_false h) = one_false (λ n. let y = h (suc n) in (y.0, inr (t.0, y.1), (y.2.0, inr y.2.1, y.2.2)))
more_come sts cs ds _ x (one_false h) k = one_false (λ n. let y = h n in (y.0, false_more cs n y.0 y.1, (y.2.0, place_more cs n y.0 y.2.0 y.2.1, y.2.2))) where
  false_more : (cs : List Check) (n i : ℕ) → FirstFalse n (told_forms sts (forms cs)) i → FirstFalse n (told_forms sts (forms (cs ++ ds))) i
  false_more [] n i h = absurd h
  false_more (c ∷ cs) n i (inl h) = inl h
  false_more (c ∷ cs) n i (inr h) = inr (h.0, false_more cs (suc n) i h.1)

  place_more : (cs : List Check) (n i : ℕ) (a : Place) → IsPlace (map (λ (c : Check). c.place) cs) n i a → IsPlace (map (λ (c : Check). c.place) (cs ++ ds)) n i a
  place_more [] n i a h = absurd h
  place_more (c ∷ cs) n i a (inl h) = inl h
  place_more (c ∷ cs) n i a (inr h) = inr (place_more cs (suc n) i a h)

pub one_comes : (sts : List State) (c : Check) (o : Option Stop) (b : Bool) → c.form.told sts ≡ b → (b ≡ true → o ≡ None) → (b ≡ false → (e : Stop) × (o ≡ Some e) × IsStop e c.place)
    → Comes sts (c ∷ []) o
one_comes sts c o true told so untrue = subst (Comes sts (c ∷ [])) (sym (so refl)) (all_true (told, tt))
one_comes sts c o false told so untrue =
    let x = untrue refl in
    subst (Comes sts (c ∷ [])) (sym x.1) (one_false (λ n. (n, inl (told, refl), (c.place, inl (refl, refl), x.2))))

-- ---- asked in a step

same_false : (n : ℕ) (bs : List Bool) (i j : ℕ) → FirstFalse n bs i → FirstFalse n bs j → i ≡ j
same_false n [] i j h k = absurd h
same_false n (b ∷ bs) i j (inl h) (inl k) = sym h.1 ∙ k.1
same_false n (b ∷ bs) i j (inl h) (inr k) = absurd (false≢true (sym h.0 ∙ k.0))
same_false n (b ∷ bs) i j (inr h) (inl k) = absurd (false≢true (sym k.0 ∙ h.0))
same_false n (b ∷ bs) i j (inr h) (inr k) = same_false (suc n) bs i j h.1 k.1

not_all : (n : ℕ) (bs : List Bool) (i : ℕ) → AllTrue bs → FirstFalse n bs i → ⊥
not_all n [] i t h = h
not_all n (b ∷ bs) i t (inl h) = false≢true (sym h.0 ∙ t.0)
not_all n (b ∷ bs) i t (inr h) = not_all (suc n) bs i t.1 h.1

-- what a step that asks them comes to
pub data Asks (cs : List Check) (st : State) (n : ℕ) : Option Stop → End → Type 0 where
  goes : Asks cs st n None (goes_on st)
  stops : {e : Stop} {i : ℕ} → FailsAs (map (λ (c : Check). c.place) cs) n i e → Asks cs st n (Some e) (fails i)

pub asks_run : (olds : List State) (st : State) (cs : List Check) (n : ℕ) (o : Option Stop) → Comes (st ∷ olds) cs o → (e : End) × Seg olds n (step.ask cs) st e × Asks cs st n o e
asks_run olds st cs n _ (all_true t) = (goes_on st, seg.asks t, goes)
asks_run olds st cs n _ (one_false h) = let x = h n in (fails x.0, seg.ask_fails x.1, stops x.2)

pub asks_way : (olds : List State) (st : State) (cs : List Check) (n : ℕ) (o : Option Stop) → Comes (st ∷ olds) cs o → (e : End) → Seg olds n (step.ask cs) st e → Asks cs st n o e
asks_way olds st cs n o comes e k = by o comes (ask_ways k) where
  by : (o : Option Stop) → Comes (st ∷ olds) cs o
      → (AllTrue (told_forms (st ∷ olds) (forms cs)) × (goes_on st ≡ e)) ⊎ ((i : ℕ) × FirstFalse n (told_forms (st ∷ olds) (forms cs)) i × (fails i ≡ e)) → Asks cs st n o e
  by _ (all_true t) (inl h) = subst (Asks cs st n None) h.1 goes
  by _ (all_true t) (inr (i, f, same)) = absurd (not_all n (told_forms (st ∷ olds) (forms cs)) i t f)
  by _ (one_false x) (inl h) = absurd (not_all n (told_forms (st ∷ olds) (forms cs)) (x n).0 h.0 (x n).1)
  by _ (one_false {e = y} x) (inr (i, f, same)) =
      subst (Asks cs st n (Some y)) (ap fails (same_false n (told_forms (st ∷ olds) (forms cs)) (x n).0 i (x n).1 f) ∙ same) (stops (x n).2)

some_parts : {X : Type 0} {x y : X} → Some x ≡ Some y → x ≡ y
some_parts e = cc

none_some : {X : Type 0} {x : X} → None ≡ Some x → ⊥
none_some e = cc

pub ask_stops : (olds : List State) (st : State) (cs : List Check) (n : ℕ) (o : Option Stop) (x : Stop) → Comes (st ∷ olds) cs o → o ≡ Some x
    → (i : ℕ) × Seg olds n (step.ask cs) st (fails i) × FailsAs (places (step.ask cs)) n i x
ask_stops olds st cs n _ x (all_true t) e = absurd (none_some e)
ask_stops olds st cs n _ x (one_false h) e =
    let y = h n in (y.0, seg.ask_fails y.1, subst (λ z. FailsAs (places (step.ask cs)) n y.0 z) (some_parts e) y.2)

pub ask_goes : (olds : List State) (st : State) (cs : List Check) (n : ℕ) (o : Option Stop) → Comes (st ∷ olds) cs o → o ≡ None → Seg olds n (step.ask cs) st (goes_on st)
ask_goes olds st cs n _ (all_true t) e = seg.asks t
ask_goes olds st cs n _ (one_false h) e = absurd (none_some (sym e))
