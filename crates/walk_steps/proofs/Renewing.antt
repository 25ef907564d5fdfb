-- Slots that change: what is known of their new values is how they may change.
use Rattle.std.proofs.Common.{◌≡◌, ℕ, ℤ, pos, int_le, Bool, true, false, not, List, [], ◌∷◌, ◌++◌, map, length, Option, Some, None, refl, sym, ap, ap₂, ◌∙◌, subst, arith}
use Rattle.std.proofs.lemmas.Bool.{false≢true}
use Rattle.std.proofs.lemmas.Float.{T_from_true}
use Rattle.std.proofs.lemmas.Int.{ints}
use Rattle.std.specs.Int.Signed.{le_z_yes, ◌≤ℤ◌}
use Rattle.qed_terms.specs.Tree.{Tree, num}
use Rattle.qed_terms.proofs.Total.{same_exact}
use Rattle.qed_terms.specs.Fresh.{Used}
use Rattle.qed_terms.specs.Meaning as sense
use Rattle.qed_terms.specs.Meaning.{Values, value, truth}
use Rattle.walk_steps.specs.State.{State, AllTrue}
use Rattle.walk_steps.specs.Forms.{Slots, Fact, written_facts, told_facts, state_of, states_of, IsClean, AreClean, AreFacts}
use Rattle.walk_steps.specs.Step as s
use Rattle.walk_steps.specs.Step.{Change, IsChange, AreChanges}
use Rattle.walk_steps.specs.Run.{Changed, Changes}
use Rattle.walk_steps.specs.World.{IsBase, AreBases, World, new_name, pick, after_pick, or_own, chosen}
use Rattle.walk_steps.specs.Renew.{is_renewed, renewals, facts_if, facts, renewed, used_by_renewed}
use Rattle.walk_steps.proofs.Lists.{cons_parts, map_both}
use Rattle.walk_steps.proofs.Asking.{Holds, holds_front, holds_back, holds_both}
use Rattle.walk_steps.proofs.Naming.{Agree, agree_less, Grows}
use Rattle.walk_steps.proofs.Settled.{Meets, Settled, Steady, steady_more, clean}
use Rattle.walk_steps.proofs.Picks.{IsNext, AreNext, is_next, after_picks_grows, SameNames, same_names, name_clean, given, given_agrees, given_newest, Newest, chosen_length, chosen_settled}

not_true : (b : Bool) → not b ≡ false → b ≡ true
not_true true h = refl
not_true false h = absurd (false≢true (sym h))

is_one : (z : ℤ) → int_le z (pos 1) ≡ true → int_le (pos 1) z ≡ true → z ≡ pos 1
is_one z a b =
    let x : z ≤ℤ pos 1 = le_z_yes (T_from_true (int_le z (pos 1)) a) in
    let y : pos 1 ≤ℤ z = le_z_yes (T_from_true (int_le (pos 1) z) b) in
    omega (arith, ints, x, y)

pub renewals_next : (bases : List (List ℕ)) (c : Used) (cs : List Change) (ts : Slots) → AreNext bases c (renewals bases c cs ts)
renewals_next bases c [] ts = tt
renewals_next [] c (ch ∷ cs) ts = tt
renewals_next (b ∷ bases) c (ch ∷ cs) [] = tt
renewals_next (b ∷ bases) c (ch ∷ cs) (t ∷ ts) = let x = is_renewed ch t in (is_next c b x, renewals_next bases (after_pick c b (pick c b x)) cs ts)

module _ (m : sense.World) where
  facts_mean : (env : Values) (ss : List Slots) → AreClean m ss → (x : Tree) → IsClean m x → (fs : List Fact) → AreFacts m fs
      → map (truth m env) (written_facts ss fs x) ≡ told_facts (states_of m env ss) fs (value m env x)
  facts_mean env ss k x l [] h = refl
  facts_mean env ss k x l (f ∷ fs) h = ap₂ (λ b bs. b ∷ bs) (h.0 env ss x k l) (facts_mean env ss k x l fs h.1)

  -- ---- from values to a change

  one_changed : (env : Values) (ss : List Slots) → AreClean m ss → (c : Used) (b : List ℕ) → IsBase b → (ch : Change) → IsChange m ch → (t : Tree) (x : Bool) → is_renewed ch t ≡ x → (fs : List Tree)
      → Holds m env (facts_if ss ch (pick c b x) t ++ fs) → Changed (states_of m env ss) ch (value m env t) (value m env (or_own (pick c b x) t)) × Holds m env fs
  one_changed env ss k c b i s.keeps g t true e fs h = absurd (false≢true e)
  one_changed env ss k c b i s.keeps g t false e fs h = (refl, h)
  one_changed env ss k c b i (s.fresh ws) g t true e fs h =
      let x = new_name c b in
      let l = name_clean m c b x i refl in
      (subst AllTrue (facts_mean env ss k x l ws g) (holds_front m env (written_facts ss ws x) fs h), holds_back m env (written_facts ss ws x) fs h)
  one_changed env ss k c b i (s.fresh ws) g t false e fs h = absurd (false≢true (sym e))
  one_changed env ss k c b i s.raised g t true e fs h = ((h.0, h.1.0, h.1.1.0), h.1.1.1)
  one_changed env ss k c b i s.raised g t false e fs h =
      let is : t ≡ num (pos 1) = same_exact t (num (pos 1)) (not_true _ e) in
      (subst (λ u. Changed (states_of m env ss) s.raised (value m env u) (value m env u)) (sym is) (refl, refl, refl), h)

  facts_change : (env : Values) (ss : List Slots) → AreClean m ss → (bases : List (List ℕ)) → AreBases bases → (c : Used) (cs : List Change) → AreChanges m cs → (ts : Slots) → length ts ≡ length bases
      → Holds m env (facts ss cs (renewals bases c cs ts) ts) → Changes (states_of m env ss) cs (state_of m env ts) (state_of m env (chosen (renewals bases c cs ts) ts))
  facts_change env ss k bases i c [] g ts l h = refl
  facts_change env ss k [] i c (ch ∷ cs) g [] l h = tt
  facts_change env ss k [] i c (ch ∷ cs) g (t ∷ ts) l h = absurd cc
  facts_change env ss k (b ∷ bases) i c (ch ∷ cs) g [] l h = tt
  facts_change env ss k (b ∷ bases) i c (ch ∷ cs) g (t ∷ ts) l h =
      let x = is_renewed ch t in
      let d = after_pick c b (pick c b x) in
      let y = one_changed env ss k c b i.0 ch g.0 t x refl (facts ss cs (renewals bases d cs ts) ts) h in
      (y.0, facts_change env ss k bases i.1 d cs g.1 ts (cc) y.1)

  -- ---- from a change to values

  -- the name of a slot has this value, if it has a name
  abbrev Names : Values → Option Tree → ℤ → Type 0
  Names env None z = Unit {0}
  Names env (Some x) z = value m env x ≡ z

  newest_parts : (env : Values) (p : Option Tree) (ps : List (Option Tree)) (z : ℤ) (zs : State) → Newest m env (p ∷ ps) (z ∷ zs) → Names env p z × Newest m env ps zs
  newest_parts env None ps z zs n = (tt, n)
  newest_parts env (Some x) ps z zs n = n

  one_met : (env : Values) (ss : List Slots) → AreClean m ss → (c : Used) (b : List ℕ) → IsBase b → (ch : Change) → IsChange m ch → (t : Tree) (x : Bool) (z : ℤ) → is_renewed ch t ≡ x
      → Names env (pick c b x) z → Changed (states_of m env ss) ch (value m env t) z → (fs : List Tree) → Holds m env fs
      → (value m env (or_own (pick c b x) t) ≡ z) × Holds m env (facts_if ss ch (pick c b x) t ++ fs)
  one_met env ss k c b i s.keeps g t true z e n h fs r = absurd (false≢true e)
  one_met env ss k c b i s.keeps g t false z e n h fs r = (h, r)
  one_met env ss k c b i (s.fresh ws) g t true z e n h fs r =
      let x = new_name c b in
      let l = name_clean m c b x i refl in
      (n, holds_both m env (written_facts ss ws x) fs (subst AllTrue (ap (told_facts (states_of m env ss) ws) (sym n) ∙ sym (facts_mean env ss k x l ws g)) h) r)
  one_met env ss k c b i (s.fresh ws) g t false z e n h fs r = absurd (false≢true (sym e))
  one_met env ss k c b i s.raised g t true z e n h fs r =
      (n, (ap (λ x. int_le (pos 0) x) n ∙ h.0, (ap (λ x. int_le x (pos 1)) n ∙ h.1, (ap (λ x. int_le (value m env t) x) n ∙ h.2, r))))
  one_met env ss k c b i s.raised g t false z e n h fs r =
      let is : t ≡ num (pos 1) = same_exact t (num (pos 1)) (not_true _ e) in
      (ap (value m env) is ∙ sym (is_one z h.1 (ap (λ u. int_le (value m env u) z) (sym is) ∙ h.2)), r)

  change_met : (env : Values) (ss : List Slots) → AreClean m ss → (bases : List (List ℕ)) → AreBases bases → (c : Used) (cs : List Change) → AreChanges m cs → (ts : Slots) (zs : State) → length ts ≡ length bases
      → Newest m env (renewals bases c cs ts) zs → Changes (states_of m env ss) cs (state_of m env ts) zs
      → (state_of m env (chosen (renewals bases c cs ts) ts) ≡ zs) × Holds m env (facts ss cs (renewals bases c cs ts) ts)
  change_met env ss k bases i c [] g ts zs l n h = (h, tt)
  change_met env ss k [] i c (ch ∷ cs) g [] [] l n h = (refl, tt)
  change_met env ss k [] i c (ch ∷ cs) g [] (z ∷ zs) l n h = absurd h
  change_met env ss k [] i c (ch ∷ cs) g (t ∷ ts) zs l n h = absurd cc
  change_met env ss k (b ∷ bases) i c (ch ∷ cs) g [] zs l n h = absurd cc
  change_met env ss k (b ∷ bases) i c (ch ∷ cs) g (t ∷ ts) [] l n h = absurd h
  change_met env ss k (b ∷ bases) i c (ch ∷ cs) g (t ∷ ts) (z ∷ zs) l n h =
      let x = is_renewed ch t in
      let p = pick c b x in
      let d = after_pick c b p in
      let q = newest_parts env p (renewals bases d cs ts) z zs n in
      let rest = change_met env ss k bases i.1 d cs g.1 ts zs (cc) q.1 h.1 in
      let y = one_met env ss k c b i.0 ch g.0 t x z refl q.0 h.0 (facts ss cs (renewals bases d cs ts) ts) rest.1 in
      (ap₂ (λ y ys. y ∷ ys) y.0 rest.0, y.1)

  -- ---- worlds

  one_same : (env env' : Values) (ss : List Slots) → AreClean m ss → states_of m env ss ≡ states_of m env' ss → (c : Used) (b : List ℕ) → IsBase b → (ch : Change) → IsChange m ch → (p : Option Tree) → IsNext c b p
      → ((x : Tree) → p ≡ Some x → value m env x ≡ value m env' x) → (t : Tree) → value m env t ≡ value m env' t
      → map (truth m env) (facts_if ss ch p t) ≡ map (truth m env') (facts_if ss ch p t)
  one_same env env' ss k q c b i ch g None n v t e = refl
  one_same env env' ss k q c b i s.keeps g (Some x) n v t e = refl
  one_same env env' ss k q c b i (s.fresh ws) g (Some x) n v t e =
      let l = name_clean m c b x i n in
      facts_mean env ss k x l ws g ∙ ap₂ (λ sts z. told_facts sts ws z) q (v x refl) ∙ sym (facts_mean env' ss k x l ws g)
  one_same env env' ss k q c b i s.raised g (Some x) n v t e =
      let d = v x refl in
      λ j. int_le (pos 0) (d j) ∷ int_le (d j) (pos 1) ∷ int_le (e j) (d j) ∷ []

  names_parts : (env env' : Values) (p : Option Tree) (ps : List (Option Tree)) → SameNames m env env' (p ∷ ps) → ((x : Tree) → p ≡ Some x → value m env x ≡ value m env' x) × SameNames m env env' ps
  names_parts env env' None ps s = ((λ x e. absurd (no e)), s)
    where
      no : {x : Tree} → None ≡ Some x → ⊥
      no e = cc
  names_parts env env' (Some y) ps s = ((λ x e. subst (λ x. value m env x ≡ value m env' x) (some e) s.0), s.1)
    where
      some : {x : Tree} → Some y ≡ Some x → y ≡ x
      some e = cc

  facts_same : (env env' : Values) (ss : List Slots) → AreClean m ss → states_of m env ss ≡ states_of m env' ss → (bases : List (List ℕ)) → AreBases bases → (c : Used) (cs : List Change) → AreChanges m cs
      → (ps : List (Option Tree)) → AreNext bases c ps → (ts : Slots) → SameNames m env env' ps → state_of m env ts ≡ state_of m env' ts
      → map (truth m env) (facts ss cs ps ts) ≡ map (truth m env') (facts ss cs ps ts)
  facts_same env env' ss k q bases i c [] g ps n ts s e = refl
  facts_same env env' ss k q bases i c (ch ∷ cs) g [] n ts s e = refl
  facts_same env env' ss k q [] i c (ch ∷ cs) g (p ∷ ps) n ts s e = absurd n
  facts_same env env' ss k q (b ∷ bases) i c (ch ∷ cs) g (p ∷ ps) n [] s e = refl
  facts_same env env' ss k q (b ∷ bases) i c (ch ∷ cs) g (p ∷ ps) n (t ∷ ts) s e =
      let v = names_parts env env' p ps s in
      let r = cons_parts e in
      map_both (truth m env) (facts_if ss ch p t) (facts ss cs ps ts)
      ∙ ap₂ (λ xs ys. xs ++ ys) (one_same env env' ss k q c b i.0 ch g.0 p n.0 v.0 t r.0) (facts_same env env' ss k q bases i.1 (after_pick c b p) cs g.1 ps n.1 ts v.1 r.1)
      ∙ sym (map_both (truth m env') (facts_if ss ch p t) (facts ss cs ps ts))

  module _ (bases : List (List ℕ)) (fit : AreBases bases) (olds : List Slots) (c : Used) (cs : List Change) (good : AreChanges m cs) (w : World) where
    abbrev names : List (Option Tree)
    names = renewals bases c cs w.slots

    next : AreNext bases c names
    next = renewals_next bases c cs w.slots

    pub renewed_grows : Grows c (used_by_renewed bases c cs w)
    renewed_grows = after_picks_grows bases names c

    module _ (s : Settled m (length bases) c w) (t : Steady m c olds) where
      all_clean : AreClean m (w.slots ∷ olds)
      all_clean = clean m (steady_more m s t)

      pub renewed_settled : Settled m (length bases) (used_by_renewed bases c cs w) (renewed bases olds c cs w)
      renewed_settled = record {
        size = chosen_length m names w.slots ∙ s.size;
        known = λ env env' a h.
            let b = agree_less renewed_grows a in
            let q = (steady_more m s t).slots env env' b in
            holds_both m env' w.known _ (s.known env env' b (holds_front m env w.known _ h))
            (subst AllTrue (facts_same env env' (w.slots ∷ olds) all_clean q bases fit c cs good names next w.slots (same_names m bases fit c env env' names next a) (s.slots env env' b))
            (holds_back m env w.known _ h));
        slots = λ env env' a. chosen_settled m env env' names w.slots (same_names m bases fit c env env' names next a) (s.slots env env' (agree_less renewed_grows a));
      }

      -- values of the world after it make a change of the state
      pub renewed_ran : (env : Values) → Holds m env (renewed bases olds c cs w).known
          → Holds m env w.known × Changes (states_of m env (w.slots ∷ olds)) cs (state_of m env w.slots) (state_of m env (renewed bases olds c cs w).slots)
      renewed_ran env h = (holds_front m env w.known _ h, facts_change env (w.slots ∷ olds) all_clean bases fit c cs good w.slots s.size (holds_back m env w.known _ h))

      -- a change of the state goes on to values of the world after it
      pub renewed_met : (env : Values) (st st' : State) (sts : List State) → Meets m env w st → states_of m env olds ≡ sts → Changes (st ∷ sts) cs st st'
          → (env' : Values) × Agree c env env' × Meets m env' (renewed bases olds c cs w) st'
      renewed_met env st st' sts h r d =
          let env' = given bases c env names st' in
          let a = given_agrees bases fit c env names st' next in
          let kept : state_of m env' w.slots ≡ st = sym (s.slots env env' a) ∙ h.state in
          let olds_kept : states_of m env' olds ≡ sts = sym (t.slots env env' a) ∙ r in
          let both : Changes (states_of m env' (w.slots ∷ olds)) cs (state_of m env' w.slots) st' =
          subst (λ sts. Changes sts cs (state_of m env' w.slots) st') (ap₂ (λ x xs. x ∷ xs) (sym kept) (sym olds_kept)) (subst (λ st₁. Changes (st ∷ sts) cs st₁ st') (sym kept) d)
          in
          let x = change_met env' (w.slots ∷ olds) all_clean bases fit c cs good w.slots st' s.size (given_newest m bases fit c env names st' next) both in
          (env', a, record { known = holds_both m env' w.known _ (s.known env env' a h.known) x.1; state = x.0 })
