-- What walks that are put together show.
use Rattle.std.proofs.Common.{◌≡◌, ◌⊎◌, ℕ, zero, suc, pos, true, ◌&&◌, List, [], ◌∷◌, ◌++◌, Option, Some, None, refl, sym, ap, ap₂, ◌∙◌, subst, inl, inr, ⊎_elim}
use Rattle.std.specs.Option.{option_map}
use Rattle.qed_terms.specs.Tree.{num}
use Rattle.qed_terms.specs.Fresh.{Used}
use Rattle.qed_terms.specs.Meaning as sense
use Rattle.qed_terms.specs.Meaning.{Values}
use Rattle.walk_steps.specs.State.{at_or, put, restore, In}
use Rattle.walk_steps.specs.Walk.{Goal, list_of}
use Rattle.walk_steps.proofs.Lists.{some_parts, none_some, in_front, in_back, in_either, in_map, map_in, restore_map, restore_length}
use Rattle.walk_steps.proofs.Naming.{Grows, grows_trans}
use Rattle.memory_steps.specs.State.{Datum, State, state, Base, HaveSorts, nothing}
use Rattle.memory_steps.specs.Forms.{datum, data_of, table_of, state_of}
use Rattle.memory_steps.specs.Run.{End, goes_on, leaves, fails, IsOver, out, on_state, put_back}
use Rattle.memory_steps.specs.World.{AreBases, World, restored}
use Rattle.memory_steps.specs.Join.{can_meet}
use Rattle.memory_steps.specs.Walk.{Walked, stays, followed, then_walk, on_worlds, left_by, both_arms, blocked}
use Rattle.memory_steps.proofs.Naming.{Agree, agree_same, agree_less}
use Rattle.memory_steps.proofs.Settled.{Meets, Shows, terms_same, table_same, Settled, later, AllSettled}
use Rattle.memory_steps.proofs.Joining.{Ready, meet_either, meet_more, meet_grows, meet_settled}
use Rattle.memory_steps.proofs.Trails.{both_parts}

-- the ends that there are
in_list_of : (w : World) (o : Option World) → o ≡ Some w → In w (list_of o)
in_list_of w None e = absurd (none_some e)
in_list_of w (Some v) e = inl (sym (some_parts e))

pub list_of_in : (w : World) (o : Option World) → In w (list_of o) → o ≡ Some w
list_of_in w None i = absurd i
list_of_in w (Some v) (inl e) = ap Some (sym e)
list_of_in w (Some v) (inr i) = absurd i

-- the parts of a walk fit where it does
pub then_fits : (r : Walked) (go : Used → World → Walked) (end : Option World) → (then_walk r end go).fits ≡ true → (r.fits ≡ true) × ((w : World) → end ≡ Some w → (go r.used w).fits ≡ true)
then_fits r go None h = (h, λ w e. absurd (none_some e))
then_fits r go (Some v) h = let x = both_parts r.fits (go r.used v).fits h in (x.0, λ w e. subst (λ w. (go r.used w).fits ≡ true) (some_parts e) x.1)

-- data of slots that are put back
put_sorts : (bases : List Base) (old new : List Datum) (i : ℕ) (x : Datum) → HaveSorts bases old → HaveSorts bases new → HaveSorts bases (put new i (at_or x old i))
put_sorts [] [] [] i x h k = tt
put_sorts [] [] (n ∷ new) i x h k = absurd k
put_sorts [] (o ∷ old) new i x h k = absurd h
put_sorts (b ∷ bases) [] new i x h k = absurd h
put_sorts (b ∷ bases) (o ∷ old) [] i x h k = absurd k
put_sorts (b ∷ bases) (o ∷ old) (n ∷ new) zero x h k = (h.0, k.1)
put_sorts (b ∷ bases) (o ∷ old) (n ∷ new) (suc i) x h k = (k.0, put_sorts bases old new i x h.1 k.1)

restore_sorts : (bases : List Base) (x : Datum) (is : List ℕ) (old new : List Datum) → HaveSorts bases old → HaveSorts bases new → HaveSorts bases (restore x is old new)
restore_sorts bases x [] old new h k = k
restore_sorts bases x (i ∷ is) old new h k = restore_sorts bases x is old (put new i (at_or x old i)) h (put_sorts bases old new i x h k)

module _ (m : sense.World) where
  -- ---- one after another

  module _ (r q : Walked) (env : Values) where
    followed_first : (o : End) → IsOver o → Shows m r env o → Shows m (followed r q) env o
    followed_first (goes_on st) over h = absurd over
    followed_first (leaves l st) over h = (h.0, in_front h.0 (r.left l) (q.left l) h.1, h.2)
    followed_first (fails i) over h = (h.0, in_front h.0 r.goals q.goals h.1, h.2)

    followed_second : (o : End) → Shows m q env o → Shows m (followed r q) env o
    followed_second (goes_on st) h = h
    followed_second (leaves l st) h = (h.0, in_back h.0 (r.left l) (q.left l) h.1, h.2)
    followed_second (fails i) h = (h.0, in_back h.0 r.goals q.goals h.1, h.2)

    followed_either : (o : End) → Shows m (followed r q) env o → (IsOver o × Shows m r env o) ⊎ Shows m q env o
    followed_either (goes_on st) h = inr h
    followed_either (leaves l st) h = ⊎_elim (λ x. inl (tt, (h.0, x, h.2))) (λ x. inr (h.0, x, h.2)) (in_either h.0 (r.left l) (q.left l) h.1)
    followed_either (fails i) h = ⊎_elim (λ x. inl (tt, (h.0, x, h.2))) (λ x. inr (h.0, x, h.2)) (in_either h.0 r.goals q.goals h.1)

  -- where the first walk goes on
  abbrev pub Second : Walked → (Used → World → Walked) → Values → End → Type 0
  Second r go env o = (w : World) × (r.end ≡ Some w) × Shows m (go r.used w) env o

  module _ (r : Walked) (go : Used → World → Walked) where
    pub then_first : (env : Values) (o : End) (end : Option World) → IsOver o → Shows m r env o → Shows m (then_walk r end go) env o
    then_first env o None over h = h
    then_first env o (Some w) over h = followed_first r (go r.used w) env o over h

    pub then_second : (env : Values) (o : End) (w : World) → r.end ≡ Some w → Shows m (go r.used w) env o → Shows m (then_walk r r.end go) env o
    then_second env o w e h = rw e (followed_second r (go r.used w) env o h)

    no_end : (env : Values) (o : End) → r.end ≡ None → Shows m r env o → IsOver o
    no_end env (goes_on st) e h = absurd (none_some (sym e ∙ h.1))
    no_end env (leaves l st) e h = tt
    no_end env (fails i) e h = tt

    pub then_either : (env : Values) (o : End) (end : Option World) → r.end ≡ end → Shows m (then_walk r end go) env o → (IsOver o × Shows m r env o) ⊎ Second r go env o
    then_either env o None e h = inl (no_end env o e h, h)
    then_either env o (Some w) e h = ⊎_elim (λ a. inl a) (λ b. inr (w, e, b)) (followed_either r (go r.used w) env o h)

    pub then_settled : (bases : List Base) (c : Used) (end : Option World) → r.end ≡ end → AllSettled m bases c r → ((w : World) → Settled m bases r.used w → AllSettled m bases r.used (go r.used w))
        → AllSettled m bases c (then_walk r end go)
    then_settled bases c None e a b = a
    then_settled bases c (Some w) e a b =
        let q = go r.used w in
        let t = b w (a.goes w e) in
        record {
          grows = grows_trans a.grows t.grows;
          goes = t.goes;
          left = λ l v h. ⊎_elim (λ x. later m t.grows (a.left l v x)) (λ x. t.left l v x) (in_either v (r.left l) (q.left l) h);
        }

  pub stays_settled : {bases : List Base} {c c' : Used} {w : World} (gs : List Goal) → Grows c c' → Settled m bases c' w → AllSettled m bases c (stays gs c' w)
  stays_settled gs g s = record { grows = g; goes = λ w e. subst (Settled m _ _) (some_parts e) s; left = λ l w h. absurd h }

  module _ (bases : List Base) (fit : AreBases bases) (c : Used) where
    -- ---- both arms

    pub arms_fits : (r q : Walked) → (both_arms bases r q).fits ≡ true → (r.fits ≡ true) × (q.fits ≡ true) × (can_meet bases q.used (list_of r.end ++ list_of q.end) ≡ true)
    arms_fits r q h = let x = both_parts (r.fits && q.fits) _ h in let y = both_parts r.fits q.fits x.0 in (y.0, y.1, x.1)

    module _ (r q : Walked) (first : AllSettled m bases c r) (second : AllSettled m bases r.used q) where
      abbrev ends : List World
      ends = list_of r.end ++ list_of q.end

      ready : Ready m bases fit q.used ends
      ready w i =
          ⊎_elim (λ x. later m second.grows (first.goes w (list_of_in w r.end x))) (λ x. second.goes w (list_of_in w q.end x)) (in_either w (list_of r.end) (list_of q.end) i)

      abbrev pub ArmsShow : Values → End → Type 0
      ArmsShow env o = (env' : Values) × Agree q.used env env' × Shows m (both_arms bases r q) env' o

      pub arms_left : can_meet bases q.used ends ≡ true → (env : Values) (o : End) → Shows m r env o → ArmsShow env o
      arms_left can env (goes_on st) h =
          meet_more m bases fit q.used ends ready can env st (h.0, in_front h.0 (list_of r.end) (list_of q.end) (in_list_of h.0 r.end h.1), h.2)
      arms_left can env (leaves l st) h = (env, agree_same q.used env, (h.0, in_front h.0 (r.left l) (q.left l) h.1, h.2))
      arms_left can env (fails i) h = (env, agree_same q.used env, (h.0, in_front h.0 r.goals q.goals h.1, h.2))

      pub arms_right : can_meet bases q.used ends ≡ true → (env : Values) (o : End) → Shows m q env o → ArmsShow env o
      arms_right can env (goes_on st) h =
          meet_more m bases fit q.used ends ready can env st (h.0, in_back h.0 (list_of r.end) (list_of q.end) (in_list_of h.0 q.end h.1), h.2)
      arms_right can env (leaves l st) h = (env, agree_same q.used env, (h.0, in_back h.0 (r.left l) (q.left l) h.1, h.2))
      arms_right can env (fails i) h = (env, agree_same q.used env, (h.0, in_back h.0 r.goals q.goals h.1, h.2))

      pub arms_either : can_meet bases q.used ends ≡ true → (env : Values) (o : End) → Shows m (both_arms bases r q) env o → Shows m r env o ⊎ Shows m q env o
      arms_either can env (goes_on st) h =
          let x = meet_either m bases fit q.used ends ready can env st h in
          ⊎_elim (λ y. inl (x.0, list_of_in x.0 r.end y, x.2)) (λ y. inr (x.0, list_of_in x.0 q.end y, x.2)) (in_either x.0 (list_of r.end) (list_of q.end) x.1)
      arms_either can env (leaves l st) h = ⊎_elim (λ x. inl (h.0, x, h.2)) (λ x. inr (h.0, x, h.2)) (in_either h.0 (r.left l) (q.left l) h.1)
      arms_either can env (fails i) h = ⊎_elim (λ x. inl (h.0, x, h.2)) (λ x. inr (h.0, x, h.2)) (in_either h.0 r.goals q.goals h.1)

      pub arms_settled : AllSettled m bases c (both_arms bases r q)
      arms_settled =
          let more = meet_grows m bases fit q.used ends in
          record {
            grows = grows_trans first.grows (grows_trans second.grows more);
            goes = meet_settled m bases fit q.used ends ready;
            left = λ l w h.
                ⊎_elim (λ x. later m (grows_trans second.grows more) (first.left l w x)) (λ x. later m more (second.left l w x)) (in_either w (r.left l) (q.left l) h);
          }

    -- ---- a block

    module _ (r : Walked) (all : AllSettled m bases c r) where
      abbrev met : List World
      met = r.left 0 ++ list_of r.end

      ready_met : Ready m bases fit r.used met
      ready_met w i = ⊎_elim (λ x. all.left 0 w x) (λ x. all.goes w (list_of_in w r.end x)) (in_either w (r.left 0) (list_of r.end) i)

      abbrev pub BlockShows : Values → End → Type 0
      BlockShows env o = (env' : Values) × Agree r.used env env' × Shows m (blocked bases r) env' o

      pub block_shows : can_meet bases r.used met ≡ true → (env : Values) (o : End) → Shows m r env o → BlockShows env (out o)
      block_shows can env (goes_on st) h = meet_more m bases fit r.used met ready_met can env st (h.0, in_back h.0 (r.left 0) (list_of r.end) (in_list_of h.0 r.end h.1), h.2)
      block_shows can env (leaves zero st) h = meet_more m bases fit r.used met ready_met can env st (h.0, in_front h.0 (r.left 0) (list_of r.end) h.1, h.2)
      block_shows can env (leaves (suc l) st) h = (env, agree_same r.used env, h)
      block_shows can env (fails i) h = (env, agree_same r.used env, h)

      pub block_either : can_meet bases r.used met ≡ true → (env : Values) (o : End) → Shows m (blocked bases r) env o → (p : End) × Shows m r env p × (out p ≡ o)
      block_either can env (goes_on st) h =
          let x = meet_either m bases fit r.used met ready_met can env st h in
          ⊎_elim (λ y. (leaves 0 st, (x.0, y, x.2), refl)) (λ y. (goes_on st, (x.0, list_of_in x.0 r.end y, x.2), refl)) (in_either x.0 (r.left 0) (list_of r.end) x.1)
      block_either can env (leaves l st) h = (leaves (suc l) st, h, refl)
      block_either can env (fails i) h = (fails i, h, refl)

      pub block_settled : AllSettled m bases c (blocked bases r)
      block_settled =
          let more = meet_grows m bases fit r.used met in
          record {
            grows = grows_trans all.grows more;
            goes = meet_settled m bases fit r.used met ready_met;
            left = λ l w h. later m more (all.left (suc l) w h);
          }

  -- ---- a scope

  module _ (is : List ℕ) (old : World) (st₀ : State) where
    restored_met : (env : Values) (w : World) (st : State) → state_of m env old.slots ≡ st₀ → Meets m env w st → Meets m env (restored is old w) (put_back is st₀ st)
    restored_met env w st e h = record {
      known = h.known;
      state = ap (λ ds. state ds (table_of m env w.slots.table)) (restore_map (datum m env) (num (pos 0)) is old.slots.terms w.slots.terms) ∙ ap₂ (λ x y. put_back is x y) e h.state;
    }

    pub scope_shows : (r : Walked) (env : Values) (o : End) → state_of m env old.slots ≡ st₀ → Shows m r env o → Shows m (on_worlds (restored is old) r) env (on_state (put_back is st₀) o)
    scope_shows r env (goes_on st) e h = (restored is old h.0, ap (option_map (restored is old)) h.1, restored_met env h.0 st e h.2)
    scope_shows r env (leaves l st) e h = (restored is old h.0, in_map (restored is old) h.0 (r.left l) h.1, restored_met env h.0 st e h.2)
    scope_shows r env (fails i) e h = h

    pub scope_either : (r : Walked) (env : Values) (o : End) → state_of m env old.slots ≡ st₀ → Shows m (on_worlds (restored is old) r) env o
        → (p : End) × Shows m r env p × (on_state (put_back is st₀) p ≡ o)
    scope_either r env (goes_on st) e h = by r.end refl h.1
      where
        by : (x : Option World) → r.end ≡ x → option_map (restored is old) x ≡ Some h.0 → (p : End) × Shows m r env p × (on_state (put_back is st₀) p ≡ goes_on st)
        by None q g = absurd (none_some g)
        by (Some v) q g =
            let n : Meets m env (restored is old v) st = subst (λ w. Meets m env w st) (sym (some_parts g)) h.2 in
            let j = restored_met env v (state_of m env v.slots) e (record { known = n.known; state = refl }) in
            (goes_on (state_of m env v.slots), (v, q, record { known = n.known; state = refl }), ap goes_on (sym j.state ∙ n.state))
    scope_either r env (leaves l st) e h =
        let x = map_in (restored is old) h.0 (r.left l) h.1 in
        let n : Meets m env (restored is old x.0) st = subst (λ w. Meets m env w st) (sym x.2) h.2 in
        let j = restored_met env x.0 (state_of m env x.0.slots) e (record { known = n.known; state = refl }) in
        (leaves l (state_of m env x.0.slots), (x.0, x.1, record { known = n.known; state = refl }), ap (leaves l) (sym j.state ∙ n.state))
    scope_either r env (fails i) e h = (fails i, h, refl)

  restored_settled : {bases : List Base} {c d : Used} (is : List ℕ) (w v : World) → Settled m bases c w → Grows c d → Settled m bases d v → Settled m bases d (restored is w v)
  restored_settled {bases} is w v s g t = record {
    size = restore_length (num (pos 0)) is w.slots.terms v.slots.terms ∙ t.size;
    sorts = λ env.
        subst (HaveSorts bases) (sym (restore_map (datum m env) (num (pos 0)) is w.slots.terms v.slots.terms))
        (restore_sorts bases nothing is (data_of m env w.slots.terms) (data_of m env v.slots.terms) (s.sorts env) (t.sorts env));
    known = t.known;
    slots = record {
      same = λ env env' a.
          ap₂ (λ ds t. state ds t)
          (restore_map (datum m env) (num (pos 0)) is w.slots.terms v.slots.terms
          ∙ ap₂ (λ x y. restore nothing is x y) (terms_same m s.slots env env' (agree_less g a)) (terms_same m t.slots env env' a)
          ∙ sym (restore_map (datum m env') (num (pos 0)) is w.slots.terms v.slots.terms))
          (table_same m t.slots env env' a);
      marks = t.slots.marks;
      trailed = t.slots.trailed;
    };
  }

  pub scope_settled : {bases : List Base} {c : Used} (is : List ℕ) (w : World) (r : Walked) → Settled m bases c w → AllSettled m bases c r → AllSettled m bases c (on_worlds (restored is w) r)
  scope_settled {bases} {c} is w r s a = record {
    grows = a.grows;
    goes = λ v e. by r.end refl v e;
    left = λ l v h. let x = map_in (restored is w) v (r.left l) h in subst (Settled m bases r.used) x.2 (restored_settled is w x.0 s a.grows (a.left l x.0 x.1));
  }
    where
      by : (x : Option World) → r.end ≡ x → (v : World) → option_map (restored is w) x ≡ Some v → Settled m bases r.used v
      by None q v e = absurd (none_some e)
      by (Some u) q v e = subst (Settled m bases r.used) (some_parts e) (restored_settled is w u s a.grows (a.goes u q))

-- ---- an exit

pub left_here : (k : ℕ) (w : World) → In w (left_by k w k)
left_here zero w = inl refl
left_here (suc k) w = left_here k w

pub left_only : (l : ℕ) (w : World) (k : ℕ) (v : World) → In v (left_by l w k) → (l ≡ k) × (v ≡ w)
left_only zero w zero v (inl e) = (refl, e)
left_only zero w zero v (inr i) = absurd i
left_only zero w (suc k) v i = absurd i
left_only (suc l) w zero v i = absurd i
left_only (suc l) w (suc k) v i = let x = left_only l w k v i in (ap suc x.0, x.1)
