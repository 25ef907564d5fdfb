-- A join stands for its worlds.
use Rattle.std.proofs.Common.{◌≡◌, ◌⊎◌, ℕ, Bool, true, false, cond, List, [], ◌∷◌, ◌++◌, length, Option, Some, refl, sym, ap, ◌∙◌, subst, inl, inr, ⊎_elim}
use Rattle.qed_terms.specs.Tree.{Tree}
use Rattle.qed_terms.specs.Order.{same}
use Rattle.qed_terms.proofs.Total.{same_exact}
use Rattle.qed_terms.specs.Fresh.{Used}
use Rattle.qed_terms.specs.Meaning as sense
use Rattle.qed_terms.specs.Meaning.{Values}
use Rattle.walk_steps.specs.State.{State, In}
use Rattle.walk_steps.specs.Forms.{state_of}
use Rattle.walk_steps.specs.World.{AreBases, World, chosen}
use Rattle.walk_steps.specs.Join.{Split, in_front, split, picks, links, all_of, join, used_by_join, joined, used_by_joined, meet, used_by_meet}
use Rattle.walk_steps.proofs.Lists.{some_parts, none_some}
use Rattle.walk_steps.proofs.Asking.{Holds, holds_front, holds_back, holds_both, all_true, true_all, or_true, true_or_left, true_or_right}
use Rattle.walk_steps.proofs.Naming.{Agree, agree_same, agree_trans, agree_less, Grows, grows_same, grows_trans}
use Rattle.walk_steps.proofs.Settled.{Meets, Settled, later}
use Rattle.walk_steps.proofs.Picks.{AreNext, after_picks_grows, same_names, given, given_agrees, given_newest, Newest, chosen_length, chosen_settled}
use Rattle.walk_steps.proofs.Linking.{links_decode, links_hold, links_settled, picks_next, chosen_same}

record IsSplit (fs gs : List Tree) (s : Split) : Type 0 where
  left : fs ≡ s.front ++ s.left
  right : gs ≡ s.front ++ s.right

split_more : (f g : Tree) (fs gs : List Tree) (s : Split) (b : Bool) → same f g ≡ b → IsSplit fs gs s
    → IsSplit (f ∷ fs) (g ∷ gs) (cond b (in_front f s) (record { front = []; left = f ∷ fs; right = g ∷ gs }))
split_more f g fs gs s true e h =
    record { left = ap (λ fs. f ∷ fs) h.left; right = ap (λ g. g ∷ gs) (sym (same_exact f g e)) ∙ ap (λ gs. f ∷ gs) h.right }
split_more f g fs gs s false e h = record { left = refl; right = refl }

split_is : (fs gs : List Tree) → IsSplit fs gs (split fs gs)
split_is [] gs = record { left = refl; right = refl }
split_is (f ∷ fs) [] = record { left = refl; right = refl }
split_is (f ∷ fs) (g ∷ gs) = split_more f g fs gs (split fs gs) (same f g) refl (split_is fs gs)

module _ (m : sense.World) (bases : List (List ℕ)) (fit : AreBases bases) where
  abbrev pub Ready : Used → List World → Type 0
  Ready c ws = (w : World) → In w ws → Settled m (length bases) c w

  module _ (c : Used) (w v : World) where
    abbrev parts : Split
    parts = split w.known v.known

    abbrev names : List (Option Tree)
    names = picks bases c w.slots v.slots

    next : AreNext bases c names
    next = picks_next bases c w.slots v.slots

    abbrev left : List Tree
    left = parts.left ++ links names w.slots

    abbrev right : List Tree
    right = parts.right ++ links names v.slots

    -- what is known at the join, from one of the sides, and back
    known_left : (env : Values) → Holds m env w.known → Holds m env (links names w.slots) → Holds m env (join bases c w v).known
    known_left env h k =
        let all : Holds m env (parts.front ++ parts.left) = subst (Holds m env) (split_is w.known v.known).left h in
        let l = true_all m env left (holds_both m env parts.left _ (holds_back m env parts.front parts.left all) k) in
        holds_both m env parts.front _ (holds_front m env parts.front parts.left all) (true_or_left m env (all_of left) (all_of right) l, tt)

    known_right : (env : Values) → Holds m env v.known → Holds m env (links names v.slots) → Holds m env (join bases c w v).known
    known_right env h k =
        let all : Holds m env (parts.front ++ parts.right) = subst (Holds m env) (split_is w.known v.known).right h in
        let l = true_all m env right (holds_both m env parts.right _ (holds_back m env parts.front parts.right all) k) in
        holds_both m env parts.front _ (holds_front m env parts.front parts.right all) (true_or_right m env (all_of left) (all_of right) l, tt)

    known_either : (env : Values) → Holds m env (join bases c w v).known
        → (Holds m env w.known × Holds m env (links names w.slots)) ⊎ (Holds m env v.known × Holds m env (links names v.slots))
    known_either env h =
        let front = holds_front m env parts.front _ h in
        ⊎_elim
        (λ l. let a = all_true m env left l in
        inl (subst (Holds m env) (sym (split_is w.known v.known).left) (holds_both m env parts.front parts.left front (holds_front m env parts.left _ a)), holds_back m env parts.left _ a))
        (λ r. let a = all_true m env right r in
        inr (subst (Holds m env) (sym (split_is w.known v.known).right) (holds_both m env parts.front parts.right front (holds_front m env parts.right _ a)), holds_back m env parts.right _ a))
        (or_true m env (all_of left) (all_of right) (holds_back m env parts.front _ h).0)

    pub join_grows : Grows c (used_by_join bases c w v)
    join_grows = after_picks_grows bases names c

    module _ (s : Settled m (length bases) c w) (t : Settled m (length bases) c v) where
      same_choice : chosen names w.slots ≡ chosen names v.slots
      same_choice = chosen_same bases c w.slots v.slots s.size t.size

      -- values that make the join make one of its worlds
      pub join_either : (env : Values) (st : State) → Meets m env (join bases c w v) st → Meets m env w st ⊎ Meets m env v st
      join_either env st h =
          ⊎_elim (λ l. inl (record { known = l.0; state = sym (links_decode m env names w.slots l.1) ∙ h.state }))
          (λ r. inr (record { known = r.0; state = sym (links_decode m env names v.slots r.1) ∙ ap (state_of m env) (sym same_choice) ∙ h.state }))
          (known_either env h.known)

      abbrev pub Joins : Values → State → Type 0
      Joins env st = (env' : Values) × Agree c env env' × Meets m env' (join bases c w v) st

      -- values that make one of the worlds go on to values that make the join
      pub join_left : (env : Values) (st : State) → Meets m env w st → Joins env st
      join_left env st h =
          let env' = given bases c env names st in
          let a = given_agrees bases fit c env names st next in
          let kept : state_of m env' w.slots ≡ st = sym (s.slots env env' a) ∙ h.state in
          let k = links_hold m env' names w.slots (subst (Newest m env' names) (sym kept) (given_newest m bases fit c env names st next)) in
          (env', a, record { known = known_left env' (s.known env env' a h.known) k; state = links_decode m env' names w.slots k ∙ kept })

      pub join_right : (env : Values) (st : State) → Meets m env v st → Joins env st
      join_right env st h =
          let env' = given bases c env names st in
          let a = given_agrees bases fit c env names st next in
          let kept : state_of m env' v.slots ≡ st = sym (t.slots env env' a) ∙ h.state in
          let k = links_hold m env' names v.slots (subst (Newest m env' names) (sym kept) (given_newest m bases fit c env names st next)) in
          (env', a, record { known = known_right env' (t.known env env' a h.known) k; state = ap (state_of m env') same_choice ∙ links_decode m env' names v.slots k ∙ kept })

      pub join_settled : Settled m (length bases) (used_by_join bases c w v) (join bases c w v)
      join_settled = record {
        size = chosen_length m names w.slots ∙ s.size;
        known = λ env env' a.
            let both = same_names m bases fit c env env' names next a in
            let b = agree_less join_grows a in
            λ h. ⊎_elim (λ l. known_left env' (s.known env env' b l.0) (links_settled m env env' names w.slots both (s.slots env env' b) l.1))
            (λ r. known_right env' (t.known env env' b r.0) (links_settled m env env' names v.slots both (t.slots env env' b) r.1))
            (known_either env h);
        slots = λ env env' a. chosen_settled m env env' names w.slots (same_names m bases fit c env env' names next a) (s.slots env env' (agree_less join_grows a));
      }

  -- ---- several

  abbrev pub Ends : Values → State → List World → Type 0
  Ends env st ws = (w : World) × In w ws × Meets m env w st

  ready_joined : (c : Used) (w v : World) (vs : List World) → Ready c (w ∷ v ∷ vs) → Ready (used_by_join bases c w v) (join bases c w v ∷ vs)
  ready_joined c w v vs r u (inl e) = subst (Settled m (length bases) (used_by_join bases c w v)) (sym e) (join_settled c w v (r w (inl refl)) (r v (inr (inl refl))))
  ready_joined c w v vs r u (inr h) = later m (join_grows c w v) (r u (inr (inr h)))

  joined_either : (c : Used) (w : World) (vs : List World) → Ready c (w ∷ vs) → (env : Values) (st : State) → Meets m env (joined bases c w vs) st → Ends env st (w ∷ vs)
  joined_either c w [] r env st h = (w, inl refl, h)
  joined_either c w (v ∷ vs) r env st h = by (joined_either (used_by_join bases c w v) (join bases c w v) vs (ready_joined c w v vs r) env st h)
    where
      by : Ends env st (join bases c w v ∷ vs) → Ends env st (w ∷ v ∷ vs)
      by (u, inl e, k) =
          ⊎_elim (λ x. (w, inl refl, x)) (λ x. (v, inr (inl refl), x))
          (join_either c w v (r w (inl refl)) (r v (inr (inl refl))) env st (subst (λ u. Meets m env u st) e k))
      by (u, inr i, k) = (u, inr (inr i), k)

  abbrev JoinedMore : Used → World → List World → Values → State → Type 0
  JoinedMore c w vs env st = (env' : Values) × Agree c env env' × Meets m env' (joined bases c w vs) st

  joined_more : (c : Used) (w : World) (vs : List World) → Ready c (w ∷ vs) → (env : Values) (st : State) → Ends env st (w ∷ vs) → JoinedMore c w vs env st
  joined_more c w [] r env st (u, inl e, k) = (env, agree_same c env, subst (λ u. Meets m env u st) e k)
  joined_more c w [] r env st (u, inr i, k) = absurd i
  joined_more c w (v ∷ vs) r env st (u, inl e, k) =
      let x = join_left c w v (r w (inl refl)) (r v (inr (inl refl))) env st (subst (λ u. Meets m env u st) e k) in
      let y = joined_more (used_by_join bases c w v) (join bases c w v) vs (ready_joined c w v vs r) x.0 st (join bases c w v, inl refl, x.2) in
      (y.0, agree_trans x.1 (agree_less (join_grows c w v) y.1), y.2)
  joined_more c w (v ∷ vs) r env st (u, inr (inl e), k) =
      let x = join_right c w v (r w (inl refl)) (r v (inr (inl refl))) env st (subst (λ u. Meets m env u st) e k) in
      let y = joined_more (used_by_join bases c w v) (join bases c w v) vs (ready_joined c w v vs r) x.0 st (join bases c w v, inl refl, x.2) in
      (y.0, agree_trans x.1 (agree_less (join_grows c w v) y.1), y.2)
  joined_more c w (v ∷ vs) r env st (u, inr (inr i), k) =
      let y = joined_more (used_by_join bases c w v) (join bases c w v) vs (ready_joined c w v vs r) env st (u, inr i, k) in
      (y.0, agree_less (join_grows c w v) y.1, y.2)

  joined_grows : (c : Used) (w : World) (vs : List World) → Grows c (used_by_joined bases c w vs)
  joined_grows c w [] = grows_same c
  joined_grows c w (v ∷ vs) = grows_trans (join_grows c w v) (joined_grows (used_by_join bases c w v) (join bases c w v) vs)

  joined_settled : (c : Used) (w : World) (vs : List World) → Ready c (w ∷ vs) → Settled m (length bases) (used_by_joined bases c w vs) (joined bases c w vs)
  joined_settled c w [] r = r w (inl refl)
  joined_settled c w (v ∷ vs) r = joined_settled (used_by_join bases c w v) (join bases c w v) vs (ready_joined c w v vs r)

  -- ---- where worlds meet

  abbrev pub At : Values → State → Option World → Type 0
  At env st end = (w : World) × (end ≡ Some w) × Meets m env w st

  pub meet_either : (c : Used) (ws : List World) → Ready c ws → (env : Values) (st : State) → At env st (meet bases c ws) → Ends env st ws
  meet_either c [] r env st h = absurd (none_some h.1)
  meet_either c (w ∷ ws) r env st h = joined_either c w ws r env st (subst (λ w. Meets m env w st) (sym (some_parts h.1)) h.2)

  pub meet_more : (c : Used) (ws : List World) → Ready c ws → (env : Values) (st : State) → Ends env st ws → (env' : Values) × Agree c env env' × At env' st (meet bases c ws)
  meet_more c [] r env st h = absurd h.1
  meet_more c (w ∷ ws) r env st h = let x = joined_more c w ws r env st h in (x.0, x.1, (joined bases c w ws, refl, x.2))

  pub meet_grows : (c : Used) (ws : List World) → Grows c (used_by_meet bases c ws)
  meet_grows c [] = grows_same c
  meet_grows c (w ∷ ws) = joined_grows c w ws

  pub meet_settled : (c : Used) (ws : List World) → Ready c ws → (w : World) → meet bases c ws ≡ Some w → Settled m (length bases) (used_by_meet bases c ws) w
  meet_settled c [] r w h = absurd (none_some h)
  meet_settled c (v ∷ vs) r w h = subst (Settled m (length bases) (used_by_joined bases c v vs)) (some_parts h) (joined_settled c v vs r)
