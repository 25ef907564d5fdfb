-- A join stands for its worlds.
use Rattle.std.proofs.Common.{◌≡◌, ◌⊎◌, Bool, true, false, cond, ◌||◌, List, [], ◌∷◌, ◌++◌, map, Option, Some, refl, sym, ap, ap₂, ◌∙◌, subst, inl, inr, ⊎_elim}
use Rattle.std.proofs.lemmas.Bool.{false≢true}
use Rattle.wp_base.specs.Blocks.{count}
use Rattle.qed_terms.specs.Tree.{Tree}
use Rattle.qed_terms.specs.Order.{same}
use Rattle.qed_terms.proofs.Total.{same_exact}
use Rattle.qed_terms.specs.Fresh.{Used}
use Rattle.qed_terms.specs.Meaning as sense
use Rattle.qed_terms.specs.Meaning.{Value, Values, meaning}
use Rattle.goal_segments.specs.Segments.{SameBlocks}
use Rattle.walk_steps.specs.State.{In}
use Rattle.walk_steps.specs.Join.{Split, in_front, split, all_of}
use Rattle.walk_steps.proofs.Lists.{some_parts, none_some}
use Rattle.walk_steps.proofs.Asking.{Holds, holds_front, holds_back, holds_both, all_true, true_all, or_true, true_or_left, true_or_right}
use Rattle.walk_steps.proofs.Naming.{Grows, grows_same, grows_trans}
use Rattle.memory_steps.specs.State.{Datum, State, state, Base, HaveSorts}
use Rattle.memory_steps.specs.Forms.{Mark, Slots, datum_of, data_of, table_of, state_of}
use Rattle.memory_steps.specs.World.{AreBases, World, chosen, count_base}
use Rattle.memory_steps.specs.Join.{links, common, last_table, is_some_mark, names_at, used_by_names, count_at, side_links, join, used_by_join, can_join, joined, used_by_joined, can_all_join, meet, used_by_meet, can_meet}
use Rattle.memory_steps.proofs.Naming.{Agree, agree_same, agree_trans, agree_less}
use Rattle.memory_steps.proofs.Settled.{Meets, terms_same, table_same, Settled, later}
use Rattle.memory_steps.proofs.Picks.{AreNext, after_pick_grows, after_picks_grows, same_names, given, given_agrees, given_newest, Newest, chosen_length, chosen_settled, chosen_sorts}
use Rattle.memory_steps.proofs.Trails.{IsFront, common_left, common_right, both_parts, front_same, last_same}
use Rattle.memory_steps.proofs.Links.{picks_next, chosen_same, links_decode, links_hold, links_settled, counted, counted_agrees, table_decode, count_holds, count_settled, table_settled, table_trailed, last_grown_to}

record IsSplit (fs gs : List Tree) (s : Split) : Type 0 where
  left : fs ≡ s.front ++ s.left
  right : gs ≡ s.front ++ s.right

split_more : (f g : Tree) (fs gs : List Tree) (s : Split) (b : Bool) → same f g ≡ b → IsSplit fs gs s
    → IsSplit (f ∷ fs) (g ∷ gs) (cond b (in_front f s) (record { front = []; left = f ∷ fs; right = g ∷ gs }))
split_more f g fs gs s true e h =
    record { left = ap (λ fs. f ∷ fs) h.left; right = ap (λ g. g ∷ gs) (sym (same_exact f g e)) ∙ ap (λ gs. f ∷ gs) h.right }
split_more f g fs gs s false e h = record { left = refl; right = refl }

split_is : (fs gs : List Tree) → IsSplit fs gs (split fs gs)
split_is [] gs = record { left = refl; right = refl }
split_is (f ∷ fs) [] = record { left = refl; right = refl }
split_is (f ∷ fs) (g ∷ gs) = split_more f g fs gs (split fs gs) (same f g) refl (split_is fs gs)

or_right : (a b : Bool) → (a || b) ≡ true → a ≡ false → b ≡ true
or_right true b h e = absurd (false≢true (sym e))
or_right false b h e = h

pub map_map : (f : Value → Datum) (g : Tree → Value) (ts : List Tree) → map f (map g ts) ≡ map (λ t. f (g t)) ts
map_map f g [] = refl
map_map f g (t ∷ ts) = ap (λ xs. f (g t) ∷ xs) (map_map f g ts)

module _ (m : sense.World) (bases : List Base) (fit : AreBases bases) where
  abbrev pub Ready : Used → List World → Type 0
  Ready c ws = (w : World) → In w ws → Settled m bases c w

  -- the values of the terms of slots
  abbrev pub values_of : Values → Slots → List Value
  values_of env ss = map (meaning m env) ss.terms

  module _ (c : Used) (w v : World) where
    abbrev parts : Split
    parts = split w.known v.known

    abbrev names : List (Option Tree)
    names = names_at bases c w v

    abbrev d : Used
    d = used_by_names bases c w v

    abbrev number : Option Tree
    number = count_at bases c w v

    abbrev trail : List Mark
    trail = common w.slots.trail v.slots.trail

    abbrev alike : Bool
    alike = same w.slots.table v.slots.table

    abbrev last : Tree
    last = last_table w.slots.table trail

    next : AreNext bases c names
    next = picks_next bases c w.slots.terms v.slots.terms

    abbrev left : List Tree
    left = parts.left ++ side_links bases names number w.slots

    abbrev right : List Tree
    right = parts.right ++ side_links bases names number v.slots

    -- what is known at the join, from one of the sides, and back
    known_left : (env : Values) → Holds m env w.known → Holds m env (side_links bases names number w.slots) → Holds m env (join bases c w v).known
    known_left env h k =
        let all : Holds m env (parts.front ++ parts.left) = subst (Holds m env) (split_is w.known v.known).left h in
        let l = true_all m env left (holds_both m env parts.left _ (holds_back m env parts.front parts.left all) k) in
        holds_both m env parts.front _ (holds_front m env parts.front parts.left all) (true_or_left m env (all_of left) (all_of right) l, tt)

    known_right : (env : Values) → Holds m env v.known → Holds m env (side_links bases names number v.slots) → Holds m env (join bases c w v).known
    known_right env h k =
        let all : Holds m env (parts.front ++ parts.right) = subst (Holds m env) (split_is w.known v.known).right h in
        let l = true_all m env right (holds_both m env parts.right _ (holds_back m env parts.front parts.right all) k) in
        holds_both m env parts.front _ (holds_front m env parts.front parts.right all) (true_or_right m env (all_of left) (all_of right) l, tt)

    known_either : (env : Values) → Holds m env (join bases c w v).known
        → (Holds m env w.known × Holds m env (side_links bases names number w.slots)) ⊎ (Holds m env v.known × Holds m env (side_links bases names number v.slots))
    known_either env h =
        let front = holds_front m env parts.front _ h in
        ⊎_elim
        (λ l. let a = all_true m env left l in
        inl (subst (Holds m env) (sym (split_is w.known v.known).left) (holds_both m env parts.front parts.left front (holds_front m env parts.left _ a)), holds_back m env parts.left _ a))
        (λ r. let a = all_true m env right r in
        inr (subst (Holds m env) (sym (split_is w.known v.known).right) (holds_both m env parts.front parts.right front (holds_front m env parts.right _ a)), holds_back m env parts.right _ a))
        (or_true m env (all_of left) (all_of right) (holds_back m env parts.front _ h).0)

    names_grow : Grows c d
    names_grow = after_picks_grows bases names c

    pub join_grows : Grows c (used_by_join bases c w v)
    join_grows = grows_trans names_grow (after_pick_grows number count_base d)

    -- one side: its slots and its table are those of the join, where the links hold
    module _ (u : World) (s : Settled m bases c u) (choice : chosen names w.slots.terms ≡ chosen names u.slots.terms) (front : IsFront trail u.slots.trail)
        (same_table : alike ≡ true → w.slots.table ≡ u.slots.table) where
      grown : can_join bases w v ≡ true → (env : Values) → alike ≡ false → SameBlocks (table_of m env last) (table_of m env u.slots.table)
      grown can env e = last_grown_to m w.slots.table trail u.slots.trail env (table_of m env u.slots.table) (or_right alike (is_some_mark trail) can e) front (s.slots.trailed env)

      side_decode : can_join bases w v ≡ true → (env : Values) → Holds m env (side_links bases names number u.slots) → state_of m env (join bases c w v).slots ≡ state_of m env u.slots
      side_decode can env h =
          let l = links bases names u.slots.terms in
          ap₂ (λ ds t. state ds t)
          (ap (data_of m env) choice ∙ links_decode m env bases c names u.slots.terms next (s.sorts env) (holds_front m env l _ h))
          (table_decode m alike d w.slots.table u.slots.table last env same_table (grown can env) (holds_back m env l _ h))

      -- values that make the side go on to values under which the links hold
      abbrev brought : Values → Values
      brought env = counted m alike d (given bases c env names (values_of env u.slots)) (count (table_of m env u.slots.table))

      brought_agrees : (env : Values) → Agree c env (brought env)
      brought_agrees env =
          let env₁ = given bases c env names (values_of env u.slots) in
          agree_trans (given_agrees bases fit c env names (values_of env u.slots) next)
          (agree_less names_grow (counted_agrees m alike d env₁ (count (table_of m env u.slots.table))))

      brought_links : (env : Values) → Holds m (brought env) (side_links bases names number u.slots)
      brought_links env =
          let vs = values_of env u.slots in
          let env₁ = given bases c env names vs in
          let env' = brought env in
          let a₁ = given_agrees bases fit c env names vs next in
          let a₂ = counted_agrees m alike d env₁ (count (table_of m env u.slots.table)) in
          let a = brought_agrees env in
          let sorted : HaveSorts bases (map datum_of vs) = subst (HaveSorts bases) (sym (map_map datum_of (meaning m env) u.slots.terms)) (s.sorts env) in
          let new : Newest m env₁ names (data_of m env u.slots.terms) =
          subst (Newest m env₁ names) (map_map datum_of (meaning m env) u.slots.terms) (given_newest m bases fit c env names vs next sorted)
          in
          let kept : Holds m env₁ (links bases names u.slots.terms) =
          links_hold m env₁ bases c names u.slots.terms next (s.sorts env₁) (subst (Newest m env₁ names) (terms_same m s.slots env env₁ a₁) new)
          in
          holds_both m env' (links bases names u.slots.terms) _
          (links_settled m env₁ env' bases c names u.slots.terms next (s.sorts env₁) (s.sorts env') (same_names m bases fit c env₁ env' names next a₂)
          (terms_same m s.slots env₁ env' (agree_less names_grow a₂)) kept)
          (count_holds m alike d env₁ (count (table_of m env u.slots.table)) u.slots.table (ap count (sym (table_same m s.slots env env' a))))

      links_kept : (env env' : Values) → Agree (used_by_join bases c w v) env env' → Holds m env (side_links bases names number u.slots) → Holds m env' (side_links bases names number u.slots)
      links_kept env env' a h =
          let l = links bases names u.slots.terms in
          let a₁ : Agree d env env' = agree_less (after_pick_grows number count_base d) a in
          let b = agree_less join_grows a in
          holds_both m env' l _
          (links_settled m env env' bases c names u.slots.terms next (s.sorts env) (s.sorts env') (same_names m bases fit c env env' names next a₁) (terms_same m s.slots env env' b)
          (holds_front m env l _ h))
          (count_settled m alike d u.slots.table env env' a (table_same m s.slots env env' b) (holds_back m env l _ h))

    module _ (s : Settled m bases c w) (t : Settled m bases c v) where
      same_choice : chosen names w.slots.terms ≡ chosen names v.slots.terms
      same_choice = chosen_same bases c w.slots.terms v.slots.terms s.size t.size

      left_front : IsFront trail w.slots.trail
      left_front = common_left w.slots.trail v.slots.trail

      right_front : IsFront trail v.slots.trail
      right_front = common_right w.slots.trail v.slots.trail

      tables_same : alike ≡ true → w.slots.table ≡ v.slots.table
      tables_same e = same_exact w.slots.table v.slots.table e

      pub join_settled : Settled m bases (used_by_join bases c w v) (join bases c w v)
      join_settled = record {
        size = chosen_length m names w.slots.terms ∙ s.size;
        sorts = λ env. chosen_sorts m env bases c names w.slots.terms next (s.sorts env);
        known = λ env env' a.
            let b = agree_less join_grows a in
            λ h. ⊎_elim (λ l. known_left env' (s.known env env' b l.0) (links_kept w s refl left_front (λ e. refl) env env' a l.1))
            (λ r. known_right env' (t.known env env' b r.0) (links_kept v t same_choice right_front tables_same env env' a r.1))
            (known_either env h);
        slots = record {
          same = λ env env' a.
              let b = agree_less join_grows a in
              let names_same = same_names m bases fit c env env' names next (agree_less (after_pick_grows number count_base d) a) in
              ap₂ (λ ds t. state ds t) (chosen_settled m env env' names w.slots.terms names_same (terms_same m s.slots env env' b))
              (table_settled m alike d w.slots.table last env env' a (table_same m s.slots env env' b)
              (last_same m env env' w.slots.table trail (table_same m s.slots env env' b) (front_same m env env' trail w.slots.trail left_front (s.slots.marks env env' b))));
          marks = λ env env' a. front_same m env env' trail w.slots.trail left_front (s.slots.marks env env' (agree_less join_grows a));
          trailed = λ env. table_trailed m alike d w.slots.table trail w.slots.trail env left_front (s.slots.trailed env);
        };
      }

      module _ (can : can_join bases w v ≡ true) where
        -- values that make the join make one of its worlds
        pub join_either : (env : Values) (st : State) → Meets m env (join bases c w v) st → Meets m env w st ⊎ Meets m env v st
        join_either env st h =
            ⊎_elim (λ l. inl (record { known = l.0; state = sym (side_decode w s refl left_front (λ e. refl) can env l.1) ∙ h.state }))
            (λ r. inr (record { known = r.0; state = sym (side_decode v t same_choice right_front tables_same can env r.1) ∙ h.state }))
            (known_either env h.known)

        abbrev pub Joins : Values → State → Type 0
        Joins env st = (env' : Values) × Agree c env env' × Meets m env' (join bases c w v) st

        -- values that make one of the worlds go on to values that make the join
        pub join_left : (env : Values) (st : State) → Meets m env w st → Joins env st
        join_left env st h =
            let env' = brought w s refl left_front (λ e. refl) env in
            let a = brought_agrees w s refl left_front (λ e. refl) env in
            let k = brought_links w s refl left_front (λ e. refl) env in (
              env',
              a,
              record {
                known = known_left env' (s.known env env' a h.known) k;
                state = side_decode w s refl left_front (λ e. refl) can env' k ∙ sym (s.slots.same env env' a) ∙ h.state;
              },
            )

        pub join_right : (env : Values) (st : State) → Meets m env v st → Joins env st
        join_right env st h =
            let env' = brought v t same_choice right_front tables_same env in
            let a = brought_agrees v t same_choice right_front tables_same env in
            let k = brought_links v t same_choice right_front tables_same env in (
              env',
              a,
              record {
                known = known_right env' (t.known env env' a h.known) k;
                state = side_decode v t same_choice right_front tables_same can env' k ∙ sym (t.slots.same env env' a) ∙ h.state;
              },
            )

  -- ---- several

  abbrev pub Ends : Values → State → List World → Type 0
  Ends env st ws = (w : World) × In w ws × Meets m env w st

  ready_joined : (c : Used) (w v : World) (vs : List World) → Ready c (w ∷ v ∷ vs) → Ready (used_by_join bases c w v) (join bases c w v ∷ vs)
  ready_joined c w v vs r u (inl e) = subst (Settled m bases (used_by_join bases c w v)) (sym e) (join_settled c w v (r w (inl refl)) (r v (inr (inl refl))))
  ready_joined c w v vs r u (inr h) = later m (join_grows c w v) (r u (inr (inr h)))

  joined_either : (c : Used) (w : World) (vs : List World) → Ready c (w ∷ vs) → can_all_join bases c w vs ≡ true → (env : Values) (st : State) → Meets m env (joined bases c w vs) st
      → Ends env st (w ∷ vs)
  joined_either c w [] r can env st h = (w, inl refl, h)
  joined_either c w (v ∷ vs) r can env st h =
      by (joined_either (used_by_join bases c w v) (join bases c w v) vs (ready_joined c w v vs r) (both_parts (can_join bases w v) _ can).1 env st h)
    where
      by : Ends env st (join bases c w v ∷ vs) → Ends env st (w ∷ v ∷ vs)
      by (u, inl e, k) =
          ⊎_elim (λ x. (w, inl refl, x)) (λ x. (v, inr (inl refl), x))
          (join_either c w v (r w (inl refl)) (r v (inr (inl refl))) (both_parts (can_join bases w v) _ can).0 env st (subst (λ u. Meets m env u st) e k))
      by (u, inr i, k) = (u, inr (inr i), k)

  abbrev JoinedMore : Used → World → List World → Values → State → Type 0
  JoinedMore c w vs env st = (env' : Values) × Agree c env env' × Meets m env' (joined bases c w vs) st

  joined_more : (c : Used) (w : World) (vs : List World) → Ready c (w ∷ vs) → can_all_join bases c w vs ≡ true → (env : Values) (st : State) → Ends env st (w ∷ vs) → JoinedMore c w vs env st
  joined_more c w [] r can env st (u, inl e, k) = (env, agree_same c env, subst (λ u. Meets m env u st) e k)
  joined_more c w [] r can env st (u, inr i, k) = absurd i
  joined_more c w (v ∷ vs) r can env st (u, inl e, k) =
      let p = both_parts (can_join bases w v) (can_all_join bases (used_by_join bases c w v) (join bases c w v) vs) can in
      let x = join_left c w v (r w (inl refl)) (r v (inr (inl refl))) p.0 env st (subst (λ u. Meets m env u st) e k) in
      let y = joined_more (used_by_join bases c w v) (join bases c w v) vs (ready_joined c w v vs r) p.1 x.0 st (join bases c w v, inl refl, x.2) in
      (y.0, agree_trans x.1 (agree_less (join_grows c w v) y.1), y.2)
  joined_more c w (v ∷ vs) r can env st (u, inr (inl e), k) =
      let p = both_parts (can_join bases w v) (can_all_join bases (used_by_join bases c w v) (join bases c w v) vs) can in
      let x = join_right c w v (r w (inl refl)) (r v (inr (inl refl))) p.0 env st (subst (λ u. Meets m env u st) e k) in
      let y = joined_more (used_by_join bases c w v) (join bases c w v) vs (ready_joined c w v vs r) p.1 x.0 st (join bases c w v, inl refl, x.2) in
      (y.0, agree_trans x.1 (agree_less (join_grows c w v) y.1), y.2)
  joined_more c w (v ∷ vs) r can env st (u, inr (inr i), k) =
      let p = both_parts (can_join bases w v) (can_all_join bases (used_by_join bases c w v) (join bases c w v) vs) can in
      let y = joined_more (used_by_join bases c w v) (join bases c w v) vs (ready_joined c w v vs r) p.1 env st (u, inr i, k) in
      (y.0, agree_less (join_grows c w v) y.1, y.2)

  joined_grows : (c : Used) (w : World) (vs : List World) → Grows c (used_by_joined bases c w vs)
  joined_grows c w [] = grows_same c
  joined_grows c w (v ∷ vs) = grows_trans (join_grows c w v) (joined_grows (used_by_join bases c w v) (join bases c w v) vs)

  joined_settled : (c : Used) (w : World) (vs : List World) → Ready c (w ∷ vs) → Settled m bases (used_by_joined bases c w vs) (joined bases c w vs)
  joined_settled c w [] r = r w (inl refl)
  joined_settled c w (v ∷ vs) r = joined_settled (used_by_join bases c w v) (join bases c w v) vs (ready_joined c w v vs r)

  -- ---- where worlds meet

  abbrev pub At : Values → State → Option World → Type 0
  At env st end = (w : World) × (end ≡ Some w) × Meets m env w st

  pub meet_either : (c : Used) (ws : List World) → Ready c ws → can_meet bases c ws ≡ true → (env : Values) (st : State) → At env st (meet bases c ws) → Ends env st ws
  meet_either c [] r can env st h = absurd (none_some h.1)
  meet_either c (w ∷ ws) r can env st h = joined_either c w ws r can env st (subst (λ w. Meets m env w st) (sym (some_parts h.1)) h.2)

  pub meet_more : (c : Used) (ws : List World) → Ready c ws → can_meet bases c ws ≡ true → (env : Values) (st : State) → Ends env st ws
      → (env' : Values) × Agree c env env' × At env' st (meet bases c ws)
  meet_more c [] r can env st h = absurd h.1
  meet_more c (w ∷ ws) r can env st h = let x = joined_more c w ws r can env st h in (x.0, x.1, (joined bases c w ws, refl, x.2))

  pub meet_grows : (c : Used) (ws : List World) → Grows c (used_by_meet bases c ws)
  meet_grows c [] = grows_same c
  meet_grows c (w ∷ ws) = joined_grows c w ws

  pub meet_settled : (c : Used) (ws : List World) → Ready c ws → (w : World) → meet bases c ws ≡ Some w → Settled m bases (used_by_meet bases c ws) w
  meet_settled c [] r w h = absurd (none_some h)
  meet_settled c (v ∷ vs) r w h = subst (Settled m bases (used_by_joined bases c v vs)) (some_parts h) (joined_settled c v vs r)
