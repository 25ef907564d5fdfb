-- Blocks that are entered and left, in the world and in slots.
use Rattle.std.proofs.Common.{◌≡◌, ◌⊎◌, ℕ, zero, suc, ◌+◌, ◌<◌, ◌≤◌, ℤ, pos, negsuc, Bool, true, false, ◌&&◌, ◌||◌, if◌then◌else◌, List, [], ◌∷◌, length, Option, Some, None, slice_get, refl, sym, ap, ◌∙◌, subst, inl, inr, arith}
use Rattle.std.specs.Prelude.{◌==◌}
use Rattle.std.specs.List.{list_all}
use Rattle.std.proofs.lemmas.Bool.{false≢true, and_parts}
use Rattle.std.proofs.lemmas.Bool.Decides.{Decides-eqb}
use Rattle.wp_base.specs.declared.kinds.CellKind.{CellKind}
use Rattle.wp_base.specs.declared.kinds.CellKind.TheVariants as cell
use Rattle.wp_base.specs.Blocks.{Table, count, block_at}
use Rattle.c_kinds.specs.Models.{holds}
use Rattle.qed_terms.specs.Meaning as sense
use Rattle.qed_terms.specs.Tree.{num}
use Rattle.c_runs.specs.TruthStates.{Value, number, nothing_of}
use Rattle.c_runs.specs.Program.{Variable, Facts}
use Rattle.c_runs.specs.States.{Memory, World, plain, with_local, with_memory, unset}
use Rattle.c_runs.specs.Scopes.{scalar_of, variable_made, plain_made, ended_since, without_locals, left}
use Rattle.c_runs.specs.CoreRun.{CoreWorld, in_world}
use Rattle.goal_segments.specs.Segments.{SameBlocks, IsAny, Opened, all_opened, unknown, with_value, not_set, with_cells}
use Rattle.plain_states.specs.Slots.{State, at, value_slot, flag_slot, local_value, local_flag, result_slot, with_variable}
use Rattle.plain_states.specs.Slots as slots
use Rattle.plain_states.specs.Scopes.{is_integer, kind_of}
use Rattle.plain_states.proofs.Lists.{set_else, value_before, flag_before}
use Rattle.plain_states.proofs.Scoping.{none_some}
use Rattle.plain_states.proofs.Calling.{some_same}
use Rattle.plain_states.proofs.Entering.{when_true}
use Rattle.goal_segments.specs.Told.{IsGood, Shape, sizes, with_name, with_names}
use Rattle.goal_segments.proofs.Told.{zero_of}
use Rattle.walk_steps.specs.State as walk
use Rattle.walk_steps.specs.State.{restore}
use Rattle.walk_steps.specs.Step.{Step, Change, keeps, fresh, count as checks_in}
use Rattle.walk_steps.specs.Step as step
use Rattle.walk_steps.specs.Run.{End, goes_on, leaves, fails, Seg, Changes, put_back}
use Rattle.walk_steps.specs.Run as seg
use Rattle.walk_steps.proofs.Readings.{seq_ways, set_way, sets_then, changes_then}
use Rattle.program_steps.specs.Leaves.{number as number_of, closed, leaves_of}
use Rattle.program_steps.specs.Temporaries.{Temporaries}
use Rattle.program_steps.specs.Words.{any_at, slots_of, opened, all_opened as all_opened_word}
use Rattle.program_steps.specs.Standing.{LocalIs, StandsFor}
use Rattle.program_steps.specs.Typed.{Declares}
use Rattle.program_steps.proofs.Filling.{on_bool}
use Rattle.program_steps.proofs.Listing.{put_same, at_same}
use Rattle.program_steps.proofs.Asking.{behind}
use Rattle.program_steps.proofs.Standing.{of_function}
use Rattle.program_steps.proofs.Setting.{local_put}
use Rattle.program_steps.proofs.Leaving.{left_good, left_blocks}

-- a number below the length is that of an item
pub found_at : {X : Type 0} (xs : List X) (x : ℕ) → x < length xs → (v : X) × (slice_get xs x ≡ Some v)
found_at [] x l = absurd (omega (arith, l))
found_at (v ∷ xs) zero l = (v, refl)
found_at (v ∷ xs) (suc x) l = found_at xs x (omega (arith, l))

-- ---- any value in one slot

any_changes : (sts : List State) (i : ℕ) (st : State) (z : ℤ) → Changes sts (any_at i) st (walk.put st i z)
any_changes sts zero [] z = tt
any_changes sts zero (x ∷ st) z = (tt, refl)
any_changes sts (suc i) [] z = tt
any_changes sts (suc i) (x ∷ st) z = (refl, any_changes sts i st z)

changes_any : (sts : List State) (i : ℕ) (st after : State) → Changes sts (any_at i) st after → (z : ℤ) × (walk.put st i z ≡ after)
changes_any sts zero [] [] h = (pos 0, refl)
changes_any sts zero [] (y ∷ after) h = absurd h
changes_any sts zero (x ∷ st) [] h = absurd h
changes_any sts zero (x ∷ st) (y ∷ after) h = (y, ap (λ l. y ∷ l) h.1)
changes_any sts (suc i) [] [] h = (pos 0, refl)
changes_any sts (suc i) [] (y ∷ after) h = absurd h
changes_any sts (suc i) (x ∷ st) [] h = absurd h
changes_any sts (suc i) (x ∷ st) (y ∷ after) h = let r = changes_any sts i st after h.1 in (r.0, λ k. (h.0 k) ∷ (r.1 k))

two_same : (x : ℕ) (z a : ℤ) (st : State) → walk.put (walk.put st (value_slot x) z) (flag_slot x) a ≡ with_variable x z a st
two_same x z a st = put_same (walk.put st (value_slot x) z) (flag_slot x) a ∙ ap (λ l. slots.put l (flag_slot x) a) (put_same st (value_slot x) z)

two_at : (x : ℕ) (z a : ℤ) (i : ℕ) (st : State) → (value_slot x ≡ i → ⊥) → (flag_slot x ≡ i → ⊥) → at (walk.put (walk.put st (value_slot x) z) (flag_slot x) a) i ≡ at st i
two_at x z a i st d e = ap (λ l. at l i) (two_same x z a st) ∙ set_else x i z a st d e

-- ---- variables of a block

module _ (s : Shape) where
  abbrev pub AllIn : List ℕ → Type 0
  AllIn [] = Unit {0}
  AllIn (y ∷ ys) = (y < length s.variables) × AllIn ys

  pub declared_in : (ys : List ℕ) (i : ℕ → Bool) → Declares s i ys → AllIn ys
  declared_in [] i d = tt
  declared_in (y ∷ ys) i d = (d.1, declared_in ys (with_name y i) d.2)

module _ (p : Facts) (s : Shape) where
  pub result_kept : (ys : List ℕ) (old st : State) → AllIn s ys → at (put_back (slots_of (sizes p s) ys) old st) (result_slot (sizes p s)) ≡ at st (result_slot (sizes p s))
  result_kept [] old st d = refl
  result_kept (y ∷ ys) old st d =
      let v = value_before ((sizes p s).globals + y) ((sizes p s).globals + (sizes p s).locals) (let l = d.0 in omega (arith, l)) in
      let f = flag_before ((sizes p s).globals + y) ((sizes p s).globals + (sizes p s).locals) (let l = d.0 in omega (arith, l)) in
      result_kept ys old
      (walk.put (walk.put st (local_value (sizes p s) y) (walk.at_or (pos 0) old (local_value (sizes p s) y))) (local_flag (sizes p s) y) (walk.at_or (pos 0) old (local_flag (sizes p s) y))) d.1
      ∙ two_at ((sizes p s).globals + y) (walk.at_or (pos 0) old (local_value (sizes p s) y)) (walk.at_or (pos 0) old (local_flag (sizes p s) y)) (result_slot (sizes p s)) st
      (λ e. omega (arith, e, v)) (λ e. omega (arith, e, f))

module _ (m : sense.World) (p : Facts) (s : Shape) (globals : list_all is_integer p.globals ≡ true) (integers : list_all is_integer s.variables ≡ true) (t0 : Table) (g : Temporaries) (olds : List State) where
  -- ---- a block that is entered

  -- in the world, which is as slots tell, and by the word
  record Opens (ys : List ℕ) (i : ℕ → Bool) (c : CoreWorld) (w u : World) (n : ℕ) (st after : State) : Type 0 where
    opens : Opened p s.variables ys w u
    runs : Seg olds n (all_opened_word m s (sizes p s) ys) st (goes_on after)
    stands : StandsFor p s t0 (with_names ys i) g (in_world c u) after

  named : (x k : ℕ) (i : ℕ → Bool) → with_name x i k ≡ false → (x ≡ k → ⊥) × (i k ≡ false)
  named x k i h = by (x == k) refl h where
    by : (t : Bool) → (x == k) ≡ t → (t || i k) ≡ false → (x ≡ k → ⊥) × (i k ≡ false)
    by true e h = absurd (false≢true (sym h))
    by false e h = ((λ q. false≢true (sym e ∙ (Decides-eqb x k).1 q)), h)

  module _ (i : ℕ → Bool) (c : CoreWorld) (w : World) (st : State) (stands : StandsFor p s t0 i g (in_world c w) st) (x : ℕ) (v : Variable) (found : slice_get s.variables x ≡ Some v) where
    scoping : (z a : ℤ) (k : ℕ) → with_name x i k ≡ false → (x ≡ k → (z ≡ pos 0) × (a ≡ pos 0)) × ((x ≡ k → ⊥) → i k ≡ false)
    scoping z a k e = let both = named x k i e in ((λ q. absurd (both.0 q)), λ d. both.1)

    valued : v.has_value ≡ true → StandsFor p s t0 (with_name x i) g (in_world c (variable_made p x (Some v) w)) (with_variable ((sizes p s).globals + x) (pos 0) (pos 1) st)
    valued has =
        let parts = of_function p s globals integers x v found in
        let made : variable_made p x (Some v) w ≡ with_local x (plain (number (pos 0)) true) w =
        when_true v.is_plain _ _ parts.0 ∙ when_true v.has_value _ _ has ∙ ap (λ k. with_local x (plain (nothing_of k) true) w) parts.1 in
        subst (λ u. StandsFor p s t0 (with_name x i) g (in_world c u) (with_variable ((sizes p s).globals + x) (pos 0) (pos 1) st)) (sym made)
        (local_put p s globals integers i g (in_world c w) st stands (with_name x i) x v found true (pos 0) (pos 1) refl (inr refl) (λ h. zero_of p.model (kind_of v))
        (scoping (pos 0) (pos 1)) w.contents)

    any_valued : v.has_value ≡ false → (z : ℤ) (contents : List Value)
        → StandsFor p s t0 (with_name x i) g (in_world c (with_local x (plain (number z) false) (record w { contents = contents }))) (with_variable ((sizes p s).globals + x) z (pos 0) st)
    any_valued has z contents = local_put p s globals integers i g (in_world c w) st stands (with_name x i) x v found false z (pos 0) refl (inl refl)
        (λ h. absurd (false≢true (sym (ap (λ t. t || false) has) ∙ h))) (scoping z (pos 0)) contents

    abbrev with_zero : Step
    with_zero = step.seq (step.set (value_slot ((sizes p s).globals + x)) (number_of m (num (pos 0)))) (step.set (flag_slot ((sizes p s).globals + x)) (number_of m (num (pos 1))))

    abbrev with_any : Step
    with_any = step.seq (step.change (any_at (value_slot ((sizes p s).globals + x)))) (step.set (flag_slot ((sizes p s).globals + x)) (number_of m (num (pos 0))))

    -- the word of one variable
    valued_run : v.has_value ≡ true → (n : ℕ) → Seg olds n (opened m s (sizes p s) x (Some v)) st (goes_on (with_variable ((sizes p s).globals + x) (pos 0) (pos 1) st))
    valued_run has n = by v.has_value has where
      by : (t : Bool) → t ≡ true → Seg olds n (if t then with_zero else with_any) st
          (goes_on (with_variable ((sizes p s).globals + x) (pos 0) (pos 1) st))
      by true h = subst (λ a. Seg olds n with_zero st (goes_on a)) (two_same ((sizes p s).globals + x) (pos 0) (pos 1) st) (seg.goes_both seg.sets (behind seg.sets))
      by false h = absurd (false≢true h)

    any_run : v.has_value ≡ false → (z : ℤ) (n : ℕ) → Seg olds n (opened m s (sizes p s) x (Some v)) st (goes_on (with_variable ((sizes p s).globals + x) z (pos 0) st))
    any_run has z n = by v.has_value has where
      by : (t : Bool) → t ≡ false → Seg olds n (if t then with_zero else with_any) st
          (goes_on (with_variable ((sizes p s).globals + x) z (pos 0) st))
      by true h = absurd (false≢true (sym h))
      by false h = subst (λ a. Seg olds n with_any st (goes_on a)) (two_same ((sizes p s).globals + x) z (pos 0) st)
          (seg.goes_both (seg.changes (any_changes (st ∷ olds) (value_slot ((sizes p s).globals + x)) st z)) (behind seg.sets))

    -- and back
    opened_ways : (n : ℕ) (e : End) → Seg olds n (opened m s (sizes p s) x (Some v)) st e
        → ((v.has_value ≡ true) × (goes_on (with_variable ((sizes p s).globals + x) (pos 0) (pos 1) st) ≡ e))
        ⊎ ((v.has_value ≡ false) × ((z : ℤ) × (goes_on (with_variable ((sizes p s).globals + x) z (pos 0) st) ≡ e)))
    opened_ways n e k = on_bool v.has_value (λ h. inl (h, valued_way n e h k)) (λ h. inr (h, any_way n e h k)) where
      valued_way : (n : ℕ) (e : End) → v.has_value ≡ true → Seg olds n (opened m s (sizes p s) x (Some v)) st e → goes_on (with_variable ((sizes p s).globals + x) (pos 0) (pos 1) st) ≡ e
      valued_way n e h k =
          let r = subst (λ t. Seg olds n (if t then with_zero else with_any) st e) h k in
          ap goes_on (sym (two_same ((sizes p s).globals + x) (pos 0) (pos 1) st)) ∙ set_way (sets_then r)

      any_way : (n : ℕ) (e : End) → v.has_value ≡ false → Seg olds n (opened m s (sizes p s) x (Some v)) st e → (z : ℤ) × (goes_on (with_variable ((sizes p s).globals + x) z (pos 0) st) ≡ e)
      any_way n e h k =
          let r = subst (λ t. Seg olds n (if t then with_zero else with_any) st e) h k in
          let after = changes_then r in
          let z = changes_any (st ∷ olds) (value_slot ((sizes p s).globals + x)) st after.0 after.1 in
          (z.0, ap goes_on (sym (two_same ((sizes p s).globals + x) z.0 (pos 0) st) ∙ ap (λ l. walk.put l (flag_slot ((sizes p s).globals + x)) (pos 0)) z.1) ∙ set_way after.2)

  -- a block that is entered ends so
  pub record Entered (ys : List ℕ) (i : ℕ → Bool) (c : CoreWorld) (u : World) (st : State) : Type 0 where
    pub after : State
    pub runs : (n : ℕ) → Seg olds n (all_opened_word m s (sizes p s) ys) st (goes_on after)
    pub stands : StandsFor p s t0 (with_names ys i) g (in_world c u) after

  one_more : (x : ℕ) (ys : List ℕ) (i : ℕ → Bool) (c : CoreWorld) (u : World) (st mid : State) (v : Variable) → slice_get s.variables x ≡ Some v
      → ((n : ℕ) → Seg olds n (opened m s (sizes p s) x (Some v)) st (goes_on mid)) → Entered ys (with_name x i) c u mid → Entered (x ∷ ys) i c u st
  one_more x ys i c u st mid v e first rest = record {
    after = rest.after;
    runs = λ n. seg.goes_both (subst (λ o. Seg olds n (opened m s (sizes p s) x o) st (goes_on mid)) (sym e) (first n))
        (rest.runs (n + checks_in (opened m s (sizes p s) x (slice_get s.variables x))));
    stands = rest.stands;
  }

  pub enters : (ys : List ℕ) (i : ℕ → Bool) (c : CoreWorld) (w u : World) (st : State) → Opened p s.variables ys w u → StandsFor p s t0 i g (in_world c w) st → Declares s i ys
      → Entered ys i c u st
  enters _ i c _ _ st all_opened stands d = record { after = st; runs = λ n. seg.skips; stands = stands }
  enters _ i c w u st (unknown {x} {ys} e rest) stands d = let v = found_at s.variables x d.1 in absurd (none_some v.0 (sym e ∙ v.1))
  enters _ i c w u st (with_value {x} {ys} {v} e has is_plain rest) stands d =
      one_more x ys i c u st (with_variable ((sizes p s).globals + x) (pos 0) (pos 1) st) v e (λ n. valued_run i c w st stands x v e has n)
      (enters ys (with_name x i) c (variable_made p x (Some v) w) u (with_variable ((sizes p s).globals + x) (pos 0) (pos 1) st) rest (valued i c w st stands x v e has) d.2)
  enters _ i c w u st (not_set {x} {ys} {v} e has is_plain held any contents rest) stands d =
      let z = subst (λ k. IsAny k held) (of_function p s globals integers x v e).1 any in
      one_more x ys i c u st (with_variable ((sizes p s).globals + x) z.0 (pos 0) st) v e (λ n. any_run i c w st stands x v e has z.0 n)
      (enters ys (with_name x i) c (with_local x (plain held false) (record w { contents = contents })) u (with_variable ((sizes p s).globals + x) z.0 (pos 0) st) rest
      (subst (λ h. StandsFor p s t0 (with_name x i) g (in_world c (with_local x (plain h false) (record w { contents = contents }))) (with_variable ((sizes p s).globals + x) z.0 (pos 0) st)) (sym z.1)
      (any_valued i c w st stands x v e has z.0 contents)) d.2)
  enters _ i c w u st (with_cells {x} {ys} {v} e not_plain contents rest) stands d = absurd (false≢true (sym not_plain ∙ (of_function p s globals integers x v e).0))

  -- and back
  pub record Found (ys : List ℕ) (i : ℕ → Bool) (c : CoreWorld) (w : World) (e : End) : Type 0 where
    pub world : World
    pub after : State
    pub is : goes_on after ≡ e
    pub opens : Opened p s.variables ys w world
    pub stands : StandsFor p s t0 (with_names ys i) g (in_world c world) after

  goes_parts : {a b : State} → goes_on a ≡ goes_on b → a ≡ b
  goes_parts e = cc

  abbrev first_word : ℕ → Step
  first_word x = opened m s (sizes p s) x (slice_get s.variables x)

  pub finds : (ys : List ℕ) (i : ℕ → Bool) (c : CoreWorld) (w : World) (st : State) (n : ℕ) (e : End) → Seg olds n (all_opened_word m s (sizes p s) ys) st e
      → StandsFor p s t0 i g (in_world c w) st → Declares s i ys → Found ys i c w e
  finds [] i c w st n e seg.skips stands d = record { world = w; after = st; is = refl; opens = all_opened; stands = stands }
  finds (x ∷ ys) i c w st n e k stands d =
      let v = found_at s.variables x d.1 in
      by v.0 v.1 (seq_ways k) (λ w' mid r stood. finds ys (with_name x i) c w' mid (n + checks_in (first_word x)) e r stood d.2)
    where
      with_first : (v : Variable) → slice_get s.variables x ≡ Some v → (o : End) (n' : ℕ) → Seg olds n' (first_word x) st o
          → ((v.has_value ≡ true) × (goes_on (with_variable ((sizes p s).globals + x) (pos 0) (pos 1) st) ≡ o))
          ⊎ ((v.has_value ≡ false) × ((z : ℤ) × (goes_on (with_variable ((sizes p s).globals + x) z (pos 0) st) ≡ o)))
      with_first v found o n' r = opened_ways i c w st stands x v found n' o (subst (λ y. Seg olds n' (opened m s (sizes p s) x y) st o) found r)

      over : (v : Variable) → seg.IsOver e → ((v.has_value ≡ true) × (goes_on (with_variable ((sizes p s).globals + x) (pos 0) (pos 1) st) ≡ e))
          ⊎ ((v.has_value ≡ false) × ((z : ℤ) × (goes_on (with_variable ((sizes p s).globals + x) z (pos 0) st) ≡ e))) → Found (x ∷ ys) i c w e
      over v o (inl h) = absurd (subst seg.IsOver (sym h.1) o)
      over v o (inr h) = absurd (subst seg.IsOver (sym h.1.1) o)

      further : (v : Variable) → slice_get s.variables x ≡ Some v → (mid : State) → Seg olds (n + checks_in (first_word x)) (all_opened_word m s (sizes p s) ys) mid e
          → ((v.has_value ≡ true) × (goes_on (with_variable ((sizes p s).globals + x) (pos 0) (pos 1) st) ≡ goes_on mid))
          ⊎ ((v.has_value ≡ false) × ((z : ℤ) × (goes_on (with_variable ((sizes p s).globals + x) z (pos 0) st) ≡ goes_on mid)))
          → ((w' : World) (mid : State) → Seg olds (n + checks_in (first_word x)) (all_opened_word m s (sizes p s) ys) mid e → StandsFor p s t0 (with_name x i) g (in_world c w') mid
          → Found ys (with_name x i) c w' e) → Found (x ∷ ys) i c w e
      further v found mid r (inl h) rest =
          let a = rest (variable_made p x (Some v) w) mid r (subst (StandsFor p s t0 (with_name x i) g (in_world c (variable_made p x (Some v) w))) (goes_parts h.1) (valued i c w st stands x v found h.0)) in
          record { world = a.world; after = a.after; is = a.is; opens = with_value found h.0 (of_function p s globals integers x v found).0 a.opens; stands = a.stands }
      further v found mid r (inr h) rest =
          let parts = of_function p s globals integers x v found in
          let a = rest (with_local x (plain (number h.1.0) false) (record w { contents = w.contents })) mid r
          (subst (StandsFor p s t0 (with_name x i) g (in_world c (with_local x (plain (number h.1.0) false) (record w { contents = w.contents })))) (goes_parts h.1.1)
          (any_valued i c w st stands x v found h.0 h.1.0 w.contents)) in
          record {
            world = a.world;
            after = a.after;
            is = a.is;
            opens = not_set found h.0 parts.0 (number h.1.0) (subst (λ k. IsAny k (number h.1.0)) (sym parts.1) (h.1.0, refl)) w.contents a.opens;
            stands = a.stands;
          }

      by : (v : Variable) → slice_get s.variables x ≡ Some v
          → (seg.IsOver e × Seg olds n (first_word x) st e) ⊎ ((mid : State) × Seg olds n (first_word x) st (goes_on mid) × Seg olds (n + checks_in (first_word x)) (all_opened_word m s (sizes p s) ys) mid e)
          → ((w' : World) (mid : State) → Seg olds (n + checks_in (first_word x)) (all_opened_word m s (sizes p s) ys) mid e → StandsFor p s t0 (with_name x i) g (in_world c w') mid
          → Found ys (with_name x i) c w' e) → Found (x ∷ ys) i c w e
      by v found (inl (o, r)) rest = over v o (with_first v found e n r)
      by v found (inr (mid, r, l)) rest = further v found mid l (with_first v found (goes_on mid) n r) rest

  -- ---- a block that is left

  names_false : (ys : List ℕ) (f h : ℕ → Bool) (k : ℕ) → (f k ≡ false → h k ≡ false) → with_names ys f k ≡ false → with_names ys h k ≡ false
  names_false [] f h k less e = less e
  names_false (y ∷ ys) f h k less e = names_false ys (with_name y f) (with_name y h) k (λ q. by (y == k) q) e where
    by : (t : Bool) → (t || f k) ≡ false → (t || h k) ≡ false
    by true q = q
    by false q = less q

  abbrev pub AllZero : List ℕ → State → Type 0
  AllZero [] old = Unit {0}
  AllZero (y ∷ ys) old = ((at old (local_value (sizes p s) y) ≡ pos 0) × (at old (local_flag (sizes p s) y) ≡ pos 0)) × AllZero ys old

  put_both : (y : ℕ) (old st : State) → (at old (local_value (sizes p s) y) ≡ pos 0) × (at old (local_flag (sizes p s) y) ≡ pos 0)
      → walk.put (walk.put st (local_value (sizes p s) y) (walk.at_or (pos 0) old (local_value (sizes p s) y))) (local_flag (sizes p s) y) (walk.at_or (pos 0) old (local_flag (sizes p s) y))
      ≡ with_variable ((sizes p s).globals + y) (pos 0) (pos 0) st
  put_both y old st h =
      (λ k. walk.put (walk.put st (local_value (sizes p s) y) ((at_same (pos 0) old (local_value (sizes p s) y) ∙ h.0) k)) (local_flag (sizes p s) y) ((at_same (pos 0) old (local_flag (sizes p s) y) ∙ h.1) k))
      ∙ two_same ((sizes p s).globals + y) (pos 0) (pos 0) st

  pub declared_zero : (ys : List ℕ) (h i : ℕ → Bool) (c : CoreWorld) (st : State) → ((k : ℕ) → h k ≡ false → i k ≡ false) → Declares s h ys → StandsFor p s t0 i g c st → AllZero ys st
  declared_zero [] h i c st less d stands = tt
  declared_zero (y ∷ ys) h i c st less d stands =
      (stands.unscoped y d.1 (less y d.0), declared_zero ys (with_name y h) i c st (λ k e. less k (named y k h e).1) d.2 stands)

  not_named : (y k : ℕ) (i : ℕ → Bool) → (y ≡ k → ⊥) → i k ≡ false → with_name y i k ≡ false
  not_named y k i differ e = by (y == k) refl where
    by : (t : Bool) → (y == k) ≡ t → (t || i k) ≡ false
    by true q = absurd (differ ((Decides-eqb y k).0 q))
    by false q = e

  pub without : (ys : List ℕ) (i : ℕ → Bool) (c : CoreWorld) (w : World) (old st : State) → StandsFor p s t0 (with_names ys i) g (in_world c w) st → AllIn s ys → AllZero ys old
      → StandsFor p s t0 i g (in_world c (without_locals ys w)) (put_back (slots_of (sizes p s) ys) old st)
  without [] i c w old st stands d zero_at = stands
  without (y ∷ ys) i c w old st stands d zero_at =
      let v = found_at s.variables y d.0 in
      let one : StandsFor p s t0 (with_names ys i) g (in_world c (with_local y unset w)) (with_variable ((sizes p s).globals + y) (pos 0) (pos 0) st) =
      local_put p s globals integers (with_names ys (with_name y i)) g (in_world c w) st stands (with_names ys i) y v.0 v.1 false (pos 0) (pos 0) refl (inl refl) (λ h. zero_of p.model (kind_of v.0))
      (λ k e. ((λ q. (refl, refl)), (λ differ. names_false ys i (with_name y i) k (λ q. not_named y k i differ q) e))) w.contents in
      subst (λ l. StandsFor p s t0 i g (in_world c (without_locals ys (with_local y unset w))) (put_back (slots_of (sizes p s) ys) old l)) (sym (put_both y old st zero_at.0))
      (without ys i c (with_local y unset w) old (with_variable ((sizes p s).globals + y) (pos 0) (pos 0) st) one d.1 zero_at.1)

  memory_same : (ys : List ℕ) (w : World) → (without_locals ys w).memory ≡ w.memory
  memory_same [] w = refl
  memory_same (y ∷ ys) w = memory_same ys (with_local y unset w)

  -- the block was entered in the first state, and is left in the second one
  pub leaves_block : (ys : List ℕ) (i : ℕ → Bool) (before : Memory) (c : CoreWorld) (old st : State) → SameBlocks t0 before.blocks → StandsFor p s t0 (with_names ys i) g c st
      → AllIn s ys → AllZero ys old → StandsFor p s t0 i g (in_world c (left before ys c.world)) (put_back (slots_of (sizes p s) ys) old st)
  leaves_block ys i before c old st entered stands d zero_at =
      let one = without ys i c c.world old st stands d zero_at in
      record {
        size = one.size;
        good = left_good p s globals integers before c.world.memory stands.good (λ b. stands.blocks.live b ∙ sym (entered.live b));
        blocks = left_blocks t0 before.blocks c.world.memory.blocks entered;
        globals = λ x v e. ap (λ (n : Memory). n.cells (negsuc x) (pos 0)) (sym (memory_same ys c.world)) ∙ one.globals x v e;
        locals = one.locals;
        temporaries = one.temporaries;
        unscoped = one.unscoped;
      }
