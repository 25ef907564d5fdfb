-- Slots go on standing for the world where a temporary or a variable is set in both.
use Rattle.std.proofs.Common.{◌≡◌, ◌⊎◌, ℕ, zero, suc, ◌+◌, ◌<◌, ◌≤◌, ℤ, pos, negsuc, Bool, true, false, ◌&&◌, ◌||◌, if◌then◌else◌, List, [], ◌∷◌, length, Option, Some, None, slice_get, refl, sym, ap, ◌∙◌, subst, inl, inr, arith}
use Rattle.std.specs.Prelude.{◌==◌, nat_lt}
use Rattle.std.specs.List.{list_all}
use Rattle.std.proofs.lemmas.Bool.{false≢true, and_parts, lt-ltb}
use Rattle.std.proofs.lemmas.Bool.Decides.{Decides-eqb}
use Rattle.wp_base.specs.declared.kinds.CellKind.{CellKind}
use Rattle.wp_base.specs.declared.kinds.CellKind.TheVariants as cell
use Rattle.wp_base.specs.Blocks.{Table, is_cell}
use Rattle.c_kinds.specs.Models.{holds}
use Rattle.qed_terms.specs.Operators.{is_equal}
use Rattle.c_runs.specs.TruthStates.{Value, number}
use Rattle.c_runs.specs.Program.{Variable, Facts}
use Rattle.c_runs.specs.States.{Memory, World, Local, plain, with_local, with_memory, stored_in, with_cell, global_home, plain_globals}
use Rattle.c_runs.specs.States as states
use Rattle.c_runs.specs.Scopes.{scalar_of}
use Rattle.c_runs.specs.Entry.{is_value, is_placed, is_home, leads_well}
use Rattle.c_runs.specs.CoreRun.{CoreWorld, in_world, with_temp}
use Rattle.plain_states.specs.Slots.{State, at, value_slot, flag_slot, local_value, local_flag, result_slot, temp_slot, with_variable}
use Rattle.plain_states.specs.Slots as slots
use Rattle.plain_states.specs.Scopes.{is_integer, kind_of}
use Rattle.plain_states.proofs.Lists.{put_here, put_elsewhere, put_length, value_before, flag_before, set_value, set_flag, set_other, set_behind, set_length}
use Rattle.plain_states.proofs.Scoping.{found_below}
use Rattle.plain_states.proofs.Calling.{some_same}
use Rattle.plain_states.proofs.Entering.{when_true}
use Rattle.plain_states.proofs.Puts.{at_is, cell_is}
use Rattle.goal_segments.specs.Told.{IsGood, Shape, sizes}
use Rattle.goal_segments.proofs.Told.{no_negative, home_is, all_plain}
use Rattle.program_steps.specs.Temporaries.{Temporaries}
use Rattle.program_steps.specs.Standing.{LocalIs, TempIs, StandsFor}
use Rattle.program_steps.proofs.Standing.{of_file}

module _ (p : Facts) (s : Shape) (globals : list_all is_integer p.globals ≡ true) (integers : list_all is_integer s.variables ≡ true) where
  abbrev pub all : ℕ
  all = (sizes p s).globals + (sizes p s).locals

  -- ---- what is used

  -- fewer temporaries are used
  pub used_less : {t0 : Table} (i : ℕ → Bool) (f g : Temporaries) (c : CoreWorld) (st : State) → ((n : ℕ) → g n ≡ true → f n ≡ true) → StandsFor p s t0 i f c st → StandsFor p s t0 i g c st
  used_less i f g c st less stands = record {
    size = stands.size;
    good = stands.good;
    blocks = stands.blocks;
    globals = stands.globals;
    locals = stands.locals;
    temporaries = λ n l e. stands.temporaries n l (less n e);
    unscoped = stands.unscoped;
  }

  -- ---- a temporary

  apart : (x j : ℕ) → x < all → slots.double all ≤ j → (value_slot x ≡ j → ⊥) × (flag_slot x ≡ j → ⊥)
  apart x j l b =
      let h = value_before x all l in
      let k = flag_before x all l in
      ((λ e. omega (arith, e, h, b)), (λ e. omega (arith, e, k, b)))

  module _ {t0 : Table} (i : ℕ → Bool) (f : Temporaries) (c : CoreWorld) (st : State) (stands : StandsFor p s t0 i f c st) where
    -- a slot behind those of variables, which is no temporary's that is used
    pub slot_set : (g : Temporaries) (k : ℕ) (z : ℤ) → slots.double all ≤ k → ((j : ℕ) → g j ≡ true → f j ≡ true) → ((j : ℕ) → g j ≡ true → k ≡ temp_slot (sizes p s) j → ⊥)
        → StandsFor p s t0 i g c (slots.put st k z)
    slot_set g k z behind less unused = record {
      size = put_length st k z ∙ stands.size;
      good = stands.good;
      blocks = stands.blocks;
      globals = λ x v e. stands.globals x v e ∙ ap number (sym (put_elsewhere (pos 0) st k (value_slot x) z
          (λ r. (apart x k (let l = found_below p.globals x v e in omega (arith, l)) behind).0 (sym r))));
      locals = local;
      temporaries = λ j l e. let t = stands.temporaries j l (less j e) in
          let same = put_elsewhere (pos 0) st k (temp_slot (sizes p s) j) z (unused j e) in
          record { same = t.same ∙ ap number (sym same); fits = ap (holds p.model (s.temp_kind j)) same ∙ t.fits };
      unscoped = unscoped;
    }
      where
        local_same : (x : ℕ) → x < length s.variables
            → (at (slots.put st k z) (local_value (sizes p s) x) ≡ at st (local_value (sizes p s) x)) × (at (slots.put st k z) (local_flag (sizes p s) x) ≡ at st (local_flag (sizes p s) x))
        local_same x l = let d = apart ((sizes p s).globals + x) k (omega (arith, l)) behind in (
          put_elsewhere (pos 0) st k (local_value (sizes p s) x) z (λ r. d.0 (sym r)),
          put_elsewhere (pos 0) st k (local_flag (sizes p s) x) z (λ r. d.1 (sym r)),
        )

        local : (x : ℕ) (v : Variable) → slice_get s.variables x ≡ Some v
            → LocalIs p v (c.world.locals x) (at (slots.put st k z) (local_value (sizes p s) x)) (at (slots.put st k z) (local_flag (sizes p s) x))
        local x v e = let same = local_same x (found_below s.variables x v e) in
            subst (λ a. LocalIs p v (c.world.locals x) a (at (slots.put st k z) (local_flag (sizes p s) x))) (sym same.0)
            (subst (LocalIs p v (c.world.locals x) (at st (local_value (sizes p s) x))) (sym same.1) (stands.locals x v e))

        unscoped : (x : ℕ) → x < length s.variables → i x ≡ false
            → (at (slots.put st k z) (local_value (sizes p s) x) ≡ pos 0) × (at (slots.put st k z) (local_flag (sizes p s) x) ≡ pos 0)
        unscoped x l e = let same = local_same x l in let h = stands.unscoped x l e in (same.0 ∙ h.0, same.1 ∙ h.1)

    -- it is set in the world too
    pub temp_set : (g : Temporaries) (n : ℕ) (v : Value) (z : ℤ) → n < s.temporaries → ((j : ℕ) → (n ≡ j → ⊥) → g j ≡ true → f j ≡ true)
        → v ≡ number z → holds p.model (s.temp_kind n) z ≡ true → StandsFor p s t0 i g (with_temp n v c) (slots.put st (temp_slot (sizes p s) n) z)
    temp_set g n v z below less is fits = record {
      size = slot.size;
      good = slot.good;
      blocks = slot.blocks;
      globals = slot.globals;
      locals = slot.locals;
      temporaries = temporary;
      unscoped = slot.unscoped;
    }
      where
        none : Temporaries
        none j = false

        slot : StandsFor p s t0 i none c (slots.put st (temp_slot (sizes p s) n) z)
        slot = slot_set none (temp_slot (sizes p s) n) z (omega arith) (λ j e. absurd (false≢true e)) (λ j e. absurd (false≢true e))

        temporary : (j : ℕ) → j < s.temporaries → g j ≡ true → TempIs p s j (states.at n v c.temps j) (at (slots.put st (temp_slot (sizes p s) n) z) (temp_slot (sizes p s) j))
        temporary j l e = by (n == j) refl where
          there : at (slots.put st (temp_slot (sizes p s) n) z) (temp_slot (sizes p s) n) ≡ z
          there = put_here (pos 0) st (temp_slot (sizes p s) n) z (let q = stands.size in omega (arith, q, below))

          by : (b : Bool) → (n == j) ≡ b → TempIs p s j (if b then v else c.temps j) (at (slots.put st (temp_slot (sizes p s) n) z) (temp_slot (sizes p s) j))
          by true q = let same = (Decides-eqb n j).0 q in
              subst (λ j. TempIs p s j v (at (slots.put st (temp_slot (sizes p s) n) z) (temp_slot (sizes p s) j))) same
              (record { same = is ∙ ap number (sym there); fits = ap (holds p.model (s.temp_kind n)) there ∙ fits })
          by false q =
              let differ = λ (k : n ≡ j). false≢true (sym q ∙ (Decides-eqb n j).1 k) in
              let t = stands.temporaries j l (less j differ e) in
              let same = put_elsewhere (pos 0) st (temp_slot (sizes p s) n) (temp_slot (sizes p s) j) z (λ k. differ (omega (arith, k))) in
              record { same = t.same ∙ ap number (sym same); fits = ap (holds p.model (s.temp_kind j)) same ∙ t.fits }

    -- ---- a variable of the function

    big : slots.double all ≤ length st
    big = let q = stands.size in omega (arith, q)

    -- the world may have other contents left; afterwards these are in scope
    pub local_put : (g : ℕ → Bool) (x : ℕ) (y : Variable) → slice_get s.variables x ≡ Some y → (b : Bool) (z a : ℤ) → is_equal (pos 1) a ≡ b → ((a ≡ pos 0) ⊎ (a ≡ pos 1))
        → ((y.has_value || b) ≡ true → holds p.model (kind_of y) z ≡ true)
        → ((k : ℕ) → g k ≡ false → (x ≡ k → (z ≡ pos 0) × (a ≡ pos 0)) × ((x ≡ k → ⊥) → i k ≡ false)) → (contents : List Value)
        → StandsFor p s t0 g f (in_world c (with_local x (plain (number z) b) (record c.world { contents = contents }))) (with_variable ((sizes p s).globals + x) z a st)
    local_put g x y found b z a flag is_flag fits scoping contents = record {
      size = set_length ((sizes p s).globals + x) z a st ∙ stands.size;
      good = stands.good;
      blocks = stands.blocks;
      globals = λ k v e. stands.globals k v e ∙ ap number (sym (set_other ((sizes p s).globals + x) k z a st (λ q. let l = found_below p.globals k v e in omega (arith, l, q))).0);
      locals = local;
      temporaries = λ j l e. let t = stands.temporaries j l e in
          let same = set_behind ((sizes p s).globals + x) all (temp_slot (sizes p s) j) z a st in_all (omega arith) in
          record { same = t.same ∙ ap number (sym same); fits = ap (holds p.model (s.temp_kind j)) same ∙ t.fits };
      unscoped = unscoped;
    }
      where
        in_all : (sizes p s).globals + x < all
        in_all = let l = found_below s.variables x y found in omega (arith, l)

        unscoped : (k : ℕ) → k < length s.variables → g k ≡ false
            → (at (with_variable ((sizes p s).globals + x) z a st) (local_value (sizes p s) k) ≡ pos 0) × (at (with_variable ((sizes p s).globals + x) z a st) (local_flag (sizes p s) k) ≡ pos 0)
        unscoped k l e = by (x == k) refl where
          by : (t : Bool) → (x == k) ≡ t
              → (at (with_variable ((sizes p s).globals + x) z a st) (local_value (sizes p s) k) ≡ pos 0) × (at (with_variable ((sizes p s).globals + x) z a st) (local_flag (sizes p s) k) ≡ pos 0)
          by true q =
              let same = (Decides-eqb x k).0 q in
              let zeros = (scoping k e).0 same in (
                ap (λ k. at (with_variable ((sizes p s).globals + x) z a st) (local_value (sizes p s) k)) (sym same) ∙ set_value ((sizes p s).globals + x) all z a st in_all big ∙ zeros.0,
                ap (λ k. at (with_variable ((sizes p s).globals + x) z a st) (local_flag (sizes p s) k)) (sym same) ∙ set_flag ((sizes p s).globals + x) all z a st in_all big ∙ zeros.1,
              )
          by false q =
              let differ = λ (r : x ≡ k). false≢true (sym q ∙ (Decides-eqb x k).1 r) in
              let d = set_other ((sizes p s).globals + x) ((sizes p s).globals + k) z a st (λ r. differ (omega (arith, r))) in
              let h = stands.unscoped k l ((scoping k e).1 differ) in
              (d.0 ∙ h.0, d.1 ∙ h.1)

        after : State
        after = with_variable ((sizes p s).globals + x) z a st

        local : (k : ℕ) (v : Variable) → slice_get s.variables k ≡ Some v
            → LocalIs p v (states.at x (plain (number z) b) c.world.locals k) (at after (local_value (sizes p s) k)) (at after (local_flag (sizes p s) k))
        local k v e = by (x == k) refl where
          value_is : at after (local_value (sizes p s) x) ≡ z
          value_is = set_value ((sizes p s).globals + x) all z a st in_all big

          flag_is : at after (local_flag (sizes p s) x) ≡ a
          flag_is = set_flag ((sizes p s).globals + x) all z a st in_all big

          one : v ≡ y → LocalIs p v (plain (number z) b) z a
          one same = record {
            same = ap (plain (number z)) (sym flag);
            is_flag = is_flag;
            fits = λ h. ap (λ v. holds p.model (kind_of v) z) same ∙ fits (sym (ap (λ v. v.has_value || is_equal (pos 1) a) same ∙ ap (λ t. y.has_value || t) flag) ∙ h);
          }

          by : (t : Bool) → (x == k) ≡ t → LocalIs p v (if t then plain (number z) b else c.world.locals k) (at after (local_value (sizes p s) k)) (at after (local_flag (sizes p s) k))
          by true q = let same = (Decides-eqb x k).0 q in
              subst (λ k. LocalIs p v (plain (number z) b) (at after (local_value (sizes p s) k)) (at after (local_flag (sizes p s) k))) same
              (subst (λ w. LocalIs p v (plain (number z) b) w (at after (local_flag (sizes p s) x))) (sym value_is)
              (subst (LocalIs p v (plain (number z) b) z) (sym flag_is) (one (some_same v y (sym e ∙ ap (slice_get s.variables) (sym same) ∙ found)))))
          by false q =
              let differ = λ (r : x ≡ k). false≢true (sym q ∙ (Decides-eqb x k).1 r) in
              let d = set_other ((sizes p s).globals + x) ((sizes p s).globals + k) z a st (λ r. differ (omega (arith, r))) in
              subst (λ w. LocalIs p v (c.world.locals k) w (at after (local_flag (sizes p s) k))) (sym d.0)
              (subst (LocalIs p v (c.world.locals k) (at st (local_value (sizes p s) k))) (sym d.1) (stands.locals k v e))

    -- one that is in scope
    pub local_set : (x : ℕ) (y : Variable) → slice_get s.variables x ≡ Some y → i x ≡ true → (b : Bool) (z a : ℤ) → is_equal (pos 1) a ≡ b → ((a ≡ pos 0) ⊎ (a ≡ pos 1))
        → ((y.has_value || b) ≡ true → holds p.model (kind_of y) z ≡ true)
        → StandsFor p s t0 i f (in_world c (with_local x (plain (number z) b) c.world)) (with_variable ((sizes p s).globals + x) z a st)
    local_set x y found scoped b z a flag is_flag fits = local_put i x y found b z a flag is_flag fits
        (λ k e. (λ same. absurd (false≢true (sym e ∙ ap i (sym same) ∙ scoped)), λ differ. e)) c.world.contents

    -- ---- a variable of the file

    module _ (x : ℕ) (y : Variable) (found : slice_get p.globals x ≡ Some y) (z : ℤ) (fits : holds p.model (kind_of y) z ≡ true) where
      abbrev m : Memory
      m = c.world.memory

      abbrev pub after_store : Memory
      after_store = stored_in (negsuc x) (pos 0) (number z) c.world.memory

      elsewhere : (b o : ℤ) → (negsuc x ≡ b → pos 0 ≡ o → ⊥) → after_store.cells b o ≡ m.cells b o
      elsewhere b o miss = cell_is (negsuc x) (pos 0) b o (number z) m.cells (m.cells b o) (λ e d. absurd (miss e d)) (λ d. refl)

      there : after_store.cells (negsuc x) (pos 0) ≡ number z
      there = cell_is (negsuc x) (pos 0) (negsuc x) (pos 0) (number z) m.cells (number z) (λ e d. refl) (λ miss. absurd (miss refl refl))

      negative_same : (j : ℕ) → negsuc x ≡ negsuc j → x ≡ j
      negative_same j e = cc

      no_positive : (j : ℕ) → negsuc x ≡ pos j → ⊥
      no_positive j e = cc

      global_at : (k : ℕ) (v : Variable) → slice_get p.globals k ≡ Some v → is_placed p after_store (negsuc k) v ≡ true
      global_at k v e = by (x == k) refl where
        by : (t : Bool) → (x == k) ≡ t → is_placed p after_store (negsuc k) v ≡ true
        by true q =
            let same = (Decides-eqb x k).0 q in
            let who = some_same y v (sym found ∙ ap (slice_get p.globals) same ∙ e) in
            let parts = of_file p s globals integers k v e in
            when_true v.is_plain _ _ parts.0
            ∙ ap (λ k. is_value p m.blocks (scalar_of v.layout.cells) (after_store.cells (negsuc k) (pos 0))) (sym same)
            ∙ ap (is_value p m.blocks (scalar_of v.layout.cells)) there
            ∙ ap (λ k. is_value p m.blocks k (number z)) parts.1
            ∙ ap (λ v. holds p.model (kind_of v) z) (sym who) ∙ fits
        by false q =
            let differ = λ (r : x ≡ k). false≢true (sym q ∙ (Decides-eqb x k).1 r) in
            let parts = of_file p s globals integers k v e in
            when_true v.is_plain _ _ parts.0
            ∙ ap (is_value p m.blocks (scalar_of v.layout.cells)) (elsewhere (negsuc k) (pos 0) (λ r d. differ (negative_same k r)))
            ∙ sym (when_true v.is_plain _ _ parts.0)
            ∙ subst (λ b. is_placed p m b v ≡ true) (home_is p globals k v e) (stands.good.well.globals k v e)

      cell_at : (k : CellKind) (b o : ℤ) → is_cell k m.blocks b o ≡ true → is_value p m.blocks k (after_store.cells b o) ≡ true
      cell_at k (pos j) o h = ap (is_value p m.blocks k) (elsewhere (pos j) o (λ e d. no_positive j e)) ∙ stands.good.well.cells k (pos j) o h
      cell_at k (negsuc j) o h = absurd (no_negative k m.blocks j o h)

      is_home_of : is_home p (negsuc x) (pos 0) ≡ true
      is_home_of = ap (λ n. nat_lt x n && true) (all_plain p.globals globals) ∙ ap (λ t. t && true) (lt-ltb x (length p.globals) (found_below p.globals x y found))

      nothing_at : (b o : ℤ) → is_home p b o ≡ false → ((k : CellKind) → is_cell k m.blocks b o ≡ false) → after_store.cells b o ≡ number (pos 0)
      nothing_at b o out none = elsewhere b o (λ e d. false≢true (sym out ∙ (λ j. is_home p ((sym e) j) ((sym d) j)) ∙ is_home_of)) ∙ stands.good.well.elsewhere b o out none

      pointer_at : (b o : ℤ) → leads_well (after_store.cells b o) ≡ true
      pointer_at b o = by (is_equal (negsuc x) b && is_equal (pos 0) o) where
        by : (t : Bool) → leads_well (if t then number z else m.cells b o) ≡ true
        by true = refl
        by false = stands.good.pointers b o

      pub good_store : IsGood p after_store
      good_store = record {
        well = record {
          globals = λ k v e. subst (λ b. is_placed p after_store b v ≡ true) (sym (home_is p globals k v e)) (global_at k v e);
          cells = cell_at;
          elsewhere = nothing_at;
          short = stands.good.well.short;
        };
        pointers = pointer_at;
      }

      in_file : x < all
      in_file = let l = found_below p.globals x y found in omega (arith, l)

      pub global_set : StandsFor p s t0 i f (in_world c (with_memory (stored_in (negsuc x) (pos 0) (number z) c.world.memory) c.world)) (with_variable x z (pos 1) st)
      global_set = record {
        size = set_length x z (pos 1) st ∙ stands.size;
        good = good_store;
        blocks = stands.blocks;
        globals = value_at;
        locals = λ k v e. let l = found_below p.globals x y found in
            let d = set_other x ((sizes p s).globals + k) z (pos 1) st (λ r. omega (arith, l, r)) in
            subst (λ w. LocalIs p v (c.world.locals k) w (at (with_variable x z (pos 1) st) (local_flag (sizes p s) k))) (sym d.0)
            (subst (LocalIs p v (c.world.locals k) (at st (local_value (sizes p s) k))) (sym d.1) (stands.locals k v e));
        temporaries = λ j l e. let t = stands.temporaries j l e in
            let same = set_behind x all (temp_slot (sizes p s) j) z (pos 1) st in_file (omega arith) in
            record { same = t.same ∙ ap number (sym same); fits = ap (holds p.model (s.temp_kind j)) same ∙ t.fits };
        unscoped = λ k l e. let b = found_below p.globals x y found in
            let d = set_other x ((sizes p s).globals + k) z (pos 1) st (λ r. omega (arith, b, r)) in
            let h = stands.unscoped k l e in (d.0 ∙ h.0, d.1 ∙ h.1);
      }
        where
          value_at : (k : ℕ) (v : Variable) → slice_get p.globals k ≡ Some v → after_store.cells (negsuc k) (pos 0) ≡ number (at (with_variable x z (pos 1) st) (value_slot k))
          value_at k v e = by (x == k) refl where
            by : (t : Bool) → (x == k) ≡ t → after_store.cells (negsuc k) (pos 0) ≡ number (at (with_variable x z (pos 1) st) (value_slot k))
            by true q = let same = (Decides-eqb x k).0 q in
                subst (λ k. after_store.cells (negsuc k) (pos 0) ≡ number (at (with_variable x z (pos 1) st) (value_slot k))) same
                (there ∙ ap number (sym (set_value x all z (pos 1) st in_file big)))
            by false q =
                let differ = λ (r : x ≡ k). false≢true (sym q ∙ (Decides-eqb x k).1 r) in
                elsewhere (negsuc k) (pos 0) (λ r d. differ (negative_same k r)) ∙ stands.globals k v e ∙ ap number (sym (set_other x k z (pos 1) st differ).0)
