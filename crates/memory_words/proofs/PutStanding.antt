-- Slots go on standing for a world: where they hold the same at each place that counts, and where a temporary or a plain variable is put in both.
use Rattle.std.proofs.Common.{◌≡◌, ℕ, ◌<◌, Bool, true, false, if◌then◌else◌, Some, slice_get, refl, sym, ap, ◌∙◌, subst}
use Rattle.std.specs.Prelude.{◌==◌}
use Rattle.std.proofs.lemmas.Bool.{false≢true}
use Rattle.std.proofs.lemmas.Bool.Decides.{Decides-eqb}
use Rattle.wp_base.specs.declared.kinds.CellKind.{CellKind}
use Rattle.wp_base.specs.Blocks.{Table, has_layout}
use Rattle.typed_prog.specs.declared.operators.Variable.TheVariants as variables
use Rattle.c_runs.specs.Told.{Value}
use Rattle.c_runs.specs.Program.{Variable, Facts}
use Rattle.c_runs.specs.States.{Local, home, at}
use Rattle.goal_segments.specs.Segments.{SameBlocks}
use Rattle.memory_steps.specs.State.{State, number}
use Rattle.memory_words.specs.Places.{Place, value, offset, flag, temporary, temporary_offset, numbers, blocks, offsets, Sizes, held, number_in, number_at}
use Rattle.std.proofs.lemmas.Option.{same_Some}
use Rattle.memory_words.proofs.Lists.{found_below}
use Rattle.memory_words.specs.Shapes.{sizes, kind_of}
use Rattle.memory_words.specs.Standing.{IsHeldAs, LocalIs, TempIs, NumbersAre, PointersAre}
use Rattle.memory_words.specs.PutLaws.{SlotsGoOn, TemporariesArePut, LocalsArePut}

module _ (z : Sizes) (old new : State) where
  -- two places that hold the same
  pub two_same : (k : CellKind) (v : Value) (a b : Place) → held z new a ≡ held z old a → held z new b ≡ held z old b
      → IsHeldAs k v (number_at z old a) (number_at z old b) → IsHeldAs k v (number_at z new a) (number_at z new b)
  two_same k v a b first second is =
      subst (λ d. IsHeldAs k v (number_in d) (number_at z new b)) (sym first) (subst (λ d. IsHeldAs k v (number_at z old a) (number_in d)) (sym second) is)

  pub temp_same : (p : Facts) (t : Table) (k : CellKind) (v : Value) (a b : Place) → held z new a ≡ held z old a → held z new b ≡ held z old b
      → TempIs p t k v (number_at z old a) (number_at z old b) → TempIs p t k v (number_at z new a) (number_at z new b)
  temp_same p t k v a b first second h = record { is = two_same k v a b first second h.is; fits = h.fits }

  pub local_same : (p : Facts) (t : Table) (v : Variable) (l : Local) (a b c : Place) → held z new a ≡ held z old a → held z new b ≡ held z old b → held z new c ≡ held z old c
      → LocalIs p t v l (number_at z old a) (number_at z old b) (number_at z old c) → LocalIs p t v l (number_at z new a) (number_at z new b) (number_at z new c)
  local_same p t v l a b c first second third h =
      subst (λ d. LocalIs p t v l (number_at z new a) (number_at z new b) (number_in d)) (sym third)
      (subst (λ d. LocalIs p t v l (number_at z new a) (number_in d) (number_at z old c)) (sym second)
      (subst (λ d. LocalIs p t v l (number_in d) (number_at z old b) (number_at z old c)) (sym first) h))

local_parts : {x y : ℕ} → variables.Local x ≡ variables.Local y → x ≡ y
local_parts e = cc

no_global : {x y : ℕ} → variables.Local x ≡ variables.Global y → ⊥
no_global e = cc

pub slots_go_on : SlotsGoOn
slots_go_on p s cells fr f c st stands g less new keeps = record {
  size = keeps.size;
  sorted = λ a there off. keeps.sorted a there (stands.sorted a there off);
  good = stands.good;
  blocks_are = stands.blocks_are;
  table_is = λ h. keeps.table ∙ stands.table_is h;
  numbers_are = λ k h. subst (NumbersAre c.world.memory k) (sym (keeps.same (numbers k) tt refl (λ b. b))) (stands.numbers_are k h);
  pointers_are = λ h. subst (λ d. PointersAre c.world.memory d (held (sizes p s) new offsets)) (sym (keeps.same blocks tt refl (λ b. b)))
      (subst (PointersAre c.world.memory (held (sizes p s) st blocks)) (sym (keeps.same offsets tt refl (λ b. b))) (stands.pointers_are h));
  globals = λ x v e plain. let l = found_below p.globals x v e in
      two_same (sizes p s) st new (kind_of v) _ (value (variables.Global x)) (offset (variables.Global x)) (keeps.same (value (variables.Global x)) l refl (λ b. b))
      (keeps.same (offset (variables.Global x)) l refl (λ b. b)) (stands.globals x v e plain);
  locals = λ x v e plain scoped. let l = found_below s.variables x v e in
      local_same (sizes p s) st new p c.world.memory.blocks v (c.world.locals x) (value (variables.Local x)) (offset (variables.Local x)) (flag (variables.Local x))
      (keeps.same (value (variables.Local x)) l refl (λ b. b)) (keeps.same (offset (variables.Local x)) l refl (λ b. b))
      (keeps.same (flag (variables.Local x)) l refl (λ b. b)) (stands.locals x v e plain scoped);
  homes = λ x v e plain scoped. let h = stands.homes x v e plain scoped in
      (h.0, keeps.same (value (variables.Local x)) (found_below s.variables x v e) refl (λ b. b) ∙ h.1);
  living = stands.living;
  temporaries = λ n l used.
      temp_same (sizes p s) st new p c.world.memory.blocks (s.temp_kind n) (c.temps n) (temporary n) (temporary_offset n) (keeps.same (temporary n) l used (λ b. b))
      (keeps.same (temporary_offset n) l used (λ b. b)) (stands.temporaries n l (less n used));
  unscoped = λ x l out. let h = stands.unscoped x l out in (
    h.0,
    keeps.same (value (variables.Local x)) l refl (λ b. b) ∙ h.1,
    keeps.same (offset (variables.Local x)) l refl (λ b. b) ∙ h.2,
    keeps.same (flag (variables.Local x)) l refl (λ b. b) ∙ h.3,
  );
}

pub temporaries_are_put : TemporariesArePut
temporaries_are_put p s cells fr f c st stands g n less v fits new keeps is = record {
  size = keeps.size;
  sorted = λ a there off. keeps.sorted a there (stands.sorted a there off);
  good = stands.good;
  blocks_are = stands.blocks_are;
  table_is = λ h. keeps.table ∙ stands.table_is h;
  numbers_are = λ k h. subst (NumbersAre c.world.memory k) (sym (keeps.same (numbers k) tt refl (λ b. b))) (stands.numbers_are k h);
  pointers_are = λ h. subst (λ d. PointersAre c.world.memory d (held (sizes p s) new offsets)) (sym (keeps.same blocks tt refl (λ b. b)))
      (subst (PointersAre c.world.memory (held (sizes p s) st blocks)) (sym (keeps.same offsets tt refl (λ b. b))) (stands.pointers_are h));
  globals = λ x v e plain. let l = found_below p.globals x v e in
      two_same (sizes p s) st new (kind_of v) _ (value (variables.Global x)) (offset (variables.Global x)) (keeps.same (value (variables.Global x)) l refl (λ b. b))
      (keeps.same (offset (variables.Global x)) l refl (λ b. b)) (stands.globals x v e plain);
  locals = λ x v e plain scoped. let l = found_below s.variables x v e in
      local_same (sizes p s) st new p c.world.memory.blocks v (c.world.locals x) (value (variables.Local x)) (offset (variables.Local x)) (flag (variables.Local x))
      (keeps.same (value (variables.Local x)) l refl (λ b. b)) (keeps.same (offset (variables.Local x)) l refl (λ b. b))
      (keeps.same (flag (variables.Local x)) l refl (λ b. b)) (stands.locals x v e plain scoped);
  homes = λ x v e plain scoped. let h = stands.homes x v e plain scoped in
      (h.0, keeps.same (value (variables.Local x)) (found_below s.variables x v e) refl (λ b. b) ∙ h.1);
  living = stands.living;
  temporaries = temps;
  unscoped = λ x l out. let h = stands.unscoped x l out in (
    h.0,
    keeps.same (value (variables.Local x)) l refl (λ b. b) ∙ h.1,
    keeps.same (offset (variables.Local x)) l refl (λ b. b) ∙ h.2,
    keeps.same (flag (variables.Local x)) l refl (λ b. b) ∙ h.3,
  );
}
  where
    temps : (j : ℕ) → j < s.temporaries → g j ≡ true
        → TempIs p c.world.memory.blocks (s.temp_kind j) (at n v c.temps j) (number_at (sizes p s) new (temporary j)) (number_at (sizes p s) new (temporary_offset j))
    temps j l used = by (n == j) refl where
      by : (t : Bool) → (n == j) ≡ t
          → TempIs p c.world.memory.blocks (s.temp_kind j) (if t then v else c.temps j) (number_at (sizes p s) new (temporary j)) (number_at (sizes p s) new (temporary_offset j))
      by true q =
          subst (λ j. TempIs p c.world.memory.blocks (s.temp_kind j) v (number_at (sizes p s) new (temporary j)) (number_at (sizes p s) new (temporary_offset j)))
          ((Decides-eqb n j).0 q) (record { is = is; fits = fits })
      by false q =
          let differ = λ (r : n ≡ j). false≢true (sym q ∙ (Decides-eqb n j).1 r) in
          temp_same (sizes p s) st new p c.world.memory.blocks (s.temp_kind j) (c.temps j) (temporary j) (temporary_offset j) (keeps.same (temporary j) l used differ)
          (keeps.same (temporary_offset j) l used differ) (stands.temporaries j l (less j differ used))

pub locals_are_put : LocalsArePut
locals_are_put p s cells fr f c st stands x y found plain_y behind scope l contents new keeps is = record {
  size = keeps.size;
  sorted = λ a there off. keeps.sorted a there (stands.sorted a there off);
  good = stands.good;
  blocks_are = subst (λ t. SameBlocks t c.world.memory.blocks) (sym scope.table) stands.blocks_are;
  table_is = λ h. keeps.table ∙ stands.table_is h;
  numbers_are = λ k h. subst (NumbersAre c.world.memory k) (sym (keeps.same (numbers k) tt refl (λ b. b))) (stands.numbers_are k h);
  pointers_are = λ h. subst (λ d. PointersAre c.world.memory d (held (sizes p s) new offsets)) (sym (keeps.same blocks tt refl (λ b. b)))
      (subst (PointersAre c.world.memory (held (sizes p s) st blocks)) (sym (keeps.same offsets tt refl (λ b. b))) (stands.pointers_are h));
  globals = λ k v e plain. let b = found_below p.globals k v e in
      two_same (sizes p s) st new (kind_of v) _ (value (variables.Global k)) (offset (variables.Global k)) (keeps.same (value (variables.Global k)) b refl no_global)
      (keeps.same (offset (variables.Global k)) b refl no_global) (stands.globals k v e plain);
  locals = local;
  homes = λ k v e plain scoped.
      let differ = other k v e plain in
      let h = stands.homes k v e plain (sym (scope.scope k differ) ∙ scoped) in (
        at_other k differ ∙ h.0 ∙ ap home (sym (scope.homes k)),
        keeps.same (value (variables.Local k)) (found_below s.variables k v e) refl (λ b. differ (local_parts b)) ∙ h.1 ∙ ap number (sym (scope.homes k)),
      );
  living = λ k v e plain scoped lives.
      let differ = other k v e plain in
      subst (λ t. has_layout t (behind.homes k) v.layout ≡ true) (sym scope.table)
      (subst (λ b. has_layout fr.table b v.layout ≡ true) (sym (scope.homes k))
      (stands.living k v e plain (sym (scope.scope k differ) ∙ scoped) (scope.lives k differ lives)));
  temporaries = λ n b used.
      temp_same (sizes p s) st new p c.world.memory.blocks (s.temp_kind n) (c.temps n) (temporary n) (temporary_offset n) (keeps.same (temporary n) b used (λ b. b))
      (keeps.same (temporary_offset n) b used (λ b. b)) (stands.temporaries n b used);
  unscoped = λ k b out.
      let differ = λ (r : x ≡ k). false≢true (sym out ∙ ap behind.in_scope (sym r) ∙ scope.now) in
      let h = stands.unscoped k b (sym (scope.scope k differ) ∙ out) in (
        at_other k differ ∙ h.0,
        keeps.same (value (variables.Local k)) b refl (λ b. differ (local_parts b)) ∙ h.1,
        keeps.same (offset (variables.Local k)) b refl (λ b. differ (local_parts b)) ∙ h.2,
        keeps.same (flag (variables.Local k)) b refl (λ b. differ (local_parts b)) ∙ h.3,
      );
}
  where
    at_other : (k : ℕ) → (x ≡ k → ⊥) → at x l c.world.locals k ≡ c.world.locals k
    at_other k differ = by (x == k) refl where
      by : (t : Bool) → (x == k) ≡ t → (if t then l else c.world.locals k) ≡ c.world.locals k
      by true q = absurd (differ ((Decides-eqb x k).0 q))
      by false q = refl

    other : (k : ℕ) (v : Variable) → slice_get s.variables k ≡ Some v → v.is_plain ≡ false → x ≡ k → ⊥
    other k v e plain r = false≢true (sym plain ∙ ap (λ (v : Variable). v.is_plain) (same_Some v y (sym e ∙ ap (slice_get s.variables) (sym r) ∙ found)) ∙ plain_y)

    local : (k : ℕ) (v : Variable) → slice_get s.variables k ≡ Some v → v.is_plain ≡ true → behind.in_scope k ≡ true
        → LocalIs p c.world.memory.blocks v (at x l c.world.locals k) (number_at (sizes p s) new (value (variables.Local k))) (number_at (sizes p s) new (offset (variables.Local k)))
        (number_at (sizes p s) new (flag (variables.Local k)))
    local k v e plain scoped = by (x == k) refl where
      by : (t : Bool) → (x == k) ≡ t
          → LocalIs p c.world.memory.blocks v (if t then l else c.world.locals k) (number_at (sizes p s) new (value (variables.Local k)))
          (number_at (sizes p s) new (offset (variables.Local k))) (number_at (sizes p s) new (flag (variables.Local k)))
      by true q =
          let same = (Decides-eqb x k).0 q in
          subst (λ k. LocalIs p c.world.memory.blocks v l (number_at (sizes p s) new (value (variables.Local k))) (number_at (sizes p s) new (offset (variables.Local k)))
          (number_at (sizes p s) new (flag (variables.Local k)))) same
          (subst (λ v. LocalIs p c.world.memory.blocks v l (number_at (sizes p s) new (value (variables.Local x))) (number_at (sizes p s) new (offset (variables.Local x)))
          (number_at (sizes p s) new (flag (variables.Local x)))) (same_Some y v (sym found ∙ ap (slice_get s.variables) same ∙ e)) is)
      by false q =
          let differ = λ (r : x ≡ k). false≢true (sym q ∙ (Decides-eqb x k).1 r) in
          let b = found_below s.variables k v e in
          local_same (sizes p s) st new p c.world.memory.blocks v (c.world.locals k) (value (variables.Local k)) (offset (variables.Local k)) (flag (variables.Local k))
          (keeps.same (value (variables.Local k)) b refl (λ b. differ (local_parts b))) (keeps.same (offset (variables.Local k)) b refl (λ b. differ (local_parts b)))
          (keeps.same (flag (variables.Local k)) b refl (λ b. differ (local_parts b))) (stands.locals k v e plain (sym (scope.scope k differ) ∙ scoped))
