-- The worlds at the head of a loop are those that its turns come to.
use Rattle.std.proofs.Common.{◌≡◌, ◌⊎◌, ℕ, ◌<◌, ◌≤◌, ℤ, pos, negsuc, Bool, true, false, ◌&&◌, List, ◌∷◌, length, Option, Some, None, slice_get, refl, sym, ap, ◌∙◌, subst, inl, inr, arith}
use Rattle.std.specs.Prelude.{nat_lt}
use Rattle.std.proofs.lemmas.Bool.{false≢true, and_parts, ltb-true, ltb-false, lt-ltb}
use Rattle.std.proofs.lemmas.Option.{none-some}
use Rattle.wp_base.specs.declared.kinds.CellKind.{CellKind}
use Rattle.wp_base.specs.declared.kinds.CellKind.TheVariants as cell
use Rattle.wp_base.specs.Blocks.{is_cell}
use Rattle.typed_prog.specs.declared.operators.Variable.TheVariants as variables
use Rattle.c_runs.specs.TruthTold.{is_zero}
use Rattle.qed_terms.specs.Meaning as sense
use Rattle.c_runs.specs.Program.{Variable, Contract, Loop, Facts}
use Rattle.c_runs.specs.States.{Here, Granted, global_home}
use Rattle.c_runs.specs.Claims.{may_change, granted_in}
use Rattle.c_runs.proofs.Numbers.{zero_when}
use Rattle.c_runs.specs.CoreRun.{CoreWorld}
use Rattle.c_runs.specs.Tree.{Steps}
use Rattle.goal_segments.specs.Segments.{SameBlocks, AtHead}
use Rattle.goal_segments.proofs.Told.{no_negative}
use Rattle.plain_runs.specs.Kept.{may_change_global}
use Rattle.typed_memories.specs.Cells.{lies_inside}
use Rattle.typed_memories.proofs.Tests.{on_test}
use Rattle.program_steps.specs.Temporaries.{Temporaries, no_temporaries, all_live}
use Rattle.memory_steps.specs.State.{State}
use Rattle.memory_steps.specs.Run.{End, goes_on, Seg}
use Rattle.memory_words.specs.Shapes.{FileCells, Shape}
use Rattle.memory_words.specs.Readings.{Texts}
use Rattle.memory_words.specs.Standing.{Frame, StandsFor, FileStands}
use Rattle.memory_words.specs.Points.{Point, later, uses_of}
use Rattle.memory_words.specs.Sets.{entry_at}
use Rattle.memory_words.specs.Placed.{Openings, all_told}
use Rattle.memory_calls.specs.Havoc.{Havoc, havoc_word}
use Rattle.memory_calls.specs.HavocLaws.{GoesOn, SameUntold, HavocIs}
use Rattle.memory_calls.proofs.Homes.{plain_at, cell_of_plain, plain_of_cell, home_of_cell}
use Rattle.memory_calls.proofs.Standing.{found_of}
use Rattle.memory_calls.proofs.Runs.{havoc_runs}
use Rattle.memory_calls.proofs.HavocStaying.{stays_mean}
use Rattle.memory_calls.specs.LoopSets.{lets_local}
use Rattle.memory_calls.proofs.Sites.{Site, HeadIs}
use Rattle.memory_calls.proofs.Sites as sites
use Rattle.memory_calls.proofs.LoopStaying.{may_both, first_false, second_false, one_false, assumed, then_since, set_by, CellsStay, GlobalsStay, AllStay, all_fit, all_forth, all_back}
use Rattle.memory_calls.proofs.Turning.{Turning, turning}
use Rattle.memory_calls.proofs.Turning as turn

file_of : (p : Facts) (s : Shape) (cells : FileCells) (fr : Frame) (used : Temporaries) (c : CoreWorld) (st : State) → StandsFor p s cells fr used c st → FileStands p s cells c.world.memory st
file_of p s cells fr used c st h = record { good = h.good; table_is = h.table_is; numbers_are = h.numbers_are; pointers_are = h.pointers_are; globals = h.globals }

module _ (m : sense.World) (p : Facts) (s : Shape) (cells : FileCells) (texts : Texts) (contract : Contract) (here : Here) (pt : Point) (olds : List State) (fr : Frame)
    (os : Openings) (l : Loop) (ss : Steps) (c : CoreWorld) (st : State) (site : Site m p s cells texts contract here pt olds fr os l ss c st) where
  t : Turning m p s cells texts contract here pt olds fr os l ss c st site
  t = turning m p s cells texts contract here pt olds fr os l ss c st site

  abbrev used : Temporaries
  used = all_live ss (uses_of pt.outs) no_temporaries

  abbrev h : Havoc
  h = turn.havoc m p s cells texts contract here pt olds fr os l ss c st site

  abbrev inside : Here
  inside = turn.inside m p s cells texts contract here pt olds fr os l ss c st site

  abbrev rest : List Granted
  rest = granted_in p (turn.at_entry m p s cells texts contract here pt olds fr os l ss c st site) t.blocks t.behaviors

  may_is : (k : CellKind) (b o : ℤ) → may_change inside.granted k b o ≡ (may_change t.firsts k b o && may_change rest k b o)
  may_is k b o = ap (λ gs. may_change gs k b o) t.granted ∙ may_both t.firsts rest k b o

  -- ---- havoc

  havoc_is : (n : ℕ) → HavocIs m p s cells h t.set fr used (st ∷ olds) n c st
  havoc_is n = havoc_runs m p s cells site.setting h t.set (st ∷ olds) t.leave fr (λ x on. site.placed.scope x ∙ site.fits.scoped x on) used n c st site.stands

  -- ---- what stays

  abbrev stays_told : State → Bool
  stays_told new = sites.stays_told m p s cells texts contract here pt olds fr l ss c st new

  abbrev StayAll : State → CoreWorld → Type 0
  StayAll new d = AllStay m p s cells texts contract here pt olds fr os l ss c st site new t.blocks t.counted d t.behaviors

  module _ (new : State) (d : CoreWorld) (there : StandsFor p s cells fr used d new) (same : SameBlocks c.world.memory.blocks d.world.memory.blocks) where
    stay_forth : StayAll new d → stays_told new ≡ true
    stay_forth all =
        ap (all_told m (new ∷ st ∷ olds)) t.stays
        ∙ (stays_mean m p s cells texts (entry_at p s cells texts (later pt.stands)) (assumed m p s cells texts contract here pt olds fr os l ss c st site new t.blocks t.counted)
        (then_since m p s cells texts contract here pt olds fr os l ss c st site new t.blocks t.counted) h
        (set_by m p s cells texts contract here pt olds fr os l ss c st site new t.blocks t.counted) new st olds c.world.memory d.world.memory
        (file_of p s cells fr used c st site.stands) (file_of p s cells fr used d new there) same t.behaviors
        (all_fit m p s cells texts contract here pt olds fr os l ss c st site new t.blocks t.counted d t.behaviors t.fit)).1 all

    stay_back : stays_told new ≡ true → StayAll new d
    stay_back told =
        (stays_mean m p s cells texts (entry_at p s cells texts (later pt.stands)) (assumed m p s cells texts contract here pt olds fr os l ss c st site new t.blocks t.counted)
        (then_since m p s cells texts contract here pt olds fr os l ss c st site new t.blocks t.counted) h
        (set_by m p s cells texts contract here pt olds fr os l ss c st site new t.blocks t.counted) new st olds c.world.memory d.world.memory
        (file_of p s cells fr used c st site.stands) (file_of p s cells fr used d new there) same t.behaviors
        (all_fit m p s cells texts contract here pt olds fr os l ss c st site new t.blocks t.counted d t.behaviors t.fit)).0
        (sym (ap (all_told m (new ∷ st ∷ olds)) t.stays) ∙ told)

  -- ---- forth

  module _ (d : CoreWorld) (at : AtHead p s.variables inside l ss c d) where
    first_stays : (k : CellKind) (b : ℕ) (o : ℤ) → is_cell k c.world.memory.blocks (pos b) o ≡ true → may_change t.firsts k (pos b) o ≡ false
        → d.world.memory.cells (pos b) o ≡ c.world.memory.cells (pos b) o
    first_stays k b o is off = at.cells k (pos b) o is (may_is k (pos b) o ∙ first_false (may_change t.firsts k (pos b) o) (may_change rest k (pos b) o) off)

    renewed_on : (k : CellKind) (b o : ℤ) → cells.has_kind k && h.kinds k ≡ true → is_cell k c.world.memory.blocks b o ≡ true → lies_inside (t.set k) b o ≡ false
        → d.world.memory.cells b o ≡ c.world.memory.cells b o
    renewed_on k (pos b) o both is lies = let x = and_parts (cells.has_kind k) (h.kinds k) both in first_stays k b o is (t.cells_are k x.0 x.1 b o ∙ lies)
    renewed_on k (negsuc b) o both is lies = absurd (no_negative k c.world.memory.blocks b o is)

    kept_on : (k : CellKind) (b o : ℤ) → cells.has_kind k ≡ true → h.kinds k ≡ false → is_cell k c.world.memory.blocks b o ≡ true
        → d.world.memory.cells b o ≡ c.world.memory.cells b o
    kept_on k (pos b) o has off is = first_stays k b o is (t.kept k has off b o is)
    kept_on k (negsuc b) o has off is = absurd (no_negative k c.world.memory.blocks b o is)

    global_stays : (x : ℕ) (v : Variable) → slice_get p.globals x ≡ Some v → v.is_plain ≡ true → may_change inside.granted cell.Ptr (global_home p x) (pos 0) ≡ false
        → d.world.memory.cells (global_home p x) (pos 0) ≡ c.world.memory.cells (global_home p x) (pos 0)
    global_stays x v e plain off =
        let i = cell_of_plain p x v e plain in
        subst (λ b. d.world.memory.cells b (pos 0) ≡ c.world.memory.cells b (pos 0)) (sym i.1)
        (at.hidden i.0 (pos 0) (ap (λ b. may_change inside.granted cell.Ptr b (pos 0)) (sym i.1) ∙ off))

    local_stays : (x : ℕ) (v : Variable) → slice_get s.variables x ≡ Some v → v.is_plain ≡ true → h.variables (variables.Local x) ≡ false → d.world.locals x ≡ c.world.locals x
    local_stays x v e plain off =
        on_test (nat_lt x l.declared)
        (λ below. at.locals x (t.lets x v e plain ∙ sym (ap (λ b. b && lets_local l ss x) below) ∙ off))
        (λ above. at.inner x (ltb-false x l.declared above))

    goes_on_there : GoesOn p s.variables cells h t.set used c d
    goes_on_there = record {
      good = at.good;
      blocks = at.blocks;
      renewed = renewed_on;
      kept = kept_on;
      globals = λ x v e plain off. global_stays x v e plain
          (may_is cell.Ptr (global_home p x) (pos 0)
          ∙ first_false (may_change t.firsts cell.Ptr (global_home p x) (pos 0)) (may_change rest cell.Ptr (global_home p x) (pos 0)) (t.globals_are x v e plain cell.Ptr ∙ off));
      locals = local_stays;
      changed = λ x v e plain on. let x' = and_parts (nat_lt x l.declared) (lets_local l ss x) on in
          at.plain x v e plain (ltb-true x l.declared x'.0) (t.lets x v e plain ∙ x'.1);
      homes = at.homes;
      temporaries = λ n uses. at.temporaries n (site.fits.temporaries n uses);
    }

    all_stay_there : (new : State) → StayAll new d
    all_stay_there new =
        all_forth m p s cells texts contract here pt olds fr os l ss c st site new t.blocks t.counted d t.behaviors t.fit
        (λ k has on i z is off. at.cells k (pos i) z is (may_is k (pos i) z ∙ second_false (may_change t.firsts k (pos i) z) (may_change rest k (pos i) z) off))
        (λ x v e plain on off. global_stays x v e plain
        (may_is cell.Ptr (global_home p x) (pos 0) ∙ second_false (may_change t.firsts cell.Ptr (global_home p x) (pos 0)) (may_change rest cell.Ptr (global_home p x) (pos 0)) off))

    forth : (n : ℕ) → (new : State) × Seg (st ∷ olds) n (havoc_word m p s cells h) st (goes_on new) × StandsFor p s cells fr used d new × (stays_told new ≡ true)
    forth n = let x = (havoc_is n).forth d goes_on_there in (x.0, x.1, x.2, stay_forth x.0 d x.2 at.blocks (all_stay_there x.0))

  -- ---- back

  module _ (d : CoreWorld) (on : GoesOn p s.variables cells h t.set used c d) (untold : SameUntold p s.variables cells c d) (new : State) (stay : StayAll new d) where
    by_behaviors : CellsStay m p s cells texts contract here pt olds fr os l ss c st site new t.blocks t.counted d h.kinds t.behaviors
        × GlobalsStay m p s cells texts contract here pt olds fr os l ss c st site new t.blocks t.counted d (λ x. h.variables (variables.Global x)) t.behaviors
    by_behaviors = all_back m p s cells texts contract here pt olds fr os l ss c st site new t.blocks t.counted d t.behaviors t.fit stay

    cell_stays : (k : CellKind) (b o : ℤ) → is_cell k c.world.memory.blocks b o ≡ true → may_change inside.granted k b o ≡ false → d.world.memory.cells b o ≡ c.world.memory.cells b o
    cell_stays k (negsuc b) o is off = absurd (no_negative k c.world.memory.blocks b o is)
    cell_stays k (pos b) o is off =
        on_test (cells.has_kind k)
        (λ has. on_test (h.kinds k)
        (λ renews. one_false (may_change t.firsts k (pos b) o) (may_change rest k (pos b) o) (sym (may_is k (pos b) o) ∙ off)
        (λ first. on.renewed k (pos b) o (λ i. has i && renews i) is (sym (t.cells_are k has renews b o) ∙ first))
        (λ second. by_behaviors.0 k has renews b o is second))
        (λ keeps. on.kept k (pos b) o has keeps is))
        (λ lacks. untold.kinds k (pos b) o lacks is)

    global_there : (x : ℕ) (v : Variable) → slice_get p.globals x ≡ Some v → v.is_plain ≡ true → may_change inside.granted cell.Ptr (global_home p x) (pos 0) ≡ false
        → d.world.memory.cells (global_home p x) (pos 0) ≡ c.world.memory.cells (global_home p x) (pos 0)
    global_there x v e plain off =
        on_test (h.variables (variables.Global x))
        (λ changes. one_false (may_change t.firsts cell.Ptr (global_home p x) (pos 0)) (may_change rest cell.Ptr (global_home p x) (pos 0))
        (sym (may_is cell.Ptr (global_home p x) (pos 0)) ∙ off)
        (λ first. absurd (false≢true (sym first ∙ t.globals_are x v e plain cell.Ptr ∙ changes)))
        (λ second. by_behaviors.1 x v e plain changes second))
        (λ stays. on.globals x v e plain stays)

    hidden_stays : (n : ℕ) (o : ℤ) → may_change_global inside.granted n ≡ false → d.world.memory.cells (negsuc n) o ≡ c.world.memory.cells (negsuc n) o
    hidden_stays n o off = by (plain_at p n) refl where
      at_zero : (x : ℕ) → plain_at p n ≡ Some x → o ≡ pos 0 → d.world.memory.cells (negsuc n) o ≡ c.world.memory.cells (negsuc n) o
      at_zero x e zero =
          let v = plain_of_cell p n x e in
          let home = home_of_cell p n x v in
          subst (λ o. d.world.memory.cells (negsuc n) o ≡ c.world.memory.cells (negsuc n) o) (sym zero)
          (subst (λ b. d.world.memory.cells b (pos 0) ≡ c.world.memory.cells b (pos 0)) home
          (global_there x v.variable v.is v.plain (ap (λ b. may_change inside.granted cell.Ptr b (pos 0)) home ∙ off)))

      negative_parts : {i j : ℕ} → negsuc i ≡ negsuc j → i ≡ j
      negative_parts e = cc

      by : (y : Option ℕ) → plain_at p n ≡ y → d.world.memory.cells (negsuc n) o ≡ c.world.memory.cells (negsuc n) o
      by None e = untold.hidden n o (λ x v q plain home zero. let i = cell_of_plain p x v q plain in
          absurd (none-some x (sym e ∙ ap (plain_at p) (negative_parts (sym home ∙ i.1)) ∙ i.2)))
      by (Some x) e =
          on_test (is_zero o) (λ zero. at_zero x e (zero_when o zero))
          (λ other. untold.hidden n o (λ x v q plain home zero. false≢true (sym other ∙ ap is_zero zero)))

    below_or : (x : ℕ) → (x < length s.variables) ⊎ (length s.variables ≤ x)
    below_or x = on_test (nat_lt x (length s.variables)) (λ b. inl (ltb-true x (length s.variables) b)) (λ b. inr (ltb-false x (length s.variables) b))

    -- a variable that havoc leaves alone
    local_there : (x : ℕ) → ((v : Variable) → slice_get s.variables x ≡ Some v → v.is_plain ≡ true → h.variables (variables.Local x) ≡ false) → d.world.locals x ≡ c.world.locals x
    local_there x off = by (below_or x) where
      by : (x < length s.variables) ⊎ (length s.variables ≤ x) → d.world.locals x ≡ c.world.locals x
      by (inl below) =
          let v = found_of s.variables x below in
          on_test v.0.is_plain (λ plain. on.locals x v.0 v.1 plain (off v.0 v.1 plain)) (λ not_plain. on.homes x v.0 v.1 not_plain)
      by (inr above) = untold.others x above

    at_head_there : AtHead p s.variables inside l ss c d
    at_head_there = record {
      good = on.good;
      blocks = on.blocks;
      cells = cell_stays;
      hidden = hidden_stays;
      locals = λ x off. local_there x (λ v e plain. second_false (nat_lt x l.declared) (lets_local l ss x) (sym (t.lets x v e plain) ∙ off));
      plain = λ x v e plain below lets. on.changed x v e plain (λ i. lt-ltb x l.declared below i && (sym (t.lets x v e plain) ∙ lets) i);
      inner = λ x above. local_there x (λ v e plain. first_false (nat_lt x l.declared) (lets_local l ss x)
          (on_test (nat_lt x l.declared) (λ b. let c = ltb-true x l.declared b in absurd (omega (arith, above, c))) (λ b. b)));
      homes = on.homes;
      temporaries = λ n off. untold.temporaries n;
    }

  back : (n : ℕ) (e : End) → Seg (st ∷ olds) n (havoc_word m p s cells h) st e
      → (new : State) × (goes_on new ≡ e) × (stays_told new ≡ true → (d : CoreWorld) × AtHead p s.variables inside l ss c d × StandsFor p s cells fr used d new)
  back n e k =
      let x = (havoc_is n).back e k in
      (x.0, x.1, λ told. let d = x.2 in (d.0, at_head_there d.0 d.1 d.2 x.0 (stay_back x.0 d.0 d.3 d.1.blocks told), d.3))

  pub head_is : HeadIs m p s cells texts contract here pt olds fr l ss c st
  head_is = record { forth = forth; back = back }
