-- A scope that is left.
use Rattle.std.proofs.Common.{◌≡◌, ℕ, ◌≤◌, Bool, true, false, ◌||◌, ℤ, List, [], ◌∷◌, Option, Some, None, is_some, slice_get, refl, sym, ap, ◌∙◌, subst}
use Rattle.std.specs.Prelude.{◌==◌, int_le}
use Rattle.std.proofs.lemmas.Bool.{false≢true}
use Rattle.wp_base.specs.declared.kinds.CellKind.{CellKind}
use Rattle.wp_base.specs.Blocks.{count, grow}
use Rattle.c_runs.specs.TruthStates.{Value}
use Rattle.c_runs.specs.Program.{Variable, Facts}
use Rattle.c_runs.specs.States.{Local, plain, home, unset, Memory, World, Granted, with_local}
use Rattle.c_runs.specs.Claims.{may_change_local}
use Rattle.c_runs.specs.Scopes.{is_content, without_locals}
use Rattle.c_runs.specs.CoreRun.{CoreWorld, Ending, goes_on, exits, returns, stopped, scope_left, scope_end}
use Rattle.c_runs.specs.Tests.{is_set_by}
use Rattle.goal_segments.specs.Told.{with_name, with_names}
use Rattle.plain_runs.specs.Fitting.{IsGood}
use Rattle.plain_runs.proofs.Sets.{high_may}
use Rattle.plain_runs.specs.Kept.{AllBelow}
use Rattle.typed_memories.proofs.Tests.{on_test, chosen, unchosen, not_both, neither, or_left}
use Rattle.typed_memories.specs.Changes.{StillThere}
use Rattle.typed_memories.proofs.Tables.{below_more, grown_block, ended_all}
use Rattle.run_blocks.proofs.Standing.{still_same, still_then}
use Rattle.run_blocks.proofs.Good.{ends_are_good}
use Rattle.program_steps.specs.Temporaries.{Temporaries, out_at}
use Rattle.typed_runs.specs.Fitting.{Shape, InScope, kind_of, Declares}
use Rattle.typed_runs.specs.Kept.{home_at, HasHome, Holds, KeptMemory, Kept, IsResult, LeavesMemory, Ends}
use Rattle.typed_runs.proofs.Keeping.{memory_ended}
use Rattle.typed_runs.proofs.Opening.{declares, Opens, same_name}

-- ---- locals that are declared

pub without_out : (ys : List ℕ) (w : World) (x : ℕ) → declares ys x ≡ false → (without_locals ys w).locals x ≡ w.locals x
without_out [] w x h = refl
without_out (y ∷ ys) w x h =
    let both = neither (y == x) (declares ys x) h in
    without_out ys (with_local y unset w) x both.1 ∙ unchosen (y == x) unset (w.locals x) both.0

pub without_in : (ys : List ℕ) (w : World) (x : ℕ) → declares ys x ≡ true → (without_locals ys w).locals x ≡ unset
without_in [] w x h = absurd (false≢true h)
without_in (y ∷ ys) w x h = on_test (declares ys x)
    (λ later. without_in ys (with_local y unset w) x later)
    (λ out. without_out ys (with_local y unset w) x out ∙ chosen (y == x) unset (w.locals x) (first (y == x) (declares ys x) h out)) where
      first : (a b : Bool) → (a || b) ≡ true → b ≡ false → a ≡ true
      first true b h out = refl
      first false b h out = absurd (false≢true (sym out ∙ h))

module _ (p : Facts) (s : Shape) where
  pub declared_out : (f : InScope) (low : ℕ) (ys : List ℕ) → Declares p s f low ys → (x : ℕ) → declares ys x ≡ true → (f x ≡ false) × (low ≤ x)
  declared_out f low [] d x h = absurd (false≢true h)
  declared_out f low (y ∷ ys) d x h = on_test (y == x)
      (λ here. let same = same_name y x here in (subst (λ x. f x ≡ false) same d.0, subst (λ x. low ≤ x) same d.1))
      (λ other. let r = declared_out (with_name y f) low ys d.3 x (or_left (y == x) (declares ys x) h other) in ((neither (y == x) (f x) r.0).1, r.1))

pub names_out : (f : InScope) (ys : List ℕ) (x : ℕ) → declares ys x ≡ false → with_names ys f x ≡ f x
names_out f [] x h = refl
names_out f (y ∷ ys) x h = let both = neither (y == x) (declares ys x) h in names_out (with_name y f) ys x both.1 ∙ ap (λ b. b || f x) both.0

home_is : (l : Local) (b : ℤ) → home_at l ≡ Some b → l ≡ home b
home_is (plain held is_set) b e = absurd (false≢true (ap is_some e))
home_is (home i) b e = ap home (by i b e) where
  by : (i b : ℤ) → Some i ≡ Some b → i ≡ b
  by i b e = cc

-- ---- a scope that was entered in a world that fits, and whose statements are done

module _ (p : Facts) (s : Shape) (f : InScope) (low : ℕ) (gs : List Granted) (below : AllBelow low gs) (ys : List ℕ) (dec : Declares p s f low ys) (t₀ : Temporaries) (c c' : CoreWorld)
    (h : Holds p s f t₀ c) (opens : Opens p s f (with_names ys f) t₀ (declares ys) c c') where
  abbrev m : Memory
  m = c.world.memory

  abbrev behind : CoreWorld → CoreWorld
  behind d = scope_left m ys d

  module _ (d : CoreWorld) (good : IsGood p d.world.memory) (memory : KeptMemory gs c'.world.memory d.world.memory) where
    stands : StillThere m.blocks d.world.memory.blocks
    stands = still_then m.blocks c'.world.memory.blocks d.world.memory.blocks opens.there (still_same c'.world.memory.blocks d.world.memory.blocks memory.blocks)

    count_same : count (grow m.blocks (count d.world.memory.blocks)) ≡ count d.world.memory.blocks
    count_same = (ended_all m.blocks d.world.memory.blocks stands).1

    left_leaves : LeavesMemory p gs c (behind d)
    left_leaves = record {
      good = ends_are_good p m ys d.world stands h.good good;
      memory = memory_ended gs m c'.world.memory d.world.memory opens.there opens.cells memory;
    }

    content_left : (k : CellKind) (v : Value) → is_content p (count d.world.memory.blocks) k v ≡ true → is_content p (count (behind d).world.memory.blocks) k v ≡ true
    content_left k v is = ap (λ n. is_content p n k v) count_same ∙ is

    result_left : (r : Option CellKind) (v : Value) → IsResult p (count d.world.memory.blocks) r v → IsResult p (count (behind d).world.memory.blocks) r v
    result_left None v is = is
    result_left (Some k) v is = content_left k v is

  module _ (tx : InScope) (u : Temporaries) (d : CoreWorld) (kept : Kept p gs tx u c' d) where
    local_left : (x : ℕ) → declares ys x ≡ false → (behind d).world.locals x ≡ d.world.locals x
    local_left x out = without_out ys d.world x out

    kept_left : (good : IsGood p d.world.memory) → Kept p gs tx u c (behind d)
    kept_left good = record {
      memory = (left_leaves d good kept.memory).memory;
      allowed = λ x no. on_test (declares ys x)
          (λ own. not_both (may_change_local p gs x) (high_may p low gs below x (declared_out p s f low ys dec x own).1) no)
          (λ out. local_left x out ∙ kept.allowed x no ∙ opens.others x out);
      untouched = λ x no. on_test (declares ys x)
          (λ own. without_in ys d.world x own ∙ sym (h.scoped x (declared_out p s f low ys dec x own).0))
          (λ out. local_left x out ∙ kept.untouched x no ∙ opens.others x out);
      rises = λ x is. on_test (declares ys x)
          (λ own. absurd (false≢true (sym (ap is_set_by (h.scoped x (declared_out p s f low ys dec x own).0)) ∙ is)))
          (λ out. ap is_set_by (local_left x out) ∙ kept.rises x (ap is_set_by (opens.others x out) ∙ is));
      homes = λ x. on_test (declares ys x)
          (λ own. ap home_at (without_in ys d.world x own ∙ sym (h.scoped x (declared_out p s f low ys dec x own).0)))
          (λ out. ap home_at (local_left x out) ∙ kept.homes x ∙ ap home_at (opens.others x out));
      temporaries = λ n no. kept.temporaries n no ∙ opens.temps n;
    }

    module _ (t : Temporaries) (now : Holds p s (with_names ys f) t d) where
      not_own : (x : ℕ) → f x ≡ true → declares ys x ≡ false
      not_own x on = on_test (declares ys x) (λ own. not_both (f x) on (declared_out p s f low ys dec x own).0) (λ out. out)

      in_names : (x : ℕ) → f x ≡ true → with_names ys f x ≡ true
      in_names x on = names_out f ys x (not_own x on) ∙ on

      home_left : (x : ℕ) (v : Variable) → slice_get s.variables x ≡ Some v → f x ≡ true → v.is_plain ≡ false → HasHome (behind d).world.memory.blocks v ((behind d).world.locals x)
      home_left x v e on not_plain =
          let r = h.homes x v e on not_plain in
          let out = not_own x on in
          record {
            block = r.block;
            same = local_left x out ∙ home_is (d.world.locals x) r.block (kept.homes x ∙ ap home_at (opens.others x out ∙ r.same));
            made = below_more r.block (count m.blocks) (count (behind d).world.memory.blocks) r.made
                (ap (int_le (count m.blocks)) (count_same d now.good kept.memory) ∙ (stands d now.good kept.memory).more);
            layout = grown_block m.blocks (count d.world.memory.blocks) r.block ∙ r.layout;
          }

      holds_left : Holds p s f t (behind d)
      holds_left = record {
        good = (left_leaves d now.good kept.memory).good;
        locals = λ x v e on is.
            let r = now.locals x v e (in_names x on) is in
            record { held = r.held; is_set = r.is_set; same = local_left x (not_own x on) ∙ r.same; content = content_left d now.good kept.memory (kind_of v) r.held r.content };
        homes = home_left;
        scoped = λ x out. on_test (declares ys x) (without_in ys d.world x) (λ other. local_left x other ∙ now.scoped x (names_out f ys x other ∙ out));
        temporaries = λ n used. content_left d now.good kept.memory (s.temp_kind n) (d.temps n) (now.temporaries n used);
      }

  -- however its statements end
  pub ends_scope : (os : List Temporaries) (t : Temporaries) (tx : InScope) (u : Temporaries) (o : Ending) → Ends p s (with_names ys f) os t gs tx u c' o → Ends p s f os t gs tx u c (scope_end m ys o)
  ends_scope os t tx u (goes_on d) e = (holds_left tx u d e.1 t e.0, kept_left tx u d e.1 e.0.good)
  ends_scope os t tx u (exits k d) e = (holds_left tx u d e.1 (out_at os k) e.0, kept_left tx u d e.1 e.0.good)
  ends_scope os t tx u (returns v d) e = (result_left d e.1.good e.1.memory s.result v e.0, left_leaves d e.1.good e.1.memory)
  ends_scope os t tx u (stopped x) e = tt
