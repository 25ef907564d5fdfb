-- What a run keeps makes heads of loops and worlds behind calls, in which a segment run may go on.
use Rattle.std.proofs.Common.{◌≡◌, ℕ, zero, suc, ◌<◌, ◌≤◌, ◌-◌, true, false, ◌&&◌, ◌||◌, if◌then◌else◌, ℤ, pos, negsuc, List, [], ◌∷◌, ◌++◌, Option, Some, None, is_some, slice_get, refl, sym, ap, ◌∙◌, subst, inl, inr}
use Rattle.std.specs.Prelude.{◌⊎◌, nat_lt, nat_le}
use Rattle.std.proofs.lemmas.Bool.{false≢true, leb-true}
use Rattle.wp_base.specs.declared.kinds.CellKind.{CellKind}
use Rattle.wp_base.specs.Blocks.{Table, count, is_cell}
use Rattle.acsl_trees.specs.Tree.{Tree}
use Rattle.c_runs.specs.TruthTold.{is_zero}
use Rattle.c_runs.specs.TruthStates.{Value, World as Labelled, is_negative}
use Rattle.c_runs.specs.TruthAllowed.{lies_in, is_named}
use Rattle.c_runs.specs.Program.{Variable, Facts, Loop, Behavior}
use Rattle.c_runs.specs.States.{Local, plain, home, Memory, Here, Granted, hidden, plain_globals, home_from, global_home, cell_by, params_from, held_by, seen, seen_by_contract}
use Rattle.c_runs.specs.Claims.{lets_cell, may_change, may_change_local, granted_by, granted_in, in_body, in_loop, is_assumed, regions_of}
use Rattle.c_runs.specs.Entry.{is_home}
use Rattle.c_runs.specs.Allowed.{SetAllows, AllAllow}
use Rattle.c_runs.specs.CoreRun.{CoreWorld}
use Rattle.c_runs.specs.Tests.{is_set_by}
use Rattle.c_runs.specs.Tree.{Steps}
use Rattle.goal_segments.specs.Sets.{own_or, own_loop}
use Rattle.goal_segments.specs.Segments.{LocalGoesOn, lets_at_head, own_regions, AtHead}
use Rattle.goal_segments.specs.Told.{may_change_global}
use Rattle.plain_runs.specs.Kept.{some_sets, some_temps}
use Rattle.typed_memories.proofs.Tests.{on_test, chosen, unchosen}
use Rattle.typed_memories.proofs.CellKinds.{no_cell_of}
use Rattle.typed_memories.proofs.Decoding.{no_hidden_cell}
use Rattle.typed_memories.proofs.Tables.{cell_below, test_lt, not_le_test}
use Rattle.program_steps.specs.Temporaries.{Temporaries}
use Rattle.typed_runs.specs.Fitting.{Shape, InScope, LoopFits}
use Rattle.typed_runs.specs.Kept.{home_at, HoldsValue, Holds, KeptMemory, Kept}
use Rattle.typed_runs.proofs.Values.{content_value}
use Rattle.typed_runs.proofs.Keeping.{Fewer, memory_more, fewer_behind}
use Rattle.typed_modular.specs.Solid.{lets_at}
use Rattle.typed_modular.proofs.Including.{Agrees}

no_negative : (k : CellKind) (t : Table) (n : ℕ) (o : ℤ) → is_cell k t (negsuc n) o ≡ true → ⊥
no_negative k t n o is = false≢true (sym (no_cell_of k t (negsuc n) o (no_hidden_cell t n o)) ∙ is)

home_is : (l : Local) (b : ℤ) → home_at l ≡ Some b → l ≡ home b
home_is (plain held is_set) b e = absurd (false≢true (ap is_some e))
home_is (home i) b e = ap home (by i b e) where
  by : (i b : ℤ) → Some i ≡ Some b → i ≡ b
  by i b e = cc

-- ---- heads of loops

module _ (p : Facts) (s : Shape) (f : InScope) (low : ℕ) (os : List Temporaries) (here : Here) (gs : List Granted) (l : Loop) (ss : Steps) (fits : LoopFits p s f low os l ss) (c d : CoreWorld)
    (t u : Temporaries) (h : Holds p s f t c) (now : Holds p s f u d) (agrees : Agrees p (own_loop p (record here { granted = gs }) l c.world).granted (in_loop p here l c.world).granted)
    (kept : Kept p (in_loop p here l c.world).granted (some_sets ss) (some_temps ss) c d)
    (scoped : (x : ℕ) (v : Variable) → slice_get s.variables x ≡ Some v → v.is_plain ≡ true → x < l.declared
    → lets_at p (in_body p (record here { loop_entry = seen p c.world }) c.world) ss x l.assigns ≡ true → f x ≡ true) where
  abbrev own : Here
  own = own_loop p (record here { granted = gs }) l c.world

  abbrev sets_of : Option (List Tree) → List Granted
  sets_of o = own_or (granted_by p (in_body p (record here { loop_entry = seen p c.world }) c.world) (count c.world.memory.blocks) l.declared o) gs

  head_cells : (k : CellKind) (b o : ℤ) → is_cell k c.world.memory.blocks b o ≡ true → may_change own.granted k b o ≡ false → d.world.memory.cells b o ≡ c.world.memory.cells b o
  head_cells k (pos i) o is closed = kept.memory.cells k (pos i) o is (sym (agrees.cells k i o) ∙ closed)
  head_cells k (negsuc i) o is closed = absurd (no_negative k c.world.memory.blocks i o is)

  -- what isn't a variable of the file holds 0
  head_hidden : (x : ℕ) (o : ℤ) → may_change_global own.granted x ≡ false → d.world.memory.cells (negsuc x) o ≡ c.world.memory.cells (negsuc x) o
  head_hidden x o closed = on_test (nat_lt x (plain_globals p))
      (λ below. kept.memory.hidden x o (sym (agrees.hidden.globals x below) ∙ closed))
      (λ beyond.
      let out : is_home p (negsuc x) o ≡ false = ap (λ b. b && is_zero o) beyond in
      now.good.well.elsewhere (negsuc x) o out (λ k. no_cell_of k d.world.memory.blocks (negsuc x) o (no_hidden_cell d.world.memory.blocks x o))
      ∙ sym (h.good.well.elsewhere (negsuc x) o out (λ k. no_cell_of k c.world.memory.blocks (negsuc x) o (no_hidden_cell c.world.memory.blocks x o))))

  inner_same : (x : ℕ) → l.declared ≤ x → d.world.locals x ≡ c.world.locals x
  inner_same x le = by (fits.inner x le) where
    by : (f x ≡ false) ⊎ (some_sets ss x ≡ false) → d.world.locals x ≡ c.world.locals x
    by (inl out) = now.scoped x out ∙ sym (h.scoped x out)
    by (inr unset) = kept.untouched x unset

  head_locals : (o : Option (List Tree)) → l.assigns ≡ o → (x : ℕ) → lets_at_head p own.granted ss x (own_regions o (sets_of o)) ≡ false → d.world.locals x ≡ c.world.locals x
  head_locals None e x closed = kept.untouched x closed
  head_locals (Some ts) e x closed = on_test (nat_le l.declared x)
      (λ inside. inner_same x (leb-true l.declared x inside))
      (λ outside. kept.allowed x (sym (agrees.hidden.locals x)
      ∙ ap (λ o. may_change_local p (sets_of o) x) e
      ∙ ap (λ b. (b || is_named (regions_of p (in_body p (record here { loop_entry = seen p c.world }) c.world) ts) (hidden p x)) && true) outside
      ∙ ap (λ b. b && true) closed))

  -- what it lets change is in scope
  lets_same : (o : Option (List Tree)) (x : ℕ) → lets_at_head p own.granted ss x (own_regions o (sets_of o)) ≡ lets_at p (in_body p (record here { loop_entry = seen p c.world }) c.world) ss x o
  lets_same None x = refl
  lets_same (Some ts) x = refl

  goes_on_by : (x : ℕ) (v : Variable) → HoldsValue p (count d.world.memory.blocks) v (d.world.locals x) → LocalGoesOn p d.world.memory.blocks v (c.world.locals x) (d.world.locals x)
  goes_on_by x v r =
      let value = content_value p d.world.memory.blocks _ r.held r.content in
      record {
        held = r.held;
        is_set = r.is_set;
        same = r.same;
        stays = λ set. sym (ap is_set_by r.same) ∙ kept.rises x set;
        fits = value.0;
        leads = value.1;
      }

  head_homes : (x : ℕ) (v : Variable) → slice_get s.variables x ≡ Some v → v.is_plain ≡ false → d.world.locals x ≡ c.world.locals x
  head_homes x v e not_plain = on_test (f x)
      (λ on. let r = h.homes x v e on not_plain in home_is (d.world.locals x) r.block (kept.homes x ∙ ap home_at r.same) ∙ sym r.same)
      (λ out. now.scoped x out ∙ sym (h.scoped x out))

  pub at_head : AtHead p s.variables own l ss c d
  at_head = record {
    good = now.good;
    blocks = kept.memory.blocks;
    cells = head_cells;
    hidden = head_hidden;
    locals = head_locals l.assigns refl;
    plain = λ x v e is before may. goes_on_by x v (now.locals x v e (scoped x v e is before (sym (lets_same l.assigns x) ∙ may)) is);
    inner = inner_same;
    homes = head_homes;
    temporaries = λ n untouched. kept.temporaries n untouched;
  }

-- ---- what a call may change

homes_end : (n k : ℕ) (xs : List Variable) (x : ℕ) → slice_get xs x ≡ None → home_from n k xs x ≡ pos 0
homes_end n k [] x e = refl
homes_end n k (v ∷ xs) zero e = absurd (false≢true (sym (ap is_some e)))
homes_end n k (v ∷ xs) (suc x) e = on_test v.is_plain
    (λ t. chosen v.is_plain (home_from n (suc k) xs x) (home_from (suc n) k xs x) t ∙ homes_end n (suc k) xs x e)
    (λ t. unchosen v.is_plain (home_from n (suc k) xs x) (home_from (suc n) k xs x) t ∙ homes_end (suc n) k xs x e)

module _ (p : Facts) (vs : List Value) (v : Labelled) (m n : Memory) where
  set_allows : (o : Option (List Tree)) → KeptMemory (granted_by p v (count m.blocks) 0 o) m n → SetAllows p v o (seen_by_contract p vs m) (seen_by_contract p vs n)
  set_allows None kept = tt
  set_allows (Some ts) kept = record { cells = cells; globals = λ x neg named. by (global_home p x) neg named } where
    cells : (k : CellKind) (b o : ℤ) → is_cell k m.blocks b o ≡ true → lies_in (regions_of p v ts) k b o ≡ false
        → cell_by p (params_from 0 vs) n.cells b o ≡ cell_by p (params_from 0 vs) m.cells b o
    cells k (pos i) o is out =
        let below = test_lt (pos i) (count m.blocks) (cell_below k m.blocks (pos i) o is) in
        kept.cells k (pos i) o is (ap (λ b. (b || lies_in (regions_of p v ts) k (pos i) o) && true) (not_le_test (count m.blocks) (pos i) below) ∙ ap (λ b. b && true) out)
    cells k (negsuc i) o is out = absurd (no_negative k m.blocks i o is)

    by : (b : ℤ) → is_negative b ≡ true → is_named (regions_of p v ts) b ≡ false → cell_by p (params_from 0 vs) n.cells b (pos 0) ≡ cell_by p (params_from 0 vs) m.cells b (pos 0)
    by (pos i) neg named = absurd (false≢true neg)
    by (negsuc i) neg named =
        ap (λ z. if nat_lt i (plain_globals p) then z else held_by (params_from 0 vs (i - plain_globals p))) (kept.hidden i (pos 0) (ap (λ b. b && true) named))

  fewer_first : (gs hs : List Granted) → Fewer gs (gs ++ hs)
  fewer_first gs hs = record { cells = λ k b o closed. by gs k b o closed } where
    by : (gs : List Granted) (k : CellKind) (b o : ℤ) → may_change gs k b o ≡ false → may_change (gs ++ hs) k b o ≡ false
    by [] k b o closed = absurd (false≢true (sym closed))
    by (g ∷ gs) k b o closed = on_test (lets_cell k b o g)
        (λ lets. ap (λ t. t && may_change (gs ++ hs) k b o) lets ∙ by gs k b o (sym (ap (λ t. t && may_change gs k b o) lets) ∙ closed))
        (λ out. ap (λ t. t && may_change (gs ++ hs) k b o) out)

  parts_allow : (bs : List Behavior) → KeptMemory (granted_in p v (count m.blocks) bs) m n → AllAllow p v bs (seen_by_contract p vs m) (seen_by_contract p vs n)
  parts_allow [] kept = tt
  parts_allow (b ∷ bs) kept =
      let first = if is_assumed p v b then granted_by p v (count m.blocks) 0 b.assigns else [] in
      let rest = granted_in p v (count m.blocks) bs in (
        λ is. set_allows b.assigns
            (subst (λ t. KeptMemory (if t then granted_by p v (count m.blocks) 0 b.assigns else []) m n) is (memory_more first (first ++ rest) m n (fewer_first first rest) kept)),
        parts_allow bs (memory_more rest (first ++ rest) m n (fewer_behind first rest) kept),
      )

  -- where the sets of the call are among those in force
  pub all_allow : (bs : List Behavior) (more : List Granted) → KeptMemory (granted_in p v (count m.blocks) bs ++ more) m n → AllAllow p v bs (seen_by_contract p vs m) (seen_by_contract p vs n)
  all_allow bs more kept =
      parts_allow bs (memory_more (granted_in p v (count m.blocks) bs) (granted_in p v (count m.blocks) bs ++ more) m n (fewer_first (granted_in p v (count m.blocks) bs) more) kept)
