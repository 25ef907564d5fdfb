-- What a run keeps makes states that a segment run may go on in: heads of loops, and worlds behind calls.
use Rattle.std.proofs.Common.{◌≡◌, ℕ, zero, suc, ◌+◌, ◌<◌, ◌≤◌, ◌-◌, ℤ, pos, negsuc, Bool, true, false, ◌&&◌, ◌||◌, if◌then◌else◌, List, [], ◌∷◌, ◌++◌, map, length, Option, Some, None, is_some, slice_get, refl, sym, ap, ◌∙◌, subst, inl, inr, arith}
use Rattle.std.specs.Prelude.{nat_lt, nat_le, ◌⊎◌}
use Rattle.std.specs.List.{list_all}
use Rattle.std.proofs.lemmas.Bool.{false≢true, and_parts, ltb-true, lt-ltb, le-leb, leb-true, leb-false}
use Rattle.wp_base.specs.declared.kinds.CellKind.{CellKind}
use Rattle.wp_base.specs.declared.kinds.CellKind.TheVariants as cell
use Rattle.wp_base.specs.Blocks.{Table, count, is_cell}
use Rattle.c_kinds.specs.Models.{holds}
use Rattle.qed_terms.specs.Operators.{is_zero, is_equal}
use Rattle.acsl_trees.specs.Tree.{Tree}
use Rattle.c_runs.specs.TruthStates.{Value, World as Labelled, number, is_negative}
use Rattle.c_runs.specs.TruthAllowed.{lies_in, is_named, Allows}
use Rattle.c_runs.specs.Program.{Variable, Facts, Loop, Behavior, Contract}
use Rattle.c_runs.specs.States.{Local, plain, unset, Memory, World, Here, Granted, hidden, plain_globals, home_from, global_home, cell_by, params_from, seen, seen_by_contract, held_by}
use Rattle.c_runs.specs.Claims.{may_change, lets_cell, may_change_local, granted_by, granted_in, in_body, in_loop, at_entry, is_assumed, regions_of, parts_of}
use Rattle.c_runs.specs.Scopes.{scalar_of}
use Rattle.c_runs.specs.Entry.{is_value, leads_well, IsWellFormed}
use Rattle.c_runs.specs.Allowed.{SetAllows, PartAllows, AllAllow, MayChange}
use Rattle.c_runs.specs.CoreRun.{CoreWorld}
use Rattle.c_runs.specs.Tests.{is_set_by}
use Rattle.c_runs.specs.Tree.{Steps}
use Rattle.plain_runs.specs.Told.{State, Sizes, at, held, value_slot, local_value, local_flag, temp_slot, local_in, cell_in, memory_in, world_in, core_in}
use Rattle.plain_runs.specs.Told.{is_integer, are_one_integer, kind_in, kind_of}
use Rattle.plain_runs.proofs.Told.{equal_is, found_below, listed_integer, cell_of_integer, when_true}
use Rattle.plain_runs.specs.Fitting.{IsGood, Shape, sizes, Fit}
use Rattle.plain_runs.specs.Kept.{may_change_global, AllBelow, some_sets, some_temps, IsScoped, Unchanged, Kept}
use Rattle.plain_runs.proofs.Scopes.{on_bool}
use Rattle.plain_runs.proofs.Objects.{home_is}
use Rattle.plain_runs.proofs.Whole.{leaves, all_plain}
use Rattle.plain_runs.proofs.Cells.{no_negative}
use Rattle.plain_runs.proofs.Sets.{all_behind}
use Rattle.goal_segments.specs.Sets.{own_or, own_loop}
use Rattle.goal_segments.specs.Segments.{SameBlocks, LocalGoesOn, lets_at_head, own_regions, AtHead}
use Rattle.goal_segments.proofs.Including.{Agrees}

-- ---- memories

pub same_blocks : (t : Table) → SameBlocks t t
same_blocks t = record { live = λ b. refl; more = le-leb (suc (length t)) (suc (length t)) (omega arith) }

module _ (p : Facts) (integers : list_all is_integer p.globals ≡ true) (m : Memory) (good : IsGood p m) (s : Shape) where
  pub good_state : (st : State) → Fit p s st → IsGood p (memory_in (sizes p s) m st)
  good_state st fit = record { well = leaves p integers m good.well s st fit; pointers = λ b o. lead b o } where
    by : (n : ℕ) (o : ℤ) (b : Bool) → leads_well (if b then held st (value_slot n) else m.cells (negsuc n) o) ≡ true
    by n o true = refl
    by n o false = good.pointers (negsuc n) o

    lead : (b o : ℤ) → leads_well (cell_in (sizes p s) m.cells st b o) ≡ true
    lead (pos n) o = good.pointers (pos n) o
    lead (negsuc n) o = by n o (nat_lt n (sizes p s).globals && is_zero o)

  -- ---- variables of the function

  pub local_same : (st after : State) (x : ℕ) → (x < (sizes p s).locals → Unchanged p s st after x) → local_in (sizes p s) after x ≡ local_in (sizes p s) st x
  local_same st after x h = on_bool (nat_lt x (sizes p s).locals)
      (λ t. let both = h (ltb-true x (sizes p s).locals t) in λ i. if nat_lt x (sizes p s).locals then plain (number (both.0 i)) (is_equal (pos 1) (both.1 i)) else unset)
      (λ t. ap (λ b. if b then plain (held after (local_value (sizes p s) x)) (is_equal (pos 1) (at after (local_flag (sizes p s) x))) else unset) t
      ∙ sym (ap (λ b. if b then plain (held st (local_value (sizes p s) x)) (is_equal (pos 1) (at st (local_flag (sizes p s) x))) else unset) t))

  module _ (all : list_all is_integer s.variables ≡ true) where
    local_goes_on : (st after : State) → Fit p s after → ((x : ℕ) → x < (sizes p s).locals → at st (local_flag (sizes p s) x) ≡ pos 1 → at after (local_flag (sizes p s) x) ≡ pos 1)
        → (x : ℕ) (v : Variable) → slice_get s.variables x ≡ Some v → LocalGoesOn p m.blocks v (local_in (sizes p s) st x) (local_in (sizes p s) after x)
    local_goes_on st after fit rises x v e =
        let l = found_below s.variables x v e in
        let is_plain = and_parts v.is_plain (are_one_integer v.layout.cells) (listed_integer s.variables all x v e) in
        record {
          held = held after (local_value (sizes p s) x);
          is_set = is_equal (pos 1) (at after (local_flag (sizes p s) x));
          same = when_true (nat_lt x (sizes p s).locals) _ _ (lt-ltb x (sizes p s).locals l);
          stays = λ h. ap (is_equal (pos 1)) (rises x l (sym (equal_is (pos 1) (at st (local_flag (sizes p s) x))
              (sym (ap is_set_by (when_true (nat_lt x (sizes p s).locals) (plain (held st (local_value (sizes p s) x)) (is_equal (pos 1) (at st (local_flag (sizes p s) x)))) unset (lt-ltb x (sizes p s).locals l))) ∙ h))));
          fits = ap (λ c. is_value p m.blocks c (held after (local_value (sizes p s) x))) (cell_of_integer v.layout.cells is_plain.1) ∙ fit.locals x v e;
          leads = refl;
        }

    -- ---- a loop's head

    module _ (here : Here) (gs : List Granted) (l : Loop) (ss : Steps) (w : World) (f : ℕ → Bool) (free : (x : ℕ) → l.declared ≤ x → (f x ≡ false) ⊎ (some_sets ss x ≡ false))
        (agrees : Agrees p (own_loop p (record here { granted = gs }) l w).granted (in_loop p here l w).granted) (st after : State) (scoped : IsScoped p s f st)
        (kept : Kept p s (in_loop p here l w).granted (some_sets ss) (some_temps ss) f st after) where
      head_cells : (k : CellKind) (b o : ℤ) → is_cell k m.blocks b o ≡ true → may_change (own_loop p (record here { granted = gs }) l w).granted k b o ≡ false
          → cell_in (sizes p s) m.cells after b o ≡ cell_in (sizes p s) m.cells st b o
      head_cells k (pos n) o is h = refl
      head_cells k (negsuc n) o is h = absurd (no_negative k m.blocks n o is)

      head_hidden : (n : ℕ) (o : ℤ) → may_change_global (own_loop p (record here { granted = gs }) l w).granted n ≡ false
          → cell_in (sizes p s) m.cells after (negsuc n) o ≡ cell_in (sizes p s) m.cells st (negsuc n) o
      head_hidden n o h = by (nat_lt n (sizes p s).globals && is_zero o) refl where
        by : (b : Bool) → (nat_lt n (sizes p s).globals && is_zero o) ≡ b → (if b then held after (value_slot n) else m.cells (negsuc n) o) ≡ (if b then held st (value_slot n) else m.cells (negsuc n) o)
        by true e =
            let t = (and_parts (nat_lt n (sizes p s).globals) (is_zero o) e).0 in
            ap number (kept.globals n (ltb-true n (sizes p s).globals t) (sym (agrees.globals n (ap (nat_lt n) (all_plain p.globals integers) ∙ t)) ∙ h))
        by false e = refl

      -- what is declared inside of the loop isn't in scope at its head, and what is declared behind it isn't set there
      same_by : (x : ℕ) → x < (sizes p s).locals → (f x ≡ false) ⊎ (some_sets ss x ≡ false) → Unchanged p s st after x
      same_by x le (inl e) = let old = scoped x le e in let new = kept.scoped x le e in (new.0 ∙ sym old.0, new.1 ∙ sym old.1)
      same_by x le (inr e) = kept.untouched x le e

      inner_same : (x : ℕ) → x < (sizes p s).locals → l.declared ≤ x → Unchanged p s st after x
      inner_same x le d = same_by x le (free x d)

      head_locals : (o : Option (List Tree)) → l.assigns ≡ o → (x : ℕ)
          → lets_at_head p (own_loop p (record here { granted = gs }) l w).granted ss x (own_regions o (own_loop p (record here { granted = gs }) l w).granted) ≡ false
          → local_in (sizes p s) after x ≡ local_in (sizes p s) st x
      head_locals None e x h = local_same st after x (λ le. kept.untouched x le h)
      head_locals (Some ts) e x h =
          let own = granted_by p (in_body p (record here { loop_entry = seen p w }) w) (count w.memory.blocks) l.declared (Some ts) in
          let named : lets_at_head p (own_or own gs) ss x (own_regions (Some ts) (own_or own gs)) ≡ false =
          subst (λ o. lets_at_head p (own_or (granted_by p (in_body p (record here { loop_entry = seen p w }) w) (count w.memory.blocks) l.declared o) gs) ss x
          (own_regions (Some ts) (own_or (granted_by p (in_body p (record here { loop_entry = seen p w }) w) (count w.memory.blocks) l.declared o) gs)) ≡ false) e h in
          local_same st after x (λ le. on_bool (nat_le l.declared x)
          (λ t. inner_same x le (leb-true l.declared x t))
          (λ t. kept.allowed x le (sym (agrees.locals x)
          ∙ ap (λ o. may_change_local p (own_or (granted_by p (in_body p (record here { loop_entry = seen p w }) w) (count w.memory.blocks) l.declared o) gs) x) e
          ∙ ap (λ b. (b || is_named (regions_of p (in_body p (record here { loop_entry = seen p w }) w) ts) (hidden p x)) && true) t
          ∙ ap (λ b. b && true) named)))

      pub at_head : (n n' : ℕ) (vs vs' : List Value) → AtHead p s.variables (own_loop p (record here { granted = gs }) l w) l ss (core_in (sizes p s) m n vs st) (core_in (sizes p s) m n' vs' after)
      at_head n n' vs vs' = record {
        good = good_state after kept.fit;
        blocks = same_blocks m.blocks;
        cells = head_cells;
        hidden = head_hidden;
        locals = head_locals l.assigns refl;
        plain = λ x v e is before may. local_goes_on st after kept.fit (λ x le h. kept.rises x le h) x v e;
        inner = λ x d. local_same st after x (λ le. inner_same x le d);
        homes = λ x v e not_plain. absurd (false≢true (sym not_plain ∙ (and_parts v.is_plain (are_one_integer v.layout.cells) (listed_integer s.variables all x v e)).0));
        temporaries = λ n h. ap number (kept.temporaries n h);
      }

  -- ---- what a call may change

  homes_end : (n k : ℕ) (xs : List Variable) (x : ℕ) → slice_get xs x ≡ None → home_from n k xs x ≡ pos 0
  homes_end n k [] x e = refl
  homes_end n k (v ∷ xs) zero e = absurd (false≢true (sym (ap is_some e)))
  homes_end n k (v ∷ xs) (suc x) e = on_bool v.is_plain
      (λ t. ap (λ b. if b then home_from n (suc k) xs x else home_from (suc n) k xs x) t ∙ homes_end n (suc k) xs x e)
      (λ t. ap (λ b. if b then home_from n (suc k) xs x else home_from (suc n) k xs x) t ∙ homes_end (suc n) k xs x e)

  module _ (vs : List Value) (v : Labelled) (n : ℤ) (st after : State) where
    -- the variables that these sets don't let change are the same
    abbrev pub SameBy : List Granted → Type 0
    SameBy gs = (x : ℕ) → x < (sizes p s).globals → may_change_global gs x ≡ false → at after (value_slot x) ≡ at st (value_slot x)

    set_allows : (o : Option (List Tree)) → SameBy (granted_by p v n 0 o) → SetAllows p v o (seen_by_contract p vs (memory_in (sizes p s) m st)) (seen_by_contract p vs (memory_in (sizes p s) m after))
    set_allows None h = tt
    set_allows (Some ts) h = record { cells = cells; globals = λ x neg named. globals x (slice_get p.globals x) refl neg named } where
      cells : (k : CellKind) (b o : ℤ) → is_cell k m.blocks b o ≡ true → lies_in (regions_of p v ts) k b o ≡ false
          → cell_by p (params_from 0 vs) (cell_in (sizes p s) m.cells after) b o ≡ cell_by p (params_from 0 vs) (cell_in (sizes p s) m.cells st) b o
      cells k (pos i) o c d = refl
      cells k (negsuc i) o c d = absurd (no_negative k m.blocks i o c)

      at_home : (x : ℕ) → x < (sizes p s).globals → is_named (regions_of p v ts) (negsuc x) ≡ false
          → cell_by p (params_from 0 vs) (cell_in (sizes p s) m.cells after) (negsuc x) (pos 0) ≡ cell_by p (params_from 0 vs) (cell_in (sizes p s) m.cells st) (negsuc x) (pos 0)
      at_home x l named =
          let same = h x l (ap (λ b. b && true) named) in
          λ i. if nat_lt x (plain_globals p) then (if nat_lt x (sizes p s).globals && true then number (same i) else m.cells (negsuc x) (pos 0)) else held_by (params_from 0 vs (x - plain_globals p))

      globals : (x : ℕ) (o : Option Variable) → slice_get p.globals x ≡ o → is_negative (global_home p x) ≡ true → is_named (regions_of p v ts) (global_home p x) ≡ false
          → cell_by p (params_from 0 vs) (cell_in (sizes p s) m.cells after) (global_home p x) (pos 0) ≡ cell_by p (params_from 0 vs) (cell_in (sizes p s) m.cells st) (global_home p x) (pos 0)
      globals x None e neg named = absurd (false≢true (sym (ap is_negative (homes_end 0 0 p.globals x e)) ∙ neg))
      globals x (Some y) e neg named =
          let home = home_is p integers x y e in
          subst (λ b. cell_by p (params_from 0 vs) (cell_in (sizes p s) m.cells after) b (pos 0) ≡ cell_by p (params_from 0 vs) (cell_in (sizes p s) m.cells st) b (pos 0)) (sym home)
          (at_home x (found_below p.globals x y e) (ap (is_named (regions_of p v ts)) (sym home) ∙ named))

    first_or_false : (a b : Bool) → a ≡ false → (a && b) ≡ false
    first_or_false a b h = ap (λ t. t && b) h

    some_first : (gs hs : List Granted) (x : ℕ) → may_change_global gs x ≡ false → may_change_global (gs ++ hs) x ≡ false
    some_first [] hs x h = absurd (false≢true (sym h))
    some_first (g ∷ gs) hs x h = on_bool (is_named g.regions (negsuc x))
        (λ t. ap (λ b. b && may_change_global (gs ++ hs) x) t ∙ some_first gs hs x (sym (ap (λ b. b && may_change_global gs x) t) ∙ h))
        (λ t. ap (λ b. b && may_change_global (gs ++ hs) x) t)

    pub all_allow : (bs : List Behavior) → SameBy (granted_in p v n bs) → AllAllow p v bs (seen_by_contract p vs (memory_in (sizes p s) m st)) (seen_by_contract p vs (memory_in (sizes p s) m after))
    all_allow [] h = tt
    all_allow (b ∷ bs) h = (
      λ is. set_allows b.assigns (λ x l k. h x l (some_first (if is_assumed p v b then granted_by p v n 0 b.assigns else []) (granted_in p v n bs) x
          (ap (λ t. may_change_global (if t then granted_by p v n 0 b.assigns else []) x) is ∙ k))),
      all_allow bs (λ x l k. h x l (all_behind (lets_cell cell.Ptr (negsuc x) (pos 0)) (if is_assumed p v b then granted_by p v n 0 b.assigns else []) (granted_in p v n bs) k)),
    )
