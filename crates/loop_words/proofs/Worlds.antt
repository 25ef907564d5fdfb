-- Slots behind the changes at a loop's head are those of a world in which the loop may go on.
use Rattle.std.proofs.Common.{◌≡◌, ℕ, zero, suc, ◌<◌, ◌≤◌, ℤ, pos, negsuc, Bool, true, false, ◌&&◌, ◌||◌, if◌then◌else◌, List, ◌∷◌, length, Option, Some, None, slice_get, refl, sym, ap, ◌∙◌, subst, inl, inr, arith}
use Rattle.std.specs.Prelude.{nat_lt, int_le}
use Rattle.std.specs.List.{list_all}
use Rattle.std.proofs.lemmas.Bool.{false≢true, and_parts, ltb-true, lt-ltb, leb-true}
use Rattle.wp_base.specs.declared.kinds.CellKind.{CellKind}
use Rattle.wp_base.specs.Blocks.{Table, is_cell, has_layout}
use Rattle.c_kinds.specs.Models.{holds}
use Rattle.typed_prog.specs.declared.operators.Variable.TheVariants as variables
use Rattle.acsl_trees.specs.Tree as acsl
use Rattle.c_runs.specs.TruthStates.{number}
use Rattle.qed_terms.specs.Meaning as sense
use Rattle.qed_terms.specs.Operators.{is_zero, is_equal}
use Rattle.c_runs.specs.Program.{Variable, Contract, Loop, Facts}
use Rattle.c_runs.specs.States.{Memory, World, Here, Local, plain, seen}
use Rattle.c_runs.specs.Claims.{may_change, in_body}
use Rattle.c_runs.specs.Scopes.{scalar_of}
use Rattle.c_runs.specs.Entry.{is_value, is_placed, is_home, leads_well}
use Rattle.c_runs.specs.CoreRun.{CoreWorld}
use Rattle.c_runs.specs.Tests.{is_set_by}
use Rattle.c_runs.specs.Tree.{Steps}
use Rattle.goal_segments.specs.Sets.{own_loop}
use Rattle.goal_segments.specs.Segments.{LocalGoesOn, lets_at_head, own_regions, AtHead}
use Rattle.goal_segments.proofs.Heads.{same_blocks}
use Rattle.plain_states.specs.Slots.{State, at, held, value_slot, local_value, local_flag, temp_slot, cell_in, memory_in}
use Rattle.plain_states.specs.Scopes.{is_integer, kind_of}
use Rattle.plain_states.proofs.Puts.{equal_is, zero_is}
use Rattle.plain_states.proofs.Scoping.{found_below}
use Rattle.plain_states.proofs.Entering.{found, when_true}
use Rattle.plain_runs.specs.Fitting.{IsGood, IsFlag, Shape, sizes}
use Rattle.plain_runs.specs.Kept.{may_change_global}
use Rattle.plain_runs.proofs.Cells.{no_negative}
use Rattle.plain_runs.proofs.Objects.{home_is}
use Rattle.plain_runs.proofs.Whole.{all_plain}
use Rattle.program_steps.specs.Temporaries.{Temporaries, no_temporaries, all_live}
use Rattle.program_steps.specs.Terms.{Texts}
use Rattle.program_steps.specs.Words.{Point}
use Rattle.program_steps.specs.Standing.{StandsFor, SeenAs}
use Rattle.program_steps.specs.Placed.{InSetting, all_told, Placed}
use Rattle.program_steps.specs.Functions.{SetFits}
use Rattle.program_steps.proofs.Filling.{on_bool}
use Rattle.program_steps.proofs.Standing.{of_file, of_function, file_fits}
use Rattle.program_steps.proofs.Seeing.{seen_as}
use Rattle.loop_words.specs.Sets.{file_changes, lets_local, local_changes}
use Rattle.loop_words.specs.Words.{stay_trees}
use Rattle.loop_words.specs.Fits.{LoopFits}
use Rattle.loop_words.proofs.Regions.{names_so}
use Rattle.loop_words.proofs.Inside.{homes_of}
use Rattle.loop_words.proofs.Renewing.{Renewed}
use Rattle.loop_words.proofs.Letting.{head_stays}

-- ---- flags

pub flag_between : (y : ℤ) → int_le (pos 0) y ≡ true → int_le y (pos 1) ≡ true → IsFlag y
flag_between (pos zero) h k = inl refl
flag_between (pos (suc zero)) h k = inr refl
flag_between (pos (suc (suc n))) h k = let l = leb-true (suc (suc n)) 1 k in absurd (omega (arith, l))
flag_between (negsuc n) h k = absurd (false≢true h)

one_stays : (x y : ℤ) → x ≡ pos 1 → IsFlag y → int_le x y ≡ true → y ≡ pos 1
one_stays x y e (inl z) h = absurd (false≢true (sym (λ i. int_le (e i) (z i)) ∙ h))
one_stays x y e (inr z) h = z

-- ---- memories

module _ (p : Facts) (s : Shape) (globals : list_all is_integer p.globals ≡ true) (integers : list_all is_integer s.variables ≡ true) where
  -- variables of the file that hold numbers of their kinds
  pub good_memory : (m : Memory) → IsGood p m → (st : State) → ((x : ℕ) (v : Variable) → slice_get p.globals x ≡ Some v → holds p.model (kind_of v) (at st (value_slot x)) ≡ true)
      → IsGood p (memory_in (sizes p s) m st)
  good_memory m good st fit = record {
    well = record {
      globals = λ x v e. ap (λ b. is_placed p (memory_in (sizes p s) m st) b v) (home_is p globals x v e) ∙ now x v e;
      cells = there;
      elsewhere = other;
      short = good.well.short;
    };
    pointers = lead;
  }
    where
      now : (x : ℕ) (v : Variable) → slice_get p.globals x ≡ Some v → is_placed p (memory_in (sizes p s) m st) (negsuc x) v ≡ true
      now x v e =
          let parts = of_file p s globals integers x v e in
          ap (λ b. if b then is_value p m.blocks (scalar_of v.layout.cells) (cell_in (sizes p s) m.cells st (negsuc x) (pos 0)) else has_layout m.blocks (negsuc x) v.layout) parts.0
          ∙ ap (λ b. is_value p m.blocks (scalar_of v.layout.cells) (if b && true then held st (value_slot x) else m.cells (negsuc x) (pos 0))) (lt-ltb x (length p.globals) (found_below p.globals x v e))
          ∙ ap (λ c. is_value p m.blocks c (held st (value_slot x))) parts.1 ∙ fit x v e

      there : (k : CellKind) (b o : ℤ) → is_cell k m.blocks b o ≡ true → is_value p m.blocks k (cell_in (sizes p s) m.cells st b o) ≡ true
      there k (pos n) o h = good.well.cells k (pos n) o h
      there k (negsuc n) o h = absurd (no_negative k m.blocks n o h)

      other : (b o : ℤ) → is_home p b o ≡ false → ((k : CellKind) → is_cell k m.blocks b o ≡ false) → cell_in (sizes p s) m.cells st b o ≡ number (pos 0)
      other (pos n) o h none = good.well.elsewhere (pos n) o h none
      other (negsuc n) o h none =
          ap (λ b. if b then held st (value_slot n) else m.cells (negsuc n) o) (ap (λ g. nat_lt n g && is_zero o) (sym (all_plain p.globals globals)) ∙ h) ∙ good.well.elsewhere (negsuc n) o h none

      by : (n : ℕ) (o : ℤ) (b : Bool) → leads_well (if b then held st (value_slot n) else m.cells (negsuc n) o) ≡ true
      by n o true = refl
      by n o false = good.pointers (negsuc n) o

      lead : (b o : ℤ) → leads_well (cell_in (sizes p s) m.cells st b o) ≡ true
      lead (pos n) o = good.pointers (pos n) o
      lead (negsuc n) o = by n o (nat_lt n (sizes p s).globals && is_zero o)

-- ---- locals that a head lets change

module _ (p : Facts) (s : Shape) (globals : list_all is_integer p.globals ≡ true) (here : Here) (w : World) (st : State) (sees : SeenAs p s (seen p w) st st) (ss : Steps) where
  lets_by : (l : Loop) (o : Option (List acsl.Tree)) → SetFits p s o → (x : ℕ) → x < length s.variables
      → lets_at_head p (own_loop p here (record l { assigns = o }) w).granted ss x (own_regions o (own_loop p here (record l { assigns = o }) w).granted) ≡ lets_local (record l { assigns = o }) ss x
  lets_by l None fit x known = refl
  lets_by l (Some rs) fit x known =
      names_so p s globals (in_body p (record here { loop_entry = seen p w }) w) (homes_of p s globals (seen p w) st st sees) (variables.Local x) known rs fit

  pub lets_is : (l : Loop) → SetFits p s l.assigns → (x : ℕ) → x < length s.variables
      → lets_at_head p (own_loop p here l w).granted ss x (own_regions l.assigns (own_loop p here l w).granted) ≡ lets_local l ss x
  lets_is l fit x known = lets_by l l.assigns fit x known

-- ---- the world

module _ (m : sense.World) (p : Facts) (s : Shape) (texts : Texts) (setting : InSetting m p s) (contract : Contract) (pt : Point) (here : Here) (olds : List State)
    (placed : Placed m p s texts contract pt here olds) (i : ℕ → Bool) (outs : List Temporaries) (l : Loop) (ss : Steps) (fits : LoopFits m p s texts contract i outs l ss) (t0 : Table)
    (c : CoreWorld) (st : State) (stands : StandsFor p s t0 i (all_live ss outs no_temporaries) c st) where
  abbrev pub used : Temporaries
  used = all_live ss outs no_temporaries

  abbrev pub inside : Here
  inside = own_loop p here l c.world

  abbrev k : ℕ
  k = length s.variables

  abbrev pub changes : ℕ → Bool
  changes = local_changes l ss

  pub sees : SeenAs p s (seen p c.world) st st
  sees = seen_as p s setting.globals setting.integers i used c st stands

  pub head_lets : (x : ℕ) → x < k → lets_at_head p inside.granted ss x (own_regions l.assigns inside.granted) ≡ lets_local l ss x
  head_lets = lets_is p s setting.globals here c.world st sees ss l fits.regions

  none_second : (a b : Bool) → b ≡ false → (a && b) ≡ false
  none_second true b h = h
  none_second false b h = refl

  pub off_inside : (x : ℕ) → l.declared ≤ x → changes x ≡ false
  off_inside x d = on_bool (nat_lt x l.declared) (λ t. let b = ltb-true x l.declared t in absurd (omega (arith, b, d))) (λ t. ap (λ b. b && lets_local l ss x) t)

  pub off_unlet : (x : ℕ) → lets_local l ss x ≡ false → changes x ≡ false
  off_unlet x h = none_second (nat_lt x l.declared) (lets_local l ss x) h

  pub off_unscoped : (x : ℕ) → i x ≡ false → changes x ≡ false
  off_unscoped x h = on_bool (changes x) (λ t. absurd (false≢true (sym h ∙ fits.scoped x t))) (λ t. t)

  module _ (after : State) (r : Renewed p s (file_changes contract pt l) changes st after) (stay : all_told m (after ∷ st ∷ olds) (stay_trees p s texts contract pt l) ≡ true) where
    abbrev memory : Memory
    memory = memory_in (sizes p s) c.world.memory after

    abbrev locals_now : ℕ → Local
    locals_now x = if nat_lt x k then plain (held after (local_value (sizes p s) x)) (is_equal (pos 1) (at after (local_flag (sizes p s) x))) else c.world.locals x

    abbrev pub head_world : CoreWorld
    head_world = record { world = record c.world { memory = memory; locals = locals_now }; temps = c.temps }

    -- ---- variables of the file

    file_holds : (x : ℕ) (v : Variable) → slice_get p.globals x ≡ Some v → holds p.model (kind_of v) (at after (value_slot x)) ≡ true
    file_holds x v e = on_bool (file_changes contract pt l x) (λ on. r.file x v e on)
        (λ off. subst (λ z. holds p.model (kind_of v) z ≡ true) (r.file_same x (found_below p.globals x v e) off)
        (file_fits p s setting.globals setting.integers c.world.memory stands.good x v e (at st (value_slot x)) (stands.globals x v e)))

    same_value : (x : ℕ) → x < length p.globals → may_change_global inside.granted x ≡ false → at after (value_slot x) ≡ at st (value_slot x)
    same_value x below none = on_bool (file_changes contract pt l x)
        (λ on. head_stays m p s texts setting.globals contract fits.assumes pt here olds placed c.world st sees l fits.regions after stay x below on none)
        (λ off. sym (r.file_same x below off))

    cells : (k : CellKind) (b o : ℤ) → is_cell k c.world.memory.blocks b o ≡ true → may_change inside.granted k b o ≡ false → cell_in (sizes p s) c.world.memory.cells after b o ≡ c.world.memory.cells b o
    cells k (pos n) o is h = refl
    cells k (negsuc n) o is h = absurd (no_negative k c.world.memory.blocks n o is)

    hidden : (n : ℕ) (o : ℤ) → may_change_global inside.granted n ≡ false → cell_in (sizes p s) c.world.memory.cells after (negsuc n) o ≡ c.world.memory.cells (negsuc n) o
    hidden n o h = by (nat_lt n (sizes p s).globals && is_zero o) refl where
      by : (b : Bool) → (nat_lt n (sizes p s).globals && is_zero o) ≡ b → (if b then held after (value_slot n) else c.world.memory.cells (negsuc n) o) ≡ c.world.memory.cells (negsuc n) o
      by true e =
          let both = and_parts (nat_lt n (sizes p s).globals) (is_zero o) e in
          let below = ltb-true n (sizes p s).globals both.0 in
          let v = found p.globals n below in
          ap number (same_value n below h) ∙ sym (stands.globals n v.0 v.1) ∙ ap (c.world.memory.cells (negsuc n)) (sym (zero_is o both.1))
      by false e = refl

    -- ---- variables of the function

    local_now : (x : ℕ) (v : Variable) → slice_get s.variables x ≡ Some v
        → locals_now x ≡ plain (held after (local_value (sizes p s) x)) (is_equal (pos 1) (at after (local_flag (sizes p s) x)))
    local_now x v e = when_true (nat_lt x k) _ _ (lt-ltb x k (found_below s.variables x v e))

    local_kept : (x : ℕ) → (x < k → changes x ≡ false) → locals_now x ≡ c.world.locals x
    local_kept x off = on_bool (nat_lt x k)
        (λ t. let below = ltb-true x k t in let v = found s.variables x below in
        ap (λ b. if b then plain (held after (local_value (sizes p s) x)) (is_equal (pos 1) (at after (local_flag (sizes p s) x))) else c.world.locals x) t
        ∙ (λ j. plain (number (sym (r.own_same x below (off below)) j)) (is_equal (pos 1) (sym (r.flags_same x below (off below)) j)))
        ∙ sym (stands.locals x v.0 v.1).same)
        (λ t. ap (λ b. if b then plain (held after (local_value (sizes p s) x)) (is_equal (pos 1) (at after (local_flag (sizes p s) x))) else c.world.locals x) t)

    flag_is : (x : ℕ) (v : Variable) → slice_get s.variables x ≡ Some v → IsFlag (at after (local_flag (sizes p s) x))
    flag_is x v e = on_bool (changes x)
        (λ on. let rise = r.flags x (found_below s.variables x v e) on in flag_between (at after (local_flag (sizes p s) x)) rise.least rise.most)
        (λ off. subst IsFlag (r.flags_same x (found_below s.variables x v e) off) (stands.locals x v e).is_flag)

    set_stays : (x : ℕ) (v : Variable) → slice_get s.variables x ≡ Some v → is_set_by (c.world.locals x) ≡ true → is_equal (pos 1) (at after (local_flag (sizes p s) x)) ≡ true
    set_stays x v e h =
        let was = sym (ap is_set_by (stands.locals x v e).same) ∙ h in
        on_bool (changes x)
        (λ on. ap (is_equal (pos 1)) (one_stays (at st (local_flag (sizes p s) x)) (at after (local_flag (sizes p s) x)) (sym (equal_is (pos 1) (at st (local_flag (sizes p s) x)) was))
        (flag_is x v e) (r.flags x (found_below s.variables x v e) on).more))
        (λ off. ap (is_equal (pos 1)) (sym (r.flags_same x (found_below s.variables x v e) off)) ∙ was)

    -- what may change holds a number of its kind
    let_holds : (x : ℕ) (v : Variable) → slice_get s.variables x ≡ Some v → x < l.declared → lets_local l ss x ≡ true → holds p.model (kind_of v) (at after (local_value (sizes p s) x)) ≡ true
    let_holds x v e before may = r.own x v e (λ j. lt-ltb x l.declared before j && may j)

    goes_on_so : (x : ℕ) (v : Variable) → slice_get s.variables x ≡ Some v → x < l.declared → lets_at_head p inside.granted ss x (own_regions l.assigns inside.granted) ≡ true
        → LocalGoesOn p c.world.memory.blocks v (c.world.locals x) (locals_now x)
    goes_on_so x v e before may = record {
      held = held after (local_value (sizes p s) x);
      is_set = is_equal (pos 1) (at after (local_flag (sizes p s) x));
      same = local_now x v e;
      stays = set_stays x v e;
      fits = ap (λ d. is_value p c.world.memory.blocks d (held after (local_value (sizes p s) x))) (of_function p s setting.globals setting.integers x v e).1
          ∙ let_holds x v e before (sym (head_lets x (found_below s.variables x v e)) ∙ may);
      leads = refl;
    }

    pub at_head : AtHead p s.variables inside l ss c head_world
    at_head = record {
      good = good_memory p s setting.globals setting.integers c.world.memory stands.good after file_holds;
      blocks = same_blocks c.world.memory.blocks;
      cells = cells;
      hidden = hidden;
      locals = λ x h. local_kept x (λ below. off_unlet x (sym (head_lets x below) ∙ h));
      plain = λ x v e is before may. goes_on_so x v e before may;
      inner = λ x d. local_kept x (λ below. off_inside x d);
      homes = λ x v e not_plain. absurd (false≢true (sym not_plain ∙ (of_function p s setting.globals setting.integers x v e).0));
      temporaries = λ n h. refl;
    }

    pub stands_there : StandsFor p s t0 i used head_world after
    stands_there = record {
      size = r.size ∙ stands.size;
      good = good_memory p s setting.globals setting.integers c.world.memory stands.good after file_holds;
      blocks = stands.blocks;
      globals = λ x v e. ap (λ b. if b && true then held after (value_slot x) else c.world.memory.cells (negsuc x) (pos 0)) (lt-ltb x (length p.globals) (found_below p.globals x v e));
      locals = λ x v e. record { same = local_now x v e; is_flag = flag_is x v e; fits = local_fits x v e };
      temporaries = λ n below live. let t = stands.temporaries n below live in
          let same = r.behind (temp_slot (sizes p s) n) (omega arith) in
          record { same = t.same ∙ ap number same; fits = ap (holds p.model (s.temp_kind n)) (sym same) ∙ t.fits };
      unscoped = λ x below out. let h = stands.unscoped x below out in let off = off_unscoped x out in (sym (r.own_same x below off) ∙ h.0, sym (r.flags_same x below off) ∙ h.1);
    }
      where
        local_fits : (x : ℕ) (v : Variable) → slice_get s.variables x ≡ Some v → (v.has_value || is_equal (pos 1) (at after (local_flag (sizes p s) x))) ≡ true
            → holds p.model (kind_of v) (at after (local_value (sizes p s) x)) ≡ true
        local_fits x v e h = on_bool (changes x) (λ on. r.own x v e on)
            (λ off. let below = found_below s.variables x v e in
            subst (λ z. holds p.model (kind_of v) z ≡ true) (r.own_same x below off)
            ((stands.locals x v e).fits (ap (λ f. v.has_value || is_equal (pos 1) f) (r.flags_same x below off) ∙ h)))
