-- A world in which a loop may go on has slots, which are behind the changes at its head.
use Rattle.std.proofs.Common.{◌≡◌, ℕ, zero, suc, ◌+◌, ◌-◌, ◌<◌, ◌≤◌, ℤ, pos, negsuc, Bool, true, false, ◌&&◌, ◌||◌, if◌then◌else◌, List, [], ◌∷◌, ◌++◌, length, Some, slice_get, refl, sym, ap, ◌∙◌, subst, inl, inr, length-append, arith}
use Rattle.std.specs.Prelude.{nat_lt, int_le}
use Rattle.std.proofs.lemmas.Bool.{false≢true, and_parts, ltb-true, ltb-false, lt-ltb, le-leb, leb-true}
use Rattle.wp_base.specs.Blocks.{Table, count}
use Rattle.c_kinds.specs.Models.{holds}
use Rattle.c_runs.specs.TruthStates.{number, number_of}
use Rattle.qed_terms.specs.Meaning as sense
use Rattle.qed_terms.specs.Operators.{is_equal}
use Rattle.c_runs.specs.Program.{Variable, Contract, Loop, Facts}
use Rattle.c_runs.specs.States.{Here, Local, plain, held_by}
use Rattle.c_runs.specs.Entry.{is_value, is_placed}
use Rattle.c_runs.specs.CoreRun.{CoreWorld}
use Rattle.c_runs.specs.Tests.{is_set_by}
use Rattle.c_runs.specs.Tree.{Steps}
use Rattle.goal_segments.specs.Segments.{LocalGoesOn, AtHead}
use Rattle.plain_states.specs.Slots.{State, at, double, value_slot, flag_slot, local_value, local_flag, temp_slot}
use Rattle.plain_states.specs.Scopes.{later_slots, kind_of}
use Rattle.plain_states.proofs.Scoping.{found_below}
use Rattle.plain_states.proofs.Entering.{found, when_true}
use Rattle.plain_runs.specs.Fitting.{IsFlag, Shape, sizes}
use Rattle.plain_runs.specs.Kept.{may_change_global}
use Rattle.plain_runs.proofs.Objects.{home_is}
use Rattle.plain_runs.proofs.Whole.{number_value}
use Rattle.value_terms.specs.Worlds.{flag_of}
use Rattle.program_steps.specs.Temporaries.{Temporaries, no_temporaries, all_live}
use Rattle.program_steps.specs.Terms.{Texts}
use Rattle.program_steps.specs.Words.{Point}
use Rattle.program_steps.specs.Standing.{LocalIs, StandsFor}
use Rattle.program_steps.specs.Placed.{InSetting, all_told, Placed}
use Rattle.program_steps.proofs.Filling.{on_bool}
use Rattle.program_steps.proofs.Standing.{of_file, of_function}
use Rattle.loop_words.specs.Sets.{file_changes, lets_local, local_changes}
use Rattle.loop_words.specs.Words.{stay_trees}
use Rattle.loop_words.specs.Fits.{LoopFits}
use Rattle.loop_words.proofs.Renewing.{Rises, Renewed}
use Rattle.loop_words.proofs.Letting.{unchanged, stays_told}
use Rattle.loop_words.proofs.Worlds.{inside, sees, head_lets, off_unscoped}

-- ---- lists of values and flags

abbrev pairs : (f g : ℕ → ℤ) → (count first : ℕ) → State
pairs f g zero x = []
pairs f g (suc n) x = f x ∷ g x ∷ pairs f g n (suc x)

pairs_length : (f g : ℕ → ℤ) (n x : ℕ) → length (pairs f g n x) ≡ double n
pairs_length f g zero x = refl
pairs_length f g (suc n) x = ap (λ k. suc (suc k)) (pairs_length f g n (suc x))

pairs_at : (f g : ℕ → ℤ) (n x : ℕ) (more : State) (i : ℕ) → i < n → (at (pairs f g n x ++ more) (value_slot i) ≡ f (x + i)) × (at (pairs f g n x ++ more) (flag_slot i) ≡ g (x + i))
pairs_at f g zero x more i l = absurd (omega (arith, l))
pairs_at f g (suc n) x more zero l = let e : x ≡ x + 0 = omega arith in (ap f e, ap g e)
pairs_at f g (suc n) x more (suc i) l =
    let r = pairs_at f g n (suc x) more i (omega (arith, l)) in
    let e : suc x + i ≡ x + suc i = omega arith in
    (r.0 ∙ ap f e, r.1 ∙ ap g e)

pairs_behind : (f g : ℕ → ℤ) (n x : ℕ) (more : State) (j : ℕ) → double n ≤ j → at (pairs f g n x ++ more) j ≡ at more (j - double n)
pairs_behind f g zero x more j l = ap (at more) (let e : j ≡ j - 0 = omega arith in e)
pairs_behind f g (suc n) x more zero l = absurd (omega (arith, l))
pairs_behind f g (suc n) x more (suc zero) l = absurd (omega (arith, l))
pairs_behind f g (suc n) x more (suc (suc j)) l =
    pairs_behind f g n (suc x) more j (omega (arith, l)) ∙ ap (at more) (let e : j - double n ≡ suc (suc j) - suc (suc (double n)) = omega arith in e)

later_at : (n : ℕ) (st : State) (i : ℕ) → at (later_slots n st) i ≡ at st (n + i)
later_at zero st i = ap (at st) (let e : i ≡ 0 + i = omega arith in e)
later_at (suc n) [] i = refl
later_at (suc n) (x ∷ st) i = later_at n st i ∙ ap (at (x ∷ st)) (let e : suc (n + i) ≡ suc n + i = omega arith in e)

later_length : (n : ℕ) (st : State) → n ≤ length st → n + length (later_slots n st) ≡ length st
later_length zero st l = omega arith
later_length (suc n) [] l = absurd (omega (arith, l))
later_length (suc n) (x ∷ st) l = let r = later_length n st (omega (arith, l)) in omega (arith, r)

-- ---- a local by what it holds

-- what is a number and a flag is told by them
as_told : (a : Local) (z : ℤ) (b : Bool) → a ≡ plain (number z) b → a ≡ plain (number (number_of (held_by a))) (is_equal (pos 1) (flag_of (is_set_by a)))
as_told a z b e = subst (λ a. a ≡ plain (number (number_of (held_by a))) (is_equal (pos 1) (flag_of (is_set_by a)))) (sym e) (ap (plain (number z)) (by b)) where
  by : (b : Bool) → b ≡ is_equal (pos 1) (flag_of b)
  by true = refl
  by false = refl

-- a flag is what it tells
flag_is : (z : ℤ) → IsFlag z → z ≡ flag_of (is_equal (pos 1) z)
flag_is z (inl e) = e ∙ sym (ap (λ x. flag_of (is_equal (pos 1) x)) e)
flag_is z (inr e) = e ∙ sym (ap (λ x. flag_of (is_equal (pos 1) x)) e)

flag_told : (b : Bool) → IsFlag (flag_of b)
flag_told true = inr refl
flag_told false = inl refl

flag_rises : (p : Facts) (x : ℤ) (b : Bool) → IsFlag x → (x ≡ pos 1 → b ≡ true) → Rises p x (flag_of b)
flag_rises p x true (inl e) h = record { least = refl; most = refl; more = ap (λ x. int_le x (pos 1)) e }
flag_rises p x false (inl e) h = record { least = refl; most = refl; more = ap (λ x. int_le x (pos 0)) e }
flag_rises p x true (inr e) h = record { least = refl; most = refl; more = ap (λ x. int_le x (pos 1)) e }
flag_rises p x false (inr e) h = absurd (false≢true (h e))

more_blocks : (a b c : Table) → int_le (count a) (count b) ≡ true → int_le (count b) (count c) ≡ true → int_le (count a) (count c) ≡ true
more_blocks a b c h k =
    let x = leb-true (suc (length a)) (suc (length b)) h in
    let y = leb-true (suc (length b)) (suc (length c)) k in
    le-leb (suc (length a)) (suc (length c)) (omega (arith, x, y))

module _ (m : sense.World) (p : Facts) (s : Shape) (texts : Texts) (setting : InSetting m p s) (contract : Contract) (pt : Point) (here : Here) (olds : List State)
    (placed : Placed m p s texts contract pt here olds) (i : ℕ → Bool) (outs : List Temporaries) (l : Loop) (ss : Steps) (fits : LoopFits m p s texts contract i outs l ss) (t0 : Table)
    (c : CoreWorld) (st : State) (stands : StandsFor p s t0 i (all_live ss outs no_temporaries) c st) (d : CoreWorld)
    (head : AtHead p s.variables (inside m p s texts setting contract pt here olds placed i outs l ss fits t0 c st stands) l ss c d) where
  abbrev n : ℕ
  n = length p.globals

  abbrev k : ℕ
  k = length s.variables

  abbrev own : Here
  own = inside m p s texts setting contract pt here olds placed i outs l ss fits t0 c st stands

  abbrev value_now : ℕ → ℤ
  value_now x = if nat_lt x n then number_of (d.world.memory.cells (negsuc x) (pos 0)) else number_of (held_by (d.world.locals (x - n)))

  abbrev flag_now : ℕ → ℤ
  flag_now x = if nat_lt x n then at st (flag_slot x) else flag_of (is_set_by (d.world.locals (x - n)))

  -- the slots of the head
  abbrev pub after : State
  after = pairs value_now flag_now (n + k) 0 ++ later_slots (double (n + k)) st

  big : double (n + k) ≤ length st
  big = let q = stands.size in omega (arith, q)

  size : length after ≡ length st
  size =
      let a = length-append (pairs value_now flag_now (n + k) 0) (later_slots (double (n + k)) st) in
      let b = pairs_length value_now flag_now (n + k) 0 in
      let r = later_length (double (n + k)) st big in
      omega (arith, a, b, r)

  behind : (j : ℕ) → double (n + k) ≤ j → at st j ≡ at after j
  behind j b =
      sym (pairs_behind value_now flag_now (n + k) 0 (later_slots (double (n + k)) st) j b ∙ later_at (double (n + k)) st (j - double (n + k))
      ∙ ap (at st) (let e : double (n + k) + (j - double (n + k)) ≡ j = omega (arith, b) in e))

  at_pair : (x : ℕ) → x < n + k → (at after (value_slot x) ≡ value_now x) × (at after (flag_slot x) ≡ flag_now x)
  at_pair x b =
      let r = pairs_at value_now flag_now (n + k) 0 (later_slots (double (n + k)) st) x b in
      let e : 0 + x ≡ x = omega arith in
      (r.0 ∙ ap value_now e, r.1 ∙ ap flag_now e)

  -- ---- variables of the file

  file_now : (x : ℕ) → x < n → at after (value_slot x) ≡ number_of (d.world.memory.cells (negsuc x) (pos 0))
  file_now x b = (at_pair x (omega (arith, b))).0
      ∙ ap (λ t. if t then number_of (d.world.memory.cells (negsuc x) (pos 0)) else number_of (held_by (d.world.locals (x - n)))) (lt-ltb x n b)

  file_flag : (x : ℕ) → x < n → at st (flag_slot x) ≡ at after (flag_slot x)
  file_flag x b = sym ((at_pair x (omega (arith, b))).1 ∙ ap (λ t. if t then at st (flag_slot x) else flag_of (is_set_by (d.world.locals (x - n)))) (lt-ltb x n b))

  file_value : (x : ℕ) (v : Variable) → slice_get p.globals x ≡ Some v
      → (number (number_of (d.world.memory.cells (negsuc x) (pos 0))) ≡ d.world.memory.cells (negsuc x) (pos 0)) × (holds p.model (kind_of v) (number_of (d.world.memory.cells (negsuc x) (pos 0))) ≡ true)
  file_value x v e =
      let parts = of_file p s setting.globals setting.integers x v e in
      let there : is_placed p d.world.memory (negsuc x) v ≡ true = subst (λ b. is_placed p d.world.memory b v ≡ true) (home_is p setting.globals x v e) (head.good.well.globals x v e) in
      number_value p d.world.memory.blocks (kind_of v) (d.world.memory.cells (negsuc x) (pos 0))
      (ap (λ c. is_value p d.world.memory.blocks c (d.world.memory.cells (negsuc x) (pos 0))) (sym parts.1) ∙ sym (when_true v.is_plain _ _ parts.0) ∙ there)

  file_cell : (x : ℕ) (v : Variable) → slice_get p.globals x ≡ Some v → d.world.memory.cells (negsuc x) (pos 0) ≡ number (at after (value_slot x))
  file_cell x v e = sym (file_value x v e).0 ∙ ap number (sym (file_now x (found_below p.globals x v e)))

  file_same : (x : ℕ) → x < n → may_change_global own.granted x ≡ false → at after (value_slot x) ≡ at st (value_slot x)
  file_same x b none =
      let v = found p.globals x b in
      file_now x b ∙ ap number_of (head.hidden x (pos 0) none ∙ stands.globals x v.0 v.1)

  -- ---- variables of the function

  local_now : (x : ℕ) → x < k
      → (at after (local_value (sizes p s) x) ≡ number_of (held_by (d.world.locals x))) × (at after (local_flag (sizes p s) x) ≡ flag_of (is_set_by (d.world.locals x)))
  local_now x b =
      let r = at_pair (n + x) (omega (arith, b)) in
      let e : (n + x) - n ≡ x = omega arith in (
        r.0 ∙ ap (λ t. if t then number_of (d.world.memory.cells (negsuc (n + x)) (pos 0)) else number_of (held_by (d.world.locals ((n + x) - n)))) (not_below x) ∙ ap (λ y. number_of (held_by (d.world.locals y))) e,
        r.1 ∙ ap (λ t. if t then at st (flag_slot (n + x)) else flag_of (is_set_by (d.world.locals ((n + x) - n)))) (not_below x) ∙ ap (λ y. flag_of (is_set_by (d.world.locals y))) e,
      )
    where
      not_below : (x : ℕ) → nat_lt (n + x) n ≡ false
      not_below x = on_bool (nat_lt (n + x) n) (λ t. let b = ltb-true (n + x) n t in absurd (omega (arith, b))) (λ t. t)

  -- what doesn't change is the same
  unmoved : (x : ℕ) → x < k → local_changes l ss x ≡ false → d.world.locals x ≡ c.world.locals x
  unmoved x b off = on_bool (nat_lt x l.declared)
      (λ t. head.locals x (head_lets m p s texts setting contract pt here olds placed i outs l ss fits t0 c st stands x b ∙ (sym (ap (λ y. y && lets_local l ss x) t) ∙ off)))
      (λ t. head.inner x (ltb-false x l.declared t))

  goes_on_so : (x : ℕ) (v : Variable) → slice_get s.variables x ≡ Some v → local_changes l ss x ≡ true → LocalGoesOn p d.world.memory.blocks v (c.world.locals x) (d.world.locals x)
  goes_on_so x v e on =
      let parts = and_parts (nat_lt x l.declared) (lets_local l ss x) on in
      head.plain x v e (of_function p s setting.globals setting.integers x v e).0 (ltb-true x l.declared parts.0)
      (head_lets m p s texts setting contract pt here olds placed i outs l ss fits t0 c st stands x (found_below s.variables x v e) ∙ parts.1)

  held_number : (x : ℕ) (v : Variable) (e : slice_get s.variables x ≡ Some v) (on : local_changes l ss x ≡ true)
      → (number (number_of (goes_on_so x v e on).held) ≡ (goes_on_so x v e on).held) × (holds p.model (kind_of v) (number_of (goes_on_so x v e on).held) ≡ true)
  held_number x v e on =
      let g = goes_on_so x v e on in
      number_value p d.world.memory.blocks (kind_of v) g.held (ap (λ c. is_value p d.world.memory.blocks c g.held) (sym (of_function p s setting.globals setting.integers x v e).1) ∙ g.fits)

  told : (x : ℕ) (v : Variable) → slice_get s.variables x ≡ Some v → d.world.locals x ≡ plain (number (number_of (held_by (d.world.locals x)))) (is_equal (pos 1) (flag_of (is_set_by (d.world.locals x))))
  told x v e = on_bool (local_changes l ss x)
      (λ on. let g = goes_on_so x v e on in
      as_told (d.world.locals x) (number_of g.held) g.is_set (g.same ∙ ap (λ h. plain h g.is_set) (sym (held_number x v e on).0)))
      (λ off. as_told (d.world.locals x) (at st (local_value (sizes p s) x)) (is_equal (pos 1) (at st (local_flag (sizes p s) x)))
      (unmoved x (found_below s.variables x v e) off ∙ (stands.locals x v e).same))

  own_holds : (x : ℕ) (v : Variable) → slice_get s.variables x ≡ Some v → local_changes l ss x ≡ true → holds p.model (kind_of v) (at after (local_value (sizes p s) x)) ≡ true
  own_holds x v e on =
      let g = goes_on_so x v e on in
      ap (holds p.model (kind_of v)) ((local_now x (found_below s.variables x v e)).0 ∙ ap (λ y. number_of (held_by y)) g.same) ∙ (held_number x v e on).1

  own_same : (x : ℕ) → x < k → local_changes l ss x ≡ false
      → (at st (local_value (sizes p s) x) ≡ at after (local_value (sizes p s) x)) × (at st (local_flag (sizes p s) x) ≡ at after (local_flag (sizes p s) x))
  own_same x b off =
      let v = found s.variables x b in
      let now = local_now x b in
      let was = unmoved x b off ∙ (stands.locals x v.0 v.1).same in (
        sym (now.0 ∙ ap (λ y. number_of (held_by y)) was),
        flag_is (at st (local_flag (sizes p s) x)) (stands.locals x v.0 v.1).is_flag ∙ sym (now.1 ∙ ap (λ y. flag_of (is_set_by y)) was),
      )

  own_flags : (x : ℕ) → x < k → local_changes l ss x ≡ true → Rises p (at st (local_flag (sizes p s) x)) (at after (local_flag (sizes p s) x))
  own_flags x b on =
      let v = found s.variables x b in
      let g = goes_on_so x v.0 v.1 on in
      subst (Rises p (at st (local_flag (sizes p s) x))) (sym ((local_now x b).1 ∙ ap (λ y. flag_of (is_set_by y)) g.same))
      (flag_rises p (at st (local_flag (sizes p s) x)) g.is_set (stands.locals x v.0 v.1).is_flag
      (λ e. g.stays (ap is_set_by (stands.locals x v.0 v.1).same ∙ ap (is_equal (pos 1)) e)))

  -- ---- put together

  pub renewed_there : Renewed p s (file_changes contract pt l) (local_changes l ss) st after
  renewed_there = record {
    size = size;
    file = λ x v e on. ap (holds p.model (kind_of v)) (file_now x (found_below p.globals x v e)) ∙ (file_value x v e).1;
    file_same = λ x b off. sym (file_same x b (unchanged m p s texts setting.globals contract fits.assumes pt here olds placed c.world st
        (sees m p s texts setting contract pt here olds placed i outs l ss fits t0 c st stands) l fits.regions x b off));
    file_flags = file_flag;
    own = own_holds;
    flags = own_flags;
    own_same = λ x b off. (own_same x b off).0;
    flags_same = λ x b off. (own_same x b off).1;
    behind = behind;
  }

  pub stays_there : all_told m (after ∷ st ∷ olds) (stay_trees p s texts contract pt l) ≡ true
  stays_there = stays_told m p s texts setting.globals contract fits.assumes pt here olds placed c.world st
      (sees m p s texts setting contract pt here olds placed i outs l ss fits t0 c st stands) l fits.regions after file_same

  local_is : (x : ℕ) (v : Variable) → slice_get s.variables x ≡ Some v → LocalIs p v (d.world.locals x) (at after (local_value (sizes p s) x)) (at after (local_flag (sizes p s) x))
  local_is x v e =
      let now = local_now x (found_below s.variables x v e) in
      record {
        same = told x v e ∙ (λ j. plain (number (sym now.0 j)) (is_equal (pos 1) (sym now.1 j)));
        is_flag = subst IsFlag (sym now.1) (flag_told (is_set_by (d.world.locals x)));
        fits = λ h. on_bool (local_changes l ss x) (λ on. own_holds x v e on)
            (λ off. let same = own_same x (found_below s.variables x v e) off in
            subst (λ z. holds p.model (kind_of v) z ≡ true) same.0 ((stands.locals x v e).fits (ap (λ f. v.has_value || is_equal (pos 1) f) same.1 ∙ h)));
      }

  pub slots_stand : StandsFor p s t0 i (all_live ss outs no_temporaries) d after
  slots_stand = record {
    size = size ∙ stands.size;
    good = head.good;
    blocks = record { live = λ b. head.blocks.live b ∙ stands.blocks.live b; more = more_blocks t0 c.world.memory.blocks d.world.memory.blocks stands.blocks.more head.blocks.more };
    globals = file_cell;
    locals = local_is;
    temporaries = λ j b live. let t = stands.temporaries j b live in
        let same = behind (temp_slot (sizes p s) j) (omega arith) in
        record { same = head.temporaries j (fits.temporaries j live) ∙ t.same ∙ ap number same; fits = ap (holds p.model (s.temp_kind j)) (sym same) ∙ t.fits };
    unscoped = λ x b out. let h = stands.unscoped x b out in
        let same = own_same x b (off_unscoped m p s texts setting contract pt here olds placed i outs l ss fits t0 c st stands x out) in
        (sym same.0 ∙ h.0, sym same.1 ∙ h.1);
  }
