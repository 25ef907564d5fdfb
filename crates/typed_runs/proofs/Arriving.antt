-- A function that is entered: its parameters hold the arguments.
use Rattle.std.proofs.Common.{◌≡◌, ℕ, zero, suc, ◌+◌, ◌<◌, Bool, true, false, ◌||◌, ℤ, pos, negsuc, List, [], ◌∷◌, length, Some, is_some, slice_get, refl, sym, ap, ◌∙◌, subst, arith}
use Rattle.std.specs.Prelude.{◌==◌, nat_lt, int_le, int_lt}
use Rattle.std.specs.Ordering.{int_eq}
use Rattle.std.specs.List.{list_all}
use Rattle.std.proofs.lemmas.Bool.{false≢true, and_parts, ltb-true, lt-ltb}
use Rattle.wp_base.specs.declared.kinds.CellKind.{CellKind}
use Rattle.wp_base.specs.declared.kinds.CellKind.TheVariants as cell
use Rattle.wp_base.specs.declared.kinds.Kind.{Kind}
use Rattle.wp_base.specs.Blocks.{Table, count, cells_of, block_at, block_of, block_cells, has_cell, is_cell, len}
use Rattle.c_kinds.specs.Models.{high, difference_kind}
use Rattle.typed_prog.specs.Tree as tree
use Rattle.c_runs.specs.TruthStates.{Value}
use Rattle.c_runs.specs.Truth.{value_at}
use Rattle.c_runs.specs.Program.{Variable, Facts}
use Rattle.c_runs.specs.States.{plain, home, Memory, World, no_locals, with_local, with_memory, stored_in}
use Rattle.c_runs.specs.Scopes.{is_content, with_block, param_made, params_made, arrived}
use Rattle.c_runs.specs.Entry.{is_value, leads_well, are_arguments, all_lead_well}
use Rattle.c_runs.specs.Values.{Temps}
use Rattle.c_runs.specs.CoreRun.{CoreWorld, in_world, begun}
use Rattle.c_runs.specs.Tests.{totals}
use Rattle.goal_segments.specs.Told.{with_name, is_param}
use Rattle.plain_runs.specs.Fitting.{IsGood}
use Rattle.plain_runs.proofs.Scopes.{zero_of}
use Rattle.c_runs.specs.Calls.{nought}
use Rattle.typed_memories.proofs.Tests.{on_test, chosen, unchosen, not_both, both_so, same_number, or_left}
use Rattle.typed_memories.proofs.CellKinds.{same_kind}
use Rattle.typed_memories.proofs.Stated.{content_has_form}
use Rattle.typed_memories.specs.Changes.{StillThere}
use Rattle.typed_memories.specs.ChangeLaws.{ParameterIsMade}
use Rattle.typed_memories.proofs.Tables.{not_count, new_block, other_block, stay_made}
use Rattle.typed_memories.proofs.Making.{hidden_before}
use Rattle.typed_memories.proofs.Arguments.{parameters_hold_arguments}
use Rattle.run_blocks.specs.Ends.{is_short}
use Rattle.run_blocks.proofs.Standing.{still}
use Rattle.run_blocks.proofs.Good.{content_more, good_shaped, good_contents, have_blocks, goes_good}
use Rattle.value_terms.specs.Typed.{operand_kind}
use Rattle.program_steps.specs.Temporaries.{Temporaries}
use Rattle.typed_runs.specs.Fitting.{Shape, InScope, kind_of, ArgumentsAre}
use Rattle.typed_runs.specs.Kept.{home_at, Holds}
use Rattle.typed_runs.proofs.Values.{content_value, value_content}
use Rattle.typed_runs.proofs.Keeping.{le_same}
use Rattle.typed_runs.proofs.Opening.{Opens, same_name, name_same, now_holds, home_same, next_below, opens_none, opens_then}

-- ---- arguments

-- operands of the kinds of parameters are arguments
pub arguments_are : (p : Facts) (s : Shape) (t : Table) (n : ℕ) (ys : List Variable) (xs : List Variable) (tm : Temps) (w : World) (es : tree.Values) → ArgumentsAre p s n ys es
    → ((i : ℕ) → is_content p (count t) (operand_kind es i) (value_at (totals p xs tm w es) i) ≡ true)
    → (are_arguments p t n ys (totals p xs tm w es) ≡ true) × (all_lead_well (totals p xs tm w es) ≡ true)
arguments_are p s t zero ys xs tm w tree.stop h held = (refl, refl)
arguments_are p s t zero ys xs tm w (tree.more e es) h held = absurd h
arguments_are p s t (suc n) [] xs tm w es h held = absurd h
arguments_are p s t (suc n) (y ∷ ys) xs tm w tree.stop h held = absurd h
arguments_are p s t (suc n) (y ∷ ys) xs tm w (tree.more e es) h held =
    let rest = arguments_are p s t n ys xs tm w es h.1 (λ i. held (suc i)) in
    let v = value_at (totals p xs tm w (tree.more e es)) 0 in
    let one = content_value p t (kind_of y) v (subst (λ k. is_content p (count t) k v ≡ true) h.0 (held 0)) in
    (both_so _ (are_arguments p t n ys (totals p xs tm w es)) one.0 rest.0, both_so _ (all_lead_well (totals p xs tm w es)) one.1 rest.1)

-- for each parameter from a number on a value of its kind
abbrev pub Given : Facts → (blocks : ℤ) → List Variable → (first : ℕ) → List Value → Type 0
Given p n xs j [] = Unit {0}
Given p n xs j (v ∷ vs) = ((y : Variable) × (slice_get xs j ≡ Some y) × (is_content p n (kind_of y) v ≡ true)) × Given p n xs (suc j) vs

pub given_of : (p : Facts) (t : Table) (xs : List Variable) (j n : ℕ) (ys : List Variable) (vs : List Value) → ((i : ℕ) → slice_get xs (j + i) ≡ slice_get ys i)
    → are_arguments p t n ys vs ≡ true → all_lead_well vs ≡ true → Given p (count t) xs j vs × (length vs ≡ n)
given_of p t xs j zero ys [] same h l = (tt, refl)
given_of p t xs j zero ys (v ∷ vs) same h l = absurd (false≢true h)
given_of p t xs j (suc n) [] vs same h l = absurd (false≢true h)
given_of p t xs j (suc n) (y ∷ ys) [] same h l = absurd (false≢true h)
given_of p t xs j (suc n) (y ∷ ys) (v ∷ vs) same h l =
    let one = and_parts (is_value p t (kind_of y) v) (are_arguments p t n ys vs) h in
    let lead = and_parts (leads_well v) (all_lead_well vs) l in
    let here : j ≡ j + 0 = omega arith in
    let rest = given_of p t xs (suc j) n ys vs (λ i. let e : suc j + i ≡ j + suc i = omega arith in ap (slice_get xs) e ∙ same (suc i)) one.1 lead.1 in
    (((y, ap (slice_get xs) here ∙ same 0, value_content p t (kind_of y) v one.0 lead.0), rest.0), ap suc rest.1)

pub given_more : (p : Facts) (n m : ℤ) (xs : List Variable) (j : ℕ) (vs : List Value) → int_le n m ≡ true → Given p n xs j vs → Given p m xs j vs
given_more p n m xs j [] le h = tt
given_more p n m xs j (v ∷ vs) le h = ((h.0.0, h.0.1, content_more p n m le (kind_of h.0.0) v h.0.2), given_more p n m xs (suc j) vs le h.1)

-- ---- a parameter with a block

module _ (p : Facts) (x : ℕ) (y : Variable) (v : Value) (w : World) (good : IsGood p w.memory) (not_plain : y.is_plain ≡ false) (one : cells_of y.layout ≡ kind_of y ∷ [])
    (short : is_short p y ≡ true) (content : is_content p (count w.memory.blocks) (kind_of y) v ≡ true) where
  abbrev n : Memory
  n = (param_made x (Some y) v w).memory

  abbrev c : ℤ
  c = count w.memory.blocks

  abbrev facts : ParameterIsMade x y v (kind_of y) w
  facts = parameters_hold_arguments x y v (kind_of y) w not_plain one

  pub param_there : StillThere w.memory.blocks n.blocks
  param_there = subst (StillThere w.memory.blocks) (sym facts.makes.blocks) (stay_made w.memory.blocks w.memory.blocks (still w.memory.blocks) y.layout)

  same_block : (b : ℤ) → int_eq b c ≡ false → block_at n.blocks b ≡ block_at w.memory.blocks b
  same_block b other = ap (λ t. block_at t b) facts.makes.blocks ∙ other_block w.memory.blocks y.layout b other

  pub param_block : block_at n.blocks c ≡ block_of y.layout
  param_block = ap (λ t. block_at t c) facts.makes.blocks ∙ new_block w.memory.blocks y.layout

  only : (l : CellKind) (o : ℤ) → has_cell l (kind_of y ∷ []) o ≡ true → (o ≡ pos 0) × (l ≡ kind_of y)
  only l (pos zero) h = (refl, same_kind l (kind_of y) h)
  only l (pos (suc i)) h = absurd (false≢true h)
  only l (negsuc i) h = absurd (false≢true h)

  param_contents : (l : CellKind) (b o : ℤ) → is_cell l n.blocks b o ≡ true → is_content p (count n.blocks) l (n.cells b o) ≡ true
  param_contents l b o is = on_test (int_eq b c)
      (λ same. let e = same_number b c same in
      let there = only l o (sym (ap (λ ks. has_cell l ks o) one) ∙ sym (ap (λ x. has_cell l (block_cells x) o) param_block) ∙ subst (λ b. is_cell l n.blocks b o ≡ true) e is) in
      let held : n.cells b o ≡ v = ap (λ b. n.cells b o) e ∙ ap (n.cells c) there.0 ∙ facts.holds in
      ap (is_content p (count n.blocks) l) held ∙ ap (λ l. is_content p (count n.blocks) l v) there.1 ∙ content_more p c (count n.blocks) param_there.more (kind_of y) v content)
      (λ other. ap (is_content p (count n.blocks) l) (facts.makes.cells b o other)
      ∙ content_more p c (count n.blocks) param_there.more l (w.memory.cells b o)
      (good_contents p w.memory good l b o (sym (ap (λ x. has_cell l (block_cells x) o) (same_block b other)) ∙ is)))

  param_short : (b : ℤ) → int_le (len n.blocks b) (high p.model (difference_kind p.model)) ≡ true
  param_short b = on_test (int_eq b c)
      (λ same. ap (λ x. int_le (pos (length (block_cells x))) (high p.model (difference_kind p.model))) (ap (block_at n.blocks) (same_number b c same) ∙ param_block)
      ∙ or_left y.is_plain _ short not_plain)
      (λ other. ap (λ x. int_le (pos (length (block_cells x))) (high p.model (difference_kind p.model))) (same_block b other) ∙ good.well.short b)

  pub param_good : IsGood p n
  param_good =
      goes_good p w.memory good n param_there.more (have_blocks p w.memory good n.blocks param_there)
      (λ i o. facts.makes.cells (negsuc i) o (not_count (negsuc i) c (hidden_before i (suc (length w.memory.blocks)))))
      (facts.shaped (content_has_form p c (kind_of y) v content) (good_shaped p w.memory good)) param_contents param_short

  pub param_cells : (b o : ℤ) → int_lt b c ≡ true → n.cells b o ≡ w.memory.cells b o
  param_cells b o below = facts.makes.cells b o (not_count b c below)

-- ---- one parameter

short_at : (p : Facts) (xs : List Variable) → list_all (is_short p) xs ≡ true → (x : ℕ) (v : Variable) → slice_get xs x ≡ Some v → is_short p v ≡ true
short_at p [] h x v e = absurd (false≢true (ap is_some e))
short_at p (y ∷ xs) h zero v e = subst (λ v. is_short p v ≡ true) (by y v e) (and_parts (is_short p y) (list_all (is_short p) xs) h).0 where
  by : (y v : Variable) → Some y ≡ Some v → y ≡ v
  by y v e = cc
short_at p (y ∷ xs) h (suc x) v e = short_at p xs (and_parts (is_short p y) (list_all (is_short p) xs) h).1 x v e

module _ (p : Facts) (s : Shape) (short : list_all (is_short p) s.variables ≡ true) (f : InScope) (t : Temporaries) (x : ℕ) (y : Variable) (found : slice_get s.variables x ≡ Some y)
    (c : CoreWorld) (h : Holds p s f t c) (v : Value) (content : is_content p (count c.world.memory.blocks) (kind_of y) v ≡ true)
    (one_cell : y.is_plain ≡ false → cells_of y.layout ≡ kind_of y ∷ []) where
  abbrev now : World
  now = param_made x (Some y) v c.world

  param_opens : Opens p s f (with_name x f) t (λ z. x == z) c (in_world c now)
  param_opens = on_test y.is_plain
      (λ is.
      subst (λ u. Opens p s f (with_name x f) t (λ z. x == z) c (in_world c u)) (sym (chosen y.is_plain (with_local x (plain v true) c.world) _ is))
      (record {
        holds = now_holds p s short f t x y found c h (with_local x (plain v true) c.world) (plain v true) h.good refl (still c.world.memory.blocks)
            (λ is. record { held = v; is_set = true; same = refl; content = content }) (λ not_plain. not_both y.is_plain is not_plain);
        there = still c.world.memory.blocks;
        cells = λ b o below. refl;
        others = λ z other. unchosen (x == z) (plain v true) (c.world.locals z) other;
        homes = λ z b here e. absurd (false≢true (ap is_some (sym (ap home_at (chosen (x == z) (plain v true) (c.world.locals z) here)) ∙ e)));
        temps = λ n. refl;
      }))
      (λ not_plain.
      let b = count c.world.memory.blocks in
      let made = with_local x (home b) (with_memory (stored_in b (pos 0) v (with_block y c.world.memory)) c.world) in
      let is_made : now ≡ made = unchosen y.is_plain (with_local x (plain v true) c.world) made not_plain in
      let one = one_cell not_plain in
      let there = subst (λ u. StillThere c.world.memory.blocks u.memory.blocks) is_made (param_there p x y v c.world h.good not_plain one (short_at p s.variables short x y found) content) in
      subst (λ u. Opens p s f (with_name x f) t (λ z. x == z) c (in_world c u)) (sym is_made)
      (record {
        holds = now_holds p s short f t x y found c h made (home b)
            (subst (λ u. IsGood p u.memory) is_made (param_good p x y v c.world h.good not_plain one (short_at p s.variables short x y found) content)) refl there
            (λ is. not_both y.is_plain is not_plain)
            (λ h'. record {
              block = b;
              same = refl;
              made = next_below c.world.memory.blocks y.layout;
              layout = subst (λ u. block_at u.memory.blocks b ≡ block_of y.layout) is_made (param_block p x y v c.world h.good not_plain one (short_at p s.variables short x y found) content);
            });
        there = there;
        cells = λ i o below. ap (λ u. u.memory.cells i o) (sym is_made) ∙ param_cells p x y v c.world h.good not_plain one (short_at p s.variables short x y found) content i o below;
        others = λ z other. unchosen (x == z) (home b) (c.world.locals z) other;
        homes = λ z i here e. subst (λ j. int_le b j ≡ true) (home_same b i (sym (ap home_at (chosen (x == z) (home b) (c.world.locals z) here)) ∙ e)) (le_same b);
        temps = λ n. refl;
      }))

-- ---- all of them

named : (n x : ℕ) → with_name n (is_param n) x ≡ is_param (suc n) x
named n x = on_test (n == x)
    (λ here. let e = same_name n x here in ap (λ b. b || nat_lt x n) here ∙ sym (lt-ltb x (suc n) (omega (arith, e))))
    (λ other. ap (λ b. b || nat_lt x n) other ∙ by (nat_lt x n) (nat_lt x (suc n)) refl refl other) where
      by : (a b : Bool) → nat_lt x n ≡ a → nat_lt x (suc n) ≡ b → (n == x) ≡ false → a ≡ b
      by true true h k o = refl
      by true false h k o = let l = ltb-true x n h in absurd (false≢true (sym k ∙ lt-ltb x (suc n) (omega (arith, l))))
      by false true h k o =
          let l = ltb-true x (suc n) k in
          let apart : n ≡ x → ⊥ = λ e. false≢true (sym o ∙ subst (λ z. (n == z) ≡ true) e (name_same n)) in
          let below : x < n = grind (arith, l, apart) in absurd (false≢true (sym h ∙ lt-ltb x n below))
      by false false h k o = refl

module _ (p : Facts) (s : Shape) (short : list_all (is_short p) s.variables ≡ true) (t : Temporaries) (params : ℕ)
    (one_cell : (x : ℕ) (v : Variable) → x < params → slice_get s.variables x ≡ Some v → v.is_plain ≡ false → cells_of v.layout ≡ kind_of v ∷ []) where
  params_open : (n : ℕ) (vs : List Value) (c : CoreWorld) → n + length vs ≡ params → Given p (count c.world.memory.blocks) s.variables n vs → Holds p s (is_param n) t c
      → (new : InScope) × Opens p s (is_param n) (is_param params) t new c (in_world c (params_made s.variables n vs c.world))
  params_open n [] c e given h =
      let same : n ≡ params = omega (arith, e) in
      ((λ x. false), subst (λ m. Opens p s (is_param n) (is_param m) t (λ x. false) c c) same (opens_none p s short t (is_param n) c h))
  params_open n (v ∷ vs) c e given h =
      let y = given.0.0 in
      let now = in_world c (param_made n (Some y) v c.world) in
      let first : Opens p s (is_param n) (is_param (suc n)) t (λ z. n == z) c now =
      subst (λ g. Opens p s (is_param n) g t (λ z. n == z) c now) (λ i x. named n x i)
      (param_opens p s short (is_param n) t n y given.0.1 c h v given.0.2 (one_cell n y (omega (arith, e)) given.0.1)) in
      let rest = params_open (suc n) vs now (omega (arith, e)) (given_more p (count c.world.memory.blocks) (count now.world.memory.blocks) s.variables
      (suc n) vs first.there.more given.1) first.holds in (
        (λ x. (n == x) || rest.0 x),
        subst (λ o. Opens p s (is_param n) (is_param params) t (λ x. (n == x) || rest.0 x) c (in_world c (params_made s.variables (suc n) vs (param_made n o v c.world)))) (sym given.0.1)
            (opens_then p s short t (is_param n) (is_param (suc n)) (is_param params) (λ x. n == x) rest.0 c now (in_world now (params_made s.variables (suc n) vs now.world)) first rest.1),
      )

-- a function that is entered in a good state, in a world that fits
pub record Arrives (p : Facts) (s : Shape) (params : ℕ) (t : Temporaries) (w : World) (d : CoreWorld) : Type 0 where
  pub holds : Holds p s (is_param params) t d
  pub there : StillThere w.memory.blocks d.world.memory.blocks
  pub cells : (b o : ℤ) → int_lt b (count w.memory.blocks) ≡ true → d.world.memory.cells b o ≡ w.memory.cells b o
  pub homes : (x : ℕ) (b : ℤ) → home_at (d.world.locals x) ≡ Some b → int_le (count w.memory.blocks) b ≡ true

pub arrives : (p : Facts) (s : Shape) → list_all (is_short p) s.variables ≡ true → (t : Temporaries) → ((n : ℕ) → t n ≡ true → (k : Kind) × (s.temp_kind n ≡ cell.Of k)) → (params : ℕ)
    → ((x : ℕ) (v : Variable) → x < params → slice_get s.variables x ≡ Some v → v.is_plain ≡ false → cells_of v.layout ≡ kind_of v ∷ [])
    → (vs : List Value) (w : World) → IsGood p w.memory → are_arguments p w.memory.blocks params s.variables vs ≡ true → all_lead_well vs ≡ true
    → Arrives p s params t w (begun (arrived s.variables vs w))
arrives p s short t unset_kind params one_cell vs w good args lead =
    let given = given_of p w.memory.blocks s.variables 0 params s.variables vs (λ i. let e : 0 + i ≡ i = omega arith in ap (slice_get s.variables) e) args lead in
    let c = begun (record w { locals = no_locals }) in
    let many = given.1 in
    let opens = params_open p s short t params one_cell 0 vs c (omega (arith, many)) given.0
    (record {
      good = good;
      locals = λ x v e on is. let l = ltb-true x 0 on in absurd (omega (arith, l));
      homes = λ x v e on not_plain. let l = ltb-true x 0 on in absurd (omega (arith, l));
      scoped = λ x out. refl;
      temporaries = λ n used. let k = unset_kind n used in ap (λ k. is_content p (count w.memory.blocks) k nought) k.1 ∙ zero_of p.model k.0;
    }) in
    record {
      holds = opens.1.holds;
      there = opens.1.there;
      cells = opens.1.cells;
      homes = λ x b e. on_test (opens.0 x)
          (λ new. opens.1.homes x b new e)
          (λ old. absurd (false≢true (ap is_some (sym (ap home_at (opens.1.others x old)) ∙ e))));
    }
