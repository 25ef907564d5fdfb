-- Parameters arrive: those that have blocks get them one after the other, and the others hold their arguments where the function is entered.
use Rattle.std.proofs.Common.{◌≡◌, ◌⊎◌, ◌<◌, ◌≤◌, ℕ, zero, suc, ◌+◌, ℤ, pos, Bool, true, false, not, ◌&&◌, ◌||◌, if◌then◌else◌, List, [], ◌∷◌, length, Option, Some, None, slice_get, refl, sym, ap, ◌∙◌, subst, inl, inr, arith, add-zero}
use Rattle.std.specs.Prelude.{◌==◌, nat_lt, int_le}
use Rattle.std.specs.List.{list_all}
use Rattle.std.proofs.lemmas.Bool.{false≢true, and_parts, ltb-true, ltb-false, lt-ltb}
use Rattle.std.proofs.lemmas.Bool.Decides.{Decides-eqb}
use Rattle.std.proofs.lemmas.Option.{none-some, same_Some}
use Rattle.wp_base.specs.declared.kinds.CellKind.{CellKind}
use Rattle.wp_base.specs.Blocks.{Table, alloc, count, cells_of, has_layout}
use Rattle.wp_base.specs.declared.kinds.Layout.{Layout}
use Rattle.c_kinds.specs.Models.{high, difference_kind}
use Rattle.typed_prog.specs.declared.operators.Variable.TheVariants as variables
use Rattle.qed_terms.specs.Meaning as sense
use Rattle.qed_terms.specs.Operators.{is_equal}
use Rattle.c_runs.specs.TruthStates.{Value}
use Rattle.c_runs.specs.Program.{Variable, Function, Facts}
use Rattle.c_runs.specs.States.{Local, plain, home, unset, World, no_locals, at, with_local, with_memory, stored_in}
use Rattle.c_runs.specs.Scopes.{arrived, is_content}
use Rattle.c_runs.specs.Scopes as machine
use Rattle.c_runs.specs.CoreRun.{CoreWorld, begun}
use Rattle.c_runs.specs.Tree.{Steps}
use Rattle.run_blocks.specs.Ends.{is_short}
use Rattle.run_blocks.proofs.Standing.{still, still_then}
use Rattle.typed_memories.proofs.Tests.{on_test, chosen, unchosen, neither, or_left}
use Rattle.typed_memories.specs.Changes.{StillThere, SameCells}
use Rattle.typed_memories.proofs.Ending.{standing_blocks_stay}
use Rattle.typed_memories.proofs.Alone.{newer_blocks_lack_kinds}
use Rattle.program_steps.specs.Temporaries.{Temporaries, no_temporaries, all_live}
use Rattle.memory_steps.specs.State.{State}
use Rattle.memory_steps.specs.Step as step
use Rattle.memory_steps.specs.Step.{Step, count as checks_in}
use Rattle.memory_steps.specs.Run as seg
use Rattle.memory_steps.specs.Run.{End, goes_on, IsOver, Seg}
use Rattle.memory_steps.proofs.Readings.{seq_ways}
use Rattle.memory_words.specs.Places.{value, offset, flag, Sizes, held, number_at}
use Rattle.memory_words.proofs.Lists.{found_below}
use Rattle.memory_words.specs.Shapes.{FileCells, Shape, sizes, kind_of}
use Rattle.memory_words.specs.Readings.{Texts}
use Rattle.memory_words.specs.Standing.{LocalIs, TempIs, Frame, StandsFor}
use Rattle.memory_words.specs.Seen.{InSetting}
use Rattle.memory_words.proofs.Sorts.{number_is}
use Rattle.memory_words.specs.Words.{has_cell_of, home_kinds, has_home}
use Rattle.memory_words.specs.Typed.{OtherFits}
use Rattle.memory_words.proofs.Storing.{content_leads}
use Rattle.memory_statements.specs.Scopes.{GoesTo}
use Rattle.memory_statements.proofs.Block.{home_kinds_of, has_home_of}
use Rattle.memory_statements.proofs.Carrying.{content_more}
use Rattle.memory_statements.proofs.Ending.{same_own}
use Rattle.memory_functions.specs.GoalFunctions as goal
use Rattle.memory_functions.specs.GoalFunctions.{is_param, numbers_from}
use Rattle.memory_functions.specs.FunctionFunctions.{FunctionFits, EntersAs, ArrivedAs}
use Rattle.memory_functions.specs.FunctionLaws.{Arrives, ParametersArrive}
use Rattle.memory_functions.proofs.Parameter as parameter

-- ---- tables

module _ (xs : List Variable) where
  -- behind arguments from this number on
  abbrev later : ℕ → List Value → World → World
  later k rest w = machine.params_made xs k rest w

  alloc_still : (t : Table) (l : Layout) → StillThere t (alloc t l)
  alloc_still t l = (standing_blocks_stay t t (still t)).made l

  one_still : (k : ℕ) (a : Value) (w : World) → StillThere w.memory.blocks (machine.param_made k (slice_get xs k) a w).memory.blocks
  one_still k a w = by (slice_get xs k) where
    by : (o : Option Variable) → StillThere w.memory.blocks (machine.param_made k o a w).memory.blocks
    by None = still w.memory.blocks
    by (Some v) = by_plain v.is_plain where
      by_plain : (t : Bool) → StillThere w.memory.blocks (if t then with_local k (plain a true) w
          else with_local k (home (count w.memory.blocks)) (with_memory (stored_in (count w.memory.blocks) (pos 0) a (machine.with_block v w.memory)) w)).memory.blocks
      by_plain true = still w.memory.blocks
      by_plain false = alloc_still w.memory.blocks v.layout

  all_still : (rest : List Value) (k : ℕ) (w : World) → StillThere w.memory.blocks (later k rest w).memory.blocks
  all_still [] k w = still w.memory.blocks
  all_still (a ∷ rest) k w =
      let one = machine.param_made k (slice_get xs k) a w in
      still_then w.memory.blocks one.memory.blocks (later (suc k) rest one).memory.blocks (one_still k a w) (all_still rest (suc k) one)

  or_two : (a b : Bool) → (a || b) ≡ false → ((a || false) ≡ false) × (b ≡ false)
  or_two true b h = absurd (false≢true (sym h))
  or_two false b h = (refl, h)

  alloc_cells : (q : CellKind) (t : Table) (v : Variable) → has_cell_of v.layout q ≡ false → SameCells q t (alloc t v.layout)
  alloc_cells q t v none = (((newer_blocks_lack_kinds q).later t t ((newer_blocks_lack_kinds q).first t)).made v.layout (ap not none)).1

  one_cells : (q : CellKind) (k : ℕ) (a : Value) (w : World) → home_kinds xs (k ∷ []) q ≡ false
      → SameCells q w.memory.blocks (machine.param_made k (slice_get xs k) a w).memory.blocks
  one_cells q k a w none = by (slice_get xs k) refl where
    by : (o : Option Variable) → slice_get xs k ≡ o → SameCells q w.memory.blocks (machine.param_made k o a w).memory.blocks
    by None same = λ b o. refl
    by (Some v) same = by_plain v.is_plain refl where
      by_plain : (t : Bool) → v.is_plain ≡ t → SameCells q w.memory.blocks (if t then with_local k (plain a true) w
          else with_local k (home (count w.memory.blocks)) (with_memory (stored_in (count w.memory.blocks) (pos 0) a (machine.with_block v w.memory)) w)).memory.blocks
      by_plain true is = λ b o. refl
      by_plain false is =
          alloc_cells q w.memory.blocks v
          (ap (λ t. not t && has_cell_of v.layout q) (sym is) ∙ (neither (not v.is_plain && has_cell_of v.layout q) false (sym (home_kinds_of xs k v q same) ∙ none)).0)

  all_cells : (q : CellKind) (rest : List Value) (k : ℕ) (w : World) → home_kinds xs (numbers_from k (length rest)) q ≡ false
      → SameCells q w.memory.blocks (later k rest w).memory.blocks
  all_cells q [] k w none b o = refl
  all_cells q (a ∷ rest) k w none b o =
      let both = or_two _ (home_kinds xs (numbers_from (suc k) (length rest)) q) none in
      all_cells q rest (suc k) (machine.param_made k (slice_get xs k) a w) both.1 b o ∙ one_cells q k a w both.0 b o

  one_none : (k : ℕ) (a : Value) (w : World) → has_home xs (k ∷ []) ≡ false → (machine.param_made k (slice_get xs k) a w).memory.blocks ≡ w.memory.blocks
  one_none k a w none = by (slice_get xs k) refl where
    by : (o : Option Variable) → slice_get xs k ≡ o → (machine.param_made k o a w).memory.blocks ≡ w.memory.blocks
    by None same = refl
    by (Some v) same = by_plain v.is_plain refl where
      by_plain : (t : Bool) → v.is_plain ≡ t → (if t then with_local k (plain a true) w
          else with_local k (home (count w.memory.blocks)) (with_memory (stored_in (count w.memory.blocks) (pos 0) a (machine.with_block v w.memory)) w)).memory.blocks
          ≡ w.memory.blocks
      by_plain true is = refl
      by_plain false is = absurd (false≢true (sym none ∙ has_home_of xs k v same ∙ ap (λ t. not t || false) is))

  all_none : (rest : List Value) (k : ℕ) (w : World) → has_home xs (numbers_from k (length rest)) ≡ false → (later k rest w).memory.blocks ≡ w.memory.blocks
  all_none [] k w none = refl
  all_none (a ∷ rest) k w none =
      let both = or_two _ (has_home xs (numbers_from (suc k) (length rest))) none in
      all_none rest (suc k) (machine.param_made k (slice_get xs k) a w) both.1 ∙ one_none k a w both.0

-- ---- tests of numbers

lt_at : (y k : ℕ) → y < k → nat_lt y k ≡ true
lt_at y k l = lt-ltb y k l

not_lt : (y k : ℕ) → k ≤ y → nat_lt y k ≡ false
not_lt y k l = on_test (nat_lt y k) (λ e. let h = ltb-true y k e in absurd (omega (arith, h, l))) (λ e. e)

apart_at : (k y : ℕ) → (k ≡ y → ⊥) → (k == y) ≡ false
apart_at k y n = on_test (k == y) (λ e. absurd (n ((Decides-eqb k y).0 e))) (λ e. e)

one_of : (y k : ℕ) → (y < k) ⊎ ((k ≡ y) ⊎ (suc k ≤ y))
one_of y k = on_test (nat_lt y k) (λ e. inl (ltb-true y k e))
    (λ e. inr (on_test (k == y) (λ t. inl ((Decides-eqb k y).0 t)) (λ f. inr (by e (λ same. false≢true (sym f ∙ (Decides-eqb k y).1 same)))))) where
      by : nat_lt y k ≡ false → (k ≡ y → ⊥) → suc k ≤ y
      by e n = on_test (nat_lt k y) (λ t. let h = ltb-true k y t in omega (arith, h))
          (λ f. absurd (n (let a = ltb-false k y f in let b = ltb-false y k e in omega (arith, a, b))))

lives_more : (k y : ℕ) → ((k == y) || nat_lt y k) ≡ nat_lt y (suc k)
lives_more k y = by (one_of y k) where
  by : (y < k) ⊎ ((k ≡ y) ⊎ (suc k ≤ y)) → ((k == y) || nat_lt y k) ≡ nat_lt y (suc k)
  by (inl l) = ap (λ t. (k == y) || t) (lt_at y k l) ∙ or_true (k == y) ∙ sym (lt_at y (suc k) (omega (arith, l))) where
    or_true : (a : Bool) → (a || true) ≡ true
    or_true true = refl
    or_true false = refl
  by (inr (inl same)) = ap (λ t. t || nat_lt y k) ((Decides-eqb k y).1 same) ∙ sym (lt_at y (suc k) (omega (arith, same)))
  by (inr (inr l)) =
      (λ i. apart_at k y (λ same. absurd (omega (arith, same, l))) i || not_lt y k (omega (arith, l)) i) ∙ sym (not_lt y (suc k) l)

some_at : {X : Type 0} (xs : List X) (i : ℕ) → i < length xs → (x : X) × (slice_get xs i ≡ Some x)
some_at [] i l = absurd (omega (arith, l))
some_at (x ∷ xs) zero l = (x, refl)
some_at (x ∷ xs) (suc i) l = some_at xs i (omega (arith, l))

none_at : {X : Type 0} (xs : List X) (i : ℕ) → length xs ≤ i → slice_get xs i ≡ None
none_at [] i l = refl
none_at (x ∷ xs) zero l = absurd (omega (arith, l))
none_at (x ∷ xs) (suc i) l = none_at xs i (omega (arith, l))

all_at : {X : Type 0} (t : X → Bool) (xs : List X) (i : ℕ) (x : X) → list_all t xs ≡ true → slice_get xs i ≡ Some x → t x ≡ true
all_at t [] i x h e = absurd (none-some x e)
all_at t (y ∷ xs) zero x h e = ap t (sym (same_Some y x e)) ∙ (and_parts (t y) (list_all t xs) h).0
all_at t (y ∷ xs) (suc i) x h e = all_at t xs i x (and_parts (t y) (list_all t xs) h).1 e

-- ---- one word behind the other

goes_parts : {a b : State} → goes_on a ≡ goes_on b → a ≡ b
goes_parts e = cc

goes_then : {olds : List State} {a b : Step} {st : State} {so also : State → Type 0} → GoesTo olds a st so → ((mid : State) → so mid → GoesTo olds b mid also)
    → GoesTo olds (step.seq a b) st also
goes_then {olds} {a} {b} {st} {so} {also} x y = record {
  forth = λ n. let q = x.forth n in let r = (y q.0 q.2).forth (n + checks_in a) in (r.0, seg.goes_both q.1 r.1, r.2);
  back = λ n e k. by n e (seq_ways k);
}
  where
    by : (n : ℕ) (e : End) → (IsOver e × Seg olds n a st e) ⊎ ((mid : State) × Seg olds n a st (goes_on mid) × Seg olds (n + checks_in a) b mid e)
        → (new : State) × (goes_on new ≡ e) × also new
    by n e (inl (over, k)) = let q = x.back n e k in absurd (subst IsOver (sym q.1) over)
    by n e (inr (mid, k, l)) =
        let q = x.back n (goes_on mid) k in
        (y q.0 q.2).back (n + checks_in a) e (subst (λ mid. Seg olds (n + checks_in a) b mid e) (sym (goes_parts q.1)) l)

skip_way : {olds : List State} {n : ℕ} {st : State} (e : End) → Seg olds n step.skip st e → goes_on st ≡ e
skip_way _ seg.skips = refl

stays_there : {olds : List State} {st : State} {so : State → Type 0} → so st → GoesTo olds step.skip st so
stays_there {olds} {st} {so} h = record { forth = λ n. (st, seg.skips, h); back = λ n e k. (st, skip_way e k, h) }

-- ---- slots

module _ (m : sense.World) (p : Facts) (s : Shape) (cells : FileCells) (texts : Texts) (own : ℕ) (f : Function Steps) (asked : OtherFits) (setting : InSetting m p s cells)
    (fits : FunctionFits m p s cells texts asked own f) (short : list_all (is_short p) s.variables ≡ true) (vs : List Value) (w : World) (st : State)
    (enters : EntersAs p s cells f vs w st) where
  abbrev z : Sizes
  z = sizes p s

  abbrev used : Temporaries
  used = all_live f.body [] no_temporaries

  -- a parameter that hasn't arrived yet: one that has a block counts as if what its slot holds were the number of its block, which doesn't live
  abbrev early_by : ℕ → Option Variable → Option Value → Local
  early_by y (Some v) (Some a) = if v.is_plain then plain a true else home (number_at z st (value (variables.Local y)))
  early_by y (Some v) None = unset
  early_by y None o = unset

  abbrev early : ℕ → Local
  early y = early_by y (slice_get s.variables y) (slice_get vs y)

  abbrev fake : ℕ → (ℕ → Local) → ℕ → Local
  fake k l y = if nat_lt y k then l y else early y

  abbrev faked : ℕ → World → World
  faked k u = record u { locals = fake k u.locals }

  abbrev frame : ℕ → Table → (ℕ → ℤ) → Frame
  frame k t homes = record { in_scope = is_param f.params; table = t; lives = λ y. nat_lt y k; homes = homes }

  abbrev homes_first : ℕ → ℤ
  homes_first y = number_at z st (value (variables.Local y))

  abbrev begin : World
  begin = record w { locals = no_locals }

  abbrev Stands : ℕ → (ℕ → ℤ) → World → State → Type 0
  Stands k homes u st' = StandsFor p s cells (frame k u.memory.blocks homes) used (begun (faked k u)) st'

  by_none : (x : ℕ) (o : Option Variable) (a : Option Value) → a ≡ None → early_by x o a ≡ unset
  by_none x (Some v) (Some a) e = absurd (none-some a (sym e))
  by_none x (Some v) None e = refl
  by_none x None a e = refl

  unset_at : (x : ℕ) → is_param f.params x ≡ false → early x ≡ unset
  unset_at x out = by_none x (slice_get s.variables x) (slice_get vs x)
      (none_at vs x (let h = ltb-false x f.params out in let c = enters.count in omega (arith, h, c)))

  starts : Stands 0 homes_first begin st
  starts = record {
    size = enters.size;
    sorted = enters.sorted;
    good = enters.file.good;
    blocks_are = same_own w.memory.blocks;
    table_is = enters.file.table_is;
    numbers_are = enters.file.numbers_are;
    pointers_are = enters.file.pointers_are;
    globals = enters.file.globals;
    locals = λ x v e plainly scoped.
        let q = enters.arguments x v e scoped in
        let one : number_at z st (flag (variables.Local x)) ≡ pos 1 = enters.set x v e scoped in
        record {
          content = q.0;
          same = not_there x ∙ (λ i. early_by x (e i) (q.1 i)) ∙ (λ i. if plainly i then plain q.0 true else home (number_at z st (value (variables.Local x))))
              ∙ (λ i. plain q.0 (is_equal (pos 1) (sym one i)));
          is = q.2.is;
          is_flag = inr one;
          fits = λ h. q.2.fits;
          leads = content_leads p (count w.memory.blocks) (kind_of v) q.0 q.2.fits;
        };
    homes = λ x v e block scoped.
        let q = enters.arguments x v e scoped in (
          not_there x ∙ (λ i. early_by x (e i) (q.1 i)) ∙ (λ i. if block i then plain q.0 true else home (number_at z st (value (variables.Local x)))),
          number_is (held z st (value (variables.Local x))) (enters.sorted (value (variables.Local x)) (found_below s.variables x v e) refl),
        );
    living = λ x v e block scoped lives. let h = ltb-true x 0 lives in absurd (omega (arith, h));
    temporaries = enters.temporaries;
    unscoped = λ x l out. let h = enters.unset x l out in (not_there x ∙ unset_at x out, h.0, h.1, h.2);
  }
    where
      not_there : (x : ℕ) → fake 0 no_locals x ≡ early x
      not_there x = unchosen (nat_lt x 0) unset (early x) (not_lt x 0 (omega arith))

  -- ---- one parameter

  fake_put : (k : ℕ) (d : Local) (l : ℕ → Local) (y : ℕ) → at k d (fake k l) y ≡ fake (suc k) (at k d l) y
  fake_put k d l y = by (one_of y k) where
    by : (y < k) ⊎ ((k ≡ y) ⊎ (suc k ≤ y)) → at k d (fake k l) y ≡ fake (suc k) (at k d l) y
    by (inl less) =
        let n = apart_at k y (λ same. absurd (omega (arith, same, less))) in
        unchosen (k == y) d (fake k l y) n ∙ chosen (nat_lt y k) (l y) (early y) (lt_at y k less)
        ∙ sym (chosen (nat_lt y (suc k)) (at k d l y) (early y) (lt_at y (suc k) (omega (arith, less))) ∙ unchosen (k == y) d (l y) n)
    by (inr (inl same)) =
        let e = (Decides-eqb k y).1 same in
        chosen (k == y) d (fake k l y) e
        ∙ sym (chosen (nat_lt y (suc k)) (at k d l y) (early y) (lt_at y (suc k) (omega (arith, same))) ∙ chosen (k == y) d (l y) e)
    by (inr (inr more)) =
        unchosen (k == y) d (fake k l y) (apart_at k y (λ same. absurd (omega (arith, same, more)))) ∙ unchosen (nat_lt y k) (l y) (early y) (not_lt y k (omega (arith, more)))
        ∙ sym (unchosen (nat_lt y (suc k)) (at k d l y) (early y) (not_lt y (suc k) more))

  fake_here : (k : ℕ) (l : ℕ → Local) (y : ℕ) → fake k l y ≡ at k (early k) (fake k l) y
  fake_here k l y = on_test (k == y)
      (λ t. let same = (Decides-eqb k y).0 t in
      unchosen (nat_lt y k) (l y) (early y) (not_lt y k (omega (arith, same))) ∙ ap early (sym same) ∙ sym (chosen (k == y) (early k) (fake k l y) t))
      (λ f. sym (unchosen (k == y) (early k) (fake k l y) f))

  module _ (k : ℕ) (inside : k < f.params) (a : Value) (arg : slice_get vs k ≡ Some a) (v : Variable) (found : slice_get s.variables k ≡ Some v) (homes : ℕ → ℤ) (u : World)
      (still_there : StillThere w.memory.blocks u.memory.blocks) (st' : State) (stands : Stands k homes u st') where
    abbrev So : World → State → Type 0
    So u' new = (homes : ℕ → ℤ) × Stands (suc k) homes u' new

    scoped : is_param f.params k ≡ true
    scoped = lt_at k f.params inside

    is_argument : (q : Value) × (slice_get vs k ≡ Some q) × TempIs p w.memory.blocks (kind_of v) q (number_at z st (value (variables.Local k))) (number_at z st (offset (variables.Local k)))
        → TempIs p w.memory.blocks (kind_of v) a (number_at z st (value (variables.Local k))) (number_at z st (offset (variables.Local k)))
    is_argument (q, e, t) =
        subst (λ q. TempIs p w.memory.blocks (kind_of v) q (number_at z st (value (variables.Local k))) (number_at z st (offset (variables.Local k)))) (same_Some q a (sym e ∙ arg)) t

    argument : TempIs p w.memory.blocks (kind_of v) a (number_at z st (value (variables.Local k))) (number_at z st (offset (variables.Local k)))
    argument = is_argument (enters.arguments k v found scoped)

    plain_stands : v.is_plain ≡ true → So (with_local k (plain a true) u) st'
    plain_stands plainly = (
      homes,
      record {
        size = moved.size;
        sorted = moved.sorted;
        good = moved.good;
        blocks_are = moved.blocks_are;
        table_is = moved.table_is;
        numbers_are = moved.numbers_are;
        pointers_are = moved.pointers_are;
        globals = moved.globals;
        locals = moved.locals;
        homes = moved.homes;
        living = λ x v' e block inside_it lives. by x v' e block inside_it (one_of x k) lives;
        temporaries = moved.temporaries;
        unscoped = moved.unscoped;
      },
    )
      where
        early_so : early k ≡ plain a true
        early_so = (λ i. early_by k (found i) (arg i)) ∙ (λ i. if plainly i then plain a true else home (number_at z st (value (variables.Local k))))

        locals_so : (y : ℕ) → fake k u.locals y ≡ fake (suc k) (at k (plain a true) u.locals) y
        locals_so y = fake_here k u.locals y ∙ (λ i. at k (early_so i) (fake k u.locals) y) ∙ fake_put k (plain a true) u.locals y

        moved : StandsFor p s cells (frame k u.memory.blocks homes) used (begun (faked (suc k) (with_local k (plain a true) u))) st'
        moved = subst (λ l. StandsFor p s cells (frame k u.memory.blocks homes) used (begun (record u { locals = l })) st') (λ i y. locals_so y i) stands

        by : (x : ℕ) (v' : Variable) → slice_get s.variables x ≡ Some v' → v'.is_plain ≡ false → is_param f.params x ≡ true → (x < k) ⊎ ((k ≡ x) ⊎ (suc k ≤ x)) → nat_lt x (suc k) ≡ true
            → has_layout u.memory.blocks (homes x) v'.layout ≡ true
        by x v' e block inside_it (inl less) lives = moved.living x v' e block inside_it (lt_at x k less)
        by x v' e block inside_it (inr (inl same)) lives =
            absurd (false≢true (sym block ∙ ap (λ (v : Variable). v.is_plain) (same_Some v' v (sym e ∙ ap (slice_get s.variables) (sym same) ∙ found)) ∙ plainly))
        by x v' e block inside_it (inr (inr more)) lives = absurd (false≢true (sym (not_lt x (suc k) more) ∙ lives))

    -- one that has a block
    module _ (block : v.is_plain ≡ false) where
      content : is_content p (count u.memory.blocks) (kind_of v) a ≡ true
      content = content_more p (count w.memory.blocks) (count u.memory.blocks) still_there.more (kind_of v) a argument.fits

      short_one : int_le (pos (length (cells_of v.layout))) (high p.model (difference_kind p.model)) ≡ true
      short_one = or_left v.is_plain _ (all_at (is_short p) s.variables k v short found) block

      abbrev made : World
      made = with_local k (home (count u.memory.blocks)) (with_memory (stored_in (count u.memory.blocks) (pos 0) a (machine.with_block v u.memory)) u)

      abbrev homes_now : ℕ → ℤ
      homes_now y = if k == y then count u.memory.blocks else homes y

      moved_on : (new : State)
          → StandsFor p s cells (record { in_scope = is_param f.params; table = made.memory.blocks; lives = λ y. (k == y) || nat_lt y k; homes = homes_now }) used
          (begun (record made { locals = at k (home (count u.memory.blocks)) (fake k u.locals) })) new → So made new
      moved_on new h = (
        homes_now,
        subst (λ l. StandsFor p s cells (frame (suc k) made.memory.blocks homes_now) used (begun (record made { locals = l })) new)
            (λ i y. fake_put k (home (count u.memory.blocks)) u.locals y i)
            (subst (λ q. StandsFor p s cells (record { in_scope = is_param f.params; table = made.memory.blocks; lives = q; homes = homes_now }) used
            (begun (record made { locals = at k (home (count u.memory.blocks)) (fake k u.locals) })) new) (λ i y. lives_more k y i) h),
      )

      block_ways : GoesTo (st ∷ [])
          (parameter.word m p s cells setting used st k v found block (fits.params k v found scoped) short_one (frame k u.memory.blocks homes) scoped (begun (faked k u)) (faked k u) st' stands a argument.is content)
          st' (So made)
      block_ways = record {
        forth = λ n.
            let q = parameter.forth m p s cells setting used st k v found block (fits.params k v found scoped) short_one (frame k u.memory.blocks homes) scoped (begun (faked k u)) (faked k u) st' stands
            a argument.is content short n in
            (q.0, q.1, moved_on q.0 q.2);
        back = λ n e r.
            let q = parameter.back m p s cells setting used st k v found block (fits.params k v found scoped) short_one (frame k u.memory.blocks homes) scoped (begun (faked k u)) (faked k u) st' stands
            a argument.is content n e r in
            (q.0, q.1, moved_on q.0 q.2);
      }

    one_ways : GoesTo (st ∷ []) (goal.param_made m p s cells texts f.params k (slice_get s.variables k)) st' (So (machine.param_made k (slice_get s.variables k) a u))
    one_ways = subst (λ o. GoesTo (st ∷ []) (goal.param_made m p s cells texts f.params k o) st' (So (machine.param_made k o a u))) (sym found)
        (on_test v.is_plain by_plain by_block)
      where
        by_plain : v.is_plain ≡ true → GoesTo (st ∷ []) (goal.param_made m p s cells texts f.params k (Some v)) st' (So (machine.param_made k (Some v) a u))
        by_plain is = subst (λ t. GoesTo (st ∷ [])
            (if t then step.skip else parameter.word_of m p s cells k v) st'
            (So (if t then with_local k (plain a true) u
            else with_local k (home (count u.memory.blocks)) (with_memory (stored_in (count u.memory.blocks) (pos 0) a (machine.with_block v u.memory)) u)))) (sym is)
            (stays_there (plain_stands is))

        by_block : v.is_plain ≡ false → GoesTo (st ∷ []) (goal.param_made m p s cells texts f.params k (Some v)) st' (So (machine.param_made k (Some v) a u))
        by_block is = subst (λ t. GoesTo (st ∷ [])
            (if t then step.skip else parameter.word_of m p s cells k v) st'
            (So (if t then with_local k (plain a true) u
            else with_local k (home (count u.memory.blocks)) (with_memory (stored_in (count u.memory.blocks) (pos 0) a (machine.with_block v u.memory)) u)))) (sym is)
            (block_ways is)

  -- ---- all of them

  all_ways : (rest : List Value) (k : ℕ) → k + length rest ≡ f.params → ((i : ℕ) → slice_get rest i ≡ slice_get vs (k + i)) → (homes : ℕ → ℤ) (u : World)
      → StillThere w.memory.blocks u.memory.blocks → (st' : State) → Stands k homes u st'
      → GoesTo (st ∷ []) (goal.params_made m p s cells texts f.params (numbers_from k (length rest))) st'
      (λ new. (homes : ℕ → ℤ) × Stands f.params homes (later s.variables k rest u) new)
  all_ways [] k sum same homes u there st' stands = stays_there (homes, subst (λ k. Stands k homes u st') (sym (add-zero k) ∙ sum) stands)
  all_ways (a ∷ rest) k sum same homes u there st' stands =
      let inside : k < f.params = omega (arith, sum) in
      let v = some_at s.variables k (let l = fits.params_there in omega (arith, inside, l)) in
      let arg : slice_get vs k ≡ Some a = ap (slice_get vs) (sym (add-zero k)) ∙ sym (same 0) in
      goes_then (one_ways k inside a arg v.0 v.1 homes u there st' stands)
      (λ mid h. all_ways rest (suc k) (omega (arith, sum)) (λ i. same (suc i) ∙ ap (slice_get vs) (omega arith)) h.0 (machine.param_made k (slice_get s.variables k) a u)
      (still_then w.memory.blocks u.memory.blocks (machine.param_made k (slice_get s.variables k) a u).memory.blocks there (one_still s.variables k a u)) mid h.1)

  -- ---- the world of the body

  other_unset : (k : ℕ) (a : Value) (u : World) (y : ℕ) → (k ≡ y → ⊥) → (machine.param_made k (slice_get s.variables k) a u).locals y ≡ u.locals y
  other_unset k a u y n = by (slice_get s.variables k) where
    by : (o : Option Variable) → (machine.param_made k o a u).locals y ≡ u.locals y
    by None = refl
    by (Some v) = by_plain v.is_plain where
      by_plain : (t : Bool) → (if t then with_local k (plain a true) u
          else with_local k (home (count u.memory.blocks)) (with_memory (stored_in (count u.memory.blocks) (pos 0) a (machine.with_block v u.memory)) u)).locals y ≡ u.locals y
      by_plain true = unchosen (k == y) (plain a true) (u.locals y) (apart_at k y n)
      by_plain false = unchosen (k == y) (home (count u.memory.blocks)) (u.locals y) (apart_at k y n)

  rest_unset : (rest : List Value) (k : ℕ) (u : World) (y : ℕ) → k + length rest ≤ y → (later s.variables k rest u).locals y ≡ u.locals y
  rest_unset [] k u y l = refl
  rest_unset (a ∷ rest) k u y l =
      rest_unset rest (suc k) (machine.param_made k (slice_get s.variables k) a u) y (omega (arith, l)) ∙ other_unset k a u y (λ same. absurd (omega (arith, same, l)))

  abbrev body_world : World
  body_world = arrived s.variables vs w

  all_here : (y : ℕ) → fake f.params body_world.locals y ≡ body_world.locals y
  all_here y = on_test (nat_lt y f.params) (λ t. chosen (nat_lt y f.params) (body_world.locals y) (early y) t)
      (λ e. unchosen (nat_lt y f.params) (body_world.locals y) (early y) e ∙ unset_at y e
      ∙ sym (rest_unset vs 0 begin y (let h = ltb-false y f.params e in let c = enters.count in omega (arith, h, c))))

  as_arrived : (new : State) → (homes : ℕ → ℤ) × Stands f.params homes (later s.variables 0 vs begin) new → ArrivedAs p s cells f vs w new
  as_arrived new (homes, h) = record {
    homes = homes;
    stands = subst (λ l. StandsFor p s cells (frame f.params body_world.memory.blocks homes) used (begun (record body_world { locals = l })) new) (λ i y. all_here y i) h;
    blocks = all_still s.variables vs 0 begin;
    kinds = λ q none. all_cells s.variables q vs 0 begin (ap (λ n. home_kinds s.variables (numbers_from 0 n) q) enters.count ∙ none);
    none = λ none. all_none s.variables vs 0 begin (ap (λ n. has_home s.variables (numbers_from 0 n)) enters.count ∙ none);
  }

  pub arrives : (n : ℕ) → Arrives m p s cells texts f vs w st n
  arrives n =
      let q = subst (λ c. GoesTo (st ∷ []) (goal.params_made m p s cells texts f.params (numbers_from 0 c)) st (λ new. (homes : ℕ → ℤ) × Stands f.params homes (later s.variables 0 vs begin) new))
      enters.count (all_ways vs 0 (let c = enters.count in omega (arith, c)) (λ i. ap (slice_get vs) (omega arith)) homes_first begin (still w.memory.blocks) st starts) in
      record {
        forth = let r = q.forth n in (r.0, r.1, as_arrived r.0 r.2);
        back = λ e k. let r = q.back n e k in (r.0, r.1, as_arrived r.0 r.2);
      }

pub parameters_arrive : (asked : OtherFits) → ParametersArrive asked
parameters_arrive asked m p s cells texts own f setting fits short vs w st enters n = arrives m p s cells texts own f asked setting fits short vs w st enters n
