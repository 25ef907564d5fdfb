-- What is made of an expression: no more is used before it than what is left of the effect in it and what is used behind it.
use Rattle.std.proofs.Common.{ℕ, suc, ◌<◌, ◌≤◌, ℤ, pos, Bool, true, false, not, ◌&&◌, ◌||◌, if◌then◌else◌, List, ◌∷◌, length, arith}
use Rattle.std.specs.Prelude.{◌==◌}
use Rattle.std.proofs.lemmas.Bool.{false≢true}
use Rattle.typed_prog.specs.declared.types.CoreType.{CoreType}
use Rattle.typed_prog.specs.declared.operators.Connective.{Connective}
use Rattle.typed_prog.specs.Tree as t
use Rattle.c_runs.specs.Program.{Variable}
use Rattle.c_runs.specs.Values.{decides, agree}
use Rattle.c_runs.specs.Core.{set, branch, around, exit, Cores, then_, join, one}
use Rattle.c_runs.specs.Checks.{has_checks}
use Rattle.c_runs.specs.Plans.{constant_of, no_value, Made, Tests, Sent, Mades, Plan, kept, save, sent_made, jump, leaf, leafy, straight, crossed, logic_test, flag, logic_made, logic_plan, Condition, jumps_, tests_, condition, next_of, fork, into, choice_made, put_before, save_if, made_if, nothing_made}
use Rattle.loop_words.specs.Told.{Temporaries, no_temporaries, uses, some_use, out_at}
use Rattle.plain_words.proofs.Live.{either, left_in, right_in, before_set, Among, also, among_more, among_then, among_grouped, greater_below, count_in, join_below, one_below, Reaches, lives, Stays, Fine, end_fine, join_fine, around_fine, Leaves}

module _ (xs : List Variable) (i : ℕ → Bool) where
  -- `left`: the temporaries of what is left of the effect; from this number on
  pub record MadeWell (left : Temporaries) (n : ℕ) (m : Made) : Type 0 where
    pub reaches : Reaches xs m.before n m.next_temp
    pub fine : (a : Temporaries) (os : List Temporaries) (f : Temporaries) → Among left a → Among f (also a (uses m.value)) → Fine xs i a os f m.before

  pub record MadesWell (left : Temporaries) (n : ℕ) (y : Mades) : Type 0 where
    pub reaches : Reaches xs y.before n y.next_temp
    pub fine : (a : Temporaries) (os : List Temporaries) (f : Temporaries) → Among left a → Among f (also a (some_use y.values)) → Fine xs i a os f y.before

  abbrev pub only : ℕ → Temporaries
  only n j = n == j

  pub record SentWell (left : Temporaries) (n : ℕ) (x : Sent) : Type 0 where
    pub reaches : Reaches xs x.before n x.next_temp
    pub puts : (j k : ℕ) → count_in xs (one (x.put j)) ≤ k → suc j ≤ k
    pub fine : (j : ℕ) (a : Temporaries) (os : List Temporaries) (f : Temporaries) → Among left a → Among f (also a (only j)) → Fine xs i a os f (join x.before (one (x.put j)))

  -- a condition that leaves this block
  pub record TestsWell (left : Temporaries) (k n : ℕ) (x : Tests) : Type 0 where
    pub reaches : Reaches xs x.tests n x.next_temp
    pub fine : (a : Temporaries) (os : List Temporaries) (f : Temporaries) → Among left a → Leaves xs i a os k → Among f a → Fine xs i a os f x.tests

  abbrev pub AllMade : (left : Temporaries) → (ℕ → Made) → Type 0
  AllMade left g = (n : ℕ) → MadeWell left n (g n)

  pub record PlanWell (left : Temporaries) (plan : Plan) : Type 0 where
    pub made : AllMade left plan.made
    pub sent : (n : ℕ) → SentWell left n (plan.sent n)
    pub test : (want : Bool) (k n : ℕ) → TestsWell left k n (plan.test want k n)

  pub made_more : (u v : Temporaries) (n : ℕ) (m : Made) → Among u v → MadeWell u n m → MadeWell v n m
  made_more u v n m h k = record { reaches = k.reaches; fine = λ a os f g e. k.fine a os f (among_then u v a h g) e }

  pub mades_more : (u v : Temporaries) (n : ℕ) (y : Mades) → Among u v → MadesWell u n y → MadesWell v n y
  mades_more u v n y h k = record { reaches = k.reaches; fine = λ a os f g e. k.fine a os f (among_then u v a h g) e }

  -- ---- values that are set

  set_live : (n : ℕ) (v : t.Value) (a : Temporaries) (os : List Temporaries) (f : Temporaries) → Among f (also a (only n)) → Among (lives xs (one (set n v)) os f) (also a (uses v))
  set_live n v a os f h j e = before_set (uses v j) (n == j) (f j) (a j) e (h j)

  module _ (left : Temporaries) where
    pub save_well : (n : ℕ) (m : Made) → MadeWell left n m → MadeWell left n (save m)
    save_well n m h = record {
      reaches = λ k low below. one_below xs (set m.next_temp m.value) k (join_below xs m.before (one (set m.next_temp m.value)) k below).1;
      fine = λ a os f g e.
          join_fine xs i m.before (one (set m.next_temp m.value)) a os f (h.fine a os (lives xs (one (set m.next_temp m.value)) os f) g (set_live m.next_temp m.value a os f e)) (tt, tt);
    }

    pub save_if_well : (b : Bool) (n : ℕ) (m : Made) → MadeWell left n m → MadeWell left n (save_if xs b m)
    save_if_well b n m h = elim (b && has_checks xs m.value) as (λ c. MadeWell left n (if c then save m else m)) [ true ↦ save_well n m h | false ↦ h ]

    sent_well : (n : ℕ) (m : Made) → MadeWell left n m → SentWell left n (sent_made m)
    sent_well n m h = record {
      reaches = h.reaches;
      puts = λ j k below. one_below xs (set j m.value) k below;
      fine = λ j a os f g e. join_fine xs i m.before (one (set j m.value)) a os f (h.fine a os (lives xs (one (set j m.value)) os f) g (set_live j m.value a os f e)) (tt, tt);
    }

    -- ---- conditions

    jump_live : (want : Bool) (k : ℕ) (v : t.Value) (a : Temporaries) (os : List Temporaries) (f : Temporaries) → Among (out_at os k) a → Among f a
        → Among (lives xs (one (jump want k v)) os f) (also a (uses v))
    jump_live true k v a os f out after n =
        either (uses v n) (f n || out_at os k n) (right_in (a n) (uses v n)) (λ e. left_in (a n) (uses v n) (either (f n) (out_at os k n) (after n) (out n) e))
    jump_live false k v a os f out after n =
        either (uses v n) (out_at os k n || f n) (right_in (a n) (uses v n)) (λ e. left_in (a n) (uses v n) (either (out_at os k n) (f n) (out n) (after n) e))

    jump_stays : (want : Bool) (k : ℕ) (v : t.Value) (os : List Temporaries) (f : Temporaries) → k < length os → Stays xs i os f (one (jump want k v))
    jump_stays true k v os f h = ((tt, (h, tt)), tt)
    jump_stays false k v os f h = (((h, tt), tt), tt)

    pub leaf_well : (want : Bool) (k n : ℕ) (m : Made) → MadeWell left n m → TestsWell left k n (leaf want k m)
    leaf_well want k n m h = record {
      reaches = λ j low below. h.reaches j low (join_below xs m.before (one (jump want k m.value)) j below).0;
      fine = λ a os f g out after.
          join_fine xs i m.before (one (jump want k m.value)) a os f (h.fine a os (lives xs (one (jump want k m.value)) os f) g (jump_live want k m.value a os f out.1 after))
          (jump_stays want k m.value os f out.0);
    }

    pub leafy_well : (g : ℕ → Made) → AllMade left g → PlanWell left (leafy g)
    leafy_well g h = record { made = h; sent = λ n. sent_well n (g n) (h n); test = λ want k n. leaf_well want k n (g n) (h n) }

    both_reach : (x y : Cores) (n m l : ℕ) → Reaches xs x n m → Reaches xs y m l → Reaches xs (join x y) n l
    both_reach x y n m l h g k low below = let both = join_below xs x y k below in g k (h k low both.0) both.1

    straight_well : (a b : Plan) → PlanWell left a → PlanWell left b → (want : Bool) (k n : ℕ) → TestsWell left k n (straight a b want k n)
    straight_well a b pa pb want k n =
        let x = a.test want k n in
        let y = b.test want k x.next_temp in
        let hx = pa.test want k n in
        let hy = pb.test want k x.next_temp in
        record {
          reaches = both_reach x.tests y.tests n x.next_temp y.next_temp hx.reaches hy.reaches;
          fine = λ u os f g out after.
              let second = hy.fine u os f g out after in join_fine xs i x.tests y.tests u os f (hx.fine u os (lives xs y.tests os f) g out second.live) second.stays;
        }

    around_reach : (x : Cores) (n m : ℕ) → Reaches xs x n m → Reaches xs (one (around x)) n m
    around_reach x n m h k low below = h k low (one_below xs (around x) k below)

    crossed_well : (a b : Plan) → PlanWell left a → PlanWell left b → (want : Bool) (k n : ℕ) → TestsWell left k n (crossed a b want k n)
    crossed_well a b pa pb want k n =
        let x = a.test (not want) 0 n in
        let y = b.test want (suc k) x.next_temp in
        let hx = pa.test (not want) 0 n in
        let hy = pb.test want (suc k) x.next_temp in
        record {
          reaches = around_reach (join x.tests y.tests) n y.next_temp (both_reach x.tests y.tests n x.next_temp y.next_temp hx.reaches hy.reaches);
          fine = λ u os f g out after.
              let second = hy.fine u (f ∷ os) f g (omega (arith, out.0), out.1) after in
              around_fine xs i (join x.tests y.tests) u os f
              (join_fine xs i x.tests y.tests u (f ∷ os) f (hx.fine u (f ∷ os) (lives xs y.tests (f ∷ os) f) g (omega (arith), after) second.live) second.stays);
        }

    logic_test_well : (c : Connective) (a b : Plan) → PlanWell left a → PlanWell left b → (want : Bool) (k n : ℕ) → TestsWell left k n (logic_test c a b want k n)
    logic_test_well c a b pa pb want k n =
        elim (agree (decides c) want) as (λ z. TestsWell left k n (if z then crossed a b want k n else straight a b want k n))
        [ true ↦ crossed_well a b pa pb want k n | false ↦ straight_well a b pa pb want k n ]

    -- ---- truths

    -- behind the flag's own block
    flag_zero : (type : CoreType) (l n : ℕ) (z : ℤ) (a f : Temporaries) (os : List Temporaries) → Among f (also a (only n)) → Among (lives xs (one (set n (constant_of type l z))) os f) a
    flag_zero type l n z a f os h j e = either (a j) false (λ k. k) (λ k. absurd (false≢true k)) (set_live n (constant_of type l z) a os f h j e)

    pub flag_well : (type : CoreType) (l n : ℕ) (x : Tests) → TestsWell left 0 n x → MadeWell left n (flag type l x)
    flag_well type l n x h =
        let yes = then_ (set x.next_temp (constant_of type l (pos 1))) (one (exit 1)) in
        let no = one (set x.next_temp (constant_of type l (pos 0))) in
        record {
          reaches = λ k low below.
              one_below xs (set x.next_temp (constant_of type l (pos 0))) k
              (join_below xs (one (around (join x.tests yes))) no k (one_below xs (around (then_ (around (join x.tests yes)) no)) k below)).1;
          fine = λ a os f g e.
              let behind = flag_zero type l x.next_temp (pos 0) a f (f ∷ os) e in
              let out = lives xs no (f ∷ os) f in
              around_fine xs i (then_ (around (join x.tests yes)) no) a os f
              (join_fine xs i (one (around (join x.tests yes))) no a (f ∷ os) f
              (around_fine xs i (join x.tests yes) a (f ∷ os) out
              (join_fine xs i x.tests yes a (out ∷ f ∷ os) out
              (h.fine a (out ∷ f ∷ os) (lives xs yes (out ∷ f ∷ os) out) g (omega (arith), behind) (flag_zero type l x.next_temp (pos 1) a f (out ∷ f ∷ os) e))
              (tt, (omega (arith), tt))))
              (tt, tt));
        }

    pub logic_well : (type : CoreType) (l : ℕ) (c : Connective) (a b : Plan) → PlanWell left a → PlanWell left b → PlanWell left (logic_plan type l c a b)
    logic_well type l c a b pa pb =
        let made : AllMade left (logic_made type l c a b) = λ n. flag_well type l n (logic_test c a b true 0 n) (logic_test_well c a b pa pb true 0 n) in
        record { made = made; sent = λ n. sent_well n (logic_made type l c a b n) (made n); test = logic_test_well c a b pa pb }

    -- ---- two ways

    abbrev pub ConditionWell : ℕ → Condition → Type 0
    ConditionWell n (jumps_ x) = TestsWell left 0 n x
    ConditionWell n (tests_ m) = MadeWell left n m

    pub condition_well : (c : Plan) → PlanWell left c → (n : ℕ) → ConditionWell n (condition c n)
    condition_well c h n = elim c.jumps as (λ b. ConditionWell n (if b then jumps_ (c.test true 0 n) else tests_ (c.made n))) [ true ↦ h.test true 0 n | false ↦ h.made n ]

    -- two ways that are as they should be, with none, one and two blocks more around them
    pub record WaysAre (a : Temporaries) (os : List Temporaries) (f : Temporaries) (first other : ℕ → Cores) : Type 0 where
      pub first_here : Fine xs i a os f (first 0)
      pub other_here : Fine xs i a os f (other 0)
      pub first_inside : (g : Temporaries) → Among g a → Fine xs i a (g ∷ f ∷ os) f (first 2)
      pub other_inside : Fine xs i a (f ∷ os) f (other 1)

    pub fork_fine : (n : ℕ) (w : Condition) → ConditionWell n w → (first other : ℕ → Cores) (a : Temporaries) (os : List Temporaries) (f : Temporaries) → Among left a
        → WaysAre a os f first other → Fine xs i a os f (fork w first other)
    fork_fine n (jumps_ x) h first other a os f g ways =
        let out = lives xs (other 1) (f ∷ os) f in
        let goes = join (first 2) (one (exit 1)) in
        let inside = join_fine xs i (first 2) (one (exit 1)) a (out ∷ f ∷ os) out (ways.first_inside out ways.other_inside.live) (omega (arith), tt) in
        around_fine xs i (then_ (around (join x.tests goes)) (other 1)) a os f
        (join_fine xs i (one (around (join x.tests goes))) (other 1) a (f ∷ os) f
        (around_fine xs i (join x.tests goes) a (f ∷ os) out
        (join_fine xs i x.tests goes a (out ∷ f ∷ os) out
        (h.fine a (out ∷ f ∷ os) (lives xs goes (out ∷ f ∷ os) out) g (omega (arith), ways.other_inside.live) inside.live) inside.stays))
        ways.other_inside.stays)
    fork_fine n (tests_ m) h first other a os f g ways =
        let s = branch m.value (first 0) (other 0) in
        join_fine xs i m.before (one s) a os f
        (h.fine a os (lives xs (one s) os f) g (λ j.
        either (uses m.value j) (lives xs (first 0) os f j || lives xs (other 0) os f j) (right_in (a j) (uses m.value j))
        (λ e. left_in (a j) (uses m.value j) (either (lives xs (first 0) os f j) (lives xs (other 0) os f j) (ways.first_here.live j) (ways.other_here.live j) e))))
        ((ways.first_here.stays, ways.other_here.stays), tt)

    pub fork_reaches : (n : ℕ) (w : Condition) → ConditionWell n w → (first other : ℕ → Cores) (m l : ℕ) → ((k : ℕ) → Reaches xs (first k) (next_of w) m)
        → ((k : ℕ) → Reaches xs (other k) m l) → Reaches xs (fork w first other) n l
    fork_reaches n (jumps_ x) h first other m l a b k low below =
        let goes = join (first 2) (one (exit 1)) in
        let inside = join_below xs (one (around (join x.tests goes))) (other 1) k (one_below xs (around (then_ (around (join x.tests goes)) (other 1))) k below) in
        let parts = join_below xs x.tests goes k (one_below xs (around (join x.tests goes)) k inside.0) in
        b 1 k (a 2 k (h.reaches k low parts.0) (join_below xs (first 2) (one (exit 1)) k parts.1).0) inside.1
    fork_reaches n (tests_ m') h first other m l a b k low below =
        let s = branch m'.value (first 0) (other 0) in
        let parts = join_below xs m'.before (one s) k below in
        let ways = greater_below (count_in xs (first 0)) (count_in xs (other 0)) k (one_below xs s k parts.1) in
        b 0 k (a 0 k (h.reaches k low parts.0) ways.0) ways.1

    into_reaches : (n : ℕ) (x : Sent) → SentWell left n x → (j k : ℕ) → n ≤ k → count_in xs (into j x 0) ≤ k → (x.next_temp ≤ k) × (suc j ≤ k)
    into_reaches n x h j k low below = let parts = join_below xs x.before (one (x.put j)) k below in (h.reaches k low parts.0, h.puts j k parts.1)

    pub choice_well : (type : CoreType) (l : ℕ) (c a b : Plan) → PlanWell left c → PlanWell left a → PlanWell left b → AllMade left (choice_made type l c a b)
    choice_well type l c a b pc pa pb n =
        let w = condition c n in
        let x = a.sent (next_of w) in
        let y = b.sent (suc x.next_temp) in
        let hw = condition_well c pc n in
        let hx = pa.sent (next_of w) in
        let hy = pb.sent (suc x.next_temp) in
        record {
          reaches = fork_reaches n w hw (into x.next_temp x) (into x.next_temp y) (suc x.next_temp) y.next_temp (λ j k low below. (into_reaches (next_of w) x hx x.next_temp k low below).1)
              (λ j k low below. (into_reaches (suc x.next_temp) y hy x.next_temp k low below).0);
          fine = λ u os f g e.
              fork_fine n w hw (into x.next_temp x) (into x.next_temp y) u os f g (record {
                first_here = hx.fine x.next_temp u os f g e;
                other_here = hy.fine x.next_temp u os f g e;
                first_inside = λ out k. hx.fine x.next_temp u (out ∷ f ∷ os) f g e;
                other_inside = hy.fine x.next_temp u (f ∷ os) f g e;
              });
        }

    -- ---- what is kept

    pub kept_well : (v : t.Value) → Among (uses v) left → AllMade left (kept v)
    kept_well v h n = record {
      reaches = λ k low below. low;
      fine = λ a os f g e. end_fine xs i a os f (λ j k. either (a j) (uses v j) (λ u. u) (λ u. g j (h j u)) (e j k));
    }

    pub if_well : (b : Bool) (g h : ℕ → Made) → AllMade left g → AllMade left h → AllMade left (made_if b g h)
    if_well true g h pg ph = pg
    if_well false g h pg ph = ph

    -- ---- operands

    pub put_well : (n : ℕ) (x : Made) (y : Mades) → MadeWell left n x → MadesWell left x.next_temp y → MadesWell left n (put_before x y)
    put_well n x y h g = record {
      reaches = both_reach x.before y.before n x.next_temp y.next_temp h.reaches g.reaches;
      fine = λ a os f l e.
          let inner = g.fine (also a (uses x.value)) os f (among_then left a (also a (uses x.value)) l (among_more a (uses x.value))) (among_grouped f a (uses x.value) (some_use y.values) e) in
          join_fine xs i x.before y.before a os f (h.fine a os (lives xs y.before os f) l inner.live) inner.stays;
    }

  pub nothing_well : AllMade no_temporaries nothing_made
  nothing_well = kept_well no_temporaries no_value (λ j h. h)
