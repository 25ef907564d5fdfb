-- What is made of expressions sets temporaries before it uses them.
use Rattle.std.proofs.Common.{◌≡◌, ℕ, suc, Bool, true, false, not, ◌&&◌, ◌||◌, if◌then◌else◌, List, ◌∷◌, refl, sym, ap, ◌∙◌, subst, inl, inr, pos}
use Rattle.std.specs.Prelude.{◌⊎◌, ◌==◌}
use Rattle.std.proofs.lemmas.Bool.{false≢true}
use Rattle.typed_prog.specs.declared.types.CoreType.{CoreType}
use Rattle.typed_prog.specs.declared.operators.Connective.{Connective}
use Rattle.typed_prog.specs.Tree as tree
use Rattle.c_runs.specs.Program.{Variable}
use Rattle.c_runs.specs.Values.{decides, agree}
use Rattle.c_runs.specs.Core.{set, branch, around, exit, Cores, end, then_, join, one}
use Rattle.c_runs.specs.Adding.{step_of, steps_of}
use Rattle.c_runs.specs.Checks.{has_checks}
use Rattle.c_runs.specs.Plans.{constant_of, Made, Tests, Sent, Mades, Plan, save, sent_made, jump, leaf, leafy, straight, crossed, logic_test, flag, logic_made, logic_plan, Condition, jumps_, tests_, condition, next_of, fork, into, choice_made, save_if}
use Rattle.program_steps.specs.Temporaries.{Temporaries, out_at, uses, some_use, live, all_live}
use Rattle.typed_normal.specs.Order.{KeepsOrder, KeepOrder}

-- ---- sets of temporaries

abbrev pub Sets : Type 1
Sets = ℕ → Type 0

abbrev pub In : Temporaries → Sets → Type 0
In u D = (i : ℕ) → u i ≡ true → D i

-- these and those that a value uses
abbrev pub With : Temporaries → Sets → Sets
With u D i = D i ⊎ (u i ≡ true)

pub of_either : {C : Type 0} (a b : Bool) → (a || b) ≡ true → (a ≡ true → C) → (b ≡ true → C) → C
of_either true b h f g = f refl
of_either false b h f g = g h

pub of_others : {C : Type 0} (a b : Bool) → (not a && b) ≡ true → (a ≡ false → b ≡ true → C) → C
of_others true b h f = absurd (false≢true h)
of_others false b h f = f refl h

-- what isn't the one that is set
pub without : (m i : ℕ) (D : Sets) → (m == i) ≡ false → D i ⊎ ((m == i) ≡ true) → D i
without m i D h (inl d) = d
without m i D h (inr e) = absurd (false≢true (sym h ∙ e))

module _ (xs : List Variable) where
  -- ---- statements

  abbrev pub before : Cores → List Temporaries → Temporaries → Temporaries
  before cs os t = all_live (steps_of xs cs) os t

  -- Before these statements none but those of the set are used, where behind them these are.
  pub record Good (cs : Cores) (os : List Temporaries) (t : Temporaries) (D : Sets) : Type 0 where
    pub used : In (before cs os t) D
    pub order : KeepOrder os t (steps_of xs cs)

  pub join_same : (a b : Cores) (os : List Temporaries) (t : Temporaries) → before (join a b) os t ≡ before a os (before b os t)
  join_same end b os t = λ i n. all_live (steps_of xs b) os t n
  join_same (then_ s a) b os t = λ i n. live (step_of xs s) os (join_same a b os t i) n

  join_order : (a b : Cores) (os : List Temporaries) (t : Temporaries) → KeepOrder os (before b os t) (steps_of xs a) → KeepOrder os t (steps_of xs b) → KeepOrder os t (steps_of xs (join a b))
  join_order end b os t h k = k
  join_order (then_ s a) b os t h k = (subst (λ u. KeepsOrder os u (step_of xs s)) (sym (join_same a b os t)) h.0, join_order a b os t h.1 k)

  pub join_good : (a b : Cores) (os : List Temporaries) (t : Temporaries) (D : Sets) → Good a os (before b os t) D → KeepOrder os t (steps_of xs b) → Good (join a b) os t D
  join_good a b os t D h k = record { used = λ i u. h.used i (ap (λ v. v i) (sym (join_same a b os t)) ∙ u); order = join_order a b os t h.order k }

  pub end_good : (os : List Temporaries) (t : Temporaries) (D : Sets) → In t D → Good end os t D
  end_good os t D h = record { used = h; order = tt }

  -- one statement
  pub set_good : (n : ℕ) (e : tree.Value) (os : List Temporaries) (t : Temporaries) (D : Sets) → In (uses e) D → In t (With (λ i. n == i) D) → Good (one (set n e)) os t D
  set_good n e os t D h k = record {
    used = λ i u. of_either (uses e i) (not (n == i) && t i) u (h i) (λ v. of_others (n == i) (t i) v (λ other there. without n i D other (k i there)));
    order = (tt, tt);
  }

  pub set_in : (n : ℕ) (e : tree.Value) (os : List Temporaries) (t : Temporaries) (D : Sets) → In t (With (λ i. n == i) D) → In (before (one (set n e)) os t) (With (uses e) D)
  set_in n e os t D k i u = of_either (uses e i) (not (n == i) && t i) u (λ v. inr v) (λ v. of_others (n == i) (t i) v (λ other there. inl (without n i D other (k i there))))

  pub around_good : (cs : Cores) (os : List Temporaries) (t : Temporaries) (D : Sets) → Good cs (t ∷ os) t D → Good (one (around cs)) os t D
  around_good cs os t D h = record { used = h.used; order = (h.order, tt) }

  -- ---- what is made, where these are set before

  module _ (L : Temporaries) where
    abbrev pub MadeOk : Made → Type 1
    MadeOk m = (D : Sets) → In L D → (os : List Temporaries) (t : Temporaries) → In t (With (uses m.value) D) → Good m.before os t D

    abbrev pub MadesOk : Mades → Type 1
    MadesOk m = (D : Sets) → In L D → (os : List Temporaries) (t : Temporaries) → In t (With (some_use m.values) D) → Good m.before os t D

    abbrev pub SentOk : Sent → Type 1
    SentOk x = (D : Sets) → In L D → (n : ℕ) (os : List Temporaries) (t : Temporaries) → In t (With (λ i. n == i) D) → Good (join x.before (one (x.put n))) os t D

    -- an exit leaves the block k
    abbrev pub TestOk : ℕ → Tests → Type 1
    TestOk k x = (D : Sets) → In L D → (os : List Temporaries) (t : Temporaries) → In (out_at os k) D → In t D → Good x.tests os t D

    pub record PlanOk (p : Plan) : Type 1 where
      pub made : (n : ℕ) → MadeOk (p.made n)
      pub sent : (n : ℕ) → SentOk (p.sent n)
      pub test : (want : Bool) (k n : ℕ) → TestOk k (p.test want k n)

    pub sent_ok : (m : Made) → MadeOk m → SentOk (sent_made m)
    sent_ok m h D left n os t k =
        join_good m.before (one (set n m.value)) os t D (h D left os (before (one (set n m.value)) os t) (set_in n m.value os t D k)) (tt, tt)

    pub save_ok : (m : Made) → MadeOk m → MadeOk (save m)
    save_ok m h D left os t k = sent_ok m h D left m.next_temp os t k

    pub save_if_ok : (b : Bool) (m : Made) → MadeOk m → MadeOk (save_if xs b m)
    save_if_ok b m h = elim (b && has_checks xs m.value) as (λ c. MadeOk (if c then save m else m)) [ true ↦ save_ok m h | false ↦ h ]

    jump_in : (want : Bool) (k : ℕ) (e : tree.Value) (os : List Temporaries) (t : Temporaries) (D : Sets) → In (out_at os k) D → In t D → In (before (one (jump want k e)) os t) (With (uses e) D)
    jump_in true k e os t D out h i u =
        of_either (uses e i) (t i || out_at os k i) u (λ v. inr v) (λ v. inl (of_either (t i) (out_at os k i) v (h i) (out i)))
    jump_in false k e os t D out h i u =
        of_either (uses e i) (out_at os k i || t i) u (λ v. inr v) (λ v. inl (of_either (out_at os k i) (t i) v (out i) (h i)))

    jump_order : (want : Bool) (k : ℕ) (e : tree.Value) (os : List Temporaries) (t : Temporaries) → KeepOrder os t (steps_of xs (one (jump want k e)))
    jump_order true k e os t = ((tt, (tt, tt)), tt)
    jump_order false k e os t = (((tt, tt), tt), tt)

    pub leaf_ok : (want : Bool) (k : ℕ) (m : Made) → MadeOk m → TestOk k (leaf want k m)
    leaf_ok want k m h D left os t out later =
        join_good m.before (one (jump want k m.value)) os t D (h D left os (before (one (jump want k m.value)) os t) (jump_in want k m.value os t D out later))
        (jump_order want k m.value os t)

    pub leafy_ok : (g : ℕ → Made) → ((n : ℕ) → MadeOk (g n)) → PlanOk (leafy g)
    leafy_ok g h = record { made = h; sent = λ n. sent_ok (g n) (h n); test = λ want k n. leaf_ok want k (g n) (h n) }

    -- ---- connectives

    straight_ok : (a b : Plan) → PlanOk a → PlanOk b → (want : Bool) (k n : ℕ) → TestOk k (straight a b want k n)
    straight_ok a b pa pb want k n D left os t out later =
        let x = a.test want k n in
        let y = b.test want k x.next_temp in
        let h = pb.test want k x.next_temp D left os t out later in
        join_good x.tests y.tests os t D (pa.test want k n D left os (before y.tests os t) out h.used) h.order

    crossed_ok : (a b : Plan) → PlanOk a → PlanOk b → (want : Bool) (k n : ℕ) → TestOk k (crossed a b want k n)
    crossed_ok a b pa pb want k n D left os t out later =
        let x = a.test (not want) 0 n in
        let y = b.test want (suc k) x.next_temp in
        let h = pb.test want (suc k) x.next_temp D left (t ∷ os) t out later in
        around_good (join x.tests y.tests) os t D
        (join_good x.tests y.tests (t ∷ os) t D (pa.test (not want) 0 n D left (t ∷ os) (before y.tests (t ∷ os) t) later h.used) h.order)

    logic_test_ok : (c : Connective) (a b : Plan) → PlanOk a → PlanOk b → (want : Bool) (k n : ℕ) → TestOk k (logic_test c a b want k n)
    logic_test_ok c a b pa pb want k n =
        elim (agree (decides c) want) as (λ z. TestOk k (if z then crossed a b want k n else straight a b want k n))
        [ true ↦ crossed_ok a b pa pb want k n | false ↦ straight_ok a b pa pb want k n ]

    no_use : (D : Sets) → In (λ i. false) D
    no_use D i u = absurd (false≢true u)

    flag_ok : (type : CoreType) (l : ℕ) (x : Tests) → TestOk 0 x → MadeOk (flag type l x)
    flag_ok type l x h D left os t k =
        let n = x.next_temp in
        let yes = then_ (set n (constant_of type l (pos 1))) (one (exit 1)) in
        let no = one (set n (constant_of type l (pos 0))) in
        let other = set_good n (constant_of type l (pos 0)) (t ∷ os) t D (no_use D) k in
        let u = before no (t ∷ os) t in
        let inner = join_good x.tests yes (u ∷ t ∷ os) u D
        (h D left (u ∷ t ∷ os) (before yes (u ∷ t ∷ os) u) other.used (set_good n (constant_of type l (pos 1)) os t D (no_use D) k).used) (tt, (tt, tt)) in
        around_good (then_ (around (join x.tests yes)) no) os t D (record { used = inner.used; order = (inner.order, other.order) })

    pub logic_ok : (type : CoreType) (l : ℕ) (c : Connective) (a b : Plan) → PlanOk a → PlanOk b → PlanOk (logic_plan type l c a b)
    logic_ok type l c a b pa pb =
        let made : (n : ℕ) → MadeOk (logic_made type l c a b n) = λ n. flag_ok type l (logic_test c a b true 0 n) (logic_test_ok c a b pa pb true 0 n) in
        record { made = made; sent = λ n. sent_ok (logic_made type l c a b n) (made n); test = λ want k n. logic_test_ok c a b pa pb want k n }

    -- ---- two ways

    -- `G`: what is so of the blocks around
    abbrev pub ForkOk : Condition → Type 1
    ForkOk w = (D : Sets) → In L D → (G : List Temporaries → Type 0) → ((u : Temporaries) (os : List Temporaries) → In u D → G os → G (u ∷ os)) → (first other : ℕ → Cores)
        → (os : List Temporaries) (t : Temporaries) → G os → G (t ∷ os) → ((k : ℕ) (ps : List Temporaries) → G ps → Good (first k) ps t D)
        → ((k : ℕ) (ps : List Temporaries) → G ps → Good (other k) ps t D) → Good (fork w first other) os t D

    fork_jumps : (x : Tests) → TestOk 0 x → ForkOk (jumps_ x)
    fork_jumps x h D left G up first other os t g g' a b =
        let second = b 1 (t ∷ os) g' in
        let u = before (other 1) (t ∷ os) t in
        let ps = u ∷ t ∷ os in
        let one_way = join_good (first 2) (one (exit 1)) ps u D (a 2 ps (up u (t ∷ os) second.used g')) (tt, tt) in
        let inner = join_good x.tests (join (first 2) (one (exit 1))) ps u D
        (h D left ps (before (join (first 2) (one (exit 1))) ps u) second.used one_way.used) one_way.order in
        around_good (then_ (around (join x.tests (join (first 2) (one (exit 1))))) (other 1)) os t D (record { used = inner.used; order = (inner.order, second.order) })

    fork_tests : (m : Made) → MadeOk m → ForkOk (tests_ m)
    fork_tests m h D left G up first other os t g g' a b =
        let x = a 0 os g in
        let y = b 0 os g in
        join_good m.before (one (branch m.value (first 0) (other 0))) os t D
        (h D left os (before (one (branch m.value (first 0) (other 0))) os t)
        (λ i u. of_either (uses m.value i) (before (first 0) os t i || before (other 0) os t i) u (λ v. inr v)
        (λ v. inl (of_either (before (first 0) os t i) (before (other 0) os t i) v (x.used i) (y.used i)))))
        ((x.order, y.order), tt)

    pub forks_ok : (c : Plan) → PlanOk c → (n : ℕ) → ForkOk (condition c n)
    forks_ok c pc n = elim c.jumps as (λ b. ForkOk (if b then jumps_ (c.test true 0 n) else tests_ (c.made n)))
        [ true ↦ fork_jumps (c.test true 0 n) (pc.test true 0 n) | false ↦ fork_tests (c.made n) (pc.made n) ]

    pub choice_ok : (type : CoreType) (l : ℕ) (c a b : Plan) → PlanOk c → PlanOk a → PlanOk b → (n : ℕ) → MadeOk (choice_made type l c a b n)
    choice_ok type l c a b pc pa pb n D left os t k =
        let x = a.sent (next_of (condition c n)) in
        let y = b.sent (suc x.next_temp) in
        forks_ok c pc n D left (λ ps. Unit {0}) (λ u ps h g. tt) (into x.next_temp x) (into x.next_temp y) os t tt tt
        (λ j ps g. pa.sent (next_of (condition c n)) D left x.next_temp ps t k) (λ j ps g. pb.sent (suc x.next_temp) D left x.next_temp ps t k)
