-- Two ways behind a condition, and choices as values.
use Rattle.std.proofs.Common.{◌≡◌, ℕ, suc, ◌<◌, ◌≤◌, Bool, true, false, if◌then◌else◌, List, refl, ap, ◌∙◌, arith}
use Rattle.typed_prog.specs.declared.types.CoreType.{CoreType}
use Rattle.typed_prog.specs.Tree as tree
use Rattle.c_runs.specs.Told.{Value}
use Rattle.c_runs.specs.Program.{Facts, Variable, Program}
use Rattle.c_runs.specs.States.{World, Here, at, is_nonzero}
use Rattle.c_runs.specs.Operators.{is, wrong}
use Rattle.c_runs.specs.Values.{Temps}
use Rattle.c_runs.specs.Claims.{Stop, undefined}
use Rattle.c_runs.specs.Calls.{Eval, gives, stops, Act, bind}
use Rattle.c_runs.specs.Run.{choice_act}
use Rattle.c_runs.specs.Core.{branch, exit, Cores, end, join, one}
use Rattle.c_runs.specs.CoreRun.{CoreWorld, Ending, goes_on, exits, stopped, then_do, block_end}
use Rattle.c_runs.specs.CoreRun as core
use Rattle.c_runs.specs.Plans.{Plan, temp_of, leafy, jumps_, tests_, condition, next_of, fork, into, choice_made}
use Rattle.c_runs.proofs.Relations.{pair, keeps_all, at_same, at_other, Moved, moved_trans, moved_skip, Gives, early, there, Fixed, fixed_early, fixed, Puts, puts_early, puts, Tested, tested_early, passes, leaves, gives_of_sure, sure_of_fixed, Stays, stays_later, PlanOk}
use Rattle.c_runs.proofs.Plans.{then_on, ex, join_ex, leafy_ok}

-- what is known of how one of the two ways ends, with so many blocks more around it: of the value of the test and the world after it
abbrev pub Ways : Type 1
Ways = Value → CoreWorld → ℕ → Ending → Type 0

pub data Forked (q : Value → CoreWorld → Ending → Type 0) (still : Bool) (w : World) (tm : Temps) (t n : ℕ) : Ending → Eval → Type 0 where
  fork_early : (s : Stop) → Forked q still w tm t n (stopped s) (stops s)
  forked : (v : Value) (w1 : World) (tm1 : Temps) {o : Ending} → Moved still w w1 t tm tm1 n → q v (pair w1 tm1) o → Forked q still w tm t n o (gives v w1)

-- what is known goes through the blocks that a condition of jumps puts around the ways
pub record Passes (q : Ways) : Type 0 where
  pub through_one : (v : Value) (c : CoreWorld) (o : Ending) → q v c 1 o → q v c 0 (block_end o)
  pub through_two : (v : Value) (c : CoreWorld) (o : Ending) (g : CoreWorld → Ending) → q v c 2 o → q v c 0 (block_end (then_do (block_end (then_do o (λ c. exits 1 c))) g))

-- ---- a choice as a value

-- the way's value is in the temporary i
choice_put : (p : Facts) (xs : List Variable) {still : Bool} {w : World} {tm : Temps} {t n m i : ℕ} {o : Ending} {r : Eval} (type : CoreType) (l : ℕ) → t ≤ i → i < n → m ≤ n → Puts still w tm t i m o r
    → Fixed p xs still w tm t (temp_of type l i) n o r
choice_put p xs type l l1 l2 l3 (puts_early s) = fixed_early s
choice_put p xs {still} {w} {tm} {t} {n} {m} {i} type l l1 l2 l3 (puts w1 tm1 v mv) =
    fixed w1 (at i v tm1) v
    (record { stays = mv.stays; keeps = λ j h. at_other i j v tm1 (omega (arith, h, l1)) ∙ mv.keeps j h; later = omega (arith, mv.later, l3) })
    (λ tm2 k w2. ap is (k i l2 ∙ at_same i v tm1))

pub fixed_after : {p : Facts} {xs : List Variable} {still : Bool} {w w1 : World} {tm tm1 : Temps} {t n m : ℕ} {e : tree.Value} {o : Ending} {r : Eval} → Moved still w w1 t tm tm1 n
    → Fixed p xs still w1 tm1 n e m o r → Fixed p xs still w tm t e m o r
fixed_after mv (fixed_early s) = fixed_early s
fixed_after mv (fixed w2 tm2 v mv2 h) = fixed w2 tm2 v (moved_trans mv mv2) h

pub gives_after : {p : Facts} {xs : List Variable} {still : Bool} {w w1 : World} {tm tm1 : Temps} {t n m : ℕ} {e : tree.Value} {o : Ending} {r : Eval} → Moved still w w1 t tm tm1 n
    → Gives p xs still w1 tm1 n e m o r → Gives p xs still w tm t e m o r
gives_after mv (early s) = early s
gives_after mv (there w2 tm2 v mv2 h) = there w2 tm2 v (moved_trans mv mv2) h

puts_after : {still : Bool} {w w1 : World} {tm tm1 : Temps} {t n i m : ℕ} {o : Ending} {r : Eval} → Moved still w w1 t tm tm1 n → Puts still w1 tm1 n i m o r → Puts still w tm t i m o r
puts_after mv (puts_early s) = puts_early s
puts_after mv (puts w2 tm2 v mv2) = puts w2 tm2 v (moved_trans mv mv2)

module _ (p : Facts) (xs : List Variable) (still : Bool) (n : ℕ) (e : tree.Value) (m : ℕ) (ra rb : Act) where
  abbrev ValueWays : Ways
  ValueWays v c k o = Fixed p xs still c.world c.temps n e m o (if is_nonzero v then ra c.world else rb c.world)

  value_block : {w : World} {tm : Temps} {o : Ending} {r : Eval} → Fixed p xs still w tm n e m o r → Fixed p xs still w tm n e m (block_end o) r
  value_block (fixed_early s) = fixed_early s
  value_block (fixed w1 tm1 v mv h) = fixed w1 tm1 v mv h

  value_blocks : {w : World} {tm : Temps} {o : Ending} {r : Eval} (g : CoreWorld → Ending) → Fixed p xs still w tm n e m o r
      → Fixed p xs still w tm n e m (block_end (then_do (block_end (then_do o (λ c. exits 1 c))) g)) r
  value_blocks g (fixed_early s) = fixed_early s
  value_blocks g (fixed w1 tm1 v mv h) = fixed w1 tm1 v mv h

  value_passes : Passes ValueWays
  value_passes = record { through_one = λ v c o h. value_block h; through_two = λ v c o g h. value_blocks g h }

  choice_end : {w : World} {tm : Temps} {t : ℕ} {o : Ending} {r : Eval} → Forked (λ v c o. ValueWays v c 0 o) still w tm t n o r
      → Fixed p xs still w tm t e m o (bind r (λ x w. if is_nonzero x then ra w else rb w))
  choice_end (fork_early s) = fixed_early s
  choice_end (forked v w1 tm1 mv h) = fixed_after mv h

module _ (cp : Program Cores) (deeper : core.Deeper) (xs : List Variable) (here : Here) where
  abbrev run : Cores → CoreWorld → Ending
  run = ex cp deeper xs here

  -- ---- two ways

  abbrev pub OnWay : (q : Ways) (still want : Bool) (w : World) (tm : Temps) (t n : ℕ) → (ℕ → Cores) → Type 0
  OnWay q still want w tm t n way = (k : ℕ) (v : Value) (w1 : World) (tm1 : Temps) → is_nonzero v ≡ want → Moved still w w1 t tm tm1 n → q v (pair w1 tm1) k (run (way k) (pair w1 tm1))

  branch_end : (q : Ways) {still : Bool} {w : World} {tm : Temps} {t n : ℕ} {e : tree.Value} (first other : ℕ → Cores) {o : Ending} {r : Eval}
      → OnWay q still true w tm t n first → OnWay q still false w tm t n other → Gives cp.facts xs still w tm t e n o r
      → Forked (λ v c o. q v c 0 o) still w tm t n (then_do o (run (one (branch e (first 0) (other 0))))) r
  branch_end q first other f g (early s) = fork_early s
  branch_end q {still} {w} {tm} {t} {n} first other f g (there w1 tm1 (wrong u l) mv h) = rw (h tm1 (keeps_all n tm1)) (fork_early (undefined u l))
  branch_end q {still} {w} {tm} {t} {n} first other f g (there w1 tm1 (is v) mv h) =
      let c = pair w1 tm1 in
      rw (h tm1 (keeps_all n tm1))
      (rw (then_on (if is_nonzero v then run (first 0) c else run (other 0) c))
      (forked v w1 tm1 mv
      (elim (is_nonzero v) as (λ b. is_nonzero v ≡ b → q v c 0 (if b then run (first 0) c else run (other 0) c))
      [ true ↦ (λ e. f 0 v w1 tm1 e mv) | false ↦ (λ e. g 0 v w1 tm1 e mv) ] refl)))

  jumps_end : (q : Ways) (ps : Passes q) {still : Bool} {w : World} {tm : Temps} {t n : ℕ} (first other : ℕ → Cores) {o : Ending} {r : Eval}
      → OnWay q still true w tm t n first → OnWay q still false w tm t n other → Tested still true 0 w tm t n o r
      → Forked (λ v c o. q v c 0 o) still w tm t n (then_do (block_end (then_do (block_end (then_do o (run (join (first 2) (one (exit 1)))))) (run (other 1)))) (run end)) r
  jumps_end q ps first other f g (tested_early s) = fork_early s
  jumps_end q ps {still} {w} {tm} {t} first other f g (passes v w1 tm1 h mv) =
      let c = pair w1 tm1 in
      rw (join_ex cp deeper xs here (first 2) (one (exit 1)) c)
      (rw (then_on (block_end (then_do (block_end (then_do (run (first 2) c) (run (one (exit 1))))) (run (other 1)))))
      (forked v w1 tm1 mv (ps.through_two v c (run (first 2) c) (run (other 1)) (f 2 v w1 tm1 h mv))))
  jumps_end q ps {still} {w} {tm} {t} first other f g (leaves v w1 tm1 h mv) =
      let c = pair w1 tm1 in
      rw (then_on (block_end (run (other 1) c)))
      (forked v w1 tm1 mv (ps.through_one v c (run (other 1) c) (g 1 v w1 tm1 h mv)))

  pub fork_ok : (q : Ways) (ps : Passes q) {still : Bool} {d : tree.Value} {v : Value} (plan : Plan) (act : Act) → PlanOk cp.facts xs run still d v plan act
      → (t : ℕ) (w : World) (tm : Temps) → Stays cp.facts xs d v t tm → (first other : ℕ → Cores)
      → OnWay q still true w tm t (next_of (condition plan t)) first → OnWay q still false w tm t (next_of (condition plan t)) other
      → Forked (λ v c o. q v c 0 o) still w tm t (next_of (condition plan t)) (run (fork (condition plan t) first other) (pair w tm)) (act w)
  fork_ok q ps {still} {d} {v} plan act ok t w tm st first other =
      elim plan.jumps as (λ b. OnWay q still true w tm t (next_of (if b then jumps_ (plan.test true 0 t) else tests_ (plan.made t))) first
      → OnWay q still false w tm t (next_of (if b then jumps_ (plan.test true 0 t) else tests_ (plan.made t))) other
      → Forked (λ v c o. q v c 0 o) still w tm t (next_of (if b then jumps_ (plan.test true 0 t) else tests_ (plan.made t)))
      (run (fork (if b then jumps_ (plan.test true 0 t) else tests_ (plan.made t)) first other) (pair w tm)) (act w)) [
        | true ↦ (λ f g. let x = plan.test true 0 t in rw (join_ex cp deeper xs here x.tests (join (first 2) (one (exit 1))) (pair w tm)) (jumps_end q ps first other f g (ok.test_ok true 0 t w tm st)))
        | false ↦ (λ f g. let m = plan.made t in rw (join_ex cp deeper xs here m.before (one (branch m.value (first 0) (other 0))) (pair w tm)) (branch_end q first other f g (ok.made_ok t w tm st)))
      ]

  pub condition_grows : {still : Bool} {d : tree.Value} {v : Value} (plan : Plan) (act : Act) → PlanOk cp.facts xs run still d v plan act → (t : ℕ) → t ≤ next_of (condition plan t)
  condition_grows plan act ok t =
      elim plan.jumps as (λ b. t ≤ next_of (if b then jumps_ (plan.test true 0 t) else tests_ (plan.made t))) [ true ↦ ok.test_grows true 0 t | false ↦ ok.made_grows t ]

  -- ---- choices

  module _ (still : Bool) (d : tree.Value) (v : Value) (c a b : Plan) (act_c act_a act_b : Act)
      (pc : PlanOk cp.facts xs run still d v c act_c) (pa : PlanOk cp.facts xs run still d v a act_a) (pb : PlanOk cp.facts xs run still d v b act_b) (type : CoreType) (l : ℕ) where
    pub choice_fixed : (t : ℕ) (w : World) (tm : Temps) → Stays cp.facts xs d v t tm
        → (let m = choice_made type l c a b t in Fixed cp.facts xs still w tm t m.value m.next_temp (run m.before (pair w tm)) (choice_act act_c act_a act_b w))
    choice_fixed t w tm st =
        let n = next_of (condition c t) in
        let x = a.sent n in
        let i = x.next_temp in
        let y = b.sent (suc i) in
        let m = choice_made type l c a b t in
        let la = pa.sent_grows n in
        let lb = pb.sent_grows (suc i) in
        let first_way : OnWay (ValueWays cp.facts xs still n m.value m.next_temp act_a act_b) still true w tm t n (into i x) =
        λ k z w1 tm1 e mv. rw e (choice_put cp.facts xs type l la (omega (arith, lb)) (omega (arith, lb)) (pa.sent_ok i n w1 tm1 (stays_later cp.facts xs d v mv st))) in
        let other_way : OnWay (ValueWays cp.facts xs still n m.value m.next_temp act_a act_b) still false w tm t n (into i y) =
        λ k z w1 tm1 e mv. let skip = moved_skip still w1 tm1 n (suc i) (omega (arith, la)) in
        rw e (choice_put cp.facts xs type l la (omega (arith, lb)) (omega arith) (puts_after skip (pb.sent_ok i (suc i) w1 tm1 (stays_later cp.facts xs d v skip (stays_later cp.facts xs d v mv st))))) in
        choice_end cp.facts xs still n m.value m.next_temp act_a act_b
        (fork_ok (ValueWays cp.facts xs still n m.value m.next_temp act_a act_b) (value_passes cp.facts xs still n m.value m.next_temp act_a act_b) c act_c pc t w tm st (into i x) (into i y) first_way other_way)

    pub choice_ok : PlanOk cp.facts xs run still d v (leafy (choice_made type l c a b)) (choice_act act_c act_a act_b)
    choice_ok = leafy_ok cp deeper xs here (choice_made type l c a b) (choice_act act_c act_a act_b)
        (λ t. let l0 = condition_grows c act_c pc t in let la = pa.sent_grows (next_of (condition c t)) in let lb = pb.sent_grows (suc (a.sent (next_of (condition c t))).next_temp) in omega (arith, l0, la, lb))
        (λ t w tm st. gives_of_sure (sure_of_fixed (choice_fixed t w tm st)))
