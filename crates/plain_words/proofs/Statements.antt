-- Statements: nothing is used before them, blocks are left from inside of them, and each temporary is below the number of those which are set.
use Rattle.std.proofs.Common.{◌≡◌, ℕ, Bool, true, false, List, ◌∷◌, length, Option, refl, sym, subst, arith}
use Rattle.std.proofs.lemmas.Bool.{and_parts}
use Rattle.wp_base.specs.declared.kinds.CellKind.{CellKind}
use Rattle.typed_prog.specs.Tree as t
use Rattle.c_runs.specs.Program.{Variable, Function, Facts, Loop, Stmt, evaluate, block, initial, choose, loop, switch, case_of, default, break, continue, return_of, assert, Stmts, stop, more}
use Rattle.c_runs.specs.Core.{repeat, around, exit, claim, scope, Cores, end, then_, join, one}
use Rattle.c_runs.specs.Plans.{Tests, condition, next_of, planned}
use Rattle.c_runs.specs.Normal.{Did, is_settled, save_unless, effect_of, started, loop_test, loop_step, given, dispatch, up, loop_body, stmt, stmts, groups}
use Rattle.plain_runs.specs.Fitting.{with_names}
use Rattle.loop_words.specs.Told.{Temporaries, no_temporaries, uses}
use Rattle.plain_normal.specs.Plain.{up_to, StmtIsPlain, StmtsArePlain}
use Rattle.plain_words.specs.Sets.{set_stands, sets_stand, all_sets_stand}
use Rattle.plain_normal.specs.Jumps.{Jumps, AllJump}
use Rattle.plain_words.proofs.Live.{Among, join_below, one_below, Reaches, lives, Fine, end_fine, join_fine, around_fine, Leaves, exit_fine}
use Rattle.plain_words.proofs.Made.{condition_well, fork_fine, fork_reaches}
use Rattle.plain_words.proofs.Planned.{planned_well}
use Rattle.plain_words.proofs.Singles.{DidWell, made_well, save_unless_well, effect_done, step_done, started_done, tests_done, given_done}
use Rattle.plain_words.proofs.Switches.{NoneOut, none_more, one_further, two_further, stmt_next, StmtWell, GroupsWell, dispatch_fine, stop_groups, more_groups}

never : (b : Bool) → (b ≡ true → false ≡ true) → b ≡ false
never true h = sym (h refl)
never false h = refl

module _ (xs : List Variable) (i : ℕ → Bool) where
  -- ---- single statements

  once : (loops breaks : Bool) (n : ℕ) (d : Did) → DidWell xs i n d → StmtWell xs i loops breaks n (λ b c. d)
  once loops breaks n d h = record { reaches = λ b c. h.reaches; fine = λ b c os f none after brk cnt. h.fine no_temporaries os f after }

  nothing : (loops breaks : Bool) (n : ℕ) → StmtWell xs i loops breaks n (λ b c. record { did = end; next_temp = n })
  nothing loops breaks n = record { reaches = λ b c k low below. low; fine = λ b c os f none after brk cnt. end_fine xs i no_temporaries os f after }

  break_well : (loops breaks : Bool) (n : ℕ) → breaks ≡ true → StmtWell xs i loops breaks n (λ b c. record { did = one (exit b); next_temp = n })
  break_well loops breaks n e = record { reaches = λ b c k low below. low; fine = λ b c os f none after out turns. exit_fine xs i no_temporaries os f b (out e, none b) }

  continue_well : (loops breaks : Bool) (n : ℕ) → loops ≡ true → StmtWell xs i loops breaks n (λ b c. record { did = one (exit c); next_temp = n })
  continue_well loops breaks n e = record { reaches = λ b c k low below. low; fine = λ b c os f none after out turns. exit_fine xs i no_temporaries os f c (turns e, none c) }

  block_well : (ys : List ℕ) (ss : Stmts) (loops breaks : Bool) (n : ℕ) → StmtWell xs (with_names ys i) loops breaks n (λ b c. stmts xs b c n ss)
      → StmtWell xs i loops breaks n (λ b c. stmt xs b c n (block ys ss))
  block_well ys ss loops breaks n h = record {
    reaches = λ b c k low below. h.reaches b c k low (one_below xs (scope ys (stmts xs b c n ss).did) k below);
    fine = λ b c os f none after out turns. let x = h.fine b c os f none after out turns in record { live = x.live; stays = (x.stays, tt) };
  }

  -- ---- statements one behind another, and choices

  module _ (loops breaks : Bool) (n : ℕ) where
    more_well : (s : Stmt) (ss : Stmts) → StmtWell xs i loops breaks n (λ b c. stmt xs b c n s) → ((m : ℕ) → StmtWell xs i loops breaks m (λ b c. stmts xs b c m ss))
        → StmtWell xs i loops breaks n (λ b c. stmts xs b c n (more s ss))
    more_well s ss h g = record {
      reaches = λ b c k low below.
          let x = stmt xs b c n s in
          let y = stmts xs b c x.next_temp ss in
          let parts = join_below xs x.did y.did k below in
          (g x.next_temp).reaches b c k (h.reaches b c k low parts.0) parts.1;
      fine = λ b c os f none after out turns.
          let x = stmt xs b c n s in
          let y = stmts xs b c x.next_temp ss in
          let second = (g x.next_temp).fine b c os f none after out turns in
          join_fine xs i x.did y.did no_temporaries os f (h.fine b c os (lives xs y.did os f) none second.live out turns) second.stays;
    }

    choose_well : (e : t.Value) (s s' : Stmt) → ((m : ℕ) → StmtWell xs i loops breaks m (λ b c. stmt xs b c m s)) → ((m : ℕ) → StmtWell xs i loops breaks m (λ b c. stmt xs b c m s'))
        → StmtWell xs i loops breaks n (λ b c. stmt xs b c n (choose e s s'))
    choose_well e s s' h g =
        let w = condition (planned xs e) n in
        let hw = condition_well xs i no_temporaries (planned xs e) (planned_well xs i e) n in
        let n1 = next_of w in
        record {
          reaches = λ b c.
              let n2 = (stmt xs b c n1 s).next_temp in
              let n3 = (stmt xs b c n2 s').next_temp in
              fork_reaches xs i no_temporaries n w hw (λ k. (stmt xs (up k b) (up k c) n1 s).did) (λ k. (stmt xs (up k b) (up k c) n2 s').did) n2 n3
              (λ k. subst (Reaches xs (stmt xs (up k b) (up k c) n1 s).did n1) (stmt_next xs s (up k b) (up k c) b c n1) ((h n1).reaches (up k b) (up k c)))
              (λ k. subst (Reaches xs (stmt xs (up k b) (up k c) n2 s').did n2) (stmt_next xs s' (up k b) (up k c) b c n2) ((g n2).reaches (up k b) (up k c)));
          fine = λ b c os f none after out turns.
              let n2 = (stmt xs b c n1 s).next_temp in
              fork_fine xs i no_temporaries n w hw (λ k. (stmt xs (up k b) (up k c) n1 s).did) (λ k. (stmt xs (up k b) (up k c) n2 s').did) no_temporaries os f (λ j k. k) (record {
                first_here = (h n1).fine b c os f none after out turns;
                other_here = (g n2).fine b c os f none after out turns;
                first_inside = λ o k.
                    (h n1).fine (up 2 b) (up 2 c) (o ∷ f ∷ os) f (none_more o (f ∷ os) k (none_more f os after none)) after (two_further breaks f o os b out) (two_further loops f o os c turns);
                other_inside = (g n2).fine (up 1 b) (up 1 c) (f ∷ os) f (none_more f os after none) after (one_further breaks f os b out) (one_further loops f os c turns);
              });
        }

    -- ---- loops

    module _ (l : Loop) (before : Option t.Value) (s : Stmt) (step behind : Option t.Value) where
      abbrev test : Tests
      test = loop_test xs before n

      abbrev body : Did
      body = stmt xs 1 0 test.next_temp s

      abbrev next : Did
      next = loop_step xs step body.next_temp

      abbrev again : Tests
      again = loop_test xs behind next.next_temp

      abbrev inside : Cores
      inside = loop_body test body.did next again

      inside_fine : StmtWell xs i true true test.next_temp (λ b c. stmt xs b c test.next_temp s) → DidWell xs i body.next_temp next → (os : List Temporaries) (f : Temporaries) → NoneOut os
          → Among f no_temporaries → Fine xs i no_temporaries (f ∷ os) no_temporaries inside
      inside_fine h g os f none after =
          let os' = f ∷ os in
          let none' = none_more f os after none in
          let out : Leaves xs i no_temporaries os' 0 = (omega (arith), after) in
          let last = (tests_done xs i behind next.next_temp).fine no_temporaries os' no_temporaries (λ j k. k) out (λ j k. k) in
          let turn = join_fine xs i next.did again.tests no_temporaries os' no_temporaries (g.fine no_temporaries os' (lives xs again.tests os' no_temporaries) last.live) last.stays in
          let behind = lives xs (join next.did again.tests) os' no_temporaries in
          let own = h.fine 1 0 (behind ∷ os') behind (none_more behind os' turn.live none') turn.live (λ e. omega (arith)) (λ e. omega (arith)) in
          let all = join_fine xs i (one (around body.did)) (join next.did again.tests) no_temporaries os' no_temporaries (around_fine xs i body.did no_temporaries os' behind own) turn.stays in
          let rest = then_ (around body.did) (join next.did again.tests) in
          join_fine xs i test.tests rest no_temporaries os' no_temporaries
          ((tests_done xs i before n).fine no_temporaries os' (lives xs rest os' no_temporaries) (λ j k. k) out all.live) all.stays

      loop_well : set_stands i l ≡ true → StmtWell xs i true true test.next_temp (λ b c. stmt xs b c test.next_temp s) → DidWell xs i body.next_temp next
          → StmtWell xs i loops breaks n (λ b c. stmt xs b c n (loop l before s step behind))
      loop_well set h g = record {
        reaches = λ b c k low below.
            let whole = one_below xs (repeat l inside) k (one_below xs (around (one (repeat l inside))) k below) in
            let rest = then_ (around body.did) (join next.did again.tests) in
            let first = join_below xs test.tests rest k whole in
            let second = join_below xs (one (around body.did)) (join next.did again.tests) k first.1 in
            let third = join_below xs next.did again.tests k second.1 in
            let n1 = (tests_done xs i before n).reaches k low first.0 in
            let n2 = h.reaches 1 0 k n1 (one_below xs (around body.did) k second.0) in
            (tests_done xs i behind next.next_temp).reaches k (g.reaches k n2 third.0) third.1;
        fine = λ b c os f none after out turns.
            let x = inside_fine h g os f none after in
            around_fine xs i (one (repeat l inside)) no_temporaries os f
            (record { live = x.live; stays = ((set, (λ j. never (lives xs inside (f ∷ os) no_temporaries j) (x.live j)), x.stays), tt) });
      }

    -- ---- switches

    switch_well : (e : t.Value) (ss : Stmts) → ((m : ℕ) → GroupsWell xs i loops m ss) → StmtWell xs i loops breaks n (λ b c. stmt xs b c n (switch e ss))
    switch_well e ss h =
        let m = (planned xs e).made n in
        let x = save_unless (is_settled m.value) m in
        let hx = save_unless_well xs i (is_settled m.value) n m (made_well xs i e n) in
        let inner = dispatch x.value ss ss in
        let g = h x.next_temp in
        record {
          reaches = λ b c k low below.
              let y = groups xs c x.next_temp false inner ss in
              let parts = join_below xs x.before (one (around y.did)) k below in
              g.reaches c false inner k (hx.reaches k low parts.0) (one_below xs (around y.did) k parts.1);
          fine = λ b c os f none after out turns.
              let y = groups xs c x.next_temp false inner ss in
              let all = around_fine xs i y.did (uses x.value) os f
              (g.fine c false inner (uses x.value) (length os) (λ os' f' none' after' le. dispatch_fine xs i x.value ss ss os' f' none' (omega (arith, le))) turns (f ∷ os) f
              (none_more f os after none) after (omega (arith))) in
              join_fine xs i x.before (one (around y.did)) no_temporaries os f (hx.fine no_temporaries os (lives xs (one (around y.did)) os f) (λ j k. k) all.live) all.stays;
        }

-- ---- all statements

module _ (p : Facts) (xs : List Variable) (functions : ℕ → Option (Function Stmts)) (result : Option CellKind) where
  mutual
    stmt_well : (i f g : ℕ → Bool) (low : ℕ) (loops breaks : Bool) (s : Stmt) → StmtIsPlain p xs functions result f g low s → sets_stand i s ≡ true → Jumps loops breaks s
        → (n : ℕ) → StmtWell xs i loops breaks n (λ b c. stmt xs b c n s)
    stmt_well i f g low loops breaks (evaluate e) h sets jumps n = once xs i loops breaks n (effect_of xs e n) (effect_done xs i p functions g e h.0 n)
    stmt_well i f g low loops breaks (block ys ss) h sets jumps n =
        block_well xs i ys ss loops breaks n (stmts_well (with_names ys i) (with_names ys f) (with_names ys g) low loops breaks ss h.1 sets jumps n)
    stmt_well i f g low loops breaks (initial x line e) h sets jumps n = once xs i loops breaks n (started xs x e n) (started_done xs i x e n)
    stmt_well i f g low loops breaks (choose e a b) h sets jumps n =
        let both = and_parts (sets_stand i a) (sets_stand i b) sets in
        choose_well xs i loops breaks n e a b (stmt_well i f g low loops breaks a h.1 both.0 jumps.0) (stmt_well i f g low loops breaks b h.2 both.1 jumps.1)
    stmt_well i f g low loops breaks (loop l before s step behind) h sets jumps n =
        let test = loop_test xs before n in
        let both = and_parts (set_stands i l) (sets_stand i s) sets in
        loop_well xs i loops breaks n l before s step behind both.0 (stmt_well i f (up_to l.declared g) l.declared true true s h.2 both.1 jumps test.next_temp)
        (step_done xs i p functions (up_to l.declared g) step h.3 (stmt xs 1 0 test.next_temp s).next_temp)
    stmt_well i f g low loops breaks (switch e ss) h sets jumps n = switch_well xs i loops breaks n e ss (groups_well i f g low loops ss h.2 sets jumps)
    stmt_well i f g low loops breaks (case_of z) h sets jumps n = nothing xs i loops breaks n
    stmt_well i f g low loops breaks default h sets jumps n = nothing xs i loops breaks n
    stmt_well i f g low loops breaks break h sets jumps n = break_well xs i loops breaks n jumps
    stmt_well i f g low loops breaks continue h sets jumps n = continue_well xs i loops breaks n jumps
    stmt_well i f g low loops breaks (return_of e) h sets jumps n = once xs i loops breaks n (given xs e n) (given_done xs i e n)
    stmt_well i f g low loops breaks (assert a) h sets jumps n =
        once xs i loops breaks n (record { did = one (claim a); next_temp = n })
        (record { reaches = λ k low below. low; fine = λ a os f after. record { live = after; stays = (tt, tt) } })

    pub stmts_well : (i f g : ℕ → Bool) (low : ℕ) (loops breaks : Bool) (ss : Stmts) → StmtsArePlain p xs functions result f g low ss → all_sets_stand i ss ≡ true → AllJump loops breaks ss
        → (n : ℕ) → StmtWell xs i loops breaks n (λ b c. stmts xs b c n ss)
    stmts_well i f g low loops breaks stop h sets jumps n = nothing xs i loops breaks n
    stmts_well i f g low loops breaks (more s ss) h sets jumps n =
        let both = and_parts (sets_stand i s) (all_sets_stand i ss) sets in
        more_well xs i loops breaks n s ss (stmt_well i f g low loops breaks s h.0 both.0 jumps.0 n) (stmts_well i f g low loops breaks ss h.1 both.1 jumps.1)

    groups_well : (i f g : ℕ → Bool) (low : ℕ) (loops : Bool) (ss : Stmts) → StmtsArePlain p xs functions result f g low ss → all_sets_stand i ss ≡ true → AllJump loops true ss
        → (n : ℕ) → GroupsWell xs i loops n ss
    groups_well i f g low loops stop h sets jumps n = stop_groups xs i loops n
    groups_well i f g low loops (more s ss) h sets jumps n =
        let both = and_parts (sets_stand i s) (all_sets_stand i ss) sets in
        more_groups xs i loops n s ss (stmt_well i f g low loops true s h.0 both.0 jumps.0 n) (groups_well i f g low loops ss h.1 both.1 jumps.1 n)
        (groups_well i f g low loops ss h.1 both.1 jumps.1)
