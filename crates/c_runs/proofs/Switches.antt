-- Statements of a switch beside what leads to them (C11 6.8.4.2).
use Rattle.std.proofs.Common.{List, ◌≡◌, ℕ, zero, suc, ℤ, pos, negsuc, ◌-ℤ◌, Bool, true, false, ◌||◌, if◌then◌else◌, refl, sym, ap, ◌∙◌, subst, arith}
use Rattle.std.proofs.lemmas.Bool.{false≢true}
use Rattle.std.proofs.lemmas.Int.{ints}
use Rattle.typed_prog.specs.Tree as t
use Rattle.qed_terms.specs.Operators.{is_zero, is_equal}
use Rattle.c_runs.specs.Told.{Value, number_of}
use Rattle.c_runs.specs.Program.{Stmt, evaluate, block, initial, choose, loop, switch, case_of, default, break, continue, return_of, assert, Stmts, stop, more, Variable, Program}
use Rattle.c_runs.specs.States.{World, Here}
use Rattle.c_runs.specs.Operators.{Val, is, wrong, truth_number}
use Rattle.c_runs.specs.Values.{Temps, applied}
use Rattle.c_runs.specs.Calls.{Eval}
use Rattle.c_runs.specs.Run.{is_case, is_default, has_label, label_of}
use Rattle.c_runs.specs.Run as sp
use Rattle.c_runs.specs.Core.{around, exit, Cores, end, join, one}
use Rattle.c_runs.specs.CoreRun.{CoreWorld, Ending, goes_on, exits, returns, stopped, then_do, block_end}
use Rattle.c_runs.specs.CoreRun as core
use Rattle.c_runs.specs.Plans.{Made}
use Rattle.c_runs.specs.Normal.{up, is_label, index_of, no_label, whole_switch, close, truth_of, label_test, dispatch, stmt, stmts, groups, normal}
use Rattle.c_runs.proofs.Relations.{pair, keeps_all, Sure, sure_early, sure}
use Rattle.c_runs.proofs.Plans.{truth_of_number, join_ex, one_ex}
use Rattle.c_runs.proofs.Endings.{Like, on, halt, then_like, block_like, Switched, switched, no_such_label, switch_like}

-- ---- the tests of labels

zero_is : (z : ℤ) → is_zero z ≡ true → z ≡ pos 0
zero_is (pos zero) h = refl
zero_is (pos (suc n)) h = absurd (false≢true h)
zero_is (negsuc n) h = absurd (false≢true h)

equal_is : (a b : ℤ) → is_equal a b ≡ true → a ≡ b
equal_is a b h = omega (arith, ints, zero_is (a -ℤ b) h)

abbrev val_number : Val → ℤ
val_number (is v) = number_of v
val_number (wrong u l) = pos 0

module _ (cp : Program Cores) (dc : core.Deeper) (xs : List Variable) (here : Here) where
  abbrev ex : Cores → CoreWorld → Ending
  ex = core.exec_all cp dc xs here

  abbrev eval : CoreWorld → t.Value → Val
  eval = core.eval cp dc xs

  truth_of_is : (l : ℕ) (b : Bool) (x : CoreWorld) → eval x (truth_of l b) ≡ is (truth_number b)
  truth_of_is l true x = refl
  truth_of_is l false x = refl

  label_tested : (e : t.Value) (z : ℤ) (v : Value) (x : CoreWorld) → eval x e ≡ is v → eval x (label_test e z) ≡ is (truth_number (is_equal (number_of v) z))
  unfolding applied
  label_tested (t.typed (t.constant y) type l) z v x h = truth_of_is l (is_equal y z) x ∙ ap (λ n. is (truth_number (is_equal n z))) (ap val_number h)
  label_tested (t.typed t.null type l) z v x h = ap (λ n. is (truth_number (is_equal n z))) (ap val_number h)
  label_tested (t.typed (t.temporary n) type l) z v x h = ap (λ n. is (truth_number (is_equal n z))) (ap val_number h)
  label_tested (t.typed (t.apply o es) type l) z v x h = rw h refl
  label_tested (t.typed (t.logic c a b) type l) z v x h = rw h refl
  label_tested (t.typed (t.choose c a b) type l) z v x h = rw h refl
  label_tested (t.typed (t.effect e es) type l) z v x h = ap (λ n. is (truth_number (is_equal n z))) (ap val_number h)

  case_exits : (z y : ℤ) (x : CoreWorld) (all ss : Stmts) (later : CoreWorld → Ending) → later x ≡ exits (index_of (label_of z ss) false all) x → (b : Bool) → is_equal z y ≡ b
      → then_do (if b then ex (one (exit (index_of (is_case y) false all))) x else ex end x) later ≡ exits (index_of (if b || has_label (is_case z) ss then is_case z else is_default) false all) x
  case_exits z y x all ss later h true e = ap (λ y. exits (index_of (is_case y) false all) x) (sym (equal_is z y e))
  case_exits z y x all ss later h false e = h

  -- where no case is met there is an exit to `default`, or to the end
  pub dispatch_exits : (e : t.Value) (v : Value) (x : CoreWorld) → eval x e ≡ is v → (all ss : Stmts) → ex (dispatch e all ss) x ≡ exits (index_of (label_of (number_of v) ss) false all) x
  dispatch_exits e v x h all stop = refl
  dispatch_exits e v x h all (more (case_of y) ss) =
      rw (label_tested e y v x h, truth_of_number (is_equal (number_of v) y)) (case_exits (number_of v) y x all ss (ex (dispatch e all ss)) (dispatch_exits e v x h all ss) (is_equal (number_of v) y) refl)
  dispatch_exits e v x h all (more (evaluate a) ss) = dispatch_exits e v x h all ss
  dispatch_exits e v x h all (more (block ys s) ss) = dispatch_exits e v x h all ss
  dispatch_exits e v x h all (more (initial y l a) ss) = dispatch_exits e v x h all ss
  dispatch_exits e v x h all (more (choose a s s') ss) = dispatch_exits e v x h all ss
  dispatch_exits e v x h all (more (loop l a b c d) ss) = dispatch_exits e v x h all ss
  dispatch_exits e v x h all (more (switch a s) ss) = dispatch_exits e v x h all ss
  dispatch_exits e v x h all (more default ss) = dispatch_exits e v x h all ss
  dispatch_exits e v x h all (more break ss) = dispatch_exits e v x h all ss
  dispatch_exits e v x h all (more continue ss) = dispatch_exits e v x h all ss
  dispatch_exits e v x h all (more (return_of a) ss) = dispatch_exits e v x h all ss
  dispatch_exits e v x h all (more (assert q) ss) = dispatch_exits e v x h all ss

-- ---- outcomes

then_assoc : (o : sp.Outcome) (f g h : World → sp.Outcome) → ((w : World) → f w ≡ sp.then_do (g w) h) → sp.then_do o f ≡ sp.then_do (sp.then_do o g) h
then_assoc (sp.goes_on w) f g h p = p w
then_assoc (sp.breaks w) f g h p = refl
then_assoc (sp.continues w) f g h p = refl
then_assoc (sp.returns z w) f g h p = refl
then_assoc (sp.stopped s) f g h p = refl

then_same : (o : sp.Outcome) (f g : World → sp.Outcome) → ((w : World) → f w ≡ g w) → sp.then_do o f ≡ sp.then_do o g
then_same (sp.goes_on w) f g p = p w
then_same (sp.breaks w) f g p = refl
then_same (sp.continues w) f g p = refl
then_same (sp.returns z w) f g p = refl
then_same (sp.stopped s) f g p = refl

then_goes : (o : sp.Outcome) → sp.then_do o (λ w. sp.goes_on w) ≡ o
then_goes (sp.goes_on w) = refl
then_goes (sp.breaks w) = refl
then_goes (sp.continues w) = refl
then_goes (sp.returns z w) = refl
then_goes (sp.stopped s) = refl

-- ---- labels

index_stmt : (q : Stmt → Bool) (o : Bool) (s : Stmt) (ss : Stmts) → q s ≡ false → is_label s ≡ false → index_of q o (more s ss) ≡ (if o then suc (index_of q false ss) else index_of q false ss)
index_stmt q true s ss h l = rw (h, l) refl
index_stmt q false s ss h l = rw (h, l) refl

index_label : (q : Stmt → Bool) (o : Bool) (s : Stmt) (ss : Stmts) → q s ≡ false → is_label s ≡ true → index_of q o (more s ss) ≡ index_of q true ss
index_label q true s ss h l = rw (h, l) refl
index_label q false s ss h l = rw (h, l) refl

index_here : (q : Stmt → Bool) (o : Bool) (s : Stmt) (ss : Stmts) → q s ≡ true → index_of q o (more s ss) ≡ 0
index_here q true s ss h = rw h refl
index_here q false s ss h = rw h refl

case_labels : (z : ℤ) (s : Stmt) → is_case z s ≡ true → is_label s ≡ true
case_labels z (case_of y) h = refl
case_labels z default h = refl
case_labels z (evaluate e) h = h
case_labels z (block ys ss) h = h
case_labels z (initial x l e) h = h
case_labels z (choose e a b) h = h
case_labels z (loop l a b c d) h = h
case_labels z (switch e ss) h = h
case_labels z break h = h
case_labels z continue h = h
case_labels z (return_of e) h = h
case_labels z (assert q) h = h

default_labels : (s : Stmt) → is_default s ≡ true → is_label s ≡ true
default_labels default h = refl
default_labels (case_of y) h = refl
default_labels (evaluate e) h = h
default_labels (block ys ss) h = h
default_labels (initial x l e) h = h
default_labels (choose e a b) h = h
default_labels (loop l a b c d) h = h
default_labels (switch e ss) h = h
default_labels break h = h
default_labels continue h = h
default_labels (return_of e) h = h
default_labels (assert q) h = h

labels : (z : ℤ) (ss : Stmts) (s : Stmt) → label_of z ss s ≡ true → is_label s ≡ true
labels z ss s = elim (has_label (is_case z) ss) as (λ b. (if b then is_case z else is_default) s ≡ true → is_label s ≡ true) [ true ↦ case_labels z s | false ↦ default_labels s ]

-- ---- the statements of a function

module _ (p : Program Stmts) (dp : sp.Deeper) (dc : core.Deeper) (xs : List Variable) where
  abbrev pub xe : Here → Cores → CoreWorld → Ending
  xe here = core.exec_all (normal p) dc xs here

  abbrev pub StmtLike : Stmt → Type 0
  StmtLike s = (here : Here) (b c n : ℕ) (w : World) (tm : Temps) → Like b c (xe here (stmt xs b c n s).did (pair w tm)) (sp.exec p dp xs here s w)

  abbrev pub AllLike : Stmts → Type 0
  AllLike stop = Unit {0}
  AllLike (more s ss) = StmtLike s × AllLike ss

  pub all_stmts : (ss : Stmts) → AllLike ss → (here : Here) (b c n : ℕ) (w : World) (tm : Temps) → Like b c (xe here (stmts xs b c n ss).did (pair w tm)) (sp.exec_all p dp xs here ss w)
  all_stmts stop h here b c n w tm = on (pair w tm)
  all_stmts (more s ss) h here b c n w tm =
      let x = stmt xs b c n s in
      let y = stmts xs b c x.next_temp ss in
      rw (join_ex (normal p) dc xs here x.did y.did (pair w tm)) (then_like (xe here y.did) (sp.exec_all p dp xs here ss) (h.0 here b c n w tm) (λ z. all_stmts ss h.1 here b c x.next_temp z.world z.temps))

  module _ (here : Here) where
    label_goes : (s : Stmt) → is_label s ≡ true → (w : World) → sp.exec p dp xs here s w ≡ sp.goes_on w
    label_goes (case_of z) h w = refl
    label_goes default h w = refl
    label_goes (evaluate e) h w = absurd (false≢true h)
    label_goes (block ys ss) h w = absurd (false≢true h)
    label_goes (initial x l e) h w = absurd (false≢true h)
    label_goes (choose e a b) h w = absurd (false≢true h)
    label_goes (loop l a b c d) h w = absurd (false≢true h)
    label_goes (switch e ss) h w = absurd (false≢true h)
    label_goes break h w = absurd (false≢true h)
    label_goes continue h w = absurd (false≢true h)
    label_goes (return_of e) h w = absurd (false≢true h)
    label_goes (assert q) h w = absurd (false≢true h)

    label_all : (s : Stmt) (ss : Stmts) → is_label s ≡ true → (w : World) → sp.exec_all p dp xs here (more s ss) w ≡ sp.exec_all p dp xs here ss w
    label_all s ss h w = rw (label_goes s h w) refl

    -- the block of a group is closed before its first statement
    close_like : (o : Bool) (n c : ℕ) (inner : Cores) (x : CoreWorld) (res : sp.Outcome) → (let m = (if o then suc n else n) in Like m (up (suc m) c) (xe here inner x) res)
        → Like n (up (suc n) c) (xe here (close o inner) x) res
    close_like true n c inner x res h = rw (one_ex (normal p) dc xs here (around inner) x) (block_like h)
    close_like false n c inner x res h = h

    groups_label : (c n : ℕ) (o : Bool) (inner : Cores) (s : Stmt) (ss : Stmts) → is_label s ≡ true → groups xs c n o inner (more s ss) ≡ groups xs c n true inner ss
    groups_label c n o inner s ss h = rw h refl

    abbrev with_stmt : (c n : ℕ) (o : Bool) (inner : Cores) (s : Stmt) (ss : Stmts) → Cores
    with_stmt c n o inner s ss = let b = whole_switch false ss in join (close o inner) (stmt xs b (up (suc b) c) n s).did

    abbrev next_stmt : (c n : ℕ) (s : Stmt) (ss : Stmts) → ℕ
    next_stmt c n s ss = let b = whole_switch false ss in (stmt xs b (up (suc b) c) n s).next_temp

    groups_stmt : (c n : ℕ) (o : Bool) (inner : Cores) (s : Stmt) (ss : Stmts) → is_label s ≡ false → groups xs c n o inner (more s ss) ≡ groups xs c (next_stmt c n s ss) false (with_stmt c n o inner s ss) ss
    groups_stmt c n o inner s ss h = rw h refl

    -- what leads to the statements goes on, or leaves the switch
    abbrev Goes : Stmts → Type 0
    Goes ss = (c n : ℕ) (o : Bool) (inner : Cores) (x : CoreWorld) (res : sp.Outcome) → (let m = whole_switch o ss in Like m (up (suc m) c) (xe here inner x) res)
        → Like 0 (suc c) (xe here (groups xs c n o inner ss).did x) (sp.then_do res (sp.exec_all p dp xs here ss))

    -- it leaves the block that isn't closed yet, so that the statements are done from here
    abbrev Enters : Stmts → Type 0
    Enters ss = (c n : ℕ) (inner : Cores) (x x1 : CoreWorld) → xe here inner x ≡ exits 0 x1 → Like 0 (suc c) (xe here (groups xs c n true inner ss).did x) (sp.exec_all p dp xs here ss x1.world)

    abbrev Labels : (Stmt → Bool) → Type 0
    Labels q = (s : Stmt) → q s ≡ true → is_label s ≡ true

    -- it leaves the block before the label
    abbrev Finds : Stmts → Type 0
    Finds ss = (q : Stmt → Bool) → Labels q → (c n : ℕ) (o : Bool) (inner : Cores) (x x1 : CoreWorld) → xe here inner x ≡ exits (index_of q o ss) x1
        → Switched c (xe here (groups xs c n o inner ss).did x) (sp.exec_from p dp xs here q ss x1.world)

    with_stmt_like : (s : Stmt) (ss : Stmts) → StmtLike s → (c n : ℕ) (o : Bool) (inner : Cores) (x : CoreWorld) (res : sp.Outcome) → (let m = whole_switch false ss in Like m (up (suc m) c) (xe here (close o inner) x) res)
        → (let m = whole_switch false ss in Like m (up (suc m) c) (xe here (with_stmt c n o inner s ss) x) (sp.then_do res (sp.exec p dp xs here s)))
    with_stmt_like s ss h c n o inner x res l =
        let m = whole_switch false ss in
        let y = stmt xs m (up (suc m) c) n s in
        rw (join_ex (normal p) dc xs here (close o inner) y.did x) (then_like (xe here y.did) (sp.exec p dp xs here s) l (λ z. h here m (up (suc m) c) n z.world z.temps))

    go_label : (s : Stmt) (ss : Stmts) → is_label s ≡ true → Goes ss → Goes (more s ss)
    go_label s ss h f c n o inner x res l =
        rw (groups_label c n o inner s ss h)
        (subst (λ u. Like 0 (suc c) (xe here (groups xs c n true inner ss).did x) u) (then_same res (sp.exec_all p dp xs here ss) (sp.exec_all p dp xs here (more s ss)) (λ w. sym (label_all s ss h w)))
        (f c n true inner x res (subst (λ m. Like m (up (suc m) c) (xe here inner x) res) (index_label no_label o s ss refl h) l)))

    go_stmt : (s : Stmt) (ss : Stmts) → is_label s ≡ false → StmtLike s → Goes ss → Goes (more s ss)
    go_stmt s ss h a f c n o inner x res l =
        let m = whole_switch false ss in
        rw (groups_stmt c n o inner s ss h)
        (subst (λ u. Like 0 (suc c) (xe here (groups xs c (next_stmt c n s ss) false (with_stmt c n o inner s ss) ss).did x) u)
        (sym (then_assoc res (sp.exec_all p dp xs here (more s ss)) (sp.exec p dp xs here s) (sp.exec_all p dp xs here ss) (λ w. refl)))
        (f c (next_stmt c n s ss) false (with_stmt c n o inner s ss) x (sp.then_do res (sp.exec p dp xs here s))
        (with_stmt_like s ss a c n o inner x res (close_like o m c inner x res (subst (λ m. Like m (up (suc m) c) (xe here inner x) res) (index_stmt no_label o s ss refl h) l)))))

    all_go : (ss : Stmts) → AllLike ss → Goes ss
    all_go stop h c n true inner x res l = rw (then_goes res) (close_like true 0 c inner x res l)
    all_go stop h c n false inner x res l = rw (then_goes res) l
    all_go (more s ss) h c n o inner x res l =
        elim (is_label s) as (λ b. is_label s ≡ b → Like 0 (suc c) (xe here (groups xs c n o inner (more s ss)).did x) (sp.then_do res (sp.exec_all p dp xs here (more s ss))))
        [ true ↦ (λ e. go_label s ss e (all_go ss h.1) c n o inner x res l) | false ↦ (λ e. go_stmt s ss e h.0 (all_go ss h.1) c n o inner x res l) ] refl

    enter_label : (s : Stmt) (ss : Stmts) → is_label s ≡ true → Enters ss → Enters (more s ss)
    enter_label s ss h f c n inner x x1 e = rw (groups_label c n true inner s ss h, label_all s ss h x1.world) (f c n inner x x1 e)

    closed_goes : (inner : Cores) (x x1 : CoreWorld) → xe here inner x ≡ exits 0 x1 → xe here (close true inner) x ≡ goes_on x1
    closed_goes inner x x1 e = one_ex (normal p) dc xs here (around inner) x ∙ ap block_end e

    enter_stmt : (s : Stmt) (ss : Stmts) → is_label s ≡ false → StmtLike s → Goes ss → Enters (more s ss)
    enter_stmt s ss h a f c n inner x x1 e =
        let m = whole_switch false ss in
        rw (groups_stmt c n true inner s ss h)
        (f c (next_stmt c n s ss) false (with_stmt c n true inner s ss) x (sp.exec p dp xs here s x1.world)
        (with_stmt_like s ss a c n true inner x (sp.goes_on x1.world) (subst (λ y. Like m (up (suc m) c) y (sp.goes_on x1.world)) (sym (closed_goes inner x x1 e)) (on x1))))

    all_enter : (ss : Stmts) → AllLike ss → Enters ss
    all_enter stop h c n inner x x1 e = rw (closed_goes inner x x1 e) (on x1)
    all_enter (more s ss) h c n inner x x1 e =
        elim (is_label s) as (λ b. is_label s ≡ b → Like 0 (suc c) (xe here (groups xs c n true inner (more s ss)).did x) (sp.exec_all p dp xs here (more s ss) x1.world))
        [ true ↦ (λ l. enter_label s ss l (all_enter ss h.1) c n inner x x1 e) | false ↦ (λ l. enter_stmt s ss l h.0 (all_go ss h.1) c n inner x x1 e) ] refl

    from_here : (q : Stmt → Bool) (s : Stmt) (ss : Stmts) → q s ≡ true → (w : World) → sp.exec_from p dp xs here q (more s ss) w ≡ sp.exec_all p dp xs here ss w
    from_here q s ss h w = rw h refl

    from_later : (q : Stmt → Bool) (s : Stmt) (ss : Stmts) → q s ≡ false → (w : World) → sp.exec_from p dp xs here q (more s ss) w ≡ sp.exec_from p dp xs here q ss w
    from_later q s ss h w = rw h refl

    closed_exits : (o : Bool) (n : ℕ) (inner : Cores) (x x1 : CoreWorld) → xe here inner x ≡ exits (if o then suc n else n) x1 → xe here (close o inner) x ≡ exits n x1
    closed_exits true n inner x x1 e = one_ex (normal p) dc xs here (around inner) x ∙ ap block_end e
    closed_exits false n inner x x1 e = e

    -- the result of what leads to a statement and those behind it
    abbrev FindsMore : (Stmt → Bool) → Stmt → Stmts → Type 0
    FindsMore q s ss = (c n : ℕ) (o : Bool) (inner : Cores) (x x1 : CoreWorld) → xe here inner x ≡ exits (index_of q o (more s ss)) x1
        → Switched c (xe here (groups xs c n o inner (more s ss)).did x) (sp.exec_from p dp xs here q (more s ss) x1.world)

    find_here : (s : Stmt) (ss : Stmts) (q : Stmt → Bool) → q s ≡ true → is_label s ≡ true → Enters ss → FindsMore q s ss
    find_here s ss q h l f c n o inner x x1 e =
        rw (groups_label c n o inner s ss l, from_here q s ss h x1.world) (switched (f c n inner x x1 (e ∙ ap (λ n. exits n x1) (index_here q o s ss h))))

    find_label : (s : Stmt) (ss : Stmts) (q : Stmt → Bool) → Labels q → q s ≡ false → is_label s ≡ true → Finds ss → FindsMore q s ss
    find_label s ss q lab h l f c n o inner x x1 e =
        rw (groups_label c n o inner s ss l, from_later q s ss h x1.world) (f q lab c n true inner x x1 (e ∙ ap (λ n. exits n x1) (index_label q o s ss h l)))

    find_stmt : (s : Stmt) (ss : Stmts) (q : Stmt → Bool) → Labels q → q s ≡ false → is_label s ≡ false → Finds ss → FindsMore q s ss
    find_stmt s ss q lab h l f c n o inner x x1 e =
        let m = whole_switch false ss in
        let y = stmt xs m (up (suc m) c) n s in
        let e1 = closed_exits o (index_of q false ss) inner x x1 (e ∙ ap (λ n. exits n x1) (index_stmt q o s ss h l)) in
        rw (groups_stmt c n o inner s ss l, from_later q s ss h x1.world)
        (f q lab c (next_stmt c n s ss) false (with_stmt c n o inner s ss) x x1 (join_ex (normal p) dc xs here (close o inner) y.did x ∙ ap (λ z. then_do z (xe here y.did)) e1))

    all_find : (ss : Stmts) → AllLike ss → Finds ss
    all_find stop h q lab c n true inner x x1 e = rw (one_ex (normal p) dc xs here (around inner) x, e) (no_such_label x1)
    all_find stop h q lab c n false inner x x1 e = rw e (no_such_label x1)
    all_find (more s ss) h q lab c n o inner x x1 e =
        elim (q s) as (λ b. q s ≡ b → Switched c (xe here (groups xs c n o inner (more s ss)).did x) (sp.exec_from p dp xs here q (more s ss) x1.world)) [
          | true ↦ (λ m. find_here s ss q m (lab s m) (all_enter ss h.1) c n o inner x x1 e)
          | false ↦ (λ m. elim (is_label s) as (λ b. is_label s ≡ b → Switched c (xe here (groups xs c n o inner (more s ss)).did x) (sp.exec_from p dp xs here q (more s ss) x1.world))
              [ true ↦ (λ l. find_label s ss q lab m l (all_find ss h.1) c n o inner x x1 e) | false ↦ (λ l. find_stmt s ss q lab m l (all_find ss h.1) c n o inner x x1 e) ] refl)
        ] refl

    -- behind the value that is tested
    pub switch_body : (ss : Stmts) → AllLike ss → {w : World} {tm : Temps} {n b c : ℕ} (m : Made) {e : Ending} {r : Eval} → Sure p.facts xs false w tm n m.value m.next_temp e r
        → Like b c (then_do e (xe here (one (around (groups xs c m.next_temp false (dispatch m.value ss ss) ss).did)))) (sp.ran r (λ v w. sp.after_switch (sp.exec_from p dp xs here (label_of (number_of v) ss) ss w)))
    switch_body ss h m (sure_early s) = halt s
    switch_body ss h {w} {tm} {n} {b} {c} m (sure w1 tm1 v mv g) =
        let x = pair w1 tm1 in
        let inner = dispatch m.value ss ss in
        rw (one_ex (normal p) dc xs here (around (groups xs c m.next_temp false inner ss).did) x)
        (switch_like (all_find ss h (label_of (number_of v) ss) (labels (number_of v) ss) c m.next_temp false inner x x (dispatch_exits (normal p) dc xs here m.value v x (g tm1 (keeps_all m.next_temp tm1)) ss ss)))
