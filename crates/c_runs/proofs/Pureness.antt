-- Each statement that is made is a core statement.
use Rattle.std.proofs.Common.{◌≡◌, ℕ, suc, ℤ, Bool, true, false, ◌||◌, if◌then◌else◌, List, Option, Some, None, refl}
use Rattle.typed_prog.specs.declared.types.CoreType.{CoreType}
use Rattle.typed_prog.specs.declared.operators.Path.{Path}
use Rattle.typed_prog.specs.declared.operators.Effect.TheVariants as effect
use Rattle.typed_prog.specs.Tree as t
use Rattle.qed_terms.specs.Operators.{is_equal}
use Rattle.c_runs.specs.Program.{Stmt, evaluate, block, initial, choose, loop, switch, case_of, default, break, continue, return_of, assert, Stmts, stop, more, Variable}
use Rattle.c_runs.specs.Values.{have_effect}
use Rattle.c_runs.specs.Run.{updating, is_case}
use Rattle.c_runs.specs.Core.{Target, nowhere, place, variable, start, call, store, branch, repeat, around, exit, give, scope, Cores, end, then_, join, one}
use Rattle.c_runs.specs.Checks.{is_pure, are_pure}
use Rattle.c_runs.specs.Plans.{Made, Mades, operands, first_plan, planned, condition, next_of, no_value, pures, need}
use Rattle.c_runs.specs.Normal.{Did, is_temp, is_settled, save_unless, dropped, called_into, plain_store, called_to, stored, effect_of, started, loop_test, loop_step, given, is_label, index_of, whole_switch, close, truth_of, label_test, dispatch, up, loop_body, stmt, stmts, groups}
use Rattle.c_runs.specs.NormalLaws.{is_core_target, are_core, AllCore}
use Rattle.c_runs.proofs.CoreValues.{both_true, join_core, one_core, two_core, MadeCore, MadesCore, save_core, fork_core, pures_core, operands_core, plans_core, first_core, planned_core}

abbrev DidCore : Did → Type 0
DidCore x = are_core x.did ≡ true

-- ---- values that go somewhere or nowhere

save_unless_core : (b : Bool) (m : Made) → MadeCore m → MadeCore (save_unless b m)
save_unless_core true m h = h
save_unless_core false m h = save_core m h

dropped_core : (m : Made) → MadeCore m → DidCore (dropped m)
dropped_core m h = (save_unless_core (is_temp m.value) m h).before

called_core : (to : Target) (l f : ℕ) (y : Mades) → is_core_target to ≡ true → MadesCore y → DidCore (called_into to l f y)
called_core to l f y h g = join_core y.before (one (call to f l y.values)) g.before (one_core (call to f l y.values) (both_true (is_core_target to) (are_pure y.values) h g.values))

truth_pure : (l : ℕ) (b : Bool) → is_pure (truth_of l b) ≡ true
truth_pure l true = refl
truth_pure l false = refl

label_test_pure : (v : t.Value) (z : ℤ) → is_pure v ≡ true → is_pure (label_test v z) ≡ true
label_test_pure (t.typed (t.constant y) type l) z h = truth_pure l (is_equal y z)
label_test_pure (t.typed t.null type l) z h = refl
label_test_pure (t.typed (t.temporary n) type l) z h = refl
label_test_pure (t.typed (t.apply o es) type l) z h = both_true (are_pure es) true h refl
label_test_pure (t.typed (t.logic c a b) type l) z h = h
label_test_pure (t.typed (t.choose c a b) type l) z h = h
label_test_pure (t.typed (t.effect e es) type l) z h = h

dispatch_core : (v : t.Value) → is_pure v ≡ true → (all ss : Stmts) → are_core (dispatch v all ss) ≡ true
dispatch_core v h all stop = refl
dispatch_core v h all (more (case_of z) ss) =
    let s = branch (label_test v z) (one (exit (index_of (is_case z) false all))) end in
    two_core s (dispatch v all ss) (both_true (is_pure (label_test v z)) true (label_test_pure v z h) refl) (dispatch_core v h all ss)
dispatch_core v h all (more (evaluate e) ss) = dispatch_core v h all ss
dispatch_core v h all (more (block ys s) ss) = dispatch_core v h all ss
dispatch_core v h all (more (initial x line e) ss) = dispatch_core v h all ss
dispatch_core v h all (more (choose e a b) ss) = dispatch_core v h all ss
dispatch_core v h all (more (loop l a b c d) ss) = dispatch_core v h all ss
dispatch_core v h all (more (switch e s) ss) = dispatch_core v h all ss
dispatch_core v h all (more default ss) = dispatch_core v h all ss
dispatch_core v h all (more break ss) = dispatch_core v h all ss
dispatch_core v h all (more continue ss) = dispatch_core v h all ss
dispatch_core v h all (more (return_of e) ss) = dispatch_core v h all ss
dispatch_core v h all (more (assert q) ss) = dispatch_core v h all ss

close_core : (o : Bool) (inner : Cores) → are_core inner ≡ true → are_core (close o inner) ≡ true
close_core true inner h = one_core (around inner) h
close_core false inner h = h

module _ (xs : List Variable) where
  plain_store_core : (type : CoreType) (l : ℕ) (path : Path) (y : Mades) → MadesCore y → DidCore (plain_store xs type l path y)
  plain_store_core type l path y h = join_core y.before (one (store type l path y.values)) h.before (one_core (store type l path y.values) h.values)

  all_operands_core : (es : t.Values) (n : ℕ) → MadesCore (operands xs es (first_plan xs es) n)
  all_operands_core es n = operands_core xs es (first_plan xs es) (first_core xs es) n

  store_core : (type : CoreType) (l : ℕ) (path : Path) (es : t.Values) (n : ℕ) → DidCore (plain_store xs type l path (operands xs es (first_plan xs es) n))
  store_core type l path es n = plain_store_core type l path (operands xs es (first_plan xs es) n) (all_operands_core es n)

  called_to_core : (type : CoreType) (l : ℕ) (path : Path) (k f : ℕ) (as_ es : t.Values) (n : ℕ) → DidCore (called_to xs type l path k f as_ es n)
  called_to_core type l path k f as_ es n =
      let y = pures xs no_value es n in
      called_core (place type l path y.values) k f (operands xs as_ (first_plan xs as_) n) (pures_core xs no_value refl es n).values (all_operands_core as_ n)

  call_stored_core : (type : CoreType) (l : ℕ) (path : Path) (f : ℕ) (as_ : t.Values) (u : CoreType) (k : ℕ) (es : t.Values) (n : ℕ)
      → DidCore (stored xs type l path (t.more (t.typed (t.effect (effect.Call f) as_) u k) es) n)
  call_stored_core type l path f as_ u k es n =
      let all = t.more (t.typed (t.effect (effect.Call f) as_) u k) es in
      elim (need es || have_effect es) as (λ b. DidCore (if b then plain_store xs type l path (operands xs all (first_plan xs all) n) else called_to xs type l path k f as_ es n))
      [ true ↦ store_core type l path all n | false ↦ called_to_core type l path k f as_ es n ]

  stored_core : (type : CoreType) (l : ℕ) (path : Path) (es : t.Values) (n : ℕ) → DidCore (stored xs type l path es n)
  stored_core type l path t.stop n = store_core type l path t.stop n
  stored_core type l path (t.more (t.typed (t.effect (effect.Call f) as_) u k) es) n = call_stored_core type l path f as_ u k es n
  stored_core type l path (t.more (t.typed (t.effect (effect.Assign q) as_) u k) es) n = store_core type l path (t.more (t.typed (t.effect (effect.Assign q) as_) u k) es) n
  stored_core type l path (t.more (t.typed (t.effect (effect.Update q by f) as_) u k) es) n = store_core type l path (t.more (t.typed (t.effect (effect.Update q by f) as_) u k) es) n
  stored_core type l path (t.more (t.typed (t.constant z) u k) es) n = store_core type l path (t.more (t.typed (t.constant z) u k) es) n
  stored_core type l path (t.more (t.typed t.null u k) es) n = store_core type l path (t.more (t.typed t.null u k) es) n
  stored_core type l path (t.more (t.typed (t.temporary i) u k) es) n = store_core type l path (t.more (t.typed (t.temporary i) u k) es) n
  stored_core type l path (t.more (t.typed (t.apply o as_) u k) es) n = store_core type l path (t.more (t.typed (t.apply o as_) u k) es) n
  stored_core type l path (t.more (t.typed (t.logic c a b) u k) es) n = store_core type l path (t.more (t.typed (t.logic c a b) u k) es) n
  stored_core type l path (t.more (t.typed (t.choose c a b) u k) es) n = store_core type l path (t.more (t.typed (t.choose c a b) u k) es) n

  drop_core : (e : t.Value) (n : ℕ) → DidCore (dropped ((planned xs e).made n))
  drop_core e n = dropped_core ((planned xs e).made n) (planned_core xs e n)

  effect_of_core : (e : t.Value) (n : ℕ) → DidCore (effect_of xs e n)
  effect_of_core (t.typed (t.effect (effect.Assign path) es) type l) n = stored_core type l path es n
  effect_of_core (t.typed (t.effect (effect.Update path by f) es) type l) n =
      plain_store_core type l path (operands xs (updating path by type l es) (first_plan xs es) n) (operands_core xs (updating path by type l es) (first_plan xs es) (first_core xs es) n)
  effect_of_core (t.typed (t.effect (effect.Call f) es) type l) n = called_core nowhere l f (operands xs es (first_plan xs es) n) refl (all_operands_core es n)
  effect_of_core (t.typed (t.constant z) type l) n = drop_core (t.typed (t.constant z) type l) n
  effect_of_core (t.typed t.null type l) n = drop_core (t.typed t.null type l) n
  effect_of_core (t.typed (t.temporary i) type l) n = drop_core (t.typed (t.temporary i) type l) n
  effect_of_core (t.typed (t.apply o es) type l) n = drop_core (t.typed (t.apply o es) type l) n
  effect_of_core (t.typed (t.logic c a b) type l) n = drop_core (t.typed (t.logic c a b) type l) n
  effect_of_core (t.typed (t.choose c a b) type l) n = drop_core (t.typed (t.choose c a b) type l) n

  start_core : (x : ℕ) (e : t.Value) (n : ℕ) → are_core (let m = (planned xs e).made n in join m.before (one (start x m.value))) ≡ true
  start_core x e n = let m = (planned xs e).made n in let h = planned_core xs e n in join_core m.before (one (start x m.value)) h.before (one_core (start x m.value) h.value)

  started_core : (x : ℕ) (e : t.Value) (n : ℕ) → DidCore (started xs x e n)
  started_core x (t.typed (t.effect (effect.Call f) es) type l) n = called_core (variable x) l f (operands xs es (first_plan xs es) n) refl (all_operands_core es n)
  started_core x (t.typed (t.effect (effect.Assign path) es) type l) n = start_core x (t.typed (t.effect (effect.Assign path) es) type l) n
  started_core x (t.typed (t.effect (effect.Update path by f) es) type l) n = start_core x (t.typed (t.effect (effect.Update path by f) es) type l) n
  started_core x (t.typed (t.constant z) type l) n = start_core x (t.typed (t.constant z) type l) n
  started_core x (t.typed t.null type l) n = start_core x (t.typed t.null type l) n
  started_core x (t.typed (t.temporary i) type l) n = start_core x (t.typed (t.temporary i) type l) n
  started_core x (t.typed (t.apply o es) type l) n = start_core x (t.typed (t.apply o es) type l) n
  started_core x (t.typed (t.logic c a b) type l) n = start_core x (t.typed (t.logic c a b) type l) n
  started_core x (t.typed (t.choose c a b) type l) n = start_core x (t.typed (t.choose c a b) type l) n

  test_core : (o : Option t.Value) (n : ℕ) → are_core (loop_test xs o n).tests ≡ true
  test_core None n = refl
  test_core (Some e) n = (plans_core xs e).all.test true 0 n

  step_core : (o : Option t.Value) (n : ℕ) → DidCore (loop_step xs o n)
  step_core None n = refl
  step_core (Some e) n = effect_of_core e n

  given_core : (o : Option t.Value) (n : ℕ) → DidCore (given xs o n)
  given_core None n = refl
  given_core (Some e) n = let m = (planned xs e).made n in let h = planned_core xs e n in join_core m.before (one (give (Some m.value))) h.before (one_core (give (Some m.value)) h.value)

  -- ---- statements

  abbrev StmtCore : Stmt → Type 0
  StmtCore s = (b c n : ℕ) → DidCore (stmt xs b c n s)

  abbrev GroupsCore : Stmts → Type 0
  GroupsCore ss = (c n : ℕ) (o : Bool) (inner : Cores) → are_core inner ≡ true → DidCore (groups xs c n o inner ss)

  groups_more : (s : Stmt) (ss : Stmts) → StmtCore s → GroupsCore ss → GroupsCore (more s ss)
  groups_more s ss h g c n o inner k =
      let b = whole_switch false ss in
      let x = stmt xs b (up (suc b) c) n s in
      elim (is_label s) as (λ l. DidCore (if l then groups xs c n true inner ss else groups xs c x.next_temp false (join (close o inner) x.did) ss))
      [ true ↦ g c n true inner k | false ↦ g c x.next_temp false (join (close o inner) x.did) (join_core (close o inner) x.did (close_core o inner k) (h b (up (suc b) c) n)) ]

  mutual
    stmt_core : (s : Stmt) → StmtCore s
    stmt_core (evaluate e) b c n = effect_of_core e n
    stmt_core (block ys ss) b c n = one_core (scope ys (stmts xs b c n ss).did) (stmts_core ss b c n)
    stmt_core (initial x line e) b c n = started_core x e n
    stmt_core (choose e s s') b c n =
        let n1 = next_of (condition (planned xs e) n) in
        let n2 = (stmt xs b c n1 s).next_temp in
        fork_core (planned xs e) n (λ k. (stmt xs (up k b) (up k c) n1 s).did) (λ k. (stmt xs (up k b) (up k c) n2 s').did) (plans_core xs e).all (λ k. stmt_core s (up k b) (up k c) n1) (λ k. stmt_core s' (up k b) (up k c) n2)
    stmt_core (loop l before s step behind) b c n =
        let x = loop_test xs before n in
        let y = stmt xs 1 0 x.next_temp s in
        let z = loop_step xs step y.next_temp in
        let u = loop_test xs behind z.next_temp in
        let inside : are_core (loop_body x y.did z u) ≡ true = join_core x.tests (then_ (around y.did) (join z.did u.tests)) (test_core before n)
        (two_core (around y.did) (join z.did u.tests) (stmt_core s 1 0 x.next_temp) (join_core z.did u.tests (step_core step y.next_temp) (test_core behind z.next_temp))) in
        one_core (around (one (repeat l (loop_body x y.did z u)))) (one_core (repeat l (loop_body x y.did z u)) inside)
    stmt_core (switch e ss) b c n =
        let m = (planned xs e).made n in
        let x = save_unless (is_settled m.value) m in
        let hx = save_unless_core (is_settled m.value) m (planned_core xs e n) in
        let y = groups xs c x.next_temp false (dispatch x.value ss ss) ss in
        join_core x.before (one (around y.did)) hx.before (one_core (around y.did) (groups_core ss c x.next_temp false (dispatch x.value ss ss) (dispatch_core x.value hx.value ss ss)))
    stmt_core (case_of z) b c n = refl
    stmt_core default b c n = refl
    stmt_core break b c n = refl
    stmt_core continue b c n = refl
    stmt_core (return_of e) b c n = given_core e n
    stmt_core (assert q) b c n = refl

    stmts_core : (ss : Stmts) (b c n : ℕ) → DidCore (stmts xs b c n ss)
    stmts_core stop b c n = refl
    stmts_core (more s ss) b c n = let x = stmt xs b c n s in let y = stmts xs b c x.next_temp ss in join_core x.did y.did (stmt_core s b c n) (stmts_core ss b c x.next_temp)

    groups_core : (ss : Stmts) → GroupsCore ss
    groups_core stop c n o inner k = close_core o inner k
    groups_core (more s ss) c n o inner k = groups_more s ss (stmt_core s) (groups_core ss) c n o inner k

pub all_core : AllCore
all_core xs ss = stmts_core xs ss 0 0 0
