-- The next temporary doesn't depend on the blocks that `break` and `continue` leave.
use Rattle.std.proofs.Common.{◌≡◌, ℕ, suc, Bool, true, false, if◌then◌else◌, List, refl, ap, ◌∙◌}
use Rattle.c_runs.specs.Program.{Stmt, evaluate, block, initial, choose, loop, switch, case_of, default, break, continue, return_of, assert, Stmts, stop, more, Variable}
use Rattle.c_runs.specs.Core.{Cores, join}
use Rattle.c_runs.specs.Plans.{planned, condition, next_of}
use Rattle.c_runs.specs.Normal.{Did, stmt, stmts, groups, up, is_label, whole_switch, close, dispatch}
use Rattle.normal_bodies.specs.Parts.{operand}

if_next : (b : Bool) (x y x' y' : Did) → x.next_temp ≡ x'.next_temp → y.next_temp ≡ y'.next_temp → (if b then x else y).next_temp ≡ (if b then x' else y').next_temp
if_next true x y x' y' h g = h
if_next false x y x' y' h g = g

module _ (xs : List Variable) where
  mutual
    pub next_same : (s : Stmt) (b c b' c' n : ℕ) → (stmt xs b c n s).next_temp ≡ (stmt xs b' c' n s).next_temp
    next_same (evaluate e) b c b' c' n = refl
    next_same (block ys ss) b c b' c' n = next_all ss b c b' c' n
    next_same (initial x l e) b c b' c' n = refl
    next_same (choose e s s') b c b' c' n =
        let n1 = next_of (condition (planned xs e) n) in
        next_same s' b c b' c' (stmt xs b c n1 s).next_temp ∙ ap (λ k. (stmt xs b' c' k s').next_temp) (next_same s b c b' c' n1)
    next_same (loop l before s step behind) b c b' c' n = refl
    next_same (switch e ss) b c b' c' n =
        let x = operand xs e n in
        next_groups ss c c' x.next_temp false (dispatch x.value ss ss) (dispatch x.value ss ss)
    next_same (case_of z) b c b' c' n = refl
    next_same default b c b' c' n = refl
    next_same break b c b' c' n = refl
    next_same continue b c b' c' n = refl
    next_same (return_of e) b c b' c' n = refl
    next_same (assert q) b c b' c' n = refl

    pub next_all : (ss : Stmts) (b c b' c' n : ℕ) → (stmts xs b c n ss).next_temp ≡ (stmts xs b' c' n ss).next_temp
    next_all stop b c b' c' n = refl
    next_all (more s ss) b c b' c' n =
        next_all ss b c b' c' (stmt xs b c n s).next_temp ∙ ap (λ k. (stmts xs b' c' k ss).next_temp) (next_same s b c b' c' n)

    pub next_groups : (ss : Stmts) (c c' n : ℕ) (o : Bool) (inner inner' : Cores) → (groups xs c n o inner ss).next_temp ≡ (groups xs c' n o inner' ss).next_temp
    next_groups stop c c' n o inner inner' = refl
    next_groups (more s ss) c c' n o inner inner' =
        let b = whole_switch false ss in
        let x = stmt xs b (up (suc b) c) n s in
        let x' = stmt xs b (up (suc b) c') n s in
        if_next (is_label s)
        (groups xs c n true inner ss) (groups xs c x.next_temp false (join (close o inner) x.did) ss)
        (groups xs c' n true inner' ss) (groups xs c' x'.next_temp false (join (close o inner') x'.did) ss)
        (next_groups ss c c' n true inner inner')
        (next_groups ss c c' x.next_temp false (join (close o inner) x.did) (join (close o inner') x'.did)
        ∙ ap (λ k. (groups xs c' k false (join (close o inner') x'.did) ss).next_temp) (next_same s b (up (suc b) c) b (up (suc b) c') n))
