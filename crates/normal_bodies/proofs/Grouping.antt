-- Switches: groups of labels, and the statements behind each.
use Rattle.std.proofs.Common.{◌≡◌, ℕ, suc, ◌+◌, ◌-◌, ◌<◌, ◌≤◌, Bool, true, false, if◌then◌else◌, List, [], length, drop, get_or, refl, sym, ap, ◌∙◌, subst, arith}
use Rattle.typed_prog.specs.Tree as t
use Rattle.c_runs.specs.Program as p
use Rattle.c_runs.specs.Core as core
use Rattle.core_trees.specs.declared.statements.Core.{Core}
use Rattle.core_trees.specs.View.{view_cores}
use Rattle.c_runs.specs.Normal.{Did, stmt, groups, up, is_label, index_of, no_label, whole_switch, close, dispatch}
use Rattle.program_trees.specs.declared.stmts.Stmt.{Stmt}
use Rattle.program_trees.specs.View.{view_stmt, view_stmts}
use Rattle.normal_steps.specs.Into.{DidInto}
use Rattle.normal_steps.proofs.Joins.{join_twice}
use Rattle.normal_bodies.specs.declared.exits.Exits.{Exits}
use Rattle.normal_bodies.specs.declared.labels.Place.{Place}
use Rattle.normal_bodies.specs.Sought.{less}
use Rattle.normal_bodies.specs.Parts.{Begins, operand, Grouped, grouped_at, grouped}
use Rattle.normal_bodies.proofs.Rest.{one_left, none_left}

-- ---- one statement

grouped_by : List p.Variable → (c : ℕ) → core.Cores → Place → p.Stmt → Bool → Grouped
grouped_by xs k inner x s b =
    if b then record { inner = inner; is_open = true; left = x.left; next_temp = x.next }
    else
    let d = less x.is_open x.left in
    let y = stmt xs d (up (suc d) k) x.next s in
    record { inner = core.join (close x.is_open inner) y.did; is_open = false; left = d; next_temp = y.next_temp }

pub label_grouped : (xs : List p.Variable) (k : ℕ) (inner : core.Cores) (x next : Place) (s : p.Stmt) → is_label s ≡ true → next ≡ record { is_open = true; left = x.left; next = x.next }
    → grouped_at inner next ≡ grouped xs k inner x s
unfolding grouped_by
label_grouped xs k inner x next s h e = ap (grouped_at inner) e ∙ ap (grouped_by xs k inner x s) (sym h)

pub statement_grouped : (xs : List p.Variable) (k : ℕ) (old mid new : List Core) (x : Place) (s : p.Stmt) (left : ℕ) (within : Exits) (n : ℕ) → is_label s ≡ false → left ≡ less x.is_open x.left
    → within ≡ record { on_break = left; on_continue = up (suc left) k } → view_cores mid ≡ close x.is_open (view_cores old)
    → DidInto mid new (stmt xs within.on_break within.on_continue x.next s) n
    → grouped_at (view_cores new) (record { is_open = false; left = left; next = n }) ≡ grouped xs k (view_cores old) x s
unfolding grouped_by
statement_grouped xs k old mid new x s left within n h e w closed d =
    let d1 : DidInto mid new (stmt xs left (up (suc left) k) x.next s) n = subst (λ (w : Exits). DidInto mid new (stmt xs w.on_break w.on_continue x.next s) n) w d in
    let at : ℕ → Grouped = λ l. let y = stmt xs l (up (suc l) k) x.next s in record { inner = core.join (close x.is_open (view_cores old)) y.did; is_open = false; left = l; next_temp = y.next_temp } in
    let y = stmt xs left (up (suc left) k) x.next s in
    let made : core.Cores → ℕ → Grouped = λ a n. record { inner = a; is_open = false; left = left; next_temp = n } in
    ap (λ a. made a n) (d1.pushed ∙ ap (λ a. core.join a y.did) closed) ∙ ap (made (core.join (close x.is_open (view_cores old)) y.did)) d1.next_is ∙ ap at e
    ∙ ap (grouped_by xs k (view_cores old) x s) (sym h)

pub ruleset group_laws = (label_grouped, statement_grouped)

-- ---- all statements

-- how many groups there are, by whether the first statement is a label
count_by : (is_open : Bool) → p.Stmts → Bool → ℕ
count_by o ss b = if b then index_of no_label true ss else if o then suc (index_of no_label false ss) else index_of no_label false ss

count_is : (o : Bool) (s : p.Stmt) (ss : p.Stmts) → whole_switch o (p.more s ss) ≡ count_by o ss (is_label s)
unfolding count_by
count_is true s ss = refl
count_is false s ss = refl

count_less : (o : Bool) (ss : p.Stmts) (l : ℕ) → l ≡ count_by o ss false → less o l ≡ whole_switch false ss
unfolding count_by
count_less true ss l e = let law : (n : ℕ) → suc n - 1 ≡ n = λ n. omega arith in ap (λ n. n - 1) e ∙ law (index_of no_label false ss)
count_less false ss l e = e

count_same : (o : Bool) (ss : p.Stmts) → count_by o ss true ≡ whole_switch true ss
unfolding count_by
count_same o ss = refl

groups_by : List p.Variable → (c : ℕ) → ℕ → (is_open : Bool) → core.Cores → p.Stmt → p.Stmts → Bool → Did
groups_by xs k n o inner s ss b =
    if b then groups xs k n true inner ss
    else
    let d = whole_switch false ss in
    let x = stmt xs d (up (suc d) k) n s in
    groups xs k x.next_temp false (core.join (close o inner) x.did) ss

-- what is left behind a statement
Left : List p.Variable → (c : ℕ) → Grouped → p.Stmts → Did → Type 0
Left xs k g ss whole = (groups xs k g.next_temp g.is_open g.inner ss ≡ whole) × (g.left ≡ whole_switch g.is_open ss)

left_behind : (xs : List p.Variable) (k : ℕ) (inner : core.Cores) (x : Place) (s : p.Stmt) (ss : p.Stmts) (whole : Did) (b : Bool) → groups_by xs k x.next x.is_open inner s ss b ≡ whole
    → x.left ≡ count_by x.is_open ss b → Left xs k (grouped_by xs k inner x s b) ss whole
unfolding grouped_by groups_by Left
left_behind xs k inner x s ss whole true h e = (h, e ∙ count_same x.is_open ss)
left_behind xs k inner x s ss whole false h e =
    let d = count_less x.is_open ss x.left e in
    let at : ℕ → Did = λ l. let y = stmt xs l (up (suc l) k) x.next s in groups xs k y.next_temp false (core.join (close x.is_open inner) y.did) ss in
    (ap at d ∙ h, d)

-- the statements that are left, in the code's words
abbrev pub GroupsLeft : List p.Variable → (c : ℕ) → List Stmt → (index : ℕ) → List Core → Place → Did → Type 0
GroupsLeft xs k ss i out x whole =
    (groups xs k x.next x.is_open (view_cores out) (view_stmts (drop i ss)) ≡ whole) × (x.left ≡ whole_switch x.is_open (view_stmts (drop i ss)))

pub groups_turn : (xs : List p.Variable) (k : ℕ) (ss : List Stmt) (i : ℕ) (s : Stmt) (old new : List Core) (x next : Place) (whole : Did) → i < length ss → s ≡ get_or ss i s
    → grouped_at (view_cores new) next ≡ grouped xs k (view_cores old) x (view_stmt s) → GroupsLeft xs k ss i old x whole → GroupsLeft xs k ss (i + 1) new next whole
unfolding grouped_by groups_by Left
groups_turn xs k ss i s old new x next whole in_list is e so_far =
    let rest = view_stmts (drop (i + 1) ss) in
    let here = one_left ss i s in_list is in
    let all : groups_by xs k x.next x.is_open (view_cores old) (view_stmt s) rest (is_label (view_stmt s)) ≡ whole =
    ap (groups xs k x.next x.is_open (view_cores old)) (sym here) ∙ so_far.0 in
    let count : x.left ≡ count_by x.is_open rest (is_label (view_stmt s)) = so_far.1 ∙ ap (whole_switch x.is_open) here ∙ count_is x.is_open (view_stmt s) rest in
    subst (λ g. Left xs k g rest whole) (sym e) (left_behind xs k (view_cores old) x (view_stmt s) rest whole (is_label (view_stmt s)) all count)

pub groups_first : (xs : List p.Variable) (k : ℕ) (ss : List Stmt) (out : List Core) (n left : ℕ) → left ≡ index_of no_label false (view_stmts ss)
    → GroupsLeft xs k ss 0 out (record { is_open = false; left = left; next = n }) (groups xs k n false (view_cores out) (view_stmts ss))
groups_first xs k ss out n left e = (refl, e)

pub groups_end : (xs : List p.Variable) (k : ℕ) (ss : List Stmt) (i : ℕ) (old new : List Core) (x : Place) (whole : Did) → length ss ≤ i → view_cores new ≡ close x.is_open (view_cores old)
    → GroupsLeft xs k ss i old x whole → DidInto [] new whole x.next
groups_end xs k ss i old new x whole past_end closed so_far =
    let e = sym (ap (groups xs k x.next x.is_open (view_cores old)) (none_left ss i past_end)) ∙ so_far.0 in
    record { pushed = closed ∙ ap (λ (z : Did). z.did) e; next_is = ap (λ (z : Did). z.next_temp) e }

pub ruleset groups_laws = (groups_turn, groups_first, groups_end)

-- ---- the whole switch

pub switch_done : (old mid new lead inner : List Core) (xs : List p.Variable) (b k : ℕ) (e : t.Value) (ss : p.Stmts) (n n2 last : ℕ)
    → Begins (view_cores old) (view_cores mid) (operand xs e n) ss (view_cores lead) n2 → DidInto [] inner (groups xs k n2 false (view_cores lead) ss) last
    → view_cores new ≡ core.join (view_cores mid) (core.one (core.around (view_cores inner))) → DidInto old new (stmt xs b k n (p.switch e ss)) last
switch_done old mid new lead inner xs b k e ss n n2 last h g d =
    let x = operand xs e n in
    let g1 : DidInto [] inner (groups xs k x.next_temp false (view_cores lead) ss) last = subst (λ n. DidInto [] inner (groups xs k n false (view_cores lead) ss) last) h.next_is g in
    let g2 : DidInto [] inner (groups xs k x.next_temp false (dispatch x.value ss ss) ss) last = subst (λ a. DidInto [] inner (groups xs k x.next_temp false a ss) last) h.lead_is g1 in
    let y = groups xs k x.next_temp false (dispatch x.value ss ss) ss in
    record {
      pushed = join_twice (view_cores old) (view_cores mid) (view_cores new) x.before (core.one (core.around y.did)) h.pushed
          (d ∙ ap (λ a. core.join (view_cores mid) (core.one (core.around a))) g2.pushed);
      next_is = g2.next_is;
    }
