-- How the code finds a label.
use Rattle.std.proofs.Common.{◌≡◌, ℕ, suc, ◌+◌, ◌<◌, ◌≤◌, ℤ, Bool, true, false, if◌then◌else◌, List, length, drop, get_or, Option, Some, None, refl, sym, ap, ◌∙◌, arith}
use Rattle.qed_terms.specs.Operators.{is_equal}
use Rattle.c_runs.specs.Program as p
use Rattle.c_runs.specs.Run.{is_case}
use Rattle.c_runs.specs.Normal.{is_label, index_of}
use Rattle.program_trees.specs.declared.stmts.Stmt.{Stmt}
use Rattle.program_trees.specs.View.{view_stmt, view_stmts}
use Rattle.normal_bodies.specs.declared.labels.Groups.{Groups}
use Rattle.normal_bodies.specs.Sought.{case_number, all, past}
use Rattle.normal_bodies.proofs.Rest.{one_left, none_left}

-- ---- numbers of labels

is_case_by : (z : ℤ) → Option ℤ → Bool
is_case_by z (Some y) = is_equal z y
is_case_by z None = false

by_number : (z : ℤ) (s : p.Stmt) → is_case z s ≡ is_case_by z (case_number s)
unfolding is_case_by
by_number z (p.case_of y) = refl
by_number z (p.evaluate e) = refl
by_number z (p.block ys ss) = refl
by_number z (p.initial x l e) = refl
by_number z (p.choose e a b) = refl
by_number z (p.loop l b s t u) = refl
by_number z (p.switch e ss) = refl
by_number z p.default = refl
by_number z p.break = refl
by_number z p.continue = refl
by_number z (p.return_of e) = refl
by_number z (p.assert c) = refl

pub one_number : (z y : ℤ) (s : p.Stmt) → Some y ≡ case_number s → is_equal z y ≡ is_case z s
unfolding is_case_by
one_number z y s e = ap (is_case_by z) e ∙ sym (by_number z s)

pub no_number : (z : ℤ) (s : p.Stmt) → None ≡ case_number s → false ≡ is_case z s
unfolding is_case_by
no_number z s e = ap (is_case_by z) e ∙ sym (by_number z s)

pub ruleset number_laws = (one_number, no_number)

-- ---- blocks before a label

-- from here on, behind these groups
abbrev pub from : (p.Stmt → Bool) → Groups → p.Stmts → ℕ
from q g ss = g.closed + index_of q g.is_open ss

-- what is behind a statement that isn't the label, by what it is and whether a group was open before it
left_by : (p.Stmt → Bool) → (closed : ℕ) → p.Stmts → (label was_open : Bool) → ℕ
left_by q c ss b o = let g = if b then record { is_open = true; closed = c } else record { is_open = false; closed = if o then suc c else c } in from q g ss

whole_by : (p.Stmt → Bool) → (closed : ℕ) → p.Stmts → (sought label was_open : Bool) → ℕ
whole_by q c ss d b o = c + (if d then 0 else if b then index_of q true ss else if o then suc (index_of q false ss) else index_of q false ss)

left_is_whole : (q : p.Stmt → Bool) (c : ℕ) (ss : p.Stmts) (b o : Bool) → left_by q c ss b o ≡ whole_by q c ss false b o
unfolding left_by whole_by
left_is_whole q c ss true o = refl
left_is_whole q c ss false true = let n = index_of q false ss in let law : (c n : ℕ) → suc c + n ≡ c + suc n = λ c n. omega arith in law c n
left_is_whole q c ss false false = refl

passed_by : (q : p.Stmt → Bool) (c : ℕ) (o : Bool) (s : p.Stmt) (ss : p.Stmts) → q s ≡ false
    → left_by q c ss (is_label s) o ≡ c + index_of q o (p.more s ss)
unfolding left_by whole_by
passed_by q c true s ss h = left_is_whole q c ss (is_label s) true ∙ ap (λ d. whole_by q c ss d (is_label s) true) (sym h)
passed_by q c false s ss h = left_is_whole q c ss (is_label s) false ∙ ap (λ d. whole_by q c ss d (is_label s) false) (sym h)

-- the next statement isn't the label
passed : (q : p.Stmt → Bool) (g : Groups) (s : p.Stmt) (ss : p.Stmts) → q s ≡ false → from q (past g s) ss ≡ from q g (p.more s ss)
unfolding left_by
passed q g s ss h = passed_by q g.closed g.is_open s ss h

found : (q : p.Stmt → Bool) (c : ℕ) (o : Bool) (s : p.Stmt) (ss : p.Stmts) → q s ≡ true → c ≡ c + index_of q o (p.more s ss)
unfolding whole_by
found q c true s ss h = let add : (c : ℕ) → c ≡ c + 0 = λ c. omega arith in add c ∙ ap (λ d. whole_by q c ss d (is_label s) true) (sym h)
found q c false s ss h = let add : (c : ℕ) → c ≡ c + 0 = λ c. omega arith in add c ∙ ap (λ d. whole_by q c ss d (is_label s) false) (sym h)

closed_all : (q : p.Stmt → Bool) (c : ℕ) (o : Bool) → (if o then suc c else c) ≡ c + index_of q o p.stop
closed_all q c true = omega arith
closed_all q c false = omega arith

-- ---- a loop over statements

pub next_turn : (q : p.Stmt → Bool) (ss : List Stmt) (i : ℕ) (s : Stmt) (g next : Groups) (whole : ℕ) → i < length ss → s ≡ get_or ss i s → q (view_stmt s) ≡ false
    → next ≡ past g (view_stmt s) → from q g (view_stmts (drop i ss)) ≡ whole → from q next (view_stmts (drop (i + 1) ss)) ≡ whole
next_turn q ss i s g next whole in_list is h e so_far =
    let rest = view_stmts (drop (i + 1) ss) in
    ap (λ g. from q g rest) e ∙ passed q g (view_stmt s) rest h ∙ ap (from q g) (sym (one_left ss i s in_list is)) ∙ so_far

pub label_found : (q : p.Stmt → Bool) (ss : List Stmt) (i : ℕ) (s : Stmt) (g : Groups) (whole : ℕ) → i < length ss → s ≡ get_or ss i s → q (view_stmt s) ≡ true
    → from q g (view_stmts (drop i ss)) ≡ whole → g.closed ≡ whole
label_found q ss i s g whole in_list is h so_far =
    found q g.closed g.is_open (view_stmt s) (view_stmts (drop (i + 1) ss)) h ∙ ap (from q g) (sym (one_left ss i s in_list is)) ∙ so_far

pub end_found : (q : p.Stmt → Bool) (ss : List Stmt) (i : ℕ) (g : Groups) (n whole : ℕ) → length ss ≤ i → n ≡ all g → from q g (view_stmts (drop i ss)) ≡ whole → n ≡ whole
end_found q ss i g n whole past_end e so_far = e ∙ closed_all q g.closed g.is_open ∙ ap (from q g) (sym (none_left ss i past_end)) ∙ so_far

pub ruleset index_laws = (next_turn, label_found, end_found)
