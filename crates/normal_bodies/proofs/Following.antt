-- Statements one after the other.
use Rattle.std.proofs.Common.{◌≡◌, ℕ, ◌+◌, ◌<◌, ◌≤◌, List, [], length, drop, get_or, sym, ap, ◌∙◌}
use Rattle.c_runs.specs.Program.{Variable}
use Rattle.c_runs.specs.Core.{Cores, join}
use Rattle.core_trees.specs.declared.statements.Core.{Core}
use Rattle.core_trees.specs.View.{view_cores}
use Rattle.c_runs.specs.Normal.{Did, stmt, stmts}
use Rattle.program_trees.specs.declared.stmts.Stmt.{Stmt}
use Rattle.program_trees.specs.View.{view_stmt, view_stmts}
use Rattle.normal_steps.specs.Into.{DidInto}
use Rattle.normal_steps.proofs.Joins.{join_end, join_assoc}
use Rattle.normal_bodies.proofs.Rest.{one_left, none_left}

-- what is done, behind statements
abbrev pub onto : Cores → Did → Did
onto a x = record { did = join a x.did; next_temp = x.next_temp }

pub follow_turn : (xs : List Variable) (b c : ℕ) (ss : List Stmt) (i : ℕ) (s : Stmt) (old new : List Core) (n k : ℕ) (whole : Did) → i < length ss → s ≡ get_or ss i s
    → DidInto old new (stmt xs b c n (view_stmt s)) k → onto (view_cores old) (stmts xs b c n (view_stmts (drop i ss))) ≡ whole
    → onto (view_cores new) (stmts xs b c k (view_stmts (drop (i + 1) ss))) ≡ whole
follow_turn xs b c ss i s old new n k whole in_list is h so_far =
    let rest = view_stmts (drop (i + 1) ss) in
    let x = stmt xs b c n (view_stmt s) in
    let y = stmts xs b c x.next_temp rest in
    ap (λ k. onto (view_cores new) (stmts xs b c k rest)) h.next_is ∙ ap (λ a. onto a y) h.pushed
    ∙ ap (λ a. let z : Did = record { did = a; next_temp = y.next_temp } in z) (join_assoc (view_cores old) x.did y.did)
    ∙ ap (λ z. onto (view_cores old) (stmts xs b c n z)) (sym (one_left ss i s in_list is)) ∙ so_far

pub follow_end : (xs : List Variable) (b c : ℕ) (ss : List Stmt) (i : ℕ) (old new : List Core) (n : ℕ) (whole : Did) → length ss ≤ i
    → onto (view_cores new) (stmts xs b c n (view_stmts (drop i ss))) ≡ onto (view_cores old) whole → DidInto old new whole n
follow_end xs b c ss i old new n whole past_end so_far =
    let e = sym (ap (λ z. onto (view_cores new) (stmts xs b c n z)) (none_left ss i past_end)) ∙ so_far in
    record { pushed = sym (join_end (view_cores new)) ∙ ap (λ (x : Did). x.did) e; next_is = ap (λ (x : Did). x.next_temp) e }

pub ruleset following_laws = (follow_turn, follow_end)

pub body_done : (made : List Core) (x : Did) (n : ℕ) → DidInto [] made x n → view_cores made ≡ x.did
body_done made x n h = h.pushed
