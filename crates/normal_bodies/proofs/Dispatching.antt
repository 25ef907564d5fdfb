-- How the code leads to labels.
use Rattle.std.proofs.Common.{◌≡◌, ℕ, ◌+◌, ◌<◌, ◌≤◌, Bool, false, ℤ, List, [], ◌∷◌, ◌++◌, length, drop, get_or, Some, None, refl, sym, ap, ◌∙◌}
use Rattle.typed_prog.specs.declared.types.CoreType.{CoreType}
use Rattle.typed_prog.specs.declared.tree.ValueNode.{ValueNode}
use Rattle.typed_prog.specs.declared.tree.ValueNode.TheVariants as value
use Rattle.typed_prog.specs.Tree as t
use Rattle.typed_prog.specs.View.{view_value_node}
use Rattle.typed_prog.proofs.Equations.{view_value_node-Constant}
use Rattle.qed_terms.specs.Operators.{is_equal}
use Rattle.c_runs.specs.Program as p
use Rattle.c_runs.specs.Run.{is_case, is_default}
use Rattle.c_runs.specs.Core.{Cores, end, join, one, branch, exit}
use Rattle.core_trees.specs.declared.statements.Core.{Core as Code}
use Rattle.core_trees.specs.declared.statements.Core.TheVariants as core
use Rattle.core_trees.specs.View.{view_core, view_cores}
use Rattle.core_trees.proofs.Equations.{view_core-Exit}
use Rattle.c_runs.specs.Normal.{index_of, dispatch, label_test, label_test_by, truth_of}
use Rattle.program_trees.specs.declared.stmts.Stmt.{Stmt}
use Rattle.program_trees.specs.View.{view_stmt, view_stmts}
use Rattle.normal_bodies.specs.Sought.{case_number, test_by, test_of}
use Rattle.normal_steps.proofs.Joins.{join_end, join_assoc}
use Rattle.normal_bodies.proofs.Rest.{one_left, none_left}

-- ---- one test

pub known_test : (node : ValueNode) (type : CoreType) (l : ℕ) (y z : ℤ) (b : Bool) (v : t.Value) → node ≡ value.Constant y → b ≡ is_equal y z → v ≡ truth_of l b
    → v ≡ label_test_by (view_value_node node) type l z
known_test node type l y z b v is same made =
    made ∙ ap (truth_of l) same ∙ ap (λ n. label_test_by n type l z) (sym (ap view_value_node is ∙ view_value_node-Constant y))

pub no_test : (v : t.Value) (every : p.Stmts) (s : p.Stmt) (a : Cores) → None ≡ case_number s → a ≡ join a (test_of v every s)
no_test v every s a e = sym (join_end a) ∙ ap (λ z. join a (test_by v every z)) e

pub one_test : (v : t.Value) (every : p.Stmts) (s : p.Stmt) (z : ℤ) (k : ℕ) (e : t.Value) (a b : Cores) → Some z ≡ case_number s → k ≡ index_of (is_case z) false every → e ≡ label_test v z
    → b ≡ join a (one (branch e (one (exit k)) end)) → b ≡ join a (test_of v every s)
one_test v every s z k e a b is at test made =
    made ∙ ap (λ k. join a (one (branch e (one (exit k)) end))) at ∙ ap (λ e. join a (one (branch e (one (exit (index_of (is_case z) false every))) end))) test
    ∙ ap (λ z. join a (test_by v every z)) is

pub ruleset test_laws = (no_test, one_test)

-- ---- all tests

one_more : (v : t.Value) (every : p.Stmts) (s : p.Stmt) (ss : p.Stmts) → dispatch v every (p.more s ss) ≡ join (test_of v every s) (dispatch v every ss)
one_more v every (p.case_of y) ss = refl
one_more v every (p.evaluate e) ss = refl
one_more v every (p.block ys s) ss = refl
one_more v every (p.initial x l e) ss = refl
one_more v every (p.choose e a b) ss = refl
one_more v every (p.loop l b s t u) ss = refl
one_more v every (p.switch e s) ss = refl
one_more v every p.default ss = refl
one_more v every p.break ss = refl
one_more v every p.continue ss = refl
one_more v every (p.return_of e) ss = refl
one_more v every (p.assert c) ss = refl

pub test_turn : (v : t.Value) (ss : List Stmt) (i : ℕ) (s : Stmt) (old new : List Code) (whole : Cores) → i < length ss → s ≡ get_or ss i s
    → view_cores new ≡ join (view_cores old) (test_of v (view_stmts ss) (view_stmt s))
    → join (view_cores old) (dispatch v (view_stmts ss) (view_stmts (drop i ss))) ≡ whole → join (view_cores new) (dispatch v (view_stmts ss) (view_stmts (drop (i + 1) ss))) ≡ whole
test_turn v ss i s old new whole in_list is e so_far =
    let every = view_stmts ss in
    let rest = dispatch v every (view_stmts (drop (i + 1) ss)) in
    ap (λ a. join a rest) e ∙ join_assoc (view_cores old) (test_of v every (view_stmt s)) rest
    ∙ ap (join (view_cores old)) (sym (ap (dispatch v every) (one_left ss i s in_list is) ∙ one_more v every (view_stmt s) (view_stmts (drop (i + 1) ss)))) ∙ so_far

pub all_tests : (v : t.Value) (ss : List Stmt) (i : ℕ) (old new : List Code) (k : ℕ) (whole : Cores) → length ss ≤ i → k ≡ index_of is_default false (view_stmts ss)
    → view_cores new ≡ join (view_cores old) (one (view_core (core.Exit k))) → join (view_cores old) (dispatch v (view_stmts ss) (view_stmts (drop i ss))) ≡ whole → view_cores new ≡ whole
all_tests v ss i old new k whole past_end at e so_far =
    e ∙ ap (λ s. join (view_cores old) (one s)) (view_core-Exit k) ∙ ap (λ k. join (view_cores old) (one (exit k))) at
    ∙ ap (λ z. join (view_cores old) (dispatch v (view_stmts ss) z)) (sym (none_left ss i past_end)) ∙ so_far

pub ruleset dispatch_laws = (test_turn, all_tests)
