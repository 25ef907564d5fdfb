-- The plain statement of one in memory, by its variant.
use Rattle.std.proofs.Common.{◌≡◌, ℕ, ℤ, List, Option, map, ap, sym, ◌∙◌}
use Rattle.std.specs.Borrow.{Bor}
use Rattle.typed_prog.specs.declared.tree.Value.{Value}
use Rattle.typed_prog.specs.View.{view_value}
use Rattle.c_runs.specs.Program as p
use Rattle.core_trees.specs.declared.claims.Claim.{Claim}
use Rattle.core_trees.specs.declared.claims.Loop.{Loop}
use Rattle.core_trees.specs.View.{view_claim, view_loop}
use Rattle.program_trees.specs.declared.stmts.Turns.{Turns}
use Rattle.program_trees.specs.declared.stmts.Stmt.{Stmt, Stmt-F, fold-roll-Stmt}
use Rattle.program_trees.specs.declared.stmts.Stmt.TheVariants as stmt
use Rattle.program_trees.specs.View.{view_option, view_stmt, view_stmts, stmt_layer}

pub view_stmt-Evaluate : (e : Bor Value) → view_stmt (stmt.Evaluate e) ≡ p.evaluate (view_value e.now)
unfolding view_stmt
view_stmt-Evaluate e = ap view_stmt (sym (stmt.rolls-Evaluate e)) ∙ fold-roll-Stmt p.Stmt stmt_layer (Stmt-F.Evaluate e)

pub view_stmt-Block : (ys : List ℕ) (ss : List Stmt) → view_stmt (stmt.Block ys ss) ≡ p.block ys (view_stmts ss)
unfolding view_stmt
view_stmt-Block ys ss = ap view_stmt (sym (stmt.rolls-Block ys ss)) ∙ fold-roll-Stmt p.Stmt stmt_layer (Stmt-F.Block ys ss)

pub view_stmt-Initial : (x line : ℕ) (e : Bor Value) → view_stmt (stmt.Initial x line e) ≡ p.initial x line (view_value e.now)
unfolding view_stmt
view_stmt-Initial x line e = ap view_stmt (sym (stmt.rolls-Initial x line e)) ∙ fold-roll-Stmt p.Stmt stmt_layer (Stmt-F.Initial x line e)

pub view_stmt-Choose : (e : Bor Value) (a b : Stmt) → view_stmt (stmt.Choose e a b) ≡ p.choose (view_value e.now) (view_stmt a) (view_stmt b)
unfolding view_stmt
view_stmt-Choose e a b = ap view_stmt (sym (stmt.rolls-Choose e a b)) ∙ fold-roll-Stmt p.Stmt stmt_layer (Stmt-F.Choose e a b)

pub view_stmt-Loop : (l : Loop) (turns : Turns) (s : Stmt) → view_stmt (stmt.Loop l turns s) ≡ p.loop (view_loop l) (view_option turns.before) (view_stmt s) (view_option turns.step) (view_option turns.behind)
unfolding view_stmt
view_stmt-Loop l turns s = ap view_stmt (sym (stmt.rolls-Loop l turns s)) ∙ fold-roll-Stmt p.Stmt stmt_layer (Stmt-F.Loop l turns s)

pub view_stmt-Switch : (e : Bor Value) (ss : List Stmt) → view_stmt (stmt.Switch e ss) ≡ p.switch (view_value e.now) (view_stmts ss)
unfolding view_stmt
view_stmt-Switch e ss = ap view_stmt (sym (stmt.rolls-Switch e ss)) ∙ fold-roll-Stmt p.Stmt stmt_layer (Stmt-F.Switch e ss)

pub view_stmt-Case : (z : ℤ) → view_stmt (stmt.Case z) ≡ p.case_of z
unfolding view_stmt
view_stmt-Case z = ap view_stmt (sym (stmt.rolls-Case z)) ∙ fold-roll-Stmt p.Stmt stmt_layer (Stmt-F.Case z)

pub view_stmt-Default : view_stmt stmt.Default ≡ p.default
unfolding view_stmt
view_stmt-Default = ap view_stmt (sym stmt.rolls-Default) ∙ fold-roll-Stmt p.Stmt stmt_layer Stmt-F.Default

pub view_stmt-Break : view_stmt stmt.Break ≡ p.break
unfolding view_stmt
view_stmt-Break = ap view_stmt (sym stmt.rolls-Break) ∙ fold-roll-Stmt p.Stmt stmt_layer Stmt-F.Break

pub view_stmt-Continue : view_stmt stmt.Continue ≡ p.continue
unfolding view_stmt
view_stmt-Continue = ap view_stmt (sym stmt.rolls-Continue) ∙ fold-roll-Stmt p.Stmt stmt_layer Stmt-F.Continue

pub view_stmt-Return : (e : Option (Bor Value)) → view_stmt (stmt.Return e) ≡ p.return_of (view_option e)
unfolding view_stmt
view_stmt-Return e = ap view_stmt (sym (stmt.rolls-Return e)) ∙ fold-roll-Stmt p.Stmt stmt_layer (Stmt-F.Return e)

pub view_stmt-Assert : (q : Claim) → view_stmt (stmt.Assert q) ≡ p.assert (view_claim q)
unfolding view_stmt
view_stmt-Assert q = ap view_stmt (sym (stmt.rolls-Assert q)) ∙ fold-roll-Stmt p.Stmt stmt_layer (Stmt-F.Assert q)

pub ruleset stmt_laws = (view_stmt-Evaluate, view_stmt-Block, view_stmt-Initial, view_stmt-Choose, view_stmt-Loop, view_stmt-Switch, view_stmt-Case, view_stmt-Default, view_stmt-Break, view_stmt-Continue, view_stmt-Return, view_stmt-Assert)
