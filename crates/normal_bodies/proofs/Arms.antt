-- What a statement becomes, by its variant in memory.
use Rattle.std.proofs.Common.{◌≡◌, ℕ, ℤ, Bool, true, false, if◌then◌else◌, List, [], Result, IfOk, refl, sym, ap, ◌∙◌, subst}
use Rattle.std.specs.Borrow.{Bor}
use Rattle.wp_base.specs.declared.memory.NoMemory.{NoMemory}
use Rattle.typed_prog.specs.declared.tree.Value.{Value}
use Rattle.typed_prog.specs.View.{view_value}
use Rattle.c_runs.specs.Program as p
use Rattle.c_runs.specs.Core as core
use Rattle.core_trees.specs.declared.claims.Loop.{Loop}
use Rattle.core_trees.specs.declared.statements.Core.{Core}
use Rattle.core_trees.specs.View.{view_loop, view_cores}
use Rattle.c_runs.specs.Plans.{Condition, jumps_, tests_, planned}
use Rattle.c_runs.specs.Normal.{Did, stmt, stmts}
use Rattle.normal_plans.specs.Flow.{is_connective}
use Rattle.normal_bodies.proofs.Conditions.{jumps_is}
use Rattle.program_trees.specs.declared.stmts.Turns.{Turns}
use Rattle.program_trees.specs.declared.stmts.Stmt.{Stmt}
use Rattle.program_trees.specs.declared.stmts.Stmt.TheVariants as code
use Rattle.program_trees.specs.View.{view_option, view_stmt, view_stmts}
use Rattle.program_trees.proofs.Equations.{view_stmt-Block, view_stmt-Case, view_stmt-Default, view_stmt-Choose, view_stmt-Loop, view_stmt-Switch}
use Rattle.normal_steps.specs.Into.{DidInto}
use Rattle.normal_steps.proofs.Joins.{join_end}
use Rattle.normal_bodies.specs.Parts.{chosen, looped}

pub did_as : (old new : List Core) (r : Result ℕ NoMemory) (x y : Did) → x ≡ y → IfOk r (λ n. DidInto old new x n) → IfOk r (λ n. DidInto old new y n)
did_as old new r x y e h = subst (λ x. IfOk r (λ n. DidInto old new x n)) e h

module _ (xs : List p.Variable) (b c n : ℕ) (st : Stmt) where
  pub plain_arm : (s : p.Stmt) → view_stmt st ≡ s → stmt xs b c n s ≡ stmt xs b c n (view_stmt st)
  plain_arm s e = ap (stmt xs b c n) (sym e)

  nothing_done : (old : List Core) → DidInto old old (record { did = core.end; next_temp = n }) n
  nothing_done old = record { pushed = sym (join_end (view_cores old)); next_is = refl }

  pub case_arm : (old : List Core) (z : ℤ) → st ≡ code.Case z → DidInto old old (stmt xs b c n (view_stmt st)) n
  case_arm old z is = subst (λ s. DidInto old old (stmt xs b c n s) n) (sym (ap view_stmt is ∙ view_stmt-Case z)) (nothing_done old)

  pub default_arm : (old : List Core) → st ≡ code.Default → DidInto old old (stmt xs b c n (view_stmt st)) n
  default_arm old is = subst (λ s. DidInto old old (stmt xs b c n s) n) (sym (ap view_stmt is ∙ view_stmt-Default)) (nothing_done old)

  pub block_arm : (old new body : List Core) (ys : List ℕ) (ss given : List Stmt) (k : ℕ) → st ≡ code.Block ys ss → given ≡ ss → DidInto [] body (stmts xs b c n (view_stmts given)) k
      → view_cores new ≡ core.join (view_cores old) (core.one (core.scope ys (view_cores body))) → DidInto old new (stmt xs b c n (view_stmt st)) k
  block_arm old new body ys ss given k is at h pushed =
      let h1 : DidInto [] body (stmts xs b c n (view_stmts ss)) k = subst (λ ss. DidInto [] body (stmts xs b c n (view_stmts ss)) k) at h in
      let whole : DidInto old new (stmt xs b c n (p.block ys (view_stmts ss))) k =
      record { pushed = pushed ∙ ap (λ a. core.join (view_cores old) (core.one (core.scope ys a))) h1.pushed; next_is = h1.next_is } in
      subst (λ s. DidInto old new (stmt xs b c n s) k) (sym (ap view_stmt is ∙ view_stmt-Block ys ss)) whole

  -- a choice on a condition of a kind
  way : Bool → Value → Condition
  way j e = if j then jumps_ ((planned xs (view_value e)).test true 0 n) else tests_ ((planned xs (view_value e)).made n)

  choose_arm : (j : Bool) (e : Bor Value) (first second given other : Stmt) → st ≡ code.Choose e first second → given ≡ first → other ≡ second → is_connective (view_value e.now) ≡ j
      → chosen xs b c (way j e.now) (view_stmt given) (view_stmt other) ≡ stmt xs b c n (view_stmt st)
  unfolding way
  choose_arm j e first second given other is at at' h =
      ap (λ s. chosen xs b c (way j e.now) (view_stmt s) (view_stmt other)) at ∙ ap (λ s. chosen xs b c (way j e.now) (view_stmt first) (view_stmt s)) at'
      ∙ ap (λ j. chosen xs b c (way j e.now) (view_stmt first) (view_stmt second)) (sym (jumps_is xs (view_value e.now) ∙ h))
      ∙ ap (stmt xs b c n) (sym (ap view_stmt is ∙ view_stmt-Choose e first second))

  pub jumps_arm : (e : Bor Value) (first second given other : Stmt) → st ≡ code.Choose e first second → given ≡ first → other ≡ second → is_connective (view_value e.now) ≡ true
      → chosen xs b c (jumps_ ((planned xs (view_value e.now)).test true 0 n)) (view_stmt given) (view_stmt other) ≡ stmt xs b c n (view_stmt st)
  unfolding way
  jumps_arm e first second given other is at at' h = choose_arm true e first second given other is at at' h

  pub value_arm : (e : Bor Value) (first second given other : Stmt) → st ≡ code.Choose e first second → given ≡ first → other ≡ second → is_connective (view_value e.now) ≡ false
      → chosen xs b c (tests_ ((planned xs (view_value e.now)).made n)) (view_stmt given) (view_stmt other) ≡ stmt xs b c n (view_stmt st)
  unfolding way
  value_arm e first second given other is at at' h = choose_arm false e first second given other is at at' h

  pub loop_arm : (l : Loop) (turns : Turns) (body given : Stmt) → st ≡ code.Loop l turns body → given ≡ body
      → looped xs (view_loop l) (view_option turns.before) (view_stmt given) (view_option turns.step) (view_option turns.behind) n ≡ stmt xs b c n (view_stmt st)
  loop_arm l turns body given is at =
      ap (λ s. looped xs (view_loop l) (view_option turns.before) (view_stmt s) (view_option turns.step) (view_option turns.behind) n) at
      ∙ ap (stmt xs b c n) (sym (ap view_stmt is ∙ view_stmt-Loop l turns body))

  pub switch_arm : (e : Bor Value) (body given : List Stmt) → st ≡ code.Switch e body → given ≡ body
      → stmt xs b c n (p.switch (view_value e.now) (view_stmts given)) ≡ stmt xs b c n (view_stmt st)
  switch_arm e body given is at =
      ap (λ ss. stmt xs b c n (p.switch (view_value e.now) (view_stmts ss))) at ∙ ap (stmt xs b c n) (sym (ap view_stmt is ∙ view_stmt-Switch e body))
