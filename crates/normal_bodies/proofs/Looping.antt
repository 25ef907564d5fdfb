-- Loops.
use Rattle.std.proofs.Common.{◌≡◌, ℕ, List, [], Option, ap, ◌∙◌, subst}
use Rattle.typed_prog.specs.Tree as t
use Rattle.c_runs.specs.Program.{Stmt, Loop, Variable}
use Rattle.c_runs.specs.Core as c
use Rattle.core_trees.specs.declared.statements.Core.{Core}
use Rattle.core_trees.specs.View.{view_cores}
use Rattle.c_runs.specs.Normal.{stmt, loop_test, loop_step}
use Rattle.normal_steps.specs.Into.{TestsInto, DidInto}
use Rattle.normal_steps.proofs.Joins.{join_twice}
use Rattle.normal_bodies.specs.Parts.{loop_of, loop_from, looped}

pub loop_closed : (old new in0 in1 in2 in3 : List Core) (xs : List Variable) (l : Loop) (step behind : Option t.Value) (body : c.Cores) (n k last : ℕ)
    → view_cores in1 ≡ c.join (view_cores in0) (c.one (c.around body)) → DidInto in1 in2 (loop_step xs step n) k → TestsInto in2 in3 (loop_test xs behind k) last
    → view_cores new ≡ c.join (view_cores old) (loop_of l (view_cores in3)) → DidInto old new (loop_from xs l step behind (view_cores in0) body n) last
loop_closed old new in0 in1 in2 in3 xs l step behind body n k last h1 h2 h3 p =
    let z = loop_step xs step n in
    let h3' : TestsInto in2 in3 (loop_test xs behind z.next_temp) last = subst (λ k. TestsInto in2 in3 (loop_test xs behind k) last) h2.next_is h3 in
    let u = loop_test xs behind z.next_temp in
    let inner : view_cores in3 ≡ c.join (view_cores in0) (c.then_ (c.around body) (c.join z.did u.tests)) =
    join_twice (view_cores in0) (view_cores in1) (view_cores in3) (c.one (c.around body)) (c.join z.did u.tests) h1
    (join_twice (view_cores in1) (view_cores in2) (view_cores in3) z.did u.tests h2.pushed h3'.pushed) in
    record { pushed = p ∙ ap (λ b. c.join (view_cores old) (loop_of l b)) inner; next_is = h3'.next_is }

pub loop_done : (old new before0 before body : List Core) (xs : List Variable) (l : Loop) (test step behind : Option t.Value) (s : Stmt) (n k n2 last : ℕ) → before0 ≡ []
    → TestsInto before0 before (loop_test xs test n) k → DidInto [] body (stmt xs 1 0 k s) n2 → DidInto old new (loop_from xs l step behind (view_cores before) (view_cores body) n2) last
    → DidInto old new (looped xs l test s step behind n) last
loop_done old new before0 before body xs l test step behind s n k n2 last e h g d =
    let x = loop_test xs test n in
    let h1 : TestsInto [] before x k = subst (λ z. TestsInto z before x k) e h in
    let g1 : DidInto [] body (stmt xs 1 0 x.next_temp s) n2 = subst (λ k. DidInto [] body (stmt xs 1 0 k s) n2) h1.next_is g in
    let y = stmt xs 1 0 x.next_temp s in
    subst (λ n. DidInto old new (loop_from xs l step behind x.tests y.did n) last) g1.next_is
    (subst (λ a. DidInto old new (loop_from xs l step behind x.tests a n2) last) g1.pushed
    (subst (λ a. DidInto old new (loop_from xs l step behind a (view_cores body) n2) last) h1.pushed d))
