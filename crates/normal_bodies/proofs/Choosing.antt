-- Choices, in two ways.
use Rattle.std.proofs.Common.{◌≡◌, ℕ, Bool, true, false, if◌then◌else◌, List, [], sym, ap, ◌∙◌, subst}
use Rattle.typed_prog.specs.declared.tree.Value.{Value}
use Rattle.typed_prog.specs.Tree as t
use Rattle.typed_prog.specs.View.{view_value}
use Rattle.c_runs.specs.Program.{Stmt, choose, Variable}
use Rattle.c_runs.specs.Core as core
use Rattle.core_trees.specs.declared.statements.Core.{Core}
use Rattle.core_trees.specs.View.{view_cores}
use Rattle.c_runs.specs.Plans.{Made, Tests, Condition, jumps_, tests_, planned}
use Rattle.c_runs.specs.Normal.{stmt, up}
use Rattle.normal_plans.specs.Flow.{is_connective}
use Rattle.normal_bodies.proofs.Conditions.{jumps_is}
use Rattle.normal_steps.specs.Into.{MadeInto, TestsInto, DidInto}
use Rattle.normal_steps.proofs.Joins.{join_twice}
use Rattle.normal_bodies.specs.declared.exits.Exits.{Exits}
use Rattle.normal_bodies.specs.Parts.{alone, chosen, first_way}
use Rattle.normal_bodies.proofs.Numbering.{next_same}

pub first_way_done : (in0 in1 in2 in3 : List Core) (xs : List Variable) (b c : ℕ) (x : Tests) (s : Stmt) (within : Exits) (k n last : ℕ) → within ≡ record { on_break = up 2 b; on_continue = up 2 c }
    → in0 ≡ [] → TestsInto in0 in1 x k → DidInto in1 in2 (stmt xs within.on_break within.on_continue k s) n → DidInto in2 in3 (alone (core.exit 1) n) last
    → DidInto [] in3 (first_way xs b c x s) last
first_way_done in0 in1 in2 in3 xs b c x s within k n last w e h g d =
    let tests : TestsInto [] in1 x k = subst (λ z. TestsInto z in1 x k) e h in
    let g1 : DidInto in1 in2 (stmt xs (up 2 b) (up 2 c) k s) n = subst (λ (w : Exits). DidInto in1 in2 (stmt xs w.on_break w.on_continue k s) n) w g in
    let g2 : DidInto in1 in2 (stmt xs (up 2 b) (up 2 c) x.next_temp s) n = subst (λ k. DidInto in1 in2 (stmt xs (up 2 b) (up 2 c) k s) n) tests.next_is g1 in
    let y = stmt xs (up 2 b) (up 2 c) x.next_temp s in
    record {
      pushed = join_twice (view_cores []) (view_cores in1) (view_cores in3) x.tests (core.join y.did (core.one (core.exit 1))) tests.pushed
          (join_twice (view_cores in1) (view_cores in2) (view_cores in3) y.did (core.one (core.exit 1)) g2.pushed d.pushed);
      next_is = d.next_is ∙ g2.next_is;
    }

pub jumps_done : (old new first both0 both1 : List Core) (xs : List Variable) (b c : ℕ) (x : Tests) (s s' : Stmt) (within : Exits) (k last : ℕ) → within ≡ record { on_break = up 1 b; on_continue = up 1 c }
    → DidInto [] first (first_way xs b c x s) k → view_cores both0 ≡ core.one (core.around (view_cores first)) → DidInto both0 both1 (stmt xs within.on_break within.on_continue k s') last
    → view_cores new ≡ core.join (view_cores old) (core.one (core.around (view_cores both1))) → DidInto old new (chosen xs b c (jumps_ x) s s') last
jumps_done old new first both0 both1 xs b c x s s' within k last w h e g p =
    let n2 = (stmt xs b c x.next_temp s).next_temp in
    let kn : k ≡ n2 = h.next_is ∙ next_same xs s (up 2 b) (up 2 c) b c x.next_temp in
    let g1 : DidInto both0 both1 (stmt xs (up 1 b) (up 1 c) k s') last = subst (λ (w : Exits). DidInto both0 both1 (stmt xs w.on_break w.on_continue k s') last) w g in
    let g2 : DidInto both0 both1 (stmt xs (up 1 b) (up 1 c) n2 s') last = subst (λ k. DidInto both0 both1 (stmt xs (up 1 b) (up 1 c) k s') last) kn g1 in
    let z = stmt xs (up 1 b) (up 1 c) n2 s' in
    let both = g2.pushed ∙ ap (λ a. core.join a z.did) (e ∙ ap (λ a. core.one (core.around a)) h.pushed) in
    record { pushed = p ∙ ap (λ a. core.join (view_cores old) (core.one (core.around a))) both; next_is = g2.next_is ∙ next_same xs s' (up 1 b) (up 1 c) b c n2 }

pub value_done : (old mid new first second : List Core) (xs : List Variable) (b c : ℕ) (m : Made) (test : Value) (s s' : Stmt) (k n last : ℕ) → MadeInto old mid m test k
    → DidInto [] first (stmt xs b c k s) n → DidInto [] second (stmt xs b c n s') last
    → view_cores new ≡ core.join (view_cores mid) (core.one (core.branch (view_value test) (view_cores first) (view_cores second))) → DidInto old new (chosen xs b c (tests_ m) s s') last
value_done old mid new first second xs b c m test s s' k n last h g d p =
    let g1 : DidInto [] first (stmt xs b c m.next_temp s) n = subst (λ k. DidInto [] first (stmt xs b c k s) n) h.next_is g in
    let x = stmt xs b c m.next_temp s in
    let d1 : DidInto [] second (stmt xs b c x.next_temp s') last = subst (λ n. DidInto [] second (stmt xs b c n s') last) g1.next_is d in
    let y = stmt xs b c x.next_temp s' in
    let branch = core.one (core.branch m.value x.did y.did) in
    record {
      pushed = join_twice (view_cores old) (view_cores mid) (view_cores new) m.before branch h.pushed
          (p ∙ ap (λ e. core.join (view_cores mid) (core.one (core.branch e (view_cores first) (view_cores second)))) h.value_is
          ∙ ap (λ a. core.join (view_cores mid) (core.one (core.branch m.value a (view_cores second)))) g1.pushed
          ∙ ap (λ a. core.join (view_cores mid) (core.one (core.branch m.value x.did a))) d1.pushed);
      next_is = d1.next_is;
    }
