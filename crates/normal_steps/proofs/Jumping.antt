-- Conditions.
use Rattle.std.proofs.Common.{◌≡◌, ℕ, suc, pos, List, [], ap, ◌∙◌}
use Rattle.typed_prog.specs.declared.types.CoreType.{CoreType}
use Rattle.typed_prog.specs.declared.tree.Value.{Value}
use Rattle.typed_prog.specs.View.{view_value}
use Rattle.c_runs.specs.Core as c
use Rattle.core_trees.specs.declared.statements.Core.{Core}
use Rattle.core_trees.specs.declared.statements.Core.TheVariants as core
use Rattle.core_trees.proofs.Equations.{view_core-Exit, view_core-Around, view_core-Branch}
use Rattle.core_trees.specs.View.{view_core, view_cores}
use Rattle.c_runs.specs.Plans.{flag, constant_of, temp_of}
use Rattle.normal_steps.specs.Into.{MadeInto}
use Rattle.normal_steps.proofs.Joins.{join_twice}

-- one exit is pushed into an empty list
leaving : (none leave : List Core) (k : ℕ) → none ≡ [] → view_cores leave ≡ c.join (view_cores none) (c.one (view_core (core.Exit k))) → view_cores leave ≡ c.one (c.exit k)
leaving none leave k e p = p ∙ ap (λ xs. c.join (view_cores xs) (c.one (view_core (core.Exit k)))) e ∙ ap c.one (view_core-Exit k)

abbrev put_one : List Core → c.Core → c.Cores
put_one old s = c.join (view_cores old) (c.one s)

pub jump_true : (old new none leave stay : List Core) (v : Value) (k : ℕ) → none ≡ [] → view_cores leave ≡ c.join (view_cores none) (c.one (view_core (core.Exit k))) → stay ≡ []
    → view_cores new ≡ c.join (view_cores old) (c.one (view_core (core.Branch v stay leave))) → view_cores new ≡ c.join (view_cores old) (c.one (c.branch (view_value v) c.end (c.one (c.exit k))))
jump_true old new none leave stay v k e p s q =
    q ∙ ap (put_one old) (view_core-Branch v stay leave ∙ ap (λ xs. c.branch (view_value v) (view_cores xs) (view_cores leave)) s ∙ ap (λ z. c.branch (view_value v) c.end z) (leaving none leave k e p))

pub jump_false : (old new none leave stay : List Core) (v : Value) (k : ℕ) → none ≡ [] → view_cores leave ≡ c.join (view_cores none) (c.one (view_core (core.Exit k))) → stay ≡ []
    → view_cores new ≡ c.join (view_cores old) (c.one (view_core (core.Branch v leave stay))) → view_cores new ≡ c.join (view_cores old) (c.one (c.branch (view_value v) (c.one (c.exit k)) c.end))
jump_false old new none leave stay v k e p s q =
    q ∙ ap (put_one old) (view_core-Branch v leave stay ∙ ap (λ xs. c.branch (view_value v) (view_cores leave) (view_cores xs)) s ∙ ap (λ z. c.branch (view_value v) z c.end) (leaving none leave k e p))

pub flag_done : (old new tests in1 in2 none out1 out2 : List Core) (type : CoreType) (l n n' : ℕ) (w : Value) → view_cores in1 ≡ c.join (view_cores tests) (c.one (c.set n (constant_of type l (pos 1))))
    → view_cores in2 ≡ c.join (view_cores in1) (c.one (view_core (core.Exit 1))) → none ≡ [] → view_cores out1 ≡ c.join (view_cores none) (c.one (view_core (core.Around in2)))
    → view_cores out2 ≡ c.join (view_cores out1) (c.one (c.set n (constant_of type l (pos 0)))) → view_cores new ≡ c.join (view_cores old) (c.one (view_core (core.Around out2)))
    → view_value w ≡ temp_of type l n → n' ≡ suc n → MadeInto old new (flag type l (record { tests = view_cores tests; next_temp = n })) w n'
flag_done old new tests in1 in2 none out1 out2 type l n n' w p1 p2 e q1 q2 q v k =
    let yes = c.one (c.set n (constant_of type l (pos 1))) in
    let no = c.one (c.set n (constant_of type l (pos 0))) in
    let inside = join_twice (view_cores tests) (view_cores in1) (view_cores in2) yes (c.one (c.exit 1)) p1 (p2 ∙ ap (put_one in1) (view_core-Exit 1)) in
    let first : view_cores out1 ≡ c.one (c.around (c.join (view_cores tests) (c.join yes (c.one (c.exit 1))))) =
    q1 ∙ ap (λ xs. c.join (view_cores xs) (c.one (view_core (core.Around in2)))) e ∙ ap c.one (view_core-Around in2 ∙ ap c.around inside) in
    let both = q2 ∙ ap (λ z. c.join z no) first in
    record { pushed = q ∙ ap (put_one old) (view_core-Around out2 ∙ ap c.around both); value_is = v; next_is = k }
