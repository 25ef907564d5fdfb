-- Choices.
use Rattle.std.proofs.Common.{◌≡◌, ℕ, suc, true, false, if◌then◌else◌, List, [], sym, ap, ◌∙◌, subst}
use Rattle.typed_prog.specs.declared.types.CoreType.{CoreType}
use Rattle.typed_prog.specs.declared.tree.Value.{Value}
use Rattle.typed_prog.specs.View.{view_value}
use Rattle.c_runs.specs.Core as c
use Rattle.core_trees.specs.declared.statements.Core.{Core}
use Rattle.core_trees.specs.declared.statements.Core.TheVariants as core
use Rattle.core_trees.proofs.Equations.{view_core-Exit, view_core-Around, view_core-Branch}
use Rattle.core_trees.specs.View.{view_core, view_cores}
use Rattle.c_runs.specs.Plans.{Made, Tests, Sent, Plan, jumps_, tests_, choice_made, temp_of, into}
use Rattle.normal_steps.specs.declared.puts.Put.{Put}
use Rattle.normal_steps.specs.Into.{MadeInto, TestsInto, SentInto, view_put, choice_from}
use Rattle.normal_steps.proofs.Joins.{join_assoc, join_twice}

abbrev put_one : List Core → c.Core → c.Cores
put_one old s = c.join (view_cores old) (c.one s)

pub around_is : (old new body : List Core) (inside : c.Cores) → view_cores body ≡ inside → view_cores new ≡ c.join (view_cores old) (c.one (view_core (core.Around body))) → view_cores new ≡ c.join (view_cores old) (c.one (c.around inside))
around_is old new body inside h p = p ∙ ap (put_one old) (view_core-Around body ∙ ap c.around h)

pub branch_is : (old new first second : List Core) (v : Value) (inside : c.Cores) → view_cores second ≡ inside → view_cores new ≡ c.join (view_cores old) (c.one (view_core (core.Branch v first second)))
    → view_cores new ≡ c.join (view_cores old) (c.one (c.branch (view_value v) (view_cores first) inside))
branch_is old new first second v inside h p = p ∙ ap (put_one old) (view_core-Branch v first second ∙ ap (c.branch (view_value v) (view_cores first)) h)

pub first_way_is : (inner mid last none outer : List Core) (s : c.Core) → view_cores mid ≡ c.join (view_cores inner) (c.one s) → view_cores last ≡ c.join (view_cores mid) (c.one (view_core (core.Exit 1))) → none ≡ []
    → view_cores outer ≡ c.join (view_cores none) (c.one (view_core (core.Around last))) → view_cores outer ≡ c.one (c.around (c.join (view_cores inner) (c.then_ s (c.one (c.exit 1)))))
first_way_is inner mid last none outer s p q e r =
    let inside = join_twice (view_cores inner) (view_cores mid) (view_cores last) (c.one s) (c.one (c.exit 1)) p (q ∙ ap (put_one mid) (view_core-Exit 1)) in
    r ∙ ap (λ xs. c.join (view_cores xs) (c.one (view_core (core.Around last)))) e ∙ ap c.one (view_core-Around last ∙ ap c.around inside)

-- what puts a value into the temporary is what the plan says
put_at : (x : Sent) (sent : Put) (n : ℕ) → view_put sent ≡ x.put → view_put sent n ≡ x.put n
put_at x sent n h = ap (λ f. f n) h

pub jumps_done : (old new none in1 in2 out1 out2 : List Core) (type : CoreType) (l : ℕ) (a b : Plan) (x : Tests) (pa pb : Put) (w : Value) (t slot nx last : ℕ) → none ≡ [] → TestsInto none in1 x t → SentInto in1 in2 (a.sent t) pa slot
    → view_cores out1 ≡ c.one (c.around (c.join (view_cores in2) (c.then_ (view_put pa slot) (c.one (c.exit 1))))) → nx ≡ suc slot → SentInto out1 out2 (b.sent nx) pb last
    → view_cores new ≡ c.join (view_cores old) (c.one (c.around (c.join (view_cores out2) (c.one (view_put pb slot))))) → view_value w ≡ temp_of type l slot → MadeInto old new (choice_from type l (jumps_ x) a b) w last
jumps_done old new none in1 in2 out1 out2 type l a b x pa pb w t slot nx last e hx0 ha0 p1 hn hb0 p v =
    let hx : TestsInto [] in1 x t = subst (λ xs. TestsInto xs in1 x t) e hx0 in
    let ya = a.sent x.next_temp in
    let ha : SentInto in1 in2 ya pa slot = subst (λ n. SentInto in1 in2 (a.sent n) pa slot) hx.next_is ha0 in
    let i = ya.next_temp in
    let yb = b.sent (suc i) in
    let hb : SentInto out1 out2 yb pb last = subst (λ n. SentInto out1 out2 (b.sent n) pb last) (hn ∙ ap suc ha.next_is) hb0 in
    let way_a = c.then_ (view_put pa slot) (c.one (c.exit 1)) in
    let inner : view_cores in2 ≡ c.join x.tests ya.before = ha.pushed ∙ ap (λ z. c.join z ya.before) hx.pushed in
    let same : c.join (view_cores in2) way_a ≡ c.join x.tests (c.join (c.join ya.before (c.one (view_put pa slot))) (c.one (c.exit 1))) =
    ap (λ z. c.join z way_a) inner ∙ join_assoc x.tests ya.before way_a ∙ ap (c.join x.tests) (sym (join_assoc ya.before (c.one (view_put pa slot)) (c.one (c.exit 1)))) in
    let first : (f : c.Core) → c.Cores = λ f. c.join x.tests (c.join (c.join ya.before (c.one f)) (c.one (c.exit 1))) in
    let outer : view_cores out2 ≡ c.then_ (c.around (first (view_put pa slot))) yb.before = hb.pushed ∙ ap (λ z. c.join z yb.before) (p1 ∙ ap (λ z. c.one (c.around z)) same) in
    let whole : (f g : c.Core) → c.Cores = λ f g. c.then_ (c.around (first f)) (c.join yb.before (c.one g)) in
    let at_a : view_put pa slot ≡ ya.put i = put_at ya pa slot ha.put_is ∙ ap ya.put ha.next_is in
    let at_b : view_put pb slot ≡ yb.put i = put_at yb pb slot hb.put_is ∙ ap yb.put ha.next_is in
    record {
      pushed = p ∙ ap (λ z. put_one old (c.around z)) (ap (λ z. c.join z (c.one (view_put pb slot))) outer ∙ ap (λ f. whole f (view_put pb slot)) at_a ∙ ap (λ g. whole (ya.put i) g) at_b);
      value_is = v ∙ ap (temp_of type l) ha.next_is;
      next_is = hb.next_is;
    }

pub branch_done : (old mid new none_a in1 in2 none_b out1 : List Core) (type : CoreType) (l : ℕ) (a b : Plan) (m : Made) (q w : Value) (pa pb : Put) (t slot nx last : ℕ) → MadeInto old mid m q t → none_a ≡ [] → SentInto none_a in1 (a.sent t) pa slot
    → view_cores in2 ≡ c.join (view_cores in1) (c.one (view_put pa slot)) → nx ≡ suc slot → none_b ≡ [] → SentInto none_b out1 (b.sent nx) pb last
    → view_cores new ≡ c.join (view_cores mid) (c.one (c.branch (view_value q) (view_cores in2) (c.join (view_cores out1) (c.one (view_put pb slot))))) → view_value w ≡ temp_of type l slot
    → MadeInto old new (choice_from type l (tests_ m) a b) w last
branch_done old mid new none_a in1 in2 none_b out1 type l a b m q w pa pb t slot nx last hm ea ha0 p1 hn eb hb0 p v =
    let ya = a.sent m.next_temp in
    let ha1 : SentInto [] in1 (a.sent t) pa slot = subst (λ xs. SentInto xs in1 (a.sent t) pa slot) ea ha0 in
    let ha : SentInto [] in1 ya pa slot = subst (λ n. SentInto [] in1 (a.sent n) pa slot) hm.next_is ha1 in
    let i = ya.next_temp in
    let yb = b.sent (suc i) in
    let hb1 : SentInto [] out1 (b.sent nx) pb last = subst (λ xs. SentInto xs out1 (b.sent nx) pb last) eb hb0 in
    let hb : SentInto [] out1 yb pb last = subst (λ n. SentInto [] out1 (b.sent n) pb last) (hn ∙ ap suc ha.next_is) hb1 in
    let at_a : view_put pa slot ≡ ya.put i = put_at ya pa slot ha.put_is ∙ ap ya.put ha.next_is in
    let at_b : view_put pb slot ≡ yb.put i = put_at yb pb slot hb.put_is ∙ ap yb.put ha.next_is in
    let way_a : view_cores in2 ≡ into i ya 0 = p1 ∙ ap (λ z. c.join z (c.one (view_put pa slot))) ha.pushed ∙ ap (λ f. c.join ya.before (c.one f)) at_a in
    let way_b : c.join (view_cores out1) (c.one (view_put pb slot)) ≡ into i yb 0 = ap (λ z. c.join z (c.one (view_put pb slot))) hb.pushed ∙ ap (λ f. c.join yb.before (c.one f)) at_b in
    let stmt : c.branch (view_value q) (view_cores in2) (c.join (view_cores out1) (c.one (view_put pb slot))) ≡ c.branch m.value (into i ya 0) (into i yb 0) =
    ap (λ z. c.branch z (view_cores in2) (c.join (view_cores out1) (c.one (view_put pb slot)))) hm.value_is ∙ ap (λ z. c.branch m.value z (c.join (view_cores out1) (c.one (view_put pb slot)))) way_a ∙ ap (c.branch m.value (into i ya 0)) way_b in
    record {
      pushed = join_twice (view_cores old) (view_cores mid) (view_cores new) m.before (c.one (c.branch m.value (into i ya 0) (into i yb 0))) hm.pushed (p ∙ ap (put_one mid) stmt);
      value_is = v ∙ ap (temp_of type l) ha.next_is;
      next_is = hb.next_is;
    }

pub by_jumps : (type : CoreType) (l : ℕ) (q a b : Plan) (n : ℕ) → q.jumps ≡ true → choice_made type l q a b n ≡ choice_from type l (jumps_ (q.test true 0 n)) a b
by_jumps type l q a b n h = ap (λ j. choice_from type l (if j then jumps_ (q.test true 0 n) else tests_ (q.made n)) a b) h

pub by_branch : (type : CoreType) (l : ℕ) (q a b : Plan) (n : ℕ) → q.jumps ≡ false → choice_made type l q a b n ≡ choice_from type l (tests_ (q.made n)) a b
by_branch type l q a b n h = ap (λ j. choice_from type l (if j then jumps_ (q.test true 0 n) else tests_ (q.made n)) a b) h
