use Rattle.std.proofs.Common.{rules, ◌≡◌, true, false, List}
use Rattle.qed_terms.specs.Tree.{Tree}
use Rattle.same_terms.specs.SameTerms.{SameTerm}
use Rattle.instance_rows.specs.Triggers.{Quantified, instance_by_access}
use Rattle.branch_accesses.specs.Ids.{access_of}
use Rattle.forall_instances.specs.Foralls.{forall_of}
use Rattle.trigger_instances.specs.Ids.{by_one_access}
use Rattle.trigger_instances.specs.Puts.{GivenBehind}
use Rattle.trigger_instances.proofs.Given.{at_false, at_true, puts_instance, puts_nothing}
use Rattle.trigger_instances.proofs.accesses.put_access.Goals as goal

pub returns-then-not-branch : goal.returns-then-not-branch
returns-then-not-branch g c =
    let tree = g.S.TermStore.tree c.args.store.now in
    let held = g.S.TermStore.held c.args.store.now in
    let t = access_of tree c.args.trigger in
    let u = access_of tree c.args.there in
    let q = forall_of tree c.args.quantified.now in
    let told : c.in_ok-may_be_one.field-0 ≡ false = search rules in
    puts_nothing c.args.closed.now held tree c.args.table.now c.may_be_one.new.table c.args.out.now.items (by_one_access q t u) c.in_ok-may_be_one.ensures.kept c.in_ok-may_be_one.ensures.grows c.requires.out
    (λ ls is. at_false c.in_ok-may_be_one.field-0 (SameTerm ls t.block u.block) ((p : Quantified) → (before : List Tree) → GivenBehind ls (by_one_access p t u) before before) (c.in_ok-may_be_one.ensures.told ls is) told q)

pub returns : goal.returns
returns g c =
    let tree = g.S.TermStore.tree in
    let held = g.S.TermStore.held in
    let s = c.args.store.now in
    let s' = c.instance_by_access.new.store in
    let t = access_of (tree s) c.args.trigger in
    let u = access_of (tree s) c.args.there in
    let q = forall_of (tree s) c.args.quantified.now in
    let told : c.in_ok-may_be_one.field-0 ≡ true = search rules in
    let made = c.in_ok-made.ensures in
    puts_instance (held s) (held s') (tree s) (tree s') c.args.closed.now c.args.table.now c.may_be_one.new.table (instance_by_access q t u) t.block u.block c.in_ok-made.made c.args.out.now.items c.put_some.new.out.items
    c.in_ok-may_be_one.ensures.kept c.in_ok-may_be_one.ensures.grows
    (λ ls is. at_true c.in_ok-may_be_one.field-0 (SameTerm ls t.block u.block) ((p : Quantified) → (before : List Tree) → GivenBehind ls (by_one_access p t u) before before) (c.in_ok-may_be_one.ensures.told ls is) told)
    made.older c.requires.out made.held (made.instance t.block u.block) c.in_ok-put_some.ensures
