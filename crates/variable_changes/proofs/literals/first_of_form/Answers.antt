use Rattle.std.proofs.Common.{[], length, refl, sym, ◌∙◌, ap, arith}
use Rattle.std.specs.Prelude.{option_map}
use Rattle.qed_terms.proofs.Kept.{kept_over, kept_still}
use Rattle.branches.specs.Ids.{branch_of}
use Rattle.branches.proofs.Stores.{branch_same}
use Rattle.branch_changes.specs.Givens.{first_put, with_given}
use Rattle.branch_changes.specs.Ids.{given_of}
use Rattle.equality_variables.specs.Forms.{lin_of}
use Rattle.variable_changes.proofs.Firsts.{form_start, form_first, form_later, form_done, form_same, parts_still}
use Rattle.variable_changes.proofs.literals.first_of_form.Goals as goal

pub loop-i-init : goal.loop-i-init
loop-i-init g c =
    let s = c.args.store.now in
    let tree = g.S.TermStore.tree in
    record {
      ready = c.requires.ready;
      older = kept_still (g.S.TermStore.held s) (tree s);
      rest = form_start (branch_of (tree s) c.args.branch.now) (tree s) c.args.form.now _ (ap length c.as_slice-parts.ensures.value);
    }

pub given_at-requires-clause-held : goal.given_at-requires-clause-held
given_at-requires-clause-held g c =
    let held = g.S.TermStore.held in
    let tree = g.S.TermStore.tree in
    let s0 = c.args.store.now in
    let s = c.loop-i.store in
    parts_still (held s0) (held s) (tree s0) (tree s) c.loop-i.invariant.older c.args.form.now.parts.items c.requires.form

pub given_at-requires-clause-at : goal.given_at-requires-clause-at
given_at-requires-clause-at g c =
    let same = ap length c.as_slice-parts.ensures.value in
    omega (arith, same, c.loop-i-test.true)

pub loop-i-preserved : goal.loop-i-preserved
loop-i-preserved g c =
    let held = g.S.TermStore.held in
    let tree = g.S.TermStore.tree in
    let s0 = c.args.store.now in
    let s = c.loop-i.store in
    let s' = c.given_at.new.store in
    let older = c.loop-i.invariant.older in
    let all = kept_over (held s0) (held s) (held s') (tree s0) (tree s) (tree s') older c.in_ok-given.ensures.older in
    let b = branch_of (tree s0) c.args.branch.now in
    let form = lin_of (tree s0) c.args.form.now in
    let same = branch_same (held s0) (held s') (tree s0) (tree s') all c.args.branch.now c.requires.held in
    let o = option_map (given_of (tree s')) c.in_ok-given.given in
    let forms = form_same (held s0) (held s) (tree s0) (tree s) older c.args.form.now c.requires.form in
    let none = sym (ap (option_map (given_of (tree s'))) c.in-None.is) ∙ c.in_ok-first.ensures.first ∙ ap (λ z. first_put z (with_given o [])) same in
    record {
      ready = c.in_ok-first.ensures.ready;
      older = all;
      rest = form_later b form (lin_of (tree s) c.args.form.now) forms _ _ c.loop-i.i c.loop-i-test.true _ refl o c.in_ok-given.ensures.given c.loop-i.invariant.rest none;
    }

pub returns-in-Some-clause-first : goal.returns-in-Some-clause-first
returns-in-Some-clause-first g c =
    let held = g.S.TermStore.held in
    let tree = g.S.TermStore.tree in
    let s0 = c.args.store.now in
    let s = c.loop-i.store in
    let s' = c.given_at.new.store in
    let older = c.loop-i.invariant.older in
    let all = kept_over (held s0) (held s) (held s') (tree s0) (tree s) (tree s') older c.in_ok-given.ensures.older in
    let b = branch_of (tree s0) c.args.branch.now in
    let form = lin_of (tree s0) c.args.form.now in
    let same = branch_same (held s0) (held s') (tree s0) (tree s') all c.args.branch.now c.requires.held in
    let o = option_map (given_of (tree s')) c.in_ok-given.given in
    let forms = form_same (held s0) (held s) (tree s0) (tree s) older c.args.form.now c.requires.form in
    let some = sym (ap (option_map (given_of (tree s'))) c.in-Some.is) ∙ c.in_ok-first.ensures.first ∙ ap (λ z. first_put z (with_given o [])) same in
    form_first b form (lin_of (tree s) c.args.form.now) forms _ _ c.loop-i.i c.loop-i-test.true _ refl o c.in_ok-given.ensures.given (given_of (tree s') c.in-Some.given) c.loop-i.invariant.rest some

pub returns-clause-first : goal.returns-clause-first
returns-clause-first g c =
    let tree = g.S.TermStore.tree in
    let s0 = c.args.store.now in
    form_done (branch_of (tree s0) c.args.branch.now) (lin_of (tree s0) c.args.form.now) _ _ c.loop-i.i c.loop-i-test.false c.loop-i.invariant.rest
