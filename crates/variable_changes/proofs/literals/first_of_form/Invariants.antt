use Rattle.std.proofs.Common.{◌≡◌, ◌-◌}
use Rattle.qed_terms.specs.Store.{KeepsOlder}
use Rattle.branches.specs.Ids.{branch_of}
use Rattle.branch_changes.specs.Givens.{first_put, form_givens, givens_below}
use Rattle.equality_variables.specs.Forms.{lin_of}
use Rattle.variable_changes.proofs.literals.first_of_form.Given as goal

-- what the parts before this one give is none that can be put
abbrev pub invariant-loop-i : goal.invariant-loop-i
invariant-loop-i g l =
    let tree = g.S.TermStore.tree in
    let held = g.S.TermStore.held in
    let s = l.initial.store in
    let b = branch_of (tree s) l.branch in
    let form = lin_of (tree s) l.form in
    record {
      ready : g.R.ChangeRules.ready l.rules l.store;
      older : KeepsOlder (held s) (held l.store) (tree s) (tree l.store);
      rest : first_put b (form_givens form) ≡ first_put b (givens_below form (l.count - l.i));
    }
