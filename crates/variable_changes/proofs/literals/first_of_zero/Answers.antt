use Rattle.std.proofs.Common.{◌≡◌, true, false, [], sym, ◌∙◌, ap}
use Rattle.std.specs.Prelude.{if◌then◌else◌}
use Rattle.branches.specs.Ids.{branch_of}
use Rattle.branch_changes.specs.Givens.{first_put, form_givens, is_nothing}
use Rattle.same_terms.specs.Written.{written}
use Rattle.variable_changes.proofs.literals.first_of_zero.Goals as goal

pub returns-then-not-is_nothing-clause-first : goal.returns-then-not-is_nothing-clause-first
returns-then-not-is_nothing-clause-first g c =
    let tree = g.S.TermStore.tree c.args.store.now in
    let none : is_nothing (tree c.args.right) ≡ false = sym c.is_nothing.ensures ∙ c.if-not-is_nothing.true in
    sym (ap (λ b. first_put (branch_of tree c.args.branch.now) (if b then form_givens (written (tree c.args.left)) else [])) none)

pub returns-clause-first : goal.returns-clause-first
returns-clause-first g c =
    let tree = g.S.TermStore.tree c.args.store.now in
    let some : is_nothing (tree c.args.right) ≡ true = sym c.is_nothing.ensures ∙ c.if-not-is_nothing.false in
    c.in_ok-first.ensures.first ∙ ap (first_put (branch_of tree c.args.branch.now)) (ap form_givens c.in_ok-form.ensures.form ∙ sym (ap (λ b. if b then form_givens (written (tree c.args.left)) else []) some))
