use Rattle.std.proofs.Common.{rules, FitsSigned, ◌++◌, ◌+◌, take, drop, sym, ap, ◌∙◌}
use Rattle.std.specs.Int.{w128}
use Rattle.std.proofs.lemmas.Int.{to_z-of_z}
use Rattle.qed_linear.specs.Linear as linear
use Rattle.term_forms.specs.Forms.{signed_number}
use Rattle.term_forms.proofs.Signed.{fits_back}
use Rattle.equality_variables.specs.Forms.{parts_of}
use Rattle.equality_variables.proofs.Parts.{parts_without, parts_held, no_rest, rest_told}
use Rattle.equality_variables.proofs.rests.rest_term.Goals as goal

pub returns-in-None-clause-rest : goal.returns-in-None-clause-rest
returns-in-None-clause-rest g c =
    let tree = g.S.TermStore.tree c.args.store.now in
    let items = c.args.form.now.parts.items in
    let at = c.args.at in
    let given : FitsSigned w128 c.args.form.now.constant = search rules in
    let rest = c.in_ok-others.ensures ∙ ap (λ xs. take at xs ++ drop (at + 1) xs) c.as_slice.ensures.value in
    no_rest c.args.plus (parts_of tree c.in_ok-others.others.items) (take at (parts_of tree items) ++ drop (at + 1) (parts_of tree items)) c.args.form.now.constant (parts_without tree c.args.plus items c.in_ok-others.others.items at rest)
    (ap (λ z. linear.fits (signed_number c.args.plus z)) (sym (to_z-of_z w128 c.args.form.now.constant given)) ∙ c.in-None.ensures)

pub rest_with-requires : goal.rest_with-requires
rest_with-requires g c =
    let items = c.args.form.now.parts.items in
    let at = c.args.at in
    let rest = c.as_slice-in-Some.ensures.value ∙ c.in_ok-others.ensures ∙ ap (λ xs. take at xs ++ drop (at + 1) xs) c.as_slice.ensures.value in
    parts_held (g.S.TermStore.held c.args.store.now) items _ at rest c.requires.held

pub returns-clause-rest : goal.returns-clause-rest
returns-clause-rest g c =
    let tree = g.S.TermStore.tree c.args.store.now in
    let items = c.args.form.now.parts.items in
    let at = c.args.at in
    let told = c.in-Some.ensures in
    let given : FitsSigned w128 c.args.form.now.constant = search rules in
    let same = to_z-of_z w128 c.in-Some.constant (fits_back c.in-Some.constant told.1) in
    let rest = c.as_slice-in-Some.ensures.value ∙ c.in_ok-others.ensures ∙ ap (λ xs. take at xs ++ drop (at + 1) xs) c.as_slice.ensures.value in
    c.in_ok-made-in-Some.ensures.rest
    ∙ rest_told c.args.plus (parts_of tree c.as_slice-in-Some.result.now) (take at (parts_of tree items) ++ drop (at + 1) (parts_of tree items)) c.args.form.now.constant (parts_without tree c.args.plus items _ at rest) _
    (same ∙ told.0 ∙ ap (signed_number c.args.plus) (to_z-of_z w128 c.args.form.now.constant given)) (ap linear.fits same ∙ told.1)
