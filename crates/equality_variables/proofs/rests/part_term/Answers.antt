use Rattle.std.proofs.Common.{rules, FitsSigned, ◌≡◌, true, false, sym, ap, ◌∙◌}
use Rattle.std.specs.Int.{w128}
use Rattle.std.proofs.lemmas.Int.{to_z-of_z}
use Rattle.qed_terms.specs.Tree.{head_of}
use Rattle.qed_linear.specs.Linear as linear
use Rattle.qed_linear.specs.Linear.{is_integer, part, part_tree}
use Rattle.term_forms.specs.Forms.{signed_number}
use Rattle.term_forms.proofs.Signed.{fits_back, not_whole, too_wide}
use Rattle.equality_variables.specs.Forms.{part_of}
use Rattle.equality_variables.proofs.Parts.{integer_fits, signed_part, signed_fits, part_fits}
use Rattle.equality_variables.proofs.rests.part_term.Goals as goal

pub returns-then-not-is_integer-clause-term : goal.returns-then-not-is_integer-clause-term
returns-then-not-is_integer-clause-term g c =
    let tree = g.S.TermStore.tree c.args.store.now in
    let p = c.args.part.now in
    let whole : is_integer (head_of (tree p.0)) ≡ false = ap is_integer (sym c.head.ensures) ∙ sym c.is_integer.ensures ∙ c.if-not-is_integer.true in
    not_whole c.args.plus (part_of tree p) whole

pub multiple_term-requires-clause-fits : goal.multiple_term-requires-clause-fits
multiple_term-requires-clause-fits g c =
    let s = c.args.store.now in
    let tree = g.S.TermStore.tree s in
    let p = c.args.part.now in
    integer_fits (tree p.0) (ap is_integer (sym c.head.ensures) ∙ sym c.is_integer.ensures ∙ c.if-not-is_integer.false) (g.met.S.TermStore.well_formed s p.0 c.requires)

pub returns-in-None-clause-term : goal.returns-in-None-clause-term
returns-in-None-clause-term g c =
    let tree = g.S.TermStore.tree c.args.store.now in
    let given : FitsSigned w128 c.args.part.now.1 = search rules in
    too_wide c.args.plus (part_of tree c.args.part.now) (ap (λ z. linear.fits (signed_number c.args.plus z)) (sym (to_z-of_z w128 c.args.part.now.1 given)) ∙ c.in-None.ensures)

pub returns-in_ok-id-in-Some-clause-term : goal.returns-in_ok-id-in-Some-clause-term
returns-in_ok-id-in-Some-clause-term g c =
    let s = c.args.store.now in
    let s' = c.multiple_term.new.store in
    let tree = g.S.TermStore.tree s in
    let tree' = g.S.TermStore.tree s' in
    let p = c.args.part.now in
    let id = c.in_ok-id-in-Some.id in
    let told = c.in-Some.ensures in
    let given : FitsSigned w128 p.1 = search rules in
    let same = to_z-of_z w128 c.in-Some.times (fits_back c.in-Some.times told.1) in
    let turned = told.0 ∙ ap (signed_number c.args.plus) (to_z-of_z w128 p.1 given) in
    let whole : is_integer (head_of (tree p.0)) ≡ true = ap is_integer (sym c.head.ensures) ∙ sym c.is_integer.ensures ∙ c.if-not-is_integer.false in
    let made = c.in_ok-id-in-Some.ensures.tree ∙ ap (λ z. part_tree (part (tree p.0) z)) same in
    let fit = integer_fits (tree p.0) whole (g.met.S.TermStore.well_formed s p.0 c.requires) in
    (signed_fits c.args.plus (tree p.0) p.1 c.in-Some.times turned told.1 whole, c.in_ok-id-in-Some.ensures.held, part_fits (tree p.0) c.in-Some.times (tree' id) fit made, made ∙ ap part_tree (signed_part c.args.plus (tree p.0) p.1 c.in-Some.times turned))
