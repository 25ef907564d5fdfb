use Rattle.std.proofs.Common.{rules, FitsSigned, ◌≡◌, ◌<◌, true, false, sym, subst, ap, ◌∙◌}
use Rattle.std.specs.Int.{w128}
use Rattle.std.proofs.lemmas.Int.{to_z-of_z}
use Rattle.same_places.specs.Same as places
use Rattle.qed_terms.specs.Tree.{head_of}
use Rattle.qed_linear.specs.Linear.{is_integer}
use Rattle.same_terms.specs.Stands.{tree_part}
use Rattle.term_forms.specs.Forms.{tree_of, count_of, signed_number}
use Rattle.term_forms.proofs.Signed.{fits_back, not_whole, signed_is, fit_one}
use Rattle.term_forms.proofs.rests.signed_part.Goals as goal

pub returns-then-not-is_integer : goal.returns-then-not-is_integer
returns-then-not-is_integer c =
    let tree = tree_of c.args.table.now in
    let whole : is_integer (head_of (tree c.args.part.now.0)) ≡ false = ap is_integer (sym c.node_at.ensures.head) ∙ sym c.is_integer.ensures ∙ c.if-not-is_integer.true in
    not_whole c.args.plus (tree_part tree c.args.part.now) whole

pub returns-in-Some : goal.returns-in-Some
returns-in-Some c =
    let tree = tree_of c.args.table.now in
    let p = c.args.part.now in
    let whole : is_integer (head_of (tree p.0)) ≡ true = ap is_integer (sym c.node_at.ensures.head) ∙ sym c.is_integer.ensures ∙ c.if-not-is_integer.false in
    let told = c.in-Some.ensures in
    let same = to_z-of_z w128 c.in-Some.times (fits_back c.in-Some.times told.1) in
    let made : c.pair.result ≡ (p.0, c.in-Some.times) = c.pair.ensures ∙ ap (λ z. (p.0, z)) same in
    let given : FitsSigned w128 c.args.part.now.1 = search rules in
    let turned = told.0 ∙ ap (signed_number c.args.plus) (to_z-of_z w128 c.args.part.now.1 given) in
    (signed_is tree c.args.plus p c.pair.result c.in-Some.times made turned, subst (λ (q : places.Part). q.0 < count_of c.args.table.now) (sym made) c.requires.below, fit_one tree p c.pair.result c.in-Some.times made told.1 whole)
