use Rattle.std.proofs.Common.{map, All, ◌<◌, subst, sym, ap, ◌∙◌, ◌++◌, ◌∷◌, []}
use Rattle.std.specs.Prelude.{pos}
use Rattle.std.specs.Int.{w128}
use Rattle.std.specs.Ordering.{int_eq}
use Rattle.std.proofs.lemmas.Int.{to_z-of_z}
use Rattle.qed_terms.specs.Tree.{num}
use Rattle.std.proofs.lemmas.List.{map_push}
use Rattle.tree_places.specs.View.{nodes_of}
use Rattle.term_forms.specs.Forms.{tree_of, count_of}
use Rattle.term_forms.proofs.Sums.{still, below_more, no_constant, one_constant, told_equal, told_apart}
use Rattle.term_forms.proofs.made.put_constant.Goals as goal

pub returns-then-are_equal-clause-trees : goal.returns-then-are_equal-clause-trees
returns-then-are_equal-clause-trees c = no_constant (map (tree_of c.args.table.now) c.args.terms.now.items) c.args.constant (told_equal c.args.constant (pos 0) c.are_equal.result (c.are_equal.ensures ∙ ap (λ z. int_eq z (pos 0)) (to_z-of_z w128 c.args.constant c.ranges.constant)) c.if-are_equal.true)

pub returns-clause-below : goal.returns-clause-below
returns-clause-below c =
    let ns = nodes_of c.args.table.now in
    let ms = nodes_of c.number_place.new.table in
    subst (λ xs. All (λ k. k < count_of c.number_place.new.table) xs) (sym c.in_ok-push.ensures.items) (below_more ns ms c.requires.kept.table.all c.in_ok-place.ensures.grows c.args.terms.now.items c.in_ok-place.place c.requires.terms c.in_ok-place.ensures.below)

pub returns-clause-trees : goal.returns-clause-trees
returns-clause-trees c =
    let ns = nodes_of c.args.table.now in
    let ms = nodes_of c.number_place.new.table in
    let tree = tree_of c.number_place.new.table in
    ap (map tree) c.in_ok-push.ensures.items ∙ map_push tree c.args.terms.now.items c.in_ok-place.place ∙ ap (λ ts. ts ++ tree c.in_ok-place.place ∷ []) (still ns ms c.requires.kept.table.all c.in_ok-place.ensures.grows c.args.terms.now.items c.requires.terms)
    ∙ one_constant (map (tree_of c.args.table.now) c.args.terms.now.items) c.args.constant (tree c.in_ok-place.place) (told_apart c.args.constant (pos 0) c.are_equal.result (c.are_equal.ensures ∙ ap (λ z. int_eq z (pos 0)) (to_z-of_z w128 c.args.constant c.ranges.constant)) c.if-are_equal.false) (c.in_ok-place.ensures.tree ∙ ap num (to_z-of_z w128 c.args.constant c.ranges.constant))
