use Rattle.std.proofs.Common.{◌≡◌, ◌+◌, map, ap, ◌∙◌, arith}
use Rattle.std.specs.Option.{option_map}
use Rattle.acsl_trees.specs.declared.tree.Tree.{out-Tree}
use Rattle.acsl_trees.specs.Tree.{trees_of, view_trees}
use Rattle.c_runs.specs.Truth.{heads_of}
use Rattle.acsl_encode.specs.Encode.{terms_at}
use Rattle.annotation_heads.specs.View.{view_ends, view_terms}
use Rattle.annotation_words.specs.Parts as parts
use Rattle.annotation_words.specs.Encoded.{kids_terms, bound_terms}
use Rattle.annotation_words.specs.View.{view_reading}
use Rattle.annotation_words.proofs.Encoding_trees.{at_is, bound_is, over_is, kids_turn, place_found, place_turn, let_made, bound_made}
use Rattle.annotation_words.proofs.encoding.+encoding.Goals as goal

pub encode-returns-in_ok-made-in-At : goal.encode-returns-in_ok-made-in-At
encode-returns-in_ok-made-in-At t c =
    let kids = c.as_slice.ensures in
    let made = c.in_ok-made-in-At.ensures
    ∙ (λ j. terms_at (kids_terms (c.moved.ensures j) c.args.names.now c.args.next (trees_of (view_trees (kids j)))) 0) in
    at_is (view_reading c.args.reading) c.args.names.now c.args.next c.part_of.result c.in-At.label c.args.tree.now _ c.part_of.ensures c.in-At.is made

pub encode-returns-in_ok-made-in-Bound : goal.encode-returns-in_ok-made-in-Bound
encode-returns-in_ok-made-in-Bound t c =
    let reading = view_reading c.args.reading in
    let made = c.in_ok-made-in-Bound.ensures
    ∙ ap (λ ks. bound_terms c.in-Bound.is_every c.in-Bound.range reading c.args.names.now c.args.next (trees_of (view_trees ks))) c.as_slice-in-Bound.ensures in
    bound_is reading c.args.names.now c.args.next c.part_of.result c.in-Bound.is_every c.in-Bound.range c.args.tree.now _ c.part_of.ensures c.in-Bound.is made

pub encode-returns-in_ok-made-in-Over : goal.encode-returns-in_ok-made-in-Over
encode-returns-in_ok-made-in-Over t c =
    let reading = view_reading c.args.reading in
    let values = map view_terms c.in_ok-kids-in-Over.kids in
    let kids = c.in_ok-kids-in-Over.ensures
    ∙ ap (λ ks. kids_terms reading c.args.names.now c.args.next (trees_of (view_trees ks))) c.as_slice-in-Over.ensures in
    let made = c.in_ok-made-in-Over.ensures
    ∙ ap (λ ks. parts.made_over reading c.in-Over.over (out-Tree c.args.tree.now).head (heads_of (trees_of (view_trees ks))) values) c.as_slice-in-Over-2.ensures in
    over_is reading c.args.names.now c.args.next c.part_of.result c.in-Over.over c.args.tree.now values _ c.part_of.ensures c.in-Over.is kids made

pub encode_all-loop-kid-preserved : goal.encode_all-loop-kid-preserved
encode_all-loop-kid-preserved t c =
    kids_turn (view_reading c.args.reading) c.args.names.now c.args.kids.now c.loop-kid.made _ c.loop-kid.kid-index c.loop-kid.first c.in_ok-first.first
    c.kid-item.result c.in_ok-encode.field-0 _ c.loop-kid-test.true c.kid-item.is c.in_ok-encode.ensures c.in_ok-push.ensures.ok c.in_ok-first.ensures
    c.loop-kid.invariant

pub encode_at-returns-then-left-eq0 : goal.encode_at-returns-then-left-eq0
encode_at-returns-then-left-eq0 t c =
    place_found (view_reading c.args.reading) c.args.names.now c.args.kids.now c.loop-kid.kid-index c.loop-kid.first c.loop-kid.left c.kid-item.result _ _
    c.loop-kid-test.true c.kid-item.is c.if-left-eq0.true c.in_ok-made.ensures c.loop-kid.invariant

pub encode_at-loop-kid-preserved : goal.encode_at-loop-kid-preserved
encode_at-loop-kid-preserved t c =
    place_turn (view_reading c.args.reading) c.args.names.now c.args.kids.now c.loop-kid.kid-index c.loop-kid.first c.in_ok-first.first c.loop-kid.left
    c.kid-item.result _ c.loop-kid-test.true c.kid-item.is c.if-left-eq0.false c.in_ok-first.ensures c.loop-kid.invariant

pub encode_let-returns : goal.encode_let-returns
encode_let-returns t c =
    let_made (view_reading c.args.reading) c.args.names.now c.args.next c.args.kids.now c.in_ok-value.value _ c.in_ok-value.ensures c.in_ok-made.ensures

pub encode_bound-returns : goal.encode_bound-returns
encode_bound-returns t c =
    let next : c.in-Some.inside ≡ c.args.next + 1 = omega (arith, c.in-Some.ensures) in
    bound_made (view_reading c.args.reading) c.args.names.now c.args.next c.args.kids.now c.args.is_every c.args.range c.in-Some.inside
    (view_terms c.in_ok-bound.bound) (view_terms c.in_ok-body.body) _ (option_map view_ends c.in_ok-ends.ends) next c.in_ok-bound.ensures
    c.in_ok-body.ensures c.in_ok-ends.ensures c.in_ok-made.ensures
