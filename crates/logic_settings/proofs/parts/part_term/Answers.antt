use Rattle.std.proofs.Common.{map, sym, ap, ◌∙◌}
use Rattle.std.specs.Prelude.{Some}
use Rattle.acsl_trees.specs.Tree.{view_tree}
use Rattle.c_runs.specs.Truth.{kid}
use Rattle.program_trees.specs.View.{view_facts}
use Rattle.plain_annotations.specs.Settings.{shared}
use Rattle.acsl_encode.specs.Encode.{as_integer}
use Rattle.acsl_encode.specs.Setting.{body_term, names_of}
use Rattle.annotation_words.specs.View.{called_in, view_called, view_global, view_named}
use Rattle.logic_bodies.specs.Bodies.{reading_with, body_terms}
use Rattle.logic_bodies.proofs.Encoded.{bodies_are_encoded}
use Rattle.logic_settings.proofs.Forming.{kid_there, kid_nowhere}
use Rattle.logic_settings.proofs.parts.part_term.Goals as goal

pub returns-then-at-kids : goal.returns-then-at-kids
returns-then-at-kids c =
    let p = view_facts c.args.facts.now in
    let none = kid_nowhere c.args.body.now c.as_slice-kids.result.now c.args.at c.as_slice-kids.ensures c.if-at-kids.true in
    ap Some c.number.ensures ∙ ap (body_term (shared p) (called_in c.args.known.now) (view_called c.args.called.now)) none

pub returns : goal.returns
returns c =
    let p = view_facts c.args.facts.now in
    let known = called_in c.args.known.now in
    let own = view_called c.args.called.now in
    let there =
    kid_there c.args.body.now c.as_slice-kids.result.now c.args.at c.index-kids-at.result c.as_slice-kids.ensures c.if-at-kids.false c.index-kids-at.is in
    c.in_ok-term.ensures
    ∙ (λ i. as_integer (body_terms (reading_with (shared p) known (map view_global (c.as_slice-2.ensures i))) (names_of (map view_named (c.as_slice.ensures i)))
    (view_tree c.index-kids-at.result)))
    ∙ ap (λ t. as_integer (body_terms (reading_with (shared p) known own.globals) (names_of own.params) t)) there
    ∙ sym (bodies_are_encoded p known own (kid (view_tree c.args.body.now) c.args.at) c.requires.none c.requires.simple)
