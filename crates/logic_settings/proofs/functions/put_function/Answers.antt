use Rattle.std.proofs.Common.{◌≡◌, ◌++◌, ◌∷◌, [], List, ap, ◌∙◌, subst, rules, FitsSigned}
use Rattle.std.specs.Int.{w128}
use Rattle.std.proofs.lemmas.Int.{to_z-of_z}
use Rattle.std.specs.Prelude.{Option, Some, option_map}
use Rattle.std.proofs.lemmas.Bool.{and_parts}
use Rattle.acsl_trees.specs.Tree.{view_tree}
use Rattle.c_runs.specs.Truth.{kid}
use Rattle.program_trees.specs.View.{view_facts}
use Rattle.plain_annotations.specs.Settings.{shared}
use Rattle.qed_terms.specs.Setting.{Logic}
use Rattle.qed_terms.specs.View.{view_logic}
use Rattle.acsl_encode.specs.Encode.{on_two}
use Rattle.acsl_encode.specs.Setting.{body_term, function_of, with_called}
use Rattle.annotation_words.specs.View.{called_in, view_called}
use Rattle.annotation_words.specs.declared.readings.Called.{Called}
use Rattle.logic_order.specs.Simple.{is_simple}
use Rattle.logic_order.proofs.Ordered.{passes}
use Rattle.logic_settings.specs.Growing.{Grows}
use Rattle.logic_settings.proofs.Growing_more.{known_more}
use Rattle.logic_settings.proofs.functions.put_function.Goals as goal

pub part_term-requires-clause-simple : goal.part_term-requires-clause-simple
part_term-requires-clause-simple c =
    let t = view_tree c.args.body.now in
    (and_parts (is_simple (kid t 1)) (is_simple (kid t 2)) (passes (view_facts c.args.facts.now) c.args.number (view_called c.args.called) t c.requires.fits).simple).0

pub step_term-requires-clause-simple : goal.step_term-requires-clause-simple
step_term-requires-clause-simple c =
    let t = view_tree c.args.body.now in
    (and_parts (is_simple (kid t 1)) (is_simple (kid t 2)) (passes (view_facts c.args.facts.now) c.args.number (view_called c.args.called) t c.requires.fits).simple).1

pub returns : goal.returns
returns c =
    let r = shared (view_facts c.args.facts.now) in
    let own = view_called c.args.called in
    let t = view_tree c.args.body.now in
    let known = c.args.known.now.items in
    let more : called_in (known ++ Some c.args.called ∷ []) ≡ with_called c.args.number (Some own) (called_in known) =
    λ i f. (known_more known (Some c.args.called) f ∙ ap (λ n. with_called n (Some own) (called_in known) f) c.requires.next) i in
    let base = c.in_ok-base.ensures ∙ ap (λ ks. body_term r (called_in ks) own (kid t 1)) c.as_slice.ensures.value in
    let step = c.in_ok-step.ensures.1 ∙ ap (λ k. body_term r k own (kid t 2)) more in
    let fits : FitsSigned w128 c.test_number.result = search rules in
    let cut = to_z-of_z w128 c.test_number.result fits ∙ c.test_number.ensures in
    let made = c.in_ok-made.ensures ∙ (λ i. on_two (function_of own (cut i)) (base i) (step i)) in
    let P : Option Logic → List (Option Called) → Type 0 =
    λ o ks. Grows c.args.number own o ks c.put_made.new.known.items c.args.logic.now.items c.put_made.new.logic.items in
    subst (λ o. P o known) made (subst (λ ks. P (option_map view_logic c.in_ok-made.made) ks) c.in_ok-step.ensures.0 (c.in_ok-put_made.ensures c.args.number))
