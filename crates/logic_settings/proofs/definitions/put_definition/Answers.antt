use Rattle.std.proofs.Common.{◌≡◌, false, true, subst, rules}
use Rattle.std.specs.Prelude.{Option, Some, None}
use Rattle.acsl_trees.specs.Tree.{view_tree}
use Rattle.program_trees.specs.View.{view_facts}
use Rattle.qed_terms.specs.Setting.{Logic}
use Rattle.acsl_encode.specs.Readings as readings
use Rattle.annotation_words.specs.View.{called_in, view_called}
use Rattle.logic_calls.specs.View.{IsTold, view_names}
use Rattle.logic_order.specs.Order.{told_as}
use Rattle.logic_settings.specs.Growing.{Grows}
use Rattle.logic_settings.proofs.Ordering_all.{definition_is, function_fits, made_by, made_none, made_some, untold}
use Rattle.logic_settings.proofs.definitions.put_definition.Goals as goal

pub returns-then-not-meant : goal.returns-then-not-meant
returns-then-not-meant c =
    let p = view_facts c.args.facts.now in
    let names = view_names c.args.names.now in
    let n = c.args.number in
    let plain : c.index-as_slice-number.result.is_recursive ≡ false = search rules in
    let is = definition_is c.args.facts.now.definitions c.as_slice.result.now n c.index-as_slice-number.result c.as_slice.ensures c.requires.inside c.index-as_slice-number.is in
    let known = c.args.known.now.items in
    let P : Option Logic → Type 0 = λ o. Grows n (told_as p names n) o known c.put_none.new.known.items c.args.logic.now.items c.put_none.new.logic.items in
    subst P (made_none p names (called_in known) n c.index-as_slice-number.result is plain) (c.in_ok-put_none.ensures n (told_as p names n))

pub put_function-requires-clause-fits : goal.put_function-requires-clause-fits
put_function-requires-clause-fits c =
    let p = view_facts c.args.facts.now in
    let names = view_names c.args.names.now in
    let n = c.args.number in
    let own : c.index-as_slice-number.result.is_recursive ≡ true = search rules in
    let is = definition_is c.args.facts.now.definitions c.as_slice.result.now n c.index-as_slice-number.result c.as_slice.ensures c.requires.inside c.index-as_slice-number.is in
    let told : IsTold (Some c.in-Some.called) (told_as p names n) = subst (λ o. IsTold o (told_as p names n)) c.in-Some.is c.in_ok-called.ensures in
    function_fits p names n c.index-as_slice-number.result (view_called c.in-Some.called) c.requires.fit is own told

pub unreachable-requires : goal.unreachable-requires
unreachable-requires c =
    let p = view_facts c.args.facts.now in
    let names = view_names c.args.names.now in
    let n = c.args.number in
    let own : c.index-as_slice-number.result.is_recursive ≡ true = search rules in
    let is = definition_is c.args.facts.now.definitions c.as_slice.result.now n c.index-as_slice-number.result c.as_slice.ensures c.requires.inside c.index-as_slice-number.is in
    let told : IsTold None (told_as p names n) = subst (λ o. IsTold o (told_as p names n)) c.in-None.is c.in_ok-called.ensures in
    untold p names n c.index-as_slice-number.result c.requires.fit is own told

pub returns : goal.returns
returns c =
    let p = view_facts c.args.facts.now in
    let names = view_names c.args.names.now in
    let n = c.args.number in
    let own : c.index-as_slice-number.result.is_recursive ≡ true = search rules in
    let is = definition_is c.args.facts.now.definitions c.as_slice.result.now n c.index-as_slice-number.result c.as_slice.ensures c.requires.inside c.index-as_slice-number.is in
    let told : IsTold (Some c.in-Some.called) (told_as p names n) = subst (λ o. IsTold o (told_as p names n)) c.in-Some.is c.in_ok-called.ensures in
    let known = c.args.known.now.items in
    let P : readings.Called → Option Logic → Type 0 = λ k o. Grows n k o known c.put_function.new.known.items c.args.logic.now.items c.put_function.new.logic.items in
    subst (λ o. P (told_as p names n) o) (made_some p names (called_in known) n c.index-as_slice-number.result (view_called c.in-Some.called) is own told)
    (subst (λ k. P k (made_by p (called_in known) n (view_called c.in-Some.called) (view_tree c.index-as_slice-number.result.body))) told c.in_ok-put_function-in-Some.ensures)
