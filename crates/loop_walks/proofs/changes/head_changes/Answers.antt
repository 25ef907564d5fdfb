use Rattle.std.proofs.Common.{rules, ◌≡◌, ◌++◌, [], ◌∙◌, ap, sym, length, map, true, false}
use Rattle.std.proofs.lemmas.List.{length-map}
use Rattle.checked_trees.specs.View.{view_steps}
use Rattle.core_trees.specs.View.{view_loop, view_variable, view_variables}
use Rattle.walk_frames.specs.View.{facts_in, shape_in}
use Rattle.walk_live.specs.Bits.{bits}
use Rattle.walk_words.specs.View.{view_change}
use Rattle.loop_words.specs.Sets as sets
use Rattle.loop_walks.specs.Parts.{changes_from}
use Rattle.loop_walks.proofs.Changing.{head_is}
use Rattle.loop_walks.proofs.changes.head_changes.Goals as goal

pub returns : goal.returns
returns c k d pt h =
    let p = facts_in c.args.frame in
    let l = view_loop c.args.l.now in
    let ss = view_steps c.args.body.now in
    let f = sets.file_changes d pt l in
    let own = sets.local_changes l ss in
    let vs = c.args.frame.variables.now in
    let gs = c.args.frame.facts.now.globals in
    let seen : c.as_slice-variables.result.now ≡ vs = search (rules, c.as_slice-variables.ensures) in
    let file : c.as_slice-2.result.now ≡ gs = search (rules, c.as_slice-2.ensures) in
    let text : c.as_slice.result.now ≡ c.in_ok-text.text.items = search (rules, c.as_slice.ensures.value) in
    let mine : c.as_slice-3.result.now ≡ c.in_ok-own.own.items = search (rules, c.as_slice-3.ensures.value) in
    let none : c.new-made.result.items ≡ [] = search (rules, c.new-made.ensures.items) in
    let count : length c.as_slice-variables.result.now ≡ length (view_variables c.as_slice-variables.result.now) = sym (length-map c.as_slice-variables.result.now view_variable) in
    let bits_own = mine ∙ c.in_ok-own.ensures (length c.as_slice-variables.result.now) ss (text ∙ c.in_ok-text.ensures) ∙ ap (λ n. bits n own) count in
    head_is p (shape_in c.args.frame k) d pt l ss (map view_change c.add_changes.new.made.items) (map view_change c.add_changes-2.new.made.items)
    (c.in_ok-add_changes.ensures f (h ∙ ap (λ xs. bits (length (view_variables xs)) f) (sym file)) ∙ (λ i. map view_change (none i) ++ changes_from p false f 0 (view_variables (file i))))
    (c.in_ok-add_changes-2.ensures own bits_own ∙ ap (λ xs. map view_change c.add_changes.new.made.items ++ changes_from p true own 0 (view_variables xs)) seen)
