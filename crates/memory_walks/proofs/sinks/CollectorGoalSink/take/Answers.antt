use Rattle.std.proofs.Common.{rules, ◌≡◌, ◌++◌, ◌∷◌, [], map, length, ◌∙◌}
use Rattle.qed_terms.specs.View.{formula_tree}
use Rattle.memory_walks.specs.View.{view_place}
use Rattle.memory_walks.specs.declared.sinks.Claimed.{Claimed}
use Rattle.memory_walks.proofs.Pushed.{one_taken}
use Rattle.memory_walks.proofs.sinks.CollectorGoalSink.take.Goals as goal

pub returns : goal.returns
returns c first gs h =
    let old = c.args.self.now.goals.items in
    let kept : Claimed = record { place = c.args.place; known = c.from_vec-known.result; claim = c.in_ok-claim.claim } in
    let items : c.push.new.self.items ≡ old ++ kept ∷ [] = search (rules, c.in_ok-push.ensures.items) in
    let known : c.from_vec-known.result ≡ c.args.known.now = search (rules, c.from_vec-known.ensures, c.in_ok-copy_known.ensures) in
    let claim : c.in_ok-claim.claim ≡ c.args.claim.now = search (rules, c.in_ok-claim.ensures) in
    one_taken old c.push.new.self.items kept gs items h
    ∙ (λ i. gs ++ record { number = length gs; place = view_place c.args.place; known = map formula_tree (known i); claim = formula_tree (claim i) } ∷ [])
