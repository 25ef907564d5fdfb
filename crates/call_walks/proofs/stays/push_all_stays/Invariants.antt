use Rattle.std.proofs.Common.{◌≡◌, ◌++◌, false, map, drop}
use Rattle.c_runs.specs.Program.{Behavior}
use Rattle.program_trees.specs.View.{view_behavior, view_contract, view_facts}
use Rattle.qed_terms.specs.View.{formula_tree, term_tree}
use Rattle.call_words.specs.Sets.{may_differ}
use Rattle.walk_frames.specs.Labelled.{assumed_in}
use Rattle.call_walks.specs.Claimed.{joined, stays_in}
use Rattle.call_walks.proofs.stays.push_all_stays.Given as goal

abbrev pub invariant-loop-behavior : goal.invariant-loop-behavior
invariant-loop-behavior g l =
    map formula_tree l.made ++ joined (λ (b : Behavior). stays_in (map term_tree l.now) (map term_tree l.before) (may_differ (view_contract l.contract)) (assumed_in (view_facts l.facts) (g.T.Texts.text l.texts) l.entered b.assumes) b.assigns 0 (view_facts l.facts).globals) (map view_behavior (drop l.behavior-index l.behaviors))
    ≡ map formula_tree l.initial.made ++ joined (λ (b : Behavior). stays_in (map term_tree l.now) (map term_tree l.before) (may_differ (view_contract l.contract)) (assumed_in (view_facts l.facts) (g.T.Texts.text l.texts) l.entered b.assumes) b.assigns 0 (view_facts l.facts).globals) (map view_behavior l.behaviors)
