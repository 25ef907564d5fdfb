use Rattle.std.proofs.Common.{◌≡◌, map, drop, pos}
use Rattle.qed_terms.specs.Tree.{num}
use Rattle.qed_terms.specs.View.{term_tree}
use Rattle.walk_steps.specs.State.{restore}
use Rattle.walk_words.proofs.ends.put_back.Given as goal

abbrev pub invariant-loop-place : goal.invariant-loop-place
invariant-loop-place l =
    restore (num (pos 0)) (drop l.place-index l.places) (map term_tree l.before) (map term_tree l.slots.items) ≡ restore (num (pos 0)) l.places (map term_tree l.before) (map term_tree l.initial.slots.items)
