use Rattle.std.proofs.Common.{◌≡◌, true, map, take}
use Rattle.qed_terms.specs.Store.{KeepsOlder}
use Rattle.qed_linear.specs.Linear.{parts_fit, part_tree}
use Rattle.equality_variables.specs.Forms.{AreTerms}
use Rattle.equality_variables.proofs.Parts.{all_signed}
use Rattle.equality_variables.proofs.rests.part_terms.Given as goal

abbrev pub invariant-loop-i : goal.invariant-loop-i
invariant-loop-i g l =
    let tree = g.S.TermStore.tree in
    let held = g.S.TermStore.held in
    let s = l.initial.store in
    let done = all_signed (tree s) l.plus (take l.i l.parts) in
    record {
      older : KeepsOlder (held s) (held l.store) (tree s) (tree l.store);
      fit : parts_fit done ≡ true;
      terms : AreTerms (held l.store) (tree l.store) l.terms.items;
      trees : map (tree l.store) l.terms.items ≡ map part_tree done;
    }
