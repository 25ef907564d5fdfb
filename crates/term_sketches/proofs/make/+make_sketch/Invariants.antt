use Rattle.std.proofs.Common.{◌≡◌, All, []}
use Rattle.qed_terms.specs.Store.{KeepsOlder}
use Rattle.term_sketches.proofs.Made.{so_far}
use Rattle.term_sketches.proofs.make.+make_sketch.Given as goal

-- the ids so far stand for the parts so far
abbrev pub invariant-loop-part : goal.invariant-loop-part
invariant-loop-part g l =
    let tree = g.S.TermStore.tree in
    let held = g.S.TermStore.held in
    record {
      kept : KeepsOlder (held l.initial.store) (held l.store) (tree l.initial.store) (tree l.store);
      made_held : All (held l.store) l.made.items;
      made : so_far (tree l.initial.store) (tree l.store) l.ids l.made.items [] l.part-index l.parts;
    }
