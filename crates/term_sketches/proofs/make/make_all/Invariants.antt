use Rattle.std.proofs.Common.{◌≡◌, All, map}
use Rattle.qed_terms.specs.Store.{KeepsOlder}
use Rattle.term_sketches.proofs.Made.{so_far}
use Rattle.term_sketches.proofs.make.make_all.Given as goal

-- the ids so far stand behind the others, and for the sketches so far
abbrev pub invariant-loop-part : goal.invariant-loop-part
invariant-loop-part g l =
    let tree = g.S.TermStore.tree in
    let held = g.S.TermStore.held in
    record {
      kept : KeepsOlder (held l.initial.store) (held l.store) (tree l.initial.store) (tree l.store);
      made_held : All (held l.store) l.out.items;
      made : so_far (tree l.initial.store) (tree l.store) l.ids l.out.items (map (tree l.initial.store) l.initial.out.items) l.part-index l.parts;
    }
