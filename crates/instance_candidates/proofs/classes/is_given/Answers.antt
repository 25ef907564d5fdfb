use Rattle.std.proofs.Common.{rules, ◌≡◌, true}
use Rattle.tree_places.specs.View.{nodes_of}
use Rattle.congruence.proofs.SameClass.{stay_closed}
use Rattle.branch_accesses.specs.Ids.{load_of}
use Rattle.instance_candidates.proofs.GivenLaws.{same_blocks}
use Rattle.instance_candidates.proofs.classes.is_given.Goals as goal

pub returns-clause-given : goal.returns-clause-given
returns-clause-given g c = λ ls is.
    let tree = g.S.TermStore.tree c.args.store.now in
    let told : c.in_ok-same.field-0 ≡ true = search rules in
    let still = stay_closed ls (nodes_of c.args.table.now) (nodes_of c.same.new.table) c.args.closed.now.marks.items c.args.closed.now.classes.items c.in_ok-same.ensures.grows is in
    same_blocks ls (load_of tree c.args.meeting.first) (load_of tree c.args.meeting.second) c.in_ok-same.field-0 c.in_ok-offsets.offsets (c.in_ok-same.ensures.same ls is) told (c.in_ok-offsets.ensures.same ls still)
