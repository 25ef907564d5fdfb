use Rattle.std.proofs.Common.{length, map, refl}
use Rattle.linear_chains.specs.View.{link_of}
use Rattle.same_places.specs.Same.{at}
use Rattle.term_forms.specs.Forms.{tree_of}
use Rattle.linear_prover.proofs.Gathering.{among_at, gathered_next, gathered_end}
use Rattle.linear_prover.proofs.links.all_links.Goals as goal

pub loop-i-preserved : goal.loop-i-preserved
loop-i-preserved c = λ tells least.
    let tree = tree_of c.args.table.now in
    let ks = c.args.literals.now in
    let i = c.loop-i.i in
    let new = c.in_ok-links.ensures (map tree ks) tells least (among_at tree ks i c.loop-i-test.true) in
    gathered_next (map tree ks) (length c.args.classes.now) tree (at c.args.classes.now) ks i (map link_of c.loop-i.all.links.items) (map link_of c.in_ok-links.links.items) (map link_of c.put_links.new.all.links.items) c.loop-i.all.literals.items c.put_links.new.all.literals.items c.loop-i-test.true (c.loop-i.invariant tells least) new c.in_ok-put_links.ensures.links c.in_ok-put_links.ensures.literals

pub returns : goal.returns
returns c = λ tells least.
    let tree = tree_of c.args.table.now in
    let ks = c.args.literals.now in
    gathered_end (map tree ks) (length c.args.classes.now) tree (at c.args.classes.now) ks c.loop-i.i (map link_of c.loop-i.all.links.items) c.loop-i.all.literals.items c.loop-i-test.false (c.loop-i.invariant tells least) refl
