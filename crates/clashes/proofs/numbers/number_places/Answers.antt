use Rattle.std.proofs.Common.{◌≡◌, ◌+◌, length, sym, subst, arith}
use Rattle.term_forms.specs.Forms.{tree_of}
use Rattle.clashes.specs.Seen.{AreNumbers}
use Rattle.clashes.proofs.Seeing.{numbers_put}
use Rattle.clashes.proofs.numbers.number_places.Goals as goal

pub loop-place-preserved : goal.loop-place-preserved
loop-place-preserved c =
    let tree = tree_of c.args.table.now in
    let n = c.loop-place.place in
    subst (AreNumbers tree c.args.marks.now (n + 1)) (sym c.in_ok-put_where.ensures) (numbers_put tree c.args.marks.now n c.loop-place.places.items c.is_number-so.result c.is_number-so.ensures c.loop-place.invariant)

pub returns : goal.returns
returns c =
    let e : c.loop-place.place ≡ length c.args.marks.now = omega arith in
    subst (λ n. AreNumbers (tree_of c.args.table.now) c.args.marks.now n c.loop-place.places.items) e c.loop-place.invariant
