use Rattle.std.proofs.Common.{◌+◌, length, map, refl, sym, subst, ◌∙◌}
use Rattle.same_places.specs.View.{row_of}
use Rattle.tree_places.specs.Tables.{tree_at}
use Rattle.tree_places.specs.View.{numbers_of}
use Rattle.branch_rows.specs.Marks.{mark_at}
use Rattle.branch_rows.specs.Rows.{AreRows}
use Rattle.branch_rows.proofs.rows.marked_rows.Goals as goal

pub loop-place-preserved : goal.loop-place-preserved
loop-place-preserved c =
    let number = numbers_of c.put_rows.new.table.heads in
    let marked = mark_at c.args.marks.now in
    let rows = map row_of c.put_rows.new.rows.items in
    record {
      kept = c.in_ok-put_rows.ensures.kept;
      nodes = c.in_ok-put_rows.ensures.nodes ∙ c.loop-place.invariant.nodes;
      older = λ g n e. c.in_ok-put_rows.ensures.older g n (c.loop-place.invariant.older g n e);
      rows = subst (λ ns. AreRows (tree_at ns) number (length ns) marked (c.loop-place.place + 1) rows) (sym c.in_ok-put_rows.ensures.nodes) (c.in_ok-put_rows.ensures.rows marked refl c.loop-place.invariant.rows);
    }
