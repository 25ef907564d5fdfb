use Rattle.std.proofs.Common.{◌≡◌, ◌≤◌, map}
use Rattle.std.specs.Prelude.{Some}
use Rattle.acsl_trees.specs.Tree.{trees_of, view_trees}
use Rattle.c_runs.specs.Truth.{heads_of}
use Rattle.qed_terms.specs.View.{formula_tree}
use Rattle.acsl_encode.specs.Encode.{put, in_chain}
use Rattle.annotation_heads.specs.View.{view_terms}
use Rattle.annotation_heads.proofs.Chained_so.{links_from}
use Rattle.annotation_heads.proofs.chains.all_linked.Given as goal

-- the links so far and those to come are the chain
abbrev pub invariant-loop-at : goal.invariant-loop-at
invariant-loop-at l =
    let heads = heads_of (trees_of (view_trees l.links)) in
    let values = map view_terms l.kids in
    record {
      some : 1 ≤ l.at;
      so_far : put (Some (map formula_tree l.parts)) (links_from heads values l.at) ≡ in_chain heads values;
    }
