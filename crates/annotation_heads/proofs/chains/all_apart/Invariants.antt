use Rattle.std.proofs.Common.{◌≡◌, map, drop}
use Rattle.std.specs.Prelude.{Some}
use Rattle.qed_terms.specs.View.{formula_tree}
use Rattle.acsl_encode.specs.Encode.{put, pairs_apart}
use Rattle.annotation_heads.specs.View.{view_terms}
use Rattle.annotation_heads.proofs.chains.all_apart.Given as goal

-- the parts so far and those to come
abbrev pub invariant-loop-place : goal.invariant-loop-place
invariant-loop-place l =
    put (Some (map formula_tree l.parts)) (pairs_apart (drop l.place (map view_terms l.regions))) ≡ pairs_apart (map view_terms l.regions)
