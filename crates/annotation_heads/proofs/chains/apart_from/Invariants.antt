use Rattle.std.proofs.Common.{◌≡◌, ◌+◌, map, drop}
use Rattle.std.specs.Prelude.{Some}
use Rattle.qed_terms.specs.View.{formula_tree}
use Rattle.acsl_encode.specs.Encode.{put, apart_all, terms_at}
use Rattle.annotation_heads.specs.View.{view_terms}
use Rattle.annotation_heads.proofs.chains.apart_from.Given as goal

-- the parts so far and those to come
abbrev pub invariant-loop-other : goal.invariant-loop-other
invariant-loop-other l =
    let cells = map view_terms l.regions in
    put (Some (map formula_tree l.parts)) (apart_all (terms_at cells l.place) (drop l.other cells))
    ≡ put (Some (map formula_tree l.initial.parts)) (apart_all (terms_at cells l.place) (drop (l.place + 1) cells))
