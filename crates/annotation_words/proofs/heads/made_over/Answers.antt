use Rattle.std.proofs.Common.{◌≡◌, map, sym, subst, IfOk}
use Rattle.acsl_trees.specs.Tree.{trees_of, view_trees}
use Rattle.c_runs.specs.Truth.{heads_of}
use Rattle.acsl_encode.specs.Readings.{Terms}
use Rattle.acsl_encode.specs.Encode.{content_cells, region_of}
use Rattle.annotation_heads.specs.View.{view_terms}
use Rattle.annotation_words.specs.declared.parts.Over.{Over}
use Rattle.annotation_words.specs.Parts as parts
use Rattle.annotation_words.specs.View.{view_reading}
use Rattle.annotation_words.proofs.heads.made_over.Goals as goal

pub returns-in-Region : goal.returns-in-Region
returns-in-Region c =
    let reading = view_reading c.args.reading in
    let links = heads_of (trees_of (view_trees c.args.links.now)) in
    let IsOver : Over → Type 0 = λ o. IfOk c.region.result (λ made. view_terms made ≡ parts.made_over reading o c.args.head links (map view_terms c.args.kids)) in
    let IsRegion : Terms → Type 0 = λ x. IfOk c.region.result (λ made. view_terms made ≡ region_of (content_cells reading.common c.in-Region.content) x) in
    subst IsOver (sym c.in-Region.is) (subst IsRegion c.first_kid.ensures (c.region.ensures c.args.reading.binders.now))
