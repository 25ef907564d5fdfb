-- What nodes of annotations come to, as plain values.
use Rattle.qed_terms.specs.View.{term_tree, formula_tree}
use Rattle.acsl_encode.specs.Readings as r
use Rattle.acsl_encode.specs.Readings.{at, integer, truth, address, variable, elements, region, nothing}
use Rattle.acsl_encode.specs.Encode as encode
use Rattle.annotation_heads.specs.declared.terms.Pointer.{Pointer}
use Rattle.annotation_heads.specs.declared.terms.Terms.{Terms}
use Rattle.annotation_heads.specs.declared.terms.Terms.TheVariants as terms
use Rattle.annotation_heads.specs.declared.ranges.Ends.{Ends}

abbrev pub view_pointer : Pointer → r.Pointer
view_pointer p = at (term_tree p.block) (term_tree p.offset)

abbrev pub view_terms : Terms → r.Terms
view_terms (terms.Integer k t) = integer k (term_tree t)
view_terms (terms.Truth f) = truth (formula_tree f)
view_terms (terms.Address p) = address (term_tree p.block) (term_tree p.offset)
view_terms (terms.Variable x) = variable x
view_terms (terms.Elements p n low high) = elements (term_tree p.block) (term_tree p.offset) n (term_tree low) (term_tree high)
view_terms (terms.Region cells b low high) = region cells (term_tree b) (term_tree low) (term_tree high)
view_terms terms.Nothing = nothing

-- a range of numbers
abbrev pub view_ends : Ends → encode.Ends
view_ends e = record { low = term_tree e.low; high = term_tree e.high }
