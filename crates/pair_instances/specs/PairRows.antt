-- The rows at two nodes, by name.
use Rattle.std.specs.Prelude.{ℕ, Bool, true, false}
use Rattle.qed_terms.specs.declared.head.Head.{Head}
use Rattle.qed_terms.specs.declared.head.Head.TheVariants as h
use Rattle.qed_terms.specs.declared.head.FormOp.TheVariants as form
use Rattle.qed_terms.specs.Tree.{Tree, head_of, kids_in}
use Rattle.instance_rows.specs.Rows.{Row}
use Rattle.instance_rows.specs.PairRows as pairs
use Rattle.instance_rows.specs.PairRows.{frame_of_load, range_of_load, answer_of_layout}
use Rattle.pair_instances.specs.declared.pairs.PairRow.{PairRow}
use Rattle.pair_instances.specs.declared.pairs.PairRow.TheVariants as r

abbrev pub pair_row : (long_bits : ℕ) → PairRow → pairs.PairRow
pair_row bits r.FrameOfLoad = frame_of_load
pair_row bits r.RangeOfLoad = range_of_load bits
pair_row bits r.AnswerOfLayout = answer_of_layout

-- the row that is left behind a first node
abbrev pub row_after : pairs.PairRow → Tree → Row
row_after row t = row (head_of t) (kids_in t)

-- a first node with this head has formulas by the row
abbrev pub begins : PairRow → Head → Bool
begins r.FrameOfLoad (h.Form (form.Frame shapes)) = true
begins r.RangeOfLoad (h.Form (form.WellFormed k)) = true
begins r.AnswerOfLayout (h.Form (form.Has l)) = true
begins row head = false
