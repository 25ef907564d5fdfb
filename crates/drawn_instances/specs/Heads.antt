-- What rows ask of a node: which head it has, and how many kids.
use Rattle.std.specs.Prelude.{Bool, true, false}
use Rattle.qed_terms.specs.declared.head.Head.{Head}
use Rattle.qed_terms.specs.declared.head.Head.TheVariants as h
use Rattle.qed_terms.specs.declared.head.TermOp.{TermOp}
use Rattle.qed_terms.specs.declared.head.TermOp.TheVariants as op
use Rattle.qed_terms.specs.declared.head.FormOp.{FormOp}
use Rattle.qed_terms.specs.declared.head.FormOp.TheVariants as form
use Rattle.qed_terms.specs.Tree.{Tree, Trees, stop, more, head_of}
use Rattle.drawn_instances.specs.declared.nodes.Seen.{Seen}
use Rattle.drawn_instances.specs.declared.nodes.Seen.TheVariants as seen

abbrev pub seen_term : TermOp → Seen
seen_term op.Load = seen.Load
seen_term op.Store = seen.Store
seen_term op.Len = seen.Length
seen_term (op.Wrap k) = seen.Wrap k
seen_term op.Div = seen.Div
seen_term op.Mod = seen.Mod
seen_term op.ShiftRight = seen.ShiftRight
seen_term op.BitAnd = seen.BitAnd
seen_term o = seen.Other

abbrev pub seen_form : FormOp → Seen
seen_form form.Equal = seen.Equal
seen_form (form.Read k) = seen.Read k
seen_form (form.Write k) = seen.Write k
seen_form form.Live = seen.Live
seen_form o = seen.Other

abbrev pub seen_head : Head → Seen
seen_head (h.Term o) = seen_term o
seen_head (h.Form o) = seen_form o
seen_head h.Not = seen.Not
seen_head h.Ite = seen.Ite
seen_head head = seen.Other

unfoldable pub seen_at : Tree → Seen
seen_at t = seen_head (head_of t)

abbrev pub is_one : Trees → Bool
is_one (more t stop) = true
is_one ts = false

abbrev pub is_two : Trees → Bool
is_two (more t (more u stop)) = true
is_two ts = false

abbrev pub is_three : Trees → Bool
is_three (more t (more u (more v stop))) = true
is_three ts = false

abbrev pub is_four : Trees → Bool
is_four (more t (more u (more v (more w stop)))) = true
is_four ts = false
