-- Which numbers a goal in memory holds: those of 128 bits, and 32 bits for the elements of a layout.
use Rattle.std.specs.Prelude.{◌^◌, Bool, true, ◌&&◌, nat_lt, List}
use Rattle.std.specs.List.{list_all}
use Rattle.wp_base.specs.declared.kinds.Layout.{Layout}
use Rattle.qed_terms.specs.declared.head.TermOp.TheVariants as op
use Rattle.qed_terms.specs.declared.head.FormOp.TheVariants as form
use Rattle.qed_terms.specs.declared.head.Head.{Head}
use Rattle.qed_terms.specs.declared.head.Head.TheVariants as h
use Rattle.goal_words.specs.Numbers.{fits_128}
use Rattle.qed_terms.specs.Tree.{Tree, node, Trees, stop, more}

abbrev pub fits_32 : Layout → Bool
fits_32 l = nat_lt l.count (2 ^ 32)

abbrev pub head_held : Head → Bool
head_held (h.Num z) = fits_128 z
head_held (h.Term (op.Alloc l)) = fits_32 l
head_held (h.Form (form.Has l)) = fits_32 l
head_held head = true

abbrev mutual
  pub is_held : Tree → Bool
  is_held (node head kids) = head_held head && all_held kids

  pub all_held : Trees → Bool
  all_held stop = true
  all_held (more t ts) = is_held t && all_held ts

abbrev pub goal_held : (known : List Tree) → (check : Tree) → Bool
goal_held known check = list_all is_held known && is_held check
