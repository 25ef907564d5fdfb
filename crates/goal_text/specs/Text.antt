-- The text of terms, formulas and goals: a number in decimal, a name as its bytes, and else `(HEAD part ..)` with single spaces.
use Rattle.std.specs.Prelude.{ℕ, List, [], ◌∷◌, ◌++◌, map, take, drop, codes}
use Rattle.std.specs.Fmt.{decimal, signed_decimal}
use Rattle.wp_base.specs.declared.kinds.Layout.{Layout}
use Rattle.qed_terms.specs.declared.head.Shape.{Shape}
use Rattle.qed_terms.specs.declared.head.Shape.TheVariants as shape
use Rattle.qed_terms.specs.declared.head.TermOp.{TermOp}
use Rattle.qed_terms.specs.declared.head.TermOp.TheVariants as op
use Rattle.qed_terms.specs.declared.head.FormOp.{FormOp}
use Rattle.qed_terms.specs.declared.head.FormOp.TheVariants as form
use Rattle.qed_terms.specs.declared.head.Head.{Head}
use Rattle.qed_terms.specs.declared.head.Head.TheVariants as h
use Rattle.qed_terms.specs.Tree.{Tree, node, Trees, stop, more, goal_of}
use Rattle.goal_words.specs.Kinds.{kind_text, cell_text}
use Rattle.goal_words.specs.Numbers.{flag_text}

-- each part behind a space
abbrev pub spaced : List (List ℕ) → List ℕ
spaced [] = []
spaced (part ∷ parts) = 32 ∷ (part ++ spaced parts)

-- `(WORD part ..)`
abbrev pub bracket : List ℕ → List (List ℕ) → List ℕ
bracket word parts = 40 ∷ (word ++ (spaced parts ++ 41 ∷ []))

-- ---- layouts

-- `(lay W N KIND ..)`: whether it may be written, how many elements, and the cells of one
abbrev pub layout_text : Layout → List ℕ
layout_text l = bracket (codes "lay") (flag_text l.writable ∷ decimal l.count ∷ map cell_text l.cells)

-- ---- heads: their word, and what stands between the brackets after it, over the texts of the kids

abbrev pub op_word : TermOp → List ℕ
op_word op.Add = codes "+"
op_word op.Sub = codes "-"
op_word op.Mul = codes "*"
op_word op.Neg = codes "neg"
op_word op.Div = codes "div"
op_word op.Mod = codes "mod"
op_word (op.Wrap k) = codes "wrap"
op_word op.ShiftLeft = codes "shl"
op_word op.ShiftRight = codes "shr"
op_word op.BitAnd = codes "band"
op_word op.BitOr = codes "bor"
op_word op.BitXor = codes "bxor"
op_word op.BitNot = codes "bnot"
op_word op.Load = codes "load"
op_word op.Count = codes "count"
op_word op.Len = codes "len"
op_word op.Store = codes "store"
op_word (op.Alloc l) = codes "alloc"
op_word op.Grow = codes "grow"

abbrev pub op_parts : TermOp → List (List ℕ) → List (List ℕ)
op_parts (op.Wrap k) ts = kind_text k ∷ ts
op_parts (op.Alloc l) ts = ts ++ layout_text l ∷ []
op_parts o ts = ts

abbrev pub form_word : FormOp → List ℕ
form_word form.Equal = codes "="
form_word form.AtMost = codes "<="
form_word form.Less = codes "<"
form_word form.Same = codes "same"
form_word (form.Read k) = codes "read"
form_word (form.Write k) = codes "write"
form_word form.Live = codes "live"
form_word (form.Has l) = codes "has"
form_word (form.WellFormed k) = codes "wf"
form_word (form.Frame shapes) = codes "frame"

abbrev pub shape_word : Shape → List ℕ
shape_word shape.Cells = codes "cells"
shape_word shape.New = codes "new"

abbrev pub shape_width : Shape → ℕ
shape_width shape.Cells = 3
shape_width shape.New = 1

-- the regions, `(cells b lo hi)` and `(new t)`
abbrev pub regions_texts : List Shape → List (List ℕ) → List (List ℕ)
regions_texts [] ts = ts
regions_texts (s ∷ shapes) ts = bracket (shape_word s) (take (shape_width s) ts) ∷ regions_texts shapes (drop (shape_width s) ts)

abbrev pub frame_parts : List Shape → List (List ℕ) → List (List ℕ)
frame_parts shapes ts = take 2 ts ++ regions_texts shapes (drop 2 ts)

abbrev pub form_parts : FormOp → List (List ℕ) → List (List ℕ)
form_parts (form.Read k) ts = cell_text k ∷ ts
form_parts (form.Write k) ts = cell_text k ∷ ts
form_parts (form.Has l) ts = ts ++ layout_text l ∷ []
form_parts (form.WellFormed k) ts = cell_text k ∷ ts
form_parts (form.Frame shapes) ts = frame_parts shapes ts
form_parts o ts = ts

-- the text of a head over the texts of its kids
abbrev pub head_text : Head → List (List ℕ) → List ℕ
head_text (h.Num z) ts = signed_decimal z
head_text (h.Var x s) ts = x
head_text (h.Term o) ts = bracket (op_word o) (op_parts o ts)
head_text h.Ite ts = bracket (codes "ite") ts
head_text (h.App f) ts = bracket (codes "app") (f ∷ ts)
head_text (h.Form o) ts = bracket (form_word o) (form_parts o ts)
head_text h.True ts = codes "true"
head_text h.False ts = codes "false"
head_text h.Not ts = bracket (codes "not") ts
head_text h.And ts = bracket (codes "and") ts
head_text h.Or ts = bracket (codes "or") ts
head_text h.Imp ts = bracket (codes "imp") ts
head_text h.Iff ts = bracket (codes "iff") ts
head_text (h.Forall x) ts = bracket (codes "forall") (x ∷ ts)
head_text (h.Exists x) ts = bracket (codes "exists") (x ∷ ts)

-- ---- trees and goals

abbrev mutual
  pub tree_text : Tree → List ℕ
  tree_text (node head kids) = head_text head (tree_texts kids)

  pub tree_texts : Trees → List (List ℕ)
  tree_texts stop = []
  tree_texts (more t ts) = tree_text t ∷ tree_texts ts

-- `(imp (and K1 .. Kn) C)`
abbrev pub goal_text : (known : List Tree) → (check : Tree) → List ℕ
goal_text known check = tree_text (goal_of known check)
