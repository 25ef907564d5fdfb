-- Which head a word names.
use Rattle.std.specs.Prelude.{ℕ, List, [], ◌∷◌, codes, Option, Some, None, if◌then◌else◌}
use Rattle.std.specs.Str.{bytes_eq}
use Rattle.qed_terms.specs.declared.head.Sort.{Sort}
use Rattle.qed_terms.specs.declared.head.Sort.TheVariants as sort
use Rattle.qed_terms.specs.declared.head.Shape.{Shape}
use Rattle.qed_terms.specs.declared.head.Shape.TheVariants as shape
use Rattle.goal_text.specs.declared.words.TermWord.{TermWord}
use Rattle.goal_text.specs.declared.words.TermWord.TheVariants as t
use Rattle.goal_text.specs.declared.words.FormWord.{FormWord}
use Rattle.goal_text.specs.declared.words.FormWord.TheVariants as f

unfoldable pub term_words : List (List ℕ × TermWord)
term_words =
    (codes "+", t.Add) ∷ (codes "-", t.Sub) ∷ (codes "*", t.Mul) ∷ (codes "neg", t.Neg) ∷ (codes "div", t.Div) ∷ (codes "mod", t.Mod)
    ∷ (codes "wrap", t.Wrap) ∷ (codes "shl", t.ShiftLeft) ∷ (codes "shr", t.ShiftRight) ∷ (codes "band", t.BitAnd) ∷ (codes "bor", t.BitOr)
    ∷ (codes "bxor", t.BitXor) ∷ (codes "bnot", t.BitNot) ∷ (codes "ite", t.Ite) ∷ (codes "load", t.Load) ∷ (codes "count", t.Count)
    ∷ (codes "len", t.Len) ∷ (codes "app", t.App) ∷ (codes "store", t.Store) ∷ (codes "alloc", t.Alloc) ∷ (codes "grow", t.Grow) ∷ []

unfoldable pub form_words : List (List ℕ × FormWord)
form_words =
    (codes "=", f.Equal) ∷ (codes "<=", f.AtMost) ∷ (codes "<", f.Less) ∷ (codes "same", f.Same) ∷ (codes "not", f.Not) ∷ (codes "and", f.And)
    ∷ (codes "or", f.Or) ∷ (codes "imp", f.Imp) ∷ (codes "iff", f.Iff) ∷ (codes "forall", f.Forall) ∷ (codes "exists", f.Exists)
    ∷ (codes "read", f.Read) ∷ (codes "write", f.Write) ∷ (codes "live", f.Live) ∷ (codes "has", f.Has) ∷ (codes "wf", f.WellFormed)
    ∷ (codes "frame", f.Frame) ∷ []

-- the sort of what a head of terms makes
abbrev pub sort_of : TermWord → Sort
sort_of t.Store = sort.Memory
sort_of t.Alloc = sort.Table
sort_of t.Grow = sort.Table
sort_of w = sort.Int

abbrev pub shape_of : List ℕ → Option Shape
shape_of word = if bytes_eq word (codes "cells") then Some shape.Cells else (if bytes_eq word (codes "new") then Some shape.New else None)
