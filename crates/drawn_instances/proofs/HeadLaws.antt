-- The head that is seen.
use Rattle.std.proofs.Common.{◌≡◌, refl, sym, ◌∙◌, subst}
use Rattle.wp_base.specs.declared.kinds.Kind.{Kind}
use Rattle.wp_base.specs.declared.kinds.CellKind.{CellKind}
use Rattle.qed_terms.specs.declared.head.Head.{Head}
use Rattle.qed_terms.specs.declared.head.Head.TheVariants as h
use Rattle.qed_terms.specs.declared.head.TermOp.{TermOp}
use Rattle.qed_terms.specs.declared.head.TermOp.TheVariants as op
use Rattle.qed_terms.specs.declared.head.FormOp.{FormOp}
use Rattle.qed_terms.specs.declared.head.FormOp.TheVariants as form
use Rattle.qed_terms.specs.Tree.{Tree, head_of}
use Rattle.drawn_instances.specs.declared.nodes.Seen.{Seen}
use Rattle.drawn_instances.specs.declared.nodes.Seen.TheVariants as seen
use Rattle.drawn_instances.specs.Heads.{seen_term, seen_form, seen_head, seen_at}

-- which head it is that is seen so
abbrev IsSeen : Seen → Head → Type 0
IsSeen seen.Not head = head ≡ h.Not
IsSeen seen.Ite head = head ≡ h.Ite
IsSeen seen.Equal head = head ≡ h.Form form.Equal
IsSeen (seen.Read k) head = head ≡ h.Form (form.Read k)
IsSeen (seen.Write k) head = head ≡ h.Form (form.Write k)
IsSeen seen.Live head = head ≡ h.Form form.Live
IsSeen seen.Length head = head ≡ h.Term op.Len
IsSeen seen.Load head = head ≡ h.Term op.Load
IsSeen seen.Store head = head ≡ h.Term op.Store
IsSeen (seen.Wrap k) head = head ≡ h.Term (op.Wrap k)
IsSeen seen.Div head = head ≡ h.Term op.Div
IsSeen seen.Mod head = head ≡ h.Term op.Mod
IsSeen seen.ShiftRight head = head ≡ h.Term op.ShiftRight
IsSeen seen.BitAnd head = head ≡ h.Term op.BitAnd
IsSeen seen.Other head = Unit {0}

term_seen : (o : TermOp) → IsSeen (seen_term o) (h.Term o)
term_seen op.Load = refl
term_seen op.Store = refl
term_seen op.Len = refl
term_seen (op.Wrap k) = refl
term_seen op.Div = refl
term_seen op.Mod = refl
term_seen op.ShiftRight = refl
term_seen op.BitAnd = refl
term_seen o = tt

form_seen : (o : FormOp) → IsSeen (seen_form o) (h.Form o)
form_seen form.Equal = refl
form_seen (form.Read k) = refl
form_seen (form.Write k) = refl
form_seen form.Live = refl
form_seen o = tt

head_seen : (head : Head) → IsSeen (seen_head head) head
head_seen (h.Term o) = term_seen o
head_seen (h.Form o) = form_seen o
head_seen h.Not = refl
head_seen h.Ite = refl
head_seen head = tt

is_seen : (t : Tree) (x y : Seen) → x ≡ seen_at t → x ≡ y → IsSeen y (head_of t)
unfolding seen_at
is_seen t x y e f = let P : Seen → Type 0 = λ z. IsSeen z (head_of t) in subst P (sym e ∙ f) (head_seen (head_of t))

-- ---- the head, by what a look says

pub not_there : (t : Tree) (x : Seen) → x ≡ seen_at t → x ≡ seen.Not → head_of t ≡ h.Not
not_there t x e f = is_seen t x seen.Not e f

pub ite_there : (t : Tree) (x : Seen) → x ≡ seen_at t → x ≡ seen.Ite → head_of t ≡ h.Ite
ite_there t x e f = is_seen t x seen.Ite e f

pub equal_there : (t : Tree) (x : Seen) → x ≡ seen_at t → x ≡ seen.Equal → head_of t ≡ h.Form form.Equal
equal_there t x e f = is_seen t x seen.Equal e f

pub read_there : (t : Tree) (x : Seen) (k : CellKind) → x ≡ seen_at t → x ≡ seen.Read k → head_of t ≡ h.Form (form.Read k)
read_there t x k e f = is_seen t x (seen.Read k) e f

pub write_there : (t : Tree) (x : Seen) (k : CellKind) → x ≡ seen_at t → x ≡ seen.Write k → head_of t ≡ h.Form (form.Write k)
write_there t x k e f = is_seen t x (seen.Write k) e f

pub live_there : (t : Tree) (x : Seen) → x ≡ seen_at t → x ≡ seen.Live → head_of t ≡ h.Form form.Live
live_there t x e f = is_seen t x seen.Live e f

pub length_there : (t : Tree) (x : Seen) → x ≡ seen_at t → x ≡ seen.Length → head_of t ≡ h.Term op.Len
length_there t x e f = is_seen t x seen.Length e f

pub load_there : (t : Tree) (x : Seen) → x ≡ seen_at t → x ≡ seen.Load → head_of t ≡ h.Term op.Load
load_there t x e f = is_seen t x seen.Load e f

pub store_there : (t : Tree) (x : Seen) → x ≡ seen_at t → x ≡ seen.Store → head_of t ≡ h.Term op.Store
store_there t x e f = is_seen t x seen.Store e f

pub wrap_there : (t : Tree) (x : Seen) (k : Kind) → x ≡ seen_at t → x ≡ seen.Wrap k → head_of t ≡ h.Term (op.Wrap k)
wrap_there t x k e f = is_seen t x (seen.Wrap k) e f

pub div_there : (t : Tree) (x : Seen) → x ≡ seen_at t → x ≡ seen.Div → head_of t ≡ h.Term op.Div
div_there t x e f = is_seen t x seen.Div e f

pub mod_there : (t : Tree) (x : Seen) → x ≡ seen_at t → x ≡ seen.Mod → head_of t ≡ h.Term op.Mod
mod_there t x e f = is_seen t x seen.Mod e f

pub shift_there : (t : Tree) (x : Seen) → x ≡ seen_at t → x ≡ seen.ShiftRight → head_of t ≡ h.Term op.ShiftRight
shift_there t x e f = is_seen t x seen.ShiftRight e f

pub bits_there : (t : Tree) (x : Seen) → x ≡ seen_at t → x ≡ seen.BitAnd → head_of t ≡ h.Term op.BitAnd
bits_there t x e f = is_seen t x seen.BitAnd e f
