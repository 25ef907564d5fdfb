-- What a node asks of a block.
use Rattle.std.proofs.Common.{◌≡◌, Bool, true, false, List, [], ◌∷◌, refl, sym, ◌∙◌, ap}
use Rattle.wp_base.specs.declared.kinds.CellKind.{CellKind}
use Rattle.qed_terms.specs.declared.head.Head.{Head}
use Rattle.qed_terms.specs.declared.head.Head.TheVariants as h
use Rattle.qed_terms.specs.declared.head.TermOp.TheVariants as op
use Rattle.qed_terms.specs.declared.head.FormOp.TheVariants as form
use Rattle.qed_terms.specs.Tree.{Tree, node, Trees, stop, more, head_of, kids_in, two, three}
use Rattle.instance_rows.specs.Rows.{at_asked}
use Rattle.drawn_instances.specs.declared.nodes.Seen.{Seen}
use Rattle.drawn_instances.specs.declared.nodes.Seen.TheVariants as seen
use Rattle.drawn_instances.specs.Heads.{seen_head, seen_at, is_two, is_three}
use Rattle.drawn_instances.proofs.HeadLaws.{read_there, write_there, live_there, length_there}
use Rattle.block_instances.specs.declared.questions.Asked.TheVariants as ask
use Rattle.block_instances.specs.declared.questions.Query.{Query}
use Rattle.block_instances.specs.Asking.{IsAsked}

abbrev ByBlock : Type 0
ByBlock = Head → Tree → Tree → Trees → List Tree

whole : (t : Tree) {head : Head} {ts : Trees} → head_of t ≡ head → kids_in t ≡ ts → t ≡ node head ts
whole (node g us) e f = λ i. node (e i) (f i)

-- ---- a cell that may be read

pub read_asked : {Id : Type 0} (held : Id → Type 0) (tree : Id → Tree) (t : Tree) (x : Seen) (k : CellKind) (a b c : Id) → x ≡ seen_at t → x ≡ seen.Read k → held a → held b → held c → kids_in t ≡ three (tree a) (tree b) (tree c)
    → IsAsked held tree t (record { what = ask.Read k; table = a; block = b; offset = c })
read_asked held tree t x k a b c p q ha hb hc l = record {
  table_held = ha;
  block_held = hb;
  offset_held = hc;
  asks = whole t (read_there t x k p q) l;
}

three_read : (row : ByBlock) (k : CellKind) (ts : Trees) → is_three ts ≡ false → at_asked row (h.Form (form.Read k)) ts ≡ []
three_read row k stop e = refl
three_read row k (more t stop) e = refl
three_read row k (more t (more u stop)) e = refl
three_read row k (more t (more u (more v stop))) e = absurd cc
three_read row k (more t (more u (more v (more w ts)))) e = refl

pub read_unasked : (t : Tree) (x : Seen) (k : CellKind) → x ≡ seen_at t → x ≡ seen.Read k → is_three (kids_in t) ≡ false
    → (row : Head → Tree → Tree → Trees → List Tree) → at_asked row (head_of t) (kids_in t) ≡ []
read_unasked t x k p q e row = ap (λ g. at_asked row g (kids_in t)) (read_there t x k p q) ∙ three_read row k (kids_in t) e

-- ---- a cell that may be written

pub write_asked : {Id : Type 0} (held : Id → Type 0) (tree : Id → Tree) (t : Tree) (x : Seen) (k : CellKind) (a b c : Id) → x ≡ seen_at t → x ≡ seen.Write k → held a → held b → held c → kids_in t ≡ three (tree a) (tree b) (tree c)
    → IsAsked held tree t (record { what = ask.Write k; table = a; block = b; offset = c })
write_asked held tree t x k a b c p q ha hb hc l = record {
  table_held = ha;
  block_held = hb;
  offset_held = hc;
  asks = whole t (write_there t x k p q) l;
}

three_write : (row : ByBlock) (k : CellKind) (ts : Trees) → is_three ts ≡ false → at_asked row (h.Form (form.Write k)) ts ≡ []
three_write row k stop e = refl
three_write row k (more t stop) e = refl
three_write row k (more t (more u stop)) e = refl
three_write row k (more t (more u (more v stop))) e = absurd cc
three_write row k (more t (more u (more v (more w ts)))) e = refl

pub write_unasked : (t : Tree) (x : Seen) (k : CellKind) → x ≡ seen_at t → x ≡ seen.Write k → is_three (kids_in t) ≡ false
    → (row : Head → Tree → Tree → Trees → List Tree) → at_asked row (head_of t) (kids_in t) ≡ []
write_unasked t x k p q e row = ap (λ g. at_asked row g (kids_in t)) (write_there t x k p q) ∙ three_write row k (kids_in t) e

-- ---- a live block

pub live_asked : {Id : Type 0} (held : Id → Type 0) (tree : Id → Tree) (t : Tree) (x : Seen) (a b : Id) → x ≡ seen_at t → x ≡ seen.Live → held a → held b → kids_in t ≡ two (tree a) (tree b)
    → IsAsked held tree t (record { what = ask.Live; table = a; block = b; offset = b })
live_asked held tree t x a b p q ha hb l = record {
  table_held = ha;
  block_held = hb;
  offset_held = hb;
  asks = whole t (live_there t x p q) l;
}

two_live : (row : ByBlock) (ts : Trees) → is_two ts ≡ false → at_asked row (h.Form form.Live) ts ≡ []
two_live row stop e = refl
two_live row (more t stop) e = refl
two_live row (more t (more u stop)) e = absurd cc
two_live row (more t (more u (more v ts))) e = refl

pub live_unasked : (t : Tree) (x : Seen) → x ≡ seen_at t → x ≡ seen.Live → is_two (kids_in t) ≡ false
    → (row : Head → Tree → Tree → Trees → List Tree) → at_asked row (head_of t) (kids_in t) ≡ []
live_unasked t x p q e row = ap (λ g. at_asked row g (kids_in t)) (live_there t x p q) ∙ two_live row (kids_in t) e

-- ---- the length of a block

pub length_asked : {Id : Type 0} (held : Id → Type 0) (tree : Id → Tree) (t : Tree) (x : Seen) (a b : Id) → x ≡ seen_at t → x ≡ seen.Length → held a → held b → kids_in t ≡ two (tree a) (tree b)
    → IsAsked held tree t (record { what = ask.Length; table = a; block = b; offset = b })
length_asked held tree t x a b p q ha hb l = record {
  table_held = ha;
  block_held = hb;
  offset_held = hb;
  asks = whole t (length_there t x p q) l;
}

two_length : (row : ByBlock) (ts : Trees) → is_two ts ≡ false → at_asked row (h.Term op.Len) ts ≡ []
two_length row stop e = refl
two_length row (more t stop) e = refl
two_length row (more t (more u stop)) e = absurd cc
two_length row (more t (more u (more v ts))) e = refl

pub length_unasked : (t : Tree) (x : Seen) → x ≡ seen_at t → x ≡ seen.Length → is_two (kids_in t) ≡ false
    → (row : Head → Tree → Tree → Trees → List Tree) → at_asked row (head_of t) (kids_in t) ≡ []
length_unasked t x p q e row = ap (λ g. at_asked row g (kids_in t)) (length_there t x p q) ∙ two_length row (kids_in t) e

-- ---- anything else

none_asked : (row : ByBlock) (head : Head) (ts : Trees) → ((k : CellKind) → seen_head head ≡ seen.Read k → ⊥) → ((k : CellKind) → seen_head head ≡ seen.Write k → ⊥)
    → (seen_head head ≡ seen.Live → ⊥) → (seen_head head ≡ seen.Length → ⊥) → at_asked row head ts ≡ []
none_asked row (h.Form (form.Read k)) ts r w l n = absurd (r k refl)
none_asked row (h.Form (form.Write k)) ts r w l n = absurd (w k refl)
none_asked row (h.Form form.Live) ts r w l n = absurd (l refl)
none_asked row (h.Term op.Len) ts r w l n = absurd (n refl)
none_asked row head ts r w l n = refl

pub nothing_asked : (t : Tree) (x : Seen) → x ≡ seen_at t → ((k : CellKind) → x ≡ seen.Read k → ⊥) → ((k : CellKind) → x ≡ seen.Write k → ⊥)
    → (x ≡ seen.Live → ⊥) → (x ≡ seen.Length → ⊥) → (row : Head → Tree → Tree → Trees → List Tree) → at_asked row (head_of t) (kids_in t) ≡ []
unfolding seen_at
nothing_asked (node head ts) x e r w l n row = none_asked row head ts (λ k p. r k (e ∙ p)) (λ k p. w k (e ∙ p)) (λ p. l (e ∙ p)) (λ p. n (e ∙ p))

pub ruleset asked_laws = (read_asked, write_asked, live_asked, length_asked, read_unasked, write_unasked, live_unasked, length_unasked, nothing_asked)

-- ---- the ids are held

pub table_held : {Id : Type 0} (held : Id → Type 0) (tree : Id → Tree) (t : Tree) (q : Query Id) → IsAsked held tree t q → held q.table
table_held held tree t q a = a.table_held

pub block_held : {Id : Type 0} (held : Id → Type 0) (tree : Id → Tree) (t : Tree) (q : Query Id) → IsAsked held tree t q → held q.block
block_held held tree t q a = a.block_held

pub offset_held : {Id : Type 0} (held : Id → Type 0) (tree : Id → Tree) (t : Tree) (q : Query Id) → IsAsked held tree t q → held q.offset
offset_held held tree t q a = a.offset_held

pub ruleset query_laws = (table_held, block_held, offset_held)
