-- What the rows at a cell that may be written or read give, by what is seen.
use Rattle.std.proofs.Common.{◌≡◌, false, List, [], ◌∷◌, refl, sym, ◌∙◌, subst}
use Rattle.wp_base.specs.declared.kinds.CellKind.{CellKind}
use Rattle.qed_terms.specs.declared.head.Head.{Head}
use Rattle.qed_terms.specs.declared.head.Head.TheVariants as h
use Rattle.qed_terms.specs.declared.head.FormOp.TheVariants as form
use Rattle.qed_terms.specs.Tree.{Tree, node, Trees, stop, more, kids_in, three}
use Rattle.term_sketches.specs.declared.sketch.Sketch.{Sketch}
use Rattle.instance_rows.specs.Rows.{read_of_write, place_of_read}
use Rattle.drawn_instances.specs.declared.nodes.Seen.{Seen}
use Rattle.drawn_instances.specs.declared.nodes.Seen.TheVariants as seen
use Rattle.drawn_instances.specs.Heads.{seen_head, seen_at, is_three}
use Rattle.drawn_instances.specs.Drawn.{AreDrawn, row_at}
use Rattle.drawn_instances.proofs.HeadLaws.{read_there, write_there}
use Rattle.node_instances.proofs.Nodes.{row_there}
use Rattle.node_instances.specs.Formulas.{readable_where_writable, placed_where_readable}

-- ---- a cell that may be written

no_write : (head : Head) (ts : Trees) → ((k : CellKind) → seen_head head ≡ seen.Write k → ⊥) → read_of_write head ts ≡ []
no_write (h.Form (form.Write k)) ts n = absurd (n k refl)
no_write head ts n = refl

write_not_three : (head : Head) (ts : Trees) → is_three ts ≡ false → read_of_write head ts ≡ []
write_not_three (h.Form (form.Write k)) stop e = refl
write_not_three (h.Form (form.Write k)) (more t stop) e = refl
write_not_three (h.Form (form.Write k)) (more t (more u stop)) e = refl
write_not_three (h.Form (form.Write k)) (more t (more u (more v stop))) e = absurd cc
write_not_three (h.Form (form.Write k)) (more t (more u (more v (more w ts)))) e = refl
write_not_three head ts e = refl

pub write_unseen : (t : Tree) (x : Seen) → x ≡ seen_at t → ((k : CellKind) → x ≡ seen.Write k → ⊥) → row_at read_of_write t ≡ []
unfolding row_at seen_at
write_unseen (node head ts) x e n = no_write head ts (λ k f. n k (e ∙ f))

pub write_unfit : (t : Tree) → is_three (kids_in t) ≡ false → row_at read_of_write t ≡ []
unfolding row_at
write_unfit (node head ts) e = write_not_three head ts e

pub write_seen : {Id : Type 0} (held : Id → Type 0) (tree : Id → Tree) (ids : List Id) (sketches : List Sketch) (t a b c : Tree) (x : Seen) (k : CellKind)
    → x ≡ seen_at t → x ≡ seen.Write k → kids_in t ≡ three a b c
    → AreDrawn held tree ids sketches (readable_where_writable k a b c ∷ []) → AreDrawn held tree ids sketches (row_at read_of_write t)
write_seen held tree ids sketches t a b c x k p q l d = subst (AreDrawn held tree ids sketches) (sym (row_there read_of_write t (write_there t x k p q) l)) d

pub ruleset write_laws = (write_unseen, write_unfit, write_seen)

-- ---- a cell that may be read

no_read : (head : Head) (ts : Trees) → ((k : CellKind) → seen_head head ≡ seen.Read k → ⊥) → place_of_read head ts ≡ []
no_read (h.Form (form.Read k)) ts n = absurd (n k refl)
no_read head ts n = refl

read_not_three : (head : Head) (ts : Trees) → is_three ts ≡ false → place_of_read head ts ≡ []
read_not_three (h.Form (form.Read k)) stop e = refl
read_not_three (h.Form (form.Read k)) (more t stop) e = refl
read_not_three (h.Form (form.Read k)) (more t (more u stop)) e = refl
read_not_three (h.Form (form.Read k)) (more t (more u (more v stop))) e = absurd cc
read_not_three (h.Form (form.Read k)) (more t (more u (more v (more w ts)))) e = refl
read_not_three head ts e = refl

pub read_unseen : (t : Tree) (x : Seen) → x ≡ seen_at t → ((k : CellKind) → x ≡ seen.Read k → ⊥) → row_at place_of_read t ≡ []
unfolding row_at seen_at
read_unseen (node head ts) x e n = no_read head ts (λ k f. n k (e ∙ f))

pub read_unfit : (t : Tree) → is_three (kids_in t) ≡ false → row_at place_of_read t ≡ []
unfolding row_at
read_unfit (node head ts) e = read_not_three head ts e

pub read_seen : {Id : Type 0} (held : Id → Type 0) (tree : Id → Tree) (ids : List Id) (sketches : List Sketch) (t a b c : Tree) (x : Seen) (k : CellKind)
    → x ≡ seen_at t → x ≡ seen.Read k → kids_in t ≡ three a b c
    → AreDrawn held tree ids sketches (placed_where_readable k a b c ∷ []) → AreDrawn held tree ids sketches (row_at place_of_read t)
read_seen held tree ids sketches t a b c x k p q l d = subst (AreDrawn held tree ids sketches) (sym (row_there place_of_read t (read_there t x k p q) l)) d

pub ruleset read_laws = (read_unseen, read_unfit, read_seen)
