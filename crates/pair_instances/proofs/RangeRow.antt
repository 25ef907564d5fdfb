-- What the row at a well formed memory and a load gives, by what is seen.
use Rattle.std.proofs.Common.{◌≡◌, ℕ, Bool, true, false, List, [], ◌∷◌, refl, sym, ◌∙◌, ap, subst}
use Rattle.std.specs.Prelude.{Option, Some, None, if◌then◌else◌}
use Rattle.wp_base.specs.declared.kinds.Kind.{Kind}
use Rattle.wp_base.specs.declared.kinds.CellKind.{CellKind}
use Rattle.wp_base.specs.declared.kinds.CellKind.TheVariants as cells
use Rattle.qed_terms.specs.declared.head.Head.{Head}
use Rattle.qed_terms.specs.declared.head.Head.TheVariants as h
use Rattle.qed_terms.specs.declared.head.FormOp.TheVariants as form
use Rattle.qed_terms.specs.Order.{same}
use Rattle.qed_terms.specs.Tree.{Tree, Trees, stop, more, two, three, head_of, kids_in}
use Rattle.instance_rows.specs.Accesses.{Load, load_at}
use Rattle.instance_rows.specs.PairRows.{range_of_load}
use Rattle.drawn_instances.specs.Heads.{is_two, is_three}
use Rattle.pair_instances.specs.Facts.{row_of_pair}
use Rattle.pair_instances.specs.Formed.{Formed, formed_with, formed_cell, formed, cell_range}
use Rattle.pair_instances.proofs.FrameLaws.{by_load, at_load}

-- ---- what is said to be well formed

abbrev Cells : Head → Option CellKind → Type 0
Cells g None = Unit {0}
Cells g (Some k) = g ≡ h.Form (form.WellFormed k)

cells_of : (g : Head) → Cells g (formed_cell g)
cells_of (h.Form (form.WellFormed k)) = refl
cells_of g = tt

cell_there : (g : Head) (k : CellKind) → Some k ≡ formed_cell g → g ≡ h.Form (form.WellFormed k)
cell_there g k e = let P : Option CellKind → Type 0 = λ o. Cells g o in subst P (sym e) (cells_of g)

no_cell : (g : Head) (us : Trees) → formed_cell g ≡ None → formed g us ≡ None
no_cell (h.Form (form.WellFormed k)) us e = absurd cc
no_cell g us e = refl

not_two : (k : Kind) (us : Trees) → is_two us ≡ false → formed (h.Form (form.WellFormed (cells.Of k))) us ≡ None
not_two k stop e = refl
not_two k (more t stop) e = refl
not_two k (more t (more m stop)) e = absurd cc
not_two k (more t (more m (more n us))) e = refl

not_three : (us : Trees) → is_three us ≡ false → formed (h.Form (form.WellFormed cells.Ptr)) us ≡ None
not_three stop e = refl
not_three (more t stop) e = refl
not_three (more t (more m stop)) e = refl
not_three (more t (more m (more n stop))) e = absurd cc
not_three (more t (more m (more n (more l us)))) e = refl

pub unformed : (t : Tree) (g : Head) → g ≡ head_of t → None ≡ formed_cell g → None ≡ formed (head_of t) (kids_in t)
unformed t g p e = sym (no_cell (head_of t) (kids_in t) (ap formed_cell (sym p) ∙ sym e))

pub kind_unfit : (t : Tree) (g : Head) (c : CellKind) (k : Kind) → g ≡ head_of t → Some c ≡ formed_cell g → c ≡ cells.Of k → is_two (kids_in t) ≡ false → None ≡ formed (head_of t) (kids_in t)
kind_unfit t g c k p e s n = sym ((λ i. formed ((sym p ∙ cell_there g c e ∙ ap (λ x. h.Form (form.WellFormed x)) s) i) (kids_in t)) ∙ not_two k (kids_in t) n)

pub kind_formed : (t : Tree) (g : Head) (c : CellKind) (k : Kind) (a b : Tree) → g ≡ head_of t → Some c ≡ formed_cell g → c ≡ cells.Of k → kids_in t ≡ two a b → Some (formed_with c a b) ≡ formed (head_of t) (kids_in t)
kind_formed t g c k a b p e s n =
    ap (λ x. Some (formed_with x a b)) s ∙ sym (λ i. formed ((sym p ∙ cell_there g c e ∙ ap (λ x. h.Form (form.WellFormed x)) s) i) (n i))

pub pointer_unfit : (t : Tree) (g : Head) (c : CellKind) → g ≡ head_of t → Some c ≡ formed_cell g → c ≡ cells.Ptr → is_three (kids_in t) ≡ false → None ≡ formed (head_of t) (kids_in t)
pointer_unfit t g c p e s n = sym ((λ i. formed ((sym p ∙ cell_there g c e ∙ ap (λ x. h.Form (form.WellFormed x)) s) i) (kids_in t)) ∙ not_three (kids_in t) n)

pub pointer_formed : (t : Tree) (g : Head) (c : CellKind) (a b d : Tree) → g ≡ head_of t → Some c ≡ formed_cell g → c ≡ cells.Ptr → kids_in t ≡ three a b d → Some (formed_with c a b) ≡ formed (head_of t) (kids_in t)
pointer_formed t g c a b d p e s n =
    ap (λ x. Some (formed_with x a b)) s ∙ sym (λ i. formed ((sym p ∙ cell_there g c e ∙ ap (λ x. h.Form (form.WellFormed x)) s) i) (n i))

pub ruleset formed_laws = (unformed, kind_unfit, kind_formed, pointer_unfit, pointer_formed)

-- ---- the row

abbrev by_formed : (long_bits : ℕ) → Option Formed → Option Load → List Tree
by_formed bits None l = []
by_formed bits (Some w) l = by_load w.memory (cell_range bits w.cell w.table w.memory) l

at_formed : (bits : ℕ) (g : Head) (us : Trees) (u : Tree) → range_of_load bits g us (head_of u) (kids_in u) ≡ by_formed bits (formed g us) (load_at u)
at_formed bits (h.Form (form.WellFormed (cells.Of k))) stop u = refl
at_formed bits (h.Form (form.WellFormed (cells.Of k))) (more t stop) u = refl
at_formed bits (h.Form (form.WellFormed (cells.Of k))) (more t (more m stop)) u = at_load m (cell_range bits (cells.Of k) t m) u
at_formed bits (h.Form (form.WellFormed (cells.Of k))) (more t (more m (more n us))) u = refl
at_formed bits (h.Form (form.WellFormed cells.Ptr)) stop u = refl
at_formed bits (h.Form (form.WellFormed cells.Ptr)) (more t stop) u = refl
at_formed bits (h.Form (form.WellFormed cells.Ptr)) (more t (more m stop)) u = refl
at_formed bits (h.Form (form.WellFormed cells.Ptr)) (more t (more m (more n stop))) u = at_load m (cell_range bits cells.Ptr t m) u
at_formed bits (h.Form (form.WellFormed cells.Ptr)) (more t (more m (more n (more l us)))) u = refl
at_formed bits g us u = refl

row_is : (bits : ℕ) (t u : Tree) → row_of_pair (range_of_load bits) t u ≡ by_formed bits (formed (head_of t) (kids_in t)) (load_at u)
unfolding row_of_pair
row_is bits t u = at_formed bits (head_of t) (kids_in t) u

pub range_unformed : (bits : ℕ) (t u : Tree) → None ≡ formed (head_of t) (kids_in t) → row_of_pair (range_of_load bits) t u ≡ []
range_unformed bits t u e = row_is bits t u ∙ ap (λ w. by_formed bits w (load_at u)) (sym e)

pub range_unloaded : (bits : ℕ) (t u : Tree) → None ≡ load_at u → row_of_pair (range_of_load bits) t u ≡ []
range_unloaded bits t u e = row_is bits t u ∙ ap (by_formed bits (formed (head_of t) (kids_in t))) (sym e) ∙ none (formed (head_of t) (kids_in t))
  where
    none : (w : Option Formed) → by_formed bits w None ≡ []
    none None = refl
    none (Some w) = refl

seen : (bits : ℕ) (t u : Tree) (w : Formed) (l : Load) (r : Bool) → Some w ≡ formed (head_of t) (kids_in t) → Some l ≡ load_at u → r ≡ same w.memory l.memory
    → row_of_pair (range_of_load bits) t u ≡ (if r then cell_range bits w.cell w.table w.memory l.block l.offset ∷ [] else [])
seen bits t u w l r e f s =
    row_is bits t u ∙ (λ i. by_formed bits (sym e i) (sym f i)) ∙ ap (λ c. if c then cell_range bits w.cell w.table w.memory l.block l.offset ∷ [] else []) (sym s)

pub range_other : (bits : ℕ) (t u : Tree) (w : Formed) (l : Load) (r : Bool) → Some w ≡ formed (head_of t) (kids_in t) → Some l ≡ load_at u → r ≡ same w.memory l.memory → r ≡ false → row_of_pair (range_of_load bits) t u ≡ []
range_other bits t u w l r e f s n = seen bits t u w l r e f s ∙ ap (λ c. if c then cell_range bits w.cell w.table w.memory l.block l.offset ∷ [] else []) n

pub range_seen : (bits : ℕ) (t u : Tree) (w : Formed) (l : Load) (r : Bool) → Some w ≡ formed (head_of t) (kids_in t) → Some l ≡ load_at u → r ≡ same w.memory l.memory → r ≡ true
    → row_of_pair (range_of_load bits) t u ≡ cell_range bits w.cell w.table w.memory l.block l.offset ∷ []
range_seen bits t u w l r e f s n = seen bits t u w l r e f s ∙ ap (λ c. if c then cell_range bits w.cell w.table w.memory l.block l.offset ∷ [] else []) n
