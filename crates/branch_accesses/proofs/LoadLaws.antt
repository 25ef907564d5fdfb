-- The load and the access that a node is, by its head and its kids.
use Rattle.std.proofs.Common.{◌≡◌, Bool, true, false, refl, sym, ◌∙◌, ap}
use Rattle.std.specs.Prelude.{Option, Some, None, option_map, if◌then◌else◌}
use Rattle.wp_base.specs.declared.kinds.CellKind.{CellKind}
use Rattle.qed_terms.specs.declared.head.Head.{Head}
use Rattle.qed_terms.specs.declared.head.Head.TheVariants as h
use Rattle.qed_terms.specs.declared.head.TermOp.TheVariants as op
use Rattle.qed_terms.specs.declared.head.FormOp.TheVariants as form
use Rattle.qed_terms.specs.Tree.{Tree, node, Trees, stop, more, three, head_of, kids_in}
use Rattle.instance_rows.specs.Accesses.{Load, load_at, access_to, access_at}
use Rattle.drawn_instances.specs.Heads.{is_three}
use Rattle.branch_accesses.specs.Heads.{is_load, accessed_kind}

abbrev pub load_with : (memory block offset : Tree) → Load
load_with m b o = record { memory = m; block = b; offset = o }

-- ---- loads

load_over : (head : Head) (m b o : Tree) → load_at (node head (three m b o)) ≡ (if is_load head then Some (load_with m b o) else None)
load_over (h.Term op.Load) m b o = refl
load_over head m b o = refl

no_load : (head : Head) (ts : Trees) → is_three ts ≡ false → load_at (node head ts) ≡ None
no_load (h.Term op.Load) stop e = refl
no_load (h.Term op.Load) (more t stop) e = refl
no_load (h.Term op.Load) (more t (more u stop)) e = refl
no_load (h.Term op.Load) (more t (more u (more v stop))) e = absurd cc
no_load (h.Term op.Load) (more t (more u (more v (more w ts)))) e = refl
no_load head ts e = refl

other_head : (head : Head) (ts : Trees) → is_load head ≡ false → load_at (node head ts) ≡ None
other_head (h.Term op.Load) ts e = absurd cc
other_head head ts e = refl

pub not_load : (t : Tree) (head : Head) (b : Bool) → head ≡ head_of t → b ≡ is_load head → b ≡ false → None ≡ load_at t
not_load (node g ts) head b e s f = sym (other_head g ts (ap is_load (sym e) ∙ sym s ∙ f))

pub load_unfit : (t : Tree) → is_three (kids_in t) ≡ false → None ≡ load_at t
load_unfit (node g ts) e = sym (no_load g ts e)

pub load_there : (t : Tree) (head : Head) (r : Bool) (m b o : Tree) → head ≡ head_of t → r ≡ is_load head → r ≡ true → kids_in t ≡ three m b o → Some (load_with m b o) ≡ load_at t
load_there (node g ts) head r m b o e s p k =
    sym (ap (λ us. load_at (node g us)) k ∙ load_over g m b o ∙ ap (λ c. if c then Some (load_with m b o) else None) (ap is_load (sym e) ∙ sym s ∙ p))

pub ruleset load_laws = (not_load, load_unfit, load_there)

-- ---- accesses

access_over : (head : Head) (m b o : Tree) → access_at (node head (three m b o)) ≡ option_map (access_to b o) (accessed_kind head m)
access_over (h.Term op.Load) m b o = refl
access_over (h.Form (form.Read k)) m b o = refl
access_over (h.Form (form.Write k)) m b o = refl
access_over head m b o = refl

no_access : (head : Head) (ts : Trees) → is_three ts ≡ false → access_at (node head ts) ≡ None
no_access (h.Term op.Load) stop e = refl
no_access (h.Term op.Load) (more t stop) e = refl
no_access (h.Term op.Load) (more t (more u stop)) e = refl
no_access (h.Term op.Load) (more t (more u (more v stop))) e = absurd cc
no_access (h.Term op.Load) (more t (more u (more v (more w ts)))) e = refl
no_access (h.Form (form.Read k)) stop e = refl
no_access (h.Form (form.Read k)) (more t stop) e = refl
no_access (h.Form (form.Read k)) (more t (more u stop)) e = refl
no_access (h.Form (form.Read k)) (more t (more u (more v stop))) e = absurd cc
no_access (h.Form (form.Read k)) (more t (more u (more v (more w ts)))) e = refl
no_access (h.Form (form.Write k)) stop e = refl
no_access (h.Form (form.Write k)) (more t stop) e = refl
no_access (h.Form (form.Write k)) (more t (more u stop)) e = refl
no_access (h.Form (form.Write k)) (more t (more u (more v stop))) e = absurd cc
no_access (h.Form (form.Write k)) (more t (more u (more v (more w ts)))) e = refl
no_access head ts e = refl

pub access_unfit : (t : Tree) → is_three (kids_in t) ≡ false → None ≡ access_at t
access_unfit (node g ts) e = sym (no_access g ts e)

accessed : (t : Tree) (head : Head) (m b o : Tree) (k : Option CellKind) → head ≡ head_of t → kids_in t ≡ three m b o → k ≡ accessed_kind head m → access_at t ≡ option_map (access_to b o) k
accessed (node g ts) head m b o k e s a =
    ap (λ us. access_at (node g us)) s ∙ access_over g m b o ∙ ap (option_map (access_to b o)) (ap (λ x. accessed_kind x m) (sym e) ∙ sym a)

pub no_kind : (t : Tree) (head : Head) (m b o : Tree) → head ≡ head_of t → kids_in t ≡ three m b o → None ≡ accessed_kind head m → None ≡ access_at t
no_kind t head m b o e s a = sym (accessed t head m b o None e s a)

pub access_there : (t : Tree) (head : Head) (m b o : Tree) (k : CellKind) → head ≡ head_of t → kids_in t ≡ three m b o → Some k ≡ accessed_kind head m → Some (access_to b o k) ≡ access_at t
access_there t head m b o k e s a = sym (accessed t head m b o (Some k) e s a)

pub ruleset access_laws = (access_unfit, no_kind, access_there)
