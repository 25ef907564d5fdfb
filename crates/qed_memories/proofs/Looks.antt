-- Memories and tables by their heads and by how many kids they have.
use Rattle.std.proofs.Common.{◌≡◌, List, [], ◌∷◌, map, length, false, refl, sym, ◌∙◌, ap, arith}
use Rattle.std.specs.Prelude.{Option, None}
use Rattle.wp_base.specs.declared.kinds.CellKind.{CellKind}
use Rattle.wp_base.specs.declared.kinds.Layout.{Layout}
use Rattle.qed_terms.specs.declared.head.FormOp.{FormOp}
use Rattle.qed_terms.specs.declared.head.FormOp.TheVariants as rel
use Rattle.qed_terms.specs.declared.head.Head.TheVariants as h
use Rattle.qed_terms.specs.declared.head.TermOp.{TermOp}
use Rattle.qed_terms.specs.declared.head.TermOp.TheVariants as op
use Rattle.qed_terms.specs.declared.term.Term.{Term}
use Rattle.qed_terms.specs.Tree.{Tree, Trees, node, trees_of}
use Rattle.qed_terms.specs.View.{term_tree}
use Rattle.qed_memories.specs.Memories.{is_count_of}
use Rattle.qed_memories.specs.Passes.{memory_pass}
use Rattle.qed_memories.specs.View.{is_store, is_built}

abbrev kids : List Term → Trees
kids ts = trees_of (map term_tree ts)

not_four : (ts : List Term) → (length ts ≡ 4 → ⊥) → is_store (node (h.Term op.Store) (kids ts)) ≡ false
not_four [] k = refl
not_four (a ∷ []) k = refl
not_four (a ∷ b ∷ []) k = refl
not_four (a ∷ b ∷ c ∷ []) k = refl
not_four (a ∷ b ∷ c ∷ d ∷ []) k = absurd (k (omega arith))
not_four (a ∷ b ∷ c ∷ d ∷ e ∷ ts) k = refl

pub store_of_four : (o : TermOp) (ts : List Term) → o ≡ op.Store → (length ts ≡ 4 → ⊥) → is_store (node (h.Term o) (kids ts)) ≡ false
store_of_four o ts e k = ap (λ x. is_store (node (h.Term x) (kids ts))) e ∙ not_four ts k

not_one : (l : Layout) (ts : List Term) → (length ts ≡ 1 → ⊥) → is_built (node (h.Term (op.Alloc l)) (kids ts)) ≡ false
not_one l [] k = refl
not_one l (a ∷ []) k = absurd (k (omega arith))
not_one l (a ∷ b ∷ ts) k = refl

pub made_of_one : (o : TermOp) (l : Layout) (ts : List Term) → o ≡ op.Alloc l → (length ts ≡ 1 → ⊥) → is_built (node (h.Term o) (kids ts)) ≡ false
made_of_one o l ts e k = ap (λ x. is_built (node (h.Term x) (kids ts))) e ∙ not_one l ts k

not_two : (ts : List Term) → (length ts ≡ 2 → ⊥) → is_built (node (h.Term op.Grow) (kids ts)) ≡ false
not_two [] k = refl
not_two (a ∷ []) k = refl
not_two (a ∷ b ∷ []) k = absurd (k (omega arith))
not_two (a ∷ b ∷ c ∷ ts) k = refl

pub grown_of_two : (o : TermOp) (ts : List Term) → o ≡ op.Grow → (length ts ≡ 2 → ⊥) → is_built (node (h.Term o) (kids ts)) ≡ false
grown_of_two o ts e k = ap (λ x. is_built (node (h.Term x) (kids ts))) e ∙ not_two ts k

not_counted : (t : Tree) (ts : List Term) → (length ts ≡ 1 → ⊥) → false ≡ is_count_of t (node (h.Term op.Count) (kids ts))
not_counted t [] k = refl
not_counted t (a ∷ []) k = absurd (k (omega arith))
not_counted t (a ∷ b ∷ ts) k = refl

pub count_of_one : (t : Tree) (o : TermOp) (ts : List Term) → o ≡ op.Count → (length ts ≡ 1 → ⊥) → false ≡ is_count_of t (node (h.Term o) (kids ts))
count_of_one t o ts e k = not_counted t ts k ∙ ap (λ x. is_count_of t (node (h.Term x) (kids ts))) (sym e)

-- ---- heads over another number of kids than they have

abbrev P : TermOp → List Term → Option Tree
P o ts = memory_pass (h.Term o) (kids ts)

abbrev Q : FormOp → List Term → Option Tree
Q o ts = memory_pass (h.Form o) (kids ts)

pub no_load : (ts : List Term) → (length ts ≡ 3 → ⊥) → None ≡ P op.Load ts
no_load [] k = refl
no_load (a ∷ []) k = refl
no_load (a ∷ b ∷ []) k = refl
no_load (a ∷ b ∷ c ∷ []) k = absurd (k (omega arith))
no_load (a ∷ b ∷ c ∷ d ∷ ts) k = refl

pub no_store : (ts : List Term) → (length ts ≡ 4 → ⊥) → None ≡ P op.Store ts
no_store [] k = refl
no_store (a ∷ []) k = refl
no_store (a ∷ b ∷ []) k = refl
no_store (a ∷ b ∷ c ∷ []) k = refl
no_store (a ∷ b ∷ c ∷ d ∷ []) k = absurd (k (omega arith))
no_store (a ∷ b ∷ c ∷ d ∷ e ∷ ts) k = refl

pub no_count : (ts : List Term) → (length ts ≡ 1 → ⊥) → None ≡ P op.Count ts
no_count [] k = refl
no_count (a ∷ []) k = absurd (k (omega arith))
no_count (a ∷ b ∷ ts) k = refl

pub no_grow : (ts : List Term) → (length ts ≡ 2 → ⊥) → None ≡ P op.Grow ts
no_grow [] k = refl
no_grow (a ∷ []) k = refl
no_grow (a ∷ b ∷ []) k = absurd (k (omega arith))
no_grow (a ∷ b ∷ c ∷ ts) k = refl

pub no_len : (ts : List Term) → (length ts ≡ 2 → ⊥) → None ≡ P op.Len ts
no_len [] k = refl
no_len (a ∷ []) k = refl
no_len (a ∷ b ∷ []) k = absurd (k (omega arith))
no_len (a ∷ b ∷ c ∷ ts) k = refl

pub no_live : (ts : List Term) → (length ts ≡ 2 → ⊥) → None ≡ Q rel.Live ts
no_live [] k = refl
no_live (a ∷ []) k = refl
no_live (a ∷ b ∷ []) k = absurd (k (omega arith))
no_live (a ∷ b ∷ c ∷ ts) k = refl

pub no_read : (l : CellKind) (ts : List Term) → (length ts ≡ 3 → ⊥) → None ≡ Q (rel.Read l) ts
no_read l [] k = refl
no_read l (a ∷ []) k = refl
no_read l (a ∷ b ∷ []) k = refl
no_read l (a ∷ b ∷ c ∷ []) k = absurd (k (omega arith))
no_read l (a ∷ b ∷ c ∷ d ∷ ts) k = refl

pub no_write : (l : CellKind) (ts : List Term) → (length ts ≡ 3 → ⊥) → None ≡ Q (rel.Write l) ts
no_write l [] k = refl
no_write l (a ∷ []) k = refl
no_write l (a ∷ b ∷ []) k = refl
no_write l (a ∷ b ∷ c ∷ []) k = absurd (k (omega arith))
no_write l (a ∷ b ∷ c ∷ d ∷ ts) k = refl

pub at_op : (o p : TermOp) (ts : List Term) → o ≡ p → None ≡ P p ts → None ≡ P o ts
at_op o p ts e k = k ∙ ap (λ x. P x ts) (sym e)

pub at_form : (o p : FormOp) (ts : List Term) → o ≡ p → None ≡ Q p ts → None ≡ Q o ts
at_form o p ts e k = k ∙ ap (λ x. Q x ts) (sym e)
