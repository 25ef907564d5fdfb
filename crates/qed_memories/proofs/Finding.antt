-- Where a block is found, by what the table is.
use Rattle.std.proofs.Common.{◌≡◌, Bool, true, false, refl, sym, ◌∙◌, ap}
use Rattle.std.specs.Prelude.{Option, Some, None}
use Rattle.wp_base.specs.declared.kinds.Layout.{Layout}
use Rattle.qed_terms.specs.declared.head.Head.TheVariants as h
use Rattle.qed_terms.specs.declared.head.TermOp.TheVariants as op
use Rattle.qed_terms.specs.Tree.{Tree, node, stop, more}
use Rattle.qed_linear.specs.Linear.{Lin}
use Rattle.qed_memories.specs.Memories.{is_zero_where, grow_tree, past_count, is_no_block}
use Rattle.qed_memories.specs.Passes.{Found, made_as, nowhere_or, made_or, find, nowhere_where, made_where, find_down}
use Rattle.qed_memories.specs.View.{is_built}

abbrev made : Layout → Tree → Tree
made l t = node (h.Term (op.Alloc l)) (more t stop)

grown_at : (t s v : Tree) (f : Lin) → t ≡ grow_tree s v → find t f ≡ find s f
unfolding find
grown_at t s v f e = ap (λ x. find x f) e

made_at : (t s : Tree) (l : Layout) (f : Lin) (known : Option Bool) → t ≡ made l s → is_zero_where (past_count f s) ≡ known → find t f ≡ made_or known l (find s f) (nowhere_or (is_no_block t f) t)
unfolding find
made_at t s l f known e k = ap (λ x. find x f) e ∙ ap (λ o. made_or o l (find s f) (nowhere_or (is_no_block (made l s) f) (made l s))) k ∙ ap (λ x. made_or known l (find s f) (nowhere_or (is_no_block x f) x)) (sym e)

plain_at : (t : Tree) (f : Lin) → is_built t ≡ false → find t f ≡ nowhere_or (is_no_block t f) t
unfolding find
plain_at (node (h.Term (op.Alloc l)) (more t stop)) f k = absurd cc
plain_at (node (h.Term op.Grow) (more t (more u stop))) f k = absurd cc
plain_at t f k = refl

pub find_grown : (t s v u : Tree) (f : Lin) → t ≡ grow_tree s v → find t f ≡ find u f → find s f ≡ find u f
find_grown t s v u f e i = sym (grown_at t s v f e) ∙ i

pub find_made : (t s u : Tree) (l : Layout) (f : Lin) → t ≡ made l s → is_zero_where (past_count f s) ≡ Some true → find t f ≡ find u f → made_as l ≡ find u f
find_made t s u l f e k i = sym (made_at t s l f (Some true) e k) ∙ i

pub find_below : (t s u : Tree) (l : Layout) (f : Lin) → t ≡ made l s → is_zero_where (past_count f s) ≡ Some false → find t f ≡ find u f → find s f ≡ find u f
find_below t s u l f e k i = sym (made_at t s l f (Some false) e k) ∙ i

pub find_unknown : (t s u : Tree) (l : Layout) (f : Lin) (n : Found) → t ≡ made l s → is_zero_where (past_count f s) ≡ None → find t f ≡ find u f → n ≡ nowhere_or (is_no_block t f) t → n ≡ find u f
find_unknown t s u l f n e k i q = q ∙ sym (made_at t s l f None e k) ∙ i

pub find_plain : (t u : Tree) (f : Lin) (n : Found) → is_built t ≡ false → find t f ≡ find u f → n ≡ nowhere_or (is_no_block t f) t → n ≡ find u f
find_plain t u f n k i q = q ∙ sym (plain_at t f k) ∙ i

pub down_grown : (t s v : Tree) (f : Lin) (n : Found) → t ≡ grow_tree s v → n ≡ find s f → Some n ≡ find_down t f
unfolding find_down
down_grown t s v f n e k = ap Some k ∙ sym (ap (λ x. find_down x f) e)

down_at : (t s : Tree) (l : Layout) (f : Lin) (known : Option Bool) → t ≡ made l s → is_zero_where (past_count f s) ≡ known → made_where known l (find s f) (is_no_block t f) ≡ find_down t f
unfolding find_down
down_at t s l f known e k = ap (λ o. made_where o l (find s f) (is_no_block t f)) (sym k) ∙ ap (λ x. made_where (is_zero_where (past_count f s)) l (find s f) (is_no_block x f)) e ∙ sym (ap (λ x. find_down x f) e)

pub down_made : (t s : Tree) (l : Layout) (f : Lin) → t ≡ made l s → is_zero_where (past_count f s) ≡ Some true → Some (made_as l) ≡ find_down t f
down_made t s l f e k = down_at t s l f (Some true) e k

pub down_below : (t s : Tree) (l : Layout) (f : Lin) (n : Found) → t ≡ made l s → is_zero_where (past_count f s) ≡ Some false → n ≡ find s f → Some n ≡ find_down t f
down_below t s l f n e k q = ap Some q ∙ down_at t s l f (Some false) e k

pub down_unknown : (t s : Tree) (l : Layout) (f : Lin) (n : Option Found) → t ≡ made l s → is_zero_where (past_count f s) ≡ None → n ≡ nowhere_where (is_no_block t f) → n ≡ find_down t f
down_unknown t s l f n e k q = q ∙ down_at t s l f None e k

pub down_plain : (t : Tree) (f : Lin) (n : Option Found) → is_built t ≡ false → n ≡ nowhere_where (is_no_block t f) → n ≡ find_down t f
unfolding find_down
down_plain (node (h.Term (op.Alloc l)) (more t stop)) f n k q = absurd cc
down_plain (node (h.Term op.Grow) (more t (more u stop))) f n k q = absurd cc
down_plain t f n k q = q

pub ruleset find_laws = (find_grown, find_made, find_below, find_unknown, find_plain, down_grown, down_made, down_below, down_unknown, down_plain)
