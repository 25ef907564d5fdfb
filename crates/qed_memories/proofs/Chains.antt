-- What loads, stores and tables that grow become, by what they are over.
use Rattle.std.proofs.Common.{◌≡◌, Bool, true, false, cond, refl, sym, ◌∙◌, ap}
use Rattle.std.specs.Prelude.{Option, Some, None}
use Rattle.wp_base.specs.declared.kinds.Layout.{Layout}
use Rattle.qed_terms.specs.declared.head.Head.TheVariants as h
use Rattle.qed_terms.specs.declared.head.TermOp.TheVariants as op
use Rattle.qed_terms.specs.Tree.{Tree, node, stop, more, head_of}
use Rattle.qed_linear.specs.Linear.{Lin, to_lin, is_integer}
use Rattle.qed_numbers.specs.Numbers.{then_some}
use Rattle.qed_memories.specs.Memories.{difference, is_from_zero, is_address, store_tree, grow_tree, is_own_count}
use Rattle.qed_memories.specs.Passes.{Cell, value, unread, value_or, cell_by, find_cell, cell_tree, loaded_down, load_down, is_so, store_base, store_down, grow_base, grow_end, grow_down}
use Rattle.qed_memories.specs.View.{is_store, is_built}

-- ---- loads

unread_at : (t : Tree) (f g : Lin) → is_store t ≡ false → find_cell t f g ≡ unread t
unfolding find_cell
unread_at (node (h.Term op.Store) (more m (more b (more o (more v stop))))) f g k = absurd cc
unread_at t f g k = refl

cell_at : (t m b o v : Tree) (f g : Lin) (known : Option Bool) → t ≡ store_tree m b o v → is_address f g b o ≡ known → find_cell t f g ≡ cell_by known v t (find_cell m f g)
unfolding find_cell
cell_at t m b o v f g known e k = ap (λ x. find_cell x f g) e ∙ ap (λ j. cell_by j v (store_tree m b o v) (find_cell m f g)) k ∙ ap (λ x. cell_by known v x (find_cell m f g)) (sym e)

pub cell_other : (t u : Tree) (f g : Lin) → is_store t ≡ false → find_cell t f g ≡ find_cell u f g → unread t ≡ find_cell u f g
cell_other t u f g k i = sym (unread_at t f g k) ∙ i

pub cell_unknown : (t m b o v u : Tree) (f g : Lin) → t ≡ store_tree m b o v → is_address f g b o ≡ None → find_cell t f g ≡ find_cell u f g → unread t ≡ find_cell u f g
cell_unknown t m b o v u f g e k i = sym (cell_at t m b o v f g None e k) ∙ i

pub cell_below : (t m b o v u : Tree) (f g : Lin) → t ≡ store_tree m b o v → is_address f g b o ≡ Some false → find_cell t f g ≡ find_cell u f g → find_cell m f g ≡ find_cell u f g
cell_below t m b o v u f g e k i = sym (cell_at t m b o v f g (Some false) e k) ∙ i

pub cell_value : (t m b o v u : Tree) (f g : Lin) → t ≡ store_tree m b o v → is_address f g b o ≡ Some true → is_integer (head_of v) ≡ true → find_cell t f g ≡ find_cell u f g → value v ≡ find_cell u f g
cell_value t m b o v u f g e k n i = sym (cell_at t m b o v f g (Some true) e k ∙ ap (λ j. value_or j v t) n) ∙ i

pub cell_no_integer : (t m b o v u : Tree) (f g : Lin) → t ≡ store_tree m b o v → is_address f g b o ≡ Some true → is_integer (head_of v) ≡ false → find_cell t f g ≡ find_cell u f g → unread t ≡ find_cell u f g
cell_no_integer t m b o v u f g e k n i = sym (cell_at t m b o v f g (Some true) e k ∙ ap (λ j. value_or j v t) n) ∙ i

pub load_other : (t b o : Tree) → is_store t ≡ false → None ≡ load_down t b o
unfolding load_down
load_other (node (h.Term op.Store) (more m (more b' (more o' (more v stop))))) b o k = absurd cc
load_other t b o k = refl

load_at : (t m b' o' v b o : Tree) (f g : Lin) (known : Option Bool) → t ≡ store_tree m b' o' v → f ≡ to_lin b → g ≡ to_lin o → is_address f g b' o' ≡ known → loaded_down known v (cell_tree (find_cell m f g) b o) ≡ load_down t b o
unfolding load_down
load_at t m b' o' v b o f g known e p q k =
    ap (λ j. loaded_down j v (cell_tree (find_cell m f g) b o)) (sym k)
    ∙ (λ i. loaded_down (is_address (p i) (q i) b' o') v (cell_tree (find_cell m (p i) (q i)) b o))
    ∙ sym (ap (λ x. load_down x b o) e)

pub load_unknown : (t m b' o' v b o : Tree) (f g : Lin) → t ≡ store_tree m b' o' v → f ≡ to_lin b → g ≡ to_lin o → is_address f g b' o' ≡ None → None ≡ load_down t b o
load_unknown t m b' o' v b o f g e p q k = load_at t m b' o' v b o f g None e p q k

pub load_value : (t m b' o' v b o : Tree) (f g : Lin) → t ≡ store_tree m b' o' v → f ≡ to_lin b → g ≡ to_lin o → is_address f g b' o' ≡ Some true → is_integer (head_of v) ≡ true → Some v ≡ load_down t b o
load_value t m b' o' v b o f g e p q k n = ap (λ j. then_some j v) (sym n) ∙ load_at t m b' o' v b o f g (Some true) e p q k

pub load_no_integer : (t m b' o' v b o : Tree) (f g : Lin) → t ≡ store_tree m b' o' v → f ≡ to_lin b → g ≡ to_lin o → is_address f g b' o' ≡ Some true → is_integer (head_of v) ≡ false → None ≡ load_down t b o
load_no_integer t m b' o' v b o f g e p q k n = ap (λ j. then_some j v) (sym n) ∙ load_at t m b' o' v b o f g (Some true) e p q k

pub load_below : (t m b' o' v b o w : Tree) (f g : Lin) (c : Cell) → t ≡ store_tree m b' o' v → f ≡ to_lin b → g ≡ to_lin o → is_address f g b' o' ≡ Some false → c ≡ find_cell m f g → w ≡ cell_tree c b o → Some w ≡ load_down t b o
load_below t m b' o' v b o w f g c e p q k n r = ap Some (r ∙ ap (λ x. cell_tree x b o) n) ∙ load_at t m b' o' v b o f g (Some false) e p q k

pub ruleset load_laws = (cell_other, cell_unknown, cell_below, cell_value, cell_no_integer, load_other, load_unknown, load_value, load_no_integer, load_below)

-- ---- stores

base_at : (t m b o v : Tree) (f g : Lin) (known : Bool) → t ≡ store_tree m b o v → is_so (is_address f g b o) ≡ known → store_base t f g ≡ cond known (store_base m f g) t
unfolding store_base
base_at t m b o v f g known e k = ap (λ x. store_base x f g) e ∙ ap (λ j. cond j (store_base m f g) (store_tree m b o v)) k ∙ ap (λ x. cond known (store_base m f g) x) (sym e)

unstored : (t : Tree) (f g : Lin) → is_store t ≡ false → store_base t f g ≡ t
unfolding store_base
unstored (node (h.Term op.Store) (more m (more b (more o (more v stop))))) f g k = absurd cc
unstored t f g k = refl

pub base_other : (t u : Tree) (f g : Lin) → is_store t ≡ false → store_base t f g ≡ store_base u f g → t ≡ store_base u f g
base_other t u f g k i = sym (unstored t f g k) ∙ i

pub base_stays : (t m b o v u : Tree) (f g : Lin) → t ≡ store_tree m b o v → is_so (is_address f g b o) ≡ false → store_base t f g ≡ store_base u f g → t ≡ store_base u f g
base_stays t m b o v u f g e k i = sym (base_at t m b o v f g false e k) ∙ i

pub base_below : (t m b o v u : Tree) (f g : Lin) → t ≡ store_tree m b o v → is_so (is_address f g b o) ≡ true → store_base t f g ≡ store_base u f g → store_base m f g ≡ store_base u f g
base_below t m b o v u f g e k i = sym (base_at t m b o v f g true e k) ∙ i

pub store_other : (t b o v : Tree) → is_store t ≡ false → None ≡ store_down t b o v
unfolding store_down
store_other (node (h.Term op.Store) (more m (more b' (more o' (more v' stop))))) b o v k = absurd cc
store_other t b o v k = refl

store_at : (t m b' o' v' b o v : Tree) (f g : Lin) (known : Bool) → t ≡ store_tree m b' o' v' → f ≡ to_lin b → g ≡ to_lin o → is_so (is_address f g b' o') ≡ known → then_some known (store_tree (store_base m f g) b o v) ≡ store_down t b o v
unfolding store_down
store_at t m b' o' v' b o v f g known e p q k =
    ap (λ j. then_some j (store_tree (store_base m f g) b o v)) (sym k)
    ∙ (λ i. then_some (is_so (is_address (p i) (q i) b' o')) (store_tree (store_base m (p i) (q i)) b o v))
    ∙ sym (ap (λ x. store_down x b o v) e)

pub store_stays : (t m b' o' v' b o v : Tree) (f g : Lin) → t ≡ store_tree m b' o' v' → f ≡ to_lin b → g ≡ to_lin o → is_so (is_address f g b' o') ≡ false → None ≡ store_down t b o v
store_stays t m b' o' v' b o v f g e p q k = store_at t m b' o' v' b o v f g false e p q k

pub store_below : (t m b' o' v' b o v w n : Tree) (f g : Lin) → t ≡ store_tree m b' o' v' → f ≡ to_lin b → g ≡ to_lin o → is_so (is_address f g b' o') ≡ true → n ≡ store_base m f g → w ≡ store_tree n b o v → Some w ≡ store_down t b o v
store_below t m b' o' v' b o v w n f g e p q k r s = ap Some (s ∙ ap (λ x. store_tree x b o v) r) ∙ store_at t m b' o' v' b o v f g true e p q k

pub ruleset store_laws = (base_other, base_stays, base_below, store_other, store_stays, store_below)

-- ---- tables that grow

grown_at : (t s u : Tree) (f : Lin) (known : Bool) → t ≡ grow_tree s u → is_from_zero (difference f (to_lin u)) ≡ known → grow_base t f ≡ cond known (grow_base s f) t
unfolding grow_base
grown_at t s u f known e k = ap (λ x. grow_base x f) e ∙ ap (λ j. cond j (grow_base s f) (grow_tree s u)) k ∙ ap (λ x. cond known (grow_base s f) x) (sym e)

own_base : (t : Tree) (f : Lin) → is_built t ≡ false → grow_base t f ≡ t
unfolding grow_base
own_base (node (h.Term op.Grow) (more t (more u stop))) f k = absurd cc
own_base t f k = refl

made_base : (l : Layout) (s : Tree) (f : Lin) → grow_base (node (h.Term (op.Alloc l)) (more s stop)) f ≡ node (h.Term (op.Alloc l)) (more s stop)
unfolding grow_base
made_base l s f = refl

pub grown_other : (t u : Tree) (f : Lin) → is_built t ≡ false → grow_base t f ≡ grow_base u f → t ≡ grow_base u f
grown_other t u f k i = sym (own_base t f k) ∙ i

pub grown_made : (t u s : Tree) (l : Layout) (f : Lin) → t ≡ node (h.Term (op.Alloc l)) (more s stop) → grow_base t f ≡ grow_base u f → t ≡ grow_base u f
grown_made t u s l f e i = e ∙ sym (made_base l s f) ∙ ap (λ x. grow_base x f) (sym e) ∙ i

pub grown_stays : (t s v u : Tree) (f : Lin) → t ≡ grow_tree s v → is_from_zero (difference f (to_lin v)) ≡ false → grow_base t f ≡ grow_base u f → t ≡ grow_base u f
grown_stays t s v u f e k i = sym (grown_at t s v f false e k) ∙ i

pub grown_below : (t s v u : Tree) (f : Lin) → t ≡ grow_tree s v → is_from_zero (difference f (to_lin v)) ≡ true → grow_base t f ≡ grow_base u f → grow_base s f ≡ grow_base u f
grown_below t s v u f e k i = sym (grown_at t s v f true e k) ∙ i

pub grow_other : (t v : Tree) (n : Option Tree) → is_built t ≡ false → n ≡ then_some (is_own_count t v) t → n ≡ grow_down t v
unfolding grow_down
grow_other (node (h.Term op.Grow) (more t (more u stop))) v n k e = absurd cc
grow_other t v n k e = e

made_grow : (l : Layout) (s v : Tree) → then_some (is_own_count (node (h.Term (op.Alloc l)) (more s stop)) v) (node (h.Term (op.Alloc l)) (more s stop)) ≡ grow_down (node (h.Term (op.Alloc l)) (more s stop)) v
unfolding grow_down
made_grow l s v = refl

pub grow_made : (t s v : Tree) (l : Layout) (n : Option Tree) → t ≡ node (h.Term (op.Alloc l)) (more s stop) → n ≡ then_some (is_own_count t v) t → n ≡ grow_down t v
grow_made t s v l n e k = k ∙ ap (λ x. then_some (is_own_count x v) x) e ∙ made_grow l s v ∙ ap (λ x. grow_down x v) (sym e)

grow_at : (t s u v : Tree) (f : Lin) (known : Bool) → t ≡ grow_tree s u → f ≡ to_lin v → is_from_zero (difference f (to_lin u)) ≡ known
    → cond known (Some (grow_end (grow_base s f) v)) (then_some (is_own_count t v) t) ≡ grow_down t v
unfolding grow_down
grow_at t s u v f known e p k =
    ap (λ j. cond j (Some (grow_end (grow_base s f) v)) (then_some (is_own_count t v) t)) (sym k)
    ∙ (λ i. cond (is_from_zero (difference (p i) (to_lin u))) (Some (grow_end (grow_base s (p i)) v)) (then_some (is_own_count (e i) v) (e i)))
    ∙ sym (ap (λ x. grow_down x v) e)

pub grow_stays : (t s u v : Tree) (f : Lin) (n : Option Tree) → t ≡ grow_tree s u → f ≡ to_lin v → is_from_zero (difference f (to_lin u)) ≡ false → n ≡ then_some (is_own_count t v) t → n ≡ grow_down t v
grow_stays t s u v f n e p k q = q ∙ grow_at t s u v f false e p k

pub grow_below : (t s u v w b : Tree) (f : Lin) → t ≡ grow_tree s u → f ≡ to_lin v → is_from_zero (difference f (to_lin u)) ≡ true → b ≡ grow_base s f → w ≡ grow_end b v → Some w ≡ grow_down t v
grow_below t s u v w b f e p k q r = ap Some (r ∙ ap (λ x. grow_end x v) q) ∙ grow_at t s u v f true e p k

pub ruleset grow_laws = (grown_other, grown_made, grown_stays, grown_below, grow_other, grow_made, grow_stays, grow_below)
