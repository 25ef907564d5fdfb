-- The passes are the rules, taken again.
use Rattle.std.proofs.Common.{◌≡◌, inl, inr, Bool, true, false, cond, refl, sym, ◌∙◌, ap, subst}
use Rattle.std.specs.Prelude.{Option, Some, None, option_map}
use Rattle.qed_terms.specs.declared.head.Head.{Head}
use Rattle.qed_terms.specs.declared.head.Head.TheVariants as h
use Rattle.qed_terms.specs.declared.head.TermOp.TheVariants as op
use Rattle.qed_terms.specs.declared.head.FormOp.TheVariants as rel
use Rattle.qed_terms.specs.Tree.{Tree, node, Trees, stop, more, head_of, kids_in, one, two, three}
use Rattle.qed_linear.specs.Linear.{to_lin, is_integer, unwrap_or}
use Rattle.qed_numbers.specs.Numbers.{then_some, first_some}
use Rattle.qed_memories.specs.Memories.{apart, is_zero_where, is_from_zero, is_address, load_tree, store_tree, loaded, where_same, grow_tree, is_own_count, asks, asked, over_grown, over_made, over_none, layout_answer, past_count, layout_or_below, is_no_block, no_answer, memory_step}
use Rattle.qed_memories.specs.Passes.{value_or, cell_by, find_cell, cell_tree, loaded_down, load_down, is_so, store_base, store_down, grow_base, grow_end, grow_down, nowhere_or, made_or, find, nowhere_where, made_where, find_down, found_tree, found_down, memory_pass}
use Rattle.qed_memories.specs.Laws.{IsAmong, AreParts, Leads, stays, ends, goes_on, PassesAreSteps}

-- ---- parts

more_parts : (t : Tree) (us ts : Trees) → AreParts us ts → AreParts us (more t ts)
more_parts t stop ts a = tt
more_parts t (more u us) ts a = (inr (inr a.0), more_parts t us ts a.1)

own_parts : (ts : Trees) → AreParts ts ts
own_parts stop = tt
own_parts (more t ts) = (inl refl, more_parts t ts ts (own_parts ts))

-- the first kid, or a kid of it, in the place of it
first_part : (s t : Tree) (ts : Trees) → IsAmong s (kids_in t) → AreParts (more s ts) (more t ts)
first_part s t ts k = (inr (inl k), more_parts t ts ts (own_parts ts))

-- ---- loads

cell_leads : (m b o : Tree) → Leads (h.Term op.Load) (three m b o) (cell_tree (find_cell m (to_lin b) (to_lin o)) b o)
unfolding find_cell
cell_leads (node (h.Term op.Store) (more m (more b' (more o' (more v stop))))) b o = go (is_address (to_lin b) (to_lin o) b' o') refl (is_integer (head_of v)) refl (cell_leads m b o)
  where
    go : (x : Option Bool) → is_address (to_lin b) (to_lin o) b' o' ≡ x → (y : Bool) → is_integer (head_of v) ≡ y → Leads (h.Term op.Load) (three m b o) (cell_tree (find_cell m (to_lin b) (to_lin o)) b o)
        → Leads (h.Term op.Load) (three (store_tree m b' o' v) b o) (cell_tree (cell_by x v (store_tree m b' o' v) (find_cell m (to_lin b) (to_lin o))) b o)
    go None e y f l = stays (ap (λ k. first_some (loaded k v (load_tree m b o)) None) e)
    go (Some true) e true f l =
        subst (λ k. Leads (h.Term op.Load) (three (store_tree m b' o' v) b o) (cell_tree (value_or k v (store_tree m b' o' v)) b o)) (sym f)
        (ends (ap (λ k. first_some (loaded k v (load_tree m b o)) None) e ∙ ap (λ k. first_some (then_some k v) None) f) (inl (inr (inl (inr (inr (inr (inl refl))))))))
    go (Some true) e false f l =
        subst (λ k. Leads (h.Term op.Load) (three (store_tree m b' o' v) b o) (cell_tree (value_or k v (store_tree m b' o' v)) b o)) (sym f)
        (stays (ap (λ k. first_some (loaded k v (load_tree m b o)) None) e ∙ ap (λ k. first_some (then_some k v) None) f))
    go (Some false) e y f l = goes_on (ap (λ k. first_some (loaded k v (load_tree m b o)) None) e) (first_part m (store_tree m b' o' v) (two b o) (inl refl)) l
cell_leads m b o = stays refl

load_passed : (m b o : Tree) → cell_tree (find_cell m (to_lin b) (to_lin o)) b o ≡ unwrap_or (load_down m b o) (load_tree m b o)
unfolding find_cell load_down
load_passed (node (h.Term op.Store) (more m (more b' (more o' (more v stop))))) b o = go (is_address (to_lin b) (to_lin o) b' o') (is_integer (head_of v)) refl
  where
    go : (x : Option Bool) (y : Bool) → is_integer (head_of v) ≡ y → cell_tree (cell_by x v (store_tree m b' o' v) (find_cell m (to_lin b) (to_lin o))) b o ≡ unwrap_or (loaded_down x v (cell_tree (find_cell m (to_lin b) (to_lin o)) b o)) (load_tree (store_tree m b' o' v) b o)
    go None y f = refl
    go (Some true) true f = ap (λ k. cell_tree (value_or k v (store_tree m b' o' v)) b o) f ∙ sym (ap (λ k. unwrap_or (then_some k v) (load_tree (store_tree m b' o' v) b o)) f)
    go (Some true) false f = ap (λ k. cell_tree (value_or k v (store_tree m b' o' v)) b o) f ∙ sym (ap (λ k. unwrap_or (then_some k v) (load_tree (store_tree m b' o' v) b o)) f)
    go (Some false) y f = refl
load_passed m b o = refl

-- ---- stores

base_leads : (m b o v : Tree) → Leads (h.Term op.Store) (more m (three b o v)) (store_tree (store_base m (to_lin b) (to_lin o)) b o v)
unfolding store_base
base_leads (node (h.Term op.Store) (more m (more b' (more o' (more v' stop))))) b o v = go (is_address (to_lin b) (to_lin o) b' o') refl (base_leads m b o v)
  where
    go : (x : Option Bool) → is_address (to_lin b) (to_lin o) b' o' ≡ x → Leads (h.Term op.Store) (more m (three b o v)) (store_tree (store_base m (to_lin b) (to_lin o)) b o v)
        → Leads (h.Term op.Store) (more (store_tree m b' o' v') (three b o v)) (store_tree (cond (is_so x) (store_base m (to_lin b) (to_lin o)) (store_tree m b' o' v')) b o v)
    go None e l = stays (ap (λ k. first_some (where_same k (store_tree m b o v)) None) e)
    go (Some false) e l = stays (ap (λ k. first_some (where_same k (store_tree m b o v)) None) e)
    go (Some true) e l = goes_on (ap (λ k. first_some (where_same k (store_tree m b o v)) None) e) (first_part m (store_tree m b' o' v') (three b o v) (inl refl)) l
base_leads m b o v = stays refl

store_passed : (m b o v : Tree) → store_tree (store_base m (to_lin b) (to_lin o)) b o v ≡ unwrap_or (store_down m b o v) (store_tree m b o v)
unfolding store_base store_down
store_passed (node (h.Term op.Store) (more m (more b' (more o' (more v' stop))))) b o v = go (is_so (is_address (to_lin b) (to_lin o) b' o'))
  where
    go : (x : Bool) → store_tree (cond x (store_base m (to_lin b) (to_lin o)) (store_tree m b' o' v')) b o v ≡ unwrap_or (then_some x (store_tree (store_base m (to_lin b) (to_lin o)) b o v)) (store_tree (store_tree m b' o' v') b o v)
    go true = refl
    go false = refl
store_passed m b o v = refl

-- ---- tables that grow

end_leads : (t v : Tree) → ((x : Bool) → is_own_count t v ≡ x → memory_step (h.Term op.Grow) (two t v) ≡ then_some x t) → Leads (h.Term op.Grow) (two t v) (grow_end t v)
end_leads t v step = go (is_own_count t v) refl
  where
    go : (x : Bool) → is_own_count t v ≡ x → Leads (h.Term op.Grow) (two t v) (cond x t (grow_tree t v))
    go true e = ends (step true e) (inl (inl refl))
    go false e = stays (step false e)

own_step : (o : Option Tree) (t v : Tree) (x : Bool) → o ≡ None → is_own_count t v ≡ x → first_some o (first_some (then_some (is_own_count t v) t) None) ≡ then_some x t
own_step o t v x e f = ap (λ k. first_some k (first_some (then_some (is_own_count t v) t) None)) e ∙ ap (λ k. first_some (then_some k t) None) f ∙ last x
  where
    last : (x : Bool) → first_some (then_some x t) None ≡ then_some x t
    last true = refl
    last false = refl

grow_leads : (t v : Tree) → Leads (h.Term op.Grow) (two t v) (grow_end (grow_base t (to_lin v)) v)
unfolding grow_base
grow_leads (node (h.Term op.Grow) (more t (more u stop))) v = go (is_from_zero (apart v u)) refl (grow_leads t v)
  where
    go : (x : Bool) → is_from_zero (apart v u) ≡ x → Leads (h.Term op.Grow) (two t v) (grow_end (grow_base t (to_lin v)) v)
        → Leads (h.Term op.Grow) (two (grow_tree t u) v) (grow_end (cond x (grow_base t (to_lin v)) (grow_tree t u)) v)
    go true e l = goes_on (ap (λ k. first_some (then_some k (grow_tree t v)) (first_some (then_some (is_own_count (grow_tree t u) v) (grow_tree t u)) None)) e) (first_part t (grow_tree t u) (one v) (inl refl)) l
    go false e l = end_leads (grow_tree t u) v (λ x f. own_step (then_some (is_from_zero (apart v u)) (grow_tree t v)) (grow_tree t u) v x (ap (λ k. then_some k (grow_tree t v)) e) f)
grow_leads t v = end_leads t v (λ x f. own_step None t v x refl f)

grow_passed : (t v : Tree) → grow_end (grow_base t (to_lin v)) v ≡ unwrap_or (grow_down t v) (grow_tree t v)
unfolding grow_base grow_down
grow_passed (node (h.Term op.Grow) (more t (more u stop))) v = go (is_from_zero (apart v u)) (is_own_count (grow_tree t u) v) refl
  where
    go : (x y : Bool) → is_own_count (grow_tree t u) v ≡ y → grow_end (cond x (grow_base t (to_lin v)) (grow_tree t u)) v ≡ unwrap_or (cond x (Some (grow_end (grow_base t (to_lin v)) v)) (then_some (is_own_count (grow_tree t u) v) (grow_tree t u))) (grow_tree (grow_tree t u) v)
    go true y f = refl
    go false true f = ap (λ k. cond k (grow_tree t u) (grow_tree (grow_tree t u) v)) f ∙ sym (ap (λ k. unwrap_or (then_some k (grow_tree t u)) (grow_tree (grow_tree t u) v)) f)
    go false false f = ap (λ k. cond k (grow_tree t u) (grow_tree (grow_tree t u) v)) f ∙ sym (ap (λ k. unwrap_or (then_some k (grow_tree t u)) (grow_tree (grow_tree t u) v)) f)
grow_passed t v = go (is_own_count t v)
  where
    go : (x : Bool) → cond x t (grow_tree t v) ≡ unwrap_or (then_some x t) (grow_tree t v)
    go true = refl
    go false = refl

-- ---- blocks

asked_step : (head : Head) (t b : Tree) (ts : Trees) → asks head ts ≡ true → memory_step head (more t (more b ts)) ≡ first_some (over_grown head t b ts) (first_some (over_made head t b ts) (first_some (over_none head t b ts) None))
asked_step (h.Form (rel.Read k)) t b (more o stop) e = refl
asked_step (h.Form (rel.Write k)) t b (more o stop) e = refl
asked_step (h.Form rel.Live) t b stop e = refl
asked_step (h.Term op.Len) t b stop e = refl
asked_step head t b ts e = absurd cc

none_leads : (head : Head) (t b : Tree) (ts : Trees) → memory_step head (more t (more b ts)) ≡ first_some (over_none head t b ts) None → Leads head (more t (more b ts)) (found_tree head b ts (nowhere_or (is_no_block t (to_lin b)) t))
none_leads head t b ts step = go (is_no_block t (to_lin b)) refl
  where
    go : (x : Bool) → is_no_block t (to_lin b) ≡ x → Leads head (more t (more b ts)) (found_tree head b ts (nowhere_or x t))
    go true e = ends (step ∙ ap (λ k. first_some (then_some k (no_answer head)) None) e) (inr (inl refl))
    go false e = stays (step ∙ ap (λ k. first_some (then_some k (no_answer head)) None) e)

found_leads : (head : Head) (t b : Tree) (ts : Trees) → asks head ts ≡ true → Leads head (more t (more b ts)) (found_tree head b ts (find t (to_lin b)))
unfolding find
found_leads head (node (h.Term op.Grow) (more t (more u stop))) b ts a = goes_on (asked_step head (grow_tree t u) b ts a) (first_part t (grow_tree t u) (more b ts) (inl refl)) (found_leads head t b ts a)
found_leads head (node (h.Term (op.Alloc l)) (more t stop)) b ts a = go (is_zero_where (past_count (to_lin b) t)) refl (found_leads head t b ts a)
  where
    go : (x : Option Bool) → is_zero_where (past_count (to_lin b) t) ≡ x → Leads head (more t (more b ts)) (found_tree head b ts (find t (to_lin b)))
        → Leads head (more (node (h.Term (op.Alloc l)) (more t stop)) (more b ts)) (found_tree head b ts (made_or x l (find t (to_lin b)) (nowhere_or (is_no_block (node (h.Term (op.Alloc l)) (more t stop)) (to_lin b)) (node (h.Term (op.Alloc l)) (more t stop)))))
    go None e r =
        none_leads head (node (h.Term (op.Alloc l)) (more t stop)) b ts
        (asked_step head (node (h.Term (op.Alloc l)) (more t stop)) b ts a ∙ ap (λ k. first_some (layout_or_below k (layout_answer l head ts) (asked head t b ts)) (first_some (over_none head (node (h.Term (op.Alloc l)) (more t stop)) b ts) None)) e)
    go (Some true) e r =
        ends (asked_step head (node (h.Term (op.Alloc l)) (more t stop)) b ts a ∙ ap (λ k. first_some (layout_or_below k (layout_answer l head ts) (asked head t b ts)) (first_some (over_none head (node (h.Term (op.Alloc l)) (more t stop)) b ts) None)) e)
        (inr (inr (l, refl)))
    go (Some false) e r =
        goes_on (asked_step head (node (h.Term (op.Alloc l)) (more t stop)) b ts a ∙ ap (λ k. first_some (layout_or_below k (layout_answer l head ts) (asked head t b ts)) (first_some (over_none head (node (h.Term (op.Alloc l)) (more t stop)) b ts) None)) e)
        (first_part t (node (h.Term (op.Alloc l)) (more t stop)) (more b ts) (inl refl)) r
found_leads head t b ts a = none_leads head t b ts (asked_step head t b ts a)

found_passed : (head : Head) (t b : Tree) (ts : Trees) → found_tree head b ts (find t (to_lin b)) ≡ unwrap_or (found_down head t b ts) (asked head t b ts)
unfolding find find_down
found_passed head (node (h.Term op.Grow) (more t (more u stop))) b ts = refl
found_passed head (node (h.Term (op.Alloc l)) (more t stop)) b ts = go (is_zero_where (past_count (to_lin b) t)) (is_no_block (node (h.Term (op.Alloc l)) (more t stop)) (to_lin b))
  where
    go : (x : Option Bool) (n : Bool) → found_tree head b ts (made_or x l (find t (to_lin b)) (nowhere_or n (node (h.Term (op.Alloc l)) (more t stop))))
        ≡ unwrap_or (option_map (found_tree head b ts) (made_where x l (find t (to_lin b)) n)) (asked head (node (h.Term (op.Alloc l)) (more t stop)) b ts)
    go None true = refl
    go None false = refl
    go (Some true) n = refl
    go (Some false) n = refl
found_passed head t b ts = go (is_no_block t (to_lin b))
  where
    go : (n : Bool) → found_tree head b ts (nowhere_or n t) ≡ unwrap_or (option_map (found_tree head b ts) (nowhere_where n)) (asked head t b ts)
    go true = refl
    go false = refl

block_passed : (head : Head) (t b : Tree) (ts : Trees) → asks head ts ≡ true → found_down head t b ts ≡ memory_pass head (more t (more b ts))
block_passed (h.Form (rel.Read k)) t b (more o stop) e = refl
block_passed (h.Form (rel.Write k)) t b (more o stop) e = refl
block_passed (h.Form rel.Live) t b stop e = refl
block_passed (h.Term op.Len) t b stop e = refl
block_passed head t b ts e = absurd cc

pub passes_are_steps : PassesAreSteps
passes_are_steps = record {
  loads = λ m b o. subst (Leads (h.Term op.Load) (three m b o)) (load_passed m b o) (cell_leads m b o);
  stores = λ m b o v. subst (Leads (h.Term op.Store) (more m (three b o v))) (store_passed m b o v) (base_leads m b o v);
  grows = λ t u. subst (Leads (h.Term op.Grow) (two t u)) (grow_passed t u) (grow_leads t u);
  asks_block = λ head t b ts a. subst (Leads head (more t (more b ts))) (found_passed head t b ts ∙ ap (λ o. unwrap_or o (asked head t b ts)) (block_passed head t b ts a)) (found_leads head t b ts a);
}
