-- No rule on memories and tables makes the weight rise, or more quantifiers above relations.
use Rattle.std.proofs.Common.{◌≡◌, ℕ, suc, max, ◌≤◌, Bool, true, false, cond, List, [], ◌∷◌, refl, sym, ◌∙◌, ap, arith}
use Rattle.std.specs.Prelude.{Option, Some, None}
use Rattle.wp_base.specs.declared.kinds.CellKind.{CellKind}
use Rattle.wp_base.specs.declared.kinds.Layout.{Layout}
use Rattle.wp_base.specs.Blocks.{same_cell}
use Rattle.qed_terms.specs.declared.head.Head.{Head}
use Rattle.qed_terms.specs.declared.head.Head.TheVariants as h
use Rattle.qed_terms.specs.declared.head.TermOp.TheVariants as op
use Rattle.qed_terms.specs.declared.head.FormOp.{FormOp}
use Rattle.qed_terms.specs.declared.head.FormOp.TheVariants as rel
use Rattle.qed_terms.specs.Tree.{Tree, node, Trees, stop, more, trees_of, head_of, one, false_tree}
use Rattle.qed_linear.specs.Linear.{to_lin, is_integer}
use Rattle.qed_numbers.specs.Numbers.{Rule}
use Rattle.qed_numbers.proofs.Tests.{then_some_is, AllOf, first_one}
use Rattle.qed_memories.specs.Memories as spec
use Rattle.qed_memories.specs.Memories.{apart, is_zero_where, is_from_zero, same_address, load_tree, store_tree, loaded, where_same, count_tree, one_more, grow_tree, is_own_count, asks, asked, at_block, over_grown, over_made, over_none, is_at_place, are_at_places, cell_count, has_cell_tree, layout_answer, past_count, layout_or_below, is_no_block, no_answer, memory_rules, memory_step}
use Rattle.qed_simplify.specs.Normal.{quantifiers, all_quantifiers}
use Rattle.qed_simplify.proofs.Weights.{Numbers, weight, weights}

-- ---- weights

module _ (e : Numbers) where
  abbrev W : Tree → ℕ
  W t = weight t e

  abbrev NoHeavier : Rule → Type 0
  NoHeavier r = (head : Head) (ts : Trees) (w : Tree) → r head ts ≡ Some w → W w ≤ W (node head ts)

  same_weight : (t u : Tree) → t ≡ u → W t ≡ W u
  same_weight t u q = ap W q

  loaded_light : (x : Option Bool) (v t w : Tree) → loaded x v t ≡ Some w → W w ≤ max (W v) (W t)
  loaded_light None v t w k = absurd cc
  loaded_light (Some true) v t w k = let a = same_weight v w (then_some_is (is_integer (head_of v)) v w k).1 in omega (arith, a)
  loaded_light (Some false) v t w k = let a = same_weight t w cc in omega (arith, a)

  load_over : (m b o w : Tree) → spec.load_over m b o ≡ Some w → W w ≤ W (load_tree m b o)
  load_over (node (h.Term op.Store) (more m (more b' (more o' (more v stop))))) b o w k = let a = loaded_light (same_address b o b' o') v (load_tree m b o) w k in omega (arith, a)
  load_over m b o w k = absurd cc

  load : NoHeavier spec.load_rule
  load (h.Term op.Load) (more m (more b (more o stop))) w k = load_over m b o w k
  load head ts w k = absurd cc

  where_light : (x : Option Bool) (t w : Tree) → where_same x t ≡ Some w → W w ≡ W t
  where_light None t w k = absurd cc
  where_light (Some b) t w k = sym (same_weight t w (then_some_is b t w k).1)

  store_over : (m b o v w : Tree) → spec.store_over m b o v ≡ Some w → W w ≤ W (store_tree m b o v)
  store_over (node (h.Term op.Store) (more m (more b' (more o' (more v' stop))))) b o v w k = let a = where_light (same_address b o b' o') (store_tree m b o v) w k in omega (arith, a)
  store_over m b o v w k = absurd cc

  store : NoHeavier spec.store_rule
  store (h.Term op.Store) (more m (more b (more o (more v stop)))) w k = store_over m b o v w k
  store head ts w k = absurd cc

  count_over : (t w : Tree) → spec.count_over t ≡ Some w → W w ≤ W (count_tree t)
  count_over (node (h.Term (op.Alloc l)) (more t stop)) w k = let a = same_weight (one_more (count_tree t)) w cc in omega (arith, a)
  count_over t w k = absurd cc

  count : NoHeavier spec.count_rule
  count (h.Term op.Count) (more t stop) w k = count_over t w k
  count head ts w k = absurd cc

  grow_over : (t v w : Tree) → spec.grow_over t v ≡ Some w → W w ≤ W (grow_tree t v)
  grow_over (node (h.Term op.Grow) (more t (more u stop))) v w k = let a = same_weight (grow_tree t v) w (then_some_is (is_from_zero (apart v u)) (grow_tree t v) w k).1 in omega (arith, a)
  grow_over t v w k = absurd cc

  grow : NoHeavier spec.grow_rule
  grow (h.Term op.Grow) (more t (more u stop)) w k = grow_over t u w k
  grow head ts w k = absurd cc

  no_growth : NoHeavier spec.no_growth_rule
  no_growth (h.Term op.Grow) (more t (more u stop)) w k = let a = same_weight t w (then_some_is (is_own_count t u) t w k).1 in omega (arith, a)
  no_growth head ts w k = absurd cc

  -- ---- blocks

  asked_weight : (head : Head) (t b : Tree) (ts : Trees) → asks head ts ≡ true → W (asked head t b ts) ≡ max (W t) (max (W b) (weights ts e))
  asked_weight (h.Form (rel.Read k)) t b (more o stop) a = refl
  asked_weight (h.Form (rel.Write k)) t b (more o stop) a = refl
  asked_weight (h.Form rel.Live) t b stop a = refl
  asked_weight (h.Term op.Len) t b stop a = refl
  asked_weight head t b ts a = absurd cc

  places_weight : (n s : ℕ) (k : CellKind) (o : Tree) (j : ℕ) (cs : List CellKind) → weights (trees_of (are_at_places n s k o j cs)) e ≤ W o
  places_weight n s k o j [] = omega arith
  places_weight n s k o j (c ∷ cs) = go (same_cell k c) (places_weight n s k o (suc j) cs)
    where
      go : (b : Bool) → weights (trees_of (are_at_places n s k o (suc j) cs)) e ≤ W o → weights (trees_of (cond b (is_at_place n s o j ∷ are_at_places n s k o (suc j) cs) (are_at_places n s k o (suc j) cs))) e ≤ W o
      go true r = omega (arith, r)
      go false r = r

  cell_weight : (l : Layout) (k : CellKind) (o : Tree) → W (has_cell_tree l k o) ≤ W o
  cell_weight l k o = places_weight (cell_count l) _ k o 0 l.cells

  written_weight : (l : Layout) (k : CellKind) (o : Tree) (b : Bool) → W (cond b (has_cell_tree l k o) false_tree) ≤ W o
  written_weight l k o true = cell_weight l k o
  written_weight l k o false = omega arith

  layout_weight : (l : Layout) (head : Head) (ts : Trees) → W (layout_answer l head ts) ≤ weights ts e
  layout_weight l (h.Form (rel.Read k)) (more o ts) = let a = cell_weight l k o in omega (arith, a)
  layout_weight l (h.Form (rel.Write k)) (more o ts) = let a = written_weight l k o l.writable in omega (arith, a)
  layout_weight l (h.Form rel.Live) ts = omega arith
  layout_weight l (h.Term o) ts = omega arith
  layout_weight l head ts = omega arith

  none_weight : (head : Head) → W (no_answer head) ≡ 0
  none_weight (h.Term o) = refl
  none_weight head = refl

  abbrev AskedLight : (Head → (table block : Tree) → Trees → Option Tree) → Type 0
  AskedLight rule = (head : Head) (t b : Tree) (ts : Trees) (w : Tree) → asks head ts ≡ true → rule head t b ts ≡ Some w → W w ≤ max (W t) (max (W b) (weights ts e))

  at_block_light : (rule : Head → (table block : Tree) → Trees → Option Tree) → AskedLight rule → NoHeavier (at_block rule)
  at_block_light rule light (h.Form (rel.Read k)) (more t (more b (more o stop))) w q = light (h.Form (rel.Read k)) t b (one o) w refl q
  at_block_light rule light (h.Form (rel.Write k)) (more t (more b (more o stop))) w q = light (h.Form (rel.Write k)) t b (one o) w refl q
  at_block_light rule light (h.Form rel.Live) (more t (more b stop)) w q = light (h.Form rel.Live) t b stop w refl q
  at_block_light rule light (h.Term op.Len) (more t (more b stop)) w q = light (h.Term op.Len) t b stop w refl q
  at_block_light rule light head ts w q = absurd cc

  grown : AskedLight over_grown
  grown head (node (h.Term op.Grow) (more t (more u stop))) b ts w a k = let c = same_weight (asked head t b ts) w cc in let d = asked_weight head t b ts a in omega (arith, c, d)
  grown head t b ts w a k = absurd cc

  made_light : (x : Option Bool) (l : Layout) (head : Head) (t b : Tree) (ts : Trees) (w : Tree) → asks head ts ≡ true → layout_or_below x (layout_answer l head ts) (asked head t b ts) ≡ Some w → W w ≤ max (W t) (max (W b) (weights ts e))
  made_light None l head t b ts w a k = absurd cc
  made_light (Some true) l head t b ts w a k = let c = same_weight (layout_answer l head ts) w cc in let d = layout_weight l head ts in omega (arith, c, d)
  made_light (Some false) l head t b ts w a k = let c = same_weight (asked head t b ts) w cc in let d = asked_weight head t b ts a in omega (arith, c, d)

  made : AskedLight over_made
  made head (node (h.Term (op.Alloc l)) (more t stop)) b ts w a k = let c = made_light (is_zero_where (past_count (to_lin b) t)) l head t b ts w a k in omega (arith, c)
  made head t b ts w a k = absurd cc

  nowhere : AskedLight over_none
  nowhere head t b ts w a k = let c = same_weight (no_answer head) w (then_some_is (is_no_block t (to_lin b)) (no_answer head) w k).1 in let d = none_weight head in omega (arith, c, d)

  all_light : AllOf NoHeavier memory_rules
  all_light = (load, (store, (count, (grow, (no_growth, (at_block_light over_grown grown, (at_block_light over_made made, (at_block_light over_none nowhere, tt))))))))

  pub memory_light : (head : Head) (ts : Trees) (w : Tree) → memory_step head ts ≡ Some w → W w ≤ W (node head ts)
  memory_light head ts w k = let r = first_one NoHeavier memory_rules all_light head ts w k in r.1.0 head ts w r.1.1

-- ---- what is made of a relation has no quantifier above relations

abbrev Plain : Rule → Type 0
Plain r = (o : FormOp) (ts : Trees) (w : Tree) → r (h.Form o) ts ≡ Some w → quantifiers w ≡ 0

same_count : (t w : Tree) → t ≡ w → quantifiers t ≡ 0 → quantifiers w ≡ 0
same_count t w e k = sym (ap quantifiers e) ∙ k

places_plain : (n s : ℕ) (k : CellKind) (o : Tree) (j : ℕ) (cs : List CellKind) → all_quantifiers (trees_of (are_at_places n s k o j cs)) ≡ 0
places_plain n s k o j [] = refl
places_plain n s k o j (c ∷ cs) = go (same_cell k c) (places_plain n s k o (suc j) cs)
  where
    go : (b : Bool) → all_quantifiers (trees_of (are_at_places n s k o (suc j) cs)) ≡ 0 → all_quantifiers (trees_of (cond b (is_at_place n s o j ∷ are_at_places n s k o (suc j) cs) (are_at_places n s k o (suc j) cs))) ≡ 0
    go true r = omega (arith, r)
    go false r = r

cell_plain : (l : Layout) (k : CellKind) (o : Tree) → quantifiers (has_cell_tree l k o) ≡ 0
cell_plain l k o = places_plain (cell_count l) _ k o 0 l.cells

written_plain : (l : Layout) (k : CellKind) (o : Tree) (b : Bool) → quantifiers (cond b (has_cell_tree l k o) false_tree) ≡ 0
written_plain l k o true = cell_plain l k o
written_plain l k o false = refl

layout_plain : (l : Layout) (o : FormOp) (ts : Trees) → quantifiers (layout_answer l (h.Form o) ts) ≡ 0
layout_plain l (rel.Read k) (more o ts) = cell_plain l k o
layout_plain l (rel.Write k) (more o ts) = written_plain l k o l.writable
layout_plain l rel.Live ts = refl
layout_plain l o ts = refl

abbrev AskedPlain : (Head → (table block : Tree) → Trees → Option Tree) → Type 0
AskedPlain rule = (o : FormOp) (t b : Tree) (ts : Trees) (w : Tree) → rule (h.Form o) t b ts ≡ Some w → quantifiers w ≡ 0

at_block_plain : (rule : Head → (table block : Tree) → Trees → Option Tree) → AskedPlain rule → Plain (at_block rule)
at_block_plain rule plain (rel.Read k) (more t (more b (more o stop))) w q = plain (rel.Read k) t b (one o) w q
at_block_plain rule plain (rel.Write k) (more t (more b (more o stop))) w q = plain (rel.Write k) t b (one o) w q
at_block_plain rule plain rel.Live (more t (more b stop)) w q = plain rel.Live t b stop w q
at_block_plain rule plain o ts w q = absurd cc

grown_plain : AskedPlain over_grown
grown_plain o (node (h.Term op.Grow) (more t (more u stop))) b ts w k = let is : asked (h.Form o) t b ts ≡ w = cc in same_count (asked (h.Form o) t b ts) w is refl
grown_plain o t b ts w k = absurd cc

made_plain : AskedPlain over_made
made_plain o (node (h.Term (op.Alloc l)) (more t stop)) b ts w k = go (is_zero_where (past_count (to_lin b) t)) k
  where
    go : (x : Option Bool) → layout_or_below x (layout_answer l (h.Form o) ts) (asked (h.Form o) t b ts) ≡ Some w → quantifiers w ≡ 0
    go None q = absurd cc
    go (Some true) q = let is : layout_answer l (h.Form o) ts ≡ w = cc in same_count (layout_answer l (h.Form o) ts) w is (layout_plain l o ts)
    go (Some false) q = let is : asked (h.Form o) t b ts ≡ w = cc in same_count (asked (h.Form o) t b ts) w is refl
made_plain o t b ts w k = absurd cc

nowhere_plain : AskedPlain over_none
nowhere_plain o t b ts w k = same_count false_tree w (then_some_is (is_no_block t (to_lin b)) false_tree w k).1 refl

no_relation : (r : Rule) → ((o : FormOp) (ts : Trees) → r (h.Form o) ts ≡ None) → Plain r
no_relation r none o ts w k = let e = none o ts in absurd cc

all_plain : AllOf Plain memory_rules
all_plain = (
  no_relation spec.load_rule (λ o ts. refl),
  (no_relation spec.store_rule (λ o ts. refl), (no_relation spec.count_rule (λ o ts. refl), (no_relation spec.grow_rule (λ o ts. refl), (no_relation spec.no_growth_rule (λ o ts. refl), (at_block_plain over_grown grown_plain, (at_block_plain over_made made_plain, (at_block_plain over_none nowhere_plain, tt))))))),
)

pub memory_plain : (o : FormOp) (ts : Trees) (w : Tree) → memory_step (h.Form o) ts ≡ Some w → quantifiers w ≡ 0
memory_plain o ts w k = let r = first_one Plain memory_rules all_plain (h.Form o) ts w k in r.1.0 o ts w r.1.1
