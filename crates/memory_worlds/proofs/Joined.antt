-- Joining, in the words of the code.
use Rattle.std.proofs.Common.{◌≡◌, ◌≤◌, ◌<◌, ℕ, zero, suc, ◌+◌, Bool, true, false, cond, not, List, [], ◌∷◌, ◌++◌, map, take, drop, length, min, ◌⊎◌, Option, inl, inr, ⊎_elim, get_or, refl, sym, ap, ◌∙◌, append_assoc, arith, length-append}
use Rattle.std.proofs.lemmas.List.{at_drop_more, at_drop_all, take-map}
use Rattle.qed_terms.specs.declared.term.Formula.{Formula}
use Rattle.qed_terms.specs.Fresh.{Used}
use Rattle.qed_terms.specs.Order.{same}
use Rattle.qed_terms.specs.Tree.{Tree, true_tree, and_of, or_of}
use Rattle.qed_terms.specs.View.{formula_tree}
use Rattle.walk_steps.specs.Join.{Split, split, in_front, all_of}
use Rattle.memory_steps.specs.State.{Base}
use Rattle.memory_steps.specs.Forms.{Slots, slots_of}
use Rattle.memory_steps.specs.World.{world, pick, after_pick, after_picks, or_own, chosen}
use Rattle.memory_steps.specs.Join.{picks, links, link, common, count_pick, side_links, table_with, last_table, join}
use Rattle.memory_worlds.specs.declared.joins.Rests.{Rests}
use Rattle.memory_worlds.specs.Joins.{SlotsJoin}

-- ---- the common front

abbrev front_length : List Tree → List Tree → ℕ
front_length fs gs = length (split fs gs).front

abbrev cut : List Tree → List Tree → ℕ → Split
cut fs gs n = record { front = take n fs; left = drop n fs; right = drop n gs }

split_cut : (fs gs : List Tree) → split fs gs ≡ cut fs gs (front_length fs gs)
split_cut [] gs = refl
split_cut (f ∷ fs) [] = refl
split_cut (f ∷ fs) (g ∷ gs) = by (same f g) (split_cut fs gs)
  where
    by : (b : Bool) → split fs gs ≡ cut fs gs (front_length fs gs)
        → cond b (in_front f (split fs gs)) (record { front = []; left = f ∷ fs; right = g ∷ gs }) ≡ cut (f ∷ fs) (g ∷ gs) (length (cond b (in_front f (split fs gs)) (record { front = []; left = f ∷ fs; right = g ∷ gs })).front)
    by true h = ap (in_front f) h
    by false h = refl

pub map_drop : {X Y : Type 0} (f : X → Y) (n : ℕ) (xs : List X) → map f (drop n xs) ≡ drop n (map f xs)
map_drop f zero xs = refl
map_drop f (suc n) [] = refl
map_drop f (suc n) (x ∷ xs) = map_drop f n xs

pub split_at : (fs gs front left right : List Formula) (n : ℕ) → n ≡ length (split (map formula_tree fs) (map formula_tree gs)).front → front ≡ take n fs → left ≡ drop n fs → right ≡ drop n gs
    → split (map formula_tree fs) (map formula_tree gs) ≡ record { front = map formula_tree front; left = map formula_tree left; right = map formula_tree right }
split_at fs gs front left right n e a b c =
    split_cut (map formula_tree fs) (map formula_tree gs) ∙ ap (cut (map formula_tree fs) (map formula_tree gs)) (sym e)
    ∙ (λ i. record { front = take-map formula_tree n fs i; left = sym (map_drop formula_tree n fs) i; right = sym (map_drop formula_tree n gs) i })
    ∙ (λ i. record { front = map formula_tree (sym a i); left = map formula_tree (sym b i); right = map formula_tree (sym c i) })

front_cons : (f g : Tree) (fs gs : List Tree) → front_length (f ∷ fs) (g ∷ gs) ≡ cond (same f g) (suc (front_length fs gs)) 0
front_cons f g fs gs = by (same f g)
  where
    by : (b : Bool) → length (cond b (in_front f (split fs gs)) (record { front = []; left = f ∷ fs; right = g ∷ gs })).front ≡ cond b (suc (front_length fs gs)) 0
    by true = refl
    by false = refl

-- one step of the count
pub front_more : (fs gs : List Formula) (i : ℕ) (f g : Formula) (b : Bool) → i < length fs → i < length gs → f ≡ get_or fs i f → g ≡ get_or gs i g → b ≡ same (formula_tree f) (formula_tree g)
    → front_length (map formula_tree (drop i fs)) (map formula_tree (drop i gs)) ≡ cond b (suc (front_length (map formula_tree (drop (i + 1) fs)) (map formula_tree (drop (i + 1) gs)))) 0
front_more fs gs i f g b lt lu e d s =
    let rest = map formula_tree (drop (i + 1) fs) in
    let others = map formula_tree (drop (i + 1) gs) in
    at_drop_more (λ xs. front_length (map formula_tree xs) (map formula_tree (drop i gs))) fs i f lt
    ∙ at_drop_more (λ ys. front_length (formula_tree (get_or fs i f) ∷ rest) (map formula_tree ys)) gs i g lu
    ∙ front_cons (formula_tree (get_or fs i f)) (formula_tree (get_or gs i g)) rest others
    ∙ ap (λ t. cond t (suc (front_length rest others)) 0) ((λ j. same (formula_tree (sym e j)) (formula_tree (sym d j))) ∙ sym s)

pub front_left : (fs gs : List Formula) (i : ℕ) → length fs ≤ i → front_length (map formula_tree (drop i fs)) (map formula_tree (drop i gs)) ≡ 0
front_left fs gs i le = at_drop_all (λ xs. front_length (map formula_tree xs) (map formula_tree (drop i gs))) fs i le

nothing : (fs : List Tree) → front_length fs [] ≡ 0
nothing [] = refl
nothing (f ∷ fs) = refl

pub front_right : (fs gs : List Formula) (i : ℕ) → length gs ≤ i → front_length (map formula_tree (drop i fs)) (map formula_tree (drop i gs)) ≡ 0
front_right fs gs i le = at_drop_all (λ ys. front_length (map formula_tree (drop i fs)) (map formula_tree ys)) gs i le ∙ nothing (map formula_tree (drop i fs))

-- ---- slots

-- one pair of slots, and those to come
module _ (c d : Used) (b : Base) (bs rb : List Base) (s t : Tree) (ss ts rs rt : List Tree) (eb : rb ≡ b ∷ bs) (e : rs ≡ s ∷ ss) (f : rt ≡ t ∷ ts) (u : d ≡ after_pick c b (pick c b (not (same s t)))) where
  abbrev name : Option Tree
  name = pick c b (not (same s t))

  abbrev next : Used
  next = after_pick c b name

  pub chosen_next : (before after : List Tree) (v : Tree) → v ≡ or_own name s → after ≡ before ++ v ∷ [] → after ++ chosen (picks bs d ss ts) ss ≡ before ++ chosen (picks rb c rs rt) rs
  chosen_next before after v h k =
      (λ i. k i ++ chosen (picks bs (u i) ss ts) ss) ∙ append_assoc before (v ∷ []) _ ∙ ap (λ x. before ++ x ∷ chosen (picks bs next ss ts) ss) h
      ∙ (λ i. before ++ chosen (picks (sym eb i) c (sym e i) (sym f i)) (sym e i))

  pub left_next : (before after : List Tree) → after ≡ before ++ link b name s → after ++ links bs (picks bs d ss ts) ss ≡ before ++ links rb (picks rb c rs rt) rs
  left_next before after k =
      (λ i. k i ++ links bs (picks bs (u i) ss ts) ss) ∙ append_assoc before (link b name s) _ ∙ (λ i. before ++ links (sym eb i) (picks (sym eb i) c (sym e i) (sym f i)) (sym e i))

  pub right_next : (before after : List Tree) → after ≡ before ++ link b name t → after ++ links bs (picks bs d ss ts) ts ≡ before ++ links rb (picks rb c rs rt) rt
  right_next before after k =
      (λ i. k i ++ links bs (picks bs (u i) ss ts) ts) ∙ append_assoc before (link b name t) _ ∙ (λ i. before ++ links (sym eb i) (picks (sym eb i) c (sym e i) (sym f i)) (sym f i))

  pub used_next : after_picks bs (picks bs d ss ts) d ≡ after_picks rb (picks rb c rs rt) c
  used_next = (λ i. after_picks bs (picks bs (u i) ss ts) (u i)) ∙ (λ i. after_picks (sym eb i) (picks (sym eb i) c (sym e i) (sym f i)) c)

no_first : (bs : List Base) (c : Used) (us : List Tree) → picks bs c [] us ≡ []
no_first [] c us = refl
no_first (b ∷ bs) c us = refl

no_second : (bs : List Base) (c : Used) (ts : List Tree) → picks bs c ts [] ≡ []
no_second [] c ts = refl
no_second (b ∷ bs) c [] = refl
no_second (b ∷ bs) c (t ∷ ts) = refl

le_or_lt : (m n : ℕ) → (m ≤ n) ⊎ (n < m)
le_or_lt zero n = inl (omega arith)
le_or_lt (suc m) zero = inr (omega arith)
le_or_lt (suc m) (suc n) = ⊎_elim (λ h. inl (omega arith)) (λ h. inr (omega arith)) (le_or_lt m n)

pub past : (k l m i : ℕ) → min k (min l m) ≤ i → (k ≤ i) ⊎ ((l ≤ i) ⊎ (m ≤ i))
past k l m i h = ⊎_elim (λ a. inl a) (λ a. inr (⊎_elim (λ b. inl b) (λ b. inr (omega (arith, h, a, b))) (le_or_lt l i))) (le_or_lt k i)

pub at_end : (k l i : ℕ) → min k l ≤ i → (k ≤ i) ⊎ (l ≤ i)
at_end k l i h = ⊎_elim (λ a. inl a) (λ a. inr (omega (arith, h, a))) (le_or_lt k i)

-- past the end of one of them nothing is to come
pub none_ahead : {X Y Z : Type 0} (v : Z → Base) (f : X → Tree) (g : Y → Tree) (c : Used) (bs : List Z) (ss : List X) (ts : List Y) (i : ℕ) → min (length bs) (min (length ss) (length ts)) ≤ i
    → picks (map v (drop i bs)) c (map f (drop i ss)) (map g (drop i ts)) ≡ []
none_ahead v f g c bs ss ts i h = ⊎_elim
    (λ k. at_drop_all (λ xs. picks (map v xs) c (map f (drop i ss)) (map g (drop i ts))) bs i k)
    (λ k. ⊎_elim
    (λ k. at_drop_all (λ xs. picks (map v (drop i bs)) c (map f xs) (map g (drop i ts))) ss i k ∙ no_first (map v (drop i bs)) c (map g (drop i ts)))
    (λ k. at_drop_all (λ xs. picks (map v (drop i bs)) c (map f (drop i ss)) (map g xs)) ts i k ∙ no_second (map v (drop i bs)) c (map f (drop i ss))) k)
    (past (length bs) (length ss) (length ts) i h)

pub no_links : (bs : List Base) (ts : List Tree) → links bs [] ts ≡ []
no_links bs ts = refl

-- ---- worlds

pub joined : (bs : List Base) (c d : Used) (known₁ known₂ : List Tree) (front : List Formula) (old new : Rests) (s t v : Slots) (f : Tree) (known : List Tree)
    → record { front = map formula_tree front; left = map formula_tree old.left.items; right = map formula_tree old.right.items } ≡ split known₁ known₂
    → SlotsJoin bs c s t v old new d → f ≡ or_of (all_of (map formula_tree new.left.items) ∷ all_of (map formula_tree new.right.items) ∷ []) → known ≡ map formula_tree front ++ f ∷ []
    → world known v ≡ join bs c (world known₁ s) (world known₂ t)
joined bs c d known₁ known₂ front old new s t v f known cut h e k =
    let ps = picks bs c s.terms t.terms in
    let p = count_pick (after_picks bs ps c) s.table t.table in
    let trail = common s.trail t.trail in
    let slots = slots_of (chosen ps s.terms) (table_with p s.table (last_table s.table trail)) trail in
    (λ i. world (k i) (h.slots i)) ∙ (λ i. world (map formula_tree front ++ e i ∷ []) slots)
    ∙ (λ i. world (map formula_tree front ++ or_of (all_of (h.left i) ∷ all_of (h.right i) ∷ []) ∷ []) slots)
    ∙ ap (λ (x : Split). world (x.front ++ or_of (all_of (x.left ++ side_links bs ps p s) ∷ all_of (x.right ++ side_links bs ps p t) ∷ []) ∷ []) slots) cut

-- one part, or none
pub alone : (fs : List Formula) (f : Formula) → fs ≡ f ∷ [] → all_of (map formula_tree fs) ≡ formula_tree f
alone fs f e = ap (λ fs. all_of (map formula_tree fs)) e

pub no_part : (fs : List Formula) → length fs ≡ 0 → all_of (map formula_tree fs) ≡ true_tree
no_part [] h = refl
no_part (f ∷ fs) h = absurd (omega arith)

pub only_part : (fs gs : List Formula) (f : Formula) → length fs ≤ 1 → fs ≡ gs ++ f ∷ [] → all_of (map formula_tree fs) ≡ formula_tree f
only_part fs [] f h e = alone fs f e
only_part fs (g ∷ gs) f h e = absurd (omega (arith, ap length e, length-append gs (f ∷ [])))

pub many_parts : (fs : List Formula) → 1 < length fs → all_of (map formula_tree fs) ≡ and_of (map formula_tree fs)
many_parts [] h = absurd (omega arith)
many_parts (f ∷ []) h = absurd (omega arith)
many_parts (f ∷ g ∷ fs) h = refl
