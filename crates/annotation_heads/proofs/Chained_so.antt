-- Chains and regions, in the words of the code.
use Rattle.std.proofs.Common.{◌≡◌, ◌<◌, ◌≤◌, ℕ, zero, suc, ◌+◌, ◌-◌, List, [], ◌∷◌, ◌++◌, drop, map, length, min, get_or, refl, sym, ap, ◌∙◌, append_assoc, append-nil, arith}
use Rattle.std.specs.Prelude.{Option, Some, None}
use Rattle.std.proofs.lemmas.List.{drop_more, drop_all, map-append, length-map}
use Rattle.acsl_trees.specs.declared.heads.Head.{Head}
use Rattle.acsl_trees.specs.declared.heads.Head.TheVariants as hd
use Rattle.acsl_trees.specs.declared.tree.Tree.{Tree as Code, out-Tree, roll-out-Tree}
use Rattle.acsl_trees.specs.Tree.{node, trees_of, view_tree, view_trees}
use Rattle.acsl_trees.proofs.Equations.{view_made}
use Rattle.c_runs.specs.Truth.{heads_of, head_of}
use Rattle.qed_terms.specs.declared.term.Formula.{Formula}
use Rattle.qed_terms.specs.declared.term.Formula.TheVariants as formula
use Rattle.qed_terms.proofs.Equations.{formula_tree-True}
use Rattle.qed_terms.specs.Tree.{Tree as Term, and_of}
use Rattle.qed_terms.specs.View.{formula_tree}
use Rattle.acsl_encode.specs.Readings.{Terms, integer, truth, address, variable, elements, region, nothing}
use Rattle.acsl_encode.specs.Encode.{all_of, on_two, both, put, linked, all_linked, in_chain, terms_at, apart, apart_all, pairs_apart}
use Rattle.annotation_heads.specs.declared.chains.Link.{Link}
use Rattle.annotation_heads.specs.Chained.{link_of, linked_by, Cells, cells_in, apart_cells}
use Rattle.annotation_heads.specs.View.{view_terms}
use Rattle.annotation_heads.specs.declared.terms.Terms as code

-- ---- trees in memory

pub view_whole : (t : Code) → view_tree t ≡ node (out-Tree t).head (trees_of (view_trees (out-Tree t).kids))
view_whole t = ap view_tree (sym (roll-out-Tree t)) ∙ view_made (out-Tree t).head (out-Tree t).kids

pub head_is : (t : Code) → head_of (view_tree t) ≡ (out-Tree t).head
head_is t = ap head_of (view_whole t)

-- ---- several as one

none_of : (fs : List Formula) → length fs ≡ 0 → formula_tree formula.True ≡ all_of (map formula_tree fs)
none_of [] e = formula_tree-True
none_of (f ∷ fs) e = absurd (omega (arith, e))

pub no_part : (fs gs : List Formula) → gs ≡ fs → length gs ≡ 0 → formula_tree formula.True ≡ all_of (map formula_tree fs)
no_part fs gs same e = none_of gs e ∙ ap (λ hs. all_of (map formula_tree hs)) same

one_of : (f : Formula) (fs : List Formula) → length fs ≤ 1 → (length fs ≡ 0 → ⊥) → f ≡ get_or fs 0 f → formula_tree f ≡ all_of (map formula_tree fs)
one_of f [] few some is = absurd (some refl)
one_of f (g ∷ []) few some is = ap formula_tree is
one_of f (g ∷ h ∷ fs) few some is = absurd (omega (arith, few))

pub only_part : (f : Formula) (fs gs : List Formula) → length fs ≤ 1 → gs ≡ fs → (length gs ≡ 0 → ⊥) → f ≡ get_or gs 0 f
    → formula_tree f ≡ all_of (map formula_tree fs)
only_part f fs gs few same some is =
    one_of f fs few (λ none. some (ap length same ∙ none)) (is ∙ ap (λ hs. get_or hs 0 f) same)

pub many_parts : (fs : List Formula) → 1 < length fs → and_of (map formula_tree fs) ≡ all_of (map formula_tree fs)
many_parts [] h = absurd (omega (arith, h))
many_parts (f ∷ []) h = absurd (omega (arith, h))
many_parts (f ∷ g ∷ fs) h = refl

-- ---- pairs of values

pub pair_first : {X Y : Type 0} (f : X → X → Y) (o o' : Option X) → None ≡ o → None ≡ on_two f o o'
pair_first f o o' e = ap (λ p. on_two f p o') e

pub pair_second : {X Y : Type 0} (f : X → X → Y) (o o' : Option X) (x : X) → Some x ≡ o → None ≡ o' → None ≡ on_two f o o'
pair_second f o o' x e k = λ i. on_two f (e i) (k i)

pub pair_given : {X Y : Type 0} (f : X → X → Y) (o o' : Option X) (x y : X) (z : Y) → Some x ≡ o → Some y ≡ o' → z ≡ f x y → Some z ≡ on_two f o o'
pair_given f o o' x y z e k h = ap Some h ∙ (λ i. on_two f (e i) (k i))

pub ruleset pair_laws = (pair_first, pair_second, pair_given)

-- ---- one more part

part_added : (ds : List Term) (f : Term) (o : Option (List Term)) → put (Some (ds ++ f ∷ [])) o ≡ put (Some ds) (both (Some f) o)
part_added ds f (Some ys) = ap Some (append_assoc ds (f ∷ []) ys)
part_added ds f None = refl

none_added : (ds : List Term) → put (Some ds) (Some []) ≡ Some ds
none_added ds = ap Some (append-nil ds)

-- ---- chains

linked_so : (l : Head) (x y : Terms) → linked l x y ≡ linked_by (link_of l) x y
linked_so (hd.Link c) x y = refl
linked_so (hd.LinkPointers c) x y = refl
linked_so _ x y = refl

head_at : (links : List Code) (i : ℕ) (u : Code) (d : Head) → i < length links → u ≡ get_or links i u
    → get_or (heads_of (trees_of (view_trees links))) i d ≡ (out-Tree u).head
head_at [] i u d lt is = absurd (omega (arith, lt))
head_at (x ∷ xs) zero u d lt is = head_is x ∙ ap (λ v. (out-Tree v).head) (sym is)
head_at (x ∷ xs) (suc i) u d lt is = head_at xs i u d (omega (arith, lt)) is

heads_long : (links : List Code) → length (heads_of (trees_of (view_trees links))) ≡ length links
heads_long [] = refl
heads_long (x ∷ xs) = ap suc (heads_long xs)

pub view_at : (kids : List code.Terms) (i : ℕ) (x : code.Terms) → i < length kids → x ≡ get_or kids i x → terms_at (map view_terms kids) i ≡ view_terms x
view_at [] i x lt is = absurd (omega (arith, lt))
view_at (y ∷ ys) zero x lt is = ap view_terms (sym is)
view_at (y ∷ ys) (suc i) x lt is = view_at ys i x (omega (arith, lt)) is

-- links from a place on
abbrev pub links_from : List Head → List Terms → ℕ → Option (List Term)
links_from ls xs i = all_linked (terms_at xs (i - 1)) (drop i ls) (drop i xs)

from_first : (ls : List Head) (xs : List Terms) → links_from ls xs 1 ≡ in_chain ls xs
from_first [] [] = refl
from_first [] (x ∷ xs) = refl
from_first (l ∷ []) [] = refl
from_first (l ∷ l' ∷ ls) [] = refl
from_first (l ∷ ls) (x ∷ xs) = refl

link_next : (ls : List Head) (xs : List Terms) (i : ℕ) → 1 ≤ i → i < length ls → i < length xs
    → links_from ls xs i ≡ both (linked (get_or ls i hd.Null) (terms_at xs (i - 1)) (terms_at xs i)) (links_from ls xs (i + 1))
link_next ls xs i some lt lu =
    let same : i ≡ (i + 1) - 1 = omega arith in
    (λ j. all_linked (terms_at xs (i - 1)) (drop_more ls i hd.Null lt j) (drop_more xs i nothing lu j))
    ∙ ap (λ n. both (linked (get_or ls i hd.Null) (terms_at xs (i - 1)) (terms_at xs i)) (all_linked (terms_at xs n) (drop (i + 1) ls) (drop (i + 1) xs))) same

module _ (links : List Code) (kids : List code.Terms) where
  abbrev heads : List Head
  heads = heads_of (trees_of (view_trees links))

  abbrev values : List Terms
  values = map view_terms kids

  linked_at : (i : ℕ) (u : Code) (x y : code.Terms) → 1 ≤ i → i < length links → i < length kids → u ≡ get_or links i u → x ≡ get_or kids (i - 1) x
      → y ≡ get_or kids i y
      → links_from heads values i ≡ both (linked_by (link_of (out-Tree u).head) (view_terms x) (view_terms y)) (links_from heads values (i + 1))
  linked_at i u x y some lt lu isu isx isy =
      let long = heads_long links in
      let wide = length-map kids view_terms in
      let l = head_at links i u hd.Null lt isu in
      let a = view_at kids (i - 1) x (omega (arith, lu)) isx in
      let b = view_at kids i y lu isy in
      link_next heads values i some (omega (arith, lt, long)) (omega (arith, lu, wide))
      ∙ (λ j. both (linked (l j) (a j) (b j)) (links_from heads values (i + 1)))
      ∙ ap (λ o. both o (links_from heads values (i + 1))) (linked_so (out-Tree u).head (view_terms x) (view_terms y))

  pub chain_start : put (Some []) (links_from heads values 1) ≡ in_chain heads values
  chain_start = by (links_from heads values 1) ∙ from_first heads values where
    by : (o : Option (List Term)) → put (Some []) o ≡ o
    by (Some ys) = refl
    by None = refl

  pub chain_turn : (done done' : List Formula) (i : ℕ) (u : Code) (l : Link) (x y : code.Terms) (f : Formula) (whole : Option (List Term)) → 1 ≤ i
      → i < length links → i < length kids → u ≡ get_or links i u → l ≡ link_of (out-Tree u).head → x ≡ get_or kids (i - 1) x → y ≡ get_or kids i y
      → Some (formula_tree f) ≡ linked_by l (view_terms x) (view_terms y) → done' ≡ done ++ f ∷ []
      → put (Some (map formula_tree done)) (links_from heads values i) ≡ whole → put (Some (map formula_tree done')) (links_from heads values (i + 1)) ≡ whole
  chain_turn done done' i u l x y f whole some lt lu isu isl isx isy made pushed so =
      ap (λ fs. put (Some (map formula_tree fs)) (links_from heads values (i + 1))) pushed
      ∙ ap (λ fs. put (Some fs) (links_from heads values (i + 1))) (map-append formula_tree done (f ∷ []))
      ∙ part_added (map formula_tree done) (formula_tree f) (links_from heads values (i + 1))
      ∙ ap (λ o. put (Some (map formula_tree done)) (both o (links_from heads values (i + 1)))) (made ∙ ap (λ m. linked_by m (view_terms x) (view_terms y)) isl)
      ∙ ap (put (Some (map formula_tree done))) (sym (linked_at i u x y some lt lu isu isx isy)) ∙ so

  pub chain_stop : (done : List Formula) (i : ℕ) (u : Code) (l : Link) (x y : code.Terms) (whole : Option (List Term)) → 1 ≤ i → i < length links
      → i < length kids → u ≡ get_or links i u → l ≡ link_of (out-Tree u).head → x ≡ get_or kids (i - 1) x → y ≡ get_or kids i y
      → None ≡ linked_by l (view_terms x) (view_terms y) → put (Some (map formula_tree done)) (links_from heads values i) ≡ whole → None ≡ whole
  chain_stop done i u l x y whole some lt lu isu isl isx isy made so =
      ap (λ o. put (Some (map formula_tree done)) (both o (links_from heads values (i + 1)))) (made ∙ ap (λ m. linked_by m (view_terms x) (view_terms y)) isl)
      ∙ ap (put (Some (map formula_tree done))) (sym (linked_at i u x y some lt lu isu isx isy)) ∙ so

  no_links : (ls : List Head) (xs : List Terms) (x : Terms) (i : ℕ) → min (length ls) (length xs) ≤ i → all_linked x (drop i ls) (drop i xs) ≡ Some []
  no_links [] xs x zero le = refl
  no_links [] xs x (suc i) le = refl
  no_links (l ∷ ls) [] x zero le = refl
  no_links (l ∷ ls) (y ∷ ys) x zero le = absurd (omega (arith, le))
  no_links (l ∷ ls) [] x (suc i) le = by (drop i ls) where
    by : (ls : List Head) → all_linked x ls [] ≡ Some []
    by [] = refl
    by (l ∷ ls) = refl
  no_links (l ∷ ls) (y ∷ ys) x (suc i) le = no_links ls ys x i (omega (arith, le))

  pub chain_end : (done : List Formula) (i : ℕ) (whole : Option (List Term)) → min (length links) (length kids) ≤ i
      → put (Some (map formula_tree done)) (links_from heads values i) ≡ whole → Some (map formula_tree done) ≡ whole
  chain_end done i whole le so =
      let long = heads_long links in
      let wide = length-map kids view_terms in
      let all : min (length heads) (length values) ≤ i = omega (arith, le, long, wide) in
      sym (none_added (map formula_tree done)) ∙ ap (put (Some (map formula_tree done))) (sym (no_links heads values (terms_at values (i - 1)) i all)) ∙ so

-- ---- regions

pub first_no_cells : (x y : Terms) → None ≡ cells_in x → None ≡ apart x y
first_no_cells (region cs b l h) y e = absurd (cc e)
first_no_cells (integer k t) y e = refl
first_no_cells (truth f) y e = refl
first_no_cells (address b o) y e = refl
first_no_cells (variable v) y e = refl
first_no_cells (elements b o n l h) y e = refl
first_no_cells nothing y e = refl

pub second_no_cells : (x y : Terms) (a : Cells) → Some a ≡ cells_in x → None ≡ cells_in y → None ≡ apart x y
second_no_cells (region cs b l h) (region cs' b' l' h') a e k = absurd (cc k)
second_no_cells (region cs b l h) (integer k' t) a e k = refl
second_no_cells (region cs b l h) (truth f) a e k = refl
second_no_cells (region cs b l h) (address b' o) a e k = refl
second_no_cells (region cs b l h) (variable v) a e k = refl
second_no_cells (region cs b l h) (elements b' o n l' h') a e k = refl
second_no_cells (region cs b l h) nothing a e k = refl
second_no_cells (integer k' t) y a e k = refl
second_no_cells (truth f) y a e k = refl
second_no_cells (address b o) y a e k = refl
second_no_cells (variable v) y a e k = refl
second_no_cells (elements b o n l h) y a e k = refl
second_no_cells nothing y a e k = refl

abbrev cells_or : Cells → Option Cells → Cells
cells_or d (Some c) = c
cells_or d None = d

same_cells : (a b : Cells) → Some a ≡ Some b → a ≡ b
same_cells a b e = ap (cells_or a) e

pub both_cells : (x y : Terms) (a b : Cells) (f : Term) → Some a ≡ cells_in x → Some b ≡ cells_in y → f ≡ apart_cells a b → Some f ≡ apart x y
both_cells (region cs b l h) (region cs' b' l' h') a c f e k made =
    let p = same_cells a (record { block = b; low = l; high = h }) e in
    let q = same_cells c (record { block = b'; low = l'; high = h' }) k in
    ap Some (made ∙ (λ i. apart_cells (p i) (q i)))
both_cells (region cs b l h) (integer k' t) a c f e k made = absurd (cc k)
both_cells (region cs b l h) (truth g) a c f e k made = absurd (cc k)
both_cells (region cs b l h) (address b' o) a c f e k made = absurd (cc k)
both_cells (region cs b l h) (variable v) a c f e k made = absurd (cc k)
both_cells (region cs b l h) (elements b' o n l' h') a c f e k made = absurd (cc k)
both_cells (region cs b l h) nothing a c f e k made = absurd (cc k)
both_cells (integer k' t) y a c f e k made = absurd (cc e)
both_cells (truth g) y a c f e k made = absurd (cc e)
both_cells (address b o) y a c f e k made = absurd (cc e)
both_cells (variable v) y a c f e k made = absurd (cc e)
both_cells (elements b o n l h) y a c f e k made = absurd (cc e)
both_cells nothing y a c f e k made = absurd (cc e)

pub ruleset apart_laws = (first_no_cells, second_no_cells, both_cells)

-- those behind a place
module _ (regions : List code.Terms) where
  abbrev cells : List Terms
  cells = map view_terms regions

  others_at : (p i : ℕ) (x y : code.Terms) → p < length regions → i < length regions → x ≡ get_or regions p x → y ≡ get_or regions i y
      → apart_all (terms_at cells p) (drop i cells) ≡ both (apart (view_terms x) (view_terms y)) (apart_all (terms_at cells p) (drop (i + 1) cells))
  others_at p i x y lt lu isx isy =
      let wide = length-map regions view_terms in
      (λ j. apart_all (terms_at cells p) (drop_more cells i nothing (omega (arith, lu, wide)) j))
      ∙ (λ j. both (apart (view_at regions p x lt isx j) (view_at regions i y lu isy j)) (apart_all (terms_at cells p) (drop (i + 1) cells)))

  pub other_turn : (done done' : List Formula) (p i : ℕ) (x y : code.Terms) (f : Formula) (whole : Option (List Term)) → p < length regions
      → i < length regions → x ≡ get_or regions p x → y ≡ get_or regions i y → Some (formula_tree f) ≡ apart (view_terms x) (view_terms y)
      → done' ≡ done ++ f ∷ [] → put (Some (map formula_tree done)) (apart_all (terms_at cells p) (drop i cells)) ≡ whole
      → put (Some (map formula_tree done')) (apart_all (terms_at cells p) (drop (i + 1) cells)) ≡ whole
  other_turn done done' p i x y f whole lt lu isx isy made pushed so =
      ap (λ fs. put (Some (map formula_tree fs)) (apart_all (terms_at cells p) (drop (i + 1) cells))) pushed
      ∙ ap (λ fs. put (Some fs) (apart_all (terms_at cells p) (drop (i + 1) cells))) (map-append formula_tree done (f ∷ []))
      ∙ part_added (map formula_tree done) (formula_tree f) (apart_all (terms_at cells p) (drop (i + 1) cells))
      ∙ ap (λ o. put (Some (map formula_tree done)) (both o (apart_all (terms_at cells p) (drop (i + 1) cells)))) made
      ∙ ap (put (Some (map formula_tree done))) (sym (others_at p i x y lt lu isx isy)) ∙ so

  pub other_stop : (done : List Formula) (p i : ℕ) (x y : code.Terms) (whole : Option (List Term)) → p < length regions → i < length regions
      → x ≡ get_or regions p x → y ≡ get_or regions i y → None ≡ apart (view_terms x) (view_terms y)
      → put (Some (map formula_tree done)) (apart_all (terms_at cells p) (drop i cells)) ≡ whole → None ≡ whole
  other_stop done p i x y whole lt lu isx isy made so =
      ap (λ o. put (Some (map formula_tree done)) (both o (apart_all (terms_at cells p) (drop (i + 1) cells)))) made
      ∙ ap (put (Some (map formula_tree done))) (sym (others_at p i x y lt lu isx isy)) ∙ so

  pub other_end : (done : List Formula) (p i : ℕ) (whole : Option (List Term)) → length regions ≤ i
      → put (Some (map formula_tree done)) (apart_all (terms_at cells p) (drop i cells)) ≡ whole → Some (map formula_tree done) ≡ whole
  other_end done p i whole le so =
      let wide = length-map regions view_terms in
      sym (none_added (map formula_tree done))
      ∙ ap (λ xs. put (Some (map formula_tree done)) (apart_all (terms_at cells p) xs)) (sym (drop_all i cells (omega (arith, le, wide)))) ∙ so

  pairs_at : (i : ℕ) → i < length regions → pairs_apart (drop i cells) ≡ put (apart_all (terms_at cells i) (drop (i + 1) cells)) (pairs_apart (drop (i + 1) cells))
  pairs_at i lt = let wide = length-map regions view_terms in ap pairs_apart (drop_more cells i nothing (omega (arith, lt, wide)))

  put_both : (ds : List Term) (o o' : Option (List Term)) → put (put (Some ds) o) o' ≡ put (Some ds) (put o o')
  put_both ds (Some xs) (Some ys) = ap Some (append_assoc ds xs ys)
  put_both ds (Some xs) None = refl
  put_both ds None o' = refl

  pub pair_turn : (done done' : List Formula) (i : ℕ) (whole : Option (List Term)) → i < length regions
      → Some (map formula_tree done') ≡ put (Some (map formula_tree done)) (apart_all (terms_at cells i) (drop (i + 1) cells))
      → put (Some (map formula_tree done)) (pairs_apart (drop i cells)) ≡ whole → put (Some (map formula_tree done')) (pairs_apart (drop (i + 1) cells)) ≡ whole
  pair_turn done done' i whole lt made so =
      ap (λ o. put o (pairs_apart (drop (i + 1) cells))) made
      ∙ put_both (map formula_tree done) (apart_all (terms_at cells i) (drop (i + 1) cells)) (pairs_apart (drop (i + 1) cells))
      ∙ ap (put (Some (map formula_tree done))) (sym (pairs_at i lt)) ∙ so

  pub pair_stop : (done : List Formula) (i : ℕ) (whole : Option (List Term)) → i < length regions
      → None ≡ put (Some (map formula_tree done)) (apart_all (terms_at cells i) (drop (i + 1) cells))
      → put (Some (map formula_tree done)) (pairs_apart (drop i cells)) ≡ whole → None ≡ whole
  pair_stop done i whole lt made so =
      ap (λ o. put o (pairs_apart (drop (i + 1) cells))) made
      ∙ put_both (map formula_tree done) (apart_all (terms_at cells i) (drop (i + 1) cells)) (pairs_apart (drop (i + 1) cells))
      ∙ ap (put (Some (map formula_tree done))) (sym (pairs_at i lt)) ∙ so

  pub pair_end : (done : List Formula) (i : ℕ) (whole : Option (List Term)) → length regions ≤ i
      → put (Some (map formula_tree done)) (pairs_apart (drop i cells)) ≡ whole → Some (map formula_tree done) ≡ whole
  pair_end done i whole le so =
      let wide = length-map regions view_terms in
      sym (none_added (map formula_tree done)) ∙ ap (λ xs. put (Some (map formula_tree done)) (pairs_apart xs)) (sym (drop_all i cells (omega (arith, le, wide)))) ∙ so

  pub pair_start : put (Some []) (pairs_apart cells) ≡ pairs_apart cells
  pair_start = by (pairs_apart cells) where
    by : (o : Option (List Term)) → put (Some []) o ≡ o
    by (Some ys) = refl
    by None = refl
