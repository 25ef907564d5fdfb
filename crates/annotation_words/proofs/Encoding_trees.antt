-- Trees and their kids, in the words of the code.
use Rattle.std.proofs.Common.{◌≡◌, ◌<◌, ◌≤◌, ◌==◌, ℕ, zero, suc, ◌+◌, ◌-◌, Bool, true, false, if◌then◌else◌, List, [], ◌∷◌, ◌++◌, drop, map, length, get_or, refl, sym, ap, ◌∙◌, append_assoc, append-nil, length-append, arith}
use Rattle.std.specs.Prelude.{Option, None}
use Rattle.std.proofs.lemmas.Bool.{false≢true}
use Rattle.plain_runs.proofs.Scopes.{on_bool}
use Rattle.std.proofs.lemmas.Bool.Decides.{Decides-eqb}
use Rattle.std.proofs.lemmas.List.{at_drop_more, at_drop_all, map-append}
use Rattle.c_kinds.specs.declared.models.Machdep.{Machdep}
use Rattle.acsl_trees.specs.declared.heads.Label.{Label}
use Rattle.acsl_trees.specs.declared.heads.BinderPlace.{BinderPlace}
use Rattle.acsl_trees.specs.declared.heads.Range.{Range}
use Rattle.acsl_trees.specs.declared.heads.Range.TheVariants as range
use Rattle.acsl_trees.specs.declared.heads.Head.{Head}
use Rattle.acsl_trees.specs.declared.heads.Head.TheVariants as hd
use Rattle.acsl_trees.specs.declared.tree.Tree.{Tree as Code, out-Tree}
use Rattle.acsl_trees.specs.Tree.{Trees, trees_of, view_tree, view_trees}
use Rattle.c_runs.specs.Truth.{heads_of}
use Rattle.qed_terms.specs.Tree.{var}
use Rattle.acsl_encode.specs.Readings.{Reading, Terms, integer, nothing, moved_to}
use Rattle.acsl_encode.specs.Encode as encode
use Rattle.acsl_encode.specs.Encode.{Kids, Names, terms_at, first, last_of, with_name, node_terms, encoded, all_encoded, binders, Ends, ends_of, as_integer, as_formula, kind_of, quantified}
use Rattle.annotation_heads.specs.declared.terms.Terms as code
use Rattle.annotation_words.specs.declared.parts.Part.{Part}
use Rattle.annotation_words.specs.declared.parts.Part.TheVariants as part
use Rattle.annotation_words.specs.declared.parts.Over.{Over}
use Rattle.annotation_words.specs.declared.parts.Over.TheVariants as over
use Rattle.annotation_words.specs.Parts.{part_of, made_over}
use Rattle.annotation_words.specs.Encoded.{names_in, tree_terms, kids_terms, last_under, let_terms, bound_terms}
use Rattle.annotation_heads.specs.Nodes.{between, quantifier}
use Rattle.annotation_heads.specs.View.{view_terms}
use Rattle.annotation_heads.proofs.Chained_so.{view_whole}

abbrev kids_of : Code → Trees
kids_of u = trees_of (view_trees (out-Tree u).kids)

-- ---- trees, by what becomes of their nodes

module _ (r : Reading) (ns : Names) (i d : ℕ) (ls : List Head) (kids : Kids) where
  name_node : (x : ℕ) (head : Head) → part_of head ≡ part.Name x → ns x ≡ node_terms r ns i d head ls kids
  name_node x (hd.Name y) is = let e : x ≡ y = cc in ap ns e
  name_node x _ is = absurd cc

  at_node : (l : Label) (head : Head) → part_of head ≡ part.At l → first (kids (moved_to l r) ns i d) ≡ node_terms r ns i d head ls kids
  at_node l (hd.At k) is = let e : l ≡ k = cc in ap (λ k. first (kids (moved_to k r) ns i d)) e
  at_node l _ is = absurd cc

  let_node : (head : Head) → part_of head ≡ part.Let → last_of (kids r (with_name d (first (kids r ns i d)) ns) i (suc d)) ≡ node_terms r ns i d head ls kids
  let_node hd.Let is = refl
  let_node _ is = absurd cc

  abbrev bound_node_terms : (is_every : Bool) → Range → Terms
  bound_node_terms e g = quantified (quantifier e (r.common.binder i)) (ends_of r.common.model g (kids r ns (suc i) d)) (as_formula (encode.body_of kids r ns i d g))

  bound_node : (e : Bool) (g : Range) (head : Head) → part_of head ≡ part.Bound e g → bound_node_terms e g ≡ node_terms r ns i d head ls kids
  bound_node e g (hd.Every k) is = let p : e ≡ true = cc in let q : g ≡ k = cc in λ j. bound_node_terms (p j) (q j)
  bound_node e g (hd.Some k) is = let p : e ≡ false = cc in let q : g ≡ k = cc in λ j. bound_node_terms (p j) (q j)
  bound_node e g _ is = absurd cc

  no_table : (x : List ℕ) (writable : Bool) (ks : List _) (y : Terms) → nothing ≡ encode.valid x writable ks None y
  no_table x writable ks (integer k t) = refl
  no_table x writable ks _ = refl

  valid_node : (head : Head) → part_of head ≡ part.Valid → r.here.table ≡ None → nothing ≡ node_terms r ns i d head ls kids
  valid_node (hd.Valid c writable) is none =
      let y = first (kids r ns (i + encode.own_binders (hd.Valid c writable) ls) d) in
      no_table (r.common.binder i) writable (encode.content_cells r.common c) y
      ∙ ap (λ t. encode.valid (r.common.binder i) writable (encode.content_cells r.common c) t y) (sym none)
  valid_node _ is none = absurd cc

  over_node : (o : Over) (head : Head) → part_of head ≡ part.Over o → made_over r o head ls (kids r ns i d) ≡ node_terms r ns i d head ls kids
  over_node o (hd.Name x) is = absurd cc
  over_node o (hd.At l) is = absurd cc
  over_node o hd.Let is = absurd cc
  over_node o (hd.Every g) is = absurd cc
  over_node o (hd.Some g) is = absurd cc
  over_node o (hd.Valid c writable) is = absurd cc
  over_node o (hd.Call f) is = let e : o ≡ over.Call f = cc in ap (λ o. made_over r o (hd.Call f) ls (kids r ns i d)) e
  over_node o hd.Chain is = let e : o ≡ over.Chain = cc in ap (λ o. made_over r o hd.Chain ls (kids r ns i d)) e
  over_node o hd.Separated is = let e : o ≡ over.Separated = cc in ap (λ o. made_over r o hd.Separated ls (kids r ns i d)) e
  over_node o (hd.Region c) is = let e : o ≡ over.Region c = cc in ap (λ o. made_over r o (hd.Region c) ls (kids r ns i d)) e
  over_node o head is = let e : o ≡ over.Plain = cc in ap (λ o. made_over r o head ls (kids r ns i d)) e

module _ (r : Reading) (ns : List code.Terms) (i : ℕ) where
  abbrev node_of : Code → Terms
  node_of u = node_terms r (names_in ns) i (length ns) (out-Tree u).head (heads_of (kids_of u)) (λ r' ns' i' d'. all_encoded r' ns' i' d' (kids_of u))

  whole_node : (u : Code) → tree_terms r ns i (view_tree u) ≡ node_of u
  unfolding tree_terms
  whole_node u = ap (encoded r (names_in ns) i (length ns)) (view_whole u)

  abbrev kids_in : Code → Kids
  kids_in u = λ r' ns' i' d'. all_encoded r' ns' i' d' (kids_of u)

  pub name_is : (p : Part) (x : ℕ) (u : Code) (t : Terms) → p ≡ part_of (out-Tree u).head → p ≡ part.Name x → t ≡ names_in ns x → t ≡ tree_terms r ns i (view_tree u)
  name_is p x u t of is made =
      made ∙ name_node r (names_in ns) i (length ns) (heads_of (kids_of u)) (kids_in u) x (out-Tree u).head (sym of ∙ is) ∙ sym (whole_node u)

  pub at_is : (p : Part) (l : Label) (u : Code) (t : Terms) → p ≡ part_of (out-Tree u).head → p ≡ part.At l
      → t ≡ terms_at (kids_terms (moved_to l r) ns i (kids_of u)) 0 → t ≡ tree_terms r ns i (view_tree u)
  unfolding kids_terms
  at_is p l u t of is made =
      made ∙ at_node r (names_in ns) i (length ns) (heads_of (kids_of u)) (kids_in u) l (out-Tree u).head (sym of ∙ is) ∙ sym (whole_node u)

  pub let_is : (p : Part) (u : Code) (t : Terms) → p ≡ part_of (out-Tree u).head → p ≡ part.Let → t ≡ let_terms r ns i (kids_of u)
      → t ≡ tree_terms r ns i (view_tree u)
  unfolding kids_terms last_under let_terms
  let_is p u t of is made =
      made ∙ let_node r (names_in ns) i (length ns) (heads_of (kids_of u)) (kids_in u) (out-Tree u).head (sym of ∙ is) ∙ sym (whole_node u)

  pub bound_is : (p : Part) (e : Bool) (g : Range) (u : Code) (t : Terms) → p ≡ part_of (out-Tree u).head → p ≡ part.Bound e g
      → t ≡ bound_terms e g r ns i (kids_of u) → t ≡ tree_terms r ns i (view_tree u)
  unfolding kids_terms last_under bound_terms
  bound_is p e g u t of is made =
      made ∙ bound_node r (names_in ns) i (length ns) (heads_of (kids_of u)) (kids_in u) e g (out-Tree u).head (sym of ∙ is) ∙ sym (whole_node u)

  pub valid_is : (p : Part) (u : Code) → p ≡ part_of (out-Tree u).head → p ≡ part.Valid → r.here.table ≡ None → nothing ≡ tree_terms r ns i (view_tree u)
  valid_is p u of is none =
      valid_node r (names_in ns) i (length ns) (heads_of (kids_of u)) (kids_in u) (out-Tree u).head (sym of ∙ is) none ∙ sym (whole_node u)

  pub over_is : (p : Part) (o : Over) (u : Code) (xs : List Terms) (t : Terms) → p ≡ part_of (out-Tree u).head → p ≡ part.Over o
      → xs ≡ kids_terms r ns i (kids_of u) → t ≡ made_over r o (out-Tree u).head (heads_of (kids_of u)) xs → t ≡ tree_terms r ns i (view_tree u)
  unfolding kids_terms
  over_is p o u xs t of is kids made =
      made ∙ ap (made_over r o (out-Tree u).head (heads_of (kids_of u))) kids
      ∙ over_node r (names_in ns) i (length ns) (heads_of (kids_of u)) (kids_in u) o (out-Tree u).head (sym of ∙ is) ∙ sym (whole_node u)

pub ruleset tree_laws = (name_is, at_is, let_is, bound_is, valid_is, over_is)

-- ---- kids

module _ (r : Reading) (ns : List code.Terms) where
  abbrev rest : ℕ → List Code → List Terms
  rest i us = kids_terms r ns i (trees_of (view_trees us))

  rest_more : (i : ℕ) (u : Code) (us : List Code) → rest i (u ∷ us) ≡ tree_terms r ns i (view_tree u) ∷ rest (i + binders (view_tree u)) us
  unfolding kids_terms tree_terms
  rest_more i u us = refl

  rest_none : (i : ℕ) → rest i [] ≡ []
  unfolding kids_terms
  rest_none i = refl

  rest_at : (kids : List Code) (j i i' : ℕ) (k : Code) → j < length kids → k ≡ get_or kids j k → i' ≡ i + binders (view_tree k)
      → rest i (drop j kids) ≡ tree_terms r ns i (view_tree k) ∷ rest i' (drop (j + 1) kids)
  rest_at kids j i i' k lt is next =
      at_drop_more (rest i) kids j k lt ∙ rest_more i (get_or kids j k) (drop (j + 1) kids)
      ∙ ap (λ u. tree_terms r ns i (view_tree u) ∷ rest (i + binders (view_tree u)) (drop (j + 1) kids)) (sym is)
      ∙ ap (λ n. tree_terms r ns i (view_tree k) ∷ rest n (drop (j + 1) kids)) (sym next)

  pub kids_turn : (kids : List Code) (done done' : List code.Terms) (j i i' : ℕ) (k : Code) (t : code.Terms) (whole : List Terms) → j < length kids
      → k ≡ get_or kids j k → view_terms t ≡ tree_terms r ns i (view_tree k) → done' ≡ done ++ t ∷ [] → i' ≡ i + binders (view_tree k)
      → map view_terms done ++ rest i (drop j kids) ≡ whole → map view_terms done' ++ rest i' (drop (j + 1) kids) ≡ whole
  kids_turn kids done done' j i i' k t whole lt is made pushed next so =
      ap (λ ts. map view_terms ts ++ rest i' (drop (j + 1) kids)) pushed
      ∙ ap (λ ts. ts ++ rest i' (drop (j + 1) kids)) (map-append view_terms done (t ∷ []))
      ∙ append_assoc (map view_terms done) (view_terms t ∷ []) (rest i' (drop (j + 1) kids))
      ∙ ap (λ x. map view_terms done ++ x ∷ rest i' (drop (j + 1) kids)) made
      ∙ ap (λ xs. map view_terms done ++ xs) (sym (rest_at kids j i i' k lt is next)) ∙ so

  pub kids_end : (kids : List Code) (done : List code.Terms) (j i : ℕ) (whole : List Terms) → length kids ≤ j
      → map view_terms done ++ rest i (drop j kids) ≡ whole → map view_terms done ≡ whole
  kids_end kids done j i whole all so =
      sym (append-nil (map view_terms done)) ∙ ap (λ xs. map view_terms done ++ xs) (sym (at_drop_all (rest i) kids j all ∙ rest_none i)) ∙ so

  pub place_found : (kids : List Code) (j i left : ℕ) (k : Code) (t whole : Terms) → j < length kids → k ≡ get_or kids j k → left ≡ 0
      → t ≡ tree_terms r ns i (view_tree k) → terms_at (rest i (drop j kids)) left ≡ whole → t ≡ whole
  place_found kids j i left k t whole lt is none made so =
      made ∙ ap (λ xs. terms_at xs 0) (sym (rest_at kids j i (i + binders (view_tree k)) k lt is refl)) ∙ ap (terms_at (rest i (drop j kids))) (sym none) ∙ so

  pub place_turn : (kids : List Code) (j i i' left : ℕ) (k : Code) (whole : Terms) → j < length kids → k ≡ get_or kids j k → (left ≡ 0 → ⊥)
      → i' ≡ i + binders (view_tree k) → terms_at (rest i (drop j kids)) left ≡ whole → terms_at (rest i' (drop (j + 1) kids)) (left - 1) ≡ whole
  place_turn kids j i i' zero k whole lt is some next so = absurd (some refl)
  place_turn kids j i i' (suc left) k whole lt is some next so =
      let less : suc left - 1 ≡ left = omega arith in
      ap (terms_at (rest i' (drop (j + 1) kids))) less ∙ ap (λ xs. terms_at xs (suc left)) (sym (rest_at kids j i i' k lt is next)) ∙ so

  pub place_end : (kids : List Code) (j i left : ℕ) (whole : Terms) → length kids ≤ j → terms_at (rest i (drop j kids)) left ≡ whole → nothing ≡ whole
  place_end kids j i left whole all so = ap (λ xs. terms_at xs left) (sym (at_drop_all (rest i) kids j all ∙ rest_none i)) ∙ so

-- ---- names

behind_here : (ns : List code.Terms) (t : code.Terms) → names_in (ns ++ t ∷ []) (length ns) ≡ view_terms t
behind_here [] t = refl
behind_here (y ∷ ys) t = behind_here ys t

behind_else : (ns : List code.Terms) (t : code.Terms) (x : ℕ) → (x ≡ length ns → ⊥) → names_in (ns ++ t ∷ []) x ≡ names_in ns x
behind_else [] t zero other = absurd (other refl)
behind_else [] t (suc x) other = refl
behind_else (y ∷ ys) t zero other = refl
behind_else (y ∷ ys) t (suc x) other = behind_else ys t x (λ e. other (ap suc e))

name_behind : (ns : List code.Terms) (t : code.Terms) (x : ℕ) → names_in (ns ++ t ∷ []) x ≡ with_name (length ns) (view_terms t) (names_in ns) x
name_behind ns t x = on_bool (x == length ns)
    (λ e. ap (names_in (ns ++ t ∷ [])) ((Decides-eqb x (length ns)).0 e) ∙ behind_here ns t ∙ ap (λ b. if b then view_terms t else names_in ns x) (sym e))
    (λ e. behind_else ns t x (λ same. false≢true (sym e ∙ (Decides-eqb x (length ns)).1 same))
    ∙ ap (λ b. if b then view_terms t else names_in ns x) (sym e))

encoded_long : (r : Reading) (ns : Names) (i d : ℕ) (us : List Code) → length (all_encoded r ns i d (trees_of (view_trees us))) ≡ length us
encoded_long r ns i d [] = refl
encoded_long r ns i d (u ∷ us) = ap suc (encoded_long r ns (i + binders (view_tree u)) d us)

module _ (r : Reading) (ns : List code.Terms) (i : ℕ) (kids : List Code) where
  abbrev trees : Trees
  trees = trees_of (view_trees kids)

  pub last_made : (inside : List code.Terms) (name : code.Terms) (place : ℕ) (t : Terms) → inside ≡ ns ++ name ∷ [] → place ≡ length kids - 1
      → t ≡ terms_at (kids_terms r inside i trees) place → t ≡ last_under r ns i (view_terms name) trees
  unfolding kids_terms last_under
  last_made inside name place t is last made =
      let long : length (ns ++ name ∷ []) ≡ suc (length ns) = length-append ns (name ∷ []) ∙ omega arith in
      let names = with_name (length ns) (view_terms name) (names_in ns) in
      made ∙ (λ j. terms_at (all_encoded r (names_in (is j)) i (length (is j)) trees) (last j))
      ∙ (λ j. terms_at (all_encoded r (λ x. name_behind ns name x j) i (long j) trees) (length kids - 1))
      ∙ ap (λ n. terms_at (all_encoded r names i (suc (length ns)) trees) (n - 1)) (sym (encoded_long r names i (suc (length ns)) kids))

  pub let_made : (value : code.Terms) (t : Terms) → view_terms value ≡ terms_at (kids_terms r ns i trees) 0 → t ≡ last_under r ns i (view_terms value) trees
      → t ≡ let_terms r ns i trees
  unfolding let_terms
  let_made value t e made = made ∙ ap (λ x. last_under r ns i x trees) e

  pub bound_made : (e : Bool) (g : Range) (inside : ℕ) (n b t : Terms) (ends : Option Ends) → inside ≡ i + 1
      → n ≡ integer (kind_of g) (var (r.common.binder i)) → b ≡ last_under r ns inside n trees → ends ≡ ends_of r.common.model g (kids_terms r ns inside trees)
      → t ≡ quantified (quantifier e (r.common.binder i)) ends (as_formula b) → t ≡ bound_terms e g r ns i trees
  unfolding bound_terms
  bound_made e g inside n b t ends next bound body range made =
      let one : inside ≡ suc i = omega (arith, next) in
      made ∙ (λ j. quantified (quantifier e (r.common.binder i)) (range j) (as_formula (body j)))
      ∙ (λ j. quantified (quantifier e (r.common.binder i)) (ends_of r.common.model g (kids_terms r ns (one j) trees)) (as_formula (last_under r ns (one j) (bound j) trees)))

-- ---- ends of ranges

pub ends_of_two : (m : Machdep) (p q : Bool) (place : BinderPlace) (o : Option Ends) (x y : Terms) (xs : List Terms) → x ≡ terms_at xs 0 → y ≡ terms_at xs 1
    → o ≡ between p q (as_integer x) (as_integer y) → o ≡ ends_of m (range.Between p q place) xs
ends_of_two m p q place o x y xs e h made = made ∙ (λ i. between p q (as_integer (e i)) (as_integer (h i)))
