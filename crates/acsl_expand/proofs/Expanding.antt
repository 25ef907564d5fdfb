-- Trees and their kids as the code has them.
use Rattle.std.proofs.Common.{◌≡◌, ℕ, zero, suc, ◌+◌, ◌<◌, ◌≤◌, ◌==◌, Bool, true, false, ◌&&◌, if◌then◌else◌, List, [], ◌∷◌, ◌++◌, drop, length, eqb, get_or, append-nil, ap, sym, refl, ◌∙◌, ⊎_elim, arith, Result, Ok, Err, IfOk}
use Rattle.std.proofs.lemmas.Bool.{cases_Bool, false≢true}
use Rattle.std.proofs.lemmas.Bool.Decides.{Decides-eqb}
use Rattle.std.proofs.lemmas.List.{at_drop_more, at_drop_all, append_assoc, map_push}
use Rattle.wp_base.specs.declared.memory.NoMemory.{NoMemory}
use Rattle.acsl_trees.specs.declared.heads.Head.{Head}
use Rattle.acsl_trees.specs.declared.heads.Head.TheVariants as hd
use Rattle.acsl_trees.specs.declared.tree.Tree.{Tree as Code, out-Tree, roll-Tree, roll-out-Tree}
use Rattle.acsl_trees.specs.Tree.{Tree, Trees, node, trees_of, view_tree, view_trees}
use Rattle.acsl_trees.proofs.Equations.{view_made}
use Rattle.acsl_expand.specs.declared.parts.Part.{Part}
use Rattle.acsl_expand.specs.declared.parts.Part.TheVariants as part
use Rattle.acsl_expand.specs.Parts.{part_of}
use Rattle.acsl_expand.specs.Expansion.{binds, around_kid, placed, CallTrees, expand, expand_kids}

-- ---- trees

view_whole : (t : Code) → view_tree t ≡ node (out-Tree t).head (trees_of (view_trees (out-Tree t).kids))
view_whole t = ap view_tree (sym (roll-out-Tree t)) ∙ view_made (out-Tree t).head (out-Tree t).kids

module _ (b : CallTrees) (args : List Tree) (base d : ℕ) where
  abbrev opened : Code → Tree
  opened u = expand b args base d (view_tree u)

  abbrev kids_of : Code → Trees
  kids_of u = trees_of (view_trees (out-Tree u).kids)

  name_node : (x : ℕ) (head : Head) (ks : Trees) → part_of head ≡ part.Name x → expand b args base d (node head ks) ≡ placed args base x
  name_node x (hd.Name y) ks is = let e : y ≡ x = cc in ap (placed args base) e
  name_node x _ ks is = absurd cc

  call_node : (f : ℕ) (head : Head) (ks : Trees) → part_of head ≡ part.Call f
      → expand b args base d (node head ks) ≡ b f d (expand_kids b args base d false ks)
  call_node f (hd.Call g) ks is = let e : g ≡ f = cc in ap (λ f. b f d (expand_kids b args base d false ks)) e
  call_node f _ ks is = absurd cc

  other_node : (u : Bool) (head : Head) (ks : Trees) → part_of head ≡ part.Other u
      → expand b args base d (node head ks) ≡ node head (trees_of (expand_kids b args base d u ks))
  other_node u (hd.Name y) ks is = absurd cc
  other_node u (hd.Call g) ks is = absurd cc
  other_node u head ks is = let e : binds head ≡ u = cc in ap (λ u. node head (trees_of (expand_kids b args base d u ks))) e

  pub name_is : (x : ℕ) (p : Part) (u r : Code) → p ≡ part_of (out-Tree u).head → p ≡ part.Name x → view_tree r ≡ placed args base x
      → view_tree r ≡ expand b args base d (view_tree u)
  name_is x p u r of is made = made ∙ sym (name_node x (out-Tree u).head (kids_of u) (sym of ∙ is)) ∙ ap (expand b args base d) (sym (view_whole u))

  pub call_gives : (f : ℕ) (p : Part) (u : Code) (given : List Tree) (r : Result Code NoMemory) → p ≡ part_of (out-Tree u).head → p ≡ part.Call f
      → given ≡ expand_kids b args base d false (kids_of u) → IfOk r (λ t. view_tree t ≡ b f d given) → IfOk r (λ t. view_tree t ≡ opened u)
  call_gives f p u given (Ok t) of is kids made =
      made ∙ ap (b f d) kids ∙ sym (call_node f (out-Tree u).head (kids_of u) (sym of ∙ is)) ∙ ap (expand b args base d) (sym (view_whole u))
  call_gives f p u given (Err e) of is kids made = tt

  pub other_is : (in_binder : Bool) (p : Part) (u : Code) (kids : List Code) → p ≡ part_of (out-Tree u).head → p ≡ part.Other in_binder
      → view_trees kids ≡ expand_kids b args base d in_binder (trees_of (view_trees (out-Tree u).kids))
      → view_tree (roll-Tree (record { head = (out-Tree u).head; kids = kids })) ≡ expand b args base d (view_tree u)
  other_is in_binder p u kids of is made =
      view_made (out-Tree u).head kids ∙ ap (λ ks. node (out-Tree u).head (trees_of ks)) made
      ∙ sym (other_node in_binder (out-Tree u).head (kids_of u) (sym of ∙ is)) ∙ ap (expand b args base d) (sym (view_whole u))

pub ruleset tree_laws = (name_is, other_is)

-- ---- kids

last_kid : (items : List Code) (i d : ℕ) → suc i ≡ length items → around_kid true (trees_of (view_trees (drop (suc i) items))) d ≡ suc d
last_kid [] i d last = absurd (omega (arith, last))
last_kid (x ∷ []) i d last = let e : i ≡ 0 = omega (arith, last) in rw e refl
last_kid (x ∷ y ∷ items) zero d last = absurd (omega (arith, last))
last_kid (x ∷ y ∷ items) (suc i) d last = last_kid (y ∷ items) i d (omega (arith, last))

earlier_kid : (items : List Code) (i d : ℕ) → suc i < length items → around_kid true (trees_of (view_trees (drop (suc i) items))) d ≡ d
earlier_kid [] i d lt = absurd (omega (arith, lt))
earlier_kid (x ∷ []) i d lt = absurd (omega (arith, lt))
earlier_kid (x ∷ y ∷ items) zero d lt = refl
earlier_kid (x ∷ y ∷ items) (suc i) d lt = earlier_kid (y ∷ items) i d (omega (arith, lt))

around_next : (u : Bool) (items : List Code) (i n d inside : ℕ) → i < length items → n ≡ i
    → inside ≡ (if u && n + 1 == length items then d + 1 else d) → around_kid u (trees_of (view_trees (drop (i + 1) items))) d ≡ inside
around_next false items i n d inside lt count is = sym is
around_next true items i n d inside lt count is =
    let next : i + 1 ≡ suc i = omega arith in
    ap (λ k. around_kid true (trees_of (view_trees (drop k items))) d) next
    ∙ ⊎_elim (λ t. last t ((Decides-eqb (n + 1) (length items)).0 t)) earlier (cases_Bool (eqb (n + 1) (length items)))
  where
    last : eqb (n + 1) (length items) ≡ true → n + 1 ≡ length items → around_kid true (trees_of (view_trees (drop (suc i) items))) d ≡ inside
    last t p =
        let q : suc i ≡ length items = omega (arith, p, count) in
        let r : suc d ≡ d + 1 = omega arith in last_kid items i d q ∙ r ∙ sym (is ∙ rw t refl)

    earlier : eqb (n + 1) (length items) ≡ false → around_kid true (trees_of (view_trees (drop (suc i) items))) d ≡ inside
    earlier x =
        let e : n + 1 ≡ length items → ⊥ = λ e. false≢true (sym x ∙ (Decides-eqb (n + 1) (length items)).1 e) in
        let q : suc i < length items = grind (arith, lt, count, e) in earlier_kid items i d q ∙ sym (is ∙ rw x refl)

module _ (b : CallTrees) (args : List Tree) (base d : ℕ) (u : Bool) where
  abbrev rest : List Code → List Tree
  rest items = expand_kids b args base d u (trees_of (view_trees items))

  pub kid_turn : (items done done' : List Code) (i inside : ℕ) (x r : Code) (whole : List Tree)
      → i < length items → x ≡ get_or items i x → length done ≡ i
      → inside ≡ (if u && length done + 1 == length items then d + 1 else d)
      → view_tree r ≡ expand b args base inside (view_tree x) → done' ≡ done ++ r ∷ []
      → view_trees done ++ rest (drop i items) ≡ whole → view_trees done' ++ rest (drop (i + 1) items) ≡ whole
  kid_turn items done done' i inside x r whole lt is count within made pushed so_far =
      let k = around_next u items i (length done) d inside lt count within in
      ap (λ us. view_trees us ++ rest (drop (i + 1) items)) pushed ∙ ap (λ ts. ts ++ rest (drop (i + 1) items)) (map_push view_tree done r)
      ∙ append_assoc (view_trees done) (view_tree r ∷ []) (rest (drop (i + 1) items)) ∙ ap (λ t. view_trees done ++ t ∷ rest (drop (i + 1) items)) made
      ∙ ap (λ n. view_trees done ++ expand b args base n (view_tree x) ∷ rest (drop (i + 1) items)) (sym k)
      ∙ ap (λ y. view_trees done ++ rest (y ∷ drop (i + 1) items)) is ∙ sym (at_drop_more (λ us. view_trees done ++ rest us) items i x lt) ∙ so_far

  pub kids_done : (items done : List Code) (i : ℕ) (whole : List Tree) → length items ≤ i
      → view_trees done ++ rest (drop i items) ≡ whole → view_trees done ≡ whole
  kids_done items done i whole all so_far =
      sym (append-nil (view_trees done)) ∙ sym (at_drop_all (λ us. view_trees done ++ rest us) items i all) ∙ so_far

pub ruleset kid_laws = (kid_turn, kids_done)
