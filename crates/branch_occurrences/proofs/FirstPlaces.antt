-- Trees at their first places, by places of a table.
use Rattle.std.proofs.Common.{◌≡◌, ℕ, zero, suc, ◌+◌, ◌<◌, ◌≤◌, ◌==◌, Bool, true, false, ◌||◌, cond, List, [], ◌∷◌, ◌++◌, map, take, drop, length, get_or, All, append_assoc, refl, sym, ◌∙◌, ap, subst, arith, eqb-true, eq-eqb}
use Rattle.std.proofs.lemmas.List.{map_push}
use Rattle.std.proofs.lemmas.List.Elements.{All-head, All-tail, All-push}
use Rattle.std.specs.Prelude.{Option}
use Rattle.qed_terms.specs.declared.head.Head.{Head}
use Rattle.qed_terms.specs.Order.{same}
use Rattle.qed_terms.specs.Tree.{Tree}
use Rattle.qed_terms.proofs.Total.{same_itself, same_exact}
use Rattle.qed_rules.specs.Rules.{among, drop_repeats}
use Rattle.tree_places.specs.Tables.{Node, tree_at, IsTable, Grows}
use Rattle.tree_places.proofs.Nodes.{once, older, map_same, below_more}
use Rattle.branch_occurrences.specs.Marked.{holds, AreMarked}

holds_more : (k p : ℕ) (ps : List ℕ) → holds k (ps ++ p ∷ []) ≡ ((k == p) || holds k ps)
holds_more k p [] = refl
holds_more k p (q ∷ ps) = ap (λ b. (k == q) || b) (holds_more k p ps) ∙ turned (k == q) (k == p) (holds k ps)
  where
    turned : (a b c : Bool) → (a || (b || c)) ≡ (b || (a || c))
    turned true true c = refl
    turned true false c = refl
    turned false b c = refl

pub none_marked : {Id : Type 0} (tree : Id → Tree) (ns : List Node) → AreMarked tree ns [] []
none_marked tree ns = record {
  places = [];
  below = λ k d l. absurd (omega (arith, l));
  trees = refl;
  marked = λ k. refl;
}

module _ (ns : List Node) (number : Head → Option ℕ) (find : List ℕ → Option ℕ) (t : IsTable ns number find) where
  same_there : (p q : ℕ) → p < length ns → q < length ns → same (tree_at ns p) (tree_at ns q) ≡ (p == q)
  same_there p q a b = go (p == q) refl
    where
      go : (v : Bool) → (p == q) ≡ v → same (tree_at ns p) (tree_at ns q) ≡ v
      go true e = ap (λ k. same (tree_at ns p) (tree_at ns k)) (sym (eqb-true p q e)) ∙ same_itself (tree_at ns p)
      go false e = no (same (tree_at ns p) (tree_at ns q)) refl
        where
          no : (w : Bool) → same (tree_at ns p) (tree_at ns q) ≡ w → w ≡ false
          no true f = let d = eq-eqb p q (once ns number find t p q a b (same_exact (tree_at ns p) (tree_at ns q) f)) in absurd cc
          no false f = refl

  among_places : (p : ℕ) (ps : List ℕ) → p < length ns → All (λ k. k < length ns) ps → among (tree_at ns p) (map (tree_at ns) ps) ≡ holds p ps
  among_places p [] a b = refl
  among_places p (q ∷ ps) a b =
      let first = same_there p q a (All-head (λ k. k < length ns) q ps b) in
      let rest = among_places p ps a (All-tail (λ k. k < length ns) q ps b) in
      λ i. first i || rest i

  -- a mark tells whether the tree is among those that were kept
  pub mark_tells : {Id : Type 0} (tree : Id → Tree) (left : List Id) (marks : List Bool) (p : ℕ) (b : Bool) → AreMarked tree ns left marks → p < length ns → b ≡ get_or marks p false
      → among (tree_at ns p) (map tree left) ≡ b
  mark_tells tree left marks p b r l e = ap (among (tree_at ns p)) (sym r.trees) ∙ among_places p r.places l r.below ∙ sym (r.marked p) ∙ sym e

-- ---- where the table grows

module _ (ns ms : List Node) (number : Head → Option ℕ) (find : List ℕ → Option ℕ) (t : IsTable ns number find) (g : Grows ns ms) where
  pub still_marked : {Id : Type 0} (tree : Id → Tree) (left : List Id) (marks : List Bool) → AreMarked tree ns left marks → AreMarked tree ms left marks
  still_marked tree left marks r = record {
    places = r.places;
    below = longer;
    trees = map_same (tree_at ms) (tree_at ns) r.places (λ k d l. older ns ms t.all g (get_or r.places k d) (r.below k d l)) ∙ r.trees;
    marked = r.marked;
  }
    where
      longer : All (λ k. k < length ms) r.places
      longer k d l = let b = r.below k d l in let m = long in omega (arith, b, m)
        where
          long : length ns ≤ length ms
          long = let e = ap length g.1 ∙ size ns g.0 in omega (arith, e)
            where
              size : (xs ys : List Node) → length (xs ++ ys) ≡ length xs + length ys
              size [] ys = omega arith
              size (x ∷ xs) ys = let e = size xs ys in omega (arith, e)

-- one more is kept, and its place marked
pub one_marked : {Id : Type 0} (tree : Id → Tree) (ns : List Node) (left : List Id) (marks now : List Bool) (p : ℕ) (x : Id) → AreMarked tree ns left marks → p < length ns → tree_at ns p ≡ tree x
    → ((k : ℕ) → get_or now k false ≡ ((k == p) || get_or marks k false)) → AreMarked tree ns (left ++ x ∷ []) now
one_marked tree ns left marks now p x r l e m = record {
  places = r.places ++ p ∷ [];
  below = below_more ns ns ([], sym (none ns)) r.places p r.below l;
  trees = map_push (tree_at ns) r.places p ∙ (λ i. r.trees i ++ e i ∷ []) ∙ sym (map_push tree left x);
  marked = λ k. m k ∙ ap (λ b. (k == p) || b) (r.marked k) ∙ sym (holds_more k p r.places);
}
  where
    none : (xs : List Node) → xs ++ [] ≡ xs
    none [] = refl
    none (y ∷ ys) = ap (λ zs. y ∷ zs) (none ys)

take_one : {A : Type 0} (xs : List A) (i : ℕ) (x : A) → i < length xs → x ≡ get_or xs i x → take (i + 1) xs ≡ take i xs ++ x ∷ []
take_one xs i x k e = (let m : i + 1 ≡ suc i = omega arith in ap (λ n. take n xs) m) ∙ go xs i k ∙ ap (λ y. take i xs ++ y ∷ []) (sym e)
  where
    go : (ys : List _) (j : ℕ) → j < length ys → take (suc j) ys ≡ take j ys ++ get_or ys j x ∷ []
    go [] j k = absurd (omega (arith, k))
    go (y ∷ ys) zero k = refl
    go (y ∷ ys) (suc j) k = ap (λ zs. y ∷ zs) (go ys j (omega (arith, k)))

-- the first ids are marked, and one more
pub mark_more : {Id : Type 0} (tree : Id → Tree) (ns ms : List Node) (number : Head → Option ℕ) (find : List ℕ → Option ℕ) → IsTable ns number find → Grows ns ms
    → (ids : List Id) (i : ℕ) (x : Id) (p : ℕ) (marks now : List Bool) → i < length ids → x ≡ get_or ids i x → AreMarked tree ns (take i ids) marks → p < length ms → tree_at ms p ≡ tree x
    → ((k : ℕ) → get_or now k false ≡ ((k == p) || get_or marks k false)) → AreMarked tree ms (take (i + 1) ids) now
mark_more tree ns ms number find t g ids i x p marks now k e r l is m =
    subst (λ us. AreMarked tree ms us now) (sym (take_one ids i x k e)) (one_marked tree ms (take i ids) marks now p x (still_marked ns ms number find t g tree (take i ids) marks r) l is m)

-- ---- a loop: what was kept, and of what is to come what isn't among it

module _ {Id : Type 0} (tree : Id → Tree) where
  abbrev pub RestIs : (left ids : List Id) (i : ℕ) (whole : List Tree) → Type 0
  RestIs left ids i whole = map tree left ++ drop_repeats (map tree left) (map tree (drop i ids)) ≡ whole

  cut : (ys : List Id) (j : ℕ) (x : Id) → j < length ys → x ≡ get_or ys j x → drop j ys ≡ x ∷ drop (j + 1) ys
  cut ys j x k e = go ys j k ∙ ap (λ y. y ∷ drop (suc j) ys) (sym e) ∙ (let m : suc j ≡ j + 1 = omega arith in ap (λ n. x ∷ drop n ys) m)
    where
      go : (ys : List Id) (j : ℕ) → j < length ys → drop j ys ≡ get_or ys j x ∷ drop (suc j) ys
      go [] j k = absurd (omega (arith, k))
      go (y ∷ ys) zero k = refl
      go (y ∷ ys) (suc j) k = go ys j (omega (arith, k))

  pub passed_over : (left ids : List Id) (i : ℕ) (x : Id) (whole : List Tree) → i < length ids → x ≡ get_or ids i x → among (tree x) (map tree left) ≡ true → RestIs left ids i whole → RestIs left ids (i + 1) whole
  passed_over left ids i x whole k e a r =
      let rest = drop_repeats (map tree left) (map tree (drop (i + 1) ids)) in
      ap (λ b. map tree left ++ cond b rest (tree x ∷ drop_repeats (map tree left ++ tree x ∷ []) (map tree (drop (i + 1) ids)))) (sym a)
      ∙ ap (λ us. map tree left ++ drop_repeats (map tree left) (map tree us)) (sym (cut ids i x k e)) ∙ r

  pub kept_one : (left ids : List Id) (i : ℕ) (x : Id) (whole : List Tree) → i < length ids → x ≡ get_or ids i x → among (tree x) (map tree left) ≡ false → RestIs left ids i whole → RestIs (left ++ x ∷ []) ids (i + 1) whole
  kept_one left ids i x whole k e a r =
      let more = map tree left ++ tree x ∷ [] in
      let pushed = map_push tree left x in
      let rest = drop_repeats (map tree left ++ tree x ∷ []) (map tree (drop (i + 1) ids)) in
      (λ j. pushed j ++ drop_repeats (pushed j) (map tree (drop (i + 1) ids)))
      ∙ append_assoc (map tree left) (tree x ∷ []) rest
      ∙ ap (λ b. map tree left ++ cond b (drop_repeats (map tree left) (map tree (drop (i + 1) ids))) (tree x ∷ rest)) (sym a)
      ∙ ap (λ us. map tree left ++ drop_repeats (map tree left) (map tree us)) (sym (cut ids i x k e)) ∙ r

  pub rest_done : (left ids : List Id) (i : ℕ) (whole : List Tree) → length ids ≤ i → RestIs left ids i whole → map tree left ≡ whole
  rest_done left ids i whole k r = sym (no_more (map tree left)) ∙ ap (λ us. map tree left ++ drop_repeats (map tree left) (map tree us)) (sym (none ids i k)) ∙ r
    where
      no_more : (xs : List Tree) → xs ++ [] ≡ xs
      no_more [] = refl
      no_more (y ∷ ys) = ap (λ zs. y ∷ zs) (no_more ys)

      none : (ys : List Id) (j : ℕ) → length ys ≤ j → drop j ys ≡ []
      none [] zero k = refl
      none [] (suc j) k = refl
      none (y ∷ ys) zero k = absurd (omega (arith, k))
      none (y ∷ ys) (suc j) k = none ys j (omega (arith, k))

-- ---- a pass of the loop: one tree more, at its place

pub record Passed {Id : Type 0} (tree : Id → Tree) (ms : List Node) (ids : List Id) (i : ℕ) (whole : List Tree) (left : List Id) (marks : List Bool) : Type 0 where
  pub marked : AreMarked tree ms left marks
  pub rest : RestIs tree left ids (i + 1) whole

module _ {Id : Type 0} (tree : Id → Tree) (ns ms : List Node) (number number' : Head → Option ℕ) (find find' : List ℕ → Option ℕ)
    (t : IsTable ns number find) (t' : IsTable ms number' find') (g : Grows ns ms) (ids : List Id) (i : ℕ) (x : Id) (p : ℕ) (whole : List Tree)
    (k : i < length ids) (e : x ≡ get_or ids i x) (l : p < length ms) (is : tree_at ms p ≡ tree x) where
  pub one_pass : (left now : List Id) (marks marks' : List Bool) → AreMarked tree ns left marks → RestIs tree left ids i whole
      → (get_or marks p false ≡ true → (marks' ≡ marks) × (now ≡ left))
      → (get_or marks p false ≡ false → (j : ℕ) → get_or marks' j false ≡ ((j == p) || get_or marks j false)) → (get_or marks p false ≡ false → now ≡ left ++ x ∷ [])
      → Passed tree ms ids i whole now marks'
  one_pass left now marks marks' r rest there new_marks new_left = go (get_or marks p false) refl
    where
      older_marks : AreMarked tree ms left marks
      older_marks = still_marked ns ms number find t g tree left marks r

      go : (b : Bool) → get_or marks p false ≡ b → Passed tree ms ids i whole now marks'
      go true q =
          let same = there q in
          let told = ap (λ u. among u (map tree left)) (sym is) ∙ mark_tells ms number' find' t' tree left marks p true older_marks l (sym q) in
          record {
            marked = subst (λ m. AreMarked tree ms now m) (sym same.0) (subst (λ n. AreMarked tree ms n marks) (sym same.1) older_marks);
            rest = subst (λ n. RestIs tree n ids (i + 1) whole) (sym same.1) (passed_over tree left ids i x whole k e told rest);
          }
      go false q =
          let told = ap (λ u. among u (map tree left)) (sym is) ∙ mark_tells ms number' find' t' tree left marks p false older_marks l (sym q) in
          record {
            marked = subst (λ n. AreMarked tree ms n marks') (sym (new_left q)) (one_marked tree ms left marks marks' p x older_marks l is (new_marks q));
            rest = subst (λ n. RestIs tree n ids (i + 1) whole) (sym (new_left q)) (kept_one tree left ids i x whole k e told rest);
          }

-- what is kept is held
pub all_held : {Id : Type 0} (held : Id → Type 0) (left now : List Id) (marks marks' : List Bool) (p : ℕ) (x : Id) → All held left → held x
    → (get_or marks p false ≡ true → (marks' ≡ marks) × (now ≡ left)) → (get_or marks p false ≡ false → now ≡ left ++ x ∷ []) → All held now
all_held held left now marks marks' p x a h there new = go (get_or marks p false) refl
  where
    go : (b : Bool) → get_or marks p false ≡ b → All held now
    go true q = subst (All held) (sym (there q).1) a
    go false q = subst (All held) (sym (new q)) (All-push held left x a h)
