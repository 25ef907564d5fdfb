-- Nodes gathered one formula after another.
use Rattle.std.proofs.Common.{◌≡◌, ℕ, zero, suc, ◌+◌, ◌<◌, ◌≤◌, true, false, List, [], ◌∷◌, ◌++◌, map, drop, length, get_or, append_assoc, refl, sym, ◌∙◌, ap, arith}
use Rattle.qed_terms.specs.Nodes.{kids_of}
use Rattle.qed_terms.specs.Tree.{Tree, node, Trees, stop, more, head_of, list_of}
use Rattle.qed_rules.specs.Rules.{drop_repeats}
use Rattle.same_terms.specs.SameTerms.{is_binder}
use Rattle.instance_rows.specs.Occurrences.{nodes_in, nodes_in_all, nodes_among}

kids_nodes : (ts : Trees) → nodes_in_all ts ≡ nodes_among (list_of ts)
kids_nodes stop = refl
kids_nodes (more t ts) = ap (λ us. nodes_in t ++ us) (kids_nodes ts)

no_more : {A : Type 0} (xs : List A) → xs ++ [] ≡ xs
no_more [] = refl
no_more (x ∷ xs) = ap (λ ys. x ∷ ys) (no_more xs)

pub among_append : (fs gs : List Tree) → nodes_among (fs ++ gs) ≡ nodes_among fs ++ nodes_among gs
among_append [] gs = refl
among_append (f ∷ fs) gs = ap (λ us. nodes_in f ++ us) (among_append fs gs) ∙ sym (append_assoc (nodes_in f) (nodes_among fs) (nodes_among gs))

-- ---- a quantifier, and any other node

pub of_binder : (old : List Tree) (t : Tree) → is_binder (head_of t) ≡ true → old ++ t ∷ [] ≡ old ++ nodes_in t
of_binder old (node head ts) e = rw e refl

pub of_node : (old kids : List Tree) (t : Tree) → is_binder (head_of t) ≡ false → kids ≡ kids_of t → (old ++ t ∷ []) ++ nodes_among kids ≡ old ++ nodes_in t
of_node old kids (node head ts) e k = append_assoc old (node head ts ∷ []) (nodes_among kids) ∙ ap (λ us. old ++ node head ts ∷ nodes_among us) k ∙ ap (λ us. old ++ node head ts ∷ us) (sym (kids_nodes ts)) ∙ rw e refl

-- ---- a loop: what is done and the nodes of what is to come make the whole

module _ {Id : Type 0} (tree : Id → Tree) where
  pub one_more : (ids : List Id) (i : ℕ) (x : Id) (done now whole : List Tree) → i < length ids → x ≡ get_or ids i x → now ≡ done ++ nodes_in (tree x)
      → done ++ nodes_among (map tree (drop i ids)) ≡ whole → now ++ nodes_among (map tree (drop (i + 1) ids)) ≡ whole
  one_more ids i x done now whole k e n w =
      let m : i + 1 ≡ suc i = omega arith in
      ap (λ us. us ++ nodes_among (map tree (drop (i + 1) ids))) n
      ∙ append_assoc done (nodes_in (tree x)) (nodes_among (map tree (drop (i + 1) ids)))
      ∙ ap (λ j. done ++ (nodes_in (tree x) ++ nodes_among (map tree (drop j ids)))) m
      ∙ ap (λ y. done ++ (nodes_in (tree y) ++ nodes_among (map tree (drop (suc i) ids)))) e
      ∙ ap (λ us. done ++ nodes_among (map tree us)) (sym (cut ids i k)) ∙ w
    where
      cut : (ys : List Id) (j : ℕ) → j < length ys → drop j ys ≡ get_or ys j x ∷ drop (suc j) ys
      cut [] j k = absurd (omega (arith, k))
      cut (y ∷ ys) zero k = refl
      cut (y ∷ ys) (suc j) k = cut ys j (omega (arith, k))

  pub all_done : (ids : List Id) (i : ℕ) (done whole : List Tree) → length ids ≤ i → done ++ nodes_among (map tree (drop i ids)) ≡ whole → done ≡ whole
  all_done ids i done whole k w = sym (no_more done) ∙ ap (λ us. done ++ nodes_among (map tree us)) (sym (none ids i k)) ∙ w
    where
      none : (ys : List Id) (j : ℕ) → length ys ≤ j → drop j ys ≡ []
      none [] zero k = refl
      none [] (suc j) k = refl
      none (y ∷ ys) zero k = absurd (omega (arith, k))
      none (y ∷ ys) (suc j) k = none ys j (omega (arith, k))

-- ---- the literals, then what waits

pub found_all : {Id : Type 0} (tree : Id → Tree) (found lits waits ls ws none one two all : List Id) → ls ≡ lits → ws ≡ waits → all ≡ two → none ≡ []
    → map tree one ≡ map tree none ++ nodes_among (map tree ls) → map tree two ≡ map tree one ++ nodes_among (map tree ws) → map tree found ≡ drop_repeats [] (map tree all)
    → map tree found ≡ drop_repeats [] (nodes_among (map tree lits ++ map tree waits))
found_all tree found lits waits ls ws none one two all l w a n e f d =
    let first = e ∙ (λ i. map tree (n i) ++ nodes_among (map tree (l i))) in
    let both = f ∙ (λ i. first i ++ nodes_among (map tree (w i))) ∙ sym (among_append (map tree lits) (map tree waits)) in
    d ∙ ap (λ us. drop_repeats [] (map tree us)) a ∙ ap (drop_repeats []) both
