-- The nodes of a tree in which a name is meant, kid by kid.
use Rattle.std.proofs.Common.{◌≡◌, ℕ, ◌+◌, ◌<◌, ◌≤◌, true, false, List, [], ◌∷◌, ◌++◌, map, take, drop, length, get_or, append_assoc, drop_of_length-le, refl, sym, ◌∙◌, ap, arith}
use Rattle.std.proofs.lemmas.List.{take-map, map_push, drop_more}
use Rattle.qed_terms.specs.declared.head.Sort.TheVariants as sort
use Rattle.qed_terms.specs.Free.{binds}
use Rattle.qed_terms.specs.Nodes.{kids_of}
use Rattle.qed_terms.specs.Store.{is_well_formed}
use Rattle.qed_terms.specs.Tree.{Tree, node, Trees, stop, more, list_of, head_of, kids_in}
use Rattle.equality_variables.proofs.OpenKids.{binder_kids}
use Rattle.instance_rows.specs.Triggers.{nodes_with, nodes_below}
use Rattle.forall_instances.specs.Nodes.{nodes_each}

no_more : {A : Type 0} (xs : List A) → xs ++ [] ≡ xs
no_more [] = refl
no_more (x ∷ xs) = ap (λ ys. x ∷ ys) (no_more xs)

module _ (x : List ℕ) where
  all_below : (ts : Trees) → nodes_below false x ts ≡ nodes_each x (list_of ts)
  all_below stop = refl
  all_below (more t ts) = ap (λ us. nodes_with x t ++ us) (all_below ts)

  two_below : (ts : Trees) → length (list_of ts) ≡ 3 → nodes_below true x ts ≡ nodes_each x (take 2 (list_of ts))
  two_below stop e = absurd (omega (arith, e))
  two_below (more a stop) e = absurd (omega (arith, e))
  two_below (more a (more b ts)) e = ap (λ us. nodes_with x a ++ us) (sym (no_more (nodes_with x b)))

  with_is : (t : Tree) → nodes_with x t ≡ t ∷ nodes_below (binds x sort.Int (head_of t)) x (kids_in t)
  with_is (node head ts) = refl

  module _ {Id : Type 0} (tree : Id → Tree) where
    -- the bounds of a quantifier over the name
    pub bounds_open : (t : Tree) (ids : List Id) → map tree ids ≡ kids_of t → is_well_formed t ≡ true → binds x sort.Int (head_of t) ≡ true
        → nodes_below (binds x sort.Int (head_of t)) x (kids_in t) ≡ nodes_each x (map tree (take 2 ids))
    bounds_open t ids stand w b =
        ap (λ z. nodes_below z x (kids_in t)) b ∙ two_below (kids_in t) (binder_kids x sort.Int t w b) ∙ ap (λ us. nodes_each x (take 2 us)) (sym stand) ∙ ap (nodes_each x) (take-map tree 2 ids)

    -- all kids of any other node
    pub all_open : (t : Tree) (ids : List Id) → map tree ids ≡ kids_of t → binds x sort.Int (head_of t) ≡ false → nodes_below (binds x sort.Int (head_of t)) x (kids_in t) ≡ nodes_each x (map tree ids)
    all_open t ids stand b = ap (λ z. nodes_below z x (kids_in t)) b ∙ all_below (kids_in t) ∙ ap (nodes_each x) (sym stand)

    -- the node, and then what is in its kids
    pub node_first : (out now kids : List Id) (id : Id) → now ≡ out ++ id ∷ [] → nodes_below (binds x sort.Int (head_of (tree id))) x (kids_in (tree id)) ≡ nodes_each x (map tree kids)
        → map tree now ++ nodes_each x (map tree kids) ≡ map tree out ++ nodes_with x (tree id)
    node_first out now kids id n o =
        (λ i. (ap (map tree) n ∙ map_push tree out id) i ++ sym o i) ∙ append_assoc (map tree out) (tree id ∷ []) (nodes_below (binds x sort.Int (head_of (tree id))) x (kids_in (tree id)))
        ∙ ap (λ us. map tree out ++ us) (sym (with_is (tree id)))

    -- one kid more
    pub one_more : (ids : List Id) (i : ℕ) (k : Id) (done now whole : List Tree) → i < length ids → k ≡ get_or ids i k → now ≡ done ++ nodes_with x (tree k)
        → done ++ nodes_each x (map tree (drop i ids)) ≡ whole → now ++ nodes_each x (map tree (drop (i + 1) ids)) ≡ whole
    one_more ids i k done now whole l e n w =
        ap (λ us. us ++ nodes_each x (map tree (drop (i + 1) ids))) n
        ∙ append_assoc done (nodes_with x (tree k)) (nodes_each x (map tree (drop (i + 1) ids)))
        ∙ ap (λ y. done ++ (nodes_with x (tree y) ++ nodes_each x (map tree (drop (i + 1) ids)))) e
        ∙ ap (λ us. done ++ us) (sym cut) ∙ w
      where
        cut : nodes_each x (map tree (drop i ids)) ≡ nodes_with x (tree (get_or ids i k)) ++ nodes_each x (map tree (drop (i + 1) ids))
        cut = ap (λ us. nodes_each x (map tree us)) (drop_more ids i k l)

    pub all_done : (ids : List Id) (i : ℕ) (done whole : List Tree) → length ids ≤ i → done ++ nodes_each x (map tree (drop i ids)) ≡ whole → done ≡ whole
    all_done ids i done whole k w = sym (no_more done) ∙ ap (λ us. done ++ nodes_each x (map tree us)) (sym (drop_of_length-le ids k)) ∙ w
