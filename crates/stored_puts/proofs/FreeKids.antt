-- A name is free in a tree where the head is it, or where it is free in a kid and not bound there.
use Rattle.std.proofs.Common.{◌≡◌, ℕ, suc, ◌+◌, ◌<◌, ◌≤◌, Bool, true, false, not, ◌&&◌, ◌||◌, List, map, drop, length, get_or, drop_of_length-le, refl, sym, ◌∙◌, ap, arith}
use Rattle.std.proofs.lemmas.List.{drop_more}
use Rattle.qed_terms.specs.declared.head.Sort.{Sort}
use Rattle.qed_terms.specs.declared.head.Head.{Head}
use Rattle.qed_terms.specs.Free.{is_this, binds, is_free, free_among}
use Rattle.qed_terms.specs.Nodes.{kids_of}
use Rattle.qed_terms.specs.Tree.{Tree, node, Trees, stop, more, list_of, head_of}
use Rattle.stored_puts.specs.Kids.{is_body, kids_free}
use Rattle.stored_puts.proofs.Tests.{or_false, or_four}

module _ (x : List ℕ) (s : Sort) where
  abbrev Free : Tree → Bool
  Free t = is_free x s t

  unbound : (at : ℕ) (ts : Trees) → kids_free x s false at (list_of ts) ≡ free_among false x s ts
  unbound at stop = refl
  unbound at (more t stop) = or_false (Free t)
  unbound at (more t (more u stop)) = ap (λ b. Free t || b) (or_false (Free u))
  unbound at (more t (more u (more v ts))) =
      ap (λ b. Free t || (Free u || (Free v || b))) (unbound (suc (suc (suc at))) ts) ∙ or_four (Free t) (Free u) (Free v) (free_among false x s ts)

  behind : (at : ℕ) (ts : Trees) → kids_free x s true (suc (suc (suc at))) (list_of ts) ≡ free_among false x s ts
  behind at stop = refl
  behind at (more t stop) = or_false (Free t)
  behind at (more t (more u stop)) = ap (λ b. Free t || b) (or_false (Free u))
  behind at (more t (more u (more v ts))) =
      ap (λ b. Free t || (Free u || (Free v || b))) (behind (suc (suc (suc at))) ts) ∙ or_four (Free t) (Free u) (Free v) (free_among false x s ts)

  bound_kids : (ts : Trees) → kids_free x s true 0 (list_of ts) ≡ free_among true x s ts
  bound_kids stop = refl
  bound_kids (more t stop) = or_false (Free t)
  bound_kids (more t (more u stop)) = ap (λ b. Free t || b) (or_false (Free u))
  bound_kids (more t (more u (more v ts))) =
      ap (λ b. Free t || (Free u || (false || b))) (behind 0 ts) ∙ or_four (Free t) (Free u) false (free_among false x s ts)

  kids_are : (b : Bool) (ts : Trees) → kids_free x s b 0 (list_of ts) ≡ free_among b x s ts
  kids_are true ts = bound_kids ts
  kids_are false ts = unbound 0 ts

  pub free_is : (t : Tree) → is_free x s t ≡ is_this x s (head_of t) || kids_free x s (binds x s (head_of t)) 0 (kids_of t)
  free_is (node head ts) = ap (λ b. is_this x s head || b) (sym (kids_are (binds x s head) ts))

  -- ---- by ids of a store

  module _ {Id : Type 0} (tree : Id → Tree) (bound : Bool) (ids : List Id) (i : ℕ) where
    abbrev From : ℕ → List Id → Bool
    From at ks = kids_free x s bound at (map tree ks)

    pub next : (id : Id) → i < length ids → id ≡ get_or ids i id → From i (drop i ids) ≡ (not (is_body bound i) && is_free x s (tree id)) || From (i + 1) (drop (i + 1) ids)
    next id k e =
        let n : suc i ≡ i + 1 = omega arith in
        ap (From i) (drop_more ids i id k) ∙ (λ j. (not (is_body bound i) && is_free x s (tree (sym e j))) || From (n j) (drop (i + 1) ids))

    pub nothing : length ids ≤ i → From i (drop i ids) ≡ false
    nothing k = ap (From i) (drop_of_length-le ids k)

    pub free_later : (whole : Bool) (id : Id) → i < length ids → id ≡ get_or ids i id → not (is_body bound i) && is_free x s (tree id) ≡ false → whole ≡ From i (drop i ids) → whole ≡ From (i + 1) (drop (i + 1) ids)
    free_later whole id k e f w = w ∙ next id k e ∙ ap (λ b. b || From (i + 1) (drop (i + 1) ids)) f

    free_whole : (t : Tree) (head : Head) → head ≡ head_of t → is_this x s head ≡ false → bound ≡ binds x s head → map tree ids ≡ kids_of t → is_free x s t ≡ kids_free x s bound 0 (map tree ids)
    free_whole t head same e b stand =
        free_is t ∙ ap (λ z. z || kids_free x s (binds x s (head_of t)) 0 (kids_of t)) (ap (is_this x s) (sym same) ∙ e)
        ∙ (λ j. kids_free x s ((ap (binds x s) (sym same) ∙ sym b) j) 0 (sym stand j))

    pub free_there : (t : Tree) (head : Head) (id : Id) → head ≡ head_of t → is_this x s head ≡ false → bound ≡ binds x s head → map tree ids ≡ kids_of t → i < length ids → id ≡ get_or ids i id
        → not (is_body bound i) && is_free x s (tree id) ≡ true → kids_free x s bound 0 (map tree ids) ≡ From i (drop i ids) → true ≡ is_free x s t
    free_there t head id same e b stand k is f w = sym (free_whole t head same e b stand ∙ w ∙ next id k is ∙ ap (λ z. z || From (i + 1) (drop (i + 1) ids)) f)

    pub free_nowhere : (t : Tree) (head : Head) → head ≡ head_of t → is_this x s head ≡ false → bound ≡ binds x s head → map tree ids ≡ kids_of t → length ids ≤ i
        → kids_free x s bound 0 (map tree ids) ≡ From i (drop i ids) → false ≡ is_free x s t
    free_nowhere t head same e b stand k w = sym (free_whole t head same e b stand ∙ w ∙ nothing k)

  pub free_here : (t : Tree) (head : Head) → head ≡ head_of t → is_this x s head ≡ true → true ≡ is_free x s t
  free_here t head same e = sym (free_is t ∙ ap (λ b. b || kids_free x s (binds x s (head_of t)) 0 (kids_of t)) (ap (is_this x s) (sym same) ∙ e))
