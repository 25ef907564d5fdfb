-- A term may be put in a tree where its head isn't a place that a quantifier covers, and where it may be put in the kids.
use Rattle.std.proofs.Common.{◌≡◌, ℕ, suc, ◌+◌, ◌<◌, ◌≤◌, Bool, true, false, not, ◌&&◌, ◌||◌, List, [], ◌∷◌, map, drop, length, get_or, drop_of_length-le, refl, sym, ◌∙◌, ap, arith}
use Rattle.std.proofs.lemmas.List.{drop_more}
use Rattle.std.specs.Str.{bytes_eq}
use Rattle.qed_terms.specs.declared.head.Sort.{Sort}
use Rattle.qed_terms.specs.declared.head.Sort.TheVariants as sort
use Rattle.qed_terms.specs.declared.head.Head.{Head}
use Rattle.qed_terms.specs.declared.head.Head.TheVariants as h
use Rattle.qed_terms.specs.Free.{binds, is_free}
use Rattle.qed_terms.specs.Names.{is_name}
use Rattle.qed_terms.specs.Nodes.{kids_of}
use Rattle.qed_terms.specs.Store.{is_well_formed}
use Rattle.qed_terms.specs.Tree.{Tree, node, Trees, stop, more, three, list_of, head_of}
use Rattle.qed_substitution.specs.Substitution.{is_clear, are_clear, is_clear_range}
use Rattle.branch_changes.specs.MemoryNames.{is_clear_memory, are_clear_memories}
use Rattle.branch_changes.specs.MemoryNames as memories
use Rattle.stored_puts.specs.Kids.{is_place, is_body, covers, clear_at, kids_clear}
use Rattle.stored_puts.proofs.Tests.{and_right, and_true, and_false, and_turned, and_three, or_true, or_turned, by_three}

-- at the three kids of a quantifier
module _ (clear : Bool → Tree → Bool) (under : Bool) (low high body : Tree) where
  abbrev Range : Bool → Bool → Bool
  Range bound covered = kids_clear clear under bound covered 0 (low ∷ high ∷ body ∷ [])

  range_clear : (bound covered : Bool) → Range bound covered ≡ (clear under low && clear under high) && (bound || clear (under || covered) body)
  range_clear true true = and_three (clear under low) (clear under high) true
  range_clear true false = and_three (clear under low) (clear under high) true
  range_clear false true = and_three (clear under low) (clear under high) (clear true body) ∙ ap (λ b. (clear under low && clear under high) && clear b body) (sym (or_true under))
  range_clear false false = and_three (clear under low) (clear under high) (clear under body) ∙ ap (λ b. (clear under low && clear under high) && clear b body) (or_turned false under)

module _ (under : Bool) (x : List ℕ) (u : Tree) where
  abbrev Kids : Sort → Bool → Bool → ℕ → List Tree → Bool
  Kids s bound covered at ts = kids_clear (λ b t. clear_at s b x u t) under bound covered at ts

  ints : (at : ℕ) (ts : Trees) → are_clear under x u ts ≡ Kids sort.Int false false at (list_of ts)
  ints at stop = refl
  ints at (more t ts) = ap (λ b. is_clear under x u t && b) (ints (suc at) ts)

  memories_clear : (at : ℕ) (ts : Trees) → are_clear_memories under x u ts ≡ Kids sort.Memory false false at (list_of ts)
  memories_clear at stop = refl
  memories_clear at (more t ts) = ap (λ b. is_clear_memory under x u t && b) (memories_clear (suc at) ts)

  tables_clear : (bound covered : Bool) (at : ℕ) (ts : List Tree) → true ≡ Kids sort.Table bound covered at ts
  tables_clear bound covered at [] = refl
  tables_clear bound covered at (t ∷ ts) = tables_clear bound covered (suc at) ts ∙ ap (λ b. b && Kids sort.Table bound covered (suc at) ts) (sym (or_true (is_body bound at)))

  int_range : (y : List ℕ) (low high body : Tree) → is_clear_range under x u y (three low high body) ≡ Kids sort.Int (bytes_eq x y && true) (is_free y sort.Int u) 0 (low ∷ high ∷ body ∷ [])
  int_range y low high body =
      sym (range_clear (λ b t. is_clear b x u t) under low high body (bytes_eq x y) (is_free y sort.Int u)) ∙ ap (λ b. Kids sort.Int b (is_free y sort.Int u) 0 (low ∷ high ∷ body ∷ [])) (sym (and_true (bytes_eq x y)))

  memory_range : (y : List ℕ) (low high body : Tree)
      → memories.is_clear_range under x u y (three low high body) ≡ Kids sort.Memory (bytes_eq x y && false) (is_free y sort.Int u) 0 (low ∷ high ∷ body ∷ [])
  memory_range y low high body =
      sym (range_clear (λ b t. is_clear_memory b x u t) under low high body false (is_free y sort.Int u)) ∙ ap (λ b. Kids sort.Memory b (is_free y sort.Int u) 0 (low ∷ high ∷ body ∷ [])) (sym (and_false (bytes_eq x y)))

  abbrev Clear : Sort → Head → Trees → Type 0
  Clear s head ts = clear_at s under x u (node head ts) ≡ not (is_place s x head && under) && Kids s (binds x s head) (covers u head) 0 (list_of ts)

  int_clear : (head : Head) (ts : Trees) → is_well_formed (node head ts) ≡ true → Clear sort.Int head ts
  int_clear (h.Var y sort.Int) ts e = (λ i. not (and_turned under (bytes_eq x y) i) && ints 0 ts i)
  int_clear (h.Forall y) ts e = by_three (Clear sort.Int (h.Forall y)) (int_range y) ts (and_right (is_name y && true) _ e)
  int_clear (h.Exists y) ts e = by_three (Clear sort.Int (h.Exists y)) (int_range y) ts (and_right (is_name y && true) _ e)
  int_clear head ts e = ints 0 ts

  memory_clear : (head : Head) (ts : Trees) → is_well_formed (node head ts) ≡ true → Clear sort.Memory head ts
  memory_clear (h.Var y sort.Memory) ts e = (λ i. not (and_turned under (bytes_eq x y) i) && memories_clear 0 ts i)
  memory_clear (h.Forall y) ts e = by_three (Clear sort.Memory (h.Forall y)) (memory_range y) ts (and_right (is_name y && true) _ e)
  memory_clear (h.Exists y) ts e = by_three (Clear sort.Memory (h.Exists y)) (memory_range y) ts (and_right (is_name y && true) _ e)
  memory_clear head ts e = memories_clear 0 ts

  pub clear_is : (s : Sort) (t : Tree) → is_well_formed t ≡ true → clear_at s under x u t ≡ not (is_place s x (head_of t) && under) && Kids s (binds x s (head_of t)) (covers u (head_of t)) 0 (kids_of t)
  clear_is sort.Int (node head ts) e = int_clear head ts e
  clear_is sort.Memory (node head ts) e = memory_clear head ts e
  clear_is sort.Table (node head ts) e = tables_clear (binds x sort.Table head) (covers u head) 0 (list_of ts)

  pub hidden : (s : Sort) (t : Tree) (head : Head) → is_well_formed t ≡ true → head ≡ head_of t → is_place s x head && under ≡ true → false ≡ clear_at s under x u t
  hidden s t head e same h =
      sym (clear_is s t e ∙ ap (λ b. not b && Kids s (binds x s (head_of t)) (covers u (head_of t)) 0 (kids_of t)) (ap (λ g. is_place s x g && under) (sym same) ∙ h))

  -- ---- by ids of a store

  module _ {Id : Type 0} (tree : Id → Tree) (s : Sort) (bound covered : Bool) (ids : List Id) (i : ℕ) where
    abbrev From : ℕ → List Id → Bool
    From at ks = Kids s bound covered at (map tree ks)

    pub next : (id : Id) → i < length ids → id ≡ get_or ids i id
        → From i (drop i ids) ≡ (is_body bound i || clear_at s (is_body covered i || under) x u (tree id)) && From (i + 1) (drop (i + 1) ids)
    next id k e =
        let n : suc i ≡ i + 1 = omega arith in
        ap (From i) (drop_more ids i id k) ∙ (λ j. (is_body bound i || clear_at s (is_body covered i || under) x u (tree (sym e j))) && From (n j) (drop (i + 1) ids))

    pub nothing : length ids ≤ i → From i (drop i ids) ≡ true
    nothing k = ap (From i) (drop_of_length-le ids k)

    pub clear_later : (whole : Bool) (id : Id) → i < length ids → id ≡ get_or ids i id → is_body bound i || clear_at s (is_body covered i || under) x u (tree id) ≡ true
        → whole ≡ From i (drop i ids) → whole ≡ From (i + 1) (drop (i + 1) ids)
    clear_later whole id k e f w = w ∙ next id k e ∙ ap (λ b. b && From (i + 1) (drop (i + 1) ids)) f

    whole : (t : Tree) (head : Head) → is_well_formed t ≡ true → head ≡ head_of t → is_place s x head && under ≡ false → bound ≡ binds x s head → covered ≡ covers u head → map tree ids ≡ kids_of t
        → clear_at s under x u t ≡ Kids s bound covered 0 (map tree ids)
    whole t head e same h b c stand =
        clear_is s t e ∙ ap (λ z. not z && Kids s (binds x s (head_of t)) (covers u (head_of t)) 0 (kids_of t)) (ap (λ g. is_place s x g && under) (sym same) ∙ h)
        ∙ (λ j. Kids s ((ap (binds x s) (sym same) ∙ sym b) j) ((ap (covers u) (sym same) ∙ sym c) j) 0 (sym stand j))

    pub not_clear : (t : Tree) (head : Head) (id : Id) → is_well_formed t ≡ true → head ≡ head_of t → is_place s x head && under ≡ false → bound ≡ binds x s head → covered ≡ covers u head → map tree ids ≡ kids_of t
        → i < length ids → id ≡ get_or ids i id → is_body bound i || clear_at s (is_body covered i || under) x u (tree id) ≡ false → Kids s bound covered 0 (map tree ids) ≡ From i (drop i ids) → false ≡ clear_at s under x u t
    not_clear t head id e same h b c stand k is f w = sym (whole t head e same h b c stand ∙ w ∙ next id k is ∙ ap (λ z. z && From (i + 1) (drop (i + 1) ids)) f)

    pub all_clear : (t : Tree) (head : Head) → is_well_formed t ≡ true → head ≡ head_of t → is_place s x head && under ≡ false → bound ≡ binds x s head → covered ≡ covers u head → map tree ids ≡ kids_of t
        → length ids ≤ i → Kids s bound covered 0 (map tree ids) ≡ From i (drop i ids) → true ≡ clear_at s under x u t
    all_clear t head e same h b c stand k w = sym (whole t head e same h b c stand ∙ w ∙ nothing k)
