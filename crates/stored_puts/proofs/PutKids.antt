-- A term put in a tree: its head stays, and it is put in the kids.
use Rattle.std.proofs.Common.{◌≡◌, ℕ, zero, suc, ◌+◌, ◌<◌, Bool, true, false, ◌&&◌, cond, List, [], ◌∷◌, length, take, get_or, ◌≤◌, refl, sym, ◌∙◌, ap, arith}
use Rattle.std.proofs.lemmas.List.{take_all}
use Rattle.std.specs.Str.{bytes_eq}
use Rattle.qed_terms.specs.declared.head.Sort.{Sort}
use Rattle.qed_terms.specs.declared.head.Sort.TheVariants as sort
use Rattle.qed_terms.specs.declared.head.Head.{Head}
use Rattle.qed_terms.specs.declared.head.Head.TheVariants as h
use Rattle.qed_terms.specs.Free.{binds}
use Rattle.qed_terms.specs.Names.{is_name}
use Rattle.qed_terms.specs.Nodes.{kids_of}
use Rattle.qed_terms.specs.Store.{is_well_formed, over}
use Rattle.qed_terms.specs.Tree.{Tree, node, Trees, stop, more, three, trees_of, list_of, head_of, true_tree}
use Rattle.qed_substitution.specs.Substitution.{replace, replace_all, replace_range}
use Rattle.branch_changes.specs.MemoryNames.{replace_memory, replace_memories}
use Rattle.branch_changes.specs.Givens.{put_at}
use Rattle.stored_puts.specs.Kids.{is_place, is_body, kid_put, kids_put}
use Rattle.stored_puts.proofs.Tests.{and_right, and_true, and_false, by_three}

module _ (x : List ℕ) (u : Tree) where
  ints : (at : ℕ) (ts : Trees) → trees_of (kids_put sort.Int x u false at (list_of ts)) ≡ replace_all x u ts
  ints at stop = refl
  ints at (more t ts) = ap (more (replace x u t)) (ints (suc at) ts)

  memories : (at : ℕ) (ts : Trees) → trees_of (kids_put sort.Memory x u false at (list_of ts)) ≡ replace_memories x u ts
  memories at stop = refl
  memories at (more t ts) = ap (more (replace_memory x u t)) (memories (suc at) ts)

  kept_table : (kept : Bool) (t : Tree) → kid_put sort.Table x u kept t ≡ t
  kept_table true t = refl
  kept_table false t = refl

  tables : (bound : Bool) (at : ℕ) (ts : Trees) → trees_of (kids_put sort.Table x u bound at (list_of ts)) ≡ ts
  tables bound at stop = refl
  tables bound at (more t ts) = λ i. more (kept_table (is_body bound at) t i) (tables bound (suc at) ts i)

  int_range : (bound : Bool) (low high body : Tree) → trees_of (kids_put sort.Int x u bound 0 (low ∷ high ∷ body ∷ [])) ≡ replace_range bound x u (three low high body)
  int_range true low high body = refl
  int_range false low high body = refl

  abbrev Put : Sort → Head → Trees → Type 0
  Put s head ts = over head (kids_put s x u (binds x s head) 0 (list_of ts)) ≡ put_at s x u (node head ts)

  int_all : (y : List ℕ) (low high body : Tree) → Put sort.Int (h.Forall y) (three low high body)
  int_all y low high body =
      ap (λ b. over (h.Forall y) (kids_put sort.Int x u b 0 (low ∷ high ∷ body ∷ []))) (and_true (bytes_eq x y)) ∙ ap (node (h.Forall y)) (int_range (bytes_eq x y) low high body)

  int_some : (y : List ℕ) (low high body : Tree) → Put sort.Int (h.Exists y) (three low high body)
  int_some y low high body =
      ap (λ b. over (h.Exists y) (kids_put sort.Int x u b 0 (low ∷ high ∷ body ∷ []))) (and_true (bytes_eq x y)) ∙ ap (node (h.Exists y)) (int_range (bytes_eq x y) low high body)

  int_put : (head : Head) (ts : Trees) → is_well_formed (node head ts) ≡ true → is_place sort.Int x head ≡ false → Put sort.Int head ts
  int_put (h.Var y sort.Int) ts e k =
      ap (node (h.Var y sort.Int)) (ints 0 ts) ∙ ap (λ b. cond b u (node (h.Var y sort.Int) (replace_all x u ts))) (sym k)
  int_put (h.Forall y) ts e k = by_three (Put sort.Int (h.Forall y)) (int_all y) ts (and_right (is_name y && true) _ e)
  int_put (h.Exists y) ts e k = by_three (Put sort.Int (h.Exists y)) (int_some y) ts (and_right (is_name y && true) _ e)
  int_put head ts e k = ap (node head) (ints 0 ts)

  memory_put : (head : Head) (ts : Trees) → is_place sort.Memory x head ≡ false → Put sort.Memory head ts
  memory_put (h.Var y sort.Memory) ts k =
      ap (node (h.Var y sort.Memory)) (memories 0 ts) ∙ ap (λ b. cond b u (node (h.Var y sort.Memory) (replace_memories x u ts))) (sym k)
  memory_put (h.Forall y) ts k = ap (λ b. over (h.Forall y) (kids_put sort.Memory x u b 0 (list_of ts))) (and_false (bytes_eq x y)) ∙ ap (node (h.Forall y)) (memories 0 ts)
  memory_put (h.Exists y) ts k = ap (λ b. over (h.Exists y) (kids_put sort.Memory x u b 0 (list_of ts))) (and_false (bytes_eq x y)) ∙ ap (node (h.Exists y)) (memories 0 ts)
  memory_put head ts k = ap (node head) (memories 0 ts)

  pub put_is : (s : Sort) (t : Tree) → is_well_formed t ≡ true → is_place s x (head_of t) ≡ false → over (head_of t) (kids_put s x u (binds x s (head_of t)) 0 (kids_of t)) ≡ put_at s x u t
  put_is sort.Int (node head ts) e k = int_put head ts e k
  put_is sort.Memory (node head ts) e k = memory_put head ts k
  put_is sort.Table (node head ts) e k = ap (node head) (tables (binds x sort.Table head) 0 ts)

  -- at a place
  pub put_here : (s : Sort) (t : Tree) → is_place s x (head_of t) ≡ true → u ≡ put_at s x u t
  put_here sort.Int (node (h.Var y sort.Int) ts) e = ap (λ b. cond b u (node (h.Var y sort.Int) (replace_all x u ts))) (sym e)
  put_here sort.Int (node head ts) e = absurd cc
  put_here sort.Memory (node (h.Var y sort.Memory) ts) e = ap (λ b. cond b u (node (h.Var y sort.Memory) (replace_memories x u ts))) (sym e)
  put_here sort.Memory (node head ts) e = absurd cc
  put_here sort.Table (node head ts) e = absurd cc

  -- ---- one after another

  module _ (s : Sort) (bound : Bool) where
    pub kids_count : (at : ℕ) (ts : List Tree) → length (kids_put s x u bound at ts) ≡ length ts
    kids_count at [] = refl
    kids_count at (t ∷ ts) = ap suc (kids_count (suc at) ts)

    kid_from : (at : ℕ) (ts : List Tree) (i : ℕ) (d : Tree) → i < length ts → get_or (kids_put s x u bound at ts) i d ≡ kid_put s x u (is_body bound (at + i)) (get_or ts i d)
    kid_from at [] i d k = absurd (omega (arith, k))
    kid_from at (t ∷ ts) zero d k = let n : at ≡ at + 0 = omega arith in ap (λ m. kid_put s x u (is_body bound m) t) n
    kid_from at (t ∷ ts) (suc i) d k = let n : suc at + i ≡ at + suc i = omega arith in kid_from (suc at) ts i d (omega (arith, k)) ∙ ap (λ m. kid_put s x u (is_body bound m) (get_or ts i d)) n

    pub kid_at : (ts : List Tree) (i : ℕ) (d : Tree) → i < length ts → get_or (kids_put s x u bound 0 ts) i d ≡ kid_put s x u (is_body bound i) (get_or ts i d)
    kid_at ts i d k = let n : 0 + i ≡ i = omega arith in kid_from 0 ts i d k ∙ ap (λ m. kid_put s x u (is_body bound m) (get_or ts i d)) n

    -- one that was made, where the term and the kid keep their trees
    pub kid_made : (u' kid made : Tree) (kept : Bool) (ts : List Tree) (i : ℕ) → u' ≡ u → get_or ts i true_tree ≡ kid → kept ≡ is_body bound i → made ≡ cond kept kid (put_at s x u' kid) → i < length ts
        → made ≡ get_or (kids_put s x u bound 0 ts) i true_tree
    kid_made u' kid made kept ts i e f b m k = m ∙ (λ j. cond (b j) (sym f j) (put_at s x (e j) (sym f j))) ∙ sym (kid_at ts i true_tree k)

  -- the head over all that was made
  pub node_over : (s : Sort) (t : Tree) (head : Head) (bound : Bool) (i : ℕ) (ts : List Tree) → head ≡ head_of t → bound ≡ binds x s (head_of t) → ts ≡ take i (kids_put s x u bound 0 (kids_of t)) → length (kids_of t) ≤ i
      → over head ts ≡ over (head_of t) (kids_put s x u (binds x s (head_of t)) 0 (kids_of t))
  node_over s t head bound i ts same e so_far k =
      let count = kids_count s bound 0 (kids_of t) in
      let all : length (kids_put s x u bound 0 (kids_of t)) ≤ i = omega (arith, k, count) in
      let is = so_far ∙ take_all i (kids_put s x u bound 0 (kids_of t)) all ∙ ap (λ b. kids_put s x u b 0 (kids_of t)) e in
      λ j. over (same j) (is j)
