-- Trees of parts and of sums, as they are put into a table.
use Rattle.std.proofs.Common.{◌≡◌, ◌≢◌, ℕ, ◌+◌, ◌<◌, cond, Bool, true, false, List, [], ◌∷◌, ◌++◌, map, length, get_or, take, append-nil, refl, sym, ◌∙◌, ap, arith}
use Rattle.std.specs.Prelude.{ℤ, pos, All}
use Rattle.std.proofs.lemmas.List.{map_push, take_more}
use Rattle.std.proofs.lemmas.List.Elements.{All-cons, All-append}
use Rattle.std.specs.Ordering.{int_eq}
use Rattle.std.specs.Cmp.{signed_Decides}
use Rattle.qed_terms.specs.declared.head.Head.TheVariants as h
use Rattle.qed_terms.specs.declared.head.TermOp.TheVariants as op
use Rattle.qed_terms.specs.Operators.{is_zero, is_equal}
use Rattle.qed_terms.specs.Tree.{Tree, node, trees_of, two, num}
use Rattle.qed_linear.specs.Linear.{part, part_tree, constant_trees}
use Rattle.qed_linear.proofs.Facts.{equal_is, zero_is}
use Rattle.same_places.specs.Same as places
use Rattle.same_places.specs.Same.{PartsWithin}
use Rattle.same_terms.specs.Stands.{tree_part, tree_parts}
use Rattle.tree_places.specs.Tables.{Node, trees_in, tree_at, Grows}
use Rattle.tree_places.proofs.Nodes.{older, grows_long, map_same}

-- ---- tests of numbers

pub told_equal : (a b : ℤ) (t : Bool) → t ≡ int_eq a b → t ≡ true → a ≡ b
told_equal a b t e d = (signed_Decides a b).0 (sym e ∙ d)

pub told_apart : (a b : ℤ) (t : Bool) → t ≡ int_eq a b → t ≡ false → a ≢ b
told_apart a b t e d h = let k = (signed_Decides a b).1 h in let f : true ≡ false = sym k ∙ sym e ∙ d in absurd cc

unequal : (z y : ℤ) → z ≢ y → is_equal z y ≡ false
unequal z y n = go (is_equal z y) refl
  where
    go : (b : Bool) → is_equal z y ≡ b → b ≡ false
    go true e = absurd (n (equal_is z y e))
    go false e = refl

-- a number times an atom
pub times_part : (tree tree' : ℕ → Tree) (p : places.Part) (n : ℕ) (ks : List ℕ) (t : Tree) → p.1 ≢ pos 1 → tree' n ≡ num (p.1) → tree' (p.0) ≡ tree (p.0) → ks ≡ n ∷ p.0 ∷ [] → t ≡ node (h.Term op.Mul) (trees_of (map tree' ks)) → t ≡ part_tree (tree_part tree p)
times_part tree tree' p n ks t one number atom kids is =
    is ∙ ap (λ xs. node (h.Term op.Mul) (trees_of (map tree' xs))) kids
    ∙ (λ i. node (h.Term op.Mul) (two (number i) (atom i)))
    ∙ sym (ap (λ b. cond b (tree (p.0)) (node (h.Term op.Mul) (two (num (p.1)) (tree (p.0))))) (unequal (p.1) (pos 1) one))

-- ---- the places of parts, one after the other

module _ (ns ms : List Node) (all : length (trees_in ns) ≡ length ns) (g : Grows ns ms) where
  pub still : (done : List ℕ) → All (λ k. k < length ns) done → map (tree_at ms) done ≡ map (tree_at ns) done
  still done below = map_same (tree_at ms) (tree_at ns) done (λ k d l. older ns ms all g (get_or done k d) (below k d l))

  pub below_more : (done : List ℕ) (i : ℕ) → All (λ k. k < length ns) done → i < length ms → All (λ k. k < length ms) (done ++ i ∷ [])
  below_more done i below l =
      let m = grows_long ns ms g in
      All-append (λ k. k < length ms) done (i ∷ []) (λ k d h. let b = below k d h in omega arith) (All-cons (λ k. k < length ms) i [] l (λ k d h. absurd (omega arith)))

  -- those of all parts of a form, the first table being one before
  pub places_more : (first : List Node) → length (trees_in first) ≡ length first → Grows first ns → (ps : List places.Part) (k : ℕ) (done : List ℕ) (i : ℕ) → k < length ps → PartsWithin (length first) ps → All (λ j. j < length ns) done →
      map (tree_at ns) done ≡ map part_tree (tree_parts (tree_at first) (take k ps)) → tree_at ms i ≡ part_tree (tree_part (tree_at ns) (get_or ps k (0, pos 0))) → map (tree_at ms) (done ++ i ∷ []) ≡ map part_tree (tree_parts (tree_at first) (take (k + 1) ps))
  places_more first all' g' ps k done i l within below so_far is =
      let p = get_or ps k (0, pos 0) in
      let same = older first ns all' g' (p.0) (within k (0, pos 0) l) in
      map_push (tree_at ms) done i
      ∙ (λ z. (still done below ∙ so_far) z ++ (is ∙ ap (λ t. part_tree (part t (p.1))) same) z ∷ [])
      ∙ sym (map_push part_tree (tree_parts (tree_at first) (take k ps)) (tree_part (tree_at first) p))
      ∙ ap (map part_tree) (sym (map_push (tree_part (tree_at first)) (take k ps) p) ∙ ap (tree_parts (tree_at first)) (sym (take_more ps k (0, pos 0) l)))

-- the constant behind them
pub no_constant : (ts : List Tree) (z : ℤ) → z ≡ pos 0 → ts ≡ ts ++ constant_trees z
no_constant ts z e = sym (ap (λ y. ts ++ constant_trees y) e ∙ append-nil ts)

nonzero : (z : ℤ) → z ≢ pos 0 → is_zero z ≡ false
nonzero z n = go (is_zero z) refl
  where
    go : (b : Bool) → is_zero z ≡ b → b ≡ false
    go true e = absurd (n (zero_is z e))
    go false e = refl

pub one_constant : (ts : List Tree) (z : ℤ) (t : Tree) → z ≢ pos 0 → t ≡ num z → ts ++ t ∷ [] ≡ ts ++ constant_trees z
one_constant ts z t n e = ap (λ u. ts ++ u ∷ []) e ∙ sym (ap (λ b. ts ++ cond b [] (num z ∷ [])) (nonzero z n))

-- a part with coefficient 1 is its atom
pub one_part : (tree : ℕ → Tree) (p : places.Part) → p.1 ≡ pos 1 → tree (p.0) ≡ part_tree (tree_part tree p)
one_part tree p e = sym (ap (λ z. part_tree (part (tree (p.0)) z)) e)
