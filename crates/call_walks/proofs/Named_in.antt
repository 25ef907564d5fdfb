-- Regions that are variables of the file, in memory.
use Rattle.std.proofs.Common.{◌≡◌, ℕ, suc, Bool, true, false, not, zero, List, [], ◌∷◌, length, get_or, refl, sym, ap, ◌∙◌, arith}
use Rattle.std.specs.Prelude.{◌==◌}
use Rattle.std.proofs.lemmas.List.{length-map}
use Rattle.std.proofs.lemmas.Bool.Decides.{nat_tests}
use Rattle.typed_prog.specs.declared.operators.Variable.TheVariants as variables
use Rattle.acsl_trees.specs.declared.heads.Content.{Content}
use Rattle.acsl_trees.specs.declared.heads.Head.{Head}
use Rattle.acsl_trees.specs.declared.heads.Head.TheVariants as head
use Rattle.acsl_trees.specs.declared.tree.Tree.{Tree as Code, out-Tree, roll-out-Tree}
use Rattle.acsl_trees.specs.Tree.{Tree, node, stop, more, trees_of, view_tree, view_trees}
use Rattle.acsl_trees.proofs.Equations.{view_made}
use Rattle.call_words.specs.Sets.{is_in}
use Rattle.call_walks.specs.Sets.{head_is_in}

view_whole : (t : Code) → view_tree t ≡ node (out-Tree t).head (trees_of (view_trees (out-Tree t).kids))
view_whole t = ap view_tree (sym (roll-out-Tree t)) ∙ view_made (out-Tree t).head (out-Tree t).kids

by_head : (ws : List Tree) (c : Content) (h : Head) (ks : List Tree) → head_is_in ws h ks ≡ is_in ws (node (head.Region c) (more (node h (trees_of ks)) stop))
by_head ws c (head.Variable (variables.Global x)) [] = refl
by_head ws c (head.Variable (variables.Global x)) (k ∷ ks) = refl
by_head ws c (head.Variable (variables.Local x)) ks = refl
by_head ws c h ks = refl

pub in_one : (ws : List Tree) (t : Code) (c : Content) (ks : List Code) (k l : Code) (us : List Code) (b : Bool) → (out-Tree t).head ≡ head.Region c → ks ≡ (out-Tree t).kids → length ks ≡ 1
    → us ≡ (out-Tree (get_or ks 0 l)).kids → b ≡ head_is_in ws (out-Tree (get_or ks 0 k)).head (view_trees us) → b ≡ is_in ws (view_tree t)
in_one ws t c [] k l us b e f n is h = absurd (omega (arith, n))
in_one ws t c (k' ∷ k'' ∷ ks) k l us b e f n is h = absurd (omega (arith, n))
in_one ws t c (k' ∷ []) k l us b e f n is h =
    h ∙ ap (λ vs. head_is_in ws (out-Tree k').head (view_trees vs)) is ∙ by_head ws c (out-Tree k').head (view_trees (out-Tree k').kids)
    ∙ ap (λ u. is_in ws (node (head.Region c) (more u stop))) (sym (view_whole k'))
    ∙ sym (ap (is_in ws) (view_whole t ∙ (λ i. node (e i) (trees_of (view_trees (sym f i))))))

no_one : (ws : List Tree) (c : Content) (ts : List Tree) → (length ts ≡ 1 → ⊥) → true ≡ is_in ws (node (head.Region c) (trees_of ts))
no_one ws c [] l = refl
no_one ws c (t ∷ []) l = absurd (l (omega arith))
no_one ws c (node h stop ∷ u ∷ ts) l = by h where
  by : (h : Head) → true ≡ is_in ws (node (head.Region c) (more (node h stop) (more u (trees_of ts))))
  by (head.Variable (variables.Global x)) = refl
  by (head.Variable (variables.Local x)) = refl
  by h = refl
no_one ws c (node h (more k ks) ∷ u ∷ ts) l = by h where
  by : (h : Head) → true ≡ is_in ws (node (head.Region c) (more (node h (more k ks)) (more u (trees_of ts))))
  by (head.Variable (variables.Global x)) = refl
  by (head.Variable (variables.Local x)) = refl
  by h = refl

differs : (n : ℕ) → (n ≡ 1 → ⊥) → not (n == 1) ≡ true
differs zero h = refl
differs (suc zero) h = absurd (h refl)
differs (suc (suc n)) h = ap not (far n) where
  far : (n : ℕ) → (suc (suc n) == 1) ≡ false
  far n = grind (arith, nat_tests)

pub in_none : (ws : List Tree) (t : Code) (c : Content) (ks : List Code) → (out-Tree t).head ≡ head.Region c → ks ≡ (out-Tree t).kids → (length ks ≡ 1 → ⊥) → not (length ks == 1) ≡ is_in ws (view_tree t)
in_none ws t c ks e f l =
    differs (length ks) l ∙ no_one ws c (view_trees ks) (λ n. l (sym (length-map ks view_tree) ∙ n))
    ∙ sym (ap (is_in ws) (view_whole t ∙ (λ i. node (e i) (trees_of (view_trees (sym f i))))))

other_by : (ws : List Tree) (h : Head) (ts : List Tree) → ((c : Content) → h ≡ head.Region c → ⊥) → true ≡ is_in ws (node h (trees_of ts))
other_by ws (head.Region c) ts n = absurd (n c refl)
other_by ws h ts n = refl

pub in_other : (ws : List Tree) (t : Code) → ((c : Content) → (out-Tree t).head ≡ head.Region c → ⊥) → true ≡ is_in ws (view_tree t)
in_other ws t n = other_by ws (out-Tree t).head (view_trees (out-Tree t).kids) n ∙ sym (ap (is_in ws) (view_whole t))
