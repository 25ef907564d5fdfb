-- Walks, and what their tests mean.
use Rattle.std.proofs.Common.{◌≡◌, ◌<◌, ◌≤◌, ℕ, ◌+◌, Bool, true, false, not, ◌&&◌, ◌||◌, if◌then◌else◌, List, length, drop, get_or, refl, sym, ap, ◌∙◌}
use Rattle.std.specs.Borrow.{Bor}
use Rattle.std.proofs.lemmas.List.{at_drop_more, at_drop_all}
use Rattle.acsl_trees.specs.declared.heads.Head.{Head}
use Rattle.acsl_trees.specs.declared.tree.Tree.{Tree as Code, out-Tree}
use Rattle.acsl_trees.specs.Tree.{Tree, Trees, node, stop, more, trees_of, view_tree, view_trees}
use Rattle.c_runs.specs.Truth.{heads_of}
use Rattle.c_runs.specs.Recursion.{never_calls, none_calls, goes_down, all_go_down}
use Rattle.acsl_encode.specs.Told.{node_reads, reads, some_reads}
use Rattle.logic_order.specs.Simple.{is_simple, are_simple}
use Rattle.logic_trees.specs.Asking.{asks, told_in}
use Rattle.logic_trees.specs.Every.{Nodes, every, all_every, passes, ends}
use Rattle.logic_trees.specs.declared.questions.Asked.{Asked}
use Rattle.logic_trees.specs.declared.walks.Test.{Test}
use Rattle.logic_trees.specs.declared.walks.Test.TheVariants as test
use Rattle.logic_trees.proofs.Kids.{view_whole}

module _ (f : Nodes) (g : Head → Bool) where
  abbrev own : Code → List Code → Bool
  own u ks = f (out-Tree u).head (trees_of (view_trees ks))

  whole : (u : Code) (ks : List Code) → ks ≡ (out-Tree u).kids
      → (own u ks && (if g (out-Tree u).head then true else all_every f g (trees_of (view_trees ks)))) ≡ every f g (view_tree u)
  whole u ks kids =
      ap (λ vs. every f g (node (out-Tree u).head (trees_of (view_trees vs)))) kids ∙ ap (every f g) (sym (view_whole u))

  pub unfit : (b : Bool) (u : Code) (ks : List Code) → ks ≡ (out-Tree u).kids → b ≡ own u ks → b ≡ false → false ≡ every f g (view_tree u)
  unfit b u ks kids made fails =
      ap (λ c. c && (if g (out-Tree u).head then true else all_every f g (trees_of (view_trees ks)))) (sym fails ∙ made) ∙ whole u ks kids

  pub ended : (b e : Bool) (u : Code) (ks : List Code) → ks ≡ (out-Tree u).kids → b ≡ own u ks → b ≡ true → e ≡ g (out-Tree u).head → e ≡ true → true ≡ every f g (view_tree u)
  ended b e u ks kids made fits end last =
      (λ i. (sym fits ∙ made) i && (if (sym last ∙ end) i then true else all_every f g (trees_of (view_trees ks)))) ∙ whole u ks kids

  pub below : (b e c : Bool) (u : Code) (ks : List Code) → ks ≡ (out-Tree u).kids → b ≡ own u ks → b ≡ true → e ≡ g (out-Tree u).head → e ≡ false
      → c ≡ all_every f g (trees_of (view_trees ks)) → c ≡ every f g (view_tree u)
  below b e c u ks kids made fits end last rest =
      rest ∙ (λ i. (sym fits ∙ made) i && (if (sym last ∙ end) i then true else all_every f g (trees_of (view_trees ks)))) ∙ whole u ks kids

  abbrev from : List Code → ℕ → Bool
  from items i = all_every f g (trees_of (view_trees (drop i items)))

  opened : (items : List Code) (i : ℕ) (x : Code) → i < length items → x ≡ get_or items i x → from items i ≡ every f g (view_tree x) && from items (i + 1)
  opened items i x lt is =
      at_drop_more (λ us. all_every f g (trees_of (view_trees us))) items i x lt ∙ ap (λ u. every f g (view_tree u) && from items (i + 1)) (sym is)

  pub kid_fault : (items : List Code) (i : ℕ) (x : Code) (all : Bool) → all ≡ from items i → i < length items → x ≡ get_or items i x → false ≡ every f g (view_tree x) → false ≡ all
  kid_fault items i x all k lt is so = sym (k ∙ opened items i x lt is ∙ ap (λ b. b && from items (i + 1)) (sym so))

  pub kid_turn : (items : List Code) (i : ℕ) (x : Code) (all : Bool) → all ≡ from items i → i < length items → x ≡ get_or items i x → true ≡ every f g (view_tree x)
      → all ≡ from items (i + 1)
  kid_turn items i x all k lt is so = k ∙ opened items i x lt is ∙ ap (λ b. b && from items (i + 1)) (sym so)

  pub kid_end : (items : List Code) (i : ℕ) (all : Bool) → all ≡ from items i → length items ≤ i → true ≡ all
  kid_end items i all k past = sym (k ∙ at_drop_all (λ us. all_every f g (trees_of (view_trees us))) items i past)

pub ruleset tree_laws = (unfit, ended, below)

pub ruleset kid_laws = (kid_fault, kid_turn, kid_end)

-- ---- what tests mean

mutual
  simple_same : (t : Tree) → every (passes test.Simple) (ends test.Simple) t ≡ is_simple t
  simple_same (node head ks) = ap (λ b. passes test.Simple head ks && (if ends test.Simple head then true else b)) (simple_all ks)

  simple_all : (ts : Trees) → all_every (passes test.Simple) (ends test.Simple) ts ≡ are_simple ts
  simple_all stop = refl
  simple_all (more t ts) = let a = simple_same t in let b = simple_all ts in λ i. a i && b i

mutual
  never_same : (n : ℕ) (t : Tree) → every (passes (test.Apart n)) (ends (test.Apart n)) t ≡ never_calls n t
  never_same n (node head ks) = ap (λ b. passes (test.Apart n) head ks && b) (never_all n ks)

  never_all : (n : ℕ) (ts : Trees) → all_every (passes (test.Apart n)) (ends (test.Apart n)) ts ≡ none_calls n ts
  never_all n stop = refl
  never_all n (more t ts) = let a = never_same n t in let b = never_all n ts in λ i. a i && b i

mutual
  down_same : (n x : ℕ) (t : Tree) → every (passes (test.Down n x)) (ends (test.Down n x)) t ≡ goes_down n x t
  down_same n x (node head ks) = ap (λ b. passes (test.Down n x) head ks && b) (down_all n x ks)

  down_all : (n x : ℕ) (ts : Trees) → all_every (passes (test.Down n x)) (ends (test.Down n x)) ts ≡ all_go_down n x ts
  down_all n x stop = refl
  down_all n x (more t ts) = let a = down_same n x t in let b = down_all n x ts in λ i. a i && b i

nor : (a b c d : Bool) → not c ≡ a → not d ≡ b → not (c && d) ≡ a || b
nor a b true true p q = λ i. p i || q i
nor a b true false p q = λ i. p i || q i
nor a b false d p q = ap (λ c. c || b) p

not_not : (b : Bool) → not (not b) ≡ b
not_not true = refl
not_not false = refl

module _ (g : ℕ) (a : Asked) (calls : Bor (List Bool)) where
  abbrev unread : Test
  unread = test.Unread g a calls

  mutual
    reads_same : (t : Tree) → not (every (passes unread) (ends unread) t) ≡ reads (asks g a) (told_in calls.now) t
    reads_same (node head ks) =
        nor (node_reads (asks g a) (told_in calls.now) head (heads_of ks)) (some_reads (asks g a) (told_in calls.now) ks) (passes unread head ks)
        (all_every (passes unread) (ends unread) ks) (not_not (node_reads (asks g a) (told_in calls.now) head (heads_of ks))) (reads_all ks)

    reads_all : (ts : Trees) → not (all_every (passes unread) (ends unread) ts) ≡ some_reads (asks g a) (told_in calls.now) ts
    reads_all stop = refl
    reads_all (more t ts) =
        nor (reads (asks g a) (told_in calls.now) t) (some_reads (asks g a) (told_in calls.now) ts) (every (passes unread) (ends unread) t)
        (all_every (passes unread) (ends unread) ts) (reads_same t) (reads_all ts)

pub simple_is : (t : Tree) (b : Bool) → b ≡ every (passes test.Simple) (ends test.Simple) t → b ≡ is_simple t
simple_is t b e = e ∙ simple_same t

pub never_is : (n : ℕ) (t : Tree) (b : Bool) → b ≡ every (passes (test.Apart n)) (ends (test.Apart n)) t → b ≡ never_calls n t
never_is n t b e = e ∙ never_same n t

pub down_is : (n x : ℕ) (t : Tree) (b : Bool) → b ≡ every (passes (test.Down n x)) (ends (test.Down n x)) t → b ≡ goes_down n x t
down_is n x t b e = e ∙ down_same n x t

pub reads_is : (g : ℕ) (a : Asked) (calls : Bor (List Bool)) (t : Tree) (b : Bool) → b ≡ every (passes (test.Unread g a calls)) (ends (test.Unread g a calls)) t
    → not b ≡ reads (asks g a) (told_in calls.now) t
reads_is g a calls t b e = ap not e ∙ reads_same g a calls t
