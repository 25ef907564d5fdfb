-- The tree of a sketch, by its variant, and of drafts.
use Rattle.std.proofs.Common.{◌≡◌, ℤ, ℕ, List, [], ◌∷◌, map, ap, sym, subst, refl, ◌∙◌}
use Rattle.std.specs.Prelude.{Result, Ok, Err, IfOk}
use Rattle.wp_base.specs.declared.memory.NoMemory.{NoMemory}
use Rattle.qed_terms.specs.declared.head.Head.{Head}
use Rattle.qed_terms.specs.declared.head.Head.TheVariants as h
use Rattle.qed_terms.specs.Tree.{Tree, node, Trees, stop, more, list_of, trees_of, num}
use Rattle.qed_terms.proofs.Lists.{trees_of-list_of}
use Rattle.term_sketches.specs.declared.sketch.Sketch.{Sketch, Sketch-F, fold-roll-Sketch}
use Rattle.term_sketches.specs.declared.sketch.Sketch.TheVariants as sketch
use Rattle.term_sketches.specs.Sketches.{sketch_layer, sketch_tree, Draws, DrawAll, DrawEach}

pub sketch_tree-Slot : (f : ℕ → Tree) (n : ℕ) → sketch_tree f (sketch.Slot n) ≡ f n
unfolding sketch_tree
sketch_tree-Slot f n = ap (sketch_tree f) (sym (sketch.rolls-Slot n)) ∙ fold-roll-Sketch Tree (sketch_layer f) (Sketch-F.Slot n)

pub sketch_tree-Over : (f : ℕ → Tree) (head : Head) (kids : List Sketch) → sketch_tree f (sketch.Over head kids) ≡ node head (trees_of (map (sketch_tree f) kids))
unfolding sketch_tree
sketch_tree-Over f head kids = ap (sketch_tree f) (sym (sketch.rolls-Over head kids)) ∙ fold-roll-Sketch Tree (sketch_layer f) (Sketch-F.Over head kids)

pub slot_drawn : (f : ℕ → Tree) (n : ℕ) → Draws f (Ok (sketch.Slot n)) (f n)
slot_drawn f n = record { drawn = sketch_tree-Slot f n }

pub number_drawn : (f : ℕ → Tree) (z : ℤ) → Draws f (Ok (sketch.Over (h.Num z) [])) (num z)
number_drawn f z = record { drawn = sketch_tree-Over f (h.Num z) [] }

pub over_drawn : (f : ℕ → Tree) (head : Head) (kids : List Sketch) (ts : Trees) → map (sketch_tree f) kids ≡ list_of ts → Draws f (Ok (sketch.Over head kids)) (node head ts)
over_drawn f head kids ts e = record { drawn = sketch_tree-Over f head kids ∙ ap (λ us. node head (trees_of us)) e ∙ ap (node head) (trees_of-list_of ts) }

pub want_drawn : (f : ℕ → Tree) (e : NoMemory) (t : Tree) → Draws f (Err e) t
want_drawn f e t = record { drawn = tt }

-- of drafts that are all sketches
pub all_drawn : (f : ℕ → Tree) (made : List Sketch) (ds : List (Result Sketch NoMemory)) (ts : List Tree) → ds ≡ map Ok made → DrawEach f ds ts → map (sketch_tree f) made ≡ ts
all_drawn f made ds ts e d = go made ts (let P : List (Result Sketch NoMemory) → Type 0 = λ es. DrawEach f es ts in subst P e d)
  where
    go : (made : List Sketch) (ts : List Tree) → DrawEach f (map Ok made) ts → map (sketch_tree f) made ≡ ts
    go [] [] d = refl
    go [] (t ∷ ts) d = absurd d
    go (s ∷ ss) [] d = absurd d
    go (s ∷ ss) (t ∷ ts) d = let r = go ss ts d.1 in λ i. d.0.drawn i ∷ r i

pub each_of_all : (f : ℕ → Tree) (ds : List (Result Sketch NoMemory)) (ts : Trees) → DrawAll f ds ts → DrawEach f ds (list_of ts)
each_of_all f [] stop d = tt
each_of_all f [] (more t ts) d = absurd d
each_of_all f (s ∷ ss) stop d = absurd d
each_of_all f (s ∷ ss) (more t ts) d = (d.0, each_of_all f ss ts d.1)

pub sketch_tree_Over : (f : ℕ → Tree) (head : Head) (kids : List Sketch) → sketch_tree f (sketch.Over head kids) ≡ node head (trees_of (map (sketch_tree f) kids))
sketch_tree_Over = sketch_tree-Over

pub sketch_tree_Slot : (f : ℕ → Tree) (n : ℕ) → sketch_tree f (sketch.Slot n) ≡ f n
sketch_tree_Slot = sketch_tree-Slot
