-- What the row at a frame and a load gives, by what is seen.
use Rattle.std.proofs.Common.{◌≡◌, ◌<◌, ◌≤◌, Bool, true, false, List, [], ◌∷◌, ◌++◌, map, drop, length, get_or, All, refl, sym, ◌∙◌, ap, subst, arith}
use Rattle.std.specs.Prelude.{Option, Some, None, if◌then◌else◌}
use Rattle.std.proofs.lemmas.List.Elements.{All-cons, All-same}
use Rattle.qed_terms.specs.declared.head.Head.{Head}
use Rattle.qed_terms.specs.declared.head.Head.TheVariants as h
use Rattle.qed_terms.specs.declared.head.TermOp.TheVariants as op
use Rattle.qed_terms.specs.declared.head.FormOp.TheVariants as form
use Rattle.qed_terms.specs.declared.head.Shape.{Shape}
use Rattle.qed_terms.specs.Nodes.{kids_of}
use Rattle.qed_terms.specs.Order.{same}
use Rattle.qed_terms.specs.Tree.{Tree, node, Trees, stop, more, head_of, kids_in, list_of, trees_of}
use Rattle.qed_terms.proofs.Lists.{trees_of-list_of}
use Rattle.term_sketches.specs.declared.sketch.Sketch.{Sketch}
use Rattle.term_sketches.specs.Sketches.{sketch_tree, slots}
use Rattle.instance_rows.specs.Accesses.{Load, load_at}
use Rattle.instance_rows.specs.PairRows.{at_load_of, agreement, frame_of_load}
use Rattle.branch_accesses.specs.declared.loads.IdLoad.{IdLoad}
use Rattle.branch_accesses.specs.Ids.{load_of}
use Rattle.drawn_instances.specs.Drawn.{AreDrawn}
use Rattle.pair_instances.specs.Facts.{framed_shapes, row_of_pair}

-- ---- a row at a load of a memory, by the load that the node is

abbrev pub by_load : (memory : Tree) → ((block offset : Tree) → Tree) → Option Load → List Tree
by_load m formula None = []
by_load m formula (Some l) = if same m l.memory then formula l.block l.offset ∷ [] else []

load_there : (m : Tree) (formula : (block offset : Tree) → Tree) (head : Head) (ts : Trees) → at_load_of m formula head ts ≡ by_load m formula (load_at (node head ts))
load_there m formula (h.Term op.Load) stop = refl
load_there m formula (h.Term op.Load) (more a stop) = refl
load_there m formula (h.Term op.Load) (more a (more b stop)) = refl
load_there m formula (h.Term op.Load) (more a (more b (more c stop))) = refl
load_there m formula (h.Term op.Load) (more a (more b (more c (more d ts)))) = refl
load_there m formula head ts = refl

pub at_load : (m : Tree) (formula : (block offset : Tree) → Tree) (u : Tree) → at_load_of m formula (head_of u) (kids_in u) ≡ by_load m formula (load_at u)
at_load m formula (node head ts) = load_there m formula head ts

-- ---- a frame

abbrev Frames : Head → Option (List Shape) → Type 0
Frames g None = Unit {0}
Frames g (Some shapes) = g ≡ h.Form (form.Frame shapes)

frames : (g : Head) → Frames g (framed_shapes g)
unfolding framed_shapes
frames (h.Form (form.Frame shapes)) = refl
frames g = tt

frame_there : (g : Head) (shapes : List Shape) → framed_shapes g ≡ Some shapes → g ≡ h.Form (form.Frame shapes)
frame_there g shapes e = let P : Option (List Shape) → Type 0 = λ o. Frames g o in subst P e (frames g)

no_frame : (g head : Head) (us ts : Trees) → framed_shapes g ≡ None → frame_of_load g us head ts ≡ []
unfolding framed_shapes
no_frame (h.Form (form.Frame shapes)) head us ts e = absurd cc
no_frame g head us ts e = refl

no_load : (g : Head) (us : Trees) (u : Tree) → load_at u ≡ None → frame_of_load g us (head_of u) (kids_in u) ≡ []
no_load (h.Form (form.Frame shapes)) stop u e = refl
no_load (h.Form (form.Frame shapes)) (more m stop) u e = refl
no_load (h.Form (form.Frame shapes)) (more m (more n rs)) u e = at_load n (agreement shapes rs m n) u ∙ ap (by_load n (agreement shapes rs m n)) e
no_load g us u e = refl

short : {Id : Type 0} (tree : Id → Tree) (ks : List Id) (g head : Head) (us ts : Trees) → map tree ks ≡ list_of us → length ks < 2 → frame_of_load g us head ts ≡ []
short tree ks (h.Form (form.Frame shapes)) head stop ts e l = refl
short tree ks (h.Form (form.Frame shapes)) head (more m stop) ts e l = refl
short tree [] (h.Form (form.Frame shapes)) head (more m (more n rs)) ts e l = absurd cc
short tree (a ∷ []) (h.Form (form.Frame shapes)) head (more m (more n rs)) ts e l = absurd cc
short tree (a ∷ b ∷ ks) (h.Form (form.Frame shapes)) head (more m (more n rs)) ts e l = absurd (omega (arith, l))
short tree ks g head us ts e l = refl

-- ---- the row

pub frame_unseen : (t u : Tree) (g : Head) → g ≡ head_of t → framed_shapes g ≡ None → row_of_pair frame_of_load t u ≡ []
unfolding row_of_pair
frame_unseen (node k us) (node head ts) g p e = no_frame k head us ts (ap framed_shapes (sym p) ∙ e)

pub frame_unloaded : (t u : Tree) → None ≡ load_at u → row_of_pair frame_of_load t u ≡ []
unfolding row_of_pair
frame_unloaded (node k us) u e = no_load k us u (sym e)

pub frame_short : {Id : Type 0} (tree : Id → Tree) (ks : List Id) (t u : Tree) → map tree ks ≡ kids_of t → length ks < 2 → row_of_pair frame_of_load t u ≡ []
unfolding row_of_pair
frame_short tree ks (node k us) (node head ts) e l = short tree ks k head us ts e l

module _ {Id : Type 0} (tree : Id → Tree) (t u : Tree) (g : Head) (shapes : List Shape) (l : IdLoad Id) (framed : g ≡ head_of t) (is : framed_shapes g ≡ Some shapes) (loaded : Some (load_of tree l) ≡ load_at u) where
  at_kids : (m n : Tree) (rs : Trees) → kids_in t ≡ more m (more n rs) → row_of_pair frame_of_load t u ≡ by_load n (agreement shapes rs m n) (Some (load_of tree l))
  unfolding row_of_pair
  at_kids m n rs e =
      (λ i. frame_of_load ((sym framed ∙ frame_there g shapes is) i) (e i) (head_of u) (kids_in u)) ∙ at_load n (agreement shapes rs m n) u ∙ ap (by_load n (agreement shapes rs m n)) (sym loaded)

  kids_two : (a b : Id) (ks : List Id) (us : Trees) → map tree (a ∷ b ∷ ks) ≡ list_of us → us ≡ more (tree a) (more (tree b) (trees_of (map tree ks)))
  kids_two a b ks stop e = absurd cc
  kids_two a b ks (more m stop) e = absurd cc
  kids_two a b ks (more m (more n rs)) e =
      let first : tree a ≡ m = cc in
      let second : tree b ≡ n = cc in
      let rest : map tree ks ≡ list_of rs = cc in
      λ i. more (sym first i) (more (sym second i) ((sym (trees_of-list_of rs) ∙ ap trees_of (sym rest)) i))

  pub frame_other : (ks : List Id) (b : Id) (r : Bool) → map tree ks ≡ kids_of t → 2 ≤ length ks → b ≡ get_or ks 1 b → r ≡ same (tree b) (tree l.memory) → r ≡ false → row_of_pair frame_of_load t u ≡ []
  frame_other [] b r e n p s f = absurd (omega (arith, n))
  frame_other (x ∷ []) b r e n p s f = absurd (omega (arith, n))
  frame_other (x ∷ y ∷ ks) b r e n p s f =
      at_kids (tree x) (tree y) (trees_of (map tree ks)) (kids_two x y ks (kids_in t) e)
      ∙ ap (λ c. if c then agreement shapes (trees_of (map tree ks)) (tree x) (tree y) (tree l.block) (tree l.offset) ∷ [] else []) (ap (λ k. same (tree k) (tree l.memory)) (sym p) ∙ sym s ∙ f)

  -- over the slots of block, offset and all kids
  abbrev over_slots : List Tree → Tree
  over_slots us = agreement shapes (trees_of (drop 4 us)) (slots us 2) (slots us 3) (slots us 0) (slots us 1)

  pub frame_seen : (held : Id → Type 0) (made given ks : List Id) (sketches : List Sketch) (b : Id) (r : Bool) → map tree ks ≡ kids_of t → 2 ≤ length ks → b ≡ get_or ks 1 b → r ≡ same (tree b) (tree l.memory) → r ≡ true
      → made ≡ given → given ≡ (l.block ∷ l.offset ∷ []) ++ ks → held l.block → held l.offset → All held ks
      → map (sketch_tree (slots (map tree given))) sketches ≡ over_slots (map tree given) ∷ [] → AreDrawn held tree made sketches (row_of_pair frame_of_load t u)
  frame_seen held made given [] sketches b r e n p s f m w hb ho a d = absurd (omega (arith, n))
  frame_seen held made given (x ∷ []) sketches b r e n p s f m w hb ho a d = absurd (omega (arith, n))
  frame_seen held made given (x ∷ y ∷ ks) sketches b r e n p s f m w hb ho a d =
      let row = at_kids (tree x) (tree y) (trees_of (map tree ks)) (kids_two x y ks (kids_in t) e)
      ∙ ap (λ c. if c then agreement shapes (trees_of (map tree ks)) (tree x) (tree y) (tree l.block) (tree l.offset) ∷ [] else []) (ap (λ k. same (tree k) (tree l.memory)) (sym p) ∙ sym s ∙ f) in
      record {
        ids_held = All-same held made (l.block ∷ l.offset ∷ x ∷ y ∷ ks) (m ∙ w) (All-cons held l.block (l.offset ∷ x ∷ y ∷ ks) hb (All-cons held l.offset (x ∷ y ∷ ks) ho a));
        drawn = ap (λ is. map (sketch_tree (slots (map tree is))) sketches) m ∙ d ∙ ap (λ is. over_slots (map tree is) ∷ []) w ∙ sym row;
      }
