-- The formulas of a call over ids.
use Rattle.std.proofs.Common.{◌≡◌, ℕ, zero, suc, ◌<◌, ◌≤◌, List, [], ◌∷◌, ◌++◌, map, length, All, refl, sym, ◌∙◌, ap, subst, arith}
use Rattle.std.specs.Prelude.{Option, Some, None}
use Rattle.std.proofs.lemmas.List.Elements.{All-push}
use Rattle.qed_terms.specs.declared.head.Head.{Head}
use Rattle.qed_terms.specs.declared.head.Head.TheVariants as h
use Rattle.qed_terms.specs.Setting.{Logic}
use Rattle.qed_terms.specs.Tree.{Tree, node, Trees, more, head_of, kids_in, trees_of}
use Rattle.qed_terms.specs.Nodes.{kids_of}
use Rattle.qed_terms.proofs.Lists.{trees_of-list_of}
use Rattle.term_sketches.specs.declared.sketch.Sketch.{Sketch}
use Rattle.term_sketches.specs.Sketches.{sketch_tree, slots}
use Rattle.instance_rows.specs.Calls.{argument_tree, cases_at, cases_among, cases_of_call}
use Rattle.drawn_instances.specs.Drawn.{AreDrawn, row_at}
use Rattle.call_instances.specs.Bodies.{in_slots, up_to_cut, above_cut, called}

-- ---- kids in the first slots, and one more id behind them

slots_from : (us ts : List Tree) (u : Tree) → in_slots (slots (us ++ (ts ++ u ∷ []))) (length us) (length ts) ≡ trees_of ts
slots_from us [] u = refl
slots_from us (t ∷ ts) u =
    let here : slots (us ++ (t ∷ (ts ++ u ∷ []))) (length us) ≡ t = at_end us (ts ++ u ∷ []) in
    let moved : us ++ (t ∷ (ts ++ u ∷ [])) ≡ (us ++ t ∷ []) ++ (ts ++ u ∷ []) = shift us (ts ++ u ∷ []) in
    let longer : suc (length us) ≡ length (us ++ t ∷ []) = one_longer us in
    let rest : in_slots (slots (us ++ (t ∷ (ts ++ u ∷ [])))) (suc (length us)) (length ts) ≡ trees_of ts =
    (λ j. in_slots (slots (moved j)) (longer j) (length ts)) ∙ slots_from (us ++ t ∷ []) ts u in
    λ j. more (here j) (rest j)
  where
    at_end : (us vs : List Tree) → slots (us ++ (t ∷ vs)) (length us) ≡ t
    at_end [] vs = refl
    at_end (v ∷ us) vs = at_end us vs

    shift : (us vs : List Tree) → us ++ (t ∷ vs) ≡ (us ++ t ∷ []) ++ vs
    shift [] vs = refl
    shift (v ∷ us) vs = ap (λ ws. v ∷ ws) (shift us vs)

    one_longer : (us : List Tree) → suc (length us) ≡ length (us ++ t ∷ [])
    one_longer [] = refl
    one_longer (v ∷ us) = ap suc (one_longer us)

kids_there : (ts : List Tree) (u : Tree) → in_slots (slots (ts ++ u ∷ [])) 0 (length ts) ≡ trees_of ts
kids_there ts u = slots_from [] ts u

last_there : (ts : List Tree) (u : Tree) → slots (ts ++ u ∷ []) (length ts) ≡ u
last_there [] u = refl
last_there (t ∷ ts) u = last_there ts u

argument_there : (ts : List Tree) (u : Tree) (n : ℕ) → n < length ts → argument_tree (trees_of ts) n ≡ Some (slots (ts ++ u ∷ []) n)
argument_there [] u n k = absurd (omega (arith, k))
argument_there (t ∷ ts) u zero k = refl
argument_there (t ∷ ts) u (suc n) k = argument_there ts u n (omega (arith, k))

argument_nowhere : (ts : List Tree) (n : ℕ) → length ts ≤ n → argument_tree (trees_of ts) n ≡ None
argument_nowhere [] n k = refl
argument_nowhere (t ∷ ts) zero k = absurd (omega (arith, k))
argument_nowhere (t ∷ ts) (suc n) k = argument_nowhere ts n (omega (arith, k))

map_last : {Id : Type 0} (tree : Id → Tree) (ks : List Id) (id : Id) → map tree (ks ++ id ∷ []) ≡ map tree ks ++ tree id ∷ []
map_last tree [] id = refl
map_last tree (k ∷ ks) id = ap (λ ts. tree k ∷ ts) (map_last tree ks id)

map_length : {Id : Type 0} (tree : Id → Tree) (ks : List Id) → length (map tree ks) ≡ length ks
map_length tree [] = refl
map_length tree (k ∷ ks) = ap suc (map_length tree ks)

-- ---- by a function

pub no_argument : {Id : Type 0} (tree : Id → Tree) (l : Logic) (ks : List Id) (t : Tree) (n : ℕ) → length ks ≤ n → cases_at l (trees_of (map tree ks)) t (argument_tree (trees_of (map tree ks)) n) ≡ []
no_argument tree l ks t n k =
    let ts = map tree ks in
    let m : length ts ≤ n = let e = map_length tree ks in omega (arith, k, e) in
    ap (cases_at l (trees_of ts) t) (argument_nowhere ts n m)

pub cases_drawn : {Id : Type 0} (held : Id → Type 0) (tree : Id → Tree) (made ids ks : List Id) (id : Id) (sketches : List Sketch) (l : Logic) (n count : ℕ)
    → made ≡ ids → ids ≡ ks ++ id ∷ [] → All held ks → held id → n < length ks → count ≡ length ks
    → ((f : ℕ → Tree) → map (sketch_tree f) sketches ≡ up_to_cut l (in_slots f 0 count) (f count) (f n) ∷ above_cut l (in_slots f 0 count) (f count) (f n) ∷ [])
    → AreDrawn held tree made sketches (cases_at l (trees_of (map tree ks)) (tree id) (argument_tree (trees_of (map tree ks)) n))
cases_drawn held tree made ids ks id sketches l n count e g a p k c d =
    let ts = map tree ks in
    let same : made ≡ ks ++ id ∷ [] = e ∙ g in
    let f = slots (ts ++ tree id ∷ []) in
    let slots_are : slots (map tree made) ≡ f = ap (λ is. slots (map tree is)) same ∙ ap slots (map_last tree ks id) in
    let long = map_length tree ks in
    let many : count ≡ length ts = c ∙ sym long in
    let kids : in_slots f 0 count ≡ trees_of ts = ap (in_slots f 0) many ∙ kids_there ts (tree id) in
    let call : f count ≡ tree id = ap f many ∙ last_there ts (tree id) in
    let found = argument_there ts (tree id) n (omega (arith, k, long)) in
    record {
      ids_held = subst (All held) (sym same) (All-push held ks id a p);
      drawn =
          ap (λ s. map (sketch_tree s) sketches) slots_are ∙ d f
          ∙ (λ j. up_to_cut l (kids j) (call j) (f n) ∷ above_cut l (kids j) (call j) (f n) ∷ [])
          ∙ sym (ap (cases_at l (trees_of ts) (tree id)) found);
    }

pub ruleset case_laws = (no_argument, cases_drawn)

-- ---- the row

abbrev Calls : Head → Option (List ℕ) → Type 0
Calls g None = Unit {0}
Calls g (Some x) = g ≡ h.App x

calls : (g : Head) → Calls g (called g)
unfolding called
calls (h.App x) = refl
calls g = tt

app_there : (g : Head) (x : List ℕ) → called g ≡ Some x → g ≡ h.App x
app_there g x e = let P : Option (List ℕ) → Type 0 = λ o. Calls g o in subst P e (calls g)

no_row : (fs : List Logic) (head : Head) (ts : Trees) → called head ≡ None → cases_of_call fs head ts ≡ []
unfolding called
no_row fs (h.App x) ts e = absurd cc
no_row fs head ts e = refl

pub no_call : (fs : List Logic) (t : Tree) (g : Head) → g ≡ head_of t → called g ≡ None → row_at (cases_of_call fs) t ≡ []
unfolding row_at
no_call fs t g e n = no_row fs (head_of t) (kids_in t) (ap called (sym e) ∙ n)

kids_of_ids : {Id : Type 0} (tree : Id → Tree) (t : Tree) (ks : List Id) → map tree ks ≡ kids_of t → trees_of (map tree ks) ≡ kids_in t
kids_of_ids tree t ks e = ap trees_of e ∙ trees_of-list_of (kids_in t)

row_called : {Id : Type 0} (tree : Id → Tree) (fs : List Logic) (t : Tree) (ks : List Id) (g : Head) (x : List ℕ) → g ≡ head_of t → called g ≡ Some x → map tree ks ≡ kids_of t
    → row_at (cases_of_call fs) t ≡ cases_among fs x (trees_of (map tree ks))
unfolding row_at
row_called tree fs t ks g x e c k =
    let head : head_of t ≡ h.App x = sym e ∙ app_there g x c in
    λ j. cases_of_call fs (head j) (sym (kids_of_ids tree t ks k) j)

pub no_function : {Id : Type 0} (tree : Id → Tree) (fs : List Logic) (t : Tree) (ks : List Id) (g : Head) (x : List ℕ) → g ≡ head_of t → called g ≡ Some x → map tree ks ≡ kids_of t
    → cases_among fs x (trees_of (map tree ks)) ≡ [] → row_at (cases_of_call fs) t ≡ []
no_function tree fs t ks g x e c k n = row_called tree fs t ks g x e c k ∙ n

whole : (t : Tree) (x : List ℕ) (ts : Trees) → head_of t ≡ h.App x → ts ≡ kids_in t → node (h.App x) ts ≡ t
whole (node g us) x ts e f = λ j. node (sym e j) (f j)

pub call_drawn : {Id : Type 0} (held : Id → Type 0) (tree : Id → Tree) (made : List Id) (sketches : List Sketch) (fs : List Logic) (id : Id) (ks : List Id) (g : Head) (x : List ℕ) (l : Logic) (n : ℕ)
    → g ≡ head_of (tree id) → called g ≡ Some x → map tree ks ≡ kids_of (tree id)
    → cases_among fs x (trees_of (map tree ks)) ≡ cases_at l (trees_of (map tree ks)) (node (h.App x) (trees_of (map tree ks))) (argument_tree (trees_of (map tree ks)) n)
    → AreDrawn held tree made sketches (cases_at l (trees_of (map tree ks)) (tree id) (argument_tree (trees_of (map tree ks)) n))
    → AreDrawn held tree made sketches (row_at (cases_of_call fs) (tree id))
call_drawn held tree made sketches fs id ks g x l n e c k by d =
    let ts = trees_of (map tree ks) in
    let call : node (h.App x) ts ≡ tree id = whole (tree id) x ts (sym e ∙ app_there g x c) (kids_of_ids tree (tree id) ks k) in
    let row : row_at (cases_of_call fs) (tree id) ≡ cases_at l ts (tree id) (argument_tree ts n) =
    row_called tree fs (tree id) ks g x e c k ∙ by ∙ ap (λ t. cases_at l ts t (argument_tree ts n)) call in
    subst (AreDrawn held tree made sketches) (sym row) d

pub ruleset call_laws = (no_call, no_function, call_drawn)
