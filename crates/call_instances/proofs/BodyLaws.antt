-- Arguments in slots, and bodies in which they are placed.
use Rattle.std.proofs.Common.{◌≡◌, ℕ, zero, suc, ◌+◌, ◌-◌, ◌<◌, ◌≤◌, Bool, true, false, ◌&&◌, cond, List, [], ◌∷◌, ◌++◌, map, take, length, drop, get_or, drop_of_length-le, bytes_eq, refl, sym, ◌∙◌, ap, subst, arith}
use Rattle.std.specs.Prelude.{Option, Some, None, Ok, Err}
use Rattle.std.specs.Option.{option_map}
use Rattle.std.proofs.lemmas.List.{map_push, take_all}
use Rattle.wp_base.specs.declared.memory.NoMemory.{NoMemory}
use Rattle.qed_terms.specs.declared.head.Sort.{Sort}
use Rattle.qed_terms.specs.declared.head.Head.{Head}
use Rattle.qed_terms.specs.declared.head.Head.TheVariants as h
use Rattle.qed_terms.specs.declared.term.Term.{Term, Term-F, roll-Term, out-Term, roll-out-Term, fold-roll-Term}
use Rattle.qed_terms.specs.declared.term.Formula.{Formula, Formula-F, roll-Formula, out-Formula, roll-out-Formula, fold-roll-Formula}
use Rattle.qed_terms.specs.declared.node.Node.{Node}
use Rattle.qed_terms.specs.declared.node.Node.TheVariants as n
use Rattle.qed_terms.specs.Setting.{Param}
use Rattle.qed_terms.specs.Tree.{Tree, node, Trees, stop, more, head_of, kids_in, list_of, trees_of, true_tree}
use Rattle.qed_terms.specs.Nodes.{node_tree, kids_of}
use Rattle.qed_terms.specs.View.{term_tree, term_layer, formula_tree, formula_layer}
use Rattle.qed_terms.specs.WellFormed.{same_sort}
use Rattle.qed_linear.specs.Linear.{unwrap_or}
use Rattle.qed_linear.proofs.Places.{one_off}
use Rattle.qed_calls.specs.Calls.{argument_for, with_arguments, all_with_arguments}
use Rattle.qed_calls.specs.View.{param, params}
use Rattle.term_sketches.specs.declared.sketch.Sketch.{Sketch}
use Rattle.term_sketches.specs.declared.sketch.Sketch.TheVariants as sketch
use Rattle.term_sketches.specs.Sketches.{sketch_tree, Draws}
use Rattle.term_sketches.proofs.Drawn.{sketch_tree-Slot}
use Rattle.call_instances.specs.Bodies.{in_slots, argument_at, placed_tree}

-- ---- parameters and slots, from a place on

abbrev pub ArgumentFrom : List Term → ℕ → (ℕ → Tree) → List ℕ → Sort → ℕ → Option Tree
ArgumentFrom ns count f x s i = argument_for (params (drop i ns)) (in_slots f i (count - i)) x s

slot_off : (f : ℕ → Tree) (count i : ℕ) → i < count → in_slots f i (count - i) ≡ more (f i) (in_slots f (i + 1) (count - (i + 1)))
slot_off f count i k =
    let e : count - i ≡ suc (count - (i + 1)) = omega (arith, k) in
    let m : suc i ≡ i + 1 = omega arith in
    ap (in_slots f i) e ∙ ap (λ j. more (f i) (in_slots f j (count - (i + 1)))) m

pub argument_here : (ns : List Term) (count : ℕ) (f : ℕ → Tree) (x : List ℕ) (s : Sort) (i : ℕ) (own : Term) (b : Bool) → i < length ns → i < count → own ≡ get_or ns i own
    → b ≡ bytes_eq x (param own).name && same_sort s (param own).sort → ArgumentFrom ns count f x s i ≡ cond b (Some (f i)) (ArgumentFrom ns count f x s (i + 1))
argument_here ns count f x s i own b l m p e =
    let a = one_off ns i own l p in
    let c = slot_off f count i m in
    (λ j. argument_for (params (a j)) (c j) x s) ∙ ap (λ d. cond d (Some (f i)) (ArgumentFrom ns count f x s (i + 1))) (sym e)

-- the first of them is it
pub argument_found : (ns : List Term) (count : ℕ) (x : List ℕ) (s : Sort) (i : ℕ) (own : Term) (b : Bool) → i < length ns → i < count → own ≡ get_or ns i own
    → b ≡ bytes_eq x (param own).name && same_sort s (param own).sort → b ≡ true → ((f : ℕ → Tree) → argument_for (params ns) (in_slots f 0 count) x s ≡ ArgumentFrom ns count f x s i)
    → (f : ℕ → Tree) → option_map f (Some i) ≡ argument_for (params ns) (in_slots f 0 count) x s
argument_found ns count x s i own b l m p e is k f =
    sym (k f ∙ argument_here ns count f x s i own b l m p e ∙ ap (λ c. cond c (Some (f i)) (ArgumentFrom ns count f x s (i + 1))) is)

-- the first of them isn't it
pub argument_next : (ns : List Term) (count : ℕ) (x : List ℕ) (s : Sort) (i : ℕ) (own : Term) (b : Bool) → i < length ns → i < count → own ≡ get_or ns i own
    → b ≡ bytes_eq x (param own).name && same_sort s (param own).sort → b ≡ false → ((f : ℕ → Tree) → argument_for (params ns) (in_slots f 0 count) x s ≡ ArgumentFrom ns count f x s i)
    → (f : ℕ → Tree) → argument_for (params ns) (in_slots f 0 count) x s ≡ ArgumentFrom ns count f x s (i + 1)
argument_next ns count x s i own b l m p e differs k f =
    k f ∙ argument_here ns count f x s i own b l m p e ∙ ap (λ c. cond c (Some (f i)) (ArgumentFrom ns count f x s (i + 1))) differs

pub argument_none : (ns : List Term) (count : ℕ) (x : List ℕ) (s : Sort) (i : ℕ) → count ≤ i → ((f : ℕ → Tree) → argument_for (params ns) (in_slots f 0 count) x s ≡ ArgumentFrom ns count f x s i)
    → (f : ℕ → Tree) → option_map f None ≡ argument_for (params ns) (in_slots f 0 count) x s
argument_none ns count x s i l k f =
    let e : count - i ≡ 0 = omega (arith, l) in
    sym (k f ∙ ap (λ c. argument_for (params (drop i ns)) (in_slots f i c) x s) e ∙ go (params (drop i ns)))
  where
    go : (ps : List Param) → argument_for ps stop x s ≡ None
    go [] = refl
    go (p ∷ ps) = refl

pub argument_past : (ns : List Term) (count : ℕ) (x : List ℕ) (s : Sort) (i : ℕ) → length ns ≤ i → ((f : ℕ → Tree) → argument_for (params ns) (in_slots f 0 count) x s ≡ ArgumentFrom ns count f x s i)
    → (f : ℕ → Tree) → option_map f None ≡ argument_for (params ns) (in_slots f 0 count) x s
argument_past ns count x s i l k f = sym (k f ∙ ap (λ zs. argument_for (params zs) (in_slots f i (count - i)) x s) (drop_of_length-le ns l))

pub ruleset argument_laws = (argument_found, argument_next, argument_none, argument_past)

-- ---- a head over kids

pub place_slot : (ps : List Param) (count : ℕ) (head : Head) (kids : List Sketch) (o : Option ℕ) (i : ℕ) → ((f : ℕ → Tree) → option_map f o ≡ argument_at ps (in_slots f 0 count) head) → o ≡ Some i
    → (f : ℕ → Tree) → sketch_tree f (sketch.Slot i) ≡ placed_tree ps (in_slots f 0 count) head (map (sketch_tree f) kids)
place_slot ps count head kids o i e is f =
    sketch_tree-Slot f i ∙ ap (λ a. unwrap_or a (node head (trees_of (map (sketch_tree f) kids)))) (sym (ap (option_map f) is) ∙ e f)

pub place_head : (ps : List Param) (count : ℕ) (head : Head) (kids : List Sketch) (o : Option ℕ) (made : Sketch) → ((f : ℕ → Tree) → option_map f o ≡ argument_at ps (in_slots f 0 count) head) → o ≡ None
    → ((f : ℕ → Tree) → sketch_tree f made ≡ node head (trees_of (map (sketch_tree f) kids)))
    → (f : ℕ → Tree) → sketch_tree f made ≡ placed_tree ps (in_slots f 0 count) head (map (sketch_tree f) kids)
place_head ps count head kids o made e is w f =
    w f ∙ ap (λ a. unwrap_or a (node head (trees_of (map (sketch_tree f) kids)))) (sym (ap (option_map f) is) ∙ e f)

pub ruleset place_laws = (place_slot, place_head)

-- ---- names have no kids

abbrev Alone : Head → Trees → Type 0
Alone (h.Var x s) ts = ts ≡ stop
Alone head ts = Unit {0}

abbrev IsAlone : Tree → Type 0
IsAlone t = Alone (head_of t) (kids_in t)

term_here : (y : Term-F Formula Term) → IsAlone (term_tree (roll-Term y))
unfolding term_tree formula_tree
term_here (Term-F.Num z) = let P : Tree → Type 0 = IsAlone in subst P (sym (fold-roll-Term Tree Tree formula_layer term_layer (Term-F.Num z))) tt
term_here (Term-F.Var x s) = let P : Tree → Type 0 = IsAlone in subst P (sym (fold-roll-Term Tree Tree formula_layer term_layer (Term-F.Var x s))) refl
term_here (Term-F.Op o ts) = let P : Tree → Type 0 = IsAlone in subst P (sym (fold-roll-Term Tree Tree formula_layer term_layer (Term-F.Op o ts))) tt
term_here (Term-F.Ite f t u) = let P : Tree → Type 0 = IsAlone in subst P (sym (fold-roll-Term Tree Tree formula_layer term_layer (Term-F.Ite f t u))) tt
term_here (Term-F.App f ts) = let P : Tree → Type 0 = IsAlone in subst P (sym (fold-roll-Term Tree Tree formula_layer term_layer (Term-F.App f ts))) tt

term_alone : (t : Term) → IsAlone (term_tree t)
term_alone t = let P : Term → Type 0 = λ u. IsAlone (term_tree u) in subst P (roll-out-Term t) (term_here (out-Term t))

formula_here : (y : Formula-F Formula Term) → IsAlone (formula_tree (roll-Formula y))
unfolding term_tree formula_tree
formula_here Formula-F.True = let P : Tree → Type 0 = IsAlone in subst P (sym (fold-roll-Formula Tree Tree formula_layer term_layer Formula-F.True)) tt
formula_here Formula-F.False = let P : Tree → Type 0 = IsAlone in subst P (sym (fold-roll-Formula Tree Tree formula_layer term_layer Formula-F.False)) tt
formula_here (Formula-F.Rel o ts) = let P : Tree → Type 0 = IsAlone in subst P (sym (fold-roll-Formula Tree Tree formula_layer term_layer (Formula-F.Rel o ts))) tt
formula_here (Formula-F.Not f) = let P : Tree → Type 0 = IsAlone in subst P (sym (fold-roll-Formula Tree Tree formula_layer term_layer (Formula-F.Not f))) tt
formula_here (Formula-F.And fs) = let P : Tree → Type 0 = IsAlone in subst P (sym (fold-roll-Formula Tree Tree formula_layer term_layer (Formula-F.And fs))) tt
formula_here (Formula-F.Or fs) = let P : Tree → Type 0 = IsAlone in subst P (sym (fold-roll-Formula Tree Tree formula_layer term_layer (Formula-F.Or fs))) tt
formula_here (Formula-F.Imp f g) = let P : Tree → Type 0 = IsAlone in subst P (sym (fold-roll-Formula Tree Tree formula_layer term_layer (Formula-F.Imp f g))) tt
formula_here (Formula-F.Iff f g) = let P : Tree → Type 0 = IsAlone in subst P (sym (fold-roll-Formula Tree Tree formula_layer term_layer (Formula-F.Iff f g))) tt
formula_here (Formula-F.Forall x t u f) = let P : Tree → Type 0 = IsAlone in subst P (sym (fold-roll-Formula Tree Tree formula_layer term_layer (Formula-F.Forall x t u f))) tt
formula_here (Formula-F.Exists x t u f) = let P : Tree → Type 0 = IsAlone in subst P (sym (fold-roll-Formula Tree Tree formula_layer term_layer (Formula-F.Exists x t u f))) tt

formula_alone : (f : Formula) → IsAlone (formula_tree f)
formula_alone f = let P : Formula → Type 0 = λ g. IsAlone (formula_tree g) in subst P (roll-out-Formula f) (formula_here (out-Formula f))

node_alone : (x : Node) → IsAlone (node_tree x)
node_alone (n.Term t) = term_alone t.now
node_alone (n.Formula f) = formula_alone f.now

-- ---- a term or a formula from its head and kids

placed_all : (ps : List Param) (us ts : Trees) → trees_of (map (with_arguments ps us) (list_of ts)) ≡ all_with_arguments ps us ts
placed_all ps us stop = refl
placed_all ps us (more t ts) = ap (more (with_arguments ps us t)) (placed_all ps us ts)

by_head : (ps : List Param) (us : Trees) (head : Head) (ts : Trees) → Alone head ts → placed_tree ps us head (map (with_arguments ps us) (list_of ts)) ≡ with_arguments ps us (node head ts)
by_head ps us (h.Var x s) ts a =
    ap (λ vs. unwrap_or (argument_for ps us x s) (node (h.Var x s) (trees_of (map (with_arguments ps us) (list_of vs))))) a
    ∙ ap (λ vs. unwrap_or (argument_for ps us x s) (node (h.Var x s) vs)) (sym a)
by_head ps us head ts a = ap (node head) (placed_all ps us ts)

of_tree : (ps : List Param) (us : Trees) (t : Tree) → IsAlone t → placed_tree ps us (head_of t) (map (with_arguments ps us) (kids_of t)) ≡ with_arguments ps us t
of_tree ps us (node head ts) a = by_head ps us head ts a

-- the kids so far
abbrev pub PlacedSoFar : List Param → ℕ → List Sketch → List Tree → ℕ → Type 0
PlacedSoFar ps count made ts i = (f : ℕ → Tree) → map (sketch_tree f) made ≡ map (with_arguments ps (in_slots f 0 count)) (take i ts)

take_more_at : (ts : List Tree) (i : ℕ) → i < length ts → take (i + 1) ts ≡ take i ts ++ get_or ts i true_tree ∷ []
take_more_at ts i k = let m : i + 1 ≡ suc i = omega arith in ap (λ c. take c ts) m ∙ go ts i k
  where
    go : (ts : List Tree) (i : ℕ) → i < length ts → take (suc i) ts ≡ take i ts ++ get_or ts i true_tree ∷ []
    go [] i k = absurd (omega arith)
    go (t ∷ ts) zero k = refl
    go (t ∷ ts) (suc i) k = ap (λ us. t ∷ us) (go ts i (omega arith))

pub kid_placed : (ps : List Param) (count : ℕ) (made made' : List Sketch) (kid : Sketch) (ts : List Tree) (i : ℕ) (t : Tree)
    → PlacedSoFar ps count made ts i → i < length ts → t ≡ get_or ts i true_tree → ((f : ℕ → Tree) → sketch_tree f kid ≡ with_arguments ps (in_slots f 0 count) t)
    → made' ≡ made ++ kid ∷ [] → PlacedSoFar ps count made' ts (i + 1)
kid_placed ps count made made' kid ts i t e k p w a f =
    let g = with_arguments ps (in_slots f 0 count) in
    ap (map (sketch_tree f)) a ∙ map_push (sketch_tree f) made kid
    ∙ (λ j. e f j ++ (w f ∙ ap g p) j ∷ [])
    ∙ sym (ap (map g) (take_more_at ts i k) ∙ map_push g (take i ts) (get_or ts i true_tree))

pub node_placed : (ps : List Param) (count : ℕ) (x : Node) (head : Head) (made : List Sketch) (i : ℕ) (whole : Sketch)
    → PlacedSoFar ps count made (kids_of (node_tree x)) i → length (kids_of (node_tree x)) ≤ i → head ≡ head_of (node_tree x)
    → ((f : ℕ → Tree) → sketch_tree f whole ≡ placed_tree ps (in_slots f 0 count) head (map (sketch_tree f) made))
    → (f : ℕ → Tree) → sketch_tree f whole ≡ with_arguments ps (in_slots f 0 count) (node_tree x)
node_placed ps count x head made i whole e l p w f =
    let us = in_slots f 0 count in
    let g = with_arguments ps us in
    w f ∙ (λ j. placed_tree ps us (p j) ((e f ∙ ap (map g) (take_all i (kids_of (node_tree x)) l)) j)) ∙ of_tree ps us (node_tree x) (node_alone x)

-- ---- the whole body

pub body_drawn : (f : ℕ → Tree) (made : Sketch) (t : Tree) → sketch_tree f made ≡ t → Draws f (Ok made) t
body_drawn f made t e = record { drawn = e }

pub body_wanted : (f : ℕ → Tree) (e : NoMemory) (t : Tree) → Draws f (Err e) t
body_wanted f e t = record { drawn = tt }
