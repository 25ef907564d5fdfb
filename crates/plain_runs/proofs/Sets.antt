-- Sets in force: more of them let change no more, and what loops declare inside may change.
use Rattle.std.proofs.Common.{◌≡◌, ℕ, ◌≤◌, ℤ, pos, negsuc, Bool, true, false, ◌&&◌, ◌||◌, if◌then◌else◌, List, [], ◌∷◌, ◌++◌, map, Option, Some, None, refl, ap, ◌∙◌, arith}
use Rattle.std.specs.List.{list_all}
use Rattle.std.proofs.lemmas.Bool.{le-leb}
use Rattle.wp_base.specs.declared.kinds.CellKind.TheVariants as cell
use Rattle.wp_base.specs.Blocks.{count}
use Rattle.acsl_trees.specs.Tree.{Tree}
use Rattle.c_runs.specs.TruthStates.{Value, World as Labelled}
use Rattle.c_runs.specs.TruthAllowed.{is_named}
use Rattle.c_runs.specs.Program.{Facts, Loop, Contract, Behavior}
use Rattle.c_runs.specs.States.{Memory, World, Here, Granted, hidden, seen}
use Rattle.c_runs.specs.Claims.{may_change_local, lets_cell, lets_local, granted_by, granted_in, of_caller, parts_of, in_body, in_loop, here_in, at_entry, is_assumed}
use Rattle.plain_runs.specs.Kept.{may_change_global, AllBelow}

-- ---- all of two lists

pub all_behind : {X : Type 0} (f : X → Bool) (xs ys : List X) → list_all f ys ≡ false → list_all f (xs ++ ys) ≡ false
all_behind f [] ys h = h
all_behind f (x ∷ xs) ys h = ap (λ t. f x && t) (all_behind f xs ys h) ∙ by (f x) where
  by : (t : Bool) → (t && false) ≡ false
  by true = refl
  by false = refl

-- a caller's set names the same variables of the file
pub callers_globals : (gs : List Granted) (x : ℕ) → may_change_global (map of_caller gs) x ≡ may_change_global gs x
callers_globals [] x = refl
callers_globals (g ∷ gs) x = ap (λ t. is_named g.regions (negsuc x) && t) (callers_globals gs x)

-- ---- variables of the function

pub high_may : (p : Facts) (low : ℕ) (gs : List Granted) → AllBelow low gs → (x : ℕ) → low ≤ x → may_change_local p gs x ≡ true
high_may p low [] h x l = refl
high_may p low (g ∷ gs) h x l =
    let d = h.0 in
    ap (λ t. (t || is_named g.regions (hidden p x)) && may_change_local p gs x) (le-leb g.declared x (omega (arith, d, l))) ∙ high_may p low gs h.1 x l

pub below_more : (low high : ℕ) (gs : List Granted) → low ≤ high → AllBelow low gs → AllBelow high gs
below_more low high [] l h = tt
below_more low high (g ∷ gs) l h = let d = h.0 in (omega (arith, d, l), below_more low high gs l h.1)

pub below_both : (low : ℕ) (gs hs : List Granted) → AllBelow low gs → AllBelow low hs → AllBelow low (gs ++ hs)
below_both low [] hs a b = b
below_both low (g ∷ gs) hs a b = (a.0, below_both low gs hs a.1 b)

-- ---- a loop that is entered

pub loop_globals : (p : Facts) (here : Here) (l : Loop) (w : World) (x : ℕ) → may_change_global here.granted x ≡ false → may_change_global (in_loop p here l w).granted x ≡ false
loop_globals p here l w x h = all_behind (lets_cell cell.Ptr (negsuc x) (pos 0)) (granted_by p (in_body p (record here { loop_entry = seen p w }) w) (count w.memory.blocks) l.declared l.assigns) here.granted h

pub loop_locals : (p : Facts) (here : Here) (l : Loop) (w : World) (x : ℕ) → may_change_local p here.granted x ≡ false → may_change_local p (in_loop p here l w).granted x ≡ false
loop_locals p here l w x h = all_behind (lets_local p x) (granted_by p (in_body p (record here { loop_entry = seen p w }) w) (count w.memory.blocks) l.declared l.assigns) here.granted h

pub one_below : (p : Facts) (v : Labelled) (n : ℤ) (d : ℕ) (o : Option (List Tree)) → AllBelow d (granted_by p v n d o)
one_below p v n d None = tt
one_below p v n d (Some ts) = (omega arith, tt)

pub loop_below : (p : Facts) (here : Here) (l : Loop) (w : World) (low : ℕ) → low ≤ l.declared → AllBelow low here.granted → AllBelow l.declared (in_loop p here l w).granted
loop_below p here l w low le h =
    below_both l.declared (granted_by p (in_body p (record here { loop_entry = seen p w }) w) (count w.memory.blocks) l.declared l.assigns) here.granted
    (one_below p (in_body p (record here { loop_entry = seen p w }) w) (count w.memory.blocks) l.declared l.assigns) (below_more low l.declared here.granted le h)

-- ---- a function that is entered

pub callers_below : (gs : List Granted) → AllBelow 0 (map of_caller gs)
callers_below [] = tt
callers_below (g ∷ gs) = (omega arith, callers_below gs)

pub parts_below : (p : Facts) (v : Labelled) (n : ℤ) (bs : List Behavior) → AllBelow 0 (granted_in p v n bs)
parts_below p v n [] = tt
parts_below p v n (b ∷ bs) = below_both 0 (if is_assumed p v b then granted_by p v n 0 b.assigns else []) (granted_in p v n bs) (by (is_assumed p v b)) (parts_below p v n bs) where
  by : (t : Bool) → AllBelow 0 (if t then granted_by p v n 0 b.assigns else [])
  by true = one_below p v n 0 b.assigns
  by false = tt

pub entry_below : (p : Facts) (f : ℕ) (vs : List Value) (m : Memory) (c : Contract) (gs : List Granted) → AllBelow 0 (here_in p f vs m c gs).granted
entry_below p f vs m c gs =
    below_both 0 (granted_in p (at_entry p vs m) (count m.blocks) (parts_of c)) (map of_caller gs)
    (parts_below p (at_entry p vs m) (count m.blocks) (parts_of c)) (callers_below gs)

pub entry_globals : (p : Facts) (f : ℕ) (vs : List Value) (m : Memory) (c : Contract) (gs : List Granted) (x : ℕ)
    → may_change_global gs x ≡ false → may_change_global (here_in p f vs m c gs).granted x ≡ false
entry_globals p f vs m c gs x h =
    all_behind (lets_cell cell.Ptr (negsuc x) (pos 0)) (granted_in p (at_entry p vs m) (count m.blocks) (parts_of c)) (map of_caller gs) (callers_globals gs x ∙ h)
