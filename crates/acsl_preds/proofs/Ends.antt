-- Ends of chains in memory.
use Rattle.std.proofs.Common.{◌≡◌, ◌==◌, ℕ, suc, Bool, true, false, arith, ◌-◌, List, [], ◌∷◌, length, Option, Some, None, Result, Ok, Err, IfOk, refl, sym, ap, ◌∙◌, slice_get}
use Rattle.std.specs.Option.{option_map}
use Rattle.std.proofs.lemmas.Option.{slice_get-map, slice_get_past}
use Rattle.wp_base.specs.declared.memory.NoMemory.{NoMemory}
use Rattle.acsl_trees.specs.declared.tree.Tree.{Tree as Code, out-Tree}
use Rattle.acsl_trees.specs.Tree.{Tree, trees_of, list_of, view_tree, view_trees}
use Rattle.acsl_rules.proofs.Whole.{view_whole}
use Rattle.std.specs.Borrow.{Bor}
use Rattle.acsl_preds.specs.Ranges.{kids_of, truth, or_truth, front_of, linked, back_of, pointed, head_of, pair_of, sides_of}

listed : (ts : List Tree) → list_of (trees_of ts) ≡ ts
listed [] = refl
listed (t ∷ ts) = ap (λ us. t ∷ us) (listed ts)

pub kids_are : (t : Code) → kids_of (view_tree t) ≡ view_trees (out-Tree t).kids
kids_are t = ap kids_of (view_whole t) ∙ listed (view_trees (out-Tree t).kids)

-- the kid at a place
pub kid_is : (t : Code) (i : ℕ) → slice_get (kids_of (view_tree t)) i ≡ option_map view_tree (slice_get (out-Tree t).kids i)
kid_is t i = ap (λ ks. slice_get ks i) (kids_are t) ∙ slice_get-map view_tree (out-Tree t).kids i

pub front_first : (t f : Code) (o : Result Code NoMemory) → slice_get (out-Tree t).kids 0 ≡ Some f → IfOk o (λ c. c ≡ f) → IfOk o (λ c. view_tree c ≡ front_of (view_tree t))
front_first t f (Ok c) is copied = ap view_tree copied ∙ sym (ap or_truth (kid_is t 0 ∙ ap (option_map view_tree) is))
front_first t f (Err e) is copied = tt

pub front_none : (t : Code) (u : Tree) → slice_get (out-Tree t).kids 0 ≡ None → u ≡ truth → u ≡ front_of (view_tree t)
front_none t u is made = made ∙ sym (ap or_truth (kid_is t 0 ∙ ap (option_map view_tree) is))

pub ruleset front_laws = (front_first, front_none)

same_length : (ts : List Code) → length (view_trees ts) ≡ length ts
same_length [] = refl
same_length (t ∷ ts) = ap suc (same_length ts)

last_is : (t : Code) → slice_get (kids_of (view_tree t)) (length (kids_of (view_tree t)) - 1) ≡ option_map view_tree (slice_get (out-Tree t).kids (length (out-Tree t).kids - 1))
last_is t =
    ap (λ n. slice_get (kids_of (view_tree t)) (n - 1)) (ap length (kids_are t) ∙ same_length (out-Tree t).kids) ∙ kid_is t (length (out-Tree t).kids - 1)

pub back_last : (t l : Code) (n : ℕ) (o : Result Code NoMemory) → n ≡ length (out-Tree t).kids → slice_get (out-Tree t).kids (n - 1) ≡ Some l → IfOk o (λ c. view_tree c ≡ front_of (view_tree l))
    → IfOk o (λ c. view_tree c ≡ back_of (view_tree t))
back_last t l n (Ok c) count is made = made ∙ sym (ap linked (last_is t ∙ ap (λ m. option_map view_tree (slice_get (out-Tree t).kids (m - 1))) (sym count) ∙ ap (option_map view_tree) is))
back_last t l n (Err e) count is made = tt

pub back_none : (t : Code) (n : ℕ) (u : Tree) → n ≡ length (out-Tree t).kids → slice_get (out-Tree t).kids (n - 1) ≡ None → u ≡ truth → u ≡ back_of (view_tree t)
back_none t n u count is made = made ∙ sym (ap linked (last_is t ∙ ap (λ m. option_map view_tree (slice_get (out-Tree t).kids (m - 1))) (sym count) ∙ ap (option_map view_tree) is))

nothing_in : (ts : List Code) (i : ℕ) → length ts ≡ 0 → slice_get ts i ≡ None
nothing_in ts i h = slice_get_past ts i (omega (arith, h))

pub back_empty : (t : Code) (n : ℕ) (u : Tree) → n ≡ length (out-Tree t).kids → n ≡ 0 → u ≡ truth → u ≡ back_of (view_tree t)
back_empty t n u count none made = back_none t n u count (nothing_in (out-Tree t).kids (n - 1) (sym count ∙ none)) made

pub ruleset back_laws = (back_last, back_none, back_empty)

pub chain_is : (ts : List (Bor Code)) (i : ℕ) → or_truth (slice_get (pointed ts) i) ≡ or_truth (option_map (λ t. view_tree t.now) (slice_get ts i))
chain_is ts i = ap or_truth (slice_get-map (λ t. view_tree t.now) ts i)

pub ruleset guard_laws = (chain_is)

pub head_is : (t : Code) → head_of (view_tree t) ≡ (out-Tree t).head
head_is t = ap head_of (view_whole t)

-- ---- both kids

sides_with : (t : Code) (a b : Option Code) → slice_get (out-Tree t).kids 0 ≡ a → slice_get (out-Tree t).kids 1 ≡ b
    → sides_of (kids_of (view_tree t)) ≡ pair_of (option_map view_tree a) (option_map view_tree b) (length (out-Tree t).kids == 2)
sides_with t a b is_a is_b =
    ap (λ o. pair_of o (slice_get (kids_of (view_tree t)) 1) (length (kids_of (view_tree t)) == 2)) (kid_is t 0 ∙ ap (option_map view_tree) is_a)
    ∙ ap (λ o. pair_of (option_map view_tree a) o (length (kids_of (view_tree t)) == 2)) (kid_is t 1 ∙ ap (option_map view_tree) is_b)
    ∙ ap (λ n. pair_of (option_map view_tree a) (option_map view_tree b) (n == 2)) (ap length (kids_are t) ∙ same_length (out-Tree t).kids)

is_two : (n : ℕ) → n ≡ 2 → (n == 2) ≡ true
is_two n h = grind arith

not_two : (n : ℕ) → (n ≡ 2 → ⊥) → (n == 2) ≡ false
not_two n h = grind arith

no_pair : (a b : Option Tree) → pair_of a b false ≡ None
no_pair None b = refl
no_pair (Some a) None = refl
no_pair (Some a) (Some b) = refl

no_second : (a : Option Tree) (two : Bool) → pair_of a None two ≡ None
no_second None two = refl
no_second (Some a) two = refl

pub two_sides : (t a b : Code) → length (out-Tree t).kids ≡ 2 → slice_get (out-Tree t).kids 0 ≡ Some a → slice_get (out-Tree t).kids 1 ≡ Some b → Some (view_tree a, view_tree b) ≡ sides_of (kids_of (view_tree t))
two_sides t a b count is_a is_b = sym (sides_with t (Some a) (Some b) is_a is_b ∙ ap (pair_of (Some (view_tree a)) (Some (view_tree b))) (is_two (length (out-Tree t).kids) count))

pub other_sides : (t : Code) → (length (out-Tree t).kids ≡ 2 → ⊥) → None ≡ sides_of (kids_of (view_tree t))
other_sides t count =
    sym (sides_with t (slice_get (out-Tree t).kids 0) (slice_get (out-Tree t).kids 1) refl refl
    ∙ ap (pair_of (option_map view_tree (slice_get (out-Tree t).kids 0)) (option_map view_tree (slice_get (out-Tree t).kids 1))) (not_two (length (out-Tree t).kids) count) ∙ no_pair _ _)

pub first_lacks : (t : Code) → slice_get (out-Tree t).kids 0 ≡ None → None ≡ sides_of (kids_of (view_tree t))
first_lacks t is = sym (sides_with t None (slice_get (out-Tree t).kids 1) is refl)

pub second_lacks : (t : Code) → slice_get (out-Tree t).kids 1 ≡ None → None ≡ sides_of (kids_of (view_tree t))
second_lacks t is = sym (sides_with t (slice_get (out-Tree t).kids 0) None refl is ∙ no_second _ _)

pub ruleset side_laws = (two_sides, other_sides, first_lacks, second_lacks)
