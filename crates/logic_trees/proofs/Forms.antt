-- The form of recursions, by heads and kids.
use Rattle.std.proofs.Common.{◌≡◌, ℕ, zero, suc, ◌==◌, Bool, true, false, ◌&&◌, List, [], ◌∷◌, length, get_or, refl, sym, ap, ◌∙◌, arith}
use Rattle.std.specs.Option.{is_some}
use Rattle.typed_prog.specs.declared.operators.Arithmetic.TheVariants as ar
use Rattle.typed_prog.specs.declared.operators.Comparison.TheVariants as cmp
use Rattle.acsl_trees.specs.declared.heads.Head.{Head}
use Rattle.acsl_trees.specs.declared.heads.Head.TheVariants as hd
use Rattle.acsl_trees.specs.declared.tree.Tree.{Tree as Code, out-Tree}
use Rattle.acsl_trees.specs.Tree.{Tree, Trees, node, stop, more, trees_of, view_tree, view_trees}
use Rattle.c_runs.specs.Truth.{head_of}
use Rattle.c_runs.specs.Recursion.{is_one_less, last_kid}
use Rattle.logic_order.specs.Recursive.{is_name_of, is_number, is_bound, is_recursion}
use Rattle.logic_trees.specs.Heads.{name_in, number_in, is_name, is_subtraction, is_choice, is_at_most}
use Rattle.logic_trees.specs.Every.{is_step, are_ends, are_parts}
use Rattle.logic_trees.proofs.Kids.{view_whole}

abbrev kids : List Code → Trees
kids ks = trees_of (view_trees ks)

-- the same of a tree as of its head and kids
module _ {X : Type 0} (F : Tree → X) where
  whole : (u : Code) (ks : List Code) (b : X) → ks ≡ (out-Tree u).kids → b ≡ F (node (out-Tree u).head (kids ks)) → b ≡ F (view_tree u)
  whole u ks b is made = made ∙ ap (λ vs. F (node (out-Tree u).head (kids vs))) is ∙ ap F (sym (view_whole u))

first_false : (b : Bool) → (b && false) ≡ false
first_false true = refl
first_false false = refl

-- ---- one less

other_head : (x : ℕ) (head : Head) (ts : Trees) → is_subtraction head ≡ false → false ≡ is_one_less x (node head ts)
other_head x (hd.Arithmetic ar.Sub) ts e = absurd cc
other_head x (hd.Arithmetic o) ts e = refl
other_head x head ts e = refl

sub_is : (head : Head) → is_subtraction head ≡ true → hd.Arithmetic ar.Sub ≡ head
sub_is (hd.Arithmetic ar.Sub) e = refl
sub_is (hd.Arithmetic o) e = absurd cc
sub_is head e = absurd cc

less_one : (x : ℕ) (t : Tree) → false ≡ is_one_less x (node (hd.Arithmetic ar.Sub) (more t stop))
less_one x (node (hd.Name y) us) = refl
less_one x (node head us) = refl

less_two : (x : ℕ) (t u : Tree) → is_step x (head_of t) (head_of u) ≡ is_one_less x (node (hd.Arithmetic ar.Sub) (more t (more u stop)))
less_two x (node (hd.Name y) us) (node (hd.Number z) vs) = refl
less_two x (node (hd.Name y) us) (node head vs) = first_false (y == x)
less_two x (node head us) u = refl

less_three : (x : ℕ) (t u v : Tree) (ts : Trees) → false ≡ is_one_less x (node (hd.Arithmetic ar.Sub) (more t (more u (more v ts))))
less_three x (node (hd.Name y) us) (node (hd.Number z) vs) v ts = refl
less_three x (node (hd.Name y) us) (node head vs) v ts = refl
less_three x (node head us) u v ts = refl

pub less_other : (x : ℕ) (head : Head) (ts : Trees) (s : Bool) → s ≡ is_subtraction head → s ≡ false → false ≡ is_one_less x (node head ts)
less_other x head ts s e lost = other_head x head ts (sym e ∙ lost)

count_sub : (x : ℕ) (ks : List Code) → (length ks ≡ 2 → ⊥) → false ≡ is_one_less x (node (hd.Arithmetic ar.Sub) (kids ks))
count_sub x [] h = refl
count_sub x (k ∷ []) h = less_one x (view_tree k)
count_sub x (k ∷ l ∷ []) h = absurd (h refl)
count_sub x (k ∷ l ∷ m ∷ ks) h = less_three x (view_tree k) (view_tree l) (view_tree m) (kids ks)

pub less_count : (x : ℕ) (head : Head) (ks : List Code) (s : Bool) → s ≡ is_subtraction head → s ≡ true → (length ks ≡ 2 → ⊥) → false ≡ is_one_less x (node head (kids ks))
less_count x head ks s e so many = count_sub x ks many ∙ ap (λ l. is_one_less x (node l (kids ks))) (sub_is head (sym e ∙ so))

head_is : (u : Code) → head_of (view_tree u) ≡ (out-Tree u).head
head_is u = ap head_of (view_whole u)

made_sub : (x : ℕ) (ks : List Code) (p q : Code) (b : Bool) → length ks ≡ 2 → p ≡ get_or ks 0 p → q ≡ get_or ks 1 q → b ≡ is_step x (out-Tree p).head (out-Tree q).head
    → b ≡ is_one_less x (node (hd.Arithmetic ar.Sub) (kids ks))
made_sub x [] p q b two isp isq made = absurd (omega (arith, two))
made_sub x (k ∷ []) p q b two isp isq made = absurd (omega (arith, two))
made_sub x (k ∷ l ∷ m ∷ ks) p q b two isp isq made = absurd (omega (arith, two))
made_sub x (k ∷ l ∷ []) p q b two isp isq made =
    made ∙ (λ i. is_step x ((sym (head_is p) ∙ ap (λ u. head_of (view_tree u)) isp) i) ((sym (head_is q) ∙ ap (λ u. head_of (view_tree u)) isq) i))
    ∙ less_two x (view_tree k) (view_tree l)

pub less_made : (x : ℕ) (head : Head) (ks : List Code) (s : Bool) (p q : Code) (b : Bool) → s ≡ is_subtraction head → s ≡ true → length ks ≡ 2 → p ≡ get_or ks 0 p
    → q ≡ get_or ks 1 q → b ≡ is_step x (out-Tree p).head (out-Tree q).head → b ≡ is_one_less x (node head (kids ks))
less_made x head ks s p q b e so two isp isq made =
    made_sub x ks p q b two isp isq made ∙ ap (λ l. is_one_less x (node l (kids ks))) (sub_is head (sym e ∙ so))

pub ruleset less_laws = (less_other, less_count, less_made)

pub less_whole : (x : ℕ) (u : Code) (ks : List Code) (b : Bool) → ks ≡ (out-Tree u).kids → b ≡ is_one_less x (node (out-Tree u).head (kids ks)) → b ≡ is_one_less x (view_tree u)
less_whole x = whole (is_one_less x)

pub last_none : (x : ℕ) (ks : List Code) → length ks ≡ 0 → false ≡ is_one_less x (last_kid (kids ks))
last_none x [] none = refl
last_none x (k ∷ ks) none = absurd (omega (arith, none))

pub last_made : (x : ℕ) (ks : List Code) (i : ℕ) (u : Code) (b : Bool) → u ≡ get_or ks i u → suc i ≡ length ks → b ≡ is_one_less x (view_tree u) → b ≡ is_one_less x (last_kid (kids ks))
last_made x [] i u b is last made = absurd (omega (arith, last))
last_made x (k ∷ []) zero u b is last made = made ∙ ap (λ v. is_one_less x (view_tree v)) is
last_made x (k ∷ []) (suc i) u b is last made = absurd (omega (arith, last))
last_made x (k ∷ l ∷ ks) zero u b is last made = absurd (omega (arith, last))
last_made x (k ∷ l ∷ ks) (suc i) u b is last made = last_made x (l ∷ ks) i u b is (omega (arith, last)) made

pub ruleset last_laws = (last_none, last_made)

-- ---- leaves

name_behind : (x : ℕ) (head : Head) (t : Tree) (ts : Trees) → false ≡ is_name_of x (node head (more t ts))
name_behind x (hd.Name y) t ts = refl
name_behind x head t ts = refl

name_leaf : (x : ℕ) (head : Head) → is_name x (name_in head) ≡ is_name_of x (node head stop)
name_leaf x (hd.Name y) = refl
name_leaf x head = refl

number_behind : (head : Head) (t : Tree) (ts : Trees) → false ≡ is_number (node head (more t ts))
number_behind (hd.Number z) t ts = refl
number_behind head t ts = refl

number_leaf : (head : Head) → is_some (number_in head) ≡ is_number (node head stop)
number_leaf (hd.Number z) = refl
number_leaf head = refl

none_left : (ks : List Code) → length ks ≡ 0 → [] ≡ ks
none_left [] none = refl
none_left (k ∷ ks) none = absurd (omega (arith, none))

pub name_kids : (x : ℕ) (u : Code) (ks : List Code) → ks ≡ (out-Tree u).kids → (length ks ≡ 0 → ⊥) → false ≡ is_name_of x (view_tree u)
name_kids x u [] is some = absurd (some refl)
name_kids x u (k ∷ ks) is some = whole (is_name_of x) u (k ∷ ks) false is (name_behind x (out-Tree u).head (view_tree k) (kids ks))

pub name_made : (x : ℕ) (u : Code) (ks : List Code) (b : Bool) → ks ≡ (out-Tree u).kids → length ks ≡ 0 → b ≡ is_name x (name_in (out-Tree u).head) → b ≡ is_name_of x (view_tree u)
name_made x u ks b is none made = whole (is_name_of x) u [] b (none_left ks none ∙ is) (made ∙ name_leaf x (out-Tree u).head)

pub ruleset name_laws = (name_kids, name_made)

pub number_kids : (u : Code) (ks : List Code) → ks ≡ (out-Tree u).kids → (length ks ≡ 0 → ⊥) → false ≡ is_number (view_tree u)
number_kids u [] is some = absurd (some refl)
number_kids u (k ∷ ks) is some = whole is_number u (k ∷ ks) false is (number_behind (out-Tree u).head (view_tree k) (kids ks))

pub number_made : (u : Code) (ks : List Code) (b : Bool) → ks ≡ (out-Tree u).kids → length ks ≡ 0 → b ≡ is_some (number_in (out-Tree u).head) → b ≡ is_number (view_tree u)
number_made u ks b is none made = whole is_number u [] b (none_left ks none ∙ is) (made ∙ number_leaf (out-Tree u).head)

pub ruleset number_laws = (number_kids, number_made)

-- ---- what is compared

other_test : (x : ℕ) (head : Head) (ts : Trees) → is_at_most head ≡ false → false ≡ is_bound x (node head ts)
other_test x (hd.Compare cmp.AtMost) ts e = absurd cc
other_test x (hd.Compare c) ts e = refl
other_test x head ts e = refl

at_most_is : (head : Head) → is_at_most head ≡ true → hd.Compare cmp.AtMost ≡ head
at_most_is (hd.Compare cmp.AtMost) e = refl
at_most_is (hd.Compare c) e = absurd cc
at_most_is head e = absurd cc

pub bound_other : (x : ℕ) (head : Head) (ts : Trees) (s : Bool) → s ≡ is_at_most head → s ≡ false → false ≡ is_bound x (node head ts)
bound_other x head ts s e lost = other_test x head ts (sym e ∙ lost)

count_test : (x : ℕ) (ks : List Code) → (length ks ≡ 2 → ⊥) → false ≡ is_bound x (node (hd.Compare cmp.AtMost) (kids ks))
count_test x [] h = refl
count_test x (k ∷ []) h = refl
count_test x (k ∷ l ∷ []) h = absurd (h refl)
count_test x (k ∷ l ∷ m ∷ ks) h = refl

pub bound_count : (x : ℕ) (head : Head) (ks : List Code) (s : Bool) → s ≡ is_at_most head → s ≡ true → (length ks ≡ 2 → ⊥) → false ≡ is_bound x (node head (kids ks))
bound_count x head ks s e so many = count_test x ks many ∙ ap (λ l. is_bound x (node l (kids ks))) (at_most_is head (sym e ∙ so))

made_test : (x : ℕ) (ks : List Code) (p q : Code) (b : Bool) → length ks ≡ 2 → p ≡ get_or ks 0 p → q ≡ get_or ks 1 q → b ≡ are_ends x (view_tree p) (view_tree q)
    → b ≡ is_bound x (node (hd.Compare cmp.AtMost) (kids ks))
made_test x [] p q b two isp isq made = absurd (omega (arith, two))
made_test x (k ∷ []) p q b two isp isq made = absurd (omega (arith, two))
made_test x (k ∷ l ∷ m ∷ ks) p q b two isp isq made = absurd (omega (arith, two))
made_test x (k ∷ l ∷ []) p q b two isp isq made = made ∙ (λ i. are_ends x (view_tree (isp i)) (view_tree (isq i)))

pub bound_made : (x : ℕ) (head : Head) (ks : List Code) (s : Bool) (p q : Code) (b : Bool) → s ≡ is_at_most head → s ≡ true → length ks ≡ 2 → p ≡ get_or ks 0 p
    → q ≡ get_or ks 1 q → b ≡ are_ends x (view_tree p) (view_tree q) → b ≡ is_bound x (node head (kids ks))
bound_made x head ks s p q b e so two isp isq made = made_test x ks p q b two isp isq made ∙ ap (λ l. is_bound x (node l (kids ks))) (at_most_is head (sym e ∙ so))

pub ruleset bound_laws = (bound_other, bound_count, bound_made)

pub bound_whole : (x : ℕ) (u : Code) (ks : List Code) (b : Bool) → ks ≡ (out-Tree u).kids → b ≡ is_bound x (node (out-Tree u).head (kids ks)) → b ≡ is_bound x (view_tree u)
bound_whole x = whole (is_bound x)

-- ---- the choice

other_choice : (n x : ℕ) (head : Head) (ts : Trees) → is_choice head ≡ false → false ≡ is_recursion n x (node head ts)
other_choice n x hd.Choose ts e = absurd cc
other_choice n x head ts e = refl

choice_is : (head : Head) → is_choice head ≡ true → hd.Choose ≡ head
choice_is hd.Choose e = refl
choice_is head e = absurd cc

pub choice_other : (n x : ℕ) (head : Head) (ts : Trees) (s : Bool) → s ≡ is_choice head → s ≡ false → false ≡ is_recursion n x (node head ts)
choice_other n x head ts s e lost = other_choice n x head ts (sym e ∙ lost)

count_choice : (n x : ℕ) (ks : List Code) → (length ks ≡ 3 → ⊥) → false ≡ is_recursion n x (node hd.Choose (kids ks))
count_choice n x [] h = refl
count_choice n x (k ∷ []) h = refl
count_choice n x (k ∷ l ∷ []) h = refl
count_choice n x (k ∷ l ∷ m ∷ []) h = absurd (h refl)
count_choice n x (k ∷ l ∷ m ∷ o ∷ ks) h = refl

pub choice_count : (n x : ℕ) (head : Head) (ks : List Code) (s : Bool) → s ≡ is_choice head → s ≡ true → (length ks ≡ 3 → ⊥) → false ≡ is_recursion n x (node head (kids ks))
choice_count n x head ks s e so many = count_choice n x ks many ∙ ap (λ l. is_recursion n x (node l (kids ks))) (choice_is head (sym e ∙ so))

made_choice : (n x : ℕ) (ks : List Code) (p q r : Code) (b : Bool) → length ks ≡ 3 → p ≡ get_or ks 0 p → q ≡ get_or ks 1 q → r ≡ get_or ks 2 r
    → b ≡ are_parts n x (view_tree p) (view_tree q) (view_tree r) → b ≡ is_recursion n x (node hd.Choose (kids ks))
made_choice n x [] p q r b three isp isq isr made = absurd (omega (arith, three))
made_choice n x (k ∷ []) p q r b three isp isq isr made = absurd (omega (arith, three))
made_choice n x (k ∷ l ∷ []) p q r b three isp isq isr made = absurd (omega (arith, three))
made_choice n x (k ∷ l ∷ m ∷ o ∷ ks) p q r b three isp isq isr made = absurd (omega (arith, three))
made_choice n x (k ∷ l ∷ m ∷ []) p q r b three isp isq isr made = made ∙ (λ i. are_parts n x (view_tree (isp i)) (view_tree (isq i)) (view_tree (isr i)))

pub choice_made : (n x : ℕ) (head : Head) (ks : List Code) (s : Bool) (p q r : Code) (b : Bool) → s ≡ is_choice head → s ≡ true → length ks ≡ 3 → p ≡ get_or ks 0 p
    → q ≡ get_or ks 1 q → r ≡ get_or ks 2 r → b ≡ are_parts n x (view_tree p) (view_tree q) (view_tree r) → b ≡ is_recursion n x (node head (kids ks))
choice_made n x head ks s p q r b e so three isp isq isr made =
    made_choice n x ks p q r b three isp isq isr made ∙ ap (λ l. is_recursion n x (node l (kids ks))) (choice_is head (sym e ∙ so))

pub ruleset choice_laws = (choice_other, choice_count, choice_made)

pub choice_whole : (n x : ℕ) (u : Code) (ks : List Code) (b : Bool) → ks ≡ (out-Tree u).kids → b ≡ is_recursion n x (node (out-Tree u).head (kids ks)) → b ≡ is_recursion n x (view_tree u)
choice_whole n x = whole (is_recursion n x)
