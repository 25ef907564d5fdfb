-- What is read, and chains.
use Rattle.std.proofs.Common.{◌≡◌, ◌<◌, ◌≤◌, ℕ, zero, suc, ◌+◌, ◌==◌, Bool, true, false, not, ◌&&◌, List, [], ◌∷◌, length, drop, get_or, refl, sym, ap, ◌∙◌, arith}
use Rattle.std.proofs.lemmas.Bool.{false≢true}
use Rattle.std.proofs.lemmas.Bool.Decides.{nat_tests}
use Rattle.std.proofs.lemmas.List.{at_drop_more, at_drop_all}
use Rattle.typed_prog.specs.declared.operators.Variable.{Variable}
use Rattle.acsl_trees.specs.declared.heads.Head.{Head}
use Rattle.acsl_trees.specs.declared.heads.Head.TheVariants as hd
use Rattle.acsl_trees.specs.declared.tree.Tree.{Tree as Code, out-Tree, roll-out-Tree}
use Rattle.acsl_trees.specs.Tree.{Tree, Trees, node, stop, more, trees_of, view_tree, view_trees}
use Rattle.acsl_trees.proofs.Equations.{view_made}
use Rattle.c_runs.specs.Truth.{heads_of, head_of}
use Rattle.plain_annotations.specs.Plain as plain
use Rattle.plain_trees.specs.declared.roles.Role.{Role}
use Rattle.plain_trees.specs.View.{role_of, is_link, names}

pub view_whole : (t : Code) → view_tree t ≡ node (out-Tree t).head (trees_of (view_trees (out-Tree t).kids))
view_whole t = ap view_tree (sym (roll-out-Tree t)) ∙ view_made (out-Tree t).head (out-Tree t).kids

-- ---- what is read

named : (vs : Variable → Bool) (head : Head) (us ts : Trees) → names vs (role_of head) ≡ plain.reads_variable vs (more (node head us) ts)
named vs (hd.Variable x) us ts = refl
named vs _ us ts = refl

pub first_read : (vs : Variable → Bool) (ks : List Code) (x : Code) (r : Role) (b : Bool) → (length ks ≡ 0 → ⊥) → x ≡ get_or ks 0 x
    → r ≡ role_of (out-Tree x).head → b ≡ names vs r → b ≡ plain.reads_variable vs (trees_of (view_trees ks))
first_read vs [] x r b some is role made = absurd (some refl)
first_read vs (k ∷ ks) x r b some is role made =
    made ∙ ap (names vs) role ∙ named vs (out-Tree x).head (trees_of (view_trees (out-Tree x).kids)) (trees_of (view_trees ks))
    ∙ ap (λ t. plain.reads_variable vs (more t (trees_of (view_trees ks)))) (sym (view_whole x) ∙ ap view_tree is)

-- ---- chains

abbrev heads : List Code → List Head
heads ks = heads_of (trees_of (view_trees ks))

link_is : (head : Head) → is_link (role_of head) ≡ plain.is_link head
link_is (hd.Link c) = refl
link_is _ = refl

head_is : (x : Code) → head_of (view_tree x) ≡ (out-Tree x).head
head_is x = ap head_of (view_whole x)

pub passed : (b c all : Bool) → b ≡ true → (b && c) ≡ all → c ≡ all
passed true c all h k = k
passed false c all h k = absurd (false≢true h)

pub failed : (b c all : Bool) → b ≡ false → (b && c) ≡ all → false ≡ all
failed true c all h k = absurd (false≢true (sym h))
failed false c all h k = k

link_next : (ks : List Code) (i : ℕ) (x : Code) (r : Role) (b : Bool) → i < length ks → x ≡ get_or ks i x → r ≡ role_of (out-Tree x).head → b ≡ is_link r
    → plain.are_links (heads (drop i ks)) ≡ (b && plain.are_links (heads (drop (i + 1) ks)))
link_next ks i x r b lt is role made =
    at_drop_more (λ us. plain.are_links (heads us)) ks i x lt
    ∙ ap (λ (h : Head). plain.is_link h && plain.are_links (heads (drop (i + 1) ks))) (ap (λ y. head_of (view_tree y)) (sym is) ∙ head_is x)
    ∙ ap (λ u. u && plain.are_links (heads (drop (i + 1) ks))) (sym (link_is (out-Tree x).head) ∙ ap is_link (sym role) ∙ sym made)

pub chain_begins : (ks : List Code) → plain.are_links (heads (drop 1 ks)) ≡ plain.is_chain (heads ks)
chain_begins [] = refl
chain_begins (k ∷ ks) = refl

pub link_turn : (ks : List Code) (i : ℕ) (x : Code) (r : Role) (b all : Bool) → i < length ks → x ≡ get_or ks i x → r ≡ role_of (out-Tree x).head → b ≡ is_link r
    → b ≡ true → plain.are_links (heads (drop i ks)) ≡ all → plain.are_links (heads (drop (i + 1) ks)) ≡ all
link_turn ks i x r b all lt is role made fits so_far =
    passed b (plain.are_links (heads (drop (i + 1) ks))) all fits (sym (link_next ks i x r b lt is role made) ∙ so_far)

pub link_fault : (ks : List Code) (i : ℕ) (x : Code) (r : Role) (b all : Bool) → i < length ks → x ≡ get_or ks i x → r ≡ role_of (out-Tree x).head → b ≡ is_link r
    → b ≡ false → plain.are_links (heads (drop i ks)) ≡ all → false ≡ all
link_fault ks i x r b all lt is role made fails so_far =
    failed b (plain.are_links (heads (drop (i + 1) ks))) all fails (sym (link_next ks i x r b lt is role made) ∙ so_far)

pub links_done : (ks : List Code) (i : ℕ) (all : Bool) → length ks ≤ i → plain.are_links (heads (drop i ks)) ≡ all → true ≡ all
links_done ks i all past so_far = sym (at_drop_all (λ us. plain.are_links (heads us)) ks i past) ∙ so_far

pub ruleset chain_laws = (chain_begins, link_turn, link_fault, links_done)
