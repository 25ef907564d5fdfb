-- Sets of variables.
use Rattle.std.proofs.Common.{◌≡◌, ℕ, zero, suc, Bool, true, false, if◌then◌else◌, List, [], ◌∷◌, length, get_or, refl, sym, ap, ◌∙◌, arith}
use Rattle.std.proofs.lemmas.Bool.{false≢true}
use Rattle.typed_prog.specs.declared.operators.Variable.{Variable}
use Rattle.acsl_trees.specs.declared.heads.Content.TheVariants as content
use Rattle.acsl_trees.specs.declared.heads.Head.{Head}
use Rattle.acsl_trees.specs.declared.heads.Head.TheVariants as hd
use Rattle.acsl_trees.specs.declared.tree.Tree.{Tree as Code, out-Tree}
use Rattle.acsl_trees.specs.Tree.{Tree, Trees, node, stop, more, trees_of, view_tree, view_trees}
use Rattle.c_runs.specs.Program as program
use Rattle.c_runs.specs.Program.{Facts}
use Rattle.plain_annotations.specs.Places.{is_known}
use Rattle.plain_annotations.specs.Clauses.{is_region}
use Rattle.plain_trees.specs.declared.roles.Role.{Role}
use Rattle.plain_trees.specs.View.{role_of, names, is_integers, is_alone, has_one}
use Rattle.plain_trees.proofs.Reading.{view_whole}

-- ---- a variable itself

alone_node : (vs : Variable → Bool) (head : Head) → names vs (role_of head) ≡ is_alone vs (node head stop)
alone_node vs (hd.Variable x) = refl
alone_node vs _ = refl

not_alone : (vs : Variable → Bool) (head : Head) (t : Tree) (ts : Trees) → false ≡ is_alone vs (node head (more t ts))
not_alone vs (hd.Variable x) t ts = refl
not_alone vs _ t ts = refl

pub alone_is : (vs : Variable → Bool) (t : Code) (r : Role) (b : Bool) → length (out-Tree t).kids ≡ 0 → r ≡ role_of (out-Tree t).head → b ≡ names vs r
    → b ≡ is_alone vs (view_tree t)
alone_is vs t r b none role is =
    is ∙ ap (names vs) role ∙ by (out-Tree t).kids none ∙ ap (is_alone vs) (sym (view_whole t))
  where
    by : (ks : List Code) → length ks ≡ 0 → names vs (role_of (out-Tree t).head) ≡ is_alone vs (node (out-Tree t).head (trees_of (view_trees ks)))
    by [] e = alone_node vs (out-Tree t).head
    by (k ∷ ks) e = absurd (omega (arith, e))

pub kids_below : (vs : Variable → Bool) (t : Code) → (length (out-Tree t).kids ≡ 0 → ⊥) → false ≡ is_alone vs (view_tree t)
kids_below vs t some = by (out-Tree t).kids some ∙ ap (is_alone vs) (sym (view_whole t))
  where
    by : (ks : List Code) → (length ks ≡ 0 → ⊥) → false ≡ is_alone vs (node (out-Tree t).head (trees_of (view_trees ks)))
    by [] e = absurd (e refl)
    by (k ∷ ks) e = not_alone vs (out-Tree t).head (view_tree k) (trees_of (view_trees ks))

-- ---- one kid

pub one_is : (vs : Variable → Bool) (ks : List Code) (x : Code) (b : Bool) → length ks ≡ 1 → x ≡ get_or ks 0 x → b ≡ is_alone vs (view_tree x) → b ≡ has_one vs (view_trees ks)
one_is vs [] x b one is made = absurd (omega (arith, one))
one_is vs (k ∷ []) x b one is made = made ∙ ap (λ t. is_alone vs (view_tree t)) is
one_is vs (k ∷ l ∷ ks) x b one is made = absurd (omega (arith, one))

pub not_one : (vs : Variable → Bool) (ks : List Code) → (length ks ≡ 1 → ⊥) → false ≡ has_one vs (view_trees ks)
not_one vs [] e = refl
not_one vs (k ∷ []) e = absurd (e refl)
not_one vs (k ∷ l ∷ ks) e = refl

-- ---- regions

module _ (p : Facts) (own : List program.Variable) where
  region_node : (head : Head) (ts : List Tree) → (if is_integers head then has_one (is_known p own) ts else false) ≡ is_region p own (node head (trees_of ts))
  region_node (hd.Region (content.Integer k)) [] = refl
  region_node (hd.Region (content.Integer k)) (node (hd.Variable x) stop ∷ []) = refl
  region_node (hd.Region (content.Integer k)) (node (hd.Variable x) (more t ts) ∷ []) = refl
  region_node (hd.Region (content.Integer k)) (node _ us ∷ []) = refl
  region_node (hd.Region (content.Integer k)) (node (hd.Variable x) stop ∷ u ∷ ts) = refl
  region_node (hd.Region (content.Integer k)) (node (hd.Variable x) (more t us) ∷ u ∷ ts) = refl
  region_node (hd.Region (content.Integer k)) (node _ us ∷ u ∷ ts) = refl
  region_node (hd.Region content.Pointer) ts = refl
  region_node (hd.Region (content.Struct n)) ts = refl
  region_node _ ts = refl

  region_whole : (t : Code) → (if is_integers (out-Tree t).head then has_one (is_known p own) (view_trees (out-Tree t).kids) else false) ≡ is_region p own (view_tree t)
  region_whole t = region_node (out-Tree t).head (view_trees (out-Tree t).kids) ∙ ap (is_region p own) (sym (view_whole t))

  pub no_integers : (t : Code) (i : Bool) → i ≡ is_integers (out-Tree t).head → i ≡ false → false ≡ is_region p own (view_tree t)
  no_integers t i is none = ap (λ b. if b then has_one (is_known p own) (view_trees (out-Tree t).kids) else false) (sym none ∙ is) ∙ region_whole t

  pub region_is : (vs : Variable → Bool) (t : Code) (ks : List Code) (i b : Bool) → vs ≡ is_known p own → ks ≡ (out-Tree t).kids → i ≡ is_integers (out-Tree t).head → i ≡ true
      → b ≡ has_one vs (view_trees ks) → b ≡ is_region p own (view_tree t)
  region_is vs t ks i b known kids is yes_integers made =
      made ∙ (λ j. has_one (known j) (view_trees (kids j)))
      ∙ ap (λ b. if b then has_one (is_known p own) (view_trees (out-Tree t).kids) else false) (sym yes_integers ∙ is) ∙ region_whole t
