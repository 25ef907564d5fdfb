-- A term put in the free places of a name of an integer, and where it may be put there.
use Rattle.std.specs.Prelude.{ℕ, Bool, true, false, not, ◌&&◌, ◌||◌, if◌then◌else◌, List}
use Rattle.std.specs.Str.{bytes_eq}
use Rattle.qed_terms.specs.declared.head.Sort.TheVariants as sort
use Rattle.qed_terms.specs.declared.head.Head.{Head}
use Rattle.qed_terms.specs.declared.head.Head.TheVariants as h
use Rattle.qed_terms.specs.Free.{is_free}
use Rattle.qed_terms.specs.Tree.{Tree, node, Trees, stop, more, three}

-- `forall`, or else `exists`
abbrev pub quantifier : Bool → List ℕ → Head
quantifier true x = h.Forall x
quantifier false x = h.Exists x

abbrev mutual
  -- the tree, with the term u in the free places of the name x
  pub replace : List ℕ → Tree → Tree → Tree
  replace x u (node (h.Var y sort.Int) ts) = if bytes_eq x y then u else node (h.Var y sort.Int) (replace_all x u ts)
  replace x u (node (h.Forall y) ts) = node (h.Forall y) (replace_range (bytes_eq x y) x u ts)
  replace x u (node (h.Exists y) ts) = node (h.Exists y) (replace_range (bytes_eq x y) x u ts)
  replace x u (node head ts) = node head (replace_all x u ts)

  pub replace_all : List ℕ → Tree → Trees → Trees
  replace_all x u stop = stop
  replace_all x u (more t ts) = more (replace x u t) (replace_all x u ts)

  -- at the bounds and the body of a quantifier, whose body has no free place of a name that it binds
  pub replace_range : (bound : Bool) → List ℕ → Tree → Trees → Trees
  replace_range bound x u (more low (more high (more body stop))) = three (replace x u low) (replace x u high) (if bound then body else replace x u body)
  replace_range bound x u ts = ts

abbrev mutual
  -- No quantifier around a free place of the name x in the tree binds a free name of the term u. That one of those around the tree does is
  -- said by `under`.
  pub is_clear : (under : Bool) → List ℕ → Tree → Tree → Bool
  is_clear under x u (node (h.Var y sort.Int) ts) = not (under && bytes_eq x y) && are_clear under x u ts
  is_clear under x u (node (h.Forall y) ts) = is_clear_range under x u y ts
  is_clear under x u (node (h.Exists y) ts) = is_clear_range under x u y ts
  is_clear under x u (node head ts) = are_clear under x u ts

  pub are_clear : (under : Bool) → List ℕ → Tree → Trees → Bool
  are_clear under x u stop = true
  are_clear under x u (more t ts) = is_clear under x u t && are_clear under x u ts

  -- at the bounds and the body of a quantifier over y
  pub is_clear_range : (under : Bool) → List ℕ → Tree → List ℕ → Trees → Bool
  is_clear_range under x u y (more low (more high (more body stop))) =
      is_clear under x u low && is_clear under x u high && (bytes_eq x y || is_clear (under || is_free y sort.Int u) x u body)
  is_clear_range under x u y ts = false

-- the term may be put in the places of the name
abbrev pub may_replace : List ℕ → Tree → Tree → Bool
may_replace x u t = is_clear false x u t
