-- Names that a branch doesn't have.
use Rattle.std.specs.Prelude.{◌≡◌, ℕ, ◌<◌, Bool, true, false, ◌||◌, List, [], ◌∷◌, ◌++◌, codes}
use Rattle.std.specs.Str.{bytes_eq}
use Rattle.qed_terms.specs.declared.head.Head.{Head}
use Rattle.qed_terms.specs.declared.head.Head.TheVariants as h
use Rattle.qed_terms.specs.Fresh.{numeral}
use Rattle.qed_terms.specs.Tree.{Tree, node, Trees, stop, more}
use Rattle.branches.specs.Branch.{Branch}

-- the head is a variable of this name, whatever its sort, or binds it
abbrev pub is_named : List ℕ → Head → Bool
is_named x (h.Var y s) = bytes_eq x y
is_named x (h.Forall y) = bytes_eq x y
is_named x (h.Exists y) = bytes_eq x y
is_named x head = false

abbrev mutual
  -- the name stands in the tree, free or bound
  pub is_in : List ℕ → Tree → Bool
  is_in x (node head ts) = is_named x head || is_in_one x ts

  pub is_in_one : List ℕ → Trees → Bool
  is_in_one x stop = false
  is_in_one x (more t ts) = is_in x t || is_in_one x ts

-- in one of the formulas
abbrev pub is_among : List ℕ → List Tree → Bool
is_among x [] = false
is_among x (f ∷ fs) = is_in x f || is_among x fs

abbrev pub is_in_branch : List ℕ → Branch → Bool
is_in_branch x b = is_among x b.literals || is_among x b.waiting

-- `sk` with a number
unfoldable pub numbered_name : ℕ → List ℕ
numbered_name n = codes "sk" ++ numeral n

-- it is the number of the first of sk1, sk2, .. that isn't in the branch
pub record IsFirstNew (b : Branch) (n : ℕ) : Type 0 where
  pub counted : 0 < n
  pub new : is_in_branch (numbered_name n) b ≡ false
  pub earlier : (m : ℕ) → 0 < m → m < n → is_in_branch (numbered_name m) b ≡ true
