-- The links of literals, over classes that stand for those of a branch.
use Rattle.std.specs.Prelude.{◌≡◌, ℕ, List, length, slice_get, Some}
use Rattle.qed_terms.specs.Tree.{Tree}
use Rattle.linear_chains.specs.Links.{Link}
use Rattle.same_terms.specs.SameTerms.{Among}
use Rattle.branch_links.specs.BranchLinks.{BranchLink, IsLink}
use Rattle.branch_links.specs.Numbered.{StandsFor}

-- each is a link of this literal, and each link of the literal is one of them
pub record LinksOf (ls : List Tree) (count : ℕ) (tree : ℕ → Tree) (class : ℕ → ℕ) (literal : Tree) (links : List Link) : Type 0 where
  pub each : (k : ℕ) (l : Link) → slice_get links k ≡ Some l → (m : BranchLink) × IsLink ls m × StandsFor ls count tree class l m × (m.literal ≡ literal)
  pub every : (m : BranchLink) → IsLink ls m → m.literal ≡ literal → (k : ℕ) × (l : Link) × (slice_get links k ≡ Some l) × StandsFor ls count tree class l m

-- the links of the literals so far, each with its literal beside it
pub record Gathered (ls : List Tree) (count : ℕ) (tree : ℕ → Tree) (class : ℕ → ℕ) (done : List Tree) (links : List Link) (literals : List Tree) : Type 0 where
  pub long : length literals ≡ length links
  pub each : (k : ℕ) (l : Link) → slice_get links k ≡ Some l → (m : BranchLink) × IsLink ls m × StandsFor ls count tree class l m × (slice_get literals k ≡ Some (m.literal))
  pub every : (m : BranchLink) → IsLink ls m → Among (m.literal) done → (k : ℕ) × (l : Link) × (slice_get links k ≡ Some l) × StandsFor ls count tree class l m

-- a literal beside each link
abbrev pub beside : ℕ → Link → ℕ
beside literal l = literal
