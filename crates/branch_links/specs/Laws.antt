-- What the laws of this crate say.
use Rattle.std.specs.Prelude.{ℕ, ℤ, List}
use Rattle.qed_terms.specs.Meaning.{World, Values}
use Rattle.qed_terms.specs.Tree.{Tree}
use Rattle.linear_chains.specs.Links.{Link}
use Rattle.linear_chains.specs.Chains.{IsRefuted}
use Rattle.same_terms.specs.SameTerms.{AreTrue}
use Rattle.branch_links.specs.BranchLinks.{LinksRefute, RefutedBy}
use Rattle.branch_links.specs.Numbered.{TellApart, StandForAll, At}

-- where the literals are true, no links of theirs are a chain or a short sum
abbrev pub RefutedIsFalse : Type 0
RefutedIsFalse = (w : World) (env : Values) (ls : List Tree) → LinksRefute ls → AreTrue w env ls → ⊥

-- By whichever classes: links over classes that stand for those of a branch are refuted where the branch is, by the literals beside them, and only there.
abbrev pub RefutedByClasses : Type 0
RefutedByClasses =
    (ls : List Tree) (count : ℕ) (tree : ℕ → Tree) (class : ℕ → ℕ) (links : List Link) (literals : List Tree) → TellApart ls count tree class → StandForAll ls count tree class links literals →
    ((ks : List ℕ) (total : ℤ) → IsRefuted links ks total → (taken : List Tree) × At literals ks taken × RefutedBy ls taken) × (LinksRefute ls → (ks : List ℕ) × (total : ℤ) × IsRefuted links ks total)
