-- What the search for links tells.
use Rattle.std.proofs.Common.{◌≡◌, ℕ, Bool, true, false, List, refl}
use Rattle.std.specs.Prelude.{Option, Some, None, ◌↔◌, IsTrue}
use Rattle.std.specs.Option.{MatchOption, is_some}
use Rattle.qed_terms.specs.Tree.{Tree}
use Rattle.branch_links.specs.BranchLinks.{LinksRefute, RefutedBy}

pub some_refute : {A : Type 0} (ls : List Tree) (taken : A → List Tree) (o : Option A) → MatchOption o (LinksRefute ls → ⊥) (λ x. RefutedBy ls (taken x)) → IsTrue (is_some o) ↔ LinksRefute ls
some_refute ls taken None told = (λ x. absurd cc, λ r. absurd (told r))
some_refute ls taken (Some x) told = (λ y. (told.0, told.1), λ r. refl)
