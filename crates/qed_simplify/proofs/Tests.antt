-- Small facts on tests, and on what a test lets through.
use Rattle.std.proofs.Common.{◌≡◌, Bool, true, false, ◌||◌, refl, Option, Some, None}
use Rattle.qed_terms.specs.Tree.{Tree}
use Rattle.qed_rules.specs.Rules.{then_some, first_some}

pub or_left : (p q : Bool) → p || q ≡ false → p ≡ false
or_left true q k = absurd cc
or_left false q k = refl

pub or_right : (p q : Bool) → p || q ≡ false → q ≡ false
or_right true q k = absurd cc
or_right false q k = k

pub then_some_none : (b : Bool) (t : Tree) → then_some b t ≡ None → b ≡ false
then_some_none true t k = absurd cc
then_some_none false t k = refl

pub first_none : (o p : Option Tree) → first_some o p ≡ None → o ≡ None
first_none (Some t) p k = absurd cc
first_none None p k = refl
