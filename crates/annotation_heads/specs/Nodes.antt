-- What is made of two truths, and ranges and quantifiers.
use Rattle.std.specs.Prelude.{ℕ, Bool, true, false, List, [], ◌∷◌, Option}
use Rattle.qed_terms.specs.declared.head.Head.{Head}
use Rattle.qed_terms.specs.declared.head.Head.TheVariants as th
use Rattle.qed_terms.specs.Tree.{Tree, and_of, or_of, not_of, imp_of}
use Rattle.acsl_encode.specs.Encode.{iff_of, Ends, on_two, low_end, high_end}
use Rattle.annotation_heads.specs.declared.arithmetic.Joint.{Joint}
use Rattle.annotation_heads.specs.declared.arithmetic.Joint.TheVariants as j

abbrev pub joint : Joint → Tree → Tree → Tree
joint j.And f g = and_of (f ∷ g ∷ [])
joint j.Or f g = or_of (f ∷ g ∷ [])
joint j.Xor f g = not_of (iff_of f g)
joint j.Implies f g = imp_of f g
joint j.Iff f g = iff_of f g

-- ---- ranges and quantifiers

-- the range of two numbers
abbrev pub between : (low_out high_out : Bool) → Option Tree → Option Tree → Option Ends
between p q = on_two (λ t u. record { low = low_end p t; high = high_end q u })

abbrev pub quantifier : Bool → List ℕ → Head
quantifier true x = th.Forall x
quantifier false x = th.Exists x
