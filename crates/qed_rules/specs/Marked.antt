-- Operands by marks, and the negations of operands as one list.
use Rattle.std.specs.Prelude.{Bool, true, false, if◌then◌else◌, List, [], ◌∷◌, ◌++◌, Option, Some, None}
use Rattle.qed_terms.specs.Tree.{Tree, not_of}
use Rattle.qed_rules.specs.Rules.{negated_relation}

-- those that are marked
abbrev pub kept_by : List Bool → List Tree → List Tree
kept_by bs [] = []
kept_by [] (t ∷ ts) = []
kept_by (b ∷ bs) (t ∷ ts) = if b then t ∷ kept_by bs ts else kept_by bs ts

abbrev pub kept_if : Bool → Tree → List Tree
kept_if true t = t ∷ []
kept_if false t = []

abbrev pub with_other : Option Tree → List Tree → List Tree
with_other None ts = ts
with_other (Some t) ts = t ∷ ts

-- the negation of each operand, and for a relation also that of its own form
abbrev pub opposites : List Tree → List Tree
opposites [] = []
opposites (t ∷ ts) = not_of t ∷ with_other (negated_relation t) (opposites ts)
