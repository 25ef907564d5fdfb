-- The changes of slots that the program knows, as steps.
use Rattle.std.specs.Prelude.{ℤ, int_le, [], ◌∷◌}
use Rattle.qed_terms.specs.Tree.{num, at_most}
use Rattle.walk_steps.specs.Forms.{Fact}
use Rattle.walk_steps.specs.Step.{Change, fresh}

abbrev pub at_least : ℤ → Fact
at_least low = record { written = λ ss t. at_most (num low) t; told = λ sts z. int_le low z }

abbrev pub up_to : ℤ → Fact
up_to high = record { written = λ ss t. at_most t (num high); told = λ sts z. int_le z high }

-- any value, and any value of a range
abbrev pub any : Change
any = fresh []

abbrev pub ranged : (low high : ℤ) → Change
ranged low high = fresh (at_least low ∷ up_to high ∷ [])
