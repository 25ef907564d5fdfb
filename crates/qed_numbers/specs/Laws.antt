-- What the rules keep, and what they answer.
use Rattle.std.specs.Prelude.{◌≡◌, ◌⊎◌, ℕ, ℤ, Some}
use Rattle.qed_terms.specs.declared.head.Head.TheVariants as h
use Rattle.qed_terms.specs.declared.head.TermOp.{TermOp}
use Rattle.qed_terms.specs.declared.head.TermOp.TheVariants as op
use Rattle.qed_terms.specs.Tree.{Tree, node, Trees, stop, more, num}
use Rattle.qed_terms.specs.Meaning.{World, Values, meaning}
use Rattle.qed_numbers.specs.Numbers.{times_number, long_rule, number_step}

-- what a rule makes of a node means what the node means, in each world and under all values
abbrev pub NumbersKeepMeaning : Type 0
NumbersKeepMeaning = (o : TermOp) (ts : Trees) (w : Tree) → number_step (h.Term o) ts ≡ Some w → (world : World) (env : Values) → meaning world env w ≡ meaning world env (node (h.Term o) ts)

-- so does the conversion to `long`, in the worlds where `long` is as wide
abbrev pub LongKeepsMeaning : Type 0
LongKeepsMeaning = (n : ℕ) (o : TermOp) (ts : Trees) (w : Tree) → long_rule n (h.Term o) ts ≡ Some w → (world : World) (env : Values) → world.long_bits ≡ n → meaning world env w ≡ meaning world env (node (h.Term o) ts)

abbrev pub IsKid : Tree → Trees → Type 0
IsKid w stop = ⊥
IsKid w (more t ts) = (w ≡ t) ⊎ IsKid w ts

-- A rule answers a number, a kid, or for a shift to the left a number times a kid: so the weight of a node falls, and the rules end.
abbrev pub Outcome : TermOp → Trees → Tree → Type 0
Outcome o ts w = ((z : ℤ) × (w ≡ num z)) ⊎ (IsKid w ts ⊎ ((o ≡ op.ShiftLeft) × ((p : ℤ) × ((t : Tree) × (IsKid t ts × (w ≡ times_number p t))))))

abbrev pub NumbersAnswer : Type 0
NumbersAnswer = (o : TermOp) (ts : Trees) (w : Tree) → number_step (h.Term o) ts ≡ Some w → Outcome o ts w
