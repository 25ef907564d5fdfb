-- A `forall` by ids of a store, as a plain one.
use Rattle.std.specs.Prelude.{ℕ, List, Option, Some, None}
use Rattle.qed_terms.specs.declared.head.Head.{Head}
use Rattle.qed_terms.specs.declared.head.Head.TheVariants as h
use Rattle.qed_terms.specs.Tree.{Tree}
use Rattle.instance_rows.specs.Triggers.{Quantified}
use Rattle.forall_instances.specs.declared.foralls.IdForall.{IdForall}

abbrev pub forall_of : {Id : Type 0} → (Id → Tree) → IdForall Id → Quantified
forall_of tree q = record { name = q.name; low = tree q.low; high = tree q.high; body = tree q.body }

-- the store holds its parts
abbrev pub ForallHeld : {Id : Type 0} → (Id → Type 0) → IdForall Id → Type 0
ForallHeld held q = held q.low × held q.high × held q.body

-- the name over which a head is a `forall`
abbrev pub forall_name : Head → Option (List ℕ)
forall_name (h.Forall x) = Some x
forall_name head = None
