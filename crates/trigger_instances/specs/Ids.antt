-- Calls by the ids of a store, as plain ones, and the candidates of one trigger.
use Rattle.std.specs.Prelude.{ℕ, List, [], ◌∷◌, ◌++◌, Option, Some, None}
use Rattle.qed_terms.specs.declared.head.Head.{Head}
use Rattle.qed_terms.specs.declared.head.Head.TheVariants as h
use Rattle.qed_terms.specs.Setting.{Logic}
use Rattle.qed_terms.specs.Tree.{Tree}
use Rattle.instance_rows.specs.Accesses.{Access, access_at}
use Rattle.instance_rows.specs.Triggers.{Call, Quantified, call_at, instance_by_access, instance_by_call}
use Rattle.instance_rows.specs.Candidates.{Candidate, with_instance, if_access, if_call}
use Rattle.trigger_instances.specs.declared.calls.IdCall.{IdCall}

abbrev pub call_of : {Id : Type 0} → (Id → Tree) → IdCall Id → Call
call_of tree c = record { name = c.name; number = tree c.number }

-- the store holds its argument
abbrev pub CallHeld : {Id : Type 0} → (Id → Type 0) → IdCall Id → Type 0
CallHeld held c = held c.number

-- ---- candidates of one trigger in the body

-- with one access of the branch
abbrev pub by_one_access : Quantified → (trigger there : Access) → List Candidate
by_one_access q a c = with_instance (instance_by_access q a c) ((a.block, c.block) ∷ []) []

-- with one call of the branch
abbrev pub by_one_call : Quantified → (trigger there : Call) → List Candidate
by_one_call q a c = with_instance (instance_by_call q a c) [] []

-- of a node of the body
abbrev pub by_one_node : List Logic → List Access → List Call → Quantified → Tree → List Candidate
by_one_node fs accesses calls q t = if_access q (access_at t) accesses ++ if_call q (call_at fs t) calls

-- the name of the function that a head calls
unfoldable pub called_name : Head → Option (List ℕ)
called_name (h.App x) = Some x
called_name head = None
