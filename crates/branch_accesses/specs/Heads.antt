-- What is asked of a head, in the search for loads and accesses.
use Rattle.std.specs.Prelude.{ℕ, Bool, true, false, List, Option, Some, None}
use Rattle.wp_base.specs.declared.kinds.CellKind.{CellKind}
use Rattle.qed_terms.specs.declared.head.Sort.{Sort}
use Rattle.qed_terms.specs.declared.head.Sort.TheVariants as sort
use Rattle.qed_terms.specs.declared.head.Head.{Head}
use Rattle.qed_terms.specs.declared.head.Head.TheVariants as h
use Rattle.qed_terms.specs.declared.head.TermOp.TheVariants as op
use Rattle.qed_terms.specs.declared.head.FormOp.{FormOp}
use Rattle.qed_terms.specs.declared.head.FormOp.TheVariants as form
use Rattle.qed_terms.specs.Tree.{Tree}
use Rattle.instance_rows.specs.Accesses.{kind_under, memory_kind}

abbrev pub is_load : Head → Bool
is_load (h.Term op.Load) = true
is_load head = false

abbrev pub is_store : Head → Bool
is_store (h.Term op.Store) = true
is_store head = false

-- the kind of the cells of the memory that a name is
abbrev pub kind_of_name : List ℕ → Sort → Option CellKind
kind_of_name x sort.Memory = memory_kind x
kind_of_name x s = None

abbrev pub kind_in_head : Head → Option CellKind
kind_in_head (h.Var x s) = kind_of_name x s
kind_in_head head = None

-- the kind of a cell that is read or written
abbrev pub asked_kind : FormOp → Option CellKind
asked_kind (form.Read k) = Some k
asked_kind (form.Write k) = Some k
asked_kind o = None

-- the kind of the cell to which a head over three kids is an access
abbrev pub accessed_kind : Head → (first : Tree) → Option CellKind
accessed_kind (h.Term op.Load) m = kind_under m
accessed_kind (h.Form o) t = asked_kind o
accessed_kind head t = None
