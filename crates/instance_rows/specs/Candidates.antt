-- Formulas of a round that hang on which terms are same.
use Rattle.std.specs.Prelude.{Bool, true, false, ◌&&◌, if◌then◌else◌, pos, List, [], ◌∷◌, ◌++◌, Option, Some, None}
use Rattle.qed_terms.specs.Order.{same}
use Rattle.qed_terms.specs.Setting.{Logic}
use Rattle.qed_terms.specs.Tree.{Tree, num, at_most}
use Rattle.qed_memories.specs.Memories.{apart}
use Rattle.same_terms.specs.SameTerms.{SameTerm}
use Rattle.instance_rows.specs.PairRows.{order_of_offsets}
use Rattle.instance_rows.specs.Accesses.{Load, Access, access_at, accesses_in}
use Rattle.instance_rows.specs.Triggers.{Call, Quantified, call_at, nodes_with, quantified_at, instance_by_access, instance_by_call}

-- a formula, and which terms have to be same and not same for it
pub record Candidate : Type 0 where
  pub formula : Tree
  pub same_pairs : List (Tree × Tree)
  pub unlike_pairs : List (Tree × Tree)

abbrev pub candidate : Tree → List (Tree × Tree) → List (Tree × Tree) → Candidate
candidate f us vs = record { formula = f; same_pairs = us; unlike_pairs = vs }

-- ---- two loads of one memory and same block, whose offsets aren't same and don't differ by a number

abbrev pub is_unknown : {A : Type 0} → Option A → Bool
is_unknown None = true
is_unknown (Some a) = false

abbrev pub may_meet : Load → Load → Bool
may_meet l k = same l.memory k.memory && is_unknown (apart l.offset k.offset)

abbrev pub meeting : Load → Load → Candidate
meeting l k = candidate (order_of_offsets l.offset k.offset) ((l.block, k.block) ∷ []) ((l.offset, k.offset) ∷ [])

abbrev pub meetings_with : Load → List Load → List Candidate
meetings_with l [] = []
meetings_with l (k ∷ ks) = if may_meet l k then meeting l k ∷ meetings_with l ks else meetings_with l ks

-- each load with each that stands behind it
abbrev pub offset_candidates : List Load → List Candidate
offset_candidates [] = []
offset_candidates (l ∷ ls) = meetings_with l ls ++ offset_candidates ls

-- ---- a `forall` by the triggers in its body

abbrev pub with_instance : Option Tree → List (Tree × Tree) → List Candidate → List Candidate
with_instance None us cs = cs
with_instance (Some f) us cs = candidate f us [] ∷ cs

-- an access in the body with each of the branch; their blocks have to be same
abbrev pub by_access : Quantified → (trigger : Access) → List Access → List Candidate
by_access q a [] = []
by_access q a (c ∷ cs) = with_instance (instance_by_access q a c) ((a.block, c.block) ∷ []) (by_access q a cs)

abbrev pub by_call : Quantified → (trigger : Call) → List Call → List Candidate
by_call q a [] = []
by_call q a (c ∷ cs) = with_instance (instance_by_call q a c) [] (by_call q a cs)

abbrev pub if_access : Quantified → Option Access → List Access → List Candidate
if_access q None cs = []
if_access q (Some a) cs = by_access q a cs

abbrev pub if_call : Quantified → Option Call → List Call → List Candidate
if_call q None cs = []
if_call q (Some a) cs = by_call q a cs

-- a node of the body is one or the other
abbrev pub by_nodes : List Logic → List Access → List Call → Quantified → List Tree → List Candidate
by_nodes fs accesses calls q [] = []
by_nodes fs accesses calls q (t ∷ ts) = if_access q (access_at t) accesses ++ (if_call q (call_at fs t) calls ++ by_nodes fs accesses calls q ts)

abbrev pub by_literal : List Logic → List Access → List Call → Option Quantified → List Candidate
by_literal fs accesses calls None = []
by_literal fs accesses calls (Some q) = by_nodes fs accesses calls q (nodes_with q.name q.body)

abbrev pub forall_candidates : List Logic → List Access → List Call → (literals : List Tree) → List Candidate
forall_candidates fs accesses calls [] = []
forall_candidates fs accesses calls (l ∷ ls) = by_literal fs accesses calls (quantified_at l) ++ forall_candidates fs accesses calls ls

-- ---- terms of which it is asked whether they are same

abbrev pub sides_of_loads : List Load → List Tree
sides_of_loads [] = []
sides_of_loads (l ∷ ls) = l.block ∷ l.offset ∷ sides_of_loads ls

abbrev pub blocks_of : List Access → List Tree
blocks_of [] = []
blocks_of (a ∷ rest) = a.block ∷ blocks_of rest

abbrev pub trigger_blocks_in : Option Quantified → List Tree
trigger_blocks_in None = []
trigger_blocks_in (Some q) = blocks_of (accesses_in (nodes_with q.name q.body))

abbrev pub trigger_blocks : (literals : List Tree) → List Tree
trigger_blocks [] = []
trigger_blocks (l ∷ ls) = trigger_blocks_in (quantified_at l) ++ trigger_blocks ls

abbrev pub asked_terms : List Load → List Access → (literals : List Tree) → List Tree
asked_terms loads accesses ls = sides_of_loads loads ++ (blocks_of accesses ++ trigger_blocks ls)

-- A relation with the term on one side. Among literals it brings the term into the branch, and gives no equality.
abbrev pub marker : Tree → Tree
marker t = at_most t (num (pos 0))

-- ---- those that are given

-- each pair is same among these literals; none is
abbrev pub AllSame : (literals : List Tree) → List (Tree × Tree) → Type 0
AllSame ls [] = Unit {0}
AllSame ls (u ∷ us) = SameTerm ls (u.0) (u.1) × AllSame ls us

abbrev pub NoneSame : (literals : List Tree) → List (Tree × Tree) → Type 0
NoneSame ls [] = Unit {0}
NoneSame ls (u ∷ us) = (SameTerm ls (u.0) (u.1) → ⊥) × NoneSame ls us

abbrev pub IsGiven : (literals : List Tree) → Candidate → Type 0
IsGiven ls c = AllSame ls c.same_pairs × NoneSame ls c.unlike_pairs

-- of candidates the formulas of those that are given
pub data Given (ls : List Tree) : List Candidate → List Tree → Type 0 where
  none_left : Given ls [] []
  given : {c : Candidate} {cs : List Candidate} {fs : List Tree} → IsGiven ls c → Given ls cs fs → Given ls (c ∷ cs) (c.formula ∷ fs)
  passed : {c : Candidate} {cs : List Candidate} {fs : List Tree} → (IsGiven ls c → ⊥) → Given ls cs fs → Given ls (c ∷ cs) fs
