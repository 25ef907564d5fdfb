-- Meetings of loads by the ids of a store, as plain candidates.
use Rattle.std.specs.Prelude.{◌≡◌}
use Rattle.qed_terms.specs.Tree.{Tree}
use Rattle.qed_linear.specs.Linear.{to_lin}
use Rattle.qed_linear.specs.View.{lin_of}
use Rattle.instance_rows.specs.Accesses.{Load}
use Rattle.instance_rows.specs.PairRows.{order_of_offsets}
use Rattle.instance_rows.specs.Candidates.{Candidate, meeting}
use Rattle.branch_accesses.specs.Ids.{load_of, LoadHeld}
use Rattle.instance_candidates.specs.declared.meetings.FormedLoad.{FormedLoad}
use Rattle.instance_candidates.specs.declared.meetings.Meeting.{Meeting}

abbrev pub meeting_of : {Id : Type 0} → (Id → Tree) → Meeting Id → Candidate
meeting_of tree m = meeting (load_of tree m.first) (load_of tree m.second)

-- the store holds the parts of both loads
abbrev pub MeetingHeld : {Id : Type 0} → (Id → Type 0) → Meeting Id → Type 0
MeetingHeld held m = LoadHeld held m.first × LoadHeld held m.second

-- its formula
abbrev pub order_of : {Id : Type 0} → (Id → Tree) → Meeting Id → Tree
order_of tree m = order_of_offsets (tree m.first.offset) (tree m.second.offset)

-- ---- a load with the form of its offset

abbrev pub formed_of : {Id : Type 0} → (Id → Tree) → FormedLoad Id → Load
formed_of tree f = load_of tree f.load

abbrev pub FormedHeld : {Id : Type 0} → (Id → Type 0) → FormedLoad Id → Type 0
FormedHeld held f = LoadHeld held f.load

abbrev pub IsFormed : {Id : Type 0} → (Id → Tree) → FormedLoad Id → Type 0
IsFormed tree f = lin_of f.form ≡ to_lin (tree f.load.offset)
