-- Loads and accesses by the ids of a store, as plain ones.
use Rattle.std.specs.Prelude.{List, [], ◌∷◌}
use Rattle.qed_terms.specs.Tree.{Tree}
use Rattle.instance_rows.specs.Accesses.{Load, Access}
use Rattle.branch_accesses.specs.declared.loads.IdLoad.{IdLoad}
use Rattle.branch_accesses.specs.declared.accesses.IdAccess.{IdAccess}

abbrev pub load_of : {Id : Type 0} → (Id → Tree) → IdLoad Id → Load
load_of tree l = record { memory = tree l.memory; block = tree l.block; offset = tree l.offset }

-- the store holds its parts
abbrev pub LoadHeld : {Id : Type 0} → (Id → Type 0) → IdLoad Id → Type 0
LoadHeld held l = held l.memory × held l.block × held l.offset

abbrev pub access_of : {Id : Type 0} → (Id → Tree) → IdAccess Id → Access
access_of tree a = record { kind = a.kind; block = tree a.block; offset = tree a.offset }

abbrev pub AccessHeld : {Id : Type 0} → (Id → Type 0) → IdAccess Id → Type 0
AccessHeld held a = held a.block × held a.offset

-- ---- what is asked about

abbrev pub side_ids : {Id : Type 0} → List (IdLoad Id) → List Id
side_ids [] = []
side_ids (l ∷ ls) = l.block ∷ l.offset ∷ side_ids ls

abbrev pub block_ids : {Id : Type 0} → List (IdAccess Id) → List Id
block_ids [] = []
block_ids (a ∷ rest) = a.block ∷ block_ids rest
