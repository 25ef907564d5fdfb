-- The formulas of meetings in a store that grows.
use Rattle.std.proofs.Common.{◌≡◌, ℕ, ◌+◌, ◌<◌, List, [], ◌∷◌, ◌++◌, map, take, length, get_or, All, refl, sym, ◌∙◌, ap}
use Rattle.qed_terms.specs.Store.{KeepsOlder}
use Rattle.qed_terms.specs.Tree.{Tree}
use Rattle.qed_terms.proofs.Kept.{kept_trees}
use Rattle.term_sketches.specs.declared.sketch.Sketch.{Sketch}
use Rattle.term_sketches.specs.Sketches.{sketch_tree, slots}
use Rattle.instance_rows.specs.PairRows.{order_of_offsets}
use Rattle.instance_candidates.specs.declared.meetings.Meeting.{Meeting}
use Rattle.instance_candidates.specs.Ids.{order_of, MeetingHeld}
use Rattle.branch_accesses.proofs.Gathered.{mapped_more}

-- a sketch with two offsets in its slots
pub order_stands : {Id : Type 0} (tree tree' : Id → Tree) (order : Sketch) (m : Meeting Id) (ids : List Id) (t : Tree) → ((f : ℕ → Tree) → sketch_tree f order ≡ order_of_offsets (f 0) (f 1))
    → ids ≡ m.first.offset ∷ m.second.offset ∷ [] → t ≡ sketch_tree (slots (map tree ids)) order → t ≡ order_of tree m
order_stands tree tree' order m ids t o e s = s ∙ ap (λ is. sketch_tree (slots (map tree is)) order) e ∙ o (slots (map tree (m.first.offset ∷ m.second.offset ∷ [])))

same_order : {Id : Type 0} (held held' : Id → Type 0) (tree tree' : Id → Tree) (m : Meeting Id) → KeepsOlder held held' tree tree' → MeetingHeld held m → order_of tree' m ≡ order_of tree m
same_order held held' tree tree' m k h = λ i. order_of_offsets (k.same_tree m.first.offset h.0.2 i) (k.same_tree m.second.offset h.1.2 i)

pub order_more : {Id : Type 0} (held held' held'' : Id → Type 0) (tree tree' tree'' : Id → Tree) (ms : List (Meeting Id)) (i : ℕ) (m : Meeting Id) (made now : List Id) (id : Id)
    → KeepsOlder held held' tree tree' → KeepsOlder held' held'' tree' tree'' → MeetingHeld held m → All held' made → i < length ms → m ≡ get_or ms i m → tree'' id ≡ order_of tree' m → now ≡ made ++ id ∷ []
    → map tree' made ≡ map (order_of tree) (take i ms) → map tree'' now ≡ map (order_of tree) (take (i + 1) ms)
order_more held held' held'' tree tree' tree'' ms i m made now id k l h a n e s p d =
    mapped_more tree'' (order_of tree) ms i m id made now n e (s ∙ same_order held held' tree tree' m k h) p (kept_trees held' held'' tree' tree'' made l a ∙ d)

-- the store still holds the loads of a meeting
pub meeting_still : {Id : Type 0} (held held' : Id → Type 0) (tree tree' : Id → Tree) (m : Meeting Id) → KeepsOlder held held' tree tree' → MeetingHeld held m → MeetingHeld held' m
meeting_still held held' tree tree' m k h = (
  (k.still_held m.first.memory h.0.0, k.still_held m.first.block h.0.1, k.still_held m.first.offset h.0.2),
  (k.still_held m.second.memory h.1.0, k.still_held m.second.block h.1.1, k.still_held m.second.offset h.1.2),
)
