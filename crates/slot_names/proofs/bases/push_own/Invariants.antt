use Rattle.std.proofs.Common.{◌≡◌, ◌++◌, drop}
use Rattle.slot_names.specs.Bases.{pairs_of, own_names}
use Rattle.slot_names.proofs.bases.push_own.Given as goal

abbrev pub invariant-loop-name : goal.invariant-loop-name
invariant-loop-name l =
    l.bases.items ++ pairs_of (own_names l.file l.left (drop l.name-index l.own)) ≡ l.initial.bases.items ++ pairs_of (own_names l.file l.params l.own)
