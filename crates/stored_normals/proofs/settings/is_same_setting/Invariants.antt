use Rattle.std.proofs.Common.{◌≡◌, take}
use Rattle.stored_normals.proofs.settings.is_same_setting.Given as goal

-- those so far are the same
abbrev pub invariant-loop-at : goal.invariant-loop-at
invariant-loop-at l = take l.at l.left ≡ take l.at l.right
