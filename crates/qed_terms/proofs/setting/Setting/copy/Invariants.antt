use Rattle.std.proofs.Common.{◌≡◌, take}
use Rattle.qed_terms.proofs.setting.Setting.copy.Given as goal

-- the copies so far are the functions so far
abbrev pub invariant-loop-function : goal.invariant-loop-function
invariant-loop-function l = l.logic ≡ take l.function-index l.self.logic
