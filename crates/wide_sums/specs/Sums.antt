-- The sums that the program holds, as plain numbers.
use Rattle.std.specs.Prelude.{ℤ, pos, ◌+ℤ◌, ◌*ℤ◌}
use Rattle.wide_sums.specs.declared.wide.Wide.{Wide}

-- 2^128 to a turn
abbrev pub wide_value : Wide → ℤ
wide_value w = w.low +ℤ w.turns *ℤ pos 340282366920938463463374607431768211456
