use Rattle.std.proofs.Common.{◌≡◌, vec_len}
use Rattle.c_syntax.specs.Layers.{around_all}
use Rattle.c_syntax.proofs.copies.types.wrap_all.Given as goal

-- the layers that are left, around what was made so far, make the whole
abbrev pub invariant-loop-layer : goal.invariant-loop-layer
invariant-loop-layer l = around_all l.layers.items l.whole ≡ around_all l.initial.layers.items l.initial.whole

abbrev pub decreases-loop-layer : goal.decreases-loop-layer
decreases-loop-layer l = vec_len l.layers
