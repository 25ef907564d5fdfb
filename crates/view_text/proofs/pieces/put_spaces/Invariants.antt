use Rattle.std.proofs.Common.{◌≡◌, ◌++◌, replicate}
use Rattle.view_text.proofs.pieces.put_spaces.Given as goal

abbrev pub invariant-loop-done : goal.invariant-loop-done
invariant-loop-done l = l.text.items ≡ l.initial.text.items ++ replicate l._done 32
