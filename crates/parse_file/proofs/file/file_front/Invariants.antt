use Rattle.std.proofs.Common.{◌≡◌, ◌-◌, []}
use Rattle.parse_file.specs.Read.{front_of}
use Rattle.parse_file.specs.Views.{and_then, view_front}
use Rattle.parse_file.proofs.file.file_front.Given as goal

-- the declarations so far, and those of what is left
abbrev pub invariant-loop-turn : goal.invariant-loop-turn
invariant-loop-turn l = and_then (view_front l.front) (front_of l.end (l.end - l.turn) l.front.names l.front.left.now) ≡ front_of l.end l.end [] l.tokens
