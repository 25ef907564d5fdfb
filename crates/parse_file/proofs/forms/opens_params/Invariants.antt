use Rattle.std.proofs.Common.{◌≡◌, length}
use Rattle.parse_file.specs.Read.{opens_params}
use Rattle.parse_file.proofs.forms.opens_params.Given as goal

-- what is left tells as much
abbrev pub invariant-loop-first : goal.invariant-loop-first
invariant-loop-first l = opens_params l.rest ≡ opens_params l.tokens

abbrev pub decreases-loop-first : goal.decreases-loop-first
decreases-loop-first l = length l.rest
