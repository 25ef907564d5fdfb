-- What a file gives, in the words of the code.
use Rattle.std.proofs.Common.{◌≡◌, List, ap}
use Rattle.c_syntax.specs.declared.token.Token.{Token}
use Rattle.parse_file.specs.Read as r
use Rattle.parse_file.specs.Read.{Front}
use Rattle.c_parser.specs.Outcome.{outcome, outcome_by}

pub outcome_is : (ts : List Token) (f : Front) → f ≡ r.file_front ts → outcome_by f.left f ≡ outcome ts
unfolding outcome
outcome_is ts f h = ap (λ (f : Front). outcome_by f.left f) h
