use Rattle.c_parser.proofs.Exact.{one_program}
use Rattle.parse_file.proofs.Parts.{parts}
use Rattle.c_parser.proofs.parser.one_program.Goals as goal

pub returns : goal.returns
returns c = one_program parts
