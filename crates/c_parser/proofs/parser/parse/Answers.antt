use Rattle.c_parser.proofs.Exact.{spelled_clause, refusal_clause, only_parsed, only_past}
use Rattle.parse_file.proofs.Parts.{parts}
use Rattle.c_parser.proofs.parser.parse.Goals as goal

pub returns-clause-spelled : goal.returns-clause-spelled
returns-clause-spelled c = spelled_clause parts _ _ c.read_file.ensures

pub returns-clause-only : goal.returns-clause-only
returns-clause-only c = only_parsed parts _ _ c.read_file.ensures

pub returns-clause-refusal : goal.returns-clause-refusal
returns-clause-refusal c = refusal_clause parts _ _ c.read_file.ensures

pub returns-clause-limit : goal.returns-clause-limit
returns-clause-limit c = only_past parts _ _ c.read_file.ensures
