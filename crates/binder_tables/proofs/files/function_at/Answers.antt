use Rattle.std.proofs.Common.{rules}
use Rattle.binder_tables.proofs.Functions_at.{at_past}
use Rattle.binder_tables.proofs.files.function_at.Goals as goal

pub returns-else-place-functions : goal.returns-else-place-functions
returns-else-place-functions c = at_past c.args.functions.now c.args.number (search rules)
