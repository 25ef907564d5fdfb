-- The goals of the examples: they hold the texts, of which the laws know the meaning alone.
use Rattle.memory_functions.specs.Pointers.{pointers_have_goals}
use Rattle.memory_functions.specs.Locals.{locals_have_goals}
use Rattle.memory_functions.specs.Fields.{fields_have_goals}
use Rattle.memory_functions.specs.Calling.{calls_have_goals}
use Rattle.memory_functions.specs.Behaving.{behaviors_have_goals}
use Rattle.memory_functions.specs.Ranges.{ranges_have_goals}

pub record ExampleGoals : Type 0 where
  pub pointers : pointers_have_goals
  pub locals : locals_have_goals
  pub fields : fields_have_goals
  pub calls : calls_have_goals
  pub behaviors : behaviors_have_goals
  pub ranges : ranges_have_goals
