use Rattle.c_machine.proofs.Found.{constant_found, value_found}
use Rattle.c_machine.proofs.Given.{constant_given, value_given}
use Rattle.c_machine.proofs.laws.constants_follow_the_rules.Goals as goal

pub returns : goal.returns
returns c = λ m a. record {
  constant_where_given = constant_found m a;
  given_where_constant = constant_given m a;
  value_where_given = value_found m a;
  given_where_value = value_given m a;
}
