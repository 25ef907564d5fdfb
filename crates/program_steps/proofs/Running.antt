-- The laws on statements and on functions, as they are named.
use Rattle.program_steps.specs.Typed.{OtherFits}
use Rattle.program_steps.specs.Laws.{StatementsRun, FunctionsRun}
use Rattle.program_steps.proofs.Statements.{all_both}
use Rattle.program_steps.proofs.Wholes.{function_runs}

pub statements_run : (asked : OtherFits) → StatementsRun asked
statements_run asked m q s texts contract others runs setting table here pt olds placed i f ss fits n c st stands =
    all_both m q s texts contract others asked runs setting table ss here pt olds placed i f n c st fits stands

pub functions_run : (asked : OtherFits) → FunctionsRun asked
functions_run asked m q number f temporaries temp_kind texts others runs setting fits vs w st enters =
    function_runs m q number f temporaries temp_kind texts others asked runs setting fits vs w st enters
