-- The runs of havoc, both ways.
use Rattle.memory_calls.specs.HavocLaws.{HavocRuns}
use Rattle.memory_calls.proofs.Forth.{goes_forth}
use Rattle.memory_calls.proofs.Back.{comes_back}

pub havoc_runs : HavocRuns
havoc_runs m p s cells setting h set olds leaves fr scoped used n c st stands = record {
  forth = λ d goes. goes_forth m p s cells setting h set olds leaves fr scoped used c st stands d goes n;
  back = λ e run. comes_back m p s cells setting h set olds leaves fr scoped used c st stands n e run;
}
