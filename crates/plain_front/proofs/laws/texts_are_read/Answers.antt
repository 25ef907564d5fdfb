use Rattle.plain_front.proofs.laws.texts_are_read.Goals as goal
use Rattle.plain_front.proofs.Reading as proof

pub returns : goal.returns
returns c = record { once = proof.spelled_once; no_fault = proof.no_fault; one_fault = proof.one_fault; each = proof.program_or_fault }
