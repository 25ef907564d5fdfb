use Rattle.plain_reports.proofs.laws.reports_claim.Goals as goal
use Rattle.plain_reports.proofs.Claimed as proof

pub returns : goal.returns
returns c = proof.reports_claim
