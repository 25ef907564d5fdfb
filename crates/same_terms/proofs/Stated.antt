-- The laws as they are stated.
use Rattle.same_terms.specs.Laws.{SameMeans, ClashRefutes, RowsAgree}
use Rattle.same_terms.specs.Stands.{StandsFor}
use Rattle.same_terms.proofs.FromRows.{rows_terms}
use Rattle.same_terms.proofs.FromTerms.{terms_rows}
use Rattle.same_terms.proofs.Means.{same_means}
use Rattle.same_terms.proofs.Refuted.{refuted}
use Rattle.std.proofs.Common.{refl}

pub same_mean : SameMeans
same_mean w env ls t u are s = same_means w env ls are s

pub clash_refutes : ClashRefutes
clash_refutes w env ls c are = refuted w env ls are c

pub rows_agree : RowsAgree
rows_agree ls count tree number rows pairs st i j k l b = ((λ s. rows_terms ls count tree (StandsFor number) rows pairs st i j b s), (λ s. terms_rows ls count tree (StandsFor number) rows pairs st s i j k l refl refl))
