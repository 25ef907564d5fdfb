-- What typing makes of clauses and assertions is in order (ACSL 2.3, 2.4, 2.5). No name is bound around them.
use Rattle.std.specs.Prelude.{◌≡◌, Bool, true, List, [], ◌∷◌}
use Rattle.c_syntax.specs.Pred.{Pred}
use Rattle.c_syntax.specs.Contract.{Contract, LoopAnnot}
use Rattle.acsl_rules.specs.Laws.{Holds}
use Rattle.acsl_names.specs.Names.{Around}
use Rattle.acsl_clauses.specs.Items as i
use Rattle.acsl_clauses.specs.Items.{Item, contract_items, loop_items}
use Rattle.acsl_clauses.specs.Typed.{Said, claims, decreases, assigns, begins, together, TypedClause}
use Rattle.acsl_clauses.specs.Clauses.{contract_typed, loop_typed, assertion_typed}
use Rattle.acsl_well_typed.specs.WellTyped.{an_integer, a_region, Known}
use Rattle.acsl_well_typed.specs.Terms.{HaveTypes, known_at, Gives}
use Rattle.acsl_well_typed.specs.Ranges.{EachBinds}

abbrev pub All : {X : Type 0} → (X → Type 0) → List X → Type 0
All P [] = Unit {0}
All P (x ∷ xs) = P x × All P xs

-- what is claimed is a truth, what decreases an integer, and what may be assigned are regions
abbrev pub SaidFits : Known → Said → Type 0
SaidFits k (claims r t) = Gives k [] an_integer t
SaidFits k (decreases t) = Gives k [] an_integer t
SaidFits k (assigns ts) = All (Gives k [] a_region) ts
SaidFits k (begins n) = Unit {0}
SaidFits k (together g ns) = Unit {0}

abbrev pub ClausesFit : Known → List TypedClause → Type 0
ClausesFit k cs = All (λ x. SaidFits k x.said) cs

-- each quantifier in them binds a name
abbrev pub ItemBinds : Item → Type 0
ItemBinds (i.claim r x) = EachBinds x.pred
ItemBinds (i.measure m) = Unit {0}
ItemBinds (i.assigns a) = Unit {0}
ItemBinds (i.behavior b) = Unit {0}
ItemBinds (i.together g n) = Unit {0}

abbrev pub ContractBinds : Contract → Type 0
ContractBinds q = All ItemBinds (contract_items q)

abbrev pub LoopBinds : LoopAnnot → Type 0
LoopBinds a = All ItemBinds (loop_items a)

-- where ends of ranges are looked at, each quantifier has to bind a name
pub record AnnotationsFit (ends : Bool) (c : Around) : Type 0 where
  pub of_contract : (q : Contract) → (ends ≡ true → ContractBinds q) → Holds (ClausesFit (known_at ends c)) (contract_typed c q)
  pub of_loop : (a : LoopAnnot) → (ends ≡ true → LoopBinds a) → Holds (ClausesFit (known_at ends c)) (loop_typed c a)
  pub of_assertion : (p : Pred) → (ends ≡ true → EachBinds p) → Holds (Gives (known_at ends c) [] an_integer) (assertion_typed c p)

abbrev pub ClausesAreWellTyped : Type 0
ClausesAreWellTyped = (ends : Bool) (c : Around) → HaveTypes c.definitions.items → AnnotationsFit ends c
