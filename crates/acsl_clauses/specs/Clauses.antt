-- The clauses of a contract or of a loop, typed, or the first fault in them (ACSL 2.3, 2.4.2, 2.5). Their nodes are counted together, clause by clause.
use Rattle.std.specs.Prelude.{ℕ, List, [], ◌∷◌, ◌++◌, length, if◌then◌else◌, Option, Some, None, Ok, Err}
use Rattle.c_answers.specs.Answers.{Answer, after, unknown}
use Rattle.c_syntax.specs.declared.annot.Names.{Names as Named}
use Rattle.c_syntax.specs.Term.{Term}
use Rattle.c_syntax.specs.Pred.{Pred}
use Rattle.c_syntax.specs.Contract.{Clause, Measure, AssignsClause, Behavior, Contract, LoopAnnot}
use Rattle.c_syntax.specs.Lines.{term_line_of}
use Rattle.name_table.specs.Names.{Names, meaning_of, declared, is_free}
use Rattle.acsl_trees.specs.Tree.{Tree}
use Rattle.acsl_trees.specs.declared.operands.TermType.TheVariants as type
use Rattle.acsl_rules.specs.Contexts.{passed}
use Rattle.acsl_names.specs.declared.names.Bound.{Bound}
use Rattle.acsl_names.specs.declared.names.Site.{Site}
use Rattle.acsl_names.specs.declared.names.Site.TheVariants as site
use Rattle.acsl_names.specs.declared.counting.Limit.TheVariants as limit
use Rattle.acsl_names.specs.declared.counting.Count.{Count}
use Rattle.acsl_names.specs.Names.{Around, at_site}
use Rattle.acsl_names.specs.Labels.{current}
use Rattle.acsl_names.specs.Counting.{no_weight, ended, within}
use Rattle.acsl_terms.specs.Leaves.{closed}
use Rattle.acsl_terms.specs.Terms.{typed}
use Rattle.acsl_places.specs.Places.{entry}
use Rattle.acsl_preds.specs.Preds.{typed_pred}
use Rattle.acsl_clauses.specs.declared.items.Role.{Role}
use Rattle.acsl_clauses.specs.declared.items.Role.TheVariants as role
use Rattle.acsl_clauses.specs.declared.items.Group.{Group}
use Rattle.acsl_clauses.specs.declared.clauses.Known.{Known}
use Rattle.acsl_clauses.specs.Each.{each}
use Rattle.acsl_clauses.specs.Items as i
use Rattle.acsl_clauses.specs.Typed as o

-- no name is bound around a clause
abbrev pub no_names : Bound
no_names = record { scopes = []; types = [] }

-- nothing is counted yet
abbrev pub at_start : Count
at_start = record { limit = limit.Counting; weight = no_weight 0 }

-- ---- predicates

-- the state of an `ensures` is that at the return
abbrev pub site_of : Role → Site → Site
site_of role.Ensures s = site.Ensures
site_of role.Requires s = s
site_of role.Assumes s = s
site_of role.Invariant s = s

abbrev pub claim_typed : Around → Count → Role → Pred → Answer (o.Said × Count)
claim_typed c n r p = after (typed_pred (at_site (site_of r c.site) c) no_names current n p) (λ x. Ok (o.claims r x.0, x.1))

-- ---- what has to decrease, an integer

abbrev pub integer_typed : Around → Count → Term → Answer (Tree × Count)
integer_typed c n a = after (typed c no_names current n a) (λ x. closed n.limit n.limit x.1 (passed (term_line_of a) type.Integer x.0))

abbrev pub measure_typed : Around → Count → Term → Answer (o.Said × Count)
measure_typed c n a = after (integer_typed c n a) (λ x. Ok (o.decreases x.0, x.1))

-- ---- what may be assigned

abbrev pub entry_typed : Around → Count → Term → Answer (Tree × Count)
entry_typed c n a = entry c no_names current n a

abbrev pub entries_typed : Around → Count → List Term → Answer (List Tree × Count)
entries_typed c n ts = each (entry_typed c) n ts

abbrev pub or_none : Option (List Term) → List Term
or_none None = []
or_none (Some ts) = ts

abbrev pub assigns_typed : Around → Count → Option (List Term) → Answer (o.Said × Count)
assigns_typed c n set = after (entries_typed c n (or_none set)) (λ x. Ok (o.assigns x.0, x.1))

-- ---- behaviors, each with its number by its name

-- a name that a behavior before has is a fault
abbrev pub behavior_named : Names ℕ → Behavior → Answer (o.Said × Names ℕ)
behavior_named bs b = if is_free bs b.name then Ok (o.begins (length bs), declared bs b.name (length bs)) else unknown b.line

abbrev pub number_of : (line : ℕ) → Option ℕ → Answer ℕ
number_of line (Some k) = Ok k
number_of line None = unknown line

abbrev pub numbers_of : Names ℕ → (line : ℕ) → List (List ℕ) → Answer (List ℕ)
numbers_of bs line [] = Ok []
numbers_of bs line (x ∷ xs) = after (number_of line (meaning_of bs x)) (λ k. after (numbers_of bs line xs) (λ ks. Ok (k ∷ ks)))

-- these numbers, and those to come
abbrev pub numbers_onto : List ℕ → Answer (List ℕ) → Answer (List ℕ)
numbers_onto ks a = after a (λ js. Ok (ks ++ js))

-- ---- clauses

abbrev pub clause_of : (line : ℕ) → o.Said → o.TypedClause
clause_of line s = record { said = s; line = line }

abbrev pub counted_by : Names ℕ → (line : ℕ) → Answer (o.Said × Count) → Answer (o.TypedClause × Known)
counted_by bs line a = after a (λ x. Ok (clause_of line x.0, record { behaviors = bs; count = x.1 }))

-- what is said of names has no node, so its fault stands between the nodes before and those behind
abbrev pub uncounted : {Y : Type 0} → Count → Answer Y → Answer Y
uncounted n a = ended n.limit n.limit n.limit a

abbrev pub behavior_begins : Known → Behavior → Answer (o.Said × Names ℕ)
behavior_begins k b = uncounted k.count (behavior_named k.behaviors b)

abbrev pub behavior_typed : Known → Behavior → Answer (o.TypedClause × Known)
behavior_typed k b = after (behavior_begins k b) (λ x. Ok (clause_of b.line x.0, record { behaviors = x.1; count = k.count }))

abbrev pub together_numbers : Known → Named → Answer (List ℕ)
together_numbers k n = uncounted k.count (numbers_of k.behaviors n.line n.names)

abbrev pub together_typed : Known → Group → Named → Answer o.TypedClause
together_typed k g n = after (together_numbers k n) (λ x. Ok (clause_of n.line (o.together g x)))

unfoldable pub clause_typed : Around → Known → i.Item → Answer (o.TypedClause × Known)
clause_typed c k (i.claim r x) = counted_by k.behaviors x.line (claim_typed c k.count r x.pred)
clause_typed c k (i.measure m) = counted_by k.behaviors m.line (measure_typed c k.count m.term)
clause_typed c k (i.assigns a) = counted_by k.behaviors a.line (assigns_typed c k.count a.set)
clause_typed c k (i.behavior b) = behavior_typed k b
clause_typed c k (i.together g n) = after (together_typed k g n) (λ x. Ok (x, k))

abbrev pub clauses_typed : Around → Known → List i.Item → Answer (List o.TypedClause × Known)
clauses_typed c k xs = each (clause_typed c) k xs

-- ---- annotations whole

abbrev pub known_at_start : Known
known_at_start = record { behaviors = []; count = at_start }

-- all of them, where they have no more nodes than the limit
abbrev pub items_typed : Around → List i.Item → Answer (List o.TypedClause)
items_typed c xs = after (clauses_typed c known_at_start xs) (λ ys. after (within ys.1.count.limit) (λ _. Ok ys.0))

unfoldable pub contract_typed : Around → Contract → Answer (List o.TypedClause)
contract_typed c k = items_typed c (i.contract_items k)

unfoldable pub loop_typed : Around → LoopAnnot → Answer (List o.TypedClause)
loop_typed c l = items_typed c (i.loop_items l)

unfoldable pub assertion_typed : Around → Pred → Answer Tree
assertion_typed c p = after (typed_pred c no_names current at_start p) (λ x. after (within x.1.limit) (λ _. Ok x.0))
