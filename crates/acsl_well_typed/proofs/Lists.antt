-- What typing makes of clauses and of assertions is in order.
use Rattle.std.proofs.Common.{◌≡◌, ℕ, Bool, true, false, if◌then◌else◌, length, List, [], ◌∷◌, Option, Some, Ok, refl, ap, sym, ◌∙◌}
use Rattle.c_answers.specs.Answers.{Answer, unknown}
use Rattle.c_syntax.specs.declared.annot.Names.{Names as Named}
use Rattle.c_syntax.specs.Term.{Term}
use Rattle.c_syntax.specs.Pred.{Pred}
use Rattle.c_syntax.specs.Contract.{Behavior, Contract, LoopAnnot}
use Rattle.c_syntax.specs.Lines.{term_line_of}
use Rattle.name_table.specs.Names.{Names as Table, is_free, declared}
use Rattle.acsl_trees.specs.declared.operands.TermType.TheVariants as type
use Rattle.acsl_trees.specs.Tree.{Tree}
use Rattle.acsl_rules.specs.Contexts.{passed}
use Rattle.acsl_rules.specs.Laws.{Fits, Holds}
use Rattle.acsl_names.specs.declared.counting.Count.{Count}
use Rattle.acsl_names.specs.Names.{Around, at_site}
use Rattle.acsl_names.specs.Labels.{current}
use Rattle.acsl_names.specs.Counting.{within}
use Rattle.acsl_terms.specs.Terms.{typed}
use Rattle.acsl_preds.specs.Preds.{typed_pred}
use Rattle.acsl_clauses.specs.declared.items.Role.{Role}
use Rattle.acsl_clauses.specs.declared.items.Group.{Group}
use Rattle.acsl_clauses.specs.Each.{each}
use Rattle.acsl_clauses.specs.Items as i
use Rattle.acsl_clauses.specs.Typed as o
use Rattle.acsl_clauses.specs.Clauses.{no_names, at_start, site_of, claim_typed, integer_typed, measure_typed, entry_typed, entries_typed, or_none, assigns_typed, counted_by, behavior_named, behavior_begins, behavior_typed, together_numbers, together_typed, clause_typed, clauses_typed, known_at_start, items_typed, contract_typed, loop_typed, assertion_typed}
use Rattle.acsl_well_typed.specs.WellTyped.{an_integer, a_region, Known}
use Rattle.acsl_well_typed.specs.Terms.{HaveTypes, known_at, Gives}
use Rattle.acsl_well_typed.specs.Ranges.{AreNumbered, EachBinds}
use Rattle.acsl_well_typed.specs.Clauses.{All, SaidFits, ClausesFit, ItemBinds, ContractBinds, LoopBinds, ClausesAreWellTyped}
use Rattle.acsl_well_typed.proofs.Answers.{after_holds, after_any, holds_all, ended_holds, closed_holds, Of}
use Rattle.acsl_well_typed.proofs.Making.{given}
use Rattle.acsl_well_typed.proofs.Finding.{all_fine}
use Rattle.acsl_well_typed.proofs.Terms.{typed_any, IsOfType, passed_is}
use Rattle.acsl_well_typed.proofs.Regions.{entry_fits}
use Rattle.acsl_well_typed.proofs.Judging.{pred_fits}

-- the type of this
abbrev pub of_which : {X : Type 0} → X → Type 0
of_which {X = X} x = X

-- what is known between two clauses
abbrev pub State : Type 0
State = of_which known_at_start

-- whatever state each item leaves
pub each_holds : {S X Y : Type 0} (P : Y → Type 0) (f : S → X → Answer (Y × S)) (s : S) (xs : List X) → ((s : S) (x : X) → Holds (λ y. P y.0) (f s x))
    → Holds (λ ys. All P ys.0) (each f s xs)
each_holds P f s [] go = tt
each_holds P f s (x ∷ xs) go =
    after_holds (λ y. P y.0) (λ ys. All P ys.0) (f s x) _ (go s x) (λ y fy. after_holds (λ ys. All P ys.0) (λ ys. All P ys.0) (each f y.1 xs) _
    (each_holds P f y.1 xs go) (λ ys fys. (fy, fys)))

-- the same where something is known of each item
pub each_asked : {S X Y : Type 0} (P : Y → Type 0) (Q : X → Type 0) (f : S → X → Answer (Y × S)) (s : S) (xs : List X)
    → ((s : S) (x : X) → Q x → Holds (λ y. P y.0) (f s x)) → All Q xs
    → Holds (λ ys. All P ys.0) (each f s xs)
each_asked P Q f s [] go asked = tt
each_asked P Q f s (x ∷ xs) go asked =
    after_holds (λ y. P y.0) (λ ys. All P ys.0) (f s x) _ (go s x asked.0)
    (λ y fy. after_holds (λ ys. All P ys.0) (λ ys. All P ys.0) (each f y.1 xs) _ (each_asked P Q f y.1 xs go asked.1) (λ ys fys. (fy, fys)))

pub all_asked : {X : Type 0} (P : X → Type 0) (z : Bool) (xs : List X) → (z ≡ true → All P xs) → All (λ x. z ≡ true → P x) xs
all_asked P z [] f = tt
all_asked P z (x ∷ xs) f = (λ h. (f h).0, all_asked P z xs (λ h. (f h).1))

pub none_numbered : AreNumbered no_names
none_numbered x i h = absurd cc

module _ (z : Bool) (c : Around) (have : HaveTypes c.definitions.items) where
  abbrev pub k : Known
  k = known_at z c

  abbrev pub IsInteger : Tree → Type 0
  IsInteger t = Gives k [] an_integer t

  abbrev pub ClauseFits : o.TypedClause → Type 0
  ClauseFits x = SaidFits k x.said

  claim_fits : (n : Count) (r : Role) (p : Pred) → (z ≡ true → EachBinds p) → Holds (Of (SaidFits k)) (claim_typed c n r p)
  claim_fits n r p asked =
      after_holds (Of IsInteger) (Of (SaidFits k)) (typed_pred (at_site (site_of r c.site) c) no_names current n p) _
      (pred_fits z (at_site (site_of r c.site) c) have no_names [] current n p refl (λ h. (none_numbered, asked h))) (λ x f. f)

  as_integer : (t : Tree) → IsOfType z c no_names [] have [] (all_fine c no_names [] refl) type.Integer t → IsInteger t
  as_integer t f = let same : an_integer ≡ f.0 = cc in f.2 ∙ ap (λ w. Some w) (sym same)

  pub integer_fits : (n : Count) (a : Term) → Holds (Of IsInteger) (integer_typed c n a)
  integer_fits n a =
      after_holds (Of (Fits (given k []))) (Of IsInteger) (typed c no_names current n a) _ (typed_any z c no_names [] have refl current n a)
      (λ x f. closed_holds IsInteger n.limit n.limit x.1 (passed (term_line_of a) type.Integer x.0)
      (holds_all (IsOfType z c no_names [] have [] (all_fine c no_names [] refl) type.Integer) IsInteger _ as_integer
      (passed_is z c no_names [] have [] (all_fine c no_names [] refl) (term_line_of a) type.Integer an_integer x.0 refl f)))

  measure_fits : (n : Count) (a : Term) → Holds (Of (SaidFits k)) (measure_typed c n a)
  measure_fits n a = after_holds (Of IsInteger) (Of (SaidFits k)) (integer_typed c n a) _ (integer_fits n a) (λ x f. f)

  assigns_fit : (n : Count) (set : Option (List Term)) → Holds (Of (SaidFits k)) (assigns_typed c n set)
  assigns_fit n set =
      after_holds (Of (All (Gives k [] a_region))) (Of (SaidFits k)) (entries_typed c n (or_none set)) _
      (each_holds (Gives k [] a_region) (entry_typed c) n (or_none set) (λ m a. entry_fits z c no_names [] have refl current m a)) (λ x f. f)

  counted_fits : (bs : Table ℕ) (line : ℕ) (a : Answer (o.Said × Count)) → Holds (Of (SaidFits k)) a → Holds (λ x. ClauseFits x.0) (counted_by bs line a)
  counted_fits bs line a f = after_holds (Of (SaidFits k)) (λ x. ClauseFits x.0) a _ f (λ x f. f)

  abbrev pub NamedFits : o.Said × Table ℕ → Type 0
  NamedFits x = SaidFits k x.0

  named_if : (bs : Table ℕ) (b : Behavior) (free : Bool) → Holds NamedFits
      (if free then Ok (o.begins (length bs), declared bs b.name (length bs)) else unknown b.line)
  named_if bs b true = tt
  named_if bs b false = tt

  behavior_fits : (s : State) (b : Behavior) → Holds (λ x. ClauseFits x.0) (behavior_typed s b)
  behavior_fits s b =
      after_holds NamedFits (λ x. ClauseFits x.0) (behavior_begins s b) _
      (ended_holds NamedFits s.count.limit s.count.limit s.count.limit (behavior_named s.behaviors b) (named_if s.behaviors b (is_free s.behaviors b.name)))
      (λ x f. f)

  together_fits : (s : State) (q : Group) (n : Named) → Holds ClauseFits (together_typed s q n)
  together_fits s q n = after_any ClauseFits (together_numbers s n) _ (λ x. tt)

  clause_fits : (s : State) (x : i.Item) → (z ≡ true → ItemBinds x) → Holds (λ y. ClauseFits y.0) (clause_typed c s x)
  unfolding clause_typed
  clause_fits s (i.claim r x) asked = counted_fits s.behaviors x.line (claim_typed c s.count r x.pred) (claim_fits s.count r x.pred asked)
  clause_fits s (i.measure m) asked = counted_fits s.behaviors m.line (measure_typed c s.count m.term) (measure_fits s.count m.term)
  clause_fits s (i.assigns a) asked = counted_fits s.behaviors a.line (assigns_typed c s.count a.set) (assigns_fit s.count a.set)
  clause_fits s (i.behavior b) asked = behavior_fits s b
  clause_fits s (i.together q n) asked = after_holds ClauseFits (λ y. ClauseFits y.0) (together_typed s q n) _ (together_fits s q n) (λ x f. f)

  items_fit : (xs : List i.Item) → (z ≡ true → All ItemBinds xs) → Holds (ClausesFit k) (items_typed c xs)
  items_fit xs asked =
      after_holds (λ ys. ClausesFit k ys.0) (ClausesFit k) (clauses_typed c known_at_start xs) _
      (each_asked ClauseFits (λ x. z ≡ true → ItemBinds x) (clause_typed c) known_at_start xs clause_fits (all_asked ItemBinds z xs asked))
      (λ ys f. after_any (ClausesFit k) (within ys.1.count.limit) _ (λ u. f))

  pub contract_fits : (q : Contract) → (z ≡ true → ContractBinds q) → Holds (ClausesFit k) (contract_typed c q)
  unfolding contract_typed
  contract_fits q asked = items_fit (i.contract_items q) asked

  pub loop_fits : (a : LoopAnnot) → (z ≡ true → LoopBinds a) → Holds (ClausesFit k) (loop_typed c a)
  unfolding loop_typed
  loop_fits a asked = items_fit (i.loop_items a) asked

  pub assertion_fits : (p : Pred) → (z ≡ true → EachBinds p) → Holds IsInteger (assertion_typed c p)
  unfolding assertion_typed
  assertion_fits p asked =
      after_holds (Of IsInteger) IsInteger (typed_pred c no_names current at_start p) _
      (pred_fits z c have no_names [] current at_start p refl (λ h. (none_numbered, asked h)))
      (λ x f. after_any IsInteger (within x.1.limit) _ (λ u. f))

pub clauses_are_well_typed : ClausesAreWellTyped
clauses_are_well_typed z c have = record { of_contract = contract_fits z c have; of_loop = loop_fits z c have; of_assertion = assertion_fits z c have }
