-- What typing makes of clauses and of the annotations of a body is well formed.
use Rattle.std.proofs.Common.{ℕ, true, length, List, [], ◌∷◌, ◌++◌, Option, Some, None, Ok, slice_get, refl}
use Rattle.c_answers.specs.Answers.{Answer, unknown}
use Rattle.c_syntax.specs.declared.annot.Names.{Names as Named}
use Rattle.c_syntax.specs.Term.{Term}
use Rattle.c_syntax.specs.Pred.{Pred}
use Rattle.c_syntax.specs.Contract.{Behavior, Contract, LoopAnnot}
use Rattle.c_syntax.specs.Lines.{term_line_of}
use Rattle.c_scopes.specs.declared.symbols.Object.{Object}
use Rattle.typed_unit.specs.Stmt as s
use Rattle.name_table.specs.Names.{Names as Table, is_free, declared}
use Rattle.acsl_trees.specs.declared.operands.TermType.TheVariants as type
use Rattle.acsl_trees.specs.Tree.{Tree}
use Rattle.acsl_rules.specs.Contexts.{passed}
use Rattle.acsl_rules.specs.Laws.{Holds}
use Rattle.acsl_names.specs.declared.names.Site.{Site}
use Rattle.acsl_names.specs.declared.counting.Count.{Count}
use Rattle.acsl_names.specs.Names.{Around, at_site}
use Rattle.acsl_names.specs.Labels.{current}
use Rattle.acsl_names.specs.Counting.{within}
use Rattle.acsl_terms.specs.Terms.{typed}
use Rattle.acsl_preds.specs.Preds.{typed_pred}
use Rattle.acsl_clauses.specs.declared.items.Role.{Role}
use Rattle.acsl_clauses.specs.declared.items.Group.{Group}
use Rattle.acsl_clauses.specs.Each.{each}
use Rattle.acsl_clauses.specs.Items as i
use Rattle.acsl_clauses.specs.Typed as o
use Rattle.acsl_clauses.specs.Clauses.{no_names, at_start, site_of, claim_typed, integer_typed, measure_typed, entry_typed, entries_typed, or_none, assigns_typed, counted_by, behavior_named, behavior_begins, behavior_typed, together_numbers, together_typed, clause_typed, clauses_typed, known_at_start, items_typed, contract_typed, loop_typed, assertion_typed}
use Rattle.acsl_notes.specs.Notes.{of_loop, assertion, Enclosing, Noted, opened, with_object, with_locals, around_at, with_loop, with_assertion, noted, all_noted, at_start as noted_at_start, body_noted}
use Rattle.c_runs.specs.TruthLaws.{Signatures}
use Rattle.acsl_same_meaning.specs.Trees.{Signed, MayLabel}
use Rattle.acsl_well_typed.specs.Clauses.{All, ItemBinds}
use Rattle.acsl_well_typed.specs.Files.{StmtBinds, StmtsBind}
use Rattle.acsl_well_typed.specs.Ranges.{AreNumbered, EachBinds}
use Rattle.acsl_same_meaning.specs.Laws.{IsWellFormed, SaidFits, ClauseFits, NoteFits}
use Rattle.acsl_same_meaning.proofs.Answers.{after_holds, after_any, if_holds, ended_holds, closed_holds, Of}
use Rattle.acsl_same_meaning.proofs.Operators.{IsGood}
use Rattle.acsl_same_meaning.proofs.Objects.{passed_fits}
use Rattle.acsl_same_meaning.proofs.Terms.{typed_any}
use Rattle.acsl_same_meaning.proofs.Places.{entry_fits}
use Rattle.acsl_same_meaning.proofs.Truths.{pred_fits}
use Rattle.acsl_same_meaning.proofs.Bodies.{AllStand}

-- the type of this
abbrev of_which : {X : Type 0} → X → Type 0
of_which {X = X} x = X

-- what is known between two clauses
abbrev State : Type 0
State = of_which known_at_start

-- whatever state each item leaves
each_holds : {S X Y : Type 0} (B : X → Type 0) (P : Y → Type 0) (f : S → X → Answer (Y × S)) (s : S) (xs : List X) → All B xs
    → ((s : S) (x : X) → B x → Holds (λ y. P y.0) (f s x))
    → Holds (λ ys. All P ys.0) (each f s xs)
each_holds B P f s [] are go = tt
each_holds B P f s (x ∷ xs) are go =
    after_holds (λ y. P y.0) (λ ys. All P ys.0) (f s x) _ (go s x are.0)
    (λ y fy. after_holds (λ ys. All P ys.0) (λ ys. All P ys.0) (each f y.1 xs) _ (each_holds B P f y.1 xs are.1 go) (λ ys fys. (fy, fys)))

-- of anything
abbrev Any : {X : Type 0} → X → Type 0
Any x = Unit {0}

all_any : {X : Type 0} (xs : List X) → All Any xs
all_any [] = tt
all_any (x ∷ xs) = (tt, all_any xs)

labels : (a : Site) → MayLabel true a
labels a = record { old = λ x is. refl; named = λ name x is. refl }

nothing_bound : AreNumbered no_names
nothing_bound x k is = absurd cc

module _ (stand : AllStand) (q : Signatures) (c : Around) (sig : Signed q c.definitions.items) where
  abbrev G : Tree → Type 0
  G = IsWellFormed q

  pred_is : (a : Site) (n : Count) (p : Pred) → EachBinds p → Holds (Of G) (typed_pred (at_site a c) no_names current n p)
  pred_is a n p binds = pred_fits true q (at_site a c) sig (labels a) (stand true q (at_site a c) sig (labels a)) no_names current n p nothing_bound binds

  claim_fits : (n : Count) (r : Role) (p : Pred) → EachBinds p → Holds (Of (SaidFits q)) (claim_typed c n r p)
  claim_fits n r p binds =
      after_holds (Of G) (Of (SaidFits q)) (typed_pred (at_site (site_of r c.site) c) no_names current n p) _ (pred_is (site_of r c.site) n p binds) (λ x f. f)

  integer_fits : (n : Count) (a : Term) → Holds (Of G) (integer_typed c n a)
  integer_fits n a =
      after_holds (Of (IsGood true true q 0)) (Of G) (typed c no_names current n a) _ (typed_any true q c no_names sig (labels c.site) true current n a)
      (λ x f. closed_holds G n.limit n.limit x.1 (passed (term_line_of a) type.Integer x.0) (passed_fits true true q 0 (term_line_of a) type.Integer x.0 f))

  measure_fits : (n : Count) (a : Term) → Holds (Of (SaidFits q)) (measure_typed c n a)
  measure_fits n a = after_holds (Of G) (Of (SaidFits q)) (integer_typed c n a) _ (integer_fits n a) (λ x f. f)

  assigns_fit : (n : Count) (set : Option (List Term)) → Holds (Of (SaidFits q)) (assigns_typed c n set)
  assigns_fit n set =
      after_holds (Of (All G)) (Of (SaidFits q)) (entries_typed c n (or_none set)) _
      (each_holds Any G (entry_typed c) n (or_none set) (all_any (or_none set))
      (λ m a any. entry_fits true true q c no_names sig (labels c.site) current m a)) (λ x f. f)

  counted_fits : (bs : Table ℕ) (line : ℕ) (a : Answer (o.Said × Count)) → Holds (Of (SaidFits q)) a → Holds (λ x. ClauseFits q x.0) (counted_by bs line a)
  counted_fits bs line a f = after_holds (Of (SaidFits q)) (λ x. ClauseFits q x.0) a _ f (λ x f. f)

  abbrev NamedFits : o.Said × Table ℕ → Type 0
  NamedFits x = SaidFits q x.0

  behavior_fits : (k : State) (b : Behavior) → Holds (λ x. ClauseFits q x.0) (behavior_typed k b)
  behavior_fits k b =
      after_holds NamedFits (λ x. ClauseFits q x.0) (behavior_begins k b) _
      (ended_holds NamedFits k.count.limit k.count.limit k.count.limit (behavior_named k.behaviors b)
      (if_holds NamedFits (is_free k.behaviors b.name) (Ok (o.begins (length k.behaviors), declared k.behaviors b.name (length k.behaviors)))
      (unknown b.line) tt tt)) (λ x f. f)

  together_fits : (k : State) (g : Group) (n : Named) → Holds (ClauseFits q) (together_typed k g n)
  together_fits k g n = after_any (ClauseFits q) (together_numbers k n) _ (λ x. tt)

  clause_fits : (k : State) (x : i.Item) → ItemBinds x → Holds (λ y. ClauseFits q y.0) (clause_typed c k x)
  unfolding clause_typed
  clause_fits k (i.claim r x) binds = counted_fits k.behaviors x.line (claim_typed c k.count r x.pred) (claim_fits k.count r x.pred binds)
  clause_fits k (i.measure m) binds = counted_fits k.behaviors m.line (measure_typed c k.count m.term) (measure_fits k.count m.term)
  clause_fits k (i.assigns a) binds = counted_fits k.behaviors a.line (assigns_typed c k.count a.set) (assigns_fit k.count a.set)
  clause_fits k (i.behavior b) binds = behavior_fits k b
  clause_fits k (i.together g n) binds = after_holds (ClauseFits q) (λ y. ClauseFits q y.0) (together_typed k g n) _ (together_fits k g n) (λ x f. f)

  items_fit : (xs : List i.Item) → All ItemBinds xs → Holds (All (ClauseFits q)) (items_typed c xs)
  items_fit xs bind =
      after_holds (λ ys. All (ClauseFits q) ys.0) (All (ClauseFits q)) (clauses_typed c known_at_start xs) _
      (each_holds ItemBinds (ClauseFits q) (clause_typed c) known_at_start xs bind clause_fits)
      (λ ys f. after_any (All (ClauseFits q)) (within ys.1.count.limit) _ (λ u. f))

  pub contract_fits : (k : Contract) → All ItemBinds (i.contract_items k) → Holds (All (ClauseFits q)) (contract_typed c k)
  unfolding contract_typed
  contract_fits k bind = items_fit (i.contract_items k) bind

  loop_fits : (a : LoopAnnot) → All ItemBinds (i.loop_items a) → Holds (All (ClauseFits q)) (loop_typed c a)
  unfolding loop_typed
  loop_fits a bind = items_fit (i.loop_items a) bind

  assertion_fits : (p : Pred) → EachBinds p → Holds G (assertion_typed c p)
  unfolding assertion_typed
  assertion_fits p binds =
      after_holds (Of G) G (typed_pred c no_names current at_start p) _
      (pred_fits true q c sig (labels c.site) (stand true q c sig (labels c.site)) no_names current at_start p nothing_bound binds)
      (λ x f. after_any G (within x.1.limit) _ (λ u. f))

-- ---- the annotations of a body

pub both_all : {X : Type 0} (P : X → Type 0) (xs ys : List X) → All P xs → All P ys → All P (xs ++ ys)
both_all P [] ys f g = g
both_all P (x ∷ xs) ys f g = (f.0, both_all P xs ys f.1 g)

module _ (stand : AllStand) (q : Signatures) (e : Enclosing) (sig : Signed q e.definitions.items) where
  abbrev AreNotes : Noted → Type 0
  AreNotes j = All (NoteFits q) j.notes

  object_keeps : (j : Noted) (k : ℕ) (x : Option Object) → AreNotes j → AreNotes (with_object j k x)
  object_keeps j k (Some x) f = f
  object_keeps j k None f = f

  locals_keep : (os : List Object) (j : Noted) (ds : List s.Declared) → AreNotes j → AreNotes (with_locals os j ds)
  locals_keep os j [] f = f
  locals_keep os j (d ∷ ds) f = locals_keep os (with_object j d.local (slice_get os d.local)) ds (object_keeps j d.local (slice_get os d.local) f)

  loop_keeps : (j : Noted) (x : LoopAnnot) → All ItemBinds (i.loop_items x) → AreNotes j → Holds AreNotes (with_loop e j x)
  loop_keeps j x bind f =
      after_holds (All (ClauseFits q)) AreNotes (loop_typed (around_at e j.blocks (Some j.declared)) x) _
      (loop_fits stand q (around_at e j.blocks (Some j.declared)) sig x bind)
      (λ cs fcs. both_all (NoteFits q) j.notes (of_loop cs ∷ []) f (fcs, tt))

  assertion_keeps : (k : Option ℕ) (j : Noted) (p : Pred) → EachBinds p → AreNotes j → Holds AreNotes (with_assertion e k j p)
  assertion_keeps k j p binds f =
      after_holds (IsWellFormed q) AreNotes (assertion_typed (around_at e j.blocks k) p) _ (assertion_fits stand q (around_at e j.blocks k) sig p binds)
      (λ t ft. both_all (NoteFits q) j.notes (assertion t ∷ []) f (ft, tt))

  mutual
    noted_keeps : (k : Option ℕ) (j : Noted) (x : s.Stmt) → StmtBinds x → AreNotes j → Holds AreNotes (noted e k j x)
    noted_keeps k j (s.empty line) bind f = f
    noted_keeps k j (s.expr line v) bind f = f
    noted_keeps k j (s.block line body) bind f =
        after_holds AreNotes AreNotes (all_noted e k (opened j) body) _ (all_keep k (opened j) body bind f) (λ q fq. fq)
    noted_keeps k j (s.locals line vars) bind f = locals_keep e.within.objects j vars f
    noted_keeps k j (s.if_else line test x y) bind f =
        after_holds AreNotes AreNotes (noted e k j x) _ (noted_keeps k j x bind.0 f) (λ q fq. noted_keeps k q y bind.1 fq)
    noted_keeps k j (s.loop_of line annot turns body) bind f =
        after_holds AreNotes AreNotes (with_loop e j annot) _ (loop_keeps j annot bind.0 f) (λ q fq. noted_keeps (Some j.declared) q body bind.1 fq)
    noted_keeps k j (s.switch line v body) bind f =
        after_holds AreNotes AreNotes (all_noted e k (opened j) body) _ (all_keep k (opened j) body bind f) (λ q fq. fq)
    noted_keeps k j (s.case_of line z) bind f = f
    noted_keeps k j (s.default line) bind f = f
    noted_keeps k j (s.break line) bind f = f
    noted_keeps k j (s.continue line) bind f = f
    noted_keeps k j (s.return_of line v) bind f = f
    noted_keeps k j (s.assert line p) bind f = assertion_keeps k j p bind f

    all_keep : (k : Option ℕ) (j : Noted) (xs : s.Stmts) → StmtsBind xs → AreNotes j → Holds AreNotes (all_noted e k j xs)
    all_keep k j s.stop bind f = f
    all_keep k j (s.more x xs) bind f = after_holds AreNotes AreNotes (noted e k j x) _ (noted_keeps k j x bind.0 f) (λ q fq. all_keep k q xs bind.1 fq)

  pub body_fits : (bs : List (Table ℕ)) (x : s.Stmt) → StmtBinds x → Holds (All (NoteFits q)) (body_noted e bs x)
  unfolding body_noted
  body_fits bs x bind =
      after_holds AreNotes (All (NoteFits q)) (noted e None (noted_at_start bs e.within.params) x) _
      (noted_keeps None (noted_at_start bs e.within.params) x bind tt) (λ j f. f)
