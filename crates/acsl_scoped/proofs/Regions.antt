-- Entries of `assigns` are regions whose variables are in scope, and so are those of a loop's clauses.
use Rattle.std.proofs.Common.{◌≡◌, ℕ, Bool, true, false, List, [], ◌∷◌, Option, Some, None, Ok, Err, refl}
use Rattle.c_syntax.specs.Term as t
use Rattle.c_syntax.specs.Lines.{term_line_of}
use Rattle.c_answers.specs.Answers.{Answer, unknown}
use Rattle.typed_prog.specs.declared.types.CoreType.{CoreType}
use Rattle.typed_prog.specs.Types.{element_of}
use Rattle.name_table.specs.Names.{Names, is_free}
use Rattle.acsl_trees.specs.declared.heads.Content.{Content}
use Rattle.acsl_trees.specs.declared.operands.Sort.{Sort}
use Rattle.acsl_trees.specs.declared.operands.Sort.TheVariants as sort
use Rattle.acsl_trees.specs.Tree.{Tree}
use Rattle.acsl_trees.specs.Operands.{Operand}
use Rattle.acsl_rules.specs.Sorts.{content}
use Rattle.acsl_rules.specs.Laws.{Holds}
use Rattle.acsl_names.specs.declared.names.Bound.{Bound}
use Rattle.acsl_names.specs.declared.names.Reading.{Reading}
use Rattle.acsl_names.specs.declared.counting.Limit.{Limit}
use Rattle.acsl_names.specs.declared.counting.Count.{Count}
use Rattle.acsl_names.specs.Names.{Around, at_site}
use Rattle.acsl_names.specs.Labels.{current}
use Rattle.acsl_names.specs.Counting.{with_node, ended, within}
use Rattle.acsl_terms.specs.Leaves.{misshapen}
use Rattle.acsl_terms.specs.Steps.{local_of}
use Rattle.acsl_terms.specs.Terms.{typed}
use Rattle.acsl_places.specs.Spans.{Ranged, indexed_range, starred_range}
use Rattle.acsl_places.specs.Places.{ends_typed, reach, range_typed, entry_by, is_own_parameter, region_with, whole_array, region_by, entry_region, entry}
use Rattle.acsl_preds.specs.Preds.{typed_pred}
use Rattle.acsl_clauses.specs.Items as i
use Rattle.acsl_clauses.specs.Typed.{Said, TypedClause}
use Rattle.acsl_clauses.specs.Clauses.{no_names, site_of, claim_typed, integer_typed, measure_typed, or_none, entries_typed, assigns_typed, behavior_named, behavior_begins, counted_by, together_numbers, together_typed, clause_typed, clauses_typed, known_at_start, items_typed, loop_typed}
use Rattle.acsl_scoped.specs.Scoped.{IsPlace, elements, IsRegion, AreRegions}
use Rattle.acsl_scoped.specs.Laws.{SaidIsScoped, AreScoped, NamesNoLocals, LoopsAreScoped}
use Rattle.acsl_scoped.proofs.Values.{after_any, after_holds, if_holds, is_here, elements_here, behind_here}
use Rattle.acsl_scoped.proofs.Terms.{Of, closed_holds, Place, typed_here}

-- what a function takes
abbrev domain_of : {X Y : Type 0} → (X → Y) → Type 0
domain_of {X = X} f = X

module _ (c : Around) (none : NamesNoLocals c) where
  -- what is known before a clause
  abbrev Known : Type 0
  Known = domain_of (clause_typed c)

  -- ---- entries

  reach_here : (b : Bound) (is_index : Bool) (g : Ranged) (x low high : Operand) → Holds (Place c none b) (reach c is_index g x low high)
  reach_here b true g x low high = elements_here c.blocks c.sizes g.line (term_line_of g.span.low) (term_line_of g.span.high) x low high
  reach_here b false g x low high = behind_here c.blocks c.sizes g.line (term_line_of g.span.low) (term_line_of g.span.high) x low high

  range_here : (b : Bound) (r : Reading) (n : Count) (is_index : Bool) (g : Ranged) → Holds (Of (Place c none b)) (range_typed c b r n is_index g)
  range_here b r n is_index g =
      after_any (Of (Place c none b)) (typed c b r n g.base) _ (λ x. after_any (Of (Place c none b)) (ends_typed c b r (with_node g.line x.1) g.span) _ (λ s.
      closed_holds (Place c none b) x.1.limit (with_node g.line x.1).limit s.1 (reach c is_index g x.0 s.0.0 s.0.1) (reach_here b is_index g x.0 s.0.0 s.0.1)))

  entry_by_here : (b : Bound) (r : Reading) (n : Count) (a : t.Term) (indexed starred : Option Ranged) → Holds (Of (Place c none b)) (entry_by c b r n a indexed starred)
  entry_by_here b r n a (Some g) starred = range_here b r n true g
  entry_by_here b r n a None (Some g) = range_here b r (with_node (term_line_of a) n) false g
  entry_by_here b r n a None None = typed_here c none b r n a

  with_is : (line : ℕ) (u : Tree) (k : Option Content) → IsPlace c.blocks u → Holds (IsRegion c.blocks) (region_with line u k)
  with_is line u (Some k) h = record { content = k; place = u; is = refl; fits = h }
  with_is line u None h = tt

  region_is : (line : ℕ) (type : CoreType) (u : Tree) (n : Option ℕ) → IsPlace c.blocks u → Holds (IsRegion c.blocks) (region_by c line type u n)
  region_is line type u (Some n) h = with_is line (whole_array c type u n) (content (element_of type)) elements
  region_is line type u None h = with_is line u (content type) h

  entry_is : (line : ℕ) (u : Tree) (s : Sort) → (is_here s ≡ true → IsPlace c.blocks u) → Holds (IsRegion c.blocks) (entry_region c line u s)
  entry_is line u (sort.Object type None) h =
      if_holds (IsRegion c.blocks) (is_own_parameter c (local_of u)) (misshapen line) (region_by c line type u type.count) tt (region_is line type u type.count (h refl))
  entry_is line u (sort.Object type (Some l)) h = tt
  entry_is line u (sort.Integer known) h = tt
  entry_is line u (sort.Pointer type null) h = tt
  entry_is line u sort.Unknown h = tt

  pub entry_scoped : (b : Bound) (r : Reading) (n : Count) (a : t.Term) → Holds (Of (IsRegion c.blocks)) (entry c b r n a)
  unfolding entry
  entry_scoped b r n a =
      after_holds (Of (Place c none b)) (Of (IsRegion c.blocks)) (entry_by c b r n a (indexed_range a) (starred_range a)) _ (entry_by_here b r n a (indexed_range a) (starred_range a))
      (λ x h. closed_holds (IsRegion c.blocks) n.limit n.limit x.1 (entry_region c (term_line_of a) x.0.tree x.0.sort) (entry_is (term_line_of a) x.0.tree x.0.sort h))

  -- ---- clauses

  entries_are : (n : Count) (ts : List t.Term) → Holds (Of (AreRegions c.blocks)) (entries_typed c n ts)
  entries_are n [] = tt
  entries_are n (a ∷ ts) =
      after_holds (Of (IsRegion c.blocks)) (Of (AreRegions c.blocks)) (entry c no_names current n a) _ (entry_scoped no_names current n a) (λ y h.
      after_holds (Of (AreRegions c.blocks)) (Of (AreRegions c.blocks)) (entries_typed c y.1 ts) _ (entries_are y.1 ts) (λ ys hs. (h, hs)))

  abbrev Scoped : Said → Type 0
  Scoped x = SaidIsScoped c.blocks x

  abbrev ClauseIs : TypedClause × Known → Type 0
  ClauseIs r = Scoped r.0.said

  counted_is : (bs : Names ℕ) (line : ℕ) (o : Answer (Said × Count)) → Holds (Of Scoped) o → Holds ClauseIs (counted_by bs line o)
  counted_is bs line o h = after_holds (Of Scoped) ClauseIs o _ h (λ x k. k)

  assigns_are : (n : Count) (o : Option (List t.Term)) → Holds (Of Scoped) (assigns_typed c n o)
  assigns_are n o = after_holds (Of (AreRegions c.blocks)) (Of Scoped) (entries_typed c n (or_none o)) _ (entries_are n (or_none o)) (λ x h. h)

  ended_is : (before at behind : Limit) (o : Answer (Said × Names ℕ)) → Holds (λ r. Scoped r.0) o → Holds (λ r. Scoped r.0) (ended before at behind o)
  unfolding ended
  ended_is before at behind (Ok y) h = h
  ended_is before at behind (Err r) h = tt

  clause_is : (k : Known) (x : i.Item) → Holds ClauseIs (clause_typed c k x)
  unfolding clause_typed
  clause_is k (i.claim r x) = counted_is k.behaviors x.line (claim_typed c k.count r x.pred) (after_any (Of Scoped) (typed_pred (at_site (site_of r c.site) c) no_names current k.count x.pred) _ (λ u. tt))
  clause_is k (i.measure m) = counted_is k.behaviors m.line (measure_typed c k.count m.term) (after_any (Of Scoped) (integer_typed c k.count m.term) _ (λ u. tt))
  clause_is k (i.assigns a) = counted_is k.behaviors a.line (assigns_typed c k.count a.set) (assigns_are k.count a.set)
  clause_is k (i.behavior b) =
      after_holds (λ (r : Said × Names ℕ). Scoped r.0) ClauseIs (behavior_begins k b) _
      (ended_is k.count.limit k.count.limit k.count.limit (behavior_named k.behaviors b) (if_holds (λ (r : Said × Names ℕ). Scoped r.0) (is_free k.behaviors b.name) _ (unknown b.line) tt tt)) (λ x h. h)
  clause_is k (i.together g n) =
      after_holds (λ (x : TypedClause). Scoped x.said) ClauseIs (together_typed k g n) _ (after_any (λ (x : TypedClause). Scoped x.said) (together_numbers k n) _ (λ u. tt)) (λ x h. h)

  abbrev ClausesAre : List TypedClause × Known → Type 0
  ClausesAre r = AreScoped c.blocks r.0

  clauses_are : (k : Known) (xs : List i.Item) → Holds ClausesAre (clauses_typed c k xs)
  clauses_are k [] = tt
  clauses_are k (x ∷ xs) =
      after_holds ClauseIs ClausesAre (clause_typed c k x) _ (clause_is k x) (λ y h. after_holds ClausesAre ClausesAre (clauses_typed c y.1 xs) _ (clauses_are y.1 xs) (λ ys hs. (h, hs)))

  items_are : (xs : List i.Item) → Holds (AreScoped c.blocks) (items_typed c xs)
  items_are xs =
      after_holds ClausesAre (AreScoped c.blocks) (clauses_typed c known_at_start xs) _ (clauses_are known_at_start xs) (λ ys h. after_any (AreScoped c.blocks) (within ys.1.count.limit) _ (λ u. h))

pub loops_are_scoped : LoopsAreScoped
unfolding loop_typed
loops_are_scoped c a none = items_are c none (i.loop_items a)
