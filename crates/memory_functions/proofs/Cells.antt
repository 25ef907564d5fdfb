-- What is asked before a cell is written says whether the clauses of the function let it.
use Rattle.std.proofs.Common.{◌≡◌, ◌⊎◌, ℕ, ℤ, pos, Bool, true, false, not, ◌&&◌, ◌||◌, if◌then◌else◌, List, [], ◌∷◌, ◌++◌, map, Option, Some, None, refl, sym, ap, ◌∙◌, subst}
use Rattle.std.specs.List.{list_all}
use Rattle.std.proofs.lemmas.Bool.{false≢true, and_parts}
use Rattle.wp_base.specs.declared.kinds.CellKind.{CellKind}
use Rattle.acsl_trees.specs.Tree as acsl
use Rattle.c_runs.specs.TruthStates as labelled
use Rattle.c_runs.specs.TruthStates.{Value, span_of, is_negative}
use Rattle.acsl_encode.specs.Readings as annotation
use Rattle.acsl_encode.specs.Readings.{Terms, region, nothing}
use Rattle.acsl_encode.specs.Encode as encode
use Rattle.acsl_encode.specs.Told.{those}
use Rattle.acsl_encode.specs.Meaning.{HasAddress, Stands}
use Rattle.qed_terms.specs.Meaning as sense
use Rattle.qed_terms.specs.Meaning.{Values, truth, value}
use Rattle.qed_terms.specs.Tree.{Tree, at_most}
use Rattle.c_runs.specs.Program.{Behavior, Contract, Facts}
use Rattle.c_runs.specs.States.{Memory, Granted}
use Rattle.c_runs.specs.Claims.{holds, is_assumed, at_entry, value_of, regions_of, granted_by, granted_in, lets_cell}
use Rattle.memory_steps.specs.State.{State}
use Rattle.memory_words.specs.Leaves.{is_closed, closed, leaves_of}
use Rattle.memory_words.specs.Shapes.{FileCells, Shape}
use Rattle.memory_words.specs.Readings.{Texts, entry_reading}
use Rattle.memory_words.specs.Seen.{InSetting, CellsFit, EntrySeen}
use Rattle.memory_words.proofs.Worlds.{annotations_read}
use Rattle.memory_words.specs.Regions.{RegionTree, regions_in, region_in, of_kind, has_kind, cell_in, cell_inside}
use Rattle.memory_words.specs.Sets.{since, as_one, clause_trees, all_clause_trees, set_tree, under}
use Rattle.memory_words.specs.Typed.{AllOf, RegionFits, names, has_cells, SetFits}
use Rattle.memory_words.specs.Placed.{all_told}
use Rattle.memory_words.proofs.Valued.{closed_told}
use Rattle.memory_statements.specs.Regions as sets
use Rattle.memory_statements.specs.Regions.{AreRegions, HasCells, set_of}
use Rattle.memory_statements.proofs.StoreSets.{cells_inside}
use Rattle.memory_functions.specs.GoalFunctions.{is_param, behavior_tree}
use Rattle.memory_functions.specs.FunctionFunctions.{BehaviorFits}
use Rattle.memory_functions.proofs.Tests.{any_closed}
use Rattle.memory_functions.proofs.Contracts.{behavior_tells}
use Rattle.memory_functions.proofs.Granting.{and_so, all_append, one_so, stands_at, terms_no_region, variable_hidden, cells_stand}

-- ---- closed formulas

abbrev bounds_closed : RegionTree → Bool
bounds_closed g = is_closed [] g.block && (is_closed [] g.low && is_closed [] g.high)

module _ (b o : Tree) (closed_b : is_closed [] b ≡ true) (closed_o : is_closed [] o ≡ true) where
  cell_closed : (g : RegionTree) → bounds_closed g ≡ true → is_closed [] (cell_in b o g) ≡ true
  cell_closed g h =
      let x = and_parts (is_closed [] g.block) (is_closed [] g.low && is_closed [] g.high) h in
      let y = and_parts (is_closed [] g.low) (is_closed [] g.high) x.1 in
      λ i. (closed_b i && (x.0 i && true)) && ((y.0 i && (closed_o i && true)) && ((closed_o i && (y.1 i && true)) && true))

  those_closed : (k : CellKind) (gs : List RegionTree) → list_all bounds_closed gs ≡ true → list_all (is_closed []) (map (cell_in b o) (of_kind k gs)) ≡ true
  those_closed k [] h = refl
  those_closed k (g ∷ gs) h = let both = and_parts (bounds_closed g) (list_all bounds_closed gs) h in by (has_kind k g) both.0 (those_closed k gs both.1) where
    by : (t : Bool) → bounds_closed g ≡ true → list_all (is_closed []) (map (cell_in b o) (of_kind k gs)) ≡ true
        → list_all (is_closed []) (map (cell_in b o) (if t then g ∷ of_kind k gs else of_kind k gs)) ≡ true
    by true h rest = λ i. cell_closed g h i && rest i
    by false h rest = rest

  inside_closed : (l : ℕ) (k : CellKind) (gs : List RegionTree) → list_all bounds_closed gs ≡ true → is_closed [] (cell_inside (since l) gs k b o) ≡ true
  inside_closed l k gs h =
      any_closed (map (cell_in b o) (of_kind k gs) ++ at_most (since l) b ∷ [])
      (all_append (is_closed []) (map (cell_in b o) (of_kind k gs)) (at_most (since l) b ∷ []) ∙ (λ i. those_closed k gs h i && ((closed_b i && true) && true)))

-- ---- clauses

module _ (m : sense.World) (p : Facts) (s : Shape) (cells : FileCells) (texts : Texts) (params : ℕ) (setting : InSetting m p s cells) (st' st : State)
    (vs : List Value) (mem : Memory) (seen : EntrySeen m p s cells texts 1 (is_param params) (st' ∷ st ∷ []) (at_entry p vs mem)) (n : ℤ)
    (counted : value m (leaves_of (st' ∷ st ∷ [])) (since 1) ≡ n) where
  abbrev w : labelled.World
  w = at_entry p vs mem

  abbrev sts : List State
  sts = st' ∷ st ∷ []

  abbrev env : Values
  env = leaves_of sts

  abbrev r : acsl.Tree → annotation.Reading
  r a = entry_reading p s cells texts 1 (is_param params) a

  abbrev Region : acsl.Tree → Type 0
  Region a = RegionFits m p s r a

  -- the regions of a clause are those of its values
  pub record Regions (as_ : List acsl.Tree) : Type 0 where
    pub closed_so : list_all bounds_closed (regions_in r as_) ≡ true
    pub are : AreRegions (HasCells m env) (regions_in r as_) (regions_of p w as_)

  one_region : (a : acsl.Tree) (as_ : List acsl.Tree) (t : Terms) → t ≡ encode.terms_of (r a) a → (so : list_all bounds_closed (region_in t) ≡ true)
      → (AreRegions (HasCells m env) (regions_in r as_) (regions_of p w as_) → AreRegions (HasCells m env) (region_in t ++ regions_in r as_) (value_of p w a ∷ regions_of p w as_))
      → Regions as_ → Regions (a ∷ as_)
  one_region a as_ t same so more rest = record {
    closed_so = ap (λ t. list_all bounds_closed (region_in t ++ regions_in r as_)) (sym same)
        ∙ all_append bounds_closed (region_in t) (regions_in r as_) ∙ (λ i. so i && rest.closed_so i);
    are = subst (λ t. AreRegions (HasCells m env) (region_in t ++ regions_in r as_) (value_of p w a ∷ regions_of p w as_)) same (more rest.are);
  }

  regions_are : (as_ : List acsl.Tree) → AllOf Region as_ → Regions as_
  regions_are [] fits = record { closed_so = refl; are = sets.no_more }
  regions_are (a ∷ as_) fits = by fits.0 (regions_are as_ fits.1) where
    by : Region a → Regions as_ → Regions (a ∷ as_)
    by (names y c scalar is_plain same) rest =
        one_region a as_ nothing (sym (terms_no_region m p s cells texts params setting st' st vs mem seen n a c y is_plain same)) refl
        (λ are. sets.is_variable (ap (λ a. is_negative (span_of (value_of p w a)).block) same ∙ variable_hidden m p s cells texts params setting st' st vs mem seen n y is_plain) are) rest
    by (has_cells fits address) rest =
        one_region a as_ (region fits.kinds fits.block fits.low fits.high) (sym fits.is) (λ i. (fits.closed_block i && (fits.closed_low i && fits.closed_high i)) && true)
        (λ are. sets.has_cells (fits.means w sts (cells_stand m p s cells texts params setting st' st vs mem seen n a)) are) rest

  module _ (k : CellKind) (b o : Tree) (closed_b : is_closed [] b ≡ true) (closed_o : is_closed [] o ≡ true) (address : HasAddress (value m env b)) where
    abbrev lets : Granted → Bool
    lets g = lets_cell k (value m env b) (value m env o) g

    abbrev inside : List acsl.Tree → Tree
    inside as_ = set_tree p s cells texts (stands_at params) r as_ 1 k b o

    inside_so : (as_ : List acsl.Tree) → AllOf Region as_ → truth m env (inside as_) ≡ lets (record { regions = regions_of p w as_; count = n; declared = 0 })
    inside_so as_ fits =
        cells_inside m env (since 1) (regions_in r as_) (regions_of p w as_) (regions_are as_ fits).are k b o address 0
        ∙ ap (λ n. lets (record { regions = regions_of p w as_; count = n; declared = 0 })) counted

    -- of one behavior
    abbrev granted_of : Behavior → List Granted
    granted_of b = if is_assumed p w b then granted_by p w n 0 b.assigns else []

    abbrev clause : (outer : Bool) → Behavior → Option (List acsl.Tree) → List Tree
    clause outer e as_ = clause_trees p s cells texts (stands_at params) outer e as_ k b o

    abbrev Said : List Tree → List Granted → Type 0
    Said fs gs = (list_all (is_closed []) fs ≡ true) × (all_told m sts fs ≡ list_all lets gs)

    under_so : (outer : Bool) (e : Behavior) → BehaviorFits m p s cells texts params e → (outer ≡ true → is_assumed p w e ≡ true) → (as_ : List acsl.Tree) → AllOf Region as_
        → (is_closed [] (under outer (behavior_tree m p s cells texts params e) (inside as_)) ≡ true)
        × (truth m env (under outer (behavior_tree m p s cells texts params e) (inside as_)) ≡ (not (is_assumed p w e) || lets (record { regions = regions_of p w as_; count = n; declared = 0 })))
    under_so true e fits so as_ ok = (
      inside_closed b o closed_b closed_o 1 k (regions_in r as_) (regions_are as_ ok).closed_so,
      inside_so as_ ok ∙ sym (ap (λ a. not a || lets (record { regions = regions_of p w as_; count = n; declared = 0 })) (so refl)),
    )
    under_so false e fits so as_ ok =
        let h = behavior_tells m p s cells texts params setting st' st w seen e fits in
        let c = inside_closed b o closed_b closed_o 1 k (regions_in r as_) (regions_are as_ ok).closed_so in
        let t = inside_so as_ ok in
        ((λ i. h.closed_so i && (c i && true)), (λ i. not (h.true_so i) || t i))

    clause_so : (outer : Bool) (e : Behavior) → BehaviorFits m p s cells texts params e → (outer ≡ true → is_assumed p w e ≡ true) → Said (clause outer e e.assigns) (granted_of e)
    clause_so outer e fits so = by e.assigns fits.assigns where
      none : (a : Bool) → true ≡ list_all lets (if a then [] else [])
      none true = refl
      none false = refl

      some : (a : Bool) (g : Granted) → (not a || lets g) ≡ list_all lets (if a then g ∷ [] else [])
      some true g = sym (and_so (lets g))
      some false g = refl

      by : (q : Option (List acsl.Tree)) → SetFits m p s r q → Said (clause outer e q) (if is_assumed p w e then granted_by p w n 0 q else [])
      by None ok = (refl, none (is_assumed p w e))
      by (Some as_) ok =
          let h = under_so outer e fits so as_ ok in (
            (λ i. h.0 i && true),
            and_so (truth m env (closed (under outer (behavior_tree m p s cells texts params e) (inside as_))))
                ∙ closed_told m sts (under outer (behavior_tree m p s cells texts params e) (inside as_)) h.0 ∙ h.1
                ∙ some (is_assumed p w e) (record { regions = regions_of p w as_; count = n; declared = 0 }),
          )

    abbrev all_clauses : List Behavior → List Tree
    all_clauses bs = all_clause_trees p s cells texts (stands_at params) bs k b o

    one_more : (outer : Bool) (e : Behavior) (bs : List Behavior) → BehaviorFits m p s cells texts params e → (outer ≡ true → is_assumed p w e ≡ true)
        → Said (all_clauses bs) (granted_in p w n bs) → Said (clause outer e e.assigns ++ all_clauses bs) (granted_in p w n (e ∷ bs))
    one_more outer e bs fits so rest =
        let h = clause_so outer e fits so in (
          all_append (is_closed []) (clause outer e e.assigns) (all_clauses bs) ∙ (λ i. h.0 i && rest.0 i),
          all_append (λ f. truth m env (closed f)) (clause outer e e.assigns) (all_clauses bs) ∙ (λ i. h.1 i && rest.1 i)
              ∙ sym (all_append lets (granted_of e) (granted_in p w n bs)),
        )

    all_so : (bs : List Behavior) → AllOf (BehaviorFits m p s cells texts params) bs → Said (all_clauses bs) (granted_in p w n bs)
    all_so [] fits = (refl, refl)
    all_so (e ∷ bs) fits = one_more false e bs fits.0 (λ t. absurd (false≢true t)) (all_so bs fits.1)

    -- the write of a cell
    pub cells_so : (c : Contract) → BehaviorFits m p s cells texts params c.plain → c.plain.assumes ≡ [] → AllOf (BehaviorFits m p s cells texts params) c.behaviors
        → all_told m sts (as_one (clause true c.plain c.plain.assigns ++ all_clauses c.behaviors)) ≡ list_all lets (granted_in p w n (c.plain ∷ c.behaviors))
    cells_so c fits none behaviors =
        let h = one_more true c.plain c.behaviors fits (λ t. ap (list_all (holds p w)) none) (all_so c.behaviors behaviors) in
        one_so m sts (clause true c.plain c.plain.assigns ++ all_clauses c.behaviors) h.0 ∙ h.1
