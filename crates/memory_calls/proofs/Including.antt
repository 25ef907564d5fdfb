-- One set in another: what is asked of the regions of a set that is taken says whether they lie inside of a set in force.
use Rattle.std.proofs.Common.{◌≡◌, ℕ, ◌+◌, ◌-◌, ℤ, pos, negsuc, Bool, true, false, not, ◌&&◌, ◌||◌, if◌then◌else◌, List, [], ◌∷◌, ◌++◌, map, Option, Some, None, refl, sym, ap, ◌∙◌, subst, arith}
use Rattle.std.specs.Prelude.{nat_lt, nat_le}
use Rattle.std.specs.List.{list_all, list_any}
use Rattle.std.proofs.lemmas.Bool.{false≢true, and_parts, ltb-true, lt-ltb, false_from_ne_true}
use Rattle.wp_base.specs.declared.kinds.CellKind.{CellKind}
use Rattle.typed_prog.specs.declared.operators.Variable as code
use Rattle.typed_prog.specs.declared.operators.Variable.TheVariants as variables
use Rattle.acsl_trees.specs.Tree as acsl
use Rattle.c_runs.specs.TruthStates as labelled
use Rattle.c_runs.specs.TruthStates.{Value, one_address}
use Rattle.c_runs.specs.TruthAllowed.{is_named}
use Rattle.acsl_encode.specs.Readings as annotation
use Rattle.acsl_encode.specs.Meaning.{Stands}
use Rattle.acsl_encode.specs.Encode.{terms_of}
use Rattle.qed_terms.specs.Meaning as sense
use Rattle.qed_terms.specs.Meaning.{value, truth}
use Rattle.qed_terms.specs.Tree.{Tree, at_most}
use Rattle.c_runs.specs.Program.{Facts}
use Rattle.c_runs.specs.States.{Granted, plain_globals, hidden}
use Rattle.c_runs.specs.Claims.{regions_of, value_of}
use Rattle.goal_segments.specs.Sets.{lets_variable, lets_region, region_inside}
use Rattle.typed_memories.proofs.Tests.{on_test, both_so}
use Rattle.memory_steps.specs.State.{State}
use Rattle.memory_words.specs.Leaves.{leaves_of, is_closed, closed}
use Rattle.memory_words.specs.Shapes.{FileCells, Shape}
use Rattle.memory_words.specs.Readings.{InScope, hidden_block}
use Rattle.memory_words.specs.Regions as tree
use Rattle.memory_words.specs.Regions.{RegionTree, region_in, regions_in, of_kind, has_kind, region_within, kinds_of, region_trees, all_region_trees, regions_inside}
use Rattle.memory_words.specs.Sets.{has_variable, is_inside}
use Rattle.memory_words.specs.Typed.{AllOf, is_plain_variable}
use Rattle.memory_words.specs.Placed.{all_told}
use Rattle.memory_statements.specs.Renewed.{is_closed_region}
use Rattle.memory_statements.specs.Regions.{set_of, HasEnds, AreRegions, AllHaveEnds}
use Rattle.memory_statements.proofs.StoreSets as stores
use Rattle.memory_calls.proofs.Homes.{cell_of_plain, plain_of_cell}
use Rattle.memory_words.proofs.Valued.{closed_told}
use Rattle.memory_calls.specs.LoopFits.{SetRegion, IsInSight}
use Rattle.memory_calls.specs.LoopFits as fit
use Rattle.memory_calls.specs.LoopSets.{region_variable, inside_by}
use Rattle.memory_calls.proofs.Regions.{ReadsPlain, plain_found, global_hidden, terms_are, value_is, negative, regions_closed}
use Rattle.memory_calls.proofs.Clauses.{those_all, trees_closed}
use Rattle.memory_calls.proofs.Formulas.{AllClosed, all_closed, more_closed}

-- ---- formulas that are closed

module _ (e : Tree) (closed_e : is_closed [] e ≡ true) (gs : List RegionTree) (closed_gs : list_all is_closed_region gs ≡ true) where
  module _ (r : RegionTree) (closed_r : is_closed_region r ≡ true) where
    within_closed : (hs : List RegionTree) → list_all is_closed_region hs ≡ true → AllClosed (map (region_within r) hs)
    within_closed [] h = refl
    within_closed (g ∷ hs) h =
        let both = and_parts (is_closed_region g) (list_all is_closed_region hs) h in
        let x = and_parts (is_closed [] r.block && is_closed [] r.low) (is_closed [] r.high) closed_r in
        let y = and_parts (is_closed [] r.block) (is_closed [] r.low) x.0 in
        let z = and_parts (is_closed [] g.block && is_closed [] g.low) (is_closed [] g.high) both.0 in
        let t = and_parts (is_closed [] g.block) (is_closed [] g.low) z.0 in
        both_so (is_closed [] (region_within r g)) (list_all (is_closed []) (map (region_within r) hs))
        (λ j. (y.0 j && (t.0 j && true)) && ((t.1 j && (y.1 j && true)) && ((x.1 j && (z.1 j && true)) && true))) (within_closed hs both.1)

    kind_closed : (k : CellKind) → is_closed [] (tree.region_inside e gs r k) ≡ true
    kind_closed k =
        let x = and_parts (is_closed [] r.block && is_closed [] r.low) (is_closed [] r.high) closed_r in
        let y = and_parts (is_closed [] r.block) (is_closed [] r.low) x.0 in
        trees_closed (at_most r.high r.low ∷ at_most e r.block ∷ map (region_within r) (of_kind k gs))
        (both_so (is_closed [] (at_most r.high r.low)) _ (λ j. x.1 j && (y.1 j && true))
        (both_so (is_closed [] (at_most e r.block)) _ (λ j. closed_e j && (y.0 j && true)) (within_closed (of_kind k gs) (those_all is_closed_region (has_kind k) gs closed_gs))))

    kinds_closed : (ks : List CellKind) → AllClosed (map (tree.region_inside e gs r) ks)
    kinds_closed [] = refl
    kinds_closed (k ∷ ks) = both_so (is_closed [] (tree.region_inside e gs r k)) (list_all (is_closed []) (map (tree.region_inside e gs r) ks)) (kind_closed k) (kinds_closed ks)

  regions_are_closed : (rs : List RegionTree) → list_all is_closed_region rs ≡ true → AllClosed (all_region_trees e gs rs)
  regions_are_closed [] h = refl
  regions_are_closed (r ∷ rs) h =
      let both = and_parts (is_closed_region r) (list_all is_closed_region rs) h in
      more_closed (region_trees e gs r) (all_region_trees e gs rs) (kinds_closed r both.0 (kinds_of r)) (regions_are_closed rs both.1)

  one_closed : (rs : List RegionTree) → list_all is_closed_region rs ≡ true → is_closed [] (regions_inside e gs rs) ≡ true
  one_closed rs h = all_closed (all_region_trees e gs rs) (regions_are_closed rs h)

  pub by_closed : (b : Bool) (rs : List RegionTree) → list_all is_closed_region rs ≡ true → AllClosed (inside_by b e gs rs)
  by_closed true rs h = refl
  by_closed false [] h = refl
  by_closed false (r ∷ rs) h = ap (λ b. b && true) (one_closed (r ∷ rs) h)

  -- they say that none is refused, and that those that have cells lie inside
  pub by_told : (m : sense.World) (sts : List State) (b : Bool) (rs : List RegionTree) → list_all is_closed_region rs ≡ true
      → all_told m sts (inside_by b e gs rs) ≡ (not b && truth m (leaves_of sts) (regions_inside e gs rs))
  by_told m sts true rs h = refl
  by_told m sts false [] h = refl
  by_told m sts false (r ∷ rs) h = and_so (truth m (leaves_of sts) (closed (regions_inside e gs (r ∷ rs)))) ∙ closed_told m sts (regions_inside e gs (r ∷ rs)) (one_closed (r ∷ rs) h) where
    and_so : (a : Bool) → (a && true) ≡ a
    and_so true = refl
    and_so false = refl

-- ---- variables that no pointer leads to

module _ (p : Facts) (s : Shape) (cells : FileCells) (ws : List acsl.Tree) (vs : List Value) (n : ℤ) (d : ℕ) where
  swapped : (a : Bool) → (a || false) ≡ a
  swapped true = refl
  swapped false = refl

  -- whether the set lets one change
  pub lets_is : (x : code.Variable) → is_plain_variable p s x ≡ true → is_named vs (hidden_block p s cells x) ≡ has_variable ws x
      → lets_variable p (set_of vs n d) (hidden_block p s cells x) ≡ (has_variable ws x || is_inside d x)
  lets_is (variables.Global x) plain names =
      let v = plain_found p s cells p.globals x plain in
      let i = cell_of_plain p x v.0 v.1 v.2 in
      let home = global_hidden p s cells x plain ∙ i.1 in
      ap (lets_variable p (set_of vs n d)) home
      ∙ ap (λ t. is_named vs (negsuc i.0) || (not t && nat_le d (i.0 - plain_globals p))) (lt-ltb i.0 (plain_globals p) (plain_of_cell p i.0 x i.2).below)
      ∙ ap (λ t. t || false) (ap (is_named vs) (sym home) ∙ names)
  lets_is (variables.Local x) plain names =
      ap (λ t. is_named vs (hidden p x) || (not t && nat_le d ((plain_globals p + x) - plain_globals p))) behind
      ∙ ap (λ k. is_named vs (hidden p x) || nat_le d k) (let e : (plain_globals p + x) - plain_globals p ≡ x = omega arith in e)
      ∙ ap (λ t. t || nat_le d x) names
    where
      behind : nat_lt (plain_globals p + x) (plain_globals p) ≡ false
      behind = false_from_ne_true (nat_lt (plain_globals p + x) (plain_globals p)) (λ e. let l = ltb-true (plain_globals p + x) (plain_globals p) e in absurd (omega (arith, l)))

-- ---- the regions of a set that is taken

module _ (m : sense.World) (p : Facts) (s : Shape) (cells : FileCells) (i : InScope) (r : acsl.Tree → annotation.Reading) (plain : ReadsPlain p s cells i r)
    (sts : List State) (w : labelled.World) (stands : (a : acsl.Tree) → Stands m (r a) (leaves_of sts) w) where
  abbrev env : sense.Values
  env = leaves_of sts

  abbrev Fits : acsl.Tree → Type 0
  Fits a = SetRegion m p s cells i r a

  -- those that have cells
  abbrev with_value : (a : acsl.Tree) → Fits a → List Value → List Value
  with_value a (fit.names x k h sight e) vs = vs
  with_value a (fit.has_cells blocks other ends address) vs = value_of p w a ∷ vs

  abbrev values : (rs : List acsl.Tree) → AllOf Fits rs → List Value
  values [] fits = []
  values (a ∷ rs) fits = with_value a fits.0 (values rs fits.1)

  one_ends : (a : acsl.Tree) (fits : Fits a) (gs : List RegionTree) (vs : List Value) → AllHaveEnds m env gs vs → AllHaveEnds m env (region_in (terms_of (r a) a) ++ gs) (with_value a fits vs)
  one_ends a (fit.names x k h sight e) gs vs more =
      subst (λ a. AllHaveEnds m env (region_in (terms_of (r a) a) ++ gs) vs) (sym e)
      (subst (λ t. AllHaveEnds m env (region_in t ++ gs) vs) (sym (terms_are m p s cells i r plain sts w stands x k h sight)) more)
  one_ends a (fit.has_cells blocks other ends address) gs vs more =
      subst (λ t. AllHaveEnds m env (region_in t ++ gs) (value_of p w a ∷ vs)) (sym ends.cells.is) (ends.ends w sts (stands a), address w sts (stands a), more)

  have_ends : (rs : List acsl.Tree) (fits : AllOf Fits rs) → AllHaveEnds m env (regions_in r rs) (values rs fits)
  have_ends [] fits = tt
  have_ends (a ∷ rs) fits = one_ends a fits.0 (regions_in r rs) (values rs fits.1) (have_ends rs fits.1)

  -- a file without blocks has no region that has cells
  none_in : cells.has_blocks ≡ false → (rs : List acsl.Tree) (fits : AllOf Fits rs) → (regions_in r rs ≡ []) × (values rs fits ≡ [])
  none_in without [] fits = (refl, refl)
  none_in without (a ∷ rs) fits = by a fits.0 (none_in without rs fits.1) where
    by : (a : acsl.Tree) (fits' : Fits a) → (regions_in r rs ≡ []) × (values rs fits.1 ≡ [])
        → (region_in (terms_of (r a) a) ++ regions_in r rs ≡ []) × (with_value a fits' (values rs fits.1) ≡ [])
    by a (fit.names x k h sight e) more = (
      subst (λ a. region_in (terms_of (r a) a) ++ regions_in r rs ≡ []) (sym e)
          (ap (λ t. region_in t ++ regions_in r rs) (terms_are m p s cells i r plain sts w stands x k h sight) ∙ more.0),
      more.1,
    )
    by a (fit.has_cells blocks other ends address) more = absurd (false≢true (sym without ∙ blocks))

  module _ (around : List RegionTree) (e : Tree) (closed_e : is_closed [] e ≡ true) (closed_around : list_all is_closed_region around ≡ true) (vs : List Value)
      (are : AreRegions (HasEnds m env) around vs) (n : ℤ) (is_n : cells.has_blocks ≡ true → value m env e ≡ n) (d : ℕ)
      (refuses : Option code.Variable → Bool) (none : refuses None ≡ false) (others : (x : code.Variable) → is_plain_variable p s x ≡ false → refuses (Some x) ≡ false)
      (lets : (x : code.Variable) → is_plain_variable p s x ≡ true → IsInSight i x → not (refuses (Some x)) ≡ lets_variable p (set_of vs n d) (hidden_block p s cells x)) where
    abbrev set : Granted
    set = set_of vs n d

    abbrev refused : List acsl.Tree → Bool
    refused rs = list_any (λ a. refuses (region_variable a)) rs

    not_either : (a b c : Bool) → (not a && (not b && c)) ≡ (not (a || b) && c)
    not_either true b c = refl
    not_either false b c = refl

    between : (a b c : Bool) → (a && (b && c)) ≡ (b && (a && c))
    between true true c = refl
    between true false c = refl
    between false true c = refl
    between false false c = refl

    not_refused : (a : acsl.Tree) → ((x : code.Variable) → region_variable a ≡ Some x → is_plain_variable p s x ≡ false) → refuses (region_variable a) ≡ false
    not_refused a other = by (region_variable a) (λ x e. other x e) where
      by : (o : Option code.Variable) → ((x : code.Variable) → o ≡ Some x → is_plain_variable p s x ≡ false) → refuses o ≡ false
      by None h = none
      by (Some x) h = others x (h x refl)

    one_inside : (a : acsl.Tree) (fits : Fits a) (b : Bool) (us : List Value)
        → (region_inside p set (value_of p w a) && (not b && list_all (region_inside p set) us))
        ≡ (not (refuses (region_variable a) || b) && list_all (region_inside p set) (with_value a fits us))
    one_inside a (fit.names x k h sight q) b us =
        ap (λ t. t && (not b && list_all (region_inside p set) us))
        (ap (λ a. region_inside p set (value_of p w a)) q ∙ ap (region_inside p set) (value_is m p s cells i r plain sts w stands x k h sight)
        ∙ ap (λ t. if t then lets_variable p set (hidden_block p s cells x) else lets_region set (labelled.region (k ∷ []) (one_address (hidden_block p s cells x) (pos 0))) k && true)
        (negative m p s cells i r plain sts w stands a x)
        ∙ sym (lets x h sight) ∙ ap (λ o. not (refuses o)) (sym (ap region_variable q)))
        ∙ not_either (refuses (region_variable a)) b (list_all (region_inside p set) us)
    one_inside a (fit.has_cells blocks other ends address) b us =
        between (region_inside p set (value_of p w a)) (not b) (list_all (region_inside p set) us)
        ∙ ap (λ t. not (t || b) && (region_inside p set (value_of p w a) && list_all (region_inside p set) us)) (sym (not_refused a other))

    split : (rs : List acsl.Tree) (fits : AllOf Fits rs)
        → list_all (region_inside p set) (regions_of p w rs) ≡ (not (refused rs) && list_all (region_inside p set) (values rs fits))
    split [] fits = refl
    split (a ∷ rs) fits = ap (λ t. region_inside p set (value_of p w a) && t) (split rs fits.1) ∙ one_inside a fits.0 (refused rs) (values rs fits.1)

    cells_told : (rs : List acsl.Tree) (fits : AllOf Fits rs) → truth m env (regions_inside e around (regions_in r rs)) ≡ list_all (region_inside p set) (values rs fits)
    cells_told rs fits =
        on_test cells.has_blocks
        (λ has. stores.regions_inside m env p e around vs are (regions_in r rs) (values rs fits) (have_ends rs fits) d
        ∙ ap (λ n. list_all (region_inside p (set_of vs n d)) (values rs fits)) (is_n has))
        (λ without. let h = none_in without rs fits in ap (λ t. truth m env (regions_inside e around t)) h.0 ∙ sym (ap (list_all (region_inside p set)) h.1))

    pub included_told : (rs : List acsl.Tree) (fits : AllOf Fits rs)
        → all_told m sts (inside_by (refused rs) e around (regions_in r rs)) ≡ list_all (region_inside p set) (regions_of p w rs)
    included_told rs fits =
        by_told e closed_e around closed_around m sts (refused rs) (regions_in r rs) (regions_closed m p s cells i r plain sts w stands rs fits)
        ∙ ap (λ t. not (refused rs) && t) (cells_told rs fits) ∙ sym (split rs fits)
