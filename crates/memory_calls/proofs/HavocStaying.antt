-- What the formulas of what stays mean: frames of memories, and variables of the file that have the same places.
use Rattle.std.proofs.Common.{◌≡◌, ◌↔◌, ℕ, zero, suc, ◌+◌, Bool, true, false, not, ◌&&◌, ◌||◌, if◌then◌else◌, pos, List, [], ◌∷◌, ◌++◌, map}
use Rattle.std.proofs.Common.{Option, Some, None, slice_get, refl, sym, ap, ◌∙◌, subst, arith}
use Rattle.std.specs.List.{list_all}
use Rattle.std.proofs.lemmas.Bool.{and_parts}
use Rattle.std.proofs.lemmas.List.Folds.{list_all-append}
use Rattle.std.proofs.lemmas.Option.{none-some, same_Some}
use Rattle.wp_base.specs.declared.kinds.CellKind.{CellKind}
use Rattle.wp_base.specs.declared.kinds.CellKind.TheVariants as cell
use Rattle.typed_prog.specs.declared.operators.Variable.TheVariants as variables
use Rattle.acsl_trees.specs.Tree as acsl
use Rattle.acsl_encode.specs.Readings as annotation
use Rattle.acsl_encode.specs.Told.{every_cell, those}
use Rattle.c_runs.specs.TruthStates.{Value, number, pointer, number_of, block_of, offset_of}
use Rattle.qed_terms.specs.Tree.{Tree, equal, imp_of}
use Rattle.qed_terms.specs.Operators.{is_equal}
use Rattle.qed_terms.specs.Meaning as sense
use Rattle.qed_terms.specs.Meaning.{Values, truth}
use Rattle.c_runs.specs.Program.{Variable, Behavior, Facts}
use Rattle.c_runs.specs.States.{Memory, global_home}
use Rattle.c_runs.proofs.Numbers.{equal_is}
use Rattle.goal_segments.specs.Segments.{SameBlocks}
use Rattle.typed_memories.proofs.Tests.{on_test, both_so, same_number, number_same}
use Rattle.typed_memories.specs.Changes.{Sets}
use Rattle.memory_steps.specs.State.{State}
use Rattle.memory_words.specs.Places.{Place, value, offset, Sizes, number_at}
use Rattle.memory_words.specs.Leaves.{or_false, closed, is_closed, leaves_of}
use Rattle.memory_words.proofs.Leaves.{leaves_are_held, leaf_closed}
use Rattle.memory_words.specs.Shapes.{FileCells, Shape, sizes, kind_of}
use Rattle.memory_words.specs.Readings.{Texts, leaf}
use Rattle.memory_words.specs.Standing.{IsHeldAs, FileStands}
use Rattle.memory_words.specs.Regions.{regions_in}
use Rattle.memory_words.specs.Renewal.{of_regions}
use Rattle.memory_words.specs.Sets.{lacks}
use Rattle.memory_words.specs.Typed.{AllOf}
use Rattle.memory_calls.specs.Havoc.{Havoc}
use Rattle.memory_calls.specs.Stays.{all_frames, same_places, variable_stays, stays_from, clause_stays, all_stay}
use Rattle.memory_calls.specs.HavocLaws.{BehaviorFits, BehaviorStays, StaysMean}
use Rattle.memory_calls.proofs.Framed.{all_frames_closed, frames_mean}

-- ---- variables of the file

module _ (m : sense.World) (p : Facts) (s : Shape) (cells : FileCells) (texts : Texts) (present before : State) (olds : List State) where
  abbrev z : Sizes
  z = sizes p s

  abbrev sts : List State
  sts = present ∷ before ∷ olds

  abbrev env : Values
  env = leaves_of sts

  abbrev told : Tree → Bool
  told f = truth m env (closed f)

  closed_is : (f : Tree) → is_closed [] f ≡ true → told f ≡ truth m env f
  closed_is f e = ap (λ t. truth m env (or_false t f)) e

  abbrev same_place : Place → Tree
  same_place a = equal (leaf p s cells 0 a) (leaf p s cells 1 a)

  place_closed : (a : Place) → is_closed [] (same_place a) ≡ true
  place_closed a = both_so (is_closed [] (leaf p s cells 0 a)) _ (leaf_closed [] z 0 a) (both_so (is_closed [] (leaf p s cells 1 a)) true (leaf_closed [] z 1 a) refl)

  place_told : (a : Place) → (told (same_place a) ≡ true) ↔ (number_at z present a ≡ number_at z before a)
  place_told a =
      let e : told (same_place a) ≡ is_equal (number_at z present a) (number_at z before a) =
      closed_is (same_place a) (place_closed a) ∙ (λ i. is_equal ((leaves_are_held m sts 0).number z a i) ((leaves_are_held m sts 1).number z a i)) in (
        (λ h. same_number (number_at z present a) (number_at z before a) (sym (equal_is (number_at z present a) (number_at z before a)) ∙ sym e ∙ h)),
        (λ h. e ∙ equal_is (number_at z present a) (number_at z before a) ∙ number_same (number_at z present a) (number_at z before a) h),
      )

  places_closed : (k : CellKind) (x : ℕ) → list_all (is_closed []) (same_places p s cells texts k x) ≡ true
  places_closed (cell.Of k) x = both_so (is_closed [] (same_place (value (variables.Global x)))) true (place_closed (value (variables.Global x))) refl
  places_closed cell.Ptr x =
      both_so (is_closed [] (same_place (value (variables.Global x)))) _ (place_closed (value (variables.Global x)))
      (both_so (is_closed [] (same_place (offset (variables.Global x)))) true (place_closed (offset (variables.Global x))) refl)

  module _ (x : ℕ) (v w : Value) where
    abbrev Held : CellKind → Value → State → Type 0
    Held k u st = IsHeldAs k u (number_at z st (value (variables.Global x))) (number_at z st (offset (variables.Global x)))

    places_mean : (k : CellKind) → Held k v before → Held k w present → (list_all told (same_places p s cells texts k x) ≡ true) ↔ (w ≡ v)
    places_mean (cell.Of k) h g =
        let one = place_told (value (variables.Global x)) in (
          (λ t. g ∙ ap number (one.0 (and_parts (told (same_place (value (variables.Global x)))) true t).0) ∙ sym h),
          (λ e. both_so (told (same_place (value (variables.Global x)))) true (one.1 (ap number_of (sym g ∙ e ∙ h))) refl),
        )
    places_mean cell.Ptr h g =
        let one = place_told (value (variables.Global x)) in
        let two = place_told (offset (variables.Global x)) in (
          (λ t. let both = and_parts (told (same_place (value (variables.Global x)))) _ t in
              let second = and_parts (told (same_place (offset (variables.Global x)))) true both.1 in
              g ∙ (λ i. pointer (one.0 both.0 i) (two.0 second.0 i)) ∙ sym h),
          (λ e. both_so (told (same_place (value (variables.Global x)))) _ (one.1 (ap block_of (sym g ∙ e ∙ h)))
              (both_so (told (same_place (offset (variables.Global x)))) true (two.1 (ap offset_of (sym g ∙ e ∙ h))) refl)),
        )

  -- ---- those that change and aren't named

  module _ (clause : List acsl.Tree) (h : Havoc) where
    abbrev is_asked : ℕ → Variable → Bool
    is_asked x v = (h.variables (variables.Global x) && v.is_plain) && lacks (Some clause) (variables.Global x)

    variable_closed : (x : ℕ) (v : Variable) → list_all (is_closed []) (variable_stays p s cells texts (Some clause) h x v) ≡ true
    variable_closed x v = on_test (is_asked x v)
        (λ t. ap (λ b. list_all (is_closed []) (if b then same_places p s cells texts (kind_of v) x else [])) t ∙ places_closed (kind_of v) x)
        (λ t. ap (λ b. list_all (is_closed []) (if b then same_places p s cells texts (kind_of v) x else [])) t)

    stays_closed : (x : ℕ) (vs : List Variable) → list_all (is_closed []) (stays_from p s cells texts (Some clause) h x vs) ≡ true
    stays_closed x [] = refl
    stays_closed x (v ∷ vs) =
        list_all-append (is_closed []) (variable_stays p s cells texts (Some clause) h x v) (stays_from p s cells texts (Some clause) h (suc x) vs)
        ∙ both_so (list_all (is_closed []) (variable_stays p s cells texts (Some clause) h x v)) _ (variable_closed x v) (stays_closed (suc x) vs)

    abbrev so_at : ℕ → Variable → Bool
    so_at x v = list_all told (variable_stays p s cells texts (Some clause) h x v)

    stays_told : (x : ℕ) (vs : List Variable)
        → (list_all told (stays_from p s cells texts (Some clause) h x vs) ≡ true) ↔ ((y : ℕ) (v : Variable) → slice_get vs y ≡ Some v → so_at (x + y) v ≡ true)
    stays_told x [] = ((λ t y v e. absurd (none-some v e)), (λ t. refl))
    stays_told x (u ∷ vs) =
        let e = list_all-append told (variable_stays p s cells texts (Some clause) h x u) (stays_from p s cells texts (Some clause) h (suc x) vs) in
        let more = stays_told (suc x) vs in (
          (λ t. first (and_parts (so_at x u) _ (sym e ∙ t)).0 (more.0 (and_parts (so_at x u) _ (sym e ∙ t)).1)),
          (λ t. e ∙ both_so (so_at x u) _ (subst (λ n. so_at n u ≡ true) (let q : x + 0 ≡ x = omega arith in q) (t 0 u refl))
              (more.1 (λ y v found. subst (λ n. so_at n v ≡ true) (let q : x + suc y ≡ suc x + y = omega arith in q) (t (suc y) v found)))),
        )
      where
        first : so_at x u ≡ true → ((y : ℕ) (v : Variable) → slice_get vs y ≡ Some v → so_at (suc x + y) v ≡ true) → (y : ℕ) (v : Variable) → slice_get (u ∷ vs) y ≡ Some v
            → so_at (x + y) v ≡ true
        first one rest zero v found =
            subst (λ v. so_at (x + 0) v ≡ true) (same_Some u v found) (subst (λ n. so_at n u ≡ true) (let q : x ≡ x + 0 = omega arith in q) one)
        first one rest (suc y) v found = subst (λ n. so_at n v ≡ true) (let q : suc x + y ≡ x + suc y = omega arith in q) (rest y v found)

    module _ (c d : Memory) (first : FileStands p s cells c before) (second : FileStands p s cells d present) where
      abbrev Stays : ℕ → Type 0
      Stays x = d.cells (global_home p x) (pos 0) ≡ c.cells (global_home p x) (pos 0)

      variable_mean : (x : ℕ) (v : Variable) → slice_get p.globals x ≡ Some v
          → (so_at x v ≡ true) ↔ (v.is_plain ≡ true → h.variables (variables.Global x) ≡ true → lacks (Some clause) (variables.Global x) ≡ true → Stays x)
      variable_mean x v e = (
        (λ t is on away.
            (places_mean x (c.cells (global_home p x) (pos 0)) (d.cells (global_home p x) (pos 0)) (kind_of v) (first.globals x v e is) (second.globals x v e is)).0
            (sym (ap (λ b. list_all told (if b then same_places p s cells texts (kind_of v) x else []))
            (both_so (h.variables (variables.Global x) && v.is_plain) _ (both_so (h.variables (variables.Global x)) v.is_plain on is) away)) ∙ t)),
        (λ t. on_test (is_asked x v)
            (λ so.
            let one = and_parts (h.variables (variables.Global x) && v.is_plain) _ so in
            let two = and_parts (h.variables (variables.Global x)) v.is_plain one.0 in
            ap (λ b. list_all told (if b then same_places p s cells texts (kind_of v) x else [])) so
            ∙ (places_mean x (c.cells (global_home p x) (pos 0)) (d.cells (global_home p x) (pos 0)) (kind_of v) (first.globals x v e two.1) (second.globals x v e two.1)).1
            (t two.1 two.0 one.1))
            (λ off. ap (λ b. list_all told (if b then same_places p s cells texts (kind_of v) x else [])) off)),
      )

      variables_mean : (list_all told (stays_from p s cells texts (Some clause) h 0 p.globals) ≡ true)
          ↔ ((x : ℕ) (v : Variable) → slice_get p.globals x ≡ Some v → v.is_plain ≡ true → h.variables (variables.Global x) ≡ true
          → lacks (Some clause) (variables.Global x) ≡ true → Stays x)
      variables_mean =
          let each = stays_told 0 p.globals in (
            (λ t x v e. (variable_mean x v e).0 (subst (λ n. so_at n v ≡ true) (let q : 0 + x ≡ x = omega arith in q) (each.0 t x v e))),
            (λ t. each.1 (λ x v e. subst (λ n. so_at n v ≡ true) (let q : x ≡ 0 + x = omega arith in q) ((variable_mean x v e).1 (t x v e)))),
          )

  -- ---- where it is assumed

  module _ (a : Tree) (closed_a : is_closed [] a ≡ true) where
    imp_told : (f : Tree) → is_closed [] f ≡ true → told (imp_of a f) ≡ not (truth m env a) || truth m env f
    imp_told f e = closed_is (imp_of a f) (both_so (is_closed [] a) _ closed_a (both_so (is_closed [] f) true e refl))

    not_assumed : truth m env a ≡ false → (fs : List Tree) → list_all (is_closed []) fs ≡ true → list_all told (map (imp_of a) fs) ≡ true
    not_assumed off [] h = refl
    not_assumed off (f ∷ fs) h =
        let both = and_parts (is_closed [] f) (list_all (is_closed []) fs) h in
        both_so (told (imp_of a f)) _ (imp_told f both.0 ∙ ap (λ t. not t || truth m env f) off) (not_assumed off fs both.1)

    assumed_so : truth m env a ≡ true → (fs : List Tree) → list_all (is_closed []) fs ≡ true → list_all told (map (imp_of a) fs) ≡ list_all told fs
    assumed_so on [] h = refl
    assumed_so on (f ∷ fs) h =
        let both = and_parts (is_closed [] f) (list_all (is_closed []) fs) h in
        (λ i. (imp_told f both.0 ∙ ap (λ t. not t || truth m env f) on ∙ sym (closed_is f both.0)) i && assumed_so on fs both.1 i)

    imps_told : (fs : List Tree) → list_all (is_closed []) fs ≡ true → (list_all told (map (imp_of a) fs) ≡ true) ↔ (truth m env a ≡ true → list_all told fs ≡ true)
    imps_told fs h = (
      (λ t on. sym (assumed_so on fs h) ∙ t),
      (λ t. on_test (truth m env a) (λ on. assumed_so on fs h ∙ t on) (λ off. not_assumed off fs h)),
    )

  -- ---- behaviors

  module _ (r : acsl.Tree → annotation.Reading) (assumed : Behavior → Tree) (since : Tree) (h : Havoc) (set : Behavior → Sets) (c d : Memory) (first : FileStands p s cells c before)
      (second : FileStands p s cells d present) (same : SameBlocks c.blocks d.blocks) where
    abbrev with_clause : Behavior → Option (List acsl.Tree) → Behavior
    with_clause b o = record b { assigns = o }

    clause_mean : (b : Behavior) (o : Option (List acsl.Tree)) → BehaviorFits m sts assumed set r since (with_clause b o)
        → (list_all told (clause_stays p s cells texts (assumed (with_clause b o)) r since h o) ≡ true) ↔ BehaviorStays m sts assumed set p cells h c d (with_clause b o)
    clause_mean b None fits = ((λ t. tt), (λ t. refl))
    clause_mean b (Some clause) fits =
        let is = fits.1 in
        let gs = regions_in r clause in
        let frames = all_frames p s cells texts (of_regions (since ∷ []) gs) (those (λ k. cells.has_kind k && h.kinds k) every_cell) in
        let stays = stays_from p s cells texts (Some clause) h 0 p.globals in
        let closed_all = list_all-append (is_closed []) frames stays
        ∙ both_so (list_all (is_closed []) frames) _
        (all_frames_closed m p s cells texts present before olds since gs is.closed_since is.closed_regions (those (λ k. cells.has_kind k && h.kinds k) every_cell))
        (stays_closed clause h 0 p.globals) in
        let imps = imps_told (assumed (with_clause b (Some clause))) fits.0 (frames ++ stays) closed_all in
        let parts = list_all-append told frames stays in
        let memories = frames_mean m p s cells texts present before olds since gs is.closed_since is.closed_regions (set (with_clause b (Some clause))) is.inside c d first second same h.kinds in
        let of_file = variables_mean clause h c d first second in (
          (λ t on. let both = and_parts (list_all told frames) (list_all told stays) (sym parts ∙ imps.0 t on) in
              record { cells = λ k b o renewed is out. memories.0 both.0 k renewed b o is out; globals = of_file.0 both.1 }),
          (λ t. imps.1 (λ on. let s = t on in parts ∙ both_so (list_all told frames) _ (memories.1 (λ k renewed b o is out. s.cells k b o renewed is out)) (of_file.1 s.globals))),
        )

    all_mean : (bs : List Behavior) → AllOf (BehaviorFits m sts assumed set r since) bs
        → (list_all told (all_stay p s cells texts r assumed since h bs) ≡ true) ↔ AllOf (BehaviorStays m sts assumed set p cells h c d) bs
    all_mean [] fits = ((λ t. tt), (λ t. refl))
    all_mean (b ∷ bs) fits =
        let e = list_all-append told (clause_stays p s cells texts (assumed b) r since h b.assigns) (all_stay p s cells texts r assumed since h bs) in
        let one = clause_mean b b.assigns fits.0 in
        let more = all_mean bs fits.1 in (
          (λ t. let both = and_parts (list_all told (clause_stays p s cells texts (assumed b) r since h b.assigns)) _ (sym e ∙ t) in (one.0 both.0, more.0 both.1)),
          (λ t. e ∙ both_so (list_all told (clause_stays p s cells texts (assumed b) r since h b.assigns)) _ (one.1 t.0) (more.1 t.1)),
        )

pub stays_mean : StaysMean
stays_mean m p s cells texts r assumed since h set present before olds c d first second same bs fits =
    all_mean m p s cells texts present before olds r assumed since h set c d first second same bs fits
