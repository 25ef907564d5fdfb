-- What is asked of a loop's own set says whether it lies inside the sets in force.
use Rattle.std.proofs.Common.{◌≡◌, ℕ, Bool, true, false, not, ◌&&◌, ◌||◌, if◌then◌else◌, List, [], ◌∷◌, ◌++◌, map, Option, Some, None, refl, sym, ap, ◌∙◌, ◌≤◌, arith}
use Rattle.std.specs.List.{list_all}
use Rattle.std.proofs.lemmas.Bool.{false≢true, le-leb}
use Rattle.typed_prog.specs.declared.operators.Variable as code
use Rattle.typed_prog.specs.declared.operators.Variable.TheVariants as variables
use Rattle.acsl_trees.specs.Tree as acsl
use Rattle.c_runs.specs.TruthStates as labelled
use Rattle.c_runs.specs.TruthStates.{Value}
use Rattle.acsl_encode.specs.Meaning.{Stands}
use Rattle.qed_terms.specs.Meaning as sense
use Rattle.qed_terms.specs.Tree.{Tree}
use Rattle.c_runs.specs.Program.{Behavior, Contract, Loop, Facts}
use Rattle.c_runs.specs.States.{Here, Granted}
use Rattle.c_runs.specs.Claims.{holds, in_state, is_assumed, regions_of, granted_by, granted_in, parts_of}
use Rattle.c_runs.specs.CoreRun.{CoreWorld}
use Rattle.c_runs.specs.Tree.{Steps}
use Rattle.goal_segments.specs.Sets.{lets_variable, region_inside, set_inside, loop_inside}
use Rattle.memory_steps.specs.State.{State}
use Rattle.memory_words.specs.Leaves.{leaves_of, is_closed}
use Rattle.memory_words.specs.Shapes.{FileCells, Shape}
use Rattle.memory_words.specs.Readings.{Texts, Standpoint, hidden_block, body_reading, entry_reading}
use Rattle.memory_words.specs.Standing.{Frame}
use Rattle.memory_words.specs.Seen.{ClaimFits, BodySeen, EntrySeen}
use Rattle.memory_words.proofs.Worlds.{annotations_read}
use Rattle.memory_words.specs.Points.{Force, of_function, of_loop, Point}
use Rattle.memory_words.specs.Regions.{RegionTree, regions_in}
use Rattle.memory_words.specs.Sets.{under, has_variable, is_inside, since, entry_at, assumed_at}
use Rattle.memory_words.specs.Words.{entered_loop}
use Rattle.memory_words.specs.Typed.{AllOf, is_plain_variable}
use Rattle.memory_words.specs.Placed.{Openings, all_told, OfFunction, OfLoop, GrantedBy}
use Rattle.memory_statements.specs.Renewed.{is_closed_region}
use Rattle.memory_statements.specs.Regions.{set_of}
use Rattle.memory_calls.specs.LoopSets.{lacks_file, lacks_some, is_outside, inside_by, own_reading, clause_trees, all_clause_trees, within, inside_trees, region_variable}
use Rattle.memory_calls.specs.LoopFits.{at_levels, SetRegion, SetRegions, ClauseFits, ForceFits}
use Rattle.memory_calls.proofs.Coming.{told_append}
use Rattle.memory_calls.proofs.Regions.{body_plain, entry_plain, regions_are, regions_closed, names_so}
use Rattle.memory_calls.proofs.Clauses.{since_is}
use Rattle.memory_calls.proofs.Formulas.{AllClosed, more_closed, under_closed, unless_told, under_told, plain_told, assumed_closed, assumed_is}
use Rattle.memory_calls.proofs.Including.{by_closed, lets_is, included_told}
use Rattle.memory_calls.proofs.Sites.{Site}
use Rattle.memory_calls.proofs.Passing.{entered, entry_sees}

-- of all levels, and of one
pub at_level : {X : Type 0} (F : ℕ → X → Type 0) (xs : List X) → AllOf (λ a. (level : ℕ) → F level a) xs → (level : ℕ) → AllOf (F level) xs
at_level F [] h level = tt
at_level F (x ∷ xs) h level = (h.0 level, at_level F xs h.1 level)

all_both : {X : Type 0} (f : X → Bool) (xs ys : List X) → list_all f (xs ++ ys) ≡ (list_all f xs && list_all f ys)
all_both f [] ys = refl
all_both f (x ∷ xs) ys = ap (λ b. f x && b) (all_both f xs ys) ∙ by (f x) where
  by : (a : Bool) → (a && (list_all f xs && list_all f ys)) ≡ ((a && list_all f xs) && list_all f ys)
  by true = refl
  by false = refl

and_so : (a : Bool) → (a && true) ≡ a
and_so true = refl
and_so false = refl

module _ (m : sense.World) (p : Facts) (s : Shape) (cells : FileCells) (texts : Texts) (contract : Contract) (here : Here) (pt : Point) (olds : List State) (fr : Frame)
    (os : Openings) (l : Loop) (ss : Steps) (c : CoreWorld) (st : State) (site : Site m p s cells texts contract here pt olds fr os l ss c st) where
  abbrev sts : List State
  sts = st ∷ olds

  abbrev own : labelled.World
  own = entered m p s cells texts contract here pt olds fr os l ss c st site

  -- ---- how its own set is read

  own_seen : BodySeen m p s cells texts (entered_loop pt) sts own
  own_seen =
      let sees = entry_sees m p s cells texts contract here pt olds fr os l ss c st site in
      record { file = record { model = refl; structs = λ n. refl }; here_is = sees; pre_is = site.placed.entry st; post_is = sees; loop_is = sees }

  own_read : (a : acsl.Tree) → Stands m (own_reading p s cells texts pt a) (leaves_of sts) own
  own_read a = (annotations_read m p s cells texts site.setting sts own a).body (entered_loop pt) own_seen

  -- ---- how the function's clauses are read

  abbrev at_entry : labelled.World
  at_entry = in_state p here.entry

  entry_seen : EntrySeen m p s cells texts pt.stands.entry pt.stands.is_param sts at_entry
  entry_seen =
      let sees = site.placed.entry st in
      record { file = record { model = refl; structs = λ n. refl }; here_is = sees; pre_is = sees; post_is = sees; loop_is = sees }

  entry_read : (a : acsl.Tree) → Stands m (entry_at p s cells texts pt.stands a) (leaves_of sts) at_entry
  entry_read a = (annotations_read m p s cells texts site.setting sts at_entry a).entry pt.stands.entry pt.stands.is_param entry_seen

  module _ (rs : List acsl.Tree) (fits : AllOf (SetRegion m p s cells pt.stands.in_scope (own_reading p s cells texts pt)) rs) where
    abbrev vs : List Value
    vs = regions_of p own rs

    abbrev inner : List RegionTree
    inner = regions_in (own_reading p s cells texts pt) rs

    closed_inner : list_all is_closed_region inner ≡ true
    closed_inner =
        regions_closed m p s cells pt.stands.in_scope (own_reading p s cells texts pt) (body_plain p s cells texts (entered_loop pt)) sts own own_read rs fits

    abbrev all_inside : List Granted → Bool
    all_inside gs = set_inside p gs vs

    -- ---- in the set of a loop

    module _ (sp : Standpoint) (ws : List acsl.Tree) (d : ℕ) (granted : OfLoop m p s cells texts contract here olds sp ws d)
        (around_fits : AllOf (SetRegion m p s cells sp.in_scope (body_reading p s cells texts sp)) ws) where
      around_read : (a : acsl.Tree) → Stands m (body_reading p s cells texts sp a) (leaves_of sts) granted.world
      around_read a = (annotations_read m p s cells texts site.setting sts granted.world a).body sp (granted.seen st)

      outside_lets : (x : code.Variable) → is_plain_variable p s x ≡ true
          → not (is_outside p s ws d (Some x)) ≡ lets_variable p (set_of (regions_of p granted.world ws) granted.blocks d) (hidden_block p s cells x)
      outside_lets x plain =
          ap (λ t. not (t && not (has_variable ws x || is_inside d x))) plain ∙ twice (has_variable ws x || is_inside d x)
          ∙ sym (lets_is p s cells ws (regions_of p granted.world ws) granted.blocks d x plain
          (names_so m p s cells sp.in_scope (body_reading p s cells texts sp) (body_plain p s cells texts sp) sts granted.world around_read x plain ws around_fits)) where
            twice : (b : Bool) → not (not b) ≡ b
            twice true = refl
            twice false = refl

      loop_told : all_told m sts (within p s cells texts contract pt (of_loop sp ws d) rs) ≡ all_inside here.granted
      loop_told =
          included_told m p s cells pt.stands.in_scope (own_reading p s cells texts pt) (body_plain p s cells texts (entered_loop pt)) sts own own_read
          (regions_in (body_reading p s cells texts sp) ws) (since sp.here) refl
          (regions_closed m p s cells sp.in_scope (body_reading p s cells texts sp) (body_plain p s cells texts sp) sts granted.world around_read ws around_fits)
          (regions_of p granted.world ws)
          (regions_are m p s cells sp.in_scope (body_reading p s cells texts sp) (body_plain p s cells texts sp) sts granted.world around_read ws around_fits)
          granted.blocks (λ has. since_is m sts sp.here ∙ sym (granted.since has st)) d
          (is_outside p s ws d) refl (λ x h. ap (λ t. t && not (has_variable ws x || is_inside d x)) h) (λ x plain sight. outside_lets x plain) rs fits
          ∙ sym (ap all_inside granted.granted ∙ and_so (list_all (region_inside p (set_of (regions_of p granted.world ws) granted.blocks d)) vs))

    -- ---- in the function's clauses

    module _ (granted : OfFunction m p s cells texts contract here olds pt.stands.entry) where
      abbrev set : List acsl.Tree → Granted
      set ws = set_of (regions_of p at_entry ws) granted.blocks 0

      abbrev clauses_in : List Behavior → List Granted
      clauses_in bs = granted_in p at_entry granted.blocks bs

      module _ (ws : List acsl.Tree) (clause_fits : AllOf (SetRegion m p s cells pt.stands.is_param (entry_at p s cells texts pt.stands)) ws) where
        abbrev around : List RegionTree
        around = regions_in (entry_at p s cells texts pt.stands) ws

        closed_around : list_all is_closed_region around ≡ true
        closed_around =
            regions_closed m p s cells pt.stands.is_param (entry_at p s cells texts pt.stands) (entry_plain p s cells texts pt.stands.entry pt.stands.is_param)
            sts at_entry entry_read ws clause_fits

        or_true : (a : Bool) → true ≡ (a || true)
        or_true true = refl
        or_true false = refl

        lacking_lets : (x : code.Variable) → is_plain_variable p s x ≡ true → not (lacks_file p s (Some ws) (Some x)) ≡ lets_variable p (set ws) (hidden_block p s cells x)
        lacking_lets x plain = by x plain
            ∙ sym (lets_is p s cells ws (regions_of p at_entry ws) granted.blocks 0 x plain
            (names_so m p s cells pt.stands.is_param (entry_at p s cells texts pt.stands) (entry_plain p s cells texts pt.stands.entry pt.stands.is_param)
            sts at_entry entry_read x plain ws clause_fits))
          where
            lone : (b : Bool) → not (not b) ≡ (b || false)
            lone true = refl
            lone false = refl

            by : (x : code.Variable) → is_plain_variable p s x ≡ true → not (lacks_file p s (Some ws) (Some x)) ≡ (has_variable ws x || is_inside 0 x)
            by (variables.Global x) h =
                ap (λ t. not (t && not (has_variable ws (variables.Global x)))) h ∙ lone (has_variable ws (variables.Global x))
            by (variables.Local x) h =
                or_true (has_variable ws (variables.Local x)) ∙ ap (λ t. has_variable ws (variables.Local x) || t) (sym (let z : 0 ≤ x = omega arith in le-leb 0 x z))

        lacking_others : (x : code.Variable) → is_plain_variable p s x ≡ false → lacks_file p s (Some ws) (Some x) ≡ false
        lacking_others (variables.Global x) h = ap (λ t. t && not (has_variable ws (variables.Global x))) h
        lacking_others (variables.Local x) h = refl

        abbrev asked : List Tree
        asked = inside_by (lacks_some p s (Some ws) rs) (since pt.stands.entry) around inner

        asked_closed : AllClosed asked
        asked_closed = by_closed (since pt.stands.entry) refl around closed_around (lacks_some p s (Some ws) rs) inner closed_inner

        asked_told : all_told m sts asked ≡ list_all (region_inside p (set ws)) vs
        asked_told =
            included_told m p s cells pt.stands.in_scope (own_reading p s cells texts pt) (body_plain p s cells texts (entered_loop pt)) sts own own_read
            around (since pt.stands.entry) refl closed_around (regions_of p at_entry ws)
            (regions_are m p s cells pt.stands.is_param (entry_at p s cells texts pt.stands) (entry_plain p s cells texts pt.stands.entry pt.stands.is_param)
            sts at_entry entry_read ws clause_fits)
            granted.blocks (λ has. since_is m sts pt.stands.entry ∙ sym (granted.since has st)) 0
            (lacks_file p s (Some ws)) refl lacking_others (λ x plain sight. lacking_lets x plain) rs fits

      -- ---- of behaviors

      module _ (b : Behavior) (clause : ClauseFits m p s cells texts pt.stands.is_param b) where
        assumes_fit : AllOf (ClaimFits m p (entry_at p s cells texts pt.stands)) b.assumes
        assumes_fit = at_level (λ level a. ClaimFits m p (entry_reading p s cells texts level pt.stands.is_param) a) b.assumes clause.assumes pt.stands.entry

        closed_assumed : is_closed [] (assumed_at p s cells texts pt.stands b) ≡ true
        closed_assumed = assumed_closed m sts p (entry_at p s cells texts pt.stands) at_entry entry_read b.assumes assumes_fit

        clause_closed : (plain : Bool) (o : Option (List acsl.Tree)) → SetRegions m p s cells pt.stands.is_param (entry_at p s cells texts pt.stands) o
            → AllClosed (clause_trees p s cells texts pt plain b o rs)
        clause_closed plain None h = refl
        clause_closed plain (Some ws) h = under_closed plain (assumed_at p s cells texts pt.stands b) closed_assumed (asked ws h) (asked_closed ws h)

        implied : (a x : Bool) → (not a || x) ≡ (list_all (λ g. g) (if a then x ∷ [] else []))
        implied true x = sym (and_so x)
        implied false x = refl

        told_of : (o : Option (List acsl.Tree)) → SetRegions m p s cells pt.stands.is_param (entry_at p s cells texts pt.stands) o
            → all_told m sts (clause_trees p s cells texts pt false b o rs)
            ≡ all_inside (if is_assumed p at_entry b then granted_by p at_entry granted.blocks 0 o else [])
        told_of None h = by (is_assumed p at_entry b) where
          by : (a : Bool) → true ≡ all_inside (if a then [] else [])
          by true = refl
          by false = refl
        told_of (Some ws) h =
            under_told m sts (assumed_at p s cells texts pt.stands b) closed_assumed (asked ws h) (asked_closed ws h)
            ∙ (λ i. not (assumed_is m sts p (entry_at p s cells texts pt.stands) at_entry entry_read b.assumes assumes_fit i) || asked_told ws h i)
            ∙ by (is_assumed p at_entry b) where
              by : (a : Bool) → (not a || list_all (region_inside p (set ws)) vs) ≡ all_inside (if a then set ws ∷ [] else [])
              by true = sym (and_so (list_all (region_inside p (set ws)) vs))
              by false = refl

        plain_of : (o : Option (List acsl.Tree)) → SetRegions m p s cells pt.stands.is_param (entry_at p s cells texts pt.stands) o
            → all_told m sts (clause_trees p s cells texts pt true b o rs) ≡ all_inside (granted_by p at_entry granted.blocks 0 o)
        plain_of None h = refl
        plain_of (Some ws) h =
            plain_told m sts (assumed_at p s cells texts pt.stands b) (asked ws h) ∙ asked_told ws h ∙ sym (and_so (list_all (region_inside p (set ws)) vs))

      behaviors_closed : (bs : List Behavior) → AllOf (ClauseFits m p s cells texts pt.stands.is_param) bs → AllClosed (all_clause_trees p s cells texts pt bs rs)
      behaviors_closed [] h = refl
      behaviors_closed (b ∷ bs) h =
          more_closed (clause_trees p s cells texts pt false b b.assigns rs) (all_clause_trees p s cells texts pt bs rs)
          (clause_closed b h.0 false b.assigns (h.0.regions pt.stands.entry)) (behaviors_closed bs h.1)

      behaviors_told : (bs : List Behavior) → AllOf (ClauseFits m p s cells texts pt.stands.is_param) bs
          → all_told m sts (all_clause_trees p s cells texts pt bs rs) ≡ all_inside (clauses_in bs)
      behaviors_told [] h = refl
      behaviors_told (b ∷ bs) h =
          told_append m sts (clause_trees p s cells texts pt false b b.assigns rs) (all_clause_trees p s cells texts pt bs rs)
          ∙ (λ i. told_of b h.0 b.assigns (h.0.regions pt.stands.entry) i && behaviors_told bs h.1 i)
          ∙ sym (all_both (λ g. list_all (region_inside p g) vs) (if is_assumed p at_entry b then granted_by p at_entry granted.blocks 0 b.assigns else []) (clauses_in bs))

      -- ---- all of them

      abbrev first : List Tree
      first = clause_trees p s cells texts pt true contract.plain contract.plain.assigns rs

      abbrev rest : List Tree
      rest = all_clause_trees p s cells texts pt contract.behaviors rs

      none_lacks : (as_ : List acsl.Tree) → lacks_some p s None as_ ≡ false
      none_lacks [] = refl
      none_lacks (a ∷ as_) = (λ i. by (region_variable a) i || none_lacks as_ i) where
        and_not : (a : Bool) → (a && false) ≡ false
        and_not true = refl
        and_not false = refl

        by : (o : Option code.Variable) → lacks_file p s None o ≡ false
        by (Some (variables.Global x)) = and_not (is_plain_variable p s (variables.Global x))
        by (Some (variables.Local x)) = refl
        by None = refl

      refused_told : (o : Option (List acsl.Tree)) → lacks_some p s o rs ≡ true → all_told m sts (clause_trees p s cells texts pt true contract.plain o rs) ≡ false
      refused_told None h = absurd (false≢true (sym (none_lacks rs) ∙ h))
      refused_told (Some ws) h =
          ap (λ t. all_told m sts (map (under true (assumed_at p s cells texts pt.stands contract.plain)) (inside_by t (since pt.stands.entry)
          (regions_in (entry_at p s cells texts pt.stands) ws) inner))) h

      function_told : contract.plain.assumes ≡ [] → AllOf (ClauseFits m p s cells texts pt.stands.is_param) (parts_of contract)
          → all_told m sts (within p s cells texts contract pt of_function rs) ≡ all_inside here.granted
      function_told nothing h =
          unless_told m sts (lacks_some p s contract.plain.assigns rs) (first ++ rest)
          (more_closed first rest (clause_closed contract.plain h.0 true contract.plain.assigns (h.0.regions pt.stands.entry)) (behaviors_closed contract.behaviors h.1))
          (λ t. told_append m sts first rest ∙ ap (λ b. b && all_told m sts rest) (refused_told contract.plain.assigns t))
          ∙ told_append m sts first rest
          ∙ (λ i. plain_of contract.plain h.0 contract.plain.assigns (h.0.regions pt.stands.entry) i && behaviors_told contract.behaviors h.1 i)
          ∙ sym (all_both (λ g. list_all (region_inside p g) vs) (granted_by p at_entry granted.blocks 0 contract.plain.assigns) (clauses_in contract.behaviors))
          ∙ ap (λ (as_ : List acsl.Tree). all_inside ((if list_all (holds p at_entry) as_ then granted_by p at_entry granted.blocks 0 contract.plain.assigns else []) ++ clauses_in
          contract.behaviors)) (sym nothing)
          ∙ sym (ap all_inside granted.granted)

    force_told : (f : Force) → GrantedBy m p s cells texts contract here olds pt.stands.entry f → ForceFits m p s cells texts contract pt f
        → all_told m sts (within p s cells texts contract pt f rs) ≡ all_inside here.granted
    force_told of_function granted h = function_told granted h.0 h.1
    force_told (of_loop sp ws d) granted h = loop_told sp ws d granted (h sp.here sp.entry sp.loop_entry refl)

  inside_by_set : (o : Option (List acsl.Tree))
      → ((h e g : ℕ) → SetRegions m p s cells pt.stands.in_scope (body_reading p s cells texts (at_levels (entered_loop pt) h e (Some g))) o)
      → all_told m sts (inside_trees p s cells texts contract pt (record l { assigns = o })) ≡ loop_inside p here (record l { assigns = o }) c.world
  inside_by_set None h = refl
  inside_by_set (Some rs) h = force_told rs (h 0 pt.stands.entry 0) pt.force site.placed.carried.granted site.fits.force

  pub inside_so : all_told m (st ∷ olds) (inside_trees p s cells texts contract pt l) ≡ loop_inside p here l c.world
  inside_so = inside_by_set l.assigns site.fits.regions
