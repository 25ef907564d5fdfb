-- What is asked of the sets at a call says whether some clause of the function lies in each set in force.
use Rattle.std.proofs.Common.{◌≡◌, ℕ, ℤ, Bool, true, false, not, ◌&&◌, ◌||◌, if◌then◌else◌, List, [], ◌∷◌, ◌++◌, Option, Some, None, refl, sym, ap, ◌∙◌}
use Rattle.std.specs.List.{list_all}
use Rattle.std.proofs.lemmas.Bool.{false≢true, and_parts}
use Rattle.typed_prog.specs.declared.operators.Variable.TheVariants as variables
use Rattle.typed_prog.specs.Tree as t
use Rattle.acsl_trees.specs.Tree as acsl
use Rattle.c_runs.specs.TruthStates as labelled
use Rattle.acsl_encode.specs.Meaning.{Stands}
use Rattle.qed_terms.specs.Meaning as sense
use Rattle.qed_terms.specs.Meaning.{truth}
use Rattle.qed_terms.specs.Tree.{Tree, false_tree}
use Rattle.c_runs.specs.Program.{Behavior, Contract, Function, Facts}
use Rattle.c_runs.specs.States.{Granted, Here}
use Rattle.c_runs.specs.Claims.{holds, is_assumed, in_state, regions_of, granted_by, granted_in, parts_of}
use Rattle.c_runs.specs.Tree.{Steps}
use Rattle.goal_segments.specs.Sets.{some_inside, call_inside}
use Rattle.memory_steps.specs.State.{State}
use Rattle.memory_words.specs.Leaves.{leaves_of}
use Rattle.memory_words.specs.Shapes.{FileCells, Shape}
use Rattle.memory_words.specs.Readings.{Texts, Standpoint, body_reading, entry_reading}
use Rattle.memory_words.specs.Standing.{Frame}
use Rattle.memory_words.specs.Seen.{InSetting, ClaimFits}
use Rattle.memory_words.proofs.Worlds.{annotations_read}
use Rattle.memory_words.specs.Points.{Force, of_function, of_loop, Point}
use Rattle.memory_words.specs.Regions.{any_of, regions_in, regions_inside}
use Rattle.memory_words.specs.Sets.{under, since, entry_at, assumed_at}
use Rattle.memory_words.specs.Typed.{AllOf}
use Rattle.memory_words.specs.Placed.{Openings, Placed, OfFunction, OfLoop, GrantedBy, all_told}
use Rattle.memory_statements.specs.Regions.{set_of}
use Rattle.memory_calls.specs.LoopFits.{SetRegion, SetRegions, ClauseFits, ForceFits}
use Rattle.memory_calls.proofs.Regions.{body_plain, entry_plain, regions_are, regions_closed, names_so}
use Rattle.memory_calls.proofs.Clauses.{since_is}
use Rattle.memory_calls.proofs.Formulas.{assumed_closed, assumed_is}
use Rattle.memory_calls.proofs.LoopInside.{at_level}
use Rattle.memory_calls.specs.Callee.{entered_at}
use Rattle.memory_calls.specs.CallSets.{Around, lies_outside, is_unset, refuses, all_named, clause_in, clauses_in, included, clause_set, included_in, included_in_all, included_by, unless_nothing, inclusion_trees, callee_regions}
use Rattle.memory_calls.specs.CallFits.{CalleeFits}
use Rattle.memory_calls.proofs.Tells.{and_so, all_append, AllTell, under_tells, none_tell, more_tell, both_tell, all_as, unless_tells, one_tells}
use Rattle.memory_calls.proofs.CallInside.{AroundIs, included_tells}

-- ---- a clause that refuses

module _ (p : Facts) (s : Shape) (cells : FileCells) (texts : Texts) (g : Function Steps) (es : t.Values) (around : Around) where
  no_clause : (o : Option (List acsl.Tree)) (b : Behavior) → is_unset o ≡ true → clause_in p s cells texts g es around false b o ≡ []
  no_clause None b h = refl
  no_clause (Some rs) b h = absurd (false≢true h)

  no_clauses : (bs : List Behavior) → list_all (λ (b : Behavior). is_unset b.assigns) bs ≡ true → clauses_in p s cells texts g es around bs ≡ []
  no_clauses [] h = refl
  no_clauses (b ∷ bs) h =
      let parts = and_parts (is_unset b.assigns) (list_all (λ (b : Behavior). is_unset b.assigns) bs) h in
      (λ i. no_clause b.assigns b parts.0 i ++ no_clauses bs parts.1 i)

  not_so : (b : Bool) → not b ≡ true → b ≡ false
  not_so true h = absurd (false≢true h)
  not_so false h = refl

  plain_false : (b : Behavior) (o : Option (List acsl.Tree)) → lies_outside p s around.names o ≡ true → any_of (clause_in p s cells texts g es around true b o ++ []) ≡ false_tree
  plain_false b None h = refl
  plain_false b (Some rs) h = by (all_named p s around.names rs) (not_so (all_named p s around.names rs) h) where
    by : (c : Bool) → c ≡ false → (if c then regions_inside around.count around.regions (callee_regions p s cells texts g es 0 rs) else false_tree) ≡ false_tree
    by true e = absurd (false≢true (sym e))
    by false e = refl

  included_false : refuses p s g.contract (Some around.names) ≡ true → included p s cells texts g es around ≡ false_tree
  included_false h =
      let parts = and_parts (lies_outside p s around.names g.contract.plain.assigns) (list_all (λ (b : Behavior). is_unset b.assigns) g.contract.behaviors) h in
      ap (λ cs. any_of (clause_in p s cells texts g es around true g.contract.plain g.contract.plain.assigns ++ cs)) (no_clauses g.contract.behaviors parts.1)
      ∙ plain_false g.contract.plain g.contract.plain.assigns parts.0

module _ (m : sense.World) (p : Facts) (s : Shape) (cells : FileCells) (texts : Texts) (contract : Contract) (here : Here) (pt : Point) (olds : List State) (fr : Frame)
    (os : Openings) (setting : InSetting m p s cells) (placed : Placed m p s cells texts contract pt here olds fr os) (g : Function Steps) (es : t.Values) (st : State)
    (w : labelled.World) (stands : (a : acsl.Tree) → Stands m (entered_at p s cells texts g es 0 a) (leaves_of (st ∷ olds)) w) (fits : CalleeFits m p s cells texts g es) (n : ℤ) where
  abbrev sts : List State
  sts = st ∷ olds

  abbrev clauses : List Granted
  clauses = granted_in p w n (parts_of g.contract)

  abbrev lets : Granted → Bool
  lets g0 = some_inside p clauses g0

  -- ---- how the caller's clauses are read

  abbrev at_entry : labelled.World
  at_entry = in_state p here.entry

  pub entry_read : (a : acsl.Tree) → Stands m (entry_at p s cells texts pt.stands a) (leaves_of sts) at_entry
  entry_read a =
      let sees = placed.entry st in
      (annotations_read m p s cells texts setting sts at_entry a).entry pt.stands.entry pt.stands.is_param
      (record { file = record { model = refl; structs = λ n. refl }; here_is = sees; pre_is = sees; post_is = sees; loop_is = sees })

  -- ---- in the set of a loop

  module _ (sp : Standpoint) (ws : List acsl.Tree) (d : ℕ) (granted : OfLoop m p s cells texts contract here olds sp ws d)
      (ok : AllOf (SetRegion m p s cells sp.in_scope (body_reading p s cells texts sp)) ws) where
    loop_read : (a : acsl.Tree) → Stands m (body_reading p s cells texts sp a) (leaves_of sts) granted.world
    loop_read a = (annotations_read m p s cells texts setting sts granted.world a).body sp (granted.seen st)

    abbrev loop_set : Around
    loop_set = record { names = ws; regions = regions_in (body_reading p s cells texts sp) ws; count = since sp.here }

    loop_is : AroundIs m p s cells texts g es sts w stands fits n loop_set (regions_of p granted.world ws) granted.blocks
    loop_is = record {
      closed_count = refl;
      closed_regions = regions_closed m p s cells sp.in_scope (body_reading p s cells texts sp) (body_plain p s cells texts sp) sts granted.world loop_read ws ok;
      are = regions_are m p s cells sp.in_scope (body_reading p s cells texts sp) (body_plain p s cells texts sp) sts granted.world loop_read ws ok;
      count_is = λ has. since_is m sts sp.here ∙ sym (granted.since has st);
      names = λ x plain. names_so m p s cells sp.in_scope (body_reading p s cells texts sp) (body_plain p s cells texts sp) sts granted.world loop_read (variables.Global x) plain ws ok;
    }

    loop_told : all_told m sts (included_by p s cells texts g es pt.stands contract (of_loop sp ws d)) ≡ call_inside p here.granted clauses
    loop_told =
        let set = set_of (regions_of p granted.world ws) granted.blocks d in
        one_tells m sts (included p s cells texts g es loop_set) (lets set)
        (included_tells m p s cells texts g es sts w stands fits n loop_set (regions_of p granted.world ws) granted.blocks loop_is d)
        ∙ sym (and_so (lets set)) ∙ sym (ap (λ gs. call_inside p gs clauses) granted.granted)

  -- ---- in the function's clauses

  module _ (granted : OfFunction m p s cells texts contract here olds pt.stands.entry) where
    abbrev clause_is : (ws : List acsl.Tree) → Granted
    clause_is ws = set_of (regions_of p at_entry ws) granted.blocks 0

    around_is : (ws : List acsl.Tree) → AllOf (SetRegion m p s cells pt.stands.is_param (entry_at p s cells texts pt.stands)) ws
        → AroundIs m p s cells texts g es sts w stands fits n (clause_set p s cells texts g es pt.stands ws) (regions_of p at_entry ws) granted.blocks
    around_is ws ok =
        let plain = entry_plain p s cells texts pt.stands.entry pt.stands.is_param in record {
          closed_count = refl;
          closed_regions = regions_closed m p s cells pt.stands.is_param (entry_at p s cells texts pt.stands) plain sts at_entry entry_read ws ok;
          are = regions_are m p s cells pt.stands.is_param (entry_at p s cells texts pt.stands) plain sts at_entry entry_read ws ok;
          count_is = λ has. since_is m sts pt.stands.entry ∙ sym (granted.since has st);
          names = λ x is. names_so m p s cells pt.stands.is_param (entry_at p s cells texts pt.stands) plain sts at_entry entry_read (variables.Global x) is ws ok;
        }

    assumes_fit : (b : Behavior) → ClauseFits m p s cells texts pt.stands.is_param b → AllOf (ClaimFits m p (entry_at p s cells texts pt.stands)) b.assumes
    assumes_fit b clause = at_level (λ level a. ClaimFits m p (entry_reading p s cells texts level pt.stands.is_param) a) b.assumes clause.assumes pt.stands.entry

    own_tells : (plain : Bool) (b : Behavior) → ClauseFits m p s cells texts pt.stands.is_param b → (plain ≡ true → is_assumed p at_entry b ≡ true) → (o : Option (List acsl.Tree))
        → SetRegions m p s cells pt.stands.is_param (entry_at p s cells texts pt.stands) o
        → AllTell m sts (included_in p s cells texts g es pt.stands plain b o) (list_all lets (if is_assumed p at_entry b then granted_by p at_entry granted.blocks 0 o else []))
    own_tells plain b clause so None ok = by (is_assumed p at_entry b) where
      by : (a : Bool) → AllTell m sts [] (list_all lets (if a then [] else []))
      by true = none_tell m sts
      by false = none_tell m sts
    own_tells plain b clause so (Some ws) ok =
        let around = clause_set p s cells texts g es pt.stands ws in
        let a = assumed_at p s cells texts pt.stands b in
        let f = under plain a (included p s cells texts g es around) in
        all_as m sts (f ∷ []) ((not (is_assumed p at_entry b) || lets (clause_is ws)) && true) (list_all lets (if is_assumed p at_entry b then granted_by p at_entry granted.blocks 0 (Some ws) else []))
        (by (is_assumed p at_entry b))
        (more_tell m sts f [] (not (is_assumed p at_entry b) || lets (clause_is ws)) true
        (under_tells m sts plain a (included p s cells texts g es around) (is_assumed p at_entry b) (lets (clause_is ws))
        (record {
          closed_so = assumed_closed m sts p (entry_at p s cells texts pt.stands) at_entry entry_read b.assumes (assumes_fit b clause);
          true_so = assumed_is m sts p (entry_at p s cells texts pt.stands) at_entry entry_read b.assumes (assumes_fit b clause);
        })
        (included_tells m p s cells texts g es sts w stands fits n around (regions_of p at_entry ws) granted.blocks (around_is ws ok) 0) so)
        (none_tell m sts))
      where
        by : (a : Bool) → ((not a || lets (clause_is ws)) && true) ≡ list_all lets (if a then granted_by p at_entry granted.blocks 0 (Some ws) else [])
        by true = refl
        by false = refl

    owns_tell : (bs : List Behavior) → AllOf (ClauseFits m p s cells texts pt.stands.is_param) bs
        → AllTell m sts (included_in_all p s cells texts g es pt.stands bs) (list_all lets (granted_in p at_entry granted.blocks bs))
    owns_tell [] fit = none_tell m sts
    owns_tell (b ∷ bs) fit =
        let first = if is_assumed p at_entry b then granted_by p at_entry granted.blocks 0 b.assigns else [] in
        all_as m sts (included_in_all p s cells texts g es pt.stands (b ∷ bs)) (list_all lets first && list_all lets (granted_in p at_entry granted.blocks bs))
        (list_all lets (granted_in p at_entry granted.blocks (b ∷ bs))) (sym (all_append lets first (granted_in p at_entry granted.blocks bs)))
        (both_tell m sts (included_in p s cells texts g es pt.stands false b b.assigns) (included_in_all p s cells texts g es pt.stands bs) (list_all lets first)
        (list_all lets (granted_in p at_entry granted.blocks bs)) (own_tells false b fit.0 (λ e. absurd (false≢true e)) b.assigns (fit.0.regions pt.stands.entry)) (owns_tell bs fit.1))

    refused_so : (b : Behavior) (o : Option (List acsl.Tree)) (rest : List Tree) → refuses p s g.contract o ≡ true
        → list_all (truth m (leaves_of sts)) (included_in p s cells texts g es pt.stands true b o ++ rest) ≡ false
    refused_so b None rest h = absurd (false≢true h)
    refused_so b (Some ws) rest h =
        ap (λ f. list_all (truth m (leaves_of sts)) (under true (assumed_at p s cells texts pt.stands b) f ∷ rest))
        (included_false p s cells texts g es (clause_set p s cells texts g es pt.stands ws) h)

    function_told : contract.plain.assumes ≡ [] → AllOf (ClauseFits m p s cells texts pt.stands.is_param) (parts_of contract)
        → all_told m sts (included_by p s cells texts g es pt.stands contract of_function) ≡ call_inside p here.granted clauses
    function_told none fit =
        let own = included_in p s cells texts g es pt.stands true contract.plain contract.plain.assigns in
        let rest = included_in_all p s cells texts g es pt.stands contract.behaviors in
        let first = if is_assumed p at_entry contract.plain then granted_by p at_entry granted.blocks 0 contract.plain.assigns else [] in
        unless_tells m sts (refuses p s g.contract contract.plain.assigns) (own ++ rest) (list_all lets (granted_in p at_entry granted.blocks (parts_of contract)))
        (refused_so contract.plain contract.plain.assigns rest)
        (all_as m sts (own ++ rest) (list_all lets first && list_all lets (granted_in p at_entry granted.blocks contract.behaviors))
        (list_all lets (granted_in p at_entry granted.blocks (parts_of contract))) (sym (all_append lets first (granted_in p at_entry granted.blocks contract.behaviors)))
        (both_tell m sts own rest (list_all lets first) (list_all lets (granted_in p at_entry granted.blocks contract.behaviors))
        (own_tells true contract.plain fit.0 (λ e. ap (list_all (holds p at_entry)) none) contract.plain.assigns (fit.0.regions pt.stands.entry)) (owns_tell contract.behaviors fit.1)))
        ∙ sym (ap (λ gs. call_inside p gs clauses) granted.granted)

  force_told : (f : Force) → GrantedBy m p s cells texts contract here olds pt.stands.entry f → ForceFits m p s cells texts contract pt f
      → all_told m sts (included_by p s cells texts g es pt.stands contract f) ≡ call_inside p here.granted clauses
  force_told of_function granted h = function_told granted h.0 h.1
  force_told (of_loop sp ws d) granted h = loop_told sp ws d granted (h sp.here sp.entry sp.loop_entry refl)

  -- nothing lies in each set
  nothing_inside : (gs : List Granted) → g.contract.plain.assigns ≡ Some [] → call_inside p gs clauses ≡ true
  nothing_inside [] e = refl
  nothing_inside (g0 ∷ gs) e = ap (λ b. b && call_inside p gs clauses) first ∙ nothing_inside gs e where
    assumed : is_assumed p w g.contract.plain ≡ true
    assumed = ap (list_all (holds p w)) fits.assumes

    first : some_inside p clauses g0 ≡ true
    first = λ i. some_inside p ((if assumed i then granted_by p w n 0 (e i) else []) ++ granted_in p w n g.contract.behaviors) g0

  pub inclusion_told : ForceFits m p s cells texts contract pt pt.force → all_told m sts (inclusion_trees p s cells texts g es contract pt) ≡ call_inside p here.granted clauses
  inclusion_told h = by g.contract.plain.assigns refl where
    told : all_told m sts (included_by p s cells texts g es pt.stands contract pt.force) ≡ call_inside p here.granted clauses
    told = force_told pt.force placed.carried.granted h

    by : (o : Option (List acsl.Tree)) → g.contract.plain.assigns ≡ o
        → all_told m sts (unless_nothing p s cells texts g es o (included_by p s cells texts g es pt.stands contract pt.force)) ≡ call_inside p here.granted clauses
    by None e = told
    by (Some []) e = sym (nothing_inside here.granted e)
    by (Some (r ∷ rs)) e = told
