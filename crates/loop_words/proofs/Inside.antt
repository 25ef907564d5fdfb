-- What is asked of a loop's own set says whether it lies inside the sets in force; what is asked before writes inside of the loop says what the set there
-- lets change; and what is carried along there is known.
use Rattle.std.proofs.Common.{◌≡◌, ℕ, suc, negsuc, Bool, true, false, not, ◌&&◌, ◌||◌, if◌then◌else◌, List, [], ◌∷◌, Option, Some, None, slice_get, refl, sym, ap, ◌∙◌}
use Rattle.std.specs.Prelude.{nat_le}
use Rattle.std.specs.List.{list_all}
use Rattle.wp_base.specs.Blocks.{count}
use Rattle.typed_prog.specs.declared.operators.Variable as code
use Rattle.typed_prog.specs.declared.operators.Variable.TheVariants as variables
use Rattle.acsl_trees.specs.Tree as acsl
use Rattle.c_runs.specs.TruthStates as labelled
use Rattle.qed_terms.specs.Meaning as sense
use Rattle.qed_terms.specs.Meaning.{truth}
use Rattle.qed_terms.specs.Tree.{Tree, false_tree}
use Rattle.c_runs.specs.Program.{Variable, Behavior, Contract, Loop, Facts}
use Rattle.c_runs.specs.States.{World, Here, seen}
use Rattle.c_runs.specs.Claims.{is_assumed, in_state, in_body, regions_of, may_change_local}
use Rattle.goal_segments.specs.Sets.{own_loop, loop_inside}
use Rattle.plain_states.specs.Slots.{State}
use Rattle.plain_states.specs.Scopes.{is_integer}
use Rattle.plain_states.proofs.Scoping.{found_below}
use Rattle.plain_runs.specs.Fitting.{Shape}
use Rattle.plain_runs.specs.Kept.{may_change_global}
use Rattle.walk_steps.specs.State.{at_or}
use Rattle.program_steps.specs.Terms.{Texts, has_variable}
use Rattle.program_steps.specs.Words.{Force, of_function, of_loop, Point, lacks, is_inside, missing, write_trees, in_pass, inside_loop}
use Rattle.program_steps.specs.Standing.{SeenAs}
use Rattle.program_steps.specs.Carried.{GrantedBy, Carried}
use Rattle.program_steps.specs.Placed.{all_told, Placed}
use Rattle.program_steps.specs.Functions.{AllOf, IsKnown, RegionFits, SetFits}
use Rattle.program_steps.proofs.Scoping.{found_at}
use Rattle.loop_words.specs.Sets.{region_variable, lacks_file, lacks_some, is_outside, some_outside, within, inside_trees}
use Rattle.loop_words.proofs.Telling.{clauses_let, AssumesFit, seen_in, missing_tells, within_tells}
use Rattle.loop_words.proofs.Regions.{at_variable, all_named, may_change_it, block_of, Homes, region_is, names_so, set_inside_so}

-- ---- clauses that lack one or another

module _ (p : Facts) (w : labelled.World) where
  abbrev Lacking : Type 0
  Lacking = Option (List acsl.Tree) → Bool

  abbrev lets : Lacking → Behavior → Bool
  lets f b = not (is_assumed p w b) || not (f b.assigns)

  either_lacks : (f g : Lacking) (bs : List Behavior) → list_all (lets (λ o. f o || g o)) bs ≡ (list_all (lets f) bs && list_all (lets g) bs)
  either_lacks f g [] = refl
  either_lacks f g (b ∷ bs) = ap (λ t. lets (λ o. f o || g o) b && t) (either_lacks f g bs)
      ∙ by (is_assumed p w b) (f b.assigns) (g b.assigns) (list_all (lets f) bs) (list_all (lets g) bs) where
        by : (a x y c d : Bool) → ((not a || not (x || y)) && (c && d)) ≡ (((not a || not x) && c) && ((not a || not y) && d))
        by true true y c d = refl
        by true false true true d = refl
        by true false true false d = refl
        by true false false c d = refl
        by false x y c d = refl

  both_let : (f g : Lacking) (c : Contract) → clauses_let p w (λ o. f o || g o) c ≡ (clauses_let p w f c && clauses_let p w g c)
  both_let f g c = ap (λ t. not (f c.plain.assigns || g c.plain.assigns) && t) (either_lacks f g c.behaviors)
      ∙ by (f c.plain.assigns) (g c.plain.assigns) (list_all (lets f) c.behaviors) (list_all (lets g) c.behaviors) where
        by : (x y c d : Bool) → (not (x || y) && (c && d)) ≡ ((not x && c) && (not y && d))
        by true y c d = refl
        by false true true d = refl
        by false true false d = refl
        by false false c d = refl

  none_lack : (bs : List Behavior) → list_all (lets (λ o. false)) bs ≡ true
  none_lack [] = refl
  none_lack (b ∷ bs) = by (is_assumed p w b) (none_lack bs) where
    by : (a : Bool) → list_all (lets (λ o. false)) bs ≡ true → ((not a || true) && list_all (lets (λ o. false)) bs) ≡ true
    by true rest = rest
    by false rest = rest

  abbrev pub file_let : Contract → code.Variable → Bool
  file_let c (variables.Global x) = clauses_let p w (λ o. lacks o (variables.Global x)) c
  file_let c (variables.Local x) = true

  one_let : (c : Contract) (o : Option code.Variable) → clauses_let p w (λ set. lacks_file set o) c ≡ at_variable (file_let c) o
  one_let c (Some (variables.Global x)) = refl
  one_let c (Some (variables.Local x)) = none_lack c.behaviors
  one_let c None = none_lack c.behaviors

  pub sets_let : (c : Contract) (rs : List acsl.Tree) → clauses_let p w (λ o. lacks_some o rs) c ≡ all_named (file_let c) rs
  sets_let c [] = none_lack c.behaviors
  sets_let c (a ∷ rs) = both_let (λ set. lacks_file set (region_variable a)) (λ set. lacks_some set rs) c
      ∙ (λ i. one_let c (region_variable a) i && sets_let c rs i)

-- ---- homes

pub homes_of : (p : Facts) (s : Shape) (globals : list_all is_integer p.globals ≡ true) (q : labelled.State) (file st : State) → SeenAs p s q file st → Homes p s globals q
homes_of p s globals q file st sees = record { is = is } where
  is : (x : code.Variable) → IsKnown p s x → q.home x ≡ negsuc (block_of p s globals x)
  is (variables.Global x) known = let v = found_at p.globals x known in sees.file_homes x v.0 v.1
  is (variables.Local x) known = let v = found_at s.variables x known in sees.homes x v.0 v.1

module _ (m : sense.World) (p : Facts) (s : Shape) (texts : Texts) (globals : list_all is_integer p.globals ≡ true) (c : Contract) (fits : AllOf (AssumesFit m p s texts) c.behaviors) where
  -- ---- writes by the set in force

  abbrev pub write_by : (entry : ℕ) → Force → code.Variable → List Tree
  write_by e of_function x = missing p s texts (suc e) c x
  write_by e (of_loop rs d) x = if has_variable rs x || is_inside p s texts d x then [] else false_tree ∷ []

  write_is : (pt : Point) (w : Force) (x : code.Variable) → write_trees p s texts c (record pt { force = w }) x ≡ write_by pt.entry w x
  write_is pt of_function x = refl
  write_is pt (of_loop rs d) x = refl

  pub writes : (pt : Point) (x : code.Variable) → write_trees p s texts c pt x ≡ write_by pt.entry pt.force x
  writes pt x = write_is pt pt.force x

  told_unless : (sts : List State) (b : Bool) → all_told m sts (if b then [] else false_tree ∷ []) ≡ b
  told_unless sts true = refl
  told_unless sts false = refl

  told_if : (sts : List State) (b : Bool) → all_told m sts (if b then false_tree ∷ [] else []) ≡ not b
  told_if sts true = refl
  told_if sts false = refl

  module _ (q : labelled.State) where
    -- what the set in force lets, told
    abbrev pub force_lets : Force → code.Variable → Bool
    force_lets of_function x = file_let p (in_state p q) c x
    force_lets (of_loop rs d) x = has_variable rs x || is_inside p s texts d x

    pub write_so : (sts : List State) (e : ℕ) → SeenAs p s q (at_or [] sts (suc e)) (at_or [] sts (suc e)) → (w : Force) (x : code.Variable) → all_told m sts (write_by e w x) ≡ force_lets w x
    write_so sts e seen of_function (variables.Global x) = missing_tells m p s texts sts (in_state p q) (suc e) (seen_in m p s texts sts (suc e) q seen) c fits x
    write_so sts e seen of_function (variables.Local x) = refl
    write_so sts e seen (of_loop rs d) x = told_unless sts (has_variable rs x || is_inside p s texts d x)

    outside_so : (ws : List acsl.Tree) (d : ℕ) (rs : List acsl.Tree) → not (some_outside p s texts ws d rs) ≡ all_named (force_lets (of_loop ws d)) rs
    outside_so ws d [] = refl
    outside_so ws d (a ∷ rs) = both (is_outside p s texts ws d (region_variable a)) (some_outside p s texts ws d rs) ∙ (λ i. one (region_variable a) i && outside_so ws d rs i) where
      both : (a b : Bool) → not (a || b) ≡ (not a && not b)
      both true b = refl
      both false b = refl

      twice : (b : Bool) → not (not b) ≡ b
      twice true = refl
      twice false = refl

      one : (o : Option code.Variable) → not (is_outside p s texts ws d o) ≡ at_variable (force_lets (of_loop ws d)) o
      one None = refl
      one (Some x) = twice (has_variable ws x || is_inside p s texts d x)

    within_so : (sts : List State) (e : ℕ) → SeenAs p s q (at_or [] sts (suc e)) (at_or [] sts (suc e)) → (w : Force) (rs : List acsl.Tree)
        → all_told m sts (within p s texts (suc e) c w rs) ≡ all_named (force_lets w) rs
    within_so sts e seen of_function rs =
        within_tells m p s texts sts (in_state p q) (suc e) (seen_in m p s texts sts (suc e) q seen) c fits rs ∙ sets_let p (in_state p q) c rs
    within_so sts e seen (of_loop ws d) rs = told_if sts (some_outside p s texts ws d rs) ∙ outside_so ws d rs

  all_same : (f g : code.Variable → Bool) → ((x : code.Variable) → IsKnown p s x → f x ≡ g x) → (rs : List acsl.Tree) → AllOf (RegionFits p s) rs → all_named f rs ≡ all_named g rs
  all_same f g same [] fit = refl
  all_same f g same (a ∷ rs) fit = λ i. one i && all_same f g same rs fit.1 i where
    one : at_variable f (region_variable a) ≡ at_variable g (region_variable a)
    one = ap (at_variable f) (region_is p s globals a fit.0) ∙ same fit.0.variable fit.0.known ∙ sym (ap (at_variable g) (region_is p s globals a fit.0))

  module _ (pt : Point) (here : Here) (olds : List State) (placed : Placed m p s texts c pt here olds) where
    -- what is granted is what the set in force lets
    pub granted_so : (st : State) (x : code.Variable) → IsKnown p s x → force_lets here.entry pt.force x ≡ may_change_it p here.granted x
    granted_so st (variables.Global x) known =
        let v = found_at p.globals x known in
        sym (write_so here.entry (st ∷ olds) pt.entry placed.entry pt.force (variables.Global x)) ∙ ap (all_told m (st ∷ olds)) (sym (writes pt (variables.Global x))) ∙ placed.globals x v.0 v.1 st
    granted_so st (variables.Local x) known =
        let v = found_at s.variables x known in
        sym (write_so here.entry (st ∷ olds) pt.entry placed.entry pt.force (variables.Local x)) ∙ ap (all_told m (st ∷ olds)) (sym (writes pt (variables.Local x))) ∙ placed.locals x v.0 v.1 st

    module _ (w : World) (st : State) (sees : SeenAs p s (seen p w) st st) where
      homes : Homes p s globals (seen p w)
      homes = homes_of p s globals (seen p w) st st sees

      -- ---- the loop's own set

      inside_by : (l : Loop) (o : Option (List acsl.Tree)) → SetFits p s o
          → all_told m (st ∷ olds) (inside_trees p s texts c pt (record l { assigns = o })) ≡ loop_inside p here (record l { assigns = o }) w
      inside_by l None fit = refl
      inside_by l (Some rs) fit =
          within_so here.entry (st ∷ olds) pt.entry placed.entry pt.force rs
          ∙ all_same (force_lets here.entry pt.force) (may_change_it p here.granted) (granted_so st) rs fit
          ∙ sym (set_inside_so p s globals (in_body p (record here { loop_entry = seen p w }) w) homes here.granted rs fit)

      pub inside_so : (l : Loop) → SetFits p s l.assigns → all_told m (st ∷ olds) (inside_trees p s texts c pt l) ≡ loop_inside p here l w
      inside_so l fit = inside_by l l.assigns fit

      -- ---- in a pass

      module _ (l : Loop) where
        abbrev inside : Loop → Here
        inside l = own_loop p here l w

        own_so : (rs : List acsl.Tree) → AllOf (RegionFits p s) rs → (x : code.Variable) → IsKnown p s x
            → force_lets here.entry (of_loop rs l.declared) x ≡ may_change_it p (inside (record l { assigns = Some rs })).granted x
        own_so rs fit (variables.Global x) known =
            or_none (has_variable rs (variables.Global x))
            ∙ ap (λ b. b && true) (sym (names_so p s globals (in_body p (record here { loop_entry = seen p w }) w) homes (variables.Global x) known rs fit)) where
              or_none : (b : Bool) → (b || false) ≡ (b && true)
              or_none true = refl
              or_none false = refl
        own_so rs fit (variables.Local x) known =
            swap (has_variable rs (variables.Local x)) (nat_le l.declared x)
            ∙ ap (λ b. (nat_le l.declared x || b) && true) (sym (names_so p s globals (in_body p (record here { loop_entry = seen p w }) w) homes (variables.Local x) known rs fit)) where
              swap : (a b : Bool) → (a || b) ≡ ((b || a) && true)
              swap true true = refl
              swap true false = refl
              swap false true = refl
              swap false false = refl

        pass_by : (o : Option (List acsl.Tree)) → SetFits p s o → (x : code.Variable) → IsKnown p s x
            → force_lets here.entry (inside_loop (record l { assigns = o }) pt.force) x ≡ may_change_it p (inside (record l { assigns = o })).granted x
        pass_by None fit x known = granted_so st x known
        pass_by (Some rs) fit x known = own_so rs fit x known

      -- what the set in force inside lets change
      pub inside_lets : (l : Loop) → SetFits p s l.assigns → (x : code.Variable) → IsKnown p s x
          → force_lets here.entry (inside_loop l pt.force) x ≡ may_change_it p (own_loop p here l w).granted x
      inside_lets l fit x known = pass_by l l.assigns fit x known

      -- ---- what the run carries along there

      force_stays : (l : Loop) (f : Force) → GrantedBy p c here f → GrantedBy p c (own_loop p here (record l { assigns = None }) w) f
      force_stays l of_function h = h
      force_stays l (of_loop rs d) h = h

      granted_by_set : (l : Loop) (o : Option (List acsl.Tree)) → SetFits p s o
          → GrantedBy p c (own_loop p here (record l { assigns = o }) w) (inside_loop (record l { assigns = o }) pt.force)
      granted_by_set l None fit = force_stays l pt.force placed.carried.granted
      granted_by_set l (Some rs) fit = (
        record { regions = regions_of p (in_body p (record here { loop_entry = seen p w }) w) rs; count = count w.memory.blocks; declared = l.declared },
        refl,
        λ x v e. names_so p s globals (in_body p (record here { loop_entry = seen p w }) w) homes (variables.Global x) (found_below p.globals x v e) rs fit,
      )

      carried_in_pass : (l : Loop) → SetFits p s l.assigns → Carried p c (own_loop p here l w) pt.self (in_pass l pt)
      carried_in_pass l fit = record { function = placed.carried.function; measure = placed.carried.measure; granted = granted_by_set l l.assigns fit }

      pub placed_in_pass : (l : Loop) → SetFits p s l.assigns → (head : State) → Placed m p s texts c (in_pass l pt) (own_loop p here l w) (head ∷ st ∷ olds)
      placed_in_pass l fit head = record { entry = placed.entry; loop_entry = sees; locals = local; globals = global; carried = carried_in_pass l fit } where
        told : (st' : State) (x : code.Variable) → IsKnown p s x
            → all_told m (st' ∷ head ∷ st ∷ olds) (write_trees p s texts c (in_pass l pt) x) ≡ may_change_it p (own_loop p here l w).granted x
        told st' x known =
            ap (all_told m (st' ∷ head ∷ st ∷ olds)) (writes (in_pass l pt) x)
            ∙ write_so here.entry (st' ∷ head ∷ st ∷ olds) (suc (suc pt.entry)) placed.entry (inside_loop l pt.force) x ∙ inside_lets l fit x known

        local : (x : ℕ) (v : Variable) → slice_get s.variables x ≡ Some v → (st' : State)
            → all_told m (st' ∷ head ∷ st ∷ olds) (write_trees p s texts c (in_pass l pt) (variables.Local x)) ≡ may_change_local p (own_loop p here l w).granted x
        local x v e st' = told st' (variables.Local x) (found_below s.variables x v e)

        global : (x : ℕ) (v : Variable) → slice_get p.globals x ≡ Some v → (st' : State)
            → all_told m (st' ∷ head ∷ st ∷ olds) (write_trees p s texts c (in_pass l pt) (variables.Global x)) ≡ may_change_global (own_loop p here l w).granted x
        global x v e st' = told st' (variables.Global x) (found_below p.globals x v e)
