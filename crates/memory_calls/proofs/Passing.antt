-- Where the statements of a pass stand: what is asked before writes inside of the loop says what the set there lets change, and what is carried along is known.
use Rattle.std.proofs.Common.{◌≡◌, ℕ, suc, ◌<◌, pos, Bool, true, false, ◌&&◌, ◌||◌, if◌then◌else◌, List, [], ◌∷◌, Option, Some, None, slice_get, refl, sym, ap, ◌∙◌, subst, arith}
use Rattle.std.specs.Prelude.{nat_le, int_lt, int_le}
use Rattle.std.proofs.lemmas.Bool.{false≢true}
use Rattle.wp_base.specs.declared.kinds.CellKind.{CellKind}
use Rattle.wp_base.specs.Blocks.{Table, count, block_cells, has_cell}
use Rattle.typed_prog.specs.declared.operators.Variable as code
use Rattle.typed_prog.specs.declared.operators.Variable.TheVariants as variables
use Rattle.acsl_trees.specs.Tree as acsl
use Rattle.c_runs.specs.TruthStates as labelled
use Rattle.c_runs.specs.TruthStates.{is_negative}
use Rattle.c_runs.specs.TruthAllowed.{is_named, lies_in}
use Rattle.acsl_encode.specs.Meaning.{HasAddress, Stands}
use Rattle.qed_terms.specs.Meaning as sense
use Rattle.qed_terms.specs.Meaning.{value}
use Rattle.qed_terms.specs.Tree.{Tree, false_tree}
use Rattle.c_runs.specs.Program.{Variable, Contract, Loop, Facts}
use Rattle.c_runs.specs.States.{Here, seen, global_home}
use Rattle.c_runs.specs.Claims.{in_body, regions_of, may_change, may_change_local}
use Rattle.c_runs.specs.Objects.{is_plain_in}
use Rattle.c_runs.specs.CoreRun.{CoreWorld}
use Rattle.c_runs.specs.Tree.{Steps}
use Rattle.goal_segments.specs.Sets.{own_loop}
use Rattle.typed_memories.specs.Changes.{LacksSince}
use Rattle.typed_memories.proofs.Tables.{no_cell_beyond}
use Rattle.typed_memories.proofs.Tests.{on_test}
use Rattle.program_steps.specs.Temporaries.{Temporaries, no_temporaries, all_live}
use Rattle.memory_steps.specs.State.{State}
use Rattle.memory_words.specs.Leaves.{leaves_of, is_closed}
use Rattle.memory_words.specs.Shapes.{FileCells, Shape}
use Rattle.memory_words.specs.Readings.{Texts, hidden_block, body_reading}
use Rattle.memory_words.specs.Standing.{Frame}
use Rattle.memory_words.specs.Seen.{SeenInBody, BodySeen}
use Rattle.memory_words.proofs.Seeing.{bodies_see}
use Rattle.memory_words.proofs.Worlds.{annotations_read}
use Rattle.memory_words.specs.Points.{Force, of_function, of_loop, Point, uses_of, later, later_force, remembered}
use Rattle.memory_words.specs.Sets.{has_variable, since, variable_trees, cell_trees}
use Rattle.memory_words.specs.Words.{entered_loop, at_loop, in_pass}
use Rattle.memory_words.specs.Typed.{AllOf, is_plain_variable}
use Rattle.memory_words.specs.Placed.{Openings, all_told, GrantedBy, Placed}
use Rattle.memory_calls.proofs.Homes.{cell_of_plain}
use Rattle.memory_calls.specs.LoopFits.{at_levels, SetRegion, SetRegions}
use Rattle.memory_calls.proofs.Sites.{Site}
use Rattle.memory_statements.proofs.Remembering.{places_are_remembered}
use Rattle.memory_calls.proofs.Regions.{body_plain, global_hidden, names_so}
use Rattle.memory_calls.proofs.Clauses.{since_is, clause_told}

module _ (m : sense.World) (p : Facts) (s : Shape) (cells : FileCells) (texts : Texts) (contract : Contract) (here : Here) (pt : Point) (olds : List State) (fr : Frame)
    (os : Openings) (l : Loop) (ss : Steps) (c : CoreWorld) (st : State) (site : Site m p s cells texts contract here pt olds fr os l ss c st) where
  -- ---- what is seen of the loop's entry

  abbrev used : Temporaries
  used = all_live ss (uses_of pt.outs) no_temporaries

  in_scope_is : fr.in_scope ≡ pt.stands.in_scope
  in_scope_is = λ i x. site.placed.scope x i

  pub entry_sees : SeenInBody m p s cells texts pt.stands.in_scope st (seen p c.world)
  entry_sees = subst (λ i. SeenInBody m p s cells texts i st (seen p c.world)) in_scope_is (bodies_see m p s cells texts site.setting fr site.placed.lives used c st site.stands)

  -- the world that its set is read in
  abbrev pub entered : labelled.World
  entered = in_body p (record here { loop_entry = seen p c.world }) c.world

  -- where more states are remembered
  pub entered_seen : (st' : State) → BodySeen m p s cells texts (later (entered_loop pt)) (st' ∷ st ∷ olds) entered
  entered_seen st' = record {
    file = record { model = refl; structs = λ n. refl };
    here_is = entry_sees;
    pre_is = site.placed.entry st;
    post_is = entry_sees;
    loop_is = entry_sees;
  }

  entered_read : (st' : State) (a : acsl.Tree) → Stands m (body_reading p s cells texts (later (entered_loop pt)) a) (leaves_of (st' ∷ st ∷ olds)) entered
  entered_read st' a = (annotations_read m p s cells texts site.setting (st' ∷ st ∷ olds) entered a).body (later (entered_loop pt)) (entered_seen st')

  base : Placed m p s cells texts contract (remembered pt) here (st ∷ olds) fr os
  base = places_are_remembered m p s cells texts contract pt here olds fr os site.placed st

  -- a file that has a kind of cells has blocks
  pub has_blocks : (k : CellKind) → cells.has_kind k ≡ true → cells.has_blocks ≡ true
  has_blocks k h = on_test cells.has_blocks (λ t. t) (λ t. absurd (false≢true (sym (site.setting.no_kinds t k) ∙ h)))

  -- blocks that are newer than the loop's entry have no cells
  pub newer_none : (k : CellKind) → cells.has_kind k ≡ true → LacksSince k st.table fr.table
  newer_none k h b o newer =
      ap (λ x. has_cell k (block_cells x) o) (sym (site.stands.blocks_are.live b))
      ∙ no_cell_beyond k c.world.memory.blocks b o (sym (ap (λ (t : Table). int_lt b (count t)) (site.stands.table_is (has_blocks k h))) ∙ newer)

  -- ---- with a set of its own

  module _ (rs : List acsl.Tree) (fits : (h e g : ℕ) → AllOf (SetRegion m p s cells pt.stands.in_scope (body_reading p s cells texts (at_levels (entered_loop pt) h e (Some g)))) rs) where
    abbrev of_own : Loop
    of_own = record l { assigns = Some rs }

    fits_later : AllOf (SetRegion m p s cells pt.stands.in_scope (body_reading p s cells texts (later (entered_loop pt)))) rs
    fits_later = fits 1 (suc pt.stands.entry) 1

    told_unless : (sts : List State) (b : Bool) → all_told m sts (if b then [] else false_tree ∷ []) ≡ b
    told_unless sts true = refl
    told_unless sts false = refl

    swapped : (a b : Bool) → (a || b) ≡ ((b || a) && true)
    swapped true true = refl
    swapped true false = refl
    swapped false true = refl
    swapped false false = refl

    name_is : (st' : State) (x : code.Variable) → is_plain_variable p s x ≡ true → has_variable rs x ≡ is_named (regions_of p entered rs) (hidden_block p s cells x)
    name_is st' x plain =
        sym (names_so m p s cells pt.stands.in_scope (body_reading p s cells texts (later (entered_loop pt))) (body_plain p s cells texts (later (entered_loop pt)))
        (st' ∷ st ∷ olds) entered (entered_read st') x plain rs fits_later)

    own_locals : (x : ℕ) (v : Variable) → slice_get s.variables x ≡ Some v → v.is_plain ≡ true → (st' : State)
        → all_told m (st' ∷ st ∷ olds) (variable_trees p s cells texts contract (remembered (at_loop of_own pt)) (variables.Local x))
        ≡ may_change_local p (own_loop p here of_own c.world).granted x
    own_locals x v e plain st' =
        told_unless (st' ∷ st ∷ olds) (has_variable rs (variables.Local x) || nat_le l.declared x)
        ∙ swapped (has_variable rs (variables.Local x)) (nat_le l.declared x)
        ∙ ap (λ t. (nat_le l.declared x || t) && true) (name_is st' (variables.Local x) (ap is_plain_in e ∙ plain))

    own_globals : (x : ℕ) (v : Variable) → slice_get p.globals x ≡ Some v → v.is_plain ≡ true → (k : CellKind) (st' : State)
        → all_told m (st' ∷ st ∷ olds) (variable_trees p s cells texts contract (remembered (at_loop of_own pt)) (variables.Global x))
        ≡ may_change (own_loop p here of_own c.world).granted k (global_home p x) (pos 0)
    own_globals x v e plain k st' =
        let plain_x : is_plain_variable p s (variables.Global x) ≡ true = ap is_plain_in e ∙ plain in
        told_unless (st' ∷ st ∷ olds) (has_variable rs (variables.Global x) || false)
        ∙ or_none (has_variable rs (variables.Global x))
        ∙ ap (λ t. t && true) (name_is st' (variables.Global x) plain_x ∙ ap (is_named (regions_of p entered rs)) (global_hidden p s cells x plain_x))
        ∙ sym (let h = cell_of_plain p x v e plain in
        ap (λ t. (if t then is_named (regions_of p entered rs) (global_home p x)
        else int_le (count c.world.memory.blocks) (global_home p x) || lies_in (regions_of p entered rs) k (global_home p x) (pos 0)) && true)
        (ap is_negative h.1)) where
          or_none : (b : Bool) → (b || false) ≡ (b && true)
          or_none true = refl
          or_none false = refl

    own_written : cells.has_blocks ≡ true → (k : CellKind) (b o : Tree) → is_closed [] b ≡ true → is_closed [] o ≡ true → (st' : State)
        → HasAddress (value m (leaves_of (st' ∷ st ∷ olds)) b)
        → all_told m (st' ∷ st ∷ olds) (cell_trees p s cells texts contract (remembered (at_loop of_own pt)) k b o)
        ≡ may_change (own_loop p here of_own c.world).granted k (value m (leaves_of (st' ∷ st ∷ olds)) b) (value m (leaves_of (st' ∷ st ∷ olds)) o)
    own_written has k b o closed_b closed_o st' address =
        ap (λ t. t && true)
        (clause_told m p s cells pt.stands.in_scope (body_reading p s cells texts (later (entered_loop pt))) (body_plain p s cells texts (later (entered_loop pt)))
        (st' ∷ st ∷ olds) entered (entered_read st') rs fits_later (since 1) refl (count c.world.memory.blocks)
        (since_is m (st' ∷ st ∷ olds) 1 ∙ ap count (site.stands.table_is has)) l.declared k b o closed_b closed_o address)

    placed_own : Placed m p s cells texts contract (remembered (at_loop of_own pt)) (own_loop p here of_own c.world) (st ∷ olds) fr os
    placed_own = record {
      present = refl;
      scope = base.scope;
      lives = base.lives;
      entry_there = base.entry_there;
      entry = base.entry;
      loop_entry = λ st'. entry_sees;
      locals = own_locals;
      globals = own_globals;
      written = own_written;
      since_entry = base.since_entry;
      since_force = λ k has own st'. (let l : 1 < suc (suc _) = omega arith in l, newer_none k has);
      opened = base.opened;
      outs = base.outs;
      carried = record {
        function = site.placed.carried.function;
        measure = site.placed.carried.measure;
        granted = record {
          world = entered;
          blocks = count c.world.memory.blocks;
          seen = entered_seen;
          granted = refl;
          since = λ has st'. ap count (sym (site.stands.table_is has));
        };
      };
    }

  -- ---- without one

  abbrev of_none : Loop
  of_none = record l { assigns = None }

  same_variables : (f : Force) (x : code.Variable)
      → variable_trees p s cells texts contract (remembered (record pt { stands = entered_loop pt; force = f })) x
      ≡ variable_trees p s cells texts contract (remembered (record pt { force = f })) x
  same_variables of_function (variables.Global x) = refl
  same_variables of_function (variables.Local x) = refl
  same_variables (of_loop sp rs d) x = refl

  same_cells : (f : Force) (k : CellKind) (b o : Tree)
      → cell_trees p s cells texts contract (remembered (record pt { stands = entered_loop pt; force = f })) k b o
      ≡ cell_trees p s cells texts contract (remembered (record pt { force = f })) k b o
  same_cells of_function k b o = refl
  same_cells (of_loop sp rs d) k b o = refl

  granted_there : (e : ℕ) (f : Force) → GrantedBy m p s cells texts contract here (st ∷ olds) e f
      → GrantedBy m p s cells texts contract (own_loop p here of_none c.world) (st ∷ olds) e f
  granted_there e of_function h = record { blocks = h.blocks; granted = h.granted; since = h.since }
  granted_there e (of_loop sp rs d) h = record { world = h.world; blocks = h.blocks; seen = h.seen; granted = h.granted; since = h.since }

  placed_none : Placed m p s cells texts contract (remembered (at_loop of_none pt)) (own_loop p here of_none c.world) (st ∷ olds) fr os
  placed_none = record {
    present = refl;
    scope = base.scope;
    lives = base.lives;
    entry_there = base.entry_there;
    entry = base.entry;
    loop_entry = λ st'. entry_sees;
    locals = λ x v e plain st'. ap (all_told m (st' ∷ st ∷ olds)) (same_variables pt.force (variables.Local x)) ∙ base.locals x v e plain st';
    globals = λ x v e plain k st'. ap (all_told m (st' ∷ st ∷ olds)) (same_variables pt.force (variables.Global x)) ∙ base.globals x v e plain k st';
    written = λ has k b o closed_b closed_o st' address.
        ap (all_told m (st' ∷ st ∷ olds)) (same_cells pt.force k b o) ∙ base.written has k b o closed_b closed_o st' address;
    since_entry = base.since_entry;
    since_force = base.since_force;
    opened = base.opened;
    outs = base.outs;
    carried = record {
      function = base.carried.function;
      measure = base.carried.measure;
      granted = granted_there (suc pt.stands.entry) (later_force pt.force) base.carried.granted;
    };
  }

  placed_by : (o : Option (List acsl.Tree))
      → ((h e g : ℕ) → SetRegions m p s cells pt.stands.in_scope (body_reading p s cells texts (at_levels (entered_loop pt) h e (Some g))) o)
      → Placed m p s cells texts contract (remembered (at_loop (record l { assigns = o }) pt)) (own_loop p here (record l { assigns = o }) c.world) (st ∷ olds) fr os
  placed_by None fits = placed_none
  placed_by (Some rs) fits = placed_own rs fits

  pub placed_in_pass : (head : State) → Placed m p s cells texts contract (in_pass l pt) (own_loop p here l c.world) (head ∷ st ∷ olds) fr os
  placed_in_pass head =
      places_are_remembered m p s cells texts contract (remembered (at_loop l pt)) (own_loop p here l c.world) (st ∷ olds) fr os (placed_by l.assigns site.fits.regions) head
