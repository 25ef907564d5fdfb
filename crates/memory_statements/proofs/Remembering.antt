-- Where a statement stands, with one more state that is remembered, and inside of a scope.
use Rattle.std.proofs.Common.{◌≡◌, ℕ, suc, ℤ, true, false, List, [], ◌∷◌, map, Option, Some, None, refl, ap, ◌∙◌, arith}
use Rattle.std.specs.Option.{option_map}
use Rattle.wp_base.specs.declared.kinds.CellKind.{CellKind}
use Rattle.wp_base.specs.Blocks.{Table, has_layout}
use Rattle.typed_prog.specs.declared.operators.Variable as code
use Rattle.typed_prog.specs.declared.operators.Variable.TheVariants as variables
use Rattle.qed_terms.specs.Meaning as sense
use Rattle.qed_terms.specs.Meaning.{value}
use Rattle.qed_terms.specs.Tree.{Tree, num}
use Rattle.c_runs.specs.TruthStates as labelled
use Rattle.c_runs.specs.Program.{Contract, Facts}
use Rattle.c_runs.specs.States.{Here}
use Rattle.typed_memories.specs.Changes.{LacksSince}
use Rattle.memory_steps.specs.State.{State}
use Rattle.memory_words.specs.Leaves.{leaves_of}
use Rattle.memory_words.specs.Shapes.{FileCells, Shape}
use Rattle.memory_words.specs.Readings.{InScope, Texts, Standpoint}
use Rattle.memory_words.specs.Standing.{Frame}
use Rattle.memory_words.specs.Seen.{SeenAtLoop, BodySeen}
use Rattle.memory_words.specs.Points.{Open, Out, Force, of_function, of_loop, Point, later, at_present, deeper, deeper_out, later_force, remembered}
use Rattle.memory_words.specs.Sets.{variable_trees, cell_trees}
use Rattle.memory_words.specs.Words.{own_kind}
use Rattle.memory_words.specs.Placed.{Opening, Openings, AreOpen, AllOpen, table_behind, all_told, GrantedBy, SinceForce, Placed}
use Rattle.memory_statements.specs.ScopeLaws.{PlacesAreRemembered}
use Rattle.memory_statements.proofs.ShiftedSets.{variables_told, cells_told}
use Rattle.memory_statements.proofs.Addresses.{told_by_values}

-- ---- open scopes

module _ (p : Facts) (s : Shape) (cells : FileCells) (olds : List State) (i : InScope) (homes : ℕ → ℤ) where
  pub open_later : (st : State) (t : Table) (os : List Open) (qs : List Opening) → AreOpen p s cells olds i homes t os qs → AreOpen p s cells (st ∷ olds) i homes t (map deeper os) qs
  open_later st t [] [] h = tt
  open_later st t [] (q ∷ qs) h = absurd h
  open_later st t (o ∷ os) [] h = absurd h
  open_later st t (o ∷ os) (q ∷ qs) h = (
    record {
      in_blocks = h.0.in_blocks;
      level_there = let l = h.0.level_there in omega (arith, l);
      level_is = h.0.level_is;
      good = h.0.good;
      blocks = h.0.blocks;
      kinds = h.0.kinds;
      of_file = h.0.of_file;
      around = h.0.around;
      scoped = h.0.scoped;
      living = h.0.living;
    },
    open_later st q.around os qs h.1,
  )

  all_later : (st : State) (t : Table) (os : List Out) (qss : List (List Opening)) → AllOpen p s cells olds i homes t os qss → AllOpen p s cells (st ∷ olds) i homes t (map deeper_out os) qss
  all_later st t [] [] h = tt
  all_later st t [] (q ∷ qs) h = absurd h
  all_later st t (o ∷ os) [] h = absurd h
  all_later st t (o ∷ os) (q ∷ qs) h = (open_later st t o.scopes q h.0, all_later st (table_behind t q) os qs h.1)

  -- more variables are in scope, and those that were have their blocks
  module _ (j : InScope) (homes' : ℕ → ℤ) (more : (x : ℕ) → i x ≡ true → j x ≡ true) (kept : (x : ℕ) → i x ≡ true → homes' x ≡ homes x) where
    pub open_inside : (t : Table) (os : List Open) (qs : List Opening) → AreOpen p s cells olds i homes t os qs → AreOpen p s cells olds j homes' t os qs
    open_inside t [] [] h = tt
    open_inside t [] (q ∷ qs) h = absurd h
    open_inside t (o ∷ os) [] h = absurd h
    open_inside t (o ∷ os) (q ∷ qs) h = (
      record {
        in_blocks = h.0.in_blocks;
        level_there = h.0.level_there;
        level_is = h.0.level_is;
        good = h.0.good;
        blocks = h.0.blocks;
        kinds = h.0.kinds;
        of_file = h.0.of_file;
        around = h.0.around;
        scoped = λ x l. more x (h.0.scoped x l);
        living = λ x v e plain l. ap (λ b. has_layout q.around b v.layout) (kept x (h.0.scoped x l)) ∙ h.0.living x v e plain l;
      },
      open_inside q.around os qs h.1,
    )

    pub all_inside : (t : Table) (os : List Out) (qss : List (List Opening)) → AllOpen p s cells olds i homes t os qss → AllOpen p s cells olds j homes' t os qss
    all_inside t [] [] h = tt
    all_inside t [] (q ∷ qs) h = absurd h
    all_inside t (o ∷ os) [] h = absurd h
    all_inside t (o ∷ os) (q ∷ qs) h = (open_inside t o.scopes q h.0, all_inside (table_behind t q) os qs h.1)

-- ---- one more state is remembered

module _ (m : sense.World) (p : Facts) (s : Shape) (cells : FileCells) (texts : Texts) (contract : Contract) (pt : Point) (here : Here) (olds : List State) (fr : Frame) (os : Openings)
    (placed : Placed m p s cells texts contract pt here olds fr os) (st : State) where
  loop_later : (o : Option ℕ) (q : labelled.State) (st' : State) → SeenAtLoop m p s cells texts pt.stands (st ∷ olds) o q
      → SeenAtLoop m p s cells texts (at_present pt.stands) (st' ∷ st ∷ olds) (option_map suc o) q
  loop_later (Some l) q st' h = h
  loop_later None q st' h = h

  since_later : (k : CellKind) (st' : State) (force : Force) → SinceForce k (st ∷ olds) fr.table force → SinceForce k (st' ∷ st ∷ olds) fr.table (later_force force)
  since_later k st' of_function h = tt
  since_later k st' (of_loop sp rs d) h = (let l = h.0 in omega (arith, l), h.1)

  body_later : (sp : Standpoint) (o : Option ℕ) (q : labelled.State) (st' : State) → SeenAtLoop m p s cells texts sp (st ∷ olds) o q
      → SeenAtLoop m p s cells texts (later sp) (st' ∷ st ∷ olds) (option_map suc o) q
  body_later sp (Some l) q st' h = h
  body_later sp None q st' h = h

  seen_later : (sp : Standpoint) (w : labelled.World) (st' : State) → BodySeen m p s cells texts sp (st ∷ olds) w → BodySeen m p s cells texts (later sp) (st' ∷ st ∷ olds) w
  seen_later sp w st' h = record {
    file = h.file;
    here_is = h.here_is;
    pre_is = h.pre_is;
    post_is = h.post_is;
    loop_is = body_later sp sp.loop_entry w.loop_entry st' h.loop_is;
  }

  granted_later : (e : ℕ) (force : Force) → GrantedBy m p s cells texts contract here olds e force
      → GrantedBy m p s cells texts contract here (st ∷ olds) (suc e) (later_force force)
  granted_later e of_function h = record { blocks = h.blocks; granted = h.granted; since = λ has st'. h.since has st }
  granted_later e (of_loop sp rs d) h = record {
    world = h.world;
    blocks = h.blocks;
    seen = λ st'. seen_later sp h.world st' (h.seen st);
    granted = h.granted;
    since = λ has st'. h.since has st;
  }

  pub place_remembered : Placed m p s cells texts contract (remembered pt) here (st ∷ olds) fr os
  place_remembered = record {
    present = refl;
    scope = placed.scope;
    lives = placed.lives;
    entry_there = λ st'. let l = placed.entry_there st in omega (arith, l);
    entry = λ st'. placed.entry st;
    loop_entry = λ st'. loop_later pt.stands.loop_entry here.loop_entry st' (placed.loop_entry st);
    locals = λ x v e plain st'. variables_told m p s cells texts contract pt st' (st ∷ olds) (variables.Local x) ∙ placed.locals x v e plain st;
    globals = λ x v e plain k st'. variables_told m p s cells texts contract pt st' (st ∷ olds) (variables.Global x) ∙ placed.globals x v e plain k st;
    written = λ has k b o closed_b closed_o st' address.
        told_by_values m (st' ∷ st ∷ olds) b o closed_b closed_o p s cells texts contract (remembered pt) k
        ∙ cells_told m p s cells texts contract pt st' (st ∷ olds) k (value m (leaves_of (st' ∷ st ∷ olds)) b) (value m (leaves_of (st' ∷ st ∷ olds)) o)
        ∙ placed.written has k (num (value m (leaves_of (st' ∷ st ∷ olds)) b)) (num (value m (leaves_of (st' ∷ st ∷ olds)) o)) refl refl st address;
    since_entry = λ k has own st'. placed.since_entry k has own st;
    since_force = λ k has own st'. since_later k st' pt.force (placed.since_force k has own st);
    opened = open_later p s cells olds fr.in_scope fr.homes st fr.table pt.scopes os.here placed.opened;
    outs = all_later p s cells olds fr.in_scope fr.homes st (table_behind fr.table os.here) pt.outs os.outs placed.outs;
    carried = record { function = placed.carried.function; measure = placed.carried.measure; granted = granted_later pt.stands.entry pt.force placed.carried.granted };
  }

pub places_are_remembered : PlacesAreRemembered
places_are_remembered m p s cells texts contract pt here olds fr os placed st = place_remembered m p s cells texts contract pt here olds fr os placed st

-- ---- inside of a scope

module _ (p : Facts) (s : Shape) (cells : FileCells) (texts : Texts) (c : Contract) (self : ℕ) (sp : Standpoint) (i : InScope) (os os' : List Open) (outs : List Out) where
  scoped_cells : (force : Force) (k : CellKind) (b o : Tree)
      → cell_trees p s cells texts c (record { self = self; stands = record sp { in_scope = i }; scopes = os'; outs = outs; force = force }) k b o
      ≡ cell_trees p s cells texts c (record { self = self; stands = sp; scopes = os; outs = outs; force = force }) k b o
  scoped_cells of_function k b o = refl
  scoped_cells (of_loop q rs d) k b o = refl

  scoped_variables : (force : Force) (x : code.Variable)
      → variable_trees p s cells texts c (record { self = self; stands = record sp { in_scope = i }; scopes = os'; outs = outs; force = force }) x
      ≡ variable_trees p s cells texts c (record { self = self; stands = sp; scopes = os; outs = outs; force = force }) x
  scoped_variables of_function (variables.Global x) = refl
  scoped_variables of_function (variables.Local x) = refl
  scoped_variables (of_loop q rs d) x = refl

module _ (m : sense.World) (p : Facts) (s : Shape) (cells : FileCells) (texts : Texts) (contract : Contract) (pt : Point) (here : Here) (olds : List State) (fr : Frame) (os : Openings)
    (placed : Placed m p s cells texts contract pt here olds fr os) (i : InScope) (scopes : List Open) (fr' : Frame) (os' : Openings) where
  abbrev pub inside : Point
  inside = record pt { stands = record pt.stands { in_scope = i }; scopes = scopes }

  since_inside : (k : CellKind) (st : State) (force : Force) → ((t : Table) → LacksSince k t fr.table → LacksSince k t fr'.table) → SinceForce k (st ∷ olds) fr.table force
      → SinceForce k (st ∷ olds) fr'.table force
  since_inside k st of_function lack h = tt
  since_inside k st (of_loop sp rs d) lack h = (h.0, lack _ h.1)

  loop_inside : (st : State) (o : Option ℕ) (q : labelled.State) → SeenAtLoop m p s cells texts pt.stands (st ∷ olds) o q
      → SeenAtLoop m p s cells texts (record pt.stands { in_scope = i }) (st ∷ olds) o q
  loop_inside st (Some l) q h = h
  loop_inside st None q h = h

  -- with newer blocks of the function's own kinds, and with these scopes open
  pub place_inside : ((x : ℕ) → fr'.in_scope x ≡ i x) → ((x : ℕ) → fr'.in_scope x ≡ true → fr'.lives x ≡ true)
      → ((k : CellKind) → cells.has_kind k ≡ true → own_kind s.variables k ≡ false → (t : Table) → LacksSince k t fr.table → LacksSince k t fr'.table)
      → AreOpen p s cells olds fr'.in_scope fr'.homes fr'.table scopes os'.here → AllOpen p s cells olds fr'.in_scope fr'.homes (table_behind fr'.table os'.here) pt.outs os'.outs
      → Placed m p s cells texts contract inside here olds fr' os'
  place_inside scope lives lack opened outs = record {
    present = placed.present;
    scope = scope;
    lives = lives;
    entry_there = placed.entry_there;
    entry = placed.entry;
    loop_entry = λ st. loop_inside st pt.stands.loop_entry here.loop_entry (placed.loop_entry st);
    locals = λ x v e plain st.
        ap (all_told m (st ∷ olds)) (scoped_variables p s cells texts contract pt.self pt.stands i pt.scopes scopes pt.outs pt.force (variables.Local x)) ∙ placed.locals x v e plain st;
    globals = λ x v e plain k st.
        ap (all_told m (st ∷ olds)) (scoped_variables p s cells texts contract pt.self pt.stands i pt.scopes scopes pt.outs pt.force (variables.Global x)) ∙ placed.globals x v e plain k st;
    written = λ has k b o closed_b closed_o st address.
        ap (all_told m (st ∷ olds)) (scoped_cells p s cells texts contract pt.self pt.stands i pt.scopes scopes pt.outs pt.force k b o) ∙ placed.written has k b o closed_b closed_o st address;
    since_entry = λ k has own st. lack k has own _ (placed.since_entry k has own st);
    since_force = λ k has own st. since_inside k st pt.force (lack k has own) (placed.since_force k has own st);
    opened = opened;
    outs = outs;
    carried = record { function = placed.carried.function; measure = placed.carried.measure; granted = placed.carried.granted };
  }
