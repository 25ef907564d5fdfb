-- The way to an object that is read or changed is typed, where it leads to a scalar.
use Rattle.std.proofs.Common.{◌≡◌, ℕ, zero, suc, Bool, true, false, not, if◌then◌else◌, List, [], ◌∷◌, Option, Some, None, slice_get, refl, sym, ap, subst, ◌∙◌}
use Rattle.std.specs.List.{list_all}
use Rattle.wp_base.specs.declared.kinds.CellKind.{CellKind}
use Rattle.wp_base.specs.declared.kinds.CellKind.TheVariants as cell
use Rattle.wp_base.specs.Blocks.{cells_of}
use Rattle.typed_prog.specs.declared.types.CoreType.{CoreType}
use Rattle.typed_prog.specs.declared.operators.Path.{Path}
use Rattle.typed_prog.specs.declared.operators.Root.{Root}
use Rattle.typed_prog.specs.declared.operators.Root.TheVariants as root
use Rattle.typed_prog.specs.declared.operators.Step.{Step}
use Rattle.typed_prog.specs.declared.operators.Variable.TheVariants as variable
use Rattle.typed_prog.specs.Tree as t
use Rattle.c_scopes.specs.declared.symbols.Object.{Object}
use Rattle.c_scopes.specs.declared.symbols.Resolved.{Resolved}
use Rattle.c_scopes.specs.declared.symbols.Structure.{Structure}
use Rattle.c_exprs.specs.Typing.{Around}
use Rattle.c_well_typed.specs.Paths.{object, IsPointedTo, Begins, AllLead, Reaches}
use Rattle.c_well_typed.specs.Operators.{IsScalar, IsValueOf}
use Rattle.c_well_typed.specs.Scalars.{HasObjects}
use Rattle.c_well_typed.specs.WellTyped.{types_of}
use Rattle.c_runs.specs.Program.{Facts, Variable}
use Rattle.c_runs.specs.Scopes.{scalar_of}
use Rattle.c_runs.specs.Objects.{is_plain_in, plain_root}
use Rattle.value_terms.specs.Readings.{plain_global}
use Rattle.value_terms.specs.Typed.{Scope, kind_given, operand_kind, LocalHas, GlobalHas, ObjectIsTyped, CellIsTyped, ReadIsTyped, StartIsTyped}
use Rattle.typed_values.specs.Kinds.{TargetIsKnown}
use Rattle.typed_values.specs.Declared.{Holds, Meets}
use Rattle.typed_values.specs.Values.{stays, stays_inside, is_in_scope, is_in_block, AreKnown, WayIs, ChangedAreTyped}
use Rattle.typed_values.proofs.Types.{held, cell_is, scalar_cells, has_objects, target_pointer, pointer_given, known_target, kind_known, pointer_blocks, pointed_known, target_objects}
use Rattle.typed_values.proofs.Ways.{IsSound, whole, no_parts, sound_along, reaches}

-- ---- operands

pub record OperandIs (p : Facts) (xs : List Variable) (s : Scope) (es : t.Values) (i : ℕ) (type : CoreType) : Type 0 where
  pub kind : operand_kind es i ≡ kind_given type
  pub known : TargetIsKnown s type

pub operand_is : (p : Facts) (xs : List Variable) (s : Scope) (es : t.Values) (i : ℕ) (type : CoreType) → AreKnown p xs s es → slice_get (types_of es) i ≡ Some type → OperandIs p xs s es i type
operand_is p xs s t.stop i type known h = absurd cc
operand_is p xs s (t.more e es) zero type known h =
    let same : t.type_of e ≡ type = cc in record { kind = ap kind_given same; known = subst (TargetIsKnown s) same known.0 }
operand_is p xs s (t.more e es) (suc i) type known h =
    let r = operand_is p xs s es i type known.1 h in record { kind = r.kind; known = r.known }

-- ---- variables

-- what a way leads to isn't `void`, and what it leads to in turn is spoken of
pub record IsMet (s : Scope) (type : CoreType) : Type 0 where
  pub objects : HasObjects type
  pub target : TargetIsKnown s type

-- where a way to a scalar of the type leads
pub data Leads (p : Facts) (xs : List Variable) (s : Scope) (type : CoreType) (r : Root) (ss : List Step) : Type 0 where
  to_local : (x : ℕ) → plain_root xs r ≡ Some x → LocalHas xs s x (kind_given type) → ss ≡ [] → Leads p xs s type r ss
  to_global : (x : ℕ) → plain_root xs r ≡ None → plain_global p.globals r ≡ Some x → GlobalHas p x (kind_given type) → ss ≡ [] → Leads p xs s type r ss
  to_cell : plain_root xs r ≡ None → plain_global p.globals r ≡ None → s.has_blocks ≡ true → s.has_kind (kind_given type) ≡ true → ObjectIsTyped p xs s r ss (kind_given type)
      → Leads p xs s type r ss

module _ (p : Facts) (xs : List Variable) (s : Scope) (c : Around) (meets : Meets c p xs s) where
  abbrev declared : List Structure
  declared = c.scope.file.structs

  of_sound : (type : CoreType) → IsSound s type → IsMet s type
  of_sound type h = record { objects = h.objects; target = known_target s type h.known }

  -- the cell of a variable that no pointer leads to
  plain_kind : (vs : List Variable) (n : ℕ) (o : Object) (h : Holds declared s vs n o) (type : CoreType) → IsScalar o.ty → type ≡ o.ty → scalar_of h.variable.layout.cells ≡ kind_given type
  plain_kind vs n o h type scalar same =
      let cells : Some h.variable.layout.cells ≡ Some (kind_given o.ty ∷ []) = sym h.layout.elements ∙ scalar_cells declared o.ty scalar in
      ap scalar_of (same_list _ _ cells) ∙ ap kind_given (sym same)
    where
      same_list : (x y : List CellKind) → Some x ≡ Some y → x ≡ y
      same_list x y e = cc

  -- an object in a block is one that may be read
  pub block_sound : (vs : List Variable) (n : ℕ) (o : Object) (h : Holds declared s vs n o) → h.variable.is_plain ≡ false → IsSound s o.ty
  block_sound vs n o h block = record { objects = has_objects declared o.ty h.variable.layout.cells h.layout.elements; known = h.object block }

  module _ (types : List CoreType) (ss : List Step) (to : Resolved) (scalar : IsScalar to.ty) where
    at_type : (o : Object) → ss ≡ [] → AllLead c types ss (object o.ty o.is_const) to → to.ty ≡ o.ty
    at_type o none leads = ap (λ (t : Resolved). t.ty) (subst (λ steps. AllLead c types steps (object o.ty o.is_const) to) none leads)

    to_local_by : (x : ℕ) (o : Object) (h : Holds declared s xs x o) (is_plain : Bool) → h.variable.is_plain ≡ is_plain → AllLead c types ss (object o.ty o.is_const) to → s.is_declared x ≡ true
        → list_all stays ss ≡ true → Leads p xs s to.ty (root.Variable (variable.Local x)) ss
    to_local_by x o h true e leads scoped stay =
        let one = h.scalar e in
        let none = no_parts c types ss (object o.ty o.is_const) to one leads stay in
        to_local x (ap (λ b. if b then Some x else None) (ap is_plain_in h.found ∙ e))
        (record { variable = h.variable; found = h.found; declared = scoped; kind = plain_kind xs x o h to.ty one (at_type o none leads) }) none
    to_local_by x o h false e leads scoped stay =
        let sound = sound_along p xs s c meets types ss (object o.ty o.is_const) to (block_sound xs x o h e) leads in
        to_cell (ap (λ b. if b then Some x else None) (ap is_plain_in h.found ∙ e)) refl (h.blocks e) (kind_known s to.ty scalar sound.known) (
          record { variable = h.variable; is = (h.found, scoped); block = e },
          reaches p xs s c meets types (cells_of h.variable.layout) 0 ss (object o.ty o.is_const) to (whole declared o.ty h.variable.layout h.layout) leads stay scalar,
        )

    to_global_by : (x : ℕ) (o : Object) (h : Holds declared s p.globals x o) (is_plain : Bool) → h.variable.is_plain ≡ is_plain → AllLead c types ss (object o.ty o.is_const) to
        → list_all stays ss ≡ true → Leads p xs s to.ty (root.Variable (variable.Global x)) ss
    to_global_by x o h true e leads stay =
        let one = h.scalar e in
        let none = no_parts c types ss (object o.ty o.is_const) to one leads stay in
        to_global x refl (ap (λ b. if b then Some x else None) (ap is_plain_in h.found ∙ e))
        (record { variable = h.variable; found = h.found; kind = plain_kind p.globals x o h to.ty one (at_type o none leads) }) none
    to_global_by x o h false e leads stay =
        let sound = sound_along p xs s c meets types ss (object o.ty o.is_const) to (block_sound p.globals x o h e) leads in
        to_cell refl (ap (λ b. if b then Some x else None) (ap is_plain_in h.found ∙ e)) (h.blocks e) (kind_known s to.ty scalar sound.known) (
          record { variable = h.variable; is = h.found; block = e },
          reaches p xs s c meets types (cells_of h.variable.layout) 0 ss (object o.ty o.is_const) to (whole declared o.ty h.variable.layout h.layout) leads stay scalar,
        )

  -- what a known pointer leads to
  pub pointed_sound : (es : t.Values) (n : ℕ) (to : Resolved) → AreKnown p xs s es → IsPointedTo (types_of es) n to → IsSound s to.ty
  pointed_sound es n to known h =
      let o = operand_is p xs s es n h.pointer known h.is_operand in
      record { objects = target_objects h.pointer (to.ty, to.is_const) h.leads h.not_void; known = pointed_known s h.pointer (to.ty, to.is_const) h.leads o.known }

  pub pointed_blocks : (es : t.Values) (n : ℕ) (to : Resolved) → AreKnown p xs s es → IsPointedTo (types_of es) n to → s.has_blocks ≡ true
  pointed_blocks es n to known h =
      let o = operand_is p xs s es n h.pointer known h.is_operand in
      pointer_blocks s h.pointer (target_pointer h.pointer (to.ty, to.is_const) h.leads) o.known

  pub pointed_kind : (es : t.Values) (n : ℕ) (to : Resolved) → AreKnown p xs s es → IsPointedTo (types_of es) n to → operand_kind es n ≡ cell.Ptr
  pointed_kind es n to known h =
      let o = operand_is p xs s es n h.pointer known h.is_operand in
      o.kind ∙ pointer_given h.pointer (target_pointer h.pointer (to.ty, to.is_const) h.leads)

  -- ---- ways to scalars

  leads_to : (es : t.Values) (r : Root) (ss : List Step) (first to : Resolved) → Begins c (types_of es) r first → AllLead c (types_of es) ss first to → IsScalar to.ty → AreKnown p xs s es
      → is_in_scope s r ≡ true → stays_inside r ss ≡ true → Leads p xs s to.ty r ss
  leads_to es (root.Variable (variable.Local x)) ss first to begins leads scalar known scoped stay =
      let h = meets.locals x begins.declared begins.found in
      to_local_by (types_of es) ss to scalar x begins.declared h h.variable.is_plain refl (subst (λ (f : Resolved). AllLead c (types_of es) ss f to) begins.same leads) scoped stay
  leads_to es (root.Variable (variable.Global x)) ss first to begins leads scalar known scoped stay =
      let h = meets.globals x begins.declared begins.found in
      to_global_by (types_of es) ss to scalar x begins.declared h h.variable.is_plain refl (subst (λ (f : Resolved). AllLead c (types_of es) ss f to) begins.same leads) stay
  leads_to es (root.Pointed n) ss first to begins leads scalar known scoped stay =
      let sound = sound_along p xs s c meets (types_of es) ss first to (pointed_sound es n first known begins) leads in
      to_cell refl refl (pointed_blocks es n first known begins) (kind_known s to.ty scalar sound.known) tt

  -- the object is sound, or a variable that is declared
  met_by : (vs : List Variable) (x : ℕ) (o : Object) (h : Holds declared s vs x o) (ss : List Step) (to : Resolved) (is_plain : Bool) → h.variable.is_plain ≡ is_plain
      → (types : List CoreType) → AllLead c types ss (object o.ty o.is_const) to → list_all stays ss ≡ true → IsMet s to.ty
  met_by vs x o h ss to true e types leads stay =
      let none = no_parts c types ss (object o.ty o.is_const) to (h.scalar e) leads stay in
      let same : to.ty ≡ o.ty = ap (λ (t : Resolved). t.ty) (subst (λ steps. AllLead c types steps (object o.ty o.is_const) to) none leads) in
      subst (IsMet s) (sym same) (record { objects = has_objects declared o.ty h.variable.layout.cells h.layout.elements; target = h.target })
  met_by vs x o h ss to false e types leads stay = of_sound to.ty (sound_along p xs s c meets types ss (object o.ty o.is_const) to (block_sound vs x o h e) leads)

  met : (es : t.Values) (r : Root) (ss : List Step) (first to : Resolved) → Begins c (types_of es) r first → AllLead c (types_of es) ss first to → AreKnown p xs s es
      → stays_inside r ss ≡ true → IsMet s to.ty
  met es (root.Variable (variable.Local x)) ss first to begins leads known stay =
      let h = meets.locals x begins.declared begins.found in
      met_by xs x begins.declared h ss to h.variable.is_plain refl (types_of es) (subst (λ (f : Resolved). AllLead c (types_of es) ss f to) begins.same leads) stay
  met es (root.Variable (variable.Global x)) ss first to begins leads known stay =
      let h = meets.globals x begins.declared begins.found in
      met_by p.globals x begins.declared h ss to h.variable.is_plain refl (types_of es) (subst (λ (f : Resolved). AllLead c (types_of es) ss f to) begins.same leads) stay
  met es (root.Pointed n) ss first to begins leads known stay = of_sound to.ty (sound_along p xs s c meets (types_of es) ss first to (pointed_sound es n first known begins) leads)

  way_is : (type : CoreType) (path : Path) → IsScalar type → TargetIsKnown s type → Leads p xs s type path.root path.steps → WayIs p xs s type path
  way_is type path scalar known (to_local x at has none) =
      record { typed = subst (λ (o : Option ℕ). ReadIsTyped p xs s o type path) (sym at) has; whole = λ y h. none; known = known }
  way_is type path scalar known (to_global x no_local at has none) =
      record {
        typed = subst (λ (o : Option ℕ). ReadIsTyped p xs s o type path) (sym no_local)
            (cell_is type scalar, subst (λ (o : Option ℕ). CellIsTyped p xs s o path.root path.steps (kind_given type)) (sym at) (has, none));
        whole = λ y h. none;
        known = known;
      }
  way_is type path scalar known (to_cell no_local no_global blocks kind has) =
      record {
        typed = subst (λ (o : Option ℕ). ReadIsTyped p xs s o type path) (sym no_local)
            (cell_is type scalar, subst (λ (o : Option ℕ). CellIsTyped p xs s o path.root path.steps (kind_given type)) (sym no_global) (blocks, kind, has));
        whole = λ y h. absurd (let none : Some y ≡ None = sym h ∙ no_local in cc);
        known = known;
      }

  pub way_typed : (es : t.Values) (path : Path) (type : CoreType) (is_const : Bool) → Reaches c (types_of es) path (object type is_const) → IsScalar type → AreKnown p xs s es
      → is_in_scope s path.root ≡ true → stays_inside path.root path.steps ≡ true → WayIs p xs s type path
  way_typed es path type is_const reached scalar known scoped stay =
      way_is type path scalar (met es path.root path.steps reached.first (object type is_const) reached.begins reached.leads known stay).target
      (leads_to es path.root path.steps reached.first (object type is_const) reached.begins reached.leads scalar known scoped stay)

  pub value_typed : (es : t.Values) (path : Path) (type : CoreType) → IsValueOf c (types_of es) path type → AreKnown p xs s es → is_in_scope s path.root ≡ true
      → stays_inside path.root path.steps ≡ true → WayIs p xs s type path
  value_typed es path type h known scoped stay =
      let is = met es path.root path.steps h.reaches.first (object type h.is_const) h.reaches.begins h.reaches.leads known stay in
      way_typed es path type h.is_const h.reaches (held type is.objects h.no_array h.no_struct) known scoped stay

  -- ---- where pointers are made

  pub record StartIs (r : Root) (es : t.Values) (to : Resolved) : Type 0 where
    pub typed : StartIsTyped p xs s r es
    pub blocks : s.has_blocks ≡ true
    pub sound : IsSound s to.ty

  start_by : (b : Bool) → not b ≡ true → b ≡ false
  start_by true h = absurd cc
  start_by false h = refl

  start_is : (es : t.Values) (r : Root) (ss : List Step) (first to : Resolved) → Begins c (types_of es) r first → AllLead c (types_of es) ss first to → AreKnown p xs s es
      → is_in_scope s r ≡ true → is_in_block p xs r ≡ true → StartIs r es to
  start_is es (root.Variable (variable.Local x)) ss first to begins leads known scoped block =
      let h = meets.locals x begins.declared begins.found in
      let e : h.variable.is_plain ≡ false = sym (ap is_plain_in h.found) ∙ start_by (is_plain_in (slice_get xs x)) block in
      record {
        typed = record { variable = h.variable; is = (h.found, scoped); block = e };
        blocks = h.blocks e;
        sound = sound_along p xs s c meets (types_of es) ss (object begins.declared.ty begins.declared.is_const) to (block_sound xs x begins.declared h e)
            (subst (λ (f : Resolved). AllLead c (types_of es) ss f to) begins.same leads);
      }
  start_is es (root.Variable (variable.Global x)) ss first to begins leads known scoped block =
      let h = meets.globals x begins.declared begins.found in
      let e : h.variable.is_plain ≡ false = sym (ap is_plain_in h.found) ∙ start_by (is_plain_in (slice_get p.globals x)) block in
      record {
        typed = record { variable = h.variable; is = h.found; block = e };
        blocks = h.blocks e;
        sound = sound_along p xs s c meets (types_of es) ss (object begins.declared.ty begins.declared.is_const) to (block_sound p.globals x begins.declared h e)
            (subst (λ (f : Resolved). AllLead c (types_of es) ss f to) begins.same leads);
      }
  start_is es (root.Pointed n) ss first to begins leads known scoped block =
      record {
        typed = pointed_kind es n first known begins;
        blocks = pointed_blocks es n first known begins;
        sound = sound_along p xs s c meets (types_of es) ss first to (pointed_sound es n first known begins) leads;
      }

  pub pointer_typed : (es : t.Values) (path : Path) (to : Resolved) → Reaches c (types_of es) path to → AreKnown p xs s es → is_in_scope s path.root ≡ true
      → is_in_block p xs path.root ≡ true → StartIs path.root es to
  pointer_typed es path to h known scoped block = start_is es path.root path.steps h.first to h.begins h.leads known scoped block

pub changed_are_typed : ChangedAreTyped
changed_are_typed p xs s c meets es path type h known scoped stay = way_typed p xs s c meets es path type false h.reaches h.scalar known scoped stay
