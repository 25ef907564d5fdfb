-- Typed expressions, where the cells that they speak of are known.
use Rattle.std.proofs.Common.{◌≡◌, ◌<◌, ℕ, nat_lt, Bool, true, false, ◌&&◌, if◌then◌else◌, List, [], ◌∷◌, ◌++◌, Option, Some, None, slice_get, refl, sym, ap, subst, ◌∙◌, ◌==◌, eq-eqb}
use Rattle.std.specs.List.{list_all}
use Rattle.std.proofs.lemmas.List.Folds.{list_all-append}
use Rattle.std.proofs.lemmas.Bool.{lt-ltb, or_left, or_right}
use Rattle.std.proofs.lemmas.Option.{none-some, same_Some}
use Rattle.wp_base.specs.declared.kinds.CellKind.{CellKind}
use Rattle.typed_prog.specs.declared.types.CoreType.{CoreType}
use Rattle.typed_prog.specs.declared.operators.Op.{Op}
use Rattle.typed_prog.specs.declared.operators.Op.TheVariants as op
use Rattle.typed_prog.specs.declared.operators.Path.{Path}
use Rattle.typed_prog.specs.declared.operators.Root.{Root}
use Rattle.typed_prog.specs.declared.operators.Root.TheVariants as root
use Rattle.typed_prog.specs.declared.operators.Step.{Step}
use Rattle.typed_prog.specs.declared.operators.Variable as code
use Rattle.typed_prog.specs.declared.operators.Variable.TheVariants as variable
use Rattle.typed_prog.specs.Tree as t
use Rattle.c_runs.specs.Program.{Variable, Facts}
use Rattle.c_runs.specs.Objects.{is_plain_in, plain_root}
use Rattle.value_terms.specs.Readings.{plain_global}
use Rattle.value_terms.specs.Typed.{Scope, kind_given, VariableIs, HasBlock, ObjectIsTyped, CellIsTyped, ReadIsTyped, StartIsTyped, OpIsTyped, IsTyped, AreTyped}
use Rattle.program_steps.specs.Temporaries.{Temporaries, uses, some_use}
use Rattle.typed_normal.specs.Typed.{core_scope}
use Rattle.memory_words.specs.Shapes.{FileCells, Shape}
use Rattle.memory_words.specs.Readings.{InScope}
use Rattle.memory_words.specs.Seen.{temporary_kind, scope_at}
use Rattle.program_cells.specs.Parts.{Part, blocks, of_kind, is_part_of, type_parts, AreKnown}
use Rattle.program_cells.specs.Programs.{is_plain_root, place_parts, op_parts, value_parts, values_parts}
use Rattle.temporary_kinds.specs.Kinds.{or_else, value_kind, values_kind}
use Rattle.memory_fitting.specs.Expressions.{typed_shape, Agrees, Among, ExpressionsStayTyped, OperandsStayTyped}

-- ---- lists of parts

pub and_first : (a b : Bool) → (a && b) ≡ true → a ≡ true
and_first true b h = refl
and_first false b h = absurd cc

pub and_second : (a b : Bool) → (a && b) ≡ true → b ≡ true
and_second true b h = h
and_second false b h = absurd cc

module _ (cells : FileCells) where
  pub known_left : (ps qs : List Part) → AreKnown cells (ps ++ qs) → AreKnown cells ps
  known_left ps qs h = and_first (list_all (is_part_of cells) ps) (list_all (is_part_of cells) qs) (sym (list_all-append (is_part_of cells) ps qs) ∙ h)

  pub known_right : (ps qs : List Part) → AreKnown cells (ps ++ qs) → AreKnown cells qs
  known_right ps qs h = and_second (list_all (is_part_of cells) ps) (list_all (is_part_of cells) qs) (sym (list_all-append (is_part_of cells) ps qs) ∙ h)

  pub blocks_known : (ps : List Part) → AreKnown cells (blocks ∷ ps) → cells.has_blocks ≡ true
  blocks_known ps h = and_first cells.has_blocks (list_all (is_part_of cells) ps) h

  pub kind_known : (k : CellKind) → AreKnown cells (blocks ∷ of_kind k ∷ []) → cells.has_kind k ≡ true
  kind_known k h =
      and_first (cells.has_kind k) true (and_second cells.has_blocks (cells.has_kind k && true) h)

-- ---- operators

module _ (p : Facts) (xs : List Variable) (cells : FileCells) where
  -- a way that begins at no variable without a block
  root_open : (r : Root) → plain_root xs r ≡ None → plain_global p.globals r ≡ None → is_plain_root p xs r ≡ false
  root_open (root.Variable (variable.Local x)) own file = by (is_plain_in (slice_get xs x)) own where
    by : (b : Bool) → (if b then Some x else None) ≡ None → b ≡ false
    by true h = absurd cc
    by false h = refl
  root_open (root.Variable (variable.Global x)) own file = by (is_plain_in (slice_get p.globals x)) file where
    by : (b : Bool) → (if b then Some x else None) ≡ None → b ≡ false
    by true h = absurd cc
    by false h = refl
  root_open (root.Pointed n) own file = refl

  pub place_open : (path : Path) (k : CellKind) → plain_root xs path.root ≡ None → plain_global p.globals path.root ≡ None → AreKnown cells (place_parts p xs path k)
      → AreKnown cells (blocks ∷ of_kind k ∷ [])
  place_open path k own file h = subst (λ b. AreKnown cells (if b then [] else blocks ∷ of_kind k ∷ [])) (root_open path.root own file) h

  module _ (s s' : Scope) (declared : (x : ℕ) → s.is_declared x ≡ true → s'.is_declared x ≡ true) (there : s'.has_blocks ≡ cells.has_blocks)
      (kinds : (k : CellKind) → s'.has_kind k ≡ cells.has_kind k) where
    variable_kept : (x : code.Variable) (v : Variable) → VariableIs p xs s x v → VariableIs p xs s' x v
    variable_kept (variable.Global x) v h = h
    variable_kept (variable.Local x) v h = (h.0, declared x h.1)

    block_kept : (x : code.Variable) → HasBlock p xs s x → HasBlock p xs s' x
    block_kept x h = record { variable = h.variable; is = variable_kept x h.variable h.is; block = h.block }

    pub object_kept : (r : Root) (ss : List Step) (k : CellKind) → ObjectIsTyped p xs s r ss k → ObjectIsTyped p xs s' r ss k
    object_kept (root.Variable x) ss k h = (record { variable = h.0.variable; is = variable_kept x h.0.variable h.0.is; block = h.0.block }, h.1)
    object_kept (root.Pointed n) ss k h = tt

    cell_kept : (o : Option ℕ) (path : Path) (k : CellKind) → plain_root xs path.root ≡ None → plain_global p.globals path.root ≡ o → AreKnown cells (place_parts p xs path k)
        → CellIsTyped p xs s o path.root path.steps k → CellIsTyped p xs s' o path.root path.steps k
    cell_kept (Some x) path k own file known h = h
    cell_kept None path k own file known h =
        let open_ : AreKnown cells (blocks ∷ of_kind k ∷ []) = place_open path k own file known in
        (there ∙ blocks_known cells (of_kind k ∷ []) open_, kinds k ∙ kind_known cells k open_, object_kept path.root path.steps k h.2)

    read_kept : (o : Option ℕ) (type : CoreType) (path : Path) → plain_root xs path.root ≡ o → AreKnown cells (place_parts p xs path (kind_given type))
        → ReadIsTyped p xs s o type path → ReadIsTyped p xs s' o type path
    read_kept (Some x) type path own known h = record { variable = h.variable; found = h.found; declared = declared x h.declared; kind = h.kind }
    read_kept None type path own known h = (h.0, cell_kept (plain_global p.globals path.root) path (kind_given type) own refl known h.1)

    start_kept : (r : Root) (es : t.Values) → StartIsTyped p xs s r es → StartIsTyped p xs s' r es
    start_kept (root.Variable x) es h = block_kept x h
    start_kept (root.Pointed n) es h = h

    op_kept : (type : CoreType) (o : Op) (es : t.Values) → AreKnown cells (op_parts p xs type o) → OpIsTyped p xs s type o es → OpIsTyped p xs s' type o es
    op_kept type (op.Read path) es known h = read_kept (plain_root xs path.root) type path refl known h
    op_kept type (op.Address path accessed) es known h = (h.0, there ∙ blocks_known cells [] known, start_kept path.root es h.2)
    op_kept type (op.Decay path accessed) es known h = (h.0, there ∙ blocks_known cells [] known, start_kept path.root es h.2)
    op_kept type op.Negate es known h = h
    op_kept type op.Complement es known h = h
    op_kept type op.Not es known h = h
    op_kept type (op.Arithmetic o) es known h = h
    op_kept type (op.Compare c) es known h = h
    op_kept type (op.ComparePointers c) es known h = (h.0, there ∙ blocks_known cells [] known)
    op_kept type (op.Offset minus index_first size accessed) es known h = (h.0, there ∙ blocks_known cells [] known, h.2)
    op_kept type (op.Difference size) es known h = (h.0, there ∙ blocks_known cells [] known, h.2)
    op_kept type op.Convert es known h = h
    op_kept type op.Requalify es known h = h
    op_kept type op.Cast es known h = h

-- ---- expressions

pub same : (m : ℕ) → (m == m) ≡ true
same m = eq-eqb m m refl

module _ (p : Facts) (s : Shape) (n : ℕ) (k : ℕ → CellKind) (b : Bool) (h : CellKind → Bool) (cells : FileCells) (i : InScope) (f : Temporaries) where
  abbrev before : Scope
  before = core_scope p (typed_shape s n k b h) i

  abbrev behind : Scope
  behind = scope_at s cells i f

  pub agrees_first : (g u : ℕ → Option CellKind) → Agrees s k (λ m. or_else (g m) (u m)) → Agrees s k g
  agrees_first g u all m l is = all m l (ap (λ o. or_else o (u m)) is)

  pub agrees_second : (g u : ℕ → Option CellKind) → Agrees s k (λ m. or_else (g m) (u m)) → Agrees s k u
  agrees_second g u all m l is = by (g m) refl where
    by : (o : Option CellKind) → g m ≡ o → (s.temp_kind m ≡ k m) × (m < s.temporaries)
    by (Some j) first = all m j (ap (λ o. or_else o (u m)) first)
    by None first = all m l (ap (λ o. or_else o (u m)) first ∙ is)

  used_kind : (m : ℕ) (c : Bool) (l : CellKind) → (if c then Some (k m) else None) ≡ Some l → k m ≡ l
  used_kind m true l is = same_Some (k m) l is
  used_kind m false l is = absurd (none-some l is)

  used_there : (m : ℕ) (l : CellKind) → s.temp_kind m ≡ l → m < s.temporaries → f m ≡ true → temporary_kind s f m ≡ Some l
  used_there m l kind there used = ap (λ c. if c && f m then Some (s.temp_kind m) else None) (lt-ltb m s.temporaries there)
      ∙ ap (λ c. if c then Some (s.temp_kind m) else None) used ∙ ap Some kind

  mutual
    pub value_stays : (e : t.Value) → IsTyped p s.variables before e → AreKnown cells (value_parts p s.variables e) → Agrees s k (value_kind e) → Among (uses e) f
        → IsTyped p s.variables behind e
    value_stays (t.typed (t.constant z) type line) typed known agree among = typed
    value_stays (t.typed t.null type line) typed known agree among = typed
    value_stays (t.typed (t.temporary m) type line) typed known agree among =
        let own : (s.temp_kind m ≡ k m) × (m < s.temporaries) = agree m (kind_given type) (ap (λ c. if c then Some (kind_given type) else None) (same m)) in
        used_there m (kind_given type) (own.0 ∙ used_kind m (nat_lt m n && true) (kind_given type) typed) own.1 (among m (same m))
    value_stays (t.typed (t.apply o es) type line) typed known agree among =
        let parts : AreKnown cells (op_parts p s.variables type o ++ values_parts p s.variables es) = known_right cells (type_parts p type) (op_parts p s.variables type o ++ values_parts p s.variables es) known in (
          values_stay es typed.0 (known_right cells (op_parts p s.variables type o) (values_parts p s.variables es) parts) agree among,
          op_kept p s.variables cells before behind (λ x d. d) refl (λ l. refl) type o es (known_left cells (op_parts p s.variables type o) (values_parts p s.variables es) parts) typed.1,
        )
    value_stays (t.typed (t.logic c x y) type line) typed known agree among = elim typed [ ]
    value_stays (t.typed (t.choose c x y) type line) typed known agree among = elim typed [ ]
    value_stays (t.typed (t.effect e es) type line) typed known agree among = elim typed [ ]

    pub values_stay : (es : t.Values) → AreTyped p s.variables before es → AreKnown cells (values_parts p s.variables es) → Agrees s k (values_kind es) → Among (some_use es) f
        → AreTyped p s.variables behind es
    values_stay t.stop typed known agree among = tt
    values_stay (t.more e es) typed known agree among = (
      value_stays e typed.0 (known_left cells (value_parts p s.variables e) (values_parts p s.variables es) known)
          (agrees_first (value_kind e) (values_kind es) agree) (λ m u. among m (or_left (uses e m) (some_use es m) u)),
      values_stay es typed.1 (known_right cells (value_parts p s.variables e) (values_parts p s.variables es) known)
          (agrees_second (value_kind e) (values_kind es) agree) (λ m u. among m (or_right (uses e m) (some_use es m) u)),
    )

pub expressions_stay_typed : ExpressionsStayTyped
expressions_stay_typed p s n k b h cells i f e = value_stays p s n k b h cells i f e

pub operands_stay_typed : OperandsStayTyped
operands_stay_typed p s n k b h cells i f es = values_stay p s n k b h cells i f es
