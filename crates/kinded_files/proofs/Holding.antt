-- Null pointers of a body have known types, and what the test of a file shows is so of each node.
use Rattle.std.proofs.Common.{◌≡◌, ℕ, suc, Bool, true, ◌&&◌, List, [], ◌∷◌, ◌++◌, Option, Some, None, slice_get, refl}
use Rattle.std.proofs.lemmas.Bool.{and_parts}
use Rattle.c_kinds.specs.declared.models.Machdep.{Machdep}
use Rattle.c_kinds.specs.Models.{holds}
use Rattle.typed_prog.specs.declared.types.CoreType.{CoreType}
use Rattle.typed_prog.specs.Tree as t
use Rattle.typed_unit.specs.Stmt as unit
use Rattle.c_runs.specs.Values.{kind_at}
use Rattle.typed_values.specs.Files.{node_nulls, nulls, all_nulls, nulls_if, initial_nulls, stmt_nulls, stmts_nulls}
use Rattle.kinded_programs.specs.Nodes.{EachNode, EachPart, EachOperand}
use Rattle.kinded_files.specs.Holding.{node_holds, value_holds, all_hold, if_holds, inits_hold, stmt_holds, stmts_hold}
use Rattle.kinded_files.proofs.Nodes.{IfIn, InitsIn, EachIn, AllIn}

-- ---- lists

abbrev pub All : {X : Type 0} → (X → Type 0) → List X → Type 0
All P [] = Unit {0}
All P (x ∷ xs) = P x × All P xs

pub all_at : {X : Type 0} (P : X → Type 0) (xs : List X) → ((n : ℕ) (x : X) → slice_get xs n ≡ Some x → P x) → All P xs
all_at P [] h = tt
all_at P (x ∷ xs) h = (h 0 x refl, all_at P xs (λ n y e. h (suc n) y e))

first_all : {X : Type 0} (P : X → Type 0) (xs ys : List X) → All P (xs ++ ys) → All P xs × All P ys
first_all P [] ys h = (tt, h)
first_all P (x ∷ xs) ys h = let rest = first_all P xs ys h.1 in ((h.0, rest.0), rest.1)

-- ---- null pointers

module _ (P : CoreType → Type 0) where
  abbrev pub NullIs : CoreType → t.ValueNode → Type 0
  NullIs type (t.constant z) = Unit {0}
  NullIs type t.null = P type
  NullIs type (t.temporary n) = Unit {0}
  NullIs type (t.apply o es) = Unit {0}
  NullIs type (t.logic c a b) = Unit {0}
  NullIs type (t.choose c a b) = Unit {0}
  NullIs type (t.effect e es) = Unit {0}

  mutual
    value_nulls : (v : t.Value) → All P (nulls v) → EachNode NullIs v
    value_nulls (t.typed node type line) h = part_nulls node type h

    part_nulls : (node : t.ValueNode) (type : CoreType) → All P (node_nulls type node) → NullIs type node × EachPart NullIs node
    part_nulls (t.constant z) type h = (tt, tt)
    part_nulls t.null type h = (h.0, tt)
    part_nulls (t.temporary n) type h = (tt, tt)
    part_nulls (t.apply o es) type h = (tt, operand_nulls es h)
    part_nulls (t.logic c a b) type h =
        let parts = first_all P (nulls a) (nulls b) h in (tt, (value_nulls a parts.0, value_nulls b parts.1))
    part_nulls (t.choose c a b) type h =
        let parts = first_all P (nulls c) (nulls a ++ nulls b) h in
        let arms = first_all P (nulls a) (nulls b) parts.1 in (tt, (value_nulls c parts.0, value_nulls a arms.0, value_nulls b arms.1))
    part_nulls (t.effect e es) type h = (tt, operand_nulls es h)

    operand_nulls : (es : t.Values) → All P (all_nulls es) → EachOperand NullIs es
    operand_nulls t.stop h = tt
    operand_nulls (t.more e es) h = let parts = first_all P (nulls e) (all_nulls es) h in (value_nulls e parts.0, operand_nulls es parts.1)

  abbrev pub NullsAre : t.Value → Type 0
  NullsAre v = EachNode NullIs v

  if_nulls : (v : Option t.Value) → All P (nulls_if v) → IfIn NullsAre v
  if_nulls None h = tt
  if_nulls (Some v) h = value_nulls v h

  init_nulls : (ds : List unit.Declared) → All P (initial_nulls ds) → InitsIn NullsAre ds
  init_nulls [] h = tt
  init_nulls (d ∷ ds) h = let parts = first_all P (nulls_if d.init) (initial_nulls ds) h in (if_nulls d.init parts.0, init_nulls ds parts.1)

  mutual
    pub nulls_are : (y : unit.Stmt) → All P (stmt_nulls y) → EachIn NullsAre y
    nulls_are (unit.empty line) h = tt
    nulls_are (unit.expr line v) h = value_nulls v h
    nulls_are (unit.block line body) h = all_nulls_are body h
    nulls_are (unit.locals line ds) h = init_nulls ds h
    nulls_are (unit.if_else line v a b) h =
        let parts = first_all P (nulls v) (stmt_nulls a ++ stmt_nulls b) h in
        let arms = first_all P (stmt_nulls a) (stmt_nulls b) parts.1 in (value_nulls v parts.0, nulls_are a arms.0, nulls_are b arms.1)
    nulls_are (unit.loop_of line annot turns body) h =
        let first = first_all P (nulls_if turns.before) (nulls_if turns.behind ++ (nulls_if turns.step ++ stmt_nulls body)) h in
        let second = first_all P (nulls_if turns.behind) (nulls_if turns.step ++ stmt_nulls body) first.1 in
        let third = first_all P (nulls_if turns.step) (stmt_nulls body) second.1 in
        (if_nulls turns.before first.0, if_nulls turns.step third.0, if_nulls turns.behind second.0, nulls_are body third.1)
    nulls_are (unit.switch line v body) h = let parts = first_all P (nulls v) (stmts_nulls body) h in (value_nulls v parts.0, all_nulls_are body parts.1)
    nulls_are (unit.case_of line z) h = tt
    nulls_are (unit.default line) h = tt
    nulls_are (unit.break line) h = tt
    nulls_are (unit.continue line) h = tt
    nulls_are (unit.return_of line v) h = if_nulls v h
    nulls_are (unit.assert line q) h = tt

    pub all_nulls_are : (ys : unit.Stmts) → All P (stmts_nulls ys) → AllIn NullsAre ys
    all_nulls_are unit.stop h = tt
    all_nulls_are (unit.more x xs) h = let parts = first_all P (stmt_nulls x) (stmts_nulls xs) h in (nulls_are x parts.0, all_nulls_are xs parts.1)

-- ---- constants

module _ (m : Machdep) where
  abbrev pub IsHeld : CoreType → t.ValueNode → Type 0
  IsHeld type (t.constant z) = holds m (kind_at type) z ≡ true
  IsHeld type t.null = Unit {0}
  IsHeld type (t.temporary n) = Unit {0}
  IsHeld type (t.apply o es) = Unit {0}
  IsHeld type (t.logic c a b) = Unit {0}
  IsHeld type (t.choose c a b) = Unit {0}
  IsHeld type (t.effect e es) = Unit {0}

  abbrev Holds : t.Value → Bool
  Holds v = value_holds m v

  abbrev HoldAll : t.Values → Bool
  HoldAll es = all_hold m es

  mutual
    value_held : (v : t.Value) → Holds v ≡ true → EachNode IsHeld v
    value_held (t.typed node type line) h = part_held node type h

    part_held : (node : t.ValueNode) (type : CoreType) → node_holds m type node ≡ true → IsHeld type node × EachPart IsHeld node
    part_held (t.constant z) type h = (h, tt)
    part_held t.null type h = (tt, tt)
    part_held (t.temporary n) type h = (tt, tt)
    part_held (t.apply o es) type h = (tt, all_held es h)
    part_held (t.logic c a b) type h = let parts = and_parts (Holds a) (Holds b) h in (tt, (value_held a parts.0, value_held b parts.1))
    part_held (t.choose c a b) type h =
        let parts = and_parts (Holds c) (Holds a && Holds b) h in
        let arms = and_parts (Holds a) (Holds b) parts.1 in (tt, (value_held c parts.0, value_held a arms.0, value_held b arms.1))
    part_held (t.effect e es) type h = (tt, all_held es h)

    all_held : (es : t.Values) → HoldAll es ≡ true → EachOperand IsHeld es
    all_held t.stop h = tt
    all_held (t.more e es) h = let parts = and_parts (Holds e) (HoldAll es) h in (value_held e parts.0, all_held es parts.1)

  abbrev pub AreHeld : t.Value → Type 0
  AreHeld v = EachNode IsHeld v

  abbrev HoldsIf : Option t.Value → Bool
  HoldsIf v = if_holds m v

  if_held : (v : Option t.Value) → HoldsIf v ≡ true → IfIn AreHeld v
  if_held None h = tt
  if_held (Some v) h = value_held v h

  inits_held : (ds : List unit.Declared) → inits_hold m ds ≡ true → InitsIn AreHeld ds
  inits_held [] h = tt
  inits_held (d ∷ ds) h = let parts = and_parts (HoldsIf d.init) (inits_hold m ds) h in (if_held d.init parts.0, inits_held ds parts.1)

  abbrev HoldsIn : unit.Stmt → Bool
  HoldsIn y = stmt_holds m y

  mutual
    pub stmt_held : (y : unit.Stmt) → HoldsIn y ≡ true → EachIn AreHeld y
    stmt_held (unit.empty line) h = tt
    stmt_held (unit.expr line v) h = value_held v h
    stmt_held (unit.block line body) h = stmts_held body h
    stmt_held (unit.locals line ds) h = inits_held ds h
    stmt_held (unit.if_else line v a b) h =
        let parts = and_parts (Holds v) (HoldsIn a && HoldsIn b) h in
        let arms = and_parts (HoldsIn a) (HoldsIn b) parts.1 in (value_held v parts.0, stmt_held a arms.0, stmt_held b arms.1)
    stmt_held (unit.loop_of line annot turns body) h =
        let first = and_parts (HoldsIf turns.before) (HoldsIf turns.step && (HoldsIf turns.behind && HoldsIn body)) h in
        let second = and_parts (HoldsIf turns.step) (HoldsIf turns.behind && HoldsIn body) first.1 in
        let third = and_parts (HoldsIf turns.behind) (HoldsIn body) second.1 in
        (if_held turns.before first.0, if_held turns.step second.0, if_held turns.behind third.0, stmt_held body third.1)
    stmt_held (unit.switch line v body) h = let parts = and_parts (Holds v) (stmts_hold m body) h in (value_held v parts.0, stmts_held body parts.1)
    stmt_held (unit.case_of line z) h = tt
    stmt_held (unit.default line) h = tt
    stmt_held (unit.break line) h = tt
    stmt_held (unit.continue line) h = tt
    stmt_held (unit.return_of line v) h = if_held v h
    stmt_held (unit.assert line q) h = tt

    pub stmts_held : (ys : unit.Stmts) → stmts_hold m ys ≡ true → AllIn AreHeld ys
    stmts_held unit.stop h = tt
    stmts_held (unit.more x xs) h = let parts = and_parts (HoldsIn x) (stmts_hold m xs) h in (stmt_held x parts.0, stmts_held xs parts.1)
