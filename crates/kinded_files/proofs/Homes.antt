-- Variables whose addresses are taken are such that pointers may lead to them.
use Rattle.std.proofs.Common.{◌≡◌, ℕ, ℤ, zero, suc, Bool, true, false, not, List, [], ◌∷◌, ◌++◌, length, Option, Some, slice_get, slice_index_or, refl, sym, ap, subst, ◌∙◌, ◌⊎◌, inl, inr, arith, length-append}
use Rattle.std.proofs.lemmas.Bool.{false≢true, and_parts}
use Rattle.wp_base.specs.declared.kinds.Kind.{Kind}
use Rattle.c_syntax.specs.Expr as e
use Rattle.c_syntax.specs.Stmt as spelled
use Rattle.typed_prog.specs.declared.types.CoreType.{CoreType}
use Rattle.typed_prog.specs.declared.operators.Path.{Path}
use Rattle.typed_prog.specs.declared.operators.Root.{Root}
use Rattle.typed_prog.specs.declared.operators.Root.TheVariants as root
use Rattle.typed_prog.specs.declared.operators.Step.{Step}
use Rattle.typed_prog.specs.declared.operators.Variable.TheVariants as variable
use Rattle.typed_prog.specs.Tree as t
use Rattle.name_table.specs.Names.{Names as Table, meaning_of, is_free}
use Rattle.c_rules.specs.Operators.{is_scalar}
use Rattle.c_scopes.specs.declared.symbols.Resolved.{Resolved}
use Rattle.c_scopes.specs.declared.symbols.Symbol.{Symbol}
use Rattle.c_scopes.specs.declared.symbols.Symbol.TheVariants as symbol
use Rattle.c_scopes.specs.Declarations.{is_free_here}
use Rattle.c_variables.specs.declared.context.Context.{Context}
use Rattle.c_stmts.specs.Locals.{is_plain_local, with_variable, count_of}
use Rattle.typed_unit.specs.Stmt as unit
use Rattle.c_typed_stmts.specs.Judgement as j
use Rattle.c_typed_stmts.specs.Judgement.{IsLocal, AreLocals, IsTyped, AreTyped, AreLabelled}
use Rattle.c_typed_files.specs.Functions as g
use Rattle.c_typed_files.specs.Functions.{AreParams}
use Rattle.c_addressed.specs.Addressed.{OpTakes, NodeTakes, ValueTakes, AllTake}
use Rattle.plain_files.proofs.Contexts.{count_with}
use Rattle.kinded_programs.specs.Nodes.{EachNode, EachPart, EachOperand}
use Rattle.kinded_files.proofs.Marks.{Marks}
use Rattle.kinded_files.proofs.Taken.{MarkedBy}

-- ---- locals whose addresses aren't taken

-- `T`: which locals are marked
pub record Untaken (T : List Bool) (c : Context) : Type 0 where
  pub same : c.taken ≡ T
  pub count : length c.locals ≡ count_of c
  pub flags : (n : ℕ) → slice_index_or c.locals n false ≡ true → slice_index_or T n true ≡ false

last_flag : (fs : List Bool) (f : Bool) (n : ℕ) → slice_index_or (fs ++ f ∷ []) n false ≡ true → (slice_index_or fs n false ≡ true) ⊎ ((n ≡ length fs) × (f ≡ true))
last_flag [] f zero h = inr (refl, h)
last_flag [] f (suc n) h = absurd (false≢true h)
last_flag (x ∷ fs) f zero h = inl h
last_flag (x ∷ fs) f (suc n) h = by (last_flag fs f n h) where
  by : (slice_index_or fs n false ≡ true) ⊎ ((n ≡ length fs) × (f ≡ true)) → (slice_index_or fs n false ≡ true) ⊎ ((suc n ≡ suc (length fs)) × (f ≡ true))
  by (inl k) = inl k
  by (inr k) = inr (ap suc k.0, k.1)

not_so : (b : Bool) → not b ≡ true → b ≡ false
not_so true h = absurd (false≢true h)
not_so false h = refl

variable_untaken : (T : List Bool) (c : Context) (d : e.VarDecl) (t : Resolved) → is_free_here c.scope.local d.name ≡ true → Untaken T c → Untaken T (with_variable c d t)
variable_untaken T c d t new h = record {
  same = h.same;
  count =
      let more = length-append c.locals (is_plain_local c (count_of c) t.ty ∷ []) in
      let here = count_with c d t new in
      let before = h.count in omega (arith, more, here, before);
  flags = λ n k. by n (last_flag c.locals (is_plain_local c (count_of c) t.ty) n k);
} where
  by : (n : ℕ) → (slice_index_or c.locals n false ≡ true) ⊎ ((n ≡ length c.locals) × (is_plain_local c (count_of c) t.ty ≡ true)) → slice_index_or T n true ≡ false
  by n (inl k) = h.flags n k
  by n (inr k) =
      let untaken = not_so (slice_index_or c.taken (count_of c) true) (and_parts (not (slice_index_or c.taken (count_of c) true)) (is_scalar t.ty) k.1).0 in
      ap (λ i. slice_index_or T i true) (k.0 ∙ h.count) ∙ ap (λ ts. slice_index_or ts (count_of c) true) (sym h.same) ∙ untaken

local_untaken : {T : List Bool} {c : Context} {d : e.VarDecl} {r : unit.Declared} {b : Context} → IsLocal c d r b → Untaken T c → Untaken T b
local_untaken {T = T} {c = c} {d = d} is h =
    let k = variable_untaken T c d is.is is.new h in subst (Untaken T) (sym is.declares) (record { same = k.same; count = k.count; flags = k.flags })

locals_untaken : {T : List Bool} {c : Context} {ds : List e.VarDecl} {rs : List unit.Declared} {b : Context} → AreLocals c ds rs b → Untaken T c → Untaken T b
locals_untaken (j.no_local c) h = h
locals_untaken (j.one_local c next behind d r ds rs is are) h = locals_untaken are (local_untaken is h)

pub params_untaken : {T : List Bool} {c : Context} {ds : List e.VarDecl} {b : Context} → AreParams c ds b → Untaken T c → Untaken T b
params_untaken (g.no_param c) h = h
params_untaken {T = T} (g.one_param c next b d ds is are) h = params_untaken are (subst (Untaken T) (sym is.declares) (variable_untaken T c d is.is is.new h))

-- a block leaves what is declared as it is
still : (T : List Bool) (c b : Context) → b.taken ≡ c.taken → b.locals ≡ c.locals → count_of b ≡ count_of c → Untaken T c → Untaken T b
still T c b taken locals count h = record {
  same = taken ∙ h.same;
  count = ap length locals ∙ h.count ∙ sym count;
  flags = λ n k. h.flags n (ap (λ fs. slice_index_or fs n false) (sym locals) ∙ k);
}

mutual
  pub stmt_untaken : {T : List Bool} {c : Context} {x : spelled.Stmt} {y : unit.Stmt} {b : Context} → IsTyped c x y b → Untaken T c → Untaken T b
  stmt_untaken (j.empty c line) h = h
  stmt_untaken (j.expr c line a v is) h = h
  stmt_untaken {T = T} (j.block c b line xs ys are) h = still T b _ refl refl refl (stmts_untaken are (still T c _ refl refl refl h))
  stmt_untaken (j.locals c b line ds rs are) h = locals_untaken are h
  stmt_untaken (j.if_only c b line test v x y is so) h = stmt_untaken so h
  stmt_untaken (j.if_else c next b line test v x x' y y' is so so') h = stmt_untaken so' (stmt_untaken so h)
  stmt_untaken (j.while_loop c b line annot test v x y is so) h = stmt_untaken so h
  stmt_untaken (j.do_loop c b line annot test v x y so is) h = stmt_untaken so h
  stmt_untaken {T = T} (j.for_loop c next b line annot first body test step y z v w so is is' so') h =
      still T b _ refl refl refl (stmt_untaken so' (stmt_untaken so (still T c _ refl refl refl h)))
  stmt_untaken {T = T} (j.switch c b line a v xs ys is are) h = still T b _ refl refl refl (labelled_untaken are (still T c _ refl refl refl h))
  stmt_untaken (j.break c line) h = h
  stmt_untaken (j.continue c line) h = h
  stmt_untaken (j.return_of c line a v is) h = h
  stmt_untaken (j.assert c line q) h = h

  pub stmts_untaken : {T : List Bool} {c : Context} {xs : spelled.Stmts} {ys : unit.Stmts} {b : Context} → AreTyped c xs ys b → Untaken T c → Untaken T b
  stmts_untaken (j.no_stmt c) h = h
  stmts_untaken (j.one_stmt c next b x y xs ys is are) h = stmts_untaken are (stmt_untaken is h)

  labelled_untaken : {T : List Bool} {k : Option Kind} {zs : List ℤ} {c : Context} {xs : spelled.Stmts} {ys : unit.Stmts} {b : Context} → AreLabelled k zs c xs ys b → Untaken T c → Untaken T b
  labelled_untaken (j.no_item k zs c) h = h
  labelled_untaken (j.label k zs c b line a z xs ys is new are) h = labelled_untaken are h
  labelled_untaken (j.default k zs c b line xs ys are) h = labelled_untaken are h
  labelled_untaken (j.one_item k zs c next b x y xs ys is are) h = labelled_untaken are (stmt_untaken is h)

-- ---- whole variables

-- `taken`: the names of the file whose addresses are taken; `plain`: which locals no pointer leads to
module _ (names : Table Symbol) (taken : Table Bool) (plain : List Bool) where
  abbrev pub HomeBy : Root → List Step → Type 0
  HomeBy (root.Variable (variable.Local n)) [] = slice_index_or plain n false ≡ false
  HomeBy (root.Variable (variable.Global n)) [] = (y : List ℕ) × (meaning_of names y ≡ Some (symbol.Object (variable.Global n))) × (is_free taken y ≡ false)
  HomeBy (root.Variable (variable.Local n)) (s ∷ ss) = Unit {0}
  HomeBy (root.Variable (variable.Global n)) (s ∷ ss) = Unit {0}
  HomeBy (root.Pointed n) ss = Unit {0}

  abbrev pub IsHome : Path → Type 0
  IsHome path = HomeBy path.root path.steps

  index_there : (fs : List Bool) (n : ℕ) → slice_get fs n ≡ Some true → slice_index_or fs n true ≡ true
  index_there [] n h = refl
  index_there (f ∷ fs) zero h = cc
  index_there (f ∷ fs) (suc n) h = index_there fs n h

  -- a variable that is marked isn't one that no pointer leads to
  pub home_of : (last : Marks) → ((n : ℕ) → slice_index_or plain n false ≡ true → slice_index_or last.taken n true ≡ false) → ((y : List ℕ) → is_free last.outer y ≡ false → is_free taken y ≡ false)
      → (r : Root) (ss : List Step) → MarkedBy names last r ss → HomeBy r ss
  home_of last flags outer (root.Variable (variable.Local n)) [] h = by (slice_index_or plain n false) refl where
    by : (b : Bool) → slice_index_or plain n false ≡ b → b ≡ false
    by true k = absurd (false≢true (sym (flags n k) ∙ index_there last.taken n h))
    by false k = refl
  home_of last flags outer (root.Variable (variable.Global n)) [] h = (h.0, h.1, outer h.0 h.2)
  home_of last flags outer (root.Variable (variable.Local n)) (s ∷ ss) h = tt
  home_of last flags outer (root.Variable (variable.Global n)) (s ∷ ss) h = tt
  home_of last flags outer (root.Pointed n) ss h = tt

-- more names of the file
pub home_more : (ns ns' : Table Symbol) (taken : Table Bool) (plain : List Bool) → ((x : List ℕ) (s : Symbol) → meaning_of ns x ≡ Some s → meaning_of ns' x ≡ Some s) → (r : Root) (ss : List Step)
    → HomeBy ns taken plain r ss → HomeBy ns' taken plain r ss
home_more ns ns' taken plain more (root.Variable (variable.Local n)) [] h = h
home_more ns ns' taken plain more (root.Variable (variable.Global n)) [] h = (h.0, more h.0 (symbol.Object (variable.Global n)) h.1, h.2)
home_more ns ns' taken plain more (root.Variable (variable.Local n)) (s ∷ ss) h = tt
home_more ns ns' taken plain more (root.Variable (variable.Global n)) (s ∷ ss) h = tt
home_more ns ns' taken plain more (root.Pointed n) ss h = tt

-- ---- node by node

module _ (N : Path → Type 0) where
  abbrev pub TakesAt : CoreType → t.ValueNode → Type 0
  TakesAt type (t.constant z) = Unit {0}
  TakesAt type t.null = Unit {0}
  TakesAt type (t.temporary n) = Unit {0}
  TakesAt type (t.apply o es) = OpTakes N o
  TakesAt type (t.logic how a b) = Unit {0}
  TakesAt type (t.choose test a b) = Unit {0}
  TakesAt type (t.effect does es) = Unit {0}

  mutual
    pub takes_nodes : (v : t.Value) → ValueTakes N v → EachNode TakesAt v
    takes_nodes (t.typed node type line) h = takes_part node type h

    takes_part : (node : t.ValueNode) (type : CoreType) → NodeTakes N node → TakesAt type node × EachPart TakesAt node
    takes_part (t.constant z) type h = (tt, tt)
    takes_part t.null type h = (tt, tt)
    takes_part (t.temporary n) type h = (tt, tt)
    takes_part (t.apply o es) type h = (h.0, takes_all es h.1)
    takes_part (t.logic how a b) type h = (tt, (takes_nodes a h.0, takes_nodes b h.1))
    takes_part (t.choose test a b) type h = (tt, (takes_nodes test h.0, takes_nodes a h.1, takes_nodes b h.2))
    takes_part (t.effect does es) type h = (tt, takes_all es h)

    takes_all : (es : t.Values) → AllTake N es → EachOperand TakesAt es
    takes_all t.stop h = tt
    takes_all (t.more v vs) h = (takes_nodes v h.0, takes_all vs h.1)
