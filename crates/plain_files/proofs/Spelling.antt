-- Values that spell an expression use local variables by names that are in scope.
use Rattle.std.proofs.Common.{◌≡◌, ℕ, pos, Bool, true, false, ◌&&◌, List, [], ◌∷◌, Some, refl}
use Rattle.c_syntax.specs.Expr as e
use Rattle.typed_prog.specs.declared.types.CoreType.{CoreType}
use Rattle.typed_prog.specs.declared.operators.Effect.TheVariants as effect
use Rattle.typed_prog.specs.declared.operators.Op.{Op}
use Rattle.typed_prog.specs.declared.operators.Op.TheVariants as op
use Rattle.typed_prog.specs.declared.operators.Root.{Root}
use Rattle.typed_prog.specs.declared.operators.Root.TheVariants as root
use Rattle.typed_prog.specs.declared.operators.Step.{Step}
use Rattle.typed_prog.specs.declared.operators.UpdateForm.TheVariants as form
use Rattle.typed_prog.specs.declared.operators.Variable.TheVariants as variable
use Rattle.typed_prog.specs.Tree as t
use Rattle.c_operands.specs.Conversions.{number_of}
use Rattle.c_scopes.specs.declared.symbols.Symbol.TheVariants as symbol
use Rattle.c_scopes.specs.Declarations.{find}
use Rattle.c_exprs.specs.Typing.{Around}
use Rattle.c_spelled_back.specs.Ways.{WaySpells}
use Rattle.c_spelled_back.specs.Spelled.{OpSpells, ValueSpells, NodeSpells, ValuesSpell, BehindOneSpell}
use Rattle.plain_programs.specs.Values.{root_in, node_stands, stands, all_stand}

both : (a b : Bool) → a ≡ true → b ≡ true → (a && b) ≡ true
both true b h k = k
both false b h k = h

-- some expressions are spelled by the operands
operands_of : (c : Around) (o : Op) (P : List e.Expr → Type 0) (type : CoreType) (line : ℕ) (x : e.Expr) → OpSpells c o P type line x → (xs : List e.Expr) × P xs
operands_of c (op.Read path) P type line x h = (h.0, h.1)
operands_of c (op.Decay path accessed) P type line x h = (h.0, h.1)
operands_of c (op.Address path accessed) P type line x h = (h.0, h.2)
operands_of c op.Negate P type line x h = (h.0 ∷ [], h.1)
operands_of c op.Complement P type line x h = (h.0 ∷ [], h.1)
operands_of c op.Not P type line x h = (h.0 ∷ [], h.1)
operands_of c (op.Arithmetic o) P type line x h = (h.0 ∷ h.1 ∷ [], h.2)
operands_of c (op.Compare o) P type line x h = (h.0 ∷ h.1 ∷ [], h.2)
operands_of c (op.ComparePointers o) P type line x h = (h.0 ∷ h.1 ∷ [], h.2)
operands_of c (op.Offset minus index_first size accessed) P type line x h = (h.0 ∷ h.1 ∷ [], h.2)
operands_of c (op.Difference size) P type line x h = (h.0 ∷ h.1 ∷ [], h.2)
operands_of c op.Convert P type line x h = (x ∷ [], h)
operands_of c op.Requalify P type line x h = (x ∷ [], h)
operands_of c op.Cast P type line x h = (h.4.0 ∷ [], h.4.1)

-- the number 1 uses no variable
one_stands : (g : ℕ → Bool) (v : t.Value) → number_of v ≡ Some (pos 1) → stands g v ≡ true
one_stands g (t.typed (t.constant z) type l) h = refl
one_stands g (t.typed t.null type l) h = refl
one_stands g (t.typed (t.temporary n) type l) h = refl
one_stands g (t.typed (t.apply o es) type l) h = cc
one_stands g (t.typed (t.logic c a b) type l) h = cc
one_stands g (t.typed (t.choose c a b) type l) h = cc
one_stands g (t.typed (t.effect e es) type l) h = cc

-- each local that a name stands for is in scope
abbrev pub Finds : Around → (ℕ → Bool) → Type 0
Finds c g = (x : List ℕ) (n : ℕ) → find c.scope x ≡ Some (symbol.Object (variable.Local n)) → g n ≡ true

module _ (c : Around) (g : ℕ → Bool) (finds : Finds c g) where
  way_in : (xs : List e.Expr) (r : Root) (ss : List Step) (x : e.Expr) → WaySpells c xs r ss x → root_in g r ≡ true
  way_in xs (root.Variable (variable.Local n)) ss x h = finds h.1 n h.2
  way_in xs (root.Variable (variable.Global n)) ss x h = refl
  way_in xs (root.Pointed n) ss x h = refl

  mutual
    pub value_stands : (v : t.Value) (x : e.Expr) → ValueSpells c v x → stands g v ≡ true
    value_stands (t.typed node type line) x h = spelled_stands node type line h.0 h.3

    spelled_stands : (node : t.ValueNode) (type : CoreType) (line : ℕ) (x : e.Expr) → NodeSpells c node type line x → node_stands g node ≡ true
    spelled_stands (t.constant z) type line x h = refl
    spelled_stands t.null type line x h = refl
    spelled_stands (t.temporary n) type line x h = refl
    spelled_stands (t.apply o es) type line x h =
        let r = operands_of c o (λ xs. ValuesSpell c es xs) type line x h in values_stand es r.0 r.1
    spelled_stands (t.logic how v w) type line x h = both (stands g v) (stands g w) (value_stands v h.0 h.2) (value_stands w h.1 h.3)
    spelled_stands (t.choose test v w) type line x h =
        both (stands g test) (stands g v && stands g w) (value_stands test h.0 h.3) (both (stands g v) (stands g w) (value_stands v h.1 h.4) (value_stands w h.2 h.5))
    spelled_stands (t.effect (effect.Assign path) es) type line x h = both (root_in g path.root) (all_stand g es) (way_in h.1 path.root path.steps h.2 h.4.1) (values_stand es (h.0 ∷ h.1) h.3)
    spelled_stands (t.effect (effect.Update path by form.Compound) es) type line x h =
        both (root_in g path.root) (all_stand g es) (way_in h.1 path.root path.steps h.2 h.4.1) (values_stand es (h.0 ∷ h.1) h.3)
    spelled_stands (t.effect (effect.Update path by form.Prefix) es) type line x h =
        both (root_in g path.root) (all_stand g es) (way_in h.1 path.root path.steps h.2 h.4.1) (behind_one_stand es h.1 h.3)
    spelled_stands (t.effect (effect.Update path by form.Postfix) es) type line x h =
        both (root_in g path.root) (all_stand g es) (way_in h.1 path.root path.steps h.2 h.4.1) (behind_one_stand es h.1 h.3)
    spelled_stands (t.effect (effect.Call n) es) type line x h = values_stand es (e.list_of h.1) h.3

    values_stand : (es : t.Values) (xs : List e.Expr) → ValuesSpell c es xs → all_stand g es ≡ true
    values_stand t.stop xs h = refl
    values_stand (t.more v vs) [] h = elim h [ ]
    values_stand (t.more v vs) (x ∷ xs) h = both (stands g v) (all_stand g vs) (value_stands v x h.0) (values_stand vs xs h.1)

    behind_one_stand : (es : t.Values) (xs : List e.Expr) → BehindOneSpell c es xs → all_stand g es ≡ true
    behind_one_stand t.stop xs h = elim h [ ]
    behind_one_stand (t.more v vs) xs h = both (stands g v) (all_stand g vs) (one_stands g v h.0) (values_stand vs xs h.1)
