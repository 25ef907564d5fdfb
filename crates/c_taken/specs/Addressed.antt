-- The names directly behind `&` (C11 6.5.3.2p3) in a text, without those that something inside hides (C11 6.2.1p4; ACSL 2.2). `&x` has the name `x`, while
-- `&x[0]` and `&x.f` have none of their own. Names are listed with the last operand first, as it is easiest to gather them; the order of one text's
-- names only tells in which order they are noted.
use Rattle.std.specs.Prelude.{ℕ, Bool, true, false, not, List, [], ◌∷◌, ◌++◌, map, Option, Some, None, if◌then◌else◌}
use Rattle.std.specs.Option.{option_to_list}
use Rattle.std.specs.List.{filter, flat_map, list_any}
use Rattle.std.specs.Str.{bytes_eq}
use Rattle.c_syntax.specs.declared.expr.UnOp.{UnOp}
use Rattle.c_syntax.specs.declared.expr.UnOp.TheVariants as op
use Rattle.c_syntax.specs.Expr as e
use Rattle.c_syntax.specs.Term as t
use Rattle.c_syntax.specs.Pred as p
use Rattle.c_syntax.specs.Contract as c
use Rattle.c_syntax.specs.Decl as d

abbrev pub Names : Type 0
Names = List (List ℕ)

-- the names of all items, those of the last one first
abbrev pub last_first : {X : Type 0} → (X → Names) → List X → Names
last_first f [] = []
last_first f (x ∷ xs) = last_first f xs ++ f x

-- ---- `&`

abbrev pub is_address : UnOp → Bool
is_address op.AddressOf = true
is_address o = false

-- the name behind an operator, where that is `&` and its operand is a name
abbrev pub behind : UnOp → Option (List ℕ) → Option (List ℕ)
behind o x = if is_address o then x else None

-- ---- expressions and types (C11 6.5, 6.7.6, 6.7.7)

-- the name that an expression is
abbrev pub name_of : e.Expr → Option (List ℕ)
name_of (e.name line x) = Some x
name_of a = None

abbrev mutual
  pub addressed : e.Expr → Names
  addressed (e.number line token) = []
  addressed (e.char line z) = []
  addressed (e.name line x) = []
  addressed (e.unary line o a) = option_to_list (behind o (name_of a)) ++ addressed a
  addressed (e.binary line o a b) = addressed b ++ addressed a
  addressed (e.cond line test a b) = (addressed b ++ addressed a) ++ addressed test
  addressed (e.assign line o a b) = addressed b ++ addressed a
  addressed (e.step line up prefix a) = addressed a
  addressed (e.call line f args) = all_addressed args
  addressed (e.index line a b) = addressed b ++ addressed a
  addressed (e.field line a f arrow) = addressed a
  addressed (e.cast line type a) = type_addressed type ++ addressed a
  addressed (e.sizeof line type) = type_addressed type

  pub all_addressed : e.Exprs → Names
  all_addressed e.stop = []
  all_addressed (e.more a rest) = all_addressed rest ++ addressed a

  -- those in the lengths of arrays
  pub type_addressed : e.CType → Names
  type_addressed (e.pointer to) = type_addressed to
  type_addressed (e.array of length) = type_addressed of ++ addressed length
  type_addressed (e.constant of) = type_addressed of
  type_addressed e.void = []
  type_addressed (e.kind k) = []
  type_addressed e.integer = []
  type_addressed (e.struct_of x) = []
  type_addressed (e.enum_of x) = []
  type_addressed (e.named x) = []

-- an expression that may be left out
abbrev pub option_addressed : Option e.Expr → Names
option_addressed None = []
option_addressed (Some a) = addressed a

-- ---- names that are declared

-- in the type and the initialiser of a declared name
abbrev pub var_addressed : e.VarDecl → Names
var_addressed v = type_addressed v.ty ++ option_addressed v.init

abbrev pub vars_addressed : List e.VarDecl → Names
vars_addressed vs = flat_map var_addressed vs

abbrev pub names_of : List e.VarDecl → Names
names_of vs = map (λ v. v.name) vs

abbrev pub is_among : Names → List ℕ → Bool
is_among xs x = list_any (bytes_eq x) xs

-- those that aren't hidden
abbrev pub outside : (hidden : Names) → Names → Names
outside hidden xs = filter (λ x. not (is_among hidden x)) xs

-- ---- terms (ACSL 2.2)

abbrev pub term_name_of : t.Term → Option (List ℕ)
term_name_of (t.name line x) = Some x
term_name_of a = None

abbrev mutual
  pub term_addressed : t.Term → Names
  term_addressed (t.number line token) = []
  term_addressed (t.char line z) = []
  term_addressed (t.name line x) = []
  term_addressed (t.unary line o a) = option_to_list (behind o (term_name_of a)) ++ term_addressed a
  term_addressed (t.binary line o a b) = term_addressed b ++ term_addressed a
  term_addressed (t.cond line test a b) = (term_addressed b ++ term_addressed a) ++ term_addressed test
  term_addressed (t.call line f args) = terms_addressed args
  term_addressed (t.index line a b) = term_addressed b ++ term_addressed a
  term_addressed (t.field line a f arrow) = term_addressed a
  term_addressed (t.cast line type a) = type_addressed type ++ term_addressed a
  term_addressed (t.result line) = []
  term_addressed (t.old line a) = term_addressed a
  term_addressed (t.at_label line a label) = term_addressed a
  term_addressed (t.null line) = []
  term_addressed (t.range line a b) = term_addressed b ++ term_addressed a

  pub terms_addressed : t.Terms → Names
  terms_addressed t.stop = []
  terms_addressed (t.more a rest) = terms_addressed rest ++ term_addressed a

-- ---- predicates (ACSL 2.2)

-- A quantifier or `\let` hides its names in its body alone: neither in the types of binders nor in the value of `\let`.
abbrev pub pred_addressed : p.Pred → Names
pred_addressed (p.always line) = []
pred_addressed (p.never line) = []
pred_addressed (p.not_of line a) = pred_addressed a
pred_addressed (p.and_of line a b) = pred_addressed b ++ pred_addressed a
pred_addressed (p.xor_of line a b) = pred_addressed b ++ pred_addressed a
pred_addressed (p.or_of line a b) = pred_addressed b ++ pred_addressed a
pred_addressed (p.implies line a b) = pred_addressed b ++ pred_addressed a
pred_addressed (p.iff line a b) = pred_addressed b ++ pred_addressed a
pred_addressed (p.cond line test a b) = (pred_addressed b ++ pred_addressed a) ++ pred_addressed test
pred_addressed (p.let_in line x value a) = term_addressed value ++ outside (x ∷ []) (pred_addressed a)
pred_addressed (p.chain line terms ops) = last_first term_addressed terms
pred_addressed (p.for_all line binders a) = vars_addressed binders ++ outside (names_of binders) (pred_addressed a)
pred_addressed (p.for_some line binders a) = vars_addressed binders ++ outside (names_of binders) (pred_addressed a)
pred_addressed (p.valid line pointer) = term_addressed pointer
pred_addressed (p.valid_read line pointer) = term_addressed pointer
pred_addressed (p.separated line pointers) = last_first term_addressed pointers
pred_addressed (p.old line a) = pred_addressed a
pred_addressed (p.call line f args) = last_first term_addressed args

-- ---- contracts, loops and definitions (ACSL 2.3, 2.4.2, 2.5, 2.6.1)

abbrev pub clauses_addressed : List c.Clause → Names
clauses_addressed cs = flat_map (λ (x : c.Clause). pred_addressed x.pred) cs

abbrev pub set_addressed : Option (List t.Term) → Names
set_addressed None = []
set_addressed (Some ts) = last_first term_addressed ts

abbrev pub measure_addressed : Option c.Measure → Names
measure_addressed None = []
measure_addressed (Some m) = term_addressed m.term

abbrev pub behavior_addressed : c.Behavior → Names
behavior_addressed b =
    clauses_addressed b.assumes ++ clauses_addressed b.requires_ ++ set_addressed b.assigns.set ++ clauses_addressed b.ensures_

abbrev pub behaviors_addressed : List c.Behavior → Names
behaviors_addressed bs = flat_map behavior_addressed bs

abbrev pub contract_addressed : c.Contract → Names
contract_addressed k =
    clauses_addressed k.requires_ ++ set_addressed k.assigns.set ++ clauses_addressed k.ensures_ ++ measure_addressed k.decreases_
    ++ behaviors_addressed k.behaviors

abbrev pub loop_addressed : c.LoopAnnot → Names
loop_addressed l = clauses_addressed l.invariants ++ set_addressed l.assigns.set ++ measure_addressed l.variant

abbrev pub body_addressed : d.LogicBody → Names
body_addressed (d.term a) = term_addressed a
body_addressed (d.pred a) = pred_addressed a

abbrev pub result_addressed : Option e.CType → Names
result_addressed None = []
result_addressed (Some type) = type_addressed type

-- a definition's parameters hide in its body
abbrev pub logic_addressed : d.LogicDecl → Names
logic_addressed l = result_addressed l.result ++ vars_addressed l.params ++ outside (names_of l.params) (body_addressed l.body)
