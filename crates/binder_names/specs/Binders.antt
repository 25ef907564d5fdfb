-- The binders of predicates as they are spelled, in the order of the text, with definitions expanded in place (ACSL 2.2, 2.6): a binder first, and then those
-- under it. That of a range in `\valid` is `r`. No term binds a name but for `\let`, which stands for its value.
use Rattle.std.specs.Prelude.{ℕ, Bool, true, false, if◌then◌else◌, List, [], ◌∷◌, ◌++◌, map, codes}
use Rattle.std.specs.Str.{bytes_eq}
use Rattle.c_syntax.specs.Expr.{VarDecl}
use Rattle.c_syntax.specs.Term as t
use Rattle.c_syntax.specs.Pred as p
use Rattle.c_syntax.specs.Decl as d
use Rattle.typed_unit.specs.Unit as u
use Rattle.acsl_encode.specs.Binders.{Spelled}

-- ---- definitions

-- a name, and the binders of what it stands for
pub record Known : Type 0 where
  pub name : List ℕ
  pub binders : Spelled

-- what isn't a predicate binds none
abbrev pub found : List Known → List ℕ → Spelled
found [] x = []
found (k ∷ ks) x = if bytes_eq k.name x then k.binders else found ks x

-- ---- predicates

abbrev pub is_range : t.Term → Bool
is_range (t.range line low high) = true
is_range a = false

-- a pointer moved by a range
abbrev pub is_span : t.Term → Bool
is_span (t.binary line o a b) = is_range b
is_span a = false

abbrev pub span_binder : t.Term → Spelled
span_binder a = if is_span a then codes "r" ∷ [] else []

abbrev pub name_of : VarDecl → List ℕ
name_of v = v.name

module _ (known : List Known) where
  abbrev pub binders_of : p.Pred → Spelled
  binders_of (p.always line) = []
  binders_of (p.never line) = []
  binders_of (p.not_of line a) = binders_of a
  binders_of (p.and_of line a b) = binders_of a ++ binders_of b
  binders_of (p.xor_of line a b) = binders_of a ++ binders_of b
  binders_of (p.or_of line a b) = binders_of a ++ binders_of b
  binders_of (p.implies line a b) = binders_of a ++ binders_of b
  binders_of (p.iff line a b) = binders_of a ++ binders_of b
  binders_of (p.cond line a b c) = binders_of a ++ (binders_of b ++ binders_of c)
  binders_of (p.let_in line x v a) = binders_of a
  binders_of (p.chain line ts os) = []
  binders_of (p.for_all line vs a) = map name_of vs ++ binders_of a
  binders_of (p.for_some line vs a) = map name_of vs ++ binders_of a
  binders_of (p.valid line a) = span_binder a
  binders_of (p.valid_read line a) = span_binder a
  binders_of (p.separated line ts) = []
  binders_of (p.old line a) = binders_of a
  binders_of (p.call line f args) = found known f

-- ---- files

abbrev pub body_binders : List Known → d.LogicBody → Spelled
body_binders ks (d.term a) = []
body_binders ks (d.pred a) = binders_of ks a

abbrev pub known_as : List Known → d.LogicDecl → Known
known_as ks l = record { name = l.name; binders = body_binders ks l.body }

abbrev pub with_decl : List Known → u.Annotated → List Known
with_decl ks (u.of_logic l) = known_as ks l ∷ ks
with_decl ks (u.of_function n params k has_body) = ks

-- those of a file, the last ones first, behind these; each is known behind its declaration
abbrev pub known_behind : List Known → List u.Part → List Known
known_behind ks [] = ks
known_behind ks (x ∷ xs) = known_behind (with_decl ks x.decl) xs
