-- The types of names by their numbers, and which names give what their types say.
use Rattle.std.proofs.Common.{◌≡◌, ℕ, suc, zero, Bool, true, false, ◌||◌, List, [], ◌∷◌, Option, Some, None, slice_get, refl, ap, sym, ◌∙◌, subst}
use Rattle.c_syntax.specs.Term as t
use Rattle.acsl_guards.specs.Mentions.{Names as NotThese, is_among, is_one_of, some_part_of, holds_one}
use Rattle.acsl_trees.specs.declared.operands.TermType.{TermType}
use Rattle.acsl_names.specs.declared.names.Bound.{Bound}
use Rattle.acsl_names.specs.declared.names.Definition.{Definition}
use Rattle.acsl_names.specs.declared.names.Meaning.{Meaning}
use Rattle.acsl_names.specs.declared.names.Meaning.TheVariants as meaning
use Rattle.acsl_names.specs.Names.{Around, meaning_at}
use Rattle.acsl_well_typed.specs.WellTyped.{What, Names, type_gives, types_give, one_more}
use Rattle.acsl_well_typed.specs.Terms.{HasTypes, HaveTypes}

-- ---- names and definitions by number

-- the parts of one more
pub parts_by : {X : Type 0} (a : Option X) (o : Option (List X)) (xs : List X) → one_more a o ≡ Some xs
    → (x : X) × (rest : List X) × (a ≡ Some x) × (o ≡ Some rest) × (xs ≡ x ∷ rest)
parts_by (Some x) (Some rest) xs h = (x, rest, refl, refl, cc)
parts_by (Some x) None xs h = absurd cc
parts_by None o xs h = absurd cc

pub type_at : (ts : List TermType) (ns : Names) (i : ℕ) (t : TermType) → types_give ts ≡ Some ns → slice_get ts i ≡ Some t
    → (w : What) × (type_gives t ≡ Some w) × (slice_get ns i ≡ Some w)
type_at [] ns i t h found = absurd cc
type_at (u ∷ ts) ns zero t h found =
    let p : (x : What) × (rest : Names) × (type_gives u ≡ Some x) × (types_give ts ≡ Some rest) × (ns ≡ x ∷ rest) = parts_by _ _ ns h in
    let same : u ≡ t = cc in (p.0, ap type_gives (sym same) ∙ p.2, ap (λ ns. slice_get ns zero) p.4)
type_at (u ∷ ts) ns (suc i) t h found =
    let p : (x : What) × (rest : Names) × (type_gives u ≡ Some x) × (types_give ts ≡ Some rest) × (ns ≡ x ∷ rest) = parts_by _ _ ns h in
    let q : (w : What) × (type_gives t ≡ Some w) × (slice_get p.1 i ≡ Some w) = type_at ts p.1 i t p.3 found in
    (q.0, q.1, ap (λ ns. slice_get ns (suc i)) p.4 ∙ q.2)

pub definition_at : (ds : List Definition) (i : ℕ) (d : Definition) → HaveTypes ds → slice_get ds i ≡ Some d → HasTypes d
definition_at [] i d h found = absurd cc
definition_at (x ∷ ds) zero d h found = let same : x ≡ d = cc in subst HasTypes same h.0
definition_at (x ∷ ds) (suc i) d h found = definition_at ds i d h.1 found

-- what a name of this meaning is, if it is bound, gives what its type says
abbrev pub IsFine : Bound → Names → Meaning → Type 0
IsFine b ns m = (i : ℕ) (t : TermType) → m ≡ meaning.Bound i → slice_get b.types i ≡ Some t → (w : What) × (type_gives t ≡ Some w) × (slice_get ns i ≡ Some w)

-- so are all names but these
abbrev pub AreFine : Around → Bound → Names → NotThese → Type 0
AreFine c b ns xs = (x : List ℕ) → is_among xs x ≡ false → IsFine b ns (meaning_at c b x)

both_no : (a b : Bool) → a ≡ false → b ≡ false → (a || b) ≡ false
both_no true b e d = absurd cc
both_no false b e d = d

pub neither : (a b : Bool) → (a || b) ≡ false → (a ≡ false) × (b ≡ false)
neither true b e = absurd cc
neither false b e = (refl, e)

-- ---- all names in scope

mutual
  pub none_of_no : (a : t.Term) → holds_one [] a ≡ false
  none_of_no (t.number line token) = refl
  none_of_no (t.char line v) = refl
  none_of_no (t.name line x) = refl
  none_of_no (t.unary line o a) = none_of_no a
  none_of_no (t.binary line o a d) = both_no _ _ (none_of_no a) (none_of_no d)
  none_of_no (t.cond line test a d) = both_no _ _ (none_of_no test) (both_no _ _ (none_of_no a) (none_of_no d))
  none_of_no (t.call line f args) = none_of_nothing args
  none_of_no (t.index line a d) = both_no _ _ (none_of_no a) (none_of_no d)
  none_of_no (t.field line a f arrow) = none_of_no a
  none_of_no (t.cast line type a) = none_of_no a
  none_of_no (t.result line) = refl
  none_of_no (t.old line a) = none_of_no a
  none_of_no (t.at_label line a x) = none_of_no a
  none_of_no (t.null line) = refl
  none_of_no (t.range line a d) = both_no _ _ (none_of_no a) (none_of_no d)

  pub none_of_nothing : (args : t.Terms) → some_part_of (is_one_of []) args ≡ false
  none_of_nothing t.stop = refl
  none_of_nothing (t.more a rest) = both_no _ _ (none_of_no a) (none_of_nothing rest)

-- each name has a type
pub all_fine : (c : Around) (b : Bound) (ns : Names) → types_give b.types ≡ Some ns → AreFine c b ns []
all_fine c b ns scope x free i t is found = type_at b.types ns i t scope found
