-- What typing makes of terms is in order (ACSL 2.2.3).
use Rattle.std.specs.Prelude.{◌≡◌, Bool, List, [], ◌∷◌, length, Option, Some, None}
use Rattle.c_syntax.specs.Term as t
use Rattle.acsl_trees.specs.declared.operands.TermType.{TermType}
use Rattle.acsl_trees.specs.declared.operands.Sort.{Sort}
use Rattle.acsl_trees.specs.declared.operands.Sort.TheVariants as sort
use Rattle.acsl_trees.specs.Tree.{Tree}
use Rattle.acsl_trees.specs.Operands.{Operand}
use Rattle.acsl_rules.specs.Laws.{Holds}
use Rattle.acsl_names.specs.declared.names.Bound.{Bound}
use Rattle.acsl_names.specs.declared.names.Definition.{Definition}
use Rattle.acsl_names.specs.declared.names.Reading.{Reading}
use Rattle.acsl_names.specs.declared.counting.Count.{Count}
use Rattle.acsl_names.specs.Names.{Around}
use Rattle.acsl_names.specs.Weights.{count_of}
use Rattle.acsl_terms.specs.Terms.{typed, typed_for}
use Rattle.acsl_well_typed.specs.WellTyped.{What, an_integer, a_pointer, an_object, Known, Names, type_gives, types_give, result_gives, what_of}

-- ---- what stands around

-- the types of a definition's parameters, and that of its result
pub record HasTypes (d : Definition) : Type 0 where
  pub names : Names
  pub params : types_give d.params ≡ Some names
  pub given : What
  pub result : result_gives d.result ≡ Some given

abbrev pub HaveTypes : List Definition → Type 0
HaveTypes [] = Unit {0}
HaveTypes (d ∷ ds) = HasTypes d × HaveTypes ds

abbrev pub known_at : (ends : Bool) → Around → Known
known_at ends c = record { definitions = c.definitions.items; result = c.result; ends = ends }

-- ---- operands and arguments

abbrev pub sort_gives : Sort → Option What
sort_gives (sort.Object type label) = Some an_object
sort_gives (sort.Integer known) = Some an_integer
sort_gives (sort.Pointer type null) = Some a_pointer
sort_gives sort.Unknown = None

-- the tree gives what the sort says, which isn't that it has no type
pub record IsOfItsSort (k : Known) (ns : Names) (x : Operand) : Type 0 where
  pub given : What
  pub sort : sort_gives x.sort ≡ Some given
  pub tree : what_of k ns x.tree ≡ Some given

abbrev pub Gives : Known → Names → What → Tree → Type 0
Gives k ns w t = what_of k ns t ≡ Some w

-- each gives what its type says
abbrev pub AreOfTypes : Known → Names → List TermType → List Tree → Type 0
AreOfTypes k ns [] [] = Unit {0}
AreOfTypes k ns (p ∷ ps) (t ∷ ts) = ((w : What) × (type_gives p ≡ Some w) × Gives k ns w t) × AreOfTypes k ns ps ts
AreOfTypes k ns _ _ = ⊥

-- ---- laws

-- Where each name has a type, and so have the parameters and the results of the definitions, a term's tree gives what its sort says.
abbrev pub TermsAreWellTyped : Type 0
TermsAreWellTyped = (ends : Bool) (c : Around) (b : Bound) (ns : Names) (r : Reading) (n : Count) (a : t.Term) → HaveTypes c.definitions.items
    → types_give b.types ≡ Some ns
    → Holds (λ x. IsOfItsSort (known_at ends c) ns x.0) (typed c b r n a)

-- and so do the arguments for as many parameters
abbrev pub ArgumentsAreWellTyped : Type 0
ArgumentsAreWellTyped = (ends : Bool) (c : Around) (b : Bound) (ns : Names) (r : Reading) (n : Count) (types : List TermType) (args : t.Terms)
    → HaveTypes c.definitions.items
    → types_give b.types ≡ Some ns → (params : Names) → types_give types ≡ Some params → length types ≡ count_of args
    → Holds (λ vs. AreOfTypes (known_at ends c) ns types vs.0) (typed_for c b r n types args)
