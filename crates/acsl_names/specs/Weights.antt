-- How many nodes a term stands for once its calls are expanded (ACSL 2.6): an argument counts as often as its parameter stands in the definition, and
-- not at all where it doesn't. A call that isn't expanded counts as a node beside its arguments: one of a predicate, of what is no definition or
-- calls itself, or with too few or too many arguments.
use Rattle.std.specs.Prelude.{ℕ, suc, ◌==◌, Bool, true, false, ◌&&◌, not, List, [], ◌∷◌, map, length, Option, Some, None, slice_get}
use Rattle.std.specs.Option.{is_some}
use Rattle.c_syntax.specs.declared.shapes.terms.TermLeaf.{TermLeaf}
use Rattle.c_syntax.specs.declared.shapes.terms.TermLeaf.TheVariants as leaf
use Rattle.c_syntax.specs.declared.annot.Term.{Term}
use Rattle.c_syntax.specs.Term as t
use Rattle.c_syntax.specs.View.{view_term}
use Rattle.acsl_names.specs.declared.names.Bound.{Bound}
use Rattle.acsl_names.specs.declared.names.Definition.{Definition}
use Rattle.acsl_names.specs.declared.names.Definitions.{Definitions}
use Rattle.acsl_names.specs.declared.names.Meaning.{Meaning}
use Rattle.acsl_names.specs.declared.names.Meaning.TheVariants as meaning
use Rattle.acsl_names.specs.declared.counting.Weight.{Weight}
use Rattle.acsl_names.specs.Names.{Around, meaning_at, definition_of}
use Rattle.acsl_names.specs.declared.counting.Count.{Count}
use Rattle.acsl_names.specs.Counting.{times, with_own, with_name, counted}

-- arguments in memory
abbrev pub args_of : List Term → t.Terms
args_of args = t.terms_of (map view_term args)

abbrev pub count_of : t.Terms → ℕ
count_of t.stop = 0
count_of (t.more a rest) = suc (count_of rest)

-- a logic function with as many parameters that doesn't call itself
abbrev pub is_expanded : (count : ℕ) → Definition → Bool
is_expanded n d = is_some d.result && not d.is_recursive && length d.params == n

abbrev pub expanded_if : Bool → Definition → Option Definition
expanded_if true d = Some d
expanded_if false d = None

abbrev pub expanded_at : (count : ℕ) → Option Definition → Option Definition
expanded_at n None = None
expanded_at n (Some d) = expanded_if (is_expanded n d) d

-- what a term that calls a name with so many arguments is expanded by
abbrev pub expanded_by : Definitions → (count : ℕ) → Meaning → Option Definition
expanded_by ds n (meaning.Definition d) = expanded_at n (slice_get ds.items d)
expanded_by ds n _ = None

abbrev pub as_leaf : (n : ℕ) → Option Definition → Weight → Weight
as_leaf n (Some d) w = with_own (times n d.weight.own) w
as_leaf n None w = with_own n w

-- a name, so often
abbrev pub with_meaning : Definitions → (n : ℕ) → Meaning → Weight → Weight
with_meaning ds n (meaning.Bound i) w = with_name n i w
with_meaning ds n m w = as_leaf n (expanded_by ds 0 m) w

-- a term in which there is no other one
abbrev pub with_leaf : Around → Bound → (n : ℕ) → TermLeaf → Weight → Weight
with_leaf c b n (leaf.Name x) w = with_meaning c.definitions n (meaning_at c b x.now) w
with_leaf c b n _ w = with_own n w

abbrev pub with_call : (n : ℕ) → Option Definition → (each : List ℕ → Weight → Weight) → (all : Weight → Weight) → Weight → Weight
with_call n (Some d) each all w = each d.weight.times (with_own (times n d.weight.own) w)
with_call n None each all w = all (with_own n w)

abbrev mutual
  -- the weight with a term, so often
  pub with_term : Around → Bound → (n : ℕ) → t.Term → Weight → Weight
  with_term c b n (t.number line token) w = with_own n w
  with_term c b n (t.char line z) w = with_own n w
  with_term c b n (t.name line x) w = with_meaning c.definitions n (meaning_at c b x) w
  with_term c b n (t.result line) w = with_own n w
  with_term c b n (t.null line) w = with_own n w
  with_term c b n (t.unary line o a) w = with_term c b n a (with_own n w)
  with_term c b n (t.field line a f arrow) w = with_term c b n a (with_own n w)
  with_term c b n (t.cast line type a) w = with_term c b n a (with_own n w)
  with_term c b n (t.old line a) w = with_term c b n a (with_own n w)
  with_term c b n (t.at_label line a label) w = with_term c b n a (with_own n w)
  with_term c b n (t.binary line o a a') w = with_term c b n a' (with_term c b n a (with_own n w))
  with_term c b n (t.index line a a') w = with_term c b n a' (with_term c b n a (with_own n w))
  with_term c b n (t.range line a a') w = with_term c b n a' (with_term c b n a (with_own n w))
  with_term c b n (t.cond line a a' a'') w = with_term c b n a'' (with_term c b n a' (with_term c b n a (with_own n w)))
  with_term c b n (t.call line f args) w =
      with_call n (expanded_by c.definitions (count_of args) (definition_of c.definitions f)) (λ ks v. with_each c b n ks args v) (λ v. with_all c b n args v) w

  -- each argument as often as its parameter stands
  pub with_each : Around → Bound → (n : ℕ) → List ℕ → t.Terms → Weight → Weight
  with_each c b n ks t.stop w = w
  with_each c b n [] (t.more a rest) w = w
  with_each c b n (k ∷ ks) (t.more a rest) w = with_each c b n ks rest (with_term c b (times n k) a w)

  pub with_all : Around → Bound → (n : ℕ) → t.Terms → Weight → Weight
  with_all c b n t.stop w = w
  with_all c b n (t.more a rest) w = with_all c b n rest (with_term c b n a w)

-- a call with these arguments, so often
abbrev pub with_args : Around → Bound → (n : ℕ) → Option Definition → t.Terms → Weight → Weight
with_args c b n d args w = with_call n d (λ ks v. with_each c b n ks args v) (λ v. with_all c b n args v) w

-- the weight with a call that is expanded by this definition
unfoldable pub with_expanded : Around → Bound → Definition → t.Terms → Weight → Weight
with_expanded c b d args w = with_each c b 1 d.weight.times args (with_own d.weight.own w)

abbrev pub with_expanded_call : Around → Bound → (line : ℕ) → Definition → t.Terms → Count → Count
with_expanded_call c b line d args n = counted line (with_expanded c b d args n.weight) n
