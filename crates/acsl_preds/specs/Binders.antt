-- The names that a predicate binds (ACSL 2.2.2): those of quantifiers, each over a range that a guard or its kind gives, and that of `\let`.
use Rattle.std.specs.Prelude.{ℕ, Bool, if◌then◌else◌, List, [], ◌∷◌, ◌++◌, length, take, Option, Some, None, Ok}
use Rattle.wp_base.specs.declared.kinds.Kind.{Kind}
use Rattle.c_syntax.specs.Expr as e
use Rattle.c_answers.specs.Answers.{Answer, after, unknown}
use Rattle.typed_prog.specs.Types.{kind_of}
use Rattle.name_table.specs.Names.{is_free}
use Rattle.name_table.specs.Nesting.{entered, declared_in, innermost, around}
use Rattle.c_scopes.specs.declared.symbols.Resolved.{Resolved}
use Rattle.acsl_guards.specs.Guarding.{is_integer}
use Rattle.acsl_guards.specs.declared.ranges.Guard.{Guard}
use Rattle.acsl_trees.specs.declared.operands.TermType.{TermType}
use Rattle.acsl_trees.specs.declared.operands.TermType.TheVariants as type
use Rattle.acsl_names.specs.declared.names.Bound.{Bound}
use Rattle.acsl_names.specs.Names.{Around, type_named}
use Rattle.acsl_terms.specs.Leaves.{misshapen}
use Rattle.acsl_preds.specs.declared.binders.Over.{Over}
use Rattle.acsl_preds.specs.declared.binders.Over.TheVariants as over

-- ---- scopes

-- a quantifier or a `\let` begins
abbrev pub inside : Bound → Bound
inside b = record b { scopes = entered b.scopes }

-- one name more, with the next number
abbrev pub with_bound : Bound → List ℕ → TermType → Bound
with_bound b x t = record { scopes = declared_in b.scopes x (length b.types); types = b.types ++ t ∷ [] }

-- the names around it, of which there are so many
abbrev pub left : Bound → (count : ℕ) → Bound
left b n = record { scopes = around b.scopes; types = take n b.types }

abbrev pub is_new : Bound → List ℕ → Bool
is_new b x = is_free (innermost b.scopes) x

-- ---- binders

-- over all numbers of an integer kind
abbrev pub over_kind : (line : ℕ) → Option Kind → Answer Over
over_kind line (Some k) = Ok (over.Kind k)
over_kind line None = misshapen line

abbrev pub over_type : (line : ℕ) → Option Resolved → Answer Over
over_type line (Some t) = over_kind line (kind_of t.ty)
over_type line None = misshapen line

abbrev pub over_guard : (line : ℕ) → Option Guard → Answer Over
over_guard line (Some g) = Ok (over.Guarded g)
over_guard line None = misshapen line

abbrev pub over_named : Around → (line : ℕ) → e.CType → Answer Over
over_named c line type = after (type_named c line type) (over_type line)

-- a binder of type `integer` goes over the range of its guard; any other has an integer kind
abbrev pub over_by : Around → (line : ℕ) → e.CType → Option Guard → Answer Over
over_by c line type g = if is_integer type then over_guard line g else over_named c line type

-- a binder that has the name of one before it is a fault
abbrev pub binder_over : Around → Bound → e.VarDecl → Option Guard → Answer Over
binder_over c b d g = if is_new b d.name then over_by c d.line d.ty g else unknown d.line

abbrev pub one_binder : Around → Bound → e.VarDecl → Option Guard → Answer (Over × Bound)
one_binder c b d g = after (binder_over c b d g) (λ o. Ok (o, with_bound b d.name type.Integer))

-- the binders in order, each with its guard: their ranges, and the names with theirs
abbrev pub binders : Around → Bound → List e.VarDecl → List (Option Guard) → Answer (List Over × Bound)
binders c b (d ∷ ds) (g ∷ gs) =
    after (one_binder c b d g) (λ o. after (binders c o.1 ds gs) (λ r. Ok (o.0 ∷ r.0, r.1)))
binders c b ds gs = Ok ([], b)

-- what was bound so far, and what comes
abbrev pub behind : List Over → Answer (List Over × Bound) → Answer (List Over × Bound)
behind os a = after a (λ r. Ok (os ++ r.0, r.1))
