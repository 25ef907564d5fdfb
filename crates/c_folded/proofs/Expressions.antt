-- Constants are folded, by induction on the expression as spelled.
use Rattle.std.proofs.Common.{◌≡◌, ℕ, Option, Some, None, refl, sym, subst}
use Rattle.wp_base.specs.declared.kinds.Kind.{Kind}
use Rattle.c_syntax.specs.declared.expr.UnOp.{UnOp}
use Rattle.c_syntax.specs.declared.expr.BinOp.{BinOp}
use Rattle.c_syntax.specs.Expr as e
use Rattle.c_machine.specs.declared.rules.Constant.{Constant}
use Rattle.c_machine.specs.Rules.{unary_of, binary_of, chosen, cast_to}
use Rattle.c_machine.specs.Constants as k
use Rattle.c_machine.specs.Constants.{constant_of, bytes_of}
use Rattle.c_answers.specs.Answers.{Answer, after}
use Rattle.typed_prog.specs.declared.types.CoreType.{CoreType}
use Rattle.c_operands.specs.Operands.{Operand}
use Rattle.c_rules.specs.Operators.{binary, conditional}
use Rattle.c_places.specs.Casts.{cast}
use Rattle.c_scopes.specs.declared.symbols.Resolved.{Resolved}
use Rattle.c_scopes.specs.Meanings.{named}
use Rattle.c_exprs.specs.Leaves.{cast_type_by}
use Rattle.c_exprs.specs.Typing.{Around, unary, cast_to_type, typed}
use Rattle.c_folded.specs.Folded.{IsFolded, ConstantsAreFolded}
use Rattle.c_folded.proofs.Operators.{unary_known, binary_known, conditional_known, cast_known}
use Rattle.c_folded.proofs.Leaves.{literal_known, char_known, NamesKind, kind_named, size_known}
use Rattle.c_well_typed.proofs.Fitting.{Holds, after_holds}

-- an expression whose constant is known gives that one
abbrev pub Folds : Around → Option Constant → Answer Operand → Type 0
Folds c None o = Unit {0}
Folds c (Some k) o = Holds (IsFolded c.model k) o

pub folds_from : (c : Around) (o : Option Constant) (x : Answer Operand) → ((k : Constant) → o ≡ Some k → Holds (IsFolded c.model k) x) → Folds c o x
folds_from c None x more = tt
folds_from c (Some k) x more = more k refl

pub unary_folds : (c : Around) (line : ℕ) (o : UnOp) (a : Option Constant) (x : Answer Operand) → Folds c a x → Folds c (k.unary c.model o a) (after x (unary c.model line o))
unary_folds c line o None x folds = tt
unary_folds c line o (Some j) x folds =
    folds_from c (unary_of c.model o j) (after x (unary c.model line o)) (λ d gives. after_holds (IsFolded c.model j) (IsFolded c.model d) x _ folds (λ y is. unary_known c.model line o j d y is gives))

pub binary_folds : (c : Around) (line : ℕ) (o : BinOp) (a b : Option Constant) (x y : Answer Operand) → Folds c a x → Folds c b y
    → Folds c (k.binary c.model o a b) (after x (λ v. after y (binary c.model c.sizes line o v)))
binary_folds c line o None b x y folds folds' = tt
binary_folds c line o (Some i) None x y folds folds' = tt
binary_folds c line o (Some i) (Some j) x y folds folds' =
    after_holds (IsFolded c.model i) (IsFolded c.model (binary_of c.model o i j)) x _ folds (λ v is.
    after_holds (IsFolded c.model j) (IsFolded c.model (binary_of c.model o i j)) y _ folds' (λ w is'. binary_known c.model c.sizes line o i j v w is is'))

pub conditional_folds : (c : Around) (line : ℕ) (a b d : Option Constant) (x y z : Answer Operand) → Folds c a x → Folds c b y → Folds c d z
    → Folds c (k.conditional c.model a b d) (after x (λ v. after y (λ w. after z (conditional c.model line v w))))
conditional_folds c line None b d x y z folds folds' folds'' = tt
conditional_folds c line (Some i) None d x y z folds folds' folds'' = tt
conditional_folds c line (Some i) (Some j) None x y z folds folds' folds'' = tt
conditional_folds c line (Some h) (Some i) (Some j) x y z folds folds' folds'' =
    after_holds (IsFolded c.model h) (IsFolded c.model (chosen c.model h i j)) x _ folds (λ u is.
    after_holds (IsFolded c.model i) (IsFolded c.model (chosen c.model h i j)) y _ folds' (λ v is'.
    after_holds (IsFolded c.model j) (IsFolded c.model (chosen c.model h i j)) z _ folds'' (λ w is''. conditional_known c.model line h i j u v w is is' is'')))

cast_to_known : (c : Around) (line : ℕ) (type : e.CType) (to : Kind) (j : Constant) (x : Operand) (names : NamesKind c.scope.file line type to) → IsFolded c.model j x
    → Holds (IsFolded c.model (cast_to c.model to j)) (cast_to_type c.model c.scope line type (Some names.meaning) x)
cast_to_known c line type to j x names is =
    subst (λ o. Holds (IsFolded c.model (cast_to c.model to j)) (after o (λ p. after (cast_type_by line p (Some names.meaning)) (λ to. cast c.model line to x)))) (sym names.no_pointer)
    (subst (λ (of : CoreType). Holds (IsFolded c.model (cast_to c.model to j)) (cast c.model line of x)) (sym names.same) (cast_known c.model line to j x is))

-- the type names this kind, whenever one is given
pub named_cast_folds : (c : Around) (line : ℕ) (type : e.CType) (to : Option Kind) (a : Option Constant) (x : Answer Operand) → ((k : Kind) → to ≡ Some k → NamesKind c.scope.file line type k) → Folds c a x
    → Folds c (k.cast c.model to a) (after (named c.scope.file line type) (λ t. after x (cast_to_type c.model c.scope line type t)))
named_cast_folds c line type None a x names folds = tt
named_cast_folds c line type (Some to) None x names folds = tt
named_cast_folds c line type (Some to) (Some j) x names folds =
    let kind_is = names to refl in
    subst (λ (o : Answer (Option Resolved)). Holds (IsFolded c.model (cast_to c.model to j)) (after o (λ t. after x (cast_to_type c.model c.scope line type t)))) (sym kind_is.found)
    (after_holds (IsFolded c.model j) (IsFolded c.model (cast_to c.model to j)) x _ folds (λ y is. cast_to_known c line type to j y kind_is is))

folds : (c : Around) (a : e.Expr) → Folds c (constant_of c.model a) (typed c a)
folds c (e.number line token) = folds_from c _ _ (λ k is. literal_known c.model line token.kind k is)
folds c (e.char line z) = folds_from c _ _ (λ k is. char_known c.model line z k is)
folds c (e.unary line o a) = unary_folds c line o (constant_of c.model a) (typed c a) (folds c a)
folds c (e.binary line o a b) = binary_folds c line o (constant_of c.model a) (constant_of c.model b) (typed c a) (typed c b) (folds c a) (folds c b)
folds c (e.cond line test a b) =
    conditional_folds c line (constant_of c.model test) (constant_of c.model a) (constant_of c.model b) (typed c test) (typed c a) (typed c b) (folds c test) (folds c a) (folds c b)
folds c (e.cast line type a) =
    named_cast_folds c line type (k.kind_of type) (constant_of c.model a) (typed c a) (λ to h. kind_named c.scope.file line type to h) (folds c a)
folds c (e.sizeof line type) = folds_from c _ _ (λ k is. size_known c.model c.scope line type k is)
folds c (e.name line x) = tt
folds c (e.assign line o a b) = tt
folds c (e.step line up prefix a) = tt
folds c (e.call line f args) = tt
folds c (e.index line a b) = tt
folds c (e.field line a f arrow) = tt

pub constants_are_folded : ConstantsAreFolded
constants_are_folded c a k o is given = subst (λ x. Holds (IsFolded c.model k) x) given (subst (λ q. Folds c q (typed c a)) is (folds c a))
