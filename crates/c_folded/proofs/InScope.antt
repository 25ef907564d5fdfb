-- Constants with names are folded.
use Rattle.std.proofs.Common.{◌≡◌, ℕ, ℤ, Bool, true, false, cond, List, [], ◌∷◌, Option, Some, None, Ok, Err, refl, sym, ap, subst, ◌∙◌}
use Rattle.wp_base.specs.declared.kinds.Kind.{Kind}
use Rattle.c_syntax.specs.Expr as e
use Rattle.c_kinds.specs.declared.models.Machdep.{Machdep}
use Rattle.c_machine.specs.Constants as consts
use Rattle.c_machine.specs.Constants.{constant_of, bytes_of, size_constant}
use Rattle.c_answers.specs.Answers.{Answer, after}
use Rattle.typed_prog.specs.declared.types.Base.{Base}
use Rattle.typed_prog.specs.declared.types.Base.TheVariants as base
use Rattle.typed_prog.specs.Types.{kind_by, kind_of, is_pointer_by, is_pointer, pointer_to}
use Rattle.c_scopes.specs.declared.symbols.Symbol.{Symbol}
use Rattle.c_scopes.specs.declared.symbols.Symbol.TheVariants as symbol
use Rattle.c_scopes.specs.declared.symbols.Resolved.{Resolved}
use Rattle.c_scopes.specs.declared.file.File.{File}
use Rattle.c_scopes.specs.Declarations.{find}
use Rattle.c_scopes.specs.Meanings.{plain, has_pointers, pointed, named, is_void_pointer}
use Rattle.c_exprs.specs.Leaves as l
use Rattle.c_exprs.specs.Leaves.{scalar_bytes_by, bytes_by, size_of}
use Rattle.c_exprs.specs.Typing.{Around, typed}
use Rattle.c_folded.specs.Folded.{IsFolded}
use Rattle.c_folded.specs.InScope.{scalar_as, type_by, type_in, name_by, in_numbers, ConstantsInScopeAreFolded}
use Rattle.c_folded.proofs.Operands.{some_is}
use Rattle.c_folded.proofs.Leaves.{literal_known, char_known, NamesKind, kind_named, Takes, named_takes, size_from}
use Rattle.c_folded.proofs.Expressions.{Folds, folds_from, unary_folds, binary_folds, conditional_folds, named_cast_folds}
use Rattle.c_well_typed.proofs.Fitting.{Holds}
use Rattle.c_well_typed.proofs.Types.{type_is}

-- ---- names

name_folds : (c : Around) (line : ℕ) (x : List ℕ) (s : Option Symbol) → Folds c (constant_of c.model (name_by line x s)) (l.name_by c.scope line s)
name_folds c line x (Some (symbol.Enumerator z)) = folds_from c _ _ (λ k is. char_known c.model line z k is)
name_folds c line x (Some (symbol.Object v)) = tt
name_folds c line x (Some (symbol.Function n)) = tt
name_folds c line x (Some (symbol.Typedef n)) = tt
name_folds c line x None = tt

named_folds : (c : Around) (line : ℕ) (x : List ℕ) → Folds c (constant_of c.model (name_by line x (find c.scope x))) (l.name c.scope line x)
unfolding l.name
named_folds c line x = name_folds c line x (find c.scope x)

-- ---- types

-- a pointer is no integer
no_kind : (b : Base) (c : Bool) (stars : List Bool) (k : Kind) → kind_by b (c ∷ stars) None ≡ Some k → ⊥
no_kind base.Void c stars k h = absurd cc
no_kind (base.Of j) c stars k h = absurd cc
no_kind (base.Struct n) c stars k h = absurd cc

pointer_only : (t : Resolved) (b : Bool) (r : Resolved) (k : Kind) → cond b (Some (plain (pointer_to t.ty t.is_const))) None ≡ Some r → kind_of r.ty ≡ Some k → ⊥
pointer_only t true r k is h = no_kind t.ty.base t.is_const t.ty.stars k (ap (λ (s : Resolved). kind_of s.ty) (sym (some_is (plain (pointer_to t.ty t.is_const)) r is)) ∙ h)
pointer_only t false r k is h = absurd cc

pointed_only : (o : Option Resolved) (r : Resolved) (k : Kind) → pointed o ≡ Some r → kind_of r.ty ≡ Some k → ⊥
pointed_only None r k is h = absurd cc
pointed_only (Some t) r k is h = pointer_only t (has_pointers t.ty) r k is h

pointer_named : (o : Answer (Option Resolved)) (r : Resolved) (k : Kind) → after o (λ t. Ok (pointed t)) ≡ Ok (Some r) → kind_of r.ty ≡ Some k → ⊥
pointer_named (Err x) r k is h = absurd cc
pointer_named (Ok o) r k is h = pointed_only o r k (let same : pointed o ≡ Some r = cc in same) h

no_void_pointer : (f : File) (line : ℕ) (type : e.CType) (r : Resolved) (k : Kind) → named f line type ≡ Ok (Some r) → kind_of r.ty ≡ Some k → is_void_pointer f line type ≡ Ok false
no_void_pointer f line (e.pointer to) r k is h = absurd (pointer_named (named f line to) r k is h)
no_void_pointer f line e.void r k is h = refl
no_void_pointer f line (e.kind j) r k is h = refl
no_void_pointer f line e.integer r k is h = refl
no_void_pointer f line (e.struct_of x) r k is h = refl
no_void_pointer f line (e.enum_of x) r k is h = refl
no_void_pointer f line (e.named x) r k is h = refl
no_void_pointer f line (e.array of length) r k is h = refl
no_void_pointer f line (e.constant of) r k is h = refl

scalar_names : (f : File) (line : ℕ) (type : e.CType) (r : Resolved) (j : Option Kind) (p : Bool) (k : Kind) → named f line type ≡ Ok (Some r) → kind_of r.ty ≡ j → consts.kind_of (scalar_as type j p) ≡ Some k
    → NamesKind f line type k
scalar_names f line type r (Some j) p k is of h =
    record { meaning = r; found = is; same = type_is r.ty k (of ∙ h); no_pointer = no_void_pointer f line type r j is of }
scalar_names f line type r None true k is of h = absurd cc
scalar_names f line type r None false k is of h = kind_named f line type k h

type_names : (f : File) (line : ℕ) (type : e.CType) (o : Answer (Option Resolved)) (k : Kind) → named f line type ≡ o → consts.kind_of (type_by type o) ≡ Some k → NamesKind f line type k
type_names f line type (Ok (Some r)) k is h = scalar_names f line type r (kind_of r.ty) (is_pointer r.ty) k is refl h
type_names f line type (Ok None) k is h = kind_named f line type k h
type_names f line type (Err x) k is h = kind_named f line type k h

-- ---- sizes

no_count : (b : Base) (stars : List Bool) (count : Option ℕ) (k : Kind) → kind_by b stars count ≡ Some k → count ≡ None
no_count (base.Of j) [] None k h = refl
no_count (base.Of j) [] (Some n) k h = absurd cc
no_count (base.Of j) (c ∷ cs) count k h = absurd cc
no_count base.Void stars count k h = absurd cc
no_count (base.Struct n) stars count k h = absurd cc

pointer_count : (stars : List Bool) (count : Option ℕ) → is_pointer_by stars count ≡ true → count ≡ None
pointer_count [] count h = absurd cc
pointer_count (c ∷ cs) None h = refl
pointer_count (c ∷ cs) (Some n) h = absurd cc

scalar_takes : (m : Machdep) (f : File) (line : ℕ) (type : e.CType) (r : Resolved) (j : Option Kind) (p : Bool) (z : ℤ) → named f line type ≡ Ok (Some r) → kind_of r.ty ≡ j → is_pointer r.ty ≡ p
    → bytes_of m (scalar_as type j p) ≡ Some z → Holds (Takes m z) (named f line type)
scalar_takes m f line type r (Some j) p z is of at h =
    subst (Holds (Takes m z)) (sym is)
    (ap (bytes_by m r.ty) (no_count r.ty.base r.ty.stars r.ty.count j of) ∙ ap (λ i. scalar_bytes_by m i (is_pointer r.ty)) of ∙ h)
scalar_takes m f line type r None true z is of at h =
    subst (Holds (Takes m z)) (sym is)
    (ap (bytes_by m r.ty) (pointer_count r.ty.stars r.ty.count at) ∙ (λ i. scalar_bytes_by m (of i) (at i)) ∙ h)
scalar_takes m f line type r None false z is of at h = named_takes m f line type z h

type_takes : (m : Machdep) (f : File) (line : ℕ) (type : e.CType) (o : Answer (Option Resolved)) (z : ℤ) → named f line type ≡ o → bytes_of m (type_by type o) ≡ Some z → Holds (Takes m z) (named f line type)
type_takes m f line type (Ok (Some r)) z is h = scalar_takes m f line type r (kind_of r.ty) (is_pointer r.ty) z is refl refl h
type_takes m f line type (Ok None) z is h = named_takes m f line type z h
type_takes m f line type (Err x) z is h = named_takes m f line type z h

-- ---- expressions

cast_folds : (c : Around) (line : ℕ) (type : e.CType) (a : e.Expr) → Folds c (constant_of c.model (in_numbers c a)) (typed c a) → Folds c (constant_of c.model (in_numbers c (e.cast line type a))) (typed c (e.cast line type a))
cast_folds c line type a folds =
    named_cast_folds c line type (consts.kind_of (type_in c line type)) (constant_of c.model (in_numbers c a)) (typed c a)
    (λ to h. type_names c.scope.file line type (named c.scope.file line type) to refl h) folds

size_folds : (c : Around) (line : ℕ) (type : e.CType) → Folds c (constant_of c.model (in_numbers c (e.sizeof line type))) (typed c (e.sizeof line type))
size_folds c line type =
    folds_from c _ _ (λ j is. size_from c.model c.scope line type (bytes_of c.model (type_in c line type)) j
    (λ z h. type_takes c.model c.scope.file line type (named c.scope.file line type) z refl h) is)

folds : (c : Around) (a : e.Expr) → Folds c (constant_of c.model (in_numbers c a)) (typed c a)
folds c (e.number line token) = folds_from c _ _ (λ j is. literal_known c.model line token.kind j is)
folds c (e.char line z) = folds_from c _ _ (λ j is. char_known c.model line z j is)
folds c (e.name line x) = named_folds c line x
folds c (e.unary line o a) = unary_folds c line o (constant_of c.model (in_numbers c a)) (typed c a) (folds c a)
folds c (e.binary line o a b) =
    binary_folds c line o (constant_of c.model (in_numbers c a)) (constant_of c.model (in_numbers c b)) (typed c a) (typed c b) (folds c a) (folds c b)
folds c (e.cond line test a b) =
    conditional_folds c line (constant_of c.model (in_numbers c test)) (constant_of c.model (in_numbers c a)) (constant_of c.model (in_numbers c b)) (typed c test) (typed c a) (typed c b)
    (folds c test) (folds c a) (folds c b)
folds c (e.cast line type a) = cast_folds c line type a (folds c a)
folds c (e.sizeof line type) = size_folds c line type
folds c (e.assign line o a b) = tt
folds c (e.step line up prefix a) = tt
folds c (e.call line f args) = tt
folds c (e.index line a b) = tt
folds c (e.field line a f arrow) = tt

pub constants_in_scope_are_folded : ConstantsInScopeAreFolded
constants_in_scope_are_folded c a j o is given = subst (λ x. Holds (IsFolded c.model j) x) given (subst (λ q. Folds c q (typed c a)) is (folds c a))
