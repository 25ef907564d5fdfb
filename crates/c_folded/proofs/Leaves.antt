-- Constants without operands: numbers, characters and sizes (C11 6.4.4, 6.5.3.4).
use Rattle.std.proofs.Common.{◌≡◌, ℕ, ℤ, Bool, true, false, if◌then◌else◌, List, ◌∷◌, Option, Some, None, Ok, refl, sym, ap, subst}
use Rattle.std.specs.Option.{option_map}
use Rattle.wp_base.specs.declared.kinds.Kind.{Kind}
use Rattle.wp_base.specs.declared.kinds.Kind.TheVariants as kind
use Rattle.c_syntax.specs.declared.token.TokenKind.{TokenKind}
use Rattle.c_syntax.specs.Expr as e
use Rattle.c_kinds.specs.declared.models.Machdep.{Machdep}
use Rattle.c_kinds.specs.Models.{holds, size_kind}
use Rattle.c_machine.specs.declared.rules.Constant.{Constant}
use Rattle.c_machine.specs.Literals as l
use Rattle.c_machine.specs.Literals.{token_constant, char_constant}
use Rattle.c_machine.specs.Rules.{constant, pointer_bytes}
use Rattle.c_machine.specs.Constants.{size_constant, kind_of, bytes_of}
use Rattle.c_answers.specs.Answers.{Answer, after}
use Rattle.typed_prog.specs.declared.types.Base.{Base}
use Rattle.typed_prog.specs.declared.types.Base.TheVariants as base
use Rattle.typed_prog.specs.Types.{of_kind, pointer_to, kind_by}
use Rattle.c_scopes.specs.declared.symbols.Resolved.{Resolved}
use Rattle.c_scopes.specs.declared.file.File.{File}
use Rattle.c_scopes.specs.declared.scope.Scope.{Scope}
use Rattle.c_scopes.specs.Meanings.{constant as const_type, pointed, has_pointers, plain, named, type_of, is_void_pointer}
use Rattle.c_exprs.specs.Leaves.{integer, literal_by, literal_of, literal, scalar_bytes_by, bytes_by, size_by, size_of_type, size_of}
use Rattle.c_folded.specs.Folded.{IsFolded}
use Rattle.c_folded.proofs.Operands.{some_is, number_known}
use Rattle.c_well_typed.proofs.Fitting.{Holds, after_holds, after_any}

integer_known : (m : Machdep) (c : Constant) (k : Kind) (z : ℤ) (line : ℕ) → c ≡ constant k (Some z) → IsFolded m c (integer k z line)
integer_known m c k z line is = subst (λ (d : Constant). IsFolded m d (integer k z line)) (sym is) (refl, number_known m k z line)

-- ---- numbers and characters

literal_by_known : (m : Machdep) (line : ℕ) (c : Constant) (k : Kind) (z : Option ℤ) → c ≡ constant k z → Holds (IsFolded m c) (literal_by line k z)
literal_by_known m line c k None is = tt
literal_by_known m line c k (Some z) is = integer_known m c k z line is

pub literal_known : (m : Machdep) (line : ℕ) (token : TokenKind) (c : Constant) → token_constant m token ≡ Some c → Holds (IsFolded m c) (literal m line token)
unfolding literal
literal_known m line token c is = subst (λ o. Holds (IsFolded m c) (literal_of line o)) (sym is) (literal_by_known m line c c.kind c.value refl)

char_by : (m : Machdep) (line : ℕ) (z : ℤ) (c : Constant) (b : Bool) → option_map (λ k. constant k (Some z)) (if b then Some kind.Int else None) ≡ Some c → c ≡ constant kind.Int (Some z)
char_by m line z c true h = some_is _ c h
char_by m line z c false h = absurd cc

pub char_known : (m : Machdep) (line : ℕ) (z : ℤ) (c : Constant) → char_constant m z ≡ Some c → IsFolded m c (integer kind.Int z line)
unfolding l.literal
char_known m line z c is = integer_known m c kind.Int z line (char_by m line z c (holds m kind.Int z) is)

-- ---- types

-- what a type means that is spelled as an integer kind
pub record NamesKind (f : File) (line : ℕ) (type : e.CType) (k : Kind) : Type 0 where
  pub meaning : Resolved
  pub found : named f line type ≡ Ok (Some meaning)
  pub same : meaning.ty ≡ of_kind k
  pub no_pointer : is_void_pointer f line type ≡ Ok false

pub kind_named : (f : File) (line : ℕ) (type : e.CType) (k : Kind) → kind_of type ≡ Some k → NamesKind f line type k
kind_named f line (e.kind j) k h = record { meaning = plain (of_kind j); found = refl; same = ap of_kind (sym (some_is j k h)); no_pointer = refl }
kind_named f line (e.constant of) k h =
    let inner = kind_named f line of k h in
    record { meaning = const_type inner.meaning; found = ap (λ (o : Answer (Option Resolved)). after o (λ t. Ok (option_map const_type t))) inner.found; same = inner.same; no_pointer = refl }
kind_named f line e.void k h = absurd cc
kind_named f line e.integer k h = absurd cc
kind_named f line (e.struct_of x) k h = absurd cc
kind_named f line (e.enum_of x) k h = absurd cc
kind_named f line (e.named x) k h = absurd cc
kind_named f line (e.pointer to) k h = absurd cc
kind_named f line (e.array of length) k h = absurd cc

-- ---- sizes

-- a type whose objects take so many bytes
abbrev pub Takes : Machdep → ℤ → Option Resolved → Type 0
Takes m z None = Unit {0}
Takes m z (Some r) = bytes_by m r.ty r.ty.count ≡ Some z

pointer_bytes_by : (m : Machdep) (b : Base) (c : Bool) (stars : List Bool) → scalar_bytes_by m (kind_by b (c ∷ stars) None) true ≡ Some (pointer_bytes m)
pointer_bytes_by m base.Void c stars = refl
pointer_bytes_by m (base.Of k) c stars = refl
pointer_bytes_by m (base.Struct n) c stars = refl

pointed_if : (m : Machdep) (r : Resolved) (b : Bool) → Takes m (pointer_bytes m) (if b then Some (plain (pointer_to r.ty r.is_const)) else None)
pointed_if m r true = pointer_bytes_by m r.ty.base r.is_const r.ty.stars
pointed_if m r false = tt

pointed_takes : (m : Machdep) (o : Option Resolved) → Takes m (pointer_bytes m) (pointed o)
pointed_takes m None = tt
pointed_takes m (Some r) = pointed_if m r (has_pointers r.ty)

const_takes : (m : Machdep) (z : ℤ) (o : Option Resolved) → Takes m z o → Takes m z (option_map const_type o)
const_takes m z None takes = tt
const_takes m z (Some r) takes = takes

pub named_takes : (m : Machdep) (f : File) (line : ℕ) (type : e.CType) (z : ℤ) → bytes_of m type ≡ Some z → Holds (Takes m z) (named f line type)
named_takes m f line (e.kind k) z h = h
named_takes m f line (e.pointer to) z h =
    after_any (Takes m z) (named f line to) _ (λ o. subst (λ y. Takes m y (pointed o)) (sym (some_is (pointer_bytes m) z h)) (pointed_takes m o))
named_takes m f line (e.array of length) z h = after_any (Takes m z) (named f line of) _ (λ o. tt)
named_takes m f line (e.constant of) z h = after_holds (Takes m z) (Takes m z) (named f line of) _ (named_takes m f line of z h) (λ o takes. const_takes m z o takes)
named_takes m f line e.void z h = absurd cc
named_takes m f line e.integer z h = absurd cc
named_takes m f line (e.struct_of x) z h = absurd cc
named_takes m f line (e.enum_of x) z h = absurd cc
named_takes m f line (e.named x) z h = absurd cc

size_by_known : (m : Machdep) (line : ℕ) (z : ℤ) (o : Option Resolved) → Takes m z o → Holds (IsFolded m (constant (size_kind m) (Some z))) (after (type_of line o) (size_of_type m line))
size_by_known m line z None takes = tt
size_by_known m line z (Some r) takes =
    subst (λ y. Holds (IsFolded m (constant (size_kind m) (Some z))) (size_by m line y)) (sym takes) (integer_known m _ (size_kind m) z line refl)

size_of_known : (m : Machdep) (s : Scope) (line : ℕ) (type : e.CType) (z : ℤ) → Holds (Takes m z) (named s.file line type) → Holds (IsFolded m (constant (size_kind m) (Some z))) (size_of m s line type)
unfolding size_of
size_of_known m s line type z takes =
    after_holds (Takes m z) (IsFolded m (constant (size_kind m) (Some z))) (named s.file line type) _ takes (λ o has. size_by_known m line z o has)

-- of so many bytes, if any, as the type takes
pub size_from : (m : Machdep) (s : Scope) (line : ℕ) (type : e.CType) (size : Option ℤ) (c : Constant) → ((z : ℤ) → size ≡ Some z → Holds (Takes m z) (named s.file line type)) → size_constant m size ≡ Some c
    → Holds (IsFolded m c) (size_of m s line type)
size_from m s line type None c takes h = absurd cc
size_from m s line type (Some z) c takes h = subst (λ (d : Constant). Holds (IsFolded m d) (size_of m s line type)) (sym (some_is _ c h)) (size_of_known m s line type z (takes z refl))

pub size_known : (m : Machdep) (s : Scope) (line : ℕ) (type : e.CType) (c : Constant) → size_constant m (bytes_of m type) ≡ Some c → Holds (IsFolded m c) (size_of m s line type)
size_known m s line type c h = size_from m s line type (bytes_of m type) c (λ z is. named_takes m s.file line type z is) h
