-- What is so of types and kinds.
use Rattle.std.proofs.Common.{◌≡◌, ℕ, nat_lt, Bool, true, false, ◌&&◌, if◌then◌else◌, IsTrue, List, [], ◌∷◌, Option, Some, None, ap, sym, refl}
use Rattle.wp_base.specs.declared.kinds.Kind.{Kind}
use Rattle.wp_base.specs.declared.kinds.Kind.TheVariants as kind
use Rattle.wp_base.specs.Kinds.{is_signed}
use Rattle.c_kinds.specs.declared.models.Machdep.{Machdep}
use Rattle.c_kinds.specs.Conversions.{rank, promote, unsigned_of, of_both, by_signs, holds_all, common}
use Rattle.typed_prog.specs.declared.types.Base.{Base}
use Rattle.typed_prog.specs.declared.types.Base.TheVariants as base
use Rattle.typed_prog.specs.declared.types.CoreType.{CoreType}
use Rattle.typed_prog.specs.Types.{type_with, of_kind, void, kind_by, kind_of, is_pointer, is_void_by, is_void, with_const_target, same_type}
use Rattle.typed_prog.proofs.Same.{types_are_compared}
use Rattle.c_rules.specs.Pointers.{stride_by, stride, are_alike, joint_by}
use Rattle.c_exprs.specs.Typing.{Around}
use Rattle.c_well_typed.specs.Operators.{IsPromoted, AreAlike, IsMovable, IsRequalified}

-- ---- tests

pub left : (a b : Bool) → (a && b) ≡ true → a ≡ true
left true b h = refl
left false b h = h

pub right : (a b : Bool) → (a && b) ≡ true → b ≡ true
right true b h = h
right false b h = cc

pub is_same : (a b : CoreType) → same_type a b ≡ true → a ≡ b
is_same a b h = (types_are_compared a b).0 h

-- ---- what a type is

kind_is : (b : Base) (stars : List Bool) (count : Option ℕ) (k : Kind) → kind_by b stars count ≡ Some k → type_with b stars count ≡ of_kind k
kind_is (base.Of j) [] None k h = let e : j ≡ k = cc in ap of_kind e
kind_is (base.Of j) [] (Some n) k h = absurd cc
kind_is (base.Of j) (c ∷ cs) count k h = absurd cc
kind_is base.Void stars count k h = absurd cc
kind_is (base.Struct n) stars count k h = absurd cc

pub type_is : (type : CoreType) (k : Kind) → kind_of type ≡ Some k → type ≡ of_kind k
type_is type k h = kind_is type.base type.stars type.count k h

void_by : (b : Base) (stars : List Bool) (count : Option ℕ) → is_void_by b stars count ≡ true → type_with b stars count ≡ void
void_by base.Void [] None h = refl
void_by base.Void [] (Some n) h = absurd cc
void_by base.Void (c ∷ cs) count h = absurd cc
void_by (base.Of k) stars count h = absurd cc
void_by (base.Struct n) stars count h = absurd cc

pub void_is : (type : CoreType) → is_void type ≡ true → type ≡ void
void_is type h = void_by type.base type.stars type.count h

-- ---- promoted kinds

pub promoted_is : (k : Kind) → IsPromoted (promote k)
promoted_is kind.Bool = refl
promoted_is kind.Char = refl
promoted_is kind.SChar = refl
promoted_is kind.UChar = refl
promoted_is kind.Short = refl
promoted_is kind.UShort = refl
promoted_is kind.Int = refl
promoted_is kind.UInt = refl
promoted_is kind.Long = refl
promoted_is kind.ULong = refl
promoted_is kind.LLong = refl
promoted_is kind.ULLong = refl

unsigned_is : (k : Kind) → IsPromoted k → IsPromoted (unsigned_of k)
unsigned_is kind.Bool h = h
unsigned_is kind.Char h = h
unsigned_is kind.SChar h = h
unsigned_is kind.UChar h = h
unsigned_is kind.Short h = h
unsigned_is kind.UShort h = h
unsigned_is kind.Int h = refl
unsigned_is kind.UInt h = h
unsigned_is kind.Long h = refl
unsigned_is kind.ULong h = h
unsigned_is kind.LLong h = refl
unsigned_is kind.ULLong h = h

either : (b : Bool) (k l : Kind) → IsPromoted k → IsPromoted l → IsPromoted (if b then k else l)
either true k l p q = p
either false k l p q = q

both_is : (m : Machdep) (s u : Kind) → IsPromoted s → IsPromoted u → IsPromoted (of_both m s u)
both_is m s u p q = either _ u _ q (either (holds_all m s u) s (unsigned_of s) p (unsigned_is s p))

signs_is : (m : Machdep) (k l : Kind) (a b : Bool) → IsPromoted k → IsPromoted l → IsPromoted (by_signs m k l a b)
signs_is m k l true true p q = either (nat_lt (rank k) (rank l)) l k q p
signs_is m k l false false p q = either (nat_lt (rank k) (rank l)) l k q p
signs_is m k l true false p q = both_is m k l p q
signs_is m k l false true p q = both_is m l k q p

pub common_is : (m : Machdep) (j k : Kind) → IsPromoted (common m j k)
common_is m j k = signs_is m (promote j) (promote k) (is_signed (promote j)) (is_signed (promote k)) (promoted_is j) (promoted_is k)

-- ---- pointers

pub alike_is : (a b : CoreType) → are_alike a b ≡ true → AreAlike a b
alike_is a b h =
    let pointers = left (is_pointer a && is_pointer b) (same_type (with_const_target a) (with_const_target b)) h in (
      left (is_pointer a) (is_pointer b) pointers,
      right (is_pointer a) (is_pointer b) pointers,
      is_same _ _ (right (is_pointer a && is_pointer b) (same_type (with_const_target a) (with_const_target b)) h),
    )

-- where elements have a number of cells, it is a pointer to an object of so many
movable_by : (c : Around) (b : Base) (stars : List Bool) (count : Option ℕ) (size : ℕ) → stride_by c.sizes b stars count ≡ Some size
    → IsMovable c size (type_with b stars count)
movable_by c base.Void [] None size h = absurd cc
movable_by c base.Void [] (Some m) size h = absurd cc
movable_by c (base.Of k) [] None size h = absurd cc
movable_by c (base.Of k) [] (Some m) size h = absurd cc
movable_by c (base.Struct n) [] None size h = absurd cc
movable_by c (base.Struct n) [] (Some m) size h = absurd cc
movable_by c base.Void (star ∷ []) (Some n) size h = absurd cc
movable_by c base.Void (star ∷ star' ∷ stars) (Some n) size h = absurd cc
movable_by c (base.Of k) (star ∷ stars) (Some n) size h = absurd cc
movable_by c (base.Struct m) (star ∷ stars) (Some n) size h = absurd cc
movable_by c base.Void (star ∷ []) None size h = absurd cc
movable_by c base.Void (star ∷ star' ∷ stars) None size h =
    record { to = type_with base.Void (star' ∷ stars) None; is_const = star; leads = refl; not_void = refl; cells = cc }
movable_by c (base.Of k) (star ∷ stars) None size h =
    record { to = type_with (base.Of k) stars None; is_const = star; leads = refl; not_void = refl; cells = cc }
movable_by c (base.Struct m) (star ∷ stars) None size h =
    record { to = type_with (base.Struct m) stars None; is_const = star; leads = refl; not_void = refl; cells = cc }

pub movable_is : (c : Around) (type : CoreType) (size : ℕ) → stride c.sizes type ≡ Some size → IsMovable c size type
movable_is c type size h = movable_by c type.base type.stars type.count size h

-- both arms of `?:` as the type of the whole
pub joint_first : (a : CoreType) (same : Bool) → IsTrue (is_pointer a) → same_type a (joint_by a same) ≡ false → IsRequalified a (joint_by a same)
joint_first a true pointer differ = absurd (let e = (types_are_compared a a).1 refl in cc)
joint_first a false pointer differ = record { pointer = pointer; same = refl }

pub joint_second : (a b : CoreType) (same : Bool) → same_type a b ≡ same → AreAlike a b → same_type b (joint_by a same) ≡ false
    → IsRequalified b (joint_by a same)
joint_second a b true h alike differ = absurd (let e = (types_are_compared b a).1 (sym (is_same a b h)) in cc)
joint_second a b false h alike differ = record { pointer = alike.1; same = alike.2 }
