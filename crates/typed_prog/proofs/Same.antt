-- Two types are told to be the same exactly where they are equal.
use Rattle.std.proofs.Common.{◌≡◌, ◌↔◌, ℕ, Bool, true, false, ◌&&◌, ◌==◌, List, [], ◌∷◌, Option, Some, None, ap, sym, ◌∙◌, refl, subst}
use Rattle.std.proofs.lemmas.Bool.{eqb-true, eq-eqb}
use denote.Enum.Bare.{sameb, same_true}
use Rattle.wp_base.specs.contracts.kinds.Kind.{the_type}
use Rattle.wp_base.specs.declared.kinds.Kind.{Kind}
use Rattle.wp_base.specs.declared.kinds.Kind.TheVariants as kind
use Rattle.typed_prog.specs.declared.types.Base.{Base}
use Rattle.typed_prog.specs.declared.types.Base.TheVariants as base
use Rattle.typed_prog.specs.declared.types.CoreType.{CoreType}
use Rattle.typed_prog.specs.Types.{type_with, same_base, same_star, same_stars, same_count, same_type, TypesAreCompared}

left : (a b : Bool) → (a && b) ≡ true → a ≡ true
left true b h = refl
left false b h = h

right : (a b : Bool) → (a && b) ≡ true → b ≡ true
right true b h = h
right false b h = cc

both : (a b : Bool) → a ≡ true → b ≡ true → (a && b) ≡ true
both a b h k = ap (λ c. c && b) h ∙ k

base_true : (a b : Base) → same_base a b ≡ true → a ≡ b
base_true base.Void base.Void h = refl
base_true base.Void (base.Of l) h = cc
base_true base.Void (base.Struct n) h = cc
base_true (base.Of k) base.Void h = cc
base_true (base.Of k) (base.Of l) h = ap base.Of (same_true the_type tt k l h)
base_true (base.Of k) (base.Struct n) h = cc
base_true (base.Struct m) base.Void h = cc
base_true (base.Struct m) (base.Of l) h = cc
base_true (base.Struct m) (base.Struct n) h = ap base.Struct (eqb-true m n h)

star_true : (c d : Bool) → same_star c d ≡ true → c ≡ d
star_true true true h = refl
star_true true false h = cc
star_true false true h = cc
star_true false false h = refl

stars_true : (cs ds : List Bool) → same_stars cs ds ≡ true → cs ≡ ds
stars_true [] [] h = refl
stars_true [] (d ∷ ds) h = cc
stars_true (c ∷ cs) [] h = cc
stars_true (c ∷ cs) (d ∷ ds) h = λ i. star_true c d (left (same_star c d) (same_stars cs ds) h) i ∷ stars_true cs ds (right (same_star c d) (same_stars cs ds) h) i

count_true : (a b : Option ℕ) → same_count a b ≡ true → a ≡ b
count_true None None h = refl
count_true None (Some n) h = cc
count_true (Some m) None h = cc
count_true (Some m) (Some n) h = ap Some (eqb-true m n h)

type_true : (a b : CoreType) → same_type a b ≡ true → a ≡ b
type_true a b h =
    let two = left (same_base a.base b.base && same_stars a.stars b.stars) (same_count a.count b.count) h in
    λ i. type_with
    (base_true a.base b.base (left (same_base a.base b.base) (same_stars a.stars b.stars) two) i)
    (stars_true a.stars b.stars (right (same_base a.base b.base) (same_stars a.stars b.stars) two) i)
    (count_true a.count b.count (right (same_base a.base b.base && same_stars a.stars b.stars) (same_count a.count b.count) h) i)

kind_same : (k : Kind) → sameb the_type k k ≡ true
kind_same kind.Bool = refl
kind_same kind.Char = refl
kind_same kind.SChar = refl
kind_same kind.UChar = refl
kind_same kind.Short = refl
kind_same kind.UShort = refl
kind_same kind.Int = refl
kind_same kind.UInt = refl
kind_same kind.Long = refl
kind_same kind.ULong = refl
kind_same kind.LLong = refl
kind_same kind.ULLong = refl

base_same : (a : Base) → same_base a a ≡ true
base_same base.Void = refl
base_same (base.Of k) = kind_same k
base_same (base.Struct m) = eq-eqb m m refl

star_same : (c : Bool) → same_star c c ≡ true
star_same true = refl
star_same false = refl

stars_same : (cs : List Bool) → same_stars cs cs ≡ true
stars_same [] = refl
stars_same (c ∷ cs) = both (same_star c c) (same_stars cs cs) (star_same c) (stars_same cs)

count_same : (a : Option ℕ) → same_count a a ≡ true
count_same None = refl
count_same (Some m) = eq-eqb m m refl

type_same : (a : CoreType) → same_type a a ≡ true
type_same a = both (same_base a.base a.base && same_stars a.stars a.stars) (same_count a.count a.count) (both (same_base a.base a.base) (same_stars a.stars a.stars) (base_same a.base) (stars_same a.stars)) (count_same a.count)

pub types_are_compared : TypesAreCompared
types_are_compared a b = (type_true a b, λ e. ap (λ c. same_type a c) (sym e) ∙ type_same a)
