-- Promotion and common kinds, kind by kind.
use Rattle.std.proofs.Common.{◌≡◌, ℕ, zero, suc, ◌≤◌, Bool, true, false, not, ◌&&◌, ◌||◌, List, [], ◌∷◌, refl, sym, ap, ◌∙◌, Some, arith, rules}
use Rattle.std.specs.Prelude.{nat_le, slice_get}
use Rattle.std.specs.List.{list_all}
use Rattle.std.proofs.lemmas.Bool.{and_parts}
use denote.Enum.Bare.{sameb, same_true}
use Rattle.wp_base.specs.contracts.kinds.Kind.{the_type}
use Rattle.wp_base.specs.declared.kinds.Kind.{Kind}
use Rattle.wp_base.specs.declared.kinds.Kind.TheVariants as kind
use Rattle.wp_base.specs.Kinds.{is_signed, kind_place}
use Rattle.c_kinds.specs.declared.models.Machdep.{Machdep}
use Rattle.c_kinds.specs.declared.models.Machdep.TheVariants as model
use Rattle.c_kinds.specs.Conversions.{rank, promote, holds_all, common}
use Rattle.c_kinds.specs.Laws.{PromotionKeeps, CommonIsCommon}

unfoldable pub every_kind : List Kind
every_kind = kind.Bool ∷ kind.Char ∷ kind.SChar ∷ kind.UChar ∷ kind.Short ∷ kind.UShort ∷ kind.Int ∷ kind.UInt ∷ kind.Long ∷ kind.ULong ∷ kind.LLong ∷ kind.ULLong ∷ []

at_place : (k : Kind) → slice_get every_kind (kind_place k) ≡ Some k
unfolding every_kind
at_place kind.Bool = refl
at_place kind.Char = refl
at_place kind.SChar = refl
at_place kind.UChar = refl
at_place kind.Short = refl
at_place kind.UShort = refl
at_place kind.Int = refl
at_place kind.UInt = refl
at_place kind.Long = refl
at_place kind.ULong = refl
at_place kind.LLong = refl
at_place kind.ULLong = refl

all_at : {X : Type 0} (p : X → Bool) (xs : List X) (i : ℕ) (x : X) → list_all p xs ≡ true → slice_get xs i ≡ Some x → p x ≡ true
all_at p [] i x a m = absurd cc
all_at p (y ∷ xs) zero x a m = let same : y ≡ x = cc in sym (ap p same) ∙ (and_parts (p y) (list_all p xs) a).0
all_at p (y ∷ xs) (suc i) x a m = all_at p xs i x (and_parts (p y) (list_all p xs) a).1 m

pub for_each : (p : Kind → Bool) → list_all p every_kind ≡ true → (k : Kind) → p k ≡ true
for_each p all k = all_at p every_kind (kind_place k) k all (at_place k)

-- the tests of the laws, which compute
abbrev promotes : Machdep → Kind → Bool
promotes m k = holds_all m (promote k) k && nat_le (rank kind.Int) (rank (promote k))

abbrev is_common : Machdep → Kind → Kind → Bool
is_common m k l =
    sameb the_type (common m k l) (common m l k) && (nat_le (rank (promote k)) (rank (common m k l)) && (not (is_signed (common m k l)) || holds_all m (common m k l) k))

all_promote : (m : Machdep) → list_all (promotes m) every_kind ≡ true
unfolding every_kind
all_promote model.X86_32 = refl
all_promote model.X86_64 = refl

all_common : (m : Machdep) → list_all (λ k. list_all (is_common m k) every_kind) every_kind ≡ true
unfolding every_kind
all_common model.X86_32 = refl
all_common model.X86_64 = refl

le_of : (m n : ℕ) → nat_le m n ≡ true → m ≤ n
le_of m n h = grind (arith, h)

pub promotion_keeps : PromotionKeeps
promotion_keeps m k =
    let both = and_parts (holds_all m (promote k) k) _ (for_each (promotes m) (all_promote m) k) in
    record { holds = both.0; rank = le_of (rank kind.Int) (rank (promote k)) both.1 }

pub where_signed : (s h : Bool) → (not s || h) ≡ true → s ≡ true → h ≡ true
where_signed true h e is = e
where_signed false h e is = absurd cc

pub common_is_common : CommonIsCommon
common_is_common m k l =
    let test = for_each (is_common m k) (for_each (λ k. list_all (is_common m k) every_kind) (all_common m) k) l in
    let parts = and_parts (sameb the_type (common m k l) (common m l k)) _ test in
    let rest = and_parts (nat_le (rank (promote k)) (rank (common m k l))) _ parts.1 in
    record {
      either_order = same_true the_type (search rules) (common m k l) (common m l k) parts.0;
      rank = le_of (rank (promote k)) (rank (common m k l)) rest.0;
      holds = where_signed (is_signed (common m k l)) (holds_all m (common m k l) k) rest.1;
    }
