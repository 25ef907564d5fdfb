-- The ranges of kinds as numbers.
use Rattle.std.proofs.Common.{◌≡◌, ℕ, ◌⊎◌, inl, inr, Bool, true, false, ◌&&◌, ℤ, pos, negsuc, int_le, ◌≤ℤ◌, refl, sym, ◌∙◌, ap, subst}
use Rattle.std.specs.Int.Signed.{le_z_yes}
use Rattle.std.proofs.lemmas.Float.{T_from_true}
use Rattle.wp_base.specs.declared.kinds.Kind.{Kind}
use Rattle.wp_base.specs.declared.kinds.Kind.TheVariants as kind
use Rattle.node_instances.specs.declared.ranges.Range.{Range}
use Rattle.node_instances.specs.Ranges.{kind_range, IsSmall}

-- ---- `long` by its width

pub long_narrow : (n : ℕ) (r : Range) → ((m : ℕ) → r ≡ kind_range m kind.Int) → n ≡ 32 → r ≡ kind_range n kind.Long
long_narrow n r f e = f n ∙ (let P : ℕ → Type 0 = λ m. kind_range m kind.Int ≡ kind_range m kind.Long in subst P (sym e) refl)

pub ulong_narrow : (n : ℕ) (r : Range) → ((m : ℕ) → r ≡ kind_range m kind.UInt) → n ≡ 32 → r ≡ kind_range n kind.ULong
ulong_narrow n r f e = f n ∙ (let P : ℕ → Type 0 = λ m. kind_range m kind.UInt ≡ kind_range m kind.ULong in subst P (sym e) refl)

wide : (n : ℕ) → (n ≡ 32) ⊎ (n ≡ 64) → (n ≡ 32 → ⊥) → n ≡ 64
wide n (inl e) f = absurd (f e)
wide n (inr e) f = e

pub long_wide : (n : ℕ) (r : Range) → ((m : ℕ) → r ≡ kind_range m kind.LLong) → (n ≡ 32) ⊎ (n ≡ 64) → (n ≡ 32 → ⊥) → r ≡ kind_range n kind.Long
long_wide n r f w k = f n ∙ (let P : ℕ → Type 0 = λ m. kind_range m kind.LLong ≡ kind_range m kind.Long in subst P (sym (wide n w k)) refl)

pub ulong_wide : (n : ℕ) (r : Range) → ((m : ℕ) → r ≡ kind_range m kind.ULLong) → (n ≡ 32) ⊎ (n ≡ 64) → (n ≡ 32 → ⊥) → r ≡ kind_range n kind.ULong
ulong_wide n r f w k = f n ∙ (let P : ℕ → Type 0 = λ m. kind_range m kind.ULLong ≡ kind_range m kind.ULong in subst P (sym (wide n w k)) refl)

pub ruleset long_laws = (long_narrow, ulong_narrow, long_wide, ulong_wide)

-- ---- small numbers

abbrev is_small : Range → Bool
is_small r =
    int_le (negsuc 9223372036854775807) r.low && (int_le r.low (pos 0) && (int_le (pos 0) r.high && (int_le r.high (pos 18446744073709551615)
    && (int_le (pos 0) r.many && int_le r.many (pos 18446744073709551616)))))

left_so : (a b : Bool) → a && b ≡ true → a ≡ true
left_so true b e = refl
left_so false b e = absurd cc

right_so : (a b : Bool) → a && b ≡ true → b ≡ true
right_so true b e = e
right_so false b e = absurd cc

so : (a b : ℤ) → int_le a b ≡ true → a ≤ℤ b
so a b e = le_z_yes (T_from_true (int_le a b) e)

small_so : (r : Range) → is_small r ≡ true → IsSmall r
small_so r e =
    let e1 = right_so (int_le (negsuc 9223372036854775807) r.low) _ e in
    let e2 = right_so (int_le r.low (pos 0)) _ e1 in
    let e3 = right_so (int_le (pos 0) r.high) _ e2 in
    let e4 = right_so (int_le r.high (pos 18446744073709551615)) _ e3 in
    record {
      low_from = so _ _ (left_so (int_le (negsuc 9223372036854775807) r.low) _ e);
      low_to = so _ _ (left_so (int_le r.low (pos 0)) _ e1);
      high_from = so _ _ (left_so (int_le (pos 0) r.high) _ e2);
      high_to = so _ _ (left_so (int_le r.high (pos 18446744073709551615)) _ e3);
      many_from = so _ _ (left_so (int_le (pos 0) r.many) _ e4);
      many_to = so _ _ (right_so (int_le (pos 0) r.many) _ e4);
    }

small_narrow : (k : Kind) → is_small (kind_range 32 k) ≡ true
small_narrow kind.Bool = refl
small_narrow kind.Char = refl
small_narrow kind.SChar = refl
small_narrow kind.UChar = refl
small_narrow kind.Short = refl
small_narrow kind.UShort = refl
small_narrow kind.Int = refl
small_narrow kind.UInt = refl
small_narrow kind.Long = refl
small_narrow kind.ULong = refl
small_narrow kind.LLong = refl
small_narrow kind.ULLong = refl

small_wide : (k : Kind) → is_small (kind_range 64 k) ≡ true
small_wide kind.Bool = refl
small_wide kind.Char = refl
small_wide kind.SChar = refl
small_wide kind.UChar = refl
small_wide kind.Short = refl
small_wide kind.UShort = refl
small_wide kind.Int = refl
small_wide kind.UInt = refl
small_wide kind.Long = refl
small_wide kind.ULong = refl
small_wide kind.LLong = refl
small_wide kind.ULLong = refl

small_kind : (n : ℕ) (k : Kind) → (n ≡ 32) ⊎ (n ≡ 64) → is_small (kind_range n k) ≡ true
small_kind n k (inl e) = ap (λ m. is_small (kind_range m k)) e ∙ small_narrow k
small_kind n k (inr e) = ap (λ m. is_small (kind_range m k)) e ∙ small_wide k

pub small_range : (n : ℕ) (k : Kind) (r : Range) → (n ≡ 32) ⊎ (n ≡ 64) → r ≡ kind_range n k → IsSmall r
small_range n k r w e = small_so r (ap is_small e ∙ small_kind n k w)
