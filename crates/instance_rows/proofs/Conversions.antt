-- The row at conversions.
use Rattle.std.proofs.Common.{◌≡◌, ℕ, zero, suc, ◌+◌, ◌-◌, ◌*◌, ◌^◌, ◌<◌, ◌≤◌, Bool, true, false, ◌&&◌, ◌||◌, cond, refl, sym, ◌∙◌, ap, inl, inr, arith}
use Rattle.std.specs.Prelude.{ℤ, pos, negsuc, ◌+ℤ◌, ◌-ℤ◌, ◌*ℤ◌, ◌≤ℤ◌, ◌<ℤ◌, int_lt, int_le, []}
use Rattle.std.proofs.lemmas.Int.{ints}
use Rattle.std.proofs.lemmas.Nat.{pow_pos}
use Rattle.wp_base.specs.declared.kinds.Kind.{Kind}
use Rattle.wp_base.specs.declared.kinds.Kind.TheVariants as kind
use Rattle.wp_base.specs.Kinds.{kind_bits, kind_low, kind_high, floor_div, wrapped, convert}
use Rattle.qed_terms.specs.declared.head.Head.TheVariants as h
use Rattle.qed_terms.specs.declared.head.TermOp.TheVariants as op
use Rattle.qed_terms.specs.Meaning.{World, Values, value}
use Rattle.qed_terms.specs.Operators.{is_equal}
use Rattle.qed_terms.specs.Tree.{Tree, stop, more}
use Rattle.branches.specs.Branch.{AreTrue}
use Rattle.instance_rows.specs.Rows.{is_bool, wrap_cases, wrap_tree, cases_of_wrap}
use Rattle.instance_rows.specs.Laws.{RowIsValid}
use Rattle.instance_rows.proofs.Below.{Below}
use Rattle.instance_rows.proofs.Tests.{first, second, both, alone, le_so, lt_so, lt_or_le, equal_so}

-- a number w from low up to below low + m, which is z but for multiples of m
record Wraps (low : ℤ) (m : ℕ) (z w : ℤ) : Type 0 where
  some : 0 < m
  turns : ℤ
  is : z ≡ w +ℤ (turns *ℤ pos m)
  from_low : low ≤ℤ w
  below : w <ℤ (low +ℤ pos m)

-- where z is as near, it is w itself, or one turn away
turns_between : (m : ℕ) (d : ℤ) (n : ℤ) → d ≡ n *ℤ pos m → (pos 0 -ℤ pos m) <ℤ d → d <ℤ pos m → d ≡ pos 0
turns_between m d (pos zero) e l u = omega (arith, ints, e)
turns_between m d (pos (suc n)) e l u = let t : pos (suc n) *ℤ pos m ≡ pos m +ℤ pos (n * m) = omega (arith, ints) in absurd (omega (arith, ints, e, t, u))
turns_between m d (negsuc n) e l u = let t : negsuc n *ℤ pos m ≡ pos 0 -ℤ (pos m +ℤ pos (n * m)) = omega (arith, ints) in absurd (omega (arith, ints, e, t, l))

near : Below → (low : ℤ) (m : ℕ) (z w turns : ℤ) (n : ℤ) → z ≡ w +ℤ (turns *ℤ pos m) → low ≤ℤ w → w <ℤ (low +ℤ pos m) → (low +ℤ (n *ℤ pos m)) ≤ℤ z → z <ℤ ((low +ℤ (n *ℤ pos m)) +ℤ pos m)
    → z ≡ w +ℤ (n *ℤ pos m)
near below low m z w turns n e a b c d =
    let back : (turns -ℤ n) +ℤ n ≡ turns = omega (arith, ints) in
    let t : turns *ℤ pos m ≡ ((turns -ℤ n) *ℤ pos m) +ℤ (n *ℤ pos m) = ap (λ x. x *ℤ pos m) (sym back) ∙ below.sum_times (turns -ℤ n) n (pos m) in
    let gap : (turns *ℤ pos m) -ℤ (n *ℤ pos m) ≡ (turns -ℤ n) *ℤ pos m = omega (arith, ints, t) in
    let low_gap : (pos 0 -ℤ pos m) <ℤ ((turns *ℤ pos m) -ℤ (n *ℤ pos m)) = omega (arith, ints, e, b, c) in
    let high_gap : ((turns *ℤ pos m) -ℤ (n *ℤ pos m)) <ℤ pos m = omega (arith, ints, e, a, d) in
    let none = turns_between m ((turns *ℤ pos m) -ℤ (n *ℤ pos m)) (turns -ℤ n) gap low_gap high_gap in
    omega (arith, ints, e, none)

abbrev plus : (a b : ℤ) → ℤ
plus a b = a +ℤ (b +ℤ pos 0)

-- outside of a range, or else
outside : (low high z : ℤ) (f : Bool) → (low ≤ℤ z → z ≤ℤ high → f ≡ true) → (int_lt z low || (int_lt high z || (f || false))) ≡ true
outside low high z f so = elim (lt_or_le z low) [
  | inl k ↦ first (int_lt z low) _ (lt_so z low k)
  | inr k ↦ second (int_lt z low) _ (elim (lt_or_le high z) [
    | inl l ↦ first (int_lt high z) _ (lt_so high z l)
    | inr l ↦ second (int_lt high z) _ (alone f (so k l))
  ])
]

module _ (below : Below) (low high z w : ℤ) (m : ℕ) (top : high +ℤ pos 1 ≡ low +ℤ pos m) (r : Wraps low m z w) where
  in_range : (int_le low w && (int_le w high && true)) ≡ true
  in_range =
      let a = r.from_low in
      let b = r.below in
      both (int_le low w) _ (le_so low w a) (both (int_le w high) true (le_so w high (omega (arith, ints, b, top))) refl)

  same_there : (int_lt z low || (int_lt high z || (is_equal w z || false))) ≡ true
  same_there = outside low high z (is_equal w z) (λ k l.
      let e = near below low m z w r.turns (pos 0) r.is r.from_low r.below (omega (arith, ints, k)) (omega (arith, ints, l, top)) in
      equal_so w z (omega (arith, ints, e)))

  one_above : (int_lt z (high +ℤ pos 1) || (int_lt (high +ℤ pos m) z || (is_equal w (z -ℤ pos m) || false))) ≡ true
  one_above = outside (high +ℤ pos 1) (high +ℤ pos m) z (is_equal w (z -ℤ pos m)) (λ k l.
      let e = near below low m z w r.turns (pos 1) r.is r.from_low r.below (omega (arith, ints, k, top)) (omega (arith, ints, l, top)) in
      equal_so w (z -ℤ pos m) (omega (arith, ints, e)))

  one_below : (int_lt z (low -ℤ pos m) || (int_lt (low -ℤ pos 1) z || (is_equal w (plus z (pos m)) || false))) ≡ true
  one_below = outside (low -ℤ pos m) (low -ℤ pos 1) z (is_equal w (plus z (pos m))) (λ k l.
      let e = near below low m z w r.turns (negsuc 0) r.is r.from_low r.below (omega (arith, ints, k)) (omega (arith, ints, l)) in
      equal_so w (plus z (pos m)) (omega (arith, ints, e)))

-- ---- the kinds

module _ (below : Below) where
  wraps_unsigned : (n : ℕ) (z : ℤ) → Wraps (pos 0) (2 ^ n) z (wrapped n false z)
  wraps_unsigned n z =
      let some = pow_pos n in
      let rest = below.floor_rest z (2 ^ n) some in
      record {
        some = some;
        turns = floor_div z (2 ^ n);
        is = below.floor_split z (2 ^ n) some;
        from_low = omega (arith, ints);
        below = omega (arith, ints, rest);
      }

  wraps_signed : (n : ℕ) → 0 < n → (z : ℤ) → Wraps (pos 0 -ℤ pos (2 ^ (n - 1))) (2 ^ n) z (wrapped n true z)
  wraps_signed n l z =
      let half = 2 ^ (n - 1) in
      let some = pow_pos n in
      let rest = below.floor_rest (z +ℤ pos half) (2 ^ n) some in
      let parts = below.floor_split (z +ℤ pos half) (2 ^ n) some in
      record {
        some = some;
        turns = floor_div (z +ℤ pos half) (2 ^ n);
        is = omega (arith, ints, parts);
        from_low = omega (arith, ints);
        below = omega (arith, ints, rest);
      }

  top_unsigned : (n : ℕ) → pos (2 ^ n - 1) +ℤ pos 1 ≡ pos 0 +ℤ pos (2 ^ n)
  top_unsigned n = let some = pow_pos n in omega (arith, ints, some)

  top_signed : (n : ℕ) → 0 < n → pos (2 ^ (n - 1) - 1) +ℤ pos 1 ≡ (pos 0 -ℤ pos (2 ^ (n - 1))) +ℤ pos (2 ^ n)
  top_signed n l = let some = pow_pos (n - 1) in let twice = below.power_twice n l in omega (arith, ints, some, twice)

  module _ (w : World) (env : Values) (t : Tree) where
    z : ℤ
    z = value w env t

    abbrev IsWrapped : Kind → Type 0
    IsWrapped k =
        Wraps (kind_low w.long_bits k) (2 ^ kind_bits w.long_bits k) (value w env t) (convert w.long_bits k (value w env t))
        × (kind_high w.long_bits k +ℤ pos 1 ≡ kind_low w.long_bits k +ℤ pos (2 ^ kind_bits w.long_bits k))

    abbrev signed : (n : ℕ) → 0 < n → Wraps (pos 0 -ℤ pos (2 ^ (n - 1))) (2 ^ n) (value w env t) (wrapped n true (value w env t)) × (pos (2 ^ (n - 1) - 1) +ℤ pos 1 ≡ (pos 0 -ℤ pos (2 ^ (n - 1))) +ℤ pos (2 ^ n))
    signed n l = (wraps_signed n l (value w env t), top_signed n l)

    abbrev unsigned : (n : ℕ) → Wraps (pos 0) (2 ^ n) (value w env t) (wrapped n false (value w env t)) × (pos (2 ^ n - 1) +ℤ pos 1 ≡ pos 0 +ℤ pos (2 ^ n))
    unsigned n = (wraps_unsigned n (value w env t), top_unsigned n)

    is_wrapped : 1 ≤ w.long_bits → (k : Kind) → is_bool k ≡ false → IsWrapped k
    is_wrapped l kind.Bool e = absurd cc
    is_wrapped l kind.Char e = signed 8 (omega arith)
    is_wrapped l kind.SChar e = signed 8 (omega arith)
    is_wrapped l kind.UChar e = unsigned 8
    is_wrapped l kind.Short e = signed 16 (omega arith)
    is_wrapped l kind.UShort e = unsigned 16
    is_wrapped l kind.Int e = signed 32 (omega arith)
    is_wrapped l kind.UInt e = unsigned 32
    is_wrapped l kind.Long e = signed w.long_bits (omega (arith, l))
    is_wrapped l kind.ULong e = unsigned w.long_bits
    is_wrapped l kind.LLong e = signed 64 (omega arith)
    is_wrapped l kind.ULLong e = unsigned 64

    cases_true : (k : Kind) → IsWrapped k → AreTrue w env (wrap_cases (kind_low w.long_bits k) (kind_high w.long_bits k) (pos (2 ^ kind_bits w.long_bits k)) (wrap_tree k t) t)
    cases_true k r =
        let low = kind_low w.long_bits k in
        let high = kind_high w.long_bits k in
        let to = convert w.long_bits k (value w env t) in
        let m = 2 ^ kind_bits w.long_bits k in
        (in_range below low high (value w env t) to m r.1 r.0, (same_there below low high (value w env t) to m r.1 r.0, (one_above below low high (value w env t) to m r.1 r.0, (one_below below low high (value w env t) to m r.1 r.0, tt))))

    by_kind : 1 ≤ w.long_bits → (k : Kind) → AreTrue w env (cases_of_wrap w.long_bits (h.Term (op.Wrap k)) (more t stop))
    by_kind l k = go (is_bool k) refl
      where
        go : (b : Bool) → is_bool k ≡ b → AreTrue w env (cond b [] (wrap_cases (kind_low w.long_bits k) (kind_high w.long_bits k) (pos (2 ^ kind_bits w.long_bits k)) (wrap_tree k t) t))
        go true e = tt
        go false e = cases_true k (is_wrapped l k e)

pub wraps_valid : Below → (w : World) → 1 ≤ w.long_bits → RowIsValid w (cases_of_wrap w.long_bits)
wraps_valid below w l (h.Term (op.Wrap k)) (more t stop) env = by_kind below w env t l k
wraps_valid below w l head ts env = tt
