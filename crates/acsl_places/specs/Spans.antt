-- Ranges in the last place of an address (ACSL 2.3.4, 2.7): `a[lo .. hi]`, and `p + (lo .. hi)`, where `*` may stand before it.
use Rattle.std.specs.Prelude.{ℕ, Option, Some, None}
use Rattle.std.specs.Option.{option_map}
use Rattle.c_syntax.specs.declared.expr.UnOp.{UnOp}
use Rattle.c_syntax.specs.declared.expr.UnOp.TheVariants as un
use Rattle.c_syntax.specs.declared.expr.BinOp.{BinOp}
use Rattle.c_syntax.specs.declared.expr.BinOp.TheVariants as bin
use Rattle.c_syntax.specs.Term as t
use Rattle.c_syntax.specs.View.{view_term}
use Rattle.acsl_places.specs.declared.spans.Span.{Span as SpanCode}
use Rattle.acsl_places.specs.declared.spans.Ranged.{Ranged as RangedCode}

-- the ends of a range, and the line of its `..`
pub record Span : Type 0 where
  pub line : ℕ
  pub low : t.Term
  pub high : t.Term

-- what a range stands behind, with the line of the `[` or `+` between
pub record Ranged : Type 0 where
  pub line : ℕ
  pub base : t.Term
  pub span : Span

abbrev pub span_of : t.Term → Option Span
span_of (t.range line low high) = Some (record { line = line; low = low; high = high })
span_of _ = None

abbrev pub ranged : (line : ℕ) → t.Term → Span → Ranged
ranged line a s = record { line = line; base = a; span = s }

-- `a[lo .. hi]`
abbrev pub indexed_range : t.Term → Option Ranged
indexed_range (t.index line a d) = option_map (ranged line a) (span_of d)
indexed_range _ = None

abbrev pub if_plus : BinOp → Option Ranged → Option Ranged
if_plus bin.Add r = r
if_plus _ r = None

-- `p + (lo .. hi)`
abbrev pub added_range : t.Term → Option Ranged
added_range (t.binary line o a d) = if_plus o (option_map (ranged line a) (span_of d))
added_range _ = None

abbrev pub if_star : UnOp → Option Ranged → Option Ranged
if_star un.Deref r = r
if_star _ r = None

-- `*(p + (lo .. hi))`, without the `*`
abbrev pub starred_range : t.Term → Option Ranged
starred_range (t.unary line o a) = if_star o (added_range a)
starred_range _ = None

-- ---- the parts in memory

abbrev pub view_span : SpanCode → Span
view_span s = record { line = s.line; low = view_term s.low.now; high = view_term s.high.now }

abbrev pub view_ranged : RangedCode → Ranged
view_ranged g = record { line = g.line; base = view_term g.base.now; span = view_span g.span }
