-- Regions that have no gaps.
use Rattle.std.proofs.Common.{◌≡◌, ◌+◌, zero, suc, ◌∙◌, refl, sym, ap, List, length, arith}
use Rattle.std.specs.Prelude.{ℤ, pos, negsuc, ◌+ℤ◌, ◌*ℤ◌, int_le, int_lt, ◌&&◌}
use Rattle.std.proofs.lemmas.Int.{ints}
use Rattle.std.proofs.Math.IntN.{suc_ℤ-*ℤ, *ℤ_comm, suc_ℤ}
use Rattle.wp_base.specs.declared.kinds.CellKind.{CellKind}
use Rattle.qed_terms.specs.Operators.{is_equal}
use Rattle.c_runs.specs.TruthStates.{Value, Span, region, one_address, span_of, address_at}
use Rattle.acsl_encode.specs.Meaning.{IsStretch}
use Rattle.acsl_encode.proofs.Stretches.{object_stretch, range_stretch}
use Rattle.goal_segments.specs.Sets.{first_cell, last_end}
use Rattle.typed_modular.specs.Solid.{IsSolid}
use Rattle.typed_modular.specs.Laws.{RegionsAreSolid}

-- ---- the next element

suc_is : (z : ℤ) → z +ℤ pos 1 ≡ suc_ℤ z
suc_is (pos n) = let e : n + 1 ≡ suc n = omega arith in ap pos e
suc_is (negsuc zero) = refl
suc_is (negsuc (suc n)) = let e : negsuc (suc n) +ℤ pos 1 ≡ negsuc n = omega (arith, ints) in e

address_next : (s : Span) (z : ℤ) → address_at s (z +ℤ pos 1) ≡ address_at s z +ℤ s.size
address_next s z =
    let e = suc_is z in
    let f = *ℤ_comm s.size (z +ℤ pos 1) ∙ ap (λ k. k *ℤ s.size) e ∙ suc_ℤ-*ℤ z s.size ∙ ap (λ k. k +ℤ s.size) (*ℤ_comm z s.size) in omega (arith, ints, f)

-- ---- regions

stretch_solid : (ks : List CellKind) (v : Value) → IsStretch ks (span_of v).block (first_cell v) (last_end v) v → IsSolid v
stretch_solid ks v s b o = s.covered b o

range_solid : (ks : List CellKind) (s : Span) → s.size ≡ pos (length ks) → IsSolid (region ks s)
range_solid ks s size b o =
    (range_stretch ks s size).covered b o
    ∙ ap (λ z. is_equal s.block b && (int_le (address_at s s.low) o && int_lt o z)) (address_next s s.high ∙ ap (λ z. address_at s s.high +ℤ z) size)

object_solid : (ks : List CellKind) (b o : ℤ) → IsSolid (region ks (one_address b o))
object_solid ks b o b' o' =
    let here : o +ℤ pos 0 ≡ o = omega (arith, ints) in
    (object_stretch ks b o).covered b' o' ∙ sym (ap (λ z. is_equal b b' && (int_le z o' && int_lt o' (z +ℤ pos (length ks)))) here)

pub regions_are_solid : RegionsAreSolid
regions_are_solid = record { stretches = stretch_solid; ranges = range_solid; objects = object_solid }
