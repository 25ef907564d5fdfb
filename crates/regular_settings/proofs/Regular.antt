-- Settings whose functions are as a regular one asks.
use Rattle.std.proofs.Common.{◌≡◌, ◌==◌, Bool, true, false, not, ◌&&◌, ◌||◌, List, [], ◌∷◌, ◌++◌, refl, sym, ◌∙◌}
use Rattle.std.specs.Prelude.{Some, None, slice_get}
use Rattle.std.specs.List.{list_all, list_any}
use Rattle.std.specs.Str.{bytes_eq}
use Rattle.qed_terms.specs.Names.{is_name}
use Rattle.qed_terms.specs.Setting.{Logic, is_param, same_param, all_differ, is_int_param, is_plain, is_regular_after, are_regular_after, is_regular}
use Rattle.qed_terms.specs.WellFormed.{int, fits}
use Rattle.regular_settings.specs.Shapes.{is_allowed, is_shaped_after, are_shaped_after, BodiesFit, AllBodiesFit, ShapedIsRegular}

-- two tests that are met stand beside two others
beside : (a b c d e : Bool) → d ≡ true → e ≡ true → (a && (b && c)) ≡ (a && (d && b) && (e && c))
beside true b c true true p q = refl
beside false b c true true p q = refl
beside a b c false e p q = absurd cc
beside a b c true false p q = absurd cc

same_after : (before : List Logic) (f : Logic) → BodiesFit f → is_shaped_after before f ≡ is_regular_after before f
same_after before f h =
    beside (is_name f.name && not (list_any (λ (g : Logic). bytes_eq g.name f.name) before) && list_all is_param f.params && all_differ same_param f.params
    && is_int_param (slice_get f.params f.number)) (is_plain f.params (is_allowed before None) f.base) (is_plain f.params (is_allowed before (Some f)) f.step)
    (fits int f.base) (fits int f.step) h.base h.step

all_same : (before fs : List Logic) → AllBodiesFit fs → are_shaped_after before fs ≡ are_regular_after before fs
all_same before [] h = refl
all_same before (f ∷ fs) h = let a = same_after before f h.0 in let b = all_same (before ++ f ∷ []) fs h.1 in λ i. a i && b i

both : (a b : Bool) → a ≡ true → b ≡ true → (a && b) ≡ true
both true b h k = k
both false b h k = absurd cc

pub shaped_is_regular : ShapedIsRegular
unfolding is_regular
shaped_is_regular s width h so = both (s.long_bits == 32 || s.long_bits == 64) (are_regular_after [] s.logic) width (sym (all_same [] s.logic h) ∙ so)
