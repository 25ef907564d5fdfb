-- Settings whose functions are as a regular one asks but for the sorts of the terms in their bodies, and the law that they are regular where bodies are well
-- formed terms (ACSL 2.6.3).
use Rattle.std.specs.Prelude.{◌≡◌, ℕ, ◌==◌, Bool, true, not, ◌&&◌, ◌||◌, List, [], ◌∷◌, ◌++◌, slice_get, Option, Some, None}
use Rattle.std.specs.Str.{bytes_eq}
use Rattle.std.specs.List.{list_all, list_any}
use Rattle.qed_terms.specs.Names.{is_name}
use Rattle.qed_terms.specs.Setting.{Logic, Setting, is_param, same_param, all_differ, is_int_param, is_plain, some_takes, goes_down, is_regular}
use Rattle.qed_terms.specs.Tree.{Trees}
use Rattle.qed_terms.specs.WellFormed.{int, fits}

-- one of the functions before takes these kids, or the function itself does one step further down
abbrev pub is_allowed : (before : List Logic) → (own : Option Logic) → List ℕ → Trees → Bool
is_allowed before None x ts = some_takes before x ts
is_allowed before (Some f) x ts = some_takes before x ts || goes_down f x ts

-- In its bodies stand parameters and functions that may be used, but no quantifier. In the step it may use itself.
abbrev pub are_bodies : (before : List Logic) → Logic → Bool
are_bodies before f = is_plain f.params (is_allowed before None) f.base && is_plain f.params (is_allowed before (Some f)) f.step

-- A name that none before has; parameters of their own, of which the one that becomes less is an integer; and bodies
abbrev pub is_shaped_after : (before : List Logic) → Logic → Bool
is_shaped_after before f =
    is_name f.name && not (list_any (λ (g : Logic). bytes_eq g.name f.name) before)
    && list_all is_param f.params && all_differ same_param f.params && is_int_param (slice_get f.params f.number)
    && are_bodies before f

abbrev pub are_shaped_after : (before : List Logic) → List Logic → Bool
are_shaped_after before [] = true
are_shaped_after before (f ∷ fs) = is_shaped_after before f && are_shaped_after (before ++ f ∷ []) fs

-- bodies are terms for integers
pub record BodiesFit (f : Logic) : Type 0 where
  pub base : fits int f.base ≡ true
  pub step : fits int f.step ≡ true

abbrev pub AllBodiesFit : List Logic → Type 0
AllBodiesFit [] = Unit {0}
AllBodiesFit (f ∷ fs) = BodiesFit f × AllBodiesFit fs

abbrev pub ShapedIsRegular : Type 0
ShapedIsRegular =
    (s : Setting) → (s.long_bits == 32 || s.long_bits == 64) ≡ true → AllBodiesFit s.logic → are_shaped_after [] s.logic ≡ true → is_regular s ≡ true
