-- The forms and the sums that the program holds, as plain ones.
use Rattle.std.specs.Prelude.{◌≡◌, ℕ, suc, ◌+◌, ◌^◌, ◌≤◌, slice_index_or, unsigned_abs, Bool, true, false, ℤ, pos, negsuc, ◌+ℤ◌, ◌*ℤ◌, if◌then◌else◌, List, [], ◌∷◌, ◌++◌, map, take, drop, option_map, Option, Some, None, Result, Ok, Err}
use Rattle.qed_terms.specs.View.{term_tree}
use Rattle.qed_linear.specs.declared.wide.Wide.{Wide}
use Rattle.qed_linear.specs.declared.forms.LinPart.{LinPart}
use Rattle.qed_linear.specs.declared.forms.LinForm.{LinForm}
use Rattle.qed_linear.specs.declared.forms.LinEnd.{LinEnd}
use Rattle.qed_linear.specs.declared.forms.LinEnd.TheVariants as end
use Rattle.wp_base.specs.declared.memory.NoMemory.{NoMemory}
use Rattle.qed_linear.specs.declared.products.Product.{Product}
use Rattle.qed_linear.specs.declared.products.Product.TheVariants as seen
use Rattle.qed_linear.specs.declared.products.Others.{Others}
use Rattle.qed_linear.specs.declared.products.Others.TheVariants as others
use Rattle.qed_linear.specs.declared.sums.WidePart.{WidePart}
use Rattle.qed_linear.specs.declared.sums.WideForm.{WideForm}
use Rattle.qed_terms.specs.Tree.{Tree}
use Rattle.qed_terms.specs.Order.{tree_cmp}
use Rattle.qed_linear.specs.Linear.{fits, Part, Lin, part, lin, at_order, cons_nonzero, scale}

abbrev pub part_of : LinPart → Part
part_of p = part (term_tree p.atom) p.times

abbrev pub parts_of : List LinPart → List Part
parts_of ps = map part_of ps

abbrev pub lin_of : LinForm → Lin
lin_of f = lin (parts_of f.parts.items) f.constant

-- 2^128 to a turn
abbrev pub wide_value : Wide → ℤ
wide_value w = w.low +ℤ w.turns *ℤ pos 340282366920938463463374607431768211456

abbrev pub wide_part : WidePart → Part
wide_part p = part (term_tree p.atom) (wide_value p.times)

abbrev pub wide_parts : List WidePart → List Part
wide_parts ps = map wide_part ps

abbrev pub wide_lin : WideForm → Lin
wide_lin f = lin (wide_parts f.parts.items) (wide_value f.constant)

-- a form, or that it doesn't fit; or memory ran out
abbrev pub IsForm : Result LinForm LinEnd → Option Lin → Type 0
IsForm (Ok f) o = Some (lin_of f) ≡ o
IsForm (Err end.TooWide) o = None ≡ o
IsForm (Err end.NoMemory) o = Unit {0}

-- the same answer, with a form that doesn't fit as an end
abbrev pub IsEnded : Result (Option LinForm) NoMemory → Result LinForm LinEnd → Type 0
IsEnded (Ok o) r = IsForm r (option_map lin_of o)
IsEnded (Err e) r = r ≡ Err end.NoMemory

-- a number times another, where that fits, else itself; and the coefficients of parts times a number
abbrev pub multiple : ℤ → ℤ → ℤ
multiple c z = if fits (c *ℤ z) then c *ℤ z else z

abbrev pub multiples : ℤ → List Part → List Part
multiples c [] = []
multiples c (p ∷ ps) = part (p.atom) (multiple c (p.times)) ∷ multiples c ps

-- a number, or its negative
abbrev pub signed_value : Bool → ℤ → ℤ
signed_value true z = negsuc 0 *ℤ z
signed_value false z = z

abbrev pub signed_parts : Bool → List Part → List Part
signed_parts b [] = []
signed_parts b (p ∷ ps) = part (p.atom) (signed_value b (p.times)) ∷ signed_parts b ps

abbrev pub signed : Bool → Lin → Lin
signed true f = scale (negsuc 0) f
signed false f = f

-- the part at this place, from 0, has that much more, and isn't kept where it is then 0
abbrev pub IsAddedAt : List WidePart → ℕ → ℤ → List WidePart → Type 0
IsAddedAt ps i c qs = (p : WidePart) → p ≡ slice_index_or ps i p → wide_parts qs ≡ wide_parts (take i ps) ++ cons_nonzero (term_tree p.atom) (c +ℤ wide_value p.times) (wide_parts (drop (i + 1) ps))

-- ---- products

-- how many factors stand before the place of a factor
abbrev pub place : Tree → List Tree → ℕ
place t [] = 0
place t (u ∷ us) = at_order (tree_cmp t u) 0 0 (suc (place t us))

-- a number by its sign and its size
abbrev pub sized : (negative : Bool) → ℕ → ℤ
sized true n = negsuc 0 *ℤ pos n
sized false n = pos n

abbrev pub IsProduct : Product → ℤ → Type 0
IsProduct (seen.Within negative size) z = z ≡ sized negative size
IsProduct seen.Beyond z = 2 ^ 128 ≤ unsigned_abs z

abbrev pub are_more : List Lin → Bool
are_more [] = false
are_more (f ∷ []) = false
are_more (f ∷ g ∷ fs) = true

abbrev pub AreOthers : Others → List Lin → Type 0
AreOthers others.None gs = gs ≡ []
AreOthers (others.One f) gs = gs ≡ lin_of f.now ∷ []
AreOthers others.More gs = are_more gs ≡ true
