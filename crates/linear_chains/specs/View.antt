-- The plain values of the code's links, and what its tables of sides say.
use Rattle.std.specs.Prelude.{◌≡◌, ℕ, ◌&&◌, nat_eq, Bool, ℤ, pos, List, [], ◌∷◌, map, slice_get, Option, Some, None, MatchOption}
use Rattle.std.specs.Ordering.{int_eq}
use Rattle.std.specs.Cmp.Lexicographic.{pointwise}
use Rattle.std.specs.declared.vec.Vec.{Vec}
use Rattle.linear_chains.specs.declared.links.LinkForm.{LinkForm}
use Rattle.linear_chains.specs.declared.links.Sides.{Sides}
use Rattle.linear_chains.specs.declared.links.Refutation.{Refutation}
use Rattle.linear_chains.specs.declared.sums.Sum.{Sum}
use Rattle.linear_chains.specs.Links.{Form, Link, Step}
use Rattle.linear_chains.specs.Chains.{IsRefuted}
use Rattle.linear_chains.specs.Sums.{ThreeMake}

abbrev pub vec_items : {Z : Type 0} → Vec (ℕ × ℤ) Z → Form
vec_items v = v.items

abbrev pub link_of : LinkForm → Link
link_of l = record { form = l.form.items; bound = l.bound }

abbrev pub side_step : Sides → Step
side_step s = record { from = s.from.items; to = s.to.items; bound = s.bound }

abbrev pub total_of : Sum → ℤ
total_of s = s.total

abbrev pub same_part : ℕ × ℤ → ℕ × ℤ → Bool
same_part p q = nat_eq (p.0) (q.0) && int_eq (p.1) (q.1)

abbrev pub same_form : Form → Form → Bool
same_form f g = pointwise same_part f g

abbrev pub same_link : Link → Link → Bool
same_link l m = same_form (l.form) (m.form) && int_eq (l.bound) (m.bound)

-- what the links at three places make, as their refutation
abbrev pub MakeAt : List Link → (i j k : ℕ) → Option Refutation → Type 0
MakeAt links i j k None =
    (a b l : Link) → slice_get links i ≡ Some a → slice_get links j ≡ Some b → slice_get links k ≡ Some l → ThreeMake a b l None
MakeAt links i j k (Some r) =
    (r.places.items ≡ i ∷ j ∷ k ∷ []) × ((a b l : Link) → slice_get links i ≡ Some a → slice_get links j ≡ Some b → slice_get links k ≡ Some l → ThreeMake a b l (Some (r.total)))

-- some links refute all of them together; where there is none, no chain and no short sum is among them
abbrev pub Answers : List Link → Option Refutation → Type 0
Answers links o = MatchOption o ((ks : List ℕ) (total : ℤ) → IsRefuted links ks total → ⊥) (λ r. IsRefuted links (r.places.items) (r.total))
