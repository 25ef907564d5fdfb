-- Names that are declared stay what they are.
use Rattle.std.proofs.Common.{◌≡◌, ℕ, Bool, true, false, List, [], ◌∷◌, ◌++◌, Option, Some, is_none, ap, if◌then◌else◌}
use Rattle.std.specs.Str.{bytes_eq}
use Rattle.name_table.specs.Names.{Names, meaning_of, is_free, declared}

-- with further declarations behind
front : {V : Type 0} (ds more : Names V) (x : List ℕ) (v : V) → meaning_of ds x ≡ Some v → meaning_of (ds ++ more) x ≡ Some v
front [] more x v h = absurd cc
front {V} (d ∷ ds) more x v h = by (bytes_eq x d.0) h (front ds more x v)
  where
    by : (b : Bool) → (if b then Some d.1 else meaning_of ds x) ≡ Some v → (meaning_of ds x ≡ Some v → meaning_of (ds ++ more) x ≡ Some v) → (if b then Some d.1 else meaning_of (ds ++ more) x) ≡ Some v
    by true is rest = is
    by false is rest = rest is

stays_by : {V : Type 0} (b : Bool) (ds : Names V) (x : List ℕ) (v : V) (y : List ℕ) (w : V) → meaning_of ds y ≡ Some w → meaning_of (if b then ds ++ (x, v) ∷ [] else ds) y ≡ Some w
stays_by true ds x v y w h = front ds ((x, v) ∷ []) y w h
stays_by false ds x v y w h = h

pub stays : {V : Type 0} (ds : Names V) (x : List ℕ) (v : V) (y : List ℕ) (w : V) → meaning_of ds y ≡ Some w → meaning_of (declared ds x v) y ≡ Some w
stays ds x v y w h = stays_by (is_free ds x) ds x v y w h

-- a name that is declared isn't free
pub not_free : {V : Type 0} (ds : Names V) (x : List ℕ) (v : V) → meaning_of ds x ≡ Some v → is_free ds x ≡ false
not_free {V} ds x v h = ap (λ (o : Option V). is_none o) h
