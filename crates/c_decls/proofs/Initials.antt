-- The initialisers of variables, by their numbers.
use Rattle.std.proofs.Common.{◌≡◌, ℕ, zero, suc, ◌≤◌, Bool, true, false, List, [], ◌∷◌, ◌++◌, length, Option, Some, None, is_some, refl, sym, ap, ◌∙◌, arith}
use Rattle.std.specs.Prelude.{slice_get, slice_set}
use Rattle.std.specs.Option.{option_map}
use Rattle.std.proofs.lemmas.Option.{slice_get-map}
use Rattle.std.proofs.lemmas.List.{map-set, map_push}
use Rattle.typed_prog.specs.declared.tree.Value.{Value}
use Rattle.typed_prog.specs.View.{view_value}
use Rattle.c_scopes.specs.Declarations.{more_if}
use Rattle.c_decls.specs.Globals.{view_inits, has_value}

-- ---- whether one is there

viewed_at : (inits : List (Option Value)) (n : ℕ) → slice_get (view_inits inits) n ≡ option_map (option_map view_value) (slice_get inits n)
viewed_at inits n = slice_get-map (option_map view_value) inits n

has_viewed : (init : Option Value) → is_some init ≡ has_value (Some (option_map view_value init))
has_viewed None = refl
has_viewed (Some v) = refl

pub no_place : (inits : List (Option Value)) (n : ℕ) → slice_get inits n ≡ None → false ≡ has_value (slice_get (view_inits inits) n)
no_place inits n is = sym (ap has_value (viewed_at inits n ∙ ap (option_map (option_map view_value)) is))

pub in_place : (inits : List (Option Value)) (n : ℕ) (init : Option Value) → slice_get inits n ≡ Some init → is_some init ≡ has_value (slice_get (view_inits inits) n)
in_place inits n init is = has_viewed init ∙ sym (ap has_value (viewed_at inits n ∙ ap (option_map (option_map view_value)) is))

pub ruleset viewed_there = (no_place, in_place)

-- ---- one more

pub place_more : (is_new : Bool) (inits more : List (Option Value)) → is_new ≡ true → more ≡ inits ++ None ∷ [] → view_inits more ≡ more_if is_new (view_inits inits) None
place_more is_new inits more new is = ap view_inits is ∙ map_push (option_map view_value) inits None ∙ sym (ap (λ b. more_if b (view_inits inits) None) new)

pub no_place_more : (is_new : Bool) (inits more : List (Option Value)) → is_new ≡ false → more ≡ inits → view_inits more ≡ more_if is_new (view_inits inits) None
no_place_more is_new inits more old is = ap view_inits is ∙ sym (ap (λ b. more_if b (view_inits inits) None) old)

pub ruleset one_place_more = (place_more, no_place_more)

-- ---- put into its place

pub set_past : {X : Type 0} (xs : List X) (n : ℕ) (x : X) → length xs ≤ n → slice_set xs n x ≡ xs
set_past [] n x past = refl
set_past (y ∷ xs) zero x past = absurd (omega arith)
set_past (y ∷ xs) (suc n) x past = ap (λ (ys : List _). y ∷ ys) (set_past xs n x (omega arith))

pub put_there : (before behind : List (Option Value)) (n : ℕ) (v : Value) → behind ≡ slice_set before n (Some v) → view_inits behind ≡ slice_set (view_inits before) n (Some (view_value v))
put_there before behind n v is = ap view_inits is ∙ map-set (option_map view_value) before n (Some v)

length_viewed : (inits : List (Option Value)) → length (view_inits inits) ≡ length inits
length_viewed [] = refl
length_viewed (init ∷ inits) = ap suc (length_viewed inits)

pub put_nowhere : (before behind : List (Option Value)) (n : ℕ) (v : Value) → length before ≤ n → behind ≡ before → view_inits behind ≡ slice_set (view_inits before) n (Some (view_value v))
put_nowhere before behind n v past is =
    let same = length_viewed before in
    ap view_inits is ∙ sym (set_past (view_inits before) n (Some (view_value v)) (omega (arith, same, past)))

pub ruleset put_laws = (put_there, put_nowhere)
