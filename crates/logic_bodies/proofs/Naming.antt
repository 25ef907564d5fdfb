-- Names of parameters, and variables of the file, in the words of the code.
use Rattle.std.proofs.Common.{◌≡◌, ◌<◌, ◌≤◌, ℕ, zero, suc, ◌+◌, ◌==◌, Bool, true, false, if◌then◌else◌, List, [], ◌∷◌, map, length, drop, get_or, refl, sym, ap, ◌∙◌, arith, eq-eqb, ne_eqb}
use Rattle.std.specs.Prelude.{Option, Some, None}
use Rattle.std.proofs.lemmas.List.{at_drop_more, at_drop_all}
use Rattle.wp_base.specs.declared.kinds.Kind.{Kind}
use Rattle.acsl_trees.specs.declared.heads.Content.TheVariants as content
use Rattle.acsl_encode.specs.Readings.{Global, integer_global, pointer_global, Terms, nothing}
use Rattle.acsl_encode.specs.Encode.{held}
use Rattle.acsl_encode.specs.Setting.{names_of, terms_named, slot_in}
use Rattle.acsl_encode.specs.Told.{number_of}
use Rattle.annotation_words.specs.View.{view_named, view_global}
use Rattle.annotation_words.specs.declared.readings.Named.{Named}
use Rattle.annotation_words.specs.declared.readings.GlobalName.{GlobalName}
use Rattle.logic_bodies.specs.Bodies.{found_in, slot_of}

pub name_there : (ps : List Named) (n : ℕ) (p : Named) (t : Terms) → n < length ps → p ≡ get_or ps n p → t ≡ terms_named (view_named p) → t ≡ names_of (map view_named ps) n
name_there [] n p t l is made = absurd (omega (arith, l))
name_there (q ∷ ps) zero p t l is made = made ∙ ap (λ v. terms_named (view_named v)) is
name_there (q ∷ ps) (suc n) p t l is made = name_there ps n p t (omega (arith, l)) is made

pub name_past : (ps : List Named) (n : ℕ) → length ps ≤ n → nothing ≡ names_of (map view_named ps) n
name_past [] n l = refl
name_past (q ∷ ps) zero l = absurd (omega (arith, l))
name_past (q ∷ ps) (suc n) l = name_past ps n (omega (arith, l))

pub ruleset name_laws = (name_there, name_past)

-- ---- variables, from a place on

abbrev from : List GlobalName → ℕ → ℕ → Option Global
from gs i n = found_in (map view_global (drop i gs)) n

opened : (gs : List GlobalName) (i n : ℕ) (g : GlobalName) → i < length gs → g ≡ get_or gs i g
    → from gs i n ≡ (if number_of (view_global g) == n then Some (view_global g) else from gs (i + 1) n)
opened gs i n g l is =
    at_drop_more (λ hs. found_in (map view_global hs) n) gs i g l
    ∙ ap (λ h. if number_of (view_global h) == n then Some (view_global h) else from gs (i + 1) n) (sym is)

pub found_here : (gs : List GlobalName) (i n m : ℕ) (g : GlobalName) (whole : Option Global) → whole ≡ from gs i n → i < length gs → g ≡ get_or gs i g
    → m ≡ number_of (view_global g) → m ≡ n → Some (view_global g) ≡ whole
found_here gs i n m g whole k l is own same =
    sym (k ∙ opened gs i n g l is ∙ ap (λ b. if b then Some (view_global g) else from gs (i + 1) n) (eq-eqb (number_of (view_global g)) n (sym own ∙ same)))

pub found_next : (gs : List GlobalName) (i n m : ℕ) (g : GlobalName) (whole : Option Global) → whole ≡ from gs i n → i < length gs → g ≡ get_or gs i g
    → m ≡ number_of (view_global g) → (m ≡ n → ⊥) → whole ≡ from gs (i + 1) n
found_next gs i n m g whole k l is own differ =
    k ∙ opened gs i n g l is
    ∙ ap (λ b. if b then Some (view_global g) else from gs (i + 1) n) (ne_eqb (number_of (view_global g)) n (λ e. differ (own ∙ e)))

pub found_end : (gs : List GlobalName) (i n : ℕ) (whole : Option Global) → whole ≡ from gs i n → length gs ≤ i → None ≡ whole
found_end gs i n whole k l = sym (k ∙ at_drop_all (λ hs. found_in (map view_global hs) n) gs i l)

pub ruleset found_laws = (found_here, found_next, found_end)

-- ---- slots

pub slot_found : (gs : List Global) (n : ℕ) → slot_of (found_in gs n) ≡ slot_in gs n
slot_found [] n = refl
slot_found (integer_global i k x ∷ gs) n = by (i == n) (slot_found gs n)
  where
    by : (b : Bool) → slot_of (found_in gs n) ≡ slot_in gs n
        → slot_of (if b then Some (integer_global i k x) else found_in gs n) ≡ (if b then slot_of (Some (integer_global i k x)) else slot_in gs n)
    by true rest = refl
    by false rest = rest
slot_found (pointer_global i x y ∷ gs) n = by (i == n) (slot_found gs n)
  where
    by : (b : Bool) → slot_of (found_in gs n) ≡ slot_in gs n
        → slot_of (if b then Some (pointer_global i x y) else found_in gs n) ≡ (if b then slot_of (Some (pointer_global i x y)) else slot_in gs n)
    by true rest = refl
    by false rest = rest

pub held_there : (gs : List Global) (n : ℕ) (g : Global) (t : Terms) → Some g ≡ found_in gs n → ((k : Kind) → t ≡ held (content.Integer k) (slot_of (Some g)))
    → (k : Kind) → t ≡ held (content.Integer k) (slot_in gs n)
held_there gs n g t is made k = made k ∙ ap (λ o. held (content.Integer k) (slot_of o)) is ∙ ap (held (content.Integer k)) (slot_found gs n)

pub held_nowhere : (gs : List Global) (n : ℕ) → None ≡ found_in gs n → (k : Kind) → nothing ≡ held (content.Integer k) (slot_in gs n)
held_nowhere gs n is k = ap (λ o. held (content.Integer k) (slot_of o)) is ∙ ap (held (content.Integer k)) (slot_found gs n)

pub ruleset held_laws = (held_there, held_nowhere)
