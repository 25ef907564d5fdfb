-- Variables of the file that no pointer leads to, by the numbers of their cells; and a memory in which some of them hold other values.
use Rattle.std.proofs.Common.{◌≡◌, ℕ, zero, suc, ◌+◌, ◌<◌, Bool, true, false, ◌&&◌, if◌then◌else◌, ℤ, pos, negsuc, List, [], ◌∷◌, Option, Some, None, slice_get, refl, sym, ap, ◌∙◌, subst, arith}
use Rattle.std.specs.Prelude.{nat_lt}
use Rattle.std.specs.Option.{unwrap_or}
use Rattle.std.proofs.lemmas.Bool.{and_parts, lt-ltb}
use Rattle.std.proofs.lemmas.Option.{none-some, same_Some}
use Rattle.wp_base.specs.declared.kinds.CellKind.{CellKind}
use Rattle.wp_base.specs.Blocks.{count, is_cell}
use Rattle.c_runs.specs.TruthTold.{is_zero}
use Rattle.c_runs.specs.TruthStates.{Value, number, of_kind}
use Rattle.c_runs.specs.Program.{Variable, Facts}
use Rattle.c_runs.specs.States.{Memory, count_plain, plain_globals, home_from, global_home}
use Rattle.c_runs.specs.Scopes.{is_content, scalar_of}
use Rattle.c_runs.specs.Entry.{is_placed, is_home, is_value, leads_well}
use Rattle.goal_segments.specs.Told.{IsGood}
use Rattle.goal_segments.proofs.Told.{no_negative}
use Rattle.typed_memories.specs.Cells.{Reads}
use Rattle.typed_memories.proofs.Tests.{on_test, not_both, chosen, unchosen, both_so}
use Rattle.memory_calls.proofs.Values.{content_value}

-- ---- which variable has a cell

-- the variable with the cell of this number among those of these variables, which are numbered from x
abbrev pub plain_from : (x : ℕ) → List Variable → (cell : ℕ) → Option ℕ
plain_from x [] i = None
plain_from x (v ∷ vs) zero = if v.is_plain then Some x else plain_from (suc x) vs zero
plain_from x (v ∷ vs) (suc i) = if v.is_plain then plain_from (suc x) vs i else plain_from (suc x) vs (suc i)

abbrev pub plain_at : Facts → (cell : ℕ) → Option ℕ
plain_at p i = plain_from 0 p.globals i

-- it has one
found_from : (x n k : ℕ) (vs : List Variable) (y : ℕ) (v : Variable) → slice_get vs y ≡ Some v → v.is_plain ≡ true
    → (i : ℕ) × (home_from n k vs y ≡ negsuc (k + i)) × (plain_from x vs i ≡ Some (x + y))
found_from x n k [] y v e is = absurd (none-some v e)
found_from x n k (u ∷ vs) zero v e is =
    let plain : u.is_plain ≡ true = ap (λ (o : Option Variable). (unwrap_or o v).is_plain) e ∙ is in (
      0,
      ap (λ b. if b then negsuc k else pos (suc n)) plain ∙ ap negsuc (let q : k ≡ k + 0 = omega arith in q),
      ap (λ b. if b then Some x else plain_from (suc x) vs zero) plain ∙ ap Some (let q : x ≡ x + 0 = omega arith in q),
    )
found_from x n k (u ∷ vs) (suc y) v e is =
    on_test u.is_plain
    (λ t. let r = found_from (suc x) n (suc k) vs y v e is in (
      suc r.0,
      ap (λ b. if b then home_from n (suc k) vs y else home_from (suc n) k vs y) t ∙ r.1 ∙ ap negsuc (let q : suc k + r.0 ≡ k + suc r.0 = omega arith in q),
      ap (λ b. if b then plain_from (suc x) vs r.0 else plain_from (suc x) vs (suc r.0)) t ∙ r.2 ∙ ap Some (let q : suc x + y ≡ x + suc y = omega arith in q),
    ))
    (λ t. let r = found_from (suc x) (suc n) k vs y v e is in (
      r.0,
      ap (λ b. if b then home_from n (suc k) vs y else home_from (suc n) k vs y) t ∙ r.1,
      over r.0 t ∙ r.2 ∙ ap Some (let q : suc x + y ≡ x + suc y = omega arith in q),
    ))
  where
    over : (i : ℕ) → u.is_plain ≡ false → plain_from x (u ∷ vs) i ≡ plain_from (suc x) vs i
    over zero t = ap (λ b. if b then Some x else plain_from (suc x) vs zero) t
    over (suc i) t = ap (λ b. if b then plain_from (suc x) vs i else plain_from (suc x) vs (suc i)) t

-- what is found has that cell
pub record HasCell (n k : ℕ) (vs : List Variable) (i y : ℕ) : Type 0 where
  pub variable : Variable
  pub is : slice_get vs y ≡ Some variable
  pub plain : variable.is_plain ≡ true
  pub home : home_from n k vs y ≡ negsuc (k + i)
  pub below : i < count_plain vs

cell_later : (n k : ℕ) (u : Variable) (vs : List Variable) (i y : ℕ) → u.is_plain ≡ true → HasCell n (suc k) vs i y → HasCell n k (u ∷ vs) (suc i) (suc y)
cell_later n k u vs i y t h = record {
  variable = h.variable;
  is = h.is;
  plain = h.plain;
  home = ap (λ b. if b then home_from n (suc k) vs y else home_from (suc n) k vs y) t ∙ h.home ∙ ap negsuc (let q : suc k + i ≡ k + suc i = omega arith in q);
  below = let b = h.below in let more : count_plain (u ∷ vs) ≡ suc (count_plain vs) = ap (λ b. if b then suc (count_plain vs) else count_plain vs) t in omega (arith, b, more);
}

cell_over : (n k : ℕ) (u : Variable) (vs : List Variable) (i y : ℕ) → u.is_plain ≡ false → HasCell (suc n) k vs i y → HasCell n k (u ∷ vs) i (suc y)
cell_over n k u vs i y t h = record {
  variable = h.variable;
  is = h.is;
  plain = h.plain;
  home = ap (λ b. if b then home_from n (suc k) vs y else home_from (suc n) k vs y) t ∙ h.home;
  below = let b = h.below in let more : count_plain (u ∷ vs) ≡ count_plain vs = ap (λ b. if b then suc (count_plain vs) else count_plain vs) t in omega (arith, b, more);
}

found_has : (x n k : ℕ) (vs : List Variable) (i z : ℕ) → plain_from x vs i ≡ Some z → (y : ℕ) × (z ≡ x + y) × HasCell n k vs i y
found_has x n k [] i z e = absurd (none-some z e)
found_has x n k (u ∷ vs) zero z e =
    on_test u.is_plain
    (λ t. (
      0,
      sym (same_Some x z (sym (ap (λ b. if b then Some x else plain_from (suc x) vs zero) t) ∙ e)) ∙ (let q : x ≡ x + 0 = omega arith in q),
      record {
        variable = u;
        is = refl;
        plain = t;
        home = ap (λ b. if b then negsuc k else pos (suc n)) t ∙ ap negsuc (let q : k ≡ k + 0 = omega arith in q);
        below = let more : count_plain (u ∷ vs) ≡ suc (count_plain vs) = ap (λ b. if b then suc (count_plain vs) else count_plain vs) t in omega (arith, more);
      },
    ))
    (λ t. let r = found_has (suc x) (suc n) k vs zero z (sym (ap (λ b. if b then Some x else plain_from (suc x) vs zero) t) ∙ e) in
    let same = r.1 in (suc r.0, (let q : z ≡ x + suc r.0 = omega (arith, same) in q), cell_over n k u vs zero r.0 t r.2))
found_has x n k (u ∷ vs) (suc i) z e =
    on_test u.is_plain
    (λ t. let r = found_has (suc x) n (suc k) vs i z (sym (ap (λ b. if b then plain_from (suc x) vs i else plain_from (suc x) vs (suc i)) t) ∙ e) in
    let same = r.1 in (suc r.0, (let q : z ≡ x + suc r.0 = omega (arith, same) in q), cell_later n k u vs i r.0 t r.2))
    (λ t. let r = found_has (suc x) (suc n) k vs (suc i) z (sym (ap (λ b. if b then plain_from (suc x) vs i else plain_from (suc x) vs (suc i)) t) ∙ e) in
    let same = r.1 in (suc r.0, (let q : z ≡ x + suc r.0 = omega (arith, same) in q), cell_over n k u vs (suc i) r.0 t r.2))

module _ (p : Facts) where
  pub cell_of_plain : (x : ℕ) (v : Variable) → slice_get p.globals x ≡ Some v → v.is_plain ≡ true → (i : ℕ) × (global_home p x ≡ negsuc i) × (plain_at p i ≡ Some x)
  cell_of_plain x v e is =
      let r = found_from 0 0 0 p.globals x v e is in
      (r.0, r.1 ∙ ap negsuc (let q : 0 + r.0 ≡ r.0 = omega arith in q), r.2 ∙ ap Some (let q : 0 + x ≡ x = omega arith in q))

  pub plain_of_cell : (i x : ℕ) → plain_at p i ≡ Some x → HasCell 0 0 p.globals i x
  plain_of_cell i x e =
      let r = found_has 0 0 0 p.globals i x e in let same = r.1 in
      subst (HasCell 0 0 p.globals i) (let q : r.0 ≡ x = omega (arith, same) in q) r.2

  pub home_of_cell : (i x : ℕ) → HasCell 0 0 p.globals i x → global_home p x ≡ negsuc i
  home_of_cell i x h = h.home ∙ ap negsuc (let q : 0 + i ≡ i = omega arith in q)

  -- ---- cells that hold other values

  module _ (changed : ℕ → Bool) (held : ℕ → Value) where
    abbrev pub new_or : Option ℕ → (is_first : Bool) → Value → Value
    new_or None b v = v
    new_or (Some x) b v = if b && changed x then held x else v

    abbrev pub cells_with : ((block offset : ℤ) → Value) → (block offset : ℤ) → Value
    cells_with f (pos i) o = f (pos i) o
    cells_with f (negsuc i) o = new_or (plain_at p i) (is_zero o) (f (negsuc i) o)

    abbrev pub memory_with : Memory → Memory
    memory_with m = record m { cells = cells_with m.cells }

    pub at_home : (f : (block offset : ℤ) → Value) (x : ℕ) (v : Variable) → slice_get p.globals x ≡ Some v → v.is_plain ≡ true
        → cells_with f (global_home p x) (pos 0) ≡ (if changed x then held x else f (global_home p x) (pos 0))
    at_home f x v e is =
        let h = cell_of_plain x v e is in
        ap (λ b. cells_with f b (pos 0)) h.1 ∙ ap (λ y. new_or y true (f (negsuc h.0) (pos 0))) h.2 ∙ ap (λ b. if changed x then held x else f b (pos 0)) (sym h.1)

    pub at_cell : (k : CellKind) (m : Memory) (b o : ℤ) → is_cell k m.blocks b o ≡ true → cells_with m.cells b o ≡ m.cells b o
    at_cell k m (pos i) o is = refl
    at_cell k m (negsuc i) o is = absurd (no_negative k m.blocks i o is)

    -- a value there is one of the changed ones, or what was held
    each : (P : Value → Type 0) (f : (block offset : ℤ) → Value) (i : ℕ) (o : ℤ) (y : Option ℕ) → plain_at p i ≡ y
        → ((x : ℕ) → y ≡ Some x → is_zero o ≡ true → changed x ≡ true → P (held x)) → (((x : ℕ) → y ≡ Some x → is_zero o ≡ true → changed x ≡ true → ⊥) → P (f (negsuc i) o))
        → P (new_or y (is_zero o) (f (negsuc i) o))
    each P f i o None e new old = old (λ x same. absurd (none-some x same))
    each P f i o (Some x) e new old = on_test (is_zero o && changed x)
        (λ t. let both = and_parts (is_zero o) (changed x) t in subst P (sym (chosen (is_zero o && changed x) _ _ t)) (new x refl both.0 both.1))
        (λ t. subst P (sym (unchosen (is_zero o && changed x) _ _ t))
        (old (λ y same z c. not_both (is_zero o && changed x) (both_so (is_zero o) (changed x) z (ap changed (same_Some x y same) ∙ c)) t)))

    pub at_hidden : (P : Value → Type 0) (f : (block offset : ℤ) → Value) (i : ℕ) (o : ℤ)
        → ((x : ℕ) → plain_at p i ≡ Some x → is_zero o ≡ true → changed x ≡ true → P (held x))
        → (((x : ℕ) → plain_at p i ≡ Some x → is_zero o ≡ true → changed x ≡ true → ⊥) → P (f (negsuc i) o)) → P (cells_with f (negsuc i) o)
    at_hidden P f i o new old = each P f i o (plain_at p i) refl new old

    -- the memory stays good where these are values of their kinds
    module _ (m : Memory) (good : IsGood p m)
        (fits : (x : ℕ) (v : Variable) → slice_get p.globals x ≡ Some v → v.is_plain ≡ true → changed x ≡ true → is_content p (count m.blocks) (scalar_of v.layout.cells) (held x) ≡ true) where
      placed : (x : ℕ) (v : Variable) → slice_get p.globals x ≡ Some v → is_placed p (memory_with m) (global_home p x) v ≡ true
      placed x v e = on_test v.is_plain
          (λ is. chosen v.is_plain _ _ is ∙ ap (is_value p m.blocks (scalar_of v.layout.cells)) (at_home m.cells x v e is)
          ∙ on_test (changed x)
          (λ c. ap (is_value p m.blocks (scalar_of v.layout.cells)) (chosen (changed x) _ _ c) ∙ (content_value p m.blocks (scalar_of v.layout.cells) (held x) (fits x v e is c)).0)
          (λ c. ap (is_value p m.blocks (scalar_of v.layout.cells)) (unchosen (changed x) _ _ c) ∙ sym (chosen v.is_plain _ _ is) ∙ good.well.globals x v e))
          (λ is. unchosen v.is_plain _ _ is ∙ sym (unchosen v.is_plain _ _ is) ∙ good.well.globals x v e)

      leads : (b o : ℤ) → leads_well (cells_with m.cells b o) ≡ true
      leads (pos i) o = good.pointers (pos i) o
      leads (negsuc i) o = at_hidden (λ v. leads_well v ≡ true) m.cells i o
          (λ x e z c. let h = plain_of_cell i x e in
          (content_value p m.blocks (scalar_of h.variable.layout.cells) (held x) (fits x h.variable h.is h.plain c)).1)
          (λ none. good.pointers (negsuc i) o)

      elsewhere : (b o : ℤ) → is_home p b o ≡ false → ((k : CellKind) → is_cell k m.blocks b o ≡ false) → cells_with m.cells b o ≡ number (pos 0)
      elsewhere (pos i) o out none = good.well.elsewhere (pos i) o out none
      elsewhere (negsuc i) o out none = at_hidden (λ v. v ≡ number (pos 0)) m.cells i o
          (λ x e z c. let h = plain_of_cell i x e in
          not_both (is_home p (negsuc i) o) (both_so (nat_lt i (plain_globals p)) (is_zero o) (lt-ltb i (plain_globals p) h.below) z) out)
          (λ other. good.well.elsewhere (negsuc i) o out none)

      pub with_good : IsGood p (memory_with m)
      with_good = record {
        well = record {
          globals = placed;
          cells = λ k b o is. ap (is_value p m.blocks k) (at_cell k m b o is) ∙ good.well.cells k b o is;
          elsewhere = elsewhere;
          short = good.well.short;
        };
        pointers = leads;
      }

    -- what cells hold is read as before
    pub with_read : (m : Memory) (k : CellKind) (f : (block offset : ℤ) → Value) → Reads m k f → Reads (memory_with m) k f
    with_read m k f r b o = r b o ∙ on_test (is_cell k m.blocks b o)
        (λ is. chosen (is_cell k m.blocks b o) _ _ is ∙ ap (of_kind k) (sym (at_cell k m b o is)) ∙ sym (chosen (is_cell k m.blocks b o) _ _ is))
        (λ none. unchosen (is_cell k m.blocks b o) _ _ none ∙ sym (unchosen (is_cell k m.blocks b o) _ _ none))
