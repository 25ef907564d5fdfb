-- What may be read or written, cell by cell.
use Rattle.std.proofs.Common.{◌≡◌, ℕ, suc, Bool, true, false, ◌&&◌, List, [], ◌∷◌, map, refl, sym, ap, ◌∙◌, arith}
use Rattle.std.specs.Prelude.{ℤ, pos, ◌+ℤ◌, ◌*ℤ◌, Option, Some, None}
use Rattle.std.proofs.lemmas.Int.{ints}
use Rattle.wp_base.specs.declared.kinds.CellKind.{CellKind}
use Rattle.wp_base.specs.Blocks.{Table}
use Rattle.c_runs.specs.TruthStates as state
use Rattle.c_runs.specs.TruthStates.{Value, Span, span_of, is_good_cell, are_good_cells, is_valid, every_between, address_at}
use Rattle.qed_terms.specs.declared.head.Head.TheVariants as th
use Rattle.qed_terms.specs.Tree.{Tree as Term, var}
use Rattle.qed_terms.specs.Meaning as meant
use Rattle.qed_terms.specs.Meaning.{Values, World as Logic, with_int, meaning, each_true}
use Rattle.acsl_encode.specs.Readings as reading
use Rattle.acsl_encode.specs.Readings.{Terms, integer, address, variable, elements, region, nothing, Common, Reading}
use Rattle.acsl_encode.specs.Encode.{good_cell, good_cells, element_at, times, further, one_more, all_of, valid, quantified}
use Rattle.acsl_encode.specs.Meaning.{Holds, number_in, is_so_in, Means}
use Rattle.acsl_encode.proofs.Numbers.{sum_two, none_more}
use Rattle.acsl_encode.proofs.Operations.{further_is, times_is, and_true}
use Rattle.acsl_encode.proofs.Nodes.{all_is}
use Rattle.acsl_encode.proofs.Ranging.{every_means}

abbrev table_in : Logic → Values → Term → Table
table_in q env t = meant.table (meaning q env t)

module _ (q : Logic) (r : Reading) where
  cell_is : (env : Values) (writable : Bool) (k : CellKind) (t b o : Term)
      → is_good_cell writable (table_in q env t) k (number_in q env b) (number_in q env o) ≡ is_so_in q env (good_cell writable k t b o)
  cell_is env true k t b o = refl
  cell_is env false k t b o = refl

  cells_are : (env : Values) (writable : Bool) (t b o : Term) (ks : List CellKind) (n : ℕ)
      → are_good_cells writable (table_in q env t) ks (number_in q env b) (number_in q env o +ℤ pos n) ≡ each_true
      (map (is_so_in q env) (good_cells writable t b o ks n))
  cells_are env writable t b o [] n = refl
  cells_are env writable t b o (k ∷ ks) n =
      let here = ap (is_good_cell writable (table_in q env t) k (number_in q env b)) (further_is q r.common env n o) ∙ cell_is env writable k t b
      (further n o) in
      let next : (number_in q env o +ℤ pos n) +ℤ pos 1 ≡ number_in q env o +ℤ pos (suc n) = omega (arith, ints) in
      let rest = ap (are_good_cells writable (table_in q env t) ks (number_in q env b)) next ∙ cells_are env writable t b o ks (suc n) in
      λ i. here i && rest i

  -- the cells at an offset
  good_at : (env : Values) (writable : Bool) (t b o : Term) (ks : List CellKind)
      → are_good_cells writable (table_in q env t) ks (number_in q env b) (number_in q env o) ≡ is_so_in q env (all_of (good_cells writable t b o ks 0))
  good_at env writable t b o ks =
      ap (are_good_cells writable (table_in q env t) ks (number_in q env b)) (sym (none_more (number_in q env o))) ∙ cells_are env writable t b o ks 0
      ∙ sym (all_is q r env (good_cells writable t b o ks 0))

  one_valid : (env : Values) (writable : Bool) (t b o : Term) (ks : List CellKind) (v : Value) → v ≡ state.pointer (number_in q env b) (number_in q env o)
      → is_valid writable (table_in q env t) ks (span_of v) ≡ is_so_in q env (all_of (good_cells writable t b o ks 0))
  one_valid env writable t b o ks v h =
      ap (λ v. is_valid writable (table_in q env t) ks (span_of v)) h ∙ sym (and_true _)
      ∙ ap (are_good_cells writable (table_in q env t) ks (number_in q env b)) (none_more (number_in q env o)) ∙ good_at env writable t b o ks

  -- the addresses of a range, under whichever number the binder has
  abbrev RangeAt : Values → (b o : Term) (size : ℕ) (low high : Term) → Value → Type 0
  RangeAt env b o size low high v = Means q r.common env (elements b o size low high) v

  range_valid : (env : Values) (x : List ℕ) (writable : Bool) (t b o : Term) (size : ℕ) (low high : Term) (ks : List CellKind) (v : Value) (blocks : Table)
      → RangeAt env b o size low high v
      → ((z : ℤ) → RangeAt (with_int env x z) b o size low high v) → ((z : ℤ) → table_in q (with_int env x z) t ≡ blocks) →
      ((z : ℤ) → (with_int env x z).ints x ≡ z)
      → Means q r.common env (quantified (th.Forall x) (Some (record { low = low; high = one_more high }))
      (Some (all_of (good_cells writable t b (element_at o size (var x)) ks 0))))
      (state.truth (is_valid writable blocks ks (span_of v)))
  range_valid env x writable t b o size low high ks v blocks h later table bound =
      every_means q r.common env x (span_of v).low (span_of v).high (λ i. are_good_cells writable blocks ks (span_of v).block (address_at (span_of v) i))
      (Some (record { low = low; high = one_more high })) (Some (all_of (good_cells writable t b (element_at o size (var x)) ks 0)))
      (sym (ap (λ v. (span_of v).low) h), sum_two (number_in q env high) (pos 1) ∙ sym (ap (λ v. (span_of v).high +ℤ pos 1) h))
      (λ z le lt. each z)
    where
      each : (z : ℤ) → are_good_cells writable blocks ks (span_of v).block (address_at (span_of v) z)
          ≡ is_so_in q (with_int env x z) (all_of (good_cells writable t b (element_at o size (var x)) ks 0))
      each z =
          let e = with_int env x z in
          let at : address_at (span_of v) z ≡ number_in q e (element_at o size (var x)) =
          ap (λ v. address_at (span_of v) z) (later z) ∙ ap (λ k. number_in q e o +ℤ k)
          (ap (λ y. pos size *ℤ y) (sym (bound z)) ∙ times_is q r.common e size (var x))
          ∙ sym (sum_two (number_in q e o) (number_in q e (times size (var x)))) in
          (λ i. are_good_cells writable (sym (table z) i) ks (span_of (later z i)).block (at i)) ∙ good_at e writable t b (element_at o size (var x)) ks

  -- ---- all of what a node may have

  pub valid_means : (env : Values) (x : List ℕ) (writable : Bool) (ks : List CellKind) (o : Option Term) (y : Terms) (v : Value) (blocks : Table)
      → Means q r.common env y v → Holds (λ t. table_in q env t ≡ blocks) o
      → ((z : ℤ) → Means q r.common (with_int env x z) y v) → ((z : ℤ) → Holds (λ t. table_in q (with_int env x z) t ≡ blocks) o)
      → ((z : ℤ) → (with_int env x z).ints x ≡ z) → Means q r.common env (valid x writable ks o y) (state.truth (is_valid writable blocks ks (span_of v)))
  valid_means env x writable ks (Some t) (address b e) v blocks h table later tables bound =
      ap (λ k. state.truth (is_valid writable k ks (span_of v))) (sym table) ∙ ap state.truth (one_valid env writable t b e ks v h.0)
  valid_means env x writable ks None (address b e) v blocks h table later tables bound = tt
  valid_means env x writable ks (Some t) (elements b e size low high) v blocks h table later tables bound =
      range_valid env x writable t b e size low high ks v blocks h later tables bound
  valid_means env x writable ks None (elements b e size low high) v blocks h table later tables bound = tt
  valid_means env x writable ks (Some t) (region cells b i j) v blocks h table later tables bound = tt
  valid_means env x writable ks None (region cells b i j) v blocks h table later tables bound = tt
  valid_means env x writable ks o (integer l t) v blocks h table later tables bound = tt
  valid_means env x writable ks o (reading.truth f) v blocks h table later tables bound = tt
  valid_means env x writable ks o (variable y) v blocks h table later tables bound = tt
  valid_means env x writable ks o nothing v blocks h table later tables bound = tt
