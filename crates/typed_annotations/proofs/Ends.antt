-- The first cell of a region's terms, and the address behind its last one.
use Rattle.std.proofs.Common.{◌≡◌, ℕ, zero, suc, ◌+◌, ◌==◌, Bool, true, false, if◌then◌else◌, List, length, refl, sym, ap, ◌∙◌, subst, arith}
use Rattle.std.specs.Prelude.{ℤ, pos, negsuc, ◌+ℤ◌, ◌*ℤ◌}
use Rattle.std.proofs.lemmas.Bool.{eqb-true}
use Rattle.std.proofs.lemmas.Int.{ints}
use Rattle.std.proofs.Math.IntN.{suc_ℤ-*ℤ, *ℤ_comm, suc_ℤ}
use Rattle.wp_base.specs.declared.kinds.CellKind.{CellKind}
use Rattle.acsl_trees.specs.declared.heads.Content.{Content}
use Rattle.acsl_trees.specs.declared.heads.Content.TheVariants as content
use Rattle.c_runs.specs.TruthStates as state
use Rattle.c_runs.specs.TruthStates.{Value, Span, span_of, address_at}
use Rattle.qed_terms.specs.Meaning.{Values, World as Logic}
use Rattle.qed_terms.specs.Tree.{Tree as Term}
use Rattle.acsl_encode.specs.Encode.{further, times, one_more, element_at, region_of, content_cells}
use Rattle.acsl_encode.specs.Meaning.{number_in, HasAddress, Means}
use Rattle.acsl_encode.specs.Readings as reading
use Rattle.acsl_encode.specs.Readings.{Terms, integer, address, variable, elements, region, nothing, Common}
use Rattle.acsl_encode.proofs.Numbers.{sum_two}
use Rattle.acsl_encode.proofs.Operations.{further_is, times_is}
use Rattle.goal_segments.specs.Sets.{first_cell, last_end}

-- ---- numbers

suc_is : (z : ℤ) → z +ℤ pos 1 ≡ suc_ℤ z
suc_is (pos n) = let e : n + 1 ≡ suc n = omega arith in ap pos e
suc_is (negsuc zero) = refl
suc_is (negsuc (suc n)) = let e : negsuc (suc n) +ℤ pos 1 ≡ negsuc n = omega (arith, ints) in e

address_next : (s : Span) (z : ℤ) → address_at s (z +ℤ pos 1) ≡ address_at s z +ℤ s.size
address_next s z =
    let e = suc_is z in
    let f = *ℤ_comm s.size (z +ℤ pos 1) ∙ ap (λ k. k *ℤ s.size) e ∙ suc_ℤ-*ℤ z s.size ∙ ap (λ k. k +ℤ s.size) (*ℤ_comm z s.size) in omega (arith, ints, f)

none_more : (z : ℤ) → z +ℤ pos 0 ≡ z
none_more z = omega (arith, ints)

-- ---- the parts of terms of a region

abbrev block_in : Terms → Term → Term
block_in (region ks b low high) d = b
block_in _ d = d

abbrev low_in : Terms → Term → Term
low_in (region ks b low high) d = low
low_in _ d = d

abbrev high_in : Terms → Term → Term
high_in (region ks b low high) d = high
high_in _ d = d

module _ (q : Logic) (r : Common) (env : Values) (ks : List CellKind) where
  abbrev N : Term → ℤ
  N = number_in q env

  -- what its terms are
  pub record EndsAre (u : Value) (b low high : Term) : Type 0 where
    pub block : (span_of u).block ≡ N b
    pub first : first_cell u ≡ N low
    pub last : last_end u ≡ N high

  same_ends : (u : Value) (ls : List CellKind) (b low high b' low' high' : Term) → region ks b low high ≡ region ls b' low' high' → EndsAre u b low high → EndsAre u b' low' high'
  same_ends u ls b low high b' low' high' e h = record {
    block = h.block ∙ ap (λ x. N (block_in x b)) e;
    first = h.first ∙ ap (λ x. N (low_in x b)) e;
    last = h.last ∙ ap (λ x. N (high_in x b)) e;
  }

  no_region : {X : Type 0} (ls : List CellKind) (b low high : Term) → nothing ≡ region ls b low high → X
  no_region ls b low high e = absurd cc

  pub ends_are : (x : Terms) (v : Value) → Means q r env x v → (ls : List CellKind) (b low high : Term) → region_of ks x ≡ region ls b low high
      → EndsAre (state.region ks (span_of v)) b low high
  ends_are (address c o) v h ls b low high e =
      subst (λ v. EndsAre (state.region ks (span_of v)) b low high) (sym h.0)
      (same_ends (state.region ks (state.one_address (N c) (N o))) ls c o (further (length ks) o) b low high e
      (record { block = refl; first = none_more (N o); last = ap (λ z. z +ℤ pos (length ks)) (none_more (N o)) ∙ further_is q r env (length ks) o }))
  ends_are (elements c o size i j) v h ls b low high e = subst (λ v. EndsAre (state.region ks (span_of v)) b low high) (sym h) (by (size == length ks) refl e) where
    s : Span
    s = record { block = N c; offset = N o; size = pos size; low = N i; high = N j }

    at_element : (t : Term) → address_at s (N t) ≡ N (element_at o size t)
    at_element t = ap (λ z. N o +ℤ z) (times_is q r env size t) ∙ sym (sum_two (N o) (N (times size t)))

    by : (t : Bool) → (size == length ks) ≡ t
        → (if t then region ks c (element_at o size i) (element_at o size (one_more j)) else nothing) ≡ region ls b low high → EndsAre (state.region ks s) b low high
    by true same e =
        same_ends (state.region ks s) ls c (element_at o size i) (element_at o size (one_more j)) b low high e
        (record {
          block = refl;
          first = at_element i;
          last = ap (λ k. address_at s (N j) +ℤ pos k) (sym (eqb-true size (length ks) same)) ∙ sym (address_next s (N j))
              ∙ ap (address_at s) (sym (sum_two (N j) (pos 1))) ∙ at_element (one_more j);
        })
    by false same e = no_region ls b low high e
  ends_are (integer k t) v h ls b low high e = no_region ls b low high e
  ends_are (reading.truth f) v h ls b low high e = no_region ls b low high e
  ends_are (variable y) v h ls b low high e = no_region ls b low high e
  ends_are (region ks' c i j) v h ls b low high e = no_region ls b low high e
  ends_are nothing v h ls b low high e = no_region ls b low high e

  -- ---- the block of a region is that of the address, or of the elements

  pub block_home : (x : Terms) (v : Value) → Means q r env x v → ((c o : Term) (n : ℕ) (i j : Term) → x ≡ elements c o n i j → HasAddress (N c))
      → (ls : List CellKind) (b low high : Term) → region_of ks x ≡ region ls b low high → HasAddress (N b)
  block_home (address c o) v h home ls b low high e = subst HasAddress (ap (λ x. N (block_in x b)) e) h.1
  block_home (elements c o size i j) v h home ls b low high e = by (size == length ks) e where
    by : (t : Bool) → (if t then region ks c (element_at o size i) (element_at o size (one_more j)) else nothing) ≡ region ls b low high → HasAddress (N b)
    by true e = subst HasAddress (ap (λ x. N (block_in x b)) e) (home c o size i j refl)
    by false e = no_region ls b low high e
  block_home x v h home ls b low high e = no_region ls b low high e

pub same_cells : (r : Common) (w : state.World) (c : Content) → ((n : ℕ) → r.structs n ≡ w.structs n) → content_cells r c ≡ state.content_cells w c
same_cells r w (content.Integer k) h = refl
same_cells r w content.Pointer h = refl
same_cells r w (content.Struct n) h = h n
