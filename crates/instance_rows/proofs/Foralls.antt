-- A `forall` at terms.
use Rattle.std.proofs.Common.{◌≡◌, ℕ, zero, suc, ◌<◌, Bool, true, false, ◌&&◌, cond, bytes_eq, refl, sym, ◌∙◌, ap, inl, inr, arith}
use Rattle.std.specs.Prelude.{ℤ, pos, negsuc, ◌+ℤ◌, ◌-ℤ◌, ◌≤ℤ◌, ◌<ℤ◌, int_lt, int_le, int_div, List, [], ◌∷◌, ◌++◌, Option, Some, None, option_map}
use Rattle.std.specs.Option.{option_and_then}
use Rattle.std.proofs.lemmas.Int.{ints}
use Rattle.wp_base.specs.Blocks.{to_nat, same_cell}
use Rattle.qed_terms.specs.declared.head.Head.TheVariants as h
use Rattle.qed_terms.specs.Meaning.{World, Values, truth, value, is_so, with_int, all_from}
use Rattle.qed_terms.specs.Operators.{is_zero, is_equal}
use Rattle.qed_terms.specs.Setting.{Logic}
use Rattle.qed_terms.specs.Tree.{Tree, node, stop, more, head_of}
use Rattle.qed_linear.specs.Linear.{Part, Lin, lin, fits, checked, parts_fit, subtract, to_lin, of_lin, is_integer}
use Rattle.qed_substitution.specs.Substitution.{may_replace}
use Rattle.instance_rows.specs.Accesses.{Access, access_at}
use Rattle.instance_rows.specs.Triggers.{Call, Quantified, call_at, nodes_with, times_in, without_name, goes_into, goes_into_parts, parts_over, divided, solved, term_where, is_nonzero, is_one, quantified_at, at_term, instance_at, instance_by_access, instance_by_call}
use Rattle.instance_rows.specs.Candidates.{Candidate, with_instance, by_access, by_call, if_access, if_call, by_nodes, by_literal, forall_candidates}
use Rattle.branches.specs.Branch.{AreTrue}
use Rattle.instance_rows.proofs.Below.{Below}
use Rattle.instance_rows.proofs.Tests.{first, second, and_left, and_right, alone, le_so, lt_so, lt_or_le}

-- ---- the terms are integers

checked_fits : (f g : Lin) → checked f ≡ Some g → parts_fit (g.parts) ≡ true
checked_fits f g e = go (parts_fit (f.parts) && fits (f.constant)) refl e
  where
    go : (b : Bool) → parts_fit (f.parts) && fits (f.constant) ≡ b → cond b (Some f) None ≡ Some g → parts_fit (g.parts) ≡ true
    go true k q = let same : f ≡ g = cc in ap (λ (x : Lin). parts_fit (x.parts)) (sym same) ∙ and_left (parts_fit (f.parts)) (fits (f.constant)) k
    go false k q = absurd cc

divided_fits : (c : ℤ) (f g : Lin) → divided c f ≡ Some g → parts_fit (g.parts) ≡ true
divided_fits c f g e = go (goes_into_parts c (f.parts) && goes_into c (f.constant)) e
  where
    go : (b : Bool) → cond b (checked (lin (parts_over c (f.parts)) (int_div (f.constant) c))) None ≡ Some g → parts_fit (g.parts) ≡ true
    go true q = checked_fits (lin (parts_over c (f.parts)) (int_div (f.constant) c)) g q
    go false q = absurd cc

solved_fits : (may : ℤ → Bool) (x : List ℕ) (f k g : Lin) → solved may x f k ≡ Some g → parts_fit (g.parts) ≡ true
solved_fits may x f k g e = go (may (times_in x (f.parts))) (checked (subtract k (lin (without_name x (f.parts)) (f.constant)))) e
  where
    c : ℤ
    c = times_in x (f.parts)

    go : (b : Bool) (o : Option Lin) → cond b (option_and_then (divided (times_in x (f.parts))) o) None ≡ Some g → parts_fit (g.parts) ≡ true
    go true None q = absurd cc
    go true (Some d) q = divided_fits (times_in x (f.parts)) d g q
    go false o q = absurd cc

-- the term of a form over integers is one
form_integer : (ps : List Part) (c : ℤ) → parts_fit ps ≡ true → is_integer (head_of (of_lin (lin ps c))) ≡ true
form_integer [] c e = go (is_zero c) refl
  where
    go : (b : Bool) → is_zero c ≡ b → is_integer (head_of (of_lin (lin [] c))) ≡ true
    go true k = rw k refl
    go false k = rw k refl
form_integer (p ∷ []) c e = go (is_zero c) refl (is_equal (p.times) (pos 1)) refl
  where
    atom : is_integer (head_of (p.atom)) ≡ true
    atom = and_right (fits (p.times)) (is_integer (head_of (p.atom))) (and_left (fits (p.times) && is_integer (head_of (p.atom))) true e)

    go : (b : Bool) → is_zero c ≡ b → (d : Bool) → is_equal (p.times) (pos 1) ≡ d → is_integer (head_of (of_lin (lin (p ∷ []) c))) ≡ true
    go true k true l = rw k (rw l atom)
    go true k false l = rw k (rw l refl)
    go false k d l = rw k refl
form_integer (p ∷ q ∷ ps) c e = refl

term_integer : (may : ℤ → Bool) (x : List ℕ) (t u v : Tree) → term_where may x t u ≡ Some v → is_integer (head_of v) ≡ true
term_integer may x t u v e = go (solved may x (to_lin t) (to_lin u)) refl e
  where
    go : (o : Option Lin) → solved may x (to_lin t) (to_lin u) ≡ o → option_map of_lin o ≡ Some v → is_integer (head_of v) ≡ true
    go None k q = absurd cc
    go (Some g) k q =
        let same : of_lin g ≡ v = cc in
        ap (λ y. is_integer (head_of y)) (sym same) ∙ form_integer (g.parts) (g.constant) (solved_fits may x (to_lin t) (to_lin u) g k)

-- ---- a number of a range

at_number : (z : ℤ) (n : ℕ) (test : ℤ → Bool) → all_from z n test ≡ true → (i : ℕ) → i < n → test (z +ℤ pos i) ≡ true
at_number z zero test e i k = absurd (omega (arith, k))
at_number z (suc n) test e zero k = let s : z +ℤ pos 0 ≡ z = omega (arith, ints) in ap test s ∙ and_left (test z) _ e
at_number z (suc n) test e (suc i) k =
    let s : z +ℤ pos (suc i) ≡ (z +ℤ pos 1) +ℤ pos i = omega (arith, ints) in
    ap test s ∙ at_number (z +ℤ pos 1) n test (and_right (test z) _ e) i (omega (arith, k))

in_range : (low high z : ℤ) (test : ℤ → Bool) → all_from low (to_nat (high -ℤ low)) test ≡ true → low ≤ℤ z → z <ℤ high → test z ≡ true
in_range low high z test e l u = go (z -ℤ low) refl (high -ℤ low) refl
  where
    go : (d : ℤ) → z -ℤ low ≡ d → (r : ℤ) → high -ℤ low ≡ r → test z ≡ true
    go (pos i) p (pos n) q =
        let there : low +ℤ pos i ≡ z = omega (arith, ints, p) in
        let near : i < n = omega (arith, ints, p, q, u) in
        ap test (sym there) ∙ at_number low n test (ap (λ r. all_from low (to_nat r) test) (sym q) ∙ e) i near
    go (pos i) p (negsuc n) q = absurd (omega (arith, ints, p, q, u))
    go (negsuc i) p r q = absurd (omega (arith, ints, p, l))

-- ---- a `forall` at a term

module _ (below : Below) (w : World) (env : Values) where
  abbrev Holds : Quantified → Type 0
  Holds q = (z : ℤ) → value w env (q.low) ≤ℤ z → z <ℤ value w env (q.high) → truth w (with_int env (q.name) z) (q.body) ≡ true

  at_term_true : (q : Quantified) → Holds q → (t : Tree) → is_integer (head_of t) ≡ true → may_replace (q.name) t (q.body) ≡ true → truth w env (at_term q t) ≡ true
  at_term_true q holds t integer may = elim (lt_or_le (value w env t) (value w env (q.low))) [
    | inl k ↦ first (int_lt (value w env t) (value w env (q.low))) _ (lt_so (value w env t) (value w env (q.low)) k)
    | inr k ↦ second (int_lt (value w env t) (value w env (q.low))) _ (elim (lt_or_le (value w env t) (value w env (q.high))) [
      | inl l ↦ second (int_le (value w env (q.high)) (value w env t)) _ (alone _ (
          ap is_so (below.replacing w (q.name) t (q.body) (λ e. below.integer_whole w e t integer) may env) ∙ holds (value w env t) k l))
      | inr l ↦ first (int_le (value w env (q.high)) (value w env t)) _ (le_so (value w env (q.high)) (value w env t) l)
    ])
  ]

  instance_true : (q : Quantified) → Holds q → (o : Option Tree) → ((t : Tree) → o ≡ Some t → is_integer (head_of t) ≡ true) → (f : Tree) → instance_at q o ≡ Some f → truth w env f ≡ true
  instance_true q holds None integer f e = absurd cc
  instance_true q holds (Some t) integer f e = go (may_replace (q.name) t (q.body)) refl e
    where
      go : (b : Bool) → may_replace (q.name) t (q.body) ≡ b → cond b (Some (at_term q t)) None ≡ Some f → truth w env f ≡ true
      go true k r = let same : at_term q t ≡ f = cc in ap (truth w env) (sym same) ∙ at_term_true q holds t (integer t refl) k
      go false k r = absurd cc

  where_true : (q : Quantified) → Holds q → (b : Bool) (may : ℤ → Bool) (t u f : Tree) → cond b (instance_at q (term_where may (q.name) t u)) None ≡ Some f → truth w env f ≡ true
  where_true q holds true may t u f e = instance_true q holds (term_where may (q.name) t u) (λ v k. term_integer may (q.name) t u v k) f e
  where_true q holds false may t u f e = absurd cc

  -- ---- candidates

  abbrev pub CandidatesTrue : List Candidate → Type 0
  CandidatesTrue [] = Unit {0}
  CandidatesTrue (c ∷ cs) = (truth w env (c.formula) ≡ true) × CandidatesTrue cs

  pub candidates_append : (cs ds : List Candidate) → CandidatesTrue cs → CandidatesTrue ds → CandidatesTrue (cs ++ ds)
  candidates_append [] ds a b = b
  candidates_append (c ∷ cs) ds a b = (a.0, candidates_append cs ds a.1 b)

  with_true : (o : Option Tree) → ((f : Tree) → o ≡ Some f → truth w env f ≡ true) → (us : List (Tree × Tree)) (cs : List Candidate) → CandidatesTrue cs → CandidatesTrue (with_instance o us cs)
  with_true None so us cs a = a
  with_true (Some f) so us cs a = (so f refl, a)

  module _ (q : Quantified) (holds : Holds q) where
    accesses_true : (a : Access) (cs : List Access) → CandidatesTrue (by_access q a cs)
    accesses_true a [] = tt
    accesses_true a (c ∷ cs) =
        with_true (instance_by_access q a c) (λ f e. where_true q holds (same_cell (a.kind) (c.kind)) is_nonzero (a.offset) (c.offset) f e) ((a.block, c.block) ∷ []) (by_access q a cs)
        (accesses_true a cs)

    calls_true : (a : Call) (cs : List Call) → CandidatesTrue (by_call q a cs)
    calls_true a [] = tt
    calls_true a (c ∷ cs) =
        with_true (instance_by_call q a c) (λ f e. where_true q holds (bytes_eq (a.name) (c.name)) is_one (a.number) (c.number) f e) [] (by_call q a cs) (calls_true a cs)

    if_access_true : (o : Option Access) (cs : List Access) → CandidatesTrue (if_access q o cs)
    if_access_true None cs = tt
    if_access_true (Some a) cs = accesses_true a cs

    if_call_true : (o : Option Call) (cs : List Call) → CandidatesTrue (if_call q o cs)
    if_call_true None cs = tt
    if_call_true (Some a) cs = calls_true a cs

    nodes_true : (fs : List Logic) (accesses : List Access) (calls : List Call) (ts : List Tree) → CandidatesTrue (by_nodes fs accesses calls q ts)
    nodes_true fs accesses calls [] = tt
    nodes_true fs accesses calls (t ∷ ts) =
        candidates_append (if_access q (access_at t) accesses) _ (if_access_true (access_at t) accesses)
        (candidates_append (if_call q (call_at fs t) calls) _ (if_call_true (call_at fs t) calls) (nodes_true fs accesses calls ts))

  literal_true : (fs : List Logic) (accesses : List Access) (calls : List Call) (l : Tree) → truth w env l ≡ true → CandidatesTrue (by_literal fs accesses calls (quantified_at l))
  literal_true fs accesses calls (node (h.Forall x) (more low (more high (more f stop)))) e =
      let q : Quantified = record { name = x; low = low; high = high; body = f } in
      nodes_true q (λ z l u. in_range (value w env low) (value w env high) z (λ y. truth w (with_int env x y) f) e l u) fs accesses calls (nodes_with x f)
  literal_true fs accesses calls l e = tt

  pub foralls_true : (fs : List Logic) (accesses : List Access) (calls : List Call) (ls : List Tree) → AreTrue w env ls → CandidatesTrue (forall_candidates fs accesses calls ls)
  foralls_true fs accesses calls [] a = tt
  foralls_true fs accesses calls (l ∷ ls) a =
      candidates_append (by_literal fs accesses calls (quantified_at l)) _ (literal_true fs accesses calls l a.0) (foralls_true fs accesses calls ls a.1)
