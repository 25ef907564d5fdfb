-- The guards that are picked are those by the rules.
use Rattle.std.proofs.Common.{◌≡◌, ℕ, zero, suc, ◌-◌, ◌<◌, ◌≤◌, Bool, true, false, not, ◌&&◌, ◌==◌, List, [], ◌∷◌, length, Option, Some, None, option_map, refl, sym, ap, subst, ◌∙◌, arith, ⊎_elim, inl, inr, if◌then◌else◌}
use Rattle.std.specs.Prelude.{nat_le}
use Rattle.std.specs.List.{list_all, list_any, slice_get}
use Rattle.std.specs.Str.{bytes_eq}
use Rattle.std.proofs.lemmas.Bool.{and_from, and_parts, both_ways, eq-eqb, eqb-true, false≢true, le-leb, leb-true, not-true, not_from_false, or_cases, or_left, or_right, true≢false}
use Rattle.std.proofs.lemmas.Option.{none-some, same_Some, slice_get-map}
use Rattle.c_syntax.specs.declared.expr.BinOp.{BinOp}
use Rattle.c_syntax.specs.Expr as e
use Rattle.c_syntax.specs.Term as t
use Rattle.c_syntax.specs.Pred as p
use Rattle.acsl_guards.specs.Mentions.{Names, holds_one, is_among, is_name, is_one_of, names_of}
use Rattle.acsl_guards.specs.Chains.{between, end_holds, ends_free, falls, from_first, has_form, is_guard, one_way, rises, stands_in}
use Rattle.acsl_guards.specs.Guarding.{candidates, first_with, guard_for, guard_of, guarding, is_integer}
use Rattle.acsl_guards.specs.Rules.{GuardsAreFirst, GuardsAt, IsBinder, IsEnd, IsFirst, IsGuard, IsGuardOf, IsIn}
use Rattle.acsl_guards.specs.declared.ranges.Guard.{Guard}
use Rattle.acsl_guards.proofs.Holding.{bytes_same, name_is, none_held, not_mentioned, one_of_is, same_bytes}
use Rattle.acsl_guards.proofs.Picking.{Found, Gives, found, none_found}

-- ---- tests of lists

module _ {X : Type 0} (q : X → Bool) where
  pub any_in : (xs : List X) → list_any q xs ≡ true → (a : X) × IsIn a xs × (q a ≡ true)
  any_in [] h = absurd (false≢true h)
  any_in (x ∷ xs) h =
      ⊎_elim (λ f. (x, (0, refl), f)) (λ r. let m = any_in xs r in (m.0, (suc m.1.0, m.1.1), m.2)) (or_cases (q x) (list_any q xs) h)

  pub in_any : (xs : List X) (a : X) (i : ℕ) → slice_get xs i ≡ Some a → q a ≡ true → list_any q xs ≡ true
  in_any [] a i is so = absurd (none-some a is)
  in_any (x ∷ xs) a zero is so = or_left (q x) (list_any q xs) (ap q (same_Some x a is) ∙ so)
  in_any (x ∷ xs) a (suc i) is so = or_right (q x) (list_any q xs) (in_any xs a i is so)

  pub all_in : (xs : List X) → list_all q xs ≡ true → (a : X) (i : ℕ) → slice_get xs i ≡ Some a → q a ≡ true
  all_in [] h a i is = absurd (none-some a is)
  all_in (x ∷ xs) h a zero is = ap q (sym (same_Some x a is)) ∙ (and_parts (q x) (list_all q xs) h).0
  all_in (x ∷ xs) h a (suc i) is = all_in xs (and_parts (q x) (list_all q xs) h).1 a i is

  pub all_from : (xs : List X) → ((a : X) → IsIn a xs → q a ≡ true) → list_all q xs ≡ true
  all_from [] h = refl
  all_from (x ∷ xs) h = and_from (q x) (list_all q xs) (h x (0, refl)) (all_from xs (λ a i. h a (suc i.0, i.1)))

pub among_in : (xs : Names) (x : List ℕ) → is_among xs x ≡ true → IsIn x xs
among_in xs x h = let m = any_in (bytes_eq x) xs h in (m.1.0, m.1.1 ∙ ap (λ y. Some y) (sym (bytes_same x m.0 m.2)))

pub in_among : (xs : Names) (x : List ℕ) (i : ℕ) → slice_get xs i ≡ Some x → is_among xs x ≡ true
in_among xs x i is = in_any (bytes_eq x) xs x i is (same_bytes x)

stands : (x : List ℕ) (ts : List t.Term) → stands_in x ts ≡ true → (line : ℕ) × IsIn (t.name line x) ts
stands x ts h =
    let m = any_in (is_name x) ts h in
    let n = name_is x m.0 m.2 in
    (n.0, (m.1.0, m.1.1 ∙ ap (λ a. Some a) n.1))

standing : (x : List ℕ) (ts : List t.Term) (line i : ℕ) → slice_get ts i ≡ Some (t.name line x) → stands_in x ts ≡ true
standing x ts line i is = in_any (is_name x) ts (t.name line x) i is (same_bytes x)

-- ---- the binders from the first on

pub behind_among : (ts : List t.Term) (bs : Names) (i j : ℕ) (x y : List ℕ) → i ≤ j → slice_get bs i ≡ Some x → slice_get bs j ≡ Some y → stands_in x ts ≡ true
    → is_among (from_first ts bs) y ≡ true
behind_among ts [] i j x y le a b h = absurd (none-some x a)
behind_among ts (z ∷ bs) i j x y le a b h = go (stands_in z ts) refl i j le a b (λ i j le a b. behind_among ts bs i j x y le a b h)
  where
    go : (c : Bool) → stands_in z ts ≡ c → (i j : ℕ) → i ≤ j → slice_get (z ∷ bs) i ≡ Some x → slice_get (z ∷ bs) j ≡ Some y
        → ((i j : ℕ) → i ≤ j → slice_get bs i ≡ Some x → slice_get bs j ≡ Some y → is_among (from_first ts bs) y ≡ true) → is_among (if c then z ∷ bs else from_first ts bs) y ≡ true
    go true e i j le a b more = in_among (z ∷ bs) y j b
    go false e zero j le a b more = absurd (both_ways (stands_in z ts) e (ap (λ x. stands_in x ts) (same_Some z x a) ∙ h))
    go false e (suc i) zero le a b more = absurd (omega (arith, le))
    go false e (suc i) (suc j) le a b more = more i j (omega (arith, le)) a b

-- a binder behind one that stands between the ends, or it itself
abbrev Behind : List t.Term → Names → List ℕ → Type 0
Behind ts bs y = (i : ℕ) × (j : ℕ) × (x : List ℕ) × (i ≤ j) × (slice_get bs i ≡ Some x) × (slice_get bs j ≡ Some y) × (stands_in x ts ≡ true)

among_behind : (ts : List t.Term) (bs : Names) (y : List ℕ) → is_among (from_first ts bs) y ≡ true → Behind ts bs y
among_behind ts [] y h = absurd (false≢true h)
among_behind ts (z ∷ bs) y h = go (stands_in z ts) refl h (among_behind ts bs y)
  where
    go : (c : Bool) → stands_in z ts ≡ c → is_among (if c then z ∷ bs else from_first ts bs) y ≡ true → (is_among (from_first ts bs) y ≡ true → Behind ts bs y) → Behind ts (z ∷ bs) y
    go true e h more = let m = among_in (z ∷ bs) y h in (0, m.0, z, omega arith, refl, m.1, e)
    go false e h more = let m = more h in (suc m.0, suc m.1, m.2, omega (arith, m.3), m.4, m.5, m.6)

-- ---- ends

pub end_free : (xs : Names) (ts : List t.Term) → ends_free xs ts ≡ true → (a : t.Term) → IsEnd a ts → holds_one xs a ≡ false
end_free xs ts h a i =
    let k = and_parts (not (end_holds xs (slice_get ts 0))) (not (end_holds xs (slice_get ts (length ts - 1)))) h in
    ⊎_elim
    (λ is. ap (end_holds xs) (sym is) ∙ not-true (end_holds xs (slice_get ts 0)) k.0)
    (λ is. ap (end_holds xs) (sym is) ∙ not-true (end_holds xs (slice_get ts (length ts - 1))) k.1) i

free_ends : (xs : Names) (ts : List t.Term) → ((a : t.Term) → IsEnd a ts → holds_one xs a ≡ false) → ends_free xs ts ≡ true
free_ends xs ts h =
    and_from (not (end_holds xs (slice_get ts 0))) (not (end_holds xs (slice_get ts (length ts - 1))))
    (not_from_false (end_holds xs (slice_get ts 0)) (go (slice_get ts 0) (λ a is. h a (inl is))))
    (not_from_false (end_holds xs (slice_get ts (length ts - 1))) (go (slice_get ts (length ts - 1)) (λ a is. h a (inr is))))
  where
    go : (o : Option t.Term) → ((a : t.Term) → o ≡ Some a → holds_one xs a ≡ false) → end_holds xs o ≡ false
    go None h = refl
    go (Some a) h = h a refl

-- ---- guards

pub record Form (bs : Names) (ts : List t.Term) (os : List BinOp) : Type 0 where
  pub long : nat_le 3 (length ts) ≡ true
  pub fits : (length ts == suc (length os)) ≡ true
  pub goes : one_way os ≡ true
  pub inside : list_all (is_one_of bs) (between ts) ≡ true
  pub free : ends_free (from_first (between ts) bs) ts ≡ true

pub form_of : (bs : Names) (ts : List t.Term) (os : List BinOp) → is_guard bs ts os ≡ true → Form bs ts os
form_of bs ts os h =
    let free = from_first (between ts) bs in
    let all_inside = list_all (is_one_of bs) (between ts) in
    let a = and_parts (has_form bs ts os) (ends_free free ts) h in
    let b = and_parts (nat_le 3 (length ts)) ((length ts == suc (length os)) && (one_way os && all_inside)) a.0 in
    let c = and_parts (length ts == suc (length os)) (one_way os && all_inside) b.1 in
    let d = and_parts (one_way os) all_inside c.1 in
    record { long = b.0; fits = c.0; goes = d.0; inside = d.1; free = a.1 }

ruled : (bs : Names) (ts : List t.Term) (os : List BinOp) → is_guard bs ts os ≡ true → IsGuard bs ts os
ruled bs ts os h =
    let f = form_of bs ts os h in
    record {
      long = leb-true 3 (length ts) f.long;
      fits = eqb-true (length ts) (suc (length os)) f.fits;
      one_way = ⊎_elim (λ r. inl (λ o i. all_in rises os r o i.0 i.1)) (λ r. inr (λ o i. all_in falls os r o i.0 i.1)) (or_cases (list_all rises os) (list_all falls os) f.goes);
      inside = λ a i. let n = one_of_is bs a (all_in (is_one_of bs) (between ts) f.inside a i.0 i.1) in (n.0, n.1, n.2, among_in bs n.1 n.3);
      free = λ i j x y le xi yj s a is_end.
          not_mentioned (from_first (between ts) bs) y a (end_free (from_first (between ts) bs) ts f.free a is_end)
          (behind_among (between ts) bs i j x y le xi yj (standing x (between ts) s.0 s.1.0 s.1.1));
    }

one_of : (bs : Names) (a : t.Term) → IsBinder bs a → is_one_of bs a ≡ true
one_of bs a b = ap (is_one_of bs) b.2 ∙ in_among bs b.1 b.3.0 b.3.1

tested : (bs : Names) (ts : List t.Term) (os : List BinOp) → IsGuard bs ts os → is_guard bs ts os ≡ true
tested bs ts os g =
    let free = from_first (between ts) bs in
    let all_inside = list_all (is_one_of bs) (between ts) in
    let goes : one_way os ≡ true =
    ⊎_elim (λ r. or_left (list_all rises os) (list_all falls os) (all_from rises os (λ o i. r o i)))
    (λ r. or_right (list_all rises os) (list_all falls os) (all_from falls os (λ o i. r o i))) g.one_way in
    let inside : all_inside ≡ true = all_from (is_one_of bs) (between ts) (λ a i. one_of bs a (g.inside a i)) in
    let ends : ends_free free ts ≡ true =
    free_ends free ts (λ a is_end. none_held free a (λ y h.
    let b = among_behind (between ts) bs y h in
    g.free b.0 b.1 b.2 y b.3 b.4 b.5 (stands b.2 (between ts) b.6) a is_end)) in
    and_from (has_form bs ts os) (ends_free free ts)
    (and_from (nat_le 3 (length ts)) ((length ts == suc (length os)) && (one_way os && all_inside)) (le-leb 3 (length ts) g.long)
    (and_from (length ts == suc (length os)) (one_way os && all_inside) (eq-eqb (length ts) (suc (length os)) g.fits) (and_from (one_way os) all_inside goes inside)))
    ends

gives_at : (bs : Names) (x : List ℕ) (cs : List p.Pred) (n : ℕ) (g : GuardsAt bs x cs n) → Gives bs x (g.terms, g.ops)
gives_at bs x cs n g = (tested bs g.terms g.ops g.guards, standing x (between g.terms) g.stands.0 g.stands.1.0 g.stands.1.1)

-- ---- the law

is_first : (bs : Names) (x : List ℕ) (cs : List p.Pred) (g : Guard) → Found bs x 0 cs g → IsFirst bs x cs g
is_first bs x cs g f =
    let place : g.conjunct ≡ f.at = ap (λ g. g.conjunct) f.told ∙ omega arith in
    record {
      at = record {
        line = f.line;
        terms = f.chain.0;
        ops = f.chain.1;
        is = ap (slice_get cs) place ∙ f.is;
        guards = ruled bs f.chain.0 f.chain.1 f.gives.0;
        stands = stands x (between f.chain.0) f.gives.1;
      };
      told = f.told ∙ ap (λ k. guard_of k f.chain.0 f.chain.1) (omega arith ∙ sym place);
      first = λ n le k. f.first n (subst (λ m. n < m) place le) k.line (k.terms, k.ops) k.is (gives_at bs x cs n k);
    }

is_integer_is : (c : e.CType) → is_integer c ≡ true → c ≡ e.integer
is_integer_is e.integer h = refl
is_integer_is e.void h = absurd (false≢true h)
is_integer_is (e.kind k) h = absurd (false≢true h)
is_integer_is (e.struct_of x) h = absurd (false≢true h)
is_integer_is (e.enum_of x) h = absurd (false≢true h)
is_integer_is (e.named x) h = absurd (false≢true h)
is_integer_is (e.pointer to) h = absurd (false≢true h)
is_integer_is (e.array of length) h = absurd (false≢true h)
is_integer_is (e.constant of) h = absurd (false≢true h)

picked : (bs : Names) (b : e.VarDecl) (cs : List p.Pred) (o : Option Guard) → guard_for (candidates bs 0 cs) b ≡ o → IsGuardOf bs b cs o
picked bs b cs o h = go (is_integer b.ty) refl o h
  where
    go : (i : Bool) → is_integer b.ty ≡ i → (o : Option Guard) → (if i then first_with b.name (candidates bs 0 cs) else None) ≡ o → IsGuardOf bs b cs o
    go true e (Some g) h = (is_integer_is b.ty e, is_first bs b.name cs g (found bs b.name 0 cs g h))
    go true e None h = λ type n k. none_found bs b.name 0 cs h n k.line (k.terms, k.ops) k.is (gives_at bs b.name cs n k)
    go false e (Some g) h = absurd (none-some g h)
    go false e None h = λ type n k. absurd (true≢false (sym (ap is_integer type) ∙ e))

pub guards_are_first : GuardsAreFirst
guards_are_first for_all bs body i b o at got =
    picked (names_of bs) b (guarding for_all body) o
    (same_Some (guard_for (candidates (names_of bs) 0 (guarding for_all body)) b) o
    (ap (option_map (guard_for (candidates (names_of bs) 0 (guarding for_all body)))) (sym at) ∙ sym (slice_get-map (guard_for (candidates (names_of bs) 0 (guarding for_all body))) bs i) ∙ got))
