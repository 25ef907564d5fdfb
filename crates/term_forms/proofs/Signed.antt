-- Parts that are turned or stay as they are, and whether they fit.
use Rattle.std.proofs.Common.{◌≡◌, ℕ, zero, suc, ◌+◌, ◌<◌, ◌≤◌, ◌&&◌, Bool, true, false, List, [], ◌∷◌, ◌++◌, map, length, get_or, take, drop, length-drop, ◌-◌, append_assoc, refl, sym, ◌∙◌, ap, subst, arith, FitsSigned, lt-ltb, ltb-true}
use Rattle.std.specs.Prelude.{ℤ, pos, negsuc, neg_ℤ, ◌^◌, Option, Some, None, SomeIff, MatchOption, if◌then◌else◌}
use Rattle.std.specs.Int.{w128}
use Rattle.std.proofs.lemmas.List.{map_push, take_more}
use Rattle.std.proofs.lemmas.List.Elements.{All-cons, All-append}
use Rattle.qed_terms.specs.Tree.{Tree, head_of}
use Rattle.qed_linear.specs.Linear.{Part, part, lin, fits, is_integer, parts_fit, checked}
use Rattle.same_places.specs.Same as places
use Rattle.same_terms.specs.Stands.{tree_part, tree_parts}
use Rattle.same_terms.specs.Written.{rest_form}
use Rattle.term_forms.specs.Forms.{signed, signed_number}

-- ---- numbers

pub fits_from : (z : ℤ) → FitsSigned w128 z → fits z ≡ true
unfolding fits
fits_from (pos n) f = lt-ltb n (2 ^ 127) f.sfits
fits_from (negsuc n) f = lt-ltb n (2 ^ 127) f.sfits

pub fits_back : (z : ℤ) → fits z ≡ true → FitsSigned w128 z
unfolding fits
fits_back (pos n) k = record { sfits = ltb-true n (2 ^ 127) k }
fits_back (negsuc n) k = record { sfits = ltb-true n (2 ^ 127) k }

unfit : (z : ℤ) → (FitsSigned w128 z → ⊥) → fits z ≡ false
unfit z f = go (fits z) refl
  where
    go : (b : Bool) → fits z ≡ b → b ≡ false
    go true e = absurd (f (fits_back z e))
    go false e = refl

pub told_fit : (z : ℤ) (r : Option ℤ) → SomeIff r (FitsSigned w128 z) z → MatchOption r (fits z ≡ false) (λ y. (y ≡ z) × (fits y ≡ true))
told_fit z None h = unfit z h
told_fit z (Some y) h = (h.1, ap fits h.1 ∙ fits_from z h.0)

-- ---- a part

and_false : (a : Bool) → (a && false) ≡ false
and_false true = refl
and_false false = refl

pub not_whole : (plus : Bool) (p : Part) → is_integer (head_of (p.atom)) ≡ false → parts_fit (signed plus p ∷ []) ≡ false
not_whole true p e = ap (λ b. (fits (neg_ℤ (p.times)) && b) && true) e ∙ ap (λ b. b && true) (and_false (fits (neg_ℤ (p.times))))
not_whole false p e = ap (λ b. (fits (p.times) && b) && true) e ∙ ap (λ b. b && true) (and_false (fits (p.times)))

pub too_wide : (plus : Bool) (p : Part) → fits (signed_number plus (p.times)) ≡ false → parts_fit (signed plus p ∷ []) ≡ false
too_wide true p e = ap (λ b. (b && is_integer (head_of (p.atom))) && true) e
too_wide false p e = ap (λ b. (b && is_integer (head_of (p.atom))) && true) e

pub signed_is : (tree : ℕ → Tree) (plus : Bool) (p q : places.Part) (times : ℤ) → q ≡ (p.0, times) → times ≡ signed_number plus (p.1) → tree_part tree q ≡ signed plus (tree_part tree p)
signed_is tree true p q times e d = (λ i. tree_part tree (e i)) ∙ ap (part (tree (p.0))) d
signed_is tree false p q times e d = (λ i. tree_part tree (e i)) ∙ ap (part (tree (p.0))) d

pub fit_one : (tree : ℕ → Tree) (p q : places.Part) (times : ℤ) → q ≡ (p.0, times) → fits times ≡ true → is_integer (head_of (tree (p.0))) ≡ true → parts_fit (tree_part tree q ∷ []) ≡ true
fit_one tree p q times e f w = (λ i. parts_fit (tree_part tree (e i) ∷ [])) ∙ (λ i. (f i && w i) && true)

-- ---- several parts

and_on : (a b c : Bool) → (a && (b && c)) ≡ ((a && b) && c)
and_on true b c = refl
and_on false b c = refl

pub fit_append : (ps qs : List Part) → parts_fit (ps ++ qs) ≡ (parts_fit ps && parts_fit qs)
fit_append [] qs = refl
fit_append (p ∷ ps) qs = ap (λ b. (fits (p.times) && is_integer (head_of (p.atom))) && b) (fit_append ps qs) ∙ and_on (fits (p.times) && is_integer (head_of (p.atom))) (parts_fit ps) (parts_fit qs)

module _ (tree : ℕ → Tree) (plus : Bool) where
  abbrev pub all_signed : List places.Part → List Part
  all_signed ps = map (signed plus) (tree_parts tree ps)

  pub signed_append : (ps qs : List places.Part) → all_signed (ps ++ qs) ≡ all_signed ps ++ all_signed qs
  signed_append [] qs = refl
  signed_append (p ∷ ps) qs = ap (λ xs. signed plus (tree_part tree p) ∷ xs) (signed_append ps qs)

  pub signed_more : (ps : List places.Part) (k : ℕ) → k < length ps → all_signed (take (k + 1) ps) ≡ all_signed (take k ps) ++ signed plus (tree_part tree (get_or ps k (0, pos 0))) ∷ []
  signed_more ps k l = ap all_signed (take_more ps k (0, pos 0) l) ∙ signed_append (take k ps) (get_or ps k (0, pos 0) ∷ [])

  pub unfit_at : (ps : List places.Part) (k : ℕ) → k < length ps → parts_fit (signed plus (tree_part tree (get_or ps k (0, pos 0))) ∷ []) ≡ false → parts_fit (all_signed ps) ≡ false
  unfit_at [] k l e = absurd (omega arith)
  unfit_at (p ∷ ps) zero l e = fit_append (signed plus (tree_part tree p) ∷ []) (all_signed ps) ∙ ap (λ b. b && parts_fit (all_signed ps)) e
  unfit_at (p ∷ ps) (suc k) l e = fit_append (signed plus (tree_part tree p) ∷ []) (all_signed ps) ∙ ap (λ b. parts_fit (signed plus (tree_part tree p) ∷ []) && b) (unfit_at ps k (omega arith) e) ∙ and_false (parts_fit (signed plus (tree_part tree p) ∷ []))

-- ---- the whole rest

rest_parts : (plus : Bool) (ps : List Part) (c : ℤ) → rest_form plus ps c ≡ lin (map (signed plus) ps) (signed_number plus c)
rest_parts true ps c = refl
rest_parts false [] c = refl
rest_parts false (p ∷ ps) c = ap (λ f. lin (p ∷ f.parts) c) (rest_parts false ps c)

pub checked_none : (plus : Bool) (ps : List Part) (c : ℤ) → (parts_fit (map (signed plus) ps) && fits (signed_number plus c)) ≡ false → checked (rest_form plus ps c) ≡ None
checked_none plus ps c e = ap checked (rest_parts plus ps c) ∙ ap (λ b. if b then Some (lin (map (signed plus) ps) (signed_number plus c)) else None) e

pub checked_some : (plus : Bool) (ps : List Part) (c : ℤ) → (parts_fit (map (signed plus) ps) && fits (signed_number plus c)) ≡ true → checked (rest_form plus ps c) ≡ Some (lin (map (signed plus) ps) (signed_number plus c))
checked_some plus ps c e = ap checked (rest_parts plus ps c) ∙ ap (λ b. if b then Some (lin (map (signed plus) ps) (signed_number plus c)) else None) e

-- ---- one part more

pub put_more : (tree : ℕ → Tree) (plus : Bool) (count : ℕ) (ps start done done' : List places.Part) (k : ℕ) (q : places.Part) → k < length ps → done' ≡ done ++ q ∷ [] →
    tree_parts tree done ≡ tree_parts tree start ++ all_signed tree plus (take k ps) → tree_part tree q ≡ signed plus (tree_part tree (get_or ps k (0, pos 0))) → tree_parts tree done' ≡ tree_parts tree start ++ all_signed tree plus (take (k + 1) ps)
put_more tree plus count ps start done done' k q l push so_far is =
    ap (tree_parts tree) push ∙ map_push (tree_part tree) done q ∙ (λ i. so_far i ++ is i ∷ []) ∙ append_assoc (tree_parts tree start) (all_signed tree plus (take k ps)) (signed plus (tree_part tree (get_or ps k (0, pos 0))) ∷ []) ∙ ap (λ xs. tree_parts tree start ++ xs) (sym (signed_more tree plus ps k l))

pub fit_more : (tree : ℕ → Tree) (plus : Bool) (ps : List places.Part) (k : ℕ) (q : places.Part) → k < length ps → parts_fit (all_signed tree plus (take k ps)) ≡ true → tree_part tree q ≡ signed plus (tree_part tree (get_or ps k (0, pos 0))) → parts_fit (tree_part tree q ∷ []) ≡ true → parts_fit (all_signed tree plus (take (k + 1) ps)) ≡ true
fit_more tree plus ps k q l so_far is fit =
    ap parts_fit (signed_more tree plus ps k l) ∙ fit_append (all_signed tree plus (take k ps)) (signed plus (tree_part tree (get_or ps k (0, pos 0))) ∷ []) ∙ (λ i. so_far i && (sym (ap (λ p. parts_fit (p ∷ [])) is) ∙ fit) i)

pub within_more : (count : ℕ) (done done' : List places.Part) (q : places.Part) → done' ≡ done ++ q ∷ [] → q.0 < count → places.PartsWithin count done → places.PartsWithin count done'
within_more count done done' q push l within = subst (places.PartsWithin count) (sym push) (All-append (λ p. p.0 < count) done (q ∷ []) within (All-cons (λ p. p.0 < count) q [] l (λ k d m. absurd (omega arith))))

-- ---- both sides of a part

module _ (tree : ℕ → Tree) (plus : Bool) (count : ℕ) (before behind : List places.Part) (c : ℤ) where
  both : tree_parts tree (before ++ behind) ≡ tree_parts tree before ++ tree_parts tree behind
  both = go before
    where
      go : (ps : List places.Part) → tree_parts tree (ps ++ behind) ≡ tree_parts tree ps ++ tree_parts tree behind
      go [] = refl
      go (p ∷ ps) = ap (λ xs. tree_part tree p ∷ xs) (go ps)

  fit_both : parts_fit (map (signed plus) (tree_parts tree (before ++ behind))) ≡ (parts_fit (all_signed tree plus before) && parts_fit (all_signed tree plus behind))
  fit_both = ap parts_fit (signed_append tree plus before behind) ∙ fit_append (all_signed tree plus before) (all_signed tree plus behind)

  pub none_before : parts_fit (all_signed tree plus before) ≡ false → checked (rest_form plus (tree_parts tree (before ++ behind)) c) ≡ None
  none_before e = checked_none plus (tree_parts tree (before ++ behind)) c (ap (λ b. b && fits (signed_number plus c)) (fit_both ∙ ap (λ b. b && parts_fit (all_signed tree plus behind)) e))

  pub none_behind : parts_fit (all_signed tree plus behind) ≡ false → checked (rest_form plus (tree_parts tree (before ++ behind)) c) ≡ None
  none_behind e =
      checked_none plus (tree_parts tree (before ++ behind)) c (ap (λ b. b && fits (signed_number plus c)) (fit_both ∙ ap (λ b. parts_fit (all_signed tree plus before) && b) e ∙ and_false (parts_fit (all_signed tree plus before))))

  pub none_constant : fits (signed_number plus c) ≡ false → checked (rest_form plus (tree_parts tree (before ++ behind)) c) ≡ None
  none_constant e =
      checked_none plus (tree_parts tree (before ++ behind)) c (ap (λ b. parts_fit (map (signed plus) (tree_parts tree (before ++ behind))) && b) e ∙ and_false (parts_fit (map (signed plus) (tree_parts tree (before ++ behind)))))

  pub some_rest : parts_fit (all_signed tree plus before) ≡ true → parts_fit (all_signed tree plus behind) ≡ true → (made : List places.Part) (z : ℤ) → tree_parts tree made ≡ all_signed tree plus before ++ all_signed tree plus behind → z ≡ signed_number plus c → fits z ≡ true →
      checked (rest_form plus (tree_parts tree (before ++ behind)) c) ≡ Some (lin (tree_parts tree made) z)
  some_rest a b made z e d f =
      checked_some plus (tree_parts tree (before ++ behind)) c (λ i. (fit_both ∙ (λ j. a j && b j)) i && (ap fits (sym d) ∙ f) i) ∙ (λ i. Some (lin ((signed_append tree plus before behind ∙ sym e) i) (sym d i)))

pub whole_rest : {A : Type 0} (xs : List A) (n : ℕ) → take (length xs - n) (drop n xs) ≡ drop n xs
whole_rest xs n = let l = length-drop n xs in take_whole (drop n xs) (length xs - n) (omega arith)
  where
    take_whole : {A : Type 0} (xs : List A) (n : ℕ) → length xs ≤ n → take n xs ≡ xs
    take_whole [] zero l = refl
    take_whole [] (suc n) l = refl
    take_whole (x ∷ xs) zero l = absurd (omega arith)
    take_whole (x ∷ xs) (suc n) l = ap (λ z. x ∷ z) (take_whole xs n (omega arith))

pub behind_none : (count : ℕ) → places.PartsWithin count []
behind_none count k d l = absurd (omega arith)
