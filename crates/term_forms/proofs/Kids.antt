-- Terms as they are written, by the shapes of their kids.
use Rattle.std.proofs.Common.{◌≡◌, ◌≢◌, ℕ, zero, suc, ◌-◌, List, [], ◌∷◌, ◌++◌, map, length, get_or, take, append-nil, refl, sym, ◌∙◌, ap, arith}
use Rattle.std.specs.Prelude.{ℤ, pos, Some, None}
use Rattle.std.proofs.lemmas.List.{map_push}
use Rattle.qed_terms.specs.Tree.{Tree}
use Rattle.qed_linear.specs.Linear.{lin}
use Rattle.same_places.specs.Same as places
use Rattle.same_terms.specs.Stands.{tree_part}
use Rattle.same_terms.specs.Written.{number_in, written_part, last_part, last_number, parts_in, constant_in}
use Rattle.term_forms.specs.declared.forms.Form.{Form}
use Rattle.term_forms.specs.Forms.{lin_of}

-- ---- all terms but the last, and the last

pub parts_ended : (ts : List Tree) (t : Tree) → parts_in (ts ++ t ∷ []) ≡ map written_part ts ++ last_part (number_in t) t
parts_ended [] t = refl
parts_ended (u ∷ []) t = refl
parts_ended (u ∷ v ∷ ts) t = ap (λ ps. written_part u ∷ ps) (parts_ended (v ∷ ts) t)

pub constant_ended : (ts : List Tree) (t : Tree) → constant_in (ts ++ t ∷ []) ≡ last_number (number_in t)
constant_ended [] t = refl
constant_ended (u ∷ []) t = refl
constant_ended (u ∷ v ∷ ts) t = constant_ended (v ∷ ts) t

pub last_apart : (tree : ℕ → Tree) (ks : List ℕ) (n : ℕ) → length ks ≡ suc n → map tree ks ≡ map tree (take n ks) ++ tree (get_or ks n 0) ∷ []
last_apart tree [] n e = absurd (omega arith)
last_apart tree (k ∷ []) zero e = refl
last_apart tree (k ∷ l ∷ ks) zero e = absurd (omega arith)
last_apart tree (k ∷ []) (suc n) e = absurd (omega arith)
last_apart tree (k ∷ l ∷ ks) (suc n) e = ap (λ ts. tree k ∷ ts) (last_apart tree (l ∷ ks) n (omega arith))

-- a form of parts and a constant is what the terms are
module _ (tree : ℕ → Tree) (ks : List ℕ) (parts : List places.Part) (some : length ks ≢ 0) (front : map (tree_part tree) parts ≡ map written_part (map tree (take (length ks - 1) ks))) where
  apart : map tree ks ≡ map tree (take (length ks - 1) ks) ++ tree (get_or ks (length ks - 1) 0) ∷ []
  apart = last_apart tree ks (length ks - 1) (omega arith)

  pub ends_in_number : (z : ℤ) (form : Form) → number_in (tree (get_or ks (length ks - 1) 0)) ≡ Some z → form.parts.items ≡ parts → form.constant ≡ z → lin_of tree form ≡ lin (parts_in (map tree ks)) (constant_in (map tree ks))
  ends_in_number z form number e d =
      let ts = map tree (take (length ks - 1) ks) in
      let t = tree (get_or ks (length ks - 1) 0) in
      let a : map (tree_part tree) (form.parts.items) ≡ parts_in (map tree ks) = ap (map (tree_part tree)) e ∙ front ∙ sym (ap parts_in apart ∙ parts_ended ts t ∙ ap (λ o. map written_part ts ++ last_part o t) number ∙ append-nil (map written_part ts)) in
      let b : form.constant ≡ constant_in (map tree ks) = d ∙ sym (ap constant_in apart ∙ constant_ended ts t ∙ ap last_number number) in
      λ i. lin (a i) (b i)

  pub ends_in_part : (p : places.Part) (form : Form) → number_in (tree (get_or ks (length ks - 1) 0)) ≡ None → tree_part tree p ≡ written_part (tree (get_or ks (length ks - 1) 0)) → form.parts.items ≡ parts ++ p ∷ [] → form.constant ≡ pos 0 → lin_of tree form ≡ lin (parts_in (map tree ks)) (constant_in (map tree ks))
  ends_in_part p form number part e d =
      let ts = map tree (take (length ks - 1) ks) in
      let t = tree (get_or ks (length ks - 1) 0) in
      let a : map (tree_part tree) (form.parts.items) ≡ parts_in (map tree ks) = ap (map (tree_part tree)) e ∙ map_push (tree_part tree) parts p ∙ (λ i. front i ++ part i ∷ []) ∙ sym (ap parts_in apart ∙ parts_ended ts t ∙ ap (λ o. map written_part ts ++ last_part o t) number) in
      let b : form.constant ≡ constant_in (map tree ks) = d ∙ sym (ap constant_in apart ∙ constant_ended ts t ∙ ap last_number number) in
      λ i. lin (a i) (b i)
