-- Terms as they are written: all but the last, and the last.
use Rattle.std.proofs.Common.{◌≡◌, ◌≢◌, ℕ, zero, suc, ◌-◌, List, [], ◌∷◌, ◌++◌, map, length, get_or, take, append-nil, sym, ◌∙◌, ap, arith}
use Rattle.std.specs.Prelude.{ℤ, pos, Some, None}
use Rattle.std.proofs.lemmas.List.{map_push}
use Rattle.qed_terms.specs.Tree.{Tree}
use Rattle.qed_linear.specs.Linear.{lin}
use Rattle.same_terms.specs.Written.{number_in, written_part, last_part, last_number, parts_in, constant_in}
use Rattle.term_forms.proofs.Kids.{parts_ended, constant_ended}
use Rattle.equality_variables.specs.declared.forms.IdForm.{IdForm}
use Rattle.equality_variables.specs.Forms.{part_of, parts_of, lin_of}

last_apart : {Id : Type 0} (tree : Id → Tree) (ids : List Id) (n : ℕ) (id : Id) → length ids ≡ suc n → id ≡ get_or ids n id → map tree ids ≡ map tree (take n ids) ++ tree id ∷ []
last_apart tree [] n id e is = absurd (omega arith)
last_apart tree (k ∷ []) zero id e is = ap (λ x. tree x ∷ []) (sym is)
last_apart tree (k ∷ l ∷ ids) zero id e is = absurd (omega arith)
last_apart tree (k ∷ []) (suc n) id e is = absurd (omega arith)
last_apart tree (k ∷ l ∷ ids) (suc n) id e is = ap (λ ts. tree k ∷ ts) (last_apart tree (l ∷ ids) n id (omega arith) is)

module _ {Id : Type 0} (tree : Id → Tree) (ids : List Id) (last : Id) (parts : List (Id × ℤ)) (some : length ids ≢ 0) (is : last ≡ get_or ids (length ids - 1) last) (front : parts_of tree parts ≡ map written_part (map tree (take (length ids - 1) ids))) where
  apart : map tree ids ≡ map tree (take (length ids - 1) ids) ++ tree last ∷ []
  apart = last_apart tree ids (length ids - 1) last (omega arith) is

  pub ends_in_number : (z : ℤ) (form : IdForm Id) → number_in (tree last) ≡ Some z → form.parts.items ≡ parts → form.constant ≡ z → lin_of tree form ≡ lin (parts_in (map tree ids)) (constant_in (map tree ids))
  ends_in_number z form number e d =
      let ts = map tree (take (length ids - 1) ids) in
      let t = tree last in
      let a : parts_of tree (form.parts.items) ≡ parts_in (map tree ids) = ap (parts_of tree) e ∙ front ∙ sym (ap parts_in apart ∙ parts_ended ts t ∙ ap (λ o. map written_part ts ++ last_part o t) number ∙ append-nil (map written_part ts)) in
      let b : form.constant ≡ constant_in (map tree ids) = d ∙ sym (ap constant_in apart ∙ constant_ended ts t ∙ ap last_number number) in
      λ i. lin (a i) (b i)

  pub ends_in_part : (p : Id × ℤ) (form : IdForm Id) → number_in (tree last) ≡ None → part_of tree p ≡ written_part (tree last) → form.parts.items ≡ parts ++ p ∷ [] → form.constant ≡ pos 0 → lin_of tree form ≡ lin (parts_in (map tree ids)) (constant_in (map tree ids))
  ends_in_part p form number part e d =
      let ts = map tree (take (length ids - 1) ids) in
      let t = tree last in
      let a : parts_of tree (form.parts.items) ≡ parts_in (map tree ids) = ap (parts_of tree) e ∙ map_push (part_of tree) parts p ∙ (λ i. front i ++ part i ∷ []) ∙ sym (ap parts_in apart ∙ parts_ended ts t ∙ ap (λ o. map written_part ts ++ last_part o t) number) in
      let b : form.constant ≡ constant_in (map tree ids) = d ∙ sym (ap constant_in apart ∙ constant_ended ts t ∙ ap last_number number) in
      λ i. lin (a i) (b i)
