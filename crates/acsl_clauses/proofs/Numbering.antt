-- Numbers of behaviors, one after another.
use Rattle.std.proofs.Common.{◌≡◌, ℕ, ◌+◌, ◌<◌, ◌≤◌, List, [], ◌∷◌, ◌++◌, length, drop, get_or, Ok, Err, refl, sym, ap, ◌∙◌, append_assoc, append-nil}
use Rattle.std.proofs.lemmas.List.{at_drop_more, at_drop_all}
use Rattle.wp_base.specs.declared.answers.Stop.{Stop}
use Rattle.wp_base.specs.declared.answers.Stop.TheVariants as stop
use Rattle.c_answers.specs.Answers.{Answer, after, Gives}
use Rattle.name_table.specs.Names.{Names, meaning_of}
use Rattle.acsl_clauses.specs.Clauses.{number_of, numbers_of, numbers_onto}

module _ (bs : Names ℕ) (line : ℕ) where
  one_left : (xs : List (List ℕ)) (i : ℕ) (x : List ℕ) → i < length xs → x ≡ get_or xs i x
      → numbers_of bs line (drop i xs) ≡ after (number_of line (meaning_of bs x)) (λ k. after (numbers_of bs line (drop (i + 1) xs)) (λ ks. Ok (k ∷ ks)))
  one_left xs i x in_list is = at_drop_more (numbers_of bs line) xs i x in_list ∙ ap (λ z. numbers_of bs line (z ∷ drop (i + 1) xs)) (sym is)

  one_onto : (ks : List ℕ) (k : ℕ) (a : Answer (List ℕ)) → numbers_onto (ks ++ k ∷ []) a ≡ numbers_onto ks (after a (λ js. Ok (k ∷ js)))
  one_onto ks k (Ok js) = ap Ok (append_assoc ks (k ∷ []) js)
  one_onto ks k (Err e) = refl

  pub number_turn : (xs : List (List ℕ)) (i : ℕ) (x : List ℕ) (ks more : List ℕ) (k : ℕ) (whole : Answer (List ℕ)) → i < length xs → x ≡ get_or xs i x → number_of line (meaning_of bs x) ≡ Ok k → more ≡ ks ++ k ∷ []
      → numbers_onto ks (numbers_of bs line (drop i xs)) ≡ whole → numbers_onto more (numbers_of bs line (drop (i + 1) xs)) ≡ whole
  number_turn xs i x ks more k whole in_list is made grown so_far =
      let rest : Answer (List ℕ) = numbers_of bs line (drop (i + 1) xs) in
      ap (λ us. numbers_onto us rest) grown ∙ one_onto ks k rest ∙ ap (λ a. numbers_onto ks (after a (λ u. after rest (λ us. Ok (u ∷ us))))) (sym made)
      ∙ ap (numbers_onto ks) (sym (one_left xs i x in_list is)) ∙ so_far

  pub number_fault : {Z W : Type 0} (left : Z → ℕ) (left' : W → List ℕ) (xs : List (List ℕ)) (i : ℕ) (x : List ℕ) (ks : List ℕ) (e : Stop) (whole : Answer (List ℕ)) → i < length xs → x ≡ get_or xs i x
      → Gives left (Err e) (number_of line (meaning_of bs x)) → numbers_onto ks (numbers_of bs line (drop i xs)) ≡ whole → Gives left' (Err e) whole
  number_fault left left' xs i x ks (stop.Refused r) whole in_list is fault so_far =
      sym so_far ∙ ap (numbers_onto ks) (one_left xs i x in_list is) ∙ ap (λ a. numbers_onto ks (after a (λ u. after (numbers_of bs line (drop (i + 1) xs)) (λ us. Ok (u ∷ us))))) fault
  number_fault left left' xs i x ks stop.NoMemory whole in_list is fault so_far = tt

  pub number_done : (xs : List (List ℕ)) (i : ℕ) (ks : List ℕ) (whole : Answer (List ℕ)) → length xs ≤ i → numbers_onto ks (numbers_of bs line (drop i xs)) ≡ whole → whole ≡ Ok ks
  number_done xs i ks whole all so_far = sym so_far ∙ at_drop_all (λ zs. numbers_onto ks (numbers_of bs line zs)) xs i all ∙ ap Ok (append-nil ks)

pub ruleset number_laws = (number_turn, number_fault, number_done)
