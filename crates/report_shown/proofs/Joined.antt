-- A loop over pieces: what is put, and what is to come, make the whole.
use Rattle.std.proofs.Common.{◌≡◌, ℕ, ◌+◌, ◌<◌, ◌≤◌, List, [], ◌∷◌, ◌++◌, length, map, drop, get_or, sym, ap, ◌∙◌, append_assoc, append-nil}
use Rattle.std.proofs.lemmas.List.{drop_all, drop_more}
use Rattle.report_read.specs.Bytes.{joined}

pub two_put : (text a b : List ℕ) → (text ++ a) ++ b ≡ text ++ (a ++ b)
two_put text a b = append_assoc text a b

pub three_put : (text a b c : List ℕ) → ((text ++ a) ++ b) ++ c ≡ text ++ (a ++ (b ++ c))
three_put text a b c = simp append_assoc

pub joined_more : {A X : Type 0} (put : X → List ℕ) (see : A → X) (items : List A) (i : ℕ) (a : A) (before after all : List ℕ) → i < length items → a ≡ get_or items i a → after ≡ before ++ put (see a)
    → before ++ joined (map put (map see (drop i items))) ≡ all → after ++ joined (map put (map see (drop (i + 1) items))) ≡ all
joined_more put see items i a before after all l is e h =
    let rest : drop i items ≡ a ∷ drop (i + 1) items = drop_more items i a l ∙ ap (λ x. x ∷ drop (i + 1) items) (sym is) in
    let behind = joined (map put (map see (drop (i + 1) items))) in
    ap (λ t. t ++ behind) e ∙ append_assoc before (put (see a)) behind ∙ ap (λ xs. before ++ joined (map put (map see xs))) (sym rest) ∙ h

pub joined_end : {A X : Type 0} (put : X → List ℕ) (see : A → X) (items : List A) (i : ℕ) (before all : List ℕ) → length items ≤ i → before ++ joined (map put (map see (drop i items))) ≡ all → before ≡ all
joined_end put see items i before all l h = sym (append-nil before) ∙ ap (λ xs. before ++ joined (map put (map see xs))) (sym (drop_all i items l)) ∙ h

pub joined_more_plain : {X : Type 0} (put : X → List ℕ) (items : List X) (i : ℕ) (a : X) (before after all : List ℕ) → i < length items → a ≡ get_or items i a → after ≡ before ++ put a
    → before ++ joined (map put (drop i items)) ≡ all → after ++ joined (map put (drop (i + 1) items)) ≡ all
joined_more_plain put items i a before after all l is e h =
    let rest : drop i items ≡ a ∷ drop (i + 1) items = drop_more items i a l ∙ ap (λ x. x ∷ drop (i + 1) items) (sym is) in
    let behind = joined (map put (drop (i + 1) items)) in
    ap (λ t. t ++ behind) e ∙ append_assoc before (put a) behind ∙ ap (λ xs. before ++ joined (map put xs)) (sym rest) ∙ h

pub joined_end_plain : {X : Type 0} (put : X → List ℕ) (items : List X) (i : ℕ) (before all : List ℕ) → length items ≤ i → before ++ joined (map put (drop i items)) ≡ all → before ≡ all
joined_end_plain put items i before all l h = sym (append-nil before) ∙ ap (λ xs. before ++ joined (map put xs)) (sym (drop_all i items l)) ∙ h
