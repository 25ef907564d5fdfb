-- Pieces put one after another.
use Rattle.std.proofs.Common.{◌≡◌, ℕ, ◌+◌, ◌<◌, ◌≤◌, Result, Ok, Err, IfOk, List, [], ◌∷◌, ◌++◌, length, map, drop, get_or, codes, refl, sym, ap, ◌∙◌, append_assoc, append-nil}
use Rattle.std.specs.Fmt.{decimal}
use Rattle.std.specs.List.{flat_map}
use Rattle.std.specs.Str.Lossy.{utf8_lossy}
use Rattle.std.proofs.lemmas.List.{drop_all, drop_more}
use Rattle.report_page.specs.Markup.{escaped_text, Piece, markup, as_shown, texts}

pub texts_append : (ps qs : List Piece) → texts (ps ++ qs) ≡ texts ps ++ texts qs
unfolding texts
texts_append [] qs = refl
texts_append (p ∷ ps) qs = ap (λ t. markup (as_shown p) ++ t) (texts_append ps qs) ∙ sym (append_assoc (markup (as_shown p)) (texts ps) (texts qs))

no_texts : texts [] ≡ []
unfolding texts
no_texts = refl

-- ---- a piece

one_text : (tag bytes : List ℕ) → texts ((tag, bytes) ∷ []) ≡ 60 ∷ (tag ++ 62 ∷ escaped_text (utf8_lossy bytes))
unfolding texts markup
one_text tag bytes = append-nil (60 ∷ (tag ++ 62 ∷ escaped_text (utf8_lossy bytes)))

pub piece_put : (text tag bytes : List ℕ) → (((text ++ 60 ∷ []) ++ tag) ++ 62 ∷ []) ++ escaped_text (utf8_lossy bytes) ≡ text ++ texts ((tag, bytes) ∷ [])
piece_put text tag bytes = (let e : (((text ++ 60 ∷ []) ++ tag) ++ 62 ∷ []) ++ escaped_text (utf8_lossy bytes) ≡ text ++ (60 ∷ (tag ++ 62 ∷ escaped_text (utf8_lossy bytes))) = simp append_assoc in e) ∙ ap (λ t. text ++ t) (sym (one_text tag bytes))

-- ---- parts one after another

pub nothing_put : (text : List ℕ) → text ≡ text ++ texts []
nothing_put text = sym (append-nil text) ∙ ap (λ t. text ++ t) (sym no_texts)

pub two_put : (text a b : List ℕ) (ps qs whole : List Piece) → a ≡ text ++ texts ps → b ≡ a ++ texts qs → ps ++ qs ≡ whole → b ≡ text ++ texts whole
two_put text a b ps qs whole e f w = f ∙ ap (λ t. t ++ texts qs) e ∙ append_assoc text (texts ps) (texts qs) ∙ ap (λ t. text ++ t) (sym (texts_append ps qs) ∙ ap texts w)

pub three_put : (text a b c : List ℕ) (ps qs rs whole : List Piece) → a ≡ text ++ texts ps → b ≡ a ++ texts qs → c ≡ b ++ texts rs → ps ++ (qs ++ rs) ≡ whole → c ≡ text ++ texts whole
three_put text a b c ps qs rs whole e f g w = two_put text a c ps (qs ++ rs) whole e (two_put a b c qs rs (qs ++ rs) f g refl) w

pub four_put : (text a b c d : List ℕ) (ps qs rs ss whole : List Piece) → a ≡ text ++ texts ps → b ≡ a ++ texts qs → c ≡ b ++ texts rs → d ≡ c ++ texts ss
    → ps ++ (qs ++ (rs ++ ss)) ≡ whole → d ≡ text ++ texts whole
four_put text a b c d ps qs rs ss whole e f g h w = two_put text a d ps (qs ++ (rs ++ ss)) whole e (three_put a b c d qs rs ss (qs ++ (rs ++ ss)) f g h refl) w

pub five_put : (a b c d e : List ℕ) (ps qs rs ss us whole : List Piece) → a ≡ texts ps → b ≡ a ++ texts qs → c ≡ b ++ texts rs → d ≡ c ++ texts ss → e ≡ d ++ texts us
    → ps ++ (qs ++ (rs ++ (ss ++ us))) ≡ whole → e ≡ texts whole
five_put a b c d e ps qs rs ss us whole f g h i j w =
    four_put a b c d e qs rs ss us (qs ++ (rs ++ (ss ++ us))) g h i j refl ∙ ap (λ t. t ++ texts (qs ++ (rs ++ (ss ++ us)))) f ∙ sym (texts_append ps (qs ++ (rs ++ (ss ++ us)))) ∙ ap texts w

-- ---- the same, where the last part may lack memory

pub then_one : {X E : Type 0} (r : Result X E) (text a : List ℕ) (ps whole : List Piece) → ps ≡ whole → IfOk r (λ _. a ≡ text ++ texts ps) → IfOk r (λ _. a ≡ text ++ texts whole)
then_one (Ok x) text a ps whole w e = e ∙ ap (λ qs. text ++ texts qs) w
then_one (Err x) text a ps whole w e = tt

pub then_two : {X E : Type 0} (r : Result X E) (text a b : List ℕ) (ps qs whole : List Piece) → a ≡ text ++ texts ps → ps ++ qs ≡ whole → IfOk r (λ _. b ≡ a ++ texts qs) → IfOk r (λ _. b ≡ text ++ texts whole)
then_two (Ok x) text a b ps qs whole e w f = two_put text a b ps qs whole e f w
then_two (Err x) text a b ps qs whole e w f = tt

pub then_three : {X E : Type 0} (r : Result X E) (text a b c : List ℕ) (ps qs rs whole : List Piece) → a ≡ text ++ texts ps → b ≡ a ++ texts qs → ps ++ (qs ++ rs) ≡ whole
    → IfOk r (λ _. c ≡ b ++ texts rs) → IfOk r (λ _. c ≡ text ++ texts whole)
then_three (Ok x) text a b c ps qs rs whole e f w g = three_put text a b c ps qs rs whole e f g w
then_three (Err x) text a b c ps qs rs whole e f w g = tt

pub then_four : {X E : Type 0} (r : Result X E) (text a b c d : List ℕ) (ps qs rs ss whole : List Piece) → a ≡ text ++ texts ps → b ≡ a ++ texts qs → c ≡ b ++ texts rs
    → ps ++ (qs ++ (rs ++ ss)) ≡ whole → IfOk r (λ _. d ≡ c ++ texts ss) → IfOk r (λ _. d ≡ text ++ texts whole)
then_four (Ok x) text a b c d ps qs rs ss whole e f g w h = four_put text a b c d ps qs rs ss whole e f g h w
then_four (Err x) text a b c d ps qs rs ss whole e f g w h = tt

-- ---- loops: what is put, and what is to come, make the whole

put_more : (before after all : List ℕ) (ps qs rest : List Piece) → rest ≡ ps ++ qs → after ≡ before ++ texts ps → before ++ texts rest ≡ all → after ++ texts qs ≡ all
put_more before after all ps qs rest r e h =
    ap (λ t. t ++ texts qs) e ∙ append_assoc before (texts ps) (texts qs) ∙ ap (λ t. before ++ t) (sym (texts_append ps qs) ∙ ap texts (sym r)) ∙ h

put_end : (before all : List ℕ) (rest : List Piece) → rest ≡ [] → before ++ texts rest ≡ all → before ≡ all
put_end before all rest r h = nothing_put before ∙ ap (λ ps. before ++ texts ps) (sym r) ∙ h

next_item : {A : Type 0} (items : List A) (i : ℕ) (a : A) → i < length items → a ≡ get_or items i a → drop i items ≡ a ∷ drop (i + 1) items
next_item items i a l is = drop_more items i a l ∙ ap (λ x. x ∷ drop (i + 1) items) (sym is)

pub all_more : {A : Type 0} (see : A → Piece) (items : List A) (i : ℕ) (a : A) (before after all : List ℕ) → i < length items
    → after ≡ before ++ texts (see (get_or items i a) ∷ []) → before ++ texts (map see (drop i items)) ≡ all → after ++ texts (map see (drop (i + 1) items)) ≡ all
all_more see items i a before after all l e h =
    put_more before after all (see (get_or items i a) ∷ []) (map see (drop (i + 1) items)) (map see (drop i items)) (ap (map see) (drop_more items i a l)) e h

pub all_end : {A : Type 0} (see : A → Piece) (items : List A) (i : ℕ) (before all : List ℕ) → length items ≤ i → before ++ texts (map see (drop i items)) ≡ all → before ≡ all
all_end see items i before all l h = put_end before all (map see (drop i items)) (ap (map see) (drop_all i items l)) h

pub each_more : {A X : Type 0} (part : X → List Piece) (see : A → X) (items : List A) (i : ℕ) (a : A) (before after all : List ℕ) → i < length items
    → after ≡ before ++ texts (part (see (get_or items i a))) → before ++ texts (flat_map part (map see (drop i items))) ≡ all → after ++ texts (flat_map part (map see (drop (i + 1) items))) ≡ all
each_more part see items i a before after all l e h =
    put_more before after all (part (see (get_or items i a))) (flat_map part (map see (drop (i + 1) items))) (flat_map part (map see (drop i items))) (ap (λ xs. flat_map part (map see xs)) (drop_more items i a l)) e h

pub each_end : {A X : Type 0} (part : X → List Piece) (see : A → X) (items : List A) (i : ℕ) (before all : List ℕ) → length items ≤ i → before ++ texts (flat_map part (map see (drop i items))) ≡ all → before ≡ all
each_end part see items i before all l h = put_end before all (flat_map part (map see (drop i items))) (ap (λ xs. flat_map part (map see xs)) (drop_all i items l)) h

-- ---- tags

pub line_tag_put : (class : List ℕ) (n : ℕ) → (((codes "div class=") ++ class) ++ codes " id=L") ++ decimal n ≡ codes "div class=" ++ (class ++ (codes " id=L" ++ decimal n))
line_tag_put class n = simp append_assoc

pub run_tag_put : (class name : List ℕ) → ((((codes "tr class=") ++ class) ++ codes " id=\"f-") ++ name) ++ 34 ∷ [] ≡ codes "tr class=" ++ (class ++ (codes " id=\"f-" ++ (name ++ 34 ∷ [])))
run_tag_put class name = simp append_assoc
