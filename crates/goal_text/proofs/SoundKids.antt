-- What the reader finds of kids, layouts and regions stands in the text, and fits its places.
use Rattle.std.proofs.Common.{◌≡◌, ℕ, Bool, true, false, cond, ◌&&◌, List, [], ◌∷◌, ◌++◌, length, map, codes, Option, Some, None, refl, sym, ap, ◌∙◌, append_assoc, append-nil}
use Rattle.std.specs.List.{list_all, flat_map}
use Rattle.std.specs.Fmt.{decimal}
use Rattle.std.specs.Str.{bytes_eq}
use Rattle.std.proofs.lemmas.Bool.{false≢true}
use Rattle.std.proofs.lemmas.List.{map_push, flat_map_more}
use Rattle.std.proofs.lemmas.List.Folds.{list_all-append}
use Rattle.std.proofs.lemmas.Slice.Eq.{bytes_eq-Decides}
use Rattle.wp_base.specs.declared.kinds.CellKind.{CellKind}
use Rattle.wp_base.specs.declared.kinds.Layout.{Layout}
use Rattle.qed_terms.specs.declared.head.Shape.{Shape}
use Rattle.qed_terms.specs.declared.head.Shape.TheVariants as shape
use Rattle.qed_terms.specs.declared.head.FormOp.TheVariants as form
use Rattle.qed_terms.specs.declared.head.Head.{Head}
use Rattle.qed_terms.specs.declared.head.Head.TheVariants as h
use Rattle.qed_terms.specs.Tree.{Tree, node, Trees, stop, more, trees_of, list_of}
use Rattle.qed_terms.specs.WellFormed.{Place, int, mem, takes_formula, may_stand, each, region_places, kid_places, kid_count, fits, all_fit}
use Rattle.goal_words.specs.Bytes.{Reader, ◌>>=◌, expect, front, after, with_rest, named_part}
use Rattle.goal_words.specs.Kinds.{cell_text, cell_of, cell_word}
use Rattle.goal_words.specs.Numbers.{count, flag, flag_text}
use Rattle.goal_words.proofs.Front.{then_some, both, parts, expect_is, front_after, named_part_is, with_rest_is, flag_is}
use Rattle.goal_words.proofs.Naming.{cell_is}
use Rattle.goal_words.proofs.Numerals.{only_if_is, both_true, count_is}
use Rattle.goal_text.specs.Text.{spaced, bracket, layout_text, shape_word, regions_texts, head_text, tree_text, tree_texts}
use Rattle.goal_text.specs.declared.fronts.FormHead.TheVariants as fh
use Rattle.goal_text.specs.Words.{shape_of}
use Rattle.goal_text.specs.Reader as r
use Rattle.goal_text.specs.Reader.{Inner, Kids, Plan, row, any, frame, no_kids, with_kids, with_terms, repeat, one_more, kids_by, term_end, form_end, closing, opened, after_term, after_form}
use Rattle.goal_text.proofs.Pieces.{spaced-append, bracket_rest, StepSound, repeat_sound}
use Rattle.goal_text.proofs.Rows.{trees_of-list_of, put_all, all_terms, terms_put, no_more, kids_behind}

-- ---- lists of trees

pub texts_of : (ts : List Tree) → tree_texts (trees_of ts) ≡ map tree_text ts
texts_of [] = refl
texts_of (t ∷ ts) = ap (λ xs. tree_text t ∷ xs) (texts_of ts)

kid_texts : (ts : Trees) → map tree_text (list_of ts) ≡ tree_texts ts
kid_texts stop = refl
kid_texts (more t ts) = ap (λ xs. tree_text t ∷ xs) (kid_texts ts)

list_of-trees_of : (ts : List Tree) → ts ≡ list_of (trees_of ts)
list_of-trees_of [] = refl
list_of-trees_of (t ∷ ts) = ap (λ us. t ∷ us) (list_of-trees_of ts)

pub each_fits : (place : Place) (ts : List Tree) → all_fit (each place (kid_count (trees_of ts))) (trees_of ts) ≡ list_all (fits place) ts
each_fits place [] = refl
each_fits place (t ∷ ts) = ap (λ b. fits place t && b) (each_fits place ts)

pub some_is : {X : Type 0} (x y : X) → Some x ≡ Some y → x ≡ y
some_is x y h = cc

-- what is read stands at the front, and fits its place
abbrev pub Sound : Inner → Type 0
Sound inner = (place : Place) (bytes : List ℕ) (t : Tree) (rest : List ℕ) → inner place bytes ≡ Some (t, rest) → (bytes ≡ tree_text t ++ rest) × (fits place t ≡ true)

-- ---- kids

-- kids behind those that were read
pub record Came (places : List Place) (k : Kids) (bytes : List ℕ) (k' : Kids) (rest : List ℕ) : Type 0 where
  pub kids : Trees
  pub are : k' ≡ put_all places kids k
  pub stand : bytes ≡ spaced (tree_texts kids) ++ rest
  pub fit : all_fit places kids ≡ true

pub kids_sound : (inner : Inner) → Sound inner → (places : List Place) (k : Kids) (bytes : List ℕ) (k' : Kids) (rest : List ℕ) → r.kids_at inner places k bytes ≡ Some (k', rest) → Came places k bytes k' rest
unfolding r.kids_at
kids_sound inner sound [] k bytes k' rest h =
    let same = parts k k' bytes rest h in
    record { kids = stop; are = sym same.0; stand = same.1; fit = refl }
kids_sound inner sound (p ∷ ps) k bytes k' rest h =
    let whole : Kids × List ℕ = (k', rest) in
    let space = then_some (expect 32 bytes) _ whole h in
    let one = then_some (r.kid inner p k space.0) _ whole space.2 in
    let t = then_some (inner p space.0) _ one.0 one.1 in
    let read = sound p space.0 t.0.0 t.0.1 t.1 in
    let same = parts (with_kids p (t.0.0 ∷ []) k) one.0.0 t.0.1 one.0.1 t.2 in
    let others = kids_sound inner sound ps one.0.0 one.0.1 k' rest one.2 in
    record {
      kids = more t.0.0 others.kids;
      are = others.are ∙ ap (put_all ps others.kids) (sym same.0);
      stand = expect_is 32 bytes space.0 space.1
          ∙ ap (λ l. 32 ∷ l) (read.0 ∙ ap (λ l. tree_text t.0.0 ++ l) (same.1 ∙ others.stand) ∙ sym (append_assoc (tree_text t.0.0) (spaced (tree_texts others.kids)) rest));
      fit = rw read.1 others.fit;
    }

-- any number of kids: the texts so far are those of the kids so far
record AreKids (place : Place) (k k' : Kids) (ps : List (List ℕ)) : Type 0 where
  kids : List Tree
  are : k' ≡ with_kids place kids k
  text : ps ≡ map tree_text kids
  fit : list_all (fits place) kids ≡ true

kid_step : (inner : Inner) → Sound inner → (place : Place) (k : Kids) → StepSound (AreKids place k) (r.kid inner place)
kid_step inner sound place k s ps bytes s' rest holds h =
    let whole : Kids × List ℕ = (s', rest) in
    let t = then_some (inner place bytes) _ whole h in
    let same = parts (with_kids place (t.0.0 ∷ []) s) s' t.0.1 rest t.2 in
    let one = sound place bytes t.0.0 t.0.1 t.1 in (
      tree_text t.0.0,
      one.0 ∙ ap (λ l. tree_text t.0.0 ++ l) same.1,
      record {
        kids = holds.kids ++ t.0.0 ∷ [];
        are = sym same.0 ∙ ap (with_kids place (t.0.0 ∷ [])) holds.are ∙ kids_behind place holds.kids (t.0.0 ∷ []) k;
        text = ap (λ ps. ps ++ tree_text t.0.0 ∷ []) holds.text ∙ sym (map_push tree_text holds.kids t.0.0);
        fit = list_all-append (fits place) holds.kids (t.0.0 ∷ []) ∙ rw (holds.fit, one.1);
      },
    )

pub record CameAny (place : Place) (k : Kids) (bytes : List ℕ) (k' : Kids) (rest : List ℕ) : Type 0 where
  pub kids : List Tree
  pub are : k' ≡ with_kids place kids k
  pub stand : bytes ≡ spaced (map tree_text kids) ++ rest
  pub fit : list_all (fits place) kids ≡ true

pub any_sound : (inner : Inner) → Sound inner → (place : Place) (k : Kids) (bytes : List ℕ) (k' : Kids) (rest : List ℕ) → r.kids_any inner place k bytes ≡ Some (k', rest) → CameAny place k bytes k' rest
unfolding r.kids_any
any_sound inner sound place k bytes k' rest h =
    let x = repeat_sound (AreKids place k) (r.kid inner place) (kid_step inner sound place k) (length bytes) k [] bytes k' rest (record { kids = []; are = no_more place k; text = refl; fit = refl }) h in
    record { kids = x.2.kids; are = x.2.are; stand = x.1 ∙ ap (λ ps. spaced ps ++ rest) x.2.text; fit = x.2.fit }

-- ---- what stands after the word of a head

-- parts at the front, which with the word are the text of a tree that fits
pub record Inside (place : Place) (word : List ℕ) (bytes : List ℕ) (t : Tree) (rest : List ℕ) : Type 0 where
  pub parts : List (List ℕ)
  pub stand : bytes ≡ spaced parts ++ 41 ∷ rest
  pub text : tree_text t ≡ bracket word parts
  pub fit : fits place t ≡ true

-- what stands behind the kids, and the head that this gives
pub record Ended (place : Place) (word : List ℕ) (fronts : List (List ℕ)) (ts : Trees) (bytes : List ℕ) (t : Tree) (rest : List ℕ) : Type 0 where
  pub head : Head
  pub lasts : List (List ℕ)
  pub is : node head ts ≡ t
  pub stand : bytes ≡ spaced lasts ++ 41 ∷ rest
  pub text : head_text head (tree_texts ts) ≡ bracket word (fronts ++ (tree_texts ts ++ lasts))
  pub may : may_stand place head ≡ true
  pub fit : all_fit (kid_places head (kid_count ts)) ts ≡ true

behind : (xs ys : List (List ℕ)) (rest : List ℕ) → spaced xs ++ (spaced ys ++ rest) ≡ spaced (xs ++ ys) ++ rest
behind xs ys rest = sym (append_assoc (spaced xs) (spaced ys) rest) ∙ ap (λ l. l ++ rest) (sym (spaced-append xs ys))

inside_of : (place : Place) (word : List ℕ) (fronts : List (List ℕ)) (all bytes : List ℕ) (ts : Trees) (bytes' : List ℕ) (t : Tree) (rest : List ℕ)
    → all ≡ spaced fronts ++ bytes → bytes ≡ spaced (tree_texts ts) ++ bytes' → Ended place word fronts ts bytes' t rest → Inside place word all t rest
inside_of place word fronts all bytes ts bytes' t rest p q x = record {
  parts = fronts ++ (tree_texts ts ++ x.lasts);
  stand = p ∙ ap (λ l. spaced fronts ++ l) (q ∙ ap (λ l. spaced (tree_texts ts) ++ l) x.stand ∙ behind (tree_texts ts) x.lasts (41 ∷ rest)) ∙ behind fronts (tree_texts ts ++ x.lasts) (41 ∷ rest);
  text = ap tree_text (sym x.is) ∙ x.text;
  fit = ap (fits place) (sym x.is) ∙ rw (x.may, x.fit);
}

-- what ends a head, over the kids of a row
abbrev pub Ends : Place → List ℕ → List (List ℕ) → Trees → Option (Tree × List ℕ) → List ℕ → Type 0
Ends place word fronts ts found bytes = (t : Tree) (rest : List ℕ) → found ≡ Some (t, rest) → Ended place word fronts ts bytes t rest

pub row_sound : (inner : Inner) → Sound inner → (place : Place) (word : List ℕ) (fronts : List (List ℕ)) (ps : List Place) (finish : Kids → Reader Tree)
    → ((ts : Trees) (bytes : List ℕ) → all_fit ps ts ≡ true → Ends place word fronts ts (finish (put_all ps ts no_kids) bytes) bytes)
    → (all bytes : List ℕ) (t : Tree) (rest : List ℕ) → all ≡ spaced fronts ++ bytes → (kids_by inner (row ps) no_kids bytes >>= λ k. finish k.0 k.1) ≡ Some (t, rest) → Inside place word all t rest
unfolding kids_by
row_sound inner sound place word fronts ps finish ends all bytes t rest stands h =
    let whole : Tree × List ℕ = (t, rest) in
    let k = then_some (kids_by inner (row ps) no_kids bytes) _ whole h in
    let came = kids_sound inner sound ps no_kids bytes k.0.0 k.0.1 k.1 in
    inside_of place word fronts all bytes came.kids k.0.1 t rest stands came.stand (ends came.kids k.0.1 came.fit t rest (ap (λ x. finish x k.0.1) (sym came.are) ∙ k.2))

pub many_sound : (inner : Inner) → Sound inner → (place : Place) (word : List ℕ) (fronts : List (List ℕ)) (p : Place) (finish : Kids → Reader Tree)
    → ((ts : Trees) (bytes : List ℕ) → all_fit (each p (kid_count ts)) ts ≡ true → Ends place word fronts ts (finish (with_kids p (list_of ts) no_kids) bytes) bytes)
    → (all bytes : List ℕ) (t : Tree) (rest : List ℕ) → all ≡ spaced fronts ++ bytes → (kids_by inner (any p) no_kids bytes >>= λ k. finish k.0 k.1) ≡ Some (t, rest) → Inside place word all t rest
unfolding kids_by
many_sound inner sound place word fronts p finish ends all bytes t rest stands h =
    let whole : Tree × List ℕ = (t, rest) in
    let k = then_some (kids_by inner (any p) no_kids bytes) _ whole h in
    let came = any_sound inner sound p no_kids bytes k.0.0 k.0.1 k.1 in
    let ts = trees_of came.kids in
    inside_of place word fronts all bytes ts k.0.1 t rest stands (came.stand ∙ ap (λ ps. spaced ps ++ k.0.1) (sym (texts_of came.kids)))
    (ends ts k.0.1 (each_fits p came.kids ∙ came.fit) t rest (ap (λ us. finish (with_kids p us no_kids) k.0.1) (sym (list_of-trees_of came.kids)) ∙ ap (λ x. finish x k.0.1) (sym came.are) ∙ k.2))

-- ---- what stands behind the kids

-- a bracket alone
pub plain_end : (place : Place) (word : List ℕ) (fronts : List (List ℕ)) (ts : Trees) (head : Head) (made : Option Layout → Option Tree) (bytes : List ℕ) → made None ≡ Some (node head ts) → may_stand place head ≡ true
    → all_fit (kid_places head (kid_count ts)) ts ≡ true → ((ts : List (List ℕ)) → head_text head ts ≡ bracket word (fronts ++ ts)) → Ends place word fronts ts (closing false made bytes) bytes
plain_end place word fronts ts head made bytes is m fit text t rest h =
    let whole : Tree × List ℕ = (t, rest) in
    let nothing : Option Layout = None in
    let x = then_some (r.tail false bytes) (λ l. with_rest l.1 (made l.0)) whole h in
    let close' = then_some (expect 41 bytes) (λ rest. both nothing rest) x.0 x.1 in
    let left = parts nothing x.0.0 close'.0 x.0.1 close'.2 in
    let found = with_rest_is x.0.1 (made x.0.0) t rest x.2 in
    record {
      head = head;
      lasts = [];
      is = some_is (node head ts) t (sym is ∙ ap made left.0 ∙ found.0);
      stand = expect_is 41 bytes close'.0 close'.1 ∙ ap (λ l. 41 ∷ l) (left.1 ∙ found.1);
      text = text (tree_texts ts) ∙ ap (λ l. bracket word (fronts ++ l)) (sym (append-nil (tree_texts ts)));
      may = m;
      fit = fit;
    }

-- a word in front, as a part
pub front_part : (bytes word rest : List ℕ) → bytes ≡ 32 ∷ (word ++ rest) → bytes ≡ spaced (word ∷ []) ++ rest
front_part bytes word rest h = h ∙ ap (λ x. 32 ∷ (x ++ rest)) (sym (append-nil word))

-- ---- layouts

pub opened_is : (word bytes rest : List ℕ) → opened word bytes ≡ Some rest → bytes ≡ 40 ∷ (word ++ rest)
opened_is word bytes rest h =
    let x = then_some (expect 40 bytes) _ rest h in
    let w = only_if_is (bytes_eq (front x.0) word) (after x.0) rest x.2 in
    expect_is 40 bytes x.0 x.1 ∙ ap (λ l. 40 ∷ l) (front_after x.0 ∙ (λ i. (bytes_eq-Decides (front x.0) word).0 w.0 i ++ w.1 i))

abbrev AreCells : List CellKind → List (List ℕ) → Type 0
AreCells ks ps = ps ≡ map cell_text ks

cell_step : StepSound AreCells (one_more cell_word)
cell_step ks ps bytes ks' rest holds h =
    let whole : List CellKind × List ℕ = (ks', rest) in
    let k = then_some (cell_word bytes) _ whole h in
    let found = with_rest_is (after bytes) (cell_of (front bytes)) k.0.0 k.0.1 k.1 in
    let same = parts (ks ++ k.0.0 ∷ []) ks' k.0.1 rest k.2 in
    let word = cell_is (front bytes) k.0.0 found.0 in (
      cell_text k.0.0,
      front_after bytes ∙ (λ i. word i ++ found.1 i) ∙ ap (λ l. cell_text k.0.0 ++ l) same.1,
      ap (λ ps. ps ++ cell_text k.0.0 ∷ []) holds ∙ sym (map_push cell_text ks k.0.0) ∙ ap (map cell_text) same.0,
    )

abbrev layout_parts : Layout → List (List ℕ)
layout_parts l = flag_text l.writable ∷ decimal l.count ∷ map cell_text l.cells

layout_inside_is : (bytes : List ℕ) (l : Layout) (rest : List ℕ) → r.layout_inside bytes ≡ Some (l, rest) → bytes ≡ spaced (layout_parts l) ++ 41 ∷ rest
layout_inside_is bytes l rest h =
    let whole : Layout × List ℕ = (l, rest) in
    let w = then_some (named_part flag bytes) _ whole h in
    let n = then_some (named_part count w.0.1) _ whole w.2 in
    let ks = then_some (repeat (one_more cell_word) (length n.0.1) [] n.0.1) _ whole n.2 in
    let close' = then_some (expect 41 ks.0.1) _ whole ks.2 in
    let same = parts (r.layout_with w.0.0 n.0.0 ks.0.0) l close'.0 rest close'.2 in
    let flagged = named_part_is flag bytes w.0.0 w.0.1 w.1 in
    let counted = named_part_is count w.0.1 n.0.0 n.0.1 n.1 in
    let cells = repeat_sound AreCells (one_more cell_word) cell_step (length n.0.1) [] [] n.0.1 ks.0.0 ks.0.1 refl ks.1 in
    let closed = expect_is 41 ks.0.1 close'.0 close'.1 in
    let inner : n.0.1 ≡ spaced (map cell_text ks.0.0) ++ 41 ∷ rest = cells.1 ∙ (λ i. spaced (cells.2 i) ++ closed i) ∙ ap (λ x. spaced (map cell_text ks.0.0) ++ 41 ∷ x) same.1 in
    let middle : w.0.1 ≡ spaced (decimal n.0.0 ∷ map cell_text ks.0.0) ++ 41 ∷ rest =
    counted.2 ∙ (λ i. 32 ∷ (sym (count_is counted.0 n.0.0 counted.1).0 i ++ inner i)) ∙ ap (λ l. 32 ∷ l) (sym (append_assoc (decimal n.0.0) (spaced (map cell_text ks.0.0)) (41 ∷ rest)))
    in
    let outer : bytes ≡ spaced (layout_parts (r.layout_with w.0.0 n.0.0 ks.0.0)) ++ 41 ∷ rest =
    flagged.2 ∙ (λ i. 32 ∷ (flag_is flagged.0 w.0.0 flagged.1 i ++ middle i)) ∙ ap (λ l. 32 ∷ l) (sym (append_assoc (flag_text w.0.0) (spaced (decimal n.0.0 ∷ map cell_text ks.0.0)) (41 ∷ rest)))
    in
    outer ∙ ap (λ l. spaced (layout_parts l) ++ 41 ∷ rest) same.0

layout_is : (bytes : List ℕ) (l : Layout) (rest : List ℕ) → r.layout_part bytes ≡ Some (l, rest) → bytes ≡ spaced (layout_text l ∷ []) ++ rest
unfolding r.layout_part
layout_is bytes l rest h =
    let whole : Layout × List ℕ = (l, rest) in
    let inside = then_some (expect 32 bytes >>= opened (codes "lay")) r.layout_inside whole h in
    let space = then_some (expect 32 bytes) (opened (codes "lay")) inside.0 inside.1 in
    let ps = layout_parts l in
    front_part bytes (layout_text l) rest
    (expect_is 32 bytes space.0 space.1 ∙ ap (λ l. 32 ∷ l) (opened_is (codes "lay") space.0 inside.0 space.2 ∙ ap (λ x. 40 ∷ (codes "lay" ++ x)) (layout_inside_is inside.0 l rest inside.2) ∙ sym (bracket_rest (codes "lay") ps rest)))

-- a layout and a bracket
pub laid_end : (place : Place) (word : List ℕ) (ts : Trees) (head : Layout → Head) (made : Option Layout → Option Tree) (bytes : List ℕ) → ((l : Layout) → made (Some l) ≡ Some (node (head l) ts)) → ((l : Layout) → may_stand place (head l) ≡ true)
    → ((l : Layout) → all_fit (kid_places (head l) (kid_count ts)) ts ≡ true) → ((l : Layout) (ts : List (List ℕ)) → head_text (head l) ts ≡ bracket word (ts ++ layout_text l ∷ [])) → Ends place word [] ts (closing true made bytes) bytes
laid_end place word ts head made bytes is m fit text t rest h =
    let whole : Tree × List ℕ = (t, rest) in
    let x = then_some (r.tail true bytes) (λ l. with_rest l.1 (made l.0)) whole h in
    let l = then_some (r.layout_part bytes) _ x.0 x.1 in
    let some : Option Layout = Some l.0.0 in
    let close' = then_some (expect 41 l.0.1) (λ rest. both some rest) x.0 l.2 in
    let left = parts some x.0.0 close'.0 x.0.1 close'.2 in
    let found = with_rest_is x.0.1 (made x.0.0) t rest x.2 in
    record {
      head = head l.0.0;
      lasts = layout_text l.0.0 ∷ [];
      is = some_is (node (head l.0.0) ts) t (sym (is l.0.0) ∙ ap made left.0 ∙ found.0);
      stand = layout_is bytes l.0.0 l.0.1 l.1 ∙ ap (λ b. spaced (layout_text l.0.0 ∷ []) ++ b) (expect_is 41 l.0.1 close'.0 close'.1 ∙ ap (λ l. 41 ∷ l) (left.1 ∙ found.1));
      text = text l.0.0 (tree_texts ts);
      may = m l.0.0;
      fit = fit l.0.0;
    }

-- ---- regions

shape_is : (word : List ℕ) (s : Shape) → shape_of word ≡ Some s → word ≡ shape_word s
shape_is word s h = by (bytes_eq word (codes "cells")) (bytes_eq word (codes "new")) refl refl h
  where
    by : (x y : Bool) → bytes_eq word (codes "cells") ≡ x → bytes_eq word (codes "new") ≡ y → cond x (Some shape.Cells) (cond y (Some shape.New) None) ≡ Some s → word ≡ shape_word s
    by true y p q h = let same : shape.Cells ≡ s = cc in (bytes_eq-Decides word (codes "cells")).0 p ∙ ap shape_word same
    by false true p q h = let same : shape.New ≡ s = cc in (bytes_eq-Decides word (codes "new")).0 q ∙ ap shape_word same
    by false false p q h = absurd cc

abbrev Region : Type 0
Region = Shape × List Tree

abbrev region_text : Region → List ℕ
region_text x = bracket (shape_word x.0) (map tree_text x.1)

abbrev region_fits : Region → Bool
region_fits x = all_fit (r.shape_places x.0) (trees_of x.1)

-- the texts so far are those of the regions so far, whose terms stand behind the first kids
record AreRegions (first : List Tree) (s : Kids) (ps : List (List ℕ)) : Type 0 where
  regions : List Region
  shapes : s.shapes ≡ map (λ (x : Region). x.0) regions
  kids : s.terms ≡ first ++ flat_map (λ (x : Region). x.1) regions
  text : ps ≡ map region_text regions
  fit : list_all region_fits regions ≡ true

shape_terms : (s : Shape) → all_terms (r.shape_places s) ≡ true
shape_terms shape.Cells = refl
shape_terms shape.New = refl

region_is : (inner : Inner) → Sound inner → (s : Kids) (bytes : List ℕ) (s' : Kids) (rest : List ℕ) → r.region inner s bytes ≡ Some (s', rest)
    → (x : Region) × (bytes ≡ region_text x ++ rest) × (region_fits x ≡ true) × (s'.shapes ≡ s.shapes ++ x.0 ∷ []) × (s'.terms ≡ s.terms ++ x.1)
unfolding r.region
region_is inner sound s bytes s' rest h =
    let whole : Kids × List ℕ = (s', rest) in
    let opened = then_some (expect 40 bytes) _ whole h in
    let sh = then_some (shape_of (front opened.0)) _ whole opened.2 in
    let ks = then_some (r.kids_at inner (r.shape_places sh.0) s (after opened.0)) _ whole sh.2 in
    let close' = then_some (expect 41 ks.0.1) _ whole ks.2 in
    let same = parts (r.with_shape ks.0.0 sh.0) s' close'.0 rest close'.2 in
    let came = kids_sound inner sound (r.shape_places sh.0) s (after opened.0) ks.0.0 ks.0.1 ks.1 in
    let put = came.are ∙ terms_put (r.shape_places sh.0) came.kids s (shape_terms sh.0) came.fit in
    let kids = list_of came.kids in
    let x : Region = (sh.0, kids) in
    let ps = map tree_text kids in
    let stand : after opened.0 ≡ spaced ps ++ 41 ∷ rest = came.stand ∙ (λ i. spaced (sym (kid_texts came.kids) i) ++ (expect_is 41 ks.0.1 close'.0 close'.1 ∙ ap (λ l. 41 ∷ l) same.1) i) in
    let inside : opened.0 ≡ shape_word sh.0 ++ (spaced ps ++ 41 ∷ rest) = front_after opened.0 ∙ (λ i. shape_is (front opened.0) sh.0 sh.1 i ++ stand i) in (
      x,
      expect_is 40 bytes opened.0 opened.1 ∙ ap (λ l. 40 ∷ l) inside ∙ sym (bracket_rest (shape_word sh.0) ps rest),
      ap (all_fit (r.shape_places sh.0)) (trees_of-list_of came.kids) ∙ came.fit,
      ap (λ (s : Kids). s.shapes) (sym same.0) ∙ ap (λ (k : Kids). k.shapes ++ sh.0 ∷ []) put,
      ap (λ (s : Kids). s.terms) (sym same.0) ∙ ap (λ (k : Kids). k.terms) put,
    )

region_step : (inner : Inner) → Sound inner → (first : List Tree) → StepSound (AreRegions first) (r.region inner)
region_step inner sound first s ps bytes s' rest holds h =
    let one = region_is inner sound s bytes s' rest h in
    let x = one.0 in
    let rs = holds.regions in (
      region_text x,
      one.1,
      record {
        regions = rs ++ x ∷ [];
        shapes = one.3 ∙ ap (λ l. l ++ x.0 ∷ []) holds.shapes ∙ sym (map_push (λ (x : Region). x.0) rs x);
        kids = one.4 ∙ ap (λ l. l ++ x.1) holds.kids ∙ flat_map_more (λ (x : Region). x.1) first rs x;
        text = ap (λ l. l ++ region_text x ∷ []) holds.text ∙ sym (map_push region_text rs x);
        fit = list_all-append region_fits rs (x ∷ []) ∙ rw (holds.fit, one.2);
      },
    )

-- one region and the terms after it
record OneRegion (sh : Shape) (kids : List Tree) (shapes : List Shape) (others : List Tree) : Type 0 where
  text : regions_texts (sh ∷ shapes) (map tree_text (kids ++ others)) ≡ bracket (shape_word sh) (map tree_text kids) ∷ regions_texts shapes (map tree_text others)
  fit : all_fit (region_places (sh ∷ shapes)) (trees_of (kids ++ others)) ≡ all_fit (region_places shapes) (trees_of others)

one_region : (sh : Shape) (kids : List Tree) (shapes : List Shape) (others : List Tree) → all_fit (r.shape_places sh) (trees_of kids) ≡ true → OneRegion sh kids shapes others
one_region shape.New [] shapes others k = absurd (false≢true k)
one_region shape.New (a ∷ []) shapes others k = let x = both_true (fits int a) true k in record { text = refl; fit = rw x.0 }
one_region shape.New (a ∷ b ∷ kids) shapes others k = absurd (false≢true (both_true (fits int a) false k).1)
one_region shape.Cells [] shapes others k = absurd (false≢true k)
one_region shape.Cells (a ∷ []) shapes others k = absurd (false≢true (both_true (fits int a) false k).1)
one_region shape.Cells (a ∷ b ∷ []) shapes others k =
    let x = both_true (fits int a) (fits int b && false) k in
    absurd (false≢true (both_true (fits int b) false x.1).1)
one_region shape.Cells (a ∷ b ∷ c ∷ []) shapes others k =
    let x = both_true (fits int a) (fits int b && (fits int c && true)) k in
    let y = both_true (fits int b) (fits int c && true) x.1 in
    let z = both_true (fits int c) true y.1 in
    record { text = refl; fit = rw (x.0, y.0, z.0) }
one_region shape.Cells (a ∷ b ∷ c ∷ d ∷ kids) shapes others k =
    let x = both_true (fits int a) (fits int b && (fits int c && false)) k in
    let y = both_true (fits int b) (fits int c && false) x.1 in
    absurd (false≢true (both_true (fits int c) false y.1).1)

-- the regions as the parts of a frame, and their terms as its kids
record AllRegions (rs : List Region) : Type 0 where
  text : regions_texts (map (λ (x : Region). x.0) rs) (map tree_text (flat_map (λ (x : Region). x.1) rs)) ≡ map region_text rs
  fit : all_fit (region_places (map (λ (x : Region). x.0) rs)) (trees_of (flat_map (λ (x : Region). x.1) rs)) ≡ true

all_regions : (rs : List Region) → list_all region_fits rs ≡ true → AllRegions rs
all_regions [] k = record { text = refl; fit = refl }
all_regions (x ∷ rs) k =
    let y = both_true (region_fits x) (list_all region_fits rs) k in
    let one = one_region x.0 x.1 (map (λ (x : Region). x.0) rs) (flat_map (λ (x : Region). x.1) rs) y.0 in
    let others = all_regions rs y.1 in
    record { text = one.text ∙ ap (λ l. region_text x ∷ l) others.text; fit = one.fit ∙ others.fit }

frame_of : (place : Place) (first : Trees) (s : Kids) (ps : List (List ℕ)) (bytes rest : List ℕ) (t : Tree) → takes_formula place ≡ true → all_fit (mem ∷ mem ∷ []) first ≡ true → AreRegions (list_of first) s ps
    → bytes ≡ spaced (tree_texts first ++ ps) ++ 41 ∷ rest → node (h.Form (form.Frame s.shapes)) (trees_of s.terms) ≡ t → Inside place (codes "frame") bytes t rest
frame_of place stop s ps bytes rest t m k rs stand e = absurd (false≢true k)
frame_of place (more a stop) s ps bytes rest t m k rs stand e = absurd (false≢true (both_true (fits mem a) false k).1)
frame_of place (more a (more b stop)) s ps bytes rest t m k rs stand e =
    let x = both_true (fits mem a) (fits mem b && true) k in
    let y = both_true (fits mem b) true x.1 in
    let shapes = map (λ (x : Region). x.0) rs.regions in
    let flat = flat_map (λ (x : Region). x.1) rs.regions in
    let all = all_regions rs.regions rs.fit in
    let same : t ≡ node (h.Form (form.Frame shapes)) (trees_of (a ∷ b ∷ flat)) = sym e ∙ (λ i. node (h.Form (form.Frame (rs.shapes i))) (trees_of (rs.kids i))) in
    record {
      parts = tree_text a ∷ tree_text b ∷ ps;
      stand = stand;
      text = ap tree_text same ∙ ap (head_text (h.Form (form.Frame shapes))) (texts_of (a ∷ b ∷ flat)) ∙ ap (λ l. bracket (codes "frame") (tree_text a ∷ tree_text b ∷ l)) (all.text ∙ sym rs.text);
      fit = ap (fits place) same ∙ rw (m, x.0, y.0) all.fit;
    }
frame_of place (more a (more b (more c first))) s ps bytes rest t m k rs stand e =
    let x = both_true (fits mem a) (fits mem b && false) k in
    absurd (false≢true (both_true (fits mem b) false x.1).1)

pub framed_sound : (inner : Inner) → Sound inner → (place : Place) (bytes : List ℕ) (t : Tree) (rest : List ℕ) → takes_formula place ≡ true → (kids_by inner frame no_kids bytes >>= λ k. form_end fh.Frame k.0 k.1) ≡ Some (t, rest)
    → Inside place (codes "frame") bytes t rest
unfolding kids_by form_end
framed_sound inner sound place bytes t rest m e =
    let whole : Tree × List ℕ = (t, rest) in
    let nothing : Option Layout = None in
    let k = then_some (kids_by inner frame no_kids bytes) _ whole e in
    let ks = then_some (r.kids_at inner (mem ∷ mem ∷ []) no_kids bytes) _ k.0 k.1 in
    let came = kids_sound inner sound (mem ∷ mem ∷ []) no_kids bytes ks.0.0 ks.0.1 ks.1 in
    let put = came.are ∙ terms_put (mem ∷ mem ∷ []) came.kids no_kids refl came.fit in
    let first = list_of came.kids in
    let none : AreRegions first ks.0.0 [] = record { regions = []; shapes = ap (λ (k : Kids). k.shapes) put; kids = ap (λ (k : Kids). k.terms) put ∙ sym (append-nil first); text = refl; fit = refl } in
    let regions = repeat_sound (AreRegions first) (r.region inner) (region_step inner sound first) (length ks.0.1) ks.0.0 [] ks.0.1 k.0.0 k.0.1 none ks.2 in
    let x = then_some (r.tail false k.0.1) (λ l. with_rest l.1 (r.form_made fh.Frame l.0 k.0.0)) whole k.2 in
    let close' = then_some (expect 41 k.0.1) (λ rest. both nothing rest) x.0 x.1 in
    let left = parts nothing x.0.0 close'.0 x.0.1 close'.2 in
    let found = with_rest_is x.0.1 (r.form_made fh.Frame x.0.0 k.0.0) t rest x.2 in
    frame_of place came.kids k.0.0 regions.0 bytes rest t m came.fit regions.2
    (came.stand ∙ ap (λ l. spaced (tree_texts came.kids) ++ l) (regions.1 ∙ ap (λ l. spaced regions.0 ++ l) (expect_is 41 k.0.1 close'.0 close'.1 ∙ ap (λ l. 41 ∷ l) (left.1 ∙ found.1))) ∙ behind (tree_texts came.kids) regions.0 (41 ∷ rest))
    (some_is (node (h.Form (form.Frame k.0.0.shapes)) (trees_of k.0.0.terms)) t found.0)
