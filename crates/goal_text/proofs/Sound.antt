-- What the reader finds stands in the text, and is well formed.
use Rattle.std.proofs.Common.{◌≡◌, ℕ, zero, suc, Bool, true, false, not, cond, List, [], ◌∷◌, ◌++◌, codes, Option, Some, None, ℤ, refl, sym, ap, ◌∙◌, subst}
use Rattle.std.specs.Str.{bytes_eq}
use Rattle.std.proofs.lemmas.Slice.Eq.{bytes_eq-Decides}
use Rattle.wp_base.specs.declared.kinds.CellKind.{CellKind}
use Rattle.wp_base.specs.declared.kinds.CellKind.TheVariants as cell
use Rattle.wp_base.specs.declared.kinds.Kind.{Kind}
use Rattle.wp_base.specs.declared.kinds.Layout.{Layout}
use Rattle.qed_terms.specs.declared.head.Sort.{Sort}
use Rattle.qed_terms.specs.declared.head.Sort.TheVariants as sort
use Rattle.qed_terms.specs.declared.head.TermOp.{TermOp}
use Rattle.qed_terms.specs.declared.head.TermOp.TheVariants as op
use Rattle.qed_terms.specs.declared.head.FormOp.{FormOp}
use Rattle.qed_terms.specs.declared.head.FormOp.TheVariants as form
use Rattle.qed_terms.specs.declared.head.Head.{Head}
use Rattle.qed_terms.specs.declared.head.Head.TheVariants as h
use Rattle.qed_terms.specs.Names.{is_name, is_memory_name}
use Rattle.qed_terms.specs.Tree.{Tree, node, Trees, stop, list_of}
use Rattle.qed_terms.specs.WellFormed.{Place, term, formula, argument, int, mem, tab, takes_term, takes_name, may_stand, each, form_places, kid_places, kid_count, fits, all_fit}
use Rattle.goal_words.specs.Bytes.{◌>>=◌, expect, front, after, only_if, with_rest, named_part}
use Rattle.goal_words.specs.Kinds.{kind_text, cell_text, row_of, kind_words, cell_of}
use Rattle.goal_words.specs.Names.{name_part, name_sort}
use Rattle.goal_words.specs.Numbers.{number}
use Rattle.goal_words.proofs.Front.{then_some, expect_is, front_after, named_part_is, name_part_is, with_rest_is}
use Rattle.goal_words.proofs.Naming.{kind_is, cell_is}
use Rattle.goal_words.proofs.Numerals.{only_if_is, number_is}
use Rattle.goal_text.specs.Text.{spaced, bracket, layout_text, head_text, tree_text}
use Rattle.goal_text.specs.declared.words.TermWord.{TermWord}
use Rattle.goal_text.specs.declared.words.TermWord.TheVariants as t
use Rattle.goal_text.specs.declared.words.FormWord.{FormWord}
use Rattle.goal_text.specs.declared.words.FormWord.TheVariants as f
use Rattle.goal_text.specs.declared.fronts.FormHead.TheVariants as fh
use Rattle.goal_text.specs.declared.fronts.TermHead.TheVariants as th
use Rattle.goal_text.specs.Words.{term_words, form_words, sort_of}
use Rattle.goal_text.specs.Reader as r
use Rattle.goal_text.specs.Reader.{Inner, Kids, Plan, row, any, frame, no_kids, with_kids, with_terms, repeat, one_more, kids_by, term_end, form_end, closing, opened, after_term, after_form}
use Rattle.goal_text.proofs.Naming.{term_word_text, form_word_text, term_word_is, form_word_is}
use Rattle.goal_text.proofs.Pieces.{bracket_rest}
use Rattle.goal_text.proofs.Rows.{trees_of-list_of, put_all, all_terms, row_terms, op_made, rel_made, app_made, ite_made, not_made, imp_made, iff_made, forall_made, exists_made}
use Rattle.goal_text.proofs.SoundKids.{Sound, Inside, row_sound, many_sound, plain_end, laid_end, front_part, framed_sound}

-- ---- heads, by the kids that they have

plain_row : (inner : Inner) → Sound inner → (place : Place) (word : List ℕ) (fronts : List (List ℕ)) (ps : List Place) (head : Head) (made : Option Layout → Kids → Option Tree)
    → ((ts : Trees) → all_fit ps ts ≡ true → made None (put_all ps ts no_kids) ≡ Some (node head ts)) → may_stand place head ≡ true → ((n : ℕ) → ps ≡ kid_places head n) → ((ts : List (List ℕ)) → head_text head ts ≡ bracket word (fronts ++ ts))
    → (all bytes : List ℕ) (t : Tree) (rest : List ℕ) → all ≡ spaced fronts ++ bytes → (kids_by inner (row ps) no_kids bytes >>= λ k. closing false (λ l. made l k.0) k.1) ≡ Some (t, rest) → Inside place word all t rest
plain_row inner sound place word fronts ps head made is m places text all bytes t rest stands e =
    row_sound inner sound place word fronts ps (λ k. closing false (λ l. made l k))
    (λ ts bytes f. plain_end place word fronts ts head (λ l. made l (put_all ps ts no_kids)) bytes (is ts f) m (ap (λ ps. all_fit ps ts) (sym (places (kid_count ts))) ∙ f) text)
    all bytes t rest stands e

plain_any : (inner : Inner) → Sound inner → (place : Place) (word : List ℕ) (fronts : List (List ℕ)) (p : Place) (head : Head) (made : Option Layout → Kids → Option Tree)
    → ((ts : Trees) → made None (with_kids p (list_of ts) no_kids) ≡ Some (node head ts)) → may_stand place head ≡ true → ((n : ℕ) → each p n ≡ kid_places head n) → ((ts : List (List ℕ)) → head_text head ts ≡ bracket word (fronts ++ ts))
    → (all bytes : List ℕ) (t : Tree) (rest : List ℕ) → all ≡ spaced fronts ++ bytes → (kids_by inner (any p) no_kids bytes >>= λ k. closing false (λ l. made l k.0) k.1) ≡ Some (t, rest) → Inside place word all t rest
plain_any inner sound place word fronts p head made is m places text all bytes t rest stands e =
    many_sound inner sound place word fronts p (λ k. closing false (λ l. made l k))
    (λ ts bytes f. plain_end place word fronts ts head (λ l. made l (with_kids p (list_of ts) no_kids)) bytes (is ts) m (ap (λ ps. all_fit ps ts) (sym (places (kid_count ts))) ∙ f) text)
    all bytes t rest stands e

laid_row : (inner : Inner) → Sound inner → (place : Place) (word : List ℕ) (ps : List Place) (head : Layout → Head) (made : Option Layout → Kids → Option Tree)
    → ((l : Layout) (ts : Trees) → all_fit ps ts ≡ true → made (Some l) (put_all ps ts no_kids) ≡ Some (node (head l) ts)) → ((l : Layout) → may_stand place (head l) ≡ true) → ((l : Layout) (n : ℕ) → ps ≡ kid_places (head l) n)
    → ((l : Layout) (ts : List (List ℕ)) → head_text (head l) ts ≡ bracket word (ts ++ layout_text l ∷ [])) → (bytes : List ℕ) (t : Tree) (rest : List ℕ)
    → (kids_by inner (row ps) no_kids bytes >>= λ k. closing true (λ l. made l k.0) k.1) ≡ Some (t, rest) → Inside place word bytes t rest
laid_row inner sound place word ps head made is m places text bytes t rest e =
    row_sound inner sound place word [] ps (λ k. closing true (λ l. made l k))
    (λ ts bytes f. laid_end place word ts head (λ l. made l (put_all ps ts no_kids)) bytes (λ l. is l ts f) m (λ l. ap (λ ps. all_fit ps ts) (sym (places l (kid_count ts))) ∙ f) text)
    bytes bytes t rest refl e

op_row : (inner : Inner) → Sound inner → (place : Place) (word : List ℕ) (o : TermOp) (fronts : List (List ℕ)) (ps : List Place) → may_stand place (h.Term o) ≡ true → all_terms ps ≡ true → ((n : ℕ) → ps ≡ kid_places (h.Term o) n)
    → ((ts : List (List ℕ)) → head_text (h.Term o) ts ≡ bracket word (fronts ++ ts)) → (all bytes : List ℕ) (t : Tree) (rest : List ℕ) → all ≡ spaced fronts ++ bytes
    → (kids_by inner (row ps) no_kids bytes >>= λ k. term_end (th.Op o) k.0 k.1) ≡ Some (t, rest) → Inside place word all t rest
unfolding term_end
op_row inner sound place word o fronts ps m a places text all bytes t rest stands e =
    plain_row inner sound place word fronts ps (h.Term o) (r.term_made (th.Op o)) (λ ts f. op_made o (put_all ps ts no_kids) ts (row_terms ps ts a f)) m places text all bytes t rest stands e

op_any : (inner : Inner) → Sound inner → (place : Place) (word : List ℕ) (o : TermOp) → may_stand place (h.Term o) ≡ true → ((n : ℕ) → each int n ≡ kid_places (h.Term o) n) → ((ts : List (List ℕ)) → head_text (h.Term o) ts ≡ bracket word ts)
    → (bytes : List ℕ) (t : Tree) (rest : List ℕ) → (kids_by inner (any int) no_kids bytes >>= λ k. term_end (th.Op o) k.0 k.1) ≡ Some (t, rest) → Inside place word bytes t rest
unfolding term_end
op_any inner sound place word o m places text bytes t rest e =
    plain_any inner sound place word [] int (h.Term o) (r.term_made (th.Op o)) (λ ts. op_made o (with_kids int (list_of ts) no_kids) ts (trees_of-list_of ts)) m places text bytes bytes t rest refl e

rel_row : (inner : Inner) → Sound inner → (word : List ℕ) (o : FormOp) (fronts : List (List ℕ)) → all_terms (form_places o) ≡ true → ((ts : List (List ℕ)) → head_text (h.Form o) ts ≡ bracket word (fronts ++ ts))
    → (all bytes : List ℕ) (t : Tree) (rest : List ℕ) → all ≡ spaced fronts ++ bytes → (kids_by inner (row (form_places o)) no_kids bytes >>= λ k. form_end (fh.Rel o) k.0 k.1) ≡ Some (t, rest) → Inside formula word all t rest
unfolding form_end
rel_row inner sound word o fronts a text all bytes t rest stands e =
    plain_row inner sound formula word fronts (form_places o) (h.Form o) (r.form_made (fh.Rel o)) (λ ts f. rel_made o (put_all (form_places o) ts no_kids) ts (row_terms (form_places o) ts a f)) refl (λ n. refl) text all bytes t rest stands e

-- a part in front of the kids
then_made : {A B C : Type 0} (o : Option A) (g : A → B) (f : B → Option C) (y : C) → ((o >>= λ a. Some (g a)) >>= f) ≡ Some y → (a : A) × (o ≡ Some a) × (f (g a) ≡ Some y)
then_made None g f y e = absurd cc
then_made (Some a) g f y e = (a, refl, e)

cell_part_is : (bytes : List ℕ) (k : CellKind) (rest : List ℕ) → named_part cell_of bytes ≡ Some (k, rest) → bytes ≡ spaced (cell_text k ∷ []) ++ rest
cell_part_is bytes k rest h =
    let named = named_part_is cell_of bytes k rest h in
    front_part bytes (cell_text k) rest (named.2 ∙ ap (λ w. 32 ∷ (w ++ rest)) (cell_is named.0 k named.1))

pointers : (k : CellKind) → all_terms (form_places (form.WellFormed k)) ≡ true
pointers (cell.Of k) = refl
pointers cell.Ptr = refl

term_head_sound : (inner : Inner) → Sound inner → (place : Place) (w : TermWord) (bytes : List ℕ) (t : Tree) (rest : List ℕ) → takes_term place (sort_of w) ≡ true → after_term inner (r.term_head w bytes) ≡ Some (t, rest)
    → Inside place (term_word_text w) bytes t rest
unfolding r.term_head term_end
term_head_sound inner sound place t.Add bytes x rest m e = op_any inner sound place (codes "+") op.Add m (λ n. refl) (λ ts. refl) bytes x rest e
term_head_sound inner sound place t.Sub bytes x rest m e = op_row inner sound place (codes "-") op.Sub [] (int ∷ int ∷ []) m refl (λ n. refl) (λ ts. refl) bytes bytes x rest refl e
term_head_sound inner sound place t.Mul bytes x rest m e = op_any inner sound place (codes "*") op.Mul m (λ n. refl) (λ ts. refl) bytes x rest e
term_head_sound inner sound place t.Neg bytes x rest m e = op_row inner sound place (codes "neg") op.Neg [] (int ∷ []) m refl (λ n. refl) (λ ts. refl) bytes bytes x rest refl e
term_head_sound inner sound place t.Div bytes x rest m e = op_row inner sound place (codes "div") op.Div [] (int ∷ int ∷ []) m refl (λ n. refl) (λ ts. refl) bytes bytes x rest refl e
term_head_sound inner sound place t.Mod bytes x rest m e = op_row inner sound place (codes "mod") op.Mod [] (int ∷ int ∷ []) m refl (λ n. refl) (λ ts. refl) bytes bytes x rest refl e
term_head_sound inner sound place t.Wrap bytes x rest m e =
    let whole : Tree × List ℕ = (x, rest) in
    let k = then_made (named_part (row_of kind_words) bytes) (λ (k : Kind × List ℕ). (r.op_row (op.Wrap k.0), k.1)) _ whole e in
    let named = named_part_is (row_of kind_words) bytes k.0.0 k.0.1 k.1 in
    let stands : bytes ≡ 32 ∷ (kind_text k.0.0 ++ k.0.1) = named.2 ∙ ap (λ w. 32 ∷ (w ++ k.0.1)) (kind_is named.0 k.0.0 named.1) in
    op_row inner sound place (codes "wrap") (op.Wrap k.0.0) (kind_text k.0.0 ∷ []) (int ∷ []) m refl (λ n. refl) (λ ts. refl) bytes k.0.1 x rest (front_part bytes (kind_text k.0.0) k.0.1 stands) k.2
term_head_sound inner sound place t.ShiftLeft bytes x rest m e = op_row inner sound place (codes "shl") op.ShiftLeft [] (int ∷ int ∷ []) m refl (λ n. refl) (λ ts. refl) bytes bytes x rest refl e
term_head_sound inner sound place t.ShiftRight bytes x rest m e = op_row inner sound place (codes "shr") op.ShiftRight [] (int ∷ int ∷ []) m refl (λ n. refl) (λ ts. refl) bytes bytes x rest refl e
term_head_sound inner sound place t.BitAnd bytes x rest m e = op_row inner sound place (codes "band") op.BitAnd [] (int ∷ int ∷ []) m refl (λ n. refl) (λ ts. refl) bytes bytes x rest refl e
term_head_sound inner sound place t.BitOr bytes x rest m e = op_row inner sound place (codes "bor") op.BitOr [] (int ∷ int ∷ []) m refl (λ n. refl) (λ ts. refl) bytes bytes x rest refl e
term_head_sound inner sound place t.BitXor bytes x rest m e = op_row inner sound place (codes "bxor") op.BitXor [] (int ∷ int ∷ []) m refl (λ n. refl) (λ ts. refl) bytes bytes x rest refl e
term_head_sound inner sound place t.BitNot bytes x rest m e = op_row inner sound place (codes "bnot") op.BitNot [] (int ∷ []) m refl (λ n. refl) (λ ts. refl) bytes bytes x rest refl e
term_head_sound inner sound place t.Ite bytes x rest m e =
    plain_row inner sound place (codes "ite") [] (formula ∷ int ∷ int ∷ []) h.Ite (r.term_made th.Ite) ite_made m (λ n. refl) (λ ts. refl) bytes bytes x rest refl e
term_head_sound inner sound place t.Load bytes x rest m e = op_row inner sound place (codes "load") op.Load [] (mem ∷ int ∷ int ∷ []) m refl (λ n. refl) (λ ts. refl) bytes bytes x rest refl e
term_head_sound inner sound place t.Count bytes x rest m e = op_row inner sound place (codes "count") op.Count [] (tab ∷ []) m refl (λ n. refl) (λ ts. refl) bytes bytes x rest refl e
term_head_sound inner sound place t.Len bytes x rest m e = op_row inner sound place (codes "len") op.Len [] (tab ∷ int ∷ []) m refl (λ n. refl) (λ ts. refl) bytes bytes x rest refl e
term_head_sound inner sound place t.App bytes x rest m e =
    let whole : Tree × List ℕ = (x, rest) in
    let y = then_made (name_part bytes) (λ (y : List ℕ × List ℕ). ((th.App y.0, any argument), y.1)) _ whole e in
    let name = name_part_is bytes y.0.0 y.0.1 y.1 in
    plain_any inner sound place (codes "app") (y.0.0 ∷ []) argument (h.App y.0.0) (r.term_made (th.App y.0.0)) (λ ts. app_made y.0.0 (with_kids argument (list_of ts) no_kids) ts (trees_of-list_of ts)) (rw (name.0, m)) (λ n. refl) (λ ts. refl)
    bytes y.0.1 x rest (front_part bytes y.0.0 y.0.1 name.1) y.2
term_head_sound inner sound place t.Store bytes x rest m e = op_row inner sound place (codes "store") op.Store [] (mem ∷ int ∷ int ∷ int ∷ []) m refl (λ n. refl) (λ ts. refl) bytes bytes x rest refl e
term_head_sound inner sound place t.Alloc bytes x rest m e =
    laid_row inner sound place (codes "alloc") (tab ∷ []) (λ l. h.Term (op.Alloc l)) (r.term_made th.Alloc) (λ l ts f. op_made (op.Alloc l) (put_all (tab ∷ []) ts no_kids) ts (row_terms (tab ∷ []) ts refl f)) (λ l. m) (λ l n. refl) (λ l ts. refl) bytes x rest e
term_head_sound inner sound place t.Grow bytes x rest m e = op_row inner sound place (codes "grow") op.Grow [] (tab ∷ int ∷ []) m refl (λ n. refl) (λ ts. refl) bytes bytes x rest refl e

-- ---- heads of formulas

form_head_sound : (inner : Inner) → Sound inner → (w : FormWord) (bytes : List ℕ) (t : Tree) (rest : List ℕ) → after_form inner (r.form_head w bytes) ≡ Some (t, rest) → Inside formula (form_word_text w) bytes t rest
unfolding r.form_head form_end
form_head_sound inner sound f.Equal bytes x rest e = rel_row inner sound (codes "=") form.Equal [] refl (λ ts. refl) bytes bytes x rest refl e
form_head_sound inner sound f.AtMost bytes x rest e = rel_row inner sound (codes "<=") form.AtMost [] refl (λ ts. refl) bytes bytes x rest refl e
form_head_sound inner sound f.Less bytes x rest e = rel_row inner sound (codes "<") form.Less [] refl (λ ts. refl) bytes bytes x rest refl e
form_head_sound inner sound f.Same bytes x rest e = rel_row inner sound (codes "same") form.Same [] refl (λ ts. refl) bytes bytes x rest refl e
form_head_sound inner sound f.Not bytes x rest e = plain_row inner sound formula (codes "not") [] (formula ∷ []) h.Not (r.form_made fh.Not) not_made refl (λ n. refl) (λ ts. refl) bytes bytes x rest refl e
form_head_sound inner sound f.And bytes x rest e = plain_any inner sound formula (codes "and") [] formula h.And (r.form_made fh.And) (λ ts. ap (λ ts. Some (node h.And ts)) (trees_of-list_of ts)) refl (λ n. refl) (λ ts. refl) bytes bytes x rest refl e
form_head_sound inner sound f.Or bytes x rest e = plain_any inner sound formula (codes "or") [] formula h.Or (r.form_made fh.Or) (λ ts. ap (λ ts. Some (node h.Or ts)) (trees_of-list_of ts)) refl (λ n. refl) (λ ts. refl) bytes bytes x rest refl e
form_head_sound inner sound f.Imp bytes x rest e = plain_row inner sound formula (codes "imp") [] (formula ∷ formula ∷ []) h.Imp (r.form_made fh.Imp) imp_made refl (λ n. refl) (λ ts. refl) bytes bytes x rest refl e
form_head_sound inner sound f.Iff bytes x rest e = plain_row inner sound formula (codes "iff") [] (formula ∷ formula ∷ []) h.Iff (r.form_made fh.Iff) iff_made refl (λ n. refl) (λ ts. refl) bytes bytes x rest refl e
form_head_sound inner sound f.Forall bytes x rest e =
    let whole : Tree × List ℕ = (x, rest) in
    let y = then_made (name_part bytes) (λ (y : List ℕ × List ℕ). ((fh.Forall y.0, row (kid_places (h.Forall y.0) 0)), y.1)) _ whole e in
    let name = name_part_is bytes y.0.0 y.0.1 y.1 in
    plain_row inner sound formula (codes "forall") (y.0.0 ∷ []) (int ∷ int ∷ formula ∷ []) (h.Forall y.0.0) (r.form_made (fh.Forall y.0.0)) (forall_made y.0.0) (rw name.0) (λ n. refl) (λ ts. refl) bytes y.0.1 x rest (front_part bytes y.0.0 y.0.1 name.1) y.2
form_head_sound inner sound f.Exists bytes x rest e =
    let whole : Tree × List ℕ = (x, rest) in
    let y = then_made (name_part bytes) (λ (y : List ℕ × List ℕ). ((fh.Exists y.0, row (kid_places (h.Exists y.0) 0)), y.1)) _ whole e in
    let name = name_part_is bytes y.0.0 y.0.1 y.1 in
    plain_row inner sound formula (codes "exists") (y.0.0 ∷ []) (int ∷ int ∷ formula ∷ []) (h.Exists y.0.0) (r.form_made (fh.Exists y.0.0)) (exists_made y.0.0) (rw name.0) (λ n. refl) (λ ts. refl) bytes y.0.1 x rest (front_part bytes y.0.0 y.0.1 name.1) y.2
form_head_sound inner sound f.Read bytes x rest e =
    let whole : Tree × List ℕ = (x, rest) in
    let k = then_made (named_part cell_of bytes) (λ (k : CellKind × List ℕ). (r.form_row (form.Read k.0), k.1)) _ whole e in
    rel_row inner sound (codes "read") (form.Read k.0.0) (cell_text k.0.0 ∷ []) refl (λ ts. refl) bytes k.0.1 x rest (cell_part_is bytes k.0.0 k.0.1 k.1) k.2
form_head_sound inner sound f.Write bytes x rest e =
    let whole : Tree × List ℕ = (x, rest) in
    let k = then_made (named_part cell_of bytes) (λ (k : CellKind × List ℕ). (r.form_row (form.Write k.0), k.1)) _ whole e in
    rel_row inner sound (codes "write") (form.Write k.0.0) (cell_text k.0.0 ∷ []) refl (λ ts. refl) bytes k.0.1 x rest (cell_part_is bytes k.0.0 k.0.1 k.1) k.2
form_head_sound inner sound f.Live bytes x rest e = rel_row inner sound (codes "live") form.Live [] refl (λ ts. refl) bytes bytes x rest refl e
form_head_sound inner sound f.Has bytes x rest e =
    laid_row inner sound formula (codes "has") (tab ∷ int ∷ []) (λ l. h.Form (form.Has l)) (r.form_made fh.Has) (λ l ts f. rel_made (form.Has l) (put_all (tab ∷ int ∷ []) ts no_kids) ts (row_terms (tab ∷ int ∷ []) ts refl f)) (λ l. refl) (λ l n. refl) (λ l ts. refl) bytes x rest e
form_head_sound inner sound f.WellFormed bytes x rest e =
    let whole : Tree × List ℕ = (x, rest) in
    let k = then_made (named_part cell_of bytes) (λ (k : CellKind × List ℕ). (r.form_row (form.WellFormed k.0), k.1)) _ whole e in
    rel_row inner sound (codes "wf") (form.WellFormed k.0.0) (cell_text k.0.0 ∷ []) (pointers k.0.0) (λ ts. refl) bytes k.0.1 x rest (cell_part_is bytes k.0.0 k.0.1 k.1) k.2
form_head_sound inner sound f.Frame bytes x rest e = framed_sound inner sound formula bytes x rest refl e

-- ---- trees

-- what stands after the bracket that opens
abbrev Opened : Place → List ℕ → Tree → List ℕ → Type 0
Opened place bytes t rest = (40 ∷ bytes ≡ tree_text t ++ rest) × (fits place t ≡ true)

opened_of : (place : Place) (word bytes : List ℕ) (t : Tree) (rest : List ℕ) → front bytes ≡ word → Inside place word (after bytes) t rest → Opened place bytes t rest
opened_of place word bytes t rest w i = (
  ap (λ l. 40 ∷ l) (front_after bytes ∙ (λ j. w j ++ i.stand j)) ∙ sym (bracket_rest word i.parts rest) ∙ ap (λ l. l ++ rest) (sym i.text),
  i.fit,
)

term_inside_sound : (inner : Inner) → Sound inner → (place : Place) (bytes : List ℕ) (t : Tree) (rest : List ℕ) → after_term inner (r.term_front place bytes) ≡ Some (t, rest) → Opened place bytes t rest
unfolding r.term_front
term_inside_sound inner sound place bytes x rest e =
    let whole : Tree × List ℕ = (x, rest) in
    let y = then_some (r.term_front place bytes) _ whole e in
    let w = then_some (row_of term_words (front bytes)) _ y.0 y.1 in
    let takes = then_some (only_if (takes_term place (sort_of w.0)) w.0) _ y.0 w.2 in
    let taken = only_if_is (takes_term place (sort_of w.0)) w.0 takes.0 takes.1 in
    let kind : takes_term place (sort_of takes.0) ≡ true = ap (λ w. takes_term place (sort_of w)) (sym taken.1) ∙ taken.0 in
    let found : front bytes ≡ term_word_text takes.0 = term_word_is (front bytes) w.0 w.1 ∙ ap term_word_text taken.1 in
    opened_of place (term_word_text takes.0) bytes x rest found (term_head_sound inner sound place takes.0 (after bytes) x rest kind (ap (after_term inner) takes.2 ∙ y.2))

form_inside_sound : (inner : Inner) → Sound inner → (bytes : List ℕ) (t : Tree) (rest : List ℕ) → after_form inner (r.form_front bytes) ≡ Some (t, rest) → Opened formula bytes t rest
unfolding r.form_front
form_inside_sound inner sound bytes x rest e =
    let whole : Tree × List ℕ = (x, rest) in
    let y = then_some (r.form_front bytes) _ whole e in
    let w = then_some (row_of form_words (front bytes)) _ y.0 y.1 in
    opened_of formula (form_word_text w.0) bytes x rest (form_word_is (front bytes) w.0 w.1) (form_head_sound inner sound w.0 (after bytes) x rest (ap (after_form inner) w.2 ∙ y.2))

inside_sound : (inner : Inner) → Sound inner → (place : Place) (bytes : List ℕ) (t : Tree) (rest : List ℕ) → r.inside inner place bytes ≡ Some (t, rest) → Opened place bytes t rest
inside_sound inner sound (term s) bytes x rest e = term_inside_sound inner sound (term s) bytes x rest e
inside_sound inner sound argument bytes x rest e = term_inside_sound inner sound argument bytes x rest e
inside_sound inner sound formula bytes x rest e = form_inside_sound inner sound bytes x rest e

-- ---- leaves

-- the word is the text of a tree that fits
abbrev Leaf : Place → List ℕ → Tree → Type 0
Leaf place word t = (word ≡ tree_text t) × (fits place t ≡ true)

named_sound : (place : Place) (s : Sort) (word : List ℕ) (t : Tree) → (is_name word ≡ true → takes_name place s word ≡ true) → r.named s word ≡ Some t → Leaf place word t
named_sound place s word x k e =
    let y = only_if_is (is_name word) (node (h.Var word s) stop) x e in
    subst (Leaf place word) y.1 (refl, rw (y.0, k y.0))

number_or_sound : (place : Place) (s : Sort) (word : List ℕ) (t : Tree) → takes_term place sort.Int ≡ true → (is_name word ≡ true → takes_name place s word ≡ true) → r.number_or s (number word) word ≡ Some t → Leaf place word t
number_or_sound place s word x m k e = by (number word) refl e
  where
    by : (o : Option ℤ) → number word ≡ o → r.number_or s o word ≡ Some x → Leaf place word x
    by None none e = named_sound place s word x k e
    by (Some z) some e =
        let same : node (h.Num z) stop ≡ x = cc in
        subst (Leaf place word) same (sym (number_is word z some).0, rw m)

argument_takes : (word : List ℕ) → takes_name argument (name_sort word) word ≡ true
argument_takes word = by (is_memory_name word) refl
  where
    by : (b : Bool) → is_memory_name word ≡ b → takes_name argument (cond b sort.Memory sort.Int) word ≡ true
    by true e = e
    by false e = ap not e

truth_sound : (word : List ℕ) (t : Tree) → r.truth_leaf word ≡ Some t → Leaf formula word t
truth_sound word x e = by (bytes_eq word (codes "true")) (bytes_eq word (codes "false")) refl refl e
  where
    by : (a b : Bool) → bytes_eq word (codes "true") ≡ a → bytes_eq word (codes "false") ≡ b → cond a (Some (node h.True stop)) (cond b (Some (node h.False stop)) None) ≡ Some x → Leaf formula word x
    by true b p q e = let same : node h.True stop ≡ x = cc in subst (Leaf formula word) same ((bytes_eq-Decides word (codes "true")).0 p, refl)
    by false true p q e = let same : node h.False stop ≡ x = cc in subst (Leaf formula word) same ((bytes_eq-Decides word (codes "false")).0 q, refl)
    by false false p q e = absurd cc

leaf_sound : (place : Place) (word : List ℕ) (t : Tree) → r.leaf place word ≡ Some t → Leaf place word t
leaf_sound (term sort.Int) word x e = number_or_sound (term sort.Int) sort.Int word x refl (λ n. refl) e
leaf_sound (term sort.Memory) word x e = named_sound (term sort.Memory) sort.Memory word x (λ n. refl) e
leaf_sound (term sort.Table) word x e = named_sound (term sort.Table) sort.Table word x (λ n. refl) e
leaf_sound argument word x e = number_or_sound argument (name_sort word) word x refl (λ n. argument_takes word) e
leaf_sound formula word x e = truth_sound word x e

bracket_tree : (inner : Inner) → Sound inner → (place : Place) (bytes left : List ℕ) (t : Tree) (rest : List ℕ) → expect 40 bytes ≡ Some left → r.inside inner place left ≡ Some (t, rest) → (bytes ≡ tree_text t ++ rest) × (fits place t ≡ true)
bracket_tree inner sound place bytes left x rest some e =
    let y = inside_sound inner sound place left x rest e in
    (expect_is 40 bytes left some ∙ y.0, y.1)

leaf_tree : (place : Place) (bytes : List ℕ) (t : Tree) (rest : List ℕ) → with_rest (after bytes) (r.leaf place (front bytes)) ≡ Some (t, rest) → (bytes ≡ tree_text t ++ rest) × (fits place t ≡ true)
leaf_tree place bytes x rest e =
    let y = with_rest_is (after bytes) (r.leaf place (front bytes)) x rest e in
    let z = leaf_sound place (front bytes) x y.0 in
    (front_after bytes ∙ (λ i. z.0 i ++ y.1 i), z.1)

pub tree_sound : (room : ℕ) → Sound (r.tree room)
unfolding r.tree
tree_sound zero place bytes x rest e = absurd cc
tree_sound (suc room) place bytes x rest e =
    elim (expect 40 bytes) as (λ o. expect 40 bytes ≡ o → r.tree_by o (r.tree room) place bytes ≡ Some (x, rest) → (bytes ≡ tree_text x ++ rest) × (fits place x ≡ true)) [
      | None ↦ (λ none e. leaf_tree place bytes x rest e)
      | Some left ↦ (λ some e. bracket_tree (r.tree room) (tree_sound room) place bytes left x rest some e)
    ]
    refl e
