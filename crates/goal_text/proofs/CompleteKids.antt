-- The reader finds kids, layouts and regions in their text.
use Rattle.std.proofs.Common.{◌≡◌, ℕ, ◌+◌, ◌≤◌, true, false, ◌&&◌, List, [], ◌∷◌, ◌++◌, length, length-append, map, codes, Option, Some, None, refl, sym, ap, ◌∙◌, subst, arith, append_assoc, append-nil}
use Rattle.std.specs.List.{list_all}
use Rattle.std.specs.Fmt.{decimal}
use Rattle.std.proofs.lemmas.Bool.{false≢true}
use Rattle.std.proofs.lemmas.Slice.Eq.{bytes_eq-Decides}
use Rattle.wp_base.specs.declared.kinds.CellKind.{CellKind}
use Rattle.wp_base.specs.declared.kinds.Layout.{Layout}
use Rattle.qed_terms.specs.declared.head.Shape.{Shape}
use Rattle.qed_terms.specs.declared.head.Shape.TheVariants as shape
use Rattle.qed_terms.specs.declared.head.TermOp.{TermOp}
use Rattle.qed_terms.specs.declared.head.FormOp.{FormOp}
use Rattle.qed_terms.specs.declared.head.FormOp.TheVariants as form
use Rattle.qed_terms.specs.declared.head.Head.{Head}
use Rattle.qed_terms.specs.declared.head.Head.TheVariants as h
use Rattle.qed_terms.specs.Names.{is_name}
use Rattle.qed_terms.specs.Tree.{Tree, node, Trees, stop, more, trees_of, list_of}
use Rattle.qed_terms.specs.WellFormed.{Place, int, mem, each, form_places, region_places, kid_count, fits, all_fit}
use Rattle.goal_words.specs.Bytes.{Reader, ◌>>=◌, is_plain, ends, front, after, named_part}
use Rattle.goal_words.specs.Kinds.{cell_text, cell_word}
use Rattle.goal_words.specs.Names.{name_part}
use Rattle.goal_words.specs.Numbers.{count, flag, flag_text}
use Rattle.goal_words.proofs.Front.{both, front_of, after_of, plain_count, plain_cell, plain_flag, name_part_of, named_part_of, flag_found}
use Rattle.goal_words.proofs.Naming.{cell_found}
use Rattle.goal_words.proofs.Numerals.{both_true, count_text, below_32}
use Rattle.goal_text.specs.Held.{fits_32, is_held, all_held}
use Rattle.goal_text.specs.Text.{spaced, bracket, layout_text, shape_word, regions_texts, frame_parts, tree_text, tree_texts}
use Rattle.goal_text.specs.declared.fronts.FormHead.TheVariants as fh
use Rattle.goal_text.specs.declared.fronts.TermHead.TheVariants as th
use Rattle.goal_text.specs.Words.{shape_of}
use Rattle.goal_text.specs.Reader as r
use Rattle.goal_text.specs.Reader.{Inner, Kids, row, any, frame, no_kids, with_kids, with_terms, repeat, one_more, kids_by, term_end, form_end, closing, opened, after_term, after_form}
use Rattle.goal_text.proofs.Pieces.{spaced-append, spaced_ends, spaced_long, bracket_rest, Path, repeat_path}
use Rattle.goal_text.proofs.Rows.{trees_of-list_of, put_all, all_terms, terms_put, row_terms, no_more, kids_behind, op_made, rel_made}

-- ---- how long parts are

pub part_long : (x : List ℕ) (xs : List (List ℕ)) → length (spaced (x ∷ xs)) ≡ 1 + (length x + length (spaced xs))
part_long x xs = omega (arith, length-append x (spaced xs))

pub bracket_long : (word : List ℕ) (ps : List (List ℕ)) → length (bracket word ps) ≡ 1 + (length word + (length (spaced ps) + 1))
bracket_long word ps = omega (arith, length-append word (spaced ps ++ 41 ∷ []), length-append (spaced ps) (41 ∷ []))

pub parts_long : (xs ys : List (List ℕ)) → length (spaced (xs ++ ys)) ≡ length (spaced xs) + length (spaced ys)
parts_long xs ys = ap length (spaced-append xs ys) ∙ length-append (spaced xs) (spaced ys)

-- ---- reading trees

-- the tree is read from its text
abbrev pub Reads : Inner → Place → Tree → Type 0
Reads inner place t = (rest : List ℕ) → ends rest ≡ true → inner place (tree_text t ++ rest) ≡ Some (t, rest)

-- each well formed one is whose text is no longer than that
abbrev pub ReadsUpTo : Inner → ℕ → Type 0
ReadsUpTo inner n = (place : Place) (t : Tree) → fits place t ≡ true → is_held t ≡ true → length (tree_text t) ≤ n → Reads inner place t

-- one for each place
pub kids_read : (inner : Inner) (n : ℕ) → ReadsUpTo inner n → (places : List Place) (ts : Trees) (k : Kids) (rest : List ℕ) → all_fit places ts ≡ true → all_held ts ≡ true
    → length (spaced (tree_texts ts)) ≤ n → ends rest ≡ true → r.kids_at inner places k (spaced (tree_texts ts) ++ rest) ≡ Some (put_all places ts k, rest)
unfolding r.kids_at
kids_read inner n up [] stop k rest f h le e = refl
kids_read inner n up [] (more t ts) k rest f h le e = absurd (false≢true f)
kids_read inner n up (p ∷ ps) stop k rest f h le e = absurd (false≢true f)
kids_read inner n up (p ∷ ps) (more t ts) k rest f h le e =
    let x = both_true (fits p t) (all_fit ps ts) f in
    let y = both_true (is_held t) (all_held ts) h in
    let long = part_long (tree_text t) (tree_texts ts) in
    rw (append_assoc (tree_text t) (spaced (tree_texts ts)) rest, up p t x.0 y.0 (omega arith) (spaced (tree_texts ts) ++ rest) (spaced_ends (tree_texts ts) rest e))
    (kids_read inner n up ps ts (with_kids p (t ∷ []) k) rest x.1 y.1 (omega arith) e)

-- as many as there are
each_path : (inner : Inner) (n : ℕ) → ReadsUpTo inner n → (place : Place) (ts : Trees) (k : Kids) → all_fit (each place (kid_count ts)) ts ≡ true → all_held ts ≡ true
    → length (spaced (tree_texts ts)) ≤ n → Path (r.kid inner place) k (tree_texts ts) (with_kids place (list_of ts) k)
each_path inner n up place stop k f h le = no_more place k
each_path inner n up place (more t ts) k f h le =
    let x = both_true (fits place t) (all_fit (each place (kid_count ts)) ts) f in
    let y = both_true (is_held t) (all_held ts) h in
    let long = part_long (tree_text t) (tree_texts ts) in (
      with_kids place (t ∷ []) k,
      (λ rest e. rw (up place t x.0 y.0 (omega arith) rest e)),
      subst (Path (r.kid inner place) (with_kids place (t ∷ []) k) (tree_texts ts)) (kids_behind place (t ∷ []) (list_of ts) k) (each_path inner n up place ts (with_kids place (t ∷ []) k) x.1 y.1 (omega arith)),
    )

pub any_read : (inner : Inner) (n : ℕ) → ReadsUpTo inner n → (place : Place) (ts : Trees) (k : Kids) (rest : List ℕ) → all_fit (each place (kid_count ts)) ts ≡ true → all_held ts ≡ true
    → length (spaced (tree_texts ts)) ≤ n → r.kids_any inner place k (spaced (tree_texts ts) ++ 41 ∷ rest) ≡ Some (with_kids place (list_of ts) k, 41 ∷ rest)
unfolding r.kids_any
any_read inner n up place ts k rest f h le =
    let turns = length (spaced (tree_texts ts) ++ 41 ∷ rest) in
    repeat_path (r.kid inner place) turns k (tree_texts ts) (with_kids place (list_of ts) k) rest (each_path inner n up place ts k f h le) (spaced_long (tree_texts ts) (41 ∷ rest))

-- what is made of the kids of a row, and of any number of kids
row_read : (inner : Inner) (n : ℕ) → ReadsUpTo inner n → (ps : List Place) (finish : Kids → Reader Tree) (x : Tree) (ts : Trees) (bytes rest : List ℕ) → all_fit ps ts ≡ true → all_held ts ≡ true → length (spaced (tree_texts ts)) ≤ n
    → ends bytes ≡ true → finish (put_all ps ts no_kids) bytes ≡ Some (x, rest) → (kids_by inner (row ps) no_kids (spaced (tree_texts ts) ++ bytes) >>= λ k. finish k.0 k.1) ≡ Some (x, rest)
unfolding kids_by
row_read inner n up ps finish x ts bytes rest f h le e is = rw (kids_read inner n up ps ts no_kids bytes f h le e) is

many_read : (inner : Inner) (n : ℕ) → ReadsUpTo inner n → (p : Place) (finish : Kids → Reader Tree) (x : Tree) (ts : Trees) (rest left : List ℕ) → all_fit (each p (kid_count ts)) ts ≡ true → all_held ts ≡ true → length (spaced (tree_texts ts)) ≤ n
    → finish (with_kids p (list_of ts) no_kids) (41 ∷ rest) ≡ Some (x, left) → (kids_by inner (any p) no_kids (spaced (tree_texts ts) ++ 41 ∷ rest) >>= λ k. finish k.0 k.1) ≡ Some (x, left)
unfolding kids_by
many_read inner n up p finish x ts rest left f h le is = rw (any_read inner n up p ts no_kids rest f h le) is

closing_plain : (made : Option Layout → Option Tree) (x : Tree) (rest : List ℕ) → made None ≡ Some x → closing false made (41 ∷ rest) ≡ Some (x, rest)
closing_plain made x rest h = rw h

pub plain_row : (inner : Inner) (n : ℕ) → ReadsUpTo inner n → (ps : List Place) (head : Head) (made : Option Layout → Kids → Option Tree) → ((ts : Trees) → all_fit ps ts ≡ true → made None (put_all ps ts no_kids) ≡ Some (node head ts)) → (ts : Trees) (rest : List ℕ)
    → all_fit ps ts ≡ true → all_held ts ≡ true → length (spaced (tree_texts ts)) ≤ n → (kids_by inner (row ps) no_kids (spaced (tree_texts ts) ++ 41 ∷ rest) >>= λ k. closing false (λ l. made l k.0) k.1) ≡ Some (node head ts, rest)
plain_row inner n up ps head made is ts rest f k le =
    row_read inner n up ps (λ k. closing false (λ l. made l k)) (node head ts) ts (41 ∷ rest) rest f k le refl (closing_plain (λ l. made l (put_all ps ts no_kids)) (node head ts) rest (is ts f))

pub plain_any : (inner : Inner) (n : ℕ) → ReadsUpTo inner n → (p : Place) (head : Head) (made : Option Layout → Kids → Option Tree) → ((ts : Trees) → made None (with_kids p (list_of ts) no_kids) ≡ Some (node head ts)) → (ts : Trees) (rest : List ℕ)
    → all_fit (each p (kid_count ts)) ts ≡ true → all_held ts ≡ true → length (spaced (tree_texts ts)) ≤ n → (kids_by inner (any p) no_kids (spaced (tree_texts ts) ++ 41 ∷ rest) >>= λ k. closing false (λ l. made l k.0) k.1) ≡ Some (node head ts, rest)
plain_any inner n up p head made is ts rest f k le =
    many_read inner n up p (λ k. closing false (λ l. made l k)) (node head ts) ts rest rest f k le (closing_plain (λ l. made l (with_kids p (list_of ts) no_kids)) (node head ts) rest (is ts))

pub op_row : (inner : Inner) (n : ℕ) → ReadsUpTo inner n → (o : TermOp) (ps : List Place) → all_terms ps ≡ true → (ts : Trees) (rest : List ℕ) → all_fit ps ts ≡ true → all_held ts ≡ true → length (spaced (tree_texts ts)) ≤ n
    → (kids_by inner (row ps) no_kids (spaced (tree_texts ts) ++ 41 ∷ rest) >>= λ k. term_end (th.Op o) k.0 k.1) ≡ Some (node (h.Term o) ts, rest)
unfolding term_end
op_row inner n up o ps a ts rest f k le = plain_row inner n up ps (h.Term o) (r.term_made (th.Op o)) (λ ts f. op_made o (put_all ps ts no_kids) ts (row_terms ps ts a f)) ts rest f k le

pub op_any : (inner : Inner) (n : ℕ) → ReadsUpTo inner n → (o : TermOp) (ts : Trees) (rest : List ℕ) → all_fit (each int (kid_count ts)) ts ≡ true → all_held ts ≡ true → length (spaced (tree_texts ts)) ≤ n
    → (kids_by inner (any int) no_kids (spaced (tree_texts ts) ++ 41 ∷ rest) >>= λ k. term_end (th.Op o) k.0 k.1) ≡ Some (node (h.Term o) ts, rest)
unfolding term_end
op_any inner n up o ts rest f k le = plain_any inner n up int (h.Term o) (r.term_made (th.Op o)) (λ ts. op_made o (with_kids int (list_of ts) no_kids) ts (trees_of-list_of ts)) ts rest f k le

pub rel_row : (inner : Inner) (n : ℕ) → ReadsUpTo inner n → (o : FormOp) → all_terms (form_places o) ≡ true → (ts : Trees) (rest : List ℕ) → all_fit (form_places o) ts ≡ true → all_held ts ≡ true → length (spaced (tree_texts ts)) ≤ n
    → (kids_by inner (row (form_places o)) no_kids (spaced (tree_texts ts) ++ 41 ∷ rest) >>= λ k. form_end (fh.Rel o) k.0 k.1) ≡ Some (node (h.Form o) ts, rest)
unfolding form_end
rel_row inner n up o a ts rest f k le = plain_row inner n up (form_places o) (h.Form o) (r.form_made (fh.Rel o)) (λ ts f. rel_made o (put_all (form_places o) ts no_kids) ts (row_terms (form_places o) ts a f)) ts rest f k le

-- ---- names and kinds in front of kids

pub name_front : (x : List ℕ) (ps : List (List ℕ)) (rest : List ℕ) → is_name x ≡ true → name_part (spaced (x ∷ ps) ++ 41 ∷ rest) ≡ Some (x, spaced ps ++ 41 ∷ rest)
name_front x ps rest n = ap name_part (ap (λ l. 32 ∷ l) (append_assoc x (spaced ps) (41 ∷ rest))) ∙ name_part_of x (spaced ps ++ 41 ∷ rest) n (spaced_ends ps (41 ∷ rest) refl)

-- what the word in front names
pub named_front : {X : Type 0} (names : List ℕ → Option X) (word : List ℕ) (ps : List (List ℕ)) (rest : List ℕ) (x : X) → names word ≡ Some x → list_all is_plain word ≡ true
    → named_part names (spaced (word ∷ ps) ++ 41 ∷ rest) ≡ Some (x, spaced ps ++ 41 ∷ rest)
named_front names word ps rest x n p =
    ap (named_part names) (ap (λ l. 32 ∷ l) (append_assoc word (spaced ps) (41 ∷ rest)))
    ∙ named_part_of names word (spaced ps ++ 41 ∷ rest) x n p (spaced_ends ps (41 ∷ rest) refl)

-- ---- layouts

pub opened_read : (word inside : List ℕ) → list_all is_plain word ≡ true → ends inside ≡ true → opened word (40 ∷ (word ++ inside)) ≡ Some inside
opened_read word inside p e = rw (front_of word inside p e, after_of word inside p e, (bytes_eq-Decides word word).1 refl)

cells_path : (ks done : List CellKind) → Path (one_more cell_word) done (map cell_text ks) (done ++ ks)
cells_path [] done = sym (append-nil done)
cells_path (k ∷ ks) done = (
  done ++ k ∷ [],
  (λ rest e. rw (front_of (cell_text k) rest (plain_cell k) e, after_of (cell_text k) rest (plain_cell k) e, cell_found k)),
  subst (Path (one_more cell_word) (done ++ k ∷ []) (map cell_text ks)) (append_assoc done (k ∷ []) ks) (cells_path ks (done ++ k ∷ [])),
)

inside_read : (l : Layout) (rest : List ℕ) → fits_32 l ≡ true → r.layout_inside (spaced (flag_text l.writable ∷ decimal l.count ∷ map cell_text l.cells) ++ 41 ∷ rest) ≡ Some (l, rest)
inside_read l rest h =
    let ks = map cell_text l.cells in
    let turns = length (spaced ks ++ 41 ∷ rest) in
    rw (
      named_front flag (flag_text l.writable) (decimal l.count ∷ ks) rest l.writable (flag_found l.writable) (plain_flag l.writable),
      named_front count (decimal l.count) ks rest l.count (count_text l.count h) (plain_count l.count (below_32 l.count h)),
      repeat_path (one_more cell_word) turns [] ks l.cells rest (cells_path l.cells []) (spaced_long ks (41 ∷ rest)),
    )

layout_by : (bytes inside : List ℕ) (x : Layout × List ℕ) → opened (codes "lay") bytes ≡ Some inside → r.layout_inside inside ≡ Some x → r.layout_part (32 ∷ bytes) ≡ Some x
unfolding r.layout_part
layout_by bytes inside x o h = rw o h

layout_read : (l : Layout) (rest : List ℕ) → fits_32 l ≡ true → r.layout_part (32 ∷ (layout_text l ++ rest)) ≡ Some (l, rest)
layout_read l rest h =
    let ps = flag_text l.writable ∷ decimal l.count ∷ map cell_text l.cells in
    let inside = spaced ps ++ 41 ∷ rest in
    ap (λ x. r.layout_part (32 ∷ x)) (bracket_rest (codes "lay") ps rest)
    ∙ layout_by (40 ∷ (codes "lay" ++ inside)) inside (l, rest) (opened_read (codes "lay") inside refl (spaced_ends ps (41 ∷ rest) refl)) (inside_read l rest h)

closing_laid : (made : Option Layout → Option Tree) (l : Layout) (x : Tree) (rest : List ℕ) → fits_32 l ≡ true → made (Some l) ≡ Some x → closing true made (32 ∷ (layout_text l ++ 41 ∷ rest)) ≡ Some (x, rest)
closing_laid made l x rest w h = rw (layout_read l (41 ∷ rest) w, h)

pub laid_row : (inner : Inner) (n : ℕ) → ReadsUpTo inner n → (ps : List Place) (head : Head) (made : Option Layout → Kids → Option Tree) (l : Layout) → ((ts : Trees) → all_fit ps ts ≡ true → made (Some l) (put_all ps ts no_kids) ≡ Some (node head ts)) → (ts : Trees) (rest : List ℕ)
    → all_fit ps ts ≡ true → all_held ts ≡ true → fits_32 l ≡ true → length (spaced (tree_texts ts ++ layout_text l ∷ [])) ≤ n
    → (kids_by inner (row ps) no_kids (spaced (tree_texts ts ++ layout_text l ∷ []) ++ 41 ∷ rest) >>= λ k. closing true (λ l. made l k.0) k.1) ≡ Some (node head ts, rest)
laid_row inner n up ps head made l is ts rest f k w le =
    let last = 32 ∷ (layout_text l ++ 41 ∷ rest) in
    let long = parts_long (tree_texts ts) (layout_text l ∷ []) in
    let all : spaced (tree_texts ts ++ layout_text l ∷ []) ++ 41 ∷ rest ≡ spaced (tree_texts ts) ++ last =
    ap (λ x. x ++ 41 ∷ rest) (spaced-append (tree_texts ts) (layout_text l ∷ [])) ∙ append_assoc (spaced (tree_texts ts)) (spaced (layout_text l ∷ [])) (41 ∷ rest)
    ∙ ap (λ x. spaced (tree_texts ts) ++ 32 ∷ (x ++ 41 ∷ rest)) (append-nil (layout_text l))
    in
    ap (λ bytes. kids_by inner (row ps) no_kids bytes >>= λ k. closing true (λ l. made l k.0) k.1) all
    ∙ row_read inner n up ps (λ k. closing true (λ l. made l k)) (node head ts) ts last rest f k (omega arith) refl (closing_laid (λ l. made l (put_all ps ts no_kids)) l (node head ts) rest w (is ts f))

-- ---- regions

shape_found : (s : Shape) → shape_of (shape_word s) ≡ Some s
shape_found shape.Cells = refl
shape_found shape.New = refl

plain_shape : (s : Shape) → list_all is_plain (shape_word s) ≡ true
plain_shape shape.Cells = refl
plain_shape shape.New = refl

-- more shapes and their terms
abbrev framed_kids : Kids → List Shape → List Tree → Kids
framed_kids k shapes ts = record { formulas = k.formulas; terms = k.terms ++ ts; shapes = k.shapes ++ shapes }

abbrev lists : Kids → List Tree → List Shape → Kids
lists k ts shapes = record { formulas = k.formulas; terms = ts; shapes = shapes }

region_by : (inner : Inner) (k : Kids) (sh : Shape) (bytes inside rest : List ℕ) (k' : Kids) → front bytes ≡ shape_word sh → after bytes ≡ inside → r.kids_at inner (r.shape_places sh) k inside ≡ Some (k', 41 ∷ rest)
    → r.region inner k (40 ∷ bytes) ≡ Some (r.with_shape k' sh, rest)
unfolding r.region
region_by inner k sh bytes inside rest k' w e h = rw (w, shape_found sh, e, h)

shape_terms : (s : Shape) → all_terms (r.shape_places s) ≡ true
shape_terms shape.Cells = refl
shape_terms shape.New = refl

region_read : (inner : Inner) (n : ℕ) → ReadsUpTo inner n → (k : Kids) (sh : Shape) (ts : Trees) (rest : List ℕ) → all_fit (r.shape_places sh) ts ≡ true → all_held ts ≡ true
    → length (bracket (shape_word sh) (tree_texts ts)) ≤ n → r.region inner k (bracket (shape_word sh) (tree_texts ts) ++ rest) ≡ Some (r.with_shape (with_terms k (list_of ts)) sh, rest)
region_read inner n up k sh ts rest f h le =
    let ps = tree_texts ts in
    let inside = spaced ps ++ 41 ∷ rest in
    let e = spaced_ends ps (41 ∷ rest) refl in
    let long = bracket_long (shape_word sh) ps in
    let put : r.kids_at inner (r.shape_places sh) k inside ≡ Some (with_terms k (list_of ts), 41 ∷ rest) =
    kids_read inner n up (r.shape_places sh) ts k (41 ∷ rest) f h (omega arith) refl ∙ ap (λ k. both k (41 ∷ rest)) (terms_put (r.shape_places sh) ts k (shape_terms sh) f)
    in
    ap (r.region inner k) (bracket_rest (shape_word sh) ps rest)
    ∙ region_by inner k sh (shape_word sh ++ inside) inside rest (with_terms k (list_of ts)) (front_of (shape_word sh) inside (plain_shape sh) e) (after_of (shape_word sh) inside (plain_shape sh) e) put

-- one region and those after it
region_path : (inner : Inner) (n : ℕ) → ReadsUpTo inner n → (k : Kids) (sh : Shape) (shapes : List Shape) (ts : Trees) (ps : List (List ℕ)) (kids : List Tree) → all_fit (r.shape_places sh) ts ≡ true → all_held ts ≡ true
    → length (bracket (shape_word sh) (tree_texts ts)) ≤ n → Path (r.region inner) (r.with_shape (with_terms k (list_of ts)) sh) ps (framed_kids (r.with_shape (with_terms k (list_of ts)) sh) shapes kids)
    → Path (r.region inner) k (bracket (shape_word sh) (tree_texts ts) ∷ ps) (framed_kids k (sh ∷ shapes) (list_of ts ++ kids))
region_path inner n up k sh shapes ts ps kids f h le path =
    let m = r.with_shape (with_terms k (list_of ts)) sh in (
      m,
      (λ rest e. region_read inner n up k sh ts rest f h le),
      subst (Path (r.region inner) m ps) (λ i. lists k (append_assoc k.terms (list_of ts) kids i) (append_assoc k.shapes (sh ∷ []) shapes i)) path,
    )

regions_path : (inner : Inner) (n : ℕ) → ReadsUpTo inner n → (shapes : List Shape) (ts : Trees) (s : Kids) → all_fit (region_places shapes) ts ≡ true → all_held ts ≡ true
    → length (spaced (regions_texts shapes (tree_texts ts))) ≤ n → Path (r.region inner) s (regions_texts shapes (tree_texts ts)) (framed_kids s shapes (list_of ts))
regions_path inner n up [] stop s f h le = sym (λ i. lists s (append-nil s.terms i) (append-nil s.shapes i))
regions_path inner n up [] (more t ts) s f h le = absurd (false≢true f)
regions_path inner n up (shape.New ∷ shapes) stop s f h le = absurd (false≢true f)
regions_path inner n up (shape.New ∷ shapes) (more t ts) s f h le =
    let x = both_true (fits int t) (all_fit (region_places shapes) ts) f in
    let y = both_true (is_held t) (all_held ts) h in
    let ps = regions_texts shapes (tree_texts ts) in
    let long = part_long (bracket (codes "new") (tree_text t ∷ [])) ps in
    region_path inner n up s shape.New shapes (more t stop) ps (list_of ts) (rw x.0) (rw y.0) (omega arith)
    (regions_path inner n up shapes ts (r.with_shape (with_terms s (t ∷ [])) shape.New) x.1 y.1 (omega arith))
regions_path inner n up (shape.Cells ∷ shapes) stop s f h le = absurd (false≢true f)
regions_path inner n up (shape.Cells ∷ shapes) (more a stop) s f h le = absurd (false≢true (both_true (fits int a) false f).1)
regions_path inner n up (shape.Cells ∷ shapes) (more a (more b stop)) s f h le =
    let x = both_true (fits int a) (fits int b && false) f in
    absurd (false≢true (both_true (fits int b) false x.1).1)
regions_path inner n up (shape.Cells ∷ shapes) (more a (more b (more c ts))) s f h le =
    let x = both_true (fits int a) (fits int b && (fits int c && all_fit (region_places shapes) ts)) f in
    let x' = both_true (fits int b) (fits int c && all_fit (region_places shapes) ts) x.1 in
    let x'' = both_true (fits int c) (all_fit (region_places shapes) ts) x'.1 in
    let y = both_true (is_held a) (is_held b && (is_held c && all_held ts)) h in
    let y' = both_true (is_held b) (is_held c && all_held ts) y.1 in
    let y'' = both_true (is_held c) (all_held ts) y'.1 in
    let ps = regions_texts shapes (tree_texts ts) in
    let long = part_long (bracket (codes "cells") (tree_text a ∷ tree_text b ∷ tree_text c ∷ [])) ps in
    region_path inner n up s shape.Cells shapes (more a (more b (more c stop))) ps (list_of ts) (rw (x.0, x'.0, x''.0)) (rw (y.0, y'.0, y''.0)) (omega arith)
    (regions_path inner n up shapes ts (r.with_shape (with_terms s (a ∷ b ∷ c ∷ [])) shape.Cells) x''.1 y''.1 (omega arith))

framed_by : (inner : Inner) (bytes inside rest : List ℕ) (m k : Kids) → r.kids_at inner (mem ∷ mem ∷ []) no_kids bytes ≡ Some (m, inside) → repeat (r.region inner) (length inside) m inside ≡ Some (k, 41 ∷ rest)
    → (kids_by inner frame no_kids bytes >>= λ k. form_end fh.Frame k.0 k.1) ≡ Some (node (h.Form (form.Frame k.shapes)) (trees_of k.terms), rest)
unfolding kids_by form_end
framed_by inner bytes inside rest m k a b = rw (a, b)

pub frame_read : (inner : Inner) (n : ℕ) → ReadsUpTo inner n → (shapes : List Shape) (ts : Trees) (rest : List ℕ) → all_fit (form_places (form.Frame shapes)) ts ≡ true → all_held ts ≡ true
    → length (spaced (frame_parts shapes (tree_texts ts))) ≤ n → (kids_by inner frame no_kids (spaced (frame_parts shapes (tree_texts ts)) ++ 41 ∷ rest) >>= λ k. form_end fh.Frame k.0 k.1) ≡ Some (node (h.Form (form.Frame shapes)) ts, rest)
frame_read inner n up shapes stop rest f k le = absurd (false≢true f)
frame_read inner n up shapes (more a stop) rest f k le = absurd (false≢true (both_true (fits mem a) false f).1)
frame_read inner n up shapes (more a (more b ts)) rest f k le =
    let x = both_true (fits mem a) (fits mem b && all_fit (region_places shapes) ts) f in
    let x' = both_true (fits mem b) (all_fit (region_places shapes) ts) x.1 in
    let y = both_true (is_held a) (is_held b && all_held ts) k in
    let y' = both_true (is_held b) (all_held ts) y.1 in
    let two = more a (more b stop) in
    let first = with_terms no_kids (a ∷ b ∷ []) in
    let ps = regions_texts shapes (tree_texts ts) in
    let inside = spaced ps ++ 41 ∷ rest in
    let long = parts_long (tree_texts two) ps in
    let all : spaced (tree_texts two ++ ps) ++ 41 ∷ rest ≡ spaced (tree_texts two) ++ inside =
    ap (λ x. x ++ 41 ∷ rest) (spaced-append (tree_texts two) ps) ∙ append_assoc (spaced (tree_texts two)) (spaced ps) (41 ∷ rest)
    in
    ap (λ bytes. kids_by inner frame no_kids bytes >>= λ k. form_end fh.Frame k.0 k.1) all
    ∙ framed_by inner (spaced (tree_texts two) ++ inside) inside rest first (framed_kids first shapes (list_of ts))
    (kids_read inner n up (mem ∷ mem ∷ []) two no_kids inside (rw (x.0, x'.0)) (rw (y.0, y'.0)) (omega arith) (spaced_ends ps (41 ∷ rest) refl))
    (repeat_path (r.region inner) (length inside) first ps (framed_kids first shapes (list_of ts)) rest (regions_path inner n up shapes ts first x'.1 y'.1 (omega arith)) (spaced_long ps (41 ∷ rest)))
    ∙ ap (λ us. both (node (h.Form (form.Frame shapes)) (more a (more b us))) rest) (trees_of-list_of ts)
