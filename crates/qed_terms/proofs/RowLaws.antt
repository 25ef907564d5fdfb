-- The trees of a row of nodes.
use Rattle.std.proofs.Common.{◌≡◌, ◌⊎◌, inl, inr, ℕ, zero, suc, ◌+◌, ◌<◌, true, List, [], ◌∷◌, ◌++◌, map, length, get_or, All, refl, sym, ◌∙◌, ap, subst, arith}
use Rattle.std.proofs.lemmas.List.{get_or_append_left, get_or_push, get_or-map, length-map, map_push, length-append}
use Rattle.std.proofs.lemmas.List.Elements.{All-head, All-tail, All-weaker}
use Rattle.qed_terms.specs.declared.head.Head.{Head}
use Rattle.qed_terms.specs.declared.head.Head.TheVariants as h
use Rattle.qed_terms.specs.declared.tree_store.Node.{Node}
use Rattle.qed_terms.specs.Tree.{Tree, Trees, node, trees_of, true_tree}
use Rattle.qed_terms.specs.Meaning.{World, Values, meaning, meanings, head_meaning}
use Rattle.qed_terms.specs.Nodes.{kids_of}
use Rattle.qed_terms.specs.Store.{KeepsOlder, over, is_well_formed}
use Rattle.qed_terms.specs.Rows.{Row, row_of, row_at, IsOrdered, tree_to, tree_at, Holds}
use Rattle.qed_terms.proofs.Kept.{kid_well_formed}
use Rattle.qed_terms.proofs.Lists.{list_of-trees_of, meanings-trees_of}

map_same : (f g : ℕ → Tree) (ks : List ℕ) → All (λ k. f k ≡ g k) ks → map f ks ≡ map g ks
map_same f g [] a = refl
map_same f g (k ∷ ks) a =
    let first = All-head (λ k. f k ≡ g k) k ks a in
    let rest = map_same f g ks (All-tail (λ k. f k ≡ g k) k ks a) in
    λ i. first i ∷ rest i

-- a depth past the place is deep enough
same_depth : (d e : ℕ) (rows : List Row) (i : ℕ) → IsOrdered rows → i < length rows → i < d → i < e → tree_to d rows i ≡ tree_to e rows i
same_depth zero e rows i o below p q = absurd (omega arith)
same_depth (suc d) zero rows i o below p q = absurd (omega arith)
same_depth (suc d) (suc e) rows i o below p q =
    ap (λ ts. node (row_at rows i).0 (trees_of ts))
    (map_same (tree_to d rows) (tree_to e rows) (row_at rows i).1
    (All-weaker (λ k. k < i) (λ k. tree_to d rows k ≡ tree_to e rows k) (λ k l. same_depth d e rows k o (omega (arith, l, below)) (omega (arith, l, p)) (omega (arith, l, q))) (row_at rows i).1 (o i below)))

-- a node more leaves the trees before it
older : (depth : ℕ) (rows : List Row) (r : Row) (i : ℕ) → IsOrdered rows → i < length rows → tree_to depth (rows ++ r ∷ []) i ≡ tree_to depth rows i
older zero rows r i o below = refl
older (suc depth) rows r i o below =
    let same : row_at (rows ++ r ∷ []) i ≡ row_at rows i = get_or_append_left rows (r ∷ []) (h.False, []) i below in
    ap (λ (x : Row). node x.0 (trees_of (map (tree_to depth (rows ++ r ∷ [])) x.1))) same
    ∙ ap (λ ts. node (row_at rows i).0 (trees_of ts))
    (map_same (tree_to depth (rows ++ r ∷ [])) (tree_to depth rows) (row_at rows i).1
    (All-weaker (λ k. k < i) (λ k. tree_to depth (rows ++ r ∷ []) k ≡ tree_to depth rows k) (λ k l. older depth rows r k o (omega (arith, l, below))) (row_at rows i).1 (o i below)))

longer : (rows : List Row) (r : Row) (i : ℕ) → i < length rows → i < length (rows ++ r ∷ [])
longer rows r i k = omega (arith, k, length-append rows (r ∷ []))

pub keeps_older : (rows rows' : List Row) (r : Row) → IsOrdered rows → rows' ≡ rows ++ r ∷ [] → KeepsOlder (Holds rows) (Holds rows') (tree_at rows) (tree_at rows')
keeps_older rows rows' r o e = subst (λ rs. KeepsOlder (Holds rows) (Holds rs) (tree_at rows) (tree_at rs)) (sym e) (record {
  still_held = λ id l. record { below = longer rows r id l.below; fits = ap is_well_formed (older (suc id) rows r id o l.below) ∙ l.fits };
  same_tree = λ id l. older (suc id) rows r id o l.below;
})

pub made : (rows rows' : List Row) (head : Head) (kids : List ℕ) → IsOrdered rows → All (Holds rows) kids → rows' ≡ rows ++ (head, kids) ∷ [] → tree_at rows' (length rows) ≡ over head (map (tree_at rows) kids)
made rows rows' head kids o a e =
    let n = length rows in
    let same : row_at (rows ++ (head, kids) ∷ []) n ≡ (head, kids) = get_or_push rows (head, kids) (h.False, []) n refl in
    ap (λ rs. tree_at rs n) e
    ∙ ap (λ (x : Row). node x.0 (trees_of (map (tree_to n (rows ++ (head, kids) ∷ [])) x.1))) same
    ∙ ap (λ ts. node head (trees_of ts))
    (map_same (tree_to n (rows ++ (head, kids) ∷ [])) (tree_at rows) kids
    (All-weaker (Holds rows) (λ k. tree_to n (rows ++ (head, kids) ∷ []) k ≡ tree_at rows k) (λ k l. older n rows (head, kids) k o l.below ∙ same_depth n (suc k) rows k o l.below l.below (omega arith)) kids a))

-- the new place is held
pub held_now : (rows rows' : List Row) (head : Head) (kids : List ℕ) → IsOrdered rows → All (Holds rows) kids → is_well_formed (over head (map (tree_at rows) kids)) ≡ true → rows' ≡ rows ++ (head, kids) ∷ [] → Holds rows' (length rows)
held_now rows rows' head kids o a f e = record {
  below = let l = ap length e ∙ length-append rows ((head, kids) ∷ []) in omega (arith, l);
  fits = ap is_well_formed (made rows rows' head kids o a e) ∙ f;
}

nat_cases : (i n : ℕ) → i < n + 1 → (i < n) ⊎ (i ≡ n)
nat_cases zero zero k = inr refl
nat_cases zero (suc n) k = inl (omega arith)
nat_cases (suc i) zero k = absurd (omega arith)
nat_cases (suc i) (suc n) k = elim (nat_cases i n (omega (arith, k))) [ inl l ↦ inl (omega (arith, l)) | inr e ↦ inr (ap suc e) ]

-- the row stays ordered
pub ordered_now : (rows : List Row) (head : Head) (kids : List ℕ) → IsOrdered rows → All (Holds rows) kids → IsOrdered (rows ++ (head, kids) ∷ [])
ordered_now rows head kids o a i k = elim (nat_cases i (length rows) (omega (arith, k, length-append rows ((head, kids) ∷ [])))) [
  | inl below ↦ subst (λ (r : Row). All (λ k. k < i) r.1) (sym (get_or_append_left rows ((head, kids) ∷ []) (h.False, []) i below)) (o i below)
  | inr same ↦ subst (λ (r : Row). All (λ k. k < i) r.1) (sym (get_or_push rows (head, kids) (h.False, []) i (sym same)))
      (All-weaker (Holds rows) (λ k. k < i) (λ k l. omega (arith, l.below, same)) kids a)
]

-- ---- reading

here : (nodes : List Node) (rows : List Row) (i : ℕ) (n : Node) → map row_of nodes ≡ rows → i < length rows → n ≡ get_or nodes i n → row_of n ≡ row_at rows i
here nodes rows i n view below is =
    let long = sym (length-map nodes row_of) ∙ ap length view in
    ap row_of is ∙ sym (get_or-map row_of nodes i n (h.False, []) (omega (arith, long, below))) ∙ ap (λ rs. row_at rs i) view

pub head_here : (nodes : List Node) (rows : List Row) (i : ℕ) (n : Node) → map row_of nodes ≡ rows → i < length rows → n ≡ get_or nodes i n → n.head ≡ (row_at rows i).0
head_here nodes rows i n view below is = ap (λ r. r.0) (here nodes rows i n view below is)

pub kids_here : (nodes : List Node) (rows : List Row) (i : ℕ) (n : Node) → map row_of nodes ≡ rows → i < length rows → n ≡ get_or nodes i n → n.kids.items ≡ (row_at rows i).1
kids_here nodes rows i n view below is = ap (λ r. r.1) (here nodes rows i n view below is)

pub kids_at : (rows : List Row) (i : ℕ) → IsOrdered rows → i < length rows → map (tree_at rows) (row_at rows i).1 ≡ kids_of (tree_at rows i)
kids_at rows i o below =
    map_same (tree_at rows) (tree_to i rows) (row_at rows i).1
    (All-weaker (λ k. k < i) (λ k. tree_at rows k ≡ tree_to i rows k) (λ k l. same_depth (suc k) i rows k o (omega (arith, l, below)) (omega arith) l) (row_at rows i).1 (o i below))
    ∙ sym (list_of-trees_of (map (tree_to i rows) (row_at rows i).1))

-- the rows after a push
pub rows_more : (nodes nodes' : List Node) (rows : List Row) (n : Node) (kids : List ℕ) → map row_of nodes ≡ rows → nodes' ≡ nodes ++ n ∷ [] → n.kids.items ≡ kids → map row_of nodes' ≡ rows ++ (n.head, kids) ∷ []
rows_more nodes nodes' rows n kids view more is =
    ap (map row_of) more ∙ map_push row_of nodes n ∙ ap (λ rs. rs ++ row_of n ∷ []) view ∙ ap (λ ks. rows ++ (n.head, ks) ∷ []) is

-- ---- meanings

map_map : {Id : Type 0} (w : World) (env : Values) (tree : Id → Tree) (ks : List Id) → map (meaning w env) (map tree ks) ≡ map (λ k. meaning w env (tree k)) ks
map_map w env tree [] = refl
map_map w env tree (k ∷ ks) = ap (λ vs. meaning w env (tree k) ∷ vs) (map_map w env tree ks)

opened : (w : World) (env : Values) (head : Head) (ts : Trees) → meaning w env (node head ts) ≡ head_meaning w head (λ env'. meanings w env' ts) env
opened w env head ts = refl

pub means_made : {Id : Type 0} (tree : Id → Tree) (head : Head) (ks : List Id) (t : Tree) → t ≡ over head (map tree ks) → (w : World) (env : Values)
    → meaning w env t ≡ head_meaning w head (λ env'. map (λ k. meaning w env' (tree k)) ks) env
means_made tree head ks t e w env =
    let kids : (env' : Values) → meanings w env' (trees_of (map tree ks)) ≡ map (λ k. meaning w env' (tree k)) ks = λ env'. meanings-trees_of w env' (map tree ks) ∙ map_map w env' tree ks in
    ap (meaning w env) e ∙ opened w env head (trees_of (map tree ks)) ∙ (λ i. head_meaning w head (λ env'. kids env' i) env)

-- ---- what is held has kids that are

pub kids_held : (rows : List Row) (i : ℕ) → IsOrdered rows → Holds rows i → All (Holds rows) (row_at rows i).1
kids_held rows i o l k d m =
    let ks = (row_at rows i).1 in
    let same = kids_at rows i o l.below in
    let long : length ks ≡ length (kids_of (tree_at rows i)) = sym (length-map ks (tree_at rows)) ∙ ap length same in
    let e : get_or (kids_of (tree_at rows i)) k true_tree ≡ tree_at rows (get_or ks k d) = ap (λ ts. get_or ts k true_tree) (sym same) ∙ get_or-map (tree_at rows) ks k d true_tree m in
    let before = o i l.below k d m in
    record { below = omega (arith, before, l.below); fits = ap is_well_formed (sym e) ∙ kid_well_formed (tree_at rows i) k l.fits (omega (arith, m, long)) }
