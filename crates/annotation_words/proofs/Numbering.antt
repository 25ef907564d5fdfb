-- Binders are counted and named, and names looked up, in the words of the code.
use Rattle.std.proofs.Common.{◌≡◌, ◌<◌, ◌≤◌, ℕ, zero, suc, ◌+◌, ◌^◌, Bool, true, false, if◌then◌else◌, List, [], ◌∷◌, ◌++◌, drop, length, get_or, refl, sym, ap, ◌∙◌, append_assoc, arith}
use Rattle.std.specs.Str.{bytes_eq}
use Rattle.std.specs.Fmt.{decimal}
use Rattle.std.proofs.lemmas.Fmt.{decimal-digits_of}
use Rattle.std.proofs.lemmas.List.{at_drop_more, at_drop_all}
use Rattle.acsl_trees.specs.declared.heads.Head.{Head}
use Rattle.acsl_trees.specs.declared.heads.Head.TheVariants as hd
use Rattle.acsl_trees.specs.declared.heads.Label.{Label}
use Rattle.acsl_trees.specs.declared.heads.Range.{Range}
use Rattle.acsl_trees.specs.declared.tree.Tree.{Tree as Code, out-Tree}
use Rattle.acsl_trees.specs.Tree.{trees_of, view_tree, view_trees}
use Rattle.annotation_heads.proofs.Chained_so.{view_whole, head_is}
use Rattle.c_runs.specs.Truth.{heads_of, head_of}
use Rattle.qed_terms.specs.Fresh.{numeral}
use Rattle.acsl_encode.specs.Binders.{Spelled, spelled_at, bound_before, binder_name}
use Rattle.acsl_encode.specs.Encode.{is_range, own_binders, binders, all_binders}
use Rattle.acsl_encode.specs.Readings.{nothing}
use Rattle.annotation_words.specs.declared.parts.Part.{Part}
use Rattle.annotation_words.specs.declared.parts.Part.TheVariants as part
use Rattle.annotation_words.specs.declared.parts.Over.{Over}
use Rattle.annotation_heads.specs.declared.terms.Terms.{Terms}
use Rattle.annotation_words.specs.Parts.{part_of}
use Rattle.annotation_words.specs.Encoded.{names_in}
use Rattle.annotation_heads.specs.View.{view_terms}

-- ---- names of binders

pub bound_more : (names : Spelled) (x : List ℕ) (n count : ℕ) (b : Bool) → b ≡ bytes_eq (spelled_at names n) x → b ≡ true → count ≡ bound_before names x n
    → count + 1 ≡ bound_before names x (n + 1)
bound_more names x n count b e h so =
    let c : count + 1 ≡ suc (bound_before names x n) = omega (arith, so) in
    let more : suc n ≡ n + 1 = omega arith in
    c ∙ ap (λ t. if t then suc (bound_before names x n) else bound_before names x n) (sym h ∙ e) ∙ ap (bound_before names x) more

pub bound_same : (names : Spelled) (x : List ℕ) (n count : ℕ) (b : Bool) → b ≡ bytes_eq (spelled_at names n) x → b ≡ false → count ≡ bound_before names x n
    → count ≡ bound_before names x (n + 1)
bound_same names x n count b e h so =
    let more : suc n ≡ n + 1 = omega arith in
    so ∙ ap (λ t. if t then suc (bound_before names x n) else bound_before names x n) (sym h ∙ e) ∙ ap (bound_before names x) more

pub digits_behind : (base digits : List ℕ) (n : ℕ) → 0 < n → n < 2 ^ 64 → digits ≡ decimal n → (base ++ 33 ∷ []) ++ digits ≡ binder_name base n
digits_behind base digits n some small e =
    ap (λ ds. (base ++ 33 ∷ []) ++ ds) (e ∙ decimal-digits_of n some small) ∙ append_assoc base (33 ∷ []) (numeral n)

-- ---- kids in memory

pub no_range : (kids : List Code) → length kids ≡ 0 → false ≡ is_range (heads_of (trees_of (view_trees kids)))
no_range [] e = refl
no_range (k ∷ ks) e = absurd (omega (arith, e))

first_alone : (head : Head) (ls : List Head) → is_range (head ∷ []) ≡ is_range (head ∷ ls)
first_alone (hd.Elements n count) ls = refl
first_alone (hd.Behind n) ls = refl
first_alone _ ls = refl

pub range_first : (kids : List Code) (k : Code) (b : Bool) → 0 < length kids → k ≡ get_or kids 0 k → b ≡ is_range ((out-Tree k).head ∷ [])
    → b ≡ is_range (heads_of (trees_of (view_trees kids)))
range_first [] k b lt is e = absurd (omega (arith, lt))
range_first (x ∷ xs) k b lt is e =
    e ∙ ap (λ u. is_range ((out-Tree u).head ∷ [])) is ∙ ap (λ h. is_range (h ∷ [])) (sym (head_is x)) ∙ first_alone (head_of (view_tree x)) (heads_of (trees_of (view_trees xs)))

-- ---- how many there are

pub own_bound : (p : Part) (e : Bool) (g : Range) (head : Head) (ls : List Head) → p ≡ part_of head → p ≡ part.Bound e g → 1 ≡ own_binders head ls
own_bound p e g (hd.Every h) ls of is = refl
own_bound p e g (hd.Some h) ls of is = refl
own_bound p e g _ ls of is = absurd (cc (of, is))

pub own_valid : (p : Part) (head : Head) (ls : List Head) (n : ℕ) → p ≡ part_of head → p ≡ part.Valid → n ≡ (if is_range ls then 1 else 0) → n ≡ own_binders head ls
own_valid p (hd.Valid c writable) ls n of is e = e
own_valid p _ ls n of is e = absurd (cc (of, is))

pub own_name : (p : Part) (x : ℕ) (head : Head) (ls : List Head) → p ≡ part_of head → p ≡ part.Name x → 0 ≡ own_binders head ls
own_name p x (hd.Name y) ls of is = refl
own_name p x _ ls of is = absurd (cc (of, is))

pub own_at : (p : Part) (l : Label) (head : Head) (ls : List Head) → p ≡ part_of head → p ≡ part.At l → 0 ≡ own_binders head ls
own_at p l (hd.At l') ls of is = refl
own_at p l _ ls of is = absurd (cc (of, is))

pub own_let : (p : Part) (head : Head) (ls : List Head) → p ≡ part_of head → p ≡ part.Let → 0 ≡ own_binders head ls
own_let p hd.Let ls of is = refl
own_let p _ ls of is = absurd (cc (of, is))

pub own_over : (p : Part) (o : Over) (head : Head) (ls : List Head) → p ≡ part_of head → p ≡ part.Over o → 0 ≡ own_binders head ls
own_over p o (hd.Every g) ls of is = absurd (cc (of, is))
own_over p o (hd.Some g) ls of is = absurd (cc (of, is))
own_over p o (hd.Valid c writable) ls of is = absurd (cc (of, is))
own_over p o _ ls of is = refl

pub ruleset own_laws = (own_bound, own_valid, own_name, own_at, own_let, own_over)

pub counted : (t : Code) (own inside : ℕ) → own ≡ own_binders (out-Tree t).head (heads_of (trees_of (view_trees (out-Tree t).kids)))
    → inside ≡ all_binders (trees_of (view_trees (out-Tree t).kids)) → own + inside ≡ binders (view_tree t)
counted t own inside e k = (λ i. e i + k i) ∙ ap binders (sym (view_whole t))

-- a turn of the count
pub count_turn : (kids : List Code) (i count n whole : ℕ) (k : Code) → i < length kids → k ≡ get_or kids i k → n ≡ binders (view_tree k)
    → count + all_binders (trees_of (view_trees (drop i kids))) ≡ whole → (count + n) + all_binders (trees_of (view_trees (drop (i + 1) kids))) ≡ whole
count_turn kids i count n whole k lt is e so =
    let cut = at_drop_more (λ us. all_binders (trees_of (view_trees us))) kids i k lt in
    let same = ap (λ u. binders (view_tree u)) is in
    omega (arith, cut, same, e, so)

pub count_done : (kids : List Code) (i count whole : ℕ) → length kids ≤ i → count + all_binders (trees_of (view_trees (drop i kids))) ≡ whole → count ≡ whole
count_done kids i count whole all so =
    let none = at_drop_all (λ us. all_binders (trees_of (view_trees us))) kids i all in omega (arith, none, so)

-- ---- what names stand for

pub name_found : (ts : List Terms) (x : ℕ) (t u : Terms) → x < length ts → t ≡ get_or ts x t → u ≡ t → view_terms u ≡ names_in ts x
name_found [] x t u lt is e = absurd (omega (arith, lt))
name_found (y ∷ ys) zero t u lt is e = ap view_terms (e ∙ is)
name_found (y ∷ ys) (suc x) t u lt is e = name_found ys x t u (omega (arith, lt)) is e

pub name_missing : (ts : List Terms) (x : ℕ) → length ts ≤ x → nothing ≡ names_in ts x
name_missing [] x le = refl
name_missing (y ∷ ys) zero le = absurd (omega (arith, le))
name_missing (y ∷ ys) (suc x) le = name_missing ys x (omega (arith, le))
