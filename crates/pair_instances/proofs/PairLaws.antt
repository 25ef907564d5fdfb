-- Rows at two nodes, one pair after another.
use Rattle.std.proofs.Common.{◌≡◌, ℕ, ◌+◌, ◌<◌, ◌≤◌, Bool, false, List, [], ◌∷◌, ◌++◌, map, take, length, get_or, append_assoc, refl, sym, ◌∙◌, ap}
use Rattle.std.proofs.lemmas.List.{map_push, take_all}
use Rattle.qed_terms.specs.declared.head.Head.{Head}
use Rattle.qed_terms.specs.declared.head.Head.TheVariants as h
use Rattle.qed_terms.specs.declared.head.FormOp.TheVariants as form
use Rattle.qed_terms.specs.Tree.{Tree, Trees, head_of, kids_in}
use Rattle.instance_rows.specs.Rows.{Row}
use Rattle.instance_rows.specs.PairRows as pairs
use Rattle.instance_rows.specs.Occurrences.{at_each, at_pairs}
use Rattle.drawn_instances.specs.Drawn.{row_at}
use Rattle.branch_accesses.proofs.Gathered.{nil_behind, take_one}
use Rattle.pair_instances.specs.declared.pairs.PairRow.{PairRow}
use Rattle.pair_instances.specs.declared.pairs.PairRow.TheVariants as r
use Rattle.pair_instances.specs.Facts.{row_of_pair}
use Rattle.pair_instances.specs.PairRows.{begins, pair_row, row_after}

-- ---- a first node without formulas

no_begin : (bits : ℕ) (row : PairRow) (g head : Head) (us ts : Trees) → begins row g ≡ false → pair_row bits row g us head ts ≡ []
no_begin bits r.FrameOfLoad (h.Form (form.Frame shapes)) head us ts e = absurd cc
no_begin bits r.FrameOfLoad g head us ts e = refl
no_begin bits r.RangeOfLoad (h.Form (form.WellFormed k)) head us ts e = absurd cc
no_begin bits r.RangeOfLoad g head us ts e = refl
no_begin bits r.AnswerOfLayout (h.Form (form.Has l)) head us ts e = absurd cc
no_begin bits r.AnswerOfLayout g head us ts e = refl

none_each : (row : Row) (ts : List Tree) → ((head : Head) (us : Trees) → row head us ≡ []) → at_each row ts ≡ []
none_each row [] n = refl
none_each row (t ∷ ts) n = (λ i. n (head_of t) (kids_in t) i ++ none_each row ts n i)

pub not_begun : {Id : Type 0} (tree : Id → Tree) (bits : ℕ) (row : PairRow) (t : Tree) (g : Head) (b : Bool) (ts done : List Tree) → g ≡ head_of t → b ≡ begins row g → b ≡ false
    → done ≡ done ++ at_each (row_after (pair_row bits row) t) ts
not_begun tree bits row t g b ts done p s e =
    sym (nil_behind done) ∙ ap (λ fs. done ++ fs) (sym (none_each (row_after (pair_row bits row) t) ts (λ head us. no_begin bits row (head_of t) head (kids_in t) us (ap (begins row) (sym p) ∙ sym s ∙ e))))

pub ruleset begin_laws = (not_begun)

-- ---- a pair as a row at the second node

pub at_second : (row : pairs.PairRow) (t u : Tree) → row_of_pair row t u ≡ row_at (row_after row t) u
unfolding row_of_pair row_at
at_second row t u = refl

-- ---- one first node more

pairs_append : (row : pairs.PairRow) (ts us seconds : List Tree) → at_pairs row (ts ++ us) seconds ≡ at_pairs row ts seconds ++ at_pairs row us seconds
pairs_append row [] us seconds = refl
pairs_append row (t ∷ ts) us seconds =
    ap (λ fs. at_each (row_after row t) seconds ++ fs) (pairs_append row ts us seconds) ∙ sym (append_assoc (at_each (row_after row t) seconds) (at_pairs row ts seconds) (at_pairs row us seconds))

pairs_push : (row : pairs.PairRow) (ts : List Tree) (t : Tree) (seconds : List Tree) → at_pairs row (ts ++ t ∷ []) seconds ≡ at_pairs row ts seconds ++ at_each (row_after row t) seconds
pairs_push row ts t seconds = pairs_append row ts (t ∷ []) seconds ∙ ap (λ fs. at_pairs row ts seconds ++ fs) (nil_behind (at_each (row_after row t) seconds))

pub pairs_more : {Id : Type 0} (tree : Id → Tree) (row : pairs.PairRow) (firsts : List Id) (i : ℕ) (first : Id) (seconds before there there' : List Tree) (t : Tree) (us : List Tree)
    → i < length firsts → first ≡ get_or firsts i first → t ≡ tree first → us ≡ seconds → there ≡ before ++ at_pairs row (map tree (take i firsts)) seconds
    → there' ≡ there ++ at_each (row_after row t) us → there' ≡ before ++ at_pairs row (map tree (take (i + 1) firsts)) seconds
pairs_more tree row firsts i first seconds before there there' t us k e s m f g =
    let done = at_pairs row (map tree (take i firsts)) seconds in
    g ∙ (λ j. f j ++ at_each (row_after row (s j)) (m j)) ∙ append_assoc before done (at_each (row_after row (tree first)) seconds)
    ∙ ap (λ fs. before ++ fs)
    (sym (pairs_push row (map tree (take i firsts)) (tree first) seconds) ∙ ap (λ ts. at_pairs row ts seconds) (sym (map_push tree (take i firsts) first) ∙ ap (map tree) (sym (take_one firsts i first k e))))

pub pairs_done : {Id : Type 0} (tree : Id → Tree) (row : pairs.PairRow) (firsts : List Id) (i : ℕ) (seconds before there : List Tree)
    → there ≡ before ++ at_pairs row (map tree (take i firsts)) seconds → length firsts ≤ i → there ≡ before ++ at_pairs row (map tree firsts) seconds
pairs_done tree row firsts i seconds before there f k = f ∙ ap (λ is. before ++ at_pairs row (map tree is) seconds) (take_all i firsts k)

-- at the first one
pub no_pairs : {Id : Type 0} (tree : Id → Tree) (row : pairs.PairRow) (firsts : List Id) (seconds before : List Tree) → before ≡ before ++ at_pairs row (map tree (take 0 firsts)) seconds
no_pairs tree row firsts seconds before = sym (nil_behind before)
