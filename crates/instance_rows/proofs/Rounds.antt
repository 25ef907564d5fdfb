-- A round: what it adds follows from the branch, and is one list.
use Rattle.std.proofs.Common.{◌≡◌, ◌==◌, ◌≤◌, Bool, true, false, ◌||◌, List, [], ◌∷◌, ◌++◌, refl, sym, ◌∙◌, ap, subst, arith, eqb-true}
use Rattle.qed_terms.specs.Meaning.{World, Values, truth, meaning}
use Rattle.qed_terms.specs.Setting.{Setting, is_regular, are_regular_after, world_of}
use Rattle.qed_terms.specs.Tree.{Tree, node, head_of, kids_in}
use Rattle.qed_rules.specs.Rules.{step}
use Rattle.qed_simplify.specs.Normal.{Normal, Suits}
use Rattle.branches.specs.Branch.{Branch, AreTrue, IsTrueUnder}
use Rattle.instance_rows.specs.Rows.{Row, order_of_unequal, load_of_store, read_of_write, place_of_read, answer_of_alloc, cases_of_wrap, cases_of_quotient, bounds_of_operator, arm_of_ite}
use Rattle.instance_rows.specs.PairRows.{PairRow, frame_of_load, range_of_load, answer_of_layout}
use Rattle.instance_rows.specs.Calls.{cases_of_call}
use Rattle.instance_rows.specs.Occurrences.{occurrences, at_each, at_pairs}
use Rattle.instance_rows.specs.Accesses.{loads_in, accesses_in}
use Rattle.instance_rows.specs.Triggers.{calls_in}
use Rattle.instance_rows.specs.Candidates.{Candidate, Given, none_left, given, passed}
use Rattle.instance_rows.specs.Round.{first_formulas, formulas, is_old, Adds, no_more, adds, is_there, with_markers, loads_that_meet, foralls_that_meet, IsRound}
use Rattle.instance_rows.specs.Laws.{RowIsValid, PairRowIsValid, RowFollows, PairRowFollows, RoundFollows, RoundLeadsToOne}
use Rattle.instance_rows.proofs.Below.{Below}
use Rattle.instance_rows.proofs.Tests.{all_true, and_left}
use Rattle.instance_rows.proofs.Orders.{unequal_follows, loads_true}
use Rattle.instance_rows.proofs.Loads.{stores_valid, frames_follow, ranges_follow}
use Rattle.instance_rows.proofs.Blocks.{writes_valid, reads_valid, allocs_valid, layouts_valid}
use Rattle.instance_rows.proofs.Conversions.{wraps_valid}
use Rattle.instance_rows.proofs.Quotients.{quotients_valid, operators_valid, choices_valid}
use Rattle.instance_rows.proofs.Unfolded.{calls_valid}
use Rattle.instance_rows.proofs.Foralls.{CandidatesTrue, foralls_true}

-- ---- rows at each of several trees

module _ (w : World) (env : Values) where
  each_valid : (row : Row) → RowIsValid w row → (ts : List Tree) → AreTrue w env (at_each row ts)
  each_valid row valid [] = tt
  each_valid row valid (t ∷ ts) = all_true w env (row (head_of t) (kids_in t)) (at_each row ts) (valid (head_of t) (kids_in t) env) (each_valid row valid ts)

  each_follows : (row : Row) → RowFollows w row → (ls : List Tree) → AreTrue w env ls → AreTrue w env (at_each row ls)
  each_follows row follows [] a = tt
  each_follows row follows (node head ts ∷ ls) a = all_true w env (row head ts) (at_each row ls) (follows head ts env a.0) (each_follows row follows ls a.1)

  second_true : (row : Row) → ((head : _) (ts : _) → AreTrue w env (row head ts)) → (us : List Tree) → AreTrue w env (at_each row us)
  second_true row so [] = tt
  second_true row so (u ∷ us) = all_true w env (row (head_of u) (kids_in u)) (at_each row us) (so (head_of u) (kids_in u)) (second_true row so us)

  pairs_valid : (row : PairRow) → PairRowIsValid w row → (ts us : List Tree) → AreTrue w env (at_pairs row ts us)
  pairs_valid row valid [] us = tt
  pairs_valid row valid (t ∷ ts) us =
      all_true w env (at_each (row (head_of t) (kids_in t)) us) (at_pairs row ts us) (second_true (row (head_of t) (kids_in t)) (λ head vs. valid (head_of t) (kids_in t) head vs env) us)
      (pairs_valid row valid ts us)

  pairs_follow : (row : PairRow) → PairRowFollows w row → (ls us : List Tree) → AreTrue w env ls → AreTrue w env (at_pairs row ls us)
  pairs_follow row follows [] us a = tt
  pairs_follow row follows (node g ts ∷ ls) us a =
      all_true w env (at_each (row g ts) us) (at_pairs row ls us) (second_true (row g ts) (λ head vs. follows g ts env a.0 head vs) us) (pairs_follow row follows ls us a.1)

-- ---- candidates that are given

given_true : (below : Below) (w : World) (env : Values) (ls : List Tree) (cs : List Candidate) (fs : List Tree) → Given ls cs fs → CandidatesTrue below w env cs → AreTrue w env fs
given_true below w env ls [] [] none_left a = tt
given_true below w env ls [] (f ∷ fs) r a = elim r [ ]
given_true below w env ls (c ∷ cs) (f ∷ fs) (given g r) a = (a.0, given_true below w env ls cs fs r a.1)
given_true below w env ls (c ∷ cs) fs (passed g r) a = given_true below w env ls cs fs r a.1

one_given : (ls : List Tree) (cs : List Candidate) (fs gs : List Tree) → Given ls cs fs → Given ls cs gs → fs ≡ gs
one_given ls [] [] [] none_left none_left = refl
one_given ls [] [] (g ∷ gs) r s = elim s [ ]
one_given ls [] (f ∷ fs) gs r s = elim r [ ]
one_given ls (c ∷ cs) (f ∷ fs) (g ∷ gs) (given a r) (given b s) = ap (λ z. c.formula ∷ z) (one_given ls cs fs gs r s)
one_given ls (c ∷ cs) (f ∷ fs) gs (given a r) (passed b s) = absurd (b a)
one_given ls (c ∷ cs) fs (g ∷ gs) (passed a r) (given b s) = absurd (a b)
one_given ls (c ∷ cs) fs gs (passed a r) (passed b s) = one_given ls cs fs gs r s

-- ---- formulas that are added

one_adds : (normal : Tree → Tree → Type 0) → ((f m n : Tree) → normal f m → normal f n → m ≡ n) → (there fs gs hs : List Tree) → Adds normal there fs gs → Adds normal there fs hs → gs ≡ hs
one_adds normal one there [] [] [] no_more no_more = refl
one_adds normal one there [] [] (z ∷ hs) r s = elim s [ ]
one_adds normal one there [] (g ∷ gs) hs r s = elim r [ ]
one_adds normal one there (f ∷ fs) (g ∷ gs) (z ∷ hs) (adds n new r) (adds m fresh s) =
    let same = one f g z n m in
    let rest = one_adds normal one (there ++ z ∷ []) fs gs hs (subst (λ y. Adds normal (there ++ y ∷ []) fs gs) same r) s in
    λ i. same i ∷ rest i
one_adds normal one there (f ∷ fs) (g ∷ gs) hs (adds n new r) (is_there {g = z} m old s) = absurd (no_both (one f g z n m) new old)
  where
    no_both : {z : Tree} → g ≡ z → is_old there g ≡ false → is_old there z ≡ true → ⊥
    no_both e a b = let c = sym a ∙ ap (is_old there) e ∙ b in absurd cc
one_adds normal one there (f ∷ fs) gs (z ∷ hs) (is_there {g = g} n old r) (adds m new s) = absurd (no_both (one f g z n m) old new)
  where
    no_both : {g : Tree} → g ≡ z → is_old there g ≡ true → is_old there z ≡ false → ⊥
    no_both e a b = let c = sym a ∙ ap (is_old there) e ∙ b in absurd cc
one_adds normal one there (f ∷ fs) gs hs (is_there n old r) (is_there m older s) = one_adds normal one there fs gs hs r s

module _ (below : Below) (s : Setting) (w : World) (suits : Suits s w) (env : Values) where
  normal_true : (f g : Tree) → Normal (step s) f g → truth w env f ≡ true → truth w env g ≡ true
  normal_true f g n e = below.truths (meaning w env g) (meaning w env f) (below.normal_means s f g n w suits env) ∙ e

  added_true : (there fs gs : List Tree) → Adds (Normal (step s)) there fs gs → AreTrue w env fs → AreTrue w env gs
  added_true there [] [] no_more a = tt
  added_true there [] (g ∷ gs) r a = elim r [ ]
  added_true there (f ∷ fs) (g ∷ gs) (adds n new r) a = (normal_true f g n a.0, added_true (there ++ g ∷ []) fs gs r a.1)
  added_true there (f ∷ fs) gs (is_there n old r) a = added_true there fs gs r a.1

-- ---- the round

module _ (below : Below) (s : Setting) (regular : is_regular s ≡ true) (width : 1 ≤ (world_of s).long_bits) (same_width : s.long_bits ≡ (world_of s).long_bits) (env : Values) where
  abbrev w : World
  w = world_of s

  first_true : (ls ts : List Tree) → AreTrue w env ls → AreTrue w env (first_formulas s ls ts)
  first_true ls ts a =
      all_true w env (at_each order_of_unequal ls) _ (each_follows w env order_of_unequal (unequal_follows w) ls a) (
      all_true w env (at_each load_of_store ts) _ (each_valid w env load_of_store (stores_valid w) ts) (
      all_true w env (at_pairs frame_of_load ls ts) _ (pairs_follow w env frame_of_load (frames_follow w) ls ts a) (
      all_true w env (at_pairs (range_of_load s.long_bits) ls ts) _ (pairs_follow w env (range_of_load s.long_bits) ranges ls ts a) (
      all_true w env (at_each read_of_write ts) _ (each_valid w env read_of_write (writes_valid w) ts) (
      all_true w env (at_each place_of_read ts) _ (each_valid w env place_of_read (reads_valid w) ts) (
      all_true w env (at_each answer_of_alloc ts) _ (each_valid w env answer_of_alloc (allocs_valid below w) ts) (
      all_true w env (at_pairs answer_of_layout ts ts) _ (pairs_valid w env answer_of_layout (layouts_valid below w) ts ts) (
      all_true w env (at_each (cases_of_wrap s.long_bits) ts) _ (each_valid w env (cases_of_wrap s.long_bits) wraps ts) (
      all_true w env (at_each cases_of_quotient ts) _ (each_valid w env cases_of_quotient (quotients_valid below w) ts) (
      all_true w env (at_each bounds_of_operator ts) _ (each_valid w env bounds_of_operator (operators_valid below w) ts)
      (each_valid w env arm_of_ite (choices_valid w) ts)))))))))))
    where
      ranges : PairRowFollows w (range_of_load s.long_bits)
      ranges = subst (λ n. PairRowFollows w (range_of_load n)) (sym same_width) (ranges_follow w)

      wraps : RowIsValid w (cases_of_wrap s.long_bits)
      wraps = subst (λ n. RowIsValid w (cases_of_wrap n)) (sym same_width) (wraps_valid below w width)

  all_formulas_true : (ls ts on_offsets of_foralls : List Tree) → AreTrue w env ls → AreTrue w env on_offsets → AreTrue w env of_foralls → AreTrue w env (formulas s ls ts on_offsets of_foralls)
  all_formulas_true ls ts on_offsets of_foralls a o f =
      all_true w env (first_formulas s ls ts) _ (first_true ls ts a) (all_true w env on_offsets _ o
      (all_true w env (at_each (cases_of_call s.logic) ts) of_foralls (each_valid w env (cases_of_call s.logic) (calls_valid below s regular) ts) f))

  round_true : (b : Branch) (added : List Tree) → IsRound s b added → IsTrueUnder w env b → AreTrue w env added
  round_true b added r a =
      let offsets = given_true below w env (with_markers b) (loads_that_meet b) r.on_offsets r.offsets_given (loads_true below w env (loads_in (occurrences b))) in
      let foralls = given_true below w env (with_markers b) (foralls_that_meet s b) r.of_foralls r.foralls_given
      (foralls_true below w env s.logic (accesses_in (occurrences b)) (calls_in s.logic (occurrences b)) b.literals a.0) in
      added_true below s w (below.suit s regular) env (b.literals ++ b.waiting) (formulas s b.literals (occurrences b) r.on_offsets r.of_foralls) added r.are_added
      (all_formulas_true b.literals (occurrences b) r.on_offsets r.of_foralls a.0 offsets foralls)

-- a regular setting has a width
widths : (s : Setting) → is_regular s ≡ true → 1 ≤ s.long_bits
unfolding is_regular
widths s k = go (s.long_bits == 32) refl (and_left (s.long_bits == 32 || s.long_bits == 64) (are_regular_after [] s.logic) k)
  where
    go : (b : Bool) → (s.long_bits == 32) ≡ b → (b || s.long_bits == 64) ≡ true → 1 ≤ s.long_bits
    go true e q = let n = eqb-true s.long_bits 32 e in omega (arith, n)
    go false e q = let n = eqb-true s.long_bits 64 q in omega (arith, n)

world_width : (s : Setting) → s.long_bits ≡ (world_of s).long_bits
unfolding world_of
world_width s = refl

pub round_follows : Below → RoundFollows
round_follows below s regular b added r env a =
    let width = world_width s in
    round_true below s regular (subst (λ n. 1 ≤ n) width (widths s regular)) width env b added r a

pub round_leads_to_one : Below → RoundLeadsToOne
round_leads_to_one below s b fs gs x y =
    let offsets = one_given (with_markers b) (loads_that_meet b) x.on_offsets y.on_offsets x.offsets_given y.offsets_given in
    let foralls = one_given (with_markers b) (foralls_that_meet s b) x.of_foralls y.of_foralls x.foralls_given y.foralls_given in
    one_adds (Normal (step s)) (below.one_normal s) (b.literals ++ b.waiting) (formulas s b.literals (occurrences b) y.on_offsets y.of_foralls) fs gs
    (subst (λ z. Adds (Normal (step s)) (b.literals ++ b.waiting) z fs) (λ i. formulas s b.literals (occurrences b) (offsets i) (foralls i)) x.are_added) y.are_added
