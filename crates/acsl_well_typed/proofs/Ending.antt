-- The ends of a quantifier's ranges are integers.
use Rattle.std.proofs.Common.{◌≡◌, ℕ, suc, ◌+◌, ◌-◌, nat_le, Bool, true, false, List, [], ◌∷◌, ◌++◌, length, take, drop, Option, Some, Ok, slice_get, refl, ap, sym, ◌∙◌, arith, append_assoc, inl, inr}
use Rattle.c_syntax.specs.declared.expr.BinOp.{BinOp}
use Rattle.c_syntax.specs.Term as t
use Rattle.c_syntax.specs.Expr as e
use Rattle.c_syntax.specs.Pred as p
use Rattle.name_table.specs.Nesting.{meaning_in}
use Rattle.acsl_guards.specs.declared.ranges.Guard.{Guard}
use Rattle.acsl_guards.specs.Mentions.{Names as Binders, names_of, is_among, is_one_of, holds_one}
use Rattle.acsl_guards.specs.Chains.{between, from_first}
use Rattle.acsl_guards.specs.Guarding.{Candidate, candidates, first_with, guards, guarding}
use Rattle.acsl_guards.proofs.Ruling.{Form, form_of, end_free, all_in}
use Rattle.acsl_guards.proofs.Picking.{Found, found}
use Rattle.acsl_trees.specs.declared.operands.TermType.TheVariants as type
use Rattle.acsl_trees.specs.Tree.{Tree}
use Rattle.acsl_rules.specs.Laws.{Holds}
use Rattle.acsl_names.specs.declared.names.Bound.{Bound}
use Rattle.acsl_names.specs.declared.names.Reading.{Reading}
use Rattle.acsl_names.specs.declared.counting.Count.{Count}
use Rattle.acsl_names.specs.Names.{Around}
use Rattle.acsl_preds.specs.declared.binders.Over.{Over}
use Rattle.acsl_preds.specs.declared.binders.Over.TheVariants as over
use Rattle.acsl_preds.specs.Binders.{inside, with_bound, binders}
use Rattle.acsl_preds.specs.Ranges.{or_truth, low_of, high_of}
use Rattle.acsl_preds.specs.Preds.{chain_typed, typed_pred}
use Rattle.acsl_well_typed.specs.WellTyped.{What, an_integer, Known, Names, type_gives, types_give, what_of}
use Rattle.acsl_well_typed.specs.Terms.{HaveTypes, known_at, Gives}
use Rattle.acsl_well_typed.specs.Ranges.{AreNumbered, EachBinds}
use Rattle.acsl_well_typed.proofs.Answers.{holds_at, Of}
use Rattle.acsl_well_typed.proofs.Finding.{AreFine, type_at}
use Rattle.acsl_well_typed.proofs.Quantifiers.{under_binders, ranging, ranging_are, truth_at, AreTruths, EndsGive as EndsOver, AllEndsGive, all_unseen}
use Rattle.acsl_well_typed.proofs.Chaining.{LastIs, NoEquality, no_equality, EndsGive, chain_typed_ends}
use Rattle.acsl_well_typed.proofs.Scoping.{AreAfter, AreTraced, IsTraced, traced, inside_numbered, is_bound, rest_fine, behind_first}
use Rattle.acsl_well_typed.proofs.Aligning.{IsTyped, AreAt, ranging_at}

-- ---- a chain of at least three terms with a name behind the first

last_from : (P : t.Term → Type 0) (y : t.Term) (zs : List t.Term) → ((x : t.Term) → slice_get (y ∷ zs) (length zs) ≡ Some x → P x) → LastIs P (y ∷ zs)
last_from P y [] go = go y refl
last_from P y (z ∷ zs) go = last_from P z zs go

name_of : (bs : Binders) (a : t.Term) → is_one_of bs a ≡ true → (place : ℕ) × (x : List ℕ) × (a ≡ t.name place x) × (is_among bs x ≡ true)
name_of bs (t.name line x) h = (line, x, refl, h)
name_of bs (t.number line token) h = absurd cc
name_of bs (t.char line v) h = absurd cc
name_of bs (t.unary line o a) h = absurd cc
name_of bs (t.binary line o a d) h = absurd cc
name_of bs (t.cond line test a d) h = absurd cc
name_of bs (t.call line f args) h = absurd cc
name_of bs (t.index line a d) h = absurd cc
name_of bs (t.field line a f arrow) h = absurd cc
name_of bs (t.cast line type a) h = absurd cc
name_of bs (t.result line) h = absurd cc
name_of bs (t.old line a) h = absurd cc
name_of bs (t.at_label line a x) h = absurd cc
name_of bs (t.null line) h = absurd cc
name_of bs (t.range line a d) h = absurd cc

some_same : {X : Type 0} (x y : X) → ◌≡◌ {A = Option X} (Some x) (Some y) → x ≡ y
some_same x y h = cc

-- a guard by its terms
pub record IsSpelled (bs : Binders) (ts : List t.Term) (os : List BinOp) : Type 0 where
  pub first : t.Term
  pub place : ℕ
  pub name : List ℕ
  pub rest : List t.Term
  pub is : ts ≡ first ∷ t.name place name ∷ rest
  pub among : is_among bs name ≡ true
  pub no_equality : NoEquality os
  pub first_free : holds_one (from_first (between ts) bs) first ≡ false
  pub last_free : LastIs (λ a. holds_one (from_first (between ts) bs) a ≡ false) rest

middle : (n : ℕ) (a b d : t.Term) (rest : List t.Term) → slice_get (take (suc n) (drop 1 (a ∷ b ∷ d ∷ rest))) 0 ≡ Some b
middle n a b d rest = refl

second_at : (a b d : t.Term) (rest : List t.Term) → slice_get (between (a ∷ b ∷ d ∷ rest)) 0 ≡ Some b
second_at a b d rest = ap (λ n. slice_get (take n (drop 1 (a ∷ b ∷ d ∷ rest))) 0) (count (length rest)) ∙ middle (length rest) a b d rest
  where
    count : (n : ℕ) → suc (suc (suc n)) - 1 - 1 ≡ suc n
    count n = omega arith

last_at : (a b d : t.Term) (rest : List t.Term) → slice_get (a ∷ b ∷ d ∷ rest) (length (a ∷ b ∷ d ∷ rest) - 1) ≡ slice_get (d ∷ rest) (length rest)
last_at a b d rest = ap (slice_get (a ∷ b ∷ d ∷ rest)) (count (length rest))
  where
    count : (n : ℕ) → suc (suc (suc n)) - 1 ≡ suc (suc n)
    count n = omega arith

pub spelled : (bs : Binders) (ts : List t.Term) (os : List BinOp) → Form bs ts os → IsSpelled bs ts os
spelled bs [] os f = absurd (too_few f.long)
  where
    too_few : nat_le 3 0 ≡ true → ⊥
    too_few e = absurd cc
spelled bs (a ∷ []) os f = absurd (too_few f.long)
  where
    too_few : nat_le 3 1 ≡ true → ⊥
    too_few e = absurd cc
spelled bs (a ∷ b ∷ []) os f = absurd (too_few f.long)
  where
    too_few : nat_le 3 2 ≡ true → ⊥
    too_few e = absurd cc
spelled bs (a ∷ b ∷ d ∷ rest) os f =
    let n : (place : ℕ) × (x : List ℕ) × (b ≡ t.name place x) × (is_among bs x ≡ true) = name_of bs b
    (all_in (is_one_of bs) (between (a ∷ b ∷ d ∷ rest)) f.inside b 0 (second_at a b d rest)) in
    record {
      first = a;
      place = n.0;
      name = n.1;
      rest = d ∷ rest;
      is = ap (λ b. a ∷ b ∷ d ∷ rest) n.2;
      among = n.3;
      no_equality = no_equality os f.goes;
      first_free = end_free (from_first (between (a ∷ b ∷ d ∷ rest)) bs) (a ∷ b ∷ d ∷ rest) f.free a (inl refl);
      last_free = last_from (λ x. holds_one (from_first (between (a ∷ b ∷ d ∷ rest)) bs) x ≡ false) d rest
          (λ x h. end_free (from_first (between (a ∷ b ∷ d ∷ rest)) bs) (a ∷ b ∷ d ∷ rest) f.free x (inr (last_at a b d rest ∙ h)));
    }

-- ---- the ends of one binder's range

from_none : (n : ℕ) → 0 + n ≡ n
from_none n = omega arith

module _ (c : Around) (have : HaveTypes c.definitions.items) (r : Reading) (b' : Bound) (ns' : Names) (scope' : types_give b'.types ≡ Some ns') where
  abbrev pub k : Known
  k = known_at true c

  low_by : (ms : Names) (u : Tree) (b : Bool) → EndsGive k ns' ms u → Gives k ms an_integer (low_of b u)
  low_by ms u true f = f.1
  low_by ms u false f = f.0

  high_by : (ms : Names) (u : Tree) (b : Bool) → EndsGive k ns' ms u → Gives k ms an_integer (high_of b u)
  high_by ms u true f = f.0
  high_by ms u false f = f.1

  ends_of : (ms : Names) (cs : List Tree) (g : Guard) (u : Tree) → or_truth (slice_get cs g.conjunct) ≡ u → EndsGive k ns' ms u
      → EndsOver k ms cs (over.Guarded g)
  ends_of ms cs g u e f = (
    ap (λ v. what_of k ms (low_of g.descending v)) e ∙ low_by ms u g.descending f,
    ap (λ v. what_of k ms (high_of g.descending v)) e
        ∙ high_by ms u g.descending f,
  )

  -- each of these names is an integer's
  abbrev pub AreIntegers : Binders → Type 0
  AreIntegers bs = (x : List ℕ) → is_among bs x ≡ true → (i : ℕ) × (meaning_in b'.scopes x ≡ Some i) × (slice_get b'.types i ≡ Some type.Integer)

  integer_at : (i : ℕ) → slice_get b'.types i ≡ Some type.Integer → slice_get ns' i ≡ Some an_integer
  integer_at i h =
      let q : (w : What) × (type_gives type.Integer ≡ Some w) × (slice_get ns' i ≡ Some w) = type_at b'.types ns' i type.Integer scope' h in
      let same : an_integer ≡ q.0 = some_same _ _ q.1 in q.2 ∙ ap (λ w. Some w) (sym same)

  abbrev pub WithEnds : Names → Tree → Type 0
  WithEnds ms u = Gives k ns' an_integer u → EndsGive k ns' ms u

  chain_ends : (ms : Names) (bs : Binders) (ts : List t.Term) (os : List BinOp) (m : Count) (line : ℕ) → AreIntegers bs → (sp : IsSpelled bs ts os)
      → AreFine c b' ms (from_first (between ts) bs)
      → Holds (Of (WithEnds ms)) (chain_typed c b' r m line (sp.first ∷ t.name sp.place sp.name ∷ sp.rest) os)
  chain_ends ms bs ts os m line all sp fine =
      let nm : (i : ℕ) × (meaning_in b'.scopes sp.name ≡ Some i) × (slice_get b'.types i ≡ Some type.Integer) = all sp.name sp.among in
      chain_typed_ends c b' ns' ms have scope' (from_first (between ts) bs) fine r m line sp.first sp.place sp.name nm.0 sp.rest os sp.no_equality
      (is_bound c b' sp.name nm.0 nm.1) nm.2 (integer_at nm.0 nm.2) sp.first_free sp.last_free

  one_ends : (before : Binders) (b : Bound) (ns : Names) (d : e.VarDecl) (ds : List e.VarDecl) (bs : Binders) (qs : List p.Pred) (cs : List Tree) (g : Guard)
      → bs ≡ before ++ d.name ∷ names_of ds
      → AreNumbered b → types_give b.types ≡ Some ns → AreAfter b (d ∷ ds) b' → AreIntegers bs → AreAt true c have b' ns' scope' r qs cs → AreTruths k ns' cs
      → first_with d.name (candidates bs 0 qs) ≡ Some g → EndsOver k ns cs (over.Guarded g)
  one_ends before b ns d ds bs qs cs g split numbered scope behind all at are h =
      let f : Found bs d.name 0 qs g = found bs d.name 0 qs g h in
      let sp : IsSpelled bs f.chain.0 f.chain.1 = spelled bs f.chain.0 f.chain.1 (form_of bs f.chain.0 f.chain.1 f.gives.0) in
      let fine : AreFine c b' ns (from_first (between f.chain.0) bs) =
      rest_fine c b b' ns (d ∷ ds) (from_first (between f.chain.0) bs) numbered scope behind
      (λ x free. behind_first (between f.chain.0) before d.name (names_of ds) x f.gives.1
      (ap (λ bs. is_among (from_first (between f.chain.0) bs) x) (sym split) ∙ free)) in
      let u : (u : Tree) × (slice_get cs f.at ≡ Some u) × IsTyped true c have b' ns' scope' r (p.chain f.line f.chain.0 f.chain.1) u = at f.at
      (p.chain f.line f.chain.0 f.chain.1) f.is in
      let made : chain_typed c b' r u.2.0 f.line (sp.first ∷ t.name sp.place sp.name ∷ sp.rest) f.chain.1 ≡ Ok (u.0, u.2.1) = ap
      (λ ts. chain_typed c b' r u.2.0 f.line ts f.chain.1) (sym sp.is) ∙ u.2.2 in
      let ends : WithEnds ns u.0 = holds_at (Of (WithEnds ns)) _ (u.0, u.2.1) (chain_ends ns bs f.chain.0 f.chain.1 u.2.0 f.line all sp fine) made in
      let place : g.conjunct ≡ f.at = ap (λ g. g.conjunct) f.told ∙ from_none f.at in
      ends_of ns cs g u.0 (ap (λ i. or_truth (slice_get cs i)) place ∙ ap or_truth u.1) (ends (truth_at k ns' cs f.at (Some u.0) u.1 are))

  all_ends : (before : Binders) (b : Bound) (ns : Names) (ds : List e.VarDecl) (os : List Over) (bs : Binders) (qs : List p.Pred) (cs : List Tree)
      → bs ≡ before ++ names_of ds
      → AreTraced (candidates bs 0 qs) b ns ds os b' → AreIntegers bs → AreAt true c have b' ns' scope' r qs cs → AreTruths k ns' cs → AllEndsGive k ns cs os
  all_ends before b ns [] [] bs qs cs split tr all at are = tt
  all_ends before b ns [] (o ∷ os) bs qs cs split tr all at are = absurd tr
  all_ends before b ns (d ∷ ds) [] bs qs cs split tr all at are = absurd tr
  all_ends before b ns (d ∷ ds) (over.Kind q ∷ os) bs qs cs split tr all at are = (
    tt,
    all_ends (before ++ d.name ∷ []) (with_bound b d.name type.Integer) (ns ++ an_integer ∷ []) ds os bs qs cs
        (split ∙ sym (append_assoc before (d.name ∷ []) (names_of ds))) tr.4 all at are,
  )
  all_ends before b ns (d ∷ ds) (over.Guarded g ∷ os) bs qs cs split tr all at are = (
    one_ends before b ns d ds bs qs cs g split tr.0 tr.1 tr.2 all at are tr.3,
    all_ends (before ++ d.name ∷ []) (with_bound b d.name type.Integer) (ns ++ an_integer ∷ []) ds os bs qs cs
        (split ∙ sym (append_assoc before (d.name ∷ []) (names_of ds))) tr.4 all at are,
  )

-- ---- the ends of all ranges of a quantifier

pub strict_ends : (c : Around) (have : HaveTypes c.definitions.items) (r : Reading) (for_all : Bool) (b : Bound) (ns : Names) (ds : List e.VarDecl)
    (a : p.Pred) (o : List Over × Bound) (m : Count) (u : Tree × Count)
    → AreNumbered b → types_give b.types ≡ Some ns → EachBinds a → binders c (inside b) ds (guards for_all ds a) ≡ Ok o → typed_pred c o.1 r m a ≡ Ok u
    → types_give o.1.types ≡ Some (under_binders o.0 ns) → Gives (known_at true c) (under_binders o.0 ns) an_integer u.0
    → AllEndsGive (known_at true c) ns (ranging for_all u.0) o.0
strict_ends c have r for_all b ns ds a o m u numbered scope binds bound made scope' truth =
    let cands : List Candidate = candidates (names_of ds) 0 (guarding for_all a) in
    let tr : IsTraced c cands (inside b) ns ds o = holds_at (IsTraced c cands (inside b) ns ds) (binders c (inside b) ds (guards for_all ds a)) o
    (traced c cands (inside b) ns ds (inside_numbered b numbered) scope) bound in
    all_ends c have r o.1 (under_binders o.0 ns) scope' [] (inside b) ns ds o.0 (names_of ds) (guarding for_all a) (ranging for_all u.0) refl tr.0
    (λ x h. tr.1.found x h)
    (holds_at (λ x. AreAt true c have o.1 (under_binders o.0 ns) scope' r (guarding for_all a) (ranging for_all x.0)) (typed_pred c o.1 r m a) u
    (ranging_at true c have o.1 (under_binders o.0 ns) scope' r m for_all a binds) made)
    (ranging_are (known_at true c) (under_binders o.0 ns) for_all u.0 truth)

-- and where they aren't looked at
pub ends_are : (z : Bool) (c : Around) (have : HaveTypes c.definitions.items) (r : Reading) (for_all : Bool) (b : Bound) (ns : Names) (ds : List e.VarDecl)
    (a : p.Pred) (o : List Over × Bound) (m : Count) (u : Tree × Count)
    → (z ≡ true → AreNumbered b × EachBinds a) → types_give b.types ≡ Some ns → binders c (inside b) ds (guards for_all ds a) ≡ Ok o
    → typed_pred c o.1 r m a ≡ Ok u
    → types_give o.1.types ≡ Some (under_binders o.0 ns) → Gives (known_at z c) (under_binders o.0 ns) an_integer u.0
    → AllEndsGive (known_at z c) ns (ranging for_all u.0) o.0
ends_are true c have r for_all b ns ds a o m u asked scope bound made scope' truth = strict_ends c have r for_all b ns ds a o m u (asked refl).0 scope
    (asked refl).1 bound made scope' truth
ends_are false c have r for_all b ns ds a o m u asked scope bound made scope' truth = all_unseen (known_at false c) ns (ranging for_all u.0) o.0 refl
