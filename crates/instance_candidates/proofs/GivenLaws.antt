-- Which candidates are given, one after another.
use Rattle.std.proofs.Common.{◌≡◌, ℕ, ◌+◌, ◌<◌, ◌≤◌, Bool, true, false, not, cond, List, [], ◌∷◌, ◌++◌, map, drop, length, get_or, append_assoc, refl, sym, ◌∙◌, ap, subst}
use Rattle.std.proofs.lemmas.List.{map_push}
use Rattle.std.specs.Prelude.{◌↔◌}
use Rattle.std.specs.Bool.{MatchBool}
use Rattle.qed_terms.specs.Tree.{Tree}
use Rattle.same_terms.specs.SameTerms.{SameTerm}
use Rattle.instance_rows.specs.Accesses.{Load}
use Rattle.instance_rows.specs.Candidates.{Candidate, meeting, Given, none_left, given, passed, IsGiven}
use Rattle.instance_candidates.specs.declared.meetings.Meeting.{Meeting}
use Rattle.instance_candidates.specs.Ids.{meeting_of, order_of}
use Rattle.branch_accesses.proofs.Gathered.{nil_behind, cut, none_behind}

-- ---- one candidate

pub other_blocks : (ls : List Tree) (l k : Load) (b : Bool) → ((b ≡ true) ↔ SameTerm ls l.block k.block) → b ≡ false → IsGiven ls (meeting l k) → ⊥
other_blocks ls l k true t f g = absurd cc
other_blocks ls l k false t f g = let e = t.1 g.0.0 in absurd cc

pub same_blocks : (ls : List Tree) (l k : Load) (b c : Bool) → ((b ≡ true) ↔ SameTerm ls l.block k.block) → b ≡ true → ((c ≡ true) ↔ SameTerm ls l.offset k.offset)
    → MatchBool (not c) (IsGiven ls (meeting l k)) (IsGiven ls (meeting l k) → ⊥)
same_blocks ls l k b true t e u = λ g. g.1.0 (u.0 refl)
same_blocks ls l k b false t e u = ((t.0 e, tt), ((λ s. let f = u.1 s in absurd cc), tt))

-- ---- one after another

-- with the formulas of the rest behind those that are done there are those of the whole
abbrev pub Comes : (ls : List Tree) → (whole : List Candidate) → (done : List Tree) → (rest : List Candidate) → Type 0
Comes ls whole done rest = (fs : List Tree) → Given ls rest fs → Given ls whole (done ++ fs)

pub comes_first : (ls : List Tree) (whole : List Candidate) → Comes ls whole [] whole
comes_first ls whole fs g = g

pub comes_last : (ls : List Tree) (whole : List Candidate) (done : List Tree) → Comes ls whole done [] → Given ls whole done
comes_last ls whole done c = subst (Given ls whole) (nil_behind done) (c [] none_left)

pub comes_given : (ls : List Tree) (whole : List Candidate) (done : List Tree) (c : Candidate) (rest : List Candidate) → IsGiven ls c → Comes ls whole done (c ∷ rest) → Comes ls whole (done ++ c.formula ∷ []) rest
comes_given ls whole done c rest is all fs g = subst (Given ls whole) (sym (append_assoc done (c.formula ∷ []) fs)) (all (c.formula ∷ fs) (given is g))

pub comes_passed : (ls : List Tree) (whole : List Candidate) (done : List Tree) (c : Candidate) (rest : List Candidate) → (IsGiven ls c → ⊥) → Comes ls whole done (c ∷ rest) → Comes ls whole done rest
comes_passed ls whole done c rest is all fs g = all fs (passed is g)

module _ {Id : Type 0} (tree : Id → Tree) (ls : List Tree) (whole : List Candidate) where
  pub given_more : (ms : List (Meeting Id)) (i : ℕ) (m : Meeting Id) (b : Bool) (done now : List (Meeting Id)) → i < length ms → m ≡ get_or ms i m
      → MatchBool b (IsGiven ls (meeting_of tree m)) (IsGiven ls (meeting_of tree m) → ⊥) → now ≡ cond b (done ++ m ∷ []) done
      → Comes ls whole (map (order_of tree) done) (map (meeting_of tree) (drop i ms)) → Comes ls whole (map (order_of tree) now) (map (meeting_of tree) (drop (i + 1) ms))
  given_more ms i m b done now n e told p c =
      let front = subst (λ us. Comes ls whole (map (order_of tree) done) (map (meeting_of tree) us)) (cut ms i m n e) c in
      subst (λ xs. Comes ls whole (map (order_of tree) xs) (map (meeting_of tree) (drop (i + 1) ms))) (sym p) (go b told front)
    where
      go : (b : Bool) → MatchBool b (IsGiven ls (meeting_of tree m)) (IsGiven ls (meeting_of tree m) → ⊥) → Comes ls whole (map (order_of tree) done) (meeting_of tree m ∷ map (meeting_of tree) (drop (i + 1) ms))
          → Comes ls whole (map (order_of tree) (cond b (done ++ m ∷ []) done)) (map (meeting_of tree) (drop (i + 1) ms))
      go true told front = subst (λ fs. Comes ls whole fs (map (meeting_of tree) (drop (i + 1) ms))) (sym (map_push (order_of tree) done m)) (comes_given ls whole (map (order_of tree) done) (meeting_of tree m) (map (meeting_of tree) (drop (i + 1) ms)) told front)
      go false told front = comes_passed ls whole (map (order_of tree) done) (meeting_of tree m) (map (meeting_of tree) (drop (i + 1) ms)) told front

  pub given_done : (ms : List (Meeting Id)) (i : ℕ) (done : List (Meeting Id)) → length ms ≤ i → Comes ls whole (map (order_of tree) done) (map (meeting_of tree) (drop i ms)) → Given ls whole (map (order_of tree) done)
  given_done ms i done n c = comes_last ls whole (map (order_of tree) done) (subst (λ us. Comes ls whole (map (order_of tree) done) (map (meeting_of tree) us)) (none_behind ms i n) c)
