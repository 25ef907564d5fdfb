-- Each change makes one branch of a branch.
use Rattle.std.proofs.Common.{◌≡◌, ℕ, true, List, [], ◌∷◌, ◌++◌, map, refl, sym, ◌∙◌, ap, subst}
use Rattle.std.specs.Prelude.{Some}
use Rattle.qed_terms.specs.declared.head.Head.TheVariants as h
use Rattle.qed_terms.specs.Nodes.{kids_of}
use Rattle.qed_terms.specs.Tree.{Tree, node, three, var, at_most, less}
use Rattle.qed_substitution.specs.Substitution.{replace}
use Rattle.branches.specs.Steps.{LeadsToOne, FirstSo}
use Rattle.branches.specs.Branch.{Branch, branch, IsLiteral, IsAnd, IsExists}
use Rattle.branches.proofs.Steps.{one_first, one_or_else}
use Rattle.branch_changes.specs.NewNames.{numbered_name, IsFirstNew}
use Rattle.branch_changes.specs.Givens.{Given, put, first_put, givens}
use Rattle.branch_changes.specs.Changes.{EachTo, Moves, Replaces, ArePartsOf, TakesApart, AreWitnessed, Witnesses, Gives, Eliminates, WouldClose, AreNone, Drops, IsLessOne, Removes, HasTrue, HasFalse, FromDrops, FromEliminates, FromWitnesses, FromTakesApart, Changes, rest_of_or, literals_of, others_of}
use Rattle.branch_changes.proofs.Names.{one_new}

one_moves : LeadsToOne Moves
one_moves b c d x y =
    let f = one_first IsLiteral b.waiting x.before y.before x.literal y.literal x.behind y.behind x.first y.first in
    x.now ∙ (λ i. branch (b.literals ++ f.1 i ∷ []) (f.0 i ++ f.2 i)) ∙ sym y.now

abbrev OneParts : (Tree → List Tree → Type 0) → Type 0
OneParts parts = (f : Tree) (fs gs : List Tree) → parts f fs → parts f gs → fs ≡ gs

one_replaces : (so : Tree → Type 0) (parts : Tree → List Tree → Type 0) → OneParts parts → LeadsToOne (Replaces so parts)
one_replaces so parts one b c d x y =
    let f = one_first so b.waiting x.before y.before x.formula y.formula x.behind y.behind x.first y.first in
    let by = one y.formula x.by y.by (subst (λ z. parts z x.by) f.1 x.are) y.are in
    x.now ∙ (λ i. branch b.literals (f.0 i ++ (by i ++ f.2 i))) ∙ sym y.now

one_takes_apart : LeadsToOne TakesApart
one_takes_apart = one_replaces IsAnd ArePartsOf (λ f fs gs x y. x ∙ sym y)

one_drops : (normal : Tree → Tree → Type 0) (closed : Branch → Type 0) → LeadsToOne (Drops normal closed)
one_drops normal closed b = one_replaces (HasTrue normal closed b) AreNone (λ f fs gs x y. x ∙ sym y) b

one_removes : (closed : Branch → Type 0) → LeadsToOne (Removes closed)
one_removes closed b = one_replaces (HasFalse closed b) (IsLessOne closed b) one b
  where
    one : OneParts (IsLessOne closed b)
    one f fs gs x y =
        let d = one_first (WouldClose closed b) (kids_of f) x.before y.before x.disjunct y.disjunct x.behind y.behind x.first y.first in
        x.is ∙ (λ i. rest_of_or (d.0 i ++ d.2 i) ∷ []) ∙ sym y.is

module _ (normal : Tree → Tree → Type 0) (one_normal : (f m n : Tree) → normal f m → normal f n → m ≡ n) where
  one_each : (fs ms ns : List Tree) → EachTo normal fs ms → EachTo normal fs ns → ms ≡ ns
  one_each [] [] [] a b = refl
  one_each [] [] (n ∷ ns) a b = absurd b
  one_each [] (m ∷ ms) ns a b = absurd a
  one_each (f ∷ fs) [] ns a b = absurd a
  one_each (f ∷ fs) (m ∷ ms) [] a b = absurd b
  one_each (f ∷ fs) (m ∷ ms) (n ∷ ns) a b =
      let first = one_normal f m n a.0 b.0 in
      let rest = one_each fs ms ns a.1 b.1 in
      λ i. first i ∷ rest i

  -- the parts of a quantifier
  abbrev Witnessed : (x : List ℕ) (n : ℕ) (low high body : Tree) → List Tree
  Witnessed x n low high body =
      let witness = var (numbered_name n) in
      at_most low witness ∷ less witness high ∷ replace x witness body ∷ []

  one_witnessed : (b : Branch) → OneParts (AreWitnessed normal b)
  one_witnessed b f fs gs x y =
      let same : node (h.Exists x.name) (three x.low x.high x.body) ≡ node (h.Exists y.name) (three y.low y.high y.body) = sym x.is ∙ y.is in
      let number = one_new b x.number y.number x.new y.new in
      let name : x.name ≡ y.name = cc in
      let low : x.low ≡ y.low = cc in
      let high : x.high ≡ y.high = cc in
      let body : x.body ≡ y.body = cc in
      one_each (Witnessed y.name y.number y.low y.high y.body) fs gs (subst (λ z. EachTo normal z fs) (λ i. Witnessed (name i) (number i) (low i) (high i) (body i)) x.normals) y.normals

  one_witnesses : LeadsToOne (Witnesses normal)
  one_witnesses b = one_replaces IsExists (AreWitnessed normal b) (one_witnessed b) b

  one_eliminates : LeadsToOne (Eliminates normal)
  one_eliminates b c d x y =
      let f = one_first (Gives b) b.literals x.before y.before x.equality y.equality x.behind y.behind x.first y.first in
      let some : Some (x.given) ≡ Some (y.given) = sym x.gives ∙ ap (λ l. first_put b (givens l)) f.1 ∙ y.gives in
      let given : x.given ≡ y.given = cc in
      let ls = one_each (map (put y.given) (y.before ++ y.behind)) x.literals y.literals (subst (λ z. EachTo normal z x.literals) (λ i. map (put (given i)) (f.0 i ++ f.2 i)) x.new_literals) y.new_literals in
      let ws = one_each (map (put y.given) b.waiting) x.waiting y.waiting (subst (λ z. EachTo normal z x.waiting) (λ i. map (put (given i)) b.waiting) x.new_waiting) y.new_waiting in
      x.now ∙ (λ i. branch (literals_of (ls i)) (ws i ++ others_of (ls i))) ∙ sym y.now

  pub one_change : (closed : Branch → Type 0) → LeadsToOne (Changes normal closed)
  one_change closed =
      one_or_else Moves (FromTakesApart normal closed) one_moves
      (one_or_else TakesApart (FromWitnesses normal closed) one_takes_apart
      (one_or_else (Witnesses normal) (FromEliminates normal closed) one_witnesses
      (one_or_else (Eliminates normal) (FromDrops normal closed) one_eliminates
      (one_or_else (Drops normal closed) (Removes closed) (one_drops normal closed) (one_removes closed)))))
