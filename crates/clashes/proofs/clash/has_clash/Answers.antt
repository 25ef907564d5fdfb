use Rattle.std.proofs.Common.{map, inl, inr, refl}
use Rattle.term_forms.specs.Forms.{tree_of}
use Rattle.clashes.specs.Kinds.{OneSo, IsOpposite, HasTwoNumbers}
use Rattle.clashes.proofs.Together.{clash_told, so_told, all_told}
use Rattle.clashes.proofs.clash.has_clash.Goals as goal

pub returns-then-has_false : goal.returns-then-has_false
returns-then-has_false c = let ls = map (tree_of c.args.table.now) c.args.literals.now in (λ x. (clash_told ls).1 (inl (inl c.if-has_false.ensures)), λ x. refl)

pub returns-then-opposites : goal.returns-then-opposites
returns-then-opposites c =
    let ls = map (tree_of c.args.table.now) c.args.literals.now in
    let o = so_told c.in_ok-opposites.opposites (OneSo (IsOpposite ls) ls) c.in_ok-opposites.ensures c.if-opposites.true in
    (λ x. (clash_told ls).1 (inl (inr o)), λ x. refl)

pub returns-then-numbers : goal.returns-then-numbers
returns-then-numbers c =
    let ls = map (tree_of c.args.table.now) c.args.literals.now in
    let o = so_told c.in_ok-numbers.numbers (HasTwoNumbers ls) (c.in_ok-numbers.ensures ls c.requires.closed) c.if-numbers.true in
    (λ x. (clash_told ls).1 (inr (inl o)), λ x. refl)

pub returns : goal.returns
returns c =
    let ls = map (tree_of c.args.table.now) c.args.literals.now in
    all_told ls c.if-has_false.ensures c.in_ok-opposites.opposites c.in_ok-opposites.ensures c.if-opposites.false c.in_ok-numbers.numbers (c.in_ok-numbers.ensures ls c.requires.closed) c.if-numbers.false c.in_ok-answer.answer c.in_ok-answer.ensures
