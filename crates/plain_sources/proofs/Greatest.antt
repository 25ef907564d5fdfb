-- The greatest of several numbers.
use Rattle.std.proofs.Common.{◌≡◌, ◌<◌, ℕ, ◌+◌, List, drop, length, get_or, sym, ap, ◌∙◌, arith}
use Rattle.std.proofs.lemmas.Bool.Decides.{nat_tests}
use Rattle.std.proofs.lemmas.List.{at_drop_more}
use Rattle.checked_trees.specs.declared.steps.Step.{Step}
use Rattle.checked_trees.specs.View.{view_step, view_steps}
use Rattle.plain_words.specs.Temporaries.{greater, temporaries_by, temporaries_in}

greater-zero : (k : ℕ) → greater 0 k ≡ k
greater-zero k = grind (arith, nat_tests)

-- it doesn't matter which two come first
pub greatest : (a b c : ℕ) → greater (greater a b) c ≡ greater a (greater b c)
greatest a b c = grind (arith, nat_tests)

pub from_none : (n k : ℕ) → n ≡ greater 0 k → n ≡ k
from_none n k e = e ∙ greater-zero k

pub nothing_more : (n : ℕ) → greater n 0 ≡ n
nothing_more n = grind (arith, nat_tests)

-- one statement more
pub one_more : (ss : List Step) (i : ℕ) (s : Step) (most now next : ℕ) → i < length ss → s ≡ get_or ss i s
    → greater now (temporaries_in (view_steps (drop i ss))) ≡ most → next ≡ greater now (temporaries_by (view_step s))
    → greater next (temporaries_in (view_steps (drop (i + 1) ss))) ≡ most
one_more ss i s most now next lt is h e =
    ap (λ n. greater n (temporaries_in (view_steps (drop (i + 1) ss)))) e
    ∙ greatest now (temporaries_by (view_step s)) (temporaries_in (view_steps (drop (i + 1) ss)))
    ∙ ap (λ x. greater now (greater (temporaries_by (view_step x)) (temporaries_in (view_steps (drop (i + 1) ss))))) is
    ∙ sym (at_drop_more (λ xs. greater now (temporaries_in (view_steps xs))) ss i s lt)
    ∙ h
