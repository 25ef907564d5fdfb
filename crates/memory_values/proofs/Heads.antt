-- Trees and what is written for them; where it is asked strictly, they are closed too. Heads of terms and formulas keep this.
use Rattle.std.proofs.Common.{◌≡◌, ℤ, Bool, true, ◌&&◌, List, [], refl, ap}
use Rattle.qed_terms.specs.declared.head.Head.TheVariants as h
use Rattle.qed_terms.specs.declared.head.TermOp.{TermOp}
use Rattle.qed_terms.specs.declared.head.FormOp.{FormOp}
use Rattle.qed_terms.specs.declared.head.FormOp.TheVariants as form
use Rattle.qed_terms.specs.Tree.{Tree, node, Trees, stop, more, one, two, three, num, ite, equal, at_most, less, not_of}
use Rattle.memory_steps.specs.Forms.{Slots}
use Rattle.memory_words.specs.Leaves.{fill, fill_all, is_closed, are_closed}

pub record Written (strict : Bool) (ss : List Slots) (t u : Tree) : Type 0 where
  pub closed : strict ≡ true → is_closed [] t ≡ true
  pub filled : fill ss t ≡ u

pub record AllWritten (strict : Bool) (ss : List Slots) (ts us : Trees) : Type 0 where
  pub closed : strict ≡ true → are_closed [] ts ≡ true
  pub filled : fill_all ss ts ≡ us

pub none_written : {strict : Bool} {ss : List Slots} → AllWritten strict ss stop stop
none_written = record { closed = λ e. refl; filled = refl }

pub more_written : {strict : Bool} {ss : List Slots} {t u : Tree} {ts us : Trees} → Written strict ss t u → AllWritten strict ss ts us → AllWritten strict ss (more t ts) (more u us)
more_written a b = record { closed = λ e i. a.closed e i && b.closed e i; filled = λ i. more (a.filled i) (b.filled i) }

pub one_written : {strict : Bool} {ss : List Slots} {t u : Tree} → Written strict ss t u → AllWritten strict ss (one t) (one u)
one_written a = more_written a none_written

pub two_written : {strict : Bool} {ss : List Slots} {t u t' u' : Tree} → Written strict ss t u → Written strict ss t' u' → AllWritten strict ss (two t t') (two u u')
two_written a b = more_written a (one_written b)

pub three_written : {strict : Bool} {ss : List Slots} {t u t' u' v w : Tree} → Written strict ss t u → Written strict ss t' u' → Written strict ss v w → AllWritten strict ss (three t t' v) (three u u' w)
three_written a b c = more_written a (two_written b c)

-- ---- heads

pub number_written : {strict : Bool} {ss : List Slots} (z : ℤ) → Written strict ss (num z) (num z)
number_written z = record { closed = λ e. refl; filled = refl }

pub term_written : {strict : Bool} {ss : List Slots} {ts us : Trees} (o : TermOp) → AllWritten strict ss ts us → Written strict ss (node (h.Term o) ts) (node (h.Term o) us)
term_written o a = record { closed = a.closed; filled = ap (node (h.Term o)) a.filled }

pub form_written : {strict : Bool} {ss : List Slots} {ts us : Trees} (o : FormOp) → AllWritten strict ss ts us → Written strict ss (node (h.Form o) ts) (node (h.Form o) us)
form_written o a = record { closed = a.closed; filled = ap (node (h.Form o)) a.filled }

pub ite_written : {strict : Bool} {ss : List Slots} {f g t u v w : Tree} → Written strict ss f g → Written strict ss t u → Written strict ss v w → Written strict ss (ite f t v) (ite g u w)
ite_written a b c = let all = three_written a b c in record { closed = all.closed; filled = ap (node h.Ite) all.filled }

pub not_written : {strict : Bool} {ss : List Slots} {f g : Tree} → Written strict ss f g → Written strict ss (not_of f) (not_of g)
not_written a = let all = one_written a in record { closed = all.closed; filled = ap (node h.Not) all.filled }

pub and_written : {strict : Bool} {ss : List Slots} {fs gs : Trees} → AllWritten strict ss fs gs → Written strict ss (node h.And fs) (node h.And gs)
and_written a = record { closed = a.closed; filled = ap (node h.And) a.filled }

pub equal_written : {strict : Bool} {ss : List Slots} {t u v w : Tree} → Written strict ss t u → Written strict ss v w → Written strict ss (equal t v) (equal u w)
equal_written a b = form_written form.Equal (two_written a b)

pub at_most_written : {strict : Bool} {ss : List Slots} {t u v w : Tree} → Written strict ss t u → Written strict ss v w → Written strict ss (at_most t v) (at_most u w)
at_most_written a b = form_written form.AtMost (two_written a b)

pub less_written : {strict : Bool} {ss : List Slots} {t u v w : Tree} → Written strict ss t u → Written strict ss v w → Written strict ss (less t v) (less u w)
less_written a b = form_written form.Less (two_written a b)
