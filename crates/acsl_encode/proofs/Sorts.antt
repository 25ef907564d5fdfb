-- A well formed term means a value of its sort.
use Rattle.std.proofs.Common.{◌≡◌, Bool, true, false, ◌&&◌, [], refl}
use Rattle.std.proofs.lemmas.Bool.{false≢true, and_parts}
use Rattle.qed_terms.specs.declared.head.Sort.TheVariants as sort
use Rattle.qed_terms.specs.declared.head.Head.TheVariants as th
use Rattle.qed_terms.specs.declared.head.TermOp.TheVariants as op
use Rattle.qed_terms.specs.Names.{is_name}
use Rattle.qed_terms.specs.WellFormed.{fits, all_fit, kid_places, kid_count, int, mem}
use Rattle.qed_terms.specs.Tree.{Tree as Term, node}
use Rattle.qed_terms.specs.Meaning.{Values, World as Logic, Whole, Cells, meaning}
use Rattle.acsl_encode.specs.Meaning.{number_in, memory_in}

-- a head that may not stand there
never : (b rest : Bool) → ((b && false) && rest) ≡ true → ⊥
never b rest h = false≢true (and_parts b false (and_parts (b && false) rest h).0).1

module _ (q : Logic) (env : Values) where
  pub int_means : (t : Term) → fits int t ≡ true → meaning q env t ≡ Whole (number_in q env t)
  int_means (node (th.Num z) ts) h = refl
  int_means (node (th.Var x sort.Int) ts) h = refl
  int_means (node (th.Var x sort.Memory) ts) h = absurd (never (is_name x) (all_fit [] ts) h)
  int_means (node (th.Var x sort.Table) ts) h = absurd (never (is_name x) (all_fit [] ts) h)
  int_means (node (th.Term op.Store) ts) h = absurd (false≢true h)
  int_means (node (th.Term (op.Alloc l)) ts) h = absurd (false≢true h)
  int_means (node (th.Term op.Grow) ts) h = absurd (false≢true h)
  int_means (node (th.Term op.Add) ts) h = refl
  int_means (node (th.Term op.Sub) ts) h = refl
  int_means (node (th.Term op.Mul) ts) h = refl
  int_means (node (th.Term op.Neg) ts) h = refl
  int_means (node (th.Term op.Div) ts) h = refl
  int_means (node (th.Term op.Mod) ts) h = refl
  int_means (node (th.Term (op.Wrap k)) ts) h = refl
  int_means (node (th.Term op.ShiftLeft) ts) h = refl
  int_means (node (th.Term op.ShiftRight) ts) h = refl
  int_means (node (th.Term op.BitAnd) ts) h = refl
  int_means (node (th.Term op.BitOr) ts) h = refl
  int_means (node (th.Term op.BitXor) ts) h = refl
  int_means (node (th.Term op.BitNot) ts) h = refl
  int_means (node (th.Term op.Load) ts) h = refl
  int_means (node (th.Term op.Count) ts) h = refl
  int_means (node (th.Term op.Len) ts) h = refl
  int_means (node th.Ite ts) h = refl
  int_means (node (th.App f) ts) h = refl
  int_means (node (th.Forall x) ts) h = absurd (never (is_name x) (all_fit (kid_places (th.Forall x) (kid_count ts)) ts) h)
  int_means (node (th.Exists x) ts) h = absurd (never (is_name x) (all_fit (kid_places (th.Exists x) (kid_count ts)) ts) h)
  int_means (node (th.Form o) ts) h = absurd (false≢true h)
  int_means (node th.True ts) h = absurd (false≢true h)
  int_means (node th.False ts) h = absurd (false≢true h)
  int_means (node th.Not ts) h = absurd (false≢true h)
  int_means (node th.And ts) h = absurd (false≢true h)
  int_means (node th.Or ts) h = absurd (false≢true h)
  int_means (node th.Imp ts) h = absurd (false≢true h)
  int_means (node th.Iff ts) h = absurd (false≢true h)

  pub memory_means : (t : Term) → fits mem t ≡ true → meaning q env t ≡ Cells (memory_in q env t)
  memory_means (node (th.Num z) ts) h = absurd (false≢true h)
  memory_means (node (th.Var x sort.Int) ts) h = absurd (never (is_name x) (all_fit [] ts) h)
  memory_means (node (th.Var x sort.Memory) ts) h = refl
  memory_means (node (th.Var x sort.Table) ts) h = absurd (never (is_name x) (all_fit [] ts) h)
  memory_means (node (th.Term op.Store) ts) h = refl
  memory_means (node (th.Term _) ts) h = absurd (false≢true h)
  memory_means (node th.Ite ts) h = absurd (false≢true h)
  memory_means (node (th.App f) ts) h = absurd (never (is_name f) (all_fit (kid_places (th.App f) (kid_count ts)) ts) h)
  memory_means (node (th.Forall x) ts) h = absurd (never (is_name x) (all_fit (kid_places (th.Forall x) (kid_count ts)) ts) h)
  memory_means (node (th.Exists x) ts) h = absurd (never (is_name x) (all_fit (kid_places (th.Exists x) (kid_count ts)) ts) h)
  memory_means (node (th.Form o) ts) h = absurd (false≢true h)
  memory_means (node th.True ts) h = absurd (false≢true h)
  memory_means (node th.False ts) h = absurd (false≢true h)
  memory_means (node th.Not ts) h = absurd (false≢true h)
  memory_means (node th.And ts) h = absurd (false≢true h)
  memory_means (node th.Or ts) h = absurd (false≢true h)
  memory_means (node th.Imp ts) h = absurd (false≢true h)
  memory_means (node th.Iff ts) h = absurd (false≢true h)
