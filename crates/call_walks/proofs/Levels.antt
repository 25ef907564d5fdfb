-- Terms of arguments over the leaves of a level: they are closed as those of the present state are, and the slots of that level are what they are filled with.
use Rattle.std.proofs.Common.{◌≡◌, ℕ, zero, suc, ◌==◌, Bool, true, false, not, ◌&&◌, ◌||◌, pos, List, [], ◌∷◌, map, refl, sym, ap, ◌∙◌}
use Rattle.std.specs.Prelude.{if◌then◌else◌}
use Rattle.std.specs.List.{list_any}
use Rattle.std.specs.Str.{bytes_eq}
use Rattle.std.proofs.lemmas.Bool.{false≢true}
use Rattle.typed_prog.specs.Tree as t
use Rattle.qed_terms.specs.declared.head.Sort.TheVariants as sort
use Rattle.qed_terms.specs.declared.head.Head.TheVariants as h
use Rattle.qed_terms.specs.Tree.{Tree, Trees, node, stop, more, num, var}
use Rattle.walk_steps.specs.Forms.{Slots, bang}
use Rattle.walk_steps.specs.State.{at_or}
use Rattle.c_runs.specs.Program.{Facts}
use Rattle.plain_states.specs.Slots as plain
use Rattle.plain_runs.specs.Fitting.{Shape, sizes}
use Rattle.value_terms.specs.Readings.{Term, as_number, as_test, as_pointer, number_term, term_at, Reading}
use Rattle.value_terms.specs.Terms.{term_of, terms_of}
use Rattle.program_steps.specs.Leaves.{after_as, leaf_name, leaf, item_named, slot_named, as_integer, is_marked, filled_name, fill, fill_all, is_closed, are_closed, is_closed_range}
use Rattle.program_steps.specs.Terms.{unused_table, unused_memory, reading}
use Rattle.program_steps.proofs.Listing.{slot_leaf}
use Rattle.value_words.specs.OverSlots.{fill_term, slot_term, slot_reading}
use Rattle.value_words.specs.Laws.{AreClosed}
use Rattle.value_words.proofs.Filled.{fill_number}
use Rattle.value_words.proofs.Heads.{Written, number_written}
use Rattle.value_words.proofs.Writing.{TermWritten, number, test, pointer, ReadingWritten, value_written}
use Rattle.call_words.specs.Callee.{reading_at, terms_at}
use Rattle.call_walks.proofs.Said.{IsSaid}

-- ---- leaves

unmarked_as : (i : ℕ) (bytes : List ℕ) → is_marked bytes ≡ false → is_marked (after_as i bytes) ≡ false
unmarked_as zero bytes e = e
unmarked_as (suc i) bytes e = unmarked_as i bytes e

unmarked : (l i : ℕ) → is_marked (leaf_name l i) ≡ false
unfolding leaf_name
unmarked l i = unmarked_as l (98 ∷ after_as i []) (unmarked_as i [] refl)

pub leaf_said : (ss : List Slots) (l i : ℕ) → IsSaid ss (leaf l i) (slot_term (at_or [] ss l) i)
leaf_said ss l i = record {
  closed = ap (λ b. not b || list_any (bytes_eq (leaf_name l i)) []) (unmarked l i);
  filled = ap (λ b. if b then var (leaf_name l i) else as_integer (slot_named (num (pos 0)) ss (leaf_name l i))) (unmarked l i) ∙ ap as_integer (slot_leaf (num (pos 0)) ss l i);
}

-- ---- terms over the leaves of a level

module _ (ss : List Slots) (l : ℕ) where
  leaf_written : (i : ℕ) → Written false ss (leaf l i) (slot_term (at_or [] ss l) i)
  leaf_written i = record { closed = λ e. absurd (false≢true e); filled = (leaf_said ss l i).filled }

  readings_written : (p : Facts) (s : Shape) → ReadingWritten false ss (reading_at p s l) (slot_reading (sizes p s) (at_or [] ss l))
  unfolding slot_reading
  readings_written p s = record {
    locals = λ x. number (leaf_written _);
    globals = λ x. number (leaf_written _);
    temporaries = λ n. number (leaf_written _);
    flags = λ x. leaf_written _;
    homes = λ x. number_written (pos 0);
    table = record { closed = λ e. absurd (false≢true e); filled = refl };
    numbers = λ k. record { closed = λ e. absurd (false≢true e); filled = refl };
    blocks = record { closed = λ e. absurd (false≢true e); filled = refl };
    offsets = record { closed = λ e. absurd (false≢true e); filled = refl };
  }

  term_filled : {a b : Term} → TermWritten false ss a b → fill_term ss a ≡ b
  term_filled (number h) = ap as_number h.filled
  term_filled (test h) = ap as_test h.filled
  term_filled (pointer h g) = λ i. as_pointer (h.filled i) (g.filled i)

  pub terms_filled : (p : Facts) (s : Shape) (es : t.Values) → map (fill_term ss) (terms_at p s l es) ≡ terms_of p s.variables (slot_reading (sizes p s) (at_or [] ss l)) es
  terms_filled p s t.stop = refl
  terms_filled p s (t.more e es) =
      let first = term_filled (value_written p s.variables (readings_written p s) e) in
      let rest = terms_filled p s es in
      λ i. first i ∷ rest i

-- what operands are filled with
pub number_filled : (ss : List Slots) (ts : List Term) (x : ℕ) → fill ss (number_term (term_at ts x)) ≡ number_term (term_at (map (fill_term ss) ts) x)
number_filled ss [] x = refl
number_filled ss (t ∷ ts) zero = fill_number ss t
number_filled ss (t ∷ ts) (suc x) = number_filled ss ts x

-- ---- where nothing stands in slots, what is filled is closed as before

name_filled : (xs : List (List ℕ)) (x : List ℕ) (ts : Trees) (b : Bool) → is_marked x ≡ b
    → (not b || list_any (bytes_eq x) xs) ≡ is_closed xs (if b then node (h.Var x sort.Int) ts else num (pos 0))
name_filled xs x ts true e = ap (λ b. not b || list_any (bytes_eq x) xs) (sym e)
name_filled xs x ts false e = refl

mutual
  pub closed_empty : (t : Tree) (xs : List (List ℕ)) → is_closed xs t ≡ is_closed xs (fill [] t)
  closed_empty (node (h.Var x sort.Int) ts) xs = name_filled xs x ts (is_marked x) refl
  closed_empty (node (h.Var x sort.Memory) ts) xs = refl
  closed_empty (node (h.Var x sort.Table) ts) xs = refl
  closed_empty (node (h.Forall x) ts) xs = ap (λ b. is_marked x && b) (range_empty ts xs x)
  closed_empty (node (h.Exists x) ts) xs = ap (λ b. is_marked x && b) (range_empty ts xs x)
  closed_empty (node (h.Num z) ts) xs = all_empty ts xs
  closed_empty (node (h.Term o) ts) xs = all_empty ts xs
  closed_empty (node h.Ite ts) xs = all_empty ts xs
  closed_empty (node (h.App f) ts) xs = all_empty ts xs
  closed_empty (node (h.Form o) ts) xs = all_empty ts xs
  closed_empty (node h.True ts) xs = all_empty ts xs
  closed_empty (node h.False ts) xs = all_empty ts xs
  closed_empty (node h.Not ts) xs = all_empty ts xs
  closed_empty (node h.And ts) xs = all_empty ts xs
  closed_empty (node h.Or ts) xs = all_empty ts xs
  closed_empty (node h.Imp ts) xs = all_empty ts xs
  closed_empty (node h.Iff ts) xs = all_empty ts xs

  all_empty : (ts : Trees) (xs : List (List ℕ)) → are_closed xs ts ≡ are_closed xs (fill_all [] ts)
  all_empty stop xs = refl
  all_empty (more t ts) xs = let first = closed_empty t xs in let rest = all_empty ts xs in λ i. first i && rest i

  range_empty : (ts : Trees) (xs : List (List ℕ)) (x : List ℕ) → is_closed_range xs x ts ≡ is_closed_range xs x (fill_all [] ts)
  range_empty stop xs x = refl
  range_empty (more a stop) xs x = refl
  range_empty (more a (more b stop)) xs x = refl
  range_empty (more a (more b (more c stop))) xs x =
      let low = closed_empty a xs in let high = closed_empty b xs in let body = closed_empty c (x ∷ xs) in λ i. low i && high i && body i
  range_empty (more a (more b (more c (more d ts)))) xs x = refl

-- ---- arguments

module _ (p : Facts) (s : Shape) (es : t.Values) where
  pub number_closed : AreClosed p s es → (l x : ℕ) → is_closed [] (number_term (term_at (terms_at p s l es) x)) ≡ true
  number_closed good l x =
      closed_empty (number_term (term_at (terms_at p s l es) x)) []
      ∙ ap (is_closed []) (number_filled [] (terms_at p s l es) x ∙ ap (λ ts. number_term (term_at ts x)) (terms_filled [] l p s es)
      ∙ sym (number_filled [] (terms_at p s 0 es) x ∙ ap (λ ts. number_term (term_at ts x)) (terms_filled [] 0 p s es)))
      ∙ sym (closed_empty (number_term (term_at (terms_at p s 0 es) x)) [])
      ∙ good.term x

  -- those of a level are those of the state that was there
  pub levels_alike : (ss before : List Slots) (l : ℕ) → at_or [] ss l ≡ at_or [] before 0 → map (fill_term ss) (terms_at p s l es) ≡ map (fill_term before) (terms_at p s 0 es)
  levels_alike ss before l e =
      terms_filled ss l p s es ∙ ap (λ ts. terms_of p s.variables (slot_reading (sizes p s) ts) es) e ∙ sym (terms_filled before 0 p s es)
