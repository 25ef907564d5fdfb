-- Writes, in the words of the code.
use Rattle.std.proofs.Common.{◌≡◌, ℕ, zero, suc, Bool, List, [], ◌∷◌, map, refl, sym, ap, ◌∙◌, subst}
use Rattle.std.specs.Prelude.{Option}
use Rattle.c_runs.specs.Program.{Function}
use Rattle.typed_prog.specs.Tree as t
use Rattle.typed_prog.specs.declared.operators.Path.{Path}
use Rattle.typed_prog.specs.declared.operators.Root.{Root}
use Rattle.typed_prog.specs.declared.operators.Root.TheVariants as root
use Rattle.typed_prog.specs.declared.types.CoreType.{CoreType}
use Rattle.qed_terms.specs.Tree.{Tree}
use Rattle.c_runs.specs.Tree as core
use Rattle.c_runs.specs.Checks.{Check}
use Rattle.value_terms.specs.Readings.{Term, number_term, term_at}
use Rattle.value_terms.specs.Terms.{terms_of}
use Rattle.walk_steps.specs.Forms.{Slots}
use Rattle.walk_steps.specs.Walk.{Goal}
use Rattle.program_trees.specs.View.{view_contract}
use Rattle.program_steps.specs.Leaves.{closed, fill}
use Rattle.program_steps.specs.Temporaries.{Temporaries}
use Rattle.program_steps.specs.Terms.{Texts}
use Rattle.program_steps.specs.Words as words
use Rattle.value_words.specs.Laws.{AreClosed}
use Rattle.value_words.specs.OverSlots.{fill_term, leaf_reading}
use Rattle.value_words.proofs.Filled.{fill_number}
use Rattle.step_walks.specs.Walks.{Held, Walks, states}
use Rattle.step_walks.proofs.Walking.{seq_goes}
use Rattle.walk_frames.specs.declared.frames.Frame.{Frame}
use Rattle.walk_frames.specs.View.{facts_in, shape_in, variables_in}
use Rattle.walk_frames.specs.Words.{put_word}
use Rattle.walk_frames.specs.Evaluated.{EvaluatedAll}
use Rattle.walk_frames.proofs.Asking.{closed_is}
use Rattle.program_walk.specs.View.{Over, others_in, step_word}

-- the number of an operand, over these slots
pub number_filled : (ss : List Slots) (ts : List Term) (i : ℕ) → fill ss (number_term (term_at ts i)) ≡ number_term (term_at (map (fill_term ss) ts) i)
number_filled ss [] i = refl
number_filled ss (u ∷ ts) zero = fill_number ss u
number_filled ss (u ∷ ts) (suc i) = number_filled ss ts i

module _ (g : Over) (x : Frame) (fs : ℕ → Option (Function core.Steps)) (text : Texts) (pt : words.Point) where
  put_same : (l : ℕ) (r : Root) (u : Tree)
      → put_word g.world (facts_in x) (shape_in x g.kinds) text (view_contract x.contract.now) pt l r u
      ≡ words.store_to g.world (facts_in x) (shape_in x g.kinds) text (view_contract x.contract.now) (others_in g x fs text) pt l r u
  put_same l (root.Variable v) u = refl
  put_same l (root.Pointed n) u = refl

  pub store_walks : {p q r : Held} {fit fit' fit'' : List Goal → Type 0} {goes : Bool} (cs : List Check) (type : CoreType) (l : ℕ) (path : Path) (es : t.Values) (f : Temporaries) (made : List Term) (value : Tree)
      → AreClosed (facts_in x) (shape_in x g.kinds) es → EvaluatedAll g.world x.bases.now (facts_in x) (variables_in x) es made p q fit fit'
      → value ≡ number_term (term_at made 0)
      → ((u : Tree) → fill (states q) (closed u) ≡ value
      → Walks x.bases.now (put_word g.world (facts_in x) (shape_in x g.kinds) text (view_contract x.contract.now) pt l path.root u) q r fit' fit'' goes)
      → Walks x.bases.now (step_word g x fs text pt (core.store cs type l path es) f) p r fit fit'' goes
  store_walks {p = p} {q = q} {r = r} {fit = fit} {fit' = fit'} {fit'' = fit''} {goes = goes} cs type l path es f made value c ev is go =
      let ts = terms_of (facts_in x) (variables_in x) (leaf_reading (facts_in x) (variables_in x)) es in
      let u = number_term (term_at ts 0) in
      let filled : fill (states q) (closed u) ≡ value =
      ap (fill (states q)) (closed_is u (c.term 0)) ∙ number_filled (states q) ts 0 ∙ ap (λ us. number_term (term_at us 0)) (sym ev.terms) ∙ sym is in
      seq_goes ev.walks (subst (λ a. Walks x.bases.now a q r fit' fit'' goes) (put_same l path.root u) (go u filled))
