-- A write to a variable: what is asked of it changes no slots, so its value is what it was before.
use Rattle.std.proofs.Common.{◌≡◌, ℕ, zero, true, List, ◌∷◌, sym, ap, ◌∙◌, subst}
use Rattle.typed_prog.specs.declared.operators.Variable.{Variable}
use Rattle.typed_prog.specs.declared.operators.Root.{Root}
use Rattle.typed_prog.specs.declared.operators.Root.TheVariants as root
use Rattle.qed_terms.specs.Meaning as sense
use Rattle.qed_terms.specs.Tree.{Tree}
use Rattle.c_runs.specs.Program.{Contract, Facts}
use Rattle.c_runs.specs.Claims as broken
use Rattle.plain_runs.specs.Fitting.{Shape}
use Rattle.plain_states.specs.Slots.{Sizes, sizes_of}
use Rattle.walk_steps.specs.Forms.{Place, Check}
use Rattle.walk_steps.specs.Step as steps
use Rattle.walk_steps.specs.World.{World}
use Rattle.walk_steps.specs.Walk.{Goal}
use Rattle.program_steps.specs.Leaves.{closed, fill}
use Rattle.program_steps.specs.Stops.{broken_place}
use Rattle.program_steps.specs.Terms.{Texts}
use Rattle.program_steps.specs.Words.{Point, ask_all, set_variable, variable_number, write_trees}
use Rattle.step_walks.specs.Walks.{Held, Walks, states}
use Rattle.step_walks.proofs.Walking.{seq_goes}
use Rattle.walk_frames.specs.Words.{Still, put_word}
use Rattle.walk_frames.proofs.Moving.{moved}

module _ {bases : List (List ℕ)} where
  pub asked_same : {p q : Held} {fit fit' : List Goal → Type 0} (cs : List Check) → Walks bases (steps.ask cs) p q fit fit' true → states q ≡ states p
  asked_same {p = p} {q = q} cs h = λ i. (ap (λ (w : World). w.slots) (h.end zero)) i ∷ h.olds i

  module _ (m : sense.World) (f : Facts) (s : Shape) (texts : Texts) (c : Contract) (pt : Point) (l : ℕ) (r : Root) (x : Variable) (t : Tree) (at : Place) (n : ℕ) (z : Sizes) (v : Tree) where
    pub put_walks : {p q u : Held} {fit fit' : List Goal → Type 0} → r ≡ root.Variable x → z ≡ sizes_of f s.variables → n ≡ variable_number z x → at ≡ broken_place broken.assigns l
        → Walks bases (ask_all m (write_trees f s texts c pt x) at) p q fit fit' true → fill (states p) (closed t) ≡ v
        → (fill (states q) (closed t) ≡ v → (gs : List Goal) → Walks bases (set_variable m n t) q u (Still gs) (Still gs) true)
        → Walks bases (put_word m f s texts c pt l r t) p u fit fit' true
    put_walks {p = p} {q = q} {u = u} {fit = fit} {fit' = fit'} is_root is_sizes is_number is_place asked e go =
        let same = asked_same _ asked in
        let set = moved (go (ap (λ ss. fill ss (closed t)) same ∙ e)) in
        let number : n ≡ variable_number (sizes_of f s.variables) x = is_number ∙ ap (λ w. variable_number w x) is_sizes in
        subst (λ o. Walks bases (put_word m f s texts c pt l o t) p u fit fit' true) (sym is_root)
        (seq_goes (subst (λ o. Walks bases (ask_all m (write_trees f s texts c pt x) o) p q fit fit' true) is_place asked)
        (subst (λ k. Walks bases (set_variable m k t) q u fit' fit' true) number set))
