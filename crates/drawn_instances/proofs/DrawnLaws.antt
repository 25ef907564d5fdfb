-- Formulas drawn over ids: which ids, and that there are none.
use Rattle.std.proofs.Common.{◌≡◌, List, [], ◌∷◌, map, All, refl, sym, ◌∙◌, ap, subst}
use Rattle.std.proofs.lemmas.List.Elements.{All-nil, All-cons, All-same}
use Rattle.qed_terms.specs.Tree.{Tree}
use Rattle.term_sketches.specs.declared.sketch.Sketch.{Sketch}
use Rattle.term_sketches.specs.Sketches.{sketch_tree, slots}
use Rattle.drawn_instances.specs.Drawn.{AreDrawn}

pub drawn_over : {Id : Type 0} (held : Id → Type 0) (tree : Id → Tree) (made given ids : List Id) (sketches : List Sketch) (fs : List Tree)
    → made ≡ given → given ≡ ids → All held ids → map (sketch_tree (slots (map tree ids))) sketches ≡ fs → AreDrawn held tree made sketches fs
drawn_over held tree made given ids sketches fs e g a d = record {
  ids_held = All-same held made ids (e ∙ g) a;
  drawn = ap (λ is. map (sketch_tree (slots (map tree is))) sketches) (e ∙ g) ∙ d;
}

pub none_drawn : {Id : Type 0} (held : Id → Type 0) (tree : Id → Tree) (ids : List Id) (sketches : List Sketch) (fs : List Tree)
    → ids ≡ [] → sketches ≡ [] → fs ≡ [] → AreDrawn held tree ids sketches fs
none_drawn held tree ids sketches fs e d f = record {
  ids_held = All-same held ids [] e (All-nil held);
  drawn = ap (map (sketch_tree (slots (map tree ids)))) d ∙ sym f;
}

-- ---- ids that are held, as many as a row has

one_held : {Id : Type 0} (held : Id → Type 0) (a : Id) → held a → All held (a ∷ [])
one_held held a p = All-cons held a [] p (All-nil held)

pub held_one : {Id : Type 0} (held : Id → Type 0) (a : Id) → held a → All held (a ∷ [])
held_one held a p = one_held held a p

pub held_two : {Id : Type 0} (held : Id → Type 0) (a b : Id) → held a → held b → All held (a ∷ b ∷ [])
held_two held a b p q = All-cons held a (b ∷ []) p (one_held held b q)

pub held_three : {Id : Type 0} (held : Id → Type 0) (a b c : Id) → held a → held b → held c → All held (a ∷ b ∷ c ∷ [])
held_three held a b c p q r = All-cons held a (b ∷ c ∷ []) p (held_two held b c q r)

pub held_four : {Id : Type 0} (held : Id → Type 0) (a b c d : Id) → held a → held b → held c → held d → All held (a ∷ b ∷ c ∷ d ∷ [])
held_four held a b c d p q r s = All-cons held a (b ∷ c ∷ d ∷ []) p (held_three held b c d q r s)

pub held_six : {Id : Type 0} (held : Id → Type 0) (a b c d e f : Id) → held a → held b → held c → held d → held e → held f → All held (a ∷ b ∷ c ∷ d ∷ e ∷ f ∷ [])
held_six held a b c d e f p q r s t u = All-cons held a (b ∷ c ∷ d ∷ e ∷ f ∷ []) p (All-cons held b (c ∷ d ∷ e ∷ f ∷ []) q (held_four held c d e f r s t u))

pub ruleset instance_laws = (drawn_over, none_drawn, held_one, held_two, held_three, held_four, held_six)
