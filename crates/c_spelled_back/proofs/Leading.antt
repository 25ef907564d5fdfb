-- Ways to objects: over more operands, and one step further.
use Rattle.std.proofs.Common.{◌≡◌, ℕ, zero, suc, List, [], ◌∷◌, ◌++◌, map, length, Some, refl, sym, subst}
use Rattle.std.specs.Prelude.{slice_get}
use Rattle.c_syntax.specs.Expr as e
use Rattle.typed_prog.specs.declared.operators.Root.{Root}
use Rattle.typed_prog.specs.declared.operators.Root.TheVariants as root
use Rattle.typed_prog.specs.declared.operators.Step.{Step}
use Rattle.typed_prog.specs.declared.operators.Step.TheVariants as step
use Rattle.typed_prog.specs.Tree as t
use Rattle.c_places.specs.Objects.{step_behind, root_behind}
use Rattle.c_exprs.specs.Typing.{Around}
use Rattle.c_spelled_back.specs.Ways.{StepSpells, StepsSpell, PointedSpells, WaySpells}
use Rattle.c_spelled_back.specs.Spelled.{ValueSpells, ValuesSpell}

-- ---- operands

get_wider : {X : Type 0} (xs ys : List X) (n : ℕ) (x : X) → slice_get xs n ≡ Some x → slice_get (xs ++ ys) n ≡ Some x
get_wider [] ys n x h = cc
get_wider (a ∷ xs) ys zero x h = h
get_wider (a ∷ xs) ys (suc n) x h = get_wider xs ys n x h

pub operands_more : (c : Around) (vs : List t.Value) (xs : List e.Expr) (v : t.Value) (x : e.Expr) → ValuesSpell c (t.values_of vs) xs → ValueSpells c v x
    → ValuesSpell c (t.values_of (vs ++ v ∷ [])) (xs ++ x ∷ [])
operands_more c [] [] v x fits fit = (fit, tt)
operands_more c [] (y ∷ ys) v x fits fit = absurd fits
operands_more c (w ∷ ws) [] v x fits fit = absurd fits
operands_more c (w ∷ ws) (y ∷ ys) v x fits fit = (fits.0, operands_more c ws ys v x fits.1 fit)

-- a last operand has the number of those before it
pub get_last : (c : Around) (vs : List t.Value) (xs : List e.Expr) (x : e.Expr) → ValuesSpell c (t.values_of vs) xs
    → slice_get (xs ++ x ∷ []) (length vs) ≡ Some x
get_last c [] [] x fits = refl
get_last c [] (y ∷ ys) x fits = absurd fits
get_last c (w ∷ ws) [] x fits = absurd fits
get_last c (w ∷ ws) (y ∷ ys) x fits = get_last c ws ys x fits.1

-- ---- operands more, behind

step_wider : (c : Around) (xs ys : List e.Expr) (s : Step) (a x : e.Expr) → StepSpells c xs s a x → StepSpells c (xs ++ ys) s a x
step_wider c xs ys (step.Field number offset) a x h = h
step_wider c xs ys (step.Element operand size count line) a x h = (h.0, get_wider xs ys operand h.0 h.1, h.2)
step_wider c xs ys (step.Moved operand size) a x h = absurd h

steps_wider : (c : Around) (xs ys : List e.Expr) (ss : List Step) (a x : e.Expr) → StepsSpell c xs ss a x → StepsSpell c (xs ++ ys) ss a x
steps_wider c xs ys [] a x h = h
steps_wider c xs ys (s ∷ ss) a x h = (h.0, step_wider c xs ys s a h.0 h.1, steps_wider c xs ys ss h.0 x h.2)

pointed_wider : (c : Around) (xs ys : List e.Expr) (p : e.Expr) (ss : List Step) (x : e.Expr) → PointedSpells c xs p ss x → PointedSpells c (xs ++ ys) p ss x
pointed_wider c xs ys p [] x h = h
pointed_wider c xs ys p (step.Field number offset ∷ ss) x h = (h.0, steps_wider c xs ys (step.Field number offset ∷ ss) _ x h.1)
pointed_wider c xs ys p (step.Element operand size count line ∷ ss) x h = (h.0, steps_wider c xs ys (step.Element operand size count line ∷ ss) _ x h.1)
pointed_wider c xs ys p (step.Moved operand size ∷ ss) x h = (h.0, h.1, h.2, get_wider xs ys operand h.1 h.3, h.4, steps_wider c xs ys ss h.2 x h.5)

pub way_wider : (c : Around) (xs ys : List e.Expr) (r : Root) (ss : List Step) (x : e.Expr) → WaySpells c xs r ss x → WaySpells c (xs ++ ys) r ss x
way_wider c xs ys (root.Variable v) ss x h = (h.0, h.1, h.2, steps_wider c xs ys ss _ x h.3)
way_wider c xs ys (root.Pointed operand) ss x h = (h.0, get_wider xs ys operand h.0 h.1, pointed_wider c xs ys h.0 ss x h.2)

-- ---- one operand more, in front

step_behind_spells : (c : Around) (o : e.Expr) (xs : List e.Expr) (s : Step) (a x : e.Expr) → StepSpells c xs s a x
    → StepSpells c (o ∷ xs) (step_behind s) a x
step_behind_spells c o xs (step.Field number offset) a x h = h
step_behind_spells c o xs (step.Element operand size count line) a x h = h
step_behind_spells c o xs (step.Moved operand size) a x h = absurd h

steps_behind_spell : (c : Around) (o : e.Expr) (xs : List e.Expr) (ss : List Step) (a x : e.Expr) → StepsSpell c xs ss a x
    → StepsSpell c (o ∷ xs) (map step_behind ss) a x
steps_behind_spell c o xs [] a x h = h
steps_behind_spell c o xs (s ∷ ss) a x h = (h.0, step_behind_spells c o xs s a h.0 h.1, steps_behind_spell c o xs ss h.0 x h.2)

pointed_behind : (c : Around) (o : e.Expr) (xs : List e.Expr) (p : e.Expr) (ss : List Step) (x : e.Expr) → PointedSpells c xs p ss x
    → PointedSpells c (o ∷ xs) p (map step_behind ss) x
pointed_behind c o xs p [] x h = h
pointed_behind c o xs p (step.Field number offset ∷ ss) x h = (h.0, steps_behind_spell c o xs (step.Field number offset ∷ ss) _ x h.1)
pointed_behind c o xs p (step.Element operand size count line ∷ ss) x h = (h.0, steps_behind_spell c o xs (step.Element operand size count line ∷ ss) _ x h.1)
pointed_behind c o xs p (step.Moved operand size ∷ ss) x h = (h.0, h.1, h.2, h.3, h.4, steps_behind_spell c o xs ss h.2 x h.5)

pub way_behind : (c : Around) (o : e.Expr) (xs : List e.Expr) (r : Root) (ss : List Step) (x : e.Expr) → WaySpells c xs r ss x
    → WaySpells c (o ∷ xs) (root_behind r) (map step_behind ss) x
way_behind c o xs (root.Variable v) ss x h = (h.0, h.1, h.2, steps_behind_spell c o xs ss _ x h.3)
way_behind c o xs (root.Pointed operand) ss x h = (h.0, h.1, pointed_behind c o xs h.0 ss x h.2)

-- ---- one step further

steps_more : (c : Around) (xs : List e.Expr) (ss : List Step) (s : Step) (a b x : e.Expr) → StepsSpell c xs ss a b → StepSpells c xs s b x
    → StepsSpell c xs (ss ++ s ∷ []) a x
steps_more c xs [] s a b x h step = (x, subst (λ y. StepSpells c xs s y x) (sym h) step, refl)
steps_more c xs (s' ∷ ss) s a b x h step = (h.0, h.1, steps_more c xs ss s h.0 b x h.2 step)

pointed_more : (c : Around) (xs : List e.Expr) (p : e.Expr) (ss : List Step) (s : Step) (b x : e.Expr) → PointedSpells c xs p ss b → StepSpells c xs s b x
    → PointedSpells c xs p (ss ++ s ∷ []) x
pointed_more c xs p [] (step.Field number offset) b x h further = (h.0, steps_more c xs [] (step.Field number offset) _ b x h.1 further)
pointed_more c xs p [] (step.Element operand size count line) b x h further =
    (h.0, steps_more c xs [] (step.Element operand size count line) _ b x h.1 further)
pointed_more c xs p [] (step.Moved operand size) b x h further = absurd further
pointed_more c xs p (step.Field number offset ∷ ss) s b x h further = (h.0, steps_more c xs (step.Field number offset ∷ ss) s _ b x h.1 further)
pointed_more c xs p (step.Element operand size count line ∷ ss) s b x h further =
    (h.0, steps_more c xs (step.Element operand size count line ∷ ss) s _ b x h.1 further)
pointed_more c xs p (step.Moved operand size ∷ ss) s b x h further = (h.0, h.1, h.2, h.3, h.4, steps_more c xs ss s h.2 b x h.5 further)

pub way_more : (c : Around) (xs : List e.Expr) (r : Root) (ss : List Step) (s : Step) (b x : e.Expr) → WaySpells c xs r ss b → StepSpells c xs s b x
    → WaySpells c xs r (ss ++ s ∷ []) x
way_more c xs (root.Variable v) ss s b x h further = (h.0, h.1, h.2, steps_more c xs ss s _ b x h.3 further)
way_more c xs (root.Pointed operand) ss s b x h further = (h.0, h.1, pointed_more c xs h.0 ss s b x h.2 further)
