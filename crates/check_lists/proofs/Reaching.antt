-- Checks of objects: indices, and what a way leads to.
use Rattle.std.proofs.Common.{◌≡◌, ℕ, suc, ◌+◌, ◌<◌, ◌≤◌, Bool, not, List, [], ◌∷◌, ◌++◌, map, length, drop, get_or, Option, Some, None, refl, sym, ap, ◌∙◌, subst, append_assoc, append-nil}
use Rattle.std.specs.Option.{option_map}
use Rattle.std.proofs.lemmas.List.{at_drop_more, at_drop_all}
use Rattle.typed_prog.specs.declared.operators.Path.{Path}
use Rattle.typed_prog.specs.declared.operators.Step.{Step}
use Rattle.typed_prog.specs.declared.operators.Step.TheVariants as step
use Rattle.c_runs.specs.Program.{Variable}
use Rattle.c_runs.specs.Operators.{init}
use Rattle.c_runs.specs.Objects.{plain_root, has_value}
use Rattle.c_runs.specs.Checks as c
use Rattle.c_runs.specs.Adding.{way_checks_by, way_checks}
use Rattle.check_lists.specs.declared.checks.Check.{Check}
use Rattle.check_lists.specs.View.{view_checks, under, Added, reached}
use Rattle.check_lists.proofs.Adding.{map_append, none_added}

-- ---- indices

one_step : (n : ℕ) (s : Step) (ss : List Step) → c.index_checks n (s ∷ ss) ≡ c.index_checks n (s ∷ []) ++ c.index_checks (suc n) ss
one_step n (step.Element operand size count line) ss = refl
one_step n (step.Field number offset) ss = refl
one_step n (step.Moved operand size) ss = refl

-- what is pushed, and what those that are left give, is the whole
abbrev pub StepsLeft : (old now : List Check) (way : List ℕ) → List Step → (index number : ℕ) → Type 0
StepsLeft old now way ss i n = view_checks now ++ map (under way) (c.index_checks n (drop i ss)) ≡ view_checks old ++ map (under way) (c.index_checks 0 ss)

pub step_turn : (first old new : List Check) (way : List ℕ) (ss : List Step) (i n k : ℕ) (s : Step) → i < length ss → s ≡ get_or ss i s → Added old new way (c.index_checks n (s ∷ [])) → k ≡ suc n
    → StepsLeft first old way ss i n → StepsLeft first new way ss (i + 1) k
unfolding Added
step_turn first old new way ss i n k s in_list is h e so_far =
    let rest = c.index_checks (suc n) (drop (i + 1) ss) in
    ap (λ k. view_checks new ++ map (under way) (c.index_checks k (drop (i + 1) ss))) e ∙ ap (λ zs. zs ++ map (under way) rest) h
    ∙ append_assoc (view_checks old) (map (under way) (c.index_checks n (s ∷ []))) (map (under way) rest)
    ∙ ap (λ zs. view_checks old ++ zs) (sym (map_append (under way) (c.index_checks n (s ∷ [])) rest)
    ∙ ap (map (under way)) (sym (at_drop_more (c.index_checks n) ss i s in_list ∙ ap (λ z. c.index_checks n (z ∷ drop (i + 1) ss)) (sym is) ∙ one_step n s (drop (i + 1) ss))))
    ∙ so_far

pub all_steps : (first now : List Check) (way : List ℕ) (ss : List Step) (i n : ℕ) → length ss ≤ i → StepsLeft first now way ss i n → Added first now way (c.index_checks 0 ss)
unfolding Added
all_steps first now way ss i n past_end so_far =
    sym (append-nil (view_checks now)) ∙ ap (λ zs. view_checks now ++ map (under way) zs) (sym (at_drop_all (c.index_checks n) ss i past_end)) ∙ so_far

-- ---- reads and writes, by whether a variable that no pointer leads to has a value

read_by : Path → Option Bool → List c.Check
read_by path (Some sure) = c.one_if (not sure) init path.line
read_by path None = reached path

read_is : (xs : List Variable) (path : Path) (r : Option ℕ) → c.read_checks_by r xs path ≡ read_by path (option_map (has_value xs) r)
unfolding read_by
read_is xs path None = refl
read_is xs path (Some x) = refl

pub plain_read : (xs : List Variable) (path : Path) (sure : Bool) (old new : List Check) (way : List ℕ) → Some sure ≡ option_map (has_value xs) (plain_root xs path.root)
    → Added old new way (c.one_if (not sure) init path.line) → Added old new way (c.read_checks xs path)
unfolding read_by
plain_read xs path sure old new way e h = subst (Added old new way) (ap (read_by path) e ∙ sym (read_is xs path (plain_root xs path.root))) h

pub other_read : (xs : List Variable) (path : Path) (old new : List Check) (way : List ℕ) → None ≡ option_map (has_value xs) (plain_root xs path.root)
    → Added old new way (reached path) → Added old new way (c.read_checks xs path)
unfolding read_by
other_read xs path old new way e h = subst (Added old new way) (ap (read_by path) e ∙ sym (read_is xs path (plain_root xs path.root))) h

pub ruleset read_laws = (plain_read, other_read)

way_by : Path → Option Bool → List c.Check
way_by path (Some sure) = []
way_by path None = reached path

way_is : (xs : List Variable) (path : Path) (r : Option ℕ) → way_checks_by r path ≡ way_by path (option_map (has_value xs) r)
unfolding way_by
way_is xs path None = refl
way_is xs path (Some x) = refl

pub plain_way : (xs : List Variable) (path : Path) (sure : Bool) (old : List Check) (way : List ℕ) → Some sure ≡ option_map (has_value xs) (plain_root xs path.root)
    → Added old old way (way_checks xs path)
unfolding way_by
plain_way xs path sure old way e = subst (Added old old way) (ap (way_by path) e ∙ sym (way_is xs path (plain_root xs path.root))) (none_added old way)

pub other_way : (xs : List Variable) (path : Path) (old new : List Check) (way : List ℕ) → None ≡ option_map (has_value xs) (plain_root xs path.root)
    → Added old new way (reached path) → Added old new way (way_checks xs path)
unfolding way_by
other_way xs path old new way e h = subst (Added old new way) (ap (way_by path) e ∙ sym (way_is xs path (plain_root xs path.root))) h

pub ruleset way_laws = (plain_way, other_way)
