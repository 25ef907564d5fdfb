-- The loops over the terms of a chain.
use Rattle.std.proofs.Common.{◌≡◌, ℕ, Bool, Option, List, [], ◌∷◌, ◌++◌, map, Ok, Err, refl, sym, ap, ◌∙◌, append_assoc, append-nil}
use mathlib.Core.List.{reverse, reverse_aux}
use Rattle.std.proofs.lemmas.List.{map_push}
use Rattle.wp_base.specs.declared.answers.Stop.{Stop}
use Rattle.wp_base.specs.declared.answers.Stop.TheVariants as stop
use Rattle.c_syntax.specs.declared.expr.BinOp.{BinOp}
use Rattle.c_answers.specs.Answers.{Answer, after, Gives}
use Rattle.acsl_trees.specs.declared.operands.Sort.{Sort}
use Rattle.acsl_trees.specs.declared.operands.Operand.{Operand as Code}
use Rattle.acsl_trees.specs.declared.tree.Tree.{Tree as CodeTree}
use Rattle.acsl_trees.specs.Tree.{Tree, view_tree, view_trees}
use Rattle.acsl_trees.specs.Operands.{Operand, view_operand}
use Rattle.acsl_rules.specs.Values.{valued}
use Rattle.acsl_rules.specs.Chains.{onto, all_valued, nulls_behind, null_beside, is_beside, first_op, other_ops, link, links}

-- ---- one item more behind what is done

more_by : {X : Type 0} (done : List X) (x : X) (o : Answer (List X)) → onto done (after o (λ xs. Ok (x ∷ xs))) ≡ onto (done ++ x ∷ []) o
more_by done x (Ok xs) = ap Ok (sym (append_assoc done (x ∷ []) xs))
more_by done x (Err r) = refl

-- an item that gives x, and those that are to come
onto_more : {X : Type 0} (done : List X) (x : X) (first : Answer X) (o : Answer (List X)) → first ≡ Ok x → onto done (after first (λ x. after o (λ xs. Ok (x ∷ xs)))) ≡ onto (done ++ x ∷ []) o
onto_more done x first o is = ap (λ a. onto done (after a (λ x. after o (λ xs. Ok (x ∷ xs))))) is ∙ more_by done x o

-- ---- the values

pub valued_turn : (line : ℕ) (done done' : List Code) (v x : Code) (all xs : List Code) (whole : Answer (List Operand)) → all ≡ x ∷ xs → done' ≡ done ++ v ∷ [] → valued line (view_operand x) ≡ Ok (view_operand v)
    → onto (map view_operand done) (all_valued line (map view_operand all)) ≡ whole → onto (map view_operand done') (all_valued line (map view_operand xs)) ≡ whole
valued_turn line done done' v x all xs whole first pushed is so_far =
    ap (λ ys. onto (map view_operand ys) (all_valued line (map view_operand xs))) pushed ∙ ap (λ ys. onto ys (all_valued line (map view_operand xs))) (map_push view_operand done v)
    ∙ sym (onto_more (map view_operand done) (view_operand v) (valued line (view_operand x)) (all_valued line (map view_operand xs)) is)
    ∙ sym (ap (λ ys. onto (map view_operand done) (all_valued line (map view_operand ys))) first) ∙ so_far

pub valued_fault : (line : ℕ) (done : List Code) (x : Code) (all xs : List Code) (e : Stop) (whole : Answer (List Operand)) → all ≡ x ∷ xs → Gives view_operand (Err e) (valued line (view_operand x))
    → onto (map view_operand done) (all_valued line (map view_operand all)) ≡ whole → Gives (map view_operand) (Err e) whole
valued_fault line done x all xs (stop.Refused r) whole first fault so_far =
    sym so_far ∙ ap (λ ys. onto (map view_operand done) (all_valued line (map view_operand ys))) first
    ∙ ap (λ a. onto (map view_operand done) (after a (λ v. after (all_valued line (map view_operand xs)) (λ vs. Ok (v ∷ vs))))) fault
valued_fault line done x all xs stop.NoMemory whole first fault so_far = tt

pub valued_done : (line : ℕ) (done all : List Code) (whole : Answer (List Operand)) → all ≡ [] → onto (map view_operand done) (all_valued line (map view_operand all)) ≡ whole → whole ≡ Ok (map view_operand done)
valued_done line done all whole none so_far =
    sym so_far ∙ ap (λ ys. onto (map view_operand done) (all_valued line (map view_operand ys))) none ∙ ap Ok (append-nil (map view_operand done))

pub ruleset valued_laws = (valued_turn, valued_fault, valued_done)

-- ---- null

pub null_turn : (p q : Bool) (ops rest : List BinOp) (done done' : List Code) (v x : Code) (all xs : List Code) (whole : List Operand) → all ≡ x ∷ xs → done' ≡ done ++ v ∷ []
    → view_operand v ≡ null_beside p (view_operand x) → q ≡ is_beside v.sort ops → rest ≡ other_ops ops
    → map view_operand done ++ nulls_behind p ops (map view_operand all) ≡ whole → map view_operand done' ++ nulls_behind q rest (map view_operand xs) ≡ whole
null_turn p q ops rest done done' v x all xs whole first pushed is beside behind so_far =
    ap (λ ys. map view_operand ys ++ nulls_behind q rest (map view_operand xs)) pushed
    ∙ ap (λ ys. ys ++ nulls_behind q rest (map view_operand xs)) (map_push view_operand done v)
    ∙ append_assoc (map view_operand done) (view_operand v ∷ []) (nulls_behind q rest (map view_operand xs))
    ∙ ap (λ b. map view_operand done ++ view_operand v ∷ nulls_behind b rest (map view_operand xs)) beside
    ∙ ap (λ os. map view_operand done ++ view_operand v ∷ nulls_behind (is_beside v.sort ops) os (map view_operand xs)) behind
    ∙ ap (λ w. map view_operand done ++ w ∷ nulls_behind (is_beside w.sort ops) (other_ops ops) (map view_operand xs)) is
    ∙ sym (ap (λ ys. map view_operand done ++ nulls_behind p ops (map view_operand ys)) first) ∙ so_far

-- ---- links

pub link_turn : (line : ℕ) (s : Sort) (ops rest : List BinOp) (o : Option BinOp) (done done' : List CodeTree) (t : CodeTree) (x : Code) (all xs : List Code) (whole : Answer (List Tree)) → all ≡ x ∷ xs → done' ≡ done ++ t ∷ []
    → o ≡ first_op ops → link line o s (view_operand x) ≡ Ok (view_tree t) → rest ≡ other_ops ops
    → onto (view_trees done) (links line s ops (map view_operand all)) ≡ whole → onto (view_trees done') (links line x.sort rest (map view_operand xs)) ≡ whole
link_turn line s ops rest o done done' t x all xs whole first pushed op is behind so_far =
    ap (λ ts. onto (view_trees ts) (links line x.sort rest (map view_operand xs))) pushed
    ∙ ap (λ ts. onto ts (links line x.sort rest (map view_operand xs))) (map_push view_tree done t)
    ∙ ap (λ os. onto (view_trees done ++ view_tree t ∷ []) (links line x.sort os (map view_operand xs))) behind
    ∙ sym (onto_more (view_trees done) (view_tree t) (link line (first_op ops) s (view_operand x)) (links line x.sort (other_ops ops) (map view_operand xs))
    (ap (λ a. link line a s (view_operand x)) (sym op) ∙ is))
    ∙ sym (ap (λ ys. onto (view_trees done) (links line s ops (map view_operand ys))) first) ∙ so_far

-- ---- from the end

pub map_reverse_aux : {X Y : Type 0} (f : X → Y) (xs done : List X) → map f (reverse_aux xs done) ≡ reverse_aux (map f xs) (map f done)
map_reverse_aux f [] done = refl
map_reverse_aux f (x ∷ xs) done = map_reverse_aux f xs (x ∷ done)

pub map_reverse : {X Y : Type 0} (f : X → Y) (xs : List X) → map f (reverse xs) ≡ reverse (map f xs)
map_reverse f xs = map_reverse_aux f xs []
