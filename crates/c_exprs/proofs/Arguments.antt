-- The arguments of a call, one after another.
use Rattle.std.proofs.Common.{◌≡◌, ℕ, suc, ◌+◌, ◌<◌, ◌≤◌, List, [], ◌∷◌, ◌++◌, map, length, drop, get_or, Result, Ok, Err, refl, sym, ap, ◌∙◌, append_assoc, append-nil}
use Rattle.std.proofs.lemmas.List.{at_drop_more, at_drop_all, map_push}
use Rattle.wp_base.specs.declared.answers.Stop.{Stop}
use Rattle.wp_base.specs.declared.answers.Stop.TheVariants as stop
use Rattle.c_syntax.specs.declared.expr.Expr.{Expr}
use Rattle.c_syntax.specs.Expr as e
use Rattle.c_syntax.specs.View.{view_expr}
use Rattle.c_syntax.proofs.Lines.{line_is}
use Rattle.c_answers.specs.Answers.{Answer, after, wrong, Gives}
use Rattle.typed_prog.specs.declared.types.CoreType.{CoreType}
use Rattle.typed_prog.specs.declared.tree.Value.{Value}
use Rattle.typed_prog.specs.Tree as t
use Rattle.typed_prog.specs.View.{view_value, view_values}
use Rattle.c_operands.specs.Operands.{Operand}
use Rattle.c_exprs.specs.Typing.{Around, typed, typed_for, typed_all, passed, count_of}
use Rattle.c_exprs.specs.Frames.{args_of, behind}

pub count_is : (args : List Expr) → count_of (args_of args) ≡ length args
count_is [] = refl
count_is (x ∷ xs) = ap suc (count_is xs)

-- ---- for parameters

no_argument : (c : Around) (types : List CoreType) → typed_for c types e.stop ≡ Ok []
no_argument c [] = refl
no_argument c (type ∷ types) = refl

-- what is left begins with an argument for a parameter
one_left : (c : Around) (types : List CoreType) (args : List Expr) (i : ℕ) (type : CoreType) (arg : Expr) → i < length types → i < length args → type ≡ get_or types i type → arg ≡ get_or args i arg
    → typed_for c (drop i types) (args_of (drop i args))
    ≡ after (after (typed c (view_expr arg)) (passed c.model arg.line type)) (λ v. after (typed_for c (drop (i + 1) types) (args_of (drop (i + 1) args))) (λ vs. Ok (v ∷ vs)))
one_left c types args i type arg in_types in_args is_type is_arg =
    at_drop_more (λ ts. typed_for c ts (args_of (drop i args))) types i type in_types ∙ ap (λ u. typed_for c (u ∷ drop (i + 1) types) (args_of (drop i args))) (sym is_type)
    ∙ at_drop_more (λ xs. typed_for c (type ∷ drop (i + 1) types) (args_of xs)) args i arg in_args ∙ ap (λ x. typed_for c (type ∷ drop (i + 1) types) (args_of (x ∷ drop (i + 1) args))) (sym is_arg)
    ∙ ap (λ line. after (after (typed c (view_expr arg)) (passed c.model line type)) (λ v. after (typed_for c (drop (i + 1) types) (args_of (drop (i + 1) args))) (λ vs. Ok (v ∷ vs)))) (line_is arg)

one_behind : (vs : List t.Value) (v : t.Value) (o : Answer (List t.Value)) → behind (vs ++ v ∷ []) o ≡ behind vs (after o (λ ws. Ok (v ∷ ws)))
one_behind vs v (Ok ws) = ap (λ us. Ok us) (append_assoc vs (v ∷ []) ws)
one_behind vs v (Err r) = refl

pub argument_turn : (c : Around) (types : List CoreType) (args : List Expr) (i : ℕ) (type : CoreType) (arg : Expr) (vs more : List t.Value) (v : t.Value) (whole : Answer (List t.Value)) → i < length types → i < length args
    → type ≡ get_or types i type → arg ≡ get_or args i arg → after (typed c (view_expr arg)) (passed c.model arg.line type) ≡ Ok v → more ≡ vs ++ v ∷ []
    → behind vs (typed_for c (drop i types) (args_of (drop i args))) ≡ whole → behind more (typed_for c (drop (i + 1) types) (args_of (drop (i + 1) args))) ≡ whole
argument_turn c types args i type arg vs more v whole in_types in_args is_type is_arg made grown so_far =
    let rest = typed_for c (drop (i + 1) types) (args_of (drop (i + 1) args)) in
    ap (λ us. behind us rest) grown ∙ one_behind vs v rest ∙ ap (λ o. behind vs (after o (λ u. after rest (λ us. Ok (u ∷ us))))) (sym made)
    ∙ ap (behind vs) (sym (one_left c types args i type arg in_types in_args is_type is_arg)) ∙ so_far

pub argument_fault : {V W : Type 0} (see : V → t.Value) (see' : W → List t.Value) (c : Around) (types : List CoreType) (args : List Expr) (i : ℕ) (type : CoreType) (arg : Expr) (vs : List t.Value) (x : Stop) (whole : Answer (List t.Value))
    → i < length types → i < length args → type ≡ get_or types i type → arg ≡ get_or args i arg → Gives see (Err x) (after (typed c (view_expr arg)) (passed c.model arg.line type))
    → behind vs (typed_for c (drop i types) (args_of (drop i args))) ≡ whole → Gives see' (Err x) whole
argument_fault see see' c types args i type arg vs (stop.Refused r) whole in_types in_args is_type is_arg fault so_far =
    let rest = typed_for c (drop (i + 1) types) (args_of (drop (i + 1) args)) in
    sym so_far ∙ ap (behind vs) (one_left c types args i type arg in_types in_args is_type is_arg) ∙ ap (λ o. behind vs (after o (λ u. after rest (λ us. Ok (u ∷ us))))) fault
argument_fault see see' c types args i type arg vs stop.NoMemory whole in_types in_args is_type is_arg fault so_far = tt

pub arguments_done : (c : Around) (types : List CoreType) (args : List Expr) (i : ℕ) (vs : List t.Value) (whole : Answer (List t.Value)) → length args ≤ i → behind vs (typed_for c (drop i types) (args_of (drop i args))) ≡ whole → whole ≡ Ok vs
arguments_done c types args i vs whole all so_far =
    sym so_far ∙ at_drop_all (λ xs. behind vs (typed_for c (drop i types) (args_of xs))) args i all ∙ ap (behind vs) (no_argument c (drop i types)) ∙ ap (λ us. Ok us) (append-nil vs)

pub ruleset argument_laws = (argument_turn, argument_fault, arguments_done)

-- ---- for their faults alone

first_alone : (c : Around) (args : List Expr) (i : ℕ) (arg : Expr) → i < length args → arg ≡ get_or args i arg → typed_all c (args_of (drop i args)) ≡ after (typed c (view_expr arg)) (λ _. typed_all c (args_of (drop (i + 1) args)))
first_alone c args i arg in_args is_arg = at_drop_more (λ xs. typed_all c (args_of xs)) args i arg in_args ∙ ap (λ x. typed_all c (args_of (x ∷ drop (i + 1) args))) (sym is_arg)

pub alone_turn : (c : Around) (args : List Expr) (i : ℕ) (arg : Expr) (x : Operand) (whole : Answer (Unit {0})) → i < length args → arg ≡ get_or args i arg → typed c (view_expr arg) ≡ Ok x → typed_all c (args_of (drop i args)) ≡ whole
    → typed_all c (args_of (drop (i + 1) args)) ≡ whole
alone_turn c args i arg x whole in_args is_arg made so_far = sym (first_alone c args i arg in_args is_arg ∙ ap (λ o. after o (λ _. typed_all c (args_of (drop (i + 1) args)))) made) ∙ so_far

pub alone_fault : {V W : Type 0} (see : V → Operand) (see' : W → Operand) (c : Around) (args : List Expr) (i : ℕ) (arg : Expr) (line : ℕ) (x : Stop) (whole : Answer (Unit {0})) → i < length args → arg ≡ get_or args i arg
    → Gives see (Err x) (typed c (view_expr arg)) → typed_all c (args_of (drop i args)) ≡ whole → Gives see' (Err x) (after whole (λ _. wrong line))
alone_fault see see' c args i arg line (stop.Refused r) whole in_args is_arg fault so_far =
    ap (λ o. after o (λ _. wrong line)) (sym so_far ∙ first_alone c args i arg in_args is_arg ∙ ap (λ o. after o (λ _. typed_all c (args_of (drop (i + 1) args)))) fault)
alone_fault see see' c args i arg line stop.NoMemory whole in_args is_arg fault so_far = tt

pub alone_done : (c : Around) (args : List Expr) (i : ℕ) (line : ℕ) (whole : Answer (Unit {0})) → length args ≤ i → typed_all c (args_of (drop i args)) ≡ whole → after whole (λ _. wrong {X = Operand} line) ≡ wrong line
alone_done c args i line whole all so_far = ap (λ o. after o (λ _. wrong {X = Operand} line)) (sym so_far ∙ at_drop_all (λ xs. typed_all c (args_of xs)) args i all)

pub ruleset alone_laws = (alone_turn, alone_fault, alone_done)
