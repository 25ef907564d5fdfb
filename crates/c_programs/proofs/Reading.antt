-- Contracts and what is claimed of loops, clause by clause.
use Rattle.std.proofs.Common.{◌≡◌, ℕ, List, [], ◌∷◌, refl, ap, ◌∙◌}
use Rattle.acsl_clauses.specs.declared.items.Role.TheVariants as role
use Rattle.acsl_clauses.specs.Typed.{Said, TypedClause, claims, decreases, assigns, begins, together}
use Rattle.c_programs.specs.Clauses.{contract_of, loop_with}
use Rattle.c_programs.specs.Laws.{with_said, ContractsAreRead, with_loop_said, LoopsAreRead}

one_clause : (l : ℕ) (s : Said) (xs : List TypedClause) → contract_of (record { said = s; line = l } ∷ xs) ≡ with_said l s (contract_of xs)
one_clause l (claims role.Requires t) xs = refl
one_clause l (claims role.Assumes t) xs = refl
one_clause l (claims role.Ensures t) xs = refl
one_clause l (claims role.Invariant t) xs = refl
one_clause l (decreases t) xs = refl
one_clause l (assigns ts) xs = refl
one_clause l (begins n) xs = refl
one_clause l (together g ns) xs = refl

pub contracts_are_read : ContractsAreRead
contracts_are_read [] = refl
contracts_are_read (x ∷ xs) = one_clause x.line x.said xs ∙ ap (with_said x.line x.said) (contracts_are_read xs)

one_loop_clause : (n l : ℕ) (s : Said) (xs : List TypedClause) → loop_with n (record { said = s; line = l } ∷ xs) ≡ with_loop_said l s (loop_with n xs)
one_loop_clause n l (claims role.Requires t) xs = refl
one_loop_clause n l (claims role.Assumes t) xs = refl
one_loop_clause n l (claims role.Ensures t) xs = refl
one_loop_clause n l (claims role.Invariant t) xs = refl
one_loop_clause n l (decreases t) xs = refl
one_loop_clause n l (assigns ts) xs = refl
one_loop_clause n l (begins m) xs = refl
one_loop_clause n l (together g ns) xs = refl

pub loops_are_read : LoopsAreRead
loops_are_read n [] = refl
loops_are_read n (x ∷ xs) = one_loop_clause n x.line x.said xs ∙ ap (with_loop_said x.line x.said) (loops_are_read n xs)
