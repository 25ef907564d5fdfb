-- Functions that are found by their numbers, and what is so where a call gave something.
use Rattle.std.proofs.Common.{◌≡◌, ◌<◌, ℕ, zero, suc, List, [], ◌∷◌, map, length, get_or, arith, Option, Some, None, Result, Ok, Err, IfOk, sym, ap, ◌∙◌}
use Rattle.std.specs.Option.{option_map}
use Rattle.c_runs.specs.Tree.{Steps}
use Rattle.c_runs.specs.Program.{Function}
use Rattle.slot_names.specs.Bases.{Name}
use Rattle.program_trees.specs.Files.{at}
use Rattle.verified_sources.proofs.Numbered.{seen}
use Rattle.file_reports.specs.Bases.{function_bases, bases_if}

pub is_found : {X Y : Type 0} (f : X → Y) (xs ys : List (Option X)) (n : ℕ) (x : X) → Some x ≡ at xs n → xs ≡ ys → at (map (option_map f) ys) n ≡ Some (f x)
is_found f xs ys n x e same = seen f ys n ∙ ap (option_map f) (sym (e ∙ ap (λ zs. at zs n) same))

pub is_missing : {X Y : Type 0} (f : X → Y) (xs ys : List (Option X)) (n : ℕ) → None ≡ at xs n → xs ≡ ys → at (map (option_map f) ys) n ≡ None
is_missing f xs ys n e same = seen f ys n ∙ ap (option_map f) (sym (e ∙ ap (λ zs. at zs n) same))

pub if_so : {X E : Type 0} {A B : Type 0} (r : Result X E) → (A → B) → IfOk r (λ x. A) → IfOk r (λ x. B)
if_so (Ok x) f a = f a
if_so (Err e) f a = tt

pub if_all : {X E : Type 0} {A B C D : Type 0} (r : Result X E) → (A → B → C → D) → IfOk r (λ x. A) → IfOk r (λ x. B) → IfOk r (λ x. C) → IfOk r (λ x. D)
if_all (Ok x) f a b c = f a b c
if_all (Err e) f a b c = tt

pub if_both : {X E : Type 0} {P Q R : X → Type 0} (r : Result X E) → ((x : X) → P x → Q x → R x) → IfOk r P → IfOk r Q → IfOk r R
if_both (Ok x) f p q = f x p q
if_both (Err e) f p q = tt

-- the base names of a function that is found
pub based_some : {E : Type 0} (file own found : List Name) (f : Function Steps) (o : Option (Function Steps)) (r : Result (List Name) E) → o ≡ Some f → found ≡ own → IfOk r (λ made. made ≡ function_bases file found f)
    → IfOk r (λ made. made ≡ bases_if file own o)
based_some file own found f o (Ok x) e same h = h ∙ ap (λ xs. function_bases file xs f) same ∙ sym (ap (bases_if file own) e)
based_some file own found f o (Err x) e same h = tt

-- the item behind a mapped list's place
pub seen_item : {A B C : Type 0} (see : A → B) (f : B → C) (xs ys : List A) (zs : List C) (i : ℕ) (x : A) (z : C) → zs ≡ map f (map see ys) → xs ≡ ys → i < length xs → x ≡ get_or xs i x → z ≡ get_or zs i z → z ≡ f (see x)
seen_item {A = A} see f xs ys zs i x z are same within is found = by xs i within is (found ∙ ap (λ ws. get_or ws i z) (are ∙ ap (λ ws. map f (map see ws)) (sym same)))
  where
    by : (xs : List A) (i : ℕ) → i < length xs → x ≡ get_or xs i x → z ≡ get_or (map f (map see xs)) i z → z ≡ f (see x)
    by [] i within is found = absurd (omega (arith, within))
    by (y ∷ ys) zero within is found = found ∙ ap (λ w. f (see w)) (sym is)
    by (y ∷ ys) (suc i) within is found = by ys i (omega (arith, within)) is found
