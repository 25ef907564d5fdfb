-- Equations of the readers in the words of the code.
use Rattle.std.proofs.Common.{◌≡◌, ℕ, zero, suc, ◌+◌, true, false, List, [], ◌∷◌, ◌++◌, length, Some, None, refl, sym, ap, ◌∙◌, arith, append_assoc, append-nil}
use Rattle.c_syntax.specs.declared.token.Token.{Token}
use Rattle.c_syntax.specs.declared.token.Punct.TheVariants as p
use Rattle.parse_file.specs.Read as r
use Rattle.parse_file.specs.Read.{Found, Front}
use Rattle.parse_file.specs.Views.{and_then}

-- ---- behind the words of a type

pub opens_none : (ts : List Token) → length ts ≡ 0 → r.opens_params ts ≡ false
unfolding r.opens_params
opens_none [] h = refl
opens_none (t ∷ ts) h = absurd (omega arith)

pub opens_stop : (ts : List Token) (t : Token) (after : List Token) → ts ≡ t ∷ after → r.is_pointer t.kind ≡ false → r.opens_params ts ≡ r.names_then p.OpenParen ts
unfolding r.opens_params
opens_stop ts t after is h = rw (is, h) refl

pub opens_go : (ts : List Token) (t : Token) (after : List Token) → ts ≡ t ∷ after → r.is_pointer t.kind ≡ true → r.opens_params after ≡ r.opens_params ts
unfolding r.opens_params
opens_go ts t after is h = rw (is, h) refl

-- ---- files

pub front_begins : (end turns : ℕ) (ts : List Token) → and_then (r.nothing_more [] ts) (r.front_of end turns [] ts) ≡ r.front_of end turns [] ts
front_begins end turns ts = refl

nothing_after : (f : Front) → and_then f (r.nothing_more f.names f.left) ≡ f
nothing_after f = λ i. record { decls = append-nil f.decls i; names = f.names; lines = append-nil f.lines i; left = f.left }

pub front_ends : (end turns : ℕ) (f : Front) → turns ≡ 0 → and_then f (r.front_of end turns f.names f.left) ≡ f
unfolding r.front_of
front_ends end zero f h = nothing_after f
front_ends end (suc turns) f h = absurd (omega arith)

pub front_stops : (end turns : ℕ) (f : Front) → r.decl_at f.names end f.left ≡ None → and_then f (r.front_of end turns f.names f.left) ≡ f
unfolding r.front_of
front_stops end zero f h = nothing_after f
front_stops end (suc turns) f h = rw h (nothing_after f)

front_goes : (end turns : ℕ) (f : Front) (x : Found) (rest : List Token) → r.decl_at f.names end f.left ≡ Some (x, rest)
    → and_then f (r.front_of end (suc turns) f.names f.left) ≡ and_then f (r.before_front x (r.front_of end turns (f.names ++ x.names) rest))
unfolding r.front_of
front_goes end turns f x rest h = rw h refl

pub front_turn : (end turns turns' : ℕ) (f f' : Front) (x : Found) (rest : List Token) → turns ≡ turns' + 1 → r.decl_at f.names end f.left ≡ Some (x, rest)
    → f'.decls ≡ f.decls ++ x.decls → f'.names ≡ f.names ++ x.names → f'.lines ≡ f.lines ++ x.lines → f'.left ≡ rest
    → and_then f' (r.front_of end turns' f'.names f'.left) ≡ and_then f (r.front_of end turns f.names f.left)
front_turn end turns turns' f f' x rest more read decls names lines left =
    let one : turns ≡ suc turns' = omega arith in
    let g = r.front_of end turns' (f.names ++ x.names) rest in
    let moved : and_then f' (r.front_of end turns' f'.names f'.left) ≡ and_then (record { decls = f.decls ++ x.decls; names = f.names ++ x.names; lines = f.lines ++ x.lines; left = rest }) g =
    (λ i. and_then (record { decls = decls i; names = names i; lines = lines i; left = left i }) (r.front_of end turns' (names i) (left i))) in
    let grouped : and_then (record { decls = f.decls ++ x.decls; names = f.names ++ x.names; lines = f.lines ++ x.lines; left = rest }) g ≡ and_then f (r.before_front x g) =
    (λ i. record { decls = append_assoc f.decls x.decls g.decls i; names = g.names; lines = append_assoc f.lines x.lines g.lines i; left = g.left }) in
    moved ∙ grouped ∙ sym (ap (λ turns. and_then f (r.front_of end turns f.names f.left)) one ∙ front_goes end turns' f x rest read)
