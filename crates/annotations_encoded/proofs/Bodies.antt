-- Bodies of logic functions, under the names of their parameters.
use Rattle.std.proofs.Common.{◌≡◌, zero, suc, true, List, [], ◌∷◌, length, Option, Some, None, refl, sym, ap, subst}
use Rattle.acsl_trees.specs.declared.operands.TermType.{TermType}
use Rattle.acsl_trees.specs.declared.operands.TermType.TheVariants as type
use Rattle.acsl_encode.specs.Readings.{Named, one, two}
use Rattle.acsl_encode.specs.Encode.{encoded}
use Rattle.acsl_encode.specs.Setting.{body_reading, names_of, terms_named}
use Rattle.acsl_well_typed.specs.WellTyped.{What, an_integer, a_pointer, types_give, one_more}
use Rattle.acsl_well_typed.specs.WellTyped as typed
use Rattle.annotations_encoded.specs.Serving.{are_params}
use Rattle.annotations_encoded.specs.Laws.{IsNamed, AreNamed, BodiesAreEncoded}
use Rattle.annotations_encoded.proofs.Terms.{number_there}
use Rattle.annotations_encoded.proofs.Encoded.{tree}

one_given : {X : Type 0} (x : X) (o : Option (List X)) (ws : List X) → one_more (Some x) o ≡ Some ws → (vs : List X) × (o ≡ Some vs) × (ws ≡ x ∷ vs)
one_given x (Some vs) ws e = (vs, refl, cc)
one_given x None ws e = absurd cc

-- one name before the others
first_named : (w : What) (ws : typed.Names) (p : Named) (ps : List Named) → IsNamed w (terms_named p) → AreNamed ws (names_of ps) → AreNamed (w ∷ ws) (names_of (p ∷ ps))
first_named w ws p ps h n zero v e = let same : w ≡ v = cc in subst (λ v. IsNamed v (terms_named p)) same h
first_named w ws p ps h n (suc x) v e = n x v e

none_named : (ps : List Named) → AreNamed [] (names_of ps)
none_named ps x v e = absurd cc

-- names of the sorts of parameters
pub params_named : (ts : List TermType) (ps : List Named) (ws : typed.Names) → are_params ts ps ≡ true → types_give ts ≡ Some ws
    → AreNamed ws (names_of ps) × (length ws ≡ length ps)
params_named [] [] [] p e = (none_named [], refl)
params_named [] [] (w ∷ ws) p e = absurd cc
params_named (type.Integer ∷ ts) (one y ∷ ps) ws p e =
    let g = one_given an_integer (types_give ts) ws e in
    let rest = params_named ts ps g.0 p g.1 in
    subst (λ ws. AreNamed ws (names_of (one y ∷ ps)) × (length ws ≡ length (one y ∷ ps))) (sym g.2)
    (first_named an_integer g.0 (one y) ps tt rest.0, ap suc rest.1)
params_named (type.Pointer c ∷ ts) (two b o ∷ ps) ws p e =
    let g = one_given a_pointer (types_give ts) ws e in
    let rest = params_named ts ps g.0 p g.1 in
    subst (λ ws. AreNamed ws (names_of (two b o ∷ ps)) × (length ws ≡ length (two b o ∷ ps))) (sym g.2)
    (first_named a_pointer g.0 (two b o) ps tt rest.0, ap suc rest.1)
params_named ts ps ws p e = absurd cc

pub bodies_are_encoded : BodiesAreEncoded
bodies_are_encoded ds result r known c params ws t p e gives s =
    let n = params_named params c.params ws p e in
    number_there (encoded (body_reading r known c) (names_of c.params) 0 (length c.params) t)
    (tree ds result t (body_reading r known c) ws (names_of c.params) 0 (length c.params) n.1 n.0 an_integer gives s).0
