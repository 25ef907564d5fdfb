-- Constants read nothing.
use Rattle.std.proofs.Common.{◌≡◌, Bool, true, false, ◌&&◌, ◌||◌, refl}
use Rattle.typed_prog.specs.declared.operators.Op.TheVariants as op
use Rattle.typed_prog.specs.declared.operators.Path.{Path}
use Rattle.typed_prog.specs.Tree as t
use Rattle.c_decls.specs.Constants.{is_number, are_numbers, is_of_file, are_inside, is_part_of_file, is_address, is_address_node}
use Rattle.c_decls.specs.Laws.{is_still, is_still_node, are_still, ConstantsReadNothing}

-- both of two tests
parts : (a b : Bool) → (a && b) ≡ true → (a ≡ true) × (b ≡ true)
parts true b h = (refl, h)
parts false b h = absurd cc

both : (a b : Bool) → a ≡ true → b ≡ true → (a && b) ≡ true
both a b p q = λ i. p i && q i

-- one of two
one_of : (a b : Bool) (X : Type 0) → (a ≡ true → X) → (b ≡ true → X) → (a || b) ≡ true → X
one_of true b X f g h = f refl
one_of false b X f g h = g h

number_still : (v : t.Value) → is_number v ≡ true → is_still v ≡ true
number_still (t.typed (t.constant z) type line) h = refl
number_still (t.typed t.null type line) h = absurd cc
number_still (t.typed (t.temporary n) type line) h = absurd cc
number_still (t.typed (t.apply o vs) type line) h = absurd cc
number_still (t.typed (t.logic how a b) type line) h = absurd cc
number_still (t.typed (t.choose test a b) type line) h = absurd cc
number_still (t.typed (t.effect e vs) type line) h = absurd cc

numbers_still : (vs : t.Values) → are_numbers vs ≡ true → are_still vs ≡ true
numbers_still t.stop h = refl
numbers_still (t.more v vs) h =
    let p = parts (is_number v) (are_numbers vs) h in
    both (is_still v) (are_still vs) (number_still v p.0) (numbers_still vs p.1)

part_still : (path : Path) (vs : t.Values) → is_part_of_file path vs ≡ true → (is_of_file path.root && are_still vs) ≡ true
part_still path vs h =
    let p = parts (is_of_file path.root && are_inside path.steps) (are_numbers vs) h in
    both (is_of_file path.root) (are_still vs) (parts (is_of_file path.root) (are_inside path.steps) p.0).0 (numbers_still vs p.1)

mutual
  address_still : (or_null : Bool) (v : t.Value) → is_address or_null v ≡ true → is_still v ≡ true
  address_still or_null (t.typed node type line) h = node_still or_null node h

  node_still : (or_null : Bool) (node : t.ValueNode) → is_address_node or_null node ≡ true → is_still_node node ≡ true
  node_still or_null (t.constant z) h = absurd cc
  node_still or_null t.null h = refl
  node_still or_null (t.temporary n) h = absurd cc
  node_still or_null (t.logic how a b) h = absurd cc
  node_still or_null (t.choose test a b) h = absurd cc
  node_still or_null (t.effect e vs) h = absurd cc
  node_still or_null (t.apply (op.Address path accessed) vs) h = part_still path vs h
  node_still or_null (t.apply (op.Decay path accessed) vs) h = part_still path vs h
  node_still or_null (t.apply op.Requalify t.stop) h = absurd cc
  node_still or_null (t.apply op.Requalify (t.more v t.stop)) h = both (is_still v) true (address_still or_null v h) refl
  node_still or_null (t.apply op.Requalify (t.more v (t.more w vs))) h = absurd cc
  node_still or_null (t.apply (op.Offset minus false size accessed) t.stop) h = absurd cc
  node_still or_null (t.apply (op.Offset minus false size accessed) (t.more v t.stop)) h = absurd cc
  node_still or_null (t.apply (op.Offset minus false size accessed) (t.more v (t.more w t.stop))) h =
      let p = parts (is_number w) (is_address false v) h in
      both (is_still v) (is_still w && true) (address_still false v p.1) (both (is_still w) true (number_still w p.0) refl)
  node_still or_null (t.apply (op.Offset minus false size accessed) (t.more v (t.more w (t.more u vs)))) h = absurd cc
  node_still or_null (t.apply (op.Offset minus true size accessed) t.stop) h = absurd cc
  node_still or_null (t.apply (op.Offset minus true size accessed) (t.more v t.stop)) h = absurd cc
  node_still or_null (t.apply (op.Offset minus true size accessed) (t.more v (t.more w t.stop))) h =
      let p = parts (is_number v) (is_address false w) h in
      both (is_still v) (is_still w && true) (number_still v p.0) (both (is_still w) true (address_still false w p.1) refl)
  node_still or_null (t.apply (op.Offset minus true size accessed) (t.more v (t.more w (t.more u vs)))) h = absurd cc
  node_still or_null (t.apply (op.Read path) vs) h = absurd cc
  node_still or_null (t.apply op.Negate vs) h = absurd cc
  node_still or_null (t.apply op.Complement vs) h = absurd cc
  node_still or_null (t.apply op.Not vs) h = absurd cc
  node_still or_null (t.apply (op.Arithmetic how) vs) h = absurd cc
  node_still or_null (t.apply (op.Compare how) vs) h = absurd cc
  node_still or_null (t.apply (op.ComparePointers how) vs) h = absurd cc
  node_still or_null (t.apply (op.Difference size) vs) h = absurd cc
  node_still or_null (t.apply op.Convert vs) h = absurd cc
  node_still or_null (t.apply op.Cast vs) h = absurd cc

pub constants_read_nothing : ConstantsReadNothing
constants_read_nothing v h = one_of (is_number v) (is_address true v) (is_still v ≡ true) (number_still v) (address_still true v) h
