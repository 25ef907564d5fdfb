-- Simple bodies come to what they are encoded as.
use Rattle.std.proofs.Common.{◌≡◌, ℕ, ◌+◌, ◌==◌, Bool, true, false, if◌then◌else◌, List, [], ◌∷◌, length, refl, sym, ap, ◌∙◌}
use Rattle.std.specs.Prelude.{Option, Some, None}
use Rattle.std.proofs.lemmas.Bool.{and_parts, false≢true}
use Rattle.wp_base.specs.declared.kinds.Kind.{Kind}
use Rattle.typed_prog.specs.declared.operators.Variable.{Variable}
use Rattle.typed_prog.specs.declared.operators.Variable.TheVariants as variables
use Rattle.acsl_trees.specs.declared.heads.Content.{Content}
use Rattle.acsl_trees.specs.declared.heads.Content.TheVariants as content
use Rattle.acsl_trees.specs.declared.heads.Label.{Label}
use Rattle.acsl_trees.specs.declared.heads.Head.TheVariants as hd
use Rattle.acsl_trees.specs.Tree.{Tree, Trees, node, stop, more}
use Rattle.c_runs.specs.Truth.{heads_of}
use Rattle.qed_terms.specs.Tree.{var}
use Rattle.acsl_encode.specs.Readings.{Global, integer_global, pointer_global, Slot, whole, any_integer, pointer, home, absent, Seen, truth, nothing, Reading}
use Rattle.acsl_encode.specs.Encode.{Names, with_one, all_of, in_chain, of_variable, held, read, applied, called, binders, encoded, all_encoded, as_integer}
use Rattle.acsl_encode.specs.Setting.{body_reading, names_of, slot_in}
use Rattle.logic_trees.specs.Told.{shared, node_is_simple, is_simple, are_simple}
use Rattle.logic_trees.specs.Heads.{first_global}
use Rattle.logic_bodies.specs.Bodies.{reading_with, read_by, body_terms, all_terms}
use Rattle.logic_bodies.specs.Laws.{BodiesAreEncoded}

-- ---- variables that have no address

abbrev is_home : Slot → Bool
is_home (home b) = true
is_home s = false

slot_read : (k : Kind) (s : Seen) (x : Variable) (t : Slot) → s.variable x ≡ t → is_home t ≡ false → read (content.Integer k) s (of_variable x t) ≡ held (content.Integer k) t
slot_read k s x (whole l t) e not_home = ap (held (content.Integer k)) e
slot_read k s x (any_integer t) e not_home = ap (held (content.Integer k)) e
slot_read k s x (pointer b o) e not_home = ap (held (content.Integer k)) e
slot_read k s x absent e not_home = refl
slot_read k s x (home b) e not_home = absurd cc

not_home : (gs : List Global) (n : ℕ) → is_home (slot_in gs n) ≡ false
not_home [] n = refl
not_home (integer_global i k x ∷ gs) n = by (i == n) (not_home gs n)
  where
    by : (b : Bool) → is_home (slot_in gs n) ≡ false → is_home (if b then whole k (var x) else slot_in gs n) ≡ false
    by true rest = refl
    by false rest = rest
not_home (pointer_global i x y ∷ gs) n = by (i == n) (not_home gs n)
  where
    by : (b : Bool) → is_home (slot_in gs n) ≡ false → is_home (if b then pointer (var x) (var y) else slot_in gs n) ≡ false
    by true rest = refl
    by false rest = rest

module _ (r : Reading) (ns : Names) (no_home : (n : ℕ) → is_home (r.here.variable (variables.Global n)) ≡ false) where
  -- a variable of the file that is read in the state in force
  reads_same : (c : Content) (l : Option Label) (ks : Trees) (i d : ℕ) → node_is_simple (hd.Read c l) (heads_of ks) ≡ true
      → encoded r ns i d (node (hd.Read c l) ks) ≡ read_by r c (first_global (heads_of ks))
  reads_same (content.Integer k) None (more (node (hd.Variable (variables.Global n)) us) ts) i d h =
      slot_read k r.here (variables.Global n) (r.here.variable (variables.Global n)) refl (no_home n)
  reads_same (content.Integer k) None (more (node (hd.Variable (variables.Local n)) us) ts) i d h = absurd (false≢true h)
  reads_same (content.Integer k) None (more (node head us) ts) i d h = absurd (false≢true h)
  reads_same (content.Integer k) None stop i d h = absurd (false≢true h)
  reads_same (content.Integer k) (Some l) ks i d h = absurd (false≢true h)
  reads_same content.Pointer l ks i d h = absurd (false≢true h)
  reads_same (content.Struct n) l ks i d h = absurd (false≢true h)

  mutual
    tree_same : (t : Tree) → is_simple t ≡ true → (i d : ℕ) → encoded r ns i d t ≡ body_terms r ns t
    tree_same (node (hd.Name x) ks) h i d = refl
    tree_same (node (hd.Call f) ks) h i d = ap (called r (r.called f)) (trees_same ks h i d)
    tree_same (node (hd.Read c l) ks) h i d = reads_same c l ks i d (and_parts (node_is_simple (hd.Read c l) (heads_of ks)) true h).0
    tree_same (node hd.Chain ks) h i d = ap (λ xs. with_one (λ fs. truth (all_of fs)) (in_chain (heads_of ks) xs)) (trees_same ks h i d)
    tree_same (node (hd.At l) ks) h i d = absurd (false≢true h)
    tree_same (node hd.Let ks) h i d = absurd (false≢true h)
    tree_same (node (hd.Every g) ks) h i d = absurd (false≢true h)
    tree_same (node (hd.Some g) ks) h i d = absurd (false≢true h)
    tree_same (node (hd.Valid c writable) ks) h i d = absurd (false≢true h)
    tree_same (node hd.Separated ks) h i d = absurd (false≢true h)
    tree_same (node (hd.Region c) ks) h i d = absurd (false≢true h)
    tree_same (node head ks) h i d =
        let e = and_parts (node_is_simple head (heads_of ks)) (are_simple ks) h in
        let same = trees_same ks e.1 i d in
        λ j. if sym e.0 j then applied r head (same j) else nothing

    trees_same : (ts : Trees) → are_simple ts ≡ true → (i d : ℕ) → all_encoded r ns i d ts ≡ all_terms r ns ts
    trees_same stop h i d = refl
    trees_same (more t ts) h i d =
        let e = and_parts (is_simple t) (are_simple ts) h in
        let a = tree_same t e.0 i d in
        let b = trees_same ts e.1 (i + binders t) d in
        λ j. a j ∷ b j

pub bodies_are_encoded : BodiesAreEncoded
bodies_are_encoded p known c t none simple =
    let r = reading_with (shared p) known c.globals in
    let same : body_reading (shared p) known c ≡ r =
    ap (λ ms. body_reading (shared p) known (record { name = []; params = []; memories = ms; globals = c.globals })) none in
    ap (λ q. as_integer (encoded q (names_of c.params) 0 (length c.params) t)) same
    ∙ ap as_integer (tree_same r (names_of c.params) (not_home c.globals) t simple 0 (length c.params))
