-- A table in memory, and the declarations in it.
use Rattle.std.proofs.Common.{◌≡◌, ℕ, true, cond, List, [], ◌∷◌, ◌++◌, Option, Some, None, refl, ap, sym, ◌∙◌, if◌then◌else◌}
use Rattle.std.specs.Str.{bytes_eq}
use Rattle.std.specs.Option.{is_none}
use Rattle.std.specs.Map.{lookup}
use Rattle.std.specs.declared.vec.Vec.{Vec}
use Rattle.indexmap.specs.IndexMap.{IndexMap, insert_entry}
use Rattle.indexmap.proofs.CallerLemmas.{insert_entry-new}
use Rattle.name_table.specs.Names.{Names, meaning_of, is_free, declared, declarations}

pub looked_up : {Z V : Type 0} (ds : List (Vec ℕ Z × V)) (x : List ℕ) → meaning_of (declarations ds) x ≡ lookup (λ k. bytes_eq x k.items) ds
looked_up [] x = refl
looked_up (d ∷ ds) x = ap (λ o. cond (bytes_eq x d.0.items) (Some d.1) o) (looked_up ds x)

declarations-append : {Z V : Type 0} (ds es : List (Vec ℕ Z × V)) → declarations (ds ++ es) ≡ declarations ds ++ declarations es
declarations-append [] es = refl
declarations-append (d ∷ ds) es = ap (λ rest. (d.0.items, d.1) ∷ rest) (declarations-append ds es)

pub none_of : {V : Type 0} (o : Option V) → is_none o ≡ true → o ≡ None
none_of None h = refl
none_of (Some v) h = cc

-- what an insertion of a new name leaves in the table
pub inserted : {Z V S : Type 0} (all : Names V) (m : IndexMap (Vec ℕ Z) V S) (es : List (Vec ℕ Z × V)) (k : Vec ℕ Z) (x : List ℕ) (v : V)
    → all ≡ declarations m.entries → is_free all x ≡ true → k.items ≡ x → es ≡ insert_entry (λ a b. bytes_eq a.items b.items) m.entries k v → declarations es ≡ declared all x v
inserted all m es k x v whole free is made =
    let none : lookup (λ l. bytes_eq k.items l.items) m.entries ≡ None =
    sym (looked_up m.entries k.items) ∙ ap (λ ds. meaning_of ds k.items) (sym whole) ∙ ap (meaning_of all) is ∙ none_of (meaning_of all x) free in
    ap declarations made ∙ ap declarations (insert_entry-new (λ a b. bytes_eq a.items b.items) m k v none) ∙ declarations-append m.entries ((k, v) ∷ [])
    ∙ ap (λ ds. ds ++ (k.items, v) ∷ []) (sym whole) ∙ ap (λ y. all ++ (y, v) ∷ []) is ∙ sym (ap (λ b. if b then all ++ (x, v) ∷ [] else all) free)
