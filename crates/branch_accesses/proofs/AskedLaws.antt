-- Terms that are asked about, one after another.
use Rattle.std.proofs.Common.{◌≡◌, ℕ, ◌+◌, ◌<◌, ◌≤◌, List, [], ◌∷◌, ◌++◌, map, drop, length, get_or, All, append_assoc, refl, sym, ◌∙◌, ap}
use Rattle.std.proofs.lemmas.List.Elements.{All-nil, All-cons, All-head, All-tail}
use Rattle.qed_terms.specs.Tree.{Tree}
use Rattle.instance_rows.specs.Candidates.{blocks_of, sides_of_loads}
use Rattle.branch_accesses.specs.declared.loads.IdLoad.{IdLoad}
use Rattle.branch_accesses.specs.declared.accesses.IdAccess.{IdAccess}
use Rattle.branch_accesses.specs.Ids.{access_of, block_ids, load_of, side_ids, AccessHeld, LoadHeld}
use Rattle.branch_accesses.proofs.Gathered.{nil_behind, cut, none_behind}

module _ {Id : Type 0} where
  pub sides_more : (loads : List (IdLoad Id)) (i : ℕ) (l : IdLoad Id) (done mid now whole : List Id) → i < length loads → l ≡ get_or loads i l → mid ≡ done ++ l.block ∷ [] → now ≡ mid ++ l.offset ∷ []
      → done ++ side_ids (drop i loads) ≡ whole → now ++ side_ids (drop (i + 1) loads) ≡ whole
  sides_more loads i l done mid now whole k e m n w =
      let rest = side_ids (drop (i + 1) loads) in
      ap (λ xs. xs ++ rest) n ∙ append_assoc mid (l.offset ∷ []) rest ∙ ap (λ xs. xs ++ l.offset ∷ rest) m ∙ append_assoc done (l.block ∷ []) (l.offset ∷ rest)
      ∙ ap (λ ls. done ++ side_ids ls) (sym (cut loads i l k e)) ∙ w

  pub sides_done : (loads : List (IdLoad Id)) (i : ℕ) (done whole : List Id) → length loads ≤ i → done ++ side_ids (drop i loads) ≡ whole → done ≡ whole
  sides_done loads i done whole k w = sym (nil_behind done) ∙ ap (λ ls. done ++ side_ids ls) (sym (none_behind loads i k)) ∙ w

  pub blocks_more : (accesses : List (IdAccess Id)) (i : ℕ) (a : IdAccess Id) (done now whole : List Id) → i < length accesses → a ≡ get_or accesses i a → now ≡ done ++ a.block ∷ []
      → done ++ block_ids (drop i accesses) ≡ whole → now ++ block_ids (drop (i + 1) accesses) ≡ whole
  blocks_more accesses i a done now whole k e n w =
      let rest = block_ids (drop (i + 1) accesses) in
      ap (λ xs. xs ++ rest) n ∙ append_assoc done (a.block ∷ []) rest ∙ ap (λ xs. done ++ block_ids xs) (sym (cut accesses i a k e)) ∙ w

  pub blocks_done : (accesses : List (IdAccess Id)) (i : ℕ) (done whole : List Id) → length accesses ≤ i → done ++ block_ids (drop i accesses) ≡ whole → done ≡ whole
  blocks_done accesses i done whole k w = sym (nil_behind done) ∙ ap (λ xs. done ++ block_ids xs) (sym (none_behind accesses i k)) ∙ w

-- what these ids stand for, and that the store holds them
pub sides_are : {Id : Type 0} (tree : Id → Tree) (loads : List (IdLoad Id)) → map tree (side_ids loads) ≡ sides_of_loads (map (load_of tree) loads)
sides_are tree [] = refl
sides_are tree (l ∷ ls) = ap (λ ts. tree l.block ∷ tree l.offset ∷ ts) (sides_are tree ls)

pub blocks_are : {Id : Type 0} (tree : Id → Tree) (accesses : List (IdAccess Id)) → map tree (block_ids accesses) ≡ blocks_of (map (access_of tree) accesses)
blocks_are tree [] = refl
blocks_are tree (a ∷ rest) = ap (λ ts. tree a.block ∷ ts) (blocks_are tree rest)

pub sides_held : {Id : Type 0} (held : Id → Type 0) (loads : List (IdLoad Id)) → All (LoadHeld held) loads → All held (side_ids loads)
sides_held held [] a = All-nil held
sides_held held (l ∷ ls) a =
    let first = All-head (LoadHeld held) l ls a in
    All-cons held l.block (l.offset ∷ side_ids ls) first.1 (All-cons held l.offset (side_ids ls) first.2 (sides_held held ls (All-tail (LoadHeld held) l ls a)))

pub blocks_held : {Id : Type 0} (held : Id → Type 0) (accesses : List (IdAccess Id)) → All (AccessHeld held) accesses → All held (block_ids accesses)
blocks_held held [] a = All-nil held
blocks_held held (x ∷ rest) a = All-cons held x.block (block_ids rest) (All-head (AccessHeld held) x rest a).0 (blocks_held held rest (All-tail (AccessHeld held) x rest a))
