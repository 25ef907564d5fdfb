-- Blocks of triggers, one literal after another.
use Rattle.std.proofs.Common.{◌≡◌, ℕ, ◌+◌, ◌<◌, ◌≤◌, List, [], ◌++◌, map, drop, length, get_or, All, append_assoc, sym, ◌∙◌, ap}
use Rattle.std.proofs.lemmas.List.{map-append}
use Rattle.std.proofs.lemmas.List.Elements.{All-append, All-same}
use Rattle.qed_terms.specs.Tree.{Tree}
use Rattle.instance_rows.specs.Accesses.{Access}
use Rattle.instance_rows.specs.Candidates.{blocks_of, sides_of_loads, trigger_blocks, trigger_blocks_in}
use Rattle.instance_rows.specs.Triggers.{quantified_at}
use Rattle.branch_accesses.specs.declared.accesses.IdAccess.{IdAccess}
use Rattle.branch_accesses.specs.declared.loads.IdLoad.{IdLoad}
use Rattle.branch_accesses.specs.Ids.{access_of, block_ids, load_of, side_ids}
use Rattle.branch_accesses.proofs.AskedLaws.{blocks_are, sides_are}
use Rattle.branch_accesses.proofs.Gathered.{nil_behind, cut, none_behind}

module _ {Id : Type 0} (tree : Id → Tree) where
  pub blocks_more : (ls : List Id) (i : ℕ) (l : Id) (done now whole : List Tree) → i < length ls → l ≡ get_or ls i l → now ≡ done ++ trigger_blocks_in (quantified_at (tree l))
      → done ++ trigger_blocks (map tree (drop i ls)) ≡ whole → now ++ trigger_blocks (map tree (drop (i + 1) ls)) ≡ whole
  blocks_more ls i l done now whole k e n w =
      let rest = trigger_blocks (map tree (drop (i + 1) ls)) in
      ap (λ ts. ts ++ rest) n ∙ append_assoc done (trigger_blocks_in (quantified_at (tree l))) rest ∙ ap (λ us. done ++ trigger_blocks (map tree us)) (sym (cut ls i l k e)) ∙ w

  pub blocks_done : (ls : List Id) (i : ℕ) (done whole : List Tree) → length ls ≤ i → done ++ trigger_blocks (map tree (drop i ls)) ≡ whole → done ≡ whole
  blocks_done ls i done whole k w = sym (nil_behind done) ∙ ap (λ us. done ++ trigger_blocks (map tree us)) (sym (none_behind ls i k)) ∙ w

  -- the blocks of accesses behind others
  pub blocks_behind : (accesses slice : List (IdAccess Id)) (out now : List Id) (cs : List Access) → now ≡ out ++ block_ids slice → slice ≡ accesses → map (access_of tree) accesses ≡ cs → map tree now ≡ map tree out ++ blocks_of cs
  blocks_behind accesses slice out now cs n s e =
      ap (map tree) n ∙ map-append tree out (block_ids slice) ∙ ap (λ ts. map tree out ++ ts) (blocks_are tree slice ∙ ap (λ xs. blocks_of (map (access_of tree) xs)) s ∙ ap blocks_of e)

  -- all that is asked about
  pub asked_are : (loads : List (IdLoad Id)) (accesses : List (IdAccess Id)) (none one two all : List Id) (ts : List Tree) → none ≡ [] → one ≡ none ++ side_ids loads → two ≡ one ++ block_ids accesses → map tree all ≡ map tree two ++ ts
      → map tree all ≡ sides_of_loads (map (load_of tree) loads) ++ (blocks_of (map (access_of tree) accesses) ++ ts)
  asked_are loads accesses none one two all ts z a b c =
      c ∙ ap (λ xs. map tree xs ++ ts) (b ∙ ap (λ xs. xs ++ block_ids accesses) (a ∙ ap (λ xs. xs ++ side_ids loads) z))
      ∙ ap (λ us. us ++ ts) (map-append tree (side_ids loads) (block_ids accesses) ∙ (λ i. sides_are tree loads i ++ blocks_are tree accesses i))
      ∙ append_assoc (sides_of_loads (map (load_of tree) loads)) (blocks_of (map (access_of tree) accesses)) ts

-- the store holds them
pub held_behind : {Id : Type 0} (held : Id → Type 0) (out more now : List Id) → now ≡ out ++ more → All held out → All held more → All held now
held_behind held out more now n a b = All-same held now (out ++ more) n (All-append held out more a b)
