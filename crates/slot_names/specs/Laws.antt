-- What is so of base names.
use Rattle.std.specs.Prelude.{◌≡◌, ◌≤◌, ℕ, suc, true, List, ◌++◌, length}
use Rattle.c_runs.specs.Program.{Variable}
use Rattle.walk_steps.specs.World.{AreBases}
use Rattle.walk_steps.specs.Laws.{OwnDiffer}
use Rattle.walk_steps.specs.Texts.{AreNames}
use Rattle.program_steps.specs.Starting.{file_origins, own_origins, zero_origins}
use Rattle.slot_names.specs.Bases.{Name, slot_bases, are_fit}

-- Names are well formed, no base has `#` or `!`, and those that stand for any value at the start of a function differ.
pub record Fit (xs : List Name) (gs vs : List Variable) (params temporaries : ℕ) : Type 0 where
  pub names : AreNames xs
  pub bases : AreBases xs
  pub differ : OwnDiffer xs (file_origins gs ++ (own_origins params vs ++ zero_origins (suc (suc temporaries))))
  pub size : length (file_origins gs ++ (own_origins params vs ++ zero_origins (suc (suc temporaries)))) ≡ length xs

abbrev pub BasesFit : Type 0
BasesFit =
    (file : List Name) (params : ℕ) (own : List Name) (temporaries : ℕ) → are_fit file params own ≡ true → params ≤ length own → (gs vs : List Variable)
    → length gs ≡ length file → length vs ≡ length own → Fit (slot_bases file params own temporaries) gs vs params temporaries
