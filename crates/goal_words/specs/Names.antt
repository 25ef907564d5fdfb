-- Names in a text.
use Rattle.std.specs.Prelude.{ℕ, List, if◌then◌else◌}
use Rattle.qed_terms.specs.declared.head.Sort.{Sort}
use Rattle.qed_terms.specs.declared.head.Sort.TheVariants as sort
use Rattle.qed_terms.specs.Names.{is_name, is_memory_name}
use Rattle.goal_words.specs.Bytes.{Reader, ◌>>=◌, part, only_if}

-- a space and a name
abbrev pub name_part : Reader (List ℕ)
name_part bytes = part bytes >>= λ x. only_if (is_name x.0) x

-- among arguments a name's form tells whether it is a memory
abbrev pub name_sort : List ℕ → Sort
name_sort word = if is_memory_name word then sort.Memory else sort.Int
