-- Files in memory.
use Rattle.std.specs.Prelude.{◌≡◌, ℕ, ◌+◌, Bool, List, [], length, min, slice_get, Option, None, option_and_then, unwrap_or}
use Rattle.wp_io.specs.declared.in_memory.MemFiles.{MemFiles}
use Rattle.wp_io.specs.Faults.{count_after}
use Rattle.wp_io.specs.Memory.{is_failing, place_of, rest_of}

-- none is open, and there was no call
pub record AreFresh (files : MemFiles) : Type 0 where
  pub current : files.current ≡ None
  pub at : files.at ≡ 0
  pub calls : files.calls ≡ 0
  pub faults : files.faults ≡ 0

-- the text beside the first of the names that is this one
abbrev pub text_of : MemFiles → List ℕ → Option (List ℕ)
text_of files name = option_and_then (slice_get files.texts) (place_of files.names name)

-- what is left of the open text
abbrev pub left_of : MemFiles → Option (List ℕ)
left_of files = rest_of files.texts files.current files.at

-- whether the next call is one of those that fail
abbrev pub fails_next : MemFiles → Bool
fails_next files = is_failing files.fail (count_after files.calls)

-- how many bytes a read into so many gives
abbrev pub count_given : MemFiles → ℕ → ℕ
count_given files room = min files.piece (min room (length (unwrap_or (left_of files) [])))

-- after a call that fails
abbrev pub after_fault : MemFiles → MemFiles
after_fault files = record files {
  calls = count_after files.calls;
  faults = count_after files.faults;
}

-- after a name is opened
abbrev pub after_open : MemFiles → List ℕ → MemFiles
after_open files name = record files {
  calls = count_after files.calls;
  current = place_of files.names name;
  at = 0;
}

-- after so many bytes are read
abbrev pub after_read : MemFiles → ℕ → MemFiles
after_read files count = record files {
  calls = count_after files.calls;
  at = files.at + count;
}
