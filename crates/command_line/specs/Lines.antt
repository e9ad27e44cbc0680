-- The lines of the program on standard error that know of no specification.
use Rattle.std.specs.Prelude.{◌≡◌, ℕ, ◌<◌, ◌-◌, ◌^◌, List, ◌++◌, Option, codes, decimal}
use Rattle.std.specs.Io.KnownBytes as bytes
use Rattle.item_nodes.specs.Counted.{device_of, failures_of, HasRisen}
use Rattle.item_nodes.specs.declared.counted.Counted.{Counted}
use Rattle.text_shown.specs.Shown.{shown}

-- the line that says of the file of this name that it cannot be used
abbrev pub file_line : List ℕ → List ℕ → List ℕ
file_line text name = text ++ shown name ++ codes "\n"

abbrev pub unopened_line : List ℕ → List ℕ
unopened_line name = file_line (codes "cannot open ") name

abbrev pub unread_line : List ℕ → List ℕ
unread_line name = file_line (codes "cannot read ") name

-- the line that says of a word that it names nothing that can be explained
abbrev pub unexplained_line : List ℕ → List ℕ
unexplained_line word = file_line (codes "no such code or cause (cddlseq explain --help lists them): ") word

abbrev pub memory_line : List ℕ
memory_line = codes "out of memory\n"

abbrev pub read_failed_line : ℕ → List ℕ
read_failed_line items = codes "read failed after " ++ decimal items ++ codes " items\n"

abbrev pub write_failed_line : ℕ → List ℕ
write_failed_line bytes = codes "write failed after " ++ decimal bytes ++ codes " bytes\n"

-- the line that says which argument is no text: the program's own name has the number 0
abbrev pub argument_line : ℕ → List ℕ
argument_line number = codes "argument " ++ decimal number ++ codes " is not UTF-8\n"

-- The text went out whole on this device, unless the device failed.
abbrev pub IsPut : {D : Type 0} → (D → Option (List ℕ)) → Counted D → Counted D → List ℕ → Type 0
IsPut contents old new text = failures_of new ≡ failures_of old → failures_of old < 2 ^ 64 - 1 → bytes.Appends (contents (device_of old)) (contents (device_of new)) text

-- The device failed in the call, and took exactly these bytes.
pub record IsCutAfter {D : Type 0} (contents : D → Option (List ℕ)) (old new : Counted D) (sent : List ℕ) : Type 0 where
  pub failed : HasRisen (failures_of old) (failures_of new)
  pub taken : bytes.Appends (contents (device_of old)) (contents (device_of new)) sent
