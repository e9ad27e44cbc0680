-- The forms of entries.
use Rattle.std.specs.Prelude.{Bool, true, false}
use Rattle.check_terms.specs.declared.row.Form.{Form}
use Rattle.check_terms.specs.declared.row.Form.TheVariants as F

abbrev pub is_entry : Form → Bool
is_entry F.Typed = true
is_entry F.Keyed = true
is_entry F.Grouped = true
is_entry _ = false
