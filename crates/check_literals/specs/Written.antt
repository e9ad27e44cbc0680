-- The written value that a row is.
use Rattle.std.specs.Prelude.{ℕ, List, Option, Some, None, slice_get}
use Rattle.cddl_language.specs.Terms.{Text, Literal, number, text, bytes}
use Rattle.check_terms.specs.declared.row.Form.{Form}
use Rattle.check_terms.specs.declared.row.Form.TheVariants as F
use Rattle.check_terms.specs.declared.row.Row.{Row}
use Rattle.check_terms.specs.Table.{Table}

abbrev pub text_by : List Text → Option ℕ → Option Text
text_by texts None = None
text_by texts (Some n) = slice_get texts n

abbrev pub written_by : Form → Option Text → Option Literal
written_by F.Number (Some x) = Some (number x)
written_by F.Text (Some x) = Some (text x)
written_by F.Bytes (Some x) = Some (bytes x)
written_by _ _ = None

abbrev pub written_in : List Text → Option Row → Option Literal
written_in texts None = None
written_in texts (Some r) = written_by r.form (text_by texts r.text)

abbrev pub written_at : Table → ℕ → Option Literal
written_at t n = written_in t.texts (slice_get t.rows n)
