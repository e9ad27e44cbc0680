-- Definitions by `//=`.
use Rattle.std.specs.Prelude.{◌≡◌, List, Contains}
use Rattle.cddl_language.specs.Terms.{Entry, Definition, group_or, of_entry}

-- `//=` adds an entry of a group and never a type, as it is in each text (RFC 8610 section 2.2.2)
abbrev pub HaveEntries : List Definition → Type 0
HaveEntries xs = (d : Definition) → Contains xs d → d.sign ≡ group_or → (e : Entry) × (d.body ≡ of_entry e)
