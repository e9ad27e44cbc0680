-- Alternatives of maps, by the parts of rows.
use Rattle.std.specs.Prelude.{◌≡◌, Option}
use Rattle.cddl_meaning.specs.Alike.{AlikeAll}
use Rattle.check_terms.specs.Texts.Occurrence.{most_in}
use Rattle.cddl_language.specs.Terms.{Text, keyed}
use Rattle.cddl_language.specs.Maps as M
use Rattle.check_terms.specs.Table.{Table}
use Rattle.check_terms.specs.Trees.{IsEntry}
use Rattle.alternatives.specs.declared.Member.{Member}
use Rattle.alternatives.specs.Splices.{Alternatives}

-- an entry of a row with this key and this value, so often
pub record IsMember (t : Table) (m : M.Member) (n : Member) : Type 0 where
  pub least : n.bounds.least ≡ m.least
  pub most : most_in n.bounds.most ≡ m.most
  pub entry : (o : Option Text) × IsEntry t n.entry (keyed o m.key m.value)

-- the same members in the same order
abbrev pub AreAlternatives : Table → M.Alternatives → Alternatives → Type 0
AreAlternatives t mss nss = AlikeAll (AlikeAll (IsMember t)) mss nss
