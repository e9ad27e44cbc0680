-- Parts of the text of a specification in its rules.
use Rattle.std.specs.Prelude.{◌≡◌, ℕ, ◌≤◌, Option, Some, None}
use Rattle.type_links.specs.declared.link.Link.{Link}
use Rattle.source_pieces.specs.Pieces.{Called}
use Rattle.source_pieces.specs.declared.span.Span.{Span}

-- A part of the text in a rule, which is named by its place in the list of rules. Where it is an entry that is one name, it has that
-- name. A type may be asked there that stands elsewhere, as an argument does.
pub record Spot : Type 0 where
  pub rule : ℕ
  pub span : Span
  pub name : Option Called
  pub asked : Option Link

-- this type is asked there
abbrev pub asking : Link → Spot → Spot
asking m s = record s { asked = Some m }

-- no more than what stands there
abbrev pub plainly : Spot → Spot
plainly s = record s { asked = None }

-- it lies within the other part
abbrev pub IsWithin : Spot → Spot → Type 0
IsWithin o s = (s.rule ≡ o.rule) × (o.span.first ≤ s.span.first) × (s.span.end ≤ o.span.end)
