-- What is reported where a cause names a key that stands nowhere in the text.
use Rattle.std.specs.Prelude.{ℕ, Bool, ◌&&◌, nat_eq, if◌then◌else◌, List, [], Option, Some, None}
use Rattle.cbor_data.specs.Value.{Value}
use Rattle.cddl_meaning.specs.Forms as F
use Rattle.cddl_meaning.specs.Forms.{Language}
use Rattle.table_nodes.specs.declared.nodes.GroupId.{GroupId}
use Rattle.table_nodes.specs.declared.nodes.TypeId.{TypeId}
use Rattle.source_places.specs.declared.place.Place.{Place}
use Rattle.source_pieces.specs.declared.span.Span.{Span}
use Rattle.cddl_reasons.specs.declared.causes.Cause.{Cause}
use Rattle.cddl_reasons.specs.declared.causes.Cause.TheVariants as C
use Rattle.mismatch_words.specs.Values.{value_words}

abbrev pub is_same : Span → Span → Bool
is_same s t = nat_eq s.first t.first && nat_eq s.end t.end

-- no more than where it begins
abbrev pub start_of : Span → Span
start_of s = record { first = s.first; end = s.first }

-- where it begins, and nothing of what stands there
abbrev pub beginning : Place → Place
beginning p = record { name = p.name; types = start_of p.types; written = start_of p.types }

-- of the place to which the key's link leads, and of that to which those before it lead
abbrev pub told_place : (names_key : Bool) → (named : Place) → (holder : Option Place) → Place
told_place key named None = named
told_place key named (Some holder) = if key && is_same named.types holder.types then beginning named else named

-- the value that a form asks for, if it asks for one
abbrev pub value_asked : F.Node TypeId GroupId → Option Value
value_asked (F.Plain (F.equals v)) = Some v
value_asked _ = None

abbrev pub notation_of : Option Value → List ℕ
notation_of None = []
notation_of (Some v) = value_words v

-- the notation of the value that the key is which the cause names; nothing where it is no literal
abbrev pub key_words : Language TypeId GroupId → Cause → List ℕ
key_words l (C.Few key count least) = notation_of (value_asked (l.type_at key))
key_words l (C.Many key count most later) = notation_of (value_asked (l.type_at key))
key_words l C.Value = []
key_words l (C.Missing member) = []
key_words l C.TooMuch = []
key_words l C.Stray = []
key_words l (C.NothingHeld content) = []
