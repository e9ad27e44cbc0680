-- What is done with one entry.
use Rattle.std.specs.Prelude.{ℕ, ◌+◌, ◌*◌, Bool, true, false, if◌then◌else◌, List, [], ◌∷◌, Option, Some, None, slice_get}
use Rattle.cddl_language.specs.Reach.{most_instances}
use Rattle.graphs.specs.declared.implications.Implication.{Implication}
use Rattle.check_terms.specs.declared.row.Form.{Form}
use Rattle.check_terms.specs.declared.row.Form.TheVariants as F
use Rattle.check_terms.specs.declared.row.Row.{Row}
use Rattle.check_instances.specs.declared.openings.openings.Part.{Part}
use Rattle.check_instances.specs.declared.openings.openings.Part.TheVariants as PartV
use Rattle.check_sites.specs.declared.entries.entry.Holder.{Holder}
use Rattle.check_sites.specs.declared.entries.entry.Holder.TheVariants as HolderV
use Rattle.check_reached.specs.declared.asked.Asked.{Asked}
use Rattle.check_reading.specs.declared.parts.part.Question.{Question}
use Rattle.check_reading.specs.declared.parts.part.Question.TheVariants as QuestionV
use Rattle.check_maps.specs.declared.spliced.listing.Spliced.{Spliced}
use Rattle.check_maps.specs.declared.spliced.owners.Owner.{Owner}
use Rattle.check_maps.specs.declared.spliced.owners.Owner.TheVariants as OwnerV
use Rattle.check_maps.specs.declared.spliced.owners.Way.{Way}

-- how many facts there may be: two for each instance
abbrev pub most_facts : ℕ
most_facts = 2 * most_instances

abbrev pub there : Option (Option ℕ) → Option ℕ
there None = None
there (Some n) = n

-- the place of the instance whose reference has this row
abbrev pub place_of : List (Option ℕ) → ℕ → Option ℕ
place_of places call = there (slice_get places call)

abbrev pub named : Option ℕ → Option Owner
named None = None
named (Some k) = Some (OwnerV.Named k)

abbrev pub opened_owner : Option ℕ → Option Owner
opened_owner None = None
opened_owner (Some k) = Some (OwnerV.Opened k)

abbrev pub held_by : Holder → Option ℕ → Option Owner
held_by HolderV.Map place = Some OwnerV.Map
held_by HolderV.Rule place = named place
held_by HolderV.Opened place = opened_owner place

abbrev pub asked_by : Question → Option ℕ → Option Owner
asked_by (QuestionV.Entry h) place = held_by h place
asked_by _ place = None

abbrev pub owner_of : List (Option ℕ) → Asked → Option Owner
owner_of places a = asked_by a.question (place_of places a.call)

-- the row of the type of an entry without a key

abbrev pub typed_by : Form → Option ℕ → Option ℕ
typed_by F.Typed first = first
typed_by _ first = None

abbrev pub typed_in : Option Row → Option ℕ
typed_in None = None
typed_in (Some r) = typed_by r.form r.first

-- to whose group it leads

abbrev pub opened_at : List (Option ℕ) → Option ℕ → Option Owner
opened_at places None = None
opened_at places (Some call) = opened_owner (place_of places call)

abbrev pub led_to : List (Option ℕ) → List (Option ℕ) → Part → Option Owner
led_to places endings PartV.AsksType = None
led_to places endings (PartV.NamesGroup k) = Some (OwnerV.Named k)
led_to places endings (PartV.Opens k g) = opened_at places (there (slice_get endings k))

-- Owners as facts.

abbrev pub fact_of : Owner → Option ℕ
fact_of OwnerV.Map = None
fact_of (OwnerV.Named k) = Some (2 * k)
fact_of (OwnerV.Opened k) = Some (2 * k + 1)

abbrev pub implied : Option ℕ → Owner → Option Implication
implied None w = None
implied (Some n) w = Some (record { then = n; first = fact_of w; second = None })

abbrev pub edge : Option Owner → Option Owner → Option Implication
edge (Some w) (Some u) = implied (fact_of u) w
edge _ _ = None

abbrev pub with_edge : Option Implication → List Implication → List Implication
with_edge None is = is
with_edge (Some i) is = i ∷ is

abbrev pub edges_of : List Way → List Implication
edges_of [] = []
edges_of (w ∷ ws) = with_edge (edge w.owner w.target) (edges_of ws)

-- the entries whose owner is flagged

abbrev pub flag_in : Option Bool → Bool
flag_in None = false
flag_in (Some b) = b

abbrev pub fact_holds : List Bool → Option ℕ → Bool
fact_holds flags None = true
fact_holds flags (Some n) = flag_in (slice_get flags n)

abbrev pub is_flagged : List Bool → Owner → Bool
is_flagged flags w = fact_holds flags (fact_of w)

abbrev pub entry_with : List Bool → Option Owner → Asked → Option Spliced
entry_with flags None a = None
entry_with flags (Some w) a = if is_flagged flags w then Some (record { owner = w; row = a.row; at = a.at }) else None

abbrev pub flagged_entry : List (Option ℕ) → List Bool → Asked → Option Spliced
flagged_entry places flags a = entry_with flags (owner_of places a) a

abbrev pub with_entry : Option Spliced → List Spliced → List Spliced
with_entry None xs = xs
with_entry (Some x) xs = x ∷ xs

abbrev pub flagged : List (Option ℕ) → List Bool → List Asked → List Spliced
flagged places flags [] = []
flagged places flags (a ∷ rest) = with_entry (flagged_entry places flags a) (flagged places flags rest)
