-- What a reason says, as it is reported.
use Rattle.std.specs.Prelude.{Bool, true, false, List, [], ◌∷◌, ◌++◌}
use Rattle.table_nodes.specs.declared.nodes.Content.{Content}
use Rattle.table_nodes.specs.declared.nodes.Content.TheVariants.{OneItem, Sequence}
use Rattle.type_links.specs.declared.link.Link.{Link}
use Rattle.type_links.specs.declared.link.Link.TheVariants as L
use Rattle.cddl_reasons.specs.declared.causes.Cause.{Cause}
use Rattle.cddl_reasons.specs.declared.causes.Cause.TheVariants.{Value, Missing, TooMuch, Stray, Few, Many, NothingHeld}
use Rattle.cddl_reasons.specs.declared.causes.Reason.{Reason}
use Rattle.mismatch_words.specs.declared.causes.Cause as W
use Rattle.mismatch_words.specs.declared.causes.Cause.TheVariants as Told

-- of a byte string that holds nothing of the kind
abbrev pub nothing_held : Content → W.Cause
nothing_held OneItem = Told.NoItem
nothing_held Sequence = Told.NoSequence

-- the cause, without the types that it names; of a member that is missing also whether an entry before it has taken what it need not
-- have
abbrev pub told_cause : (greedy : Bool) → Cause → W.Cause
told_cause greedy Value = Told.Value
told_cause greedy (Missing member) = Told.MemberMissing greedy
told_cause greedy TooMuch = Told.MemberTooMuch
told_cause greedy Stray = Told.PairStray
told_cause greedy (Few key count least) = Told.KeyTooFew count least
told_cause greedy (Many key count most later) = Told.KeyTooMany count most later
told_cause greedy (NothingHeld content) = nothing_held content

-- the link to the type of a member, or to the key of an entry, that it names
abbrev pub link_in : Cause → List Link
link_in (Missing member) = L.Type member ∷ []
link_in (Few key count least) = L.Key key ∷ []
link_in (Many key count most later) = L.Key key ∷ []
link_in Value = []
link_in TooMuch = []
link_in Stray = []
link_in (NothingHeld content) = []

-- what led to what the reason is about, step by step
abbrev pub chain_of : Reason → List Link
chain_of r = r.links.items ++ link_in r.cause

-- whether it names the key of an entry
abbrev pub names_key : Cause → Bool
names_key (Few key count least) = true
names_key (Many key count most later) = true
names_key Value = false
names_key (Missing member) = false
names_key TooMuch = false
names_key Stray = false
names_key (NothingHeld content) = false
