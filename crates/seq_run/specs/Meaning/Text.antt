-- The items that a stream has by the text of a specification, and how it ends: no table is named here.
use Rattle.std.specs.Prelude.{ℕ, ◌<◌, ◌≤◌, List}
use Rattle.cbor_data.specs.Faults.{Bounds, IsFaultOf}
use Rattle.cbor_data.specs.Sequence.{EndsBy, Found}
use Rattle.cbor_data.specs.Value.{Value}
use Rattle.cddl_language.specs.Language.{language, reference, type_node}
use Rattle.cddl_language.specs.Literals.{Values}
use Rattle.cddl_language.specs.Terms.{Definition, Text, call, no_terms}
use Rattle.cddl_meaning.specs.Costs.{weighed}
use Rattle.cddl_meaning.specs.Judges.{Answer, No, Says, Yes}
use Rattle.seq_run.specs.Ends.{end_of}
use Rattle.seq_run.specs.declared.end.End.{End}

-- what written values stand for, the definitions of a text, and the name of the root
module _ (worth : Values) (ds : List Definition) (root : Text) where
  -- The root says this of the item, in so many questions.
  abbrev pub TextSays : Value → Answer → ℕ → Type 0
  TextSays x a w = Says (language worth ds) (type_node worth ds (reference (call root no_terms))) 0 x a w

  -- The root says this of the item, which weighs so much: each pair of a map counts all entries, asked or not.
  abbrev pub TextWeighs : Value → Answer → ℕ → Type 0
  TextWeighs x a w = Says (weighed (language worth ds)) (type_node worth ds (reference (call root no_terms))) 0 x a w

  module _ (steps : ℕ) where
    -- of an item and its bytes: it is accepted, it does not match at a place, or the steps are not enough for it

    abbrev pub TextAccepts : Value → List ℕ → Type 0
    TextAccepts x b = (w : ℕ) × TextSays x Yes w × (w ≤ steps)

    abbrev pub TextMisses : Value → List ℕ → ℕ → Type 0
    TextMisses x b place = (w : ℕ) × TextSays x (No place) w × (w ≤ steps)

    abbrev pub TextOverruns : Value → List ℕ → Type 0
    TextOverruns x b = (a : Answer) (w : ℕ) → TextSays x a w → steps < w

    -- The run of the stream is these items, and it ends so.
    abbrev pub EndsByText : Bounds → List ℕ → List Found → End → Type 0
    EndsByText l stream found end = EndsBy l TextAccepts (IsFaultOf l) TextMisses TextOverruns stream found (end_of end)
