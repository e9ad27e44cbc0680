-- The root rule of a text, and what a stream is by it. No table is named here.
use Rattle.std.specs.Prelude.{◌≡◌, ℕ, ◌+◌, List, ◌++◌, length, Option, Some, None}
use Rattle.cbor_data.specs.Faults.{Bounds, IsItem}
use Rattle.cbor_data.specs.Sequence.{Found, IsRunOf, Takes}
use Rattle.cbor_data.specs.Value.{Value}
use Rattle.cddl_check.specs.Outcome.{specification}
use Rattle.cddl_check.specs.Text.{IsTreeOfText}
use Rattle.cddl_language.specs.Faults.{IsAccepted, definitions, root_of}
use Rattle.cddl_language.specs.Literals.{AreRight, Values}
use Rattle.cddl_language.specs.Terms.{Definition, Text}
use Rattle.cddl_meaning.specs.Judges.{Answer}
use Rattle.tree_nodes.specs.Syntax.Syntax.{Cddl}
use Rattle.seq_run.specs.Meaning.Text.{EndsByText, TextAccepts, TextMisses, TextOverruns, TextSays}
use Rattle.seq_run.specs.declared.end.Cause.TheVariants.{Mismatch}
use Rattle.seq_run.specs.declared.end.End.{End}
use Rattle.seq_run.specs.declared.end.End.TheVariants.{Failed}

-- a rule's name, the definitions of the text in which it stands, and what the values that are written there stand for
pub record Rule : Type 0 where
  pub name : Text
  pub definitions : List Definition
  pub values : Values

-- The text is a specification in which nothing is wrong, and this is its root rule: the one that is named, or else the first.
pub record HasRoot (text : List ℕ) (named : Option Text) (rule : Rule) : Type 0 where
  pub tree : Cddl
  pub is_tree : IsTreeOfText tree text
  pub are_right : AreRight tree rule.values
  pub accepted : IsAccepted (specification tree named) rule.values
  pub definitions_are : rule.definitions ≡ definitions (specification tree named)
  pub name_is : root_of (specification tree named) ≡ Some rule.name

-- The rule says this of the item, in so many judgements.
abbrev pub Says : Rule → Value → Answer → ℕ → Type 0
Says rule x a w = TextSays rule.values rule.definitions rule.name x a w

module _ (rule : Rule) (steps : ℕ) where
  -- The rule accepts the item, in no more judgements than the steps.
  abbrev pub Accepts : Value → List ℕ → Type 0
  Accepts x b = TextAccepts rule.values rule.definitions rule.name steps x b

  -- The item does not match, which shows at this place, in no more judgements than the steps; or it takes more.
  abbrev pub Misses : Value → List ℕ → ℕ → Type 0
  Misses x b place = TextMisses rule.values rule.definitions rule.name steps x b place

  abbrev pub Overruns : Value → List ℕ → Type 0
  Overruns x b = TextOverruns rule.values rule.definitions rule.name steps x b

  -- The stream begins with these items, each well-formed, valid, within the limits and accepted, and then comes the rest.
  abbrev pub BeginsWith : Bounds → List ℕ → List Found → List ℕ → Type 0
  BeginsWith l stream items rest = Takes l Accepts 0 stream items rest

  -- These are the longest list of such items that the stream begins with, and then comes the rest.
  abbrev pub IsRun : Bounds → List ℕ → List Found → List ℕ → Type 0
  IsRun l stream items rest = IsRunOf l Accepts stream items rest

  -- The same, and the stream ends so: clean where nothing comes after them, or with the offset and the cause of the first item
  -- that fails.
  abbrev pub Ends : Bounds → List ℕ → List Found → End → Type 0
  Ends l stream items end = EndsByText rule.values rule.definitions rule.name steps l stream items end

  -- After the longest list of such items comes this item.
  pub record IsNext (l : Bounds) (stream : List ℕ) (items : List Found) (x : Value) : Type 0 where
    pub rest : List ℕ
    pub offset : ℕ
    pub front : List ℕ
    pub back : List ℕ
    pub run : IsRun l stream items rest
    pub offset_is : offset + length rest ≡ length stream
    pub parts : rest ≡ front ++ back
    pub item : IsItem l offset x front

  -- An item that does not match is given, and else none.
  abbrev pub IsRejected : Bounds → List ℕ → List Found → End → Option Value → Type 0
  IsRejected l stream items (Failed n offset (Mismatch place)) (Some x) = IsNext l stream items x
  IsRejected l stream items (Failed n offset (Mismatch place)) None = ⊥
  IsRejected l stream items end rejected = rejected ≡ None
