-- What is reported for an item that does not match the specification that a text is.
use Rattle.std.specs.Prelude.{◌≡◌, ℕ, List, [], ◌∷◌, ◌++◌, Option, Some, None, codes, map}
use Rattle.std.specs.List.{Contains}
use Rattle.cbor_data.specs.Value.{Value}
use Rattle.cddl_token.specs.declared.Refusal.{Refusal}
use Rattle.cddl_token.specs.declared.Refusal.TheVariants as RefusalV
use Rattle.cddl_token.specs.declared.Token.{Token}
use Rattle.tree_nodes.specs.Syntax.Answers.{IsTreeOf}
use Rattle.tree_nodes.specs.View.{view}
use Rattle.cddl_language.specs.Reading.{rules_of}
use Rattle.cddl_language.specs.Terms.{Text}
use Rattle.check_text.specs.declared.fault.Fault.{Fault}
use Rattle.cddl_check.specs.Outcome.{IsChecked}
use Rattle.cddl_check.specs.Spec.{Checked}
use Rattle.cddl_check.specs.Text.{AreTokensOf, IsWrongText}
use Rattle.table_making.specs.Basis.{Sense}
use Rattle.table_making.specs.Nodes.{IsNameOfType}
use Rattle.table_nodes.specs.Language.{language_of}
use Rattle.table_nodes.specs.declared.table.Table.{Table}
use Rattle.type_links.specs.declared.link.Link.{Link}
use Rattle.cddl_table.specs.Text.{IsTableOf}
use Rattle.source_places.specs.Places.{IsOfNoRule, IsPlace}
use Rattle.source_places.specs.Sources.{AreSources}
use Rattle.cddl_sources.specs.Compiled.{AreSourcesOf}
use Rattle.source_places.specs.declared.place.Place.{Place}
use Rattle.source_places.specs.declared.sources.Sources.{Sources}
use Rattle.cddl_reasons.specs.Told.{AreReasons, HasNone, holder_view}
use Rattle.cddl_reasons.specs.declared.causes.Reason.{Reason}
use Rattle.cddl_reasons.specs.declared.causes.Reasons.{Reasons}
use Rattle.mismatch_words.specs.Lines.{told_lines, with_line}
use Rattle.mismatch_words.specs.Reasons.{root_line}
use Rattle.cddl_mismatch.specs.Causes.{chain_of, names_key, told_cause}
use Rattle.cddl_mismatch.specs.Keys.{key_words, told_place}
use Rattle.cddl_mismatch.specs.Lines.{IsLineAt}
use Rattle.cddl_mismatch.specs.Places.{ArePlaceWords}
use Rattle.cddl_mismatch.specs.declared.reasons.TheConstants.{MOST}

-- The place is that of the last of the types to which these links lead that stands in the text. There is none where they are of no
-- rule.
abbrev pub IsPlaceOf : Sources → List Link → Option Place → Type 0
IsPlaceOf x chain (Some p) = (s : Sense) (table : Table) (known : AreSources s table x) → IsPlace (rules_of s.tree) (IsNameOfType s known.terms known.nodes) chain p
IsPlaceOf x chain None = (s : Sense) (table : Table) (known : AreSources s table x) → (m : Link) → Contains chain m → IsOfNoRule (rules_of s.tree) (IsNameOfType s known.terms known.nodes) m

-- Where the key that the cause names stands nowhere in the text, its link leads to what those before it lead to: of that only the
-- beginning is reported.
abbrev pub IsPlaced : Sources → Reason → Option Place → Type 0
IsPlaced x r None = IsPlaceOf x (chain_of r) None
IsPlaced x r (Some p) = (named : Place) × (holder : Option Place) × IsPlaceOf x (chain_of r) (Some named) × IsPlaceOf x r.links.items holder × (p ≡ told_place (names_key r.cause) named holder)

module _ (text : List ℕ) (tokens : List Token) (file : List ℕ) where
  -- The line tells the place and what is there, in byte strings too, where the type stands, and what is wrong; of a key that stands
  -- nowhere its value, by the table.
  abbrev pub IsToldOf : Table → Place → Value → Reason → List ℕ → Type 0
  IsToldOf t p x r line = (found : List ℕ) × ArePlaceWords (codes "$") x (map holder_view r.strings.items) r.place found × IsLineAt text tokens file p found (told_cause r.greedy r.cause) (key_words (language_of t) r.cause) line

-- The line tells the place and what is there, and this root.
abbrev pub IsToldOfRoot : (root : List ℕ) → Value → Reason → List ℕ → Type 0
IsToldOfRoot root x r line = (found : List ℕ) × ArePlaceWords (codes "$") x (map holder_view r.strings.items) r.place found × (line ≡ root_line found root)

module _ (text : List ℕ) (tokens : List Token) (file : List ℕ) (root : Option (List ℕ)) where
  -- The lines of these reasons, in order: one for each, but for one that is there already. Where its types are of no rule of the text
  -- it tells the root, by the name that was asked for; the first rule is one of the text.
  pub data AreLines (table : Table) (sources : Sources) (x : Value) : List Reason → List (List ℕ) → Type 0 where
    no_reason : AreLines table sources x [] []
    one_more : {rs : List Reason} {lines : List (List ℕ)} → AreLines table sources x rs lines → (r : Reason) (p : Place) (line : List ℕ) → IsPlaced sources r (Some p) → IsToldOf text tokens file table p x r line → AreLines table sources x (rs ++ r ∷ []) (with_line lines line)
    of_root : {rs : List Reason} {lines : List (List ℕ)} → AreLines table sources x rs lines → (r : Reason) (name line : List ℕ) → root ≡ Some name → IsPlaced sources r None → IsToldOfRoot name x r line → AreLines table sources x (rs ++ r ∷ []) (with_line lines line)
    nowhere : {rs : List Reason} {lines : List (List ℕ)} → AreLines table sources x rs lines → (r : Reason) → root ≡ None → IsPlaced sources r None → AreLines table sources x (rs ++ r ∷ []) lines

  -- the first lines, and how many more there are, with the reasons that have none
  pub record AreTold (table : Table) (sources : Sources) (x : Value) (reasons : Reasons) (told : List ℕ) : Type 0 where
    pub lines : List (List ℕ)
    pub are_lines : AreLines table sources x reasons.list.items lines
    pub is : told ≡ told_lines lines reasons.more

  -- By a table: of reasons why it says no, or nothing, where it says yes or the steps do not tell.
  pub data IsToldBy (table : Table) (sources : Sources) (x : Value) (steps : ℕ) (told : List ℕ) : Type 0 where
    no_reasons : HasNone table x steps → told ≡ [] → IsToldBy table sources x steps told
    reasons : (rs : Reasons) → AreReasons table x steps MOST rs → AreTold table sources x rs told → IsToldBy table sources x steps told

  -- by the table of a specification, with where its types stand in the text
  pub record IsToldFrom (spec : Checked) (x : Value) (steps : ℕ) (told : List ℕ) : Type 0 where
    pub table : Table
    pub sources : Sources
    pub is_table : IsTableOf spec table
    pub are_sources : AreSourcesOf spec table sources
    pub is_told : IsToldBy table sources x steps told

-- The specification is that of the tokens, and nothing is wrong with it.
pub record IsReadAs (tokens : List Token) (root : Option Text) (spec : Checked) : Type 0 where
  pub tree : IsTreeOf (view spec.tree) tokens
  pub checked : IsChecked (view spec.tree) root spec.root

-- Of a text that is refused nothing is reported; where memory was refused there is no answer.
abbrev pub IsUntold : Refusal → List ℕ → Type 0
IsUntold (RefusalV.At code at) told = told ≡ []
IsUntold RefusalV.Memory told = ⊥

-- What is reported for the text and the item: nothing where the text is refused, and else what its specification tells.
pub data IsExplainedMismatch (text : List ℕ) (root : Option (List ℕ)) (file : List ℕ) (x : Value) (steps : ℕ) (told : List ℕ) : Type 0 where
  refused : (f : Fault) → IsWrongText text root f → told ≡ [] → IsExplainedMismatch text root file x steps told
  explained : (tokens : List Token) (spec : Checked) → AreTokensOf tokens text → IsReadAs tokens root spec → IsToldFrom text tokens file root spec x steps told → IsExplainedMismatch text root file x steps told
