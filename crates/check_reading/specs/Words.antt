-- The words at the sites of a text, by the numbers of their texts.
use Rattle.std.specs.Prelude.{◌≡◌, ℕ, List, [], ◌∷◌, length, Contains, Option, Some, None, slice_get}
use Rattle.cddl_token.specs.declared.Token.{Token}
use Rattle.tree_nodes.specs.Syntax.Syntax as S
use Rattle.cddl_language.specs.Faults.{occur_token}
use Rattle.cddl_language.specs.Reading.{control_name, text_of}
use Rattle.cddl_language.specs.Sites.{Site, a_name, an_unwrapping, a_choice_of_name, a_hash, an_operation, an_entry, arguments, ref_name, ref_token}
use Rattle.cddl_language.specs.Terms.{Text}
use Rattle.check_terms.specs.Table.{Table}
use Rattle.check_reading.specs.declared.words.listing.Spelled.{Spelled}
use Rattle.check_reading.specs.declared.words.word.Role.{Role}
use Rattle.check_reading.specs.declared.words.word.Role.TheVariants as RoleV
use Rattle.check_reading.specs.declared.words.word.Word.{Word}

-- What a word says: where it begins, what it is, its text, and how many arguments a name has.
pub record Said : Type 0 where
  pub at : ℕ
  pub role : Role
  pub text : Text
  pub arguments : ℕ

-- what the tree has
abbrev pub spelled_said : Spelled → Said
spelled_said w = record { at = w.at; role = w.role; text = w.text.now; arguments = w.arguments }

-- The word of a site, if it has one.

abbrev pub name_said : Role → S.Ref → Said
name_said o f = record { at = (ref_token f).start; role = o; text = ref_name f; arguments = length (arguments f) }

abbrev pub hash_said : Token → Said
hash_said t = record { at = t.start; role = RoleV.Hash; text = text_of t; arguments = 0 }

abbrev pub control_said : Token → Said
control_said t = record { at = t.start; role = RoleV.Control; text = control_name t; arguments = 0 }

abbrev pub operator_said : S.Operator → Option Said
operator_said (S.control t) = Some (control_said t)
operator_said _ = None

abbrev pub occurrence_said : Token → Said
occurrence_said t = record { at = t.start; role = RoleV.Occurrence; text = text_of t; arguments = 0 }

abbrev pub occur_said : Option Token → Option Said
occur_said None = None
occur_said (Some t) = Some (occurrence_said t)

abbrev pub said_at : Site → Option Said
said_at (a_name b f) = Some (name_said (RoleV.Name b) f)
said_at (an_unwrapping b t f) = Some (name_said (RoleV.Unwrapped b t.start) f)
said_at (a_choice_of_name t f) = Some (name_said RoleV.ChosenFrom f)
said_at (a_hash t) = Some (hash_said t)
said_at (an_operation x o y) = operator_said o
said_at (an_entry e) = occur_said (occur_token e)
said_at _ = None

-- the word says this, by the number of its text
pub record IsSaid (t : Table) (w : Word) (x : Said) : Type 0 where
  pub at : w.at ≡ x.at
  pub role : w.role ≡ x.role
  pub text : slice_get t.texts w.text ≡ Some x.text
  pub arguments : w.arguments ≡ x.arguments

-- it stands at a site of the rule at this index
pub record IsWordOf (t : Table) (w : Word) (p : ℕ × Site) : Type 0 where
  pub rule : w.rule ≡ p.0
  pub said : Said
  pub there : said_at p.1 ≡ Some said
  pub is : IsSaid t w said

-- The words of these sites, in their order.
pub data AreWords (t : Table) : List Word → List (ℕ × Site) → Type 0 where
  no_sites : AreWords t [] []
  without_word : {p : ℕ × Site} {ws : List Word} {ps : List (ℕ × Site)} → said_at p.1 ≡ None → AreWords t ws ps → AreWords t ws (p ∷ ps)
  with_word : {w : Word} {p : ℕ × Site} {ws : List Word} {ps : List (ℕ × Site)} → IsWordOf t w p → AreWords t ws ps → AreWords t (w ∷ ws) (p ∷ ps)

-- a word of the rule at this index says this
pub record HasWord (t : Table) (ws : List Word) (k : ℕ) (x : Said) : Type 0 where
  pub word : Word
  pub present : Contains ws word
  pub rule : word.rule ≡ k
  pub is : IsSaid t word x
