-- The pieces of a specification, and what holds of the parts of a piece where it holds of the piece.
use Rattle.std.proofs.Common.{◌≡◌, Bool, List, ◌∷◌, Option, Some}
use Rattle.std.specs.Prelude.{Contains}
use Rattle.cddl_language.specs.Terms.{Text, Literal, Term, literal, named, parens, map_of, array_of, unwrapped, choice_of, choice_of_name, tagged, tagged_by, simple_by, control, or, Ref, Group, sole, orelse, Entries, entries, Entry, typed, keyed, grouped, Key, of_type, bareword, of_value, Definition, alternatives}
use Rattle.cddl_language.specs.Substitution.{group_choices, type_choices}
use Rattle.cddl_language.specs.Kinds.{opens_type, opened, names_group, opens, part_of}

-- a closed reference, a type, alternatives as a group that is asked, each of some alternatives, the text of a group, one alternative,
-- an entry, a key, and the word that a bareword is as a key
pub data Piece : Type 0 where
  a_ref : Ref → Piece
  a_term : Term → Piece
  all_of : List Entries → Piece
  each_in : List Entries → Piece
  a_body : Group → Piece
  one_of : Entries → Piece
  an_entry : Entry → Piece
  a_key : Key → Piece
  a_word : Text → Piece

pub record GoesDown (ds : List Definition) (Has : Piece → Type 0) : Type 0 where
  -- to references, and to what they mean
  pub name : (r : Ref) → Has (a_term (named r)) → Has (a_ref r)
  pub unwrapping : (r : Ref) → Has (a_term (unwrapped r)) → Has (a_ref r)
  pub choice_by_name : (r : Ref) → Has (a_term (choice_of_name r)) → Has (a_ref r)
  pub named_group : (t : Term) (r : Ref) → Has (a_term t) → part_of ds t ≡ names_group r → Has (a_ref r)
  pub opened_group : (t : Term) (r : Ref) (g : Group) → Has (a_term t) → part_of ds t ≡ opens r g → Has (all_of (alternatives g))
  pub types : (r : Ref) (t : Term) → Has (a_ref r) → Contains (type_choices ds r) t → Has (a_term t)
  pub group : (r : Ref) → Has (a_ref r) → Has (all_of (group_choices ds r))
  pub content : (r : Ref) (t : Term) → Has (a_ref r) → opened ds r ≡ Some (opens_type t) → Has (a_term t)
  -- to the parts of types
  pub in_parens : (t : Term) → Has (a_term (parens t)) → Has (a_term t)
  pub in_map : (g : Group) → Has (a_term (map_of g)) → Has (all_of (alternatives g))
  pub in_array : (g : Group) → Has (a_term (array_of g)) → Has (all_of (alternatives g))
  pub in_choice : (g : Group) → Has (a_term (choice_of g)) → Has (all_of (alternatives g))
  pub in_tag : (n : Text) (t : Term) → Has (a_term (tagged n t)) → Has (a_term t)
  pub in_tag_by : (h t : Term) → Has (a_term (tagged_by h t)) → Has (a_term h) × Has (a_term t)
  pub in_simple : (h : Term) → Has (a_term (simple_by h)) → Has (a_term h)
  pub in_control : (a : Term) (n : Text) (b : Term) → Has (a_term (control a n b)) → Has (a_term a) × Has (a_term b)
  pub in_or : (t u : Term) → Has (a_term (or t u)) → Has (a_term t) × Has (a_term u)
  -- to the parts of groups
  pub each : (ess : List Entries) → Has (all_of ess) → Has (each_in ess)
  pub in_each : (es : Entries) (ess : List Entries) → Has (each_in (es ∷ ess)) → Has (one_of es) × Has (each_in ess)
  pub in_sole : (es : Entries) → Has (a_body (sole es)) → Has (one_of es)
  pub in_orelse : (g : Group) (es : Entries) → Has (a_body (orelse g es)) → Has (a_body g) × Has (one_of es)
  pub in_entries : (es : Entries) (x : Entry) (c : Bool) → Has (one_of (entries es x c)) → Has (one_of es) × Has (an_entry x)
  pub in_typed : (o : Option Text) (t : Term) → Has (an_entry (typed o t)) → Has (a_term t)
  pub in_keyed : (o : Option Text) (k : Key) (t : Term) → Has (an_entry (keyed o k t)) → Has (a_key k) × Has (a_term t)
  pub in_grouped : (o : Option Text) (g : Group) → Has (an_entry (grouped o g)) → Has (a_body g) × Has (all_of (alternatives g))
  pub in_type_key : (t : Term) (c : Bool) → Has (a_key (of_type t c)) → Has (a_term t)
  pub in_word_key : (n : Text) → Has (a_key (bareword n)) → Has (a_word n)
  pub in_value_key : (v : Literal) → Has (a_key (of_value v)) → Has (a_term (literal v))
