-- What lies ahead of the matcher: several questions that are taken in one step.
use Rattle.std.specs.Prelude.{◌≡◌, ℕ, ◌+◌, ◌<◌, ◌^◌, List, [], ◌∷◌, Bool}
use Rattle.cbor_data.specs.Value.{Value}
use Rattle.cddl_meaning.specs.Forms.{Language, Node}
use Rattle.cddl_meaning.specs.Judges.{Reply, Fails}
use Rattle.cddl_meaning.specs.Moves.{Question, OfType, OfGroup, InEntry, Move, Answered, Replies, LeadsTo, next_move, next_member, test_reply, type_move}

module _ {N G : Type 0} (l : Language N G) where
  -- The one move leads to what the other does, in so many questions more.
  pub record ComesTo (m n : Move N G) (k : ℕ) : Type 0 where
    pub leads : (r : Reply) (w : ℕ) → LeadsTo l n r w → LeadsTo l m r (k + w)
    pub comes : (r : Reply) (w : ℕ) → LeadsTo l m r w → (v : ℕ) × LeadsTo l n r v × (w ≡ k + v)

  -- The question is replied to as this move leads, in so many questions more.
  pub record Opens (q : Question N G) (m : Move N G) (k : ℕ) : Type 0 where
    pub leads : (r : Reply) (w : ℕ) → LeadsTo l m r w → Replies l q r (k + w)
    pub comes : (r : Reply) (w : ℕ) → Replies l q r w → (v : ℕ) × LeadsTo l m r v × (w ≡ k + v)

  -- The one question is replied to as the other, in so many questions more.
  pub record AsksOn (p q : Question N G) (k : ℕ) : Type 0 where
    pub leads : (r : Reply) (w : ℕ) → Replies l q r w → Replies l p r (k + w)
    pub comes : (r : Reply) (w : ℕ) → Replies l p r w → (v : ℕ) × Replies l q r v × (w ≡ k + v)

  -- of types, and of groups, whatever they are asked of
  abbrev pub IsTypeOf : N → N → ℕ → Type 0
  IsTypeOf n m k = (p : ℕ) (x : Value) → p < 2 ^ 64 → AsksOn (OfType n p x) (OfType m p x) k

  abbrev pub IsGroupOf : G → G → ℕ → Type 0
  IsGroupOf g h k = (base q : ℕ) (xs : List Value) → AsksOn (OfGroup g base q xs) (OfGroup h base q xs) k

  -- Tests tell what a type of this form says of the item, in so many questions after the first.
  abbrev pub IsTold : Node N G → Value → Bool → ℕ → Type 0
  IsTold f x says k = (p : ℕ) → p < 2 ^ 64 → ComesTo (type_move f p x) (Answered (test_reply p x says)) k

  -- what a choice of these types says, and what a type does
  abbrev pub AreTold : List N → Value → Bool → ℕ → Type 0
  AreTold ms x says k = (p : ℕ) → p < 2 ^ 64 → ComesTo (next_member ms p x p) (Answered (test_reply p x says)) k

  abbrev pub IsTypeTold : N → Value → Bool → ℕ → Type 0
  IsTypeTold n x says k = (p : ℕ) → p < 2 ^ 64 → Opens (OfType n p x) (Answered (test_reply p x says)) k

  -- What tests tell of an item by this form is what the type says of it, k questions and one before.
  abbrev pub IsFormOf : N → Node N G → ℕ → Type 0
  IsFormOf n f k = (x : Value) (says : Bool) (m : ℕ) → IsTold f x says m → IsTypeTold n x says (m + (k + 1))

  -- The group leads to an entry of this type in j questions, and k lead from the type to one of this form.
  pub record IsEntered (g : G) (n : N) (f : Node N G) (j k : ℕ) : Type 0 where
    pub none : (base q : ℕ) → Opens (OfGroup g base q []) (Answered (Fails base)) (j + 1)
    pub some : (base q : ℕ) (x : Value) (xs : List Value) (says : Bool) (m : ℕ) (r : Reply) → q < 2 ^ 64 → IsTypeTold n x says m → Answered r ≡ next_move {N = N} {G = G} (InEntry base xs) (test_reply q x says) → Opens (OfGroup g base q (x ∷ xs)) (Answered r) (m + (j + 1))
    pub form : IsFormOf n f k
