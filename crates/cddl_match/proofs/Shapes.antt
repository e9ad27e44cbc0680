-- What replies look like: no failure shows before the item or the array that was asked about, and a type's yes tells no more
-- than the place after the item.
use Rattle.std.proofs.Common.{ℕ, zero, suc, ◌-◌, ◌≤◌, ◌<◌, ◌^◌, length, List, [], ◌∷◌, Option, Some, None, Bool, true, false, nat_eq, max, arith}
use Rattle.cbor_data.specs.Value.{Value, Pairs, no_pairs, pair, place_count}
use Rattle.cddl_meaning.specs.Forms.{members_in, pairs_in, bytes_in, tag_in, simple_in, passes, TagNumber, any_number, exactly, such_as, Content, MapEntry, Node, Plain, Ref, Choice, ArrayOf, TagOf, SimpleBy, MapOf, Both, Such, Holding, Most, Group, Entry, GroupRef, Sequence, Alternatives, Repeat, Language, Test, bits_among}
use Rattle.cddl_meaning.specs.Judges.{Answer, Yes, No, Reply, Takes, Fails, is_over, one_less, Fate, BelongsTo, Stray, by_counts, shown_by}
use Rattle.cddl_meaning.specs.Moves.{Question, OfType, OfGroup, Tally, tallied, fresh, first_of, enough_of, tally_says, answer_reply, either_reply, Sorting, Answered, Replies, replies, LeadsTo, at_once, after, tries, passes_over, enters, reads, reads_nothing, read_move, plus, test_reply, such_reply, next_way, map_move, next_pair, sorted, next_entry, after_value, next_member, next_part, next_alternative, next_round, repetition, after_round, end_of_rounds, array_move, content_move, tag_move, simple_move, type_move, entry_move, group_move, weighs, Weighs, tested_move}

-- the greatest place that failed
abbrev pub far_of : Reply → ℕ
far_of (Takes left next far) = far
far_of (Fails far) = far

-- a type's reply about the item at a place
pub data IsTypeReply (p : ℕ) : Reply → Type 0 where
  says_yes : {next : ℕ} → IsTypeReply p (Takes [] next 0)
  says_no : {far : ℕ} → p ≤ far → IsTypeReply p (Fails far)

before : {p q : ℕ} {r : Reply} → p ≤ q → IsTypeReply q r → IsTypeReply p r
before h says_yes = says_yes
before h (says_no e) = says_no (omega (arith, h, e))

-- not before this place: a no, what becomes of a pair, and a place that shows if there is one
abbrev IsLate : ℕ → Answer → Type 0
IsLate p Yes = Unit {0}
IsLate p (No far) = p ≤ far

abbrev IsFateLate : ℕ → Fate → Type 0
IsFateLate p (BelongsTo n a) = IsLate p a
IsFateLate p (Stray q) = p ≤ q

abbrev NotBefore : ℕ → Option ℕ → Type 0
NotBefore p None = Unit {0}
NotBefore p (Some q) = p ≤ q

shown_late : (p : ℕ) (o : Option ℕ) (a : Answer) → NotBefore p o → IsLate p a → IsLate p (shown_by o a)
shown_late p None a h i = i
shown_late p (Some q) a h i = h

counts_late : (p : ℕ) (b : Bool) → IsLate p (by_counts p b)
counts_late p true = tt
counts_late p false = omega arith

answer_shape : (p q : ℕ) (a : Answer) → IsLate p a → IsTypeReply p (answer_reply q a)
answer_shape p q Yes h = says_yes
answer_shape p q (No far) h = says_no h

first_late : (p q : ℕ) (o : Option ℕ) → NotBefore p o → p ≤ q → NotBefore p (first_of o q)
first_late p q None h i = i
first_late p q (Some k) h i = h

stray_late : (p : ℕ) (t : Tally) (f : Fate) → NotBefore p t.stray → IsFateLate p f → NotBefore p (tallied t f).stray
stray_late p t (BelongsTo n Yes) h i = h
stray_late p t (BelongsTo n (No far)) h i = h
stray_late p t (Stray q) h i = first_late p q t.stray h i

failing_late : (p : ℕ) (t : Tally) (f : Fate) → NotBefore p t.failing → IsFateLate p f → NotBefore p (tallied t f).failing
failing_late p t (BelongsTo n Yes) h i = h
failing_late p t (BelongsTo n (No far)) h i = first_late p far t.failing h i
failing_late p t (Stray q) h i = h

either_shape : (p : ℕ) (a b : Reply) → IsTypeReply p a → IsTypeReply p b → IsTypeReply p (either_reply a b)
either_shape p (Takes left next far) b h i = h
either_shape p (Fails k) (Takes left next far) h i = i
either_shape p (Fails k) (Fails m) (says_no h) (says_no i) = says_no (omega (arith, h, i))

module _ {N G : Type 0} (l : Language N G) where
  positive : {q : Question N G} {r : Reply} {w : ℕ} → Replies l q r w → 1 ≤ w
  positive (replies e) = omega arith

  kept : {base w : ℕ} {s r : Reply} → LeadsTo {N = N} {G = G} l (Answered s) r w → base ≤ far_of s → base ≤ far_of r
  kept at_once h = h

  kept_reply : {p w : ℕ} {s r : Reply} → LeadsTo {N = N} {G = G} l (Answered s) r w → IsTypeReply p s → IsTypeReply p r
  kept_reply at_once h = h

  -- what groups reply whose replies take so many questions at most, and types likewise
  abbrev GroupsShow : ℕ → Type 0
  GroupsShow n = (g : G) (base q w : ℕ) (xs : List Value) (r : Reply) → w ≤ n → Replies l (OfGroup g base q xs) r w → base ≤ far_of r

  abbrev TypesShow : ℕ → Type 0
  TypesShow n = (m : N) (p w : ℕ) (x : Value) (r : Reply) → p < 2 ^ 64 → w ≤ n → Replies l (OfType m p x) r w → IsTypeReply p r

  entry_shape : (m : N) (base q : ℕ) (xs : List Value) → {w : ℕ} {r : Reply} → LeadsTo l (entry_move m base q xs) r w → base ≤ far_of r
  entry_shape m base q [] at_once = omega arith
  entry_shape m base q (x ∷ xs) (after {s = Takes left next far} d f) = kept f (omega arith)
  entry_shape m base q (x ∷ xs) (after {s = Fails far} d f) = kept f (omega arith)

  parts_shape : (gs : List G) (base q : ℕ) (xs : List Value) (far : ℕ) → {w : ℕ} {r : Reply} → base ≤ far → LeadsTo l (next_part gs base q xs far) r w → base ≤ far_of r
  parts_shape [] base q xs far h at_once = h
  parts_shape (g ∷ gs) base q xs far h (after {s = Takes left next later} d f) = parts_shape gs base next left (max far later) (omega (arith, h)) f
  parts_shape (g ∷ gs) base q xs far h (after {s = Fails later} d f) = kept f (omega (arith, h))

  alternatives_shape : (gs : List G) (base q : ℕ) (xs : List Value) (far : ℕ) → {w : ℕ} {r : Reply} → base ≤ far → LeadsTo l (next_alternative gs base q xs far) r w → base ≤ far_of r
  alternatives_shape [] base q xs far h at_once = h
  alternatives_shape (g ∷ gs) base q xs far h (after {s = Takes left next later} d f) = kept f (omega (arith, h))
  alternatives_shape (g ∷ gs) base q xs far h (after {s = Fails later} d f) = alternatives_shape gs base q xs (max far later) (omega (arith, h)) f

  last_shape : (least base : ℕ) (xs : List Value) (q far : ℕ) → {w : ℕ} {r : Reply} → base ≤ far → LeadsTo {N = N} {G = G} l (end_of_rounds least xs q far) r w → base ≤ far_of r
  last_shape zero base xs q far h at_once = h
  last_shape (suc least) base xs q far h at_once = h

  round_shape : (same : Bool) (least : ℕ) (most : Most) (g : G) (base q : ℕ) (xs : List Value) (far : ℕ) (left : List Value) (next : ℕ) → {w : ℕ} {r : Reply} → base ≤ far → (LeadsTo l (repetition (least - 1) (one_less most) g base next left far) r w → base ≤ far_of r) → LeadsTo l (after_round same least most g base q xs far left next) r w → base ≤ far_of r
  round_shape true least most g base q xs far left next h more at_once = h
  round_shape false least most g base q xs far left next h more d = more d

  rounds_shape : (n : ℕ) (over : Bool) (least : ℕ) (most : Most) (g : G) (base q : ℕ) (xs : List Value) (far : ℕ) → {w : ℕ} {r : Reply} → base ≤ far → w ≤ n → LeadsTo l (next_round over least most g base q xs far) r w → base ≤ far_of r
  rounds_shape n true least most g base q xs far h b at_once = h
  rounds_shape zero false least most g base q xs far h b (after d f) = absurd (omega (arith, b, positive d))
  rounds_shape (suc n) false least most g base q xs far h b (after {s = Takes left next later} d f) = round_shape (nat_eq (length left) (length xs)) least most g base q xs (max far later) left next (omega (arith, h)) (λ e. rounds_shape n (is_over (one_less most)) (least - 1) (one_less most) g base next left (max far later) (omega (arith, h)) (omega (arith, b, positive d)) e) f
  rounds_shape (suc n) false least most g base q xs far h b (after {s = Fails later} d f) = last_shape least base xs q (max far later) (omega (arith, h)) f

  form_shape : (n : ℕ) → GroupsShow n → (f : Group N G) (base q : ℕ) (xs : List Value) → {w : ℕ} {r : Reply} → w ≤ n → LeadsTo l (group_move f base q xs) r w → base ≤ far_of r
  form_shape n show (Entry m) base q xs b d = entry_shape m base q xs d
  form_shape n show (GroupRef g) base q xs b (after {s = s} {v = v} d f) = kept f (show g base q v xs s (omega (arith, b)) d)
  form_shape n show (Sequence gs) base q xs b d = parts_shape gs base q xs base (omega arith) d
  form_shape n show (Alternatives gs) base q xs b d = alternatives_shape gs base q xs base (omega arith) d
  form_shape n show (Repeat least most g) base q xs b d = rounds_shape n (is_over most) least most g base q xs base (omega arith) b d

  groups_show : (n : ℕ) → GroupsShow n
  groups_show zero g base q w xs r b d = absurd (omega (arith, b, positive d))
  groups_show (suc n) g base q w xs r b (replies d) = form_shape n (groups_show n) (l.group_at g) base q xs (omega (arith, b)) d

  pub group_shape : {g : G} {base q w : ℕ} {xs : List Value} {r : Reply} → Replies l (OfGroup g base q xs) r w → base ≤ far_of r
  group_shape {g = g} {base = base} {q = q} {w = w} {xs = xs} {r = r} d = groups_show w g base q w xs r (omega arith) d

  test_shape : (b : Bool) (p : ℕ) (x : Value) → {w : ℕ} {r : Reply} → LeadsTo {N = N} {G = G} l (Answered (test_reply p x b)) r w → IsTypeReply p r
  test_shape true p x at_once = says_yes
  test_shape false p x at_once = says_no (omega arith)

  such_shape : (b : Bool) (p next : ℕ) → {w : ℕ} {r : Reply} → LeadsTo {N = N} {G = G} l (Answered (such_reply p next b)) r w → IsTypeReply p r
  such_shape true p next at_once = says_yes
  such_shape false p next at_once = says_no (omega arith)

  weighed_shape : (b : Bool) (p next : ℕ) → {n w : ℕ} {r : Reply} → LeadsTo {N = N} {G = G} l (Weighs n (such_reply p next b)) r w → IsTypeReply p r
  weighed_shape true p next weighs = says_yes
  weighed_shape false p next weighs = says_no (omega arith)

  tested_shape : (t : Test) (p next : ℕ) (x : Value) → {w : ℕ} {r : Reply} → LeadsTo {N = N} {G = G} l (tested_move t p next x) r w → IsTypeReply p r
  tested_shape (bits_among rs) p next x d = weighed_shape (passes (bits_among rs) x) p next d
  tested_shape t p next x d = such_shape (passes t x) p next d

  choice_shape : (ms : List N) (p : ℕ) (x : Value) (far : ℕ) → {w : ℕ} {r : Reply} → p ≤ far → LeadsTo l (next_member ms p x far) r w → IsTypeReply p r
  choice_shape [] p x far e at_once = says_no e
  choice_shape (m ∷ ms) p x far e (after {s = Takes left next later} d f) = kept_reply f says_yes
  choice_shape (m ∷ ms) p x far e (after {s = Fails later} d f) = choice_shape ms p x (max far later) (omega (arith, e)) f

  array_shape : (g : G) (p : ℕ) (o : Option (List Value)) → {w : ℕ} {r : Reply} → LeadsTo l (array_move g p o) r w → IsTypeReply p r
  array_shape g p None at_once = says_no (omega arith)
  array_shape g p (Some xs) (after {s = Takes [] next far} d f) = kept_reply f says_yes
  array_shape g p (Some xs) (after {s = Takes (y ∷ ys) next far} d f) = kept_reply f (says_no (omega (arith, group_shape d)))
  array_shape g p (Some xs) (after {s = Fails far} d f) = kept_reply f (says_no (group_shape d))

  content_shape : (n : ℕ) → TypesShow n → (b : Bool) (m : N) (p : ℕ) (y : Value) → {w : ℕ} {r : Reply} → p < 2 ^ 64 → w ≤ n → LeadsTo l (content_move m p y b) r w → IsTypeReply p r
  content_shape n show true m p y h b (after {s = s} {v = v} d f) = kept_reply f (before (omega (arith, h)) (show m (plus p 1) v y s (omega arith) (omega (arith, b)) d))
  content_shape n show false m p y h b at_once = says_no (omega arith)

  tag_shape : (n : ℕ) → TypesShow n → (t : TagNumber N) (m : N) (p : ℕ) (o : Option (ℕ × Value)) → {w : ℕ} {r : Reply} → p < 2 ^ 64 → w ≤ n → LeadsTo l (tag_move t m p o) r w → IsTypeReply p r
  tag_shape n show t m p None h b at_once = says_no (omega arith)
  tag_shape n show any_number m p (Some (k, y)) h b d = content_shape n show true m p y h b d
  tag_shape n show (exactly i) m p (Some (k, y)) h b d = content_shape n show (nat_eq i k) m p y h b d
  tag_shape n show (such_as i) m p (Some (k, y)) h b (after {s = Takes left next far} d f) = content_shape n show true m p y h (omega (arith, b)) f
  tag_shape n show (such_as i) m p (Some (k, y)) h b (after {s = Fails far} d f) = kept_reply f (says_no (omega arith))

  simple_shape : (m : N) (p : ℕ) (o : Option ℕ) → {w : ℕ} {r : Reply} → LeadsTo l (simple_move m p o) r w → IsTypeReply p r
  simple_shape m p None at_once = says_no (omega arith)
  simple_shape m p (Some n) (after {s = Takes left next far} d f) = kept_reply f says_yes
  simple_shape m p (Some n) (after {s = Fails far} d f) = kept_reply f (says_no (omega arith))

  alternative_shape : (p : ℕ) (es : List (MapEntry N)) (q : ℕ) (t : Tally) → {w : ℕ} {r : Reply} → NotBefore p t.stray → NotBefore p t.failing → LeadsTo {N = N} {G = G} l (Answered (answer_reply q (tally_says es p t))) r w → IsTypeReply p r
  alternative_shape p es q t h i d = kept_reply d (answer_shape p q (tally_says es p t) (shown_late p t.stray (shown_by t.failing (by_counts p (enough_of es t.counts))) h (shown_late p t.failing (by_counts p (enough_of es t.counts)) i (counts_late p (enough_of es t.counts)))))

  -- what is left of an alternative after a pair
  abbrev RestShows : ℕ → ℕ → Sorting N → Type 0
  RestShows n p s = (f : Fate) (w : ℕ) (r : Reply) → IsFateLate p f → w ≤ n → LeadsTo l (sorted s f) r w → IsTypeReply p r

  value_shape : (n p : ℕ) (s : Sorting N) → RestShows n p s → (cuts : Bool) (es : List (MapEntry N)) (far w : ℕ) (r : Reply) → p ≤ far → w ≤ n → (LeadsTo l (next_entry es s) r w → IsTypeReply p r) → LeadsTo l (after_value cuts es s far) r w → IsTypeReply p r
  value_shape n p s rest true es far w r h b more d = rest (BelongsTo (length es) (No far)) w r h b d
  value_shape n p s rest false es far w r h b more d = more d

  far_late : (p q far : ℕ) → p ≤ q → IsTypeReply q (Fails far) → p ≤ far
  far_late p q far h (says_no i) = omega (arith, h, i)

  entries_shape : (n p : ℕ) → TypesShow n → (s : Sorting N) → p ≤ s.key_place → p ≤ s.value_place → s.value_place < 2 ^ 64 → RestShows n p s → (es : List (MapEntry N)) (w : ℕ) (r : Reply) → w ≤ n → LeadsTo l (next_entry es s) r w → IsTypeReply p r
  entries_shape n p show s h i j rest [] w r b d = rest (Stray s.key_place) w r h b d
  entries_shape n p show s h i j rest (e ∷ es) w r b (passes_over i' g) = entries_shape n p show s h i j rest es w r b g
  entries_shape n p show s h i j rest (e ∷ es) w r b (enters i' (after {s = Takes left next far} d (after {s = Takes left' next' far'} {w = u} d' f))) = rest (BelongsTo (length es) Yes) u r tt (omega (arith, b)) f
  entries_shape n p show s h i j rest (e ∷ es) w r b (enters i' (after {s = Takes left next far} d (after {s = Fails later} {v = v} {w = u} d' f))) =
      value_shape n p s rest e.cuts es later u r (far_late p s.value_place later i (show e.value_type s.value_place v s.held (Fails later) j (omega (arith, b)) d')) (omega (arith, b)) (λ g. entries_shape n p show s h i j rest es u r (omega (arith, b)) g) f
  entries_shape n p show s h i j rest (e ∷ es) w r b (enters i' (after {s = Fails later} {w = u} d f)) = entries_shape n p show s h i j rest es u r (omega (arith, b)) f

  pairs_shape : (n p : ℕ) → TypesShow n → (es : List (MapEntry N)) (ps : Pairs) (q : ℕ) (t : Tally) → p ≤ q → q < 2 ^ 64 → NotBefore p t.stray → NotBefore p t.failing → (w : ℕ) (r : Reply) → w ≤ n → LeadsTo l (next_pair es p q ps t) r w → IsTypeReply p r
  pairs_shape n p show es no_pairs q t h j a c w r b d = alternative_shape p es q t a c d
  pairs_shape n p show es (pair k x ps) q t h j a c w r b (tries {s = s} {w = u} d) =
      let i : p ≤ plus q (place_count k) = omega (arith, h, j) in
      let v : plus q (place_count k) < 2 ^ 64 = omega arith in
      entries_shape n p show s h i v (λ f w r g b d. pairs_shape n p show es ps (plus (plus q (place_count k)) (place_count x)) (tallied t f) (omega (arith, i, v)) (omega arith) (stray_late p t f a g) (failing_late p t f c g) w r b d) es u r (omega (arith, b)) d

  ways_shape : (n : ℕ) → TypesShow n → (ess : List (List (MapEntry N))) (p : ℕ) (ps : Pairs) (sofar : Reply) (w : ℕ) (r : Reply) → p < 2 ^ 64 → w ≤ n → IsTypeReply p sofar → LeadsTo l (next_way ess p ps sofar) r w → IsTypeReply p r
  ways_shape n show [] p ps sofar w r h b k d = kept_reply d k
  ways_shape n show (es ∷ ess) p ps sofar w r h b k (after {s = s} {v = v} {w = u} (replies {w = t} d) f) =
      ways_shape n show ess p ps (either_reply sofar s) u r h (omega (arith, b)) (either_shape p sofar s k (pairs_shape n p show es ps (plus p 1) (fresh es) (omega (arith, h)) (omega arith) tt tt t s (omega (arith, b)) d)) f

  map_shape : (n : ℕ) → TypesShow n → (ess : List (List (MapEntry N))) (p : ℕ) (o : Option Pairs) → {w : ℕ} {r : Reply} → p < 2 ^ 64 → w ≤ n → LeadsTo l (map_move ess p o) r w → IsTypeReply p r
  map_shape n show ess p None h b at_once = says_no (omega arith)
  map_shape n show ess p (Some ps) {w = w} {r = r} h b d = ways_shape n show ess p ps (Fails p) w r h b (says_no (omega arith)) d

  read_shape : (c : Content) (m : N) (p next : ℕ) (o : Option (List ℕ)) → {w : ℕ} {r : Reply} → LeadsTo l (read_move c m p next o) r w → IsTypeReply p r
  read_shape c m p next None at_once = says_no (omega arith)
  read_shape c m p next (Some b) (reads h (after {s = Takes left after_it far} d f)) = kept_reply f says_yes
  read_shape c m p next (Some b) (reads h (after {s = Fails far} d f)) = kept_reply f (says_no (omega arith))
  read_shape c m p next (Some b) (reads_nothing h) = says_no (omega arith)

  node_shape : (n : ℕ) → TypesShow n → (f : Node N G) (p : ℕ) (x : Value) → {w : ℕ} {r : Reply} → p < 2 ^ 64 → w ≤ n → LeadsTo l (type_move f p x) r w → IsTypeReply p r
  node_shape n show (Plain t) p x h b d = test_shape (passes t x) p x d
  node_shape n show (Ref m) p x h b (after {s = s} {v = v} d f) = kept_reply f (show m p v x s h (omega (arith, b)) d)
  node_shape n show (Choice ms) p x h b d = choice_shape ms p x p (omega arith) d
  node_shape n show (ArrayOf g) p x h b d = array_shape g p (members_in x) d
  node_shape n show (TagOf t m) p x h b d = tag_shape n show t m p (tag_in x) h b d
  node_shape n show (SimpleBy m) p x h b d = simple_shape m p (simple_in x) d
  node_shape n show (MapOf ess) p x h b d = map_shape n show ess p (pairs_in x) h b d
  node_shape n show (Both m o) p x h b (after {s = Takes left next far} d (after {s = s} {v = v} e f)) = kept_reply f (show o p v x s h (omega (arith, b)) e)
  node_shape n show (Both m o) p x h b (after {s = Fails far} {v = v} d f) = kept_reply f (show m p v x (Fails far) h (omega (arith, b)) d)
  node_shape n show (Such m t) p x h b (after {s = Takes left next far} d f) = tested_shape t p next x f
  node_shape n show (Such m t) p x h b (after {s = Fails far} {v = v} d f) = kept_reply f (show m p v x (Fails far) h (omega (arith, b)) d)
  node_shape n show (Holding m c o) p x h b (after {s = Takes left next far} d f) = read_shape c o p next (bytes_in x) f
  node_shape n show (Holding m c o) p x h b (after {s = Fails far} {v = v} d f) = kept_reply f (show m p v x (Fails far) h (omega (arith, b)) d)

  types_show : (n : ℕ) → TypesShow n
  types_show zero m p w x r h b d = absurd (omega (arith, b, positive d))
  types_show (suc n) m p w x r h b (replies d) = node_shape n (types_show n) (l.type_at m) p x h (omega (arith, b)) d

  pub type_shape : {m : N} {p w : ℕ} {x : Value} {r : Reply} → p < 2 ^ 64 → Replies l (OfType m p x) r w → IsTypeReply p r
  type_shape {m = m} {p = p} {w = w} {x = x} {r = r} h d = types_show w m p w x r h (omega arith) d
