-- What is said by what parts say, one after the other.
use Rattle.std.proofs.Common.{◌≡◌, ◌≢◌, ℕ, zero, suc, ◌+◌, ◌-◌, ◌<◌, max, nat_eq, nat_le, List, [], ◌∷◌, ◌++◌, length, get_or, set, Bool, true, false, cond, ◌&&◌, ◌||◌, Option, Some, None, refl, sym, ap, ap₂, ◌∙◌, subst, arith, append_assoc, append-nil}
use Rattle.std.proofs.lemmas.Bool.Decides.{nat_tests}
use Rattle.std.proofs.lemmas.List.{get_or-set_same, get_or-set_other}
use Rattle.cbor_data.specs.Embedded.{Embeds}
use Rattle.cbor_data.proofs.Lemmas.{form_some}
use Rattle.cbor_data.specs.Value.{Value, bytes, tag, place_count, Pairs, no_pairs, pair}
use Rattle.cddl_meaning.specs.Forms.{Language, Node, Plain, Ref, Choice, ArrayOf, TagOf, MapOf, Both, Such, Holding, one_item, Test, passes, bits_asked, Group, Entry, GroupRef, Sequence, Alternatives, Repeat, Most, MapEntry, TagNumber, any_number, exactly, such_as, members_in, bytes_in, pairs_in, is_passed_over, pair_cost, entry_cost}
use Rattle.cddl_meaning.specs.Held.{Holds, item}
use Rattle.cddl_meaning.specs.Judges.{Answer, Yes, No, Reply, Takes, Fails, whole, over, failed, Fate, BelongsTo, Stray, is_over, one_less, alternative_says, are_enough, is_up_to_most, by_counts, shown_by, either, count_of, first_failing, first_stray, Says, passed, missed, ref, choice, array, tagged, other_tag, map, left_no, left_yes, none_such, such_passed, such_missed, holder_no, holds_nothing, held_yes, held_no, no_alternative, alternative, Sorts, all_sorted, sort, Belongs, nowhere, passed_over, asked, other_key, here, cut_here, handed_on, Numbers, whichever, this_number, other_number, no_more, this_one, not_this, Does, missing, matches, differs, group_ref, sequence, alternatives, repeat, all_done, one_fails, and_then, all_fail, one_takes, or_else, full, too_few, enough, empty_round, round}
use Rattle.tape_match.specs.Says.{IsAnswer, IsMeant, are_enough_from, is_fallen, FormSays, ChoiceComes, GroupTakes, GroupFails, SequenceComes, AlternativesCome, RoundsCome, EntriesCome, PairTaken, PairFails, PairsCome, PairsSorted, WaySays, MapComes, SaysAs, DoesAs}

more : (k v w : ℕ) → k + (v + w) ≡ (k + v) + w
more k v w = omega arith

no_more_of : (k : ℕ) → k + 0 ≡ k
no_more_of k = omega arith

one_up : (w : ℕ) → suc w ≡ 1 + w
one_up w = omega arith

none_up : (w : ℕ) → w ≡ 0 + w
none_up w = omega arith

module _ {N G : Type 0} (l : Language N G) where
  -- types

  says_up : (f : Node N G) (p : ℕ) (x : Value) (a : Answer) (w : ℕ) → Says l f p x a (suc w) → Says l f p x a (1 + w)
  says_up f p x a w d = subst (λ j. Says l f p x a j) (one_up w) d

  does_up : (f : Group N G) (p q : ℕ) (xs : List Value) (r : Reply) (w : ℕ) → Does l f p q xs r (suc w) → Does l f p q xs r (1 + w)
  does_up f p q xs r w d = subst (λ j. Does l f p q xs r j) (one_up w) d

  pub plain_says : (t : Test) (x : Value) (says : Bool) → passes t x ≡ says → FormSays l (Plain t) x says 1
  plain_says t x true e = λ p. passed e
  plain_says t x false e = λ p. (p, missed e)

  pub ref_says : (m : N) (x : Value) (says : Bool) (w : ℕ) → FormSays l (l.type_at m) x says w → FormSays l (Ref m) x says (1 + w)
  ref_says m x true w h = λ p. says_up (Ref m) p x Yes w (ref (h p))
  ref_says m x false w h = λ p. ((h p).0, says_up (Ref m) p x (No (h p).0) w (ref (h p).1))

  pub choice_start : (ms : List N) (x : Value) → ChoiceComes l ms ms x 1
  choice_start ms x p = (p, λ a w d. says_up (Choice ms) p x a w (choice d))

  pub choice_no : (all ms : List N) (m : N) (x : Value) (k v : ℕ) → ChoiceComes l all (m ∷ ms) x k → FormSays l (l.type_at m) x false v → ChoiceComes l all ms x (k + v)
  choice_no all ms m x k v c n p =
      let far : ℕ = (c p).0 in
      let later : ℕ = (n p).0 in
      (max far later, λ a w d. subst (λ j. Says l (Choice all) p x a j) (more k v w) ((c p).1 a (v + w) (not_this (n p).1 d)))

  pub choice_yes : (all ms : List N) (m : N) (x : Value) (k v : ℕ) → ChoiceComes l all (m ∷ ms) x k → FormSays l (l.type_at m) x true v → FormSays l (Choice all) x true (k + v)
  choice_yes all ms m x k v c y p = (c p).1 Yes v (this_one (y p))

  pub choice_none : (all : List N) (x : Value) (k : ℕ) → ChoiceComes l all [] x k → FormSays l (Choice all) x false k
  choice_none all x k c p = ((c p).0, subst (λ j. Says l (Choice all) p x (No (c p).0) j) (no_more_of k) ((c p).1 (No (c p).0) 0 no_more))

  -- a name, and a choice of one type
  pub name_says : (m : N) → SaysAs l (Ref m) (l.type_at m) 1
  name_says m x says w h = ref_says m x says w h

  pub one_says : (m : N) → SaysAs l (Choice (m ∷ [])) (l.type_at m) 1
  one_says m x true w h = choice_yes (m ∷ []) [] m x 1 w (choice_start (m ∷ []) x) h
  one_says m x false w h = choice_none (m ∷ []) x (1 + w) (choice_no (m ∷ []) [] m x 1 w (choice_start (m ∷ []) x) h)

  -- a type that says what another does, which says what a third one does
  pub says_on : (f g h : Node N G) (k n : ℕ) → SaysAs l f g k → SaysAs l g h n → SaysAs l f h (k + n)
  says_on f g h k n a b x says w d = subst (λ j. FormSays l f x says j) (more k n w) (a x says (n + w) (b x says w d))

  pub says_itself : (f : Node N G) → SaysAs l f f 0
  says_itself f x says w d = subst (λ j. FormSays l f x says j) (none_up w) d

  pub tagged_says : (t : TagNumber N) (m : N) (n : ℕ) (y : Value) (says : Bool) (w : ℕ) → ((p : ℕ) → Numbers l t p n Yes 0) → FormSays l (l.type_at m) y says w → FormSays l (TagOf t m) (tag n y) says (1 + w)
  tagged_says t m n y true w meant h = λ p. says_up (TagOf t m) p (tag n y) Yes w (subst (λ j. Says l (TagOf t m) p (tag n y) Yes (suc j)) (sym (none_up w)) (tagged refl (meant p) (h (suc p))))
  tagged_says t m n y false w meant h = λ p.
      let far : ℕ = (h (suc p)).0 in
      (far, says_up (TagOf t m) p (tag n y) (No far) w (subst (λ j. Says l (TagOf t m) p (tag n y) (No far) (suc j)) (sym (none_up w)) (tagged refl (meant p) (h (suc p)).1)))

  pub other_tag_says : (m : N) (k n : ℕ) (y : Value) → k ≢ n → FormSays l (TagOf (exactly k) m) (tag n y) false 1
  other_tag_says m k n y other p = (p, other_tag refl (other_number other))

  -- a number that is meant, and one that is not
  pub is_meant : (t : TagNumber N) (n : ℕ) → IsMeant t n true → (p : ℕ) → Numbers l t p n Yes 0
  is_meant any_number n e p = whichever
  is_meant (exactly m) n e p = let same : m ≡ n = grind (arith, nat_tests) in subst (λ k. Numbers l (exactly m) p k Yes 0) same this_number
  is_meant (such_as o) n e p = absurd e

  pub not_meant : (t : TagNumber N) (m : N) (n : ℕ) (y : Value) → IsMeant t n false → FormSays l (TagOf t m) (tag n y) false 1
  not_meant any_number m n y e = let never : true ≡ false = sym e in absurd (cc)
  not_meant (exactly k) m n y e = let other : k ≢ n = (λ same. absurd (differ k n e same)) in other_tag_says m k n y other
    where
      differ : (k n : ℕ) → nat_eq k n ≡ false → k ≡ n → ⊥
      differ k n e same = grind (arith, nat_tests)
  not_meant (such_as o) m n y e = absurd e

  pub such_says : (m : N) (t : Test) (x : Value) (says : Bool) (w b : ℕ) → FormSays l (l.type_at m) x true w → passes t x ≡ says → bits_asked t x ≡ b → FormSays l (Such m t) x says (1 + (w + b))
  such_says m t x true w b h e many = λ p. says_up (Such m t) p x Yes (w + b) (subst (λ j. Says l (Such m t) p x Yes (suc (w + j))) many (such_passed (h p) e))
  such_says m t x false w b h e many = λ p. (p, says_up (Such m t) p x (No p) (w + b) (subst (λ j. Says l (Such m t) p x (No p) (suc (w + j))) many (such_missed (h p) e)))

  pub none_such_says : (m : N) (t : Test) (x : Value) (w : ℕ) → FormSays l (l.type_at m) x false w → FormSays l (Such m t) x false (1 + w)
  none_such_says m t x w h p = ((h p).0, says_up (Such m t) p x (No (h p).0) w (none_such (h p).1))

  pub both_says : (m n : N) (x : Value) (says : Bool) (v w : ℕ) → FormSays l (l.type_at m) x true v → FormSays l (l.type_at n) x says w → FormSays l (Both m n) x says (1 + (v + w))
  both_says m n x true v w h g = λ p. says_up (Both m n) p x Yes (v + w) (left_yes (h p) (g p))
  both_says m n x false v w h g = λ p. ((g p).0, says_up (Both m n) p x (No (g p).0) (v + w) (left_yes (h p) (g p).1))

  pub left_no_says : (m n : N) (x : Value) (w : ℕ) → FormSays l (l.type_at m) x false w → FormSays l (Both m n) x false (1 + w)
  left_no_says m n x w h p = ((h p).0, says_up (Both m n) p x (No (h p).0) w (left_no (h p).1))

  pub holder_no_says : (m n : N) (x : Value) (w : ℕ) → FormSays l (l.type_at m) x false w → FormSays l (Holding m one_item n) x false (1 + w)
  holder_no_says m n x w h p = ((h p).0, says_up (Holding m one_item n) p x (No (h p).0) w (holder_no (h p).1))

  pub held_says : (m n : N) (b : List ℕ) (y : Value) (says : Bool) (v w : ℕ) → FormSays l (l.type_at m) (bytes b) true v → Embeds b y → FormSays l (l.type_at n) y says w →
      FormSays l (Holding m one_item n) (bytes b) says (1 + (v + w))
  held_says m n b y true v w h e g = λ p. says_up (Holding m one_item n) p (bytes b) Yes (v + w) (held_yes (h p) refl (item e) (g 0))
  held_says m n b y false v w h e g = λ p. (p, says_up (Holding m one_item n) p (bytes b) (No p) (v + w) (held_no (h p) refl (item e) (g 0).1))

  pub held_of : (m n : N) (x : Value) (b : List ℕ) (says : Bool) (v w : ℕ) → x ≡ bytes b → FormSays l (l.type_at m) x true v → (y : Value) × Embeds b y × FormSays l (l.type_at n) y says w →
      FormSays l (Holding m one_item n) x says (1 + (v + w))
  held_of m n x b says v w is h s =
      subst (λ z. FormSays l (Holding m one_item n) z says (1 + (v + w))) (sym is) (held_says m n b s.0 says v w (subst (λ z. FormSays l (l.type_at m) z true v) is h) s.1 s.2)

  holds_none : (b : List ℕ) (y : Value) → length b ≡ 0 → Holds one_item b y → ⊥
  holds_none b y none (item e) = absurd (omega (arith, none, ap length e.spells.is, form_some e.spells.written))

  pub holds_none_says : (m n : N) (x : Value) (b : List ℕ) (w : ℕ) → x ≡ bytes b → length b ≡ 0 → FormSays l (l.type_at m) x true w → FormSays l (Holding m one_item n) x false (1 + w)
  holds_none_says m n x b w is none h = λ p. (p, says_up (Holding m one_item n) p x (No p) w (holds_nothing (h p) (ap bytes_in is) (λ y held. holds_none b y none held)))

  -- arrays

  pub array_taken : (g : G) (x : Value) (xs : List Value) (w : ℕ) → members_in x ≡ Some xs → GroupTakes l (l.group_at g) xs [] w → FormSays l (ArrayOf g) x true (1 + w)
  array_taken g x xs w is t p = let d = t p (suc p) in says_up (ArrayOf g) p x Yes w (array is d.2 whole)

  pub array_left : (g : G) (x y : Value) (xs ys : List Value) (w : ℕ) → members_in x ≡ Some xs → GroupTakes l (l.group_at g) xs (y ∷ ys) w → FormSays l (ArrayOf g) x false (1 + w)
  array_left g x y xs ys w is t p = let d = t p (suc p) in (max d.1 d.0, says_up (ArrayOf g) p x (No (max d.1 d.0)) w (array is d.2 over))

  pub array_fails : (g : G) (x : Value) (xs : List Value) (w : ℕ) → members_in x ≡ Some xs → GroupFails l (l.group_at g) xs w → FormSays l (ArrayOf g) x false (1 + w)
  array_fails g x xs w is f p = let d = f p (suc p) in (d.0, says_up (ArrayOf g) p x (No d.0) w (array is d.1 failed))

  -- groups

  pub entry_missing : (m : N) → GroupFails l (Entry m) [] 1
  entry_missing m p q = (p, missing)

  pub entry_takes : (m : N) (x : Value) (xs : List Value) (w : ℕ) → FormSays l (l.type_at m) x true w → GroupTakes l (Entry m) (x ∷ xs) xs (1 + w)
  entry_takes m x xs w h p q = (q + place_count x, p, does_up (Entry m) p q (x ∷ xs) (Takes xs (q + place_count x) p) w (matches (h q)))

  pub entry_fails : (m : N) (x : Value) (xs : List Value) (w : ℕ) → FormSays l (l.type_at m) x false w → GroupFails l (Entry m) (x ∷ xs) (1 + w)
  entry_fails m x xs w h p q = (max p (h q).0, does_up (Entry m) p q (x ∷ xs) (Fails (max p (h q).0)) w (differs (h q).1))

  pub ref_takes : (g : G) (xs left : List Value) (w : ℕ) → GroupTakes l (l.group_at g) xs left w → GroupTakes l (GroupRef g) xs left (1 + w)
  ref_takes g xs left w t p q = let d = t p q in (d.0, d.1, does_up (GroupRef g) p q xs (Takes left d.0 d.1) w (group_ref d.2))

  pub ref_fails : (g : G) (xs : List Value) (w : ℕ) → GroupFails l (l.group_at g) xs w → GroupFails l (GroupRef g) xs (1 + w)
  ref_fails g xs w f p q = let d = f p q in (d.0, does_up (GroupRef g) p q xs (Fails d.0) w (group_ref d.1))

  pub sequence_start : (gs : List G) (xs : List Value) → SequenceComes l gs gs xs xs 1
  sequence_start gs xs p q = (q, p, λ r w d. does_up (Sequence gs) p q xs r w (sequence d))

  pub sequence_more : (all gs : List G) (g : G) (xs mid left : List Value) (k v : ℕ) → SequenceComes l all (g ∷ gs) xs mid k → GroupTakes l (l.group_at g) mid left v → SequenceComes l all gs xs left (k + v)
  sequence_more all gs g xs mid left k v c t p q =
      let a = c p q in
      let d = t p a.0 in
      (d.0, max a.1 d.1, λ r w e. subst (λ j. Does l (Sequence all) p q xs r j) (more k v w) (a.2 r (v + w) (and_then d.2 e)))

  pub sequence_done : (all : List G) (xs left : List Value) (k : ℕ) → SequenceComes l all [] xs left k → GroupTakes l (Sequence all) xs left k
  sequence_done all xs left k c p q = let a = c p q in (a.0, a.1, subst (λ j. Does l (Sequence all) p q xs (Takes left a.0 a.1) j) (no_more_of k) (a.2 (Takes left a.0 a.1) 0 all_done))

  pub sequence_fails : (all gs : List G) (g : G) (xs mid : List Value) (k v : ℕ) → SequenceComes l all (g ∷ gs) xs mid k → GroupFails l (l.group_at g) mid v → GroupFails l (Sequence all) xs (k + v)
  sequence_fails all gs g xs mid k v c f p q =
      let a = c p q in
      let d = f p a.0 in
      (max a.1 d.0, a.2 (Fails (max a.1 d.0)) v (one_fails d.1))

  pub alternatives_start : (gs : List G) (xs : List Value) → AlternativesCome l gs gs xs 1
  alternatives_start gs xs p q = (p, λ r w d. does_up (Alternatives gs) p q xs r w (alternatives d))

  pub alternatives_no : (all gs : List G) (g : G) (xs : List Value) (k v : ℕ) → AlternativesCome l all (g ∷ gs) xs k → GroupFails l (l.group_at g) xs v → AlternativesCome l all gs xs (k + v)
  alternatives_no all gs g xs k v c f p q =
      let a = c p q in
      let d = f p q in
      (max a.0 d.0, λ r w e. subst (λ j. Does l (Alternatives all) p q xs r j) (more k v w) (a.1 r (v + w) (or_else d.1 e)))

  pub alternatives_take : (all gs : List G) (g : G) (xs left : List Value) (k v : ℕ) → AlternativesCome l all (g ∷ gs) xs k → GroupTakes l (l.group_at g) xs left v → GroupTakes l (Alternatives all) xs left (k + v)
  alternatives_take all gs g xs left k v c t p q =
      let a = c p q in
      let d = t p q in
      (d.0, max a.0 d.1, a.1 (Takes left d.0 (max a.0 d.1)) v (one_takes d.2))

  pub alternatives_fail : (all : List G) (xs : List Value) (k : ℕ) → AlternativesCome l all [] xs k → GroupFails l (Alternatives all) xs k
  alternatives_fail all xs k c p q = let a = c p q in (a.0, subst (λ j. Does l (Alternatives all) p q xs (Fails a.0) j) (no_more_of k) (a.1 (Fails a.0) 0 all_fail))

  -- a name, a sequence of one group, and a choice of one
  pub name_does : (g : G) → DoesAs l (GroupRef g) (l.group_at g) 1
  name_does g = (λ xs left w t. ref_takes g xs left w t, λ xs w f. ref_fails g xs w f)

  pub one_in_sequence : (g : G) → DoesAs l (Sequence (g ∷ [])) (l.group_at g) 1
  one_in_sequence g = (
    λ xs left w t. sequence_done (g ∷ []) xs left (1 + w) (sequence_more (g ∷ []) [] g xs xs left 1 w (sequence_start (g ∷ []) xs) t),
    λ xs w f. sequence_fails (g ∷ []) [] g xs xs 1 w (sequence_start (g ∷ []) xs) f,
  )

  pub one_alternative : (g : G) → DoesAs l (Alternatives (g ∷ [])) (l.group_at g) 1
  one_alternative g = (
    λ xs left w t. alternatives_take (g ∷ []) [] g xs left 1 w (alternatives_start (g ∷ []) xs) t,
    λ xs w f. alternatives_fail (g ∷ []) xs (1 + w) (alternatives_no (g ∷ []) [] g xs 1 w (alternatives_start (g ∷ []) xs) f),
  )

  -- a group that does what another does, which does what a third one does
  pub does_on : (f g h : Group N G) (k n : ℕ) → DoesAs l f g k → DoesAs l g h n → DoesAs l f h (k + n)
  does_on f g h k n a b = (
    λ xs left w t. subst (λ j. GroupTakes l f xs left j) (more k n w) (a.0 xs left (n + w) (b.0 xs left w t)),
    λ xs w t. subst (λ j. GroupFails l f xs j) (more k n w) (a.1 xs (n + w) (b.1 xs w t)),
  )

  pub does_itself : (f : Group N G) → DoesAs l f f 0
  does_itself f = (λ xs left w t. subst (λ j. GroupTakes l f xs left j) (none_up w) t, λ xs w t. subst (λ j. GroupFails l f xs j) (none_up w) t)

  pub rounds_start : (least : ℕ) (most : Most) (g : G) (xs : List Value) → RoundsCome l (Repeat least most g) least most g xs xs 1
  rounds_start least most g xs p q = (q, p, λ r w d. does_up (Repeat least most g) p q xs r w (repeat d))

  pub rounds_more : (f : Group N G) (least : ℕ) (most : Most) (g : G) (xs mid left : List Value) (k v : ℕ) → is_over most ≡ false → length left ≢ length mid → RoundsCome l f least most g xs mid k → GroupTakes l (l.group_at g) mid left v → RoundsCome l f (least - 1) (one_less most) g xs left (k + v)
  rounds_more f least most g xs mid left k v may some c t p q =
      let a = c p q in
      let d = t p a.0 in
      (d.0, max a.1 d.1, λ r w e. subst (λ j. Does l f p q xs r j) (more k v w) (a.2 r (v + w) (round may d.2 some e)))

  pub rounds_full : (f : Group N G) (least : ℕ) (most : Most) (g : G) (xs mid : List Value) (k : ℕ) → is_over most ≡ true → RoundsCome l f least most g xs mid k → GroupTakes l f xs mid k
  rounds_full f least most g xs mid k is c p q = let a = c p q in (a.0, a.1, subst (λ j. Does l f p q xs (Takes mid a.0 a.1) j) (no_more_of k) (a.2 (Takes mid a.0 a.1) 0 (full is)))

  pub rounds_empty : (f : Group N G) (least : ℕ) (most : Most) (g : G) (xs mid left : List Value) (k v : ℕ) → is_over most ≡ false → length left ≡ length mid → RoundsCome l f least most g xs mid k → GroupTakes l (l.group_at g) mid left v → GroupTakes l f xs mid (k + v)
  rounds_empty f least most g xs mid left k v may none c t p q =
      let a = c p q in
      let d = t p a.0 in
      (a.0, max a.1 d.1, a.2 (Takes mid a.0 (max a.1 d.1)) v (empty_round may d.2 none))

  pub rounds_end : (f : Group N G) (least : ℕ) (most : Most) (g : G) (xs mid : List Value) (k v : ℕ) → least ≡ 0 → is_over most ≡ false → RoundsCome l f least most g xs mid k → GroupFails l (l.group_at g) mid v → GroupTakes l f xs mid (k + v)
  rounds_end f zero most g xs mid k v none may c b p q =
      let a = c p q in
      let d = b p a.0 in
      (a.0, max a.1 d.0, a.2 (Takes mid a.0 (max a.1 d.0)) v (enough may d.1))
  rounds_end f (suc least) most g xs mid k v none may c b p q = absurd (omega (arith, none))

  pub rounds_fail : (f : Group N G) (least : ℕ) (most : Most) (g : G) (xs mid : List Value) (k v : ℕ) → (least ≡ 0 → ⊥) → is_over most ≡ false → RoundsCome l f least most g xs mid k → GroupFails l (l.group_at g) mid v → GroupFails l f xs (k + v)
  rounds_fail f zero most g xs mid k v some may c b p q = absurd (some refl)
  rounds_fail f (suc least) most g xs mid k v some may c b p q =
      let a = c p q in
      let d = b p a.0 in
      (max a.1 d.0, a.2 (Fails (max a.1 d.0)) v (too_few may d.1))

  -- pairs

  pub entries_start : (es : List (MapEntry N)) (key held : Value) → EntriesCome l es es key held 0
  entries_start es key held q f w d = subst (λ j. Belongs l es q key held f j) (none_up w) d

  pub entry_passed : (all es : List (MapEntry N)) (e : MapEntry N) (key held : Value) (k : ℕ) → is_passed_over l.counting e.key_type key ≡ true → EntriesCome l all (e ∷ es) key held k → EntriesCome l all es key held k
  entry_passed all es e key held k is c q f w d = c q f w (passed_over is d)

  pub entry_other : (all es : List (MapEntry N)) (e : MapEntry N) (key held : Value) (k v : ℕ) → is_passed_over l.counting e.key_type key ≡ false → FormSays l (l.type_at e.key_type) key false v → EntriesCome l all (e ∷ es) key held k → EntriesCome l all es key held (k + (entry_cost l.counting + v))
  entry_other all es e key held k v is n c q f w d =
      let cost : ℕ = entry_cost l.counting in
      let same : k + (cost + (v + w)) ≡ (k + (cost + v)) + w = omega arith in
      subst (λ j. Belongs l all q key held f j) same (c q f (cost + (v + w)) (asked is (other_key (n q).1 d)))

  pub entry_hands_on : (all es : List (MapEntry N)) (e : MapEntry N) (key held : Value) (k u v : ℕ) → is_passed_over l.counting e.key_type key ≡ false → e.cuts ≡ false → FormSays l (l.type_at e.key_type) key true u → FormSays l (l.type_at e.value_type) held false v → EntriesCome l all (e ∷ es) key held k → EntriesCome l all es key held (k + (entry_cost l.counting + (u + v)))
  entry_hands_on all es e key held k u v is cuts y n c q f w d =
      let cost : ℕ = entry_cost l.counting in
      let same : k + (cost + (u + (v + w))) ≡ (k + (cost + (u + v))) + w = omega arith in
      subst (λ j. Belongs l all q key held f j) same (c q f (cost + (u + (v + w))) (asked is (handed_on cuts (y q) (n (q + place_count key)).1 d)))

  pub pair_taken : (all es : List (MapEntry N)) (e : MapEntry N) (key held : Value) (k u v : ℕ) → is_passed_over l.counting e.key_type key ≡ false → FormSays l (l.type_at e.key_type) key true u → FormSays l (l.type_at e.value_type) held true v → EntriesCome l all (e ∷ es) key held k → PairTaken l all key held (length es) (k + (entry_cost l.counting + (u + v)))
  pair_taken all es e key held k u v is y z c q = c q (BelongsTo (length es) Yes) (entry_cost l.counting + (u + v)) (asked is (here (y q) (z (q + place_count key))))

  pub pair_cut : (all es : List (MapEntry N)) (e : MapEntry N) (key held : Value) (k u v : ℕ) → is_passed_over l.counting e.key_type key ≡ false → e.cuts ≡ true → FormSays l (l.type_at e.key_type) key true u → FormSays l (l.type_at e.value_type) held false v → EntriesCome l all (e ∷ es) key held k → PairFails l all key held (k + (entry_cost l.counting + (u + v)))
  pair_cut all es e key held k u v is cuts y n c q =
      let z = n (q + place_count key) in
      (BelongsTo (length es) (No z.0), refl, c q (BelongsTo (length es) (No z.0)) (entry_cost l.counting + (u + v)) (asked is (cut_here cuts (y q) z.1)))

  pub pair_stray : (all : List (MapEntry N)) (key held : Value) (k : ℕ) → EntriesCome l all [] key held k → PairFails l all key held k
  pair_stray all key held k c q = (Stray q, refl, subst (λ j. Belongs l all q key held (Stray q) j) (no_more_of k) (c q (Stray q) 0 nowhere))

-- fates, one after the other

fallen_after : (fs : List Fate) (f : Fate) → is_fallen fs ≡ true → is_fallen (fs ++ f ∷ []) ≡ true
fallen_after [] f e = let never : false ≡ true = e in absurd (cc)
fallen_after (BelongsTo n Yes ∷ fs) f e = fallen_after fs f e
fallen_after (BelongsTo n (No far) ∷ fs) f e = refl
fallen_after (Stray q ∷ fs) f e = refl

fallen_with : (fs : List Fate) (f : Fate) → is_fallen (f ∷ []) ≡ true → is_fallen (fs ++ f ∷ []) ≡ true
fallen_with [] f e = e
fallen_with (BelongsTo n Yes ∷ fs) f e = fallen_with fs f e
fallen_with (BelongsTo n (No far) ∷ fs) f e = refl
fallen_with (Stray q ∷ fs) f e = refl

not_fallen_with : (fs : List Fate) (m : ℕ) → is_fallen fs ≡ false → is_fallen (fs ++ BelongsTo m Yes ∷ []) ≡ false
not_fallen_with [] m e = refl
not_fallen_with (BelongsTo n Yes ∷ fs) m e = not_fallen_with fs m e
not_fallen_with (BelongsTo n (No far) ∷ fs) m e = e
not_fallen_with (Stray q ∷ fs) m e = e

not_fallen : (fs : List Fate) → is_fallen fs ≡ false → (first_stray fs ≡ None) × (first_failing fs ≡ None)
not_fallen [] e = (refl, refl)
not_fallen (BelongsTo n Yes ∷ fs) e = not_fallen fs e
not_fallen (BelongsTo n (No far) ∷ fs) e = let never : true ≡ false = e in absurd (cc)
not_fallen (Stray q ∷ fs) e = let never : true ≡ false = e in absurd (cc)

-- a no shows at one that has fallen, whatever else is said
fallen_shows : (fs : List Fate) (a : Answer) → is_fallen fs ≡ true → (far : ℕ) × (shown_by (first_stray fs) (shown_by (first_failing fs) a) ≡ No far)
fallen_shows [] a e = let never : false ≡ true = e in absurd (cc)
fallen_shows (BelongsTo n Yes ∷ fs) a e = fallen_shows fs a e
fallen_shows (BelongsTo n (No far) ∷ fs) a e = by (first_stray fs)
  where
    by : (o : Option ℕ) → (q : ℕ) × (shown_by o (No far) ≡ No q)
    by None = (far, refl)
    by (Some q) = (q, refl)
fallen_shows (Stray q ∷ fs) a e = (q, refl)

-- how many belong to an entry

abbrev plus_one : Bool → ℕ → ℕ
plus_one b k = cond b (suc k) k

plus_ones : (b c : Bool) (k : ℕ) → plus_one b (plus_one c k) ≡ plus_one c (plus_one b k)
plus_ones true true k = refl
plus_ones true false k = refl
plus_ones false true k = refl
plus_ones false false k = refl

counted_with : (fs : List Fate) (m n : ℕ) → count_of n (fs ++ BelongsTo m Yes ∷ []) ≡ plus_one (nat_eq m n) (count_of n fs)
counted_with [] m n = refl
counted_with (BelongsTo j a ∷ fs) m n = ap (plus_one (nat_eq j n)) (counted_with fs m n) ∙ plus_ones (nat_eq j n) (nat_eq m n) (count_of n fs)
counted_with (Stray q ∷ fs) m n = counted_with fs m n

new_count : (fs : List Fate) (after number entries : ℕ) (counts : List ℕ) → number + suc after ≡ entries → number < length counts → ((n i : ℕ) → i + suc n ≡ entries → count_of n fs ≡ get_or counts i 0) → (n i : ℕ) → i + suc n ≡ entries → count_of n (fs ++ BelongsTo after Yes ∷ []) ≡ get_or (set counts number (get_or counts number 0 + 1)) i 0
new_count fs after number entries counts at inside h n i e = counted_with fs after n ∙ by (nat_eq after n) refl
  where
    more_of : ℕ
    more_of = get_or counts number 0 + 1

    one : (k : ℕ) → suc k ≡ k + 1
    one k = omega arith

    same : nat_eq after n ≡ true → i ≡ number
    same f = let is : after ≡ n = grind (arith, nat_tests) in omega (arith, is, e, at)

    other : nat_eq after n ≡ false → i ≡ number → ⊥
    other f is = let not_same : after ≢ n = (λ g. absurd (differ after n f g)) in not_same (omega (arith, is, e, at))
      where
        differ : (a b : ℕ) → nat_eq a b ≡ false → a ≡ b → ⊥
        differ a b f g = grind (arith, nat_tests)

    by : (b : Bool) → nat_eq after n ≡ b → plus_one b (count_of n fs) ≡ get_or (set counts number more_of) i 0
    by true f =
        let is : i ≡ number = same f in
        ap suc (h n i e) ∙ (ap (λ k. suc (get_or counts k 0)) is ∙ (one (get_or counts number 0) ∙ (sym (get_or-set_same counts number more_of 0 inside) ∙ ap (λ k. get_or (set counts number more_of) k 0) (sym is))))
    by false f = h n i e ∙ sym (get_or-set_other counts number i more_of 0 (other f))

enough_by_counts : {N : Type 0} (es : List (MapEntry N)) (number entries : ℕ) (fs : List Fate) (counts : List ℕ) → number + length es ≡ entries → ((n i : ℕ) → i + suc n ≡ entries → count_of n fs ≡ get_or counts i 0) → are_enough es fs ≡ are_enough_from es number counts
enough_by_counts [] number entries fs counts e h = refl
enough_by_counts (a ∷ es) number entries fs counts e h = ap₂ (λ (k : ℕ) (b : Bool). (nat_le a.least k && is_up_to_most k a.most) && b) (h (length es) number e) (enough_by_counts es (suc number) entries fs counts (omega (arith, e)) h)

either_answer : (a b : Answer) (s t : Bool) → IsAnswer a s → IsAnswer b t → IsAnswer (either a b) (s || t)
either_answer a b true t h g = ap (λ c. either c b) h
either_answer a b false true h g = ap₂ either h.1 g
either_answer a b false false h g = (max h.0 g.0, ap₂ either h.1 g.1)

module _ {N G : Type 0} (l : Language N G) where
  pub pairs_start : (es : List (MapEntry N)) (ps : Pairs) (counts : List ℕ) → ((n : ℕ) → get_or counts n 0 ≡ 0) → PairsCome l es ps ps counts false 0
  pairs_start es ps counts none q = (q, [], (refl, λ n i e. sym (none i)), λ gs w d. subst (λ j. Sorts l es q ps gs j) (none_up w) d)

  -- one pair more, whatever becomes of it
  pair_comes : (es : List (MapEntry N)) (q k v w next : ℕ) (all ps : Pairs) (key held : Value) (fs gs : List Fate) (f : Fate) → ((hs : List Fate) (u : ℕ) → Sorts l es next (pair key held ps) hs u → Sorts l es q all (fs ++ hs) (k + u)) → Belongs l es next key held f v → Sorts l es (next + place_count key + place_count held) ps gs w → Sorts l es q all ((fs ++ f ∷ []) ++ gs) ((k + (pair_cost l.counting (length es) + v)) + w)
  pair_comes es q k v w next all ps key held fs gs f c b d =
      let cost : ℕ = pair_cost l.counting (length es) in
      subst (λ hs. Sorts l es q all hs ((k + (cost + v)) + w)) (sym (append_assoc fs (f ∷ []) gs)) (subst (λ j. Sorts l es q all (fs ++ (f ∷ gs)) j) (more k (cost + v) w) (c (f ∷ gs) ((cost + v) + w) (sort b d)))

  pub pair_counted : (es : List (MapEntry N)) (all ps : Pairs) (key held : Value) (counts : List ℕ) (m number k v : ℕ) → number + suc m ≡ length es → number < length counts → PairsCome l es all (pair key held ps) counts false k → PairTaken l es key held m v → PairsCome l es all ps (set counts number (get_or counts number 0 + 1)) false (k + (pair_cost l.counting (length es) + v))
  pair_counted es all ps key held counts m number k v at inside c t q =
      let a = c q in
      let f : Fate = BelongsTo m Yes in (
        a.0 + place_count key + place_count held,
        a.1 ++ f ∷ [],
        (not_fallen_with a.1 m a.2.0, new_count a.1 m number (length es) counts at inside a.2.1),
        λ gs w d. pair_comes es q k v w a.0 all ps key held a.1 gs f a.3 (t a.0) d,
      )

  pub pair_beside : (es : List (MapEntry N)) (all ps : Pairs) (key held : Value) (counts : List ℕ) (m k v : ℕ) → PairsCome l es all (pair key held ps) counts true k → PairTaken l es key held m v → PairsCome l es all ps counts true (k + (pair_cost l.counting (length es) + v))
  pair_beside es all ps key held counts m k v c t q =
      let a = c q in
      let f : Fate = BelongsTo m Yes in
      (a.0 + place_count key + place_count held, a.1 ++ f ∷ [], fallen_after a.1 f a.2, λ gs w d. pair_comes es q k v w a.0 all ps key held a.1 gs f a.3 (t a.0) d)

  pub pair_falls : (es : List (MapEntry N)) (all ps : Pairs) (key held : Value) (counts : List ℕ) (fallen : Bool) (k v : ℕ) → PairsCome l es all (pair key held ps) counts fallen k → PairFails l es key held v → PairsCome l es all ps counts true (k + (pair_cost l.counting (length es) + v))
  pair_falls es all ps key held counts fallen k v c t q =
      let a = c q in
      let b = t a.0 in
      (a.0 + place_count key + place_count held, a.1 ++ b.0 ∷ [], fallen_with a.1 b.0 b.1, λ gs w d. pair_comes es q k v w a.0 all ps key held a.1 gs b.0 a.3 b.2 d)

  all_of_them : (es : List (MapEntry N)) (q k : ℕ) (ps : Pairs) (fs : List Fate) → Sorts l es q ps (fs ++ []) (k + 0) → Sorts l es q ps fs k
  all_of_them es q k ps fs d = subst (λ gs. Sorts l es q ps gs k) (append-nil fs) (subst (λ j. Sorts l es q ps (fs ++ []) j) (no_more_of k) d)

  pub pairs_done : (es : List (MapEntry N)) (ps : Pairs) (counts : List ℕ) (fallen : Bool) (k : ℕ) → PairsCome l es ps no_pairs counts fallen k → PairsSorted l es ps counts fallen k
  pairs_done es ps counts fallen k c q = let a = c q in (a.1, a.2, all_of_them es q k ps a.1 (a.3 [] 0 all_sorted))

  pub way_falls : (es : List (MapEntry N)) (ps : Pairs) (counts : List ℕ) (k : ℕ) → PairsSorted l es ps counts true k → WaySays l es ps false (1 + k)
  way_falls es ps counts k c p =
      let a = c (suc p) in
      (a.0, k, a.2, sym (one_up k), fallen_shows a.0 (by_counts p (are_enough es a.0)) a.1)

  pub way_says : (es : List (MapEntry N)) (ps : Pairs) (counts : List ℕ) (told : Bool) (k : ℕ) → are_enough_from es 0 counts ≡ told → PairsSorted l es ps counts false k → WaySays l es ps told (1 + k)
  way_says es ps counts told k is c p =
      let a = c (suc p) in
      (a.0, k, a.2, sym (one_up k), by told (enough_by_counts es 0 (length es) a.0 counts (omega arith) a.1.1 ∙ is) (not_fallen a.0 a.1.0))
    where
      fates : List Fate
      fates = (c (suc p)).0

      said : (b : Bool) → are_enough es fates ≡ b → (first_stray fates ≡ None) × (first_failing fates ≡ None) → alternative_says es p fates ≡ by_counts p b
      said b e none = ap (λ o. shown_by o (shown_by (first_failing fates) (by_counts p (are_enough es fates)))) none.0 ∙ (ap (λ o. shown_by o (by_counts p (are_enough es fates))) none.1 ∙ ap (by_counts p) e)

      by : (b : Bool) → are_enough es fates ≡ b → (first_stray fates ≡ None) × (first_failing fates ≡ None) → IsAnswer (alternative_says es p fates) b
      by true e none = said true e none
      by false e none = (p, said false e none)

  pub map_start : (all : List (List (MapEntry N))) (ps : Pairs) → MapComes l all all ps false 1
  map_start all ps x is p = (No p, (p, refl), λ a w d. says_up l (MapOf all) p x a w (map is d))

  pub map_more : (all ways : List (List (MapEntry N))) (es : List (MapEntry N)) (ps : Pairs) (says one : Bool) (k v : ℕ) → MapComes l all (es ∷ ways) ps says k → WaySays l es ps one v → MapComes l all ways ps (says || one) (k + v)
  map_more all ways es ps says one k v c h x is p =
      let a = c x is p in
      let b = h p in
      let said : Answer = alternative_says es p b.0 in (
        either a.0 said,
        either_answer a.0 said says one a.1 b.4,
        λ r w d.
            let same : k + (suc b.1 + w) ≡ (k + v) + w = omega (arith, b.3) in
            subst (λ j. Says l (MapOf all) p x r j) same (a.2 r (suc b.1 + w) (alternative b.2 d)),
      )

  pub map_done : (all : List (List (MapEntry N))) (x : Value) (ps : Pairs) (says : Bool) (k : ℕ) → pairs_in x ≡ Some ps → MapComes l all [] ps says k → FormSays l (MapOf all) x says k
  map_done all x ps true k is c = λ p.
      let a = c x is p in
      subst (λ r. Says l (MapOf all) p x r k) a.1 (subst (λ j. Says l (MapOf all) p x a.0 j) (no_more_of k) (a.2 a.0 0 no_alternative))
  map_done all x ps false k is c = λ p.
      let a = c x is p in
      (a.1.0, subst (λ r. Says l (MapOf all) p x r k) a.1.1 (subst (λ j. Says l (MapOf all) p x a.0 j) (no_more_of k) (a.2 a.0 0 no_alternative)))
