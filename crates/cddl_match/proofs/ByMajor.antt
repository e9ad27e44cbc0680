-- What forms show by the major type alone is what the moves reply.
use Rattle.std.proofs.Common.{◌≡◌, ℕ, zero, suc, ◌+◌, ◌<◌, ◌^◌, List, [], ◌∷◌, ◌≤◌, Option, None, Some, Bool, true, false, nat_eq, nat_lt, refl, sym, subst, arith}
use Rattle.std.specs.Prelude.{IfSome}
use Rattle.lists.proofs.Lemmas.{same_some}
use Rattle.cbor_data.specs.Value.{Value}
use Rattle.cddl_meaning.specs.Forms as F
use Rattle.cddl_meaning.specs.Forms.{Language, Node, major_of, members_in, pairs_in, passes, simple_in, tag_in}
use Rattle.cddl_meaning.specs.Judges.{Fails}
use Rattle.cddl_meaning.specs.Moves as M
use Rattle.cddl_meaning.specs.Moves.{Answered, OfType, test_reply}
use Rattle.table_nodes.specs.Language.{language_of, shown_of}
use Rattle.table_nodes.specs.Majors.{form_shows, maybe_shows, members_show, most_shown, shows, test_shows, types_in}
use Rattle.table_nodes.specs.declared.table.Table.{Table}
use Rattle.table_nodes.specs.declared.nodes.TypeId.{TypeId}
use Rattle.table_nodes.proofs.Lemmas.{FirstShows, a_yes, a_no, first_shows, in_language, no_array, no_less, no_map, no_simple, no_tag, once, once_no, one_less, test_told, there_shows, was_kept}
use Rattle.cddl_match.specs.Ahead.{ComesTo, AreTold, IsTold, IsTypeTold}
use Rattle.cddl_match.specs.Within.{Replied, Stopped, Says}
use Rattle.cddl_match.specs.declared.calls.Stop.TheVariants.{Spent}
use Rattle.cddl_match.proofs.Outcomes.{answered, few, says_on}
use Rattle.cddl_match.proofs.Ways.{answers, by_test, itself, no_member, not_this_member, stays, this_member, told_behind}

module _ {N G : Type 0} (l : Language N G) where
  -- what is said of an item in so many steps, or the steps are spent
  pub told_on : {n : N} (p : ℕ) (x : Value) (says : Bool) (cost steps left : ℕ) → IsTypeTold l n x says cost → p < 2 ^ 64 → cost + left ≡ steps → Says l (OfType n p x) steps left (Replied (test_reply p x says))
  told_on p x says cost steps left a h i = says_on l steps left left (Replied (test_reply p x says)) (a p h) i (answered l left (test_reply p x says))

  -- what is kept, if it may be told
  pub kept_told : {n : N} (x : Value) (says : Bool) (cost most : ℕ) (o : Option (Bool × ℕ)) → IfSome o (λ it. (it.0 ≡ says) × (it.1 ≡ cost) × (cost ≤ most)) → IsTypeTold l n x says cost → IfSome o (λ it. IsTypeTold l n x it.0 it.1)
  kept_told x says cost most None h told = tt
  kept_told {n = n} x says cost most (Some it) h told = subst (λ b. IsTypeTold l n x b it.1) (sym h.0) (subst (λ k. IsTypeTold l n x says k) (sym h.1) told)

  pub told_few : {n : N} (p : ℕ) (x : Value) (says : Bool) (cost steps left : ℕ) → IsTypeTold l n x says cost → p < 2 ^ 64 → steps < cost → Says l (OfType n p x) steps left (Stopped Spent)
  told_few p x says cost steps left a h b = few l steps left (a p h) b

module _ {N G : Type 0} (l : Language N G) (x : Value) where
  -- types reply what is shown of them
  abbrev Reply : (N → Option (Bool × ℕ)) → Type 0
  Reply shown = (n : N) (t : Bool × ℕ) → shown n ≡ Some t → IsTypeTold l n x t.0 t.1

  members_told : (shown : N → Option (Bool × ℕ)) → Reply shown → (ns : List N) (t : Bool × ℕ) → members_show shown ns ≡ Some t → AreTold l ns x t.0 t.1
  members_told shown reply [] t e = subst (λ t. AreTold l [] x t.0 t.1) (same_some e) (no_member l x)
  members_told shown reply (n ∷ ns) t e = by (λ s j. members_told shown reply ns s j) (first_shows shown n ns t e)
    where
      by : {t : Bool × ℕ} → ((s : Bool × ℕ) → members_show shown ns ≡ Some s → AreTold l ns x s.0 s.1) → FirstShows shown n ns t → AreTold l (n ∷ ns) x t.0 t.1
      by others (a_yes {v = v} i) = this_member l (reply n (true, v) i)
      by others (a_no {v = v} {t = s} i j) = not_this_member l s.0 (reply n (false, v) i) (others s j) refl

  -- a form, in so many questions after the first
  abbrev FormReplies : Node N G → Bool × ℕ → Type 0
  FormReplies f t = (k : ℕ) × (t.1 ≡ suc k) × IsTold l f x t.0 k

  form_told : (shown : N → Option (Bool × ℕ)) → Reply shown → (f : Node N G) (t : Bool × ℕ) → form_shows shown f (major_of x) ≡ Some t → FormReplies f t
  form_told shown reply f t e = by f e
    where
      made : (f : Node N G) (s : Bool × ℕ) → s ≡ t → FormReplies f s → FormReplies f t
      made f s i d = subst (FormReplies f) i d

      by : (f : Node N G) → form_shows shown f (major_of x) ≡ Some t → FormReplies f t
      by (F.Plain r) e = let h = once (test_shows r (major_of x)) t e in made (F.Plain r) (h.0, 1) h.2 (0, refl, subst (λ b. IsTold l (F.Plain r) x b 0) (test_told r x h.0 h.1) (by_test l r x))
      by (F.Ref n) e = let h = one_less (shown n) t e in made (F.Ref n) (h.0.0, suc h.0.1) h.2 (h.0.1, refl, λ p b. answers l M.InRef (reply n h.0 h.1 p b))
      by (F.Choice ns) e = let h = one_less (members_show shown ns) t e in made (F.Choice ns) (h.0.0, suc h.0.1) h.2 (h.0.1, refl, members_told shown reply ns h.0 h.1)
      by (F.ArrayOf g) e = let h = once_no (nat_eq (major_of x) 4) t e in made (F.ArrayOf g) (false, 1) h.1 (0, refl, λ p b. subst (λ o. ComesTo l (M.array_move g p o) (Answered (Fails p)) 0) (sym (no_array x h.0)) (stays l (Answered (Fails p))))
      by (F.TagOf r n) e = let h = once_no (nat_eq (major_of x) 6) t e in made (F.TagOf r n) (false, 1) h.1 (0, refl, λ p b. subst (λ o. ComesTo l (M.tag_move r n p o) (Answered (Fails p)) 0) (sym (no_tag x h.0)) (stays l (Answered (Fails p))))
      by (F.SimpleBy n) e = let h = once_no (nat_eq (major_of x) 7) t e in made (F.SimpleBy n) (false, 1) h.1 (0, refl, λ p b. subst (λ o. ComesTo l (M.simple_move n p o) (Answered (Fails p)) 0) (sym (no_simple x h.0)) (stays l (Answered (Fails p))))
      by (F.MapOf ess) e = let h = once_no (nat_eq (major_of x) 5) t e in made (F.MapOf ess) (false, 1) h.1 (0, refl, λ p b. subst (λ o. ComesTo l (M.map_move ess p o) (Answered (Fails p)) 0) (sym (no_map x h.0)) (stays l (Answered (Fails p))))
      by (F.Both n o) e = let h = no_less (shown n) t e in made (F.Both n o) (false, suc h.0) h.2 (h.0, refl, λ p b. answers l (M.InLeft o p x) (reply n (false, h.0) h.1 p b))
      by (F.Such n r) e = let h = no_less (shown n) t e in made (F.Such n r) (false, suc h.0) h.2 (h.0, refl, λ p b. answers l (M.InSuch r p x) (reply n (false, h.0) h.1 p b))
      by (F.Holding n c o) e = let h = no_less (shown n) t e in made (F.Holding n c o) (false, suc h.0) h.2 (h.0, refl, λ p b. answers l (M.InHolder c o p x) (reply n (false, h.0) h.1 p b))

  pub shown_told : (types : N → Option (Node N G)) → ((n : N) (f : Node N G) → types n ≡ Some f → l.type_at n ≡ f) → (k : ℕ) → Reply (λ n. shows types k n (major_of x))
  unfolding shows
  shown_told types is zero n t e = absurd (cc)
  shown_told types is (suc k) n t e =
      let h = there_shows (λ o. shows types k o (major_of x)) (types n) (major_of x) (was_kept (nat_lt (major_of x) 8) (maybe_shows (λ o. shows types k o (major_of x)) (types n) (major_of x)) e) in
      let f = form_told (λ o. shows types k o (major_of x)) (shown_told types is k) h.0 t h.2 in
      told_behind l x t.0 {j = 0} {k = f.0} (λ p y b. itself l (OfType n p y)) (is n h.0 h.1) f.2 (omega (arith, f.1))

-- So it is of what a table keeps.
pub table_tells : (table : Table) (n : TypeId) (x : Value) (m : ℕ) → m ≡ major_of x → (t : Bool × ℕ) → shown_of table n m ≡ Some t → IsTypeTold (language_of table) n x t.0 t.1
table_tells table n x m i t e = shown_told (language_of table) x (types_in table.types.items) (λ n f h. in_language table.types.items table.groups.items n f h) most_shown n t (subst (λ m. shown_of table n m ≡ Some t) i e)
