-- Entries that lack a key, and groups that occur badly.
use Rattle.std.proofs.Common.{◌≡◌, ◌↔◌, ℕ, zero, suc, List, [], Option, Some, None, refl, sym, ap, ◌∙◌, slice_get}
use Rattle.lists.proofs.Lemmas.{no_some}
use Rattle.cddl_meaning.specs.Alike as A
use Rattle.cddl_language.specs.Terms.{Text, Entry, typed, keyed, grouped, Definition, occurrence_of}
use Rattle.cddl_language.specs.Kinds as K
use Rattle.cddl_language.specs.Kinds.{part_of}
use Rattle.cddl_language.specs.MapFaults.{group_of_part, LacksKey, asks, OccursBadly, never, with_these}
use Rattle.cddl_language.specs.Reach.{entry_points}
use Rattle.check_terms.specs.Table.{Table}
use Rattle.check_terms.specs.Trees.{IsEntry, entry_tree}
use Rattle.check_instances.specs.Closed.Closed.{AreReached}
use Rattle.alternatives.specs.declared.Part as P
use Rattle.alternatives.specs.declared.Part.TheVariants as PartV
use Rattle.alternatives.specs.Splices as S
use Rattle.alternatives.specs.Summaries as Y
use Rattle.check_groups.specs.Splices.Parts.{IsPartOfEntry, of_type, of_named, of_keyed, of_grouped, AreParts}
use Rattle.check_maps.proofs.OfMapFaults.Parts.{OccurAlike, StandAlike, group_named, group_there, part_there, same_part}

-- what may not occur so even with no alternatives may never occur so
never_so : (least : ℕ) (most : Option ℕ) → S.occurring least most [] ≡ None → (mss : S.Alternatives) → S.occurring least most mss ≡ None
never_so zero (Some zero) e mss = refl
never_so zero (Some (suc zero)) e mss = absurd (no_some (sym e))
never_so zero (Some (suc (suc k))) e mss = refl
never_so zero None e mss = absurd (no_some (sym e))
never_so (suc zero) (Some zero) e mss = refl
never_so (suc zero) (Some (suc zero)) e mss = absurd (no_some (sym e))
never_so (suc zero) (Some (suc (suc k))) e mss = refl
never_so (suc zero) None e mss = absurd (no_some (sym e))
never_so (suc (suc k)) most e mss = refl

module _ (xs : List Definition) (root : Text) (t : Table) (parts : List P.Part) (are : AreParts xs root t parts) where
  -- An entry without a key that asks a type.

  no_group_asks : (p : K.Part) → group_of_part xs p ≡ None → p ≡ K.asks_type
  no_group_asks K.asks_type e = refl
  no_group_asks (K.names_group r) e = absurd (no_some (sym e))
  no_group_asks (K.opens r g) e = absurd (no_some (sym e))

  refused_lacks : (e : Entry) (p : P.Part) → IsPartOfEntry xs root t e p → (p ≡ PartV.Refused) ↔ LacksKey xs e
  refused_lacks (typed o x) _ (of_type k) = ((λ i. asks (no_group_asks (part_of xs x) k)), (λ l. refl))
  refused_lacks (typed o x) _ (of_named h k i) = ((λ j. cc), (λ l. absurd (no_some (asks_none l ∙ k))))
    where
      asks_none : LacksKey xs (typed o x) → None ≡ group_of_part xs (part_of xs x)
      asks_none (asks j) = sym (ap (group_of_part xs) j)
  refused_lacks (keyed o q x) _ (of_keyed h) = ((λ j. cc), (λ l. elim l [ ]))
  refused_lacks (grouped o g) _ (of_grouped h i) = ((λ j. cc), (λ l. elim l [ ]))

  pub lacks_key : (n : ℕ) (e : Entry) → IsEntry t n e → AreReached xs root (entry_points e) → (slice_get parts n ≡ Some PartV.Refused) ↔ LacksKey xs e
  lacks_key n e h r =
      let c = part_there xs root t parts are n (entry_tree e) h in
      let k = refused_lacks e c.0 ((are.each n c.0 c.1).entry e h r) in
      ((λ i. k.0 (same_part xs root t parts are n c.0 PartV.Refused c.1 i)), (λ l. c.1 ∙ ap Some (k.1 l)))

  module _ (same : StandAlike xs root t parts) (alike : OccurAlike t) where
    occurs_so : (n : ℕ) (e : Entry) → IsEntry t n e → AreReached xs root (entry_points e) → Y.OccursBadly parts n → OccursBadly xs e
    occurs_so n e h r (Y.never b a i f) =
        let k = group_named xs root t parts are n e h r b a i in
        never k.1 ((alike (occurrence_of e) b k.2 [] [] A.none).1 (f []))
    occurs_so n e h r (Y.not_so b a nss i s g) =
        let k = group_named xs root t parts are n e h r b a i in
        let m = same.group_only a k.0 k.3 nss s in
        with_these k.1 m.1 ((alike (occurrence_of e) b k.2 m.0 nss m.2).1 g)

    so_occurs : (n : ℕ) (e : Entry) → IsEntry t n e → AreReached xs root (entry_points e) → OccursBadly xs e → Y.OccursBadly parts n
    so_occurs n e h r (never {fss = fss} i f) =
        let k = group_there xs root t parts are n e h r fss i in
        Y.never k.0 k.1 k.2 (never_so (k.0).least (k.0).most ((alike (occurrence_of e) k.0 k.3 [] [] A.none).0 f))
    so_occurs n e h r (with_these {fss = fss} {mss = mss} i j f) =
        let k = group_there xs root t parts are n e h r fss i in
        let m = same.group_some k.1 fss k.4 mss j in
        Y.not_so k.0 k.1 m.0 k.2 m.1 ((alike (occurrence_of e) k.0 k.3 mss m.0 m.2).0 f)

    pub occurs_badly : (n : ℕ) (e : Entry) → IsEntry t n e → AreReached xs root (entry_points e) → Y.OccursBadly parts n ↔ OccursBadly xs e
    occurs_badly n e h r = (occurs_so n e h r, so_occurs n e h r)
