-- What was asked of entries, one by one, is what is to be asked.
use Rattle.std.proofs.Common.{◌≡◌, ℕ, List, [], Option, Some, None, slice_get, refl, sym, ap, subst, ◌∙◌}
use Rattle.std.specs.List.{Contains}
use Rattle.cddl_token.specs.declared.Token.{Token}
use Rattle.tree_nodes.specs.Syntax.Syntax as S
use Rattle.tree_nodes.specs.declared.tree.Leaf.{Leaf}
use Rattle.cddl_language.specs.Faults.{Specification, definitions, rules}
use Rattle.cddl_language.specs.MapFaults.{closed_entry, entry_at}
use Rattle.cddl_language.specs.Reading.{entry_of, name_in, parameters_in}
use Rattle.cddl_language.specs.Sites.{IsInstance, IsReached, a_map}
use Rattle.cddl_language.specs.StandsFor.{AreInstances}
use Rattle.cddl_language.specs.Terms.{Ref, Term, Text, arguments_of}
use Rattle.check_terms.specs.Table.{Holds, Table}
use Rattle.check_terms.specs.Trees.{IsEntry, entry_tree}
use Rattle.cddl_language.specs.Live.Live.{IsClear, IsLive}
use Rattle.check_sites.specs.declared.sites.site.Found.{Found}
use Rattle.check_sites.specs.declared.entries.entry.Holder.{Holder}
use Rattle.check_sites.specs.declared.entries.entry.Holder.TheVariants as HolderV
use Rattle.check_sites.specs.declared.entries.entry.TextEntry.{TextEntry}
use Rattle.check_sites.specs.Entries.Entries.{AreEntries, Stands, group_inside, in_map, in_opened, in_rule, view_node}
use Rattle.check_reached.specs.Calls.{refs_named}
use Rattle.check_live.specs.Live.{AreLive}
use Rattle.check_reached.specs.declared.asked.Asked.{Asked}
use Rattle.check_reading.specs.declared.parts.part.Question.TheVariants as QuestionV
use Rattle.check_reached.specs.Asked.{AreAnswers, AreEntriesAsked, IsAnswer, IsEntryAsked, WasAsked, WasAskedIn, held_inside, of_map_entry, of_rule_entry, wanted_entries, wanted_entry, wanted_in, wanted_one}
use Rattle.check_reading.specs.Parts.{Wanted, entry_wanted}
use Rattle.check_reached.proofs.Answering.{Trees, all_in, answer_of, each_in, in_all, in_each, wanted_answer}
use Rattle.check_reached.proofs.Lists.{IsIn, contained_place, contains, is_in, one_of}
use Rattle.check_reached.proofs.Reaching.{Laws, instance_of, ref_of_instance}

-- what is wanted of a part is wanted in an instance of the rule at its place
pub record IsWantedIn (refs : List Ref) (o : Option S.Rule) (w v : Wanted) : Type 0 where
  pub rule : S.Rule
  pub there : o ≡ Some rule
  pub instance : Ref
  pub among : IsIn instance (refs_named (name_in rule) refs)
  pub same : v ≡ wanted_in (parameters_in rule) w instance

wanted_there_in : (refs : List Ref) (o : Option S.Rule) (w v : Wanted) → IsIn v (wanted_one refs o w) → IsWantedIn refs o w v
wanted_there_in refs None w v h = absurd h
wanted_there_in refs (Some r) w v h = let q = in_each (parameters_in r) v w (refs_named (name_in r) refs) h in record { rule = r; there = refl; instance = q.0; among = q.1.0; same = q.1.1 }

module _ (laws : Laws) (trees : Trees) (s : Specification) (root : Text) (clear : IsClear s) (refs : List Ref) (are : AreInstances (definitions s) root refs) (read : Leaf → Token) (fs : List Found) (live : AreLive (rules s) read fs) (xs : List TextEntry) (listed : AreEntries (rules s) read fs xs) (t : Table) (answers : List Asked) (all : AreAnswers t answers (wanted_entries read (rules s) refs xs)) where
  -- the row of an answer is that of the entry with the arguments of the instance
  module _ (a : Asked) (h : Holder) (e : S.GrpEnt) (r : S.Rule) (i : Ref) (is : IsAnswer t a (wanted_in (parameters_in r) (entry_wanted h e) i)) where
    entry_row : IsEntry t a.row (closed_entry r (arguments_of i) e)
    entry_row = subst (Holds t (Some a.row)) (trees.entry (parameters_in r) (arguments_of i) (entry_of e)) is.holds

  stands_asked : (k : ℕ) (h : Holder) (e : S.GrpEnt) (r : S.Rule) (i : Ref) (a : Asked) → Stands (rules s) read fs k h e → slice_get (rules s) k ≡ Some r → IsIn i (refs_named (name_in r) refs) → IsAnswer t a (wanted_in (parameters_in r) (entry_wanted h e) i) → IsEntryAsked (rules s) root t a
  stands_asked k h e r i a (in_map {f = f} {u = u} {g = g} c is m) at among answer =
      let so = live.sound f c in
      let same = one_of (slice_get (rules s) f.rule) so.0 r so.1.0 at in
      let lives = subst (λ q. IsLive (rules s) q (a_map u g)) same (subst (IsLive (rules s) so.0) is so.1.1) in
      of_map_entry {r = r} {xs = arguments_of i} {u = u} {g = g} {e = e} (laws.reached s root clear r i (a_map u g) (instance_of laws s root clear refs are f.rule r i at among) lives) m (entry_row a HolderV.Map e r i answer) answer.at answer.question
  stands_asked k h e r i a (in_rule {r = q} is m) at among answer =
      let same = one_of (slice_get (rules s) k) q r is at in
      of_rule_entry {r = r} {i = i} {h = HolderV.Rule} {e = e} (instance_of laws s root clear refs are k r i at among) (subst (λ x. Contains (held_inside HolderV.Rule x) e) same m) answer.call (entry_row a HolderV.Rule e r i answer) answer.at answer.question
  stands_asked k h e r i a (in_opened {r = q} is m) at among answer =
      let same = one_of (slice_get (rules s) k) q r is at in
      of_rule_entry {r = r} {i = i} {h = HolderV.Opened} {e = e} (instance_of laws s root clear refs are k r i at among) (subst (λ x. Contains (held_inside HolderV.Opened x) e) same m) answer.call (entry_row a HolderV.Opened e r i answer) answer.at answer.question

  sound : (a : Asked) → IsIn a answers → IsEntryAsked (rules s) root t a
  sound a m =
      let w = answer_of t answers (wanted_entries read (rules s) refs xs) a all m in
      let x = in_all (wanted_entry read (rules s) refs) xs w.0 w.1.0 in
      let e = view_node read x.0.node in
      let v = wanted_there_in refs (slice_get (rules s) x.0.rule) (entry_wanted x.0.holder e) w.0 x.1.1 in
      stands_asked x.0.rule x.0.holder e v.rule v.instance a (listed.sound x.0 (contains xs x.0 x.1.0)) v.there v.among (subst (IsAnswer t a) v.same w.1.1)

  -- what stands in a rule is asked of in each of its instances
  module _ (k : ℕ) (h : Holder) (e : S.GrpEnt) (r : S.Rule) (i : Ref) (at : slice_get (rules s) k ≡ Some r) (among : IsIn i (refs_named (name_in r) refs)) (stands : Stands (rules s) read fs k h e) where
    answered : (a : Asked) × (IsIn a answers × IsAnswer t a (wanted_in (parameters_in r) (entry_wanted h e) i))
    answered =
        let x = listed.complete k h e stands in
        let v = wanted_in (parameters_in r) (entry_wanted h e) i in
        let one : IsIn v (wanted_one refs (Some r) (entry_wanted h e)) = each_in (parameters_in r) (entry_wanted h e) (refs_named (name_in r) refs) i among in
        let there = subst (λ o. IsIn v (wanted_one refs o (entry_wanted h e))) (sym (ap (slice_get (rules s)) x.place ∙ at)) one in
        let held = subst (λ j. IsIn v (wanted_one refs (slice_get (rules s) x.found.rule) (entry_wanted j e))) (sym x.same_holder) there in
        let entry = subst (λ d. IsIn v (wanted_one refs (slice_get (rules s) x.found.rule) (entry_wanted x.found.holder d))) (sym x.same) held in
        wanted_answer t answers (wanted_entries read (rules s) refs xs) v all (all_in (wanted_entry read (rules s) refs) xs v x.found (is_in xs x.found x.contained) entry)

    was_asked : WasAskedIn (rules s) root t answers i (entry_at e) (QuestionV.Entry h) (entry_tree (closed_entry r (arguments_of i) e))
    was_asked =
        let a = answered in
        record {
          was = record { asked = a.0; contained = contains answers a.0 a.1.0; same_at = a.1.1.at; same_question = a.1.1.question; holds = entry_row a.0 h e r i a.1.1 };
          call = a.1.1.call;
        }

  held_stands : (k : ℕ) (r : S.Rule) (h : Holder) (e : S.GrpEnt) → slice_get (rules s) k ≡ Some r → Contains (held_inside h r) e → Stands (rules s) read fs k h e
  held_stands k r HolderV.Map e at m = absurd (is_in [] e m)
  held_stands k r HolderV.Rule e at m = in_rule {k = k} {r = r} {e = e} at m
  held_stands k r HolderV.Opened e at m = in_opened {k = k} {r = r} {e = e} at m

  of_map_asked : (r : S.Rule) (ys : List Term) (u : Token) (g : S.Group) (e : S.GrpEnt) → IsReached (rules s) root r ys (a_map u g) → Contains (group_inside g) e → WasAsked (rules s) root t answers (entry_at e) (QuestionV.Entry HolderV.Map) (entry_tree (closed_entry r ys e))
  of_map_asked r ys u g e h m =
      let i = laws.instance (rules s) root r ys (a_map u g) h in
      let k = contained_place (rules s) r i.1.0.present in
      let f = live.complete k.0 r (a_map u g) k.1 (laws.live (rules s) root r ys (a_map u g) h) in
      let stands = subst (λ j. Stands (rules s) read fs j HolderV.Map e) f.1.1.0 (in_map {f = f.0} {u = u} {g = g} {e = e} f.1.0 f.1.1.1 m) in
      let w = was_asked k.0 HolderV.Map e r i.0 k.1 (ref_of_instance laws s root clear refs are r i.0 i.1.0) stands in
      subst (λ zs. WasAsked (rules s) root t answers (entry_at e) (QuestionV.Entry HolderV.Map) (entry_tree (closed_entry r zs e))) (sym i.1.1) w.was

  of_rule_asked : (r : S.Rule) (i : Ref) (h : Holder) (e : S.GrpEnt) → IsInstance (rules s) root r i → Contains (held_inside h r) e → WasAskedIn (rules s) root t answers i (entry_at e) (QuestionV.Entry h) (entry_tree (closed_entry r (arguments_of i) e))
  of_rule_asked r i h e is m =
      let k = contained_place (rules s) r is.present in
      was_asked k.0 h e r i k.1 (ref_of_instance laws s root clear refs are r i is) (held_stands k.0 r h e k.1 m)

  pub entries_are_asked : AreEntriesAsked (rules s) root t answers
  entries_are_asked = record { sound = λ a m. sound a (is_in answers a m); maps = of_map_asked; rules = of_rule_asked }
