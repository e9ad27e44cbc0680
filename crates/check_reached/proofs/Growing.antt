-- What was found, and what was asked, stays when the table grows.
use Rattle.std.proofs.Common.{ℕ, List, Option, Some}
use Rattle.tree_nodes.specs.Syntax.Syntax as S
use Rattle.cddl_language.specs.Reading.{group_of, operation, parameters_in, ref_of, term_of2}
use Rattle.cddl_language.specs.Substitution.{bodies, fill, fill_group, fill_ref}
use Rattle.cddl_language.specs.Terms as L
use Rattle.cddl_language.specs.Terms.{Ref, Term, Text, arguments_of}
use Rattle.cddl_language.specs.MapFaults.{closed_entry}
use Rattle.check_terms.specs.declared.definition.Body.{Body}
use Rattle.check_terms.specs.Definitions.{IsBody}
use Rattle.check_terms.specs.Table.{Grows, Holds, Table, Tree}
use Rattle.check_reached.specs.Reached.{AreReachedWords}
use Rattle.check_reading.specs.Words.{IsSaid, Said}
use Rattle.check_reading.specs.declared.words.word.Word.{Word}
use Rattle.check_terms.specs.Trees.{entry_tree, group_tree, ref_tree, term_tree}
use Rattle.check_instances.specs.declared.found.Instance.{Instance}
use Rattle.check_instances.specs.Bodies.{AreBodies, no_bodies, further_body}
use Rattle.check_instances.specs.Found.{AreFound, none_found, further_found}
use Rattle.check_reached.specs.Asked.{AreAsked, AreEntriesAsked, IsAsked, IsEntryAsked, WasAsked, choosing, choosing_by_name, computation, controller, first_end, last_end, left_operand, members_controller, of_map, of_map_entry, of_rule_entry}
use Rattle.check_reached.specs.declared.asked.Asked.{Asked}
use Rattle.check_reading.specs.declared.parts.part.Question.{Question}

module _ (old new : Table) (trees : (n : Option ℕ) (x : Tree) → Holds old n x → Holds new n x) (body : (b : Body) (x : L.Body) → IsBody old b x → IsBody new b x) where
  bodies_kept : (bs : List Body) (xs : List L.Body) → AreBodies old bs xs → AreBodies new bs xs
  bodies_kept bs xs no_bodies = no_bodies
  bodies_kept bs xs (further_body {b = b} {x = x} {bs = cs} {xs = ys} h hs) = further_body (body b x h) (bodies_kept cs ys hs)

  pub found_kept : (xs : List L.Definition) (found : List Instance) (refs : List Ref) → AreFound xs old found refs → AreFound xs new found refs
  found_kept xs found refs none_found = none_found
  found_kept xs found refs (further_found {i = i} {r = r} {is = js} {rs = rs} h hs) = further_found (record { ref = trees (Some i.call) (ref_tree r) h.ref; means = bodies_kept i.bodies.items (bodies xs r) h.means }) (found_kept xs js rs hs)

module _ (old new : Table) (trees : (n : Option ℕ) (x : Tree) → Holds old n x → Holds new n x) (rs : List S.Rule) (root : Text) where
  one_kept : (a : Asked) → IsAsked rs root old a → IsAsked rs root new a
  one_kept a (choosing {r = r} {xs = xs} {u = u} {g = g} h is e q) = choosing {r = r} {xs = xs} {u = u} {g = g} h (trees (Some a.row) (group_tree (fill_group (parameters_in r) xs (group_of g))) is) e q
  one_kept a (choosing_by_name {r = r} {xs = xs} {u = u} {f = f} h is e q) = choosing_by_name {r = r} {xs = xs} {u = u} {f = f} h (trees (Some a.row) (ref_tree (fill_ref (parameters_in r) xs (ref_of f))) is) e q
  one_kept a (first_end {r = r} {xs = xs} {x = x} {y = y} {o = o} h s is e q) = first_end {r = r} {xs = xs} {x = x} {y = y} {o = o} h s (trees (Some a.row) (term_tree (fill (parameters_in r) xs (term_of2 x))) is) e q
  one_kept a (last_end {r = r} {xs = xs} {x = x} {y = y} {o = o} h s is e q) = last_end {r = r} {xs = xs} {x = x} {y = y} {o = o} h s (trees (Some a.row) (term_tree (fill (parameters_in r) xs (term_of2 y))) is) e q
  one_kept a (controller {r = r} {xs = xs} {x = x} {y = y} {o = o} {c = c} h s is e q) = controller {r = r} {xs = xs} {x = x} {y = y} {o = o} {c = c} h s (trees (Some a.row) (term_tree (fill (parameters_in r) xs (term_of2 y))) is) e q
  one_kept a (members_controller {r = r} {xs = xs} {x = x} {y = y} {o = o} {m = m} h s is e q) = members_controller {r = r} {xs = xs} {x = x} {y = y} {o = o} {m = m} h s (trees (Some a.row) (term_tree (fill (parameters_in r) xs (term_of2 y))) is) e q
  one_kept a (left_operand {r = r} {xs = xs} {x = x} {y = y} {o = o} {c = c} h s is e q) = left_operand {r = r} {xs = xs} {x = x} {y = y} {o = o} {c = c} h s (trees (Some a.row) (term_tree (fill (parameters_in r) xs (term_of2 x))) is) e q
  one_kept a (computation {r = r} {xs = xs} {x = x} {y = y} {o = o} {c = c} h s is e q) = computation {r = r} {xs = xs} {x = x} {y = y} {o = o} {c = c} h s (trees (Some a.row) (term_tree (fill (parameters_in r) xs (operation (term_of2 x) o (term_of2 y)))) is) e q
  one_kept a (of_map {r = r} {xs = xs} {u = u} {g = g} h is e q) = of_map {r = r} {xs = xs} {u = u} {g = g} h (trees (Some a.row) (group_tree (fill_group (parameters_in r) xs (group_of g))) is) e q

  answer_kept : (answers : List Asked) (at : ℕ) (q : Question) (x : Tree) → WasAsked rs root old answers at q x → WasAsked rs root new answers at q x
  answer_kept answers at q x w = record { asked = w.asked; contained = w.contained; same_at = w.same_at; same_question = w.same_question; holds = trees (Some w.asked.row) x w.holds }

  all_kept : (answers : List Asked) → AreAsked rs root old answers → AreAsked rs root new answers
  all_kept answers are = record {
    sound = λ a c. one_kept a (are.sound a c);
    groups = λ r xs u g h. answer_kept answers _ _ _ (are.groups r xs u g h);
    references = λ r xs u f h. answer_kept answers _ _ _ (are.references r xs u f h);
    first_ends = λ r xs x y o h s. answer_kept answers _ _ _ (are.first_ends r xs x y o h s);
    last_ends = λ r xs x y o h s. answer_kept answers _ _ _ (are.last_ends r xs x y o h s);
    controllers = λ r xs x y o c h s. answer_kept answers _ _ _ (are.controllers r xs x y o c h s);
    members_controllers = λ r xs x y o m h s. answer_kept answers _ _ _ (are.members_controllers r xs x y o m h s);
    left_operands = λ r xs x y o c h s. answer_kept answers _ _ _ (are.left_operands r xs x y o c h s);
    computations = λ r xs x y o c h s. answer_kept answers _ _ _ (are.computations r xs x y o c h s);
    maps = λ r xs u g h. answer_kept answers _ _ _ (are.maps r xs u g h);
  }

  entry_kept : (a : Asked) → IsEntryAsked rs root old a → IsEntryAsked rs root new a
  entry_kept a (of_map_entry {r = r} {xs = xs} {u = u} {g = g} {e = e} h c is at q) = of_map_entry {r = r} {xs = xs} {u = u} {g = g} {e = e} h c (trees (Some a.row) (entry_tree (closed_entry r xs e)) is) at q
  entry_kept a (of_rule_entry {r = r} {i = i} {h = k} {e = e} h c call is at q) = of_rule_entry {r = r} {i = i} {h = k} {e = e} h c (trees (Some a.call) (ref_tree i) call) (trees (Some a.row) (entry_tree (closed_entry r (arguments_of i) e)) is) at q

  all_entries_kept : (answers : List Asked) → AreEntriesAsked rs root old answers → AreEntriesAsked rs root new answers
  all_entries_kept answers are = record {
    sound = λ a c. entry_kept a (are.sound a c);
    maps = λ r xs u g e h c. answer_kept answers _ _ _ (are.maps r xs u g e h c);
    rules = λ r i h e is c. let w = are.rules r i h e is c in record { was = record { asked = w.was.asked; contained = w.was.contained; same_at = w.was.same_at; same_question = w.was.same_question; holds = trees (Some w.was.asked.row) (entry_tree (closed_entry r (arguments_of i) e)) w.was.holds }; call = trees (Some w.was.asked.call) (ref_tree i) w.call };
  }

pub entries_kept : (old new : Table) → ((n : Option ℕ) (x : Tree) → Holds old n x → Holds new n x) → (rs : List S.Rule) (root : Text) (answers : List Asked) → AreEntriesAsked rs root old answers → AreEntriesAsked rs root new answers
entries_kept old new trees rs root answers are = all_entries_kept old new trees rs root answers are

pub asked_kept : (old new : Table) → ((n : Option ℕ) (x : Tree) → Holds old n x → Holds new n x) → (rs : List S.Rule) (root : Text) (answers : List Asked) → AreAsked rs root old answers → AreAsked rs root new answers
asked_kept old new trees rs root answers are = all_kept old new trees rs root answers are

-- the words of sites that are reached
pub words_reached : (old new : Table) → Grows old new → (rs : List S.Rule) (root : Text) (ws : List Word) → AreReachedWords rs root old ws → AreReachedWords rs root new ws
words_reached old new grows rs root ws are = record {
  sound = λ w c. let it = are.sound w c in record {
    rule = it.rule;
    arguments = it.arguments;
    site = it.site;
    place = it.place;
    reached = it.reached;
    stands = record { rule = it.stands.rule; said = it.stands.said; there = it.stands.there; is = said_again w it.stands.said it.stands.is };
  };
  complete = λ k r xs p x e h says. let it = are.complete k r xs p x e h says in record { word = it.word; present = it.present; rule = it.rule; is = said_again it.word x it.is };
}
  where
    said_again : (w : Word) (x : Said) → IsSaid old w x → IsSaid new w x
    said_again w x h = record { at = h.at; role = h.role; text = grows.texts w.text x.text h.text; arguments = h.arguments }
