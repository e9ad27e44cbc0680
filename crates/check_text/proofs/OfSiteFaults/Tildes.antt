-- What is told of `~`.
use Rattle.std.proofs.Common.{◌≡◌, ℕ, Bool, true, false, if◌then◌else◌, List, Option, Some, None, slice_get, sym, ap, subst, ◌∙◌, true≢false}
use Rattle.tree_nodes.specs.Syntax.Syntax as S
use Rattle.tree_nodes.specs.declared.tree.Tree.{Tree}
use Rattle.tree_nodes.specs.View.{view}
use Rattle.cddl_language.specs.Reading.{rules_of}
use Rattle.cddl_language.specs.Terms.{Definition, Text, no_terms}
use Rattle.check_names.specs.Kinds.Kinds.{Sort, shape_there}
use Rattle.check_reading.specs.Survey.Survey.{defined_in}
use Rattle.check_reading.specs.Words.{IsSaid, Said}
use Rattle.check_reading.specs.declared.survey.survey.Survey.{Survey}
use Rattle.check_reading.specs.declared.words.word.Role.{Role}
use Rattle.check_reading.specs.declared.words.word.Role.TheVariants as RoleV
use Rattle.check_reading.specs.declared.words.word.Word.{Word}
use Rattle.check_terms.specs.Table.{Table}
use Rattle.lists.specs.Least.{IsLeast}
use Rattle.all_offsets.proofs.Lemmas.{IsOne}
use Rattle.check_text.specs.SiteFaults.Marks.{has_mark}
use Rattle.check_text.specs.SiteFaults.Reads.{IsRead}
use Rattle.check_text.specs.SiteFaults.Unwrapped.{IsWrongTilde, UnwrapsWrongly, is_wrong, sort_named}
use Rattle.check_text.specs.declared.site_faults.marks.Mark.{Mark}
use Rattle.check_text.proofs.OfSiteFaults.Naming.{same_parameter}
use Rattle.check_text.proofs.OfSiteFaults.Telling.{told_here, told_nowhere}

-- of other words nothing is told
nothing_there : (ds : List Definition) (r : S.Rule) (n : Text) (o : Role) → ((b : Bool) (u : ℕ) → o ≡ RoleV.Unwrapped b u → ⊥) → (p : ℕ) → UnwrapsWrongly ds r n o p → ⊥
nothing_there ds r n (RoleV.Unwrapped b u) h p k = h b u (λ i. RoleV.Unwrapped b u)
nothing_there ds r n (RoleV.Name b) h p k = k
nothing_there ds r n RoleV.ChosenFrom h p k = k
nothing_there ds r n RoleV.Hash h p k = k
nothing_there ds r n RoleV.Control h p k = k
nothing_there ds r n RoleV.Occurrence h p k = k

module _ (t : Table) (tree : Tree) (s : Survey) (ms : List Mark) (is : IsRead t tree s ms) (w : Word) (r : S.Rule) (x : Said) (place : slice_get (rules_of (view tree)) w.rule ≡ Some r) (said : IsSaid t w x) where
  sorts : (o : Option Sort) → o ≡ (if has_mark ms w.rule w.text then None else shape_there s.kinds w.text) → o ≡ sort_named (defined_in tree) r x.text
  sorts o e = e ∙ (λ i. if same_parameter t tree s ms is w.rule w.text r x.text place said.text i then None else is.survey.kinds_found.openings w.text x.text no_terms said.text i)

  of_role : (b : Bool) (u : ℕ) → w.role ≡ RoleV.Unwrapped b u → (o : Option ℕ) → IsLeast (λ at. (is_wrong b (sort_named (defined_in tree) r x.text) ≡ true) × (at ≡ u)) o → IsLeast (IsWrongTilde (defined_in tree) r x) o
  of_role b u e o h = subst (λ (y : Role). IsLeast (UnwrapsWrongly (defined_in tree) r x.text y) o) (sym e ∙ said.role) h

  pub wrong_there : (b : Bool) (u : ℕ) → w.role ≡ RoleV.Unwrapped b u → (o : Option Sort) → o ≡ (if has_mark ms w.rule w.text then None else shape_there s.kinds w.text) → is_wrong b o ≡ true → IsLeast (IsWrongTilde (defined_in tree) r x) (Some u)
  wrong_there b u role o e h = of_role b u role (Some u) (told_here (is_wrong b (sort_named (defined_in tree) r x.text) ≡ true) u (ap (is_wrong b) (sym (sorts o e)) ∙ h))

  pub right_there : (b : Bool) (u : ℕ) → w.role ≡ RoleV.Unwrapped b u → (o : Option Sort) → o ≡ (if has_mark ms w.rule w.text then None else shape_there s.kinds w.text) → is_wrong b o ≡ false → IsLeast (IsWrongTilde (defined_in tree) r x) None
  right_there b u role o e h = of_role b u role None (told_nowhere (is_wrong b (sort_named (defined_in tree) r x.text) ≡ true) u (λ q. true≢false (sym q ∙ ap (is_wrong b) (sym (sorts o e)) ∙ h)))

  pub none_there : ((b : Bool) (u : ℕ) → w.role ≡ RoleV.Unwrapped b u → ⊥) → IsLeast (IsWrongTilde (defined_in tree) r x) None
  none_there h p k = nothing_there (defined_in tree) r x.text x.role (λ b u e. h b u (said.role ∙ e)) p k

-- At one word `~` is told at one offset.
one_role : (ds : List Definition) (r : S.Rule) (n : Text) (o : Role) → IsOne (UnwrapsWrongly ds r n o)
one_role ds r n (RoleV.Unwrapped b u) p q h k = h.1 ∙ sym k.1
one_role ds r n (RoleV.Name b) p q h k = absurd h
one_role ds r n RoleV.ChosenFrom p q h k = absurd h
one_role ds r n RoleV.Hash p q h k = absurd h
one_role ds r n RoleV.Control p q h k = absurd h
one_role ds r n RoleV.Occurrence p q h k = absurd h

pub one_tilde : (ds : List Definition) (r : S.Rule) (x : Said) → IsOne (IsWrongTilde ds r x)
one_tilde ds r x p q h k = one_role ds r x.text x.role p q h k
