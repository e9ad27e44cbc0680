-- Where the group stands that `~` opens: at the end of its way.
use Rattle.std.proofs.Common.{◌≡◌, false, List, [], ◌∷◌, Some, refl, sym, ap, subst, ◌∙◌, true≢false}
use Rattle.std.specs.Prelude.{Contains}
use Rattle.tree_nodes.specs.Syntax.Syntax as S
use Rattle.cddl_language.specs.Environment.{definitions_of}
use Rattle.cddl_language.specs.MapFaults as M
use Rattle.cddl_language.specs.MapFaults.{IsBare, StandsAt, group_between}
use Rattle.cddl_language.specs.Reading.{definition_of, definitions_in, name_in, rule_name, term_of}
use Rattle.cddl_language.specs.Substitution.{fill_ref}
use Rattle.cddl_language.specs.Terms.{Term, named, Ref, of_types, Definition, stripped, name_of, arguments_of}
use Rattle.check_instances.specs.Openings.Endings.{IsOneType, LeadsOn, at_once, through, is_name}
use Rattle.check_sites.specs.Entries.Entries.{bare_types, opened_in}
use Rattle.check_sites.specs.Entries.Spliced.{IsBareGroup}
use Rattle.check_maps.proofs.OfSpliced.Inside.{only_one}

-- the laws of bare groups
pub record Bare : Type 0 where
  pub found : (t : S.Types) (g : S.Group) → IsBareGroup t g → bare_types t ≡ Some g
  pub only : (t : S.Types) (g : S.Group) → bare_types t ≡ Some g → IsBareGroup t g

same_body : (t u : Term) → of_types t ≡ of_types u → t ≡ u
same_body t u e = cc

same_name : (r h : Ref) → named r ≡ named h → r ≡ h
same_name r h e = cc

bare_no_name : (t : S.Types) (g : S.Group) → bare_types t ≡ Some g → is_name (stripped (term_of t)) ≡ false
bare_no_name (S.or t s x) g e = cc
bare_no_name (S.only (S.operation x o y)) g e = cc
bare_no_name (S.only (S.one (S.parens o t z))) g e = bare_no_name t g e
bare_no_name (S.only (S.one (S.map_of o h z))) g e = refl
bare_no_name (S.only (S.one (S.array_of o h z))) g e = refl
bare_no_name (S.only (S.one (S.literal v))) g e = cc
bare_no_name (S.only (S.one (S.typename r))) g e = cc
bare_no_name (S.only (S.one (S.unwrapped u r))) g e = cc
bare_no_name (S.only (S.one (S.choice_of a o h z))) g e = cc
bare_no_name (S.only (S.one (S.choice_of_name a r))) g e = cc
bare_no_name (S.only (S.one (S.tagged o t z))) g e = cc
bare_no_name (S.only (S.one (S.tagged_by o h a q t z))) g e = cc
bare_no_name (S.only (S.one (S.simple_by o h z))) g e = cc
bare_no_name (S.only (S.one (S.hash t))) g e = cc

one_definition : (d e : Definition) → d ∷ [] ≡ e ∷ [] → d ≡ e
one_definition d e h = cc

pub record IsOpenedIn (rs : List S.Rule) (s : S.Rule) (ys : List Term) (g : S.Group) (e : Ref) : Type 0 where
  pub present : Contains rs s
  pub named_so : name_in s ≡ name_of e
  pub arguments : ys ≡ arguments_of e
  pub opened : opened_in s ≡ Some g

module _ (bare : Bare) (rs : List S.Rule) where
  at_rule : (s : S.Rule) (e : Ref) (g : S.Group) → Contains rs s → name_in s ≡ name_of e → opened_in s ≡ Some g → StandsAt rs e s (arguments_of e) g
  at_rule (S.type_rule n a t) e g c name o = let w = bare.only t g o in M.at_once {n = n} {a = a} {t = t} {x = w.0} {g = g} c name w.1.0 w.1.1
  at_rule (S.group_rule n a x) e g c name o = cc

  pub leads_stand : (s : S.Rule) (g : S.Group) (f e : Ref) → LeadsOn (definitions_in rs) f e → Contains rs s → name_in s ≡ name_of e → opened_in s ≡ Some g → StandsAt rs f s (arguments_of e) g
  leads_stand s g f e at_once c name o = at_rule s f g c name o
  leads_stand s g f e (through {h = h} one free w) c name o = M.through {h = h} {d = one.definition} {t = one.type} one.sole one.body one.same free (leads_stand s g (fill_ref one.definition.parameters (arguments_of f) h) e w c name o)

  module _ (defined : (r : S.Rule) → Contains rs r → Contains (definitions_of (definitions_in rs) (name_in r)) (definition_of r)) where
    -- what is a map or an array leads to no name
    no_way : (g : S.Group) (n : S.RuleName) (a : S.AssignT) (t : S.Types) (f h : Ref) → Contains rs (S.type_rule n a t) → rule_name n ≡ name_of f → bare_types t ≡ Some g → IsOneType (definitions_in rs) f (named h) → ⊥
    no_way g n a t f h c name b one =
        let is = subst (λ m. Contains (definitions_of (definitions_in rs) m) (definition_of (S.type_rule n a t))) name (defined (S.type_rule n a t) c) in
        let same : one.definition ≡ definition_of (S.type_rule n a t) = only_one one.definition (definition_of (S.type_rule n a t)) (subst (λ ds. Contains ds (definition_of (S.type_rule n a t))) one.sole is) (λ q. q) in
        let body = same_body one.type (term_of t) (sym one.body ∙ ap (λ (d : Definition). d.body) same) in
        true≢false (ap is_name (sym one.same ∙ ap stripped body) ∙ bare_no_name t g b)

    pub stand_leads : (s : S.Rule) (ys : List Term) (g : S.Group) (f e : Ref) (x : Term) → IsOneType (definitions_in rs) e x → is_name x ≡ false → StandsAt rs f s ys g → LeadsOn (definitions_in rs) f e → IsOpenedIn rs s ys g e
    stand_leads s ys g f e x end no_name (M.at_once {n = n} {a = a} {t = t} {x = y} c name is between) at_once = record { present = c; named_so = name; arguments = refl; opened = bare.found t g (y, (is, between)) }
    stand_leads s ys g f e x end no_name (M.at_once {n = n} {a = a} {t = t} {x = y} c name is between) (through {h = h} one free w) = absurd (no_way g n a t f h c name (bare.found t g (y, (is, between))) one)
    stand_leads s ys g f e x end no_name (M.through {h = h} {d = d} {t = t} sole body strip free st) at_once =
        let same = one_definition d end.definition (sym sole ∙ end.sole) in
        let types = same_body t end.type (sym body ∙ ap (λ (z : Definition). z.body) same ∙ end.body) in
        absurd (true≢false (ap is_name (sym strip ∙ ap stripped types ∙ end.same) ∙ no_name))
    stand_leads s ys g f e x end no_name (M.through {h = h} {d = d} {t = t} sole body strip free st) (through {h = k} one free2 w) =
        let same = one_definition one.definition d (sym one.sole ∙ sole) in
        let types = same_body one.type t (sym one.body ∙ ap (λ (z : Definition). z.body) same ∙ body) in
        let names = same_name k h (sym one.same ∙ ap stripped types ∙ strip) in
        stand_leads s ys g (fill_ref d.parameters (arguments_of f) h) e x end no_name st (subst (λ z. LeadsOn (definitions_in rs) (fill_ref d.parameters (arguments_of f) z) e) names (subst (λ (z : Definition). LeadsOn (definitions_in rs) (fill_ref z.parameters (arguments_of f) k) e) same w))
