-- The kind that one definition gives, by the kinds of all names.
use Rattle.std.proofs.Common.{◌≡◌, ℕ, Bool, true, false, if◌then◌else◌, List, Option, Some, None, refl, sym, ap, ◌∙◌, slice_get}
use Rattle.graphs.specs.declared.chains.Link.{Link}
use Rattle.graphs.specs.declared.chains.Link.TheVariants as LinkV
use Rattle.graphs.specs.Chains.Chains.{end_by}
use Rattle.cddl_language.specs.Terms as L
use Rattle.cddl_language.specs.Terms.{Text}
use Rattle.cddl_language.specs.Environment.{is_group_socket}
use Rattle.cddl_language.specs.Kinds.{defines_group, is_group, is_group_definition}
use Rattle.check_terms.specs.declared.definition.Definition.{Definition}
use Rattle.check_terms.specs.declared.definition.Sign.{Sign}
use Rattle.check_terms.specs.declared.definition.Sign.TheVariants as SignV
use Rattle.check_terms.specs.Definitions.{IsDefinition, sign_of}
use Rattle.check_terms.specs.Table.{Table}
use Rattle.check_names.specs.Environment.Places.{is_equals}
use Rattle.check_names.specs.declared.kinds.heads.Head.{Head}
use Rattle.check_names.specs.declared.kinds.kinds.Kinds.{Kinds}
use Rattle.check_names.specs.Kinds.Heads.{HasHead}
use Rattle.check_names.specs.Kinds.Kinds.{AreKinds, answered_there, defines_group_by, is_group_there, leads_to_group}
use Rattle.check_names.specs.Kinds.Links.{kind_of, opens_group, text_there}
use Rattle.check_names.proofs.OfKinds.Kinding.{AreOpened, AgreeKinds, definition_kind, opened_group}

-- the answer of a name's chain, from whether the name is a group's
abbrev answer_of : Bool → Option ℕ
answer_of true = Some 0
answer_of false = None

answered : (b : Bool) → opens_group (Some (answer_of b)) ≡ b
answered true = refl
answered false = refl

module _ (t : Table) (xs : List L.Definition) (ks : Kinds) (are : AreKinds t.texts xs ks) where
  leads : (l : Link) → leads_to_group ks l ≡ opens_group (Some (end_by (λ k. answer_of (is_group_there ks k)) l))
  leads (LinkV.End a) = refl
  leads (LinkV.Next k) = sym (answered (is_group_there ks k))

  agree : AgreeKinds t.texts (λ k. answer_of (is_group_there ks k)) (λ n. is_group xs n)
  agree k n e = answered (is_group_there ks k) ∙ are.groups k n e

  there : (o : Option (Option ℕ)) → opens_group o ≡ opens_group (Some (answered_there o))
  there None = refl
  there (Some o) = refl

  are_opened : AreOpened t.texts xs ks.opened.items
  are_opened k n ts e = there (slice_get ks.opened.items k) ∙ opened_group (answered_there (slice_get ks.opened.items k)) _ (are.openings k n ts e)

  module _ (d : Definition) (x : L.Definition) (is : IsDefinition t d x) (h : Head) (has : HasHead t d h) where
    by_sign : (s : Sign) (z : L.Sign) → sign_of s ≡ z → is_group_socket x.name ≡ true → (if is_equals s then true else leads_to_group ks (kind_of ks.opened.items s h)) ≡ defines_group (λ n. is_group xs n) xs x z
    by_sign SignV.Is L.is i e = sym (ap (λ b. if b then true else Rattle.cddl_language.specs.Kinds.is_group_body (λ n. is_group xs n) xs x.parameters x.body) e)
    by_sign SignV.TypeOr L.type_or i e = refl
    by_sign SignV.GroupOr L.group_or i e = refl
    by_sign SignV.Is L.type_or i e = cc
    by_sign SignV.Is L.group_or i e = cc
    by_sign SignV.TypeOr L.is i e = cc
    by_sign SignV.TypeOr L.group_or i e = cc
    by_sign SignV.GroupOr L.is i e = cc
    by_sign SignV.GroupOr L.type_or i e = cc

    by_socket : (b : Bool) → is_group_socket x.name ≡ b → defines_group_by ks b d.sign h ≡ is_group_definition xs x
    by_socket true e = by_sign d.sign x.sign is.sign e
    by_socket false e = leads (kind_of ks.opened.items d.sign h) ∙ definition_kind t.texts (λ k. answer_of (is_group_there ks k)) (λ n. is_group xs n) agree xs ks.opened.items are_opened h x e (has x is) d.sign x.sign is.sign

    pub defined_kind : defines_group_by ks (is_group_socket (text_there (slice_get t.texts d.name))) d.sign h ≡ is_group_definition xs x
    defined_kind = ap (λ o. defines_group_by ks (is_group_socket (text_there o)) d.sign h) is.name ∙ by_socket (is_group_socket x.name) refl
