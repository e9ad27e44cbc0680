-- Definitions by numbers, and what they stand for.
use Rattle.std.proofs.Common.{◌≡◌, ◌↔◌, ℕ, List, [], ◌∷◌, Some, refl, sym, ap, subst, ◌∙◌, slice_get}
use Rattle.cddl_language.specs.Terms as L
use Rattle.cddl_language.specs.Terms.{Text}
use Rattle.check_terms.specs.declared.definition.Sign.{Sign}
use Rattle.check_terms.specs.declared.definition.Sign.TheVariants as SignV
use Rattle.check_terms.specs.declared.definition.Body.{Body}
use Rattle.check_terms.specs.declared.definition.Body.TheVariants as BodyV
use Rattle.check_terms.specs.declared.definition.Definition.{Definition}
use Rattle.check_terms.specs.Definitions.{AreSame, AreTexts, no_texts, further_text, IsBody, types, entry, IsDefinition, sign_of}
use Rattle.check_terms.specs.Table.{AreDistinct, IsTable, Table}
use Rattle.check_terms.specs.Trees.{entry_tree, term_tree}
use Rattle.check_terms.proofs.Holding.{same}
use Rattle.check_terms.proofs.Inverse.{entry_back, entry_from, term_back, term_from}

one_text : (o : _) (x y : Text) → o ≡ Some x → o ≡ Some y → x ≡ y
one_text o x y e f = cc

same_texts : (t : List Text) (ns : List ℕ) (xs ys : List Text) → AreTexts t ns xs → AreTexts t ns ys → xs ≡ ys
same_texts t [] [] [] no_texts no_texts = refl
same_texts t [] [] (y ∷ ys) h k = elim k [ ]
same_texts t [] (x ∷ xs) ys h k = elim h [ ]
same_texts t (n ∷ ns) [] ys h k = elim h [ ]
same_texts t (n ∷ ns) (x ∷ xs) [] h k = elim k [ ]
same_texts t (n ∷ ns) (x ∷ xs) (y ∷ ys) (further_text e h) (further_text f k) =
    let first : x ≡ y = cc in
    let rest = same_texts t ns xs ys h k in
    cc

same_text_numbers : (t : List Text) → AreDistinct t → (ns ms : List ℕ) (xs : List Text) → AreTexts t ns xs → AreTexts t ms xs → ns ≡ ms
same_text_numbers t d [] [] [] no_texts no_texts = refl
same_text_numbers t d [] [] (x ∷ xs) h k = elim h [ ]
same_text_numbers t d [] (m ∷ ms) [] h k = elim k [ ]
same_text_numbers t d [] (m ∷ ms) (x ∷ xs) h k = elim h [ ]
same_text_numbers t d (n ∷ ns) [] [] h k = elim h [ ]
same_text_numbers t d (n ∷ ns) [] (x ∷ xs) h k = elim k [ ]
same_text_numbers t d (n ∷ ns) (m ∷ ms) [] h k = elim h [ ]
same_text_numbers t d (n ∷ ns) (m ∷ ms) (x ∷ xs) (further_text e h) (further_text f k) =
    let first = d n m x e f in
    let rest = same_text_numbers t d ns ms xs h k in
    cc

same_signs : (a b : Sign) → sign_of a ≡ sign_of b → a ≡ b
same_signs SignV.Is SignV.Is e = refl
same_signs SignV.TypeOr SignV.TypeOr e = refl
same_signs SignV.GroupOr SignV.GroupOr e = refl
same_signs SignV.Is SignV.TypeOr e = cc
same_signs SignV.Is SignV.GroupOr e = cc
same_signs SignV.TypeOr SignV.Is e = cc
same_signs SignV.TypeOr SignV.GroupOr e = cc
same_signs SignV.GroupOr SignV.Is e = cc
same_signs SignV.GroupOr SignV.TypeOr e = cc

module _ (t : Table) (is : IsTable t) where
  same_bodies : (b : Body) (x y : L.Body) → IsBody t b x → IsBody t b y → x ≡ y
  same_bodies b x y (types {n = n} {x = u} h) (types {x = v} k) = ap L.of_types ((same term_tree term_from term_back t is n n u v h k).0 refl)
  same_bodies b x y (entry {n = n} {x = u} h) (entry {x = v} k) = ap L.of_entry ((same entry_tree entry_from entry_back t is n n u v h k).0 refl)

  same_body_numbers : (b c : Body) (x : L.Body) → IsBody t b x → IsBody t c x → b ≡ c
  same_body_numbers b c x (types {n = n} {x = u} h) (types {n = m} k) = ap BodyV.Types ((same term_tree term_from term_back t is n m u u h k).1 refl)
  same_body_numbers b c x (entry {n = n} {x = u} h) (entry {n = m} k) = ap BodyV.Entry ((same entry_tree entry_from entry_back t is n m u u h k).1 refl)

  alike : (d e : Definition) (x y : L.Definition) → IsDefinition t d x → IsDefinition t e y → AreSame d e → x ≡ y
  alike d e x y h k s = λ i. record {
    name = one_text (slice_get t.texts d.name) x.name y.name h.name (ap (slice_get t.texts) s.name ∙ k.name) i;
    parameters = same_texts t.texts d.parameters.items x.parameters y.parameters h.parameters (subst (λ ns. AreTexts t.texts ns y.parameters) (sym s.parameters) k.parameters) i;
    sign = (sym h.sign ∙ ap sign_of s.sign ∙ k.sign) i;
    body = same_bodies d.body x.body y.body h.body (subst (λ b. IsBody t b y.body) (sym s.body) k.body) i;
  }

  numbered_alike : (d e : Definition) (x : L.Definition) → IsDefinition t d x → IsDefinition t e x → AreSame d e
  numbered_alike d e x h k = record {
    name = is.texts d.name e.name x.name h.name k.name;
    parameters = same_text_numbers t.texts is.texts d.parameters.items e.parameters.items x.parameters h.parameters k.parameters;
    sign = same_signs d.sign e.sign (h.sign ∙ sym k.sign);
    body = same_body_numbers d.body e.body x.body h.body k.body;
  }

  pub equal_definitions : (d e : Definition) (x y : L.Definition) → IsDefinition t d x → IsDefinition t e y → AreSame d e ↔ (x ≡ y)
  equal_definitions d e x y h k = (alike d e x y h k, λ s. numbered_alike d e x h (subst (IsDefinition t e) (sym s) k))
