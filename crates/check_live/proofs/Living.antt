-- The contexts that follow are those whose sites are live.
use Rattle.std.proofs.Common.{◌≡◌, ◌≢◌, ℕ, zero, suc, ◌+◌, ◌≤◌, Bool, true, false, ◌||◌, if◌then◌else◌, List, [], ◌∷◌, length, Some, None, slice_get, slice_index_or, refl, sym, ap, subst, ◌∙◌, arith, true≢false}
use Rattle.std.specs.List.{Contains}
use Rattle.std.specs.Cmp.Lexicographic.{same_text}
use Rattle.std.proofs.lemmas.Cmp.{nat_list_eq_equiv}
use Rattle.std.proofs.lemmas.Option.{slice_get_within}
use Rattle.cddl_token.specs.declared.Token.{Token}
use Rattle.tree_nodes.specs.Syntax.Syntax as S
use Rattle.tree_nodes.specs.declared.tree.Leaf.{Leaf}
use Rattle.cddl_language.specs.Environment.{is_in, is_same}
use Rattle.cddl_language.specs.Reading.{definitions_in, name_in, parameters_in}
use Rattle.cddl_language.specs.Sites.{Site, arguments, in_type1, is_parameter, outer_sites, ref_at_site, ref_name}
use Rattle.cddl_language.specs.Terms.{Text}
use Rattle.check_terms.specs.Definitions.{AreDefinitions, further_definition, AreTexts, no_texts, further_text}
use Rattle.check_terms.specs.Table.{AreDistinct, Table}
use Rattle.check_terms.specs.declared.definition.Definition.{Definition}
use Rattle.check_sites.specs.declared.sites.site.Found.{Found}
use Rattle.check_sites.specs.Sites.View.{view_site}
use Rattle.cddl_language.specs.Live.Live.{IsLive, IsLiveSlot, inner, outer, slot}
use Rattle.graphs.specs.declared.implications.Implication.{Implication}
use Rattle.graphs.specs.Implications.Implications.{AreFollowing, Follows, concludes}
use Rattle.check_live.specs.declared.facts.Fact.{Fact}
use Rattle.check_live.specs.declared.search.Standing.{Standing}
use Rattle.check_live.specs.Facts.{IsAmong, OfParameter, slot_of, use_of}
use Rattle.check_live.specs.Live.{AreLive}
use Rattle.check_live.specs.Search.{HasArgument, IsFrom, IsSearch, IsServed, IsStep, State, context, live_in, of_argument, of_rule, of_rules, of_use, parameter, seen, used_at, with_arguments, with_use, within, without_number, without_reference}
use Rattle.check_live.proofs.Lists.{contained, one_of, place_of}
use Rattle.check_live.proofs.Parameters.{other_kind, same_slot, same_use}

-- rules and their definitions by numbers

text_at : (texts : List Text) (ps : List ℕ) (ns : List Text) (k : ℕ) (n : Text) → AreTexts texts ps ns → slice_get ns k ≡ Some n → (p : ℕ) × ((slice_get ps k ≡ Some p) × (slice_get texts p ≡ Some n))
text_at texts [] [] k n no_texts e = cc
text_at texts [] (x ∷ ns) k n h e = elim h [ ]
text_at texts (p ∷ ps) [] k n h e = elim h [ ]
text_at texts (p ∷ ps) (x ∷ ns) zero n (further_text t h) e = (p, (refl, t ∙ e))
text_at texts (p ∷ ps) (x ∷ ns) (suc k) n (further_text t h) e = text_at texts ps ns k n h e

number_at : (texts : List Text) (ps : List ℕ) (ns : List Text) (k p : ℕ) → AreTexts texts ps ns → slice_get ps k ≡ Some p → (n : Text) × ((slice_get ns k ≡ Some n) × (slice_get texts p ≡ Some n))
number_at texts [] [] k p no_texts e = cc
number_at texts [] (x ∷ ns) k p h e = elim h [ ]
number_at texts (q ∷ ps) [] k p h e = elim h [ ]
number_at texts (q ∷ ps) (x ∷ ns) zero p (further_text t h) e =
    let same : q ≡ p = cc in
    (x, (refl, subst (λ a. slice_get texts a ≡ Some x) same t))
number_at texts (q ∷ ps) (x ∷ ns) (suc k) p (further_text t h) e = number_at texts ps ns k p h e

-- the rule and the definition at a place
record IsRuleAt (t : Table) (rs : List S.Rule) (ds : List Definition) (k : ℕ) : Type 0 where
  rule : S.Rule
  definition : Definition
  rule_there : slice_get rs k ≡ Some rule
  definition_there : slice_get ds k ≡ Some definition
  named : slice_get t.texts definition.name ≡ Some (name_in rule)
  parameters : AreTexts t.texts definition.parameters.items (parameters_in rule)

rule_at : (t : Table) (rs : List S.Rule) (ds : List Definition) (k : ℕ) (r : S.Rule) → AreDefinitions t ds (definitions_in rs) → slice_get rs k ≡ Some r → IsRuleAt t rs ds k
rule_at t [] ds k r h e = cc
rule_at t (x ∷ rs) [] k r h e = elim h [ ]
rule_at t (x ∷ rs) (d ∷ ds) zero r (further_definition h hs) e = record { rule = x; definition = d; rule_there = refl; definition_there = refl; named = h.name; parameters = h.parameters }
rule_at t (x ∷ rs) (d ∷ ds) (suc k) r (further_definition h hs) e = let w = rule_at t rs ds k r hs e in record { rule = w.rule; definition = w.definition; rule_there = w.rule_there; definition_there = w.definition_there; named = w.named; parameters = w.parameters }

definition_at : (t : Table) (rs : List S.Rule) (ds : List Definition) (k : ℕ) (d : Definition) → AreDefinitions t ds (definitions_in rs) → slice_get ds k ≡ Some d → IsRuleAt t rs ds k
definition_at t rs [] k d h e = cc
definition_at t [] (x ∷ ds) k d h e = elim h [ ]
definition_at t (r ∷ rs) (x ∷ ds) zero d (further_definition h hs) e = record { rule = r; definition = x; rule_there = refl; definition_there = refl; named = h.name; parameters = h.parameters }
definition_at t (r ∷ rs) (x ∷ ds) (suc k) d (further_definition h hs) e = let w = definition_at t rs ds k d hs e in record { rule = w.rule; definition = w.definition; rule_there = w.rule_there; definition_there = w.definition_there; named = w.named; parameters = w.parameters }

same_itself : (n : Text) → is_same n n ≡ true
same_itself n = nat_list_eq_equiv.refl n

-- a name among others
among : (ns : List Text) (n : Text) → is_in ns n ≡ true → (k : ℕ) × (slice_get ns k ≡ Some n)
among [] n e = absurd (true≢false (sym e))
among (x ∷ ns) n e = by (is_same x n) refl e (among ns n)
  where
    by : (b : Bool) → is_same x n ≡ b → (b || is_in ns n) ≡ true → (is_in ns n ≡ true → (k : ℕ) × (slice_get ns k ≡ Some n)) → (k : ℕ) × (slice_get (x ∷ ns) k ≡ Some n)
    by true f g h = (0, ap Some (same_text x n (sym f)))
    by false f g h = let w = h g in (suc w.0, w.1)

is_among : (ns : List Text) (n : Text) (k : ℕ) → slice_get ns k ≡ Some n → is_in ns n ≡ true
is_among [] n k e = cc
is_among (x ∷ ns) n zero e =
    let same : x ≡ n = cc in
    ap (λ b. b || is_in ns n) (subst (λ m. is_same m n ≡ true) (sym same) (same_itself n))
is_among (x ∷ ns) n (suc k) e = by (is_same x n) (is_among ns n k e)
  where
    by : (b : Bool) → is_in ns n ≡ true → (b || is_in ns n) ≡ true
    by true h = refl
    by false h = h

-- a rule refers to the name at a live site
record IsUsed (rs : List S.Rule) (r : S.Rule) (n : Text) : Type 0 where
  site : Site
  ref : S.Ref
  live : IsLive rs r site
  at : ref_at_site site ≡ Some ref
  same : ref_name ref ≡ n

module _ (t : Table) (keys : List Fact) (read : Leaf → Token) (rs : List S.Rule) (ds : List Definition) (st : State) (texts_distinct : AreDistinct t.texts) (few : length t.texts ≤ 4294967296) (defined : AreDefinitions t ds (definitions_in rs)) (distinct : AreDistinct keys) (uses : (u r n : ℕ) → slice_get keys u ≡ Some (use_of r n) → IsAmong ds r n) (s : IsSearch keys read t.texts rs ds (length st.standing) st) where
  abbrev pub facts : ℕ
  facts = length keys + length st.implications

  -- no use, no parameter
  is_parameter_used : (k n : ℕ) (r : S.Rule) (f : S.Ref) → slice_get rs k ≡ Some r → slice_get t.texts n ≡ Some (ref_name f) → ((u : ℕ) → slice_get keys u ≢ Some (use_of k n)) → is_parameter r (ref_name f) ≡ true → ⊥
  is_parameter_used k n r f x g none e =
      let w = rule_at t rs ds k r defined x in
      let a = among (parameters_in r) (ref_name f) e in
      let p = text_at t.texts w.definition.parameters.items (parameters_in w.rule) a.0 (ref_name f) w.parameters (subst (λ q. slice_get (parameters_in q) a.0 ≡ Some (ref_name f)) (one_of (slice_get rs k) r w.rule x w.rule_there) a.1) in
      let has = s.parameters k a.0 w.definition p.0 w.definition_there p.1.0 in
      let same = one_of (slice_get ds k) has.is_parameter.definition w.definition has.is_parameter.rule_there w.definition_there in
      let parameter_same = one_of (slice_get w.definition.parameters.items a.0) has.is_parameter.parameter p.0 (subst (λ (d : Definition). slice_get d.parameters.items a.0 ≡ Some has.is_parameter.parameter) same has.is_parameter.parameter_there) p.1.0 in
      let number_same = texts_distinct p.0 n (ref_name f) p.1.1 g in
      none has.is_parameter.used (has.is_parameter.used_there ∙ ap (λ m. Some (use_of k m)) (parameter_same ∙ number_same))

  not_used : (k n : ℕ) (r : S.Rule) (f : S.Ref) → slice_get rs k ≡ Some r → slice_get t.texts n ≡ Some (ref_name f) → ((u : ℕ) → slice_get keys u ≢ Some (use_of k n)) → is_parameter r (ref_name f) ≡ false
  not_used k n r f x g none = by (is_parameter r (ref_name f)) refl
    where
      by : (b : Bool) → is_parameter r (ref_name f) ≡ b → is_parameter r (ref_name f) ≡ false
      by false e = e
      by true e = absurd (is_parameter_used k n r f x g none e)

  -- what follows is true

  record IsTrue (x : ℕ) : Type 0 where
    used : (k n : ℕ) (r : S.Rule) (m : Text) → slice_get keys x ≡ Some (use_of k n) → slice_get rs k ≡ Some r → slice_get t.texts n ≡ Some m → IsUsed rs r m
    slots : (n k : ℕ) (m : Text) → slice_get keys x ≡ Some (slot_of n k) → slice_get t.texts n ≡ Some m → IsLiveSlot rs m k
    sites : (m : ℕ) (e : Standing) (r : S.Rule) → slice_get st.standing m ≡ Some e → e.context ≡ x → slice_get rs e.found.rule ≡ Some r → IsLive rs r (seen read e)

  -- a site of a context whose number is that of another fact stands outside of arguments
  of_fact : (x : ℕ) (y : Fact) → slice_get keys x ≡ Some y → (m : ℕ) (e : Standing) (r : S.Rule) → slice_get st.standing m ≡ Some e → e.context ≡ x → slice_get rs e.found.rule ≡ Some r → IsFrom keys read t.texts rs st e → IsLive rs r (seen read e)
  of_fact x y at m e r there c g (of_rule q h o) = outer (subst (λ w. Contains (outer_sites w) (seen read e)) (one_of (slice_get rs e.found.rule) q r h g) o)
  of_fact x y at m e r there c g (within i q f n a b d u w) =
      let l = slice_get_within keys x y at in
      let k = w.context in
      absurd (omega (arith, l, k, c))

  module _ (j : ℕ) (i : Implication) (at : slice_get st.implications j ≡ Some i) (first : (p : ℕ) → i.first ≡ Some p → IsTrue p) (second : (p : ℕ) → i.second ≡ Some p → IsTrue p) where
    by_parameter : OfParameter ds keys i → IsTrue i.then
    by_parameter o = record {
      used = λ k n r m e g h. other_kind k n o.is.definition.name o.place (one_of (slice_get keys i.then) (use_of k n) (slot_of o.is.definition.name o.place) e o.is.slot_there);
      slots = λ n k m e h.
          let w = definition_at t rs ds o.rule o.is.definition defined o.is.rule_there in
          let same = one_of (slice_get ds o.rule) o.is.definition w.definition o.is.rule_there w.definition_there in
          let key = same_slot n k o.is.definition.name o.place (one_of (slice_get keys i.then) (slot_of n k) (slot_of o.is.definition.name o.place) e o.is.slot_there) in
          let number = number_at t.texts w.definition.parameters.items (parameters_in w.rule) o.place o.is.parameter w.parameters (subst (λ (d : Definition). slice_get d.parameters.items o.place ≡ Some o.is.parameter) same o.is.parameter_there) in
          let is = (first o.is.used o.is.first).used o.rule o.is.parameter w.rule number.0 o.is.used_there w.rule_there number.1.1 in
          let name_same : name_in w.rule ≡ m = one_of (slice_get t.texts w.definition.name) (name_in w.rule) m w.named (ap (slice_get t.texts) (ap (λ (d : Definition). d.name) (sym same) ∙ sym key.0) ∙ h) in
          slot k (contained rs o.rule w.rule w.rule_there) name_same is.live is.at (ap (slice_get (parameters_in w.rule)) key.1 ∙ number.1.0 ∙ ap Some (sym is.same));
      sites = λ m e r x c g. of_fact i.then (slot_of o.is.definition.name o.place) o.is.slot_there m e r x c g (s.sites m e x);
    }

    by_use : (m : ℕ) (q : Standing) (f : S.Ref) (n : ℕ) → slice_get st.standing m ≡ Some q → ref_at_site (seen read q) ≡ Some f → slice_get t.texts n ≡ Some (ref_name f) → slice_get keys i.then ≡ Some (use_of q.found.rule n) → i.first ≡ Some q.context → IsTrue i.then
    by_use m q f n x g h u w = record {
      used = λ k p r v e a b.
          let key = same_use k p q.found.rule n (one_of (slice_get keys i.then) (use_of k p) (use_of q.found.rule n) e u) in
          record {
            site = seen read q;
            ref = f;
            live = (first q.context w).sites m q r x refl (ap (slice_get rs) (sym key.0) ∙ a);
            at = g;
            same = one_of (slice_get t.texts n) (ref_name f) v h (ap (slice_get t.texts) (sym key.1) ∙ b);
          };
      slots = λ p k v e b. other_kind q.found.rule n p k (one_of (slice_get keys i.then) (use_of q.found.rule n) (slot_of p k) u e);
      sites = λ p e r y c b. of_fact i.then (use_of q.found.rule n) u p e r y c b (s.sites p e y);
    }

    beyond : {X : Type 0} (y : Fact) → i.then ≡ length keys + j → slice_get keys i.then ≡ Some y → X
    beyond y e f = let l = slice_get_within keys i.then y f in absurd (omega (arith, l, e))

    in_context : i.then ≡ length keys + j → (m : ℕ) (e : Standing) (r : S.Rule) → slice_get st.standing m ≡ Some e → e.context ≡ i.then → slice_get rs e.found.rule ≡ Some r → IsFrom keys read t.texts rs st e → IsLive rs r (seen read e)
    in_context is m e r x c g (of_rule q h o) = outer (subst (λ w. Contains (outer_sites w) (seen read e)) (one_of (slice_get rs e.found.rule) q r h g) o)
    in_context is m e r x c g (within p q f n a b d u w) =
        let k = w.context in
        let place_same : w.at ≡ j = omega (arith, is, c, k) in
        let same : i ≡ of_argument (length keys) w.at q.context w.slot = one_of (slice_get st.implications j) i (of_argument (length keys) w.at q.context w.slot) at (ap (slice_get st.implications) (sym place_same) ∙ w.there) in
        let parent = (first q.context (ap (λ (v : Implication). v.first) same)).sites p q r a refl (ap (slice_get rs) (sym w.rule) ∙ g) in
        let is_slot = (second w.slot (ap (λ (v : Implication). v.second) same)).slots n w.place (ref_name f) w.slot_there d in
        inner w.place parent b (not_used q.found.rule n r f (ap (slice_get rs) (sym w.rule) ∙ g) d u) w.given is_slot w.contained

    by_context : i.then ≡ length keys + j → IsTrue i.then
    by_context is = record {
      used = λ k n r m e g h. beyond (use_of k n) is e;
      slots = λ n k m e h. beyond (slot_of n k) is e;
      sites = λ m e r x c g. in_context is m e r x c g (s.sites m e x);
    }

    by_step : IsStep keys read t.texts ds st j i → IsTrue i.then
    by_step (parameter o) = by_parameter o
    by_step (context e) = by_context e
    by_step (used_at m q f n x g h u w) = by_use m q f n x g h u w

  true_is : (x : ℕ) → Follows facts st.implications x → IsTrue x
  true_is x (concludes j i at l first second) = by_step j i at (λ p e. true_is p (first p e)) (λ p e. true_is p (second p e)) (s.steps j i at)

  -- what is live follows

  record Stands (k : ℕ) (p : Site) : Type 0 where
    place : ℕ
    site : Standing
    there : slice_get st.standing place ≡ Some site
    rule_same : site.found.rule ≡ k
    same : seen read site ≡ p
    follows : Follows facts st.implications site.context

  record HasSlot (m : Text) (k : ℕ) : Type 0 where
    name : ℕ
    slot_number : ℕ
    named : slice_get t.texts name ≡ Some m
    there : slice_get keys slot_number ≡ Some (slot_of name k)
    follows : Follows facts st.implications slot_number

  none_is_some : {X Y : Type 0} (x : X) → None ≡ Some x → Y
  none_is_some x e = cc

  premise : (P : ℕ → Type 0) (a p : ℕ) → P a → Some a ≡ Some p → P p
  premise P a p h e = let same : a ≡ p = cc in subst P same h

  root_follows : Follows facts st.implications (length keys + s.root)
  root_follows =
      let l = slice_get_within st.implications s.root (of_rules (length keys) s.root) s.root_there in
      concludes s.root (of_rules (length keys) s.root) s.root_there (omega (arith, l)) (λ p e. none_is_some p e) (λ p e. none_is_some p e)

  outer_stands : (k : ℕ) (r : S.Rule) (p : Site) → slice_get rs k ≡ Some r → Contains (outer_sites r) p → Stands k p
  outer_stands k r p x c =
      let h = s.rules k r p x c in
      record { place = h.place; site = h.site; there = h.there; rule_same = h.rule_same; same = h.same; follows = subst (Follows facts st.implications) (sym h.context_same) root_follows }

  of_argument_stands : (q : Standing) (n place : ℕ) (x : S.Type1) (k slot_number : ℕ) (p : Site) → q.found.rule ≡ k → Follows facts st.implications q.context → slice_get keys slot_number ≡ Some (slot_of n place) → Follows facts st.implications slot_number → HasArgument keys read q n place x st → Contains (in_type1 false true x) p → Stands k p
  of_argument_stands q n place x k slot_number p rule_is parent there follows h c =
      let site = h.each p c in
      let l = slice_get_within st.implications h.at (of_argument (length keys) h.at q.context h.slot) h.there in
      let same : slot_number ≡ h.slot = distinct slot_number h.slot (slot_of n place) there h.slot_there in
      record {
        place = site.place;
        site = site.site;
        there = site.there;
        rule_same = site.rule_same ∙ rule_is;
        same = site.same;
        follows = subst (Follows facts st.implications) (sym site.context_same) (concludes h.at (of_argument (length keys) h.at q.context h.slot) h.there (omega (arith, l)) (λ a e. premise (Follows facts st.implications) q.context a parent e) (λ a e. premise (Follows facts st.implications) h.slot a (subst (Follows facts st.implications) same follows) e));
      }

  inner_stands : (k : ℕ) (r : S.Rule) (q p : Site) (f : S.Ref) (x : S.Type1) (place : ℕ) → slice_get rs k ≡ Some r → ref_at_site q ≡ Some f → is_parameter r (ref_name f) ≡ false → slice_get (arguments f) place ≡ Some x → Contains (in_type1 false true x) p → (w : Stands k q) → HasSlot (ref_name f) place → IsServed keys read t.texts st w.site → Stands k p
  inner_stands k r q p f x place at e n given c w h (without_reference g) = none_is_some f (sym g ∙ ap ref_at_site w.same ∙ e)
  inner_stands k r q p f x place at e n given c w h (without_number g a none) =
      let same : f ≡ g = one_of (ref_at_site (seen read w.site)) f g (ap ref_at_site w.same ∙ e) a in
      let l = slice_get_within t.texts h.name (ref_name f) h.named in
      absurd (none h.name (omega (arith, l, few)) (h.named ∙ ap (λ (v : S.Ref). Some (ref_name v)) same))
  inner_stands k r q p f x place at e n given c w h (with_use g m used j a b u i) =
      let same : g ≡ f = one_of (ref_at_site (seen read w.site)) g f a (ap ref_at_site w.same ∙ e) in
      let is = uses used w.site.found.rule m u in
      let z = rule_at t rs ds k r defined at in
      let d = one_of (slice_get ds k) is.definition z.definition (ap (slice_get ds) (sym w.rule_same) ∙ is.rule_there) z.definition_there in
      let v = number_at t.texts z.definition.parameters.items (parameters_in z.rule) is.place m z.parameters (subst (λ (y : Definition). slice_get y.parameters.items is.place ≡ Some m) d is.there) in
      let text_same : v.0 ≡ ref_name f = one_of (slice_get t.texts m) v.0 (ref_name f) v.1.1 (b ∙ ap (λ (y : S.Ref). Some (ref_name y)) same) in
      let rule_is = one_of (slice_get rs k) z.rule r z.rule_there at in
      absurd (true≢false (sym (is_among (parameters_in r) (ref_name f) is.place (subst (λ y. slice_get (parameters_in y) is.place ≡ Some (ref_name f)) rule_is (v.1.0 ∙ ap Some text_same))) ∙ n))
  inner_stands k r q p f x place at e n given c w h (with_arguments g m a b none complete) =
      let same : g ≡ f = one_of (ref_at_site (seen read w.site)) g f a (ap ref_at_site w.same ∙ e) in
      let name_same : h.name ≡ m = texts_distinct h.name m (ref_name f) h.named (b ∙ ap (λ (y : S.Ref). Some (ref_name y)) same) in
      let there : slice_get keys h.slot_number ≡ Some (slot_of m place) = h.there ∙ ap (λ y. Some (slot_of y place)) name_same in
      of_argument_stands w.site m place x k h.slot_number p w.rule_same w.follows there h.follows (complete place h.slot_number x (ap (λ (y : S.Ref). slice_get (arguments y) place) same ∙ given) there) c

  -- the slot of a parameter whose use follows
  of_use_follows : (kk k : ℕ) (r : S.Rule) (g : S.Ref) (u n used : ℕ) → slice_get rs kk ≡ Some r → slice_get (parameters_in r) k ≡ Some (ref_name g) → slice_get t.texts n ≡ Some (ref_name g) → slice_get keys used ≡ Some (use_of kk n) → Follows facts st.implications used → HasSlot (name_in r) k
  of_use_follows kk k r g u n used at par b there follows =
      let z = rule_at t rs ds kk r defined at in
      let rule_is = one_of (slice_get rs kk) z.rule r z.rule_there at in
      let v = text_at t.texts z.definition.parameters.items (parameters_in z.rule) k (ref_name g) z.parameters (subst (λ y. slice_get (parameters_in y) k ≡ Some (ref_name g)) (sym rule_is) par) in
      let h = s.parameters kk k z.definition v.0 z.definition_there v.1.0 in
      let d = one_of (slice_get ds kk) h.is_parameter.definition z.definition h.is_parameter.rule_there z.definition_there in
      let p_same = one_of (slice_get z.definition.parameters.items k) h.is_parameter.parameter v.0 (subst (λ (y : Definition). slice_get y.parameters.items k ≡ Some h.is_parameter.parameter) d h.is_parameter.parameter_there) v.1.0 in
      let number_same : v.0 ≡ n = texts_distinct v.0 n (ref_name g) v.1.1 b in
      let used_same : used ≡ h.is_parameter.used = distinct used h.is_parameter.used (use_of kk n) there (h.is_parameter.used_there ∙ ap (λ y. Some (use_of kk y)) (p_same ∙ number_same)) in
      let l = slice_get_within keys h.implication.then (slot_of h.is_parameter.definition.name k) h.is_parameter.slot_there in
      record {
        name = h.is_parameter.definition.name;
        slot_number = h.implication.then;
        named = ap (λ (y : Definition). slice_get t.texts y.name) d ∙ z.named ∙ ap (λ y. Some (name_in y)) rule_is;
        there = h.is_parameter.slot_there;
        follows = concludes h.at h.implication h.there (omega (arith, l)) (λ a e. premise (Follows facts st.implications) h.is_parameter.used a (subst (Follows facts st.implications) used_same follows) (sym h.is_parameter.first ∙ e)) (λ a e. none_is_some a (sym h.is_parameter.second ∙ e));
      }

  slot_stands : (kk k : ℕ) (r : S.Rule) (q : Site) (g : S.Ref) → slice_get rs kk ≡ Some r → ref_at_site q ≡ Some g → slice_get (parameters_in r) k ≡ Some (ref_name g) → (w : Stands kk q) → IsServed keys read t.texts st w.site → HasSlot (name_in r) k
  slot_stands kk k r q g at e par w (without_reference a) = none_is_some g (sym a ∙ ap ref_at_site w.same ∙ e)
  slot_stands kk k r q g at e par w (without_number f a none) =
      let same : f ≡ g = one_of (ref_at_site (seen read w.site)) f g a (ap ref_at_site w.same ∙ e) in
      let z = rule_at t rs ds kk r defined at in
      let rule_is = one_of (slice_get rs kk) z.rule r z.rule_there at in
      let v = text_at t.texts z.definition.parameters.items (parameters_in z.rule) k (ref_name g) z.parameters (subst (λ y. slice_get (parameters_in y) k ≡ Some (ref_name g)) (sym rule_is) par) in
      let l = slice_get_within t.texts v.0 (ref_name g) v.1.1 in
      absurd (none v.0 (omega (arith, l, few)) (v.1.1 ∙ ap (λ (y : S.Ref). Some (ref_name y)) (sym same)))
  slot_stands kk k r q g at e par w (with_use f n used j a b u i) =
      let same : f ≡ g = one_of (ref_at_site (seen read w.site)) f g a (ap ref_at_site w.same ∙ e) in
      let l = slice_get_within keys used (use_of w.site.found.rule n) u in
      of_use_follows kk k r g 0 n used at par (b ∙ ap (λ (y : S.Ref). Some (ref_name y)) same) (u ∙ ap (λ y. Some (use_of y n)) w.rule_same)
      (concludes j (of_use used w.site.context) i (omega (arith, l)) (λ y z. premise (Follows facts st.implications) w.site.context y w.follows z) (λ y z. none_is_some y z))
  slot_stands kk k r q g at e par w (with_arguments f n a b none complete) =
      let same : f ≡ g = one_of (ref_at_site (seen read w.site)) f g a (ap ref_at_site w.same ∙ e) in
      absurd (is_parameter_used w.site.found.rule n r g (ap (slice_get rs) w.rule_same ∙ at) (b ∙ ap (λ (y : S.Ref). Some (ref_name y)) same) none (is_among (parameters_in r) (ref_name g) k par))

  served_at : (place : ℕ) (e : Standing) → slice_get st.standing place ≡ Some e → IsServed keys read t.texts st e
  served_at place e x = s.served place e (slice_get_within st.standing place e x) x

  mutual
    live_stands : (k : ℕ) (r : S.Rule) (p : Site) → slice_get rs k ≡ Some r → IsLive rs r p → Stands k p
    live_stands k r p x (outer c) = outer_stands k r p x c
    live_stands k r p x (inner {q = q} {f = f} {x = a} place l e n g i c) = let w = live_stands k r q x l in inner_stands k r q p f a place x e n g c w (slot_follows (ref_name f) place i) (served_at w.place w.site w.there)

    slot_follows : (m : Text) (k : ℕ) → IsLiveSlot rs m k → HasSlot m k
    slot_follows m k (slot {s = r} {u = q} {g = g} j c e l h par) =
        let at = place_of rs r c in
        let w = live_stands at.0 r q at.1 l in
        subst (λ n. HasSlot n j) e (slot_stands at.0 j r q g at.1 h par w (served_at w.place w.site w.there))

  -- what was found where it follows

  module _ (flags : List Bool) (follow : AreFollowing facts st.implications flags) where
    flagged : (x : ℕ) → slice_index_or flags x false ≡ true → slice_get flags x ≡ Some true
    flagged x e = go flags x e
      where
        go : (bs : List Bool) (y : ℕ) → slice_index_or bs y false ≡ true → slice_get bs y ≡ Some true
        go [] y h = absurd (true≢false (sym h))
        go (b ∷ bs) zero h = ap Some h
        go (b ∷ bs) (suc y) h = go bs y h

    in_flags : (x : ℕ) → slice_get flags x ≡ Some true → slice_index_or flags x false ≡ true
    in_flags x e = go flags x e
      where
        go : (bs : List Bool) (y : ℕ) → slice_get bs y ≡ Some true → slice_index_or bs y false ≡ true
        go [] y h = cc
        go (b ∷ bs) zero h = cc
        go (b ∷ bs) (suc y) h = go bs y h

    found_from : (es : List Standing) (k : ℕ) (f : Found) → slice_get (live_in flags es) k ≡ Some f → (m : ℕ) × ((e : Standing) × ((slice_get es m ≡ Some e) × ((e.found ≡ f) × (slice_index_or flags e.context false ≡ true))))
    found_from [] k f h = cc
    found_from (e ∷ es) k f h = by (slice_index_or flags e.context false) refl k h (λ j. found_from es j f)
      where
        by : (b : Bool) → slice_index_or flags e.context false ≡ b → (j : ℕ) → slice_get (if b then e.found ∷ live_in flags es else live_in flags es) j ≡ Some f → ((i : ℕ) → slice_get (live_in flags es) i ≡ Some f → (m : ℕ) × ((x : Standing) × ((slice_get es m ≡ Some x) × ((x.found ≡ f) × (slice_index_or flags x.context false ≡ true))))) → (m : ℕ) × ((x : Standing) × ((slice_get (e ∷ es) m ≡ Some x) × ((x.found ≡ f) × (slice_index_or flags x.context false ≡ true))))
        by true g zero i next = (0, (e, (refl, ((let same : e.found ≡ f = cc in same), g))))
        by true g (suc j) i next = let w = next j i in (suc w.0, w.1)
        by false g j i next = let w = next j i in (suc w.0, w.1)

    found_in : (es : List Standing) (m : ℕ) (e : Standing) → slice_get es m ≡ Some e → slice_index_or flags e.context false ≡ true → (k : ℕ) × (slice_get (live_in flags es) k ≡ Some e.found)
    found_in [] m e h g = cc
    found_in (x ∷ es) zero e h g =
        let same : x ≡ e = cc in
        (0, subst (λ b. slice_get (if b then x.found ∷ live_in flags es else live_in flags es) 0 ≡ Some e.found) (sym (ap (λ (y : Standing). slice_index_or flags y.context false) same ∙ g)) (ap (λ (y : Standing). Some y.found) same))
    found_in (x ∷ es) (suc m) e h g = by (slice_index_or flags x.context false) (found_in es m e h g)
      where
        by : (b : Bool) → (k : ℕ) × (slice_get (live_in flags es) k ≡ Some e.found) → (k : ℕ) × (slice_get (if b then x.found ∷ live_in flags es else live_in flags es) k ≡ Some e.found)
        by true w = (suc w.0, w.1)
        by false w = w

    pub are_live : AreLive rs read (live_in flags st.standing)
    are_live = record {
      sound = λ f c.
          let p = place_of (live_in flags st.standing) f c in
          let w = found_from st.standing p.0 f p.1 in
          let r = s.placed_in w.0 w.1.0 w.1.1.0 in
          let follows = (follow.each w.1.0.context).0 (flagged w.1.0.context w.1.1.1.1) in
          let same = w.1.1.1.0 in
          (r.0, (sym (ap (λ (x : Found). slice_get rs x.rule) same) ∙ r.1, subst (λ (x : Found). IsLive rs r.0 (view_site read x.site)) same ((true_is w.1.0.context follows).sites w.0 w.1.0 r.0 w.1.1.0 refl r.1)));
      complete = λ k r p x l.
          let w = live_stands k r p x l in
          let i = found_in st.standing w.place w.site w.there (in_flags w.site.context ((follow.each w.site.context).1 w.follows)) in
          (w.site.found, (contained (live_in flags st.standing) i.0 w.site.found i.1, (w.rule_same, w.same)));
    }
