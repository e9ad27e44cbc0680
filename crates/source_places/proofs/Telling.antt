-- The place that is told of what links have led to.
use Rattle.std.proofs.Common.{◌≡◌, ◌++◌, ℕ, Bool, List, Option, Some, None, option_map, slice_get, sym, ap, subst, ◌∙◌}
use Rattle.std.specs.List.{Contains}
use Rattle.lists.proofs.Lemmas.{contains_at, one_of, same_some}
use Rattle.tree_nodes.specs.Syntax.Syntax as S
use Rattle.cddl_language.specs.Language.{reference}
use Rattle.cddl_language.specs.Reading.{name_in, rules_of}
use Rattle.cddl_language.specs.Terms.{Ref, name_of}
use Rattle.check_terms.specs.Table.{Table}
use Rattle.table_making.specs.Basis.{Sense}
use Rattle.table_making.specs.Nodes.{IsNameOfType}
use Rattle.table_making.specs.declared.making.Nodes.{Nodes}
use Rattle.type_links.specs.declared.link.Link.{Link}
use Rattle.source_pieces.specs.Instances.{has_arguments, term_in}
use Rattle.source_pieces.specs.Pieces.{told_name}
use Rattle.source_places.specs.Places.{IsPlace, IsShown, IsWritten, Leads, LeadsTo, a_piece, the_body, IsSought}
use Rattle.source_pieces.specs.Rules.{IsRuleAt}
use Rattle.source_places.specs.Sources.{AreTypesOf}
use Rattle.source_pieces.specs.Spans.{IsNameSpan, IsSpan, body_tokens}
use Rattle.source_places.specs.States.{IsFoundAfter, IsOfLast, IsStateAfter, IsTold, LeadsIn}
use Rattle.source_pieces.specs.declared.piece.PieceAt.{PieceAt}
use Rattle.source_places.specs.declared.place.Place.{Place}
use Rattle.source_places.specs.declared.place.State.{State}
use Rattle.source_pieces.specs.declared.rules.RuleAt.{RuleAt}
use Rattle.source_places.specs.declared.sources.TypesInText.{TypesInText}
use Rattle.source_pieces.specs.declared.span.Span.{Span}
use Rattle.source_places.proofs.Stepping.{found_piece}
use Rattle.source_places.proofs.Naming.{begins, instance_number, named_rule, no_rule}
use Rattle.source_places.proofs.Standing.{leads, plain_stands, spot, written_at}

-- With the terms as they are in the instance q, of which the last link to a rule of the text is.
module _ (s : Sense) (terms : Table) (nodes : Nodes) (x : TypesInText) (q : Ref) (k : AreTypesOf (term_in q) s terms nodes x) (one_span : (ts : List S.Lexeme) (a b : Span) → IsSpan ts a → IsSpan ts b → a ≡ b) where
  -- a state after links tells the place of the last of them
  pub is_place : (chain : List Link) (st : State) (found : Option PieceAt) (p : Place) → ((ids : List Link) → IsFoundAfter x st ids → LeadsIn x st.number None ids found) → IsOfLast (IsNameOfType s terms nodes) q x chain → x.filled ≡ has_arguments q → IsStateAfter x chain st → IsTold x st found p → IsPlace (rules_of s.tree) (IsNameOfType s terms nodes) chain p
  is_place chain st found p after last filled h told = by found (after h.inside h.found) told
    where
      to : LeadsTo (IsNameOfType s terms nodes) (reference q) h.instance
      to = last h.before h.instance (h.inside ++ h.outside) h.split (st.number, st.rule, h.number, h.rule) h.last

      named : slice_get k.made.more.texts st.number ≡ Some (name_of q)
      named =
          let w = instance_number s terms nodes x (term_in q) k q h.instance to in
          subst (λ (n : ℕ). slice_get k.made.more.texts n ≡ Some (name_of q)) (same_some (sym w.1 ∙ h.number)) w.2

      d : (r : S.Rule) × (slice_get (rules_of s.tree) st.rule ≡ Some r) × IsRuleAt k.made.more r h.rule.at × (name_in r ≡ name_of q)
      d = named_rule s terms nodes x (term_in q) k st.rule st.number (name_of q) h.rule named

      number : slice_get k.made.more.texts st.number ≡ Some (name_in d.0)
      number = named ∙ ap Some (sym d.3)

      of_rule : (i : ℕ) (a : RuleAt) → slice_get x.rules.items i ≡ Some a → p.name ≡ a.name → ((r : S.Rule) → slice_get (rules_of s.tree) i ≡ Some r → IsSpan (body_tokens r) a.body → IsShown (rules_of s.tree) (IsNameOfType s terms nodes) (term_in q) (name_in d.0) (has_arguments q) r h.inside p.types p.written) → IsPlace (rules_of s.tree) (IsNameOfType s terms nodes) chain p
      of_rule i a there name shown =
          let r = k.made.rules.told i a there in
          record {
            before = h.before;
            instance = h.instance;
            inside = h.inside;
            outside = h.outside;
            split = h.split;
            defined = d.0;
            is_defined = contains_at (rules_of s.tree) st.rule d.0 d.1;
            is_instance = (q, to, sym d.3);
            rule = r.0;
            there = contains_at (rules_of s.tree) i r.0 r.1;
            last = λ m c. no_rule s terms nodes x (term_in q) k m (h.last m c);
            passed = begins s terms nodes x (term_in q) k h.outside st.is_inside h.passed;
            name = subst (IsNameSpan r.0) (sym name) r.2.name;
            shown = shown r.0 r.1 r.2.body;
          }

      lead : {o : Option PieceAt} → LeadsIn x st.number None h.inside o → Leads (rules_of s.tree) (IsNameOfType s terms nodes) (term_in q) (name_in d.0) None h.inside (option_map (spot s terms nodes x (term_in q) k one_span) o)
      lead l = leads s terms nodes x (term_in q) k one_span st.number (name_in d.0) number l

      at_piece : (b : PieceAt) → Contains x.pieces.items b → (o : Option Link) → LeadsIn x st.number None h.inside (Some (record b { asked = o })) → IsTold x st (Some (record b { asked = o })) p → IsPlace (rules_of s.tree) (IsNameOfType s terms nodes) chain p
      at_piece b c o l t =
          of_rule b.rule t.0 t.1 t.2
          (λ r there body.
          let at = k.made.pieces.each b c in
          let same : at.rule ≡ r = one_of (slice_get (rules_of s.tree) b.rule) at.rule r at.there there in
          let w = written_at s terms nodes x (term_in q) k one_span st.number (name_in d.0) number b o at p.written t.4 in
          let in_rule = subst (λ (z : S.Rule). IsWritten (rules_of s.tree) (IsNameOfType s terms nodes) (term_in q) (name_in d.0) x.filled (IsSought (rules_of s.tree) (IsNameOfType s terms nodes) (term_in q) x.filled o (told_name (term_in q z) at.piece)) b.span p.written) same w in
          let of_flag = subst (λ (f : Bool). IsWritten (rules_of s.tree) (IsNameOfType s terms nodes) (term_in q) (name_in d.0) f (IsSought (rules_of s.tree) (IsNameOfType s terms nodes) (term_in q) f o (told_name (term_in q r) at.piece)) b.span p.written) filled in_rule in
          a_piece (lead l) (plain_stands s terms nodes x (term_in q) k one_span b at) same t.3 (subst (λ (z : Span). IsWritten (rules_of s.tree) (IsNameOfType s terms nodes) (term_in q) (name_in d.0) (has_arguments q) (IsSought (rules_of s.tree) (IsNameOfType s terms nodes) (term_in q) (has_arguments q) o (told_name (term_in q r) at.piece)) z p.written) (sym t.3) of_flag))

      by : (o : Option PieceAt) → LeadsIn x st.number None h.inside o → IsTold x st o p → IsPlace (rules_of s.tree) (IsNameOfType s terms nodes) chain p
      by None l t =
          of_rule st.rule t.0 t.1 t.2
          (λ r there body.
          let same : d.0 ≡ r = one_of (slice_get (rules_of s.tree) st.rule) d.0 r d.1 there in
          let whole = the_body (ap name_in (sym same)) (lead l) (subst (IsSpan (body_tokens r)) (sym t.3) body) in
          subst (IsShown (rules_of s.tree) (IsNameOfType s terms nodes) (term_in q) (name_in d.0) (has_arguments q) r h.inside p.types) (t.3 ∙ sym t.4) whole)
      by (Some a) l t = let f = found_piece x st.number h.inside a l in at_piece f.piece f.contained a.asked (subst (λ (z : PieceAt). LeadsIn x st.number None h.inside (Some z)) f.same l) (subst (λ (z : PieceAt). IsTold x st (Some z) p) f.same t)
