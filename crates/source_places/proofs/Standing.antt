-- What numbers say of places is so of the names for which the table's types stand.
use Rattle.std.proofs.Common.{◌≡◌, ℕ, ◌+◌, ◌<◌, drop, if◌then◌else◌, nat_eq, arith, Bool, true, false, List, [], ◌∷◌, Option, Some, None, option_map, slice_get, refl, sym, ap, subst, ◌∙◌}
use Rattle.std.specs.List.{Contains}
use Rattle.lists.proofs.Lemmas.{is_equal, no_some, one_of, same_some, some_none, test_equal}
use Rattle.tree_nodes.specs.Syntax.Syntax as S
use Rattle.cddl_language.specs.Language.{TypeName}
use Rattle.cddl_language.specs.Reading.{name_in, rules_of}
use Rattle.cddl_language.specs.Terms.{Term, Text}
use Rattle.check_terms.specs.Table.{Table}
use Rattle.table_making.specs.Basis.{Sense}
use Rattle.table_making.specs.Nodes.{IsNameOfType}
use Rattle.table_making.specs.declared.origin.TypeOrigin.{TypeOrigin}
use Rattle.table_nodes.specs.declared.nodes.TypeId.{TypeId}
use Rattle.table_making.specs.declared.making.Nodes.{Nodes}
use Rattle.type_links.specs.declared.link.Link.{Link}
use Rattle.type_links.specs.declared.link.Link.TheVariants as L
use Rattle.source_pieces.specs.Origins.{AreRound, AreRoundIt, IsClosedKey, IsClosedPiece, IsNumberOf, MayBeClosed, MayBeIn, Stands as IsThere, called_in}
use Rattle.source_pieces.specs.Pieces.{Around, Called, Piece, a_key, a_member, a_type, a_value, a_word, an_entry, brackets, in_rule, name_there, plain, the_rule, name_of_piece, told_name, tokens_of_piece, unwrapped}
use Rattle.source_places.specs.Places.{AreAlike, AreEnds, AreNoPair, ArePairAt, IsEntryAt, IsEntryNamed, IsEntryUnwrapped, IsEntryWithin, IsKeyAt, IsOf, IsOneAt, IsSpliced, IsTypeAt, IsUnfilledAt, IsValueAt, IsWritten, Leads, Stands, StandsAt, StandsFor, StandsIn, alone, are_ends, arrives, as_it_is, by_unwrapping, in_a_rule, in_group, in_map, itself, named, named_alone, named_in_group, named_in_map, of_entry, of_key, of_type as of_one_type, of_unfilled, of_value, passes, to_one, to_pair, within, IsSought, IsValueAsked as IsValueAskedAt, elsewhere, of_asked, of_map, IsAskedIn as IsAskedAt, IsAway as IsAwayAt, as_before, of_argument, unfilled}
use Rattle.source_pieces.specs.Rules.{IsRuleAt}
use Rattle.source_places.specs.Sources.{AreTypesOf}
use Rattle.source_pieces.specs.Spans.{IsSpan, body_tokens, is_generic}
use Rattle.source_places.specs.Spots.{IsWithin, Spot, asking, plainly}
use Rattle.source_pieces.specs.Walk.{called}
use Rattle.source_places.specs.States.{AreAlikeIn, AreNoPairIn, ArePairIn, HasNumber, IsEntryNamed as IsNamedNumbers, IsEntryOf, IsEntryUnwrapped as IsUnwrappedNumbers, IsEntryWithin as IsWithinNumbers, IsFrom, IsInBody, IsKeyIn, IsMember, IsOneIn, IsSplicedIn, IsTypeIn, IsInMapFrom, IsUnfilledIn, IsValueIn, IsWrittenIn, LeadsIn, alone as numbers_alone, arrives as by_none, as_it_is as by_itself, by_unwrapping as by_unwrapped, count_in, counted, ends_of, named as by_name, named_alone as numbered_alone, named_in_group as numbered_in_group, named_in_map as numbered_in_map, of_entry as by_entry, of_key as by_key, of_type as by_type, of_unfilled as by_unfilled, of_value as by_value, origin_at, passes as gone_by, to_one as by_one, to_pair as by_pair, itself as number_itself, in_its_group, in_its_brackets, plain_name, told_origin, unwrapped_name, within as by_brackets, IsValueAsked, asking as asking_at, elsewhere as by_elsewhere, if_filled, of_asked as by_asked, of_map as by_map, sought_by, IsAskedIn, IsAway, as_before as by_before, it_asks, it_is, unfilled as by_unfilled_rule, IsUnfilled}
use Rattle.source_pieces.specs.declared.piece.EntryAt.{EntryAt}
use Rattle.source_pieces.specs.declared.piece.NameAt.{NameAt}
use Rattle.source_pieces.specs.declared.piece.PieceAt.{PieceAt}
use Rattle.source_pieces.specs.declared.rules.RuleAt.{RuleAt}
use Rattle.source_places.specs.declared.sources.TypesInText.{TypesInText}
use Rattle.source_pieces.specs.declared.span.Span.{Span}
use Rattle.source_places.proofs.Calling.{number_there, plain_there, text_at, unwrapped_text, unwrapped_there}
use Rattle.source_places.proofs.Counting.{AreLike, counted_so, has_number, like_drop, make}
use Rattle.source_places.proofs.Told.{may_name, value_typed, one_name, one_origin, origin_of, piece_name, place_alone, told_by, told_with}
use Rattle.source_places.proofs.Naming.{led_from, led_to, named_piece, named_rule, type_origin, value_is_of}

-- the part of the text where a piece stands, with the name that it is, by its number
abbrev pub spot_of : Table → PieceAt → Spot
spot_of t a = record { rule = a.rule; span = a.span; name = text_at t a.name; asked = a.asked }

module _ (s : Sense) (terms : Table) (nodes : Nodes) (x : TypesInText) (closed : S.Rule → Term → Term) (k : AreTypesOf closed s terms nodes x) (one_span : (ts : List S.Lexeme) (a b : Span) → IsSpan ts a → IsSpan ts b → a ≡ b) where
  -- what is found stands there

  abbrev pub spot : PieceAt → Spot
  spot a = spot_of k.made.more a

  pub name_there_is : (o : Option Called) (m : Option NameAt) → IsNumberOf k.made.more o m → text_at k.made.more m ≡ o
  name_there_is None m h = ap (text_at k.made.more) h
  name_there_is (Some y) m h = ap (text_at k.made.more) h.1 ∙ h.2

  abbrev stands : (a : PieceAt) → (st : IsThere closed k.made.more (rules_of s.tree) a) → Stands (rules_of s.tree) (IsNameOfType s terms nodes) st.piece (spot a)
  stands a st = record { rule = st.rule; there = st.there; contained = st.contained; span = st.is.span; name = name_there_is (name_there st.piece) a.name st.is.name; own = st.is.own }

  -- what stands there is found

  abbrev pub plain_stands : (a : PieceAt) → (st : IsThere closed k.made.more (rules_of s.tree) a) → Stands (rules_of s.tree) (IsNameOfType s terms nodes) st.piece (plainly (spot a))
  plain_stands a st = record { rule = st.rule; there = st.there; contained = st.contained; span = st.is.span; name = name_there_is (name_there st.piece) a.name st.is.name; own = refl }

  same_span : (a b : Span) → a.first ≡ b.first → a.end ≡ b.end → a ≡ b
  same_span a b e f = ap (λ (n : ℕ). record { first = n; end = a.end }) e ∙ ap (λ (n : ℕ). record { first = b.first; end = n }) f

  same_spot : (a b : Spot) → a.rule ≡ b.rule → a.span ≡ b.span → a.name ≡ b.name → a.asked ≡ b.asked → a ≡ b
  same_spot a b e f g h =
      ap (λ (n : ℕ). record { rule = n; span = a.span; name = a.name; asked = a.asked }) e
      ∙ ap (λ (z : Span). record { rule = b.rule; span = z; name = a.name; asked = a.asked }) f
      ∙ ap (λ (o : Option Called). record { rule = b.rule; span = b.span; name = o; asked = a.asked }) g
      ∙ ap (λ (o : Option Link). record { rule = b.rule; span = b.span; name = b.name; asked = o }) h

  piece_there : (p : Piece) (at : Spot) → (h : Stands (rules_of s.tree) (IsNameOfType s terms nodes) p at) → (a : PieceAt) × Contains x.pieces.items a × (spot a ≡ at) × IsClosedPiece (closed h.rule) k.made.more p a
  piece_there p at h =
      let a = k.made.pieces.all at.rule h.rule p h.there h.contained in
      let name : text_at k.made.more a.0.name ≡ at.name = name_there_is (name_there p) a.0.name a.3.name ∙ sym h.name in
      (a.0, a.1, same_spot (spot a.0) at a.2 (one_span (tokens_of_piece p) a.0.span at.span a.3.span h.span) name (a.3.own ∙ sym h.own), a.3)

  rules_like : AreLike (rules_of s.tree) (IsNameOfType s terms nodes) k.made.more k.made.distinct (rules_of s.tree) x.rules.items
  rules_like = record { told = k.made.rules.told; all = k.made.rules.all }

  -- what is round a group is the part of the text that was found

  round_ends : (z : Span) (r : Around) (m : Option Span) → AreRound r m → m ≡ Some z → AreEnds z r
  round_ends z (brackets o c) m b e = let span : z ≡ b.0 = same_some (sym e ∙ b.1) in are_ends (ap (λ (w : Span). w.first) span ∙ b.2) (ap (λ (w : Span). w.end) span ∙ b.3)
  round_ends z the_rule m b e = absurd (some_none (sym e ∙ b))

  ends_round : (z : Span) (r : Around) (m : Option Span) → AreEnds z r → AreRound r m → m ≡ Some z
  ends_round z r m (are_ends opens closes) b = b.1 ∙ ap Some (same_span b.0 z (b.2 ∙ sym opens) (b.3 ∙ sym closes))

  -- a name whose text is there is known
  known_name : (n : NameAt) (y : Called) → called_in k.made.more n ≡ Some y → n.number < x.names
  known_name n y e = by (slice_get k.made.more.texts n.number) refl e
    where
      by : (o : Option Text) → slice_get k.made.more.texts n.number ≡ o → option_map (called n.is_unwrapped) o ≡ Some y → n.number < x.names
      by None f g = cc
      by (Some z) f g = k.made.names n.number z f

  -- an entry of what was found, in brackets or by its name
  entry_within_at : (around a : PieceAt) (j i : ℕ) → IsWithinNumbers x around j i a → IsEntryWithin (rules_of s.tree) (IsNameOfType s terms nodes) (spot around) j i (spot a)
  entry_within_at around a j i h = by st.piece st.is.around st.is.entry (stands a st)
    where
      st : IsThere closed k.made.more (rules_of s.tree) a
      st = k.made.pieces.each a h.contained

      by : (p : Piece) → AreRoundIt p a.around → MayBeIn p a.entry → Stands (rules_of s.tree) (IsNameOfType s terms nodes) p (spot a) → IsEntryWithin (rules_of s.tree) (IsNameOfType s terms nodes) (spot around) j i (spot a)
      by (an_entry r l z e) b g there =
          let same : h.is.entry ≡ g.0 = same_some (sym h.is.there ∙ g.1) in
          let alternative : l ≡ j = sym g.2.alternative ∙ ap (λ (b : EntryAt). b.alternative) (sym same) ∙ h.is.same_alternative in
          let place : z ≡ i = sym g.2.place ∙ ap (λ (b : EntryAt). b.place) (sym same) ∙ h.is.same_place in
          record {
            round = r;
            inner = e;
            stands = subst (λ (w : ℕ). Stands (rules_of s.tree) (IsNameOfType s terms nodes) (an_entry r j w e) (spot a)) place (subst (λ (w : ℕ). Stands (rules_of s.tree) (IsNameOfType s terms nodes) (an_entry r w z e) (spot a)) alternative there);
            rule = h.rule;
            ends = round_ends around.span r a.around b h.round;
          }
      by (a_type z) b g there = absurd (some_none (sym h.is.there ∙ g))
      by (a_word w) b g there = absurd (some_none (sym h.is.there ∙ g))
      by (a_key r q) b g there = absurd (some_none (sym h.is.there ∙ g))
      by (a_value r q z) b g there = absurd (some_none (sym h.is.there ∙ g))
      by (a_member r z) b g there = absurd (some_none (sym h.is.there ∙ g))

  rule_counted : (i n own : ℕ) → own < count_in n (slice_get x.rules.items i) → (at : RuleAt) × (slice_get x.rules.items i ≡ Some at) × (at.number ≡ n) × (own < at.alternatives)
  rule_counted i n own h = by (slice_get x.rules.items i) refl h
    where
      by : (o : Option RuleAt) → slice_get x.rules.items i ≡ o → own < count_in n o → (at : RuleAt) × (slice_get x.rules.items i ≡ Some at) × (at.number ≡ n) × (own < at.alternatives)
      by None e l = absurd (omega (arith, l))
      by (Some at) e l = on (nat_eq at.number n) refl
        where
          on : (b : Bool) → nat_eq at.number n ≡ b → (at : RuleAt) × (slice_get x.rules.items i ≡ Some at) × (at.number ≡ n) × (own < at.alternatives)
          on true f = (at, e, is_equal at.number n f, subst (λ (b : Bool). own < (if b then at.alternatives else 0)) f l)
          on false f = let none : own < 0 = subst (λ (b : Bool). own < (if b then at.alternatives else 0)) f l in absurd (omega (arith, none))

  entry_named_at : (around a : PieceAt) (j i : ℕ) → IsNamedNumbers x around j i a → IsEntryNamed (rules_of s.tree) (IsNameOfType s terms nodes) (spot around) j i (spot a)
  entry_named_at around a j i h = by st.piece st.is.around st.is.entry (stands a st) refl
    where
      st : IsThere closed k.made.more (rules_of s.tree) a
      st = k.made.pieces.each a h.is.is.contained

      at : (at : RuleAt) × (slice_get x.rules.items a.rule ≡ Some at) × (at.number ≡ h.name) × (h.is.own < at.alternatives)
      at = rule_counted a.rule h.name h.is.own h.is.is_alternative.less

      told : (r : S.Rule) × (slice_get (rules_of s.tree) a.rule ≡ Some r) × IsRuleAt k.made.more r at.0
      told = k.made.rules.told a.rule at.0 at.1

      same_rule : told.0 ≡ st.rule
      same_rule = one_of (slice_get (rules_of s.tree) a.rule) told.0 st.rule told.1 st.there

      rule : IsRuleAt k.made.more st.rule at.0
      rule = subst (λ (r : S.Rule). IsRuleAt k.made.more r at.0) same_rule told.2

      number : slice_get k.made.more.texts h.name ≡ Some (name_in st.rule)
      number = ap (slice_get k.made.more.texts) (sym at.2) ∙ rule.number

      by : (p : Piece) → AreRoundIt p a.around → MayBeIn p a.entry → (there : Stands (rules_of s.tree) (IsNameOfType s terms nodes) p (spot a)) → there.rule ≡ st.rule → IsEntryNamed (rules_of s.tree) (IsNameOfType s terms nodes) (spot around) j i (spot a)
      by (an_entry the_rule l z e) b g there is =
          let same : h.is.is.is.entry ≡ g.0 = same_some (sym h.is.is.is.there ∙ g.1) in
          let alternative : l ≡ h.is.own = sym g.2.alternative ∙ ap (λ (b : EntryAt). b.alternative) (sym same) ∙ h.is.is.is.same_alternative in
          let place : z ≡ i = sym g.2.place ∙ ap (λ (b : EntryAt). b.place) (sym same) ∙ h.is.is.is.same_place in
          let there_so : Stands (rules_of s.tree) (IsNameOfType s terms nodes) (an_entry the_rule h.is.own i e) (spot a) = record {
            rule = st.rule;
            there = st.there;
            contained = subst (λ (w : ℕ). Contains (in_rule st.rule) (an_entry the_rule h.is.own w e)) place (subst (λ (w : ℕ). Contains (in_rule st.rule) (an_entry the_rule w z e)) alternative (subst (λ (r : S.Rule). Contains (in_rule r) (an_entry the_rule l z e)) is there.contained));
            span = there.span;
            name = there.name;
            own = there.own;
          } in
          record {
            name = name_in st.rule;
            is_name = ap (text_at k.made.more) h.is_name ∙ ap (option_map (called false)) number;
            own = h.is.own;
            inner = e;
            stands = there_so;
            named = refl;
            less = let l = at.3 in let c = rule.alternatives in omega (arith, l, c);
            after = counted h.name (drop (a.rule + 1) x.rules.items);
            make = make (rules_of s.tree) (IsNameOfType s terms nodes) k.made.more k.made.distinct h.name (name_in st.rule) number (drop (a.rule + 1) (rules_of s.tree)) (drop (a.rule + 1) x.rules.items) (like_drop (rules_of s.tree) (IsNameOfType s terms nodes) k.made.more k.made.distinct (a.rule + 1) (rules_of s.tree) x.rules.items rules_like);
            whole = h.is.is_alternative.after;
          }
      by (an_entry (brackets o c) l z e) b g there is = absurd (some_none (sym b.1 ∙ h.is.is.round))
      by (a_type z) b g there is = absurd (some_none (sym h.is.is.is.there ∙ g))
      by (a_word w) b g there is = absurd (some_none (sym h.is.is.is.there ∙ g))
      by (a_key r q) b g there is = absurd (some_none (sym h.is.is.is.there ∙ g))
      by (a_value r q z) b g there is = absurd (some_none (sym h.is.is.is.there ∙ g))
      by (a_member r z) b g there is = absurd (some_none (sym h.is.is.is.there ∙ g))

  -- a name that stands for the group of a piece

  rule_there : (i n : ℕ) (h : HasNumber x i n) (r : S.Rule) → slice_get (rules_of s.tree) i ≡ Some r → IsRuleAt k.made.more r h.at
  rule_there i n h r there =
      let told = k.made.rules.told i h.at h.there in
      subst (λ (q : S.Rule). IsRuleAt k.made.more q h.at) (one_of (slice_get (rules_of s.tree) i) told.0 r told.1 there) told.2

  body_called : (a : PieceAt) (n : NameAt) (st : IsThere closed k.made.more (rules_of s.tree) a) → IsInBody x a n → called_in k.made.more n ≡ Some (called n.is_unwrapped (name_in st.rule))
  body_called a n st h = ap (option_map (called n.is_unwrapped)) (ap (slice_get k.made.more.texts) (sym h.rule.same) ∙ (rule_there a.rule n.number h.rule st.rule st.there).number)

  stands_for : (a : PieceAt) (n : NameAt) (st : IsThere closed k.made.more (rules_of s.tree) a) (r : Around) → IsInBody x a n → AreRound r a.around → StandsFor (called n.is_unwrapped (name_in st.rule)) st.rule r
  stands_for a n st r h b = by n.is_unwrapped r h.around b
    where
      by : (f : Bool) (r : Around) → a.around ≡ ends_of f h.rule.at → AreRound r a.around → StandsFor (called f (name_in st.rule)) st.rule r
      by false the_rule e b = (refl, refl)
      by false (brackets o c) e b = absurd (some_none (sym b.1 ∙ e))
      by true r e b = (refl, record { span = h.rule.at.body; is = (rule_there a.rule n.number h.rule st.rule st.there).body; ends = round_ends h.rule.at.body r a.around b e })

  entry_within_in : (around : PieceAt) (j i : ℕ) (at : Spot) → IsEntryWithin (rules_of s.tree) (IsNameOfType s terms nodes) (spot around) j i at → (a : PieceAt) × IsWithinNumbers x around j i a
  entry_within_in around j i at h =
      let w = piece_there (an_entry h.round j i h.inner) at h.stands in
      let g = w.3.entry in
      let rule : w.0.rule ≡ around.rule = ap (λ (z : Spot). z.rule) w.2 ∙ h.rule in
      (w.0, record { contained = w.1; rule = rule; round = ends_round around.span h.round w.0.around h.ends w.3.around; is = record { entry = g.0; there = g.1; same_alternative = g.2.alternative; same_place = g.2.place } })

  entry_named_in : (around : PieceAt) (j i : ℕ) (at : Spot) → IsEntryNamed (rules_of s.tree) (IsNameOfType s terms nodes) (spot around) j i at → (a : PieceAt) × IsNamedNumbers x around j i a
  entry_named_in around j i at h =
      let w = piece_there (an_entry the_rule h.own i h.inner) at h.stands in
      let a = w.0 in
      let g = w.3.entry in
      let m = number_there k.made.more around.name (plain h.name) h.is_name in
      let its_name = plain_there k.made.more m.0 h.name m.2 in
      let n : ℕ = m.0.number in
      let rule : a.rule ≡ at.rule = ap (λ (z : Spot). z.rule) w.2 in
      let ra = k.made.rules.all at.rule h.stands.rule h.stands.there in
      let told = k.made.rules.told at.rule ra.0 ra.1 in
      let is : told.0 ≡ h.stands.rule = one_of (slice_get (rules_of s.tree) at.rule) told.0 h.stands.rule told.1 h.stands.there in
      let its : IsRuleAt k.made.more h.stands.rule ra.0 = subst (λ (r : S.Rule). IsRuleAt k.made.more r ra.0) is told.2 in
      let number : ra.0.number ≡ n = has_number (rules_of s.tree) (IsNameOfType s terms nodes) k.made.more k.made.distinct n h.name its_name.1 h.stands.rule ra.0 its h.named in
      let count : count_in n (slice_get x.rules.items a.rule) ≡ ra.0.alternatives = ap (count_in n) (ap (slice_get x.rules.items) rule ∙ ra.1) ∙ ap (λ (b : Bool). if b then ra.0.alternatives else 0) (test_equal ra.0.number n number) in
      let after : counted n (drop (at.rule + 1) x.rules.items) ≡ h.after = counted_so (rules_of s.tree) (IsNameOfType s terms nodes) k.made.more k.made.distinct n h.name its_name.1 (drop (at.rule + 1) (rules_of s.tree)) (drop (at.rule + 1) x.rules.items) h.after (like_drop (rules_of s.tree) (IsNameOfType s terms nodes) k.made.more k.made.distinct (at.rule + 1) (rules_of s.tree) x.rules.items rules_like) h.make in (
        a,
        record {
          name = n;
          is_name = m.1 ∙ ap Some its_name.0;
          is = record {
            own = h.own;
            is_alternative = record {
              less = let l = h.less in let c = its.alternatives in omega (arith, l, c, count);
              after = ap (λ (r : ℕ). h.own + counted n (drop (r + 1) x.rules.items)) rule ∙ ap (λ (m : ℕ). h.own + m) after ∙ h.whole;
            };
            is = record { contained = w.1; rule = refl; round = w.3.around; is = record { entry = g.0; there = g.1; same_alternative = g.2.alternative; same_place = g.2.place } };
          };
        },
      )

  -- a rule has the number of its name
  rule_number : (i j n : ℕ) (y : Text) (r : S.Rule) → i ≡ j → slice_get (rules_of s.tree) j ≡ Some r → name_in r ≡ y → slice_get k.made.more.texts n ≡ Some y → HasNumber x i n
  rule_number i j n y r same there f e =
      let ra = k.made.rules.all j r there in
      let told = k.made.rules.told j ra.0 ra.1 in
      let is : told.0 ≡ r = one_of (slice_get (rules_of s.tree) j) told.0 r told.1 there in
      record { at = ra.0; there = ap (slice_get x.rules.items) same ∙ ra.1; same = k.made.distinct ra.0.number n y (told.2.number ∙ ap Some (ap name_in is ∙ f)) e }

  body_in : (a : PieceAt) (i : ℕ) (rule : S.Rule) (n : NameAt) (y : Called) (r : Around) → a.rule ≡ i → slice_get (rules_of s.tree) i ≡ Some rule → called_in k.made.more n ≡ Some y → StandsFor y rule r → AreRound r a.around → IsInBody x a n
  body_in a i rule n (plain y) r same there e for b =
      let w = plain_there k.made.more n y e in
      record {
        rule = rule_number a.rule i n.number y rule same there for.0 w.1;
        around = subst (λ (q : Around). AreRound q a.around) for.1 b ∙ ap (λ (z : NameAt). ends_of z.is_unwrapped (rule_number a.rule i n.number y rule same there for.0 w.1).at) (sym w.0);
      }
  body_in a i rule n (unwrapped y) r same there e for b =
      let w = unwrapped_there k.made.more n y e in
      let h = rule_number a.rule i n.number y rule same there for.0 w.1 in
      let its = rule_there a.rule n.number h rule (ap (slice_get (rules_of s.tree)) same ∙ there) in
      record {
        rule = h;
        around = ends_round for.1.span r a.around for.1.ends b ∙ ap Some (one_span (body_tokens rule) for.1.span h.at.body for.1.is its.body) ∙ ap (λ (z : NameAt). ends_of z.is_unwrapped h.at) (sym w.0);
      }

  -- the names that stand for entries that are a map's

  member_of : (n : NameAt) (y : Called) (a : PieceAt) → called_in k.made.more n ≡ Some y → IsMember x n a → (st : IsThere closed k.made.more (rules_of s.tree) a) → (r : Around) × (t : S.Types) × (st.piece ≡ a_member r t) × AreRound r a.around
  member_of n y a e m st = by st.piece refl st.is.entry st.is.around (sym (name_there_is (name_there st.piece) a.name st.is.name) ∙ ap (text_at k.made.more) m.name ∙ e)
    where
      by : (p : Piece) → st.piece ≡ p → MayBeIn p a.entry → AreRoundIt p a.around → name_there p ≡ Some y → (r : Around) × (t : S.Types) × (st.piece ≡ a_member r t) × AreRound r a.around
      by (a_member r t) is g b f = (r, t, is, b)
      by (an_entry r j i z) is g b f = absurd (some_none (sym g.1 ∙ m.alone))
      by (a_type z) is g b f = cc
      by (a_word w) is g b f = cc
      by (a_key r q) is g b f = cc
      by (a_value r q z) is g b f = cc

  member_stands : (a : PieceAt) (st : IsThere closed k.made.more (rules_of s.tree) a) (p : Piece) → st.piece ≡ p → (h : Stands (rules_of s.tree) (IsNameOfType s terms nodes) p (spot a)) × (h.rule ≡ st.rule)
  member_stands a st p e = subst (λ (q : Piece). (h : Stands (rules_of s.tree) (IsNameOfType s terms nodes) q (spot a)) × (h.rule ≡ st.rule)) e (stands a st, refl)

  alone_at : (map a : PieceAt) (y : Text) (st : IsThere closed k.made.more (rules_of s.tree) a) (r : Around) (t : S.Types) → st.piece ≡ a_member r t → (spot a).name ≡ Some (plain y) → AreRound r a.around → a.around ≡ None → IsSpliced (rules_of s.tree) (IsNameOfType s terms nodes) (spot map) (unwrapped (name_in st.rule)) → IsSpliced (rules_of s.tree) (IsNameOfType s terms nodes) (spot map) (unwrapped y)
  alone_at map a y st (brackets o c) t is name round none rest = absurd (some_none (sym round.1 ∙ none))
  alone_at map a y st the_rule t is name round none rest =
      let h = member_stands a st (a_member the_rule t) is in
      named_alone h.0 name (subst (λ (r : S.Rule). IsSpliced (rules_of s.tree) (IsNameOfType s terms nodes) (spot map) (unwrapped (name_in r))) (sym h.1) rest)

  spliced_at : (map : PieceAt) {n : NameAt} → IsSplicedIn x map n → (y : Called) → called_in k.made.more n ≡ Some y → IsSpliced (rules_of s.tree) (IsNameOfType s terms nodes) (spot map) y
  spliced_at map (numbered_in_map {n = n} {a = a} known m b) y e =
      let st = k.made.pieces.each a m.contained in
      let w = member_of n y a e m st in
      let h = member_stands a st (a_member w.0 w.1) w.2 in
      named_in_map h.0 (ap (text_at k.made.more) m.name ∙ e) b.0 (round_ends map.span w.0 a.around w.3 b.1)
  spliced_at map (numbered_in_group {n = n} {m = j} {a = a} known m b g) y e =
      let st = k.made.pieces.each a m.contained in
      let w = member_of n y a e m st in
      let h = member_stands a st (a_member w.0 w.1) w.2 in
      let z = called j.is_unwrapped (name_in st.rule) in
      named_in_group h.0 (ap (text_at k.made.more) m.name ∙ e) (spliced_at map g z (body_called a j st b)) (subst (λ (r : S.Rule). StandsFor z r w.0) (sym h.1) (stands_for a j st w.0 b w.3))
  spliced_at map (numbered_alone {n = n} {m = j} {a = a} known m b g) y e =
      let st = k.made.pieces.each a m.contained in
      let t = unwrapped_text k.made.more n y e in
      let plain_is : called_in k.made.more (plain_name n) ≡ Some (plain t.0) = ap (option_map (called false)) t.2 in
      let w = member_of (plain_name n) (plain t.0) a plain_is m st in
      let number : slice_get k.made.more.texts j ≡ Some (name_in st.rule) = ap (slice_get k.made.more.texts) (sym b.rule.same) ∙ (rule_there a.rule j b.rule st.rule st.there).number in
      let rest = spliced_at map g (unwrapped (name_in st.rule)) (ap (option_map (called true)) number) in
      subst (IsSpliced (rules_of s.tree) (IsNameOfType s terms nodes) (spot map)) (sym t.1) (alone_at map a t.0 st w.0 w.1 w.2 (ap (text_at k.made.more) m.name ∙ plain_is) w.3 b.around rest)

  member_in : (r : Around) (t : S.Types) (at : Spot) (y : Called) → at.name ≡ Some y → (h : Stands (rules_of s.tree) (IsNameOfType s terms nodes) (a_member r t) at) → (a : PieceAt) × (n : NameAt) × IsMember x n a × (a.rule ≡ at.rule) × AreRound r a.around × (called_in k.made.more n ≡ Some y)
  member_in r t at y name h =
      let w = piece_there (a_member r t) at h in
      let g : IsNumberOf k.made.more (Some y) w.0.name = subst (λ (o : Option Called). IsNumberOf k.made.more o w.0.name) (sym h.name ∙ name) w.3.name in
      (w.0, g.0, record { contained = w.1; alone = w.3.entry; name = g.1 }, ap (λ (z : Spot). z.rule) w.2, w.3.around, g.2)

  spliced_in : (map : PieceAt) {y : Called} → IsSpliced (rules_of s.tree) (IsNameOfType s terms nodes) (spot map) y → (n : NameAt) × (called_in k.made.more n ≡ Some y) × IsSplicedIn x map n
  spliced_in map (named_in_map {a = r} {t = t} {at = at} {n = y} h name rule ends) =
      let w = member_in r t at y name h in
      (w.1, w.5, numbered_in_map (known_name w.1 y w.5) w.2 (w.3 ∙ rule, ends_round map.span r w.0.around ends w.4))
  spliced_in map (named_in_group {a = r} {t = t} {at = at} {n = y} {m = z} h name g for) =
      let w = member_in r t at y name h in
      let m = spliced_in map g in
      (w.1, w.5, numbered_in_group (known_name w.1 y w.5) w.2 (body_in w.0 at.rule h.rule m.0 z r w.3 h.there m.1 for w.4) m.2)
  spliced_in map (named_alone {t = t} {at = at} {n = y} h name g) =
      let w = member_in the_rule t at (plain y) name h in
      let m = spliced_in map g in
      let own = plain_there k.made.more w.1 y w.5 in
      let its = unwrapped_there k.made.more m.0 (name_in h.rule) m.1 in
      let in_rule = body_in w.0 at.rule h.rule (plain_name m.0.number) (plain (name_in h.rule)) the_rule w.3 h.there (ap (option_map (called false)) its.1) (refl, refl) w.4 in (
        unwrapped_name w.1.number,
        ap (option_map (called true)) own.1,
        numbered_alone (known_name w.1 (plain y) w.5) (subst (λ (z : NameAt). IsMember x z w.0) own.0 w.2) in_rule (subst (IsSplicedIn x map) its.0 m.2),
      )

  -- the names of which `~` gives what it gives of one

  alone_like : (a : PieceAt) (y z : Text) (st : IsThere closed k.made.more (rules_of s.tree) a) (r : Around) (t : S.Types) → st.piece ≡ a_member r t → (spot a).name ≡ Some (plain y) → AreRound r a.around → a.around ≡ None → AreAlike (rules_of s.tree) (IsNameOfType s terms nodes) z (name_in st.rule) → AreAlike (rules_of s.tree) (IsNameOfType s terms nodes) z y
  alone_like a y z st (brackets o c) t is name round none rest = absurd (some_none (sym round.1 ∙ none))
  alone_like a y z st the_rule t is name round none rest =
      let h = member_stands a st (a_member the_rule t) is in
      alone h.0 name (subst (λ (r : S.Rule). AreAlike (rules_of s.tree) (IsNameOfType s terms nodes) z (name_in r)) (sym h.1) rest)

  alike_at : {n i : ℕ} → AreAlikeIn x n i → (t : Text) → slice_get k.made.more.texts i ≡ Some t → (y : Text) × (slice_get k.made.more.texts n ≡ Some y) × AreAlike (rules_of s.tree) (IsNameOfType s terms nodes) y t
  alike_at (number_itself known) t e = (t, e, itself)
  alike_at (numbers_alone {k = i} {m = j} {a = a} known m b g) t e =
      let st = k.made.pieces.each a m.contained in
      let plain_is : called_in k.made.more (plain_name i) ≡ Some (plain t) = ap (option_map (called false)) e in
      let w = member_of (plain_name i) (plain t) a plain_is m st in
      let number : slice_get k.made.more.texts j ≡ Some (name_in st.rule) = ap (slice_get k.made.more.texts) (sym b.rule.same) ∙ (rule_there a.rule j b.rule st.rule st.there).number in
      let rest = alike_at g (name_in st.rule) number in
      (rest.0, rest.1, alone_like a t rest.0 st w.0 w.1 w.2 (ap (text_at k.made.more) m.name ∙ plain_is) w.3 b.around rest.2)

  alike_in : {y t : Text} → AreAlike (rules_of s.tree) (IsNameOfType s terms nodes) y t → (n : ℕ) → slice_get k.made.more.texts n ≡ Some y → (i : ℕ) × (slice_get k.made.more.texts i ≡ Some t) × AreAlikeIn x n i
  alike_in {y = y} itself n e = (n, e, number_itself (k.made.names n y e))
  alike_in (alone {t = t} {at = at} {m = y} h name g) n e =
      let w = member_in the_rule t at (plain y) name h in
      let own = plain_there k.made.more w.1 y w.5 in
      let rest = alike_in g n e in
      let in_rule = body_in w.0 at.rule h.rule (plain_name rest.0) (plain (name_in h.rule)) the_rule w.3 h.there (ap (option_map (called false)) rest.1) (refl, refl) w.4 in
      (w.1.number, own.1, numbers_alone (known_name w.1 (plain y) w.5) (subst (λ (z : NameAt). IsMember x z w.0) own.0 w.2) in_rule rest.2)

  -- an entry in the brackets of a rule, whose name what was found has after `~`
  entry_unwrapped_at : (around a : PieceAt) (j i : ℕ) → IsUnwrappedNumbers x around j i a → IsEntryUnwrapped (rules_of s.tree) (IsNameOfType s terms nodes) (spot around) j i (spot a)
  entry_unwrapped_at around a j i h = by st.piece st.is.around st.is.entry (stands a st) refl
    where
      st : IsThere closed k.made.more (rules_of s.tree) a
      st = k.made.pieces.each a h.is.contained

      number : slice_get k.made.more.texts h.is.name ≡ Some (name_in st.rule)
      number = ap (slice_get k.made.more.texts) (sym h.is.body.rule.same) ∙ (rule_there a.rule h.is.name h.is.body.rule st.rule st.there).number

      like : (y : Text) × (slice_get k.made.more.texts h.called ≡ Some y) × AreAlike (rules_of s.tree) (IsNameOfType s terms nodes) y (name_in st.rule)
      like = alike_at h.is.alike (name_in st.rule) number

      by : (p : Piece) → AreRoundIt p a.around → MayBeIn p a.entry → (there : Stands (rules_of s.tree) (IsNameOfType s terms nodes) p (spot a)) → there.rule ≡ st.rule → IsEntryUnwrapped (rules_of s.tree) (IsNameOfType s terms nodes) (spot around) j i (spot a)
      by (an_entry r l z e) b g there is =
          let same : h.is.is.entry ≡ g.0 = same_some (sym h.is.is.there ∙ g.1) in
          let alternative : l ≡ j = sym g.2.alternative ∙ ap (λ (b : EntryAt). b.alternative) (sym same) ∙ h.is.is.same_alternative in
          let place : z ≡ i = sym g.2.place ∙ ap (λ (b : EntryAt). b.place) (sym same) ∙ h.is.is.same_place in
          record {
            called = like.0;
            is_called = ap (text_at k.made.more) h.is_called ∙ ap (option_map (called true)) like.1;
            name = name_in st.rule;
            alike = like.2;
            round = r;
            inner = e;
            stands = record {
              rule = st.rule;
              there = st.there;
              contained = subst (λ (w : ℕ). Contains (in_rule st.rule) (an_entry r j w e)) place (subst (λ (w : ℕ). Contains (in_rule st.rule) (an_entry r w z e)) alternative (subst (λ (q : S.Rule). Contains (in_rule q) (an_entry r l z e)) is there.contained));
              span = there.span;
              name = there.name;
              own = there.own;
            };
            stands_for = stands_for a (unwrapped_name h.is.name) st r h.is.body b;
          }
      by (a_type z) b g there is = absurd (some_none (sym h.is.is.there ∙ g))
      by (a_word w) b g there is = absurd (some_none (sym h.is.is.there ∙ g))
      by (a_key r q) b g there is = absurd (some_none (sym h.is.is.there ∙ g))
      by (a_value r q z) b g there is = absurd (some_none (sym h.is.is.there ∙ g))
      by (a_member r z) b g there is = absurd (some_none (sym h.is.is.there ∙ g))

  entry_unwrapped_in : (around : PieceAt) (j i : ℕ) (at : Spot) → IsEntryUnwrapped (rules_of s.tree) (IsNameOfType s terms nodes) (spot around) j i at → (a : PieceAt) × IsUnwrappedNumbers x around j i a
  entry_unwrapped_in around j i at h =
      let w = piece_there (an_entry h.round j i h.inner) at h.stands in
      let g = w.3.entry in
      let m = number_there k.made.more around.name (unwrapped h.called) h.is_called in
      let its_name = unwrapped_there k.made.more m.0 h.called m.2 in
      let like = alike_in h.alike m.0.number its_name.1 in (
        w.0,
        record {
          called = m.0.number;
          is_called = m.1 ∙ ap Some its_name.0;
          is = record {
            contained = w.1;
            name = like.0;
            alike = like.2;
            body = body_in w.0 at.rule h.stands.rule (unwrapped_name like.0) (unwrapped h.name) h.round (ap (λ (z : Spot). z.rule) w.2) h.stands.there (ap (option_map (called true)) like.1) h.stands_for w.3.around;
            is = record { entry = g.0; there = g.1; same_alternative = g.2.alternative; same_place = g.2.place };
          };
        },
      )

  entry_at : (from : Option PieceAt) (j i : ℕ) (a : PieceAt) → IsEntryOf x from j i a → IsEntryAt (rules_of s.tree) (IsNameOfType s terms nodes) (option_map spot from) j i (spot a)
  entry_at from j i a (by_brackets {around = b} h) = within (entry_within_at b a j i h)
  entry_at from j i a (by_name {around = b} h) = named (entry_named_at b a j i h)
  entry_at from j i a (by_unwrapped {around = b} h) = by_unwrapping (entry_unwrapped_at b a j i h)

  around_in : (from : Option PieceAt) (around : Spot) → option_map spot from ≡ Some around → (b : PieceAt) × (from ≡ Some b) × (spot b ≡ around)
  around_in None around e = cc
  around_in (Some b) around e = (b, refl, same_some e)

  entry_in : (from : Option PieceAt) (j i : ℕ) (at : Spot) → IsEntryAt (rules_of s.tree) (IsNameOfType s terms nodes) (option_map spot from) j i at → (a : PieceAt) × IsEntryOf x from j i a
  entry_in from j i at h = by (option_map spot from) refl j i at h
    where
      by : (o : Option Spot) → option_map spot from ≡ o → (j i : ℕ) (at : Spot) → IsEntryAt (rules_of s.tree) (IsNameOfType s terms nodes) o j i at → (a : PieceAt) × IsEntryOf x from j i a
      by o e j i at (within {around = z} h) =
          let b = around_in from z e in
          let w = entry_within_in b.0 j i at (subst (λ (v : Spot). IsEntryWithin (rules_of s.tree) (IsNameOfType s terms nodes) v j i at) (sym b.2) h) in
          (w.0, subst (λ (f : Option PieceAt). IsEntryOf x f j i w.0) (sym b.1) (by_brackets w.1))
      by o e j i at (named {around = z} h) =
          let b = around_in from z e in
          let w = entry_named_in b.0 j i at (subst (λ (v : Spot). IsEntryNamed (rules_of s.tree) (IsNameOfType s terms nodes) v j i at) (sym b.2) h) in
          (w.0, subst (λ (f : Option PieceAt). IsEntryOf x f j i w.0) (sym b.1) (by_name w.1))
      by o e j i at (by_unwrapping {around = z} h) =
          let b = around_in from z e in
          let w = entry_unwrapped_in b.0 j i at (subst (λ (v : Spot). IsEntryUnwrapped (rules_of s.tree) (IsNameOfType s terms nodes) v j i at) (sym b.2) h) in
          (w.0, subst (λ (f : Option PieceAt). IsEntryOf x f j i w.0) (sym b.1) (by_unwrapped w.1))

  -- The rules of a name, by the number of the name.
  module _ (n : ℕ) (y : Text) (e : slice_get k.made.more.texts n ≡ Some y) where
    stands_at : (from : Option PieceAt) (a : PieceAt) → IsFrom x n from a → (st : IsThere closed k.made.more (rules_of s.tree) a) → StandsAt (rules_of s.tree) (IsNameOfType s terms nodes) y (option_map spot from) st.piece (spot a)
    stands_at None a h st =
        let r = named_rule s terms nodes x closed k a.rule n y h e in
        let same : st.rule ≡ r.0 = one_of (slice_get (rules_of s.tree) a.rule) st.rule r.0 st.there r.1 in
        (stands a st, ap name_in same ∙ r.3)
    stands_at (Some o) a h st = (stands a st, h)

    type_at : (from : Option PieceAt) (m : Link) (a : PieceAt) → IsTypeIn x n from m a → IsTypeAt (rules_of s.tree) (IsNameOfType s terms nodes) closed y (option_map spot from) m (spot a)
    type_at from m a h =
        let st = k.made.pieces.each a h.is.contained in
        record { piece = st.piece; stands = stands_at from a h.inside st; is = named_piece s terms nodes x closed k (spot a) st.rule st.there st.piece h.origin m h.there (origin_of k.made.more st.piece a.origin h.origin st.is.origin h.is.same) }

    stands_in : (from : Option PieceAt) (a : PieceAt) → IsInMapFrom x n from a → (st : IsThere closed k.made.more (rules_of s.tree) a) (r : Around) → AreRound r a.around → StandsIn (rules_of s.tree) (IsNameOfType s terms nodes) y (option_map spot from) r st.piece (spot a)
    stands_in None a h st r b = let w = stands_at None a h st in in_a_rule w.0 w.1
    stands_in (Some o) a (in_its_brackets h) st r b = in_map (stands a st) h.0 (round_ends o.span r a.around b h.1)
    stands_in (Some o) a (in_its_group {n = m} h g) st r b = in_group (stands a st) (spliced_at o g (called m.is_unwrapped (name_in st.rule)) (body_called a m st h)) (stands_for a m st r h b)

    value_at : (from : Option PieceAt) (key : TypeId) (m : Link) (a : PieceAt) → IsValueIn x n from key m a → IsValueAt (rules_of s.tree) (IsNameOfType s terms nodes) closed y (option_map spot from) key m (spot a)
    value_at from key m a h = by st.piece st.is.key st.is.around (stands_in from a h.inside st) (named_piece s terms nodes x closed k (spot a) st.rule st.there st.piece h.origin m h.there (origin_of k.made.more st.piece a.origin h.origin st.is.origin h.is.same))
      where
        st : IsThere closed k.made.more (rules_of s.tree) a
        st = k.made.pieces.each a h.is.contained

        by : (p : Piece) → IsClosedKey (closed st.rule) k.made.more p a.key → AreRoundIt p a.around → ((r : Around) → AreRound r a.around → StandsIn (rules_of s.tree) (IsNameOfType s terms nodes) y (option_map spot from) r p (spot a)) → IsOf (rules_of s.tree) (IsNameOfType s terms nodes) closed (spot a) p m → IsValueAt (rules_of s.tree) (IsNameOfType s terms nodes) closed y (option_map spot from) key m (spot a)
        by (a_value r q z) g b there is = record { around = r; key_piece = q; types = z; stands = there r b; is_key = named_piece s terms nodes x closed k (spot a) st.rule st.there q h.key_origin (L.Type key) h.key_there (origin_of k.made.more q a.key h.key_origin g h.same); is = is }
        by (a_type z) g b there is = absurd (some_none (sym h.same ∙ g))
        by (a_word w) g b there is = absurd (some_none (sym h.same ∙ g))
        by (a_key r q) g b there is = absurd (no_some is.3)
        by (a_member o z) g b there is = absurd (some_none (sym h.same ∙ g))
        by (an_entry o j i e) g b there is = absurd (some_none (sym h.same ∙ g))

    -- a rule with parameters and of another name

    unfilled_rule : (a : PieceAt) → IsUnfilled x n a → (r : S.Rule) × (slice_get (rules_of s.tree) a.rule ≡ Some r) × (is_generic r ≡ true) × (name_in r ≡ y → ⊥)
    unfilled_rule a h =
        let told = k.made.rules.told a.rule h.rule h.there in
        (told.0, told.1, sym told.2.generic ∙ h.generic, λ f. h.other (k.made.distinct h.rule.number n y (told.2.number ∙ ap Some f) e))

    unfilled_number : (a : PieceAt) (i : ℕ) (r : S.Rule) → a.rule ≡ i → slice_get (rules_of s.tree) i ≡ Some r → is_generic r ≡ true → (name_in r ≡ y → ⊥) → IsUnfilled x n a
    unfilled_number a i r same there generic other =
        let ra = k.made.rules.all i r there in
        let told = k.made.rules.told i ra.0 ra.1 in
        let is : told.0 ≡ r = one_of (slice_get (rules_of s.tree) i) told.0 r told.1 there in
        let its : IsRuleAt k.made.more r ra.0 = subst (λ (z : S.Rule). IsRuleAt k.made.more z ra.0) is told.2 in
        record { rule = ra.0; there = ap (slice_get x.rules.items) same ∙ ra.1; generic = its.generic ∙ generic; other = λ f. other (same_some (sym its.number ∙ ap (slice_get k.made.more.texts) f ∙ e)) }

    unfilled_at : (from : Option PieceAt) (key : TypeId) (m : Link) (a : PieceAt) → IsUnfilledIn x n from key m a → IsUnfilledAt (rules_of s.tree) (IsNameOfType s terms nodes) closed y (option_map spot from) key m (spot a)
    unfilled_at from key m b h = subst (λ (z : PieceAt). IsUnfilledAt (rules_of s.tree) (IsNameOfType s terms nodes) closed y (option_map spot from) key m (spot z)) (sym h.same) (by st.piece st.is.origin st.is.key st.is.around (λ r g. subst (StandsIn (rules_of s.tree) (IsNameOfType s terms nodes) y (option_map spot from) r st.piece) own (stands_in from a h.is.inside st r g)))
      where
        a : PieceAt
        a = h.piece

        st : IsThere closed k.made.more (rules_of s.tree) a
        st = k.made.pieces.each a h.is.contained

        own : spot a ≡ plainly (spot a)
        own = same_spot (spot a) (plainly (spot a)) refl refl refl st.is.own

        rule : (r : S.Rule) × (slice_get (rules_of s.tree) a.rule ≡ Some r) × (is_generic r ≡ true) × (name_in r ≡ y → ⊥)
        rule = unfilled_rule a h.is.unfilled

        by : (p : Piece) → MayBeClosed (closed st.rule) k.made.more p a.origin → IsClosedKey (closed st.rule) k.made.more p a.key → AreRoundIt p a.around → ((r : Around) → AreRound r a.around → StandsIn (rules_of s.tree) (IsNameOfType s terms nodes) y (option_map spot from) r p (plainly (spot a))) → IsUnfilledAt (rules_of s.tree) (IsNameOfType s terms nodes) closed y (option_map spot from) key m (asking m (spot a))
        by (a_value r q z) d g b there = record {
          around = r;
          key_piece = q;
          types = z;
          stands = there r b;
          asked = refl;
          is_key = named_piece s terms nodes x closed k (asking m (spot a)) st.rule st.there q h.key_origin (L.Type key) h.key_there (origin_of k.made.more q a.key h.key_origin g h.is.same);
          value = led_to s terms nodes x closed k m h.origin h.there;
          rule = rule.0;
          there = rule.1;
          generic = rule.2;
          other = rule.3;
        }
        by (a_key r q) d g b there = absurd (some_none (sym h.is.typed.1 ∙ place_alone k.made.more d refl))
        by (a_type z) d g b there = absurd (some_none (sym h.is.same ∙ g))
        by (a_word w) d g b there = absurd (some_none (sym h.is.same ∙ g))
        by (a_member o z) d g b there = absurd (some_none (sym h.is.same ∙ g))
        by (an_entry o j i e) d g b there = absurd (some_none (sym h.is.same ∙ g))

    abbrev asked_place_at : (from : Option PieceAt) (m : Link) (a : PieceAt) → IsAskedIn x from m a → IsAskedAt (rules_of s.tree) (IsNameOfType s terms nodes) closed (option_map spot from) m (spot a)
    asked_place_at from m a h = record { place = spot h.place; found = ap (option_map spot) h.found; value = led_to s terms nodes x closed k m h.origin h.there; is = ap spot h.same }

    away_at : (a : PieceAt) → IsAway x n a → IsAwayAt (rules_of s.tree) (IsNameOfType s terms nodes) closed y (spot a)
    away_at a (by_before {k = j} f) = as_before f
    away_at a (by_unfilled_rule h) = let w = unfilled_rule a h in unfilled w.0 w.1 w.2 w.3

    key_at : (from : Option PieceAt) (key : TypeId) (a : PieceAt) → IsKeyIn x n from key a → IsKeyAt (rules_of s.tree) (IsNameOfType s terms nodes) closed y (option_map spot from) key (spot a)
    key_at from key a h = by st.piece st.is.origin st.is.key st.is.around (stands_in from a h.inside st)
      where
        st : IsThere closed k.made.more (rules_of s.tree) a
        st = k.made.pieces.each a h.is.contained

        by : (p : Piece) → MayBeClosed (closed st.rule) k.made.more p a.origin → IsClosedKey (closed st.rule) k.made.more p a.key → AreRoundIt p a.around → ((r : Around) → AreRound r a.around → StandsIn (rules_of s.tree) (IsNameOfType s terms nodes) y (option_map spot from) r p (spot a)) → IsKeyAt (rules_of s.tree) (IsNameOfType s terms nodes) closed y (option_map spot from) key (spot a)
        by (a_key r q) d g b there = record { around = r; key_piece = q; stands = there r b; is = named_piece s terms nodes x closed k (spot a) st.rule st.there q h.origin (L.Type key) h.there (origin_of k.made.more q a.key h.origin g h.is.same) }
        by (a_value r q z) d g b there = absurd (value_is_of s terms nodes x closed k d h.is.alone r q z refl)
        by (a_type z) d g b there = absurd (some_none (sym h.is.same ∙ g))
        by (a_word w) d g b there = absurd (some_none (sym h.is.same ∙ g))
        by (a_member o z) d g b there = absurd (some_none (sym h.is.same ∙ g))
        by (an_entry o j i e) d g b there = absurd (some_none (sym h.is.same ∙ g))

    -- what stands there is found

    found_at : (from : Option PieceAt) (p : Piece) (at : Spot) → StandsAt (rules_of s.tree) (IsNameOfType s terms nodes) y (option_map spot from) p at → (a : PieceAt) × Contains x.pieces.items a × IsFrom x n from a × (r : S.Rule) × (slice_get (rules_of s.tree) at.rule ≡ Some r) × IsClosedPiece (closed r) k.made.more p a × (spot a ≡ at)
    found_at None p at h =
        let w = piece_there p at h.0 in
        (w.0, w.1, rule_number w.0.rule at.rule n y h.0.rule (ap (λ (z : Spot). z.rule) w.2) h.0.there h.1 e, h.0.rule, h.0.there, w.3, w.2)
    found_at (Some o) p at h =
        let w = piece_there p at h.0 in
        (w.0, w.1, subst (λ (z : Spot). IsWithin (spot o) z) (sym w.2) h.1, h.0.rule, h.0.there, w.3, w.2)

    type_in : (from : Option PieceAt) (m : Link) (at : Spot) → IsTypeAt (rules_of s.tree) (IsNameOfType s terms nodes) closed y (option_map spot from) m at → (a : PieceAt) × IsTypeIn x n from m a
    type_in from m at h =
        let w = found_at from h.piece at h.stands in
        let o = type_origin s terms nodes x closed k at w.3 w.4 h.piece m h.is w.0.origin w.5.origin in
        (w.0, record { origin = o.0; there = o.1; is = record { contained = w.1; same = o.2 }; inside = w.2 })

    -- a key or a value, which have in a map what is round the map's group
    found_in : (from : Option PieceAt) (r : Around) (p : Piece) (at : Spot) → ((m : Option Span) → AreRoundIt p m → AreRound r m) → StandsIn (rules_of s.tree) (IsNameOfType s terms nodes) y (option_map spot from) r p at → (a : PieceAt) × Contains x.pieces.items a × IsInMapFrom x n from a × (r : S.Rule) × (slice_get (rules_of s.tree) at.rule ≡ Some r) × IsClosedPiece (closed r) k.made.more p a × (spot a ≡ at)
    found_in None r p at round (in_a_rule h g) = found_at None p at (h, g)
    found_in (Some o) r p at round (in_map h rule ends) =
        let w = piece_there p at h in
        (w.0, w.1, in_its_brackets (ap (λ (z : Spot). z.rule) w.2 ∙ rule, ends_round o.span r w.0.around ends (round w.0.around w.3.around)), h.rule, h.there, w.3, w.2)
    found_in (Some o) r p at round (in_group {m = z} h g for) =
        let w = piece_there p at h in
        let m = spliced_in o g in
        (w.0, w.1, in_its_group (body_in w.0 at.rule h.rule m.0 z r (ap (λ (v : Spot). v.rule) w.2) h.there m.1 for (round w.0.around w.3.around)) m.2, h.rule, h.there, w.3, w.2)

    value_in : (from : Option PieceAt) (key : TypeId) (m : Link) (at : Spot) → IsValueAt (rules_of s.tree) (IsNameOfType s terms nodes) closed y (option_map spot from) key m at → (a : PieceAt) × IsValueIn x n from key m a
    value_in from key m at h =
        let p : Piece = a_value h.around h.key_piece h.types in
        let w = found_in from h.around p at (λ m b. b) h.stands in
        let o = type_origin s terms nodes x closed k at w.3 w.4 p m h.is w.0.origin w.5.origin in
        let u = type_origin s terms nodes x closed k at w.3 w.4 h.key_piece (L.Type key) h.is_key w.0.key w.5.key in
        (w.0, record { key_origin = u.0; key_there = u.1; same = u.2; origin = o.0; there = o.1; is = record { contained = w.1; same = o.2 }; inside = w.2 })

    unfilled_in : (from : Option PieceAt) (key : TypeId) (m : Link) (at : Spot) → IsUnfilledAt (rules_of s.tree) (IsNameOfType s terms nodes) closed y (option_map spot from) key m at → (a : PieceAt) × IsUnfilledIn x n from key m a
    unfilled_in from key m at h =
        let p : Piece = a_value h.around h.key_piece h.types in
        let w = found_in from h.around p (plainly at) (λ o b. b) h.stands in
        let u = type_origin s terms nodes x closed k at w.3 w.4 h.key_piece (L.Type key) h.is_key w.0.key w.5.key in
        let v = led_from s terms nodes x closed k m h.value.0 h.value.1 in (
          asking_at m w.0,
          record {
            key_origin = u.0;
            key_there = u.1;
            origin = v.0;
            there = v.1;
            piece = w.0;
            is = record {
              contained = w.1;
              typed = value_typed k.made.more w.5.origin h.around h.key_piece h.types refl;
              same = u.2;
              inside = w.2;
              unfilled = unfilled_number w.0 at.rule h.rule (ap (λ (z : Spot). z.rule) w.6) h.there h.generic h.other;
            };
            same = refl;
          },
        )

    asked_place_in : (from : Option PieceAt) (m : Link) (at : Spot) → IsAskedAt (rules_of s.tree) (IsNameOfType s terms nodes) closed (option_map spot from) m at → (a : PieceAt) × IsAskedIn x from m a
    asked_place_in from m at h =
        let w = around_in from h.place h.found in
        let v = led_from s terms nodes x closed k m h.value.0 h.value.1 in
        (asking_at m w.0, record { place = w.0; found = w.1; origin = v.0; there = v.1; same = refl })

    away_in : (a : PieceAt) (at : Spot) → spot a ≡ at → IsAwayAt (rules_of s.tree) (IsNameOfType s terms nodes) closed y at → IsAway x n a
    away_in a at same (as_before f) = by_before (ap (λ (z : Spot). z.asked) same ∙ f)
    away_in a at same (unfilled r there generic other) = by_unfilled_rule (unfilled_number a at.rule r (ap (λ (z : Spot). z.rule) same) there generic other)

    key_in : (from : Option PieceAt) (key : TypeId) (at : Spot) → IsKeyAt (rules_of s.tree) (IsNameOfType s terms nodes) closed y (option_map spot from) key at → (a : PieceAt) × IsKeyIn x n from key a
    key_in from key at h =
        let w = found_in from h.around (a_key h.around h.key_piece) at (λ m b. b) h.stands in
        let u = type_origin s terms nodes x closed k at w.3 w.4 h.key_piece (L.Type key) h.is w.0.key w.5.key in
        (w.0, record { origin = u.0; there = u.1; is = record { contained = w.1; alone = place_alone k.made.more w.5.origin refl; same = u.2 }; inside = w.2 })

    one_at : (from : Option PieceAt) (m : Link) (a : PieceAt) → IsOneIn x n from m a → IsOneAt (rules_of s.tree) (IsNameOfType s terms nodes) closed y (option_map spot from) m (spot a)
    one_at from m a (by_type (it_is t)) = of_one_type (type_at from m a t)
    one_at from m a (by_type (it_asks none t)) = of_argument (λ o g. let w = type_in from m o g in none w.0 w.1) (asked_place_at from m a t.0) (away_at t.0.place t.1)
    one_at from m a (by_key {key = i} h) = of_key (key_at from i a h)

    one_in : (from : Option PieceAt) (m : Link) (at : Spot) → IsOneAt (rules_of s.tree) (IsNameOfType s terms nodes) closed y (option_map spot from) m at → (a : PieceAt) × IsOneIn x n from m a
    one_in from m at (of_one_type t) = let w = type_in from m at t in (w.0, by_type (it_is w.1))
    one_in from m at (of_argument none h away) =
        let w = asked_place_in from m at h in
        let same : spot w.1.place ≡ h.place = same_some (sym (ap (option_map spot) w.1.found) ∙ h.found) in
        (w.0, by_type (it_asks (λ b g. none (spot b) (type_at from m b g)) (w.1, away_in w.1.place h.place same away)))
    one_in from m at (of_key {key = i} h) = let w = key_in from i at h in (w.0, by_key w.1)

    -- where the type of a value is asked that is known at no entry

    asked_at : (from : Option PieceAt) (key : TypeId) (m : Link) (a : PieceAt) → IsValueAsked x n from key m a → IsValueAskedAt (rules_of s.tree) (IsNameOfType s terms nodes) closed y (option_map spot from) key m (spot a)
    asked_at from key m a (by_unfilled h) = of_unfilled (unfilled_at from key m a h)
    asked_at from key m a (by_map none h) = of_map (λ o g. let w = unfilled_in from key m o g in none w.0 w.1) (asked_place_at from m a h)

    asked_in : (from : Option PieceAt) (key : TypeId) (m : Link) (at : Spot) → IsValueAskedAt (rules_of s.tree) (IsNameOfType s terms nodes) closed y (option_map spot from) key m at → (a : PieceAt) × IsValueAsked x n from key m a
    asked_in from key m at (of_unfilled h) = let w = unfilled_in from key m at h in (w.0, by_unfilled w.1)
    asked_in from key m at (of_map none h) = let w = asked_place_in from m at h in (w.0, by_map (λ b g. none (spot b) (unfilled_at from key m b g)) w.1)

    pair_at : (from : Option PieceAt) (first second : Link) (a : PieceAt) → ArePairIn x n from first second a → ArePairAt (rules_of s.tree) (IsNameOfType s terms nodes) closed y (option_map spot from) first second (spot a)
    pair_at from first second a (by_value {key = key} v) = of_value (value_at from key second a v)
    pair_at from first second a (by_asked {key = key} none v) = of_asked (λ o g. let w = value_in from key second o g in none w.0 w.1) (asked_at from key second a v)
    pair_at from first second a (by_entry {k = j} {i = i} e) = of_entry (entry_at from j i a e)

    pair_in : (from : Option PieceAt) (first second : Link) (at : Spot) → ArePairAt (rules_of s.tree) (IsNameOfType s terms nodes) closed y (option_map spot from) first second at → (a : PieceAt) × ArePairIn x n from first second a
    pair_in from first second at (of_value {key = key} v) = let w = value_in from key second at v in (w.0, by_value w.1)
    pair_in from first second at (of_asked {key = key} none v) = let w = asked_in from key second at v in (w.0, by_asked (λ b g. none (spot b) (value_at from key second b g)) w.1)
    pair_in from first second at (of_entry {k = j} {i = i} e) = let w = entry_in from j i at e in (w.0, by_entry w.1)

    no_pair : (from : Option PieceAt) (m : Link) (ms : List Link) → AreNoPairIn x n from m ms → AreNoPair (rules_of s.tree) (IsNameOfType s terms nodes) closed y (option_map spot from) m ms
    no_pair from m [] none = tt
    no_pair from m (v ∷ ms) none = λ at h. let w = pair_in from m v at h in none w.0 w.1

    -- what leads from place to place leads in the text
    pub leads : {from to : Option PieceAt} {ms : List Link} → LeadsIn x n from ms to → Leads (rules_of s.tree) (IsNameOfType s terms nodes) closed y (option_map spot from) ms (option_map spot to)
    leads by_none = arrives
    leads (by_pair {from = from} {key = key} {m = m} {a = a} v l) = to_pair (pair_at from key m a v) (leads l)
    leads (by_one {from = from} {m = m} {ms = ms} {a = a} none t l) = to_one (no_pair from m ms none) (one_at from m a t) (leads l)
    leads (gone_by {from = from} {m = m} {ms = ms} none t l) = passes (no_pair from m ms none) (λ at h. let w = one_in from m at h in t w.0 w.1) (leads l)

  -- How what was found is told.

  if_so : (b : Bool) (o : Option TypeOrigin) (u : TypeOrigin) → if_filled b o ≡ Some u → (b ≡ true) × (o ≡ Some u)
  if_so true o u e = (refl, e)
  if_so false o u e = cc

  other_number : (n : ℕ) (y : Text) → slice_get k.made.more.texts n ≡ Some y → (b : PieceAt) (at : Spot) (r : S.Rule) → slice_get (rules_of s.tree) at.rule ≡ Some r → b.rule ≡ at.rule → (x.filled ≡ true → name_in r ≡ y → ⊥) → x.filled ≡ true → HasNumber x b.rule n → ⊥
  other_number n y e b at r there same other f g =
      let w = named_rule s terms nodes x closed k b.rule n y g e in
      other f (ap name_in (one_of (slice_get (rules_of s.tree) at.rule) r w.0 there (ap (slice_get (rules_of s.tree)) (sym same) ∙ w.1)) ∙ w.3)

  written_own : (n : ℕ) (y : Text) → slice_get k.made.more.texts n ≡ Some y → (a : PieceAt) (st : IsThere closed k.made.more (rules_of s.tree) a) (w : Span) → IsWrittenIn x n (if_filled x.filled (told_origin a)) a.span w → IsWritten (rules_of s.tree) (IsNameOfType s terms nodes) closed y x.filled (IsSought (rules_of s.tree) (IsNameOfType s terms nodes) closed x.filled None (told_name (closed st.rule) st.piece)) a.span w
  written_own n y e a st w (by_elsewhere {b = b} {u = u} told h) =
      let at = k.made.pieces.each b h.is.contained in
      let so = if_so x.filled (told_origin a) u told in
      let name = told_by k.made.more st.piece a st.is.origin st.is.key u so.1 in
      let own = piece_name k.made.more (origin_of k.made.more at.piece b.origin u at.is.origin h.is.same) in
      elsewhere (so.0, name.1) (stands b at) (λ f g. h.other f (rule_number b.rule b.rule n y at.rule refl at.there g e)) (own.1 ∙ ap Some (one_name k.made.more k.made.distinct k.made.one_term k.made.one_row own.2 name.2))
  written_own n y e a st w (by_itself none) =
      as_it_is
      (λ p at z sought h other is.
      let b = piece_there p at h in
      let told = told_with k.made.more st.piece a st.is.origin st.is.key z sought.1 in
      let own = may_name k.made.more b.3.origin z is in
      none b.0 told.0 (ap (λ (c : Bool). if_filled c (told_origin a)) sought.0 ∙ told.1)
      (record {
        is = record { contained = b.1; same = own.1 ∙ ap Some (one_origin k.made.more k.made.distinct k.made.one_term k.made.one_row own.2 told.2) };
        other = other_number n y e b.0 at h.rule h.there (ap (λ (v : Spot). v.rule) b.2) other;
      }))

  written_asked : (n : ℕ) (y : Text) → slice_get k.made.more.texts n ≡ Some y → (m : Link) (o : Option TypeName) (own w : Span) → IsWrittenIn x n (origin_at x m) own w → IsWritten (rules_of s.tree) (IsNameOfType s terms nodes) closed y x.filled (IsSought (rules_of s.tree) (IsNameOfType s terms nodes) closed x.filled (Some m) o) own w
  written_asked n y e m o own w (by_elsewhere {b = b} {u = u} told h) =
      let at = k.made.pieces.each b h.is.contained in
      let named = named_piece s terms nodes x closed k (spot b) at.rule at.there at.piece u m told (origin_of k.made.more at.piece b.origin u at.is.origin h.is.same) in
      let same : named.0 ≡ at.rule = one_of (slice_get (rules_of s.tree) b.rule) named.0 at.rule named.1 at.there in
      elsewhere named.4 (stands b at) (λ f g. h.other f (rule_number b.rule b.rule n y at.rule refl at.there g e)) (subst (λ (r : S.Rule). name_of_piece (closed r) at.piece ≡ Some named.2) same named.3)
  written_asked n y e m o own w (by_itself none) =
      as_it_is
      (λ p at z sought h other is.
      let b = piece_there p at h in
      let told = type_origin s terms nodes x closed k at h.rule h.there p m (h.rule, h.there, z, is, sought) b.0.origin b.3.origin in
      none b.0 told.0 told.1
      (record {
        is = record { contained = b.1; same = told.2 };
        other = other_number n y e b.0 at h.rule h.there (ap (λ (v : Spot). v.rule) b.2) other;
      }))

  pub written_at : (n : ℕ) (y : Text) → slice_get k.made.more.texts n ≡ Some y → (a : PieceAt) (o : Option Link) (st : IsThere closed k.made.more (rules_of s.tree) a) (w : Span) → IsWrittenIn x n (sought_by x o (told_origin a)) a.span w → IsWritten (rules_of s.tree) (IsNameOfType s terms nodes) closed y x.filled (IsSought (rules_of s.tree) (IsNameOfType s terms nodes) closed x.filled o (told_name (closed st.rule) st.piece)) a.span w
  written_at n y e a None st w h = written_own n y e a st w h
  written_at n y e a (Some m) st w h = written_asked n y e m (told_name (closed st.rule) st.piece) a.span w h
