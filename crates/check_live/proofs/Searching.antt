-- The steps of the search.
use Rattle.std.proofs.Common.{◌≡◌, ◌≢◌, ℕ, zero, suc, ◌+◌, ◌<◌, ◌≤◌, ◌⊎◌, inl, inr, true, false, List, [], ◌∷◌, ◌++◌, length, map, Option, Some, None, slice_get, refl, sym, ap, subst, ◌∙◌, arith}
use Rattle.std.specs.List.{Contains}
use Rattle.std.proofs.lemmas.Bool.{cases_lt}
use Rattle.std.proofs.lemmas.Option.{slice_get_within}
use Rattle.cddl_token.specs.declared.Token.{Token}
use Rattle.tree_nodes.specs.Syntax.Syntax as S
use Rattle.tree_nodes.specs.declared.tree.Leaf.{Leaf}
use Rattle.tree_nodes.specs.declared.tree.Ref.{Ref}
use Rattle.tree_nodes.specs.View.{view_ref}
use Rattle.cddl_language.specs.Sites.{Site, arguments, in_type1, outer_sites, ref_at_site, ref_name}
use Rattle.cddl_language.specs.Terms.{Text}
use Rattle.check_terms.specs.declared.definition.Definition.{Definition}
use Rattle.check_sites.specs.declared.sites.site.Found.{Found}
use Rattle.check_sites.specs.Sites.Listed.{StandsIn, WasFound}
use Rattle.check_sites.specs.Sites.View.{outside, view_found, view_site}
use Rattle.check_sites.specs.Sites.Walk.{placed}
use Rattle.graphs.specs.declared.implications.Implication.{Implication}
use Rattle.check_live.specs.declared.facts.Fact.{Fact}
use Rattle.check_live.specs.declared.search.Standing.{Standing}
use Rattle.check_live.specs.Facts.{HasParameter, IsPrepared, slot_of, use_of}
use Rattle.check_live.specs.Search.{AddsArgument, AddsArguments, Brings, BringsName, HasArgument, HasSite, IsFrom, IsSearch, IsServed, IsStep, IsWithin, State, Stays, a_parameter, a_use, context, no_number, no_parameter, no_reference, of_argument, of_rule, of_rules, of_use, parameter, seen, some_arguments, standing_at, used_at, with_arguments, with_use, within, without_number, without_reference}
use Rattle.check_live.proofs.Lists.{contained, element, get_added, get_after, get_before, get_cases, get_either, one_of, place_of}

-- sites that stand in a context

at_context : (c : ℕ) (fs : List Found) (k : ℕ) (f : Found) → slice_get fs k ≡ Some f → slice_get (standing_at c fs) k ≡ Some (record { found = f; context = c })
at_context c [] k f e = cc
at_context c (x ∷ fs) zero f e = let same : x ≡ f = cc in ap (λ (y : Found). Some (record { found = y; context = c })) same
at_context c (x ∷ fs) (suc k) f e = at_context c fs k f e

in_context : (c : ℕ) (fs : List Found) (k : ℕ) (q : Standing) → slice_get (standing_at c fs) k ≡ Some q → (slice_get fs k ≡ Some q.found) × (q.context ≡ c)
in_context c [] k q e = cc
in_context c (x ∷ fs) zero q e =
    let same : record { found = x; context = c } ≡ q = cc in
    (ap (λ (y : Standing). Some y.found) same, sym (ap (λ (y : Standing). y.context) same))
in_context c (x ∷ fs) (suc k) q e = in_context c fs k q e

-- what was found of some sites of one rule
module _ (read : Leaf → Token) (rule : ℕ) where
  from_placed : (fs : List Found) (ps : List Site) (k : ℕ) (f : Found) → map (view_found read) fs ≡ placed rule ps → slice_get fs k ≡ Some f → (f.rule ≡ rule) × (slice_get ps k ≡ Some (view_site read f.site))
  from_placed [] ps k f e g = cc
  from_placed (x ∷ fs) [] k f e g = cc
  from_placed (x ∷ fs) (p ∷ ps) zero f e g =
      let same : x ≡ f = cc in
      let first : view_found read x ≡ (rule, p) = cc in
      (sym (ap (λ (y : Found). y.rule) same) ∙ ap (λ (w : ℕ × Site). w.0) first, sym (ap (λ (w : ℕ × Site). Some w.1) first) ∙ ap (λ (y : Found). Some (view_site read y.site)) same)
  from_placed (x ∷ fs) (p ∷ ps) (suc k) f e g =
      let rest : map (view_found read) fs ≡ placed rule ps = cc in
      from_placed fs ps k f rest g

  in_placed : (fs : List Found) (ps : List Site) (k : ℕ) (p : Site) → map (view_found read) fs ≡ placed rule ps → slice_get ps k ≡ Some p → (f : Found) × ((slice_get fs k ≡ Some f) × ((f.rule ≡ rule) × (view_site read f.site ≡ p)))
  in_placed fs [] k p e g = cc
  in_placed [] (q ∷ ps) k p e g = cc
  in_placed (x ∷ fs) (q ∷ ps) zero p e g =
      let same : q ≡ p = cc in
      let first : view_found read x ≡ (rule, q) = cc in
      (x, (refl, (ap (λ (w : ℕ × Site). w.0) first, ap (λ (w : ℕ × Site). w.1) first ∙ same)))
  in_placed (x ∷ fs) (q ∷ ps) (suc k) p e g =
      let rest : map (view_found read) fs ≡ placed rule ps = cc in
      in_placed fs ps k p rest g

-- what stands stays

pub stay_same : (st : State) → Stays st st
stay_same st = record { implications = λ j i e. e; standing = λ m e h. h }

pub stay_further : (a b c : State) → Stays a b → Stays b c → Stays a c
stay_further a b c h k = record { implications = λ j i e. k.implications j i (h.implications j i e); standing = λ m q e. k.standing m q (h.standing m q e) }

module _ (keys : List Fact) (read : Leaf → Token) where
  kept_within : (q : Standing) (f : S.Ref) (n : ℕ) (a b : State) (e : Standing) → Stays a b → IsWithin keys read q f n a.implications e → IsWithin keys read q f n b.implications e
  kept_within q f n a b e h w = record {
    at = w.at;
    slot = w.slot;
    place = w.place;
    argument = w.argument;
    there = h.implications w.at (of_argument (length keys) w.at q.context w.slot) w.there;
    context = w.context;
    rule = w.rule;
    given = w.given;
    slot_there = w.slot_there;
    contained = w.contained;
  }

  kept_site : (a b : State) (rule c : ℕ) (p : Site) → Stays a b → HasSite keys read a rule c p → HasSite keys read b rule c p
  kept_site a b rule c p h w = record { place = w.place; site = w.site; there = h.standing w.place w.site w.there; rule_same = w.rule_same; context_same = w.context_same; same = w.same }

  kept_argument : (q : Standing) (n place : ℕ) (x : S.Type1) (a b : State) → Stays a b → HasArgument keys read q n place x a → HasArgument keys read q n place x b
  kept_argument q n place x a b h w = record {
    at = w.at;
    slot = w.slot;
    slot_there = w.slot_there;
    there = h.implications w.at (of_argument (length keys) w.at q.context w.slot) w.there;
    each = λ p c. kept_site a b q.found.rule (length keys + w.at) p h (w.each p c);
  }

  -- an argument is added

  module _ (q : Standing) (f : S.Ref) (n place slot : ℕ) (x : S.Type1) (old new : State) (given : slice_get (arguments f) place ≡ Some x) (slot_there : slice_get keys slot ≡ Some (slot_of n place)) (adds : AddsArgument (length keys) read q slot x old new) where
    at : ℕ
    at = length old.implications

    there : slice_get new.implications (length old.implications) ≡ Some (of_argument (length keys) (length old.implications) q.context slot)
    there = subst (λ is. slice_get is (length old.implications) ≡ Some (of_argument (length keys) (length old.implications) q.context slot)) (sym adds.implied) (get_added old.implications (of_argument (length keys) (length old.implications) q.context slot))

    argument_stays : Stays old new
    argument_stays = record {
      implications = λ j i e. subst (λ is. slice_get is j ≡ Some i) (sym adds.implied) (get_before old.implications (of_argument (length keys) (length old.implications) q.context slot ∷ []) j i e);
      standing = λ m e h. subst (λ es. slice_get es m ≡ Some e) (sym adds.stand) (get_before old.standing (standing_at (length keys + length old.implications) adds.sites) m e h);
    }

    argument_sites : (m : ℕ) (e : Standing) → slice_get new.standing m ≡ Some e → (slice_get old.standing m ≡ Some e) ⊎ IsWithin keys read q f n new.implications e
    argument_sites m e h = elim (get_either old.standing (standing_at (length keys + length old.implications) adds.sites) m e (subst (λ es. slice_get es m ≡ Some e) adds.stand h)) [
      | inl k ↦ inl k
      | inr k ↦
          let c = in_context (length keys + length old.implications) adds.sites k.0 e k.1.1 in
          let g = from_placed read q.found.rule adds.sites (in_type1 false true x) k.0 e.found adds.found c.0 in
          inr (record { at = length old.implications; slot = slot; place = place; argument = x; there = there; context = c.1; rule = g.0; given = given; slot_there = slot_there; contained = contained (in_type1 false true x) k.0 (seen read e) g.1 })
    ]

    argument_steps : (j : ℕ) (i : Implication) → slice_get new.implications j ≡ Some i → (slice_get old.implications j ≡ Some i) ⊎ (i.then ≡ length keys + j)
    argument_steps j i e = elim (get_cases old.implications (of_argument (length keys) (length old.implications) q.context slot) j i (subst (λ is. slice_get is j ≡ Some i) adds.implied e)) [
      | inl k ↦ inl k
      | inr k ↦ inr (ap (λ (v : Implication). v.then) k.1 ∙ ap (λ m. length keys + m) (sym k.0))
    ]

    argument_each : (p : Site) → Contains (in_type1 false true x) p → HasSite keys read new q.found.rule (length keys + length old.implications) p
    argument_each p c =
        let w = place_of (in_type1 false true x) p c in
        let g = in_placed read q.found.rule adds.sites (in_type1 false true x) w.0 p adds.found w.1 in
        record {
          place = length old.standing + w.0;
          site = record { found = g.0; context = length keys + length old.implications };
          there = subst (λ es. slice_get es (length old.standing + w.0) ≡ Some (record { found = g.0; context = length keys + length old.implications })) (sym adds.stand) (get_after old.standing (standing_at (length keys + length old.implications) adds.sites) w.0 (length old.standing + w.0) (record { found = g.0; context = length keys + length old.implications }) refl (at_context (length keys + length old.implications) adds.sites w.0 g.0 g.1.0));
          rule_same = g.1.1.0;
          context_same = refl;
          same = g.1.1.1;
        }

    has_this : HasArgument keys read q n place x new
    has_this = record { at = length old.implications; slot = slot; slot_there = slot_there; there = there; each = argument_each }

    -- after those before its place
    pub next_argument : (from : State) → AddsArguments keys read q f n place from old → AddsArguments keys read q f n (place + 1) from new
    next_argument from h = record {
      stays = stay_further from old new h.stays argument_stays;
      sites = λ m e w. elim (argument_sites m e w) [
        | inl k ↦ elim (h.sites m e k) [ inl l ↦ inl l | inr l ↦ inr (kept_within q f n old new e argument_stays l) ]
        | inr k ↦ inr k
      ];
      steps = λ j i e. elim (argument_steps j i e) [ inl k ↦ h.steps j i k | inr k ↦ inr k ];
      complete = λ k s y l g t. elim (cases_lt k place) [
        | inl m ↦ kept_argument q n k y old new argument_stays (h.complete k s y m g t)
        | inr m ↦
            let same : k ≡ place = omega (arith, l, m) in
            let one : x ≡ y = one_of (slice_get (arguments f) place) x y given (subst (λ a. slice_get (arguments f) a ≡ Some y) same g) in
            subst (λ a. HasArgument keys read q n a y new) (sym same) (subst (λ z. HasArgument keys read q n place z new) one has_this)
      ];
    }

  -- an argument without a slot is left out
  pub no_slot : (q : Standing) (f : S.Ref) (n place : ℕ) (from st : State) → ((s : ℕ) → slice_get keys s ≢ Some (slot_of n place)) → AddsArguments keys read q f n place from st → AddsArguments keys read q f n (place + 1) from st
  no_slot q f n place from st none h = record {
    stays = h.stays;
    sites = h.sites;
    steps = h.steps;
    complete = λ k s y l g t. elim (cases_lt k place) [
      | inl m ↦ h.complete k s y m g t
      | inr m ↦ (let same : k ≡ place = omega (arith, l, m) in absurd (none s (subst (λ a. slice_get keys s ≡ Some (slot_of n a)) same t)))
    ];
  }

  -- and so is one that is not there
  pub not_there : (q : Standing) (f : S.Ref) (n place : ℕ) (from st : State) → slice_get (arguments f) place ≡ None → AddsArguments keys read q f n place from st → AddsArguments keys read q f n (place + 1) from st
  not_there q f n place from st none h = record {
    stays = h.stays;
    sites = h.sites;
    steps = h.steps;
    complete = λ k s y l g t. elim (cases_lt k place) [
      | inl m ↦ h.complete k s y m g t
      | inr m ↦ (let same : k ≡ place = omega (arith, l, m) in absurd (is_none (slice_get (arguments f) place) y none (subst (λ a. slice_get (arguments f) a ≡ Some y) same g)))
    ];
  }
    where
      is_none : (o : Option S.Type1) (y : S.Type1) → o ≡ None → o ≡ Some y → ⊥
      is_none o y e g = cc

  pub no_arguments : (q : Standing) (f : S.Ref) (n : ℕ) (st : State) → AddsArguments keys read q f n 0 st st
  no_arguments q f n st = record {
    stays = stay_same st;
    sites = λ m e w. inl w;
    steps = λ j i e. inl e;
    complete = λ k s y l g t. absurd (omega (arith, l));
  }

  pub all_arguments : (q : Standing) (f : S.Ref) (n place : ℕ) (from st : State) → length (arguments f) ≤ place → AddsArguments keys read q f n place from st → AddsArguments keys read q f n (length (arguments f)) from st
  all_arguments q f n place from st le h = record {
    stays = h.stays;
    sites = h.sites;
    steps = h.steps;
    complete = λ k s y l g t. h.complete k s y (omega (arith, l, le)) g t;
  }

  module _ (texts : List Text) where
    -- what was brought stays

    kept_from : (rs : List S.Rule) (a b : State) (e : Standing) → Stays a b → IsFrom keys read texts rs a e → IsFrom keys read texts rs b e
    kept_from rs a b e h (of_rule r x c) = of_rule r x c
    kept_from rs a b e h (within m q f n x g t u w) = within m q f n (h.standing m q x) g t u (kept_within q f n a b e h w)

    kept_step : (ds : List Definition) (a b : State) (j : ℕ) (i : Implication) → Stays a b → IsStep keys read texts ds a j i → IsStep keys read texts ds b j i
    kept_step ds a b j i h (parameter o) = parameter o
    kept_step ds a b j i h (context e) = context e
    kept_step ds a b j i h (used_at m q f n x g t u w) = used_at m q f n (h.standing m q x) g t u w

    kept_served : (a b : State) (q : Standing) → Stays a b → IsServed keys read texts a q → IsServed keys read texts b q
    kept_served a b q h (without_reference e) = without_reference e
    kept_served a b q h (without_number f e g) = without_number f e g
    kept_served a b q h (with_use f n u j e g k t) = with_use f n u j e g k (h.implications j (of_use u q.context) t)
    kept_served a b q h (with_arguments f n e g k c) = with_arguments f n e g k (λ p s x v t. kept_argument q n p x a b h (c p s x v t))

    kept_parameter_there : (ds : List Definition) (a b : State) (r k : ℕ) → Stays a b → HasParameter ds keys a.implications r k → HasParameter ds keys b.implications r k
    kept_parameter_there ds a b r k h w = record { at = w.at; implication = w.implication; there = h.implications w.at w.implication w.there; is_parameter = w.is_parameter }

    -- a further site is served
    go_on : (rs : List S.Rule) (ds : List Definition) (done : ℕ) (a b : State) (q : Standing) → IsSearch keys read texts rs ds done a → slice_get a.standing done ≡ Some q → Stays a b → ((m : ℕ) (e : Standing) → slice_get b.standing m ≡ Some e → (slice_get a.standing m ≡ Some e) ⊎ IsFrom keys read texts rs b e) → ((m : ℕ) (e : Standing) → slice_get b.standing m ≡ Some e → (slice_get a.standing m ≡ Some e) ⊎ (e.found.rule ≡ q.found.rule)) → ((j : ℕ) (i : Implication) → slice_get b.implications j ≡ Some i → (slice_get a.implications j ≡ Some i) ⊎ IsStep keys read texts ds b j i) → IsServed keys read texts b q → IsSearch keys read texts rs ds (done + 1) b
    go_on rs ds done a b q h at stays sites rules steps served = record {
      root = h.root;
      root_there = stays.implications h.root _ h.root_there;
      rules = λ k r p e c. kept_site a b k (length keys + h.root) p stays (h.rules k r p e c);
      parameters = λ r k d p e g. kept_parameter_there ds a b r k stays (h.parameters r k d p e g);
      placed_in = λ m e x. elim (rules m e x) [ inl k ↦ h.placed_in m e k | inr k ↦ (let w = h.placed_in done q at in (w.0, ap (slice_get rs) k ∙ w.1)) ];
      sites = λ m e x. elim (sites m e x) [ inl k ↦ kept_from rs a b e stays (h.sites m e k) | inr k ↦ k ];
      steps = λ j i x. elim (steps j i x) [ inl k ↦ kept_step ds a b j i stays (h.steps j i k) | inr k ↦ k ];
      served = λ m e l x. elim (cases_lt m done) [
        | inl k ↦ kept_served a b e stays (h.served m e k (before m e k x))
        | inr k ↦
            let same : m ≡ done = omega (arith, k, l) in
            subst (IsServed keys read texts b) (one_of (slice_get b.standing done) q e (stays.standing done q at) (subst (λ w. slice_get b.standing w ≡ Some e) same x)) served
      ];
    }
      where
        within_done : done < length a.standing
        within_done = slice_get_within a.standing done q at

        before : (m : ℕ) (e : Standing) → m < done → slice_get b.standing m ≡ Some e → slice_get a.standing m ≡ Some e
        before m e l x =
            let w = slice_get_within a.standing done q at in
            let y = element a.standing m (omega (arith, l, w)) in
            y.1 ∙ ap Some (one_of (slice_get b.standing m) y.0 e (stays.standing m y.0 y.1) x)

    same_state : (rs : List S.Rule) (ds : List Definition) (done : ℕ) (a b : State) (q : Standing) → b ≡ a → IsSearch keys read texts rs ds done a → slice_get a.standing done ≡ Some q → IsServed keys read texts a q → IsSearch keys read texts rs ds (done + 1) b
    same_state rs ds done a b q e h at served = subst (IsSearch keys read texts rs ds (done + 1)) (sym e) (go_on rs ds done a a q h at (stay_same a) (λ m x y. inl y) (λ m x y. inl y) (λ j i y. inl y) served)

    pub next_site : (rs : List S.Rule) (ds : List Definition) (done : ℕ) (a b : State) (q : Standing) → slice_get a.standing done ≡ Some q → Brings keys read texts q a b → IsSearch keys read texts rs ds done a → IsSearch keys read texts rs ds (done + 1) b
    next_site rs ds done a b q at (no_reference e s) h = same_state rs ds done a b q s h at (without_reference e)
    next_site rs ds done a b q at (no_number f e g s) h = same_state rs ds done a b q s h at (without_number f e g)
    next_site rs ds done a b q at (a_use f n used e g u is es) h =
        go_on rs ds done a b q h at stays
        (λ m x y. inl (subst (λ w. slice_get w m ≡ Some x) es y))
        (λ m x y. inl (subst (λ w. slice_get w m ≡ Some x) es y))
        (λ j i y. elim (get_cases a.implications (of_use used q.context) j i (subst (λ w. slice_get w j ≡ Some i) is y)) [
          | inl k ↦ inl k
          | inr k ↦ inr (used_at done q f n (stays.standing done q at) e g (subst (λ (v : Implication). slice_get keys v.then ≡ Some (use_of q.found.rule n)) (sym k.1) u) (ap (λ (v : Implication). v.first) k.1))
        ])
        (with_use f n used (length a.implications) e g u (subst (λ w. slice_get w (length a.implications) ≡ Some (of_use used q.context)) (sym is) (get_added a.implications (of_use used q.context))))
      where
        stays : Stays a b
        stays = record {
          implications = λ j i y. subst (λ w. slice_get w j ≡ Some i) (sym is) (get_before a.implications (of_use used q.context ∷ []) j i y);
          standing = λ m x y. subst (λ w. slice_get w m ≡ Some x) (sym es) y;
        }
    next_site rs ds done a b q at (some_arguments f n e g u adds) h =
        go_on rs ds done a b q h at adds.stays
        (λ m x y. elim (adds.sites m x y) [ inl k ↦ inl k | inr k ↦ inr (within done q f n (adds.stays.standing done q at) e g u k) ])
        (λ m x y. elim (adds.sites m x y) [ inl k ↦ inl k | inr k ↦ inr k.rule ])
        (λ j i y. elim (adds.steps j i y) [ inl k ↦ inl k | inr k ↦ inr (context k) ])
        (with_arguments f n e g u (λ k s x v t. adds.complete k s x (slice_get_within (arguments f) k x v) v t))

    -- where no site is left, all are served
    pub all_served : (rs : List S.Rule) (ds : List Definition) (done : ℕ) (st : State) → length st.standing ≤ done → IsSearch keys read texts rs ds done st → IsSearch keys read texts rs ds (length st.standing) st
    all_served rs ds done st le h = record {
      root = h.root;
      root_there = h.root_there;
      rules = h.rules;
      placed_in = h.placed_in;
      parameters = h.parameters;
      sites = h.sites;
      steps = h.steps;
      served = λ m q l x. h.served m q (omega (arith, l, le)) x;
    }

    -- what a name brings, that is the name at the site
    pub brings_name : (q : Standing) (a b : State) (name : Ref) (n : ℕ) → ref_at_site (seen read q) ≡ Some (view_ref read name) → slice_get texts n ≡ Some (ref_name (view_ref read name)) → BringsName keys q a b name n → Brings keys read texts q a b
    brings_name q a b name n e g (a_parameter used u is es) = a_use (view_ref read name) n used e g u is es
    brings_name q a b name n e g (no_parameter u adds) = some_arguments (view_ref read name) n e g u (adds read)

    -- the search before any site is served
    pub begins : (rs : List S.Rule) (ds : List Definition) (fs : List Found) (is : List Implication) (st : State) → IsPrepared ds (length ds) 0 keys is → st.implications ≡ is ++ of_rules (length keys) (length is) ∷ [] → st.standing ≡ standing_at (length keys + length is) (outside fs) → ((f : Found) → Contains (outside fs) f → StandsIn outer_sites read rs f) → ((k : ℕ) (r : S.Rule) (p : Site) → slice_get rs k ≡ Some r → Contains (outer_sites r) p → WasFound read (outside fs) k p) → IsSearch keys read texts rs ds 0 st
    begins rs ds fs is st h implied stand found every = record {
      root = length is;
      root_there = subst (λ w. slice_get w (length is) ≡ Some (of_rules (length keys) (length is))) (sym implied) (get_added is (of_rules (length keys) (length is)));
      rules = λ k r p e c.
          let w = every k r p e c in
          let m = place_of (outside fs) w.found w.contained in
          record {
            place = m.0;
            site = record { found = w.found; context = length keys + length is };
            there = subst (λ es. slice_get es m.0 ≡ Some (record { found = w.found; context = length keys + length is })) (sym stand) (at_context (length keys + length is) (outside fs) m.0 w.found m.1);
            rule_same = w.place;
            context_same = refl;
            same = w.same;
          };
      placed_in = λ m e x. let w = stands m e x in (w.rule, w.place);
      parameters = λ r k d p e g.
          let w = h.complete r k d p (inl (slice_get_within ds r d e)) e g in
          record { at = w.at; implication = w.implication; there = subst (λ v. slice_get v w.at ≡ Some w.implication) (sym implied) (get_before is (of_rules (length keys) (length is) ∷ []) w.at w.implication w.there); is_parameter = w.is_parameter };
      sites = λ m e x. let w = stands m e x in of_rule w.rule w.place w.contained;
      steps = λ j i x. elim (get_cases is (of_rules (length keys) (length is)) j i (subst (λ v. slice_get v j ≡ Some i) implied x)) [
        | inl k ↦ parameter (h.steps j i k)
        | inr k ↦ context (ap (λ (v : Implication). v.then) k.1 ∙ ap (λ m. length keys + m) (sym k.0))
      ];
      served = λ m q l x. absurd (omega (arith, l));
    }
      where
        stands : (m : ℕ) (e : Standing) → slice_get st.standing m ≡ Some e → StandsIn outer_sites read rs e.found
        stands m e x = found e.found (contained (outside fs) m e.found (in_context (length keys + length is) (outside fs) m e (subst (λ es. slice_get es m ≡ Some e) stand x)).0)
