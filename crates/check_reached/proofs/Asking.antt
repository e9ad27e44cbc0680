-- What is asked, site by site and instance by instance.
use Rattle.std.proofs.Common.{◌≡◌, ℕ, ◌+◌, ◌<◌, List, [], ◌∷◌, ◌++◌, append_assoc, length, map, drop, get_or, Option, Some, None, slice_get, refl, sym, ap, subst, ◌∙◌}
use Rattle.std.proofs.lemmas.List.{map-append}
use Rattle.std.proofs.lemmas.Option.{none-some}
use Rattle.tree_nodes.specs.Syntax.Syntax as S
use Rattle.cddl_language.specs.Reading.{name_in, parameters_in}
use Rattle.cddl_language.specs.Terms.{Ref, Text, arguments_of}
use Rattle.check_terms.specs.declared.definition.Definition.{Definition}
use Rattle.check_terms.specs.Definitions.{AreTexts}
use Rattle.check_terms.specs.Filled.{term_trees}
use Rattle.check_terms.specs.Table.{Holds, Table, Tree}
use Rattle.check_terms.specs.Trees.{IsRef, ref_tree}
use Rattle.check_terms.specs.Fill.Slots.{ArePlacesOf}
use Rattle.check_terms.specs.Fill.Templates.{AreTrees, further_tree}
use Rattle.check_reached.specs.Calls.{refs_named}
use Rattle.check_reached.specs.declared.asked.Asked.{Asked}
use Rattle.check_reached.specs.Asked.{AreAnswers, no_answers, further_answer, AreReady, IsAnswer, IsReady, wanted_by, wanted_one, wanted_each, wanted_in}
use Rattle.check_reading.specs.Parts.{Wanted}
use Rattle.check_reached.specs.Runs.{AreCalls, no_calls, further_call, IsCall, IsRunFor, IsRunOf}
use Rattle.check_reached.specs.declared.runs.Call.{Call}
use Rattle.check_reached.specs.declared.runs.Run.{Run}
use Rattle.check_reached.proofs.Lists.{next_drop, none_more, one_of}

-- What a table's growth keeps.

answer_kept : (old new : Table) → ((n : Option ℕ) (x : Tree) → Holds old n x → Holds new n x) → (a : Asked) (w : Wanted) → IsAnswer old a w → IsAnswer new a w
answer_kept old new kept a w h = record { at = h.at; question = h.question; holds = kept (Some a.row) w.tree h.holds; call = kept (Some a.call) w.call h.call }

pub answers_kept : (old new : Table) → ((n : Option ℕ) (x : Tree) → Holds old n x → Holds new n x) → (answers : List Asked) (ws : List Wanted) → AreAnswers old answers ws → AreAnswers new answers ws
answers_kept old new kept answers ws no_answers = no_answers
answers_kept old new kept answers ws (further_answer {a = a} {w = w} {answers = more} {ws = vs} h hs) = further_answer (answer_kept old new kept a w h) (answers_kept old new kept more vs hs)

pub ready_kept : (old new : Table) (rs : List S.Rule) (refs : List Ref) (ls : List (List ℕ)) (ds : List Definition) → ((ns : List ℕ) (xs : List Text) → AreTexts old.texts ns xs → AreTexts new.texts ns xs) → ((ns : List ℕ) (xs : List Tree) → AreTrees old ns xs → AreTrees new ns xs) → AreReady old rs refs ls ds → AreReady new rs refs ls ds
ready_kept old new rs refs ls ds texts trees so = record { some = one; none = so.none }
  where
    one : (k : ℕ) (r : S.Rule) → slice_get rs k ≡ Some r → IsReady new refs ls (slice_get ds k) r
    one k r e =
        let w = so.some k r e in
        record {
          definition = w.definition;
          calls = w.calls;
          there = w.there;
          parameters = texts w.definition.parameters.items (parameters_in r) w.parameters;
          listed = w.listed;
          trees = trees w.calls (map ref_tree (refs_named (name_in r) refs)) w.trees;
        }

answers_push : (t : Table) (answers : List Asked) (ws : List Wanted) (a : Asked) (w : Wanted) → AreAnswers t answers ws → IsAnswer t a w → AreAnswers t (answers ++ a ∷ []) (ws ++ w ∷ [])
answers_push t answers ws a w no_answers h = further_answer h no_answers
answers_push t answers ws a w (further_answer {answers = more} {ws = vs} k ks) h = further_answer k (answers_push t more vs a w ks h)

call_kept : (old new : Table) → ((n : Option ℕ) (x : Tree) → Holds old n x → Holds new n x) → ((ns : List ℕ) (xs : List Tree) → AreTrees old ns xs → AreTrees new ns xs) → (c : Call) (r : Ref) → IsCall old c r → IsCall new c r
call_kept old new tree trees c r h = record { row = tree (Some c.row) (ref_tree r) h.row; arguments = trees c.arguments.items (term_trees (arguments_of r)) h.arguments }

pub calls_kept : (old new : Table) → ((n : Option ℕ) (x : Tree) → Holds old n x → Holds new n x) → ((ns : List ℕ) (xs : List Tree) → AreTrees old ns xs → AreTrees new ns xs) → (cs : List Call) (rs : List Ref) → AreCalls old cs rs → AreCalls new cs rs
calls_kept old new tree trees cs rs no_calls = no_calls
calls_kept old new tree trees cs rs (further_call {c = c} {r = r} {cs = ds} {rs = qs} h hs) = further_call (call_kept old new tree trees c r h) (calls_kept old new tree trees ds qs hs)

pub run_kept : (old new : Table) → ((n : Option ℕ) (x : Tree) → Holds old n x → Holds new n x) → ((ns : List ℕ) (xs : List Tree) → AreTrees old ns xs → AreTrees new ns xs) → ((ns : List ℕ) (xs : List Text) → AreTexts old.texts ns xs → AreTexts new.texts ns xs) → (ps : List Text) (refs : List Ref) (run : Run) → IsRunOf old ps refs run → IsRunOf new ps refs run
run_kept old new tree trees texts ps refs run h = record { numbers = h.numbers; parameters = texts h.numbers ps h.parameters; places = h.places; calls = calls_kept old new tree trees run.calls.items refs h.calls }

-- the same of a rule's run
pub still_run : (old new : Table) → ((ps : List Text) (refs : List Ref) (run : Run) → IsRunOf old ps refs run → IsRunOf new ps refs run) → (refs : List Ref) (o : Option S.Rule) (run : Run) → IsRunFor old refs o run → IsRunFor new refs o run
still_run old new kept refs None run h = kept [] [] run h
still_run old new kept refs (Some r) run h = kept (parameters_in r) (refs_named (name_in r) refs) run h

split_call : (t : Table) (c : Call) (cs : List Call) (r : Ref) (rs : List Ref) → AreCalls t (c ∷ cs) (r ∷ rs) → IsCall t c r × AreCalls t cs rs
split_call t c cs r rs (further_call h hs) = (h, hs)

split_tree : (t : Table) (n : ℕ) (ns : List ℕ) (x : Tree) (xs : List Tree) → AreTrees t (n ∷ ns) (x ∷ xs) → Holds t (Some n) x × AreTrees t ns xs
split_tree t n ns x xs (further_tree h hs) = (h, hs)

-- Some references are served, and these are left.
pub record IsFilling (t : Table) (ps : List Text) (w : Wanted) (refs : List Ref) (ws : List Wanted) (left : List Call) (answers : List Asked) : Type 0 where
  pub before : List Ref
  pub after : List Ref
  pub whole : refs ≡ before ++ after
  pub are_left : AreCalls t left after
  pub are_done : AreAnswers t answers (ws ++ wanted_each ps w before)

pub none_filled : (t : Table) (ps : List Text) (w : Wanted) (refs : List Ref) (ws : List Wanted) (calls : List Call) (answers : List Asked) → AreCalls t calls refs → AreAnswers t answers ws → IsFilling t ps w refs ws calls answers
none_filled t ps w refs ws calls answers trees so = record { before = []; after = refs; whole = refl; are_left = trees; are_done = subst (AreAnswers t answers) (sym (none_more ws)) so }

module _ (old new : Table) (kept_answers : (answers : List Asked) (ws : List Wanted) → AreAnswers old answers ws → AreAnswers new answers ws) (kept_calls : (cs : List Call) (rs : List Ref) → AreCalls old cs rs → AreCalls new cs rs) (ps : List Text) (w : Wanted) (refs : List Ref) (ws : List Wanted) (answers : List Asked) (a : Asked) where
  one_filled : (call : Call) (left : List Call) → ((r : Ref) → IsCall old call r → IsAnswer new a (wanted_in ps w r)) → IsFilling old ps w refs ws (call ∷ left) answers → IsFilling new ps w refs ws left (answers ++ a ∷ [])
  one_filled call left is so = by so.after so.whole so.are_left
    where
      by : (after : List Ref) → refs ≡ so.before ++ after → AreCalls old (call ∷ left) after → IsFilling new ps w refs ws left (answers ++ a ∷ [])
      by [] e h = elim h [ ]
      by (r ∷ rs) e h =
          let parts = split_call old call left r rs h in
          record {
            before = so.before ++ r ∷ [];
            after = rs;
            whole = e ∙ sym (append_assoc so.before (r ∷ []) rs);
            are_left = kept_calls left rs parts.1;
            are_done = subst (AreAnswers new (answers ++ a ∷ [])) (sym joined) (answers_push new answers (ws ++ wanted_each ps w so.before) a (wanted_in ps w r) (kept_answers answers (ws ++ wanted_each ps w so.before) so.are_done) (is r parts.0));
          }
        where
          joined : ws ++ wanted_each ps w (so.before ++ r ∷ []) ≡ (ws ++ wanted_each ps w so.before) ++ wanted_in ps w r ∷ []
          joined = ap (λ (vs : List Wanted). ws ++ vs) (map-append (wanted_in ps w) so.before (r ∷ [])) ∙ sym (append_assoc ws (wanted_each ps w so.before) (wanted_in ps w r ∷ []))

  pub next_filled : (calls : List Call) (i : ℕ) (call : Call) → i < length calls → call ≡ get_or calls i call → ((r : Ref) → IsCall old call r → IsAnswer new a (wanted_in ps w r)) → IsFilling old ps w refs ws (drop i calls) answers → IsFilling new ps w refs ws (drop (i + 1) calls) (answers ++ a ∷ [])
  next_filled calls i call l e is so = one_filled call (drop (i + 1) calls) is (subst (λ cs. IsFilling old ps w refs ws cs answers) (next_drop calls i call l ∙ ap (λ (c : Call). c ∷ drop (i + 1) calls) (sym e)) so)

pub all_filled : (t : Table) (ps : List Text) (w : Wanted) (refs : List Ref) (ws : List Wanted) (left : List Call) (answers : List Asked) → left ≡ [] → IsFilling t ps w refs ws left answers → AreAnswers t answers (ws ++ wanted_each ps w refs)
all_filled t ps w refs ws left answers none so = by so.after so.whole (subst (λ cs. AreCalls t cs so.after) none so.are_left)
  where
    by : (after : List Ref) → refs ≡ so.before ++ after → AreCalls t [] after → AreAnswers t answers (ws ++ wanted_each ps w refs)
    by [] e h = subst (λ rs. AreAnswers t answers (ws ++ wanted_each ps w rs)) (sym (e ∙ none_more so.before)) so.are_done
    by (r ∷ rs) e h = elim h [ ]

-- Some parts are served, and these are left.
module _ (A : Type 0) (of : A → List Wanted) (all : List A) where
  pub record IsGoing (t : Table) (left : List A) (answers : List Asked) : Type 0 where
    pub before : List Wanted
    pub whole : wanted_by of all ≡ before ++ wanted_by of left
    pub answered : AreAnswers t answers before

  pub none_gone : (t : Table) → IsGoing t all []
  none_gone t = record { before = []; whole = refl; answered = no_answers }

  one_gone : (old new : Table) (f : A) (left : List A) (answers more : List Asked) → ((ws : List Wanted) → AreAnswers old answers ws → AreAnswers new more (ws ++ of f)) → IsGoing old (f ∷ left) answers → IsGoing new left more
  one_gone old new f left answers more is so = record {
    before = so.before ++ of f;
    whole = so.whole ∙ sym (append_assoc so.before (of f) (wanted_by of left));
    answered = is so.before so.answered;
  }

  pub next_gone : (old new : Table) (i : ℕ) (f : A) (answers more : List Asked) → i < length all → f ≡ get_or all i f → ((ws : List Wanted) → AreAnswers old answers ws → AreAnswers new more (ws ++ of f)) → IsGoing old (drop i all) answers → IsGoing new (drop (i + 1) all) more
  next_gone old new i f answers more l e is so = one_gone old new f (drop (i + 1) all) answers more is (subst (λ fs. IsGoing old fs answers) (next_drop all i f l ∙ ap (λ (g : A). g ∷ drop (i + 1) all) (sym e)) so)

  pub all_gone : (t : Table) (left : List A) (answers : List Asked) → left ≡ [] → IsGoing t left answers → AreAnswers t answers (wanted_by of all)
  all_gone t left answers none so = subst (AreAnswers t answers) (sym (so.whole ∙ ap (λ fs. so.before ++ wanted_by of fs) none ∙ none_more so.before)) so.answered

-- References of these rows, some of them with their arguments, and these rows are left.
pub record IsListing (t : Table) (refs : List Ref) (left : List ℕ) (calls : List Call) : Type 0 where
  pub before : List Ref
  pub after : List Ref
  pub whole : refs ≡ before ++ after
  pub are_left : AreTrees t left (map ref_tree after)
  pub are_done : AreCalls t calls before

module _ (t : Table) (refs : List Ref) where
  pub none_listed : (rows : List ℕ) → AreTrees t rows (map ref_tree refs) → IsListing t refs rows []
  none_listed rows trees = record { before = []; after = refs; whole = refl; are_left = trees; are_done = no_calls }

  call_added : (cs : List Call) (rs : List Ref) (c : Call) (r : Ref) → AreCalls t cs rs → IsCall t c r → AreCalls t (cs ++ c ∷ []) (rs ++ r ∷ [])
  call_added cs rs c r no_calls h = further_call h no_calls
  call_added cs rs c r (further_call {cs = ds} {rs = qs} k ks) h = further_call k (call_added ds qs c r ks h)

  one_listed : (row : ℕ) (left : List ℕ) (calls : List Call) (c : Call) → ((r : Ref) → IsRef t row r → IsCall t c r) → IsListing t refs (row ∷ left) calls → IsListing t refs left (calls ++ c ∷ [])
  one_listed row left calls c is so = by so.after so.whole so.are_left
    where
      by : (after : List Ref) → refs ≡ so.before ++ after → AreTrees t (row ∷ left) (map ref_tree after) → IsListing t refs left (calls ++ c ∷ [])
      by [] e h = elim h [ ]
      by (r ∷ rs) e h =
          let parts = split_tree t row left (ref_tree r) (map ref_tree rs) h in
          record {
            before = so.before ++ r ∷ [];
            after = rs;
            whole = e ∙ sym (append_assoc so.before (r ∷ []) rs);
            are_left = parts.1;
            are_done = call_added calls so.before c r so.are_done (is r parts.0);
          }

  pub next_listed : (rows : List ℕ) (i other : ℕ) (calls : List Call) (c : Call) → i < length rows → ((r : Ref) → IsRef t (get_or rows i other) r → IsCall t c r) → IsListing t refs (drop i rows) calls → IsListing t refs (drop (i + 1) rows) (calls ++ c ∷ [])
  next_listed rows i other calls c l is so = one_listed (get_or rows i other) (drop (i + 1) rows) calls c is (subst (λ ns. IsListing t refs ns calls) (next_drop rows i other l) so)

  pub all_listed : (left : List ℕ) (calls : List Call) → left ≡ [] → IsListing t refs left calls → AreCalls t calls refs
  all_listed left calls none so = by so.after so.whole (subst (λ ns. AreTrees t ns (map ref_tree so.after)) none so.are_left)
    where
      by : (after : List Ref) → refs ≡ so.before ++ after → AreTrees t [] (map ref_tree after) → AreCalls t calls refs
      by [] e h = subst (AreCalls t calls) (sym (e ∙ none_more so.before)) so.are_done
      by (r ∷ rs) e h = elim h [ ]

-- What serves the rule at a place, where the definitions and the rows of instances are ready.
module _ (t : Table) (rs : List S.Rule) (refs : List Ref) (ls : List (List ℕ)) (ds : List Definition) (ready : AreReady t rs refs ls ds) (k : ℕ) (run : Run) where
  -- no definition, and so no rule
  pub no_definition : slice_get ds k ≡ None → IsRunOf t [] [] run → IsRunFor t refs (slice_get rs k) run
  no_definition e is = by (slice_get rs k) refl
    where
      by : (o : Option S.Rule) → slice_get rs k ≡ o → IsRunFor t refs o run
      by None g = is
      by (Some r) g = absurd (none-some (ready.some k r g).definition (sym e ∙ (ready.some k r g).there))

  -- a name without a list has no rule
  pub no_list : (d : Definition) → slice_get ds k ≡ Some d → slice_get ls d.name ≡ None → IsRunOf t [] [] run → IsRunFor t refs (slice_get rs k) run
  no_list d there e is = by (slice_get rs k) refl
    where
      by : (o : Option S.Rule) → slice_get rs k ≡ o → IsRunFor t refs o run
      by None g = is
      by (Some r) g =
          let w = ready.some k r g in
          let same = one_of (slice_get ds k) d w.definition there w.there in
          absurd (none-some w.calls (sym e ∙ ap (λ (x : Definition). slice_get ls x.name) same ∙ w.listed))

  pub run_made : (d : Definition) (rows : List ℕ) → slice_get ds k ≡ Some d → slice_get ls d.name ≡ Some rows → ArePlacesOf run.slots d.parameters.items → ((qs : List Ref) → AreTrees t rows (map ref_tree qs) → AreCalls t run.calls.items qs) → IsRunFor t refs (slice_get rs k) run
  run_made d rows there listed places calls = by (slice_get rs k) refl
    where
      by : (o : Option S.Rule) → slice_get rs k ≡ o → IsRunFor t refs o run
      by None g = absurd (none-some d (sym (ready.none k g) ∙ there))
      by (Some r) g =
          let w = ready.some k r g in
          let named = refs_named (name_in r) refs in
          let same = one_of (slice_get ds k) w.definition d w.there there in
          let rows_there = one_of (slice_get ls d.name) w.calls rows (ap (λ (x : Definition). slice_get ls x.name) (sym same) ∙ w.listed) listed in
          record {
            numbers = d.parameters.items;
            parameters = subst (λ (x : Definition). AreTexts t.texts x.parameters.items (parameters_in r)) same w.parameters;
            places = places;
            calls = calls named (subst (λ ns. AreTrees t ns (map ref_tree named)) rows_there w.trees);
          }

-- What one part adds.
module _ (t new : Table) (refs : List Ref) (run : Run) (answers more : List Asked) (ws : List Wanted) where
  pub part_asked : (w : Wanted) (o : Option S.Rule) → IsRunFor t refs o run → ((ps : List Text) (qs : List Ref) (vs : List Wanted) → IsRunOf t ps qs run → AreAnswers t answers vs → AreAnswers new more (vs ++ wanted_each ps w qs)) → AreAnswers t answers ws → AreAnswers new more (ws ++ wanted_one refs o w)
  part_asked w None is one so = one [] [] ws is so
  part_asked w (Some r) is one so = one (parameters_in r) (refs_named (name_in r) refs) ws is so
