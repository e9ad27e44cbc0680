-- What clap's clauses say of the words.
use Rattle.std.proofs.Common.{◌≡◌, ℕ, arith, List, [], ◌∷◌, true, codes, Option, Some, None, option_map, option_and_then, inl, inr, refl, sym, ap, ◌∙◌}
use Rattle.std.specs.Prelude.{Result, Ok, Err, Box, IfErr, IfOk}
use Rattle.std.specs.Result.{IsErrAnd}
use Rattle.std.specs.Box.{box_value}
use Rattle.clap.specs.Words.{App, Row, Text, is_simple, subcommand_of, first_of, HasMatchesOf, subcommand_rows_of, subcommand_rows, subcommand_name_of, rows_of, found_of, fault_of, HasKind, Kinds, kind_of}
use Rattle.clap.specs.Faults.{is_simple_and_free}
use Rattle.clap.specs.declared.error.Error.{Error}
use Rattle.clap.specs.declared.error.kind.ErrorKind.TheVariants as kind
use Rattle.clap.specs.declared.parser.matches.ArgMatches.{ArgMatches}
use Rattle.clap.specs.declared.parser.matches.ArgMatches.TheViews.{out-ArgMatches, out-SubCommand}
use Rattle.clap.specs.declared.parser.matches.SubCommand.{SubCommand}
use Rattle.clap.proofs.OnLiterals.{clap_on_literals}
use Rattle.command_line.specs.declared.choice.Options.{Options}
use Rattle.command_line.specs.declared.choice.Task.{Task}
use Rattle.command_line.specs.declared.choice.Task.TheVariants.{Check, Validate, Rewrite, Show, Explain}
use Rattle.command_line.specs.declared.choice.Use.{Use}
use Rattle.command_line.specs.declared.choice.Use.TheVariants.{Words, Memory}
use Rattle.command_line.specs.Errors.{IsUseOf}
use Rattle.command_line.specs.Chosen.{program_app, task_name, named_command, given_text, given_number, is_set, AreRead, AreUnread, AreChosen, IsMisuse}

is_plain : is_simple program_app ≡ true
unfolding clap_on_literals
is_plain = refl

is_plain_and_free : is_simple_and_free program_app ≡ true
unfolding clap_on_literals
is_plain_and_free = refl

-- the rows of the subcommand that was met
pub met : (a : App) (words : List Text) (m : ArgMatches) → a ≡ program_app → HasMatchesOf a words m → subcommand_rows_of m ≡ subcommand_of program_app words
met a words m e h = (h (ap is_simple e ∙ is_plain)).1 ∙ ap (λ (b : App). subcommand_of b words) e

-- nothing is wrong with words that were taken
pub no_fault : (a : App) (words : List Text) (m : ArgMatches) → a ≡ program_app → (is_simple_and_free a ≡ true → fault_of a words ≡ []) → fault_of program_app words ≡ []
no_fault a words m e h = ap (λ (b : App). fault_of b words) (sym e) ∙ h (ap is_simple_and_free e ∙ is_plain_and_free)

names_same : {Z : Type 0} (x : Option (Box SubCommand Z)) → option_map (λ p. p.0) (subcommand_rows x) ≡ option_map (λ b. (out-SubCommand (box_value b)).name.now) x
names_same None = refl
names_same (Some b) = refl

-- the name and the rows of the subcommand that the words name
pub record IsMet (words : List Text) (name : Text) (rows : List Row) : Type 0 where
  pub found : subcommand_of program_app words ≡ Some (name, rows)

found_parts : (r : Option (Text × List Row)) (name : Text) (rows : List Row) → option_map (λ p. p.0) r ≡ Some name → option_map (λ p. p.1) r ≡ Some rows → r ≡ Some (name, rows)
found_parts None name rows e f = absurd (cc)
found_parts (Some p) name rows e f =
    let first : p.0 ≡ name = cc in
    let second : p.1 ≡ rows = cc in
    rw (← first, ← second) refl

pub is_met : (words : List Text) (m g : ArgMatches) (name : Text) → subcommand_rows_of m ≡ subcommand_of program_app words → subcommand_name_of m ≡ Some name →
    option_map (λ p. p.1) (subcommand_rows_of m) ≡ Some (rows_of (found_of g)) → IsMet words name (rows_of (found_of g))
is_met words m g name sub same_name rows = record {
  found = sym sub ∙ found_parts (subcommand_rows_of m) name (rows_of (found_of g)) (names_same (out-ArgMatches m).subcommand ∙ same_name) rows;
}

pub chosen_of : (words : List Text) (task : Task) (rows : List Row) (o : Options) → fault_of program_app words ≡ [] → IsMet words (task_name task) rows → AreRead task rows o → AreChosen o words
unfolding named_command given_text given_number
chosen_of words task rows o taken met read = record {
  taken = taken;
  task = ap (option_map (λ (p : Text × List Row). p.0)) met.found ∙ ap (λ (t : Task). Some (task_name t)) (sym read.task_is);
  code = read.code ∙ sym (ap (option_and_then (λ (p : Text × List Row). first_of (codes "code") p.1)) met.found);
  spec = read.spec ∙ sym (ap (option_and_then (λ (p : Text × List Row). first_of (codes "spec") p.1)) met.found);
  root = read.root ∙ sym (ap (option_and_then (λ (p : Text × List Row). first_of (codes "root") p.1)) met.found);
  file = read.file ∙ sym (ap (option_and_then (λ (p : Text × List Row). first_of (codes "file") p.1)) met.found);
  steps = rw (met.found, read.task_is) read.steps;
  depth = rw (met.found, read.task_is) read.depth;
  item_bytes = rw (met.found, read.task_is) read.item_bytes;
  quiet = read.quiet ∙ ap is_set (sym (ap (option_and_then (λ (p : Text × List Row). first_of (codes "quiet") p.1)) met.found));
  deterministic = read.deterministic ∙ ap is_set (sym (ap (option_and_then (λ (p : Text × List Row). first_of (codes "deterministic") p.1)) met.found));
  explain = read.explain ∙ ap is_set (sym (ap (option_and_then (λ (p : Text × List Row). first_of (codes "explain") p.1)) met.found));
  no_progress = read.no_progress ∙ ap is_set (sym (ap (option_and_then (λ (p : Text × List Row). first_of (codes "no-progress") p.1)) met.found));
}

first_code : Text → ℕ
first_code [] = 0
first_code (x ∷ xs) = x

same_name : (s t : Task) → task_name s ≡ task_name t → s ≡ t
unfolding first_code
same_name Check Check e = refl
same_name Check Validate e = absurd (cc)
same_name Check Rewrite e = absurd (cc)
same_name Check Show e = absurd (cc)
same_name Check Explain e = absurd (cc)
same_name Validate Check e = absurd (cc)
same_name Validate Validate e = refl
same_name Validate Rewrite e = absurd (cc)
same_name Validate Show e = absurd (cc)
same_name Validate Explain e = absurd (cc)
same_name Rewrite Check e = absurd (cc)
same_name Rewrite Validate e = absurd (cc)
same_name Rewrite Rewrite e = refl
same_name Rewrite Show e = absurd (cc)
same_name Rewrite Explain e = let h : 114 ≡ 101 = ap first_code e in absurd (omega (arith, h))
same_name Show Check e = absurd (cc)
same_name Show Validate e = absurd (cc)
same_name Show Rewrite e = absurd (cc)
same_name Show Show e = refl
same_name Show Explain e = absurd (cc)
same_name Explain Check e = absurd (cc)
same_name Explain Validate e = absurd (cc)
same_name Explain Rewrite e = let h : 101 ≡ 114 = ap first_code e in absurd (omega (arith, h))
same_name Explain Show e = absurd (cc)
same_name Explain Explain e = refl

pub read_of : (words : List Text) (task : Task) (rows : List Row) (o : Options) → IsMet words (task_name task) rows → AreChosen o words → AreRead task rows o
unfolding named_command given_text given_number
read_of words task rows o met c =
    let there : Some (task_name o.task) ≡ Some (task_name task) = sym c.task ∙ ap (option_map (λ (p : Text × List Row). p.0)) met.found in
    let same : o.task ≡ task = same_name o.task task (let e : task_name o.task ≡ task_name task = cc in e) in
    record {
      task_is = same;
      code = c.code ∙ ap (option_and_then (λ (p : Text × List Row). first_of (codes "code") p.1)) met.found;
      spec = c.spec ∙ ap (option_and_then (λ (p : Text × List Row). first_of (codes "spec") p.1)) met.found;
      root = c.root ∙ ap (option_and_then (λ (p : Text × List Row). first_of (codes "root") p.1)) met.found;
      file = c.file ∙ ap (option_and_then (λ (p : Text × List Row). first_of (codes "file") p.1)) met.found;
      steps = rw (met.found, same) at c.steps;
      depth = rw (met.found, same) at c.depth;
      item_bytes = rw (met.found, same) at c.item_bytes;
      quiet = c.quiet ∙ ap is_set (ap (option_and_then (λ (p : Text × List Row). first_of (codes "quiet") p.1)) met.found);
      deterministic = c.deterministic ∙ ap is_set (ap (option_and_then (λ (p : Text × List Row). first_of (codes "deterministic") p.1)) met.found);
      explain = c.explain ∙ ap is_set (ap (option_and_then (λ (p : Text × List Row). first_of (codes "explain") p.1)) met.found);
      no_progress = c.no_progress ∙ ap is_set (ap (option_and_then (λ (p : Text × List Row). first_of (codes "no-progress") p.1)) met.found);
    }

pub unread : (task : Task) (rows : List Row) (u : Use) → ((o : Options) → AreRead task rows o → ⊥) → AreUnread task rows u
unread task rows (Words e) h = h
unread task rows Memory h = tt

pub misused : (words : List Text) (u : Use) → ((o : Options) → AreChosen o words → ⊥) → IsMisuse words u
misused words (Words e) h = h
misused words Memory h = tt

-- what the rows say of the options is what the words say of them
pub chosen_if_read : (words : List Text) (task : Task) (rows : List Row) (r : Result Options Use) → fault_of program_app words ≡ [] → IsMet words (task_name task) rows → IfOk r (AreRead task rows) → IfOk r (λ o. AreChosen o words)
chosen_if_read words task rows (Ok o) taken met read = chosen_of words task rows o taken met read
chosen_if_read words task rows (Err u) taken met read = tt

pub misused_if_unread : (words : List Text) (task : Task) (rows : List Row) (r : Result Options Use) → IsMet words (task_name task) rows → IfErr r (AreUnread task rows) → IfErr r (IsMisuse words)
misused_if_unread words task rows (Ok o) met unread = tt
misused_if_unread words task rows (Err (Words e)) met unread = λ o c. unread o (read_of words task rows o met c)
misused_if_unread words task rows (Err Memory) met unread = tt

fault_found : (words : List Text) (kinds : Kinds) (e : Error) → fault_of program_app words ≡ kinds → HasKind kinds e → (kind_of e ≡ kind.OutOfMemory → ⊥) → (o : Options) → AreChosen o words → ⊥
fault_found words [] e is (inl memory) not o c = not memory
fault_found words [] e is (inr none) not o c = none
fault_found words (k ∷ kinds) e is h not o c = let none : [] ≡ k ∷ kinds = sym c.taken ∙ is in absurd (cc)

-- words that clap refuses give no options
refused_words : (a : App) (words : List Text) (e : Error) (u : Use) → a ≡ program_app → (is_simple_and_free a ≡ true → HasKind (fault_of a words) e) → IsUseOf e u → IsMisuse words u
refused_words a words e (Words f) is h (inl memory) = let never : Words f ≡ Memory = memory.1 in absurd (cc)
refused_words a words e Memory is h (inl memory) = tt
refused_words a words e u is h (inr both) =
    misused words u (fault_found words (fault_of a words) e (ap (λ (b : App). fault_of b words) (sym is)) (h (ap is_simple_and_free is ∙ is_plain_and_free)) both.0)

pub refused_result : (a : App) (words : List Text) (e : Error) (r : Result Options Use) → a ≡ program_app → (is_simple_and_free a ≡ true → HasKind (fault_of a words) e) → IsErrAnd r (IsUseOf e) → IfErr r (IsMisuse words)
refused_result a words e (Ok o) is h uses = tt
refused_result a words e (Err u) is h uses = refused_words a words e u is h uses

pub named_met : (words : List Text) (m : ArgMatches) (name : Text) → subcommand_rows_of m ≡ subcommand_of program_app words → named_command words ≡ Some name → subcommand_name_of m ≡ Some name
unfolding named_command
named_met words m name sub is = sym (names_same (out-ArgMatches m).subcommand) ∙ (ap (option_map (λ (p : Text × List Row). p.0)) sub ∙ is)

-- where no command was met the words give no options
pub none_met : (words : List Text) (m : ArgMatches) → subcommand_rows_of m ≡ subcommand_of program_app words → (subcommand_name_of m ≡ Some (codes "check") → ⊥) → (subcommand_name_of m ≡ Some (codes "validate") → ⊥) → (subcommand_name_of m ≡ Some (codes "rewrite") → ⊥) → (subcommand_name_of m ≡ Some (codes "show") → ⊥) → (subcommand_name_of m ≡ Some (codes "explain") → ⊥) →
    (o : Options) → AreChosen o words → ⊥
none_met words m sub not_check not_validate not_rewrite not_show not_explain o c = none o.task refl
  where
    none : (t : Task) → o.task ≡ t → ⊥
    none Check e = not_check (named_met words m (codes "check") sub (c.task ∙ ap (λ (s : Task). Some (task_name s)) e))
    none Validate e = not_validate (named_met words m (codes "validate") sub (c.task ∙ ap (λ (s : Task). Some (task_name s)) e))
    none Rewrite e = not_rewrite (named_met words m (codes "rewrite") sub (c.task ∙ ap (λ (s : Task). Some (task_name s)) e))
    none Show e = not_show (named_met words m (codes "show") sub (c.task ∙ ap (λ (s : Task). Some (task_name s)) e))
    none Explain e = not_explain (named_met words m (codes "explain") sub (c.task ∙ ap (λ (s : Task). Some (task_name s)) e))
