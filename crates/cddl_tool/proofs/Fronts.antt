-- The first bytes of a text tell what all of it does.
use Rattle.std.proofs.Common.{◌≡◌, ℕ, ◌<◌, ◌≤◌, inl, inr, List, length, take, Option, subst, arith}
use Rattle.std.proofs.lemmas.Bool.{cases_lt}
use Rattle.std.proofs.lemmas.List.{length-take-le, take_all}
use Rattle.check_text.specs.declared.fault.Fault.{Fault}
use Rattle.cddl_check.specs.Text.{IsTreeOfText, IsUnreadText, IsWrongText, no_tokens, no_tree, has_fault}
use Rattle.cddl_table.specs.Text.{IsTabledText}
use Rattle.cddl_token.specs.declared.Refusal.{Refusal}
use Rattle.cddl_token.specs.declared.Refusal.TheVariants as RefusalV
use Rattle.tree_nodes.specs.Syntax.Syntax.{Cddl}
use Rattle.table_nodes.specs.declared.table.Table.{Table}
use Rattle.cddl_token.specs.Answers.{IsRefused}
use Rattle.cddl_token.specs.declared.Code.{Code}
use Rattle.command_line.specs.Reading.{most_read}

-- a text with a tree is short
short : {x : Cddl} {text : List ℕ} → IsTreeOfText x text → length text ≤ 1048576
short h = h.are_tokens.tokenized.0.0

refused_long : (text front : List ℕ) (code : Code) (at : ℕ) → 1048576 < length text → 1048576 < length front → IsRefused front code at → IsRefused text code at
refused_long text front code at long over (inl h) = inl (long, h.1, h.2)
refused_long text front code at long over (inr (inl h)) = absurd (omega (arith, over, h.0))
refused_long text front code at long over (inr (inr h)) = absurd (omega (arith, over, h.0.0))

wrong_long : (text front : List ℕ) (root : Option (List ℕ)) (f : Fault) → 1048576 < length text → 1048576 < length front → IsWrongText front root f → IsWrongText text root f
wrong_long text front root f long over (no_tokens h) = no_tokens (refused_long text front f.code f.at long over h)
wrong_long text front root f long over (no_tree t h) = absurd (omega (arith, over, t.tokenized.0.0))
wrong_long text front root f long over (has_fault t h) = absurd (omega (arith, over, short t))

unread_long : (text front : List ℕ) (root : Option (List ℕ)) (why : Refusal) → 1048576 < length text → 1048576 < length front → IsUnreadText front root why → IsUnreadText text root why
unread_long text front root (RefusalV.At code at) long over h = wrong_long text front root (record { code = code; at = at }) long over h
unread_long text front root RefusalV.Memory long over h = tt

tabled_long : (text front : List ℕ) (root : Option (List ℕ)) (table : Table) → 1048576 < length front → IsTabledText front root table → IsTabledText text root table
tabled_long text front root table over h = absurd (omega (arith, over, short h.is_tree))

-- the first bytes of a long text are too many
over_long : (text : List ℕ) → 1048576 < length text → 1048576 < length (take most_read text)
over_long text long = let len : length (take most_read text) ≡ most_read = length-take-le most_read text (omega (arith, long)) in omega (arith, len)

pub tabled_front : (text : List ℕ) (root : Option (List ℕ)) (table : Table) → IsTabledText (take most_read text) root table → IsTabledText text root table
tabled_front text root table h = elim (cases_lt 1048576 (length text)) [
  | inl long ↦ tabled_long text (take most_read text) root table (over_long text long) h
  | inr few ↦ subst (λ t. IsTabledText t root table) (take_all most_read text (omega (arith, few))) h
]

pub unread_front : (text : List ℕ) (root : Option (List ℕ)) (why : Refusal) → IsUnreadText (take most_read text) root why → IsUnreadText text root why
unread_front text root why h = elim (cases_lt 1048576 (length text)) [
  | inl long ↦ unread_long text (take most_read text) root why long (over_long text long) h
  | inr few ↦ subst (λ t. IsUnreadText t root why) (take_all most_read text (omega (arith, few))) h
]
