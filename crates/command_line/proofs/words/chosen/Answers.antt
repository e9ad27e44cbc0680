use Rattle.std.proofs.Common.{◌≡◌, codes, Some, refl}
use Rattle.clap.specs.Words.{subcommand_name_of}
use Rattle.command_line.specs.declared.choice.Task.TheVariants.{Check, Validate, Rewrite, Show, Explain}
use Rattle.command_line.proofs.Meeting.{met, no_fault, is_met, chosen_if_read, misused_if_unread, refused_result, none_met, misused}
use Rattle.command_line.proofs.words.chosen.Goals as goal

pub returns-in_err-matches-clause-misuse : goal.returns-in_err-matches-clause-misuse
returns-in_err-matches-clause-misuse c =
    refused_result _ _ _ c.from_residual-in_err-matches.result c.in_ok-command.ensures c.in_err-matches.ensures.kinds c.from_residual-in_err-matches.ensures.1

pub returns-in-Some-clause-chosen :
    goal.returns-in-Some-clause-chosen
returns-in-Some-clause-chosen c =
    let sub = met _ _ c.in_ok-matches.matches c.in_ok-command.ensures c.in_ok-matches.ensures.matches in
    let taken = no_fault _ _ c.in_ok-matches.matches c.in_ok-command.ensures c.in_ok-matches.ensures.kinds in
    chosen_if_read _ Check _ c.options_of.result taken
    (is_met _ c.in_ok-matches.matches c.in-Some.given.now (codes "check") sub (c.in-Some.ensures.found.0 refl) c.in-Some.ensures.rows)
    c.options_of.ensures.read

pub returns-in-Some-clause-misuse :
    goal.returns-in-Some-clause-misuse
returns-in-Some-clause-misuse c =
    let sub = met _ _ c.in_ok-matches.matches c.in_ok-command.ensures c.in_ok-matches.ensures.matches in
    misused_if_unread _ Check _ c.options_of.result
    (is_met _ c.in_ok-matches.matches c.in-Some.given.now (codes "check") sub (c.in-Some.ensures.found.0 refl) c.in-Some.ensures.rows)
    c.options_of.ensures.misuse

pub returns-in-Some-subcommand_matches-clause-chosen :
    goal.returns-in-Some-subcommand_matches-clause-chosen
returns-in-Some-subcommand_matches-clause-chosen c =
    let sub = met _ _ c.in_ok-matches.matches c.in_ok-command.ensures c.in_ok-matches.ensures.matches in
    let taken = no_fault _ _ c.in_ok-matches.matches c.in_ok-command.ensures c.in_ok-matches.ensures.kinds in
    chosen_if_read _ Validate _ c.options_of-in-Some-subcommand_matches.result taken
    (is_met _ c.in_ok-matches.matches c.in-Some-subcommand_matches.given.now (codes "validate") sub (c.in-Some-subcommand_matches.ensures.found.0 refl) c.in-Some-subcommand_matches.ensures.rows)
    c.options_of-in-Some-subcommand_matches.ensures.read

pub returns-in-Some-subcommand_matches-clause-misuse :
    goal.returns-in-Some-subcommand_matches-clause-misuse
returns-in-Some-subcommand_matches-clause-misuse c =
    let sub = met _ _ c.in_ok-matches.matches c.in_ok-command.ensures c.in_ok-matches.ensures.matches in
    misused_if_unread _ Validate _ c.options_of-in-Some-subcommand_matches.result
    (is_met _ c.in_ok-matches.matches c.in-Some-subcommand_matches.given.now (codes "validate") sub (c.in-Some-subcommand_matches.ensures.found.0 refl) c.in-Some-subcommand_matches.ensures.rows)
    c.options_of-in-Some-subcommand_matches.ensures.misuse

pub returns-in-Some-subcommand_matches-2-clause-chosen :
    goal.returns-in-Some-subcommand_matches-2-clause-chosen
returns-in-Some-subcommand_matches-2-clause-chosen c =
    let sub = met _ _ c.in_ok-matches.matches c.in_ok-command.ensures c.in_ok-matches.ensures.matches in
    let taken = no_fault _ _ c.in_ok-matches.matches c.in_ok-command.ensures c.in_ok-matches.ensures.kinds in
    chosen_if_read _ Rewrite _ c.options_of-in-Some-subcommand_matches-2.result taken
    (is_met _ c.in_ok-matches.matches c.in-Some-subcommand_matches-2.given.now (codes "rewrite") sub (c.in-Some-subcommand_matches-2.ensures.found.0 refl) c.in-Some-subcommand_matches-2.ensures.rows)
    c.options_of-in-Some-subcommand_matches-2.ensures.read

pub returns-in-Some-subcommand_matches-2-clause-misuse :
    goal.returns-in-Some-subcommand_matches-2-clause-misuse
returns-in-Some-subcommand_matches-2-clause-misuse c =
    let sub = met _ _ c.in_ok-matches.matches c.in_ok-command.ensures c.in_ok-matches.ensures.matches in
    misused_if_unread _ Rewrite _ c.options_of-in-Some-subcommand_matches-2.result
    (is_met _ c.in_ok-matches.matches c.in-Some-subcommand_matches-2.given.now (codes "rewrite") sub (c.in-Some-subcommand_matches-2.ensures.found.0 refl) c.in-Some-subcommand_matches-2.ensures.rows)
    c.options_of-in-Some-subcommand_matches-2.ensures.misuse

pub returns-in-Some-subcommand_matches-3-clause-chosen :
    goal.returns-in-Some-subcommand_matches-3-clause-chosen
returns-in-Some-subcommand_matches-3-clause-chosen c =
    let sub = met _ _ c.in_ok-matches.matches c.in_ok-command.ensures c.in_ok-matches.ensures.matches in
    let taken = no_fault _ _ c.in_ok-matches.matches c.in_ok-command.ensures c.in_ok-matches.ensures.kinds in
    chosen_if_read _ Show _ c.options_of-in-Some-subcommand_matches-3.result taken
    (is_met _ c.in_ok-matches.matches c.in-Some-subcommand_matches-3.given.now (codes "show") sub (c.in-Some-subcommand_matches-3.ensures.found.0 refl) c.in-Some-subcommand_matches-3.ensures.rows)
    c.options_of-in-Some-subcommand_matches-3.ensures.read

pub returns-in-Some-subcommand_matches-3-clause-misuse :
    goal.returns-in-Some-subcommand_matches-3-clause-misuse
returns-in-Some-subcommand_matches-3-clause-misuse c =
    let sub = met _ _ c.in_ok-matches.matches c.in_ok-command.ensures c.in_ok-matches.ensures.matches in
    misused_if_unread _ Show _ c.options_of-in-Some-subcommand_matches-3.result
    (is_met _ c.in_ok-matches.matches c.in-Some-subcommand_matches-3.given.now (codes "show") sub (c.in-Some-subcommand_matches-3.ensures.found.0 refl) c.in-Some-subcommand_matches-3.ensures.rows)
    c.options_of-in-Some-subcommand_matches-3.ensures.misuse

pub returns-in-Some-subcommand_matches-4-clause-chosen :
    goal.returns-in-Some-subcommand_matches-4-clause-chosen
returns-in-Some-subcommand_matches-4-clause-chosen c =
    let sub = met _ _ c.in_ok-matches.matches c.in_ok-command.ensures c.in_ok-matches.ensures.matches in
    let taken = no_fault _ _ c.in_ok-matches.matches c.in_ok-command.ensures c.in_ok-matches.ensures.kinds in
    chosen_if_read _ Explain _ c.options_of-in-Some-subcommand_matches-4.result taken
    (is_met _ c.in_ok-matches.matches c.in-Some-subcommand_matches-4.given.now (codes "explain") sub (c.in-Some-subcommand_matches-4.ensures.found.0 refl) c.in-Some-subcommand_matches-4.ensures.rows)
    c.options_of-in-Some-subcommand_matches-4.ensures.read

pub returns-in-Some-subcommand_matches-4-clause-misuse :
    goal.returns-in-Some-subcommand_matches-4-clause-misuse
returns-in-Some-subcommand_matches-4-clause-misuse c =
    let sub = met _ _ c.in_ok-matches.matches c.in_ok-command.ensures c.in_ok-matches.ensures.matches in
    misused_if_unread _ Explain _ c.options_of-in-Some-subcommand_matches-4.result
    (is_met _ c.in_ok-matches.matches c.in-Some-subcommand_matches-4.given.now (codes "explain") sub (c.in-Some-subcommand_matches-4.ensures.found.0 refl) c.in-Some-subcommand_matches-4.ensures.rows)
    c.options_of-in-Some-subcommand_matches-4.ensures.misuse

pub returns-clause-misuse : goal.returns-clause-misuse
returns-clause-misuse c =
    let sub = met _ _ c.in_ok-matches.matches c.in_ok-command.ensures c.in_ok-matches.ensures.matches in
    let not_check : subcommand_name_of c.in_ok-matches.matches ≡ Some (codes "check") → ⊥ = λ e. let there = c.in_default.ensures.found.1 e in cc in
    let not_validate : subcommand_name_of c.in_ok-matches.matches ≡ Some (codes "validate") → ⊥ = λ e. let there = c.in_default-subcommand_matches.ensures.found.1 e in cc in
    let not_rewrite : subcommand_name_of c.in_ok-matches.matches ≡ Some (codes "rewrite") → ⊥ = λ e. let there = c.in_default-subcommand_matches-2.ensures.found.1 e in cc in
    let not_show : subcommand_name_of c.in_ok-matches.matches ≡ Some (codes "show") → ⊥ = λ e. let there = c.in_default-subcommand_matches-3.ensures.found.1 e in cc in
    let not_explain : subcommand_name_of c.in_ok-matches.matches ≡ Some (codes "explain") → ⊥ = λ e. let there = c.in_default-subcommand_matches-4.ensures.found.1 e in cc in
    misused _ c.misuse.result (none_met _ c.in_ok-matches.matches sub not_check not_validate not_rewrite not_show not_explain)
