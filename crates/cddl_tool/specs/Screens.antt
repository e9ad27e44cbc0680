-- What a clause reads of a progress line, and what one does.
use Rattle.std.specs.Prelude.{◌≡◌, ℕ, ◌+◌, ◌≤◌, Bool, true, List, Option, Some, None}
use Rattle.std.specs.Time.{instant_nanos}
use Rattle.std.specs.declared.time.Instant.{Instant}
use Rattle.item_nodes.specs.declared.counted.Counted.{Counted}
use Rattle.command_line.specs.Lines.{IsPut}
use Rattle.cddl_tool.specs.declared.progress.ProgressLine.{ProgressLine}
use Rattle.cddl_tool.specs.Progress.{pause, progress_line}

-- where it is shown
abbrev pub screen_of : {C S : Type 0} → ProgressLine C S → Counted S
screen_of line = line.screen

-- the size of the stream's file, where it is known
abbrev pub file_size : {C S : Type 0} → ProgressLine C S → Option ℕ
file_size line = line.size

-- whether a line is on the screen
abbrev pub is_on_screen : {C S : Type 0} → ProgressLine C S → Bool
is_on_screen line = line.is_shown

-- It never shows anything.
abbrev pub IsSilent : {C S : Type 0} → ProgressLine C S → Type 0
IsSilent line = line.last ≡ None

-- From the one time to the other a pause or more went by.
abbrev pub IsApart : Option Instant → Option Instant → Type 0
IsApart (Some last) (Some now) = instant_nanos last + pause ≤ instant_nanos now
IsApart _ _ = ⊥

-- A line with this progress was put on the screen, a pause or more after the one before, or after the line began.
pub record Shows {C S : Type 0} (contents : S → Option (List ℕ)) (old new : ProgressLine C S) (items bytes : ℕ) : Type 0 where
  pub due : IsApart old.last new.last
  pub line : IsPut contents old.screen new.screen (progress_line items bytes old.size)
  pub there : new.is_shown ≡ true
