-- What the program makes of an error of clap's.
use Rattle.std.specs.Prelude.{◌≡◌, ◌⊎◌}
use Rattle.clap.specs.Words.{kind_of}
use Rattle.clap.specs.declared.error.Error.{Error}
use Rattle.clap.specs.declared.error.kind.ErrorKind.{ErrorKind}
use Rattle.clap.specs.declared.error.kind.ErrorKind.TheVariants as kind
use Rattle.command_line.specs.declared.choice.Use.{Use}
use Rattle.command_line.specs.declared.choice.Use.TheVariants.{Words, Memory}

-- want of memory stays what it is, and any other error is one of the words
abbrev pub IsUseOf : Error → Use → Type 0
IsUseOf e u = ((kind_of e ≡ kind.OutOfMemory) × (u ≡ Memory)) ⊎ ((kind_of e ≡ kind.OutOfMemory → ⊥) × (u ≡ Words e))

-- the words ask for help or for the version
abbrev pub IsAskedFor : ErrorKind → Type 0
IsAskedFor k = (k ≡ kind.DisplayHelp) ⊎ (k ≡ kind.DisplayVersion)
