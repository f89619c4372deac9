-- What putting the last line of a run answers, or a summary. Own definitions.
use Rattle.std.specs.Prelude.{◌⊎◌, ℕ, Option, List}
use Rattle.wire_run.specs.declared.fresh.Unmade.{Unmade}
use Rattle.wire_run.specs.declared.fresh.Unmade.TheVariants as unmade
use Rattle.wire_run.specs.declared.run.Ran.{Ran}
use Rattle.wire_run.specs.declared.run.Ran.TheVariants as ran
use Rattle.volume_format.specs.Puts.{AllPut, FrontPut, NonePut}
use Rattle.command_line.specs.declared.ends.RunEnd.{RunEnd}
use Rattle.command_line.specs.declared.ends.RunEnd.TheVariants as ends
use Rattle.volume_format.specs.Lines.{not_volume_text, small_text}
use Rattle.nfscopy.specs.Notice.{bad_line_text, mistaken_text}

-- all of it was put, or a front of it, where the sink failed
abbrev pub LastPut : Option (List ℕ) → Option (List ℕ) → (before now : ℕ) → List ℕ → RunEnd → RunEnd → Type 0
LastPut old new before now line end result = AllPut old new line end result ⊎ FrontPut ends.WriteFault old new before now line result

-- the line, unless memory ran out
abbrev pub LinePut : Option (List ℕ) → Option (List ℕ) → (before now : ℕ) → List ℕ → RunEnd → RunEnd → Type 0
LinePut old new before now line end result = LastPut old new before now line end result ⊎ NonePut old new ends.NoMemory result

-- why a volume wasn't made, or a server that stopped wasn't opened anew
abbrev pub UnmadePut : Option (List ℕ) → Option (List ℕ) → (before now : ℕ) → Unmade → RunEnd → Type 0
UnmadePut old new before now unmade.DiskFailed result = NonePut old new ends.DiskFault result
UnmadePut old new before now (unmade.TooSmall need have) result = LinePut old new before now (small_text need have) ends.NoVolume result
UnmadePut old new before now (unmade.NotVolume block at) result = LinePut old new before now (not_volume_text block at) ends.NoVolume result

-- the last line of a run that didn't put it yet
abbrev pub EndPut : Option (List ℕ) → Option (List ℕ) → (before now : ℕ) → Ran → RunEnd → Type 0
EndPut old new before now ran.Whole result = NonePut old new ends.Done result
EndPut old new before now (ran.OverLimit line) result = LinePut old new before now (bad_line_text line) ends.OverLimit result
EndPut old new before now ran.WriteFault result = NonePut old new ends.WriteFault result
EndPut old new before now (ran.Unmade cause) result = UnmadePut old new before now cause result
EndPut old new before now (ran.Lost cause) result = UnmadePut old new before now cause result
EndPut old new before now (ran.Mistaken mistake) result = LinePut old new before now (mistaken_text mistake) ends.Mistaken result
