-- Why a command can't go on with its input or its output.
use Rattle.std.specs.Prelude.{◌≡◌, ◌≢◌, ℕ, ◌^◌}
use Rattle.std.specs.IoError.{error_kind}
use Rattle.std.specs.declared.io.ErrorKind.TheVariants.{Interrupted, Other}
use Rattle.r10_medium.specs.Disk.{Rose}
use Rattle.r10_images.specs.declared.fault.StreamFault.{StreamFault}
use Rattle.r10_images.specs.declared.fault.StreamFault.TheVariants as stream_faults

-- of an input that was not read to its end: memory was refused; the reader failed, and was not only interrupted; or it was
-- called as often as a command may
abbrev pub IsInputFault : StreamFault → Type 0
IsInputFault (stream_faults.Memory error) = Unit {0}
IsInputFault (stream_faults.Read error) = error_kind error ≢ Interrupted
IsInputFault (stream_faults.Endless calls) = calls ≡ 2 ^ 34
IsInputFault (stream_faults.Write error) = ⊥

-- the writer failed
abbrev pub IsWriteFault : StreamFault → Type 0
IsWriteFault (stream_faults.Write error) = Unit {0}
IsWriteFault fault = ⊥

-- of an image that was not written to its end: the writer failed, or the medium did, which counts how often
abbrev pub IsImageFault : ℕ → ℕ → StreamFault → Type 0
IsImageFault before now (stream_faults.Write error) = Unit {0}
IsImageFault before now (stream_faults.Read error) = Rose before now
IsImageFault before now fault = ⊥

-- of a line that was not written: memory was refused, or the writer failed
abbrev pub IsLineFault : StreamFault → Type 0
IsLineFault (stream_faults.Memory error) = Unit {0}
IsLineFault (stream_faults.Write error) = Unit {0}
IsLineFault fault = ⊥

-- of a medium whose files were not listed: so, or the medium failed, which counts how often
abbrev pub IsMediumFault : ℕ → ℕ → StreamFault → Type 0
IsMediumFault before now (stream_faults.Memory error) = Unit {0}
IsMediumFault before now (stream_faults.Write error) = Unit {0}
IsMediumFault before now (stream_faults.Read error) = Rose before now
IsMediumFault before now (stream_faults.Endless calls) = ⊥

-- of an input whose files were not listed: it was not read to its end, or a line was not written
abbrev pub IsListFault : StreamFault → Type 0
IsListFault (stream_faults.Memory error) = Unit {0}
IsListFault (stream_faults.Read error) = error_kind error ≢ Interrupted
IsListFault (stream_faults.Endless calls) = calls ≡ 2 ^ 34
IsListFault (stream_faults.Write error) = Unit {0}

-- of a medium that failed: a reader's failure of no special kind
abbrev pub IsFailedRead : StreamFault → Type 0
IsFailedRead (stream_faults.Read error) = error_kind error ≡ Other
IsFailedRead fault = ⊥
