-- The entries of a file on a medium that are asked for, and why there are none.
use Rattle.std.specs.Prelude.{◌≡◌, ◌⊎◌, ℕ, zero, suc, ◌≤◌, true, false, List, [], ◌∷◌, length, Some, slice_get, Result, IfErr}
use Rattle.r10_count.specs.Count.{IsCount}
use Rattle.r10_medium.specs.Disk.{Disk, Image, Rose}
use Rattle.r10_dirblock.specs.Block.{is_closed}
use Rattle.r10_dirchain.specs.Bad.{IsBad}
use Rattle.r10_dirchain.specs.Chain.{IsDirectory}
use Rattle.r10_dirchain.specs.Mount.{listed}
use Rattle.r10_dirchain.specs.declared.chain.ChainBlock.{ChainBlock}
use Rattle.r10_dirchain.specs.declared.chain.ListedFile.{ListedFile}
use Rattle.r10_body.specs.Faults.{IsAtFault}
use Rattle.r10_body.specs.Packets.{Packet, file_bytes, file_entries}
use Rattle.r10_body.specs.Rules.{IsFile, is_closed_file}
use Rattle.r10_body.specs.declared.entry.Entry.{Entry}
use Rattle.r10_body.specs.declared.fault.FileFault.{FileFault}
use Rattle.r10_machine.specs.Replay.{wanted, Ordered}
use Rattle.r10_checker.specs.Place.{bytes_on, is_inside}
use Rattle.r10_playback.specs.declared.selection.Selection.{Selection}
use Rattle.r10_playback.specs.declared.selection.PlayFault.{PlayFault}
use Rattle.r10_playback.specs.declared.selection.PlayFault.TheVariants as play_faults
use Rattle.r10_playback.specs.declared.selection.PlayRefusal.{PlayRefusal}
use Rattle.r10_playback.specs.declared.selection.PlayRefusal.TheVariants as play_refusals

-- both counts have 48 bits
abbrev pub HasCounts : Selection → Type 0
HasCounts s = IsCount s.from × IsCount s.to

-- the channels that a replay is given: this one, or none, which is all, where it is 0
abbrev pub channels_asked : ℕ → List ℕ
channels_asked zero = []
channels_asked (suc n) = suc n ∷ []

-- the medium's directory has this file at this number
abbrev pub IsListed : Image → ℕ → ListedFile → Type 0
IsListed image number f = (chain : List ChainBlock) × IsDirectory image chain × (slice_get (listed chain) number ≡ Some f)

-- and the file lies inside the medium
abbrev pub IsListedInside : Image → ℕ → ListedFile → Type 0
IsListedInside image number f = IsListed image number f × (is_inside (length image) f.entry ≡ true)

-- the bytes of the file are these packets, which keep all rules, with an index exactly where the directory says that it is closed
pub record HasStrictPackets (image : Image) (f : ListedFile) (packets : List Packet) : Type 0 where
  pub bytes_are : bytes_on image f.entry ≡ file_bytes packets
  pub strict : IsFile packets
  pub closed : is_closed_file packets ≡ is_closed f.entry

-- these are the entries that are asked for, in the order of a replay
pub record IsInstalment (image : Image) (s : Selection) (entries : List Entry) : Type 0 where
  pub counts : HasCounts s
  pub file : ListedFile
  pub found : IsListedInside image s.file file
  pub packets : List Packet
  pub has : HasStrictPackets image file packets
  pub in_order : Ordered (wanted (channels_asked s.channel) s.from s.to (file_entries packets)) entries

-- ---- refusals, in order

-- the chain can't be taken first at this block, or it lists the file, which doesn't lie inside the medium
abbrev pub IsBadBlock : Image → ℕ → ℕ → Type 0
IsBadBlock image number n = IsBad image n ⊎ ((f : ListedFile) × IsListed image number f × (is_inside (length image) f.entry ≡ false)
    × (n ≡ f.number))

-- the directory has no file of this number
abbrev pub HasNoFile : Image → ℕ → Type 0
HasNoFile image number = (chain : List ChainBlock) × IsDirectory image chain × (length (listed chain) ≤ number)

-- the file is at fault where it should be strict, and closed as its directory entry says
abbrev pub IsAtFaultOn : Image → ListedFile → Type 0
IsAtFaultOn image f = (offset : ℕ) × (fault : FileFault) × IsAtFault (bytes_on image f.entry) (is_closed f.entry) offset fault

abbrev pub IsPlayRefusal : Image → Selection → PlayRefusal → Type 0
IsPlayRefusal image s play_refusals.CountRange = HasCounts s → ⊥
IsPlayRefusal image s (play_refusals.BadDirectory n) = HasCounts s × IsBadBlock image s.file n
IsPlayRefusal image s play_refusals.NoSuchFile = HasCounts s × HasNoFile image s.file
IsPlayRefusal image s play_refusals.NotStrict = HasCounts s
    × ((f : ListedFile) × IsListedInside image s.file f × IsAtFaultOn image f)

abbrev pub IsPlayFault : Image → Selection → PlayFault → Type 0
IsPlayFault image s (play_faults.Refused refusal) = IsPlayRefusal image s refusal
IsPlayFault image s play_faults.Medium = Unit {0}
IsPlayFault image s play_faults.OutOfMemory = Unit {0}

-- of a file's number alone
abbrev pub IsPlayFileRefusal : Image → ℕ → PlayRefusal → Type 0
IsPlayFileRefusal image number play_refusals.CountRange = ⊥
IsPlayFileRefusal image number (play_refusals.BadDirectory n) = IsBadBlock image number n
IsPlayFileRefusal image number play_refusals.NoSuchFile = HasNoFile image number
IsPlayFileRefusal image number play_refusals.NotStrict = ⊥

abbrev pub IsFileFault : Image → ℕ → PlayFault → Type 0
IsFileFault image number (play_faults.Refused refusal) = IsPlayFileRefusal image number refusal
IsFileFault image number play_faults.Medium = Unit {0}
IsFileFault image number play_faults.OutOfMemory = Unit {0}

-- of a file's bytes alone
abbrev pub IsJudgeFault : Image → ListedFile → PlayFault → Type 0
IsJudgeFault image f (play_faults.Refused refusal) = (refusal ≡ play_refusals.NotStrict) × IsAtFaultOn image f
IsJudgeFault image f play_faults.Medium = Unit {0}
IsJudgeFault image f play_faults.OutOfMemory = Unit {0}

-- the medium is blamed where it failed, and nowhere else
pub record PlayHasCause {T : Type 0} (old new : Disk) (result : Result T PlayFault) : Type 0 where
  pub no_fewer : old.failures ≤ new.failures
  pub cause : IfErr result (λ fault. fault ≡ play_faults.Medium → Rose old.failures new.failures)
