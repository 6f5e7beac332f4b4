-- Channels and their builders, written out.
use Rattle.std.specs.Prelude.{◌≡◌, ℕ, true, false, List, [], ◌∷◌, find, map, None, Some, refl}
use Rattle.r10_body.specs.Vectors.{channel_of}
use Rattle.r10_body.specs.Messages.{uart_message}
use Rattle.r10_body.specs.declared.entry.Sample.{Sample}
use Rattle.r10_body.specs.declared.gap.Gap.TheVariants.{Whole}
use Rattle.r10_body.specs.declared.message.Kind.TheVariants as kinds
use Rattle.r10_body.specs.declared.spec.ChannelSpec.{ChannelSpec}
use Rattle.r10_builder.specs.State.{BuilderState}
use Rattle.r10_builder.specs.Grows.{is_open_builder}
use Rattle.r10_builder.specs.LeftOpen.{closing, with_taken}
use Rattle.r10_builder.specs.Packing.{entry_on}
use Rattle.r10_builder.specs.Settings.{is_of, is_old}

abbrev line : ℕ → ChannelSpec
line id = record (channel_of kinds.Uart 0) { id = id }

abbrev text_at : ℕ → Sample
text_at count = record { count = count; message = uart_message false 0 (0x41 ∷ []); gap = Whole }

abbrev holding : ℕ → List Sample → BuilderState
holding id samples = record { spec = line id; samples = samples; room = 0; next_room = 0 }

abbrev three : List BuilderState
three = holding 5 [] ∷ holding 6 (text_at 1000 ∷ text_at 2000 ∷ []) ∷ holding 9 (text_at 500 ∷ []) ∷ []

-- the first that is open, by rising ID, and the channel that was asked for
pub first-open : find is_open_builder three ≡ Some (holding 6 (text_at 1000 ∷ text_at 2000 ∷ []))
first-open = refl

pub by-channel : find (is_of 9) three ≡ Some (holding 9 (text_at 500 ∷ []))
by-channel = refl

pub no-channel : find (is_of 7) three ≡ None
no-channel = refl

-- a tenth of a second after the first sample, and a count later; nothing ages where nothing is open
pub not-yet-old : is_old 1001000 (holding 6 (text_at 1000 ∷ text_at 2000 ∷ [])) ≡ false
not-yet-old = refl

pub now-old : is_old 1001001 (holding 6 (text_at 1000 ∷ text_at 2000 ∷ [])) ≡ true
now-old = refl

pub nothing-is-old : is_old 1001001 (holding 5 []) ≡ false
nothing-is-old = refl

-- at one moment the later channel's packet has aged alone
pub first-old : find (is_old 1000501) three ≡ Some (holding 9 (text_at 500 ∷ []))
first-old = refl

-- it is closed then, and nothing else; a count earlier nothing is
pub closes-old : map (closing (is_old 1000501)) three ≡ [] ∷ (text_at 1000 ∷ text_at 2000 ∷ []) ∷ [] ∷ []
closes-old = refl

pub closes-none : map (closing (is_old 1000500)) three ≡ [] ∷ (text_at 1000 ∷ text_at 2000 ∷ []) ∷ (text_at 500 ∷ []) ∷ []
closes-none = refl

-- a sample joins its channel's packet; a late one closes it and begins the next; the others stay
pub joins-its-packet : map (with_taken (entry_on 9 (text_at 3000) ∷ [])) three
    ≡ [] ∷ (text_at 1000 ∷ text_at 2000 ∷ []) ∷ (text_at 500 ∷ text_at 3000 ∷ []) ∷ []
joins-its-packet = refl

pub begins-the-next : map (with_taken (entry_on 6 (text_at 1001001) ∷ entry_on 9 (text_at 3000) ∷ entry_on 6 (text_at 1001002)
    ∷ [])) three
    ≡ [] ∷ (text_at 1001001 ∷ text_at 1001002 ∷ []) ∷ (text_at 500 ∷ text_at 3000 ∷ []) ∷ []
begins-the-next = refl
