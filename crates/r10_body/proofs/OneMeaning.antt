-- Bytes say one thing.
use Rattle.std.proofs.Common.{◌≡◌, ℕ, Bool, List, [], ◌∷◌, map, take, sym, ap, ◌∙◌}
use Rattle.r10_body.specs.Content.{setup}
use Rattle.r10_body.specs.Files.{FileSays, on_channel}
use Rattle.r10_body.specs.Packets.{Packet, file_bytes, file_entries}
use Rattle.r10_body.specs.Rules.{EachFollows, is_closed_file}
use Rattle.r10_body.specs.declared.entry.Entry.{Entry}
use Rattle.r10_body.proofs.Injective.{one_file}

pub one_list : (ps qs : List Packet) → EachFollows [] ps → EachFollows [] qs → file_bytes ps ≡ file_bytes qs → ps ≡ qs
one_list ps qs f g same = one_file [] ps qs f g same

one_setup : (text other : List ℕ) → setup text ∷ [] ≡ setup other ∷ [] → text ≡ other
one_setup text other same = cc

pub one_meaning : (bytes text other : List ℕ) (entries others : List Entry) (closed shut : Bool) → FileSays bytes text entries closed → FileSays bytes other others shut
    → (text ≡ other) × ((channel : ℕ) → on_channel channel entries ≡ on_channel channel others) × (closed ≡ shut)
one_meaning bytes text other entries others closed shut says too =
    let same : says.0 ≡ too.0 = one_list says.0 too.0 says.2.file.each too.2.file.each (sym says.1 ∙ too.1) in (
      one_setup text other (sym says.2.setup_is ∙ ap (λ (ps : List Packet). map (λ p. p.content) (take 1 ps)) same ∙ too.2.setup_is),
      λ channel. sym (says.2.entries_are channel) ∙ ap (λ (ps : List Packet). on_channel channel (file_entries ps)) same ∙ too.2.entries_are channel,
      sym says.2.closed_is ∙ ap is_closed_file same ∙ too.2.closed_is,
    )
