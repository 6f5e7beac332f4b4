-- What is spelled is read, and what is read is spelled so.
use Rattle.std.proofs.Common.{◌≡◌, ℕ, true, List, [], ◌++◌, length, drop, sym, subst, ap, ◌∙◌, Result, Ok, Err, Some, None, IfOk, IfErr, arith, append-nil}
use Rattle.std.proofs.lemmas.List.{drop_all}
use Rattle.r10_packet.specs.Header.{FitsHeader, header_bytes}
use Rattle.r10_packet.specs.Framing.{header_at, has_lengths, header_fault}
use Rattle.r10_packet.specs.declared.header.Header.{Header}
use Rattle.r10_packet.specs.declared.fault.PacketFault.{PacketFault}
use Rattle.r10_packet.proofs.Fields.{AreBytes, header_back, fields_fit, header_again, sync_again, total_again}
use Rattle.r10_packet.proofs.NoRuleBroken.{sound_of, no_header_fault}

-- what reading a header found
abbrev pub IsReadAs : List ℕ → Header → Type 0
IsReadAs bytes h = (h ≡ header_at bytes) × (header_fault bytes ≡ None)

pub found_of : (bytes : List ℕ) → length bytes ≡ 24 → AreBytes bytes → (h : Header) → IsReadAs bytes h → FitsHeader h × (has_lengths h ≡ true) × (bytes ≡ header_bytes h)
found_of bytes len fits h is =
    let sound = sound_of bytes is.1 in
    let back = header_back bytes (omega arith) fits sound.sync sound.total in
    let nothing : drop 24 bytes ≡ [] = drop_all 24 bytes (omega arith) in (
      subst FitsHeader (sym is.0) (fields_fit bytes fits),
      ap has_lengths is.0 ∙ sound.lengths,
      back ∙ ap (λ t. header_bytes (header_at bytes) ++ t) nothing ∙ append-nil (header_bytes (header_at bytes)) ∙ ap header_bytes (sym is.0),
    )

pub sound_again : (h : Header) (rest : List ℕ) → FitsHeader h → has_lengths h ≡ true → header_fault (header_bytes h ++ rest) ≡ None
sound_again h rest fits lengths =
    no_header_fault (header_bytes h ++ rest) (record { sync = sync_again h rest; total = total_again h rest; lengths = ap has_lengths (header_again h rest fits) ∙ lengths })

pub only_of : (bytes : List ℕ) (r : Result Header PacketFault) → IfOk r (IsReadAs bytes) → IfErr r (λ f. header_fault bytes ≡ Some f)
    → (h : Header) → FitsHeader h → has_lengths h ≡ true → bytes ≡ header_bytes h → r ≡ Ok h
only_of bytes (Ok x) ok err h fits lengths e =
    let alone : bytes ≡ header_bytes h ++ [] = e ∙ sym (append-nil (header_bytes h)) in
    ap (λ y. Ok y) (ok.0 ∙ ap header_at alone ∙ header_again h [] fits)
only_of bytes (Err f) ok err h fits lengths e =
    let alone : bytes ≡ header_bytes h ++ [] = e ∙ sym (append-nil (header_bytes h)) in
    let none : header_fault bytes ≡ None = ap header_fault alone ∙ sound_again h [] fits lengths in
    absurd (cc (none, err))
