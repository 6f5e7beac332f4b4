-- A packet has one fault at most, and what stands after doesn't change it.
use Rattle.std.proofs.Common.{◌≡◌, ℕ, ◌≤◌, Bool, true, false, List, [], ◌∷◌, ◌++◌, length, refl, sym, ap, ◌∙◌, subst, Some, None, arith}
use Rattle.std.proofs.lemmas.Bool.{leb-true}
use Rattle.std.proofs.lemmas.List.{length-append}
use Rattle.r10_count.specs.Checks.{first_broken}
use Rattle.r10_packet.specs.Framing.{header_at, body_at, has_data_checksum, header_rules, header_fault, framing_fault}
use Rattle.r10_packet.specs.declared.header.Header.{Header}
use Rattle.r10_packet.specs.declared.fault.PacketFault.{PacketFault}
use Rattle.r10_packet.specs.declared.fault.PacketFault.TheVariants as packet_faults
use Rattle.r10_packet.proofs.NoRuleBroken.{fault_in_header}
use Rattle.r10_body.specs.Foreign.{opaque_at, IsForeignBody, IsForeignPacket}
use Rattle.r10_body.specs.Faults.{HasFault}
use Rattle.r10_body.specs.declared.fault.FileFault.{FileFault}
use Rattle.r10_body.specs.declared.fault.FileFault.TheVariants.{Truncated, Sync, HeaderSum, Length, DataSum, Body, Rule}
use Rattle.r10_packet_rules.specs.Tracks.{named}
use Rattle.r10_packet_rules.proofs.Fronts.{stays, rules_front}

-- ---- one fault

pub framing_is : (bytes : List ℕ) (p : PacketFault) → framing_fault bytes ≡ Some p → HasFault bytes (named p)
framing_is bytes packet_faults.Truncated e = e
framing_is bytes packet_faults.Sync e = e
framing_is bytes packet_faults.HeaderSum e = e
framing_is bytes packet_faults.Length e = e

by_framing : (bytes : List ℕ) (p : PacketFault) (f : FileFault) → framing_fault bytes ≡ Some p → HasFault bytes f → named p ≡ f
by_framing bytes p Truncated e h = let is : p ≡ packet_faults.Truncated = cc in ap named is
by_framing bytes p Sync e h = let is : p ≡ packet_faults.Sync = cc in ap named is
by_framing bytes p HeaderSum e h = let is : p ≡ packet_faults.HeaderSum = cc in ap named is
by_framing bytes p Length e h = let is : p ≡ packet_faults.Length = cc in ap named is
by_framing bytes p DataSum e h = let none : framing_fault bytes ≡ None = h.0 in absurd cc
by_framing bytes p Body e h = let none : framing_fault bytes ≡ None = h.0 in absurd cc
by_framing bytes p (Rule n) e h = absurd h

by_sum : (bytes : List ℕ) (f : FileFault) → HasFault bytes DataSum → HasFault bytes f → DataSum ≡ f
by_sum bytes Truncated e h = let none : framing_fault bytes ≡ None = e.0 in absurd cc
by_sum bytes Sync e h = let none : framing_fault bytes ≡ None = e.0 in absurd cc
by_sum bytes HeaderSum e h = let none : framing_fault bytes ≡ None = e.0 in absurd cc
by_sum bytes Length e h = let none : framing_fault bytes ≡ None = e.0 in absurd cc
by_sum bytes DataSum e h = refl
by_sum bytes Body e h =
    let wrong : has_data_checksum bytes ≡ false = e.2 in
    let right : has_data_checksum bytes ≡ true = h.2 in
    absurd cc
by_sum bytes (Rule n) e h = absurd h

by_body : (bytes : List ℕ) (f : FileFault) → HasFault bytes Body → HasFault bytes f → Body ≡ f
by_body bytes Truncated e h = let none : framing_fault bytes ≡ None = e.0 in absurd cc
by_body bytes Sync e h = let none : framing_fault bytes ≡ None = e.0 in absurd cc
by_body bytes HeaderSum e h = let none : framing_fault bytes ≡ None = e.0 in absurd cc
by_body bytes Length e h = let none : framing_fault bytes ≡ None = e.0 in absurd cc
by_body bytes DataSum e h = sym (by_sum bytes Body h e)
by_body bytes Body e h = refl
by_body bytes (Rule n) e h = absurd h

pub one_fault : (bytes : List ℕ) (f g : FileFault) → HasFault bytes f → HasFault bytes g → f ≡ g
one_fault bytes Truncated g e h = by_framing bytes packet_faults.Truncated g e h
one_fault bytes Sync g e h = by_framing bytes packet_faults.Sync g e h
one_fault bytes HeaderSum g e h = by_framing bytes packet_faults.HeaderSum g e h
one_fault bytes Length g e h = by_framing bytes packet_faults.Length g e h
one_fault bytes DataSum g e h = by_sum bytes g e h
one_fault bytes Body g e h = by_body bytes g e h
one_fault bytes (Rule n) g e h = absurd e

-- ---- none where a packet stands

judged : (packet rest : List ℕ) → IsForeignPacket packet → opaque_at (packet ++ rest) ≡ false
    → (has_data_checksum (packet ++ rest) ≡ true) × IsForeignBody (header_at (packet ++ rest)).data_type (body_at (packet ++ rest))
judged packet rest is e =
    let still = stays packet rest is.framed in
    let clear : opaque_at packet ≡ false = sym still.opaque ∙ e in
    let of_body : IsForeignBody (header_at packet).data_type (body_at (packet ++ rest)) = subst (λ t. IsForeignBody (header_at packet).data_type t) (sym still.body_is) (is.body clear) in
    (still.sum ∙ is.checked clear, subst (λ (h : Header). IsForeignBody h.data_type (body_at (packet ++ rest))) (sym still.header) of_body)

pub apart : (packet rest : List ℕ) (f : FileFault) → IsForeignPacket packet → HasFault (packet ++ rest) f → ⊥
apart packet rest Truncated is h = let none = (stays packet rest is.framed).framed in absurd cc
apart packet rest Sync is h = let none = (stays packet rest is.framed).framed in absurd cc
apart packet rest HeaderSum is h = let none = (stays packet rest is.framed).framed in absurd cc
apart packet rest Length is h = let none = (stays packet rest is.framed).framed in absurd cc
apart packet rest DataSum is h =
    let right : has_data_checksum (packet ++ rest) ≡ true = (judged packet rest is h.1).0 in
    let wrong : has_data_checksum (packet ++ rest) ≡ false = h.2 in
    absurd cc
apart packet rest Body is h = h.3 (judged packet rest is h.1).1
apart packet rest (Rule n) is h = h

-- ---- with more after

first_holds : (answer : Bool) (fault : PacketFault) (rest : List (Bool × PacketFault)) (f : PacketFault) → (f ≡ fault → ⊥) → first_broken ((answer, fault) ∷ rest) ≡ Some f
    → (answer ≡ true) × (first_broken rest ≡ Some f)
first_holds true fault rest f other e = (refl, e)
first_holds false fault rest f other e = absurd (other (cc))

not_last : (rules : List (Bool × PacketFault)) (answer : Bool) (fault f : PacketFault) → (f ≡ fault → ⊥) → first_broken (rules ++ (answer, fault) ∷ []) ≡ Some f → first_broken rules ≡ Some f
not_last [] true fault f other e = absurd (cc)
not_last [] false fault f other e = absurd (other (cc))
not_last ((true, g) ∷ rules) answer fault f other e = not_last rules answer fault f other e
not_last ((false, g) ∷ rules) answer fault f other e = e

framing_stays : (bytes rest : List ℕ) (f : PacketFault) → (f ≡ packet_faults.Truncated → ⊥) → framing_fault bytes ≡ Some f → framing_fault (bytes ++ rest) ≡ Some f
framing_stays bytes rest f other e =
    let first = first_holds _ packet_faults.Truncated _ f other e in
    let long : 24 ≤ length bytes = leb-true 24 (length bytes) first.0 in
    let in_header : header_fault bytes ≡ Some f = not_last (header_rules bytes) _ packet_faults.Truncated f other first.1 in
    let still : header_fault (bytes ++ rest) ≡ Some f = ap first_broken (rules_front bytes rest long) ∙ in_header in
    fault_in_header (bytes ++ rest) f (omega (arith, long, length-append bytes rest)) still

pub fault_stays : (bytes rest : List ℕ) (f : FileFault) → HasFault bytes f → (f ≡ Truncated → ⊥) → HasFault (bytes ++ rest) f
fault_stays bytes rest Truncated h other = absurd (other refl)
fault_stays bytes rest Sync h other = framing_stays bytes rest packet_faults.Sync (λ e. absurd cc) h
fault_stays bytes rest HeaderSum h other = framing_stays bytes rest packet_faults.HeaderSum (λ e. absurd cc) h
fault_stays bytes rest Length h other = framing_stays bytes rest packet_faults.Length (λ e. absurd cc) h
fault_stays bytes rest DataSum h other =
    let still = stays bytes rest h.0 in
    (still.framed, still.opaque ∙ h.1, still.sum ∙ h.2)
fault_stays bytes rest Body h other =
    let still = stays bytes rest h.0 in (
      still.framed,
      still.opaque ∙ h.1,
      still.sum ∙ h.2,
      λ is.
          let same : IsForeignBody (header_at bytes).data_type (body_at (bytes ++ rest)) = subst (λ (t : Header). IsForeignBody t.data_type (body_at (bytes ++ rest))) still.header is in
          h.3 (subst (λ t. IsForeignBody (header_at bytes).data_type t) still.body_is same),
    )
fault_stays bytes rest (Rule n) h other = absurd h
