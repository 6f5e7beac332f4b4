-- What stands in a packet by itself, and what is read of it once.
use Rattle.std.proofs.Common.{◌≡◌, ℕ, List, take, sym, ap, ◌∙◌, subst, None}
use Rattle.r10_packet.specs.Framing.{framing_fault, header_at, body_at, has_data_checksum}
use Rattle.r10_packet.specs.declared.header.Header.{Header}
use Rattle.r10_body.specs.Content.{type_of}
use Rattle.r10_body.specs.Faults.{ReadsPacket, first_packet}
use Rattle.r10_body.specs.Foreign.{IsForeignBody}
use Rattle.r10_body.specs.Packets.{Packet, packet_body}
use Rattle.r10_packet_rules.proofs.Fronts.{first_framed, first_joined, first_stays}
use Rattle.r10_packet_rules.proofs.Spelled.{framed}
use Rattle.r10_packet_rules.proofs.Written.{body_foreign}

-- the packet that stands first, by itself, with the header and the body that it has in all bytes
pub record IsAlone (bytes packet : List ℕ) (h : Header) (body : List ℕ) : Type 0 where
  pub sound : framing_fault packet ≡ None
  pub header : h ≡ header_at packet
  pub body_is : body ≡ body_at packet
  pub sum : has_data_checksum packet ≡ has_data_checksum bytes

pub alone : (bytes body : List ℕ) (h : Header) (n : ℕ) → framing_fault bytes ≡ None → h ≡ header_at bytes → body ≡ body_at bytes → n ≡ (header_at bytes).packet_len
    → IsAlone bytes (take n bytes) h body
alone bytes body h n sound header body_is size = subst (λ (t : List ℕ). IsAlone bytes t h body) is first
  where
    is : first_packet bytes ≡ take n bytes
    is = ap (λ m. take m bytes) (sym size)

    first : IsAlone bytes (first_packet bytes) h body
    first = (
        let still = first_stays bytes sound in
        let joined = first_joined bytes in
        record {
          sound = first_framed bytes sound;
          header = header ∙ sym (ap header_at joined) ∙ still.header;
          body_is = body_is ∙ sym (ap body_at joined) ∙ still.body_is;
          sum = sym still.sum ∙ ap has_data_checksum joined;
        }
        )

-- what this recorder writes, any may have written
pub own_foreign : (bytes body : List ℕ) (h : Header) (p : Packet) → h ≡ header_at bytes → body ≡ body_at bytes → ReadsPacket bytes p → IsForeignBody h.data_type body
own_foreign bytes body h p header body_is reads =
    let is = framed bytes p reads in
    let type : type_of p.content ≡ h.data_type = sym (ap (λ (g : Header). g.data_type) (header ∙ is.header)) in
    subst (λ t. IsForeignBody h.data_type t) (sym (body_is ∙ is.body_is)) (subst (λ t. IsForeignBody t (packet_body p)) type (body_foreign p reads.0))
