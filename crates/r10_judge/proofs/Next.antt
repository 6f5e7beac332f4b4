-- The packet after others.
use Rattle.std.proofs.Common.{◌≡◌, ℕ, ◌<◌, List, [], ◌∷◌, ◌++◌, length, sym, ap, ◌∙◌, subst, arith, append_assoc}
use Rattle.std.proofs.lemmas.List.{append-nil, append_cancel_left}
use Rattle.std.proofs.lemmas.List.Concat.{flat_map-append}
use Rattle.r10_body.specs.Packets.{Packet, packet_bytes, file_bytes}
use Rattle.r10_body.specs.Rules.{EachFollows, MayFollow}
use Rattle.r10_body.proofs.Injective.{one_beginning}

-- a packet stands after others, first in these bytes, and others after it
pub record IsNext (before all : List Packet) (rest : List ℕ) : Type 0 where
  pub packet : Packet
  pub more : List Packet
  pub may : MayFollow before packet
  pub each : EachFollows (before ++ packet ∷ []) more
  pub all_are : all ≡ before ++ packet ∷ more
  pub rest_is : rest ≡ packet_bytes packet ++ file_bytes more

behind : (before ps qs : List Packet) → EachFollows before (ps ++ qs) → EachFollows (before ++ ps) qs
behind before [] qs each = subst (λ (b : List Packet). EachFollows b qs) (sym (append-nil before)) each
behind before (p ∷ ps) qs each = subst (λ (b : List Packet). EachFollows b qs) (append_assoc before (p ∷ []) ps) (behind (before ++ p ∷ []) ps qs each.1)

split : (packets all more : List Packet) (rest : List ℕ) → EachFollows [] all → all ≡ packets ++ more → rest ≡ file_bytes more → 0 < length rest → IsNext packets all rest
split packets all [] rest each is bytes some = absurd (omega (arith, some, ap length bytes))
split packets all (p ∷ more) rest each is bytes some =
    let left : EachFollows packets (p ∷ more) = behind [] packets (p ∷ more) (subst (λ (ps : List Packet). EachFollows [] ps) is each) in
    record { packet = p; more = more; may = left.0; each = left.1; all_are = is; rest_is = bytes }

pub next_packet : (packets all : List Packet) (rest : List ℕ) → EachFollows [] packets → EachFollows [] all → file_bytes all ≡ file_bytes packets ++ rest → 0 < length rest → IsNext packets all rest
next_packet packets all rest strict whole same some =
    let begins = one_beginning [] packets all rest strict whole (sym same) in
    let bytes : file_bytes packets ++ rest ≡ file_bytes packets ++ file_bytes begins.0 = sym same ∙ ap file_bytes begins.1 ∙ flat_map-append packet_bytes packets begins.0 in
    split packets all begins.0 rest whole begins.1 (append_cancel_left (file_bytes packets) rest (file_bytes begins.0) bytes) some
