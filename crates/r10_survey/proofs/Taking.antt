-- A file's parts with one more, and what is taken of it.
use Rattle.std.proofs.Common.{◌≡◌, ℕ, ◌+◌, ◌-◌, ◌<◌, Bool, true, List, [], ◌∷◌, ◌++◌, length, take, drop, refl, sym, ap, subst, ◌∙◌, arith, append_assoc}
use Rattle.std.proofs.lemmas.List.{append-nil, drop-drop, length-drop, nil_from_length, take-append-drop, take_all}
use Rattle.r10_body.specs.Foreign.{IsForeignPacket}
use Rattle.r10_body.specs.Faults.{HasFault}
use Rattle.r10_body.specs.declared.fault.FileFault.{FileFault}
use Rattle.r10_body.specs.declared.fault.FileFault.TheVariants.{Truncated, Sync, HeaderSum, Length, DataSum, Body, Rule}
use Rattle.r10_packet_rules.proofs.Faults.{fault_stays}
use Rattle.r10_survey.specs.Parts.{Part, packet, stray, IsBroken, AreParts, packets_of}
use Rattle.r10_survey.specs.Looks.{IsSeen, IsSeenFirst}
use Rattle.r10_survey.specs.Counts.{AreCounts}
use Rattle.r10_survey.specs.Damage.{ended, stretches_of, IsDamage, KeepsStretches}
use Rattle.r10_survey.specs.Surveys.{IsTaken, IsReport}
use Rattle.r10_survey.specs.declared.look.SeenPacket.{SeenPacket}
use Rattle.r10_survey.specs.declared.channels.ChannelCounts.{ChannelCounts}
use Rattle.r10_survey.specs.declared.damage.Stretch.{Stretch}
use Rattle.r10_survey.specs.declared.track.Track.{Track}
use Rattle.r10_survey.specs.declared.survey.Report.{Report}

-- ---- parts

more_packet : (parts : List Part) (bytes more p : List ℕ) → AreParts parts bytes (p ++ more) → IsForeignPacket p → AreParts (parts ++ packet p ∷ []) bytes more
more_packet [] bytes more p are foreign = (more, are, foreign, refl)
more_packet (packet q ∷ parts) bytes more p are foreign = (are.0, are.1, are.2, more_packet parts are.0 more p are.3 foreign)
more_packet (stray b ∷ parts) bytes more p are foreign = (are.0, are.1, are.2, more_packet parts are.0 more p are.3 foreign)

more_stray : (parts : List Part) (bytes more : List ℕ) (b : ℕ) → AreParts parts bytes (b ∷ more) → IsBroken (b ∷ more) → AreParts (parts ++ stray b ∷ []) bytes more
more_stray [] bytes more b are broken = (more, are, subst (λ (t : List ℕ). IsBroken t) (sym are) broken, refl)
more_stray (packet q ∷ parts) bytes more b are broken = (are.0, are.1, are.2, more_stray parts are.0 more b are.3 broken)
more_stray (stray a ∷ parts) bytes more b are broken = (are.0, are.1, are.2, more_stray parts are.0 more b are.3 broken)

packets_more : (parts : List Part) (p : List ℕ) → packets_of (parts ++ packet p ∷ []) ≡ packets_of parts ++ p ∷ []
packets_more [] p = refl
packets_more (packet q ∷ parts) p = ap (λ t. q ∷ t) (packets_more parts p)
packets_more (stray b ∷ parts) p = packets_more parts p

packets_same : (parts : List Part) (b : ℕ) → packets_of (parts ++ stray b ∷ []) ≡ packets_of parts
packets_same [] b = refl
packets_same (packet q ∷ parts) b = ap (λ t. q ∷ t) (packets_same parts b)
packets_same (stray a ∷ parts) b = packets_same parts b

-- ---- faults, with bytes after them

still : (bytes later : List ℕ) (f : FileFault) → HasFault bytes f → (f ≡ Truncated → later ≡ []) → HasFault (bytes ++ later) f
still bytes later Truncated h last = subst (λ (t : List ℕ). HasFault (bytes ++ t) Truncated) (sym (last refl)) (subst (λ (t : List ℕ). HasFault t Truncated) (sym (append-nil bytes)) h)
still bytes later Sync h last = fault_stays bytes later Sync h (λ e. absurd (cc))
still bytes later HeaderSum h last = fault_stays bytes later HeaderSum h (λ e. absurd (cc))
still bytes later Length h last = fault_stays bytes later Length h (λ e. absurd (cc))
still bytes later DataSum h last = fault_stays bytes later DataSum h (λ e. absurd (cc))
still bytes later Body h last = fault_stays bytes later Body h (λ e. absurd (cc))
still bytes later (Rule n) h last = absurd h

-- ---- what is taken

pub packet_on : (t new : Track) (bytes rest : List ℕ) (last : Bool) (s : SeenPacket) → new.offset ≡ t.offset + s.length
    → ((packets : List (List ℕ)) (p : List ℕ) → AreCounts t.counts.known packets → IsSeen s p → AreCounts new.counts.known (packets ++ p ∷ []))
    → ((parts : List Part) (p : List ℕ) → IsDamage t.damage t.offset parts → IsDamage new.damage (t.offset + length p) (parts ++ packet p ∷ []))
    → IsTaken t bytes rest last → IsSeenFirst rest s → IsTaken new bytes (drop s.length rest) last
packet_on t new bytes rest last s offset counts damage so_far found =
    let n : ℕ = s.length in
    let p : List ℕ = take n rest in
    let parts : List Part = so_far.parts in
    let size : length p ≡ n = sym found.seen.size in
    let place : t.offset + length p ≡ new.offset = omega (arith, size, offset) in
    record {
      parts = parts ++ packet p ∷ [];
      are = λ later ends.
          let whole : rest ++ later ≡ p ++ (drop n rest ++ later) = ap (λ t. t ++ later) (sym (take-append-drop n rest)) ∙ append_assoc p (drop n rest) later in
          more_packet parts (bytes ++ later) (drop n rest ++ later) p (subst (λ (t : List ℕ). AreParts parts (bytes ++ later) t) whole (so_far.are later ends)) found.foreign;
      offset = omega (arith, so_far.offset, offset, found.inside, length-drop n rest);
      counts = subst (λ (ps : List (List ℕ)). AreCounts new.counts.known ps) (sym (packets_more parts p)) (counts (packets_of parts) p so_far.counts found.seen);
      damage = subst (λ m. IsDamage new.damage m (parts ++ packet p ∷ [])) place (damage parts p so_far.damage);
    }

pub stray_on : (t new : Track) (bytes rest : List ℕ) (last : Bool) (f : FileFault) → new.offset ≡ t.offset + 1 → new.counts ≡ t.counts
    → ((parts : List Part) (b : ℕ) → IsDamage t.damage t.offset parts → IsDamage new.damage (t.offset + 1) (parts ++ stray b ∷ []))
    → IsTaken t bytes rest last → 0 < length rest → HasFault rest f → (f ≡ Truncated → last ≡ true) → IsTaken new bytes (drop 1 rest) last
stray_on t new bytes [] last f offset counts damage so_far some h short = absurd (omega (arith, some))
stray_on t new bytes (b ∷ rest) last f offset counts damage so_far some h short =
    let parts : List Part = so_far.parts in
    record {
      parts = parts ++ stray b ∷ [];
      are = λ later ends. more_stray parts (bytes ++ later) (rest ++ later) b (so_far.are later ends) (f, still (b ∷ rest) later f h (λ e. ends (short e)));
      offset = omega (arith, so_far.offset, offset);
      counts = subst (λ (ps : List (List ℕ)). AreCounts new.counts.known ps) (sym (packets_same parts b)) (subst (λ (k : ChannelCounts). AreCounts k.known (packets_of parts)) (sym counts) so_far.counts);
      damage = subst (λ m. IsDamage new.damage m (parts ++ stray b ∷ [])) (sym offset) (damage parts b so_far.damage);
    }

-- ---- windows

-- the bytes from a place on, as a slice, and how many they are
slice_is : (bytes : List ℕ) (done size : ℕ) → size ≡ length bytes - done → take size (drop done bytes) ≡ drop done bytes
slice_is bytes done size is = take_all size (drop done bytes) (omega (arith, is, length-drop done bytes))

pub slice_length : (bytes : List ℕ) (done : ℕ) → length (take (length bytes - done) (drop done bytes)) ≡ length bytes - done
slice_length bytes done = ap length (slice_is bytes done (length bytes - done) refl) ∙ length-drop done bytes

pub further : (t : Track) (bytes whole slice : List ℕ) (done n : ℕ) (last : Bool) → slice ≡ drop done bytes → IsTaken t whole (drop n slice) last → IsTaken t whole (drop (done + n) bytes) last
further t bytes whole slice done n last is so_far =
    subst (λ (l : List ℕ). IsTaken t whole l last) (ap (drop n) is ∙ drop-drop n done bytes) so_far

-- ---- the end

nothing_left : (bytes : List ℕ) (done : ℕ) → done ≡ length bytes → drop done bytes ≡ []
nothing_left bytes done is = nil_from_length (drop done bytes) (omega (arith, is, length-drop done bytes))

pub report_of : (t : Track) (r : Report) (file bytes : List ℕ) (done : ℕ) → done ≡ length bytes → IsTaken t (file ++ []) (drop done bytes) true
    → r.bytes ≡ t.offset → r.counts ≡ t.counts → ((all : List Stretch) → KeepsStretches t.damage all → KeepsStretches r.damage (all ++ ended t.offset t.damage.lost)) → IsReport file r
report_of t r file bytes done whole so_far size counts keeps =
    let parts : List Part = so_far.parts in
    let none : drop done bytes ≡ [] = nothing_left bytes done whole in
    let same : (file ++ []) ++ [] ≡ file = append-nil (file ++ []) ∙ append-nil file in
    let left : drop done bytes ++ [] ≡ [] = append-nil (drop done bytes) ∙ none in
    let all : stretches_of parts ≡ so_far.damage.all ++ ended t.offset t.damage.lost = ap stretches_of (sym (append-nil parts)) ∙ so_far.damage.goes_on [] in
    record {
      parts = parts;
      are = subst (λ (l : List ℕ). AreParts parts l []) same (subst (λ (l : List ℕ). AreParts parts ((file ++ []) ++ []) l) left (so_far.are [] (λ e. refl)));
      size = omega (arith, size, so_far.offset, ap length none, ap length (append-nil file));
      counts = subst (λ (k : ChannelCounts). AreCounts k.known (packets_of parts)) (sym counts) so_far.counts;
      stretches = subst (λ (l : List Stretch). KeepsStretches r.damage l) (sym all) (keeps so_far.damage.all so_far.damage.keeps);
    }

-- a step on from a place
pub next_on : (t new : Track) (bytes whole : List ℕ) (done n place : ℕ) (last : Bool) → place ≡ done + n → IsTaken t whole (drop done bytes) last
    → ((all : List ℕ) → IsTaken t all (take (length bytes - done) (drop done bytes)) last → IsTaken new all (drop n (take (length bytes - done) (drop done bytes))) last)
    → IsTaken new whole (drop place bytes) last
next_on t new bytes whole done n place last is so_far step =
    let slice : List ℕ = take (length bytes - done) (drop done bytes) in
    let there : IsTaken t whole slice last = subst (λ (l : List ℕ). IsTaken t whole l last) (sym (slice_is bytes done (length bytes - done) refl)) so_far in
    subst (λ m. IsTaken new whole (drop m bytes) last) (sym is) (further new bytes whole slice done n last (slice_is bytes done (length bytes - done) refl) (step whole there))
