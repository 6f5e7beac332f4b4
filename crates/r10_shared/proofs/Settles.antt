-- What is settled once the recorder is out of the lock and what was left is moved.
use Rattle.std.proofs.Common.{◌≡◌, ◌⊎◌, ℕ, ◌+◌, ◌-◌, ◌^◌, ◌<◌, ◌≤◌, ◌==◌, List, [], ◌++◌, length, take, drop, refl, sym, ap, subst, ◌∙◌, ⊎_elim, arith, take_all, length-append, Option, Some}
use Rattle.std.specs.Prelude.{IsSomeAnd, slice_index_or, vec_capacity}
use Rattle.std.proofs.Math.Seq.{drop-append_seam}
use Rattle.std.proofs.lemmas.Bool.{eqb-true}
use Rattle.r10_body.specs.Files.{on_channel}
use Rattle.r10_body.specs.declared.entry.Entry.{Entry}
use Rattle.r10_body.specs.declared.entry.Sample.{Sample}
use Rattle.r10_held.specs.Account.{ChannelAccounts, ChannelBounds, IsAccounted}
use Rattle.r10_held.specs.LockFact.{LanesAccounted, outlet_received, outlet_spec}
use Rattle.r10_held.specs.Naming.{AreNamed, ChannelRing, ring_for}
use Rattle.r10_held.specs.Recorder.{AreOwn, Kept, RecorderState, entries_on, failed}
use Rattle.r10_medium.specs.Disk.{Disk, Image}
use Rattle.r10_port.specs.Ends.{Receiving, Ring, sent, unreceived}
use Rattle.r10_shared.specs.Naming.{SendingLine}
use Rattle.r10_machine.specs.Machine.{saturated}
use Rattle.r10_held.proofs.Accounts.{all_within}
use Rattle.r10_shared.specs.Failing.{AreMovedToReports, FailedSettles, IsFailedReport}
use Rattle.r10_shared.specs.Settling.{AreReady, Drains, HasDrained, IsReportReady, IsSettledReport, MayDrain, Settles, TellsKept, receiving_of}
use Rattle.r10_shared.specs.declared.report.FeedReport.{FeedReport}
use Rattle.r10_shared.specs.declared.source.Tally.{Tally}
use Rattle.r10_shared.proofs.Accounts.{account_on, bound_on, counted, some_number}
use Rattle.r10_shared.proofs.Looking.{found_has}

some_ring : (m n : Ring) → Some m ≡ Some n → m ≡ n
some_ring m n e = cc

-- what goes into room for all of it
whole : (before left : List Sample) (room : ℕ) → before ≡ [] → room ≡ length left → before ++ take (room - length before) left ≡ left
whole before left room none enough =
    rw none (take_all (room - 0) left (omega (arith, enough)))

-- and into more room
all_in : (before left : List Sample) (room : ℕ) → before ≡ [] → length left ≤ room → before ++ take (room - length before) left ≡ left
all_in before left room none enough =
    rw none (take_all (room - 0) left (omega (arith, enough)))

-- a number that represents no larger one
exact_number : (n accepted : ℕ) → accepted ≡ saturated n → accepted < 2 ^ 64 - 1 → accepted ≡ n
exact_number n accepted is few = omega (arith, is, few)

-- what stands after those that are gone and those that are kept
behind : (gone kept left all : List Sample) (taken : ℕ) → all ≡ (gone ++ kept) ++ left → taken ≡ length gone + length kept → drop taken all ≡ left
behind gone kept left all taken are number =
    rw (are, number ∙ sym (length-append gone kept)) (drop-append_seam (gone ++ kept) left)

module _ (rings : List ChannelRing) (k : Kept) (lanes : List Receiving) (own : List Entry) (accounts : ChannelAccounts outlet_spec outlet_received own k.config.channels k.taken k.erased lanes) where
  module _ (line : SendingLine) (tally : Tally) (report : FeedReport) (ready : IsReportReady rings k line tally report) where
    -- and after the move all is settled, by the numbers that were kept
    settled : (later : FeedReport) → IsSomeAnd (receiving_of line.channel lanes) (λ lane. Drains lane line.port report later) → IsSettledReport own line tally later × TellsKept k line later
    settled later drained =
        let a = account_on outlet_spec outlet_received own line.channel k.config.channels k.taken k.erased lanes ready.taken accounts ready.taken_is in
        let d : Drains a.lane line.port report later = subst (λ (o : Option Receiving). IsSomeAnd o (λ lane. Drains lane line.port report later)) a.found drained in
        let left = unreceived a.lane line.port in
        let t : a.t ≡ ready.taken = some_number a.t ready.taken (sym a.taken_at ∙ ready.taken_is) in
        let e : a.e ≡ report.erased = some_number a.e report.erased (sym a.erased_at ∙ ready.erased_is) in
        let all : sent line.port ≡ (a.account.gone ++ a.account.filed) ++ left = d.all ∙ ap (λ (l : List Sample). l ++ left) a.account.received_is in
        let count = counted a.account.gone a.account.filed left (sent line.port) report.accepted a.t a.e ready.accepted_is ready.few all a.account.erased_is a.account.taken_is in
        let room : vec_capacity report.rest ≡ length left = ready.room ∙ ap (λ (n : ℕ). report.accepted - n) (sym t) ∙ count.room in
        let rest : later.rest.items ≡ left = d.moved ∙ whole report.rest.items left (vec_capacity report.rest) ready.empty room in
        let accepted : later.accepted ≡ report.accepted = ap (λ (r : FeedReport). r.accepted) d.same in
        let erased : later.erased ≡ report.erased = ap (λ (r : FeedReport). r.erased) d.same in
        let filed : later.filed ≡ report.filed = ap (λ (r : FeedReport). r.filed) d.same in (
          record {
            channel_is = ap (λ (r : FeedReport). r.channel) d.same ∙ ready.channel_is;
            gone = a.account.gone;
            kept = a.account.filed;
            sent_is = all ∙ ap (λ (l : List Sample). (a.account.gone ++ a.account.filed) ++ l) (sym rest);
            entries_are = subst (λ (c : ℕ). on_channel c own ≡ entries_on c a.account.filed) a.id_is a.account.entries_are;
            accepted_is = accepted ∙ ready.accepted_is;
            erased_is = erased ∙ sym e ∙ a.account.erased_is;
            filed_is = filed ∙ ready.filed_is ∙ ap (λ (n : ℕ). n - report.erased) (sym t) ∙ ap (λ (n : ℕ). a.t - n) (sym e) ∙ count.filed_is;
            refused_is = ap (λ (r : FeedReport). r.refused) d.same ∙ ready.refused_is;
            lost_is = ap (λ (r : FeedReport). r.lost) d.same ∙ ready.lost_is;
          },
          record {
            few = omega (arith, accepted, ready.few);
            erased_is = ready.erased_is ∙ ap (λ (n : ℕ). Some n) (sym erased);
            taken = ready.taken;
            taken_is = ready.taken_is;
            filed_is = filed ∙ ready.filed_is ∙ ap (λ (n : ℕ). ready.taken - n) (sym erased);
            rest_is = rest ∙ sym (behind a.account.gone a.account.filed left (sent line.port) ready.taken all (sym t ∙ count.taken_is));
          },
        )

  module _ {F : Type 0} (line_of : F → SendingLine) (tally_of : F → Tally) (feeds : List F) (reports : List FeedReport) (ready : AreReady line_of tally_of rings k feeds reports) where
    pub settles : (image : Image) (later : List FeedReport) → AreOwn k image own → HasDrained line_of lanes feeds reports later → Settles line_of tally_of k image feeds later
    settles image later is_own drained = record {
      own = own;
      is_own = is_own;
      number = drained.number ∙ ready.number;
      each = λ place f r inside. (both place f r inside).0;
      numbers = λ place f r inside. (both place f r inside).1;
    }
      where
        both : (place : ℕ) (f : F) (r : FeedReport) → place < length feeds
            → IsSettledReport own (line_of (slice_index_or feeds place f)) (tally_of (slice_index_or feeds place f)) (slice_index_or later place r) × TellsKept k (line_of (slice_index_or feeds place f)) (slice_index_or later place r)
        both place f r inside = settled (line_of (slice_index_or feeds place f)) (tally_of (slice_index_or feeds place f)) (slice_index_or reports place r) (ready.each place f r inside) (slice_index_or later place r) (drained.each place f r r inside)

-- ---- whether the recorder failed or not

module _ (rings : List ChannelRing) (k : Kept) (lanes : List Receiving) (bounds : ChannelBounds outlet_spec outlet_received k.config.channels k.taken k.erased lanes) (named : AreNamed rings lanes) where
  module _ (line : SendingLine) (tally : Tally) (report : FeedReport) (ready : IsReportReady rings k line tally report) where
    -- a feed's lane is that of its line's ring
    ring_is : IsSomeAnd (receiving_of line.channel lanes) (λ lane. lane.ring ≡ line.port.ring)
    ring_is =
        let b = bound_on outlet_spec outlet_received line.channel k.config.channels k.taken k.erased lanes ready.taken bounds ready.taken_is in
        let has = found_has (λ (lane : Receiving). ring_for lane.spec.id rings ≡ Some lane.ring) (λ (lane : Receiving). lane.spec.id == line.channel) lanes b.lane named b.found in
        let id : b.lane.spec.id ≡ line.channel = eqb-true b.lane.spec.id line.channel has.1 in
        subst (λ (o : Option Receiving). IsSomeAnd o (λ lane. lane.ring ≡ line.port.ring)) (sym b.found) (some_ring b.lane.ring line.port.ring (sym has.0 ∙ ap (λ (c : ℕ). ring_for c rings) id ∙ ready.named))

    -- and after the move what was sent is what was received and the rest
    failed_settled : (later : FeedReport) → IsSomeAnd (receiving_of line.channel lanes) (λ lane. Drains lane line.port report later) → IsFailedReport k lanes line tally later
    failed_settled later drained =
        let b = bound_on outlet_spec outlet_received line.channel k.config.channels k.taken k.erased lanes ready.taken bounds ready.taken_is in
        let d : Drains b.lane line.port report later = subst (λ (o : Option Receiving). IsSomeAnd o (λ lane. Drains lane line.port report later)) b.found drained in
        let left = unreceived b.lane line.port in
        let t : b.t ≡ ready.taken = some_number b.t ready.taken (sym b.taken_at ∙ ready.taken_is) in
        let e : b.e ≡ report.erased = some_number b.e report.erased (sym b.erased_at ∙ ready.erased_is) in
        let total : length (sent line.port) ≡ length b.lane.received + length left = ap (λ (l : List Sample). length l) d.all ∙ length-append b.lane.received left in
        let exact : report.accepted ≡ length (sent line.port) = exact_number (length (sent line.port)) report.accepted ready.accepted_is ready.few in
        let room : length left ≤ vec_capacity report.rest = rw ready.room (omega (arith, total, exact, t, b.taken_within)) in
        let rest : later.rest.items ≡ left = d.moved ∙ all_in report.rest.items left (vec_capacity report.rest) ready.empty room in
        let accepted : later.accepted ≡ report.accepted = ap (λ (r : FeedReport). r.accepted) d.same in
        let erased : later.erased ≡ report.erased = ap (λ (r : FeedReport). r.erased) d.same in
        let filed : later.filed ≡ report.filed = ap (λ (r : FeedReport). r.filed) d.same in record {
          channel_is = ap (λ (r : FeedReport). r.channel) d.same ∙ ready.channel_is;
          front = b.lane.received;
          received_is = subst (λ (o : Option Receiving). IsSomeAnd o (λ lane. lane.received ≡ b.lane.received)) (sym b.found) refl;
          sent_is = d.all ∙ ap (λ (l : List Sample). b.lane.received ++ l) (sym rest);
          accepted_is = accepted ∙ exact;
          few = omega (arith, accepted, ready.few);
          refused_is = ap (λ (r : FeedReport). r.refused) d.same ∙ ready.refused_is;
          lost_is = ap (λ (r : FeedReport). r.lost) d.same ∙ ready.lost_is;
          erased_is = ready.erased_is ∙ ap (λ (n : ℕ). Some n) (sym erased);
          taken = ready.taken;
          taken_is = ready.taken_is;
          filed_is = filed ∙ ready.filed_is ∙ ap (λ (n : ℕ). ready.taken - n) (sym erased);
          within = (omega (arith, b.erased_within, t, e, erased), omega (arith, b.taken_within, t));
        }

  module _ {F : Type 0} (line_of : F → SendingLine) (tally_of : F → Tally) (feeds : List F) (reports : List FeedReport) (ready : AreReady line_of tally_of rings k feeds reports) where
    may_drain : MayDrain line_of lanes feeds reports
    may_drain = record {
      number = ready.number;
      channels = λ place f r inside. (ready.each place f r inside).channel_is;
      apart = ready.apart;
      rings = λ place f r inside. ring_is (line_of (slice_index_or feeds place f)) (tally_of (slice_index_or feeds place f)) (slice_index_or reports place r) (ready.each place f r inside);
    }

    failed_settles : (later : List FeedReport) → HasDrained line_of lanes feeds reports later → FailedSettles line_of tally_of k lanes feeds later
    failed_settles later drained = record {
      number = drained.number ∙ ready.number;
      each = λ place f r inside. failed_settled (line_of (slice_index_or feeds place f)) (tally_of (slice_index_or feeds place f)) (slice_index_or reports place r) (ready.each place f r inside) (slice_index_or later place r) (drained.each place f r r inside);
    }

-- ---- out of the lock

module _ {M F : Type 0} (disk : M → Disk) (rings : List ChannelRing) (r : RecorderState M Receiving) (line_of : F → SendingLine) (tally_of : F → Tally) (feeds : List F) (known : LanesAccounted disk rings r) where
  bounds : ChannelBounds outlet_spec outlet_received r.kept.config.channels r.kept.taken r.kept.erased r.lanes
  bounds = ⊎_elim (λ bounded. bounded.each) (λ accounted. all_within outlet_spec outlet_received accounted.own r.kept.config.channels r.kept.taken r.kept.erased r.lanes accounted.each) known.accounted

  pub may_drain_out : (reports : List FeedReport) → AreReady line_of tally_of rings r.kept feeds reports → MayDrain line_of r.lanes feeds reports
  may_drain_out reports ready = may_drain rings r.kept r.lanes bounds known.named line_of tally_of feeds reports ready

  pub failed_out : (later : List FeedReport) → AreMovedToReports line_of tally_of rings r feeds later → FailedSettles line_of tally_of r.kept r.lanes feeds later
  failed_out later moved = failed_settles rings r.kept r.lanes bounds known.named line_of tally_of feeds moved.ready moved.are_ready later moved.moved

  pub settles_out : (r.kept.work ≡ failed → ⊥) → (later : List FeedReport) → AreMovedToReports line_of tally_of rings r feeds later → Settles line_of tally_of r.kept (disk r.medium).blocks feeds later
  settles_out works later moved =
      let accounted : IsAccounted disk outlet_spec outlet_received r = ⊎_elim (λ bounded. absurd (works bounded.fails)) (λ a. a) known.accounted in
      settles rings r.kept r.lanes accounted.own accounted.each line_of tally_of feeds moved.ready moved.are_ready (disk r.medium).blocks later accounted.is_own moved.moved
