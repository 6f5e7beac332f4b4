-- What a step does to the account of a channel.
use Rattle.std.proofs.Common.{◌≡◌, ◌≤◌, ℕ, ◌+◌, ◌-◌, ◌^◌, ◌==◌, Bool, false, cond, List, [], ◌++◌, map, length, sym, ap, ◌∙◌, subst}
use Rattle.std.proofs.lemmas.List.{append_assoc, append-nil}
use Rattle.r10_body.specs.declared.entry.Entry.{Entry}
use Rattle.r10_machine.specs.Machine.{Lane, File, saturated}
use Rattle.r10_machine.specs.ControlCalls.{own_entries}
use Rattle.r10_machine.specs.declared.event.Event.TheVariants.{Offer, Lose}
use Rattle.r10_machine.specs.declared.reply.Reply.TheVariants.{Done, Refused}
use Rattle.r10_body.specs.declared.refusal.Refusal.TheVariants.{Overflow}
use Rattle.r10_account.specs.Accepted.{Exchange, was_accepted, lost_by, entry_with}
use Rattle.r10_account.specs.Account.{waiting_of, missed_of, erased_of}
use Rattle.r10_account.proofs.Files.{AllBehind}
use Rattle.r10_account.proofs.Numbers.{same_number}

-- an offer on the channel that was refused because too many waited, or a loss that was reported of it
abbrev pub is_loss : ℕ → Exchange → Bool
is_loss channel (Offer id count message, Refused Overflow) = id == channel
is_loss channel (Lose id lost, Done) = id == channel
is_loss channel exchange = false

-- how many were missed after an exchange
abbrev pub missed_behind : ℕ → ℕ → Exchange → ℕ
missed_behind channel missed x = cond (was_accepted channel x) 0 (cond (is_loss channel x) (saturated (missed + lost_by channel x)) missed)

-- from lanes and files to others: erases take the first of the channel's entries, and what the exchange accepts comes after all
pub record StepAccounts (channel : ℕ) (lanes : List Lane) (files : List File) (x : Exchange) (later : List Lane) (news : List File) : Type 0 where
  pub gone : List Entry
  pub each : gone ++ own_entries channel news ++ waiting_of channel later ≡ own_entries channel files ++ waiting_of channel lanes ++ entry_with channel (missed_of channel lanes) x
  pub missed : missed_of channel later ≡ missed_behind channel (missed_of channel lanes) x
  pub erased : erased_of channel lanes ≤ 2 ^ 64 - 1 → erased_of channel later ≡ saturated (erased_of channel lanes + length gone)
  pub specs : map (λ lane. lane.spec) later ≡ map (λ lane. lane.spec) lanes
  pub behind : AllBehind files → AllBehind news

-- the files stay, and what is accepted waits
pub record WaitsMore (channel : ℕ) (lanes : List Lane) (files : List File) (x : Exchange) (later : List Lane) (news : List File) : Type 0 where
  pub files_stay : news ≡ files
  pub waits : waiting_of channel later ≡ waiting_of channel lanes ++ entry_with channel (missed_of channel lanes) x
  pub missed : missed_of channel later ≡ missed_behind channel (missed_of channel lanes) x
  pub erased : erased_of channel later ≡ erased_of channel lanes
  pub specs : map (λ lane. lane.spec) later ≡ map (λ lane. lane.spec) lanes

-- an exchange that neither accepts nor loses a message of the channel
pub record IsApart (channel : ℕ) (x : Exchange) : Type 0 where
  pub makes_none : (lost : ℕ) → entry_with channel lost x ≡ []
  pub accepts_none : was_accepted channel x ≡ false
  pub loses_none : is_loss channel x ≡ false

pub missed_on : (channel missed : ℕ) (x : Exchange) → IsApart channel x → missed ≡ missed_behind channel missed x
missed_on channel missed x apart =
    sym (ap (λ (b : Bool). cond b 0 (cond (is_loss channel x) (saturated (missed + lost_by channel x)) missed)) apart.accepts_none
    ∙ ap (λ (b : Bool). cond b (saturated (missed + lost_by channel x)) missed) apart.loses_none)

-- more waits, and all else stays
pub waits_accounts : (channel : ℕ) (lanes : List Lane) (files : List File) (x : Exchange) (later : List Lane) (news : List File) → WaitsMore channel lanes files x later news → StepAccounts channel lanes files x later news
waits_accounts channel lanes files x later news more = record {
  gone = [];
  each = ap (λ (fs : List File). own_entries channel fs ++ waiting_of channel later) more.files_stay
      ∙ ap (λ (l : List Entry). own_entries channel files ++ l) more.waits
      ∙ sym (append_assoc (own_entries channel files) (waiting_of channel lanes) (entry_with channel (missed_of channel lanes) x));
  missed = more.missed;
  erased = λ small. same_number (erased_of channel lanes) (erased_of channel later) (2 ^ 64 - 1) small more.erased;
  specs = more.specs;
  behind = subst AllBehind (sym more.files_stay);
}

-- nothing changes
pub same_waits : (channel : ℕ) (lanes : List Lane) (files : List File) (x : Exchange) (later : List Lane) (news : List File) → IsApart channel x → later ≡ lanes → news ≡ files → WaitsMore channel lanes files x later news
same_waits channel lanes files x later news apart lanes_stay stay = record {
  files_stay = stay;
  waits = ap (waiting_of channel) lanes_stay ∙ sym (ap (λ (l : List Entry). waiting_of channel lanes ++ l) (apart.makes_none (missed_of channel lanes)) ∙ append-nil (waiting_of channel lanes));
  missed = ap (missed_of channel) lanes_stay ∙ missed_on channel (missed_of channel lanes) x apart;
  erased = ap (erased_of channel) lanes_stay;
  specs = ap (λ (ls : List Lane). map (λ lane. lane.spec) ls) lanes_stay;
}

-- what goes from the lane into the files
pub shifts : (channel : ℕ) (lanes : List Lane) (files : List File) (x : Exchange) (later : List Lane) (news : List File) (moved : List Entry) → IsApart channel x
    → own_entries channel news ≡ own_entries channel files ++ moved → moved ++ waiting_of channel later ≡ waiting_of channel lanes → missed_of channel later ≡ missed_of channel lanes → erased_of channel later ≡ erased_of channel lanes
    → map (λ lane. lane.spec) later ≡ map (λ lane. lane.spec) lanes → (AllBehind files → AllBehind news) → StepAccounts channel lanes files x later news
shifts channel lanes files x later news moved apart own waits missed erased specs behind = record {
  gone = [];
  each = ap (λ (l : List Entry). l ++ waiting_of channel later) own
      ∙ append_assoc (own_entries channel files) moved (waiting_of channel later)
      ∙ ap (λ (l : List Entry). own_entries channel files ++ l) waits
      ∙ sym (ap (λ (l : List Entry). own_entries channel files ++ waiting_of channel lanes ++ l) (apart.makes_none (missed_of channel lanes)) ∙ append-nil (own_entries channel files ++ waiting_of channel lanes));
  missed = missed ∙ missed_on channel (missed_of channel lanes) x apart;
  erased = λ small. same_number (erased_of channel lanes) (erased_of channel later) (2 ^ 64 - 1) small erased;
  specs = specs;
  behind = behind;
}

-- the files change, and the channel has nothing of it
pub files_change : (channel : ℕ) (lanes : List Lane) (files : List File) (x : Exchange) (later : List Lane) (news : List File) → IsApart channel x → own_entries channel news ≡ own_entries channel files → later ≡ lanes
    → (AllBehind files → AllBehind news) → StepAccounts channel lanes files x later news
files_change channel lanes files x later news apart own same behind =
    shifts channel lanes files x later news [] apart (own ∙ sym (append-nil (own_entries channel files))) (ap (waiting_of channel) same) (ap (missed_of channel) same) (ap (erased_of channel) same)
    (ap (λ (ls : List Lane). map (λ lane. lane.spec) ls) same) behind
