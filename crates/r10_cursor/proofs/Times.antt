-- Lists that agree on every channel have the same times, where times stand on one channel.
use Rattle.std.proofs.Common.{◌≡◌, ℕ, zero, suc, Bool, true, false, List, [], ◌∷◌, take, refl, sym, ap, ◌∙◌}
use Rattle.std.specs.List.{AllByRecursion}
use Rattle.std.proofs.lemmas.Bool.{eq-eqb, false≢true}
use Rattle.std.proofs.lemmas.List.Elements.{All-from_recursion, recursion_from_All}
use Rattle.std.proofs.lemmas.List.Sorted.{All-permutation}
use Rattle.r10_body.specs.Files.{on_channel}
use Rattle.r10_body.specs.Rules.{is_entry_on}
use Rattle.r10_body.specs.declared.entry.Entry.{Entry}
use Rattle.r10_body.specs.declared.message.Message.{Message}
use Rattle.r10_body.specs.declared.message.Message.TheVariants as messages
use Rattle.r10_machine.specs.Cuts.{Agree}
use Rattle.r10_machine.proofs.Replays.{agree-permutation}
use Rattle.r10_machine.specs.Config.{Config}
use Rattle.r10_machine.specs.Machine.{Tick}
use Rattle.r10_machine.specs.Finding.{ticks_of}
use Rattle.r10_machine.specs.Sound.{IsEntry}

-- a time stands on this channel
abbrev pub IsTimeOn : ℕ → Entry → Type 0
IsTimeOn t e = elim e.message [ messages.Time civil ↦ e.channel ≡ t | _ ↦ Unit {0} ]

time_on : (s : Config) (e : Entry) → IsEntry s e → IsTimeOn s.time e
time_on s e is = by e.message refl
  where
    by : (m : Message) → e.message ≡ m → IsTimeOn s.time e
    by (messages.Uart m) at = rw at tt
    by (messages.Bus1553 m) at = rw at tt
    by (messages.Arinc m) at = rw at tt
    by (messages.Discrete m) at = rw at tt
    by (messages.Message m) at = rw at tt
    by (messages.Time civil) at = (let here = rw at at is in rw at here.2.0)
    by (messages.Event a b) at = rw at tt

ticks_on : (t : ℕ) (es : List Entry) → AllByRecursion (IsTimeOn t) es → ticks_of es ≡ ticks_of (on_channel t es)
ticks_on t [] all = refl
ticks_on t (e ∷ es) all = by e.message refl (is_entry_on t e) refl (ticks_on t es all.1)
  where
    by : (m : Message) → e.message ≡ m → (b : Bool) → is_entry_on t e ≡ b → ticks_of es ≡ ticks_of (on_channel t es) → ticks_of (e ∷ es) ≡ ticks_of (on_channel t (e ∷ es))
    by (messages.Uart m) at true on rest = rw (on, at) rest
    by (messages.Uart m) at false on rest = rw (on, at) rest
    by (messages.Bus1553 m) at true on rest = rw (on, at) rest
    by (messages.Bus1553 m) at false on rest = rw (on, at) rest
    by (messages.Arinc m) at true on rest = rw (on, at) rest
    by (messages.Arinc m) at false on rest = rw (on, at) rest
    by (messages.Discrete m) at true on rest = rw (on, at) rest
    by (messages.Discrete m) at false on rest = rw (on, at) rest
    by (messages.Message m) at true on rest = rw (on, at) rest
    by (messages.Message m) at false on rest = rw (on, at) rest
    by (messages.Time civil) at true on rest = rw (on, at) (ap (λ (ts : List Tick). record { count = e.count; civil = civil } ∷ ts) rest)
    by (messages.Time civil) at false on rest = (let here : e.channel ≡ t = rw at at all.0 in absurd (false≢true (sym on ∙ eq-eqb e.channel t here)))
    by (messages.Event a b) at true on rest = rw (on, at) rest
    by (messages.Event a b) at false on rest = rw (on, at) rest

first_of_all : (P : Entry → Type 0) (n : ℕ) (es : List Entry) → AllByRecursion P es → AllByRecursion P (take n es)
first_of_all P zero es all = tt
first_of_all P (suc n) [] all = tt
first_of_all P (suc n) (e ∷ es) all = (all.0, first_of_all P n es all.1)

all_times : (s : Config) (es : List Entry) → AllByRecursion (IsEntry s) es → AllByRecursion (IsTimeOn s.time) es
all_times s [] all = tt
all_times s (e ∷ es) all = (time_on s e all.0, all_times s es all.1)

-- so a file's packets tell its times in order
pub same_ticks : (s : Config) (xs : List Entry) (n : ℕ) (entries : List Entry) → Agree xs (take n entries) → AllByRecursion (IsEntry s) entries → ticks_of xs ≡ ticks_of (take n entries)
same_ticks s xs n entries agree all =
    let ys = take n entries in
    let on = first_of_all (IsTimeOn s.time) n entries (all_times s entries all) in
    let back : Agree ys xs = record { on = λ c. sym (agree.on c) } in
    let there = recursion_from_All (IsTimeOn s.time) xs (All-permutation (IsTimeOn s.time) ys xs (agree-permutation ys xs back) (All-from_recursion (IsTimeOn s.time) ys on)) in
    ticks_on s.time xs there ∙ ap ticks_of (agree.on s.time) ∙ sym (ticks_on s.time ys on)
