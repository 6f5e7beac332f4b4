-- Parts of a file's bytes, and what is known of them.
use Rattle.std.proofs.Common.{◌≡◌, ℕ, zero, suc, ◌+◌, ◌-◌, ◌*◌, ◌^◌, ◌<◌, ◌≤◌, inl, inr, List, [], ◌++◌, length, take, drop, Bool, true, false, Option, Some, None, IfSome, Result, Ok, Err, IfOk, is_some, refl, sym, ap, ◌∙◌, subst, arith, append_assoc}
use Rattle.std.specs.List.{concat}
use Rattle.std.proofs.Math.Seq.{take-add}
use Rattle.std.proofs.lemmas.Bool.{cases_lt}
use Rattle.std.proofs.lemmas.List.{append-nil, drop-append-le, drop-drop, length-append, length-drop, length-take, nil_from_length, take-append-drop, take-take}
use Rattle.r10_medium.specs.Disk.{Image, IsWhole}
use Rattle.r10_medium.proofs.Bytes.{length-read_front}
use Rattle.r10_blockout.specs.Blocks.{Shows}
use Rattle.r10_blockout.specs.Bytes.{bytes_of}
use Rattle.r10_blockout.proofs.Runs.{shown_as}
use Rattle.r10_body.specs.Faults.{HasFault, IsReportAnswered}
use Rattle.r10_body.specs.declared.fault.FileFault.{FileFault}
use Rattle.r10_body.specs.declared.fault.FileFault.TheVariants.{Truncated}
use Rattle.r10_packet_rules.proofs.Faults.{fault_stays}
use Rattle.r10_file_rules.specs.declared.tracks.Tracks.{Tracks}
use Rattle.r10_judge.specs.Files.{file_at}
use Rattle.r10_judge.specs.Judged.{TellsAnswer}
use Rattle.r10_judge.specs.Walks.{EndsWithFault, EndsAt}
use Rattle.r10_judge.specs.declared.extent.Extent.{Extent}
use Rattle.r10_judge.proofs.Answering.{report_answered_faulty}

-- ---- what is taken

-- a packet further on
pub taken_on : (before bytes rest : List ℕ) (done n : ℕ) → rest ≡ drop done bytes → (before ++ take done bytes) ++ take n rest ≡ before ++ take (done + n) bytes
taken_on before bytes rest done n is =
    append_assoc before (take done bytes) (take n rest)
    ∙ ap (λ (l : List ℕ). before ++ (take done bytes ++ take n l)) is
    ∙ ap (λ (l : List ℕ). before ++ l) (sym (take-add done n bytes))

pub short_on : (before bytes : List ℕ) (n : ℕ) (all known : List ℕ) → all ≡ before ++ take n bytes → n ≤ length bytes → length before ≡ length known → length known + length bytes < 2 ^ 63 → length all < 2 ^ 63
short_on before bytes n all known is le same short = omega (arith, ap length is, length-append before (take n bytes), length-take n bytes, le, same, short)

-- packets of a window
pub taken_more : (file window : List ℕ) (at count n : ℕ) → window ≡ take count (drop at file) → n ≤ count → take at file ++ take n window ≡ take (at + n) file
taken_more file window at count n is le =
    ap (λ (l : List ℕ). take at file ++ take n l) is
    ∙ ap (λ (l : List ℕ). take at file ++ l) (take-take n count (drop at file) le)
    ∙ sym (take-add at n file)

-- where nothing is left
pub all_taken : (bytes before rest : List ℕ) → bytes ≡ before ++ rest → length rest ≡ 0 → before ≡ bytes
all_taken bytes before rest is none = sym (is ∙ ap (λ (l : List ℕ). before ++ l) (nil_from_length rest none) ∙ append-nil before)

-- ---- windows

pub file_size : (image : Image) (e : Extent) → IsWhole image → 512 * e.first + e.size ≤ 512 * length image → length (file_at image e) ≡ e.size
file_size image e whole within = length-read_front e.size e.first image whole within

-- a window is what the file has there
pub window_is : (image : Image) (e : Extent) (at count : ℕ) → IsWhole image → 512 * e.first + e.size ≤ 512 * length image → at + count ≤ e.size
    → bytes_of image e.first at count ≡ take count (drop at (file_at image e))
window_is image e at count whole within inside = shown_as image e.first (file_at image e) at count shows (omega (arith, inside, size))
  where
    size : length (file_at image e) ≡ e.size
    size = file_size image e whole within

    shows : Shows image e.first (file_at image e)
    shows = ap (λ (n : ℕ). take n (concat (drop e.first image))) size

-- what stands after packets of a window, and after the window
window_joined : (file window : List ℕ) (at count n : ℕ) → window ≡ take count (drop at file) → n ≤ length window → drop n window ++ drop count (drop at file) ≡ drop (at + n) file
window_joined file window at count n is le =
    let more : List ℕ = drop count (drop at file) in
    sym (drop-append-le n window more le)
    ∙ ap (λ (l : List ℕ). drop n (l ++ more)) is
    ∙ ap (λ (l : List ℕ). drop n l) (take-append-drop count (drop at file))
    ∙ drop-drop n at file

-- what stands after packets of a window has its fault in the file, but where it may only be cut off
pub fault_on : (file window : List ℕ) (at count n : ℕ) (f : FileFault) → window ≡ take count (drop at file) → n ≤ length window → at + count ≤ length file
    → EndsWithFault (Some f) (drop n window) → (at + count < length file → f ≡ Truncated → ⊥) → EndsAt file (at + n) f
fault_on file window at count n f is le inside ends cut = subst (λ (l : List ℕ). EndsWithFault (Some f) l) joined (longer, has)
  where
    behind : List ℕ
    behind = drop count (drop at file)

    joined : drop n window ++ behind ≡ drop (at + n) file
    joined = window_joined file window at count n is le

    longer : 0 < length (drop n window ++ behind)
    longer = omega (arith, ends.0, length-append (drop n window) behind)

    has : HasFault (drop n window ++ behind) f
    has = elim (cases_lt (at + count) (length file)) [
      | inl less ↦ fault_stays (drop n window) behind f ends.1 (cut less)
      | inr all ↦
          let none : behind ≡ [] = nil_from_length behind (omega (arith, all, inside, length-drop count (drop at file), length-drop at file)) in
          subst (λ (l : List ℕ). HasFault l f) (sym (ap (λ (l : List ℕ). drop n window ++ l) none ∙ append-nil (drop n window))) ends.1
    ]

-- and answers a report there where it does in the window
pub tells_on : (reported : Bool) (tracks : Tracks) (file window : List ℕ) (at count n : ℕ) (f : FileFault) → window ≡ take count (drop at file) → n ≤ length window
    → HasFault (drop n window) f → HasFault (drop (at + n) file) f → TellsAnswer reported tracks (drop n window) → TellsAnswer reported tracks (drop (at + n) file)
tells_on reported tracks file window at count n f is le here there tells =
    λ packets tracked.
    let joined = window_joined file window at count n is le in
    let same = report_answered_faulty packets (drop n window) (drop count (drop at file)) f here (subst (λ (l : List ℕ). HasFault l f) (sym joined) there) in
    let answer = tells packets tracked in (
      λ yes. subst (λ (l : List ℕ). IsReportAnswered packets l) joined (same.0 (answer.0 yes)),
      λ is. answer.1 (same.1 (subst (λ (l : List ℕ). IsReportAnswered packets l) (sym joined) is)),
    )

pub some_on : {T : Type 0} (o : Option T) {P Q : T → Type 0} → ((x : T) → P x → Q x) → IfSome o P → IfSome o Q
some_on None f has = tt
some_on (Some x) f has = f x has

pub ok_on : {T F : Type 0} (r : Result T F) {P Q : T → Type 0} → ((x : T) → P x → Q x) → IfOk r P → IfOk r Q
ok_on (Ok x) f has = f x has
ok_on (Err e) f has = tt

pub none_is : (o : Option FileFault) → is_some o ≡ false → o ≡ None
none_is None none = refl
none_is (Some f) none = cc

pub ends_some : (o : Option FileFault) (rest : List ℕ) → is_some o ≡ true → IfSome o (λ f. EndsWithFault (Some f) rest) → EndsWithFault o rest
ends_some None rest some has = cc
ends_some (Some f) rest some has = has

-- either the next window begins further on, or it is larger
pub falls : (size at n window next : ℕ) → at < size → at + n ≤ size → window ≤ next → (n ≡ 0 → (window < size - at) × (window < next))
    → (size - (at + n)) + (size - next) < (size - at) + (size - window)
falls size at zero window next left inside le grows = let more = grows refl in omega (arith, left, more.0, more.1)
falls size at (suc n) window next left inside le grows = omega (arith, left, inside, le)
