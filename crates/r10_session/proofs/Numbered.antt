-- The lines of replies, feeds and readers, one after the other.
use Rattle.std.proofs.Common.{◌≡◌, ℕ, Bool, ◌+◌, ◌<◌, List, [], ◌∷◌, ◌++◌, length, take, get_or, append_assoc, ap, sym, ◌∙◌, arith}
use Rattle.std.proofs.lemmas.List.{append-nil, length-take, take_more}
use Rattle.r10_text.specs.Replies.{reply_lines}
use Rattle.r10_machine.specs.declared.reply.Reply.{Reply}
use Rattle.r10_session.specs.Text.{feed_lines, feed_part, is_asked, reader_line, reader_lines, step_lines}
use Rattle.r10_session.specs.declared.ended.FeedEnd.{FeedEnd}
use Rattle.r10_session.specs.declared.ended.ReaderEnd.{ReaderEnd}

-- one reply more
replies_more : (n k : ℕ) (replies : List Reply) (r : Reply) → k ≡ n + length replies → step_lines n (replies ++ r ∷ []) ≡ step_lines n replies ++ reply_lines (k + 1) r
replies_more n k [] r at =
    let same : n ≡ k = omega (arith, at) in
    append-nil (reply_lines (n + 1) r) ∙ ap (λ (m : ℕ). reply_lines (m + 1) r) same
replies_more n k (x ∷ replies) r at =
    let next : k ≡ n + 1 + length replies = omega (arith, at) in
    ap (λ t. reply_lines (n + 1) x ++ t) (replies_more (n + 1) k replies r next) ∙ sym (append_assoc (reply_lines (n + 1) x) (step_lines (n + 1) replies) (reply_lines (k + 1) r))

pub reply_at : (replies : List Reply) (i : ℕ) (other : Reply) → i < length replies → step_lines 0 (take (i + 1) replies) ≡ step_lines 0 (take i replies) ++ reply_lines (i + 1) (get_or replies i other)
reply_at replies i other inside =
    let at : i ≡ 0 + length (take i replies) = omega (arith, length-take i replies, inside) in
    ap (λ rs. step_lines 0 rs) (take_more replies i other inside) ∙ replies_more 0 i (take i replies) (get_or replies i other) at

-- one feed more
feeds_more : (asked : List Bool) (n k : ℕ) (feeds : List FeedEnd) (end : FeedEnd) → k ≡ n + length feeds → feed_lines asked n (feeds ++ end ∷ []) ≡ feed_lines asked n feeds ++ feed_part (is_asked asked k) end
feeds_more asked n k [] end at =
    let same : n ≡ k = omega (arith, at) in
    append-nil (feed_part (is_asked asked n) end) ∙ ap (λ (m : ℕ). feed_part (is_asked asked m) end) same
feeds_more asked n k (x ∷ feeds) end at =
    let next : k ≡ n + 1 + length feeds = omega (arith, at) in
    ap (λ t. feed_part (is_asked asked n) x ++ t) (feeds_more asked (n + 1) k feeds end next)
    ∙ sym (append_assoc (feed_part (is_asked asked n) x) (feed_lines asked (n + 1) feeds) (feed_part (is_asked asked k) end))

pub feed_at : (asked : List Bool) (feeds : List FeedEnd) (i : ℕ) (other : FeedEnd) → i < length feeds
    → feed_lines asked 0 (take (i + 1) feeds) ≡ feed_lines asked 0 (take i feeds) ++ feed_part (is_asked asked i) (get_or feeds i other)
feed_at asked feeds i other inside =
    let at : i ≡ 0 + length (take i feeds) = omega (arith, length-take i feeds, inside) in
    ap (λ es. feed_lines asked 0 es) (take_more feeds i other inside) ∙ feeds_more asked 0 i (take i feeds) (get_or feeds i other) at

-- whether it is asked for, and the feed, by other names
pub same_part : (b : Bool) (asked : List Bool) (n : ℕ) (end other : FeedEnd) → b ≡ is_asked asked n → end ≡ other → feed_part b end ≡ feed_part (is_asked asked n) other
same_part b asked n end other is same = ap (λ (x : Bool). feed_part x end) is ∙ ap (λ (e : FeedEnd). feed_part (is_asked asked n) e) same

-- one reader more
readers_more : (n k : ℕ) (readers : List ReaderEnd) (end : ReaderEnd) → k ≡ n + length readers → reader_lines n (readers ++ end ∷ []) ≡ reader_lines n readers ++ reader_line k end
readers_more n k [] end at =
    let same : n ≡ k = omega (arith, at) in
    append-nil (reader_line n end) ∙ ap (λ (m : ℕ). reader_line m end) same
readers_more n k (x ∷ readers) end at =
    let next : k ≡ n + 1 + length readers = omega (arith, at) in
    ap (λ t. reader_line n x ++ t) (readers_more (n + 1) k readers end next) ∙ sym (append_assoc (reader_line n x) (reader_lines (n + 1) readers) (reader_line k end))

pub reader_at : (readers : List ReaderEnd) (i : ℕ) (other : ReaderEnd) → i < length readers → reader_lines 0 (take (i + 1) readers) ≡ reader_lines 0 (take i readers) ++ reader_line i (get_or readers i other)
reader_at readers i other inside =
    let at : i ≡ 0 + length (take i readers) = omega (arith, length-take i readers, inside) in
    ap (λ rs. reader_lines 0 rs) (take_more readers i other inside) ∙ readers_more 0 i (take i readers) (get_or readers i other) at
