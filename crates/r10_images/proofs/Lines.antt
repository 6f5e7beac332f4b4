-- The lines of files, one after the other.
use Rattle.std.proofs.Common.{◌≡◌, ℕ, ◌+◌, ◌<◌, List, [], ◌∷◌, ◌++◌, length, take, get_or, append_assoc, ap, sym, ◌∙◌, arith}
use Rattle.std.proofs.lemmas.List.{append-nil, length-take, take_more}
use Rattle.r10_dirblock.specs.declared.entry.Entry.{Entry}
use Rattle.r10_images.specs.Listing.{listed_file_line, listed_file_lines}

-- one file more
pub lines_more : (n k : ℕ) (es : List Entry) (e : Entry) → k ≡ n + length es → listed_file_lines n (es ++ e ∷ []) ≡ listed_file_lines n es ++ listed_file_line k e
lines_more n k [] e at =
    let same : n ≡ k = omega (arith, at) in
    append-nil (listed_file_line n e) ∙ ap (λ (m : ℕ). listed_file_line m e) same
lines_more n k (x ∷ es) e at =
    let next : k ≡ n + 1 + length es = omega (arith, at) in
    ap (λ t. listed_file_line n x ++ t) (lines_more (n + 1) k es e next) ∙ sym (append_assoc (listed_file_line n x) (listed_file_lines (n + 1) es) (listed_file_line k e))

-- what stands in place of a file that isn't there
abbrev pub no_file : Entry
no_file = record { name = []; first_block = 0; block_count = 0; size = 0; create_date = []; create_time = []; time_type = 0; reserved = []; close_time = [] }

pub lines_at : (files : List Entry) (i : ℕ) → i < length files → listed_file_lines 0 (take (i + 1) files) ≡ listed_file_lines 0 (take i files) ++ listed_file_line i (get_or files i no_file)
lines_at files i inside =
    let at : i ≡ 0 + length (take i files) = omega (arith, length-take i files, inside) in
    ap (λ es. listed_file_lines 0 es) (take_more files i no_file inside) ∙ lines_more 0 i (take i files) (get_or files i no_file) at
