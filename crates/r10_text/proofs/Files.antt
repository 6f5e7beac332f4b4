-- The lines of files, one after the other.
use Rattle.std.proofs.Common.{◌≡◌, ℕ, ◌+◌, ◌<◌, List, [], ◌∷◌, ◌++◌, length, take, get_or, append_assoc, ap, sym, ◌∙◌, arith}
use Rattle.std.proofs.lemmas.List.{append-nil, length-take, take_more}
use Rattle.r10_machine.specs.declared.reply.FileInfo.{FileInfo}
use Rattle.r10_text.specs.Replies.{file_line, file_lines}

-- one file more
lines_more : (n k : ℕ) (files : List FileInfo) (f : FileInfo) → k ≡ n + length files → file_lines n (files ++ f ∷ []) ≡ file_lines n files ++ file_line k f
lines_more n k [] f at =
    let same : n ≡ k = omega (arith, at) in
    append-nil (file_line n f) ∙ ap (λ (m : ℕ). file_line m f) same
lines_more n k (x ∷ files) f at =
    let next : k ≡ n + 1 + length files = omega (arith, at) in
    ap (λ t. file_line n x ++ t) (lines_more (n + 1) k files f next) ∙ sym (append_assoc (file_line n x) (file_lines (n + 1) files) (file_line k f))

pub lines_at : (files : List FileInfo) (i : ℕ) (other : FileInfo) → i < length files → file_lines 0 (take (i + 1) files) ≡ file_lines 0 (take i files) ++ file_line i (get_or files i other)
lines_at files i other inside =
    let at : i ≡ 0 + length (take i files) = omega (arith, length-take i files, inside) in
    ap (λ fs. file_lines 0 fs) (take_more files i other inside) ∙ lines_more 0 i (take i files) (get_or files i other) at
